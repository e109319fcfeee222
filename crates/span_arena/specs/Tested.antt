-- What the tests keep of an arena from call to call.
use Rattle.std.specs.Prelude.{ℕ}
use Rattle.span_arena.specs.Content.{Content, IsChain, IsPrepared}

-- a chain, and a node in which something is prepared
pub record IsReady (c : Content) (chain node : ℕ) : Type 0 where
  pub is_chain : IsChain c chain
  pub is_prepared : IsPrepared c node
