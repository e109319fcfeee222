use Rattle.std.proofs.Common.{◌∙◌, List, ℕ, ap, sym, subst}
use Rattle.std.specs.Prelude.{All}
use Rattle.std.proofs.lemmas.List.Elements.{All-filter}
use Rattle.span_arena.specs.Content.{IsChain}
use Rattle.span_keytree.specs.Entries.{KeyEntry}
use Rattle.span_keytree.specs.Items.{entries_between, is_between}
use Rattle.span_keyindex.specs.Indexes.{entries_of}
use Rattle.span_keyindex.proofs.Owning.{all_chains}
use Rattle.span_keytree.proofs.Rising.{pairs_rising}
use Rattle.span_keyindex.proofs.index.KeyIndex.walk.Goals as goal

pub returns-clause-entries : goal.returns-clause-entries
returns-clause-entries g c =
    c.walk_range.ensures.entries ∙ (ap (λ (low : List ℕ). entries_between low c.as_slice-2.result.now (entries_of c.args.self.now c.args.arena.now)) c.as_slice.ensures ∙ ap (λ (high : List ℕ). entries_between c.args.range.now.low high (entries_of c.args.self.now c.args.arena.now)) c.as_slice-2.ensures)

pub returns-clause-chains : goal.returns-clause-chains
returns-clause-chains g c = subst (λ (es : List KeyEntry). All (λ (e : KeyEntry). IsChain c.args.arena.now e.chain.number) es) (sym c.walk_range.ensures.entries) (All-filter (λ (e : KeyEntry). is_between c.as_slice.result.now c.as_slice-2.result.now e.key) (λ (e : KeyEntry). IsChain c.args.arena.now e.chain.number) (entries_of c.args.self.now c.args.arena.now) (all_chains (entries_of c.args.self.now c.args.arena.now) c.args.arena.now c.requires.own))

pub returns-clause-rising : goal.returns-clause-rising
returns-clause-rising g c = pairs_rising (entries_of c.args.self.now c.args.arena.now) c.requires.index.search.rising
