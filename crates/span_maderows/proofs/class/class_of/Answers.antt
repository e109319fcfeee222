use Rattle.std.proofs.Common.{◌-◌, ◌/◌, ◌∙◌, ℕ, ap, bit_and, fold}
use Rattle.std.specs.Hash.FoldHasher as folding
use Rattle.span_keycode.specs.Hashes.{key_writes}
use Rattle.span_maderows.specs.Linked.{class_of}
use Rattle.span_maderows.proofs.class.class_of.Goals as goal

pub returns-clause-class : goal.returns-clause-class
unfolding class_of
returns-clause-class c =
    ap (λ (n : ℕ). bit_and (n / 4294967296) (c.args.count - 1))
    (c.finish.ensures ∙ ap folding.finish (c.hash.ensures ∙ ap (λ s. fold folding.write s (key_writes c.args.key.now)) c.default-hasher.ensures))
