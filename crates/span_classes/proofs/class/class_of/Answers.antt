use Rattle.std.proofs.Common.{◌/◌, ◌%◌, ◌∙◌, ℕ, ap, fold}
use Rattle.std.specs.Hash.FoldHasher as folding
use Rattle.span_query.specs.Rows.{Row}
use Rattle.span_rows.specs.Hashes.{row_writes}
use Rattle.span_classes.specs.Classes.{class_of}
use Rattle.span_classes.proofs.class.class_of.Goals as goal

pub returns : goal.returns
unfolding class_of
returns c =
    ap (λ (n : ℕ). n / 4294967296 % c.args.count)
    (c.finish.ensures
    ∙ ap folding.finish (c.hash.ensures ∙ ap (λ s. fold folding.write s (row_writes c.new.result)) c.default-hasher.ensures ∙ ap (λ (k : Row). fold folding.write folding.initial (row_writes k)) c.new.ensures))
