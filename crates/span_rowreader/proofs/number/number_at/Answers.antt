use Rattle.std.proofs.Common.{rules, ℤ, sym, subst, drop}
use Rattle.std.specs.Prelude.{FitsSigned}
use Rattle.std.specs.Int.{w64}
use Rattle.std.proofs.lemmas.Int.{to_z-of_z}
use Rattle.span_rowreader.specs.KeyNumbers.{IsNumberFound}
use Rattle.span_rowreader.proofs.NumberPlaces.{number_found}
use Rattle.span_rowreader.proofs.number.number_at.Goals as goal

pub returns : goal.returns
returns c =
    let fits : FitsSigned w64 c.to_signed.result = search rules in
    let P : ℤ → Type 0 = λ z. IsNumberFound c.args.desc (drop c.args.at c.args.key.now) z in
    subst P (sym (to_z-of_z w64 c.to_signed.result fits))
    (number_found c.args.desc c.args.key.now c.args.at c.eight_at.result c.directed_word.result c.to_signed.result c.requires c.eight_at.ensures c.directed_word.ensures c.to_signed.ensures fits)
