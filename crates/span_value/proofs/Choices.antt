-- What an `if` is where its condition is known: lemmas of std under the names that span_syntax cites.
pub use Rattle.std.proofs.lemmas.Bool.{cond-true as if_true, cond-false as if_false}
