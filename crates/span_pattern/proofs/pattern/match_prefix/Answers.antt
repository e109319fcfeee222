use Rattle.std.proofs.Common.{rules, ◌∙◌, sym, chars}
use Rattle.span_pattern.proofs.Matching.{front_none, front_any, front_short, front_refused, front_taken}
use Rattle.span_pattern.proofs.pattern.match_prefix.Goals as goal

pub returns-then-is_any-clause-found : goal.returns-then-is_any-clause-found
returns-then-is_any-clause-found c = c.loop-part.invariant.1 ∙ front_any c.loop-part.parts.now c.in-Some.part.now c.in-Some.more.now (chars c.loop-part.rest.now) c.in-Some.ensures.cases.0 (sym c.is_any.ensures ∙ c.if-is_any.true)

pub returns-in_default-first_char-clause-found : goal.returns-in_default-first_char-clause-found
returns-in_default-first_char-clause-found c = c.loop-part.invariant.1 ∙ front_short c.loop-part.parts.now c.in-Some.part.now c.in-Some.more.now (chars c.loop-part.rest.now) c.in-Some.ensures.cases.0 (sym c.is_any.ensures ∙ c.if-is_any.false) c.in_default-first_char.ensures.first

pub returns-then-not-fits_char-clause-found : goal.returns-then-not-fits_char-clause-found
returns-then-not-fits_char-clause-found c = c.loop-part.invariant.1 ∙ front_refused c.loop-part.parts.now c.in-Some.part.now c.in-Some.more.now (chars c.loop-part.rest.now) c.in-Some-first_char.c (chars c.in-Some-first_char.after.now) c.in-Some.ensures.cases.0 (sym c.is_any.ensures ∙ c.if-is_any.false) c.in-Some-first_char.ensures.first (sym c.fits_char.ensures ∙ c.if-not-fits_char.true)

pub loop-part-preserved : goal.loop-part-preserved
loop-part-preserved c = (
  search rules,
  c.loop-part.invariant.1 ∙ front_taken c.loop-part.parts.now c.in-Some.part.now c.in-Some.more.now (chars c.loop-part.rest.now) c.in-Some-first_char.c (chars c.in-Some-first_char.after.now) c.in-Some.ensures.cases.0 (sym c.is_any.ensures ∙ c.if-is_any.false) c.in-Some-first_char.ensures.first (sym c.fits_char.ensures ∙ c.if-not-fits_char.false),
  search (rules, c.loop-part.invariant.2),
  search (rules, c.loop-part.invariant.3, c.in-Some-first_char.ensures.shorter),
)

pub returns-clause-found : goal.returns-clause-found
returns-clause-found c = c.loop-part.invariant.1 ∙ front_none c.loop-part.parts.now (chars c.loop-part.rest.now) c.in_default.ensures.cases
