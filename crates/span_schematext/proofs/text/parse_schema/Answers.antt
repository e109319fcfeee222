use Rattle.std.proofs.Common.{inl, inr, subst, List}
use Rattle.span_schema.specs.declared.table.Table.{Table}
use Rattle.span_schematext.proofs.Tabling.{Judged, one_tables, not_refused, schema_read, schema_read_all, schema_refused, schema_refused_all}
use Rattle.span_schematext.proofs.text.parse_schema.Goals as goal

pub returns-in-Ok-clause-read : goal.returns-in-Ok-clause-read
returns-in-Ok-clause-read c =
    let are = c.in-Ok.ensures.read in
    let judged : Judged c.in-Ok.found c.new.result = subst (λ (v : List Table). Judged v c.new.result) c.into_vec.ensures c.new.ensures in
    schema_read c.args.text.now c.in-Ok.found are (λ other a. one_tables c.args.text.now other c.in-Ok.found a are) (λ why n i. not_refused c.args.text.now c.in-Ok.found are why n i) c.new.result judged

pub returns-in-Ok-clause-read_all : goal.returns-in-Ok-clause-read_all
returns-in-Ok-clause-read_all c =
    let are = c.in-Ok.ensures.read in
    let judged : Judged c.in-Ok.found c.new.result = subst (λ (v : List Table). Judged v c.new.result) c.into_vec.ensures c.new.ensures in
    schema_read_all c.args.text.now c.in-Ok.found are (λ other a. one_tables c.args.text.now other c.in-Ok.found a are) (λ why n i. not_refused c.args.text.now c.in-Ok.found are why n i) c.new.result judged

pub returns-in-Ok-clause-refused : goal.returns-in-Ok-clause-refused
returns-in-Ok-clause-refused c =
    let are = c.in-Ok.ensures.read in
    let judged : Judged c.in-Ok.found c.new.result = subst (λ (v : List Table). Judged v c.new.result) c.into_vec.ensures c.new.ensures in
    schema_refused c.args.text.now c.in-Ok.found are (λ other a. one_tables c.args.text.now other c.in-Ok.found a are) (λ why n i. not_refused c.args.text.now c.in-Ok.found are why n i) c.new.result judged

pub returns-in-Ok-clause-refused_all : goal.returns-in-Ok-clause-refused_all
returns-in-Ok-clause-refused_all c =
    let are = c.in-Ok.ensures.read in
    let judged : Judged c.in-Ok.found c.new.result = subst (λ (v : List Table). Judged v c.new.result) c.into_vec.ensures c.new.ensures in
    schema_refused_all c.args.text.now c.in-Ok.found are (λ other a. one_tables c.args.text.now other c.in-Ok.found a are) (λ why n i. not_refused c.args.text.now c.in-Ok.found are why n i) c.new.result judged

pub returns-in-Err-clause-read_all : goal.returns-in-Err-clause-read_all
returns-in-Err-clause-read_all c = λ found t. c.in-Err.ensures.read_all found t.0

pub returns-in-Err-clause-refused_all : goal.returns-in-Err-clause-refused_all
returns-in-Err-clause-refused_all c = λ why n i. elim i [
  | inl here ↦ c.in-Err.ensures.refused_all why n here
  | inr later ↦ inr (c.in-Err.ensures.read_all later.0 later.1)
]
