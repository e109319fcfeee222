use Rattle.std.proofs.Common.{◌∙◌}
use Rattle.span_entries.proofs.KeyLengths.{longer_key}
use Rattle.span_rowreader.proofs.reader.TableReader.is_own_key.Goals as goal

pub returns-then-key-self : goal.returns-then-key-self
returns-then-key-self c = longer_key c.args.schema.now c.args.self.now.table c.args.self.now.most c.args.key.now c.requires.reader.longest c.if-key-self.true

pub goes_along-requires-clause-steps : goal.goes_along-requires-clause-steps
goes_along-requires-clause-steps c = c.as_slice.ensures ∙ c.requires.reader.steps
