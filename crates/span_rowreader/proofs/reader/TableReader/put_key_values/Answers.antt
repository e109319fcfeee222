use Rattle.std.proofs.Common.{◌≡◌, ℕ, List, map, length}
use Rattle.std.proofs.lemmas.List.{length-map}
use Rattle.span_schema.specs.Numbers.{key_places}
use Rattle.span_rowreader.specs.Readers.{target}
use Rattle.span_rowreader.proofs.KeyReads.{some_key_put}
use Rattle.span_rowreader.proofs.reader.TableReader.put_key_values.Goals as goal

pub returns : goal.returns
returns c =
    let schema = c.args.schema.now in
    let reader = c.args.self.now in
    let ps : List ℕ = map (target reader.mask) (key_places schema reader.table) in
    let many : length ps ≡ length (key_places schema reader.table) = length-map (key_places schema reader.table) (target reader.mask) in
    some_key_put schema c.meets_rules.ensures reader.table ps reader.all reader.reads c.as_slice.result.now c.as_slice-2.result.now c.args.key.now c.args.row.now.items c.put_key.new.row.items c.put_key.result many c.as_slice.ensures c.as_slice-2.ensures c.requires.reads c.put_key.ensures
