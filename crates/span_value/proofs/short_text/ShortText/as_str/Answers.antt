use Rattle.std.proofs.Common.{rules, ◌≡◌, sym, subst, take}
use Rattle.std.specs.Prelude.{IsUtf8}
use Rattle.std.proofs.lemmas.Str.{IsUtf8-had}
use Rattle.span_value.proofs.short_text.ShortText.as_str.Goals as goal

pub from_utf8_unchecked-requires : goal.from_utf8_unchecked-requires
from_utf8_unchecked-requires c =
    let front : c.split_at.result.0.now ≡ take c.self.inside.len c.self.inside.bytes = search rules in
    subst IsUtf8 (sym front) (IsUtf8-had _ c.self.invariant.2)
