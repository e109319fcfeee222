-- What a coded key is to a hasher, and that keys with the same bytes have one hash.
use Rattle.std.proofs.Common.{◌≡◌, ◌∙◌, ℕ, true, List, [], ◌∷◌, ap, sym}
use Rattle.std.specs.Hash.{HashWrites}
use Rattle.std.specs.Cmp.{IsEquivalence}
use Rattle.std.proofs.lemmas.Cmp.{eq_by_cmp_equiv}
use Rattle.std.specs.Cmp.Lexicographic.{same_text, texts_ties, nat_list_cmp_total}
use Rattle.span_keycode.specs.Order.{is_same}

-- its bytes, at once
abbrev pub key_writes : List ℕ → HashWrites
key_writes key = key ∷ []

pub keys_are_equivalent : IsEquivalence is_same
keys_are_equivalent = eq_by_cmp_equiv nat_list_cmp_total

pub same_keys_hash_alike : (k l : List ℕ) → is_same k l ≡ true → key_writes k ≡ key_writes l
same_keys_hash_alike k l e = ap key_writes (same_text k l (sym (texts_ties k l ∙ e)))
