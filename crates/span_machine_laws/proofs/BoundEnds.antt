-- Whether a key is below an end of the range of a comparison of its first root key column depends on its root key alone.
use Rattle.std.proofs.Common.{◌≡◌, ◌≢◌, ℕ, ◌+◌, ◌<◌, ◌≤◌, Bool, true, false, not, nat_lt, List, [], ◌∷◌, ◌++◌, refl, ap, sym, ◌∙◌, subst, arith, append_assoc, inl, inr, ◌⊎◌, if◌then◌else◌}
use Rattle.std.specs.Ordering.{is_lt, is_gt, nat_cmp, ordering_then}
use Rattle.std.specs.declared.cmp.Ordering.{Ordering}
use Rattle.std.specs.declared.cmp.Ordering.TheVariants.{Less, Equal, Greater}
use Rattle.std.proofs.lemmas.Bool.{cases_lt}
use Rattle.std.proofs.lemmas.Bool.Decides.{nat_tests}
use Rattle.std.proofs.lemmas.Map.Lookups.{exact_unsigned}
use Rattle.span_value.specs.declared.value.Value.{Value}
use Rattle.span_value.specs.declared.value.Value.TheVariants as value
use Rattle.span_schema.specs.declared.table.Table.{Table}
use Rattle.span_schema.specs.declared.layout.KeyPart.{KeyPart}
use Rattle.span_schema.specs.Lineages.{MeetsRules}
use Rattle.span_schema.specs.Numbers.{IsTable, own_key_columns}
use Rattle.span_schema.proofs.Judged.{few_tables}
use Rattle.span_keycode.specs.declared.range.RangeComparison.{RangeComparison}
use Rattle.span_keycode.specs.declared.range.RangeComparison.TheVariants as op
use Rattle.span_keycode.specs.Coding.{AreFit, Fits, plain, in_direction, apply_direction, column_code, tuple_code, value_cmp}
use Rattle.span_keycode.specs.Keys.{IsKey, own_values, key_code}
use Rattle.span_keycode.specs.Order.{byte_order}
use Rattle.span_keycode.specs.Ranges.{in_front, next_after, low_of, high_of, is_null, range_start, range_end}
use Rattle.span_keycode.proofs.Codes.{decides-column, plain_bytes}
use Rattle.span_keycode.proofs.RangeLaws.{mark, IsAtBound, code_less, code_equal, code_greater, after_less, after_equal, after_greater, mark_less, mark_more, top}
use Rattle.span_keycode.proofs.RootRows.{RootSplit, root_split}
use Rattle.span_keycode.proofs.FamilyRanges.{turned_bytes, null_first}

-- bytes whose first differ are below one another by these alone
pub first_less : (t u : ℕ) (xs ys zs : List ℕ) (o : Ordering) → nat_cmp t u ≡ o → o ≢ Equal → is_lt (byte_order (t ∷ xs) (u ∷ zs)) ≡ is_lt (byte_order (t ∷ ys) (u ∷ zs))
first_less t u xs ys zs Less e off = ap (λ (o : Ordering). is_lt (ordering_then o (byte_order xs zs))) e ∙ sym (ap (λ (o : Ordering). is_lt (ordering_then o (byte_order ys zs))) e)
first_less t u xs ys zs Equal e off = absurd (off refl)
first_less t u xs ys zs Greater e off = ap (λ (o : Ordering). is_lt (ordering_then o (byte_order xs zs))) e ∙ sym (ap (λ (o : Ordering). is_lt (ordering_then o (byte_order ys zs))) e)

-- ---- a key whose first column's coding is k, whatever follows

not_lt : (o : Ordering) → o ≢ Less → is_lt o ≡ false
not_lt Less off = absurd (off refl)
not_lt Equal off = refl
not_lt Greater off = refl

module _ {t : ℕ} {d null : Bool} {k x more : List ℕ} {r : Ordering} (s : IsAtBound t d null k x more r) where
  below_code : is_lt (byte_order (t ∷ (k ++ more)) (t ∷ x)) ≡ is_lt (apply_direction d r)
  below_code = of_order (apply_direction d r) refl
    where
      of_order : (o : Ordering) → apply_direction d r ≡ o → is_lt (byte_order (t ∷ (k ++ more)) (t ∷ x)) ≡ is_lt o
      of_order Less e = ap is_lt (code_less s e)
      of_order Equal e = not_lt (byte_order (t ∷ (k ++ more)) (t ∷ x)) (code_equal s e)
      of_order Greater e = not_lt (byte_order (t ∷ (k ++ more)) (t ∷ x)) (code_greater s e)

  below_next : is_lt (byte_order (t ∷ (k ++ more)) (next_after (t ∷ x))) ≡ not (is_gt (apply_direction d r))
  below_next = of_order (apply_direction d r) refl
    where
      of_order : (o : Ordering) → apply_direction d r ≡ o → is_lt (byte_order (t ∷ (k ++ more)) (next_after (t ∷ x))) ≡ not (is_gt o)
      of_order Less e = ap is_lt (after_less s e)
      of_order Equal e = ap is_lt (after_equal s e)
      of_order Greater e = not_lt (byte_order (t ∷ (k ++ more)) (next_after (t ∷ x))) (after_greater s e)

  below_mark : (m : ℕ) → is_lt (byte_order (t ∷ (k ++ more)) (t ∷ m ∷ [])) ≡ nat_lt (mark d null) m
  below_mark m = elim (cases_lt (mark d null) m) [
    | inl less ↦ ap is_lt (mark_less s m less) ∙ sym (yes (mark d null) less)
    | inr most ↦ not_lt (byte_order (t ∷ (k ++ more)) (t ∷ m ∷ [])) (mark_more s m most) ∙ sym (no (mark d null) most)
  ]
    where
      yes : (n : ℕ) → n < m → nat_lt n m ≡ true
      yes n less = grind (arith, nat_tests)

      no : (n : ℕ) → m ≤ n → nat_lt n m ≡ false
      no n most = grind (arith, nat_tests)

  below_top : is_lt (byte_order (t ∷ (k ++ more)) ((t + 1) ∷ [])) ≡ true
  below_top = ap is_lt (top s)

-- whether a key is below the end depends on its first column alone
abbrev DependsOnFirst : ℕ → Bool → List ℕ → List ℕ → Type 0
DependsOnFirst t d x end = (null : Bool) (k m n : List ℕ) (r : Ordering) → IsAtBound t d null k x m r → IsAtBound t d null k x n r → is_lt (byte_order (t ∷ (k ++ m)) end) ≡ is_lt (byte_order (t ∷ (k ++ n)) end)

module _ (t : ℕ) (x : List ℕ) where
  low_alike : (c : RangeComparison) (d : Bool) → DependsOnFirst t d x (low_of t d c (t ∷ x))
  low_alike op.Equal d null k m n r s u = below_code s ∙ sym (below_code u)
  low_alike op.Less false null k m n r s u = below_mark s 1 ∙ sym (below_mark u 1)
  low_alike op.AtMost false null k m n r s u = below_mark s 1 ∙ sym (below_mark u 1)
  low_alike op.Greater false null k m n r s u = below_next s ∙ sym (below_next u)
  low_alike op.AtLeast false null k m n r s u = below_code s ∙ sym (below_code u)
  low_alike op.Less true null k m n r s u = below_next s ∙ sym (below_next u)
  low_alike op.AtMost true null k m n r s u = below_code s ∙ sym (below_code u)
  low_alike op.Greater true null k m n r s u = below_mark s 254 ∙ sym (below_mark u 254)
  low_alike op.AtLeast true null k m n r s u = below_mark s 254 ∙ sym (below_mark u 254)

  high_alike : (c : RangeComparison) (d : Bool) → DependsOnFirst t d x (high_of t d c (t ∷ x))
  high_alike op.Equal d null k m n r s u = below_next s ∙ sym (below_next u)
  high_alike op.Less false null k m n r s u = below_code s ∙ sym (below_code u)
  high_alike op.AtMost false null k m n r s u = below_next s ∙ sym (below_next u)
  high_alike op.Greater false null k m n r s u = below_top s ∙ sym (below_top u)
  high_alike op.AtLeast false null k m n r s u = below_top s ∙ sym (below_top u)
  high_alike op.Less true null k m n r s u = below_mark s 255 ∙ sym (below_mark u 255)
  high_alike op.AtMost true null k m n r s u = below_mark s 255 ∙ sym (below_mark u 255)
  high_alike op.Greater true null k m n r s u = below_code s ∙ sym (below_code u)
  high_alike op.AtLeast true null k m n r s u = below_next s ∙ sym (below_next u)

-- ---- the coding of a column

-- its first byte tells NULL from values
begins_with_mark : (d : Bool) (w : Value) → (rest : List ℕ) × (in_direction d (plain w) ≡ mark d (is_null w) ∷ rest)
begins_with_mark false value.Null = (_, refl)
begins_with_mark false (value.Int i) = (_, refl)
begins_with_mark false (value.Str s) = (_, refl)
begins_with_mark false (value.Bytes s) = (_, refl)
begins_with_mark false (value.Bool b) = (_, refl)
begins_with_mark true value.Null = (_, refl)
begins_with_mark true (value.Int i) = (_, refl)
begins_with_mark true (value.Str s) = (_, refl)
begins_with_mark true (value.Bytes s) = (_, refl)
begins_with_mark true (value.Bool b) = (_, refl)

-- a key of the family compared with an end, where the value is not NULL
column_at_bound : (t : ℕ) (part : KeyPart) (w v : Value) (more : List ℕ) → t < 255 → Fits part.kind w → Fits part.kind v → is_null v ≡ false
    → IsAtBound t part.desc (is_null w) (column_code part w) (column_code part v) more (value_cmp w v)
column_at_bound t part w v more small fit_w fit_v some =
    let begins = begins_with_mark part.desc w in
    record {
      small = small;
      decides = decides-column part w v fit_w fit_v;
      bytes = turned_bytes part.desc (plain w) (plain_bytes part.kind w fit_w);
      rest = begins.0;
      marked = begins.1;
      first = null_first w v some;
    }

-- ---- ends of ranges

-- nothing is below no bytes
never_below : (xs ys : List ℕ) → is_lt (byte_order xs []) ≡ is_lt (byte_order ys [])
never_below [] [] = refl
never_below [] (y ∷ ys) = refl
never_below (x ∷ xs) [] = refl
never_below (x ∷ xs) (y ∷ ys) = refl

one_byte : (o : Ordering) (xs ys : List ℕ) → is_lt (ordering_then o (byte_order xs [])) ≡ is_lt (ordering_then o (byte_order ys []))
one_byte Less xs ys = refl
one_byte Equal xs ys = never_below xs ys
one_byte Greater xs ys = refl

-- an end that begins with the family's number, or is one byte, or none
abbrev Shape : ℕ → List ℕ → Type 0
Shape t end = ((zs : List ℕ) × (end ≡ t ∷ zs)) ⊎ ((n : ℕ) × (end ≡ n ∷ [])) ⊎ (end ≡ [])

next_shape : (t : ℕ) (x : List ℕ) → Shape t (next_after (t ∷ x))
next_shape t x = of_next (next_after x) refl
  where
    alone : (b : Bool) → nat_lt t 255 ≡ b → in_front t [] ≡ next_after (t ∷ x) → Shape t (next_after (t ∷ x))
    alone true low is = inr (inl (t + 1, sym is ∙ ap (λ (b : Bool). if b then (t + 1) ∷ [] else []) low))
    alone false low is = inr (inr (sym is ∙ ap (λ (b : Bool). if b then (t + 1) ∷ [] else []) low))

    of_next : (n : List ℕ) → next_after x ≡ n → Shape t (next_after (t ∷ x))
    of_next [] is = alone (nat_lt t 255) refl (ap (in_front t) (sym is))
    of_next (c ∷ cs) is = inl (c ∷ cs, ap (in_front t) is)

low_shape : (t : ℕ) (d : Bool) (c : RangeComparison) (x : List ℕ) → Shape t (low_of t d c (t ∷ x))
low_shape t d op.Equal x = inl (x, refl)
low_shape t false op.Less x = inl (1 ∷ [], refl)
low_shape t false op.AtMost x = inl (1 ∷ [], refl)
low_shape t false op.Greater x = next_shape t x
low_shape t false op.AtLeast x = inl (x, refl)
low_shape t true op.Less x = next_shape t x
low_shape t true op.AtMost x = inl (x, refl)
low_shape t true op.Greater x = inl (254 ∷ [], refl)
low_shape t true op.AtLeast x = inl (254 ∷ [], refl)

high_shape : (t : ℕ) (d : Bool) (c : RangeComparison) (x : List ℕ) → Shape t (high_of t d c (t ∷ x))
high_shape t d op.Equal x = next_shape t x
high_shape t false op.Less x = inl (x, refl)
high_shape t false op.AtMost x = next_shape t x
high_shape t false op.Greater x = inr (inl (t + 1, refl))
high_shape t false op.AtLeast x = inr (inl (t + 1, refl))
high_shape t true op.Less x = inl (255 ∷ [], refl)
high_shape t true op.AtMost x = inl (255 ∷ [], refl)
high_shape t true op.Greater x = inl (x, refl)
high_shape t true op.AtLeast x = next_shape t x

-- what begins with another number than the family's is below such an end, or not, by that number
shape_alike : (u t : ℕ) (xs ys : List ℕ) (o : Ordering) → nat_cmp u t ≡ o → o ≢ Equal → (end : List ℕ) → Shape t end → is_lt (byte_order (u ∷ xs) end) ≡ is_lt (byte_order (u ∷ ys) end)
shape_alike u t xs ys o e off end (inl first) =
    ap (λ (l : List ℕ). is_lt (byte_order (u ∷ xs) l)) first.1 ∙ first_less u t xs ys first.0 o e off ∙ sym (ap (λ (l : List ℕ). is_lt (byte_order (u ∷ ys) l)) first.1)
shape_alike u t xs ys o e off end (inr (inl one)) =
    ap (λ (l : List ℕ). is_lt (byte_order (u ∷ xs) l)) one.1 ∙ one_byte (nat_cmp u one.0) xs ys ∙ sym (ap (λ (l : List ℕ). is_lt (byte_order (u ∷ ys) l)) one.1)
shape_alike u t xs ys o e off end (inr (inr none)) =
    ap (λ (l : List ℕ). is_lt (byte_order (u ∷ xs) l)) none ∙ never_below (u ∷ xs) (u ∷ ys) ∙ sym (ap (λ (l : List ℕ). is_lt (byte_order (u ∷ ys) l)) none)

module _ (schema : List Table) (rules : MeetsRules schema) (n : ℕ) (key : List Value) (is : IsKey schema n key)
    (t : ℕ) (part : KeyPart) (cs : List KeyPart) (own : own_key_columns schema t ≡ part ∷ cs) (v : Value) (fits : Fits part.kind v) (rest : List ℕ) where
  abbrev IsAlike : List ℕ → Type 0
  IsAlike end = is_lt (byte_order (key_code schema n key ++ rest) end) ≡ is_lt (byte_order (key_code schema n key) end)

  abbrev split : RootSplit schema n key
  split = root_split schema rules n key is

  abbrev own_code : List ℕ
  own_code = tuple_code (own_key_columns schema split.root) (own_values schema split.root key) ++ split.more

  other_family : (o : Ordering) → nat_cmp split.root t ≡ o → o ≢ Equal → (end : List ℕ) → Shape t end → IsAlike end
  other_family o e off end shape =
      ap (λ (l : List ℕ). is_lt (byte_order (l ++ rest) end)) split.code
      ∙ shape_alike split.root t (own_code ++ rest) own_code o e off end shape
      ∙ sym (ap (λ (l : List ℕ). is_lt (byte_order l end)) split.code)

  -- keys of the family, by the coding of their first column
  same_family : split.root ≡ t → is_null v ≡ false → (end : List ℕ)
      → DependsOnFirst t part.desc (column_code part v) end → IsAlike end
  same_family same some end alike =
      let columns : own_key_columns schema split.root ≡ part ∷ cs = ap (own_key_columns schema) same ∙ own in
      by_values (own_values schema split.root key) (subst (λ (l : List KeyPart). AreFit l (own_values schema split.root key)) columns split.fits)
      (split.code ∙ ap (λ (m : ℕ). m ∷ own_code) same ∙ ap (λ (l : List KeyPart). t ∷ (tuple_code l (own_values schema split.root key) ++ split.more)) columns)
    where
      small : t < 255
      small = let is_table : IsTable schema t = subst (IsTable schema) same split.is in omega (arith, is_table.1, few_tables schema rules)

      by_values : (us : List Value) → AreFit (part ∷ cs) us → key_code schema n key ≡ t ∷ (tuple_code (part ∷ cs) us ++ split.more) → IsAlike end
      by_values [] fit code = absurd fit
      by_values (u ∷ us) fit code =
          let more : List ℕ = tuple_code cs us ++ split.more in
          let whole : key_code schema n key ≡ t ∷ (column_code part u ++ more) = code ∙ ap (λ (l : List ℕ). t ∷ l) (append_assoc (column_code part u) (tuple_code cs us) split.more) in
          ap (λ (l : List ℕ). is_lt (byte_order (l ++ rest) end)) whole
          ∙ ap (λ (l : List ℕ). is_lt (byte_order (t ∷ l) end)) (append_assoc (column_code part u) more rest)
          ∙ alike (is_null u) (column_code part u) (more ++ rest) more (value_cmp u v) (column_at_bound t part u v (more ++ rest) small fit.0 fits some) (column_at_bound t part u v more small fit.0 fits some)
          ∙ sym (ap (λ (l : List ℕ). is_lt (byte_order l end)) whole)

  both_families : is_null v ≡ false → (end : List ℕ) → Shape t end
      → DependsOnFirst t part.desc (column_code part v) end → IsAlike end
  both_families some end shape alike = by_tables (nat_cmp split.root t) refl
    where
      by_tables : (o : Ordering) → nat_cmp split.root t ≡ o → IsAlike end
      by_tables Less e = other_family Less e (λ f. cc) end shape
      by_tables Greater e = other_family Greater e (λ f. cc) end shape
      by_tables Equal e = same_family (exact_unsigned split.root t e) some end alike

  -- a key that goes on with whatever bytes is below the first bytes of a comparison's range just where the root key is
  pub below_start : (c : RangeComparison) → IsAlike (range_start t part c v)
  below_start c = by_null (is_null v) refl
    where
      by_null : (b : Bool) → is_null v ≡ b → IsAlike (if b then [] else low_of t part.desc c (t ∷ column_code part v))
      by_null true none = never_below (key_code schema n key ++ rest) (key_code schema n key)
      by_null false some = both_families some (low_of t part.desc c (t ∷ column_code part v)) (low_shape t part.desc c (column_code part v)) (low_alike t (column_code part v) c part.desc)

  -- and so with the first bytes after it
  pub below_end : (c : RangeComparison) → IsAlike (range_end t part c v)
  below_end c = by_null (is_null v) refl
    where
      by_null : (b : Bool) → is_null v ≡ b → IsAlike (if b then [] else high_of t part.desc c (t ∷ column_code part v))
      by_null true none = never_below (key_code schema n key ++ rest) (key_code schema n key)
      by_null false some = both_families some (high_of t part.desc c (t ∷ column_code part v)) (high_shape t part.desc c (column_code part v)) (high_alike t (column_code part v) c part.desc)
