-- Which keys of a family a range holds.
use Rattle.std.proofs.Common.{◌≡◌, ◌↔◌, ℕ, zero, suc, ◌<◌, List, [], ◌∷◌, ◌++◌, refl, sym, ◌∙◌, ap, subst, append_assoc, arith, length, take, Bool, true, false, not, ◌&&◌}
use Rattle.std.specs.declared.cmp.Ordering.TheVariants.{Less}
use Rattle.std.specs.Int.{to_be_bytes, w64}
use Rattle.std.proofs.lemmas.Bool.Decides.{nat_tests}
use Rattle.span_value.specs.declared.value.Value.{Value}
use Rattle.span_value.specs.declared.value.Value.TheVariants.{Null, Int, Str, Bytes, Bool as Flag}
use Rattle.span_schema.specs.declared.table.Table.{Table}
use Rattle.span_schema.specs.declared.layout.KeyPart.{KeyPart}
use Rattle.span_schema.specs.Lineages.{MeetsRules}
use Rattle.span_schema.specs.Numbers.{IsTable, own_key_columns, key_columns, root_of}
use Rattle.span_schema.proofs.Judged.{few_tables}
use Rattle.span_keycode.specs.declared.range.RangeComparison.{RangeComparison}
use Rattle.span_keycode.specs.Order.{flipped}
use Rattle.span_keycode.specs.Coding.{AreBytes, Fits, AreFit, to_unsigned, escaped, bit, plain, in_direction, column_code, tuple_code, value_cmp}
use Rattle.span_keycode.specs.Keys.{own_values, key_code, IsKey}
use Rattle.span_keycode.specs.Ranges.{low_of, high_of, holds, is_null, compares, IsWithin}
use Rattle.span_keycode.specs.Laws.{RangeOfComparison}
use Rattle.span_keycode.proofs.Codes.{decides-column, plain_bytes}
use Rattle.span_keycode.proofs.RootRows.{root_split}
use Rattle.span_keycode.proofs.RangeLaws.{mark, IsAtBound, verdict, within_where}
use Rattle.span_value.proofs.Lists.{cons_inj}
use Rattle.span_keycode.proofs.Bounds.{above_nothing}

pub flipped_byte : (b : ℕ) → b < 256 → flipped b < 256
flipped_byte b h = grind (arith, nat_tests)

pub turned_bytes : (d : Bool) (bs : List ℕ) → AreBytes bs → AreBytes (in_direction d bs)
turned_bytes false bs f = f
turned_bytes true [] f = tt
turned_bytes true (b ∷ bs) f = (flipped_byte b f.0, turned_bytes true bs f.1)

abbrev after_mark : Value → List ℕ
after_mark Null = []
after_mark (Int i) = to_be_bytes w64 (to_unsigned i)
after_mark (Str s) = escaped s
after_mark (Bytes s) = escaped s
after_mark (Flag b) = bit b ∷ []

marked : (d : Bool) (w : Value) → in_direction d (plain w) ≡ mark d (is_null w) ∷ in_direction d (after_mark w)
marked false Null = refl
marked false (Int i) = refl
marked false (Str s) = refl
marked false (Bytes s) = refl
marked false (Flag b) = refl
marked true Null = refl
marked true (Int i) = refl
marked true (Str s) = refl
marked true (Bytes s) = refl
marked true (Flag b) = refl

pub null_first : (w v : Value) → is_null v ≡ false → is_null w ≡ true → value_cmp w v ≡ Less
null_first Null Null p e = absurd (let f : true ≡ false = p in cc)
null_first Null (Int i) p e = refl
null_first Null (Str s) p e = refl
null_first Null (Bytes s) p e = refl
null_first Null (Flag b) p e = refl
null_first (Int i) v p e = absurd (let f : false ≡ true = e in cc)
null_first (Str s) v p e = absurd (let f : false ≡ true = e in cc)
null_first (Bytes s) v p e = absurd (let f : false ≡ true = e in cc)
null_first (Flag b) v p e = absurd (let f : false ≡ true = e in cc)

compared : (op : RangeComparison) (w v : Value) → is_null v ≡ false → verdict (is_null w) op (value_cmp w v) ≡ compares op w v
compared op Null v p = refl
compared op (Int i) v p = sym (ap (λ b. not b && holds op (value_cmp (Int i) v)) p)
compared op (Str s) v p = sym (ap (λ b. not b && holds op (value_cmp (Str s) v)) p)
compared op (Bytes s) v p = sym (ap (λ b. not b && holds op (value_cmp (Bytes s) v)) p)
compared op (Flag b) v p = sym (ap (λ n. not n && holds op (value_cmp (Flag b) v)) p)

-- nothing compares with NULL
nothing : (op : RangeComparison) (w : Value) → compares op w Null ≡ true → ⊥
nothing op Null e = let f : false ≡ true = e in cc
nothing op (Int i) e = let f : false ≡ true = e in cc
nothing op (Str s) e = let f : false ≡ true = e in cc
nothing op (Bytes s) e = let f : false ≡ true = e in cc
nothing op (Flag b) e = let f : false ≡ true = e in cc

first_taken : (n : ℕ) (w u : Value) (ws us : List Value) → u ∷ us ≡ take n (w ∷ ws) → u ≡ w
first_taken zero w u ws us e = absurd (let f : u ∷ us ≡ [] = e in cc)
first_taken (suc n) w u ws us e = (cons_inj u w us (take n ws) e).0

-- the law, for a value that is not NULL
with_value : (tables : List Table) → MeetsRules tables → (n : ℕ) (w : Value) (ws : List Value) → IsKey tables n (w ∷ ws)
    → (t : ℕ) (c : KeyPart) (cs : List KeyPart) → root_of tables n ≡ t → own_key_columns tables t ≡ c ∷ cs → (v : Value) → Fits c.kind v → is_null v ≡ false → (op : RangeComparison)
    → IsWithin (low_of t c.desc op (t ∷ column_code c v)) (high_of t c.desc op (t ∷ column_code c v)) (key_code tables n (w ∷ ws)) ↔ (compares op w v ≡ true)
with_value tables rules n w ws k t c cs root own v f some op =
    let split = root_split tables rules n (w ∷ ws) k in
    let same : split.root ≡ t = sym split.named ∙ root in
    let P : ℕ → Type 0 = λ m. AreFit (own_key_columns tables m) (own_values tables split.root (w ∷ ws)) in
    let Q : List KeyPart → Type 0 = λ ds. AreFit ds (own_values tables split.root (w ∷ ws)) in
    let fits = subst Q own (subst P same split.fits) in
    let code : key_code tables n (w ∷ ws) ≡ t ∷ (tuple_code (c ∷ cs) (own_values tables split.root (w ∷ ws)) ++ split.more) =
    split.code ∙ ap (λ (m : ℕ). m ∷ (tuple_code (own_key_columns tables m) (own_values tables split.root (w ∷ ws)) ++ split.more)) same
    ∙ ap (λ (ds : List KeyPart). t ∷ (tuple_code ds (own_values tables split.root (w ∷ ws)) ++ split.more)) own in
    let R : ℕ → Type 0 = λ m. IsTable tables m in
    let is = subst R same split.is in
    let small : t < 255 = omega (arith, is.1, few_tables tables rules) in
    by_values (length (key_columns tables split.root)) split.more (own_values tables split.root (w ∷ ws)) split.front fits code small
  where
    by_values : (m : ℕ) (rest : List ℕ) (us : List Value) → us ≡ take m (w ∷ ws) → AreFit (c ∷ cs) us → key_code tables n (w ∷ ws) ≡ t ∷ (tuple_code (c ∷ cs) us ++ rest) → t < 255
        → IsWithin (low_of t c.desc op (t ∷ column_code c v)) (high_of t c.desc op (t ∷ column_code c v)) (key_code tables n (w ∷ ws)) ↔ (compares op w v ≡ true)
    by_values m rest [] e g code small = absurd g
    by_values m rest (u ∷ us) e g code small =
        let first : u ≡ w = first_taken m w u ws us e in
        let F : Value → Type 0 = λ x. Fits c.kind x in
        let fit = subst F first g.0 in
        let more = tuple_code cs us ++ rest in
        let key : key_code tables n (w ∷ ws) ≡ t ∷ (column_code c w ++ more) =
        code ∙ ap (λ (xs : List ℕ). t ∷ xs) (append_assoc (column_code c u) (tuple_code cs us) rest) ∙ ap (λ (x : Value). t ∷ (column_code c x ++ more)) first in
        let key_at_bound : IsAtBound t c.desc (is_null w) (column_code c w) (column_code c v) more (value_cmp w v) = record {
          small = small;
          decides = decides-column c w v fit f;
          bytes = turned_bytes c.desc (plain w) (plain_bytes c.kind w fit);
          rest = in_direction c.desc (after_mark w);
          marked = marked c.desc w;
          first = null_first w v some;
        } in
        let both = within_where op t c.desc (is_null w) (column_code c w) (column_code c v) more (value_cmp w v) key_at_bound in
        let K : List ℕ → Type 0 = λ xs. IsWithin (low_of t c.desc op (t ∷ column_code c v)) (high_of t c.desc op (t ∷ column_code c v)) xs in
        ((λ inside. sym (compared op w v some) ∙ both.0 (subst K key inside)), (λ true_here. subst K (sym key) (both.1 (compared op w v some ∙ true_here))))

pub range_of_comparison : RangeOfComparison
range_of_comparison tables rules n w ws k t c cs root own Null f op = ((λ inside. absurd (above_nothing _ inside.1)), (λ true_here. absurd (nothing op w true_here)))
range_of_comparison tables rules n w ws k t c cs root own (Int i) f op = with_value tables rules n w ws k t c cs root own (Int i) f refl op
range_of_comparison tables rules n w ws k t c cs root own (Str s) f op = with_value tables rules n w ws k t c cs root own (Str s) f refl op
range_of_comparison tables rules n w ws k t c cs root own (Bytes s) f op = with_value tables rules n w ws k t c cs root own (Bytes s) f refl op
range_of_comparison tables rules n w ws k t c cs root own (Flag b) f op = with_value tables rules n w ws k t c cs root own (Flag b) f refl op
