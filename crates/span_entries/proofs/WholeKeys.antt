-- The table of a coded key by the key's length.
use Rattle.std.proofs.Common.{◌≡◌, ◌≢◌, ◌==◌, ◌∙◌, ℕ, ◌+◌, ◌-◌, ◌*◌, ◌%◌, ◌<◌, ◌≤◌, Bool, true, false, ◌&&◌, List, [], ◌∷◌, ◌++◌, Option, Some, None, length, length-append, take, drop, get_or, refl, sym, ap, subst, arith}
use Rattle.std.specs.List.{list_all}
use Rattle.std.specs.Prelude.{nat_eq, nat_lt}
use Rattle.std.proofs.lemmas.Bool.Decides.{nat_tests}
use Rattle.std.proofs.Math.Seq.{get_or-append_seam}
use Rattle.std.proofs.lemmas.Bool.{eqb-true, eqb-false, ne_eqb, and_parts}
use Rattle.std.proofs.lemmas.List.Folds.{list_all-append}
use Rattle.span_value.specs.declared.value.Value.{Value}
use Rattle.span_value.specs.declared.value.Value.TheVariants as value
use Rattle.span_value.specs.declared.value.Kind.{Kind}
use Rattle.span_value.specs.declared.value.Kind.TheVariants as kind
use Rattle.span_schema.specs.declared.table.Table.{Table}
use Rattle.span_schema.specs.declared.layout.KeyPart.{KeyPart}
use Rattle.span_schema.specs.Lineages.{parent_at, MeetsRules}
use Rattle.span_schema.specs.Numbers.{key_at, key_columns, own_key_columns, path_of, root_of}
use Rattle.span_keycode.specs.Coding.{Fits, AreFit, plain, column_code, tuple_code}
use Rattle.span_keycode.specs.Keys.{IsKey, code_of, key_code, values_len}
use Rattle.span_keycode.proofs.Levels.{key_root, key_split, levels_at}
use Rattle.span_keycode.proofs.LevelLaws.{code_child, code_root, fit_length, fit_split}
use Rattle.span_keycode.proofs.CodeLengths.{key_len, values_split}
use Rattle.span_keycode.proofs.Lengths.{length_directed}
use Rattle.span_keycode.proofs.RootRows.{root_split}
use Rattle.span_entries.specs.declared.whole_key.WholeKey.{WholeKey}
use Rattle.span_entries.specs.Entries.{IsWhetherOf}
use Rattle.span_entries.specs.WholeKeys.{is_number, is_number_kind, is_undecided, HasNumberAt, HasOtherLengths, IsDecided, IsNoLengthOf, IsOwnLength, IsTableByLength, IsWhetherOfLength, IsWholeKey}

-- ---- how many bytes numbers take

-- as many bytes as nine for each number, less eight for each NULL
pub record IsFewer (len whole : ℕ) : Type 0 where
  pub nulls : ℕ
  pub is : len + 8 * nulls ≡ whole

pub number_kind : (k : Kind) → is_number_kind k ≡ true → k ≡ kind.Int
number_kind kind.Int e = refl
number_kind kind.Str e = absurd (let f : false ≡ true = e in cc)
number_kind kind.Bytes e = absurd (let f : false ≡ true = e in cc)
number_kind kind.Bool e = absurd (let f : false ≡ true = e in cc)

pub one_fewer : (v : Value) → Fits kind.Int v → IsFewer (length (plain v)) 9
one_fewer value.Null fits = record { nulls = 1; is = omega arith }
one_fewer (value.Int i) fits = record { nulls = 0; is = omega arith }
one_fewer (value.Str bs) fits = absurd fits
one_fewer (value.Bytes bs) fits = absurd fits
one_fewer (value.Bool b) fits = absurd fits

pub numbers_fewer : (cs : List KeyPart) (vs : List Value) → list_all is_number cs ≡ true → AreFit cs vs → IsFewer (values_len vs) (9 * length cs)
numbers_fewer [] [] all fit = record { nulls = 0; is = omega arith }
numbers_fewer [] (v ∷ vs) all fit = absurd fit
numbers_fewer (c ∷ cs) [] all fit = absurd fit
numbers_fewer (c ∷ cs) (v ∷ vs) all fit =
    let both = and_parts (is_number c) (list_all is_number cs) all in
    let P : Kind → Type 0 = λ k. Fits k v in
    let one = one_fewer v (subst P (number_kind c.kind both.0) fit.0) in
    let more = numbers_fewer cs vs both.1 fit.1 in
    record { nulls = one.nulls + more.nulls; is = omega (arith, one.is, more.is) }

-- ---- a whole key

module _ (schema : List Table) (rules : MeetsRules schema) (n : ℕ) (vs : List Value) (is : IsKey schema n vs) where
  pub code_length : length (key_code schema n vs) ≡ length (path_of schema n) + values_len vs
  code_length = key_len schema rules (n - 1) (omega (arith, is.0.0, is.0.1)) vs (fit_length (key_columns schema n) vs is.1)

  -- a key of numbers is eight bytes shorter for each NULL
  pub key_fewer : (at : WholeKey) → IsWholeKey schema n at → IsFewer (length (key_code schema n vs)) at.len
  key_fewer at whole =
      let fewer = numbers_fewer (key_columns schema n) vs whole.numbers is.1 in
      record { nulls = fewer.nulls; is = omega (arith, code_length, fewer.is, whole.len) }

-- the last level of a key that has no NULL
pub record LastLevel (schema : List Table) (n : ℕ) (code : List ℕ) : Type 0 where
  pub above : List ℕ
  pub more : List ℕ
  pub are : code ≡ above ++ n ∷ more
  pub len : length more ≡ 9 * length (own_key_columns schema n)

tuple_len : (cs : List KeyPart) (vs : List Value) → AreFit cs vs → length (tuple_code cs vs) ≡ values_len vs
tuple_len [] [] fit = refl
tuple_len [] (v ∷ vs) fit = absurd fit
tuple_len (c ∷ cs) [] fit = absurd fit
tuple_len (c ∷ cs) (v ∷ vs) fit = omega (arith, length-append (column_code c v) (tuple_code cs vs), length_directed c.desc (plain v), tuple_len cs vs fit.1)

module _ (schema : List Table) (rules : MeetsRules schema) (n : ℕ) (vs : List Value) (is : IsKey schema n vs) (numbers : list_all is_number (key_columns schema n) ≡ true) (full : values_len vs ≡ 9 * length (key_columns schema n)) where
  within : n - 1 < length schema
  within = omega (arith, is.0.0, is.0.1)

  number : n - 1 + 1 ≡ n
  number = omega (arith, is.0.0)

  pub last_level : LastLevel schema n (key_code schema n vs)
  last_level = by_parent (parent_at schema (n - 1)) refl
    where
      by_parent : (o : Option ℕ) → parent_at schema (n - 1) ≡ o → LastLevel schema n (key_code schema n vs)
      by_parent None e =
          let P : List KeyPart → Type 0 = λ cs. AreFit cs vs in
          let fit = subst P (sym (key_root schema (n - 1) e)) is.1 in
          record {
            above = [];
            more = tuple_code (own_key_columns schema n) vs;
            are = code_root schema (n - 1) e vs is.1 ∙ ap (λ (m : ℕ). m ∷ tuple_code (own_key_columns schema n) vs) number;
            len = tuple_len (own_key_columns schema n) vs fit ∙ full ∙ ap (λ (cs : List KeyPart). 9 * length cs) (sym (key_root schema (n - 1) e));
          }
      by_parent (Some p) e =
          let above : List KeyPart = key_at schema p in
          let own : List KeyPart = own_key_columns schema n in
          let split : key_columns schema n ≡ above ++ own = key_split schema rules (n - 1) p within e in
          let P : List KeyPart → Type 0 = λ cs. AreFit cs vs in
          let fit = fit_split above own vs (subst P split is.1) in
          let each : (list_all is_number above && list_all is_number own) ≡ true = sym (list_all-append is_number above own) ∙ ap (list_all is_number) (sym split) ∙ numbers in
          let both = and_parts (list_all is_number above) (list_all is_number own) each in
          let first = numbers_fewer above (take (length above) vs) both.0 fit.0 in
          let last = numbers_fewer own (drop (length above) vs) both.1 fit.1 in
          let columns : length (key_columns schema n) ≡ length above + length own = ap (length {A = KeyPart}) split ∙ length-append above own in
          record {
            above = code_of schema (levels_at schema p (take (length above) vs));
            more = tuple_code own (drop (length above) vs);
            are = code_child schema rules (n - 1) p within e vs is.1
                ∙ ap (λ (m : ℕ). code_of schema (levels_at schema p (take (length above) vs)) ++ m ∷ tuple_code own (drop (length above) vs)) number;
            len = omega (arith, tuple_len own (drop (length above) vs) fit.1, first.is, last.is, full, columns, values_split (length above) vs);
          }

number_at_seam : (code above more : List ℕ) (n place : ℕ) → code ≡ above ++ n ∷ more → place + (1 + length more) ≡ length code → get_or code place 0 ≡ n
number_at_seam code above more n place e len =
    let count : place ≡ length above = omega (arith, len, ap (length {A = ℕ}) e, length-append above (n ∷ more)) in
    ap (λ (xs : List ℕ). get_or xs place 0) e ∙ ap (λ (i : ℕ). get_or (above ++ n ∷ more) i 0) count ∙ get_or-append_seam above n more 0

-- a key of the length of those without NULL has the number of its table at their place
number_at : (schema : List Table) → MeetsRules schema → (n : ℕ) (at : WholeKey) → IsWholeKey schema n at → (vs : List Value) → IsKey schema n vs → length (key_code schema n vs) ≡ at.len → get_or (key_code schema n vs) at.place 0 ≡ n
number_at schema rules n at whole vs is len =
    let full : values_len vs ≡ 9 * length (key_columns schema n) = omega (arith, len, code_length schema rules n vs is, whole.len) in
    let last = last_level schema rules n vs is whole.numbers full in
    number_at_seam (key_code schema n vs) last.above last.more n at.place last.are (omega (arith, whole.place, last.len, len))

-- ---- each table of the schema

pub number_of_another_root : (schema : List Table) → MeetsRules schema → (at : WholeKey) (m : ℕ) → (root_of schema m ≡ at.root → ⊥) → HasNumberAt schema at m
number_of_another_root schema rules at m other = record {
  of = λ vs is len root.
      let split = root_split schema rules m vs is in
      absurd (other (split.named ∙ sym (ap (λ (xs : List ℕ). get_or xs 0 0) split.code) ∙ root));
}

pub number_decided : (schema : List Table) → MeetsRules schema → (at whole : WholeKey) (m : ℕ) → IsWholeKey schema m whole → IsDecided at whole → HasNumberAt schema at m
number_decided schema rules at whole m own decided = record {
  of = λ vs is len root.
      let fewer = key_fewer schema rules m vs is whole own in
      let found = decided.by fewer.nulls (omega (arith, fewer.is, len)) in
      let P : ℕ → Type 0 = λ place. get_or (key_code schema m vs) place 0 ≡ m in
      subst P found.1 (number_at schema rules m whole own vs is (omega (arith, fewer.is, found.0)));
}

-- ---- the length alone

pub no_key_of_length : (schema : List Table) → MeetsRules schema → (m len : ℕ) (whole : WholeKey) → IsWholeKey schema m whole → IsNoLengthOf whole len → HasOtherLengths schema len m
no_key_of_length schema rules m len whole own none = record {
  of = λ vs is e.
      let fewer = key_fewer schema rules m vs is whole own in
      none.by fewer.nulls (ap (λ (k : ℕ). k + 8 * fewer.nulls) (sym e) ∙ fewer.is);
}

-- one more table
pub one_more_apart : (schema : List Table) (len n i : ℕ) → ((m : ℕ) → 1 ≤ m → m ≤ i → m ≢ n → HasOtherLengths schema len m) → (i + 1 ≢ n → HasOtherLengths schema len (i + 1))
    → (m : ℕ) → 1 ≤ m → m ≤ i + 1 → m ≢ n → HasOtherLengths schema len m
one_more_apart schema len n i before here m first last other = by_test (m == i + 1) refl
  where
    by_test : (b : Bool) → (m == i + 1) ≡ b → HasOtherLengths schema len m
    by_test true is =
        let at : m ≡ i + 1 = eqb-true m (i + 1) is in
        let P : ℕ → Type 0 = HasOtherLengths schema len in
        subst P (sym at) (here (λ same. other (at ∙ same)))
    by_test false is = before m first (let apart = eqb-false m (i + 1) is in omega (arith, last, apart)) other

pub own_of_length : (schema : List Table) (n : ℕ) (at : WholeKey) → IsOwnLength schema n at → (len : ℕ) → len ≡ at.len → IsWhetherOfLength schema n len true
own_of_length schema n at is len whole = record {
  of = λ key long. record {
    of = λ r typed code.
        by_test r.table (r.table == n) refl (λ other. (is.others r.table typed.0.0.0 other).of r.key typed.0.0 (sym (ap (length {A = ℕ}) code) ∙ long ∙ whole));
  };
}
  where
    by_test : (t : ℕ) (b : Bool) → (t == n) ≡ b → (t ≢ n → ⊥) → true ≡ (t == n)
    by_test t true own none = sym own
    by_test t false own none = absurd (none (eqb-false t n own))

-- a key of another length than those of the table is none of it
pub not_of_length : (schema : List Table) → MeetsRules schema → (n : ℕ) (at : WholeKey) → IsWholeKey schema n at → (key : List ℕ) → ((nulls : ℕ) → length key + 8 * nulls ≡ at.len → ⊥) → IsWhetherOf schema n key false
not_of_length schema rules n at whole key none = record {
  of = λ r typed code.
      sym (ne_eqb r.table n (λ own.
      let P : ℕ → Type 0 = λ t. IsKey schema t r.key × (key ≡ key_code schema t r.key) in
      let here = subst P own (typed.0.0, code) in
      let fewer = key_fewer schema rules n r.key here.0 at whole in
      none fewer.nulls (omega (arith, fewer.is, ap (length {A = ℕ}) here.1))));
}

pub none_of_length : (schema : List Table) → MeetsRules schema → (n : ℕ) (at : WholeKey) → IsOwnLength schema n at → (len : ℕ) → IsNoLengthOf at len → IsWhetherOfLength schema n len false
none_of_length schema rules n at is len none = record {
  of = λ key long. not_of_length schema rules n at is.whole key (λ nulls e. none.by nulls (ap (λ (k : ℕ). k + 8 * nulls) (sym long) ∙ e));
}

-- of another length than that of the whole keys, and not less by a number of eights
pub no_length : (at : WholeKey) (len : ℕ) → is_undecided at len ≡ false → len ≢ at.len → IsNoLengthOf at len
no_length at len decided other = record {
  by = λ nulls e.
      let few : len ≤ at.len = omega (arith, e) in
      let less : nat_lt len at.len ≡ true = grind (arith, nat_tests) in
      let eights : (at.len - len) % 8 ≡ 0 = omega (arith, e) in
      let both : is_undecided at len ≡ true = ap (λ (b : Bool). b && nat_eq ((at.len - len) % 8) 0) less ∙ ap (λ (k : ℕ). nat_eq k 0) eights in
      absurd (let f : true ≡ false = sym both ∙ decided in cc);
}

pub whether_decided : (schema : List Table) → MeetsRules schema → (n : ℕ) (at : WholeKey) → IsOwnLength schema n at → (len : ℕ) → is_undecided at len ≡ false → IsWhetherOfLength schema n len (len == at.len)
whether_decided schema rules n at is len decided = by_test (len == at.len) refl
  where
    by_test : (b : Bool) → (len == at.len) ≡ b → IsWhetherOfLength schema n len b
    by_test true same = own_of_length schema n at is len (eqb-true len at.len same)
    by_test false other = none_of_length schema rules n at is len (no_length at len decided (eqb-false len at.len other))

-- ---- a key

module _ (schema : List Table) (rules : MeetsRules schema) (n : ℕ) (at : WholeKey) (is : IsTableByLength schema n at) (key : List ℕ) where
  -- no key of the table has this length
  pub other_length : ((nulls : ℕ) → length key + 8 * nulls ≡ at.len → ⊥) → IsWhetherOf schema n key false
  other_length none = not_of_length schema rules n at is.whole key none

  -- one of the length of those without NULL, and of the same root, is the table's where it has its number
  pub by_number : length key ≡ at.len → get_or key 0 0 ≡ at.root → IsWhetherOf schema n key (get_or key at.place 0 == n)
  by_number len root = record {
    of = λ r typed code.
        let here = (is.each r.table typed.0.0.0).of r.key typed.0.0 (sym (ap (length {A = ℕ}) code) ∙ len) (sym (ap (λ (xs : List ℕ). get_or xs 0 0) code) ∙ root) in
        ap (λ (t : ℕ). t == n) (ap (λ (xs : List ℕ). get_or xs at.place 0) code ∙ here);
  }

  -- its length differs by eight bytes for each NULL
  pub eighths : (nulls : ℕ) → length key + 8 * nulls ≡ at.len → (at.len - length key) % 8 ≡ 0
  eighths nulls e = omega (arith, e)

-- one more table
pub one_more : (schema : List Table) (at : WholeKey) (i : ℕ) → ((m : ℕ) → 1 ≤ m → m ≤ i → HasNumberAt schema at m) → HasNumberAt schema at (i + 1) → (m : ℕ) → 1 ≤ m → m ≤ i + 1 → HasNumberAt schema at m
one_more schema at i before here m first last = by_test (m == i + 1) refl
  where
    by_test : (b : Bool) → (m == i + 1) ≡ b → HasNumberAt schema at m
    by_test true is = let P : ℕ → Type 0 = HasNumberAt schema at in subst P (sym (eqb-true m (i + 1) is)) here
    by_test false is = before m first (let other = eqb-false m (i + 1) is in omega (arith, last, other))
