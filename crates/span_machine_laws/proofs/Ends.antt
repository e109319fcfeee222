-- A key under a root row is below an end of a range just where the root row's is, and so it is in a range just where that is.
use Rattle.std.proofs.Common.{◌≡◌, ◌≢◌, ℕ, Bool, true, not, ◌&&◌, List, [], ◌∷◌, ◌++◌, length, map, take, drop, refl, ap, sym, ◌∙◌, subst, inl, inr}
use Rattle.std.specs.Ordering.{is_lt, nat_cmp, ordering_then}
use Rattle.std.specs.declared.cmp.Ordering.{Ordering}
use Rattle.std.specs.declared.cmp.Ordering.TheVariants.{Less, Equal, Greater}
use Rattle.std.proofs.lemmas.List.{append-nil}
use Rattle.std.proofs.lemmas.Map.Lookups.{exact_unsigned}
use Rattle.span_schema.specs.declared.table.Table.{Table}
use Rattle.span_schema.specs.Lineages.{MeetsRules}
use Rattle.span_schema.specs.Numbers.{root_of, path_of}
use Rattle.span_schema.proofs.Numbered.{path_has}
use Rattle.span_keycode.specs.declared.range.KeyRange.{KeyRange}
use Rattle.span_keycode.specs.Keys as keys
use Rattle.span_keycode.specs.Keys.{IsKey, key_code, level_of}
use Rattle.span_keycode.specs.Order.{byte_order, Decides}
use Rattle.span_keycode.specs.Parts.{is_within}
use Rattle.span_keycode.proofs.KeyLaws.{order_in_table}
use Rattle.span_keycode.specs.Coding.{Fits}
use Rattle.span_keycode.specs.Ranges.{range_start, range_end}
use Rattle.span_mutate.specs.Directories.{Root, key_len, root_row}
use Rattle.span_mutate.specs.declared.row.TableRow.{TableRow}
use Rattle.span_mutate.specs.Typed.{IsTyped}
use Rattle.span_maderows.specs.Made.{begins_with}
use Rattle.span_maderows.proofs.Bytes.{begins_front, front_begins}
use Rattle.span_shard.specs.Rows.{code_of}
use Rattle.span_leaves.proofs.Bounding.{fits_type}
use Rattle.span_machine.specs.Slots.{IsCodedRoot, root_code}
use Rattle.span_machine_laws.proofs.BoundEnds.{below_start, below_end, first_less}
use Rattle.span_machine_laws.proofs.CodedRoots.{first_and_rest, coded_root_of}
use Rattle.span_machine_laws.proofs.FirstColumns.{first_of_family}
use Rattle.span_machine_laws.proofs.Pieces.{IsBoundEnd, IsEnd, AreEnds}

-- ---- bytes that go on

not_less_nil : (xs : List ℕ) → is_lt (byte_order xs []) ≡ is_lt (byte_order [] [])
not_less_nil [] = refl
not_less_nil (x ∷ xs) = refl

then_less : (o : Ordering) (xs : List ℕ) → is_lt (ordering_then o (byte_order xs [])) ≡ is_lt (ordering_then o (byte_order [] []))
then_less Less xs = refl
then_less Equal xs = not_less_nil xs
then_less Greater xs = refl

-- where whatever follows does not decide, bytes that go on are below others just where they are
less_by : (p q : List ℕ) (o : Ordering) → Decides p q o → (rest : List ℕ) → is_lt (byte_order (p ++ rest) q) ≡ is_lt (byte_order p q)
less_by p q o d rest =
    ap (λ (l : List ℕ). is_lt (byte_order (p ++ rest) l)) (sym (append-nil q)) ∙ ap is_lt (d.at rest [])
    ∙ then_less o rest
    ∙ sym (ap is_lt (d.at [] [])) ∙ ap (λ (l : List ℕ). is_lt (byte_order l (q ++ []))) (append-nil p) ∙ ap (λ (l : List ℕ). is_lt (byte_order p l)) (append-nil q)

-- ---- codings of root rows

module _ (schema : List Table) (rules : MeetsRules schema) where
  -- the coding of a root row's key begins with the number of its table
  code_front : (root : Root) → IsCodedRoot schema root → (rest : List ℕ) × (key_code schema root.table root.key ≡ root.table ∷ rest)
  code_front root is =
      let path : path_of schema root.table ≡ root_of schema root.table ∷ drop 1 (path_of schema root.table) = first_and_rest (path_of schema root.table) (path_has schema _) in
      let from : path_of schema root.table ≡ root.table ∷ drop 1 (path_of schema root.table) = path ∙ ap (λ (t : ℕ). t ∷ drop 1 (path_of schema root.table)) is.0 in
      (_, ap (λ (ts : List ℕ). keys.code_of schema (map (level_of schema root.key) ts)) from)

  -- a key under a root row is below the coding of another root row just where the root row's is
  abbrev pub IsBelowAlike : Root → Root → List ℕ → Type 0
  IsBelowAlike root q rest = is_lt (byte_order (key_code schema root.table root.key ++ rest) (key_code schema q.table q.key)) ≡ is_lt (byte_order (key_code schema root.table root.key) (key_code schema q.table q.key))

  pub less_under : (root q : Root) → IsCodedRoot schema root → IsCodedRoot schema q → (rest : List ℕ) → IsBelowAlike root q rest
  less_under root q is is_q rest = by_tables (nat_cmp root.table q.table) refl
    where
      apart : (o : Ordering) → nat_cmp root.table q.table ≡ o → o ≢ Equal → IsBelowAlike root q rest
      apart o e off =
          let front = code_front root is in
          let front_q = code_front q is_q in
          ap (λ (l : List ℕ). is_lt (byte_order (l ++ rest) (key_code schema q.table q.key))) front.1
          ∙ ap (λ (l : List ℕ). is_lt (byte_order (root.table ∷ (front.0 ++ rest)) l)) front_q.1
          ∙ first_less root.table q.table (front.0 ++ rest) front.0 front_q.0 o e off
          ∙ sym (ap (λ (l : List ℕ). is_lt (byte_order l (q.table ∷ front_q.0))) front.1)
          ∙ sym (ap (λ (l : List ℕ). is_lt (byte_order (key_code schema root.table root.key) l)) front_q.1)

      by_tables : (o : Ordering) → nat_cmp root.table q.table ≡ o → IsBelowAlike root q rest
      by_tables Less e = apart Less e (λ f. cc)
      by_tables Greater e = apart Greater e (λ f. cc)
      by_tables Equal e =
          let same : root.table ≡ q.table = exact_unsigned root.table q.table e in
          let of_q : IsKey schema root.table q.key = subst (λ (n : ℕ). IsKey schema n q.key) (sym same) is_q.1.0 in
          ap (λ (n : ℕ). is_lt (byte_order (key_code schema root.table root.key ++ rest) (key_code schema n q.key))) (sym same)
          ∙ less_by (key_code schema root.table root.key) (key_code schema root.table q.key) _ (order_in_table schema rules root.table root.key q.key is.1.0 of_q) rest
          ∙ ap (λ (n : ℕ). is_lt (byte_order (key_code schema root.table root.key) (key_code schema n q.key))) same

  -- ---- ends of ranges

  module _ (root : Root) (is : IsCodedRoot schema root) (k : List ℕ) (under : begins_with k (key_code schema root.table root.key) ≡ true) where
    whole : key_code schema root.table root.key ++ drop (length (key_code schema root.table root.key)) k ≡ k
    whole = begins_front k (key_code schema root.table root.key) under

    pub less_cut : (q : Root) → IsCodedRoot schema q → is_lt (byte_order k (key_code schema q.table q.key)) ≡ is_lt (byte_order (key_code schema root.table root.key) (key_code schema q.table q.key))
    less_cut q is_q = ap (λ (l : List ℕ). is_lt (byte_order l (key_code schema q.table q.key))) (sym whole) ∙ less_under root q is is_q _

    -- also below an end that is the number of a table alone
    less_number : (n : ℕ) → is_lt (byte_order k (n ∷ [])) ≡ is_lt (byte_order (key_code schema root.table root.key) (n ∷ []))
    less_number n =
        let front = code_front root is in
        let rest : List ℕ = drop (length (key_code schema root.table root.key)) k in
        let code : k ≡ root.table ∷ (front.0 ++ rest) = sym whole ∙ ap (λ (l : List ℕ). l ++ rest) front.1 in
        ap (λ (l : List ℕ). is_lt (byte_order l (n ∷ []))) code
        ∙ then_less (nat_cmp root.table n) (front.0 ++ rest) ∙ sym (then_less (nat_cmp root.table n) front.0)
        ∙ sym (ap (λ (l : List ℕ). is_lt (byte_order l (n ∷ []))) front.1)

    -- also below an end of the range of a comparison of the first key column
    less_bound : (key : List ℕ) → IsBoundEnd schema key → is_lt (byte_order k key) ≡ is_lt (byte_order (key_code schema root.table root.key) key)
    less_bound key bound =
        let has = first_of_family schema rules bound.table bound.part bound.parts bound.columns in
        let fits : Fits bound.part.kind bound.value = fits_type bound.part.kind bound.value bound.typed in
        let code : List ℕ = key_code schema root.table root.key in
        let rest : List ℕ = drop (length code) k in
        ap (λ (l : List ℕ). is_lt (byte_order l key)) (sym whole)
        ∙ elim bound.is [
          | inl start ↦ at_end (code ++ rest) code key (range_start (root_of schema bound.table) bound.part bound.comparison bound.value) start
              (below_start schema rules root.table root.key is.1.0 (root_of schema bound.table) bound.part has.parts has.own bound.value fits rest bound.comparison)
          | inr end ↦ at_end (code ++ rest) code key (range_end (root_of schema bound.table) bound.part bound.comparison bound.value) end
              (below_end schema rules root.table root.key is.1.0 (root_of schema bound.table) bound.part has.parts has.own bound.value fits rest bound.comparison)
        ]
      where
        at_end : (whole code key end : List ℕ) → key ≡ end → is_lt (byte_order whole end) ≡ is_lt (byte_order code end) → is_lt (byte_order whole key) ≡ is_lt (byte_order code key)
        at_end whole code key end same alike = ap (λ (l : List ℕ). is_lt (byte_order whole l)) same ∙ alike ∙ sym (ap (λ (l : List ℕ). is_lt (byte_order code l)) same)

    pub less_end : (key : List ℕ) → IsEnd schema key → is_lt (byte_order k key) ≡ is_lt (byte_order (root_code schema root) key)
    unfolding root_code
    less_end key (inl cut) = ap (λ (l : List ℕ). is_lt (byte_order k l)) cut.2 ∙ less_cut cut.0 cut.1 ∙ ap (λ (l : List ℕ). is_lt (byte_order (key_code schema root.table root.key) l)) (sym cut.2)
    less_end key (inr (inl number)) = ap (λ (l : List ℕ). is_lt (byte_order k l)) number.1 ∙ less_number number.0 ∙ ap (λ (l : List ℕ). is_lt (byte_order (key_code schema root.table root.key) l)) (sym number.1)
    less_end key (inr (inr bound)) = less_bound key bound

    -- a range with such ends has the key just where it has the root row's
    pub within_as_root : (range : KeyRange) → AreEnds schema range → is_within range k ≡ is_within range (root_code schema root)
    within_as_root range ends =
        ap (λ (b : Bool). not b && is_lt (byte_order k range.high)) (less_end range.low ends.0)
        ∙ ap (λ (b : Bool). not (is_lt (byte_order (root_code schema root) range.low)) && b) (less_end range.high ends.1)

  -- a row's key is below an end just where the key of its root row is
  pub below_as_root : (r : TableRow) → IsTyped schema r → (key : List ℕ) → IsEnd schema key
      → is_lt (byte_order (code_of schema r) key) ≡ is_lt (byte_order (key_code schema (root_of schema r.table) (take (key_len schema (root_of schema r.table)) r.key)) key)
  unfolding root_code
  below_as_root r typed key end =
      let root = coded_root_of schema rules r.table r.key typed.0.0 typed.0.1 in
      let own : List ℕ = key_code schema (root_of schema r.table) (take (key_len schema (root_of schema r.table)) r.key) in
      let under : begins_with (code_of schema r) own ≡ true = subst (λ (l : List ℕ). begins_with l own ≡ true) (sym root.1.1) (front_begins own root.1.0) in
      less_end (root_row schema r.table r.key) root.0 (code_of schema r) under key end
