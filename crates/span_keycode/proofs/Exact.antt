-- Values that compare as equal are the same, and so are levels.
use Rattle.std.proofs.Common.{◌≡◌, ℕ, List, [], ◌∷◌, ◌++◌, Bool, true, false, refl, sym, ◌∙◌, ap, subst, append_assoc}
use Rattle.std.specs.Ordering.{nat_cmp}
use Rattle.std.specs.declared.cmp.Ordering.{Ordering}
use Rattle.std.specs.declared.cmp.Ordering.TheVariants.{Less, Equal, Greater}
use Rattle.std.proofs.lemmas.Map.Lookups.{exact_bytes}
use Rattle.span_value.specs.declared.value.Value.{Value}
use Rattle.span_value.specs.declared.value.Value.TheVariants.{Null, Int, Str, Bytes, Bool as Flag}
use Rattle.span_value.specs.declared.value.Kind.{Kind}
use Rattle.span_value.specs.declared.value.Kind.TheVariants.{Int as Numbers, Str as Texts, Bytes as Strings, Bool as Flags}
use Rattle.span_value.proofs.Comparisons.{same_number}
use Rattle.span_value.proofs.Total.{same_int}
use Rattle.span_schema.specs.declared.table.Table.{Table}
use Rattle.span_schema.specs.declared.layout.KeyPart.{KeyPart}
use Rattle.span_schema.specs.Numbers.{own_key_columns}
use Rattle.span_keycode.specs.Coding.{bit, Fits, AreFit, apply_direction, value_cmp, column_cmp, tuple_code, tuple_cmp}
use Rattle.span_keycode.specs.Keys.{Level, level_code, code_of, level_cmp}
use Rattle.span_keycode.proofs.Order.{no_front, then_is_equal}
use Rattle.span_keycode.proofs.LevelLaws.{AreLevels, decides-level}

exact_bit : (a b : Bool) → nat_cmp (bit a) (bit b) ≡ Equal → a ≡ b
exact_bit true true h = refl
exact_bit false false h = refl
exact_bit true false h = absurd (let e : Greater ≡ Equal = h in cc)
exact_bit false true h = absurd (let e : Less ≡ Equal = h in cc)

exact_value : (k : Kind) (v w : Value) → Fits k v → Fits k w → value_cmp v w ≡ Equal → v ≡ w
exact_value k Null Null f g h = refl
exact_value k Null (Int j) f g h = absurd (let e : Less ≡ Equal = h in cc)
exact_value k Null (Str j) f g h = absurd (let e : Less ≡ Equal = h in cc)
exact_value k Null (Bytes j) f g h = absurd (let e : Less ≡ Equal = h in cc)
exact_value k Null (Flag j) f g h = absurd (let e : Less ≡ Equal = h in cc)
exact_value k (Int i) Null f g h = absurd (let e : Greater ≡ Equal = h in cc)
exact_value k (Str i) Null f g h = absurd (let e : Greater ≡ Equal = h in cc)
exact_value k (Bytes i) Null f g h = absurd (let e : Greater ≡ Equal = h in cc)
exact_value k (Flag i) Null f g h = absurd (let e : Greater ≡ Equal = h in cc)
exact_value k (Int i) (Int j) f g h = ap Int (same_int i j h)
exact_value k (Str i) (Str j) f g h = ap Str (exact_bytes i j h)
exact_value k (Bytes i) (Bytes j) f g h = ap Bytes (exact_bytes i j h)
exact_value k (Flag i) (Flag j) f g h = ap Flag (exact_bit i j h)
exact_value Numbers (Int i) (Str j) f g h = absurd g
exact_value Numbers (Int i) (Bytes j) f g h = absurd g
exact_value Numbers (Int i) (Flag j) f g h = absurd g
exact_value Texts (Int i) (Str j) f g h = absurd f
exact_value Texts (Int i) (Bytes j) f g h = absurd f
exact_value Texts (Int i) (Flag j) f g h = absurd f
exact_value Strings (Int i) (Str j) f g h = absurd f
exact_value Strings (Int i) (Bytes j) f g h = absurd f
exact_value Strings (Int i) (Flag j) f g h = absurd f
exact_value Flags (Int i) (Str j) f g h = absurd f
exact_value Flags (Int i) (Bytes j) f g h = absurd f
exact_value Flags (Int i) (Flag j) f g h = absurd f
exact_value Texts (Str i) (Int j) f g h = absurd g
exact_value Texts (Str i) (Bytes j) f g h = absurd g
exact_value Texts (Str i) (Flag j) f g h = absurd g
exact_value Numbers (Str i) (Int j) f g h = absurd f
exact_value Numbers (Str i) (Bytes j) f g h = absurd f
exact_value Numbers (Str i) (Flag j) f g h = absurd f
exact_value Strings (Str i) (Int j) f g h = absurd f
exact_value Strings (Str i) (Bytes j) f g h = absurd f
exact_value Strings (Str i) (Flag j) f g h = absurd f
exact_value Flags (Str i) (Int j) f g h = absurd f
exact_value Flags (Str i) (Bytes j) f g h = absurd f
exact_value Flags (Str i) (Flag j) f g h = absurd f
exact_value Strings (Bytes i) (Int j) f g h = absurd g
exact_value Strings (Bytes i) (Str j) f g h = absurd g
exact_value Strings (Bytes i) (Flag j) f g h = absurd g
exact_value Numbers (Bytes i) (Int j) f g h = absurd f
exact_value Numbers (Bytes i) (Str j) f g h = absurd f
exact_value Numbers (Bytes i) (Flag j) f g h = absurd f
exact_value Texts (Bytes i) (Int j) f g h = absurd f
exact_value Texts (Bytes i) (Str j) f g h = absurd f
exact_value Texts (Bytes i) (Flag j) f g h = absurd f
exact_value Flags (Bytes i) (Int j) f g h = absurd f
exact_value Flags (Bytes i) (Str j) f g h = absurd f
exact_value Flags (Bytes i) (Flag j) f g h = absurd f
exact_value Flags (Flag i) (Int j) f g h = absurd g
exact_value Flags (Flag i) (Str j) f g h = absurd g
exact_value Flags (Flag i) (Bytes j) f g h = absurd g
exact_value Numbers (Flag i) (Int j) f g h = absurd f
exact_value Numbers (Flag i) (Str j) f g h = absurd f
exact_value Numbers (Flag i) (Bytes j) f g h = absurd f
exact_value Texts (Flag i) (Int j) f g h = absurd f
exact_value Texts (Flag i) (Str j) f g h = absurd f
exact_value Texts (Flag i) (Bytes j) f g h = absurd f
exact_value Strings (Flag i) (Int j) f g h = absurd f
exact_value Strings (Flag i) (Str j) f g h = absurd f
exact_value Strings (Flag i) (Bytes j) f g h = absurd f

exact_directed : (d : Bool) (o : Ordering) → apply_direction d o ≡ Equal → o ≡ Equal
exact_directed false o h = h
exact_directed true Less h = absurd (let e : Greater ≡ Equal = h in cc)
exact_directed true Equal h = refl
exact_directed true Greater h = absurd (let e : Less ≡ Equal = h in cc)

pub exact_column : (c : KeyPart) (v w : Value) → Fits c.kind v → Fits c.kind w → column_cmp c v w ≡ Equal → v ≡ w
exact_column c v w f g h = exact_value c.kind v w f g (exact_directed c.desc (value_cmp v w) h)

pub exact_tuple : (cs : List KeyPart) (vs ws : List Value) → AreFit cs vs → AreFit cs ws → tuple_cmp cs vs ws ≡ Equal → vs ≡ ws
exact_tuple [] [] [] f g h = refl
exact_tuple [] (v ∷ vs) ws f g h = absurd f
exact_tuple [] [] (w ∷ ws) f g h = absurd g
exact_tuple (c ∷ cs) [] ws f g h = absurd f
exact_tuple (c ∷ cs) (v ∷ vs) [] f g h = absurd g
exact_tuple (c ∷ cs) (v ∷ vs) (w ∷ ws) f g h =
    let both = then_is_equal (column_cmp c v w) _ h in
    joined v w vs ws (exact_column c v w f.0 g.0 both.0) (exact_tuple cs vs ws f.1 g.1 both.1)
  where
    joined : (a b : Value) (xs ys : List Value) → a ≡ b → xs ≡ ys → a ∷ xs ≡ b ∷ ys
    joined a b xs ys e f = cc

exact_level : (tables : List Table) (l m : Level) → AreFit (own_key_columns tables l.table) l.values → AreFit (own_key_columns tables m.table) m.values → level_cmp tables l m ≡ Equal → l ≡ m
exact_level tables l m f g h =
    let both = then_is_equal (nat_cmp l.table m.table) _ h in
    let same : l.table ≡ m.table = same_number l.table m.table both.0 in
    let R : ℕ → Type 0 = λ t. AreFit (own_key_columns tables t) m.values in
    made l.table m.table l.values m.values same (exact_tuple (own_key_columns tables l.table) l.values m.values f (subst R (sym same) g) both.1)
  where
    made : (s t : ℕ) (vs ws : List Value) → s ≡ t → vs ≡ ws → ◌≡◌ {A = Level} (record { table = s; values = vs }) (record { table = t; values = ws })
    made s t vs ws e f = cc

-- the levels of a key are in front of the levels of every key that its coding begins
pub levels_begin : (tables : List Table) (ls ms : List Level) (rest : List ℕ) → AreLevels tables ls → AreLevels tables ms → code_of tables ls ++ rest ≡ code_of tables ms
    → (more : List Level) × (ms ≡ ls ++ more) × (rest ≡ code_of tables more)
levels_begin tables [] ms rest f g h = (ms, refl, h)
levels_begin tables (l ∷ ls) [] rest f g h = absurd (let e : l.table ∷ ((tuple_code (own_key_columns tables l.table) l.values ++ code_of tables ls) ++ rest) ≡ [] = h in cc)
levels_begin tables (l ∷ ls) (m ∷ ms) rest f g h =
    let e : level_code tables l ++ (code_of tables ls ++ rest) ≡ level_code tables m ++ code_of tables ms = sym (append_assoc (level_code tables l) (code_of tables ls) rest) ∙ h in
    let both = no_front (level_code tables l) (level_code tables m) (code_of tables ls ++ rest) (code_of tables ms) (level_cmp tables l m) (decides-level tables l m f.0 g.0) e in
    let again = levels_begin tables ls ms rest f.1 g.1 (exact_bytes _ _ both.1) in
    (again.0, joined l m ms (ls ++ again.0) (exact_level tables l m f.0 g.0 both.0) again.1, again.2)
  where
    joined : (a b : Level) (xs ys : List Level) → a ≡ b → xs ≡ ys → b ∷ xs ≡ a ∷ ys
    joined a b xs ys e f = cc
