-- The numbers of whole keys, each at one place.
use Rattle.std.proofs.Common.{◌≡◌, ℕ, ℤ, suc, ◌+◌, ◌*◌, ◌<◌, ◌≤◌, List, [], ◌∷◌, ◌++◌, Bool, true, false, Option, Some, None, IfSome, refl, sym, ◌∙◌, ap, subst, append_assoc, arith, length, length-drop, drop, take, get_or, set, if◌then◌else◌}
use Rattle.std.specs.Int.{to_be_bytes, w64}
use Rattle.std.specs.List.{list_all}
use Rattle.std.proofs.Math.Seq.{drop-append_seam}
use Rattle.std.proofs.lemmas.Bool.{and_parts}
use Rattle.std.proofs.lemmas.List.{drop_more, drop-drop, drop_all, take-append-drop, take-map}
use Rattle.span_value.specs.declared.value.Value.{Value}
use Rattle.span_value.specs.declared.value.Value.TheVariants as value
use Rattle.span_value.specs.declared.value.Value.TheVariants.{Int}
use Rattle.span_value.specs.declared.value.Kind.{Kind}
use Rattle.span_value.specs.declared.value.Kind.TheVariants as kind
use Rattle.span_schema.specs.declared.table.Table.{Table}
use Rattle.span_schema.specs.declared.layout.KeyPart.{KeyPart}
use Rattle.span_schema.specs.Lineages.{MeetsRules}
use Rattle.span_schema.specs.Numbers.{key_columns, key_places, path_of}
use Rattle.span_keycode.specs.Order.{flipped}
use Rattle.span_keycode.specs.Coding.{Fits, AreFit, plain, in_direction, column_code, to_unsigned}
use Rattle.span_keycode.specs.Keys.{key_code, values_len}
use Rattle.span_keycode.specs.Reads.{IsColumn}
use Rattle.span_keycode.proofs.Lengths.{length_directed}
use Rattle.span_keycode.proofs.Once.{column_once}
use Rattle.span_keycode.proofs.Plains.{turned_twice}
use Rattle.span_rowreader.specs.declared.key_numbers.KeyNumber.{KeyNumber}
use Rattle.span_rowreader.specs.declared.key_numbers.KeyNumbers.{KeyNumbers}
use Rattle.span_rowreader.specs.declared.reads.KeyRead.{KeyRead}
use Rattle.span_entries.specs.declared.whole_key.WholeKey.{WholeKey}
use Rattle.span_rowreader.specs.KeyNumbers.{IsNumberCoded, IsNumberFound, AreNumbersCoded, with_numbers, AreNumbersPut, AreWithin, with_number, numbers_of, IsNumberAdded, AreNumbersOf, HasNumbers, AreKeyNumbers, AreWholeNumbers}
use Rattle.span_rowreader.specs.Placed.{is_wanted, placed, IsKeyPut}
use Rattle.span_rowreader.specs.Reads.{key_reads, places_of, AreReadsOf, IsCodedAt, AreCoded}
use Rattle.span_entries.specs.Steps.{key_steps}
use Rattle.span_entries.specs.WholeKeys.{is_number, IsWholeKey}
use Rattle.span_rowreader.proofs.KeyReads.{key_coded, coded_some, placed_some, past_front}
use Rattle.span_rowreader.proofs.Placing.{put_wanted, put_not}
use Rattle.span_entries.proofs.WholeKeys.{number_kind, one_fewer, numbers_fewer, code_length}

-- ---- the number at a place

one_more : (k : ℕ) (bs : List ℕ) (at next : ℕ) → at < length bs → next ≡ at + 1 → take (suc k) (drop at bs) ≡ get_or bs at 0 ∷ take k (drop next bs)
one_more k bs at next less e = ap (take (suc k)) (drop_more bs at 0 less) ∙ ap (λ (j : ℕ). get_or bs at 0 ∷ take k (drop j bs)) (sym e)

pub eight_bytes : (bs : List ℕ) (at : ℕ) → at + 8 ≤ length bs
    → get_or bs at 0 ∷ get_or bs (at + 1) 0 ∷ get_or bs (at + 2) 0 ∷ get_or bs (at + 3) 0 ∷ get_or bs (at + 4) 0 ∷ get_or bs (at + 5) 0 ∷ get_or bs (at + 6) 0 ∷ get_or bs (at + 7) 0 ∷ [] ≡ take 8 (drop at bs)
eight_bytes bs at long =
    let b : ℕ → ℕ = λ k. get_or bs k 0 in
    sym (one_more 7 bs at (at + 1) (omega arith) (omega arith)
    ∙ ap (λ (l : List ℕ). b at ∷ l) (one_more 6 bs (at + 1) (at + 2) (omega arith) (omega arith)
    ∙ ap (λ (l : List ℕ). b (at + 1) ∷ l) (one_more 5 bs (at + 2) (at + 3) (omega arith) (omega arith)
    ∙ ap (λ (l : List ℕ). b (at + 2) ∷ l) (one_more 4 bs (at + 3) (at + 4) (omega arith) (omega arith)
    ∙ ap (λ (l : List ℕ). b (at + 3) ∷ l) (one_more 3 bs (at + 4) (at + 5) (omega arith) (omega arith)
    ∙ ap (λ (l : List ℕ). b (at + 4) ∷ l) (one_more 2 bs (at + 5) (at + 6) (omega arith) (omega arith)
    ∙ ap (λ (l : List ℕ). b (at + 5) ∷ l) (one_more 1 bs (at + 6) (at + 7) (omega arith) (omega arith)
    ∙ ap (λ (l : List ℕ). b (at + 6) ∷ l) (one_more 0 bs (at + 7) (at + 8) (omega arith) (omega arith)))))))))

-- the mark of a value that is not NULL
abbrev mark : Bool → ℕ
mark false = 1
mark true = flipped 1

marked : (way : Bool) (bs : List ℕ) → in_direction way (1 ∷ bs) ≡ mark way ∷ in_direction way bs
marked false bs = refl
marked true bs = refl

pub number_found : (way : Bool) (key : List ℕ) (at : ℕ) (eight : List ℕ) (word : ℕ) (found : ℤ) → at + 9 ≤ length key → eight ≡ take 8 (drop (at + 1) key) → in_direction way eight ≡ to_be_bytes w64 word → to_unsigned found ≡ word → Fits kind.Int (Int found)
    → IsNumberFound way (drop at key) found
number_found way key at eight word found long is spelled number fits = record {
  is = λ z coded.
      let c : KeyPart = record { kind = kind.Int; desc = way } in
      let bs : List ℕ = drop at key in
      let digits : List ℕ = to_be_bytes w64 (to_unsigned z) in
      let front : bs ≡ mark way ∷ (in_direction way digits ++ coded.more) = coded.code ∙ ap (λ (l : List ℕ). l ++ coded.more) (marked way digits) in
      let rest : bs ≡ mark way ∷ drop 1 bs = front ∙ ap (λ (l : List ℕ). mark way ∷ drop 1 l) (sym front) in
      let here : take 8 (drop 1 bs) ≡ eight = ap (take 8) (drop-drop 1 at key) ∙ sym is in
      let turned : eight ≡ in_direction way (to_be_bytes w64 (to_unsigned found)) = sym (turned_twice way eight) ∙ ap (in_direction way) (spelled ∙ ap (to_be_bytes w64) (sym number)) in
      let past : drop 8 (drop 1 bs) ≡ drop 9 bs = drop-drop 8 1 bs in
      let read : IsColumn c bs (Int found) 9 = record {
        fits = fits;
        code = rest
            ∙ ap (λ (l : List ℕ). mark way ∷ l) (sym (take-append-drop 8 (drop 1 bs)))
            ∙ ap (λ (l : List ℕ). mark way ∷ (l ++ drop 8 (drop 1 bs))) (here ∙ turned)
            ∙ ap (λ (l : List ℕ). mark way ∷ (in_direction way (to_be_bytes w64 (to_unsigned found)) ++ l)) past
            ∙ ap (λ (l : List ℕ). l ++ drop 9 bs) (sym (marked way (to_be_bytes w64 (to_unsigned found))));
        within = omega (arith, long, length-drop at key);
      } in
      let same : Int z ≡ Int found = (column_once c bs (Int found) (Int z) 9 coded.more read coded.fits coded.code).0 in
      cc;
}

-- ---- number after number

-- the numbers that are left, and what is put of all
pub record NumbersLeft (xs : List KeyNumber) (key : List ℕ) (row all : List Value) : Type 0 where
  pub numbers : List ℤ
  pub coded : AreNumbersCoded xs key numbers
  pub put : all ≡ with_numbers xs numbers row

number_done : (x : KeyNumber) (xs : List KeyNumber) (key : List ℕ) (row new all : List Value) (found : ℤ) → IsNumberFound x.desc (drop x.at key) found → new ≡ set row x.place (Int found) → NumbersLeft (x ∷ xs) key row all → NumbersLeft xs key new all
number_done x xs key row new all found one added left = by_numbers left.numbers left.coded left.put
  where
    by_numbers : (zs : List ℤ) → AreNumbersCoded (x ∷ xs) key zs → all ≡ with_numbers (x ∷ xs) zs row → NumbersLeft xs key new all
    by_numbers [] coded so = absurd coded
    by_numbers (z ∷ zs) coded so =
        let same : set row x.place (Int z) ≡ new = ap (λ (n : ℤ). set row x.place (Int n)) (one.is z coded.0) ∙ sym added in
        record { numbers = zs; coded = coded.1; put = so ∙ ap (with_numbers xs zs) same }

-- of whatever numbers the key has, those that are left at a place of the list
abbrev pub NumbersLeftAt : List KeyNumber → List ℕ → List Value → ℕ → List Value → Type 0
NumbersLeftAt xs key old i row = (zs : List ℤ) → AreNumbersCoded xs key zs → NumbersLeft (drop i xs) key row (with_numbers xs zs old)

pub all_numbers_left : (xs : List KeyNumber) (key : List ℕ) (old : List Value) → NumbersLeftAt xs key old 0 old
all_numbers_left xs key old zs coded = record { numbers = zs; coded = coded; put = refl }

pub number_next : (xs : List KeyNumber) (key : List ℕ) (old row new : List Value) (i : ℕ) (d : KeyNumber) (found : ℤ) → i < length xs → IsNumberFound (get_or xs i d).desc (drop (get_or xs i d).at key) found → new ≡ set row (get_or xs i d).place (Int found)
    → NumbersLeftAt xs key old i row → NumbersLeftAt xs key old (i + 1) new
number_next xs key old row new i d found less one added left zs coded =
    let all = with_numbers xs zs old in
    let P : List KeyNumber → Type 0 = λ l. NumbersLeft l key row all in
    number_done (get_or xs i d) (drop (i + 1) xs) key row new all found one added (subst P (drop_more xs i d less) (left zs coded))

pub numbers_end : (xs : List KeyNumber) (key : List ℕ) (old row : List Value) (i : ℕ) → length xs ≤ i → NumbersLeftAt xs key old i row → AreNumbersPut xs key old row
numbers_end xs key old row i over left = record {
  put = λ zs coded.
      let all = with_numbers xs zs old in
      let P : List KeyNumber → Type 0 = λ l. NumbersLeft l key row all in
      let done = subst P (drop_all i xs over) (left zs coded) in
      sym done.put;
}

-- ---- the numbers of columns

within_push : (len : ℕ) (xs : List KeyNumber) (x : KeyNumber) → x.at + 9 ≤ len → AreWithin len xs → AreWithin len (xs ++ x ∷ [])
within_push len [] x here all = (here, tt)
within_push len (y ∷ xs) x here all = (all.0, within_push len xs x here all.1)

pub unwanted_added : (r : KeyRead) (at len : ℕ) (ms : List Bool) (old : List KeyNumber) (next : ℕ) → is_wanted ms r.place ≡ false → next ≡ at + r.above + 9 → IsNumberAdded r at len ms old old next
unwanted_added r at len ms old next unwanted is = record {
  next_is = is;
  added = λ later. sym (ap (λ (b : Bool). old ++ (if b then record { at = at + r.above; desc = r.column.desc; place = r.place } ∷ later else later)) unwanted);
  within = λ all. all;
}

pub wanted_added : (r : KeyRead) (at len : ℕ) (ms : List Bool) (old new : List KeyNumber) (next : ℕ) → is_wanted ms r.place ≡ true → next ≡ at + r.above + 9 → next ≤ len → new ≡ old ++ record { at = at + r.above; desc = r.column.desc; place = r.place } ∷ [] → IsNumberAdded r at len ms old new next
wanted_added r at len ms old new next wanted is fits e = record {
  next_is = is;
  added = λ later.
      let x : KeyNumber = record { at = at + r.above; desc = r.column.desc; place = r.place } in
      ap (λ (l : List KeyNumber). l ++ later) e ∙ append_assoc old (x ∷ []) later ∙ sym (ap (λ (b : Bool). old ++ (if b then x ∷ later else later)) wanted);
  within = λ all.
      let x : KeyNumber = record { at = at + r.above; desc = r.column.desc; place = r.place } in
      let here : x.at + 9 ≤ len = omega (arith, is, fits) in
      subst (AreWithin len) (sym e) (within_push len old x here all);
}

pub numbers_next : (reads : List KeyRead) (ms : List Bool) (all : List KeyNumber) (i at len : ℕ) (old new : List KeyNumber) (next : ℕ) (d : KeyRead) → i < length reads → IsNumberAdded (get_or reads i d) at len ms old new next
    → old ++ numbers_of (drop i reads) at ms ≡ all → new ++ numbers_of (drop (i + 1) reads) next ms ≡ all
numbers_next reads ms all i at len old new next d less one so =
    let r : KeyRead = get_or reads i d in
    let later : List KeyRead = drop (i + 1) reads in
    ap (λ (k : ℕ). new ++ numbers_of later k ms) one.next_is
    ∙ one.added (numbers_of later (at + r.above + 9) ms)
    ∙ ap (λ (l : List KeyRead). old ++ numbers_of l at ms) (sym (drop_more reads i d less)) ∙ so

-- ---- a key without NULL

-- each value is a number
abbrev AreNumbers : List Value → Type 0
AreNumbers [] = Unit {0}
AreNumbers (v ∷ vs) = ((z : ℤ) × (v ≡ Int z)) × AreNumbers vs

number_of : (v : Value) → Fits kind.Int v → length (plain v) ≡ 9 → (z : ℤ) × (v ≡ Int z)
number_of value.Null fits nine = absurd (omega (arith, nine))
number_of (value.Int z) fits nine = (z, refl)
number_of (value.Str bs) fits nine = absurd fits
number_of (value.Bytes bs) fits nine = absurd fits
number_of (value.Bool b) fits nine = absurd fits

all_numbers : (cs : List KeyPart) (vs : List Value) → list_all is_number cs ≡ true → AreFit cs vs → values_len vs ≡ 9 * length cs → AreNumbers vs
all_numbers [] [] all fit full = tt
all_numbers [] (v ∷ vs) all fit full = absurd fit
all_numbers (c ∷ cs) [] all fit full = tt
all_numbers (c ∷ cs) (v ∷ vs) all fit full =
    let both = and_parts (is_number c) (list_all is_number cs) all in
    let P : Kind → Type 0 = λ k. Fits k v in
    let fits : Fits kind.Int v = subst P (number_kind c.kind both.0) fit.0 in
    let one = one_fewer v fits in
    let more = numbers_fewer cs vs both.1 fit.1 in
    let nine : length (plain v) ≡ 9 = omega (arith, full, one.is, more.is) in
    let rest : values_len vs ≡ 9 * length cs = omega (arith, full, nine) in
    (number_of v fits nine, all_numbers cs vs both.1 fit.1 rest)

int_fits : (k : Kind) (z : ℤ) → Fits k (Int z) → Fits kind.Int (Int z)
int_fits kind.Int z fits = fits
int_fits kind.Str z fits = absurd fits
int_fits kind.Bytes z fits = absurd fits
int_fits kind.Bool z fits = absurd fits

past_nine : (c : KeyPart) (z : ℤ) (more : List ℕ) → drop 9 (column_code c (Int z) ++ more) ≡ more
past_nine c z more =
    let len : length (column_code c (Int z)) ≡ 9 = omega (arith, length_directed c.desc (plain (Int z))) in
    ap (λ (k : ℕ). drop k (column_code c (Int z) ++ more)) (sym len) ∙ drop-append_seam (column_code c (Int z)) more

first_places : (count : ℕ) (ps : List ℕ) (rs all : List KeyRead) → rs ≡ take count all → places_of all ≡ ps → places_of rs ≡ take count ps
first_places count ps rs all e places = ap (λ (l : List KeyRead). places_of l) e ∙ sym (take-map (λ (r : KeyRead). r.place) count all) ∙ ap (take count) places

-- the numbers of a key's columns are at their places
module _ (ms : List Bool) (r : KeyRead) (rs : List KeyRead) (v : Value) (vs : List Value) (key : List ℕ) (at : ℕ) (z : ℤ) (is : v ≡ Int z) (more : List ℕ) (one : IsCodedAt r v (drop at key) more) where
  from : drop (at + r.above) key ≡ column_code r.column (Int z) ++ more
  from = sym (drop-drop r.above at key) ∙ past_front r v (drop at key) more one ∙ ap (λ (u : Value). column_code r.column u ++ more) is

  past_number : more ≡ drop (at + r.above + 9) key
  past_number = sym (past_nine r.column z more) ∙ ap (drop 9) (sym from) ∙ drop-drop 9 (at + r.above) key

  here : IsNumberCoded r.column.desc (drop (at + r.above) key) z
  here = let P : Value → Type 0 = λ u. Fits r.column.kind u in record { more = more; fits = int_fits r.column.kind z (subst P is one.fits); code = from }

  abbrev HasAll : List KeyNumber → Type 0
  HasAll l = HasNumbers l (r.place ∷ places_of rs) ms (v ∷ vs) key

  number_coded : (b : Bool) → is_wanted ms r.place ≡ b → (xs : List KeyNumber) → HasNumbers xs (places_of rs) ms vs key → HasAll (with_number r at ms xs)
  number_coded true wanted xs again =
      let x : KeyNumber = record { at = at + r.above; desc = r.column.desc; place = r.place } in
      let list : with_number r at ms xs ≡ x ∷ xs = ap (λ (b : Bool). if b then x ∷ xs else xs) wanted in
      subst HasAll (sym list) (record {
        numbers = z ∷ again.numbers;
        coded = (here, again.coded);
        put = λ row.
            let new : List Value = set row r.place (Int z) in
            again.put new ∙ ap (λ (l : List Value). placed ms (places_of rs) vs l) (put_wanted ms r.place (Int z) v row new wanted refl is);
      })
  number_coded false unwanted xs again =
      let x : KeyNumber = record { at = at + r.above; desc = r.column.desc; place = r.place } in
      let list : with_number r at ms xs ≡ xs = ap (λ (b : Bool). if b then x ∷ xs else xs) unwanted in
      subst HasAll (sym list) (record {
        numbers = again.numbers;
        coded = again.coded;
        put = λ row. again.put row ∙ ap (λ (l : List Value). placed ms (places_of rs) vs l) (put_not ms r.place v row unwanted);
      })

numbers_coded : (ms : List Bool) (rs : List KeyRead) (vs : List Value) (key : List ℕ) (at : ℕ) → AreCoded rs vs (drop at key) → AreNumbers vs → HasNumbers (numbers_of rs at ms) (places_of rs) ms vs key
numbers_coded ms [] vs key at coded ints = record { numbers = []; coded = tt; put = λ row. refl }
numbers_coded ms (r ∷ rs) [] key at coded ints = absurd coded
numbers_coded ms (r ∷ rs) (v ∷ vs) key at coded ints =
    let z : ℤ = ints.0.0 in
    let more : List ℕ = coded.0 in
    let past : more ≡ drop (at + r.above + 9) key = past_number ms r rs v vs key at z ints.0.1 more coded.1.0 in
    let again = numbers_coded ms rs vs key (at + r.above + 9) (subst (AreCoded rs vs) past coded.1.1) ints.1 in
    number_coded ms r rs v vs key at z ints.0.1 more coded.1.0 (is_wanted ms r.place) refl (numbers_of rs (at + r.above + 9) ms) again

module _ (schema : List Table) (rules : MeetsRules schema) (n : ℕ) (ms : List Bool) (rs : List KeyRead) (whole : WholeKey) (own : IsWholeKey schema n whole) where
  key_numbers_are : (k : KeyNumbers) → AreNumbersOf rs ms whole.len k → (ps : List ℕ) → length ps ≡ length (key_places schema n) → AreReadsOf schema n ps ms rs → AreKeyNumbers schema n ps ms k
  key_numbers_are k numbers ps many are = record {
    within = numbers.within;
    of = λ vs is len.
        let key : List ℕ = key_code schema n vs in
        let all : List KeyRead = key_reads (key_steps schema n) 0 ps in
        let full : values_len vs ≡ 9 * length (key_columns schema n) = omega (arith, len, numbers.len_is, code_length schema rules n vs is, whole_len) in
        let ints = all_numbers (key_columns schema n) vs own.numbers is.1 full in
        let coded = key_coded schema rules n ps vs many is in
        let Q : List KeyRead → Type 0 = λ l. AreCoded l vs key in
        let some : AreCoded rs vs key = subst Q (sym are.are) (coded_some are.count all vs key coded.0) in
        let has = numbers_coded ms rs vs key 0 some ints in
        let places : places_of rs ≡ take are.count ps = first_places are.count ps rs all are.are coded.1 in
        let P : List KeyNumber → Type 0 = λ l. HasNumbers l ps ms vs key in
        subst P (sym numbers.are) (record {
          numbers = has.numbers;
          coded = has.coded;
          put = λ row. has.put row ∙ ap (λ (l : List ℕ). placed ms l vs row) places ∙ placed_some ms are.count ps vs row are.left;
        });
  }
    where
      whole_len : whole.len ≡ length (path_of schema n) + 9 * length (key_columns schema n)
      whole_len = own.len

  pub numbers_are : (found : Option KeyNumbers) → IfSome found (AreNumbersOf rs ms whole.len) → AreWholeNumbers schema n ms rs found
  numbers_are None numbers = record { of = λ ps many are. tt }
  numbers_are (Some k) numbers = record { of = λ ps many are. key_numbers_are k numbers ps many are }

pub none_are : (schema : List Table) (n : ℕ) (ms : List Bool) (rs : List KeyRead) → AreWholeNumbers schema n ms rs None
none_are schema n ms rs = record { of = λ ps many are. tt }

-- ---- a key of the length

pub numbers_put : (schema : List Table) (n : ℕ) (ps : List ℕ) (ms : List Bool) (k : KeyNumbers) (key : List ℕ) (old new : List Value) → AreKeyNumbers schema n ps ms k → length key ≡ k.len → AreNumbersPut k.each key old new → IsKeyPut schema n ps ms key old new true
numbers_put schema n ps ms k key old new are len done = record {
  put = λ vs is e.
      let has = are.of vs is (sym (ap (length {A = ℕ}) e) ∙ len) in
      let P : List ℕ → Type 0 = λ bs. AreNumbersCoded k.each bs has.numbers in
      (refl, done.put has.numbers (subst P (sym e) has.coded) ∙ has.put old);
}
