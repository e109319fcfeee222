-- Lists of entries whose keys rise.
use Rattle.std.proofs.Common.{◌≡◌, ◌≢◌, ℕ, List, [], ◌∷◌, ◌++◌, refl, sym, ◌∙◌, ap, arith, true, false, cond, filter, subst, append-nil, append_assoc}
use Rattle.std.specs.Prelude.{Bool, not, ◌&&◌, AllPairs}
use Rattle.std.specs.List.{AllByRecursion}
use Rattle.std.specs.Ordering.{ordering_reverse, is_lt, is_gt, is_ge}
use Rattle.std.specs.declared.cmp.Ordering.{Ordering}
use Rattle.std.specs.declared.cmp.Ordering.TheVariants.{Less, Equal, Greater}
use Rattle.std.proofs.lemmas.Cmp.{nat_list_cmp_total, tied_itself}
use Rattle.std.proofs.lemmas.Map.Lookups.{exact_bytes}
use Rattle.std.proofs.lemmas.List.Elements.{filter-append, All-from_recursion}
use Rattle.std.proofs.lemmas.List.Kept.{AllPairs-cons}
use Rattle.span_value.proofs.Lists.{filter_all, filter_none, all_append, all_weaker}
use Rattle.span_keycode.specs.Order.{byte_order}
use Rattle.span_keytree.specs.Entries.{with_entry, KeyEntry}
use Rattle.span_keytree.specs.Items.{AreRising, below, above, from, is_between, entries_between}

pub less_trans : (a b c : List ℕ) → byte_order a b ≡ Less → byte_order b c ≡ Less → byte_order a c ≡ Less
less_trans a b c = nat_list_cmp_total.trans a b c

pub turned : (a b : List ℕ) (o : Ordering) → byte_order a b ≡ o → byte_order b a ≡ ordering_reverse o
turned a b o e = nat_list_cmp_total.antisymm b a ∙ ap ordering_reverse e

-- a key is no smaller one
pub apart : (a b : List ℕ) → byte_order a b ≡ Less → a ≢ b
apart a b less same =
    let e : Equal ≡ Less = sym (tied_itself nat_list_cmp_total a) ∙ ap (λ (x : List ℕ). byte_order a x) same ∙ less in
    absurd (let f : Equal ≡ Less = e in cc)

abbrev pub AllBelow : List ℕ → List KeyEntry → Type 0
AllBelow key es = AllByRecursion (λ (e : KeyEntry). byte_order e.key key ≡ Less) es

abbrev pub AllAbove : List ℕ → List KeyEntry → Type 0
AllAbove key es = AllByRecursion (λ (e : KeyEntry). byte_order key e.key ≡ Less) es

module _ {X : Type 0} (P : X → Type 0) where
  pub all_front : (xs ys : List X) → AllByRecursion P (xs ++ ys) → AllByRecursion P xs
  all_front [] ys h = tt
  all_front (x ∷ xs) ys h = (h.0, all_front xs ys h.1)

  pub all_back : (xs ys : List X) → AllByRecursion P (xs ++ ys) → AllByRecursion P ys
  all_back [] ys h = h
  all_back (x ∷ xs) ys h = all_back xs ys h.1

pub below_more : (low key : List ℕ) (es : List KeyEntry) → byte_order low key ≡ Less → AllBelow low es → AllBelow key es
below_more low key es less h = all_weaker (λ (e : KeyEntry). byte_order e.key low ≡ Less) (λ (e : KeyEntry). byte_order e.key key ≡ Less) (λ e x. less_trans e.key low key x less) es h

pub above_more : (key high : List ℕ) (es : List KeyEntry) → byte_order key high ≡ Less → AllAbove high es → AllAbove key es
above_more key high es less h = all_weaker (λ (e : KeyEntry). byte_order high e.key ≡ Less) (λ (e : KeyEntry). byte_order key e.key ≡ Less) (λ e x. less_trans key high e.key less x) es h

-- what rises around an entry
pub record IsAround (xs : List KeyEntry) (e : KeyEntry) (ys : List KeyEntry) : Type 0 where
  pub front : AreRising xs
  pub back : AreRising ys
  pub smaller : AllBelow e.key xs
  pub greater : AllAbove e.key ys

pub around : (xs : List KeyEntry) (e : KeyEntry) (ys : List KeyEntry) → AreRising (xs ++ e ∷ ys) → IsAround xs e ys
around [] e ys h = record { front = tt; back = h.1; smaller = tt; greater = h.0 }
around (x ∷ xs) e ys h =
    let rest : IsAround xs e ys = around xs e ys h.1 in
    record {
      front = (all_front (λ (f : KeyEntry). byte_order x.key f.key ≡ Less) xs (e ∷ ys) h.0, rest.front);
      back = rest.back;
      smaller = ((all_back (λ (f : KeyEntry). byte_order x.key f.key ≡ Less) xs (e ∷ ys) h.0).0, rest.smaller);
      greater = rest.greater;
    }

-- and back
pub rising_around : (xs : List KeyEntry) (e : KeyEntry) (ys : List KeyEntry) → IsAround xs e ys → AreRising (xs ++ e ∷ ys)
rising_around [] e ys h = (h.greater, h.back)
rising_around (x ∷ xs) e ys h =
    let over : AllAbove x.key ys = above_more x.key e.key ys h.smaller.0 h.greater in
    (all_append (λ (f : KeyEntry). byte_order x.key f.key ≡ Less) xs (e ∷ ys) h.front.0 (h.smaller.0, over), rising_around xs e ys (record { front = h.front.1; back = h.back; smaller = h.smaller.1; greater = h.greater }))

pub rising_back : (xs ys : List KeyEntry) → AreRising (xs ++ ys) → AreRising ys
rising_back [] ys h = h
rising_back (x ∷ xs) ys h = rising_back xs ys h.1

-- the form by places
pub pairs_rising : (es : List KeyEntry) → AreRising es → AllPairs (λ (e f : KeyEntry). byte_order e.key f.key ≡ Less) es
pairs_rising [] h = λ i j d lt in_range. absurd (omega arith)
pairs_rising (e ∷ es) h = AllPairs-cons (λ (x y : KeyEntry). byte_order x.key y.key ≡ Less) e es (All-from_recursion (λ (f : KeyEntry). byte_order e.key f.key ≡ Less) es h.0) (pairs_rising es h.1)

-- ---- filters by key

greater_of : (key : List ℕ) (e : KeyEntry) → byte_order key e.key ≡ Less → byte_order e.key key ≡ Greater
greater_of key e h = turned key e.key Less h

pub keeps_below : (key : List ℕ) (es : List KeyEntry) → AllBelow key es → below key es ≡ es
keeps_below key es h = filter_all (λ (e : KeyEntry). is_lt (byte_order e.key key)) es (all_weaker (λ (e : KeyEntry). byte_order e.key key ≡ Less) (λ (e : KeyEntry). is_lt (byte_order e.key key) ≡ true) (λ e x. ap is_lt x) es h)

pub drops_below : (key : List ℕ) (es : List KeyEntry) → AllAbove key es → below key es ≡ []
drops_below key es h = filter_none (λ (e : KeyEntry). is_lt (byte_order e.key key)) es (all_weaker (λ (e : KeyEntry). byte_order key e.key ≡ Less) (λ (e : KeyEntry). is_lt (byte_order e.key key) ≡ false) (λ e x. ap is_lt (greater_of key e x)) es h)

pub keeps_above : (key : List ℕ) (es : List KeyEntry) → AllAbove key es → above key es ≡ es
keeps_above key es h = filter_all (λ (e : KeyEntry). is_gt (byte_order e.key key)) es (all_weaker (λ (e : KeyEntry). byte_order key e.key ≡ Less) (λ (e : KeyEntry). is_gt (byte_order e.key key) ≡ true) (λ e x. ap is_gt (greater_of key e x)) es h)

pub drops_above : (key : List ℕ) (es : List KeyEntry) → AllBelow key es → above key es ≡ []
drops_above key es h = filter_none (λ (e : KeyEntry). is_gt (byte_order e.key key)) es (all_weaker (λ (e : KeyEntry). byte_order e.key key ≡ Less) (λ (e : KeyEntry). is_gt (byte_order e.key key) ≡ false) (λ e x. ap is_gt x) es h)

pub keeps_from : (key : List ℕ) (es : List KeyEntry) → AllAbove key es → from key es ≡ es
keeps_from key es h = filter_all (λ (e : KeyEntry). not (is_lt (byte_order e.key key))) es (all_weaker (λ (e : KeyEntry). byte_order key e.key ≡ Less) (λ (e : KeyEntry). not (is_lt (byte_order e.key key)) ≡ true) (λ e x. ap (λ (o : Ordering). not (is_lt o)) (greater_of key e x)) es h)

pub drops_from : (key : List ℕ) (es : List KeyEntry) → AllBelow key es → from key es ≡ []
drops_from key es h = filter_none (λ (e : KeyEntry). not (is_lt (byte_order e.key key))) es (all_weaker (λ (e : KeyEntry). byte_order e.key key ≡ Less) (λ (e : KeyEntry). not (is_lt (byte_order e.key key)) ≡ false) (λ e x. ap (λ (o : Ordering). not (is_lt o)) x) es h)

-- the first entry, by its order to the key
below_head : (key : List ℕ) (e : KeyEntry) (es : List KeyEntry) (b : Bool) → is_lt (byte_order e.key key) ≡ b → below key (e ∷ es) ≡ cond b (e ∷ below key es) (below key es)
below_head key e es b is = ap (λ (x : Bool). cond x (e ∷ below key es) (below key es)) is

above_head : (key : List ℕ) (e : KeyEntry) (es : List KeyEntry) (b : Bool) → is_gt (byte_order e.key key) ≡ b → above key (e ∷ es) ≡ cond b (e ∷ above key es) (above key es)
above_head key e es b is = ap (λ (x : Bool). cond x (e ∷ above key es) (above key es)) is

from_head : (key : List ℕ) (e : KeyEntry) (es : List KeyEntry) (b : Bool) → not (is_lt (byte_order e.key key)) ≡ b → from key (e ∷ es) ≡ cond b (e ∷ from key es) (from key es)
from_head key e es b is = ap (λ (x : Bool). cond x (e ∷ from key es) (from key es)) is

-- ---- around an entry above the key

module _ (xs : List KeyEntry) (e : KeyEntry) (ys : List KeyEntry) (key : List ℕ) (a : IsAround xs e ys) (less : byte_order key e.key ≡ Less) where
  over : AllAbove key (e ∷ ys)
  over = (less, above_more key e.key ys less a.greater)

  pub below_left : below key (xs ++ e ∷ ys) ≡ below key xs
  below_left =
      filter-append (λ (f : KeyEntry). is_lt (byte_order f.key key)) xs (e ∷ ys)
      ∙ ap (λ (zs : List KeyEntry). below key xs ++ zs) (drops_below key (e ∷ ys) over)
      ∙ append-nil (below key xs)

  pub above_left : above key (xs ++ e ∷ ys) ≡ above key xs ++ e ∷ ys
  above_left =
      filter-append (λ (f : KeyEntry). is_gt (byte_order f.key key)) xs (e ∷ ys)
      ∙ ap (λ (zs : List KeyEntry). above key xs ++ zs) (keeps_above key (e ∷ ys) over)

  pub from_left : from key (xs ++ e ∷ ys) ≡ from key xs ++ e ∷ ys
  from_left =
      filter-append (λ (f : KeyEntry). not (is_lt (byte_order f.key key))) xs (e ∷ ys)
      ∙ ap (λ (zs : List KeyEntry). from key xs ++ zs) (keeps_from key (e ∷ ys) over)

-- ---- around an entry below the key

module _ (xs : List KeyEntry) (e : KeyEntry) (ys : List KeyEntry) (key : List ℕ) (a : IsAround xs e ys) (less : byte_order e.key key ≡ Less) where
  under : AllBelow key xs
  under = below_more e.key key xs less a.smaller

  pub below_right : below key (xs ++ e ∷ ys) ≡ xs ++ e ∷ below key ys
  below_right =
      filter-append (λ (f : KeyEntry). is_lt (byte_order f.key key)) xs (e ∷ ys)
      ∙ ap (λ (zs : List KeyEntry). zs ++ below key (e ∷ ys)) (keeps_below key xs under)
      ∙ ap (λ (zs : List KeyEntry). xs ++ zs) (below_head key e ys true (ap is_lt less))

  pub above_right : above key (xs ++ e ∷ ys) ≡ above key ys
  above_right =
      filter-append (λ (f : KeyEntry). is_gt (byte_order f.key key)) xs (e ∷ ys)
      ∙ ap (λ (zs : List KeyEntry). zs ++ above key (e ∷ ys)) (drops_above key xs under)
      ∙ above_head key e ys false (ap is_gt less)

  pub from_right : from key (xs ++ e ∷ ys) ≡ from key ys
  from_right =
      filter-append (λ (f : KeyEntry). not (is_lt (byte_order f.key key))) xs (e ∷ ys)
      ∙ ap (λ (zs : List KeyEntry). zs ++ from key (e ∷ ys)) (drops_from key xs under)
      ∙ from_head key e ys false (ap (λ (o : Ordering). not (is_lt o)) less)

-- around an entry with the key
pub from_here : (xs : List KeyEntry) (e : KeyEntry) (ys : List KeyEntry) (key : List ℕ) → IsAround xs e ys → key ≡ e.key → from key (xs ++ e ∷ ys) ≡ e ∷ ys
from_here xs e ys key a same =
    let tied : byte_order e.key key ≡ Equal = ap (λ (x : List ℕ). byte_order e.key x) same ∙ tied_itself nat_list_cmp_total e.key in
    let under : AllBelow key xs = subst (λ (x : List ℕ). AllBelow x xs) {x = e.key} {y = key} (sym same) a.smaller in
    let over : AllAbove key ys = subst (λ (x : List ℕ). AllAbove x ys) {x = e.key} {y = key} (sym same) a.greater in
    filter-append (λ (f : KeyEntry). not (is_lt (byte_order f.key key))) xs (e ∷ ys)
    ∙ ap (λ (zs : List KeyEntry). zs ++ from key (e ∷ ys)) (drops_from key xs under)
    ∙ from_head key e ys true (ap (λ (o : Ordering). not (is_lt o)) tied)
    ∙ ap (λ (zs : List KeyEntry). e ∷ zs) (keeps_from key ys over)

-- ---- a new entry

pub with_entry_left : (xs : List KeyEntry) (e : KeyEntry) (ys : List KeyEntry) (new : KeyEntry) → IsAround xs e ys → byte_order new.key e.key ≡ Less → with_entry xs new ++ e ∷ ys ≡ with_entry (xs ++ e ∷ ys) new
with_entry_left xs e ys new a less =
    append_assoc (below new.key xs) (new ∷ above new.key xs) (e ∷ ys)
    ∙ ap (λ (zs : List KeyEntry). below new.key xs ++ new ∷ zs) (sym (above_left xs e ys new.key a less))
    ∙ ap (λ (zs : List KeyEntry). zs ++ new ∷ above new.key (xs ++ e ∷ ys)) (sym (below_left xs e ys new.key a less))

pub with_entry_right : (xs : List KeyEntry) (e : KeyEntry) (ys : List KeyEntry) (new : KeyEntry) → IsAround xs e ys → byte_order e.key new.key ≡ Less → xs ++ e ∷ with_entry ys new ≡ with_entry (xs ++ e ∷ ys) new
with_entry_right xs e ys new a less =
    sym (append_assoc xs (e ∷ below new.key ys) (new ∷ above new.key ys))
    ∙ ap (λ (zs : List KeyEntry). (xs ++ e ∷ below new.key ys) ++ new ∷ zs) (sym (above_right xs e ys new.key a less))
    ∙ ap (λ (zs : List KeyEntry). zs ++ new ∷ above new.key (xs ++ e ∷ ys)) (sym (below_right xs e ys new.key a less))

-- ---- a list cut at a key

module _ (key : List ℕ) (e : KeyEntry) (es : List KeyEntry) (rising : AreRising (e ∷ es)) where
  cut_by : (o : Ordering) → byte_order e.key key ≡ o → (e.key ≢ key) → es ≡ below key es ++ above key es → e ∷ es ≡ below key (e ∷ es) ++ above key (e ∷ es)
  cut_by Less is differs rest =
      ap (λ (zs : List KeyEntry). e ∷ zs) rest
      ∙ sym (ap (λ (zs : List KeyEntry). zs ++ above key (e ∷ es)) (below_head key e es true (ap is_lt is)) ∙ ap (λ (zs : List KeyEntry). (e ∷ below key es) ++ zs) (above_head key e es false (ap is_gt is)))
  cut_by Equal is differs rest = absurd (differs (exact_bytes e.key key is))
  cut_by Greater is differs rest =
      let less : byte_order key e.key ≡ Less = turned e.key key Greater is in
      let over : AllAbove key (e ∷ es) = (less, above_more key e.key es less rising.0) in
      sym (ap (λ (zs : List KeyEntry). zs ++ above key (e ∷ es)) (drops_below key (e ∷ es) over) ∙ keeps_above key (e ∷ es) over)

  from_by : (o : Ordering) → byte_order e.key key ≡ o → es ≡ below key es ++ from key es → e ∷ es ≡ below key (e ∷ es) ++ from key (e ∷ es)
  from_by Less is rest =
      ap (λ (zs : List KeyEntry). e ∷ zs) rest
      ∙ sym (ap (λ (zs : List KeyEntry). zs ++ from key (e ∷ es)) (below_head key e es true (ap is_lt is)) ∙ ap (λ (zs : List KeyEntry). (e ∷ below key es) ++ zs) (from_head key e es false (ap (λ (x : Ordering). not (is_lt x)) is)))
  from_by Equal is rest =
      let same : e.key ≡ key = exact_bytes e.key key is in
      let over : AllAbove key es = subst (λ (x : List ℕ). AllAbove x es) {x = e.key} {y = key} same rising.0 in
      sym (ap (λ (zs : List KeyEntry). zs ++ from key (e ∷ es)) (below_head key e es false (ap is_lt is) ∙ drops_below key es over) ∙ from_head key e es true (ap (λ (x : Ordering). not (is_lt x)) is) ∙ ap (λ (zs : List KeyEntry). e ∷ zs) (keeps_from key es over))
  from_by Greater is rest =
      let less : byte_order key e.key ≡ Less = turned e.key key Greater is in
      let over : AllAbove key (e ∷ es) = (less, above_more key e.key es less rising.0) in
      sym (ap (λ (zs : List KeyEntry). zs ++ from key (e ∷ es)) (drops_below key (e ∷ es) over) ∙ keeps_from key (e ∷ es) over)

-- at a key that is not there
pub cut_at : (key : List ℕ) (es : List KeyEntry) → AreRising es → AllByRecursion (λ (e : KeyEntry). e.key ≢ key) es → es ≡ below key es ++ above key es
cut_at key [] rising absent = refl
cut_at key (e ∷ es) rising absent = cut_by key e es rising (byte_order e.key key) refl absent.0 (cut_at key es rising.1 absent.1)

pub cut_from : (key : List ℕ) (es : List KeyEntry) → AreRising es → es ≡ below key es ++ from key es
cut_from key [] rising = refl
cut_from key (e ∷ es) rising = from_by key e es rising (byte_order e.key key) refl (cut_from key es rising.1)

-- ---- a range

module _ (p q : KeyEntry → Bool) where
  both_by : (a : Bool) (e : KeyEntry) (xs ys : List KeyEntry) → p e ≡ a → xs ≡ filter q ys → cond (p e && q e) (e ∷ xs) xs ≡ filter q (cond (p e) (e ∷ ys) ys)
  both_by true e xs ys is rest =
      ap (λ (b : Bool). cond (b && q e) (e ∷ xs) xs) is
      ∙ ap (λ (zs : List KeyEntry). cond (q e) (e ∷ zs) zs) rest
      ∙ sym (ap (λ (b : Bool). filter q (cond b (e ∷ ys) ys)) is)
  both_by false e xs ys is rest =
      ap (λ (b : Bool). cond (b && q e) (e ∷ xs) xs) is ∙ rest ∙ sym (ap (λ (b : Bool). filter q (cond b (e ∷ ys) ys)) is)

  pub filter_both : (es : List KeyEntry) → filter (λ (e : KeyEntry). p e && q e) es ≡ filter q (filter p es)
  filter_both [] = refl
  filter_both (e ∷ es) = both_by (p e) e (filter (λ (x : KeyEntry). p x && q x) es) (filter p es) refl (filter_both es)

pub range_is : (low high : List ℕ) (es : List KeyEntry) → entries_between low high es ≡ below high (from low es)
range_is low high es = filter_both (λ (e : KeyEntry). not (is_lt (byte_order e.key low))) (λ (e : KeyEntry). is_lt (byte_order e.key high)) es

-- what is below a key
module _ (key : List ℕ) (e : KeyEntry) (es : List KeyEntry) where
  below_all_by : (o : Ordering) → byte_order e.key key ≡ o → AllBelow key (below key es) → AllBelow key (below key (e ∷ es))
  below_all_by Less is rest = subst (λ (xs : List KeyEntry). AllBelow key xs) {x = e ∷ below key es} {y = below key (e ∷ es)} (sym (below_head key e es true (ap is_lt is))) (is, rest)
  below_all_by Equal is rest = subst (λ (xs : List KeyEntry). AllBelow key xs) {x = below key es} {y = below key (e ∷ es)} (sym (below_head key e es false (ap is_lt is))) rest
  below_all_by Greater is rest = subst (λ (xs : List KeyEntry). AllBelow key xs) {x = below key es} {y = below key (e ∷ es)} (sym (below_head key e es false (ap is_lt is))) rest

pub below_all : (key : List ℕ) (es : List KeyEntry) → AllBelow key (below key es)
below_all key [] = tt
below_all key (e ∷ es) = below_all_by key e es (byte_order e.key key) refl (below_all key es)

-- ---- a range whose end is not above its beginning

module _ (low high key : List ℕ) (none : is_lt (byte_order low high) ≡ false) where
  outside_by : (a b : Ordering) → byte_order key low ≡ a → byte_order key high ≡ b → (not (is_lt a) && is_lt b) ≡ false
  outside_by Less b p q = refl
  outside_by Equal Less p q =
      let less : byte_order low high ≡ Less = ap (λ (x : List ℕ). byte_order x high) (sym (exact_bytes key low p)) ∙ q in
      absurd (let e : true ≡ false = sym (ap is_lt less) ∙ none in cc)
  outside_by Equal Equal p q = refl
  outside_by Equal Greater p q = refl
  outside_by Greater Less p q =
      let less : byte_order low high ≡ Less = less_trans low key high (turned key low Greater p) q in
      absurd (let e : true ≡ false = sym (ap is_lt less) ∙ none in cc)
  outside_by Greater Equal p q = refl
  outside_by Greater Greater p q = refl

all_outside : (low high : List ℕ) → is_lt (byte_order low high) ≡ false → (es : List KeyEntry) → AllByRecursion (λ (e : KeyEntry). is_between low high e.key ≡ false) es
all_outside low high none [] = tt
all_outside low high none (e ∷ es) = (outside_by low high e.key none (byte_order e.key low) (byte_order e.key high) refl refl, all_outside low high none es)

pub nothing_in : (low high : List ℕ) (es : List KeyEntry) → is_lt (byte_order low high) ≡ false → entries_between low high es ≡ []
nothing_in low high es none = filter_none (λ (e : KeyEntry). is_between low high e.key) es (all_outside low high none es)

-- ---- what is above a key

module _ (key : List ℕ) (e : KeyEntry) (es : List KeyEntry) where
  above_all_by : (o : Ordering) → byte_order e.key key ≡ o → AllAbove key (above key es) → AllAbove key (above key (e ∷ es))
  above_all_by Less is rest = subst (λ (xs : List KeyEntry). AllAbove key xs) {x = above key es} {y = above key (e ∷ es)} (sym (above_head key e es false (ap is_gt is))) rest
  above_all_by Equal is rest = subst (λ (xs : List KeyEntry). AllAbove key xs) {x = above key es} {y = above key (e ∷ es)} (sym (above_head key e es false (ap is_gt is))) rest
  above_all_by Greater is rest = subst (λ (xs : List KeyEntry). AllAbove key xs) {x = e ∷ above key es} {y = above key (e ∷ es)} (sym (above_head key e es true (ap is_gt is))) (turned e.key key Greater is, rest)

pub above_all : (key : List ℕ) (es : List KeyEntry) → AllAbove key (above key es)
above_all key [] = tt
above_all key (e ∷ es) = above_all_by key e es (byte_order e.key key) refl (above_all key es)

pub rising_front : (xs ys : List KeyEntry) → AreRising (xs ++ ys) → AreRising xs
rising_front [] ys h = tt
rising_front (x ∷ xs) ys h = (all_front (λ (f : KeyEntry). byte_order x.key f.key ≡ Less) xs ys h.0, rising_front xs ys h.1)

pub less_not_ge : (o : Ordering) → is_ge o ≡ false → o ≡ Less
less_not_ge Less is = refl
less_not_ge Equal is = absurd (let e : true ≡ false = is in cc)
less_not_ge Greater is = absurd (let e : true ≡ false = is in cc)

pub not_less_ge : (o : Ordering) → is_ge o ≡ true → is_lt o ≡ false
not_less_ge Less is = absurd (let e : false ≡ true = is in cc)
not_less_ge Equal is = refl
not_less_ge Greater is = refl
