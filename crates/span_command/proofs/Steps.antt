-- What each step of a reader of lines does to the parts of the text.
use Rattle.std.proofs.Common.{◌≡◌, ◌∙◌, ◌⊎◌, ℕ, ◌+◌, ◌<◌, ◌≤◌, List, [], ◌∷◌, ◌++◌, Option, Some, None, IsSomeAnd, Bool, true, false, Contains, refl, sym, ap, subst, length, take, drop, slice_index, slice_range, ◌-◌, inl, inr, ⊎_elim, append_assoc, append-nil, length-append, arith}
use Rattle.std.specs.Io.KnownBytes.{Consumes, Keeps, IsAtEnd}
use Rattle.span_command.specs.declared.line.Lines.{Lines}
use Rattle.span_command.specs.Texts.{HasNoLf, NextLine}
use Rattle.span_command.specs.Unread.{held, Advances, TakesNext, IsTooLong, IsGone, HasParts, IsStillToCome, IsKept, HoldsSame}
use Rattle.span_command.proofs.Ranges.{none_in_both, joined, same_front, cut_at_lf, occurs_in, not_in}

-- what a step does to the parts of the text it does for any bytes that are known to be still to come
pub each : (known : Option (List ℕ)) (P Q : List ℕ → Type 0) → ((rest : List ℕ) → P rest → Q rest) → IsSomeAnd known P → IsSomeAnd known Q
each None P Q step s = s
each (Some rest) P Q step s = step rest s

-- what is held stays, and so does the text
pub stays : (old new : Lines) → HoldsSame old new → (known : Option (List ℕ)) (text : List ℕ) → IsStillToCome old known text → IsStillToCome new known text
stays old new same None text s = s
stays old new same (Some rest) text s = record {
  gone = s.gone;
  is_gone = subst (λ (cut : Bool). IsGone cut s.gone) (sym same.is_cut) s.is_gone;
  in_order = s.in_order ∙ ap (λ (w : List ℕ). s.gone ++ (w ++ rest)) (sym same.held);
  all_came = λ e. s.all_came (sym same.has_ended ∙ e);
}

-- no LF is in what is gone
no_lf_gone : (is_cut : Bool) (gone : List ℕ) → IsGone is_cut gone → HasNoLf gone
no_lf_gone true gone h = h.0
no_lf_gone false gone h = subst HasNoLf (sym h) (λ k l e. absurd (omega (arith, l)))

-- a front of the line that is too long goes
pub lets_go : (is_cut has_ended : Bool) (held front back rest text : List ℕ) → held ≡ front ++ back → HasNoLf front → IsTooLong front
    → HasParts is_cut has_ended held rest text → HasParts true has_ended back rest text
lets_go is_cut has_ended held front back rest text whole none long s = record {
  gone = s.gone ++ front;
  is_gone = (none_in_both s.gone front (no_lf_gone is_cut s.gone s.is_gone) none, omega (arith, long, length-append s.gone front));
  in_order =
      s.in_order ∙ ap (λ (w : List ℕ). s.gone ++ (w ++ rest)) whole
      ∙ ap (λ (w : List ℕ). s.gone ++ w) (append_assoc front back rest)
      ∙ sym (append_assoc s.gone front (back ++ rest));
  all_came = s.all_came;
}

-- nothing follows where there is nothing at all
none_rest : (xs ys : List ℕ) → xs ++ ys ≡ [] → ys ≡ []
none_rest [] ys e = e
none_rest (x ∷ xs) ys e = cc e

-- bytes that come are held
pub grows : (is_cut ended ended_now : Bool) (held bytes text : List ℕ) (old new : Option (List ℕ)) → Consumes old new bytes
    → (ended_now ≡ true → IsAtEnd new ⊎ (ended ≡ true))
    → IsSomeAnd old (λ rest. HasParts is_cut ended held rest text) → IsSomeAnd new (λ rest. HasParts is_cut ended_now (held ++ bytes) rest text)
grows is_cut ended ended_now held bytes text None new came last s = absurd s
grows is_cut ended ended_now held bytes text (Some xs) None came last s = absurd came
grows is_cut ended ended_now held bytes text (Some xs) (Some ys) came last s = record {
  gone = s.gone;
  is_gone = s.is_gone;
  in_order = s.in_order ∙ ap (λ (w : List ℕ). s.gone ++ (held ++ w)) came ∙ ap (λ (w : List ℕ). s.gone ++ w) (sym (append_assoc held bytes ys));
  all_came = λ e. ⊎_elim (λ at_end. at_end) (λ was. none_rest bytes ys (sym came ∙ s.all_came was)) (last e);
}

-- where nothing came, all is as it was
pub remains : (is_cut ended : Bool) (held text : List ℕ) (old new : Option (List ℕ)) → Keeps old new
    → IsSomeAnd old (λ rest. HasParts is_cut ended held rest text) → IsSomeAnd new (λ rest. HasParts is_cut ended held rest text)
remains is_cut ended held text None new kept s = absurd s
remains is_cut ended held text (Some xs) None kept s = absurd kept
remains is_cut ended held text (Some xs) (Some ys) kept s = subst (λ (rest : List ℕ). HasParts is_cut ended held rest text) (sym kept) s

-- what a read put after the bytes that are held is held
pub came : (is_cut ended ended_now : Bool) (xs ys : List ℕ) (s e n f : ℕ) (text : List ℕ) (old new : Option (List ℕ)) → take e ys ≡ take e xs → s ≤ e → f ≡ e + n
    → Consumes old new (take n (drop e ys)) → (ended_now ≡ true → IsAtEnd new ⊎ (ended ≡ true))
    → IsSomeAnd old (λ rest. HasParts is_cut ended (slice_range xs s e) rest text) → IsSomeAnd new (λ rest. HasParts is_cut ended_now (slice_range ys s f) rest text)
came is_cut ended ended_now xs ys s e n f text old new front o place bytes last was_to_come =
    let long : (e + n) - e ≡ n = omega arith in
    let parts : slice_range ys s f ≡ slice_range xs s e ++ take n (drop e ys) =
    ap (slice_range ys s) place
    ∙ joined ys s e (e + n) o (omega arith)
    ∙ ap (λ (w : List ℕ). w ++ slice_range ys e (e + n)) (same_front ys xs e s e front (omega arith))
    ∙ ap (λ (k : ℕ). slice_range xs s e ++ take k (drop e ys)) long in
    subst (λ (held : List ℕ). IsSomeAnd new (λ rest. HasParts is_cut ended_now held rest text)) (sym parts)
    (grows is_cut ended ended_now (slice_range xs s e) (take n (drop e ys)) text old new bytes last was_to_come)

-- a read that failed took nothing
pub failed : (is_cut ended : Bool) (xs ys : List ℕ) (s e : ℕ) (text : List ℕ) (old new : Option (List ℕ)) → take e ys ≡ take e xs → Keeps old new
    → IsSomeAnd old (λ rest. HasParts is_cut ended (slice_range xs s e) rest text) → IsSomeAnd new (λ rest. HasParts is_cut ended (slice_range ys s e) rest text)
failed is_cut ended xs ys s e text old new front kept was_to_come =
    subst (λ (held : List ℕ). IsSomeAnd new (λ rest. HasParts is_cut ended held rest text)) (same_front xs ys e s e (sym front) (omega arith))
    (remains is_cut ended (slice_range xs s e) text old new kept was_to_come)

-- the searched front of a buffer stays as it was
pub still_none : (xs ys : List ℕ) (s m e : ℕ) → take e ys ≡ take e xs → m ≤ e → HasNoLf (slice_range xs s m) → HasNoLf (slice_range ys s m)
still_none xs ys s m e front h none = subst HasNoLf (same_front xs ys e s m (sym front) h) none

-- a read that took nothing ends the input
pub ends : (old new : Option (List ℕ)) (bytes : List ℕ) → Consumes old new bytes → Advances true old new
ends None new bytes taken = tt
ends (Some xs) None bytes taken = absurd taken
ends (Some xs) (Some ys) bytes taken = inl refl

-- a read that took bytes leaves fewer
pub goes_on : (has_ended : Bool) (old new : Option (List ℕ)) (bytes : List ℕ) → Consumes old new bytes → 0 < length bytes → Advances has_ended old new
goes_on has_ended None new bytes taken some = tt
goes_on has_ended (Some xs) None bytes taken some = absurd taken
goes_on has_ended (Some xs) (Some ys) bytes taken some = inr (omega (arith, some, ap length taken, length-append bytes ys))

-- a line that was taken: what is gone of it and what was kept
kept_of : (is_cut : Bool) (gone front : List ℕ) → IsGone is_cut gone → IsKept is_cut front (gone ++ front)
kept_of true gone front h = omega (arith, h.1, length-append gone front)
kept_of false gone front h = ap (λ (w : List ℕ). w ++ front) h

-- What taking a line leads to, said of its parts: `kept` is what is held of it, `back` what is held then.
pub record TakesParts (is_cut has_ended : Bool) (kept back rest text : List ℕ) : Type 0 where
  pub line : List ℕ
  pub following : List ℕ
  pub is_next : NextLine text line following
  pub is_taken : IsKept is_cut kept line
  pub to_come : HasParts false has_ended back rest following

-- an LF ends the line
pub takes_first : (is_cut has_ended : Bool) (held front back rest text : List ℕ) → held ≡ front ++ 10 ∷ back → HasNoLf front
    → HasParts is_cut has_ended held rest text → TakesParts is_cut has_ended front back rest text
takes_first is_cut has_ended held front back rest text whole none s = record {
  line = s.gone ++ front;
  following = back ++ rest;
  is_next = inl (
    none_in_both s.gone front (no_lf_gone is_cut s.gone s.is_gone) none,
    s.in_order ∙ ap (λ (w : List ℕ). s.gone ++ (w ++ rest)) whole
        ∙ ap (λ (w : List ℕ). s.gone ++ w) (append_assoc front (10 ∷ back) rest)
        ∙ sym (append_assoc s.gone front (10 ∷ (back ++ rest))),
  );
  is_taken = kept_of is_cut s.gone front s.is_gone;
  to_come = record { gone = []; is_gone = refl; in_order = refl; all_came = s.all_came };
}

-- a line without an LF that is not empty
some_bytes : (is_cut : Bool) (gone front : List ℕ) → IsGone is_cut gone → (is_cut ≡ false → 0 < length front) → 0 < length (gone ++ front)
some_bytes true gone front h some = omega (arith, h.1, length-append gone front)
some_bytes false gone front h some = omega (arith, some refl, length-append gone front)

-- the input ends the line
pub takes_last : (is_cut : Bool) (front rest text : List ℕ) → HasNoLf front → (is_cut ≡ false → 0 < length front)
    → HasParts is_cut true front rest text → TakesParts is_cut true front [] rest text
takes_last is_cut front rest text none some s =
    let over : rest ≡ [] = s.all_came refl in
    let whole : text ≡ s.gone ++ front = s.in_order ∙ ap (λ (w : List ℕ). s.gone ++ (front ++ w)) over ∙ ap (λ (w : List ℕ). s.gone ++ w) (append-nil front) in
    let no_lf : HasNoLf (s.gone ++ front) = none_in_both s.gone front (no_lf_gone is_cut s.gone s.is_gone) none in
    let long : 0 < length (s.gone ++ front) = some_bytes is_cut s.gone front s.is_gone some in
    record {
      line = s.gone ++ front;
      following = [];
      is_next = inr (subst HasNoLf (sym whole) no_lf, (λ e. absurd (omega (arith, long, ap length (sym whole ∙ e)))), sym whole, refl);
      is_taken = kept_of is_cut s.gone front s.is_gone;
      to_come = record { gone = []; is_gone = refl; in_order = sym over; all_came = λ e. over };
    }

-- what taking a line leads to, once its parts are known
pub takes_next : (old new : Lines) (is_cut has_ended : Bool) (kept back : List ℕ) (known : Option (List ℕ)) (text : List ℕ) → new.taken_is_cut ≡ is_cut
    → slice_range new.buffer.items new.taken_from new.taken_to ≡ kept → held new ≡ back → new.is_cut ≡ false → new.has_ended ≡ has_ended
    → ((rest : List ℕ) → IsStillToCome old (Some rest) text → TakesParts is_cut has_ended kept back rest text) → IsStillToCome old known text → TakesNext new known text
takes_next old new is_cut has_ended kept back None text cut line left whole ended taken s = absurd s
takes_next old new is_cut has_ended kept back (Some rest) text cut line left whole ended taken s =
    let p = taken rest s in
    record {
      line = p.line;
      following = p.following;
      is_next = p.is_next;
      is_taken =
          subst (λ (b : Bool). IsKept b (slice_range new.buffer.items new.taken_from new.taken_to) p.line) (sym cut)
          (subst (λ (w : List ℕ). IsKept is_cut w p.line) (sym line) p.is_taken);
      to_come = record {
        gone = p.to_come.gone;
        is_gone = subst (λ (b : Bool). IsGone b p.to_come.gone) (sym whole) p.to_come.is_gone;
        in_order = p.to_come.in_order ∙ ap (λ (w : List ℕ). p.to_come.gone ++ (w ++ rest)) (sym left);
        all_came = λ e. p.to_come.all_came (sym ended ∙ e);
      };
    }

-- what is held lies in the buffer
pub fits : (lines : Lines) → lines.end ≤ length lines.buffer.items
fits lines = omega (arith, lines.within, lines.buffer.ok)

-- where an LF was found, what is held is cut there
pub cut_there : (lines : Lines) → lines.searched < lines.end → slice_index lines.buffer.items lines.searched ≡ 10
    → held lines ≡ slice_range lines.buffer.items lines.start lines.searched ++ 10 ∷ slice_range lines.buffer.items (lines.searched + 1) lines.end
cut_there lines l ten = cut_at_lf lines.buffer.items lines.start lines.searched lines.end lines.in_order l (fits lines) ten

-- where all was searched, no LF is held
pub none_held : (lines : Lines) → lines.end ≤ lines.searched → HasNoLf (held lines)
none_held lines h =
    let all : lines.searched ≡ lines.end = omega (arith, lines.searched_within, h) in
    subst (λ (m : ℕ). HasNoLf (slice_range lines.buffer.items lines.start m)) all lines.no_lf

-- an LF that was found is held
pub lf_held : (old new : Lines) → HoldsSame old new → new.searched < new.end → slice_index new.buffer.items new.searched ≡ 10 → Contains (held old) 10
lf_held old new same l ten =
    subst (λ (w : List ℕ). Contains w 10) (sym (cut_there new l ten) ∙ same.held)
    (occurs_in (slice_range new.buffer.items new.start new.searched) (slice_range new.buffer.items (new.searched + 1) new.end))

-- none is held where none was found
pub no_lf_held : (old new : Lines) → HoldsSame old new → new.end ≤ new.searched → Contains (held old) 10 → ⊥
no_lf_held old new same h some = not_in (held new) (none_held new h) (subst (λ (w : List ℕ). Contains w 10) (sym same.held) some)
