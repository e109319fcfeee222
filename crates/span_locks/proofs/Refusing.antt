-- Why a session's query is refused, by what the machine answers.
use Rattle.std.proofs.Common.{◌≡◌, ◌⊎◌, ℕ, List, [], ◌∷◌, Option, None, Result, Ok, Err, refl, sym, ap, subst, inl, inr}
use Rattle.std.specs.Prelude.{IfErr, IfOk}
use Rattle.atomic_table.specs.Seated.{TableId}
use Rattle.span_value.specs.declared.refusal.Refusal.{Refusal}
use Rattle.span_value.specs.declared.refusal.Refusal.TheVariants as refusal
use Rattle.span_schema.specs.declared.table.Table.{Table}
use Rattle.span_params.specs.declared.params.Parameter.{Parameter}
use Rattle.span_query.specs.declared.query.Statement.{Statement}
use Rattle.span_truetime.specs.declared.bound.Bound.{Bound}
use Rattle.span_truetime.specs.declared.interval.Interval.{Interval}
use Rattle.span_binder.specs.Understands.{Understands}
use Rattle.span_fragment.specs.declared.piece.Piece.{Piece}
use Rattle.span_gather.specs.Gathered.{gathered}
use Rattle.span_gather.specs.declared.rows.Rows.{Rows as Found}
use Rattle.span_truetime.specs.Time.{timestamp_of}
use Rattle.span_machine.specs.declared.transaction.Commit.{Commit}
use Rattle.span_machine.specs.declared.step.Reply.{Reply}
use Rattle.span_machine.specs.declared.step.Reply.TheVariants as reply
use Rattle.span_machine.specs.Machine.{Machine, Answer, Answers, refused, open_query, scan, finish}
use Rattle.span_machine.specs.Pieces.{Journaled, machine_of}
use Rattle.span_journal.specs.declared.journal.Gap.{Gap}
use Rattle.span_journal.specs.declared.journal.Opened.{Opened}
use Rattle.span_journal.specs.Judged.{IsGap}
use Rattle.span_openqueries.specs.declared.taken.Taken.{Taken}
use Rattle.span_parts.specs.Replies.{as_reply, opened_reply}
use Rattle.span_board.specs.declared.board.Role.{Role}
use Rattle.span_locks.specs.Held.{IsKeeper}
use Rattle.span_board.specs.Known.{Known}
use Rattle.span_board.specs.Rule.{known_at}
use Rattle.span_locks.specs.Replies.{IsMachineOf, MayReply, IsAmong}
use Rattle.span_locks.specs.Refusing.{IsUnopened, IsUnscanned, IsEndRefused, IsFault, IsFaultOf, IsUnfinished, IsQueryRefusal}
use Rattle.span_locks.proofs.Refusals.{refused_same}
use Rattle.span_locks.proofs.Replying.{answers_may, machine_goes, replies, may_reply}

module _ (schema other : List Table) (table here : TableId) (views : List (List Role)) (j : Journaled) (same : other ≡ schema) (keeper : IsKeeper schema table here views j) where
  -- a scan that is refused
  pub scan_unscanned : {A : Type 0} (query leaf slot : ℕ) (interval : Interval) (r : Result A Refusal) (k : Machine)
      → IfErr r (λ why. Answers (machine_of j) (scan (machine_of j) query leaf slot interval) (reply.Refused why) k) → IfErr r (IsUnscanned schema)
  scan_unscanned query leaf slot interval (Ok x) k e = tt
  scan_unscanned query leaf slot interval (Err why) k e = by (answers_may (machine_of j) (scan (machine_of j) query leaf slot interval) (reply.Refused why) k e)
    where
      by : (reply.Refused why ≡ reply.Refused refusal.OutOfMemory) ⊎ (reply.Refused why ≡ (scan (machine_of j) query leaf slot interval).0) → IsUnscanned schema why
      by (inl f) = inl (inl (refused_same why refusal.OutOfMemory f))
      by (inr f) = inr (record {
        query = query;
        leaf = leaf;
        slot = slot;
        interval = interval;
        refused = (known_at views, replies schema table here views j keeper (known_at views) refl (λ m. scan m query leaf slot interval) (reply.Refused why) f);
      })

  -- what an Open is answered
  pub open_replies : (known : Known) → known_at views ≡ known → (q : Statement) (text : List ℕ) (params : List Parameter) (bound : Bound) (interval : Interval) (r : Reply) (k : Machine)
      → Answers (machine_of j) (open_query other (machine_of j) (Ok q) text params bound interval) r k
      → MayReply schema known (λ m. open_query schema m (Ok q) text params bound interval) r
  open_replies known is q text params bound interval r k e =
      may_reply schema table here views j keeper known is (λ m. open_query schema m (Ok q) text params bound interval) r
      (subst (λ (s : List Table). (r ≡ reply.Refused refusal.OutOfMemory) ⊎ (r ≡ (open_query s (machine_of j) (Ok q) text params bound interval).0)) same
      (answers_may (machine_of j) (open_query other (machine_of j) (Ok q) text params bound interval) r k e))

  -- what may be read for a scan
  pub claimed_gap : (known : Known) → known_at views ≡ known → (query leaf slot : ℕ) (interval : Interval) (r : Result (Option Gap) Refusal) → IfOk r (λ gap. IsGap (machine_of j) query leaf slot interval gap)
      → IfOk r (λ gap. (m : Machine) × IsMachineOf schema known m × IsGap m query leaf slot interval gap)
  claimed_gap known is query leaf slot interval (Ok gap) e = (machine_of j, machine_goes schema table here views j keeper known is, e)
  claimed_gap known is query leaf slot interval (Err why) e = tt

  -- an Open that is refused
  pub open_refused : (known : Known) → known_at views ≡ known → (q : Statement) (text : List ℕ) (params : List Parameter) (bound : Bound) (interval : Interval) (r : Result Opened Refusal) (k : Machine)
      → Answers (machine_of j) (open_query other (machine_of j) (Ok q) text params bound interval) (as_reply opened_reply r) k
      → IfErr r (λ why. MayReply schema known (λ m. open_query schema m (Ok q) text params bound interval) (reply.Refused why))
  open_refused known is q text params bound interval (Ok o) k e = tt
  open_refused known is q text params bound interval (Err why) k e = open_replies known is q text params bound interval (reply.Refused why) k e

  -- a query's end that is refused
  pub end_refused : {A : Type 0} (query : ℕ) (r : Result A Refusal) → IfErr r (λ why. finish other (machine_of j) query ≡ refused (machine_of j) why) → IfErr r (IsEndRefused schema)
  end_refused query (Ok x) e = tt
  end_refused query (Err why) e = (
    query,
    (
      known_at views,
      replies schema table here views j keeper (known_at views) refl (λ m. finish schema m query) (reply.Refused why)
          (subst (λ (s : List Table). reply.Refused why ≡ (finish s (machine_of j) query).0) same (sym (ap (λ (a : Answer). a.0) e))),
    ),
  )

-- the text is understood, and the query is not opened, or memory ran out
unopened : (schema : List Table) (known : Known) (q : Statement) (text : List ℕ) (params : List Parameter) (bound : Bound) (interval : Interval) → Understands schema text params (Ok q) → (why : Refusal)
    → MayReply schema known (λ m. open_query schema m (Ok q) text params bound interval) (reply.Refused why) → (why ≡ refusal.OutOfMemory) ⊎ IsUnopened schema text params bound interval why
unopened schema known q text params bound interval understood why (inl e) = inl (refused_same why refusal.OutOfMemory e)
unopened schema known q text params bound interval understood why (inr r) = inr (record { statement = q; understood = understood; refused = (known, r) })

-- the same of a result, where copies of the text and of the parameters were handed in
pub result_unopened : (schema : List Table) (known : Known) (q : Statement) (text copy : List ℕ) (params copies : List Parameter) (bound : Bound) (interval : Interval) → copy ≡ text → copies ≡ params
    → Understands schema text params (Ok q) → (r : Result Opened Refusal) → IfErr r (λ why. MayReply schema known (λ m. open_query schema m (Ok q) copy copies bound interval) (reply.Refused why))
    → IfErr r (λ why. (why ≡ refusal.OutOfMemory) ⊎ IsUnopened schema text params bound interval why)
result_unopened schema known q text copy params copies bound interval same_text same_params understood (Ok o) e = tt
result_unopened schema known q text copy params copies bound interval same_text same_params understood (Err why) e =
    unopened schema known q text params bound interval understood why
    (subst (λ (t : List ℕ). MayReply schema known (λ m. open_query schema m (Ok q) t params bound interval) (reply.Refused why)) same_text
    (subst (λ (ps : List Parameter). MayReply schema known (λ m. open_query schema m (Ok q) copy ps bound interval) (reply.Refused why)) same_params e))

-- what was taken is a fault, or there are no rows of it for another reason
rows_unfinished : (schema : List Table) (text : List ℕ) (params : List Parameter) (s : ℕ) (seen : List Commit) (taken : Taken) (why : Refusal)
    → ((why ≡ refusal.ArithmeticFault) × IsFaultOf taken text params s) ⊎ IsAmong (refusal.OutOfMemory ∷ refusal.UnknownQuery ∷ []) why
    → (gathered taken.pieces taken.top ≡ None → IsFault schema taken.text taken.params seen taken.s)
    → IsUnfinished schema text params seen s why
rows_unfinished schema text params s seen taken why (inl e) faulty =
    let f = e.1 in
    inl (
      e.0,
      subst (λ (t : List ℕ). IsFault schema t params seen s) f.text_is
          (subst (λ (ps : List Parameter). IsFault schema taken.text ps seen s) f.params_are
          (subst (λ (i : ℕ). IsFault schema taken.text taken.params seen i) f.s_is (faulty f.gives))),
    )
rows_unfinished schema text params s seen taken why (inr e) faulty = inr (inl e)

-- the same of a result
pub result_unfinished : (schema : List Table) (text : List ℕ) (params : List Parameter) (s : ℕ) (seen : List Commit) (taken : Taken) (r : Result Found Refusal)
    → IfErr r (λ why. ((why ≡ refusal.ArithmeticFault) × IsFaultOf taken text params s) ⊎ IsAmong (refusal.OutOfMemory ∷ refusal.UnknownQuery ∷ []) why)
    → (gathered taken.pieces taken.top ≡ None → IsFault schema taken.text taken.params seen taken.s)
    → IfErr r (IsUnfinished schema text params seen s)
result_unfinished schema text params s seen taken (Ok x) e faulty = tt
result_unfinished schema text params s seen taken (Err why) e faulty = rows_unfinished schema text params s seen taken why e faulty

-- a query that was opened is refused in its scans or at its end
pub ended_refused : {A : Type 0} (schema : List Table) (text : List ℕ) (params : List Parameter) (bound : Bound) (read : Interval) (seen : List Commit) (s : ℕ) → s ≡ timestamp_of bound read
    → (gives : Interval → Type 0) → gives read → (r : Result A Refusal) → IfErr r (λ why. IsUnscanned schema why ⊎ IsUnfinished schema text params seen s why)
    → IfErr r (λ why. (i : Interval) × gives i × IsQueryRefusal schema text params bound i seen why)
ended_refused schema text params bound read seen s at gives given (Ok x) e = tt
ended_refused schema text params bound read seen s at gives given (Err why) (inl u) = (read, given, inr (inl u))
ended_refused schema text params bound read seen s at gives given (Err why) (inr u) = (read, given, inr (inr (subst (λ (i : ℕ). IsUnfinished schema text params seen i why) at u)))

-- what was taken was asked so, and gives a fault, or memory ran out
pub taken_fault : (taken : Taken) (text : List ℕ) (params : List Parameter) (s : ℕ) (why : Refusal) (pieces : List (List Piece)) → pieces ≡ taken.pieces
    → (taken.text ≡ text) × (taken.params ≡ params) × (taken.s ≡ s) → ((why ≡ refusal.ArithmeticFault) × (gathered pieces taken.top ≡ None)) ⊎ (why ≡ refusal.OutOfMemory)
    → ((why ≡ refusal.ArithmeticFault) × IsFaultOf taken text params s) ⊎ IsAmong (refusal.OutOfMemory ∷ refusal.UnknownQuery ∷ []) why
taken_fault taken text params s why pieces are same (inl e) = inl (
  e.0,
  record {
    text_is = same.0;
    params_are = same.1;
    s_is = same.2;
    gives = subst (λ (ps : List (List Piece)). gathered ps taken.top ≡ None) are e.1;
  },
)
taken_fault taken text params s why pieces are same (inr e) = inr (inl e)

-- copies that were made are the same
pub copies_same : (r : Result (List ℕ × List Parameter) Refusal) (text copy : List ℕ) (params copies : List Parameter) → IfOk r (λ x. (x.0 ≡ text) × (x.1 ≡ params)) → r ≡ Ok (copy, copies) → (copy ≡ text) × (copies ≡ params)
copies_same r text copy params copies made is = subst (λ (q : Result (List ℕ × List Parameter) Refusal). IfOk q (λ x. (x.0 ≡ text) × (x.1 ≡ params))) is made
