-- One law for each way out of a call in place: its premises are the facts in hand there. Assumes nothing.
use Rattle.std.specs.Prelude.{Option, Some, None, Result, Ok, Err, ⊤}
use Prim.Native.Nat.{ℕ}
use mathlib.Core.Bool.{Bool, true, false, not}
use mathlib.Core.List.{List, ◌∷◌}
use mathlib.Core.Path.{◌≡◌, refl, sym, ap, ◌∙◌}
use native.Mathlib.Omega.{arith}
use borrow.Author.Tests.{not-true}
use Rattle.chain.specs.After.{After, after}
use Rattle.chain.specs.Chain.{◌if◌else◌}
use Rattle.chain.specs.Lists.{found_in}
use Rattle.chain.proofs.Chain.{takes, passes, both, not_through, fits_told}
use Rattle.models.specs.Refusals.{refusal_of, pass}
use Rattle.models.specs.Requests.{same_request, is_pending}
use Rattle.models.specs.declared.{Refusal.Refusal, RequestId.RequestId, RequestReport.RequestReport}
use Rattle.rows.specs.Table.{empty_row, row_in, report_of, is_pending_row}
use Rattle.rows.specs.Values.{report_values}
use Rattle.rows.specs.Store.{Store, put_in}
use Rattle.rows.specs.declared.{Row.Row}
use Rattle.rules.specs.declared.{Change.Change}
use Rattle.ledger.specs.Apply.{apply_of}
use Rattle.ledger.specs.Search.{is_at}
use Rattle.ledger.specs.InPlace.{apply_placed, reported_at, freed_at}
use Rattle.ledger.proofs.Found.{found_row}
use Rattle.ledger.proofs.in_place.Laws as places
use Rattle.session.specs.Lent.{store_fits}
use Rattle.session.specs.Session.{is_busy, is_initialized, with_flight}
use Rattle.session.specs.Sizes.{rows_fit}
use Rattle.session.specs.Start.{guarded, ready_of}
use Rattle.session.specs.declared.{Called.Called, InFlight.InFlight, Session.Session, Size.Size}
use Rattle.session.proofs.start.Laws as start
use Rattle.polls.specs.Poll.{poll_row, poll_of}
use Rattle.polls.proofs.poll.Laws as polls
use Rattle.reports.specs.Change.{reported_by, change_of}
use Rattle.reports.specs.Status.{is_submitting, shown_at, status_by, status_of}
use Rattle.reports.proofs.change.Laws as change
use Rattle.session_words.specs.Fields.{is_submit_flight, flight_id}
use Rattle.session_words.specs.State.{read_session, is_session, kept_of, kept_as}
use Rattle.session_words.proofs.Own.{written_same}
use Rattle.calls.specs.Answers.{of_report, of_poll}
use Rattle.calls.specs.declared.{Answer.Answer}
use Rattle.answer_words.specs.Encode.{report_words, written}
use Rattle.direct.specs.Direct.{told, of_applied, applied_told, reported_told, polled_told}
use Rattle.polls.specs.declared.{PollAnswer.PollAnswer}
use Rattle.session.specs.Called.{call_refused}

-- ---- what the words of a session say
pub fits_is : (l : List ℕ) (z : Size) (words : ℕ) (r : Bool) → z ≡ (read_session l).size → r ≡ rows_fit z words → r ≡ rows_fit (read_session l).size words
fits_is l z words r ez er = er ∙ rw ez

-- whether an id's submission is in flight
submitting_no : (f : InFlight) (id : RequestId) → is_submit_flight f ≡ false → false ≡ is_submitting f id
submitting_no InFlight.Nothing id e = refl
submitting_no (InFlight.Submission own) id e = let z : ◌≡◌ {A = ℕ} 0 1 = cc in absurd (omega arith)
submitting_no (InFlight.Poll own) id e = refl
submitting_no (InFlight.Recovery x) id e = refl

submitting_yes : (f : InFlight) (id : RequestId) → is_submit_flight f ≡ true → same_request (flight_id f) id ≡ is_submitting f id
submitting_yes InFlight.Nothing id e = let z : ◌≡◌ {A = ℕ} 0 1 = cc in absurd (omega arith)
submitting_yes (InFlight.Submission own) id e = refl
submitting_yes (InFlight.Poll own) id e = let z : ◌≡◌ {A = ℕ} 0 1 = cc in absurd (omega arith)
submitting_yes (InFlight.Recovery x) id e = let z : ◌≡◌ {A = ℕ} 0 1 = cc in absurd (omega arith)

submission_flies : (f : InFlight) → is_submit_flight f ≡ true → is_busy f ≡ true
submission_flies InFlight.Nothing e = let z : ◌≡◌ {A = ℕ} 0 1 = cc in absurd (omega arith)
submission_flies (InFlight.Submission own) e = refl
submission_flies (InFlight.Poll own) e = refl
submission_flies (InFlight.Recovery x) e = refl

module _ (f : InFlight) (b : Bool) (eb : b ≡ is_submit_flight f) where
  pub submitting_not : (id : RequestId) → not b ≡ true → false ≡ is_submitting f id
  submitting_not id t = submitting_no f id (sym eb ∙ not-true b t)

  pub submission_busy : not b ≡ false → is_busy f ≡ true
  submission_busy t = submission_flies f (fits_told b _ eb t)

  pub submitting_own : (id own : RequestId) (r : Bool) → not b ≡ false → own ≡ flight_id f → r ≡ same_request own id → r ≡ is_submitting f id
  submitting_own id own r t eo er = er ∙ ap (λ (x : RequestId). same_request x id) eo ∙ submitting_yes f id (fits_told b _ eb t)

-- the start of a call
module _ (s : Session) (fits f b : Bool) (eb : b ≡ is_busy s.in_flight) where
  pub start_unfit : (r : Refusal) → b ≡ false → f ≡ fits → not f ≡ true → r ≡ refusal_of 3 → Err r ≡ ready_of s fits
  start_unfit r nb ef t er = start.ready_unfit s fits b eb nb r (not_through f fits true ef t) er

  pub start_pass : b ≡ false → f ≡ fits → not f ≡ false → (Ok tt) ≡ ready_of s fits
  start_pass nb ef t = start.ready_pass s fits b eb nb (not_through f fits false ef t)

idle_by : (b f : Bool) → (Err (refusal_of 1) if b else Err (refusal_of 3) if not f else pass) ≡ pass → b ≡ false
unfolding ◌if◌else◌
idle_by true f e = let z : ◌≡◌ {A = ℕ} 0 1 = cc in absurd (omega arith)
idle_by false f e = refl

-- ---- what is written
applied_answer : (a : Result RequestReport Refusal) (s : Session) → of_applied a ≡ of_report (reported_by a s).answer
unfolding reported_by
applied_answer (Err r) s = refl
applied_answer (Ok x) s = refl

module _ (out after-out : List ℕ) where
  pub refused_by_lem : (r : Refusal) (n : ℕ) → r ≡ refusal_of n → after-out ≡ told (Answer.Refused r) out → after-out ≡ told (Answer.Refused (refusal_of n)) out
  refused_by_lem r n e eo = eo ∙ rw e

  pub report_told : (r : Row) (v : List ℕ) → v ≡ report_values (report_of r) → after-out ≡ written (4 ∷ v) out → after-out ≡ told (Answer.Report (report_of r)) out
  unfolding report_words
  report_told r v ev eo = eo ∙ rw ev

  -- a status
  module _ (id : RequestId) (s : Session) (store : Store) (f : Bool) (ef : f ≡ store_fits s.size store) where
    by_status : (x : Result RequestReport Refusal) → x ≡ status_of id s store → after-out ≡ told (of_report x) out → after-out ≡ told (of_report (status_of id s store)) out
    by_status x e eo = eo ∙ ap (λ (z : Result RequestReport Refusal). told (of_report z) out) e

    pub status_unfit : not f ≡ true → after-out ≡ told (Answer.Refused (refusal_of 3)) out → after-out ≡ told (of_report (status_of id s store)) out
    unfolding status_of
    status_unfit t = by_status _ (takes (Result RequestReport Refusal) _ _ _ _ (not_through f _ true ef t) refl)

    module _ (nf : not f ≡ false) (g : Option ℕ) (eg : g ≡ shown_at s.in_flight id store.rows) where
      pub status_none : g ≡ None → after-out ≡ told (Answer.Refused (refusal_of 40)) out → after-out ≡ told (of_report (status_of id s store)) out
      unfolding status_of status_by
      status_none t = by_status (Err (refusal_of 40)) (passes (Result RequestReport Refusal) _ _ _ _ (not_through f _ false ef nf) (rw (sym eg ∙ t)))

      pub status_at : (i : ℕ) → g ≡ Some i → after-out ≡ told (Answer.Report (report_of (row_in store.rows i))) out
          → after-out ≡ told (of_report (status_of id s store)) out
      unfolding status_of status_by
      status_at i t = by_status (Ok (report_of (row_in store.rows i))) (passes (Result RequestReport Refusal) _ _ _ _ (not_through f _ false ef nf) (rw (sym eg ∙ t)))

  -- where a row stands
  module _ (p : Result ℕ Refusal) where
    pub placed_none : (rows : List Row) (r : Refusal) → p ≡ Err r → after-out ≡ told (Answer.Refused r) out
        → after-out ≡ told (of_applied (reported_at p rows)) out
    placed_none rows r e eo = eo ∙ rw e

    pub placed_at : (rows : List Row) (i : ℕ) → p ≡ Ok i → after-out ≡ told (Answer.Report (report_of (row_in rows i))) out
        → after-out ≡ told (of_applied (reported_at p rows)) out
    placed_at rows i e eo = eo ∙ rw e

    pub freed_none : (s : Store) (r : Refusal) → p ≡ Err r → after-out ≡ told (Answer.Refused r) out
        → after after-out s ≡ applied_told (freed_at p s) out
    freed_none s r e eo = rw (e, eo)

    pub freed_at_lem : (s left : Store) (i : ℕ) → p ≡ Ok i → after-out ≡ told (Answer.Report (report_of (row_in s.rows i))) out
        → left ≡ put_in s i empty_row → after after-out left ≡ applied_told (freed_at p s) out
    freed_at_lem s left i e eo el = rw (e, eo, el)

  -- a change
  module _ (id : RequestId) (c : Change) (s : Session) (store : Store) (v : Result ⊤ Refusal) (ev : v ≡ ready_of s (store_fits s.size store)) where
    pub change_stop : (r : Refusal) → v ≡ Err r → after-out ≡ told (Answer.Refused r) out
        → after after-out store ≡ reported_told (change_of id c s store) out
    change_stop r e eo =
        ap (λ (z : List ℕ). after z store) eo
        ∙ ap (λ (z : After (Called RequestReport) Store). reported_told z out) (change.change_stop id c s store (call_refused s r) v ev r e refl)

    change_on : (a : Result RequestReport Refusal) (left : Store) → v ≡ (Ok tt) → after a left ≡ apply_of id c store → after-out ≡ told (of_applied a) out
        → after after-out left ≡ reported_told (change_of id c s store) out
    change_on a left e ea eo =
        ap (λ (z : List ℕ). after z left) (eo ∙ ap (λ (z : Answer). told z out) (applied_answer a s))
        ∙ ap (λ (z : After (Called RequestReport) Store). reported_told z out) (change.change_on id c s store (reported_by a s) v ev a left e ea refl)

  -- by the row's place
  module _ (id : RequestId) (s : Session) (store : Store) (v : Result ⊤ Refusal) (ev : v ≡ ready_of s (store_fits s.size store)) (p : Result ℕ Refusal) (left : Store)
      (e : v ≡ (Ok tt)) where
    pub cancel_on : after p left ≡ apply_placed id Change.LogicalCancel store → after-out ≡ told (of_applied (reported_at p left.rows)) out
        → after after-out left ≡ reported_told (change_of id Change.LogicalCancel s store) out
    cancel_on ep eo = change_on id Change.LogicalCancel s store v ev (reported_at p left.rows) left e (places.cancel_reports id store p left ep) eo

    pub timeout_on : after p left ≡ apply_placed id Change.Timeout store → after-out ≡ told (of_applied (reported_at p left.rows)) out
        → after after-out left ≡ reported_told (change_of id Change.Timeout s store) out
    timeout_on ep eo = change_on id Change.Timeout s store v ev (reported_at p left.rows) left e (places.timeout_reports id store p left ep) eo

    pub reclaim_on : p ≡ (apply_placed id Change.Reclaim store).result → after after-out left ≡ applied_told (freed_at p store) out
        → after after-out left ≡ reported_told (change_of id Change.Reclaim s store) out
    reclaim_on ep h =
        let o = freed_at p store in
        h
        ∙ ap (λ (z : Answer). after (told z out) o.lent) (applied_answer o.result s)
        ∙ ap (λ (z : After (Called RequestReport) Store). reported_told z out)
        (change.change_on id Change.Reclaim s store (reported_by o.result s) v ev o.result o.lent e (places.reclaim_frees id store p ep) refl)

  -- a poll, in the session's words l
  module _ (id : RequestId) (l : List ℕ) where
    abbrev Told : List ℕ → Called PollAnswer → Type 0
    Told next x = after after-out (kept_of next) ≡ polled_told x l out

    by_poll : (next : List ℕ) (x y : Called PollAnswer) → x ≡ y → Told next x → Told next y
    by_poll next x y e h = h ∙ ap (λ (z : Called PollAnswer). polled_told z l out) e

    -- the session stays
    stays : (a : Result PollAnswer Refusal) → is_session l ≡ true → after-out ≡ told (of_poll a) out → Told l (polls.polled_as a (read_session l))
    stays a h eo = ap (λ (z : List ℕ). after z (kept_of l)) eo ∙ ap (after (told (of_poll a) out)) (sym (written_same l h))

    -- the row of a poll
    module _ (h : is_session l ≡ true) (row : Row) (used : row.used ≡ true) (p : Bool) (ep : p ≡ is_pending_row row) where
      pending : p ≡ is_pending row.state
      unfolding is_pending_row
      pending = ep ∙ rw used

      pub row_told : not p ≡ true → after-out ≡ told (Answer.Report (report_of row)) out → Told l (poll_row row id (read_session l))
      row_told t eo = by_poll l _ _ (polls.row_told (read_session l) row id p pending (report_of row) t refl) (stays (Ok (PollAnswer.Report (report_of row))) h eo)

      module _ (np : not p ≡ false) (b : Bool) (eb : b ≡ is_initialized (read_session l).state) where
        pub row_early : not b ≡ true → after-out ≡ told (Answer.Refused (refusal_of 28)) out → Told l (poll_row row id (read_session l))
        row_early t eo =
            by_poll l _ _ (polls.row_early (read_session l) row id p pending np b eb _ t refl) (stays (Err (refusal_of 28)) h eo)

        pub row_asked : (next : List ℕ) (token : ℕ) → not b ≡ false → kept_of next ≡ kept_as l (with_flight (read_session l) (InFlight.Poll id))
            → token ≡ row.token → after-out ≡ told (Answer.Asked token) out → Told next (poll_row row id (read_session l))
        row_asked next token t ek ek' eo =
            by_poll next _ _ (polls.row_asked (read_session l) row id p pending np b eb (with_flight (read_session l) (InFlight.Poll id)) t refl)
            (ap (λ (z : List ℕ). after z (kept_of next)) (eo ∙ rw ek') ∙ ap (after (told (Answer.Asked row.token) out)) ek)

    -- the call
    module _ (store : Store) (h : is_session l ≡ true) (v : Result ⊤ Refusal) (ev : v ≡ ready_of (read_session l) (store_fits (read_session l).size store)) where
      pub poll_stop : (r : Refusal) → v ≡ Err r → after-out ≡ told (Answer.Refused r) out → Told l (poll_of id (read_session l) store)
      poll_stop r e eo = by_poll l _ _ (polls.poll_stop id (read_session l) store (call_refused (read_session l) r) v ev r e refl) (stays (Err r) h eo)

      module _ (np : v ≡ (Ok tt)) (g : Option ℕ) (eg : g ≡ found_in (is_at id) store.rows) where
        pub poll_none : g ≡ None → after-out ≡ told (Answer.Refused (refusal_of 40)) out → Told l (poll_of id (read_session l) store)
        poll_none t eo =
            by_poll l _ _ (polls.poll_none id (read_session l) store _ v ev np g eg t refl) (stays (Err (refusal_of 40)) h eo)

        pub poll_at : (next : List ℕ) (i : ℕ) → g ≡ Some i → Told next (poll_row (row_in store.rows i) id (read_session l))
            → Told next (poll_of id (read_session l) store)
        poll_at next i t = by_poll next _ _ (polls.poll_at id (read_session l) store _ v ev np g eg i (row_in store.rows i) t refl refl)

-- what a poll's row asks for
pub idle : (s : Session) (fits : Bool) (v : Result ⊤ Refusal) → v ≡ ready_of s fits → v ≡ (Ok tt) → is_busy s.in_flight ≡ false
unfolding ready_of guarded
idle s fits v ev e = idle_by (is_busy s.in_flight) fits (sym ev ∙ e)

pub found_used : (id : RequestId) (rows : List Row) (f : Option ℕ) (i : ℕ) → f ≡ found_in (is_at id) rows → f ≡ Some i → (row_in rows i).used ≡ true
unfolding is_at
found_used id rows f i ef e = (both _ _ (found_row id rows f i ef e).1).0
