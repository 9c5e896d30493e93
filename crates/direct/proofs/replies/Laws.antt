-- One law for each way out of a reply in place: its premises are the facts in hand there. Assumes nothing.
use Rattle.std.specs.Prelude.{Option, Some, None, Result, Ok, Err}
use Prim.Native.Nat.{ℕ, ◌+◌, ◌*◌, ◌<◌, ◌≤◌}
use mathlib.Core.Bool.{Bool, true, false, not}
use mathlib.Core.List.{List}
use mathlib.Core.Path.{◌≡◌, refl, sym, ap, ◌∙◌}
use lib.ListN.{length, get_or, drop}
use native.Mathlib.Omega.{arith}
use borrow.Author.Tests.{not-true, ne_eqb}
use Rattle.chain.specs.After.{After, after}
use Rattle.chain.specs.Chain.{◌if◌else◌}
use Rattle.chain.specs.Lists.{found_in}
use Rattle.chain.proofs.Chain.{caseB, both, takes, passes, not_through, fits_told}
use Rattle.models.specs.Refusals.{refusal_of, from_backend}
use Rattle.models.specs.Requests.{is_pending}
use Rattle.models.specs.Values.{read_error}
use Rattle.models.specs.declared.{BackendCompletion.BackendCompletion, OperationError.OperationError, Refusal.Refusal, RequestId.RequestId, RequestReport.RequestReport}
use Rattle.rows.specs.InPlace.{completed_row}
use Rattle.rows.specs.Table.{read_rows, row_in, row_at, report_of, is_pending_row}
use Rattle.rows.specs.Store.{Store, store_of, put_in}
use Rattle.rows.specs.declared.{Row.Row}
use Rattle.rules.specs.Rules.{moved, completed, failed, change_row}
use Rattle.rules.specs.declared.{Change.Change, Step.Step}
use Rattle.ledger.specs.Apply.{apply_by, changed_at}
use Rattle.ledger.specs.Search.{is_at}
use Rattle.ledger.specs.InPlace.{apply_placed, reported_at, PlacedIn}
use Rattle.ledger.proofs.Found.{found_in_lem}
use Rattle.ledger.proofs.in_place.Laws.{placed_in}
use Rattle.ledger.proofs.in_place.Laws as places
use Rattle.checks.specs.Completion.{test_completion}
use Rattle.session.specs.Lent.{Memory, memory, store_fits, memory_fits}
use Rattle.session.specs.Session.{is_busy, with_flight}
use Rattle.session.specs.Sizes.{data_at, memory_sizes}
use Rattle.session.specs.declared.{Called.Called, InFlight.InFlight, Session.Session, Size.Size}
use Rattle.session.proofs.sizes.Laws.{place_in_lem}
use Rattle.reports.specs.Answers.{is_mild, effect}
use Rattle.polls.specs.PollReply.{failed_as, judged_test, judged_by, judged, stored_in, poll_reply_at, poll_reply_by, poll_reply_found, poll_reply_in, poll_reply_of}
use Rattle.polls.specs.declared.{poll_reply.Judgement.Judgement}
use Rattle.polls.proofs.poll_reply.Laws as polls
use Rattle.submissions.specs.SubmitReply.{accepted_by, submit_reply_in, submit_reply_of}
use Rattle.submissions.proofs.submit_reply.Laws as submits
use Rattle.session_words.specs.Fields.{is_submit_flight, is_poll_flight, flight_id}
use Rattle.session_words.specs.State.{read_session, is_session, Kept, kept_of, kept_as}
use Rattle.session_words.proofs.Own.{written_same}
use Rattle.scope.specs.Returned.{read_completion}
use Rattle.call_words.specs.Arguments.{read_poll_reply, read_submit_reply}
use Rattle.calls.specs.Answers.{outcome, of_report}
use Rattle.calls.specs.declared.{Answer.Answer, Outcome.Outcome}
use Rattle.direct.specs.Direct.{told}
use Rattle.direct.specs.Replies.{reported_out, replied_told, reported_row, failed_row, placed_found, polled_in, polled_at, ending_test, ending_by, ending_of}
use Rattle.direct.specs.declared.{replies.Ending.Ending}
use Rattle.checks.specs.declared.{completion.CompletionFault.CompletionFault, completion.ValidCompletion.ValidCompletion}
use Rattle.session.specs.Called.{call_refused}

pub memory_fits_is : (l : List ℕ) (z : Size) (words bytes : ℕ) (r : Bool) → z ≡ (read_session l).size → r ≡ memory_sizes z words bytes
    → r ≡ memory_sizes (read_session l).size words bytes
memory_fits_is l z words bytes r ez er = er ∙ rw ez

-- what is in flight
poll_yes : (f : InFlight) → is_poll_flight f ≡ true → f ≡ InFlight.Poll (flight_id f)
poll_yes InFlight.Nothing e = let z : ◌≡◌ {A = ℕ} 0 1 = cc in absurd (omega arith)
poll_yes (InFlight.Submission id) e = let z : ◌≡◌ {A = ℕ} 0 1 = cc in absurd (omega arith)
poll_yes (InFlight.Poll id) e = refl
poll_yes (InFlight.Recovery x) e = let z : ◌≡◌ {A = ℕ} 0 1 = cc in absurd (omega arith)

submission_yes : (f : InFlight) → is_submit_flight f ≡ true → f ≡ InFlight.Submission (flight_id f)
submission_yes InFlight.Nothing e = let z : ◌≡◌ {A = ℕ} 0 1 = cc in absurd (omega arith)
submission_yes (InFlight.Submission id) e = refl
submission_yes (InFlight.Poll id) e = let z : ◌≡◌ {A = ℕ} 0 1 = cc in absurd (omega arith)
submission_yes (InFlight.Recovery x) e = let z : ◌≡◌ {A = ℕ} 0 1 = cc in absurd (omega arith)

pub poll_busy : (f : InFlight) (b : Bool) → b ≡ is_poll_flight f → not b ≡ false → is_busy f ≡ true
poll_busy f b eb t = ap is_busy (poll_yes f (fits_told b _ eb t))

-- the row of the poll in flight
module _ (s : Session) (m : Memory) where
  no_poll : (f : InFlight) → is_poll_flight f ≡ false → Err (refusal_of 2) ≡ polled_in f s m
  unfolding polled_in
  no_poll InFlight.Nothing e = refl
  no_poll (InFlight.Submission id) e = refl
  no_poll (InFlight.Poll id) e = let z : ◌≡◌ {A = ℕ} 0 1 = cc in absurd (omega arith)
  no_poll (InFlight.Recovery x) e = refl

  module _ (b : Bool) (eb : b ≡ is_poll_flight s.in_flight) where
    pub polled_other : (r : Refusal) → not b ≡ true → r ≡ refusal_of 2 → Err r ≡ polled_at s m
    polled_other r t er = ap Err er ∙ no_poll s.in_flight (sym eb ∙ not-true b t)

    module _ (tb : not b ≡ false) (f : Bool) (ef : f ≡ memory_fits s.size m) where
      flies : s.in_flight ≡ InFlight.Poll (flight_id s.in_flight)
      flies = poll_yes s.in_flight (fits_told b _ eb tb)

      by_poll : (p : Result ℕ Refusal) → p ≡ polled_in (InFlight.Poll (flight_id s.in_flight)) s m → p ≡ polled_at s m
      by_poll p e = e ∙ sym (ap (λ (x : InFlight). polled_in x s m) flies)

      pub polled_unfit : (r : Refusal) → not f ≡ true → r ≡ refusal_of 3 → Err r ≡ polled_at s m
      unfolding polled_in
      polled_unfit r t er = by_poll (Err r) (takes (Result ℕ Refusal) _ _ _ _ (not_through f _ true ef t) (ap Err er))

      module _ (tf : not f ≡ false) (id : RequestId) (ei : id ≡ flight_id s.in_flight) (g : Option ℕ) (eg : g ≡ found_in (is_at id) m.store.rows) where
        by_found : (p : Result ℕ Refusal) → p ≡ placed_found g → p ≡ polled_at s m
        unfolding polled_in
        by_found p e =
            by_poll p
            (passes (Result ℕ Refusal) _ _ _ _ (not_through f _ false ef tf)
            (e ∙ ap placed_found (eg ∙ ap (λ (x : RequestId). found_in (is_at x) m.store.rows) ei)))

        pub polled_none : (r : Refusal) → g ≡ None → r ≡ refusal_of 2 → Err r ≡ polled_at s m
        polled_none r e er = by_found (Err r) (ap Err er ∙ sym (ap placed_found e))

        pub polled_found : (i : ℕ) → g ≡ Some i → Ok i ≡ polled_at s m
        polled_found i e = by_found (Ok i) (sym (ap placed_found e))

  -- the reply by that row
  module _ (r : Result (Option BackendCompletion) OperationError) (bytes : List ℕ) where
    abbrev reply_placed : Result ℕ Refusal → After (Called RequestReport) Memory
    reply_placed (Err x) = after (call_refused s x) m
    reply_placed (Ok i) = poll_reply_at r i bytes (with_flight s InFlight.Nothing) m

    reply_found : (g : Option ℕ) → reply_placed (placed_found g) ≡ poll_reply_by g r bytes s m
    unfolding poll_reply_by
    reply_found None = refl
    reply_found (Some i) = refl

    reply_in_lem : (f : InFlight) → reply_placed (polled_in f s m) ≡ poll_reply_in f r bytes s m
    unfolding polled_in poll_reply_in poll_reply_found ◌if◌else◌
    reply_in_lem InFlight.Nothing = refl
    reply_in_lem (InFlight.Submission id) = refl
    reply_in_lem (InFlight.Recovery x) = refl
    reply_in_lem (InFlight.Poll id) =
        caseB (not (memory_fits s.size m)) (λ t. rw t) (λ t. rw t (reply_found (found_in (is_at id) m.store.rows)))

    pub reply_placed_lem : (p : Result ℕ Refusal) → p ≡ polled_at s m → reply_placed p ≡ poll_reply_of r bytes s m
    unfolding poll_reply_of
    reply_placed_lem p e = ap reply_placed e ∙ reply_in_lem s.in_flight

  -- it is inside, and so are its bytes
  found_within : (id : RequestId) (g : Option ℕ) → g ≡ found_in (is_at id) m.store.rows → PlacedIn (placed_found g) m.store.rows
  found_within id None e = tt
  found_within id (Some i) e = found_in_lem (is_at id) m.store.rows (Some i) i e refl

  fitting : (f : InFlight) (i : ℕ) → polled_in f s m ≡ Ok i → (memory_fits s.size m ≡ true) × (i < length m.store.rows)
  unfolding polled_in ◌if◌else◌
  fitting InFlight.Nothing i = λ e. (let z : ◌≡◌ {A = ℕ} 0 1 = cc in absurd (omega arith))
  fitting (InFlight.Submission id) i = λ e. (let z : ◌≡◌ {A = ℕ} 0 1 = cc in absurd (omega arith))
  fitting (InFlight.Recovery x) i = λ e. (let z : ◌≡◌ {A = ℕ} 0 1 = cc in absurd (omega arith))
  fitting (InFlight.Poll id) i =
      let g = found_in (is_at id) m.store.rows in
      caseB (memory_fits s.size m)
      (λ t. rw t λ e. (refl, placed_in (placed_found g) i m.store.rows e (found_within id g refl)))
      (λ t. rw t λ e. (let z : ◌≡◌ {A = ℕ} 0 1 = cc in absurd (omega arith)))

module _ (s : Session) (rows area : List ℕ) (i : ℕ) (e : polled_at s (memory (store_of rows) area) ≡ Ok i) where
  pub polled_in_lem : i < length (read_rows rows)
  unfolding store_of
  polled_in_lem = (fitting s (memory (store_of rows) area) s.in_flight i e).1

  pub polled_room : i * s.size.row_bytes + s.size.row_bytes ≤ length area
  unfolding store_of
  polled_room = place_in_lem s.size rows (length area) (fitting s (memory (store_of rows) area) s.in_flight i e).0 i polled_in_lem

-- what a completion does to a Pending row
module _ (t : Result ValidCompletion CompletionFault) where
  pub test_valid : (v : ValidCompletion) → t ≡ Ok v → Ending.Completed v.actual_length v.completion_code ≡ ending_test t
  unfolding ending_test
  test_valid v e = rw e

  pub test_fault : (f : CompletionFault) → t ≡ Err f → Ending.ByValue ≡ ending_test t
  unfolding ending_test
  test_fault f e = rw e

module _ (c : BackendCompletion) (given requested : ℕ) where
  module _ (e : OperationError) (ee : c.error ≡ Some e) where
    by_error : (x : Ending) → x ≡ ending_by (Some e) c given requested → x ≡ ending_of c given requested
    by_error x h = h ∙ sym (ap (λ (o : Option OperationError). ending_by o c given requested) ee)

    pub ending_marked : not c.quiescent ≡ true → Ending.ByValue ≡ ending_of c given requested
    unfolding ending_by
    ending_marked t = by_error Ending.ByValue (takes Ending _ _ _ _ t refl)

    pub ending_failed : not c.quiescent ≡ false → Ending.Failed e c.completion_code ≡ ending_of c given requested
    unfolding ending_by
    ending_failed t = by_error (Ending.Failed e c.completion_code) (passes Ending _ _ _ _ t refl)

  module _ (ee : c.error ≡ None) (t : Result ValidCompletion CompletionFault) (et : t ≡ test_completion c given requested) where
    by_test : ending_test t ≡ ending_of c given requested
    unfolding ending_by
    by_test = ap ending_test et ∙ sym (ap (λ (o : Option OperationError). ending_by o c given requested) ee)

    pub ending_tested : (x : Ending) → x ≡ ending_test t → x ≡ ending_of c given requested
    ending_tested x h = h ∙ by_test

-- the judgement of such a completion
module _ (s : Session) (row : Row) (c : BackendCompletion) (given : ℕ) where
  abbrev judged_as : Ending → Judgement → Judgement
  judged_as Ending.ByValue j = j
  judged_as (Ending.Completed actual code) j = polls.judgement (Change.Complete actual code) s true
  judged_as (Ending.Failed e code) j = polls.judgement (Change.Fail e code true) s false

  test_judged : (t : Result ValidCompletion CompletionFault) → judged_as (ending_test t) (judged_test t s c) ≡ judged_test t s c
  unfolding ending_test judged_test
  test_judged (Ok v) = refl
  test_judged (Err f) = refl

  error_judged : (o : Option OperationError) → judged_as (ending_by o c given row.metadata.requested_length) (judged_by o s row c given) ≡ judged_by o s row c given
  unfolding ending_by judged_by failed_as ◌if◌else◌
  error_judged None = test_judged (test_completion c given row.metadata.requested_length)
  error_judged (Some e) = caseB c.quiescent (λ t. rw t) (λ t. rw t)

  judged_as_lem : (x : Ending) → x ≡ ending_of c given row.metadata.requested_length → judged_as x (judged s row c given) ≡ judged s row c given
  unfolding judged
  judged_as_lem x e = ap (λ (y : Ending). judged_as y (judged s row c given)) e ∙ error_judged c.error

-- the row takes its change
module _ (idle : Session) (m : Memory) (i : ℕ) (bytes : List ℕ) (c : BackendCompletion) (pending : is_pending (row_in m.store.rows i).state ≡ true) (x : Ending)
    (ex : x ≡ ending_of c (length bytes) (row_in m.store.rows i).metadata.requested_length) where
  abbrev row : Row
  row = row_in m.store.rows i

  settles : (j : Judgement) (next : Row) → j ≡ judged idle row c (length bytes) → change_row row j.change ≡ moved next
      → after (record { answer = Ok (report_of next); session = j.session }) (memory (put_in m.store i next) (stored_in idle.size i bytes j.stored m.area))
      ≡ poll_reply_at (Ok (Some c)) i bytes idle m
  unfolding moved changed_at apply_by
  settles j next ej en =
      polls.at_completion (Ok (Some c)) i bytes idle m row refl c j _ refl ej
      (polls.settled_done j i bytes idle m.area (Ok (report_of next)) (put_in m.store i next) (changed_at i j.change m.store)
      (ap (λ (t : Result Step Refusal). apply_by t i m.store) (sym en)) (report_of next) (stored_in idle.size i bytes j.stored m.area) refl refl)

  pub completed_at : (actual code : ℕ) → x ≡ Ending.Completed actual code
      → after (record { answer = Ok (report_of (completed_row row actual code)); session = idle })
      (memory (put_in m.store i (completed_row row actual code)) (data_at idle.size i bytes m.area))
      ≡ poll_reply_at (Ok (Some c)) i bytes idle m
  unfolding change_row completed stored_in ◌if◌else◌
  completed_at actual code e =
      settles (polls.judgement (Change.Complete actual code) idle true) (completed_row row actual code)
      (ap (λ (y : Ending). judged_as idle row c (length bytes) y (judged idle row c (length bytes))) (sym e) ∙ judged_as_lem idle row c (length bytes) x ex)
      (places.pending row.state (moved (completed_row row actual code)) pending)

  pub failed_at : (e : OperationError) (code : Option ℕ) → x ≡ Ending.Failed e code
      → after (record { answer = Ok (report_of (failed_row row e code)); session = idle }) (memory (put_in m.store i (failed_row row e code)) m.area)
      ≡ poll_reply_at (Ok (Some c)) i bytes idle m
  unfolding change_row failed stored_in ◌if◌else◌
  failed_at e code h =
      settles (polls.judgement (Change.Fail e code true) idle false) (failed_row row e code)
      (ap (λ (y : Ending). judged_as idle row c (length bytes) y (judged idle row c (length bytes))) (sym h) ∙ judged_as_lem idle row c (length bytes) x ex)
      (places.pending row.state (moved (failed_row row e code)) pending)

-- l are the session's words, next those after the call, out and after-out the words lent for an answer
module _ (l next out after-out : List ℕ) where
  abbrev outs : After (List ℕ) Kept
  outs = after after-out (kept_of next)

  pub reported_told_lem : (x : Called RequestReport) (o : Outcome) → o ≡ outcome (of_report x.answer) x.session → kept_of next ≡ kept_as l o.session
      → after-out ≡ told o.answer out → outs ≡ reported_out x l out
  reported_told_lem x o eo ek ea =
      ap (λ (z : List ℕ). after z (kept_of next)) ea ∙ ap (after (told o.answer out)) ek
      ∙ ap (λ (y : Outcome). after (told y.answer out) (kept_as l y.session)) eo

  pub ended_told : (row : Row) → kept_of next ≡ kept_as l (with_flight (read_session l) InFlight.Nothing) → after-out ≡ told (Answer.Report (report_of row)) out
      → outs ≡ reported_out (reported_row row (read_session l)) l out
  ended_told row ek ea = ap (λ (z : List ℕ). after z (kept_of next)) ea ∙ ap (after (told (Answer.Report (report_of row)) out)) ek

  pub refused_told : (e : OperationError) (r : Refusal) → kept_of next ≡ kept_as l (with_flight (read_session l) InFlight.Nothing) → r ≡ from_backend 45 e
      → after-out ≡ told (Answer.Refused r) out
      → outs ≡ reported_out (call_refused (with_flight (read_session l) InFlight.Nothing) (from_backend 45 e)) l out
  refused_told e r ek er ea =
      ap (λ (z : List ℕ). after z (kept_of next)) (ea ∙ ap (λ (y : Refusal). told (Answer.Refused y) out) er)
      ∙ ap (after (told (Answer.Refused (from_backend 45 e)) out)) ek

  -- what is written; m is lent beside it
  abbrev Told : {M : Type 0} → M → After (Called RequestReport) M → Type 0
  Told m o = after outs m ≡ replied_told o l out

  by_reply : {M : Type 0} (m : M) (x y : After (Called RequestReport) M) → x ≡ y → Told m x → Told m y
  by_reply {M} m x y e h = h ∙ ap (λ (z : After (Called RequestReport) M). replied_told z l out) e

  pub poll_told : (s : Session) (r : Result (Option BackendCompletion) OperationError) (bytes : List ℕ) (m left : Memory) (x : Called RequestReport) → s ≡ read_session l → after x left ≡ poll_reply_of r bytes s m
      → outs ≡ reported_out x l out → Told left (poll_reply_of r bytes (read_session l) m)
  poll_told s r bytes m left x es ex eo =
      by_reply left (after x left) _ (ex ∙ ap (λ (y : Session). poll_reply_of r bytes y m) es) (ap (λ (z : After (List ℕ) Kept). after z left) eo)

  pub submit_told : (s : Session) (r y : Result ℕ OperationError) (store left : Store) (x : Called RequestReport) → s ≡ read_session l → r ≡ y → after x left ≡ submit_reply_of r s store
      → outs ≡ reported_out x l out → Told left (submit_reply_of y (read_session l) store)
  submit_told s r y store left x es er ex eo =
      by_reply left (after x left) _ (ex ∙ ap (λ (z : Session). submit_reply_of r z store) es ∙ ap (λ (z : Result ℕ OperationError). submit_reply_of z (read_session l) store) er)
      (ap (λ (z : After (List ℕ) Kept). after z left) eo)

  -- row i of the words rows has changed
  module _ (rows rows' : List ℕ) (i : ℕ) (h : i < length (read_rows rows)) (row : Row) (er : store_of rows' ≡ put_in (store_of rows) i row)
      (eo : outs ≡ reported_out (reported_row (row_at rows' i) (read_session l)) l out) where
    own : outs ≡ reported_out (reported_row row (read_session l)) l out
    own = eo ∙ ap (λ (y : Row). reported_out (reported_row y (read_session l)) l out) (places.read_back rows rows' i row h er)

    pub fail_told : Told (store_of rows') (after (reported_row row (read_session l)) (put_in (store_of rows) i row))
    fail_told = ap (λ (z : After (List ℕ) Kept). after z (store_of rows')) own ∙ ap (after (reported_out (reported_row row (read_session l)) l out)) er

    pub complete_told : (bytes area area' : List ℕ) → area' ≡ data_at (read_session l).size i bytes area
        → Told (memory (store_of rows') area') (after (reported_row row (read_session l)) (memory (put_in (store_of rows) i row) (data_at (read_session l).size i bytes area)))
    complete_told bytes area area' ea =
        ap (λ (y : After (List ℕ) Kept). after y (memory (store_of rows') area')) own
        ∙ ap (λ (y : Store). after (reported_out (reported_row row (read_session l)) l out) (memory y area')) er
        ∙ ap (λ (y : List ℕ). after (reported_out (reported_row row (read_session l)) l out) (memory (put_in (store_of rows) i row) y)) ea

-- a poll's reply, on the session's own words l
module _ (l out after-out : List ℕ) (m : Memory) where
  pub poll_refused_lem : (r : Result (Option BackendCompletion) OperationError) (bytes : List ℕ) (p : Result ℕ Refusal) (x : Refusal) → is_session l ≡ true → p ≡ polled_at (read_session l) m → p ≡ Err x
      → after-out ≡ told (Answer.Refused x) out → Told l l out after-out m (poll_reply_of r bytes (read_session l) m)
  poll_refused_lem r bytes p x h ep e eo =
      by_reply l l out after-out m (after (call_refused (read_session l) x) m) _ (reply_placed_lem (read_session l) m r bytes (Err x) (sym e ∙ ep))
      (ap (λ (z : List ℕ). after (after z (kept_of l)) m) eo ∙ ap (λ (k : Kept). after (after (told (Answer.Refused x) out) k) m) (sym (written_same l h)))

  -- its row is i
  module _ (i : ℕ) (ep : polled_at (read_session l) m ≡ Ok i) (next : List ℕ) where
    abbrev idle : Session
    idle = with_flight (read_session l) InFlight.Nothing

    at : (r : Result (Option BackendCompletion) OperationError) (bytes : List ℕ) (left : Memory) (o : After (Called RequestReport) Memory)
        → o ≡ poll_reply_at r i bytes idle m
        → Told l next out after-out left o → Told l next out after-out left (poll_reply_of r bytes (read_session l) m)
    at r bytes left o e = by_reply l next out after-out left o _ (e ∙ reply_placed_lem (read_session l) m r bytes (Ok i) (sym ep))

    pub poll_nothing : (r : Result (Option BackendCompletion) OperationError) (bytes : List ℕ) → r ≡ (Ok None) → outs l next out after-out ≡ reported_out (reported_row (row_in m.store.rows i) (read_session l)) l out
        → Told l next out after-out m (poll_reply_of r bytes (read_session l) m)
    poll_nothing r bytes er eo =
        let row = row_in m.store.rows i in
        at r bytes m (after (reported_row row (read_session l)) m)
        (polls.at_nothing r i bytes idle m row refl (report_of row) er refl)
        (ap (λ (z : After (List ℕ) Kept). after z m) eo)

    pub poll_mild : (r : Result (Option BackendCompletion) OperationError) (bytes : List ℕ) (e : OperationError) (b : Bool) → r ≡ Err e → b ≡ is_mild e.category → not b ≡ false
        → outs l next out after-out ≡ reported_out (call_refused idle (from_backend 45 e)) l out
        → Told l next out after-out m (poll_reply_of r bytes (read_session l) m)
    unfolding effect
    poll_mild r bytes e b er eb t eo =
        let row = row_in m.store.rows i in
        at r bytes m (after (call_refused idle (from_backend 45 e)) m)
        (polls.at_error r i bytes idle m row refl e idle (from_backend 45 e) (call_refused idle (from_backend 45 e)) er
        (takes Session _ _ _ _ (fits_told b _ eb t) refl) refl refl)
        (ap (λ (z : After (List ℕ) Kept). after z m) eo)

    -- its row is Pending, and a completion came
    module _ (c : BackendCompletion) (bytes : List ℕ) (requested : ℕ) (x : Ending) (pending : is_pending_row (row_in m.store.rows i) ≡ true)
        (eq : requested ≡ (row_in m.store.rows i).metadata.requested_length) (ex : x ≡ ending_of c (length bytes) requested) where
      pending_state : is_pending (row_in m.store.rows i).state ≡ true
      unfolding is_pending_row
      pending_state = (both (row_in m.store.rows i).used (is_pending (row_in m.store.rows i).state) pending).1

      ending_is : x ≡ ending_of c (length bytes) (row_in m.store.rows i).metadata.requested_length
      ending_is = ex ∙ ap (λ (n : ℕ). ending_of c (length bytes) n) eq

      pub poll_completed : (actual code : ℕ) (left : Memory) → x ≡ Ending.Completed actual code
          → Told l next out after-out left (after (reported_row (completed_row (row_in m.store.rows i) actual code) (read_session l))
          (memory (put_in m.store i (completed_row (row_in m.store.rows i) actual code)) (data_at (read_session l).size i bytes m.area)))
          → Told l next out after-out left (poll_reply_of (Ok (Some c)) bytes (read_session l) m)
      poll_completed actual code left e =
          at (Ok (Some c)) bytes left _
          (completed_at idle m i bytes c pending_state x ending_is actual code e)

      pub poll_failed : (e : OperationError) (code : Option ℕ) (left : Store) (area : List ℕ) → area ≡ m.area → x ≡ Ending.Failed e code
          → Told l next out after-out left (after (reported_row (failed_row (row_in m.store.rows i) e code) (read_session l))
          (put_in m.store i (failed_row (row_in m.store.rows i) e code)))
          → Told l next out after-out (memory left area) (poll_reply_of (Ok (Some c)) bytes (read_session l) m)
      poll_failed e code left area ea h eo =
          at (Ok (Some c)) bytes (memory left area) _
          (failed_at idle m i bytes c pending_state x ending_is e code h)
          (ap (λ (z : After (After (List ℕ) Kept) Store). after z.result (memory z.lent area)) eo
          ∙ ap (λ (z : List ℕ). after (reported_out (reported_row (failed_row (row_in m.store.rows i) e code) (read_session l)) l out)
          (memory (put_in m.store i (failed_row (row_in m.store.rows i) e code)) z)) ea)

-- a submission's reply: the backend took it
module _ (l next out after-out : List ℕ) (store : Store) (token : ℕ) (h : is_session l ≡ true) (b : Bool) (eb : b ≡ is_submit_flight (read_session l).in_flight) where
  abbrev Submitted : List ℕ → Store → Type 0
  Submitted words left = Told l words out after-out left (submit_reply_of (Ok token) (read_session l) store)

  no_submission : (f : InFlight) → is_submit_flight f ≡ false
      → after (call_refused (read_session l) (refusal_of 2)) store ≡ submit_reply_in f (Ok token) (read_session l) store
  unfolding submit_reply_in
  no_submission InFlight.Nothing e = refl
  no_submission (InFlight.Submission id) e = let z : ◌≡◌ {A = ℕ} 0 1 = cc in absurd (omega arith)
  no_submission (InFlight.Poll id) e = refl
  no_submission (InFlight.Recovery x) e = refl

  stays : (left : Store) (r : Refusal) → after-out ≡ told (Answer.Refused r) out → Told l l out after-out left (after (call_refused (read_session l) r) left)
  stays left r eo =
      ap (λ (z : List ℕ). after (after z (kept_of l)) left) eo
      ∙ ap (λ (k : Kept). after (after (told (Answer.Refused r) out) k) left) (sym (written_same l h))

  pub submit_other : not b ≡ true → after-out ≡ told (Answer.Refused (refusal_of 2)) out → Submitted l store
  unfolding submit_reply_of
  submit_other t eo =
      by_reply l l out after-out store _ _ (no_submission (read_session l).in_flight (sym eb ∙ not-true b t)) (stays store (refusal_of 2) eo)

  module _ (t : not b ≡ false) (f : Bool) (ef : f ≡ store_fits (read_session l).size store) where
    submits_now : (read_session l).in_flight ≡ InFlight.Submission (flight_id (read_session l).in_flight)
    submits_now = submission_yes (read_session l).in_flight (fits_told b _ eb t)

    pub submit_unfit : not f ≡ true → after-out ≡ told (Answer.Refused (refusal_of 3)) out → Submitted l store
    submit_unfit tf eo =
        by_reply l l out after-out store _ _
        (submits.reply_unfit (Ok token) (read_session l) store (flight_id (read_session l).in_flight) submits_now f ef (call_refused (read_session l) (refusal_of 3)) tf refl)
        (stays store (refusal_of 3) eo)

    module _ (tf : not f ≡ false) (id : RequestId) (ei : id ≡ flight_id (read_session l).in_flight) (p : Result ℕ Refusal) (left : Store)
        (ea : after p left ≡ apply_placed id (Change.Accept token) store) where
      accepted : after (accepted_by (reported_at p left.rows) (read_session l)) left ≡ submit_reply_of (Ok token) (read_session l) store
      accepted =
          submits.reply_on (Ok token) (read_session l) store id (submits_now ∙ ap InFlight.Submission (sym ei)) f ef _ tf
          (submits.reply_token (Ok token) id (read_session l) store left (reported_at p left.rows) _ token refl (places.accept_reports id store p token left ea) refl)

      pub submit_none : (r : Refusal) → p ≡ Err r → after-out ≡ told (Answer.Refused (refusal_of 2)) out → Submitted l left
      unfolding accepted_by
      submit_none r e eo =
          by_reply l l out after-out left _ _ (ap (λ (z : Result ℕ Refusal). after (accepted_by (reported_at z left.rows) (read_session l)) left) (sym e) ∙ accepted)
          (stays left (refusal_of 2) eo)

      pub submit_at : (i : ℕ) → p ≡ Ok i → outs l next out after-out ≡ reported_out (reported_row (row_in left.rows i) (read_session l)) l out → Submitted next left
      unfolding accepted_by
      submit_at i e eo =
          by_reply l next out after-out left _ _ (ap (λ (z : Result ℕ Refusal). after (accepted_by (reported_at z left.rows) (read_session l)) left) (sym e) ∙ accepted)
          (ap (λ (z : After (List ℕ) Kept). after z left) eo)

-- where a row's bytes lie
module _ (z y : Size) (e : z ≡ y) (i n : ℕ) (h : i * y.row_bytes + y.row_bytes ≤ n) where
  pub size_room : i * z.row_bytes + z.row_bytes ≤ n
  size_room = rw e h

  pub data_told : (bytes area area' : List ℕ) → area' ≡ data_at z i bytes area → area' ≡ data_at y i bytes area
  data_told bytes area area' ea = ea ∙ ap (λ (x : Size). data_at x i bytes area) e

-- what the words of a call say
module _ (w : List ℕ) (kind : ℕ) (ek : kind ≡ get_or w 1 0) where
  pub says_nothing : kind ≡ 0 → read_poll_reply w ≡ (Ok None)
  unfolding read_poll_reply
  says_nothing e = rw (← ek, e)

  pub says_error : (e : OperationError) → kind ≡ 1 → e ≡ read_error w 3 → read_poll_reply w ≡ Err e
  unfolding read_poll_reply
  says_error e k h = rw (← ek, k, h)

  pub says_completion : (c : BackendCompletion) (v : List ℕ) → (kind ≡ 0 → ⊥) → (kind ≡ 1 → ⊥) → v ≡ drop 2 w → c ≡ read_completion v
      → read_poll_reply w ≡ Ok (Some c)
  unfolding read_poll_reply
  says_completion c v k0 k1 ev ec = rw (← ek, ne_eqb kind 0 k0, ne_eqb kind 1 k1, ← ev, ec)

  pub says_token : (token : ℕ) → kind ≡ 0 → token ≡ get_or w 2 0 → read_submit_reply w ≡ Ok token
  unfolding read_submit_reply
  says_token token k h = rw (← ek, k, h)

module _ (l next out after-out : List ℕ) where
  pub poll_said_lem : (r y : Result (Option BackendCompletion) OperationError) (bytes : List ℕ) (m left : Memory) → y ≡ r → Told l next out after-out left (poll_reply_of r bytes (read_session l) m)
      → Told l next out after-out left (poll_reply_of y bytes (read_session l) m)
  poll_said_lem r y bytes m left e h = h ∙ ap (λ (z : Result (Option BackendCompletion) OperationError). replied_told (poll_reply_of z bytes (read_session l) m) l out) (sym e)

  pub submit_said_lem : (r y : Result ℕ OperationError) (store left : Store) → y ≡ r → Told l next out after-out left (submit_reply_of r (read_session l) store)
      → Told l next out after-out left (submit_reply_of y (read_session l) store)
  submit_said_lem r y store left e h = h ∙ ap (λ (z : Result ℕ OperationError). replied_told (submit_reply_of z (read_session l) store) l out) (sym e)

pub pending_told : (b : Bool) (row : Row) → b ≡ is_pending_row row → not b ≡ false → is_pending_row row ≡ true
pending_told b row e t = fits_told b (is_pending_row row) e t

pub polled_told_lem : (p q : Result ℕ Refusal) (i : ℕ) → p ≡ q → p ≡ Ok i → q ≡ Ok i
polled_told_lem p q i e h = sym e ∙ h
