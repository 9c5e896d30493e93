-- Short scripts of calls, computed by the definitions to their answers, journals and rows, with the theorem applied to each. Assumes nothing.
use Rattle.std.specs.Prelude.{Option, Some, None, Result, Ok, Err}
use Prim.Native.Nat.{ℕ, zero, suc}
use mathlib.Core.Bool.{Bool, true, false, cond, true≢false}
use mathlib.Core.List.{List, [], ◌∷◌, ◌++◌, map}
use mathlib.Core.Path.{◌≡◌, refl, sym, ap, ◌∙◌}
use native.Mathlib.Omega.{arith}
use lib.ListN.{length, get_or, take, replicate}
use Rattle.chain.specs.Chain.{◌if◌else◌}
use Rattle.chain.specs.Lists.{found_in, listed}
use Rattle.words.specs.Records.{splice, part}
use Rattle.models.specs.Requests.{request_before}
use Rattle.models.specs.declared.{DeviceId.DeviceId, DeviceSnapshot.DeviceSnapshot, OperationError.OperationError, RequestId.RequestId, RequestState.RequestState}
use Rattle.models.specs.declared.DeviceState.TheVariants.{Configured}
use Rattle.models.specs.declared.Direction.TheVariants.{In}
use Rattle.models.specs.declared.ErrorCategory.TheVariants.{Validation, RecoveryRequired}
use Rattle.models.specs.declared.RequestState.TheVariants.{Pending, Completed, Failed, Aborted}
use Rattle.models.specs.declared.TransferType.TheVariants.{Bulk}
use Rattle.rows.specs.Codec.{read_row, record_of}
use Rattle.rows.specs.Store.{store_of, put_in, emptied}
use Rattle.rows.specs.InPlace.{timed_out, completed_row}
use Rattle.rows.specs.Table.{empty_row, is_held, put_row, put_words, row_count, read_rows, is_uncertain}
use Rattle.rows.specs.declared.{Row.Row}
use Rattle.ledger.specs.Apply.{apply_by, changed_at, apply_at, apply_of}
use Rattle.rules.specs.Rules.{pending_row, spend_sequence, moved, freed, accepted, while_pending, time_out, completed, failed, abort_confirmed, reclaimed, change_row}
use Rattle.ledger.specs.Search.{is_at, is_free}
use Rattle.ledger.specs.Tally.{saturate, held_count, held_bytes}
use Rattle.bus.specs.Tables.{bus_of, cleared, port_at, put_device, put_endpoints, put_port}
use Rattle.bus.specs.Layout as layout
use Rattle.bus.specs.Ports as bus
use Rattle.bus.specs.Endpoints as endpoints
use Rattle.checks.specs.Completion.{code_tested, test_code, test_length, test_completion}
use Rattle.checks.specs.Packets.{packets_checked}
use Rattle.checks.specs.Prepare as prepare
use Rattle.targets.specs.Target as target
use Rattle.session.specs.Session.{is_initialized, raised, marked}
use Rattle.session.specs.Lifecycle.{open_of, acquired_by, acquire_of, initialized_by, initialize_of, closed_by, fresh_by, close_of}
use Rattle.session.specs.Place.{placed, set_device_of, set_port_of, set_endpoints_of}
use Rattle.session.specs.Start.{guarded}
use Rattle.session.specs.Sizes.{rows_fit, area_fits}
use Rattle.session.specs.declared.{RecoveryKind.RecoveryKind, lifecycle.Opening.Opening}
use Rattle.reports.specs.Answers.{effect}
use Rattle.reports.specs.Change.{reported_by, change_of}
use Rattle.reports.specs.Status.{held_count_of, held_bytes_of}
use Rattle.polls.specs.Poll.{poll_row, poll_by, poll_of}
use Rattle.polls.specs.PollReply.{poll_reply_in, poll_reply_by, poll_reply_found, stall_of, stored_in, failed_as, judged_test, judged_by, judged, settled, poll_reply_at, poll_reply_of}
use Rattle.submissions.specs.Begin.{room_in, write_of, begin_of, target_by, target_of}
use Rattle.submissions.specs.Admit.{place_in, admit_prepared, admit_room, admit_packets, admit_of}
use Rattle.submissions.specs.Submit.{submitted_by, submit_of, submit_by, submit_target, request}
use Rattle.submissions.specs.SubmitReply.{submit_reply_in, accepted_by, discarded_by, submit_reply_by, submit_reply_of}
use Rattle.scope.specs.Affected.{is_affected, joined, affected_of}
use Rattle.scope.specs.Returned.{read_brought, brought_at, read_returned, lists_agree}
use Rattle.scope.specs.Scope.{in_scope}
use Rattle.recovery.specs.Entries.{row_completed_by, tested_by, complete_one, aborted_by, abort_one}
use Rattle.recovery.specs.Recover.{recover_by, begin_row, recover_of, begun_as}
use Rattle.recovery.specs.RecoveryReply.{apply_all, done_of, reply_by, reply_sized, reply_in, ReplyLists, reply_lists, restored_by, reset_by, session_after, refused_after, concluded_by, settled_of, recovery_reply_of}
use Rattle.recovery.specs.declared.{AbortReport.AbortReport, BackendAbort.BackendAbort}
use Rattle.calls.specs.Calls.{Beginning, Call, Open, Place, Device, Port, Endpoints, Move, Acquire, Initialize, Close, Begin, Submit, Poll, Recover, Reply, ToSubmit, ToPoll, Change, Timeout, Reclaim, Read, HeldCount, HeldBytes}
use Rattle.calls.specs.Step.{World, no_session, placed_of, moved_of, begun_of, replied_of, read_of, step_of, next}
use Rattle.calls.specs.declared.{Answer.Answer}
use Rattle.runs.specs.Run.{Event, own, other, Answered, end_of, history_of, answer_to, calls}
use Rattle.history.specs.Journal.{Entry, journal_step}
use Rattle.history.specs.Claim.{rows_after, entries_after, returns, Different, Recovered, Claim}
use Rattle.history.specs.Watcher.{Reads, stale_numbers, Refuses, Noticed, Watched}
use Rattle.history.proofs.Theorem.{history_claim, world_of}
use Rattle.history.proofs.Watcher.{watched}
use Rattle.polls.specs.declared.{PollAnswer.PollAnswer}

-- two rows of 8 bytes, one port
abbrev pub opening : Opening
opening = record {
  session = 5;
  first_sequence = 0;
  recovery_revision = Some 0;
  port_count = Some 1;
  size = record { row_count = 2; row_bytes = 8 };
}

-- the lent slices: a bus, two rows, and their 16 bytes
abbrev pub bus_words : List ℕ
bus_words = cleared.words

abbrev pub before : World
before = world_of no_session bus_words (replicate 52 0) (replicate 16 0)

abbrev pub start : World
start = next (step_of (Open opening) before)

abbrev pub camera : DeviceId
camera = record { session = 5; generation = 0; slot = 1 }

abbrev pub plugged : DeviceId → DeviceSnapshot
plugged d = record { id = d; port = record { session = 5; generation = 1; number = 1 }; state = Configured }

abbrev pub id : ℕ → RequestId
id n = record { session = 5; generation = 0; sequence = n }

-- n bytes from endpoint 81h of a device, with two readings of the port
abbrev asking_by : DeviceId → ℕ → ℕ → ℕ → Beginning
asking_by d n first second =
    Submit [] (request (record { device = d; endpoint = 0x81; transfer_type = Bulk; direction = In; length = n; setup = None }) [] false
    (record { first = Ok first; second = Ok second }))

abbrev pub asking : DeviceId → ℕ → ℕ → Beginning
asking d n raw = asking_by d n raw raw

abbrev pub asks : ℕ → Call
asks n = Begin (asking camera n 0x403)

-- the camera is placed, and the controller Initialized
abbrev pub ready : List Event
ready =
    calls (Place (Port 1 (record { generation = 1; reading = Some 0x403 }))) ∷ calls (Place (Device (plugged camera)))
    ∷ calls (Place (Endpoints 1 (0x181 ∷ []))) ∷ calls (Move (Acquire (Ok tt))) ∷ calls (Move (Initialize None))
    ∷ []

abbrev broken : OperationError
broken = record { category = Validation; message = 1; os_code = None; completion_code = None }

-- n bytes, quiescent or not, with an error or without
abbrev came : ℕ → Bool → Option OperationError → Call
came n quiescent e =
    Reply (ToPoll (Ok (Some (record { actual_length = Some n; completion_code = Some 1; has_data = true; error = e; quiescent = quiescent }))) (replicate n 0))

-- code 6 with an error that says so: a stall
abbrev stalls : Call
stalls =
    Reply (ToPoll (Ok (Some (record {
      actual_length = None;
      completion_code = Some 6;
      has_data = false;
      error = Some (record { category = RecoveryRequired; message = 1; os_code = None; completion_code = Some 6 });
      quiescent = false;
    }))) [])

-- a close that is handed another session and its slices
abbrev elsewhere : Event
elsewhere = record { call = Move (Close (Some 6) None); handed = other before }

-- ---- requests
-- request 0 completes and is reclaimed, 1 is refused by the backend, 2 times out, fails and is not quiescent, 3 stays
abbrev script : List Event
script =
    ready ++ (calls (asks 8) ∷ calls (Reply (ToSubmit (Ok 7)))
    ∷ calls (asks 4) ∷ calls (Reply (ToSubmit (Err broken)))
    ∷ calls (asks 9)
    ∷ calls (asks 3) ∷ calls (Reply (ToSubmit (Ok 9)))
    ∷ calls (asks 1)
    ∷ calls (Change (id 2) Timeout)
    ∷ calls (Begin (Poll (id 0))) ∷ calls (came 8 true None) ∷ calls (Change (id 0) Reclaim)
    ∷ calls (asks 2) ∷ calls (Reply (ToSubmit (Ok 7)))
    ∷ calls (Begin (Poll (id 2))) ∷ calls (came 0 false (Some broken)) ∷ calls (Change (id 2) Reclaim)
    ∷ elsewhere
    ∷ calls (Read HeldCount) ∷ calls (Read HeldBytes)
    ∷ [])

-- ---- a recovery: requests 0 and 1 have the tokens 7 and 9; a reply is refused by 49; then 1 completes with 4 bytes, 0 is aborted and reclaimed
abbrev pub whole : Result BackendAbort OperationError
whole = Ok (record { restart_ready = true; error = None })

abbrev completion : List ℕ
completion = 0 ∷ 0 ∷ 0 ∷ 0 ∷ 0 ∷ 1 ∷ 4 ∷ 2 ∷ 1 ∷ 1 ∷ 4 ∷ []

-- its lists, with n bytes
abbrev lists : ℕ → ReplyLists
lists n = reply_lists (9 ∷ []) completion (7 ∷ []) (replicate n 1)

-- the calls before the reply that succeeds, and those after it
abbrev front : List Event
front =
    ready ++ (calls (asks 8) ∷ calls (Reply (ToSubmit (Ok 7)))
    ∷ calls (asks 4) ∷ calls (Reply (ToSubmit (Ok 9)))
    ∷ calls (Begin (Recover (id 0) RecoveryKind.Abort)) ∷ calls (Read HeldCount) ∷ calls (Change (id 1) Timeout)
    ∷ returns whole (lists 5) own
    ∷ [])

abbrev back : List Event
back = calls (Change (id 0) Reclaim) ∷ calls (Read HeldCount) ∷ calls (Read HeldBytes) ∷ []

abbrev succeeds : Event
succeeds = returns whole (lists 4) own

abbrev recovery : List Event
recovery = front ++ (succeeds ∷ back)

abbrev report : AbortReport
report = record { target = id 0; device = camera; endpoint = 0x81; completed = 1; aborted = 1; restart_ready = true; error = None }

-- ---- a stall: request 0 fails, and a reset that aborts it makes the controller Initialized again; requests 1 and 2 have one token
abbrev to_reset : List Event
to_reset =
    ready ++ (calls (asks 8) ∷ calls (Reply (ToSubmit (Ok 7)))
    ∷ calls (Begin (Poll (id 0))) ∷ calls stalls ∷ calls (asks 4)
    ∷ calls (Begin (Recover (id 0) (RecoveryKind.Reset false)))
    ∷ [])

abbrev aborts : Event
aborts = returns whole (reply_lists [] [] (7 ∷ []) []) own

abbrev to_abort : List Event
to_abort =
    to_reset ++ (aborts ∷ calls (Change (id 0) Reclaim)
    ∷ calls (asks 4) ∷ calls (Reply (ToSubmit (Ok 7)))
    ∷ calls (asks 2) ∷ calls (Reply (ToSubmit (Ok 7)))
    ∷ calls (Begin (Recover (id 2) RecoveryKind.Abort))
    ∷ [])

abbrev closing : List Event
closing = calls (Read HeldCount) ∷ calls (Read HeldBytes) ∷ calls (Move (Close (Some 6) None)) ∷ calls (Read HeldCount) ∷ []

abbrev stalled : List Event
stalled = to_abort ++ (aborts ∷ closing)

-- ---- a pulled cable: a second reading without the connected bit after a first with it or without, then a submission with the reading of before
abbrev pulled : ℕ → Beginning
pulled first = asking_by camera 8 first 0x402

abbrev between : List Event
between = calls (Read HeldCount) ∷ []

abbrev cable : ℕ → List Event
cable first = ready ++ (calls (Begin (pulled first)) ∷ (between ++ (calls (asks 8) ∷ [])))

abbrev then : ℕ → World
then first = next (step_of (Begin (pulled first)) (end_of start ready))

-- ---- what they compute to
-- an answer's refusal, or the number that it is, or 0
abbrev pub number_in : Answer → ℕ
number_in (Answer.Refused r) = r.number
number_in Answer.Pass = 0
number_in (Answer.Begun x) = 0
number_in (Answer.PlanBegun x) = 0
number_in (Answer.Report x) = 0
number_in Answer.NoReport = 0
number_in (Answer.Asked token) = 0
number_in (Answer.Number n) = n
number_in (Answer.Bytes x) = 0
number_in (Answer.Recovering x) = 0
number_in (Answer.Recovered x) = 0

-- of an entry: sequence number, length, whether it is marked Failed, releases
abbrev entry_numbers : Entry → List ℕ
entry_numbers e = e.view.id.sequence ∷ e.view.requested ∷ cond e.view.failed 1 0 ∷ e.releases ∷ []

-- of a row: sequence number, length, state (4: no request) with a completion's length and code
abbrev state_numbers : RequestState → List ℕ
state_numbers (Pending cancel late) = 0 ∷ []
state_numbers (Completed actual code cancel) = 1 ∷ actual ∷ code ∷ []
state_numbers (Failed e code quiescent) = 2 ∷ []
state_numbers Aborted = 3 ∷ []

abbrev row_numbers : Row → List ℕ
row_numbers r = cond r.used (r.id.sequence ∷ r.metadata.requested_length ∷ state_numbers r.state) (4 ∷ [])

pub record Computed (es : List Event) (answers : List ℕ) (journal rows : List (List ℕ)) : Type 0 where
  pub answers_are : map (λ (h : Answered). number_in h.answer) (history_of start es) ≡ answers
  pub journal_is : map entry_numbers (entries_after start es) ≡ journal
  pub rows_are : map row_numbers (rows_after start es) ≡ rows
  -- what is assumed of a list holds of this one, so the theorem speaks of it
  pub claim : Claim start es

-- both submissions are refused by 31, each also by the watcher's own words
pub record Pulled (first : ℕ) (earlier : Option ℕ) : Type 0 where
  pub answers_are : map (λ (h : Answered). number_in h.answer) (history_of start (cable first)) ≡ 0 ∷ 0 ∷ 0 ∷ 0 ∷ 0 ∷ 31 ∷ 0 ∷ 31 ∷ []
  pub row_is : port_at (then first).lent.bus 1 ≡ record { generation = 2; reading = Some 0x402 }
  pub noticed : Noticed (plugged camera).port earlier (end_of start ready).lent.bus (answer_to (end_of start ready) (calls (Begin (pulled first))))
      (then first).lent.bus
  pub stale : Refuses stale_numbers (answer_to (end_of (then first) between) (calls (asks 8)))

pub record Shown : Type 0 where
  pub requests : Computed script
      (0 ∷ 0 ∷ 0 ∷ 0 ∷ 0 ∷ 0 ∷ 0 ∷ 0 ∷ 45 ∷ 7 ∷ 0 ∷ 0 ∷ 5 ∷ 0 ∷ 0 ∷ 0 ∷ 0 ∷ 0 ∷ 0 ∷ 0 ∷ 0 ∷ 42 ∷ 3 ∷ 2 ∷ 5 ∷ [])
      ((3 ∷ 2 ∷ 0 ∷ 0 ∷ []) ∷ (2 ∷ 3 ∷ 1 ∷ 0 ∷ []) ∷ (1 ∷ 4 ∷ 0 ∷ 1 ∷ []) ∷ (0 ∷ 8 ∷ 0 ∷ 1 ∷ []) ∷ [])
      ((3 ∷ 2 ∷ 0 ∷ []) ∷ (2 ∷ 3 ∷ 2 ∷ []) ∷ [])
  pub recovery_is : Computed recovery
      (0 ∷ 0 ∷ 0 ∷ 0 ∷ 0 ∷ 0 ∷ 0 ∷ 0 ∷ 0 ∷ 0 ∷ 2 ∷ 1 ∷ 49 ∷ 0 ∷ 0 ∷ 0 ∷ 0 ∷ [])
      ((1 ∷ 4 ∷ 0 ∷ 1 ∷ []) ∷ (0 ∷ 8 ∷ 0 ∷ 1 ∷ []) ∷ [])
      ((4 ∷ []) ∷ (1 ∷ 4 ∷ 1 ∷ 4 ∷ 1 ∷ []) ∷ [])
  -- the claim's own words about this recovery
  pub recovered : Recovered camera 0x81 (lists 4) (rows_after start front) (rows_after start (front ++ (succeeds ∷ [])))
  -- 28 while the controller is RecoveryRequired
  pub stalled_is : Computed stalled
      (0 ∷ 0 ∷ 0 ∷ 0 ∷ 0 ∷ 0 ∷ 0 ∷ 0 ∷ 0 ∷ 28 ∷ 0 ∷ 0 ∷ 0 ∷ 0 ∷ 0 ∷ 0 ∷ 0 ∷ 0 ∷ 0 ∷ 1 ∷ 2 ∷ 0 ∷ 0 ∷ [])
      ((2 ∷ 2 ∷ 0 ∷ 1 ∷ []) ∷ (1 ∷ 4 ∷ 0 ∷ 1 ∷ []) ∷ (0 ∷ 8 ∷ 1 ∷ 1 ∷ []) ∷ [])
      ((4 ∷ []) ∷ (4 ∷ []) ∷ [])
  pub restored : is_initialized (end_of start (to_reset ++ (aborts ∷ []))).session.state ≡ true
  -- a token means the lowest id that has it: 1 is aborted, 2 stays held
  pub one_token : map row_numbers (rows_after start (to_abort ++ (aborts ∷ []))) ≡ (1 ∷ 4 ∷ 3 ∷ []) ∷ (2 ∷ 2 ∷ 0 ∷ []) ∷ []
  pub cable_is : Pulled 0x402 None
  pub between_readings : Pulled 0x401 (Some 0x401)

-- two rows with the tokens 7 and 9
two_apart : (l : List Row) → map (λ (r : Row). r.token) l ≡ 7 ∷ 9 ∷ [] → Different camera 0x81 l
two_apart [] e = let z : ◌≡◌ {A = ℕ} 0 1 = cc in absurd (omega arith)
two_apart (r ∷ []) e = let z : ◌≡◌ {A = ℕ} 0 1 = cc in absurd (omega arith)
two_apart (r ∷ q ∷ []) e = go
  where
    first : r.token ≡ 7
    first = ap (λ (l : List ℕ). get_or l 0 0) e

    second : q.token ≡ 9
    second = ap (λ (l : List ℕ). get_or l 1 0) e

    go : Different camera 0x81 (r ∷ q ∷ [])
    go zero zero hi hj a b t = refl
    go zero (suc zero) hi hj a b t = absurd (omega (arith, first, second, t))
    go zero (suc (suc j)) hi hj a b t = absurd (omega (arith, hj))
    go (suc zero) zero hi hj a b t = absurd (omega (arith, first, second, t))
    go (suc zero) (suc zero) hi hj a b t = refl
    go (suc zero) (suc (suc j)) hi hj a b t = absurd (omega (arith, hj))
    go (suc (suc i)) j hi hj a b t = absurd (omega (arith, hi))
two_apart (r ∷ q ∷ p ∷ l) e = let z : ◌≡◌ {A = ℕ} 2 3 = ap (λ (m : List ℕ). length (take 3 m)) (sym e) ∙ refl in absurd (omega arith)

pub shown : Shown
unfolding step_of placed_of moved_of begun_of replied_of read_of open_of rows_fit area_fits cleared ◌if◌else◌ found_in splice put_in emptied empty_row is_held put_row put_words row_count read_row record_of apply_by changed_at apply_at apply_of pending_row spend_sequence moved freed accepted while_pending time_out timed_out completed completed_row failed reclaimed change_row is_at is_free saturate held_count held_bytes put_device put_endpoints put_port code_tested test_code test_length test_completion packets_checked marked acquired_by acquire_of initialized_by initialize_of placed set_device_of set_port_of set_endpoints_of effect room_in write_of begin_of target_by target_of reported_by change_of failed_as judged_test judged_by judged stored_in settled poll_reply_at poll_reply_by poll_reply_found poll_reply_in poll_reply_of poll_row poll_by poll_of accepted_by discarded_by submit_reply_by submit_reply_in submit_reply_of held_count_of held_bytes_of submitted_by place_in admit_prepared admit_room admit_packets admit_of submit_target submit_by guarded submit_of bus.number_checked bus.set_port_by bus.set_port bus.reading_checked bus.validated_row bus.validated_by bus.validated bus.raised_row bus.observed_by bus.observed_row bus.observe_port_by bus.observe_port bus.fresh_observed bus.fresh_word bus.fresh_reading bus.fresh_port_by bus.fresh_port endpoints.set_endpoints prepare.data_checked prepare.other_checked prepare.spec_checked prepare.prepared_if prepare.prepared target.known_by target.known_device target.prepared_device target.fresh_device target.check_device_by target.check_device target.speed_checked target.endpoint_by target.check_endpoint target.check_target_by target.check_target layout.device_record journal_step close_of recover_of recover_by begin_row begun_as listed is_affected joined affected_of in_scope read_brought brought_at read_returned lists_agree row_completed_by tested_by complete_one aborted_by abort_one abort_confirmed restored_by reset_by session_after refused_after apply_all concluded_by settled_of done_of reply_by reply_sized reply_in recovery_reply_of part request_before store_of read_rows bus_of raised stall_of fresh_by closed_by is_uncertain
shown =
    let of-recovery = history_claim opening no_session bus_words (replicate 52 0) (replicate 16 0) recovery refl
    (refl, (refl, (refl, (refl, (refl, (refl, (refl, (refl, (refl, (refl, (refl, (refl, (refl, (refl, (refl, (refl, (refl, tt)))))))))))))))))
    (refl, (refl, (refl, (refl, (refl, (refl, (refl, (refl, (refl, (refl, (refl, (refl, (refl, (refl, (refl, (refl, (refl, tt))))))))))))))))) in
    record {
      requests = record {
        answers_are = refl;
        journal_is = refl;
        rows_are = refl;
        claim = history_claim opening no_session bus_words (replicate 52 0) (replicate 16 0) script refl
            (refl, (refl, (refl, (refl, (refl, (refl, (refl, (refl, (refl, (refl, (refl, (refl, (refl, (refl, (refl, (refl, (refl, (refl, (refl, (refl, (refl, (refl, (refl, (refl, (refl, tt)))))))))))))))))))))))))
            (refl, (refl, (refl, (refl, (refl, (refl, (refl, (refl, (refl, (refl, (refl, (refl, (refl, (refl, (refl, (refl, (refl, (refl, (refl, (refl, (refl, (refl, (refl, (refl, (refl, tt)))))))))))))))))))))))));
      };
      recovery_is = record { answers_are = refl; journal_is = refl; rows_are = refl; claim = of-recovery };
      recovered = of-recovery.recovered front back own whole (lists 4) refl report refl refl refl
          (two_apart (rows_after start front) refl);
      stalled_is = record {
        answers_are = refl;
        journal_is = refl;
        rows_are = refl;
        claim = history_claim opening no_session bus_words (replicate 52 0) (replicate 16 0) stalled refl
            (refl, (refl, (refl, (refl, (refl, (refl, (refl, (refl, (refl, (refl, (refl, (refl, (refl, (refl, (refl, (refl, (refl, (refl, (refl, (refl, (refl, (refl, (refl, tt)))))))))))))))))))))))
            (refl, (refl, (refl, (refl, (refl, (refl, (refl, (refl, (refl, (refl, (refl, (refl, (refl, (refl, (refl, (refl, (refl, (refl, (refl, (refl, (refl, (refl, (refl, tt)))))))))))))))))))))));
      };
      restored = refl;
      one_token = refl;
      cable_is = record { answers_are = refl; row_is = refl; noticed = by_watcher 0x402 None refl; stale = stays 0x402 refl };
      between_readings = record {
        answers_are = refl;
        row_is = refl;
        noticed = by_watcher 0x401 (Some 0x401) (record { readings = refl; agrees = refl; not_control = refl; configured = refl });
        stale = stays 0x401 refl;
      };
    }
  where
    watch : (first : ℕ) → Watched start (cable first)
    watch first = watched start (cable first) (refl, (refl, (refl, (refl, (refl, (refl, (refl, (refl, tt))))))))

    by_watcher : (first : ℕ) (earlier : Option ℕ) → Reads (plugged camera) 0x403 earlier 0x402 (pulled first)
        → Noticed (plugged camera).port earlier (end_of start ready).lent.bus (answer_to (end_of start ready) (calls (Begin (pulled first)))) (then first).lent.bus
    by_watcher first earlier k =
        (watch first).noticed 1 (plugged camera) ready (between ++ (calls (asks 8) ∷ [])) (pulled first) earlier 0x403 0x402 refl refl refl k refl true≢false

    stays : (first : ℕ) → (port_at (then first).lent.bus 1).reading ≡ Some 0x402 → Refuses stale_numbers (answer_to (end_of (then first) between) (calls (asks 8)))
    stays first e =
        (watch first).refused 1 (plugged camera) ready between [] (Begin (pulled first)) (asking camera 8 0x403) refl refl
        (record { old = 0x403; raw = 0x402; last = refl; taken = e; differs = true≢false; current = refl }) (refl, (refl, tt)) refl
