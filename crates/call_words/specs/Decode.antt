-- The call that words and lent bytes say, by the number in word 0. Assumes nothing.
use Rattle.std.specs.Prelude.{ℕ, ◌%◌, ◌^◌, List, get_or, drop, eqb, leb}
use Rattle.chain.specs.Chain.{◌if◌else◌}
use Rattle.words.specs.Words.{read_flag, read_option_u64}
use Rattle.models.specs.Values.{read_option_error, read_request_id}
use Rattle.session.specs.declared.{RecoveryKind.RecoveryKind}
use Rattle.calls.specs.Calls.{Call, Open, Place, Device, Port, Endpoints, Reconcile, Move, Acquire, Initialize, Close, Begin, Submit, SubmitPlan, Poll, Recover, Reply, ToSubmit, ToPoll, ToRecovery, Change, Cancel, Timeout, Reclaim, Withdraw, Read, Status, Reports, CountReports, CompletedBytes, HeldCount, HeldBytes}
use Rattle.call_words.specs.Arguments.{read_opening, read_snapshot, read_port_row, read_acquire_reply, read_request, read_plan_request, read_submit_reply, read_poll_reply, read_option_id, read_recovery_reply, read_lists}

-- 0 to 4
unfoldable pub read_placing : ℕ → List ℕ → Call
read_placing n w =
    Open (read_opening w) if eqb n 0 else
    Place (Device (read_snapshot w)) if eqb n 1 else
    Place (Port (get_or w 1 0 % 2 ^ 8) (read_port_row w)) if eqb n 2 else
    Place (Endpoints (get_or w 1 0 % 2 ^ 8) (drop 2 w)) if eqb n 3 else
    Place (Reconcile (get_or w 1 0 % 2 ^ 8) (read_flag (get_or w 2 0)))

-- 5 to 7
unfoldable pub read_moving : ℕ → List ℕ → Call
read_moving n w =
    Move (Acquire (read_acquire_reply w)) if eqb n 5 else
    Move (Initialize (read_option_error w 1)) if eqb n 6 else
    Move (Close (read_option_u64 (get_or w 1 0) (get_or w 2 0)) (read_option_error w 3))

-- 8 and 9
unfoldable pub read_submission : ℕ → List ℕ → List ℕ → Call
read_submission n w bytes =
    Begin (Submit (drop 27 w) (read_request w bytes)) if eqb n 8 else
    Begin (SubmitPlan (read_plan_request w bytes))

-- 10 to 12
unfoldable pub read_replying : ℕ → List ℕ → List ℕ → Call
read_replying n w bytes =
    Reply (ToSubmit (read_submit_reply w)) if eqb n 10 else
    Begin (Poll (read_request_id w 1)) if eqb n 11 else
    Reply (ToPoll (read_poll_reply w) bytes)

-- 13 to 15
unfoldable pub read_changing : ℕ → List ℕ → Call
read_changing n w =
    Change (read_request_id w 1) Cancel if eqb n 13 else
    Change (read_request_id w 1) Timeout if eqb n 14 else
    Change (read_request_id w 1) Reclaim

-- 16 to 21
unfoldable pub read_reporting : ℕ → List ℕ → Call
read_reporting n w =
    Read (Status (read_request_id w 1)) if eqb n 16 else
    Read (Reports (read_option_id w)) if eqb n 17 else
    Read CountReports if eqb n 18 else
    Read (CompletedBytes (read_request_id w 1)) if eqb n 19 else
    Read HeldCount if eqb n 20 else
    Read HeldBytes

-- 22 to 24
unfoldable pub read_recovering : ℕ → List ℕ → List ℕ → Call
read_recovering n w bytes =
    Begin (Recover (read_request_id w 1) RecoveryKind.Abort) if eqb n 22 else
    Begin (Recover (read_request_id w 1) (RecoveryKind.Reset (read_flag (get_or w 4 0)))) if eqb n 23 else
    Reply (ToRecovery (read_recovery_reply w) (read_lists w bytes))

-- past 24 there is 29 alone: with another number words are no call
unfoldable pub read_call : List ℕ → List ℕ → Call
read_call w bytes =
    read_placing (get_or w 0 0) w if leb (get_or w 0 0) 4 else
    read_moving (get_or w 0 0) w if leb (get_or w 0 0) 7 else
    read_submission (get_or w 0 0) w bytes if leb (get_or w 0 0) 9 else
    read_replying (get_or w 0 0) w bytes if leb (get_or w 0 0) 12 else
    read_changing (get_or w 0 0) w if leb (get_or w 0 0) 15 else
    read_reporting (get_or w 0 0) w if leb (get_or w 0 0) 21 else
    read_recovering (get_or w 0 0) w bytes if leb (get_or w 0 0) 24 else
    Change (read_request_id w 1) Withdraw
