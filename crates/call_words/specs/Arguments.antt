-- What the words of each call say, from word 1 on. Assumes nothing.
use Rattle.std.specs.Prelude.{ℕ, ◌+◌, ◌*◌, ◌%◌, ◌^◌, cond, List, get_or, drop, eqb, Option, Some, None, Result, Ok, Err, ⊤}
use Rattle.words.specs.Words.{read_flag, read_option_u32, read_option_u64}
use Rattle.words.specs.Records.{part}
use Rattle.models.specs.Codes.{read_transfer, read_direction, read_profile, read_device_state}
use Rattle.models.specs.Values.{read_error, read_option_error, read_device_id, read_request_id}
use Rattle.models.specs.declared.{BackendCompletion.BackendCompletion, ControlPlan.ControlPlan, DeviceSnapshot.DeviceSnapshot, OperationError.OperationError, RequestId.RequestId, RequestSpec.RequestSpec}
use Rattle.bus.specs.declared.{PortRow.PortRow}
use Rattle.targets.specs.declared.{Readings.Readings}
use Rattle.session.specs.declared.{lifecycle.AcquireFailure.AcquireFailure, lifecycle.Opening.Opening}
use Rattle.submissions.specs.Submit.{Request, request}
use Rattle.scope.specs.Returned.{completion_words, read_completion}
use Rattle.recovery.specs.RecoveryReply.{ReplyLists, reply_lists}
use Rattle.calls.specs.Calls.{PlanRequest, plan_request}
use Rattle.call_words.specs.Parts.{read_port_id, read_setup, read_option_setup, read_reading, read_stage, read_status}
use Rattle.recovery.specs.declared.{BackendAbort.BackendAbort}

unfoldable pub read_opening : List ℕ → Opening
read_opening w = record {
  session = get_or w 1 0;
  first_sequence = get_or w 2 0;
  recovery_revision = read_option_u64 (get_or w 3 0) (get_or w 4 0);
  port_count = read_option_u64 (get_or w 5 0) (get_or w 6 0 % 2 ^ 8);
  size = record { row_count = get_or w 7 0; row_bytes = get_or w 8 0 };
}

unfoldable pub read_snapshot : List ℕ → DeviceSnapshot
read_snapshot w = record { id = read_device_id w 1; port = read_port_id w 4; state = read_device_state (get_or w 7 0) }

unfoldable pub read_port_row : List ℕ → PortRow
read_port_row w = record { generation = get_or w 2 0; reading = read_option_u32 (get_or w 3 0) }

unfoldable pub read_acquire_reply : List ℕ → Result ⊤ AcquireFailure
read_acquire_reply w = cond (eqb (get_or w 1 0) 0) (Ok tt) (Err (record { error = (read_error w 3); retained = (read_flag (get_or w 2 0)) }))

unfoldable pub read_spec : List ℕ → RequestSpec
read_spec w = record {
  device = read_device_id w 1;
  endpoint = get_or w 4 0 % 2 ^ 8;
  transfer_type = read_transfer (get_or w 5 0);
  direction = read_direction (get_or w 6 0);
  length = get_or w 7 0;
  setup = read_option_setup w 8;
}

unfoldable pub read_readings : List ℕ → Readings
read_readings w = record { first = read_reading w 14; second = read_reading w 20 }

abbrev pub read_request : List ℕ → List ℕ → Request
read_request w bytes = request (read_spec w) bytes (read_flag (get_or w 26 0)) (read_readings w)

unfoldable pub read_plan : List ℕ → ControlPlan
read_plan w = record {
  device = read_device_id w 1;
  profile = read_profile (get_or w 4 0);
  setup = read_setup w 5;
  data_stage = read_stage w 10;
  status_direction = read_status (get_or w 13 0);
}

abbrev pub read_plan_request : List ℕ → List ℕ → PlanRequest
read_plan_request w bytes = plan_request (read_plan w) bytes (read_reading w 14)

unfoldable pub read_submit_reply : List ℕ → Result ℕ OperationError
read_submit_reply w = cond (eqb (get_or w 1 0) 0) (Ok (get_or w 2 0)) (Err (read_error w 3))

-- 0 nothing came, 1 an error, 2 a completion
unfoldable pub read_poll_reply : List ℕ → Result (Option BackendCompletion) OperationError
read_poll_reply w =
    cond (eqb (get_or w 1 0) 0) (Ok None)
    (cond (eqb (get_or w 1 0) 1) (Err (read_error w 3))
    (Ok (Some (read_completion (drop 2 w)))))

unfoldable pub read_option_id : List ℕ → Option RequestId
read_option_id w = cond (eqb (get_or w 1 0) 0) None (Some (read_request_id w 2))

-- 0: whether the endpoint is ready, and an error; 1: the backend's error
unfoldable pub read_recovery_reply : List ℕ → Result BackendAbort OperationError
read_recovery_reply w =
    cond (eqb (get_or w 1 0) 0) (Ok (record { restart_ready = read_flag (get_or w 2 0); error = read_option_error w 3 })) (Err (read_error w 4))

-- its lists, from word 10 on: tokens of completed requests, as many as word 8 says, their completions, as many as word 9 says, and
-- tokens of aborted requests
unfoldable pub read_completed : List ℕ → List ℕ
read_completed w = part 10 (get_or w 8 0) w

unfoldable pub read_completions : List ℕ → List ℕ
read_completions w = part (10 + get_or w 8 0) (get_or w 9 0 * completion_words) w

unfoldable pub read_aborted : List ℕ → List ℕ
read_aborted w = drop (10 + get_or w 8 0 + get_or w 9 0 * completion_words) w

abbrev pub read_lists : List ℕ → List ℕ → ReplyLists
read_lists w bytes = reply_lists (read_completed w) (read_completions w) (read_aborted w) bytes
