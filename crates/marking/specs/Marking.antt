-- The calls of an event, and what they leave (document 02, M-100). Assumes nothing.
use Rattle.std.specs.Prelude.{ℕ, min, true, false, cond, ◌≡◌, List, [], ◌∷◌, eqb, replicate, Option, Some, None, Result, Ok}
use Rattle.chain.specs.After.{After, after}
use Rattle.chain.specs.Chain.{◌if◌else◌}
use Rattle.models.specs.Refusals.{own_error}
use Rattle.models.specs.declared.{BackendCompletion.BackendCompletion, ErrorCategory.ErrorCategory, OperationError.OperationError, RequestId.RequestId, RequestSpec.RequestSpec}
use Rattle.models.specs.declared.Direction.TheVariants.{In}
use Rattle.models.specs.declared.TransferType.TheVariants.{Bulk}
use Rattle.standards.specs.Fields.{bit}
use Rattle.rows.specs.Store.{store_of}
use Rattle.rows.specs.declared.{Row.Row}
use Rattle.scope.specs.Affected.{affected_of, tokens_of}
use Rattle.targets.specs.declared.{Readings.Readings}
use Rattle.bus.specs.Tables.{Bus}
use Rattle.session.specs.Lent.{Lent, memory, lent, memory_of}
use Rattle.session.specs.declared.{Recovery.Recovery, Session.Session}
use Rattle.session.specs.declared.RecoveryKind.TheVariants.{Abort}
use Rattle.submissions.specs.Submit.{Request, request}
use Rattle.recovery.specs.RecoveryReply.{reply_lists}
use Rattle.calls.specs.Calls.{Call, Begin, Submit, Poll, Recover, Reply, ToSubmit, ToPoll, ToRecovery, Change, Cancel, Timeout, Reclaim}
use Rattle.calls.specs.Said.{answer_said}
use Rattle.calls.specs.Step.{World, world, world_store, step_of, made_after}
use Rattle.calls.specs.Answers.{begun_id}
use Rattle.calls.specs.declared.{Answer.Answer, Outcome.Outcome}
use Rattle.paper.specs.Form.{is_damaged}
use Rattle.paper.specs.declared.{PaperEvent.PaperEvent}
use Rattle.paper_session.specs.Start.{slot_device, paper_reading}
use Rattle.marking.specs.declared.{Marked.Marked}
use Rattle.recovery.specs.declared.{BackendAbort.BackendAbort}

-- ---- the first call

abbrev pub paper_readings : Readings
paper_readings = record { first = Ok paper_reading; second = Ok paper_reading }

-- kind 0: bulk IN, to the slot's device
abbrev pub event_spec : PaperEvent → RequestSpec
event_spec e = record {
  device = slot_device e.slot;
  endpoint = e.endpoint;
  transfer_type = Bulk;
  direction = In;
  length = e.length;
  setup = None;
}

abbrev pub event_request : PaperEvent → Request
event_request e = request (event_spec e) [] false paper_readings

-- kinds 1 to 5: slot and endpoint are not compared
abbrev pub event_id : PaperEvent → RequestId
event_id e = record { session = 1; generation = 0; sequence = e.sequence }

unfoldable pub event_call : PaperEvent → Call
event_call e =
    Begin (Submit [] (event_request e)) if eqb e.kind 0 else
    Begin (Poll (event_id e)) if eqb e.kind 1 else
    Change (event_id e) Cancel if eqb e.kind 2 else
    Change (event_id e) Timeout if eqb e.kind 3 else
    Change (event_id e) Reclaim if eqb e.kind 4 else
    Begin (Recover (event_id e) Abort)

-- ---- the backend's reply

-- RecoveryRequired, with the event's code; message 0 and no system number
abbrev pub event_error : PaperEvent → OperationError
event_error e = own_error ErrorCategory.RecoveryRequired 0 (Some e.code)

abbrev pub error_flag : PaperEvent → Option OperationError
error_flag e = cond (bit 1 e.flags) (Some (event_error e)) None

abbrev pub event_completion : PaperEvent → BackendCompletion
event_completion e = record {
  actual_length = Some e.length;
  completion_code = Some e.code;
  has_data = true;
  error = error_flag e;
  quiescent = bit 0 e.flags;
}

-- without the first flag nothing came, and the rest is unread
abbrev pub event_reply : PaperEvent → Result (Option BackendCompletion) OperationError
event_reply e = cond (bit 2 e.flags) (Ok (Some (event_completion e))) (Ok None)

-- zeros, as many as the length, at most 256
abbrev pub event_bytes : PaperEvent → List ℕ
event_bytes e = replicate (min e.length 256) 0

-- kind 5: ready, without error
abbrev pub ready_reply : Result BackendAbort OperationError
ready_reply = Ok (record { restart_ready = true; error = None })

-- the tokens of all affected requests, by ascending id
abbrev pub affected_tokens : Recovery → List Row → List ℕ
affected_tokens x rows = tokens_of rows (affected_of x.device x.endpoint rows)

-- where the call opened an operation, the reply to it; else it is dropped. A submission's token is its id's sequence
unfoldable pub reply_calls : Answer → PaperEvent → List Row → List Call
reply_calls (Answer.Refused r) e rows = []
reply_calls Answer.Pass e rows = []
reply_calls (Answer.Begun x) e rows = Reply (ToSubmit (Ok x.id.sequence)) ∷ []
reply_calls (Answer.PlanBegun x) e rows = []
reply_calls (Answer.Report x) e rows = []
reply_calls Answer.NoReport e rows = []
reply_calls (Answer.Asked token) e rows = Reply (ToPoll (event_reply e) (event_bytes e)) ∷ []
reply_calls (Answer.Number n) e rows = []
reply_calls (Answer.Bytes p) e rows = []
reply_calls (Answer.Recovering x) e rows = Reply (ToRecovery ready_reply (reply_lists [] [] (affected_tokens x rows) [])) ∷ []
reply_calls (Answer.Recovered x) e rows = []

-- an event's calls: the first, and the reply to what it opened; none of a damaged event
unfoldable pub event_calls : PaperEvent → World → List Call
event_calls e w =
    [] if is_damaged e else
    event_call e ∷ reply_calls (step_of (event_call e) w).result.answer e (world_store w).rows

-- ---- what the line shows

-- whose state is shown: the submission's new id, none where it was refused; in kinds 1 to 5 the event's id
abbrev pub shown_id : Answer → PaperEvent → Option RequestId
shown_id a e = cond (eqb e.kind 0) (begun_id a) (Some (event_id e))

-- what an event's calls leave: the refusal's number or 0, the id whose state is shown, the session
abbrev pub leaves : ℕ → Option RequestId → Session → Marked
leaves number id s = record { refusal = number; id = id; session = s }

abbrev pub marked_as : Option RequestId → After Outcome Lent → After Marked Lent
marked_as id o = after (leaves (answer_said o.result.answer).number id o.result.session) o.lent

-- an event's calls, made one by one
unfoldable pub marked_by : After Outcome Lent → PaperEvent → List Row → After Marked Lent
marked_by o e rows = marked_as (shown_id o.result.answer e) (made_after (reply_calls o.result.answer e rows) o)

unfoldable pub calls_marked : PaperEvent → World → After Marked Lent
calls_marked e w = marked_by (step_of (event_call e) w) e (world_store w).rows

-- 57: a damaged event changes nothing and shows no id
unfoldable pub event_marked : PaperEvent → World → After Marked Lent
event_marked e w = after (leaves 57 None w.session) w.lent if is_damaged e else calls_marked e w

-- ---- of lent slices: marked as the event's calls, whatever the bus, and whatever the bus and the area

abbrev pub MarksMemory : Marked → PaperEvent → Session → List ℕ → List ℕ → List ℕ → List ℕ → Type 0
MarksMemory r e s rows rows' area area' = (b : Bus) → after r (lent b (memory_of rows' area')) ≡ calls_marked e (world s (lent b (memory_of rows area)))

abbrev pub MarksRows : Marked → PaperEvent → Session → List ℕ → List ℕ → Type 0
MarksRows r e s rows rows' =
    (b : Bus) (area : List ℕ) → after r (lent b (memory (store_of rows') area)) ≡ calls_marked e (world s (lent b (memory (store_of rows) area)))
