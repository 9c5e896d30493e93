-- The calls whose numbers are in the range of their types; a recovery's reply has whole completions. Assumes nothing.
use Rattle.std.specs.Prelude.{ℕ, ◌<◌, ◌%◌, ◌^◌, ◌≡◌, length, Option, Result, Ok, Err, Some, None}
use Rattle.models.specs.declared.{ControlPlan.ControlPlan, OperationError.OperationError, RequestSpec.RequestSpec}
use Rattle.scope.specs.Returned.{completion_words}
use Rattle.calls.specs.Calls.{Call, Open, Placing, Place, Device, Port, Endpoints, Reconcile, Moving, Move, Acquire, Initialize, Close, Beginning, Begin, Submit, SubmitPlan, Poll, Recover, Replying, Reply, ToSubmit, ToPoll, ToRecovery, Change, Read}
use Rattle.calls.specs.Fits.{U32Fits, ErrorFits, OptionErrorFits, DeviceFits, PacketFits, SetupFits}
use Rattle.recovery.specs.declared.{BackendAbort.BackendAbort}

abbrev pub ReadingFits : Result ℕ OperationError → Type 0
ReadingFits (Ok v) = v < 2 ^ 32
ReadingFits (Err e) = ErrorFits e

abbrev pub SpecFits : RequestSpec → Type 0
SpecFits q = DeviceFits q.device × (q.endpoint < 2 ^ 8) × SetupFits q.setup

abbrev pub PlanFits : ControlPlan → Type 0
PlanFits p = DeviceFits p.device × PacketFits p.setup

abbrev pub ReplyFits : Result BackendAbort OperationError → Type 0
ReplyFits (Ok x) = OptionErrorFits x.error
ReplyFits (Err e) = ErrorFits e

abbrev pub PlacingFits : Placing → Type 0
PlacingFits (Device d) = DeviceFits d.id × (d.port.number < 2 ^ 8)
PlacingFits (Port number row) = (number < 2 ^ 8) × U32Fits row.reading
PlacingFits (Endpoints slot list) = slot < 2 ^ 8
PlacingFits (Reconcile slot mark) = slot < 2 ^ 8

abbrev pub MovingFits : Moving → Type 0
MovingFits (Acquire (Ok tt)) = Unit {0}
MovingFits (Acquire (Err f)) = ErrorFits f.error
MovingFits (Initialize e) = OptionErrorFits e
MovingFits (Close fresh e) = OptionErrorFits e

abbrev pub BeginningFits : Beginning → Type 0
BeginningFits (Submit packets q) = SpecFits q.spec × ReadingFits q.readings.first × ReadingFits q.readings.second
BeginningFits (SubmitPlan q) = PlanFits q.plan × ReadingFits q.reading
BeginningFits (Poll id) = Unit {0}
BeginningFits (Recover id kind) = Unit {0}

abbrev pub ReplyingFits : Replying → Type 0
ReplyingFits (ToSubmit (Ok t)) = Unit {0}
ReplyingFits (ToSubmit (Err e)) = ErrorFits e
ReplyingFits (ToPoll (Ok None) bytes) = Unit {0}
ReplyingFits (ToPoll (Err e) bytes) = ErrorFits e
ReplyingFits (ToPoll (Ok (Some x)) bytes) = OptionErrorFits x.error × U32Fits x.completion_code
ReplyingFits (ToRecovery r l) = ReplyFits r × (length l.completions % completion_words ≡ 0)

abbrev pub U8Fits : Option ℕ → Type 0
U8Fits None = Unit {0}
U8Fits (Some n) = n < 2 ^ 8

abbrev pub CallFits : Call → Type 0
CallFits (Open o) = U8Fits o.port_count
CallFits (Place p) = PlacingFits p
CallFits (Move m) = MovingFits m
CallFits (Begin b) = BeginningFits b
CallFits (Reply r) = ReplyingFits r
CallFits (Change id c) = Unit {0}
CallFits (Read r) = Unit {0}
