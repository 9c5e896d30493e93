-- A call's step: its answer, and the session, the bus, the store and the area after it. One clause a call, in groups, by the definitions that
-- the calls' own contracts cite. Assumes nothing.
use Rattle.std.specs.Prelude.{List, [], ◌∷◌, length, None, Result, ⊤}
use Rattle.chain.specs.After.{After, after}
use Rattle.rows.specs.Store.{Store}
use Rattle.rules.specs.declared.Change as rules
use Rattle.rules.specs.declared.Change.TheVariants as change
use Rattle.bus.specs.Tables.{Bus}
use Rattle.models.specs.declared.{ControllerState.ControllerState, Refusal.Refusal, RequestReport.RequestReport}
use Rattle.session.specs.Lent.{Memory, Lent, memory, lent}
use Rattle.session.specs.Lifecycle.{open_of, acquire_of, initialize_of, close_of}
use Rattle.session.specs.Place.{set_device_of, set_port_of, set_endpoints_of, set_reconcile_of}
use Rattle.session.specs.declared.{Called.Called, InFlight.InFlight, Session.Session}
use Rattle.submissions.specs.Submit.{submit_of}
use Rattle.submissions.specs.Plan.{submit_plan_of}
use Rattle.submissions.specs.SubmitReply.{submit_reply_of}
use Rattle.polls.specs.Poll.{poll_of}
use Rattle.polls.specs.PollReply.{poll_reply_of}
use Rattle.reports.specs.Change.{change_of}
use Rattle.reports.specs.Status.{status_of, next_of, shown_count, completed_part, held_count_of, tally_of, held_bytes_of}
use Rattle.recovery.specs.Recover.{recover_of}
use Rattle.recovery.specs.RecoveryReply.{recovery_reply_of}
use Rattle.recovery.specs.declared.{Begun.Begun, Replied.Replied}
use Rattle.calls.specs.Calls.{Placing, Device, Port, Endpoints, Reconcile, Moving, Acquire, Initialize, Close, Beginning, Submit, SubmitPlan, Poll, Recover, Replying, ToSubmit, ToPoll, ToRecovery, Changing, Cancel, Timeout, Reclaim, Withdraw, Reading, Status, Reports, CountReports, CompletedBytes, HeldCount, HeldBytes, Call, Open, Place, Move, Begin, Reply, Change, Read}
use Rattle.calls.specs.Answers.{outcome, of_opened, of_verdict, of_submit, of_plan, of_report, of_poll, of_next, of_tally, of_part, of_begin, of_recovery}
use Rattle.calls.specs.declared.{Answer.Answer, Outcome.Outcome}
use Rattle.submissions.specs.declared.{PlanSubmission.PlanSubmission, Submission.Submission}
use Rattle.polls.specs.declared.{PollAnswer.PollAnswer}

-- what a call is handed: the session, and what the lent slices say
pub record World : Type 0 where
  pub session : Session
  pub lent : Lent

abbrev pub world : Session → Lent → World
world s l = record { session = s; lent = l }

-- what an opening is handed: no session yet
abbrev pub no_session : Session
no_session = record {
  number = 0;
  generation = 0;
  next_sequence = 0;
  ports = None;
  state = ControllerState.Closed;
  recovery_revision = None;
  recoverable_stall = None;
  in_flight = InFlight.Nothing;
  size = record { row_count = 0; row_bytes = 0 };
}

abbrev pub world_store : World → Store
world_store w = w.lent.memory.store

-- what a call leaves where it was lent a part alone
abbrev pub on_bus : After Outcome Bus → World → After Outcome Lent
on_bus o w = after o.result (lent o.lent w.lent.memory)

abbrev pub on_memory : After Outcome Memory → World → After Outcome Lent
on_memory o w = after o.result (lent w.lent.bus o.lent)

abbrev pub on_store : After Outcome Store → World → After Outcome Lent
on_store o w = on_memory (after o.result (memory o.lent w.lent.memory.area)) w

-- the answer of each kind of call
abbrev pub opens : After (Result Session Refusal) Lent → World → After Outcome Lent
opens o w = after (of_opened o.result w.session) o.lent

abbrev pub places : After (Result ⊤ Refusal) Bus → World → After Outcome Lent
places o w = on_bus (after (outcome (of_verdict o.result) w.session) o.lent) w

abbrev pub moves : After (Called ⊤) Store → World → After Outcome Lent
moves o w = on_store (after (outcome (of_verdict o.result.answer) o.result.session) o.lent) w

abbrev pub submits : After (Called Submission) Lent → After Outcome Lent
submits o = after (outcome (of_submit o.result.answer) o.result.session) o.lent

abbrev pub plans : After (Called PlanSubmission) Lent → After Outcome Lent
plans o = after (outcome (of_plan o.result.answer) o.result.session) o.lent

abbrev pub polls : Called PollAnswer → World → After Outcome Lent
polls o w = after (outcome (of_poll o.answer) o.session) w.lent

abbrev pub begins : Begun → World → After Outcome Lent
begins o w = after (outcome (of_begin o.answer) o.session) w.lent

abbrev pub reports : After (Called RequestReport) Store → World → After Outcome Lent
reports o w = on_store (after (outcome (of_report o.result.answer) o.result.session) o.lent) w

abbrev pub finishes : After (Called RequestReport) Memory → World → After Outcome Lent
finishes o w = on_memory (after (outcome (of_report o.result.answer) o.result.session) o.lent) w

abbrev pub recovers : After Replied Memory → World → After Outcome Lent
recovers o w = on_memory (after (outcome (of_recovery o.result.answer) o.result.session) o.lent) w

abbrev pub reads : Answer → World → After Outcome Lent
reads a w = after (outcome a w.session) w.lent

-- the calls of each group
unfoldable pub placed_of : Placing → World → After (Result ⊤ Refusal) Bus
placed_of (Device d) w = set_device_of d w.session w.lent.bus
placed_of (Port number row) w = set_port_of number row w.session w.lent.bus
placed_of (Endpoints slot list) w = set_endpoints_of slot list w.session w.lent.bus
placed_of (Reconcile slot mark) w = set_reconcile_of slot mark w.session w.lent.bus

unfoldable pub moved_of : Moving → World → After (Called ⊤) Store
moved_of (Acquire reply) w = after (acquire_of reply w.session) (world_store w)
moved_of (Initialize reply) w = after (initialize_of reply w.session) (world_store w)
moved_of (Close fresh reply) w = close_of fresh reply w.session (world_store w)

unfoldable pub begun_of : Beginning → World → After Outcome Lent
begun_of (Submit packets q) w = submits (submit_of packets q w.session w.lent)
begun_of (SubmitPlan q) w = plans (submit_plan_of q.plan q.bytes q.reading w.session w.lent)
begun_of (Poll id) w = polls (poll_of id w.session (world_store w)) w
begun_of (Recover id kind) w = begins (recover_of id kind w.session (world_store w)) w

unfoldable pub replied_of : Replying → World → After Outcome Lent
replied_of (ToSubmit reply) w = reports (submit_reply_of reply w.session (world_store w)) w
replied_of (ToPoll reply bytes) w = finishes (poll_reply_of reply bytes w.session w.lent.memory) w
replied_of (ToRecovery reply lists) w = recovers (recovery_reply_of reply lists w.session w.lent.memory) w

-- the ledger's change
abbrev pub change_by : Changing → rules.Change
change_by Cancel = change.LogicalCancel
change_by Timeout = change.Timeout
change_by Reclaim = change.Reclaim
change_by Withdraw = change.WithdrawCancel

unfoldable pub read_of : Reading → World → Answer
read_of (Status id) w = of_report (status_of id w.session (world_store w))
read_of (Reports from) w = of_next (next_of from w.session (world_store w))
read_of CountReports w = of_tally (shown_count w.session (world_store w))
read_of (CompletedBytes id) w = of_part (completed_part id (length w.lent.memory.area) w.session (world_store w))
read_of HeldCount w = of_tally (tally_of (held_count_of w.session (world_store w)))
read_of HeldBytes w = of_tally (held_bytes_of w.session (world_store w))

unfoldable pub step_of : Call → World → After Outcome Lent
step_of (Open o) w = opens (open_of o w.lent) w
step_of (Place p) w = places (placed_of p w) w
step_of (Move m) w = moves (moved_of m w) w
step_of (Begin b) w = begun_of b w
step_of (Reply r) w = replied_of r w
step_of (Change id c) w = reports (change_of id (change_by c) w.session (world_store w)) w
step_of (Read r) w = reads (read_of r w) w

-- ---- calls one after another

-- what a call leaves is handed to the next
abbrev pub next : After Outcome Lent → World
next o = world o.result.session o.lent

-- calls after an outcome; the answer is the last call's
abbrev pub made_after : List Call → After Outcome Lent → After Outcome Lent
made_after [] o = o
made_after (c ∷ cs) o = made_after cs (step_of c (next o))

-- what calls leave of a world
abbrev pub made_on : List Call → World → World
made_on [] w = w
made_on (c ∷ cs) w = next (made_after cs (step_of c w))
