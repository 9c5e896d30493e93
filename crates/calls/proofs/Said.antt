-- Every call is refused by the table: by a number of its own list, with the error that the table gives the number. Assumes nothing.
use Rattle.std.specs.Prelude.{Result, Ok, Err, ⊤, Option, Some, None}
use Prim.Native.Nat.{ℕ}
use mathlib.Core.List.{List}
use mathlib.Core.Path.{◌≡◌, refl, sym, subst}
use lib.ListN.{length}
use Rattle.models.specs.Said.{Said, Tabled, verdict_said}
use Rattle.models.specs.declared.{Refusal.Refusal, RequestId.RequestId, RequestReport.RequestReport}
use Rattle.session.specs.Lifecycle.{open_of}
use Rattle.session.specs.Said.{opened_said}
use Rattle.session.specs.declared.{Recovery.Recovery, Session.Session}
use Rattle.session.proofs.Said.{open_tabled, acquire_tabled, initialize_tabled, close_tabled, set_device_tabled, set_port_call_tabled, set_endpoints_call_tabled, set_reconcile_tabled}
use Rattle.reports.specs.Change.{change_of}
use Rattle.reports.specs.Said.{report_said, next_said, tally_said, part_said, cancel_numbers, reclaim_numbers, withdraw_numbers}
use Rattle.reports.specs.Status.{status_of, next_of, shown_count, completed_part, held_count_of, tally_of, held_bytes_of}
use Rattle.reports.proofs.Said.{status_tabled, next_tabled, shown_tabled, held_count_tabled, held_bytes_tabled, part_tabled, change_tabled}
use Rattle.polls.specs.Poll.{poll_of}
use Rattle.polls.specs.PollReply.{poll_reply_of}
use Rattle.polls.specs.Said.{poll_said}
use Rattle.polls.proofs.Said.{poll_tabled, poll_reply_tabled}
use Rattle.submissions.specs.Plan.{submit_plan_of}
use Rattle.submissions.specs.Said.{submit_said, plan_said}
use Rattle.submissions.specs.Submit.{submit_of}
use Rattle.submissions.specs.SubmitReply.{submit_reply_of}
use Rattle.submissions.proofs.Said.{submit_tabled, submit_plan_tabled, submit_reply_tabled}
use Rattle.recovery.specs.Recover.{recover_of}
use Rattle.recovery.specs.RecoveryReply.{recovery_reply_of}
use Rattle.recovery.specs.Said.{begin_said, recovery_said}
use Rattle.recovery.proofs.Said.{recover_tabled, recovery_reply_tabled}
use Rattle.calls.specs.Answers.{of_opened, of_verdict, of_submit, of_plan, of_report, of_poll, of_next, of_tally, of_part, of_begin, of_recovery}
use Rattle.calls.specs.Calls.{Placing, Device, Port, Endpoints, Reconcile, Moving, Acquire, Initialize, Close, Beginning, Submit, SubmitPlan, Poll, Recover, Replying, ToSubmit, ToPoll, ToRecovery, Changing, Cancel, Timeout, Reclaim, Withdraw, Reading, Status, Reports, CountReports, CompletedBytes, HeldCount, HeldBytes, Call, Open, Place, Move, Begin, Reply, Change, Read}
use Rattle.calls.specs.Said.{answer_said, placing_numbers, moving_numbers, beginning_numbers, replying_numbers, changing_numbers, reading_numbers, call_numbers}
use Rattle.calls.specs.Step.{World, world_store, change_by, placed_of, moved_of, begun_of, replied_of, read_of, step_of}
use Rattle.reports.specs.declared.{Part.Part}
use Rattle.recovery.specs.declared.{AbortReport.AbortReport}
use Rattle.submissions.specs.declared.{PlanSubmission.PlanSubmission, Submission.Submission}
use Rattle.polls.specs.declared.{PollAnswer.PollAnswer}

-- ---- as the one type of answer an answer says what it says as its own
opened_same : (x : Result Session Refusal) (s : Session) → answer_said (of_opened x s).answer ≡ opened_said x
opened_same (Err r) s = refl
opened_same (Ok n) s = refl

verdict_same : (x : Result ⊤ Refusal) → answer_said (of_verdict x) ≡ verdict_said x
verdict_same (Err r) = refl
verdict_same (Ok tt) = refl

submit_same : (x : Result Submission Refusal) → answer_said (of_submit x) ≡ submit_said x
submit_same (Err r) = refl
submit_same (Ok y) = refl

plan_same : (x : Result PlanSubmission Refusal) → answer_said (of_plan x) ≡ plan_said x
plan_same (Err r) = refl
plan_same (Ok y) = refl

pub report_same : (x : Result RequestReport Refusal) → answer_said (of_report x) ≡ report_said x
report_same (Err r) = refl
report_same (Ok y) = refl

poll_same : (x : Result PollAnswer Refusal) → answer_said (of_poll x) ≡ poll_said x
poll_same (Err r) = refl
poll_same (Ok (PollAnswer.Report y)) = refl
poll_same (Ok (PollAnswer.Asked token)) = refl

next_same : (x : Result (Option RequestReport) Refusal) → answer_said (of_next x) ≡ next_said x
next_same (Err r) = refl
next_same (Ok None) = refl
next_same (Ok (Some y)) = refl

tally_same : (x : Result ℕ Refusal) → answer_said (of_tally x) ≡ tally_said x
tally_same (Err r) = refl
tally_same (Ok n) = refl

part_same : (x : Result Part Refusal) → answer_said (of_part x) ≡ part_said x
part_same (Err r) = refl
part_same (Ok p) = refl

begin_same : (x : Result Recovery Refusal) → answer_said (of_begin x) ≡ begin_said x
begin_same (Err r) = refl
begin_same (Ok y) = refl

pub recovery_same : (x : Result AbortReport Refusal) → answer_said (of_recovery x) ≡ recovery_said x
recovery_same (Err r) = refl
recovery_same (Ok y) = refl

same : (ns : List ℕ) {x y : Said} → x ≡ y → Tabled ns y → Tabled ns x
same ns e h = subst (Tabled ns) (sym e) h

-- ---- by group
placed_tabled : (p : Placing) (w : World) → Tabled (placing_numbers p) (verdict_said (placed_of p w).result)
unfolding placed_of
placed_tabled (Device d) w = set_device_tabled _ _ d
placed_tabled (Port number row) w = set_port_call_tabled _ _ number row
placed_tabled (Endpoints slot list) w = set_endpoints_call_tabled _ _ slot list
placed_tabled (Reconcile slot mark) w = set_reconcile_tabled _ _ slot mark

moved_tabled : (m : Moving) (w : World) → Tabled (moving_numbers m) (verdict_said (moved_of m w).result.answer)
unfolding moved_of
moved_tabled (Acquire reply) w = acquire_tabled reply _
moved_tabled (Initialize reply) w = initialize_tabled reply _
moved_tabled (Close fresh reply) w = close_tabled fresh reply _ _

begun_tabled : (b : Beginning) (w : World) → Tabled (beginning_numbers b) (answer_said (begun_of b w).result.answer)
unfolding begun_of
begun_tabled (Submit packets q) w = same _ (submit_same (submit_of packets q w.session w.lent).result.answer) (submit_tabled q _ _ packets)
begun_tabled (SubmitPlan q) w =
    same _ (plan_same (submit_plan_of q.plan q.bytes q.reading w.session w.lent).result.answer) (submit_plan_tabled q.plan q.bytes q.reading _ _)
begun_tabled (Poll id) w = same _ (poll_same (poll_of id w.session (world_store w)).answer) (poll_tabled id _ _)
begun_tabled (Recover id kind) w = same _ (begin_same (recover_of id kind w.session (world_store w)).answer) (recover_tabled id kind _ _)

replied_tabled : (r : Replying) (w : World) → Tabled (replying_numbers r) (answer_said (replied_of r w).result.answer)
unfolding replied_of
replied_tabled (ToSubmit reply) w = same _ (report_same (submit_reply_of reply w.session (world_store w)).result.answer) (submit_reply_tabled _ _ reply)
replied_tabled (ToPoll reply bytes) w =
    same _ (report_same (poll_reply_of reply bytes w.session w.lent.memory).result.answer) (poll_reply_tabled reply bytes _ _)
replied_tabled (ToRecovery reply lists) w =
    same _ (recovery_same (recovery_reply_of reply lists w.session w.lent.memory).result.answer) (recovery_reply_tabled reply lists _ _)

changed_tabled : (c : Changing) (id : RequestId) (w : World) → Tabled (changing_numbers c) (report_said (change_of id (change_by c) w.session (world_store w)).result.answer)
changed_tabled Cancel id w = change_tabled cancel_numbers _ refl id _ _
changed_tabled Timeout id w = change_tabled cancel_numbers _ refl id _ _
changed_tabled Reclaim id w = change_tabled reclaim_numbers _ refl id _ _
changed_tabled Withdraw id w = change_tabled withdraw_numbers _ refl id _ _

read_tabled : (r : Reading) (w : World) → Tabled (reading_numbers r) (answer_said (read_of r w))
unfolding read_of
read_tabled (Status id) w = same _ (report_same (status_of id w.session (world_store w))) (status_tabled id _ _)
read_tabled (Reports from) w = same _ (next_same (next_of from w.session (world_store w))) (next_tabled from _ _)
read_tabled CountReports w = same _ (tally_same (shown_count w.session (world_store w))) (shown_tabled _ _)
read_tabled (CompletedBytes id) w =
    same _ (part_same (completed_part id (length w.lent.memory.area) w.session (world_store w))) (part_tabled id _ _ _)
read_tabled HeldCount w = same _ (tally_same (tally_of (held_count_of w.session (world_store w)))) (held_count_tabled _ _)
read_tabled HeldBytes w = same _ (tally_same (held_bytes_of w.session (world_store w))) (held_bytes_tabled _ _)

pub step_tabled : (c : Call) (w : World) → Tabled (call_numbers c) (answer_said (step_of c w).result.answer)
unfolding step_of
step_tabled (Open o) w = same _ (opened_same (open_of o w.lent).result w.session) (open_tabled o _)
step_tabled (Place p) w = same _ (verdict_same (placed_of p w).result) (placed_tabled p w)
step_tabled (Move m) w = same _ (verdict_same (moved_of m w).result.answer) (moved_tabled m w)
step_tabled (Begin b) w = begun_tabled b w
step_tabled (Reply r) w = replied_tabled r w
step_tabled (Change id c) w = same _ (report_same (change_of id (change_by c) w.session (world_store w)).result.answer) (changed_tabled c id w)
step_tabled (Read r) w = read_tabled r w
