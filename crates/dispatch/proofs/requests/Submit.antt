-- One law for each submission, calls 8 and 9: its premises are the facts in hand there. Assumes nothing.
use Rattle.std.specs.Prelude.{option_copied}
use Rattle.std.specs.Bool.{then_some}
use Prim.Native.Nat.{ℕ}
use mathlib.Core.List.{List}
use mathlib.Core.Path.{◌≡◌, ap, ◌∙◌}
use lib.ListN.{get_or, drop}
use Rattle.chain.specs.After.{after}
use Rattle.chain.proofs.Chain.{chain}
use Rattle.words.specs.Words.{read_flag}
use Rattle.models.specs.declared.{ControlPlan.ControlPlan, OperationError.OperationError, RequestSpec.RequestSpec}
use Rattle.session.specs.Lent.{Lent}
use Rattle.session.specs.declared.{Called.Called, Session.Session}
use Rattle.submissions.specs.Submit.{packets_in, request_in, submit_of, request}
use Rattle.targets.specs.declared.{Readings.Readings}
use Rattle.submissions.specs.Plan.{submit_plan_of}
use Rattle.calls.specs.Answers.{outcome, of_submit, of_plan}
use Rattle.call_words.specs.Arguments.{read_request, read_plan_request}
use Rattle.calls.specs.Calls.{Submit, SubmitPlan, PlanRequest, Begin}
use Rattle.calls.specs.Step.{world, submits, plans, begun_of, step_of}
use Rattle.calls.specs.declared.{Outcome.Outcome}
use Rattle.call_words.specs.Decode.{read_submission}
use Rattle.dispatch.proofs.Steps.{said}
use Rattle.submissions.specs.declared.{NewRequest.NewRequest, PlanSubmission.PlanSubmission, Submission.Submission}
use Rattle.submissions.proofs.Unread.{submit_read}

-- l is lent, and next is what it is afterwards
module _ (n : ℕ) (s : Session) (l next : Lent) (w bytes : List ℕ) (r : Outcome) where
  abbrev Steps : Type 0
  Steps = after r next ≡ step_of (read_submission n w bytes) (world s l)

  pub submit_step : (x : Called Submission) (q : NewRequest) → after x next ≡ submit_of (packets_in q) (request_in q) s l
      → r ≡ outcome (of_submit x.answer) x.session → n ≡ 8 → request_in q ≡ read_request w bytes
      → option_copied q.packets ≡ then_some (read_flag (get_or w 26 0)) (drop 27 w) → Steps
  unfolding step_of begun_of read_submission
  submit_step x q h er e eq ep =
      let z : submit_of (packets_in q) (request_in q) s l ≡ submit_of (drop 27 w) (read_request w bytes) s l =
      submit_read q (read_request w bytes) (drop 27 w) s l eq ep in
      said (Begin (Submit (drop 27 w) (read_request w bytes))) (read_submission n w bytes) (world s l) _ (search chain depth 20)
      (ap (λ (z : Outcome). after z next) er ∙ ap submits (h ∙ z))

  pub plan_step : (x : Called PlanSubmission) (q : PlanRequest) → (n ≡ 8 → ⊥) → q ≡ read_plan_request w bytes
      → r ≡ outcome (of_plan x.answer) x.session → after x next ≡ submit_plan_of q.plan q.bytes q.reading s l → Steps
  unfolding step_of begun_of read_submission
  plan_step x q n8 eq er h =
      let c : Begin (SubmitPlan q) ≡ Begin (SubmitPlan (read_plan_request w bytes)) = ap (λ (z : PlanRequest). Begin (SubmitPlan z)) eq in
      said (Begin (SubmitPlan q)) (read_submission n w bytes) (world s l) _ (search (chain, c) depth 20)
      (ap (λ (z : Outcome). after z next) er ∙ ap plans h)
