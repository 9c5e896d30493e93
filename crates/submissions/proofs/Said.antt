-- Every number that a submission or its reply refuses by is in its list. Assumes nothing.
use Rattle.std.specs.Prelude.{Result, Ok, Err, ⊤}
use Prim.Native.Nat.{ℕ}
use mathlib.Core.Bool.{true}
use mathlib.Core.List.{List}
use mathlib.Core.Path.{◌≡◌, refl}
use lib.ListN.{length}
use Rattle.chain.specs.After.{After, after}
use Rattle.chain.specs.Lists.{is_among}
use Rattle.chain.proofs.Chain.{if_all}
use Rattle.models.specs.Said.{Tabled, verdict_said}
use Rattle.models.specs.declared.{ControlPlan.ControlPlan, OperationError.OperationError, Refusal.Refusal, RequestId.RequestId, RequestMetadata.RequestMetadata, RequestReport.RequestReport}
use Rattle.models.proofs.Said.{tabled_says, tabled_own, tabled_backend, tabled_in, said_of}
use Rattle.rows.specs.Store.{Store}
use Rattle.rules.specs.Rules.{spend_sequence}
use Rattle.rules.specs.declared.{Change.Change}
use Rattle.ledger.specs.Apply.{apply_of}
use Rattle.checks.specs.Plan.{plan_of}
use Rattle.checks.specs.Prepare.{metadata_of}
use Rattle.targets.specs.Said.{device_numbers, target_numbers}
use Rattle.targets.specs.Target.{check_target}
use Rattle.targets.specs.declared.{Readings.Readings}
use Rattle.targets.proofs.Said.{target_tabled, control_tabled}
use Rattle.session.specs.Lent.{Memory, Lent}
use Rattle.session.specs.Session.{is_initialized}
use Rattle.session.specs.Sizes.{place_of}
use Rattle.session.specs.declared.{Called.Called, InFlight.InFlight, Session.Session}
use Rattle.reports.specs.Said.{report_said}
use Rattle.submissions.specs.Begin.{Draft, draft, begun, begin_of, target_by, target_of}
use Rattle.submissions.specs.Plan.{both, plan_started, plan_target, submit_plan_by, submit_plan_of}
use Rattle.submissions.specs.Said.{start_said, submit_said, plan_said, admit_numbers, admit_plan_numbers, submit_numbers, submit_plan_numbers, submit_reply_numbers}
use Rattle.submissions.specs.Submit.{Request, submitted_by, submit_target, submit_by, submit_of}
use Rattle.submissions.specs.SubmitReply.{accepted_by, discarded_by, submit_reply_by, submit_reply_in, submit_reply_of}
use Rattle.submissions.proofs.Admission.{admit_all, admit_plan_all}
use Rattle.submissions.specs.declared.{PlanSubmission.PlanSubmission, Submission.Submission, begin.Start.Start}
use Rattle.session.specs.Called.{call_refused}

-- ---- the end of every submission; 39 is in ns
module _ (ns : List ℕ) (last : is_among 39 ns ≡ true) where
  abbrev Starts : After (Called Start) Memory → Type 0
  Starts o = Tabled ns (start_said o.result.answer)

  begin_tabled : (d : Draft) (s : Session) (m : Memory) → Tabled ns (start_said (begin_of d s m).result.answer)
  unfolding begin_of spend_sequence
  begin_tabled d s m =
      if_all
      (λ (x : Result ℕ Refusal).
      Starts (elim x [
        | Err r ↦ after (call_refused s r) m
        | Ok next ↦ begun next d s m
      ]))
      _ _ _ (tabled_own ns 39 last) (tabled_says ns _)

  target_by_lem : (v : Result ⊤ Refusal) → Tabled ns (verdict_said v) → (d : Draft) (s : Session) (l : Lent) → Tabled ns (start_said (target_by v d s l).result.answer)
  unfolding target_by
  target_by_lem (Err r) h d s l = h
  target_by_lem (Ok tt) h d s l = begin_tabled d s l.memory

  pub target_of_lem : (d : Draft) (x : Readings) (s : Session) (l : Lent)
      → Tabled ns (verdict_said (check_target (is_initialized s.state) s.ports d.metadata x l.bus).result)
      → Tabled ns (start_said (target_of d x s l).result.answer)
  unfolding target_of
  target_of_lem d x s l h = target_by_lem (check_target (is_initialized s.state) s.ports d.metadata x l.bus).result h d s _

-- ---- a request
abbrev Submits : After (Called Submission) Lent → Type 0
Submits o = Tabled submit_numbers (submit_said o.result.answer)

module _ (q : Request) (s : Session) (l : Lent) where
  submitted_by_lem : (a : Result Start Refusal) (t : Session) → Tabled submit_numbers (start_said a) → (m : RequestMetadata) → Tabled submit_numbers (submit_said (submitted_by a t m q.given).answer)
  unfolding submitted_by
  submitted_by_lem (Err r) t h m = h
  submitted_by_lem (Ok x) t h m = tabled_says _ _

  module _ (packets : List ℕ) where
    pub submit_tabled : Tabled submit_numbers (submit_said (submit_of packets q s l).result.answer)
    unfolding submit_of submit_by submit_target
    submit_tabled =
        admit_all q.spec (length q.bytes) s l (λ a. Submits (submit_by a q s l)) (λ r h. tabled_in submit_numbers admit_numbers refl _ h)
        (λ fits i room k.
        let d : Draft = draft (place_of s.size i) (metadata_of q.spec) q.bytes in
        let o : After (Called Start) Lent = target_of d q.readings s l in
        submitted_by_lem o.result.answer o.result.session
        (target_of_lem submit_numbers refl d q.readings s l (tabled_in submit_numbers target_numbers refl _ (target_tabled d.metadata _ _ _ _))) d.metadata)
        packets q.given

    pub submit_said_lem : (x : Called Submission) (left : Lent) → after x left ≡ submit_of packets q s l
        → (after x left ≡ submit_of packets q s l) × Tabled submit_numbers (submit_said x.answer)
    submit_said_lem x left e = said_of Submits _ _ e submit_tabled

-- ---- a plan
abbrev Plans : After (Called PlanSubmission) Lent → Type 0
Plans o = Tabled submit_plan_numbers (plan_said o.result.answer)

module _ (q : ControlPlan) (bytes : List ℕ) (first : Result ℕ OperationError) (s : Session) (l : Lent) where
  plan_started_by : (a : Result Start Refusal) (t : Session) → Tabled submit_plan_numbers (start_said a) → Tabled submit_plan_numbers (plan_said (plan_started a t (plan_of q)).answer)
  unfolding plan_started
  plan_started_by (Err r) t h = h
  plan_started_by (Ok x) t h = tabled_says _ _

  pub submit_plan_tabled : Tabled submit_plan_numbers (plan_said (submit_plan_of q bytes first s l).result.answer)
  unfolding submit_plan_of submit_plan_by plan_target
  submit_plan_tabled =
      admit_plan_all q (length bytes) s l (λ a. Plans (submit_plan_by a bytes first s l)) (λ r h. tabled_in submit_plan_numbers admit_plan_numbers refl _ h)
      (λ fits i room k.
      let d : Draft = draft (place_of s.size i) (plan_of q).metadata bytes in
      let o : After (Called Start) Lent = target_of d (both first) s l in
      plan_started_by o.result.answer o.result.session
      (target_of_lem submit_plan_numbers refl d (both first) s l (tabled_in submit_plan_numbers device_numbers refl _ (control_tabled d.metadata _ _ _ _ refl))))

  pub submit_plan_said : (x : Called PlanSubmission) (left : Lent) → after x left ≡ submit_plan_of q bytes first s l
      → (after x left ≡ submit_plan_of q bytes first s l) × Tabled submit_plan_numbers (plan_said x.answer)
  submit_plan_said x left e = said_of Plans _ _ e submit_plan_tabled

-- ---- the reply
abbrev Replies : After (Called RequestReport) Store → Type 0
Replies o = Tabled submit_reply_numbers (report_said o.result.answer)

accepted_by_lem : (x : Result RequestReport Refusal) (s : Session) → Tabled submit_reply_numbers (report_said (accepted_by x s).answer)
unfolding accepted_by
accepted_by_lem (Err r) s = tabled_own _ 2 refl
accepted_by_lem (Ok row) s = tabled_says _ _

discarded_by_lem : (x : Result RequestReport Refusal) (e : OperationError) (s : Session) → Tabled submit_reply_numbers (report_said (discarded_by x e s).answer)
unfolding discarded_by
discarded_by_lem (Err r) e s = tabled_own _ 2 refl
discarded_by_lem (Ok row) e s = tabled_backend _ 45 e refl refl

module _ (s : Session) (store : Store) where
  reply_by_lem : (x : Result ℕ OperationError) (id : RequestId) → Replies (submit_reply_by x id s store)
  unfolding submit_reply_by
  reply_by_lem (Ok token) id = accepted_by_lem (apply_of id (Change.Accept token) store).result s
  reply_by_lem (Err e) id = discarded_by_lem (apply_of id Change.Discard store).result e s

  reply_in_lem : (x : Result ℕ OperationError) (f : InFlight) → Replies (submit_reply_in f x s store)
  unfolding submit_reply_in
  reply_in_lem x InFlight.Nothing = tabled_own _ 2 refl
  reply_in_lem x (InFlight.Poll id) = tabled_own _ 2 refl
  reply_in_lem x (InFlight.Recovery y) = tabled_own _ 2 refl
  reply_in_lem x (InFlight.Submission id) = if_all Replies _ _ _ (tabled_own _ 3 refl) (reply_by_lem x id)

  module _ (x : Result ℕ OperationError) where
    pub submit_reply_tabled : Tabled submit_reply_numbers (report_said (submit_reply_of x s store).result.answer)
    unfolding submit_reply_of
    submit_reply_tabled = reply_in_lem x s.in_flight

    pub submit_reply_said : (y : Called RequestReport) (left : Store) → after y left ≡ submit_reply_of x s store
        → (after y left ≡ submit_reply_of x s store) × Tabled submit_reply_numbers (report_said y.answer)
    submit_reply_said y left e = said_of Replies _ _ e submit_reply_tabled
