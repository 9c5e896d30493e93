-- A wanted reading at a submission: it is refused by 33 with this reading's error; where none is wanted, readings that were not taken do not matter.
-- Assumes nothing.
use Rattle.std.specs.Prelude.{Option, Some, None, Result, Ok, Err, ⊤}
use Prim.Native.Nat.{ℕ}
use mathlib.Core.List.{List}
use mathlib.Core.Path.{◌≡◌, refl, ap}
use lib.ListN.{length}
use Rattle.chain.specs.After.{After}
use Rattle.models.specs.Refusals.{from_backend}
use Rattle.models.specs.declared.{ControlPlan.ControlPlan, OperationError.OperationError, Refusal.Refusal, RequestMetadata.RequestMetadata}
use Rattle.bus.specs.Tables.{Bus, bus_of}
use Rattle.checks.specs.declared.{plan.ValidatedControlPlan.ValidatedControlPlan}
use Rattle.targets.specs.Target.{check_target}
use Rattle.targets.specs.declared.{Readings.Readings, wants.Wanted.Wanted}
use Rattle.session.specs.Lent.{Memory, Lent, lent}
use Rattle.session.specs.Session.{is_initialized}
use Rattle.session.specs.declared.{Called.Called, Session.Session}
use Rattle.submissions.specs.Admit.{admit_of, admit_plan_of}
use Rattle.submissions.specs.Begin.{Draft, draft, target_by, target_of}
use Rattle.submissions.specs.Plan.{both, plan_started, planned_to, plan_target, submit_plan_by, submit_plan_of}
use Rattle.submissions.specs.Submit.{Request, request, submitted_by, submitted_to, submit_target, submit_by, submit_of}
use Rattle.submissions.specs.Wants.{target_wants, wants_by, submit_wants, plan_wants_by, plan_wants}
use Rattle.questions.specs.Wants.{Fails, Means}
use Rattle.questions.proofs.Target.{RefusedBy, target_told}
use Rattle.submissions.specs.declared.{PlanSubmission.PlanSubmission, Submission.Submission, admit.Admitted.Admitted, admit.AdmittedPlan.AdmittedPlan, begin.Start.Start}

-- what is said of the checks is said of what follows them, f
failed : {A B : Type 0} (P : OperationError → A → Type 0) (Q : OperationError → B → Type 0) (f : A → B) (r : Result ℕ OperationError) (a : A)
    → ((e : OperationError) → P e a → Q e (f a)) → Fails P r a → Fails Q r (f a)
failed P Q f (Err e) a k t = k e t
failed P Q f (Ok raw) a k t = t

carried : {A B : Type 0} (P : OperationError → A → Type 0) (Q : OperationError → B → Type 0) (f : A → B) (w : Option Wanted) (x y : Readings) (a c : A)
    → ((e : OperationError) → P e a → Q e (f a)) → Means P w x y a c → Means Q w x y (f a) (f c)
carried P Q f None x y a c k t = λ u v. ap f (t u v)
carried P Q f (Some (Wanted.First n)) x y a c k t = failed P Q f x.first a k t
carried P Q f (Some (Wanted.Second n)) x y a c k t = failed P Q f x.second a k t

-- lent: a bus of words, and the rest
module _ (s : Session) (bus : List ℕ) (rest : Memory) where
  abbrev l : Lent
  l = lent (bus_of bus) rest

  module _ (x y : Readings) where
    -- the checks of the device and its endpoint, with what follows them
    follows : {B : Type 0} (Q : OperationError → B → Type 0) (m : RequestMetadata) (f : After (Result ⊤ Refusal) Bus → B)
        → ((e : OperationError) (o : After (Result ⊤ Refusal) Bus) → RefusedBy e o → Q e (f o))
        → Means Q (target_wants m x s l.bus) x y (f (check_target (is_initialized s.state) s.ports m x l.bus)) (f (check_target (is_initialized s.state) s.ports m y l.bus))
    unfolding target_wants
    follows Q m f k =
        let i = is_initialized s.state in
        let o = check_target i s.ports m x l.bus in
        carried RefusedBy Q f (target_wants m x s l.bus) x y o (check_target i s.ports m y l.bus) (λ e. k e o)
        (target_told s.ports m bus x y i)

    abbrev begins : Draft → After (Result ⊤ Refusal) Bus → After (Called Start) Lent
    begins d o = target_by o.result d s (lent o.lent l.memory)

    -- a request
    module _ (packets : List ℕ) (q : Request) where
      abbrev pub SubmitRefused : OperationError → After (Called Submission) Lent → Type 0
      SubmitRefused e o = o.result.answer ≡ Err (from_backend 33 e)

      abbrev by : Readings → Request
      by z = request q.spec q.bytes q.given z

      abbrev Told : Option Wanted → After (Called Submission) Lent → After (Called Submission) Lent → Type 0
      Told w a c = Means SubmitRefused w x y a c

      submit_refused_lem : (d : Draft) (m : RequestMetadata) (e : OperationError) (o : After (Result ⊤ Refusal) Bus) → RefusedBy e o → SubmitRefused e (submitted_to (begins d o) m q.given)
      unfolding target_by submitted_by
      submit_refused_lem d m e o h = ap (λ (v : Result ⊤ Refusal). (submitted_to (target_by v d s (lent o.lent l.memory)) m q.given).result.answer) h

      admitted_told : (a : Result Admitted Refusal) → Told (wants_by a x s l.bus) (submit_by a (by x) s l) (submit_by a (by y) s l)
      unfolding wants_by submit_by submit_target target_of
      admitted_told (Err r) = λ u v. refl
      admitted_told (Ok a) =
          follows SubmitRefused a.metadata (λ o. submitted_to (begins (draft a.place a.metadata q.bytes) o) a.metadata q.given) (submit_refused_lem (draft a.place a.metadata q.bytes) a.metadata)

      pub submit_told : Told (submit_wants packets (by x) s l) (submit_of packets (by x) s l) (submit_of packets (by y) s l)
      unfolding submit_wants submit_of
      submit_told = admitted_told (admit_of packets q.given q.spec (length q.bytes) s l)

  -- a plan: it is control, so the one reading serves
  module _ (first other : Result ℕ OperationError) (q : ControlPlan) (bytes : List ℕ) where
    abbrev pub PlanRefused : OperationError → After (Called PlanSubmission) Lent → Type 0
    PlanRefused e o = o.result.answer ≡ Err (from_backend 33 e)

    abbrev PlanTold : Option Wanted → After (Called PlanSubmission) Lent → After (Called PlanSubmission) Lent → Type 0
    PlanTold w a c = Means PlanRefused w (both first) (both other) a c

    plan_refused_lem : (d : Draft) (v : ValidatedControlPlan) (e : OperationError) (o : After (Result ⊤ Refusal) Bus) → RefusedBy e o
        → PlanRefused e (planned_to (target_by o.result d s (lent o.lent rest)) v)
    unfolding target_by plan_started
    plan_refused_lem d v e o h = ap (λ (t : Result ⊤ Refusal). (planned_to (target_by t d s (lent o.lent rest)) v).result.answer) h

    admitted_plan_told : (a : Result AdmittedPlan Refusal) → PlanTold (plan_wants_by a first s (bus_of bus)) (submit_plan_by a bytes first s l) (submit_plan_by a bytes other s l)
    unfolding plan_wants_by submit_plan_by plan_target target_of
    admitted_plan_told (Err r) = λ u v. refl
    admitted_plan_told (Ok a) =
        let d = draft a.place a.plan.metadata bytes in
        follows (both first) (both other) PlanRefused a.plan.metadata (λ o. planned_to (target_by o.result d s (lent o.lent rest)) a.plan) (plan_refused_lem d a.plan)

    pub plan_told : PlanTold (plan_wants q bytes first s l) (submit_plan_of q bytes first s l) (submit_plan_of q bytes other s l)
    unfolding plan_wants submit_plan_of
    plan_told = admitted_plan_told (admit_plan_of q (length bytes) s l)
