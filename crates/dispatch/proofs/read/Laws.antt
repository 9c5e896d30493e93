-- One law for each report and question, and for one that was answered: its premises are the facts in hand there. Assumes nothing.
use Rattle.std.specs.Prelude.{Result, Option, option_copied}
use Rattle.std.specs.Bool.{then_some}
use Prim.Native.Nat.{ℕ, ◌<◌, ◌≤◌}
use mathlib.Core.Bool.{Bool, true, false, not, ◌&&◌, true≢false}
use mathlib.Core.List.{List, []}
use mathlib.Core.Path.{◌≡◌, refl, sym, ap, ◌∙◌}
use native.Mathlib.Omega.{arith}
use lib.Dec.{leb, ltb}
use lib.ListN.{length, get_or, drop}
use borrow.Author.Tests.{ltb-true, ltb-false, ne_eqb, le-leb, lt-leb}
use Rattle.chain.specs.After.{After, after}
use Rattle.chain.proofs.Chain.{caseB, takes, passes, chain}
use Rattle.words.specs.Words.{read_flag}
use Rattle.models.specs.declared.{ControlPlan.ControlPlan, OperationError.OperationError, Refusal.Refusal, RequestSpec.RequestSpec}
use Rattle.rows.specs.Store.{Store}
use Rattle.bus.specs.Tables.{Bus}
use Rattle.targets.specs.declared.{wants.Wanted.Wanted}
use Rattle.session.specs.Lent.{Memory, Lent, memory, lent}
use Rattle.session.specs.declared.{Session.Session}
use Rattle.reports.specs.Scan.{report_from}
use Rattle.submissions.specs.Submit.{packets_in, request_in}
use Rattle.submissions.specs.Wants.{submit_wants, plan_wants}
use Rattle.submissions.specs.declared.{NewRequest.NewRequest}
use Rattle.submissions.proofs.Unread.{wants_read}
use Rattle.calls.specs.Calls.{Call, PlanRequest}
use Rattle.calls.specs.Step.{World, world, step_of}
use Rattle.calls.specs.declared.{Outcome.Outcome}
use Rattle.session_words.specs.State.{kept_of, read_session, is_session}
use Rattle.call_words.specs.Arguments.{read_request, read_plan_request}
use Rattle.call_words.specs.Decode.{read_reporting, read_call}
use Rattle.answer_words.specs.Encode.{answer_words, written}
use Rattle.questions.specs.Question.{Question, SessionStatus, ReportFrom, SubmitWants, PlanWants, of_placed, question_of}
use Rattle.questions.specs.declared.{QuestionAnswer.QuestionAnswer}
use Rattle.question_words.specs.Decode.{read_question}
use Rattle.question_words.specs.Encode.{question_words}
use Rattle.question_words.specs.Form.{is_question, is_read}
use Rattle.dispatch.specs.Apply.{Buffers, buffers, run_of, ran_on}
use Rattle.dispatch.specs.Read.{read_words, reading_of}
use Rattle.reports.specs.declared.{PlacedReport.PlacedReport}

-- ---- the questions
pub submit_asked : (s : Session) (l : Lent) (w bytes : List ℕ) (x : Option Wanted) (q : NewRequest) → x ≡ submit_wants (packets_in q) (request_in q) s l
    → request_in q ≡ read_request w bytes → option_copied q.packets ≡ then_some (read_flag (get_or w 26 0)) (drop 27 w)
    → x ≡ submit_wants (drop 27 w) (read_request w bytes) s l
submit_asked s l w bytes x q e eq ep = e ∙ wants_read q (read_request w bytes) (drop 27 w) s l eq ep

asked : (c d : Question) (v : World) (a : QuestionAnswer) → c ≡ d → a ≡ question_of c v → a ≡ question_of d v
asked c d v a e h = h ∙ ap (λ (z : Question). question_of z v) e

module _ (n : ℕ) (s : Session) (b : Bus) (store : Store) (area w bytes : List ℕ) where
  abbrev handed : World
  handed = world s (lent b (memory store area))

  abbrev Answers : QuestionAnswer → Type 0
  Answers a = a ≡ question_of (read_question n w bytes) handed

  pub status_said : n ≡ 25 → Answers (QuestionAnswer.Status s)
  unfolding question_of read_question
  status_said e = asked SessionStatus (read_question n w bytes) handed (QuestionAnswer.Status s) (search chain depth 20) refl

  module _ (n25 : n ≡ 25 → ⊥) where
    pub report_said_lem : (a : QuestionAnswer) (x : Result (Option PlacedReport) Refusal) (place : ℕ) → n ≡ 26 → place ≡ get_or w 1 0 → x ≡ report_from place s store → a ≡ of_placed x → Answers a
    unfolding question_of read_question
    report_said_lem a x place e ep h ea = asked (ReportFrom place) (read_question n w bytes) handed a (search (chain, ap ReportFrom ep) depth 20) (ea ∙ ap of_placed h)

    module _ (n26 : n ≡ 26 → ⊥) (x : Option Wanted) where
      pub submit_said_lem : n ≡ 27 → x ≡ submit_wants (drop 27 w) (read_request w bytes) s (lent b (memory store area)) → Answers (QuestionAnswer.Reading x)
      unfolding question_of read_question
      submit_said_lem e h =
          asked (SubmitWants (drop 27 w) (read_request w bytes)) (read_question n w bytes) handed (QuestionAnswer.Reading x) (search chain depth 20) (ap QuestionAnswer.Reading h)

      pub plan_said_lem : (q : PlanRequest) → (n ≡ 27 → ⊥) → q ≡ read_plan_request w bytes
          → x ≡ plan_wants q.plan q.bytes q.reading s (lent b (memory store area)) → Answers (QuestionAnswer.Reading x)
      unfolding question_of read_question
      plan_said_lem q n27 eq h =
          asked (PlanWants q) (read_question n w bytes) handed (QuestionAnswer.Reading x) (search (chain, ap PlanWants eq) depth 20) (ap QuestionAnswer.Reading h)

-- ---- the answer's words
-- of a number up to 15 the words are neither a report nor a question
low_none : (n : ℕ) (w : List ℕ) → n ≤ 15 → false ≡ is_question n w
unfolding is_question
low_none n w h =
    passes Bool _ _ _ _ (ne_eqb n 25 (λ e. omega (arith, e, h)))
    (passes Bool _ _ _ _ (ne_eqb n 26 (λ e. omega (arith, e, h)))
    (passes Bool _ _ _ _ (ne_eqb n 27 (λ e. omega (arith, e, h))) (passes Bool _ _ _ _ (ne_eqb n 28 (λ e. omega (arith, e, h))) refl)))

high : (w : List ℕ) → is_read w ≡ true → 15 < get_or w 0 0
unfolding is_read
high w h =
    caseB (ltb 15 (get_or w 0 0)) (λ e. ltb-true 15 (get_or w 0 0) e)
    (λ e. let z : false ≡ is_read w =
    passes Bool _ _ _ _ (ap (λ (t : Bool). t && leb (get_or w 0 0) 21) e) (low_none (get_or w 0 0) w (ltb-false 15 (get_or w 0 0) e)) in
    absurd (true≢false (sym h ∙ sym z)))

module _ (call bytes s out left : List ℕ) (n : ℕ) (en : n ≡ get_or call 0 0) where
  pub question_read : (own : Session) (l : Lent) (a : QuestionAnswer) → own ≡ read_session s → 21 < n → a ≡ question_of (read_question n call bytes) (world own l) → left ≡ written (question_words a) out
      → left ≡ written (read_words call bytes (world (read_session s) l)) out
  unfolding read_words
  question_read own l a es h ea e =
      let z = ea ∙ ap (λ (o : Session). question_of (read_question n call bytes) (world o l)) es
      ∙ ap (λ (k : ℕ). question_of (read_question k call bytes) (world (read_session s) l)) en in
      e ∙ ap (λ (c : List ℕ). written c out) (passes (List ℕ) _ _ _ _ (lt-leb (get_or call 0 0) 21 (omega (arith, en, h))) (ap question_words z))

  reported : n ≤ 21 → 15 < n → read_reporting n call ≡ read_call call bytes
  unfolding read_call
  reported h k =
      rw (← en)
      (passes Call _ _ _ _ (lt-leb n 4 (omega (arith, k)))
      (passes Call _ _ _ _ (lt-leb n 7 (omega (arith, k)))
      (passes Call _ _ _ _ (lt-leb n 9 (omega (arith, k)))
      (passes Call _ _ _ _ (lt-leb n 12 (omega (arith, k))) (passes Call _ _ _ _ (lt-leb n 15 (omega (arith, k))) (takes Call _ _ _ _ (le-leb n 21 h) refl))))))

  pub report_read : (b : Bus) (m : Memory) → n ≤ 21 → is_read call ≡ true
      → ((o : Bus) (lists : List ℕ) → buffers (kept_of s) (lent o m) left lists ≡ ran_on (read_reporting n call) (buffers (kept_of s) (lent o m) out lists))
      → left ≡ written (read_words call bytes (world (read_session s) (lent b m))) out
  unfolding read_words run_of kept_of
  report_read b m h k hr =
      let z = ap (λ (c : Call). step_of c (world (read_session s) (lent b m))) (reported h (omega (arith, en, high call k))) in
      ap (λ (x : Buffers). x.out) (hr b [])
      ∙ ap (λ (c : List ℕ). written c out)
      (takes (List ℕ) _ _ _ _ (le-leb (get_or call 0 0) 21 (omega (arith, en, h))) (ap (λ (o : After Outcome Lent). answer_words o.result.answer) z))

-- ---- what was answered
pub read_done : (call bytes s out left : List ℕ) (l : Lent) (t u : Bool) → t ≡ is_read call → not t ≡ false → u ≡ is_session s → not u ≡ false → 32 ≤ length out
    → left ≡ written (read_words call bytes (world (read_session s) l)) out → after {A = ℕ} 0 left ≡ reading_of call bytes (kept_of s) l out
unfolding reading_of kept_of
read_done call bytes s out left l t u et nt eu nu k h =
    let z : after {A = ℕ} 0 left ≡ after {A = ℕ} 0 (written (read_words call bytes (world (read_session s) l)) out) = ap (λ (o : List ℕ). after {A = ℕ} 0 o) h in
    search (chain, z) depth 20
