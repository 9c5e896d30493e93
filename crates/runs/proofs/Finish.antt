-- The backend's reply to a poll keeps the session sound. Assumes nothing.
use Rattle.std.specs.Prelude.{Option, Some, None, Result, Ok, Err}
use Prim.Native.Nat.{ℕ, ◌<◌, ◌≤◌}
use mathlib.Core.Bool.{true, false, not, ◌||◌}
use mathlib.Core.List.{List}
use mathlib.Core.Logic.{◌⊎◌, inl, inr}
use mathlib.Core.Path.{◌≡◌, refl, subst}
use borrow.Author.Tests.{not-false, ltb-false}
use lib.ListN.{length}
use Rattle.chain.specs.After.{After}
use Rattle.chain.proofs.Chain.{if_by, or_false}
use Rattle.models.specs.declared.{BackendCompletion.BackendCompletion, OperationError.OperationError, Refusal.Refusal, RequestReport.RequestReport}
use Rattle.standards.specs.Completion.{is_finished}
use Rattle.rows.specs.Store.{Store}
use Rattle.rows.specs.Table.{row_in}
use Rattle.rows.specs.declared.{Row.Row}
use Rattle.rules.specs.Rules.{change_row}
use Rattle.ledger.specs.Apply.{apply_by, changed_at}
use Rattle.checks.specs.Completion.{has_error, code_tested, test_code, test_length, test_completion}
use Rattle.session.specs.Session.{is_initialized, with_flight}
use Rattle.session.specs.Lent.{Memory}
use Rattle.session.specs.declared.{Called.Called, InFlight.InFlight, Session.Session}
use Rattle.reports.specs.Answers.{effect}
use Rattle.polls.specs.PollReply.{poll_reply_at, poll_reply_of, failed_as, invalid_as, judged_test, judged_by, judged, settled}
use Rattle.polls.specs.declared.{poll_reply.Judgement.Judgement}
use Rattle.runs.specs.Completed.{length_in, code_in}
use Rattle.runs.specs.Sound.{FlightReady, Sound}
use Rattle.runs.proofs.Moves.{Moves, Idle, stays, marked_moves, effect_moves, moves_on, marked_idle, effect_idle, marked_apart}
use Rattle.runs.proofs.Rows.{Leads, kept, moved_idle, changed_certain, changed_uncertain}
use Rattle.runs.proofs.Rules.{StepSound, StepCertain, complete_step, fail_step, quiet_step}
use Rattle.runs.proofs.Ids.{at_used}
use Rattle.runs.proofs.Ways.{finish_all}
use Rattle.rules.specs.declared.{Step.Step}
use Rattle.checks.specs.declared.{completion.CompletionFault.CompletionFault, completion.ValidCompletion.ValidCompletion}

-- a valid completion has the length and the code that came; the length is at most the requested one, the code 1 or 13
abbrev PartsSound : Option ℕ → Option ℕ → ℕ → Result ValidCompletion CompletionFault → Type 0
PartsSound long code requested (Ok v) = (v.actual_length ≡ length_in long) × (v.completion_code ≡ code_in code) × (v.actual_length ≤ requested) × (is_finished v.completion_code ≡ true)
PartsSound long code requested (Err CompletionFault.MissingLength) = Unit {0}
PartsSound long code requested (Err CompletionFault.Invalid) = Unit {0}

abbrev pub TestSound : BackendCompletion → ℕ → Result ValidCompletion CompletionFault → Type 0
TestSound c requested t = PartsSound c.actual_length c.completion_code requested t

module _ (c : BackendCompletion) (given requested : ℕ) where
  by_code : (actual : ℕ) → actual ≤ requested → (o : Option ℕ) → PartsSound (Some actual) o requested (code_tested o actual)
  unfolding code_tested
  by_code actual h None = tt
  by_code actual h (Some code) =
      if_by (PartsSound (Some actual) (Some code) requested) _ _ _ (λ e. tt) (λ e. (refl, refl, h, not-false _ e))

  by_length : (o : Option ℕ) → PartsSound o c.completion_code requested (test_length o c given requested)
  unfolding test_length test_code
  by_length None = tt
  by_length (Some actual) =
      if_by P _ _ _ (λ e. tt)
      (λ e. if_by P _ _ _ (λ x. tt) (λ x. by_code actual (ltb-false _ _ (or_false (not c.quiescent || has_error c.error) _ e).1) c.completion_code))
    where
      P : Result ValidCompletion CompletionFault → Type 0
      P = PartsSound (Some actual) c.completion_code requested

  pub test_sound : TestSound c requested (test_completion c given requested)
  unfolding test_completion
  test_sound = by_length c.actual_length

-- a judgement makes no uncertain failure, or leaves no controller Initialized
record JudgedSound (s : Session) (r : Row) (j : Judgement) : Type 0 where
  pub moves : Moves s j.session
  pub idle : Idle j.session
  pub step : StepCertain r (change_row r j.change) ⊎ (StepSound r (change_row r j.change) × (is_initialized j.session.state ≡ false))

module _ (s : Session) (i : Idle s) (r : Row) (c : BackendCompletion) where
  failed_sound : (e : OperationError) → JudgedSound s r (failed_as s r c e)
  unfolding failed_as
  failed_sound e =
      if_by (JudgedSound s r) _ _ _
      (λ q. record { moves = stays s; idle = i; step = inl (quiet_step r e c.completion_code c.quiescent q) })
      (λ q. record {
        moves = marked_moves s;
        idle = marked_idle s i;
        step = inr (fail_step r e c.completion_code c.quiescent, marked_apart s);
      })

  invalid_sound : JudgedSound s r (invalid_as s c)
  unfolding invalid_as
  invalid_sound = record {
    moves = marked_moves s;
    idle = marked_idle s i;
    step = inr (fail_step r _ c.completion_code false, marked_apart s);
  }

  tested_sound : (t : Result ValidCompletion CompletionFault) → TestSound c r.metadata.requested_length t → JudgedSound s r (judged_test t s c)
  unfolding judged_test
  tested_sound (Ok v) h = record { moves = stays s; idle = i; step = inl (complete_step r v.actual_length v.completion_code h.2 h.3) }
  tested_sound (Err CompletionFault.MissingLength) h = invalid_sound
  tested_sound (Err CompletionFault.Invalid) h = invalid_sound

  by_error : (o : Option OperationError) (given : ℕ) → JudgedSound s r (judged_by o s r c given)
  unfolding judged_by
  by_error (Some e) given = failed_sound e
  by_error None given = tested_sound _ (test_sound c given r.metadata.requested_length)

  judged_sound : (given : ℕ) → JudgedSound s r (judged s r c given)
  unfolding judged
  judged_sound given = by_error c.error given

abbrev pub FinishedSound : Session → Store → After (Called RequestReport) Memory → Type 0
FinishedSound s store o = Leads s store o.result.session o.lent.store

-- the row that was polled; the controller is Initialized
module _ {s : Session} (m : Memory) (k : Sound s m.store) (ready : is_initialized s.state ≡ true) (i : ℕ) (h : i < length m.store.rows)
    (u : (row_in m.store.rows i).used ≡ true) (bytes : List ℕ) where
  abbrev idle : Session
  idle = with_flight s InFlight.Nothing

  abbrev row : Row
  row = row_in m.store.rows i

  settled_sound : (n : Result Step Refusal) (j : Judgement) → Moves s j.session → Idle j.session
      → StepCertain row n ⊎ (StepSound row n × (is_initialized j.session.state ≡ false)) → FinishedSound s m.store (settled (apply_by n i m.store) j i bytes idle m.area)
  unfolding settled apply_by
  settled_sound (Err x) j v d c = moved_idle k idle (stays s) refl
  settled_sound (Ok n) j v d (inl c) = changed_certain k i h u n.row c.0 j.session v d c.1
  settled_sound (Ok n) j v d (inr c) = changed_uncertain k i h u n.row c.0 j.session v d ready c.1

  by_reply : (x : Result (Option BackendCompletion) OperationError) → FinishedSound s m.store (poll_reply_at x i bytes idle m)
  unfolding poll_reply_at changed_at
  by_reply (Ok None) = moved_idle k idle (stays s) refl
  by_reply (Err e) = moved_idle k (effect e idle) (moves_on s idle (effect e idle) (stays s) (effect_moves e idle)) (effect_idle e idle refl)
  by_reply (Ok (Some c)) =
      let j = judged idle row c (length bytes) in
      let d = judged_sound idle refl row c (length bytes) in
      settled_sound (change_row row j.change) j (moves_on s idle j.session (stays s) d.moves) d.idle d.step

module _ {s : Session} (m : Memory) (k : Sound s m.store) where
  pub finish_sound : (x : Result (Option BackendCompletion) OperationError) (bytes : List ℕ) → FinishedSound s m.store (poll_reply_of x bytes s m)
  finish_sound x bytes =
      finish_all x bytes s m (FinishedSound s m.store) (kept k) (kept k)
      (λ id own i h e.
      by_reply m k (subst (λ (g : InFlight). FlightReady g s.state) own k.ready) i h (at_used id (row_in m.store.rows i) e) bytes x)
