-- One law for each change of a request, calls 13 to 15 and 29: its premises are the facts in hand there. Assumes nothing.
use Rattle.std.specs.Prelude.{Result, Ok, Err}
use Prim.Native.Nat.{ℕ}
use mathlib.Core.Bool.{true}
use mathlib.Core.List.{List}
use mathlib.Core.Path.{◌≡◌, refl, sym, ap, ◌∙◌}
use Rattle.chain.specs.After.{After, after}
use Rattle.chain.proofs.Chain.{chain, if_all}
use Rattle.models.specs.Values.{read_request_id}
use Rattle.models.specs.declared.{Refusal.Refusal, RequestId.RequestId, RequestReport.RequestReport}
use Rattle.rows.specs.Store.{Store}
use Rattle.bus.specs.Tables.{Bus}
use Rattle.rules.specs.declared.Change as rules
use Rattle.rules.specs.declared.Change.TheVariants as change
use Rattle.ledger.specs.Apply.{apply_of}
use Rattle.session.specs.Lent.{memory, lent}
use Rattle.session.specs.Start.{guarded}
use Rattle.session.specs.declared.{Called.Called, Session.Session}
use Rattle.reports.specs.Change.{reported_by, change_of}
use Rattle.calls.specs.Answers.{outcome, of_report}
use Rattle.calls.specs.Calls.{Changing, Cancel, Timeout, Reclaim, Withdraw, Change}
use Rattle.session_words.specs.State.{read_session, is_session, kept_of, kept_as}
use Rattle.session_words.proofs.Own.{written_same}
use Rattle.calls.specs.Step.{World, world, reports, change_by, step_of}
use Rattle.calls.specs.declared.{Outcome.Outcome}
use Rattle.call_words.specs.Decode.{read_changing}
use Rattle.answer_words.specs.Lists.{lists_of}
use Rattle.direct.specs.Direct.{reported_told}
use Rattle.dispatch.specs.Apply.{buffers, ran_on}
use Rattle.dispatch.proofs.Steps.{said, ran_kept}

-- a change leaves the session
module _ (s : Session) where
  reported_left : (a : Result RequestReport Refusal) → (reported_by a s).session ≡ s
  unfolding reported_by
  reported_left (Err r) = refl
  reported_left (Ok x) = refl

  abbrev Left : After (Called RequestReport) Store → Type 0
  Left o = o.result.session ≡ s

  change_left : (id : RequestId) (c : rules.Change) (store : Store) → Left (change_of id c s store)
  unfolding change_of guarded
  change_left id c store = if_all Left _ _ _ refl (if_all Left _ _ _ refl (reported_left (apply_of id c store).result))

-- s are the session's words and w the call's
module _ (n : ℕ) (s w out after-out : List ℕ) (store next : Store) (id : RequestId) (own : is_session s ≡ true) (ei : id ≡ read_request_id w 1) where
  abbrev Told : rules.Change → Type 0
  Told c = after after-out next ≡ reported_told (change_of id c (read_session s) store) out

  abbrev Writes : Type 0
  Writes =
      (b : Bus) (area l : List ℕ) → buffers (kept_of s) (lent b (memory next area)) after-out l
      ≡ ran_on (read_changing n w) (buffers (kept_of s) (lent b (memory store area)) out l)

  writes : (c : Changing) → Change (read_request_id w 1) c ≡ read_changing n w → Told (change_by c) → Writes
  unfolding step_of lists_of
  writes c e h b area l =
      let o = change_of id (change_by c) (read_session s) store in
      let x = outcome (of_report o.result.answer) o.result.session in
      ran_kept (Change id c) (read_changing n w) s out after-out l (lent b (memory store area)) (lent b (memory next area)) (kept_of s) x
      (ap (λ (z : RequestId). Change z c) ei ∙ e) refl
      (ap (λ (z : After (List ℕ) Store). after x (lent b (memory z.lent area))) h)
      (sym (ap (kept_as s) (change_left (read_session s) id (change_by c) store) ∙ written_same s own))
      (ap (λ (z : After (List ℕ) Store). z.result) h)

  pub cancel_writes : n ≡ 13 → Told change.LogicalCancel → Writes
  unfolding read_changing
  cancel_writes e = writes Cancel (search chain depth 20)

  module _ (n13 : n ≡ 13 → ⊥) where
    pub timeout_writes : n ≡ 14 → Told change.Timeout → Writes
    unfolding read_changing
    timeout_writes e = writes Timeout (search chain depth 20)

    pub reclaim_writes : (n ≡ 14 → ⊥) → Told change.Reclaim → Writes
    unfolding read_changing
    reclaim_writes n14 = writes Reclaim (search chain depth 20)

-- by value; x is what it answers
module _ (s : Session) (w : List ℕ) (store next : Store) (id : RequestId) (x : Called RequestReport) (r : Outcome) where
  abbrev handed : Bus → List ℕ → World
  handed b area = world s (lent b (memory store area))

  pub withdraw_steps : id ≡ read_request_id w 1 → after x next ≡ change_of id change.WithdrawCancel s store → r ≡ outcome (of_report x.answer) x.session
      → (b : Bus) (area : List ℕ) → after r (lent b (memory next area)) ≡ step_of (Change (read_request_id w 1) Withdraw) (handed b area)
  unfolding step_of
  withdraw_steps ei h er b area =
      said (Change id Withdraw) (Change (read_request_id w 1) Withdraw) (handed b area) _ (ap (λ (z : RequestId). Change z Withdraw) ei)
      (ap (λ (z : Outcome). after z (lent b (memory next area))) er ∙ ap (λ (z : After (Called RequestReport) Store). reports z (handed b area)) h)
