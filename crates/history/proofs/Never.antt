-- What no list of calls after an opening leads to: a recovery's 44, the ledger's 43 in a recovery's reply, and more affected rows than a
-- recovery's list holds. Assumes nothing.
use Rattle.std.specs.Prelude.{Result, Ok, Err, ⊤}
use Prim.Native.Nat.{ℕ, ◌≤◌}
use mathlib.Core.Bool.{true, false, not, true≢false}
use mathlib.Core.List.{List, [], ◌∷◌, ◌++◌}
use mathlib.Core.Path.{◌≡◌, refl, sym, ap, ◌∙◌}
use lib.Dec.{eqb}
use Rattle.chain.specs.Lists.{count}
use Rattle.chain.specs.After.{After}
use Rattle.models.specs.declared.{DeviceId.DeviceId, OperationError.OperationError, Refusal.Refusal, RequestId.RequestId}
use Rattle.rows.specs.Table.{is_held, row_in}
use Rattle.rows.specs.Store.{Store}
use Rattle.rows.specs.declared.{Row.Row}
use Rattle.session.specs.Session.{with_flight}
use Rattle.session.specs.Lent.{Memory, memory}
use Rattle.session.specs.declared.{InFlight.InFlight, Recovery.Recovery, RecoveryKind.RecoveryKind, Session.Session, lifecycle.Opening.Opening}
use Rattle.scope.specs.Affected.{affected_of}
use Rattle.scope.specs.Scope.{in_scope}
use Rattle.recovery.specs.Recover.{recover_of, begun_as}
use Rattle.recovery.specs.RecoveryReply.{ReplyLists, ended, is_whole, concluded_by, settled_of, recovery_reply_of}
use Rattle.recovery.specs.declared.{AbortReport.AbortReport, Begun.Begun, BackendAbort.BackendAbort, Replied.Replied}
use Rattle.calls.specs.Answers.{of_begin, of_recovery}
use Rattle.calls.specs.Calls.{Open, Begin, Recover, Reply, ToRecovery}
use Rattle.calls.specs.Step.{World, begun_of, replied_of, step_of, world_store, next}
use Rattle.calls.specs.declared.{Answer.Answer}
use Rattle.runs.specs.Run.{Handed, Event, end_of, answer_to, Handing, Follows, Fresh}
use Rattle.runs.specs.Sound.{Sound}
use Rattle.runs.proofs.Ids.{at_used}
use Rattle.runs.proofs.Handings.{by_handed}
use Rattle.runs.proofs.Rows.{full}
use Rattle.runs.proofs.Ways.{begin_all, recovery_all}
use Rattle.runs.proofs.Run.{sound_open, sound_run}
use Rattle.runs.proofs.Affected.{all_of, affected_all, own_tokens, place_meant}
use Rattle.history.specs.Journal.{Entry, blank, refusal_number, ends_by}
use Rattle.history.specs.Claim.{starts, returns}
use Rattle.history.proofs.Led.{Led}
use Rattle.history.proofs.Walks.{LateBy}
use Rattle.history.proofs.Scoped.{recovered_kept}
use Rattle.history.proofs.Recovery.{late_numbers, late_43}
use Rattle.history.proofs.Theorem.{opened_holds, run_kept}

-- an answer is not the refusal n
abbrev pub Not : ℕ → Answer → Type 0
Not n a = eqb (refusal_number a) n ≡ false

-- ---- 44: a held row is there only while the controller may recover
module _ {s : Session} {store : Store} (k : Sound s store) where
  never_44 : (id : RequestId) (q : RecoveryKind) → Not 44 (of_begin (recover_of id q s store).answer)
  unfolding begun_as
  never_44 id q =
      begin_all id q s store (λ (o : Begun). Not 44 (of_begin o.answer)) (λ n e. e)
      (λ i h e m. absurd (true≢false (ap not (sym m) ∙ full k i h (at_used id (row_in store.rows i) e)))) (λ i h e a m. refl)

-- ---- 43: a token of a reply in scope means a held row until its own entry
module _ (s : Session) (m : Memory) (entries : List Entry) (few : count is_held m.store.rows ≤ 128) (k : Led m.store.rows entries) (l : ReplyLists) where
  -- past 2, 3 and 49 the reply ends its operation, and is not the ledger's 43
  abbrev pub Ends : Replied → Type 0
  Ends o = (ends_by (of_recovery o.answer) ≡ true) × Not 43 (of_recovery o.answer)

  abbrev quiet : Session
  quiet = with_flight s InFlight.Nothing

  concluded : (v : Result ⊤ Refusal) → LateBy v → (y : Recovery) (o : BackendAbort) (report : AbortReport) (places : List ℕ) (rows : List Row) → Ends (concluded_by v (ended quiet y o) report places rows)
  unfolding concluded_by
  concluded (Err r) late y o report places rows =
      let (two, three, lists, error, scope) = late_numbers r.number late in
      (rw (two, three, lists), late_43 r.number late)
  concluded (Ok tt) late y o report places rows = (refl, refl)

  pub settled_ends : (y : Recovery) (o : BackendAbort) → in_scope (is_whole o) (own_tokens y.device y.endpoint m.store.rows) (l.tokens ++ l.aborted) ≡ true
      → Ends (settled_of (ended quiet y o) (place_meant y.device y.endpoint m.store.rows) l m).result
  unfolding settled_of
  settled_ends y o n = concluded _ (recovered_kept y.device y.endpoint m entries few k (is_whole o) s.size l n).1 y o _ _ _

  never_43 : (r : Result BackendAbort OperationError) → Not 43 (of_recovery (recovery_reply_of r l s m).result.answer)
  never_43 r =
      recovery_all l s m (λ (o : After Replied Memory). Not 43 (of_recovery o.result.answer)) refl refl refl (λ e. refl) refl (λ y own o n. (settled_ends y o n).1) r

-- ---- of lists of calls
module _ (o : Opening) (w : World) (es : List Event) (pass : (step_of (Open o) w).result.answer ≡ Answer.Pass) (follows : Follows es) where
  abbrev start : World
  start = next (step_of (Open o) w)

  abbrev at : World
  at = end_of start es

  pub start_44 : (q : RecoveryKind) (id : RequestId) (h : Handed) → Handing h (Begin (Recover id q)) → Not 44 (answer_to at (starts q id h))
  unfolding step_of begun_of
  start_44 q id h f =
      by_handed h (Begin (Recover id q)) at (λ a v. Not 44 a) f (λ first bus area. never_44 (sound_run o w es pass follows) id q) refl

  -- the affected rows are all of them, with no bound on their number
  pub all_affected : (d : DeviceId) (endpoint : ℕ) → affected_of d endpoint (world_store at).rows ≡ all_of d endpoint (world_store at).rows
  all_affected d endpoint = affected_all d endpoint (world_store at).rows (sound_run o w es pass follows).held

  pub reply_43 : Fresh (o.session ∷ []) es → (r : Result BackendAbort OperationError) (l : ReplyLists) (h : Handed) → Handing h (Reply (ToRecovery r l)) → Not 43 (answer_to at (returns r l h))
  unfolding step_of replied_of
  reply_43 fresh r l h f =
      by_handed h (Reply (ToRecovery r l)) at (λ a v. Not 43 a) f
      (λ first bus area. never_43 at.session (memory (world_store at) area) _ (sound_run o w es pass follows).held
      (run_kept es start blank (o.session ∷ []) (sound_open o w pass) (opened_holds o w pass) follows fresh).1.led l r)
      refl
