-- A recovery's report names at most 128 requests: no more are affected, and a reply in scope names each once. Assumes nothing.
use Rattle.std.specs.Prelude.{Result, Ok, Err, ⊤}
use Prim.Native.Nat.{ℕ, ◌+◌, ◌≤◌}
use mathlib.Core.Bool.{not}
use mathlib.Core.List.{List, ◌++◌}
use mathlib.Core.Path.{◌≡◌, refl, ap}
use native.Mathlib.Omega.{arith}
use lib.ListN.{length, length-map}
use Rattle.chain.specs.After.{After, after}
use Rattle.chain.proofs.Chain.{if_all, if_by}
use Rattle.rows.specs.Table.{token_in}
use Rattle.rows.specs.declared.{Row.Row}
use Rattle.session.specs.Lent.{Memory}
use Rattle.session.specs.declared.{InFlight.InFlight, Recovery.Recovery, Session.Session}
use Rattle.scope.specs.Affected.{affected_of, tokens_of}
use Rattle.scope.specs.Scope.{in_scope}
use Rattle.scope.proofs.affected.Laws.{affected_most}
use Rattle.scope.proofs.tokens.Laws.{scope_few}
use Rattle.recovery.specs.RecoveryReply.{ReplyLists, is_whole, abort_report, concluded_by, settled_of, done_of, reply_by, reply_sized, reply_in, recovery_reply_of}
use Rattle.recovery.specs.Reports.{many_in}
use Rattle.recovery.specs.declared.{BackendAbort.BackendAbort, Replied.Replied, recovery_reply.Ended.Ended}
use Rattle.models.specs.declared.{OperationError.OperationError, Refusal.Refusal}

abbrev Few : After Replied Memory → Type 0
Few o = many_in o.result.answer ≤ 128

concluded_few : (v : Result ⊤ Refusal) (e : Ended) (n k : ℕ) (places : List ℕ) (rows : List Row) → n + k ≤ 128
    → many_in (concluded_by v e (abort_report e n k) places rows).answer ≤ 128
unfolding concluded_by
concluded_few (Err r) e n k places rows h = omega arith
concluded_few (Ok tt) e n k places rows h = h

module _ (l : ReplyLists) (m : Memory) where
  done_few : (e : Ended) (affected own : List ℕ) → length own ≤ 128 → Few (done_of e affected own l m)
  unfolding done_of settled_of
  done_few e affected own h =
      let whole = is_whole e.outcome in
      if_by Few _ (not (in_scope whole own (l.tokens ++ l.aborted))) _ (λ t. omega arith)
      (λ t. concluded_few _ e (length l.tokens) (length l.aborted) _ _ (scope_few whole own l.tokens l.aborted _ refl t h))

  by_few : (r : Result BackendAbort OperationError) (x : Recovery) (s : Session) → Few (reply_by r x l s m)
  unfolding reply_by
  by_few (Err e) x s = omega arith
  by_few (Ok o) x s =
      let rows = m.store.rows in
      let a = affected_of x.device x.endpoint rows in
      done_few _ a (tokens_of rows a) (omega (arith, length-map a (token_in rows), affected_most x.device x.endpoint rows))

  in_few : (f : InFlight) (r : Result BackendAbort OperationError) (s : Session) → Few (reply_in f r l s m)
  unfolding reply_in reply_sized
  in_few InFlight.Nothing r s = omega arith
  in_few (InFlight.Submission id) r s = omega arith
  in_few (InFlight.Poll id) r s = omega arith
  in_few (InFlight.Recovery x) r s = if_all Few _ _ _ (omega arith) (if_all Few _ _ _ (omega arith) (by_few r x _))

  pub reply_few : (r : Result BackendAbort OperationError) (s : Session) → many_in (recovery_reply_of r l s m).result.answer ≤ 128
  unfolding recovery_reply_of
  reply_few r s = in_few s.in_flight r s

  pub few_told : (r : Result BackendAbort OperationError) (s : Session) (x : Replied) (left : Memory) → after x left ≡ recovery_reply_of r l s m → many_in x.answer ≤ 128
  few_told r s x left e = rw (ap (λ (o : After Replied Memory). many_in o.result.answer) e) (reply_few r s)
