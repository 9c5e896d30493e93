-- One law for each call of a recovery, calls 22 to 24: its premises are the facts in hand there. Assumes nothing.
use Rattle.std.specs.Prelude.{Result}
use Prim.Native.Nat.{ℕ}
use mathlib.Core.Bool.{Bool}
use mathlib.Core.List.{List}
use mathlib.Core.Path.{◌≡◌, ap, ◌∙◌}
use lib.ListN.{get_or}
use Rattle.chain.specs.After.{After, after}
use Rattle.chain.proofs.Chain.{chain}
use Rattle.words.specs.Words.{read_flag}
use Rattle.models.specs.Values.{read_request_id}
use Rattle.models.specs.declared.{OperationError.OperationError, RequestId.RequestId}
use Rattle.rows.specs.Table.{read_rows}
use Rattle.rows.specs.Store.{Store, store_of}
use Rattle.bus.specs.Tables.{Bus}
use Rattle.session.specs.Lent.{Memory, memory, lent}
use Rattle.session.specs.declared.{RecoveryKind.RecoveryKind, Session.Session}
use Rattle.recovery.specs.Recover.{recover_of}
use Rattle.recovery.specs.RecoveryReply.{lists_in, recovery_reply_of}
use Rattle.recovery.specs.declared.{BackendAbort.BackendAbort, BackendLists.BackendLists, Begun.Begun, Replied.Replied}
use Rattle.calls.specs.Answers.{outcome, of_begin, of_recovery}
use Rattle.call_words.specs.Arguments.{read_recovery_reply, read_lists}
use Rattle.calls.specs.Calls.{Recover, ToRecovery, Begin, Reply}
use Rattle.answer_words.specs.Lists.{begun_lists, recovered_lists, lists_of, put_lists}
use Rattle.calls.specs.Step.{World, world, begins, recovers, begun_of, replied_of, step_of}
use Rattle.calls.specs.declared.{Outcome.Outcome}
use Rattle.dispatch.specs.Apply.{ran, run_of}
use Rattle.call_words.specs.Decode.{read_recovering}
use Rattle.dispatch.proofs.Steps.{ran_said}

-- l is lent for lists, and m is what it is afterwards
module _ (s : Session) (store : Store) (area w bytes l m : List ℕ) (r : Outcome) where
  abbrev handed : Bus → World
  handed b = world s (lent b (memory store area))

  -- of the call with number n; `next` is what rows and area are afterwards
  abbrev Runs : ℕ → Memory → Type 0
  Runs n next = (b : Bus) → ran (after r (lent b next)) m ≡ run_of (read_recovering n w bytes) (handed b) l

  pub places_run : (w₁ area₁ : List ℕ) (p : Replied) (reply : Result BackendAbort OperationError) (x : BackendLists) → reply ≡ read_recovery_reply w
      → lists_in x ≡ read_lists w bytes
      → after p (memory (store_of w₁) area₁) ≡ recovery_reply_of reply (lists_in x) s (memory store area)
      → m ≡ put_lists (recovered_lists p (read_rows w₁)) l → r ≡ outcome (of_recovery p.answer) p.session → Runs 24 (memory (store_of w₁) area₁)
  unfolding store_of run_of step_of replied_of lists_of read_recovering
  places_run w₁ area₁ p reply x er ex h el eo b =
      let next : Memory = memory (store_of w₁) area₁ in
      let c : Reply (ToRecovery reply (lists_in x)) ≡ Reply (ToRecovery (read_recovery_reply w) (read_lists w bytes)) = rw (er, ex) in
      ran_said (Reply (ToRecovery reply (lists_in x))) (read_recovering 24 w bytes) (handed b) _ l (search (chain, c) depth 20)
      (ap (λ (z : Outcome). ran (after z (lent b next)) m) eo
      ∙ ap (ran (recovers (after p next) (handed b))) el
      ∙ ap (λ (z : After Replied Memory). ran (recovers z (handed b)) (put_lists (recovered_lists z.result z.lent.store.rows) l)) h)

  module _ (n : ℕ) where
    pub replied_run : (next : Memory) → (n ≡ 22 → ⊥) → (n ≡ 23 → ⊥) → Runs 24 next → Runs n next
    unfolding read_recovering
    replied_run next n22 n23 h b = ran_said (read_recovering 24 w bytes) (read_recovering n w bytes) (handed b) _ l (search chain depth 20) (h b)

    module _ (id : RequestId) (x : Begun) (ei : id ≡ read_request_id w 1) (el : m ≡ put_lists (begun_lists x) l)
        (er : r ≡ outcome (of_begin x.answer) x.session) where
      begun : (k : RecoveryKind) → Begin (Recover id k) ≡ read_recovering n w bytes → x ≡ recover_of id k s store → Runs n (memory store area)
      unfolding run_of step_of begun_of lists_of
      begun k e h b =
          ran_said (Begin (Recover id k)) (read_recovering n w bytes) (handed b) _ l e
          (ap (λ (z : Outcome). ran (after z (lent b (memory store area))) m) er
          ∙ ap (ran (begins x (handed b))) el
          ∙ ap (λ (z : Begun). ran (begins z (handed b)) (put_lists (begun_lists z) l)) h)

      pub abort_run : n ≡ 22 → x ≡ recover_of id RecoveryKind.Abort s store → Runs n (memory store area)
      unfolding read_recovering
      abort_run e h = begun RecoveryKind.Abort (search (chain, ap (λ (z : RequestId). Begin (Recover z RecoveryKind.Abort)) ei) depth 20) h

      pub reset_run : (f : ℕ) (preserve : Bool) → (n ≡ 22 → ⊥) → n ≡ 23 → f ≡ get_or w 4 0 → preserve ≡ read_flag f
          → x ≡ recover_of id (RecoveryKind.Reset preserve) s store → Runs n (memory store area)
      unfolding read_recovering
      reset_run f preserve n22 e ef ep h =
          let c : Begin (Recover id (RecoveryKind.Reset preserve)) ≡ Begin (Recover (read_request_id w 1) (RecoveryKind.Reset (read_flag (get_or w 4 0)))) = rw (ei, ep, ef) in
          begun (RecoveryKind.Reset preserve) (search (chain, c) depth 20) h
