-- Every number that a recovery's start and its reply refuse by is in their list. Assumes nothing.
use Rattle.std.specs.Prelude.{Option, Some, None, Result, Ok, Err, ⊤}
use Prim.Native.Nat.{ℕ}
use mathlib.Core.List.{List, [], ◌∷◌}
use mathlib.Core.Path.{◌≡◌, refl}
use lib.ListN.{length, get_or, take, drop}
use Rattle.chain.specs.After.{After, after}
use Rattle.chain.specs.Lists.{found_in}
use Rattle.chain.proofs.Chain.{if_all}
use Rattle.models.specs.Said.{Tabled, verdict_said}
use Rattle.models.specs.declared.{BackendCompletion.BackendCompletion, OperationError.OperationError, Refusal.Refusal, RequestId.RequestId, RequestReport.RequestReport}
use Rattle.models.proofs.Said.{tabled_says, tabled_own, tabled_backend, tabled_code, tabled_in, said_of}
use Rattle.rows.specs.Store.{Store}
use Rattle.rows.specs.Table.{empty_row}
use Rattle.rows.specs.declared.{Row.Row}
use Rattle.rules.specs.declared.{Change.Change}
use Rattle.ledger.specs.Apply.{changed_at}
use Rattle.ledger.specs.Said.{applied_said}
use Rattle.ledger.proofs.Said.{change_tabled_at}
use Rattle.ledger.specs.Search.{is_at}
use Rattle.checks.specs.Completion.{test_completion}
use Rattle.session.specs.Lent.{Memory}
use Rattle.session.specs.declared.{InFlight.InFlight, Recovery.Recovery, RecoveryKind.RecoveryKind, Session.Session, Size.Size}
use Rattle.session.proofs.Said.{guarded_all}
use Rattle.scope.specs.Returned.{Returned, read_returned}
use Rattle.recovery.specs.Entries.{row_completed_by, tested_by, complete_one, aborted_by, abort_one, onward_by, complete_all, abort_all, aborts_in}
use Rattle.recovery.specs.Recover.{begun_as, begin_row, recover_by, recover_of}
use Rattle.recovery.specs.RecoveryReply.{ReplyLists, apply_all, concluded_by, settled_of, done_of, reply_by, reply_sized, reply_in, recovery_reply_of}
use Rattle.recovery.specs.Said.{begin_said, recovery_said, recover_numbers, entry_numbers, recovery_reply_numbers}
use Rattle.recovery.specs.declared.{AbortReport.AbortReport, BackendAbort.BackendAbort, Begun.Begun, Replied.Replied, recovery_reply.Ended.Ended}
use Rattle.checks.specs.declared.{completion.CompletionFault.CompletionFault, completion.ValidCompletion.ValidCompletion}

-- ---- the start
abbrev Begins : Begun → Type 0
Begins x = Tabled recover_numbers (begin_said x.answer)

row_tabled : (id : RequestId) (kind : RecoveryKind) (r : Row) (s : Session) (rows : List Row) → Begins (begin_row id kind r s rows)
unfolding begin_row begun_as
row_tabled id kind r s rows = if_all Begins _ _ _ (tabled_own _ 43 refl) (if_all Begins _ _ _ (tabled_own _ 44 refl) (tabled_says _ _))

recover_by_lem : (f : Option ℕ) (id : RequestId) (kind : RecoveryKind) (s : Session) (rows : List Row) → Begins (recover_by f id kind s rows)
unfolding recover_by
recover_by_lem None id kind s rows = tabled_own _ 40 refl
recover_by_lem (Some i) id kind s rows = row_tabled id kind _ s rows

module _ (id : RequestId) (kind : RecoveryKind) (s : Session) (store : Store) where
  pub recover_tabled : Tabled recover_numbers (begin_said (recover_of id kind s store).answer)
  unfolding recover_of
  recover_tabled =
      guarded_all Begins s _ _ _ (tabled_own _ 1 refl) (tabled_own _ 3 refl) (recover_by_lem (found_in (is_at id) store.rows) id kind s store.rows)

  pub recover_said : (x : Begun) → x ≡ recover_of id kind s store → (x ≡ recover_of id kind s store) × Tabled recover_numbers (begin_said x.answer)
  recover_said x e = said_of Begins _ _ e recover_tabled

-- ---- an entry
abbrev Enters : {L : Type 0} → After (Result ⊤ Refusal) L → Type 0
Enters o = Tabled entry_numbers (verdict_said o.result)

completed_by : (a : Result RequestReport Refusal) (left : Store) → Tabled (41 ∷ []) (applied_said a) → (z : Size) (i : ℕ) (bytes area : List ℕ) → Enters (row_completed_by (after a left) z i bytes area)
unfolding row_completed_by
completed_by (Err r) left h z i bytes area = tabled_in entry_numbers (41 ∷ []) refl _ h
completed_by (Ok x) left h z i bytes area = tabled_says _ _

tested_by_lem : (t : Result ValidCompletion CompletionFault) (code : Option ℕ) (z : Size) (i : ℕ) (bytes : List ℕ) (m : Memory) → Enters (tested_by t code z i bytes m)
unfolding tested_by
tested_by_lem (Err CompletionFault.MissingLength) code z i bytes m = tabled_own _ 47 refl
tested_by_lem (Err CompletionFault.Invalid) code z i bytes m = tabled_code _ code refl
tested_by_lem (Ok v) code z i bytes m =
    let o = changed_at i (Change.Complete v.actual_length v.completion_code) m.store in
    completed_by o.result o.lent (change_tabled_at (Change.Complete v.actual_length v.completion_code) m.store i) z i bytes m.area

one_tabled : (z : Size) (i : ℕ) (c : BackendCompletion) (bytes : List ℕ) (m : Memory) → Enters (complete_one z i c bytes m)
unfolding complete_one
one_tabled z i c bytes m = tested_by_lem (test_completion c (length bytes) (get_or m.store.rows i empty_row).metadata.requested_length) _ z i bytes m

aborted_by_lem : (a : Result RequestReport Refusal) (left : Store) → Tabled (43 ∷ []) (applied_said a) → Enters (aborted_by (after a left))
unfolding aborted_by
aborted_by_lem (Err r) left h = tabled_in entry_numbers (43 ∷ []) refl _ h
aborted_by_lem (Ok x) left h = tabled_says _ _

abort_tabled : (i : ℕ) (store : Store) → Enters (abort_one i store)
unfolding abort_one
abort_tabled i store =
    let o = changed_at i Change.ConfirmAbort store in aborted_by_lem o.result o.lent (change_tabled_at Change.ConfirmAbort store i)

-- ---- all of them
onward : {L : Type 0} (v : Result ⊤ Refusal) (o : After (Result ⊤ Refusal) L) (next : L → After (Result ⊤ Refusal) L) → Enters o → ((l : L) → Enters (next l)) → Enters (onward_by v o next)
onward (Err r) o next h k = h
onward (Ok tt) o next h k = k o.lent

module _ (place : ℕ → ℕ) where
  completions_tabled : (z : Size) (es : List Returned) (bytes : List ℕ) (m : Memory) → Enters (complete_all z place es bytes m)
  completions_tabled z [] bytes m = tabled_says _ _
  completions_tabled z (e ∷ es) bytes m =
      let one : After (Result ⊤ Refusal) Memory = complete_one z (place e.token) e.brought.completion (take e.brought.given bytes) m in
      onward one.result one _ (one_tabled z (place e.token) _ _ m) (λ left. completions_tabled z es (drop e.brought.given bytes) left)

  aborts_tabled : (ts : List ℕ) (store : Store) → Enters (abort_all place ts store)
  aborts_tabled [] store = tabled_says _ _
  aborts_tabled (t ∷ ts) store = onward (abort_one (place t) store).result (abort_one (place t) store) _ (abort_tabled (place t) store) (λ left. aborts_tabled ts left)

pub entries_tabled : (z : Size) (place : ℕ → ℕ) (l : ReplyLists) (m : Memory) → Enters (apply_all z place l m)
unfolding apply_all
entries_tabled z place l m =
    let es : List Returned = read_returned l.tokens l.completions in
    let done : After (Result ⊤ Refusal) Memory = complete_all z place es l.bytes m in
    onward done.result done (aborts_in place l.aborted) (completions_tabled place z es l.bytes m) (λ left. aborts_tabled place l.aborted left.store)

-- ---- the reply
abbrev Replies : After Replied Memory → Type 0
Replies o = Tabled recovery_reply_numbers (recovery_said o.result.answer)

concluded_by_lem : (v : Result ⊤ Refusal) → Tabled entry_numbers (verdict_said v) → (e : Ended) (x : AbortReport) (places : List ℕ) (rows : List Row)
    → Tabled recovery_reply_numbers (recovery_said (concluded_by v e x places rows).answer)
unfolding concluded_by
concluded_by_lem (Err r) h e x places rows = tabled_in recovery_reply_numbers entry_numbers refl _ h
concluded_by_lem (Ok tt) h e x places rows = tabled_says _ _

settled_tabled : (e : Ended) (place : ℕ → ℕ) (l : ReplyLists) (m : Memory) → Replies (settled_of e place l m)
unfolding settled_of
settled_tabled e place l m = concluded_by_lem (apply_all e.idle.size place l m).result (entries_tabled e.idle.size place l m) e _ _ _

done_tabled : (e : Ended) (affected own : List ℕ) (l : ReplyLists) (m : Memory) → Replies (done_of e affected own l m)
unfolding done_of
done_tabled e affected own l m = if_all Replies _ _ _ (tabled_own _ 46 refl) (settled_tabled e _ l m)

reply_by_lem : (r : Result BackendAbort OperationError) (x : Recovery) (l : ReplyLists) (idle : Session) (m : Memory) → Replies (reply_by r x l idle m)
unfolding reply_by
reply_by_lem (Err e) x l idle m = tabled_backend _ 45 e refl refl
reply_by_lem (Ok o) x l idle m = done_tabled _ _ _ l m

module _ (r : Result BackendAbort OperationError) (l : ReplyLists) (s : Session) (m : Memory) where
  reply_in_lem : (f : InFlight) → Replies (reply_in f r l s m)
  unfolding reply_in reply_sized
  reply_in_lem InFlight.Nothing = tabled_own _ 2 refl
  reply_in_lem (InFlight.Submission id) = tabled_own _ 2 refl
  reply_in_lem (InFlight.Poll id) = tabled_own _ 2 refl
  reply_in_lem (InFlight.Recovery x) = if_all Replies _ _ _ (tabled_own _ 3 refl) (if_all Replies _ _ _ (tabled_own _ 49 refl) (reply_by_lem r x l _ m))

  pub recovery_reply_tabled : Tabled recovery_reply_numbers (recovery_said (recovery_reply_of r l s m).result.answer)
  unfolding recovery_reply_of
  recovery_reply_tabled = reply_in_lem s.in_flight

  pub recovery_reply_said : (x : Replied) (left : Memory) → after x left ≡ recovery_reply_of r l s m
      → (after x left ≡ recovery_reply_of r l s m) × Tabled recovery_reply_numbers (recovery_said x.answer)
  recovery_reply_said x left e = said_of Replies _ _ e recovery_reply_tabled
