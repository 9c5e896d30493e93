-- The entries of a reply, applied one after the other (document 01, "Abort report"; 47, 48 and 41 of its table). Assumes nothing.
use Rattle.std.specs.Prelude.{ℕ, List, [], ◌∷◌, length, get_or, take, drop, Option, Result, Ok, Err, ⊤}
use Rattle.chain.specs.After.{After, after}
use Rattle.models.specs.Refusals.{refusal_of, invalid_completion}
use Rattle.models.specs.declared.{BackendCompletion.BackendCompletion, Refusal.Refusal, RequestReport.RequestReport}
use Rattle.rows.specs.Table.{empty_row}
use Rattle.rows.specs.Store.{Store}
use Rattle.rules.specs.declared.{Change.Change}
use Rattle.ledger.specs.Apply.{changed_at}
use Rattle.checks.specs.Completion.{test_completion}
use Rattle.session.specs.Lent.{Memory, memory}
use Rattle.session.specs.Sizes.{data_at}
use Rattle.session.specs.declared.{Size.Size}
use Rattle.scope.specs.Returned.{Returned}
use Rattle.checks.specs.declared.{completion.CompletionFault.CompletionFault, completion.ValidCompletion.ValidCompletion}

-- ---- a completion of row i

-- the row took the change, refused by 41 if it is Failed
unfoldable pub row_completed_by : After (Result RequestReport Refusal) Store → Size → ℕ → List ℕ → List ℕ → After (Result ⊤ Refusal) Memory
row_completed_by o z i bytes area =
    elim o.result [
      | Err r ↦ after (Err r) (memory o.lent area)
      | Ok x ↦ after (Ok tt) (memory o.lent (data_at z i bytes area))
    ]

-- refused by 47 if the completion has no length, by 48 with its code if it is not valid
unfoldable pub tested_by : Result ValidCompletion CompletionFault → Option ℕ → Size → ℕ → List ℕ → Memory → After (Result ⊤ Refusal) Memory
tested_by (Err CompletionFault.MissingLength) code z i bytes m = after (Err (refusal_of 47)) m
tested_by (Err CompletionFault.Invalid) code z i bytes m = after (Err (invalid_completion code)) m
tested_by (Ok v) code z i bytes m =
    row_completed_by (changed_at i (Change.Complete v.actual_length v.completion_code) m.store) z i bytes m.area

unfoldable pub complete_one : Size → ℕ → BackendCompletion → List ℕ → Memory → After (Result ⊤ Refusal) Memory
complete_one z i c bytes m =
    tested_by (test_completion c (length bytes) (get_or m.store.rows i empty_row).metadata.requested_length) c.completion_code z i bytes m

-- ---- an abort of row i; one that is not held, which no call leads to, is the ledger's 43

unfoldable pub aborted_by : After (Result RequestReport Refusal) Store → After (Result ⊤ Refusal) Store
aborted_by o =
    elim o.result [
      | Err r ↦ after (Err r) o.lent
      | Ok x ↦ after (Ok tt) o.lent
    ]

unfoldable pub abort_one : ℕ → Store → After (Result ⊤ Refusal) Store
abort_one i store = aborted_by (changed_at i Change.ConfirmAbort store)

-- ---- all of them

-- what follows an entry: nothing, where it is refused
abbrev pub onward_by : {L : Type 0} → Result ⊤ Refusal → After (Result ⊤ Refusal) L → (L → After (Result ⊤ Refusal) L) → After (Result ⊤ Refusal) L
onward_by (Err r) o next = o
onward_by (Ok tt) o next = next o.lent

-- what a place means, where the places of rows stand for their tokens
abbrev pub itself : ℕ → ℕ
itself i = i

-- completions in order, each with the next bytes of the data area; `place` says which row a token means
abbrev pub complete_all : Size → (ℕ → ℕ) → List Returned → List ℕ → Memory → After (Result ⊤ Refusal) Memory
complete_all z place [] bytes m = after (Ok tt) m
complete_all z place (e ∷ es) bytes m =
    let one = complete_one z (place e.token) e.brought.completion (take e.brought.given bytes) m in
    onward_by one.result one (λ (left : Memory). complete_all z place es (drop e.brought.given bytes) left)

abbrev pub abort_all : (ℕ → ℕ) → List ℕ → Store → After (Result ⊤ Refusal) Store
abort_all place [] store = after (Ok tt) store
abort_all place (t ∷ ts) store = onward_by (abort_one (place t) store).result (abort_one (place t) store) (λ (left : Store). abort_all place ts left)

-- the aborts leave the area as it is
abbrev pub aborts_in : (ℕ → ℕ) → List ℕ → Memory → After (Result ⊤ Refusal) Memory
aborts_in place tokens m = after (abort_all place tokens m.store).result (memory (abort_all place tokens m.store).lent m.area)
