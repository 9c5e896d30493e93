-- Every number that the rules of a row refuse by is in their lists. Assumes nothing.
use Rattle.std.specs.Prelude.{Result}
use Prim.Native.Nat.{ℕ}
use mathlib.Core.Bool.{true}
use mathlib.Core.List.{List, [], ◌∷◌}
use mathlib.Core.Path.{◌≡◌, refl}
use Rattle.chain.specs.Lists.{is_among}
use Rattle.chain.proofs.Chain.{if_all}
use Rattle.models.specs.Said.{Tabled}
use Rattle.models.specs.declared.{Refusal.Refusal, RequestState.RequestState}
use Rattle.models.specs.declared.RequestState.TheVariants.{Pending, Completed, Failed, Aborted}
use Rattle.models.proofs.Said.{tabled_says, tabled_own, said_of}
use Rattle.rows.specs.declared.{Row.Row}
use Rattle.rules.specs.Rules.{spend_sequence, moved, freed, accepted, while_pending, logical_cancel, cancel_withdrawn, time_out, completed, failed, abort_confirmed, reclaimed, change_row}
use Rattle.rules.specs.Said.{step_said, spent_said, spend_numbers, change_numbers}
use Rattle.rules.specs.declared.{Change.Change, Step.Step}

spend_tabled : (next : ℕ) → Tabled spend_numbers (spent_said (spend_sequence next))
unfolding spend_sequence
spend_tabled next = if_all (λ (x : Result ℕ Refusal). Tabled spend_numbers (spent_said x)) _ _ _ (tabled_own _ 39 refl) (tabled_says _ _)

pending_tabled : (ns : List ℕ) → is_among 41 ns ≡ true → (s : RequestState) (next : Result Step Refusal) → Tabled ns (step_said next) → Tabled ns (step_said (while_pending s next))
unfolding while_pending
pending_tabled ns e (Pending cancel late) next h = h
pending_tabled ns e (Completed actual code cancel) next h = tabled_own ns 41 e
pending_tabled ns e (Failed error code quiescent) next h = tabled_own ns 41 e
pending_tabled ns e Aborted next h = tabled_own ns 41 e

pub change_tabled : (r : Row) (c : Change) → Tabled (change_numbers c) (step_said (change_row r c))
unfolding change_row accepted moved freed logical_cancel cancel_withdrawn time_out completed failed abort_confirmed reclaimed
change_tabled r (Change.Accept token) = tabled_says _ _
change_tabled r Change.Discard = tabled_says _ _
change_tabled r Change.LogicalCancel = pending_tabled (41 ∷ []) refl r.state _ (tabled_says _ _)
change_tabled r Change.Timeout = pending_tabled (41 ∷ []) refl r.state _ (tabled_says _ _)
change_tabled r (Change.Complete actual code) = pending_tabled (41 ∷ []) refl r.state _ (tabled_says _ _)
change_tabled r (Change.Fail error code quiescent) = pending_tabled (41 ∷ []) refl r.state _ (tabled_says _ _)
change_tabled r Change.ConfirmAbort = if_all (λ (x : Result Step Refusal). Tabled (43 ∷ []) (step_said x)) _ _ _ (tabled_own _ 43 refl) (tabled_says _ _)
change_tabled r Change.Reclaim = if_all (λ (x : Result Step Refusal). Tabled (42 ∷ []) (step_said x)) _ _ _ (tabled_own _ 42 refl) (tabled_says _ _)
change_tabled r Change.WithdrawCancel =
    pending_tabled (41 ∷ 59 ∷ []) refl r.state _
    (if_all (λ (x : Result Step Refusal). Tabled (41 ∷ 59 ∷ []) (step_said x)) _ _ _ (tabled_own _ 59 refl) (tabled_says _ _))

pub spend_said : (next : ℕ) (x : Result ℕ Refusal) → x ≡ spend_sequence next → (x ≡ spend_sequence next) × Tabled spend_numbers (spent_said x)
spend_said next x e = said_of (λ (y : Result ℕ Refusal). Tabled spend_numbers (spent_said y)) _ _ e (spend_tabled next)

pub change_said : (r : Row) (c : Change) (x : Result Step Refusal) → x ≡ change_row r c → (x ≡ change_row r c) × Tabled (change_numbers c) (step_said x)
change_said r c x e = said_of (λ (y : Result Step Refusal). Tabled (change_numbers c) (step_said y)) _ _ e (change_tabled r c)
