-- The walk over the entries of a recovery's reply, for whatever is kept on the way. Assumes nothing.
use Rattle.std.specs.Prelude.{Result, Ok, Err, ⊤}
use Prim.Native.Nat.{ℕ}
use mathlib.Core.List.{List, [], ◌∷◌}
use mathlib.Core.Path.{◌≡◌, refl, sym, subst}
use lib.ListN.{take, drop}
use Rattle.chain.specs.After.{After}
use Rattle.rows.specs.Store.{Store}
use Rattle.session.specs.Lent.{Memory, memory}
use Rattle.session.specs.declared.{Size.Size}
use Rattle.scope.specs.Returned.{Returned}
use Rattle.recovery.specs.Entries.{complete_one, onward_by, complete_all, abort_one, abort_all, aborts_in}
use Rattle.recovery.specs.RecoveryReply.{ReplyLists, apply_all}
use Rattle.runs.proofs.Tokens.{returned_in}
use Rattle.models.specs.declared.{Refusal.Refusal}

-- J: the entries that are left, their bytes, and the memory where the walk has come; P: where it ends
module _ (place : ℕ → ℕ) (z : Size) (J : List Returned → List ℕ → List ℕ → Memory → Type 0) (P : Result ⊤ Refusal → Memory → Type 0) where
  -- an entry is refused, and ends it, or passes
  abbrev pub Onward : Result ⊤ Refusal → List Returned → List ℕ → List ℕ → Memory → Type 0
  Onward (Err r) es ts bytes m = P (Err r) m
  Onward (Ok tt) es ts bytes m = J es ts bytes m

  abbrev Onto : After (Result ⊤ Refusal) Memory → List Returned → List ℕ → List ℕ → Type 0
  Onto o es ts bytes = Onward o.result es ts bytes o.lent

  abbrev bytes_left : List Returned → List ℕ → List ℕ
  bytes_left [] bytes = bytes
  bytes_left (e ∷ es) bytes = bytes_left es (drop e.brought.given bytes)

  -- a completion of the row that its token means
  abbrev one : Returned → List ℕ → Memory → After (Result ⊤ Refusal) Memory
  one e bytes m = complete_one z (place e.token) e.brought.completion (take e.brought.given bytes) m

  module _ (done : (bytes : List ℕ) (m : Memory) → J [] [] bytes m → P (Ok tt) m)
      (completes : (e : Returned) (es : List Returned) (ts bytes : List ℕ) (m : Memory) → J (e ∷ es) ts bytes m → Onto (one e bytes m) es ts (drop e.brought.given bytes))
      (aborts : (t : ℕ) (ts bytes : List ℕ) (m : Memory) → J [] (t ∷ ts) bytes m
      → Onward (abort_one (place t) m.store).result [] ts bytes (memory (abort_one (place t) m.store).lent m.area)) where
    completed : (es : List Returned) (ts bytes : List ℕ) (m : Memory) → J es ts bytes m → Onto (complete_all z place es bytes m) [] ts (bytes_left es bytes)
    completed [] ts bytes m k = k
    completed (e ∷ es) ts bytes m k = go _ (one e bytes m) refl (completes e es ts bytes m k) (λ n h. completed es ts (drop e.brought.given bytes) n h)
      where
        left : List ℕ
        left = drop e.brought.given bytes

        go : (v : Result ⊤ Refusal) (o : After (Result ⊤ Refusal) Memory) → o.result ≡ v → Onward v es ts left o.lent
            → ((n : Memory) → J es ts left n → Onto (complete_all z place es left n) [] ts (bytes_left es left))
            → Onto (onward_by v o (λ (n : Memory). complete_all z place es left n)) [] ts (bytes_left es left)
        go (Err r) o ev h rest = subst (λ (v : Result ⊤ Refusal). Onward v [] ts (bytes_left es left) o.lent) (sym ev) h
        go (Ok tt) o ev h rest = rest o.lent h

    abbrev Ends : After (Result ⊤ Refusal) Store → List ℕ → Type 0
    Ends o area = P o.result (memory o.lent area)

    aborted : (ts bytes : List ℕ) (m : Memory) → J [] ts bytes m → Ends (abort_all place ts m.store) m.area
    aborted [] bytes m k = done bytes m k
    aborted (t ∷ ts) bytes m k = go _ (abort_one (place t) m.store) refl (aborts t ts bytes m k) (λ s h. aborted ts bytes (memory s m.area) h)
      where
        go : (v : Result ⊤ Refusal) (o : After (Result ⊤ Refusal) Store) → o.result ≡ v → Onward v [] ts bytes (memory o.lent m.area)
            → ((s : Store) → J [] ts bytes (memory s m.area) → Ends (abort_all place ts s) m.area)
            → Ends (onward_by v o (λ (s : Store). abort_all place ts s)) m.area
        go (Err r) o ev h rest = subst (λ (v : Result ⊤ Refusal). P v (memory o.lent m.area)) (sym ev) h
        go (Ok tt) o ev h rest = rest o.lent h

    module _ (l : ReplyLists) (m : Memory) (k : J (returned_in l) l.aborted l.bytes m) where
      abbrev Ended : After (Result ⊤ Refusal) Memory → Type 0
      Ended o = P o.result o.lent

      by_completed : (v : Result ⊤ Refusal) (o : After (Result ⊤ Refusal) Memory) → o.result ≡ v → (bytes : List ℕ) → Onward v [] l.aborted bytes o.lent
          → Ended (onward_by v o (aborts_in place l.aborted))
      by_completed (Err r) o ev bytes h = subst (λ (v : Result ⊤ Refusal). P v o.lent) (sym ev) h
      by_completed (Ok tt) o ev bytes h = aborted l.aborted bytes o.lent h

      pub entries_all : Ended (apply_all z place l m)
      unfolding apply_all
      entries_all =
          by_completed _ (complete_all z place (returned_in l) l.bytes m) refl _ (completed (returned_in l) l.aborted l.bytes m k)
