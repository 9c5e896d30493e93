-- Calls that are each handed what the one before left. Assumes nothing.
use Rattle.std.specs.Prelude.{None}
use Prim.Native.Nat.{ℕ}
use mathlib.Core.Bool.{false}
use mathlib.Core.List.{List, [], ◌∷◌, ◌++◌, map}
use mathlib.Core.Path.{◌≡◌, refl}
use native.Mathlib.Omega.{arith}
use Rattle.chain.specs.After.{After}
use Rattle.session.specs.Lent.{Lent}
use Rattle.calls.specs.Calls.{Call, Open, Place, Move, Begin, Reply, Change, Read}
use Rattle.calls.specs.Step.{World, step_of, next, made_after, made_on}
use Rattle.calls.specs.declared.{Outcome.Outcome}
use Rattle.runs.specs.Run.{calls, end_of, is_opening, Follows, number_of, Fresh}

-- ---- they end where the walk over them does

pub end_after : (cs : List Call) (o : After Outcome Lent) → end_of (next o) (map calls cs) ≡ next (made_after cs o)
end_after [] o = refl
end_after (c ∷ cs) o = end_after cs (step_of c (next o))

pub end_made : (cs : List Call) (w : World) → end_of w (map calls cs) ≡ made_on cs w
end_made [] w = refl
end_made (c ∷ cs) w = end_after cs (step_of c w)

-- ---- calls that hand over no session number

abbrev pub Unnumbered : List Call → Type 0
Unnumbered [] = Unit {0}
Unnumbered (c ∷ cs) = (number_of c ≡ None) × Unnumbered cs

pub unnumbered_append : (cs ds : List Call) → Unnumbered cs → Unnumbered ds → Unnumbered (cs ++ ds)
unnumbered_append [] ds u v = v
unnumbered_append (c ∷ cs) ds u v = (u.0, unnumbered_append cs ds u.1 v)

-- none of them opens
no_opening : (c : Call) → number_of c ≡ None → is_opening c ≡ false
no_opening (Open o) e = let z : ◌≡◌ {A = ℕ} 0 1 = cc in absurd (omega arith)
no_opening (Place p) e = refl
no_opening (Move m) e = refl
no_opening (Begin b) e = refl
no_opening (Reply r) e = refl
no_opening (Change id c) e = refl
no_opening (Read r) e = refl

pub follows_calls : (cs : List Call) → Unnumbered cs → Follows (map calls cs)
follows_calls [] u = tt
follows_calls (c ∷ cs) u = (no_opening c u.0, follows_calls cs u.1)

pub fresh_calls : (seen : List ℕ) (cs : List Call) → Unnumbered cs → Fresh seen (map calls cs)
fresh_calls seen [] u = tt
fresh_calls seen (c ∷ cs) u = rw u.0 (refl, fresh_calls seen cs u.1)
