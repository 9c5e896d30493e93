-- The start of a call: its verdict leads to what the call's definition says. Assumes nothing.
use Rattle.std.specs.Prelude.{Result, Ok, Err, ⊤}
use Prim.Native.Nat.{ℕ}
use mathlib.Core.Bool.{Bool, true, false, not}
use mathlib.Core.Path.{◌≡◌, refl, sym, ◌∙◌}
use native.Mathlib.Omega.{arith}
use borrow.Author.Tests.{eqb-true}
use Rattle.chain.specs.Chain.{◌if◌else◌}
use Rattle.chain.proofs.Chain.{takes, passes, through}
use Rattle.models.specs.Refusals.{refusal_of, pass}
use Rattle.models.specs.declared.{Refusal.Refusal}
use Rattle.bus.specs.Layout.{bus_words}
use Rattle.session.specs.Session.{is_busy}
use Rattle.session.specs.Sizes.{bus_fits}
use Rattle.session.specs.Start.{guarded, sized_of, ready_of}
use Rattle.session.specs.declared.{Session.Session}

-- the test itself
module _ (s : Session) (fits : Bool) (b : Bool) (eb : b ≡ is_busy s.in_flight) where
  pub ready_busy : (r : Refusal) → b ≡ true → r ≡ refusal_of 1 → Err r ≡ ready_of s fits
  unfolding ready_of guarded
  ready_busy r t e = takes (Result ⊤ Refusal) _ _ _ _ (through b _ true eb t) (rw e)

  module _ (nb : b ≡ false) where
    pub ready_unfit : (r : Refusal) → not fits ≡ true → r ≡ refusal_of 3 → Err r ≡ ready_of s fits
    unfolding ready_of guarded
    ready_unfit r t e = passes (Result ⊤ Refusal) _ _ _ _ (through b _ false eb nb) (takes (Result ⊤ Refusal) _ _ _ _ t (rw e))

    pub ready_pass : not fits ≡ false → (Ok tt) ≡ ready_of s fits
    unfolding ready_of guarded
    ready_pass t = passes (Result ⊤ Refusal) _ _ _ _ (through b _ false eb nb) (passes (Result ⊤ Refusal) _ _ _ _ t refl)

-- a call goes by the verdict
module _ (A : Type 0) (refused : Refusal → A) (done : A) where
  abbrev by : Result ⊤ Refusal → A
  by (Err r) = refused r
  by (Ok tt) = done

  by_tests : (b f : Bool)
      → (refused (refusal_of 1) if b else refused (refusal_of 3) if not f else done) ≡ by (Err (refusal_of 1) if b else Err (refusal_of 3) if not f else (Ok tt))
  unfolding ◌if◌else◌
  by_tests true f = refl
  by_tests false true = refl
  by_tests false false = refl

  sized-by : (f : Bool) → (refused (refusal_of 3) if not f else done) ≡ by (sized_of f)
  unfolding ◌if◌else◌ sized_of
  sized-by true = refl
  sized-by false = refl

  module _ (fits : Bool) (x : A) (v : Result ⊤ Refusal) (ev : v ≡ sized_of fits) where
    pub sized_stop : (r : Refusal) → v ≡ Err r → x ≡ refused r → x ≡ (refused (refusal_of 3) if not fits else done)
    sized_stop r e ex = ex ∙ rw (sized-by fits, ← ev, e)

    pub sized_on : v ≡ (Ok tt) → x ≡ done → x ≡ (refused (refusal_of 3) if not fits else done)
    sized_on e ex = ex ∙ rw (sized-by fits, ← ev, e)

  module _ (s : Session) (fits : Bool) (x : A) (v : Result ⊤ Refusal) (ev : v ≡ ready_of s fits) where
    guarded-by : guarded s fits refused done ≡ by v
    unfolding guarded ready_of
    guarded-by = by_tests (is_busy s.in_flight) fits ∙ rw (← ev)

    pub guard_stop : (r : Refusal) → v ≡ Err r → x ≡ refused r → x ≡ guarded s fits refused done
    guard_stop r e ex = ex ∙ rw (guarded-by, e)

    pub guard_on : v ≡ (Ok tt) → x ≡ done → x ≡ guarded s fits refused done
    guard_on e ex = ex ∙ rw (guarded-by, e)

-- where it passes, the slices have their sizes
fit_by : (b f : Bool) → (Err (refusal_of 1) if b else Err (refusal_of 3) if not f else pass) ≡ pass → f ≡ true
unfolding ◌if◌else◌
fit_by true f e = let z : ◌≡◌ {A = ℕ} 0 1 = cc in absurd (omega arith)
fit_by false true e = refl
fit_by false false e = let z : ◌≡◌ {A = ℕ} 0 1 = cc in absurd (omega arith)

pub sized_fits : (fits : Bool) (v : Result ⊤ Refusal) → v ≡ sized_of fits → v ≡ (Ok tt) → fits ≡ true
unfolding ◌if◌else◌ sized_of
sized_fits true v ev e = refl
sized_fits false v ev e = let z : ◌≡◌ {A = ℕ} 0 1 = cc in absurd (omega arith)

pub ready_sizes : (s : Session) (fits : Bool) (v : Result ⊤ Refusal) → v ≡ ready_of s fits → v ≡ (Ok tt) → fits ≡ true
unfolding ready_of guarded
ready_sizes s fits v ev e = fit_by (is_busy s.in_flight) fits (sym ev ∙ e)

pub bus_fits_lem : (s : Session) (words : ℕ) (v : Result ⊤ Refusal) → v ≡ ready_of s (bus_fits words) → v ≡ (Ok tt) → words ≡ bus_words
bus_fits_lem s words v ev e = eqb-true _ _ (ready_sizes s (bus_fits words) v ev e)
