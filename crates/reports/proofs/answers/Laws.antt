-- One law for each way out of the answers: its premises are the facts in hand there. Assumes nothing.
use mathlib.Core.Bool.{Bool, true, false}
use mathlib.Core.Path.{◌≡◌, refl}
use Rattle.chain.proofs.Chain.{takes, passes, through}
use Rattle.models.specs.declared.{OperationError.OperationError}
use Rattle.session.specs.Session.{marked}
use Rattle.session.specs.declared.{Session.Session}
use Rattle.reports.specs.Answers.{is_mild, effect}

-- what a backend's error does
module _ (e : OperationError) (s : Session) (b : Bool) (eb : b ≡ is_mild e.category) where
  pub effect_mild : b ≡ true → s ≡ effect e s
  unfolding effect
  effect_mild t = takes Session _ _ _ _ (through b _ true eb t) refl

  pub effect_marks : (m : Session) → b ≡ false → m ≡ marked s → m ≡ effect e s
  unfolding effect
  effect_marks m t em = passes Session _ _ _ _ (through b _ false eb t) em
