-- Calls one after another. Assumes nothing.
use mathlib.Core.List.{List, [], ◌∷◌, ◌++◌}
use mathlib.Core.Path.{◌≡◌, refl, sym, ap, ◌∙◌}
use Rattle.chain.specs.After.{After}
use Rattle.session.specs.Lent.{Lent}
use Rattle.calls.specs.Calls.{Call}
use Rattle.calls.specs.Step.{World, step_of, next, made_after, made_on}
use Rattle.calls.specs.declared.{Outcome.Outcome}

-- calls after an outcome start with what it leaves
pub made_next : (cs : List Call) (o : After Outcome Lent) → next (made_after cs o) ≡ made_on cs (next o)
made_next [] o = refl
made_next (c ∷ cs) o = refl

-- calls in two parts
pub made_append : (cs ds : List Call) (w : World) → made_on (cs ++ ds) w ≡ made_on ds (made_on cs w)
made_append [] ds w = refl
made_append (c ∷ cs) ds w =
    made_next (cs ++ ds) (step_of c w) ∙ made_append cs ds (next (step_of c w)) ∙ ap (made_on ds) (sym (made_next cs (step_of c w)))
