-- Whatever a call of a list is handed, and the calls before it. Assumes nothing.
use Prim.Native.Nat.{ℕ}
use mathlib.Core.Path.{◌≡◌, refl, sym, ap, subst}
use mathlib.Core.Bool.{false}
use mathlib.Core.List.{List, [], ◌∷◌, ◌++◌}
use Rattle.models.specs.Refusals.{refusal_of}
use Rattle.bus.specs.Tables.{Bus}
use Rattle.calls.specs.Calls.{Call}
use Rattle.calls.specs.Step.{World, step_of, next}
use Rattle.calls.specs.declared.{Answer.Answer}
use Rattle.runs.specs.Run.{Handed, own, other, Event, Answered, left_by, end_of, history_of, answer_to, is_opening, Handing, Follows, number_of, noted, Fresh, beside, rows_only}

-- the session and the rows with some bus and area; or others, and then it is refused by 3 and leaves ours
pub by_handed : (h : Handed) (c : Call) (w : World) (P : Answer → World → Type 0) → Handing h c
    → (is_opening c ≡ false → (bus : Bus) (area : List ℕ) → P (step_of c (beside bus area w)).result.answer (next (step_of c (beside bus area w))))
    → P (Answer.Refused (refusal_of 3)) w → P (answer_to w (record { call = c; handed = h })) (left_by h c w)
by_handed own c w P k ours others = ours k w.lent.bus w.lent.memory.area
by_handed (rows_only bus area) c w P k ours others = ours k bus area
by_handed (other v) c w P k ours others = subst (λ (a : Answer). P a w) (sym k) others

pub follows_at : (before after : List Event) (e : Event) → Follows (before ++ (e ∷ after)) → Handing e.handed e.call
follows_at [] after e f = f.0
follows_at (d ∷ before) after e f = follows_at before after e f.1

pub follows_on : (before after : List Event) (e : Event) → Follows (before ++ (e ∷ after)) → Follows after
follows_on [] after e f = f.1
follows_on (d ∷ before) after e f = follows_on before after e f.1

pub follows_front : (before after : List Event) → Follows (before ++ after) → Follows before
follows_front [] after f = tt
follows_front (e ∷ before) after f = (f.0, follows_front before after f.1)

pub fresh_front : (seen : List ℕ) (before after : List Event) → Fresh seen (before ++ after) → Fresh seen before
fresh_front seen [] after f = tt
fresh_front seen (e ∷ before) after f = (f.0, fresh_front (noted (number_of e.call) seen) before after f.1)

-- ---- lists of calls one after the other

pub end_append : (w : World) (a b : List Event) → end_of w (a ++ b) ≡ end_of (end_of w a) b
end_append w [] b = refl
end_append w (e ∷ a) b = end_append (left_by e.handed e.call w) a b

pub history_append : (w : World) (a b : List Event) → history_of w (a ++ b) ≡ history_of w a ++ history_of (end_of w a) b
history_append w [] b = refl
history_append w (e ∷ a) b =
    ap (λ (hs : List Answered). record { call = e.call; answer = answer_to w e } ∷ hs) (history_append (left_by e.handed e.call w) a b)

pub follows_append : (a b : List Event) → Follows a → Follows b → Follows (a ++ b)
follows_append [] b f g = g
follows_append (e ∷ a) b f g = (f.0, follows_append a b f.1 g)
