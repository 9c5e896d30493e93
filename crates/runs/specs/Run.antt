-- Lists of calls, what they leave, and the history: the calls with their answers. Assumes nothing.
use Rattle.std.specs.Prelude.{ℕ, Bool, true, false, not, ◌≡◌, List, [], ◌∷◌, Option, Some, None}
use Rattle.chain.specs.After.{After}
use Rattle.chain.specs.Lists.{is_among}
use Rattle.models.specs.Refusals.{refusal_of}
use Rattle.bus.specs.Tables.{Bus}
use Rattle.session.specs.Lent.{Lent, memory, lent}
use Rattle.calls.specs.Calls.{Call, Open, Place, Move, Acquire, Initialize, Close, Begin, Reply, Change, Read}
use Rattle.calls.specs.Step.{World, world, world_store, step_of, next}
use Rattle.calls.specs.declared.{Answer.Answer, Outcome.Outcome}

-- what a call is handed: the session and the slices that the calls before it left; the session and the rows, with any bus and area;
-- or any others
pub data Handed : Type 0 where
  own : Handed
  rows_only : Bus → List ℕ → Handed
  other : World → Handed

pub record Event : Type 0 where
  pub call : Call
  pub handed : Handed

-- a call that is handed what the calls before it left
abbrev pub calls : Call → Event
calls c = record { call = c; handed = own }

-- the session and the rows, with that bus and that area
abbrev pub beside : Bus → List ℕ → World → World
beside bus area w = world w.session (lent bus (memory (world_store w) area))

abbrev pub given : Handed → World → World
given own w = w
given (rows_only bus area) w = beside bus area w
given (other v) w = v

-- a call's answer, and what it leaves of what it was handed: `step_of`, or another that is tried in its place
abbrev pub Stepping : Type 0
Stepping = Call → World → After Outcome Lent

abbrev pub answer_by : Stepping → World → Event → Answer
answer_by step w e = (step e.call (given e.handed w)).result.answer

-- a call that was handed others leaves ours as they are
abbrev pub world_by : Stepping → Handed → Call → World → World
world_by step own c w = next (step c w)
world_by step (rows_only bus area) c w = next (step c (beside bus area w))
world_by step (other v) c w = w

abbrev pub end_by : Stepping → World → List Event → World
end_by step w [] = w
end_by step w (e ∷ es) = end_by step (world_by step e.handed e.call w) es

-- a call with its answer
pub record Answered : Type 0 where
  pub call : Call
  pub answer : Answer

abbrev pub history_by : Stepping → World → List Event → List Answered
history_by step w [] = []
history_by step w (e ∷ es) =
    record { call = e.call; answer = answer_by step w e } ∷ history_by step (world_by step e.handed e.call w) es

-- by the calls' own step
abbrev pub answer_to : World → Event → Answer
answer_to w e = answer_by step_of w e

abbrev pub left_by : Handed → Call → World → World
left_by h c w = world_by step_of h c w

abbrev pub end_of : World → List Event → World
end_of w es = end_by step_of w es

abbrev pub history_of : World → List Event → List Answered
history_of w es = history_by step_of w es

-- ---- what is assumed of a list

abbrev pub is_opening : Call → Bool
is_opening (Open o) = true
is_opening (Place p) = false
is_opening (Move m) = false
is_opening (Begin b) = false
is_opening (Reply r) = false
is_opening (Change id c) = false
is_opening (Read r) = false

-- there is no second opening; a call that is handed another session or other slices is refused by 3
abbrev pub HandingBy : Stepping → Handed → Call → Type 0
HandingBy step own c = is_opening c ≡ false
HandingBy step (rows_only bus area) c = is_opening c ≡ false
HandingBy step (other v) c = (step c v).result.answer ≡ Answer.Refused (refusal_of 3)

abbrev pub FollowsBy : Stepping → List Event → Type 0
FollowsBy step [] = Unit {0}
FollowsBy step (e ∷ es) = HandingBy step e.handed e.call × FollowsBy step es

abbrev pub Handing : Handed → Call → Type 0
Handing h c = HandingBy step_of h c

abbrev pub Follows : List Event → Type 0
Follows es = FollowsBy step_of es

-- the session number that a call hands over
abbrev pub number_of : Call → Option ℕ
number_of (Open o) = Some o.session
number_of (Place p) = None
number_of (Move (Acquire reply)) = None
number_of (Move (Initialize reply)) = None
number_of (Move (Close fresh reply)) = fresh
number_of (Begin b) = None
number_of (Reply r) = None
number_of (Change id c) = None
number_of (Read r) = None

abbrev pub is_new : Option ℕ → List ℕ → Bool
is_new None seen = true
is_new (Some n) seen = not (is_among n seen)

abbrev pub noted : Option ℕ → List ℕ → List ℕ
noted None seen = seen
noted (Some n) seen = n ∷ seen

-- no session number is handed twice, to the opening or to a close, whatever the call is handed beside it
abbrev pub Fresh : List ℕ → List Event → Type 0
Fresh seen [] = Unit {0}
Fresh seen (e ∷ es) = (is_new (number_of e.call) seen ≡ true) × Fresh (noted (number_of e.call) seen) es
