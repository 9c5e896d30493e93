-- What a record says by its words, and what the changes of a Pending row in place leave. Assumes nothing.
use Rattle.std.specs.Prelude.{ℕ, List, ◌∷◌, Bool, true, false, Option}
use Rattle.models.specs.declared.{RequestState.RequestState, SetupPacket.SetupPacket}
use Rattle.models.specs.declared.RequestState.TheVariants.{Pending, Completed, Failed, Aborted}
use Rattle.rows.specs.Codec.{read_row}
use Rattle.rows.specs.Table.{with_state, flagged}
use Rattle.rows.specs.declared.{Row.Row}

-- the SETUP packet and the state of a row with the record w
abbrev pub setup_at : List ℕ → Option SetupPacket
setup_at w = (read_row (0 ∷ 0 ∷ w)).metadata.setup

abbrev pub state_at : ℕ → List ℕ → RequestState
state_at status w = (read_row (0 ∷ status ∷ w)).state

-- the two flags of a Pending state; another has none
abbrev pub cancel_in : RequestState → Bool
cancel_in (Pending cancel late) = cancel
cancel_in (Completed actual code cancel) = false
cancel_in (Failed error code quiescent) = false
cancel_in Aborted = false

abbrev pub late_in : RequestState → Bool
late_in (Pending cancel late) = late
late_in (Completed actual code cancel) = false
late_in (Failed error code quiescent) = false
late_in Aborted = false

-- a flag is set in the state and in the row's own copy
unfoldable pub cancelled : Row → Row
cancelled r = flagged r true (late_in r.state) true r.timed_out

unfoldable pub timed_out : Row → Row
timed_out r = flagged r (cancel_in r.state) true r.logical_cancel true

-- a completion keeps the cancel flag of the state
unfoldable pub completed_row : Row → ℕ → ℕ → Row
completed_row r actual code = with_state r (Completed actual code (cancel_in r.state))
