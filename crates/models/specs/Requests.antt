-- How many requests may be held, the tests on a request's state, and ids. Assumes nothing.
use Rattle.std.specs.Prelude.{ℕ, Bool, true, false, not, ◌&&◌, eqb, ltb}
use Rattle.chain.specs.Chain.{◌if◌else◌}
use Rattle.models.specs.declared.{DeviceId.DeviceId, RequestId.RequestId, RequestState.RequestState}
use Rattle.models.specs.declared.RequestState.TheVariants.{Pending, Completed, Failed, Aborted}

-- so many requests are held at most, and a list of requests has so many places
abbrev pub held_most : ℕ
held_most = 128

-- document 01's "held": Pending, or Failed and not quiescent
abbrev pub device_may_access : RequestState → Bool
device_may_access (Pending cancel late) = true
device_may_access (Completed actual code cancel) = false
device_may_access (Failed error code quiescent) = not quiescent
device_may_access Aborted = false

abbrev pub is_pending : RequestState → Bool
is_pending (Pending cancel late) = true
is_pending (Completed actual code cancel) = false
is_pending (Failed error code quiescent) = false
is_pending Aborted = false

-- Failed and not quiescent
abbrev pub is_uncertain_failure : RequestState → Bool
is_uncertain_failure (Pending cancel late) = false
is_uncertain_failure (Completed actual code cancel) = false
is_uncertain_failure (Failed error code quiescent) = not quiescent
is_uncertain_failure Aborted = false

-- the id of the places that a list of ids leaves
abbrev pub no_id : RequestId
no_id = record { session = 0; generation = 0; sequence = 0 }

-- ids are the same where every field is
abbrev pub same_request : RequestId → RequestId → Bool
same_request a b = eqb a.session b.session && eqb a.generation b.generation && eqb a.sequence b.sequence

abbrev pub same_device : DeviceId → DeviceId → Bool
same_device a b = eqb a.session b.session && eqb a.generation b.generation && eqb a.slot b.slot

-- the order of ids: by session, then generation, then sequence
unfoldable pub request_before : RequestId → RequestId → Bool
request_before a b =
    ltb a.session b.session if not (eqb a.session b.session) else
    ltb a.generation b.generation if not (eqb a.generation b.generation) else
    ltb a.sequence b.sequence
