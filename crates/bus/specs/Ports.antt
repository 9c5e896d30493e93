-- Ports (document 01, "Port row", and the places placing and device of its table). Assumes nothing.
use Rattle.std.specs.Prelude.{ℕ, ◌+◌, ◌-◌, ◌^◌, Bool, false, not, ◌||◌, eqb, ltb, Option, Some, None, Result, Ok, Err, ⊤}
use Rattle.std.specs.Bool.{beq}
use Rattle.chain.specs.Chain.{◌if◌else◌}
use Rattle.chain.specs.After.{After, after}
use Rattle.models.specs.Refusals.{refusal_of, from_backend}
use Rattle.models.specs.declared.{OperationError.OperationError, PortId.PortId, Ports.Ports, Refusal.Refusal}
use Rattle.standards.specs.Ports.{port_connected}
use Rattle.bus.specs.Tables.{Bus, port_at, put_port}
use Rattle.bus.specs.declared.{PortRow.PortRow}

-- 29: no ports; 30: the number is 0 or above the count
unfoldable pub number_checked : Option Ports → ℕ → Result ⊤ Refusal
number_checked None number = Err (refusal_of 29)
number_checked (Some p) number = Err (refusal_of 30) if eqb number 0 || ltb p.count number else (Ok tt)

-- 29, 30, or the row replaces the port's
unfoldable pub set_port_by : Result ⊤ Refusal → ℕ → PortRow → Bus → After (Result ⊤ Refusal) Bus
set_port_by (Err r) number row b = after (Err r) b
set_port_by (Ok tt) number row b = after (Ok tt) (put_port b number row)

unfoldable pub set_port : Option Ports → ℕ → PortRow → Bus → After (Result ⊤ Refusal) Bus
set_port ports number row b = set_port_by (number_checked ports number) number row b

-- 32: no reading
unfoldable pub reading_checked : Option ℕ → Result ℕ Refusal
reading_checked None = Err (refusal_of 32)
reading_checked (Some raw) = Ok raw

-- the session number that port ids carry is the opening's
abbrev pub of_opening : Option Ports → ℕ → Bool
of_opening None session = false
of_opening (Some p) session = eqb session p.session

-- 31: another session than the opening's, or another generation than the row's
unfoldable pub validated_row : Option Ports → PortId → PortRow → Result ℕ Refusal
validated_row ports id row =
    Err (refusal_of 31) if not (of_opening ports id.session) || not (eqb id.generation row.generation) else
    reading_checked row.reading

unfoldable pub validated_by : Result ⊤ Refusal → Option Ports → PortId → Bus → Result ℕ Refusal
validated_by (Err r) ports id b = Err r
validated_by (Ok tt) ports id b = validated_row ports id (port_at b id.number)

-- 29, 30, 31, 32
unfoldable pub validated : Option Ports → PortId → Bus → Result ℕ Refusal
validated ports id b = validated_by (number_checked ports id.number) ports id b

-- if the reading's connected bit differs from the row's, the generation rises by one; 34: it is at its maximum
unfoldable pub raised_row : PortRow → ℕ → Result PortRow Refusal
raised_row row raw =
    Err (refusal_of 34) if eqb row.generation (2 ^ 64 - 1) else
    Ok (record { generation = row.generation + 1; reading = Some raw })

unfoldable pub observed_by : Option ℕ → PortRow → ℕ → Result PortRow Refusal
observed_by None row raw = Ok (record { generation = row.generation; reading = Some raw })
observed_by (Some old) row raw =
    raised_row row raw if not (beq (port_connected old) (port_connected raw)) else
    Ok (record { generation = row.generation; reading = Some raw })

unfoldable pub observed_row : PortRow → ℕ → Result PortRow Refusal
observed_row row raw = observed_by row.reading row raw

-- 34, or the row written
unfoldable pub observe_port_by : Result PortRow Refusal → ℕ → Bus → After (Result PortRow Refusal) Bus
observe_port_by (Err r) number b = after (Err r) b
observe_port_by (Ok row) number b = after (Ok row) (put_port b number row)

unfoldable pub observe_port : ℕ → ℕ → Bus → After (Result PortRow Refusal) Bus
observe_port number raw b = observe_port_by (observed_row (port_at b number) raw) number b

-- a port with a fresh reading. 31 again: the id is validated against the row that was written
unfoldable pub fresh_observed : Result PortRow Refusal → Option Ports → PortId → Result ℕ Refusal
fresh_observed (Err r) ports id = Err r
fresh_observed (Ok row) ports id = validated_row ports id row

-- 34 with nothing written, or the row written
unfoldable pub fresh_word : ℕ → Option Ports → PortId → Bus → After (Result ℕ Refusal) Bus
fresh_word raw ports id b =
    after (fresh_observed (observe_port id.number raw b).result ports id) (observe_port id.number raw b).lent

-- 33: the reading failed, with the backend's error
unfoldable pub fresh_reading : Result ℕ OperationError → Option Ports → PortId → Bus → After (Result ℕ Refusal) Bus
fresh_reading (Err e) ports id b = after (Err (from_backend 33 e)) b
fresh_reading (Ok raw) ports id b = fresh_word raw ports id b

unfoldable pub fresh_port_by : Result ℕ Refusal → Result ℕ OperationError → Option Ports → PortId → Bus → After (Result ℕ Refusal) Bus
fresh_port_by (Err r) reading ports id b = after (Err r) b
fresh_port_by (Ok raw) reading ports id b = fresh_reading reading ports id b

-- 29, 30, 31, 32, then 33, 34, and 31 again
unfoldable pub fresh_port : Option Ports → PortId → Result ℕ OperationError → Bus → After (Result ℕ Refusal) Bus
fresh_port ports id reading b = fresh_port_by (validated ports id b) reading ports id b
