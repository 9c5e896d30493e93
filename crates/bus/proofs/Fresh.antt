-- The word that a port passes with is that of the reading. Assumes nothing.
use Rattle.std.specs.Prelude.{Option, Some, None, Result, Ok, Err}
use Prim.Native.Nat.{ℕ}
use mathlib.Core.Path.{◌≡◌, refl}
use Rattle.chain.proofs.Chain.{if_all}
use Rattle.models.specs.declared.{PortId.PortId, Ports.Ports, Refusal.Refusal}
use Rattle.bus.specs.Ports.{reading_checked, validated_row, validated, raised_row, observed_by, observed_row, observe_port_by, observe_port, fresh_observed, fresh_word, fresh_reading, fresh_port_by, fresh_port}
use Rattle.bus.specs.Tables.{Bus, port_at}
use Rattle.bus.specs.declared.{PortRow.PortRow}

module _ (raw : ℕ) where
  abbrev pub Shows : Result ℕ Refusal → Type 0
  Shows (Err r) = Unit {0}
  Shows (Ok word) = word ≡ raw

  abbrev Keeps : Result PortRow Refusal → Type 0
  Keeps (Err r) = Unit {0}
  Keeps (Ok row) = row.reading ≡ Some raw

  keeps_by : (old : Option ℕ) (row : PortRow) → Keeps (observed_by old row raw)
  unfolding observed_by raised_row
  keeps_by None row = refl
  keeps_by (Some word) row = if_all Keeps _ _ _ (if_all Keeps _ _ _ tt refl) refl

  shows_by : (x : Result PortRow Refusal) → Keeps x → (o : Option Ports) (id : PortId) (b : Bus) → Shows (fresh_observed (observe_port_by x id.number b).result o id)
  unfolding observe_port_by fresh_observed validated_row reading_checked
  shows_by (Err r) h o id b = tt
  shows_by (Ok row) h o id b = if_all Shows _ _ _ tt (rw h refl)

  pub fresh_shows : (o : Option Ports) (id : PortId) (b : Bus) → Shows (fresh_port o id (Ok raw) b).result
  unfolding fresh_port fresh_port_by fresh_reading fresh_word observe_port observed_row
  fresh_shows o id b = by_valid (validated o id b)
    where
      by_valid : (x : Result ℕ Refusal) → Shows (fresh_port_by x (Ok raw) o id b).result
      by_valid (Err r) = tt
      by_valid (Ok word) = shows_by _ (keeps_by (port_at b id.number).reading (port_at b id.number)) o id b
