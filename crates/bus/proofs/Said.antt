-- Every number that the placing of a port or of endpoints or a check of a port refuses by is in its list. Assumes nothing.
use Rattle.std.specs.Prelude.{Option, Some, None, Result, Ok, Err, ⊤}
use Prim.Native.Nat.{ℕ}
use mathlib.Core.List.{List}
use mathlib.Core.Path.{◌≡◌, refl}
use Rattle.chain.specs.After.{After, after}
use Rattle.chain.proofs.Chain.{if_all}
use Rattle.models.specs.Said.{Tabled, verdict_said}
use Rattle.models.specs.declared.{OperationError.OperationError, PortId.PortId, Ports.Ports, Refusal.Refusal}
use Rattle.models.proofs.Said.{tabled_says, tabled_own, tabled_backend, tabled_in, said_of}
use Rattle.bus.specs.Endpoints.{set_endpoints}
use Rattle.bus.specs.Ports.{number_checked, set_port_by, set_port, reading_checked, validated_row, validated_by, validated, raised_row, observed_by, observed_row, observe_port_by, observe_port, fresh_observed, fresh_word, fresh_reading, fresh_port_by, fresh_port}
use Rattle.bus.specs.Said.{port_said, observed_said, placed_port_numbers, placed_list_numbers, fresh_port_numbers}
use Rattle.bus.specs.Tables.{Bus, port_at}
use Rattle.bus.specs.declared.{PortRow.PortRow}

-- ---- placing
number_tabled : (o : Option Ports) (number : ℕ) → Tabled placed_port_numbers (verdict_said (number_checked o number))
unfolding number_checked
number_tabled None number = tabled_own _ 29 refl
number_tabled (Some p) number =
    if_all (λ (v : Result ⊤ Refusal). Tabled placed_port_numbers (verdict_said v)) _ _ _ (tabled_own _ 30 refl) (tabled_says _ _)

abbrev Places : List ℕ → After (Result ⊤ Refusal) Bus → Type 0
Places ns o = Tabled ns (verdict_said o.result)

module _ (number : ℕ) (row : PortRow) (b : Bus) where
  set_by : (v : Result ⊤ Refusal) → Tabled placed_port_numbers (verdict_said v) → Places placed_port_numbers (set_port_by v number row b)
  unfolding set_port_by
  set_by (Err r) h = h
  set_by (Ok tt) h = h

  pub set_port_tabled : (o : Option Ports) → Tabled placed_port_numbers (verdict_said (set_port o number row b).result)
  unfolding set_port
  set_port_tabled o = set_by (number_checked o number) (number_tabled o number)

  pub set_port_said : (o : Option Ports) (x : Result ⊤ Refusal) (left : Bus) → after x left ≡ set_port o number row b
      → (after x left ≡ set_port o number row b) × Tabled placed_port_numbers (verdict_said x)
  set_port_said o x left e = said_of (Places placed_port_numbers) _ _ e (set_port_tabled o)

module _ (slot : ℕ) (l : List ℕ) (b : Bus) where
  pub set_endpoints_tabled : Tabled placed_list_numbers (verdict_said (set_endpoints slot l b).result)
  unfolding set_endpoints
  set_endpoints_tabled = if_all (Places placed_list_numbers) _ _ _ (tabled_own _ 53 refl) (tabled_says _ _)

  pub set_endpoints_said : (x : Result ⊤ Refusal) (left : Bus) → after x left ≡ set_endpoints slot l b
      → (after x left ≡ set_endpoints slot l b) × Tabled placed_list_numbers (verdict_said x)
  set_endpoints_said x left e = said_of (Places placed_list_numbers) _ _ e set_endpoints_tabled

-- ---- a port with a fresh reading
abbrev Checks : Result ℕ Refusal → Type 0
Checks x = Tabled fresh_port_numbers (port_said x)

abbrev Observes : Result PortRow Refusal → Type 0
Observes x = Tabled fresh_port_numbers (observed_said x)

abbrev Reads : After (Result ℕ Refusal) Bus → Type 0
Reads o = Checks o.result

reading_tabled : (o : Option ℕ) → Checks (reading_checked o)
unfolding reading_checked
reading_tabled None = tabled_own _ 32 refl
reading_tabled (Some raw) = tabled_says _ _

raised_tabled : (row : PortRow) (raw : ℕ) → Observes (raised_row row raw)
unfolding raised_row
raised_tabled row raw = if_all Observes _ _ _ (tabled_own _ 34 refl) (tabled_says _ _)

observed_by_lem : (o : Option ℕ) (row : PortRow) (raw : ℕ) → Observes (observed_by o row raw)
unfolding observed_by
observed_by_lem None row raw = tabled_says _ _
observed_by_lem (Some old) row raw = if_all Observes _ _ _ (raised_tabled row raw) (tabled_says _ _)

module _ (o : Option Ports) (id : PortId) where
  row_tabled : (row : PortRow) → Checks (validated_row o id row)
  unfolding validated_row
  row_tabled row = if_all Checks _ _ _ (tabled_own _ 31 refl) (reading_tabled row.reading)

  validated_by_lem : (v : Result ⊤ Refusal) → Tabled placed_port_numbers (verdict_said v) → (b : Bus) → Checks (validated_by v o id b)
  unfolding validated_by
  validated_by_lem (Err r) h b = tabled_in fresh_port_numbers placed_port_numbers refl _ h
  validated_by_lem (Ok tt) h b = row_tabled _

  written_by : (x : Result PortRow Refusal) → Observes x → (number : ℕ) (b : Bus) → Checks (fresh_observed (observe_port_by x number b).result o id)
  unfolding fresh_observed observe_port_by
  written_by (Err r) h number b = h
  written_by (Ok row) h number b = row_tabled row

  reading_by : (x : Result ℕ OperationError) (b : Bus) → Reads (fresh_reading x o id b)
  unfolding fresh_reading fresh_word observe_port observed_row
  reading_by (Err e) b = tabled_backend _ 33 e refl refl
  reading_by (Ok raw) b =
      written_by (observed_by (port_at b id.number).reading (port_at b id.number) raw) (observed_by_lem _ _ raw) id.number b

  fresh_by_lem : (x : Result ℕ Refusal) → Checks x → (reading : Result ℕ OperationError) (b : Bus) → Reads (fresh_port_by x reading o id b)
  unfolding fresh_port_by
  fresh_by_lem (Err r) h reading b = h
  fresh_by_lem (Ok raw) h reading b = reading_by reading b

  pub fresh_tabled : (reading : Result ℕ OperationError) (b : Bus) → Tabled fresh_port_numbers (port_said (fresh_port o id reading b).result)
  unfolding fresh_port validated
  fresh_tabled reading b = fresh_by_lem (validated_by (number_checked o id.number) o id b) (validated_by_lem _ (number_tabled o _) b) reading b

  pub fresh_said : (reading : Result ℕ OperationError) (b : Bus) (x : Result ℕ Refusal) (left : Bus) → after x left ≡ fresh_port o id reading b
      → (after x left ≡ fresh_port o id reading b) × Tabled fresh_port_numbers (port_said x)
  fresh_said reading b x left e = said_of Reads _ _ e (fresh_tabled reading b)
