-- One law for each way out of the functions on ports: its premises are the facts in hand there. Assumes nothing.
use Rattle.std.specs.Prelude.{Option, Some, None, Result, Ok, Err, ⊤}
use Prim.Native.Nat.{ℕ, ◌+◌}
use mathlib.Core.Path.{◌≡◌, refl, sym, ap, ◌∙◌}
use mathlib.Core.Bool.{Bool, true, false, not, ◌||◌, beq}
use lib.Dec.{eqb, ltb}
use borrow.Author.Tests.{eq-eqb, ne_eqb}
use Rattle.chain.specs.After.{after}
use Rattle.chain.proofs.Chain.{takes, passes}
use Rattle.models.specs.Refusals.{refusal_of}
use Rattle.models.specs.declared.{OperationError.OperationError, PortId.PortId, Ports.Ports, Refusal.Refusal}
use Rattle.standards.specs.Ports.{port_connected}
use Rattle.bus.specs.Tables.{Bus, port_at, put_port}
use Rattle.bus.specs.Ports.{number_checked, set_port_by, set_port, reading_checked, of_opening, validated_row, validated_by, validated, raised_row, observed_by, observed_row, observe_port_by, observe_port, fresh_observed, fresh_word, fresh_reading, fresh_port_by, fresh_port}
use Rattle.bus.specs.declared.{PortRow.PortRow}

-- a port number against the ports
module _ (o : Option Ports) (number : ℕ) where
  pub number_none : (r : Refusal) → o ≡ None → r ≡ refusal_of 29 → Err r ≡ number_checked o number
  unfolding number_checked
  number_none r e f = rw (e, f)

  module _ (p : Ports) (e : o ≡ Some p) where
    pub number_out : (r : Refusal) → (eqb number 0 || ltb p.count number) ≡ true → r ≡ refusal_of 30 → Err r ≡ number_checked o number
    unfolding number_checked
    number_out r t f = rw (e, f) (takes (Result ⊤ Refusal) _ _ _ _ t refl)

    pub number_in : (eqb number 0 || ltb p.count number) ≡ false → (Ok tt) ≡ number_checked o number
    unfolding number_checked
    number_in t = rw e (passes (Result ⊤ Refusal) _ _ _ _ t refl)

-- an id against its row
module _ (o : Option Ports) (id : PortId) where
  module _ (row : PortRow) (same : Bool) (s : same ≡ of_opening o id.session) where
    pub row_stale : (r : Refusal) → (not same || not (eqb id.generation row.generation)) ≡ true → r ≡ refusal_of 31
        → Err r ≡ validated_row o id row
    unfolding validated_row
    row_stale r t f = takes (Result ℕ Refusal) _ _ _ _ (rw s at t) (ap Err f)

    pub row_read : (v : Result ℕ Refusal) → (not same || not (eqb id.generation row.generation)) ≡ false → v ≡ reading_checked row.reading
        → v ≡ validated_row o id row
    unfolding validated_row
    row_read v t f = passes (Result ℕ Refusal) _ _ _ _ (rw s at t) f

  module _ (b : Bus) (x : Result ⊤ Refusal) (e : x ≡ number_checked o id.number) where
    pub validated_out : (r : Refusal) → x ≡ Err r → Err r ≡ validated o id b
    unfolding validated validated_by
    validated_out r f = rw (← e, f)

    pub validated_in : (row : PortRow) (v : Result ℕ Refusal) → x ≡ (Ok tt) → row ≡ port_at b id.number → v ≡ validated_row o id row → v ≡ validated o id b
    unfolding validated validated_by
    validated_in row v f g h = h ∙ rw (← e, f, g)

-- a row put, whatever its old words
module _ (o : Option Ports) (number : ℕ) (row : PortRow) (b : Bus) (x : Result ⊤ Refusal) (e : x ≡ number_checked o number) where
  pub set_out : (r : Refusal) → x ≡ Err r → after x b ≡ set_port o number row b
  unfolding set_port set_port_by
  set_out r f = rw (← e, f)

  pub set_in : (left : Bus) → x ≡ (Ok tt) → left ≡ put_port b number row → after (Ok tt) left ≡ set_port o number row b
  unfolding set_port set_port_by
  set_in left f g = rw (← e, f, g)

-- a row after a reading
module _ (row : PortRow) (raw : ℕ) where
  pub raise_full : (r : Refusal) → row.generation ≡ 18446744073709551615 → r ≡ refusal_of 34 → Err r ≡ raised_row row raw
  unfolding raised_row
  raise_full r e f = takes (Result PortRow Refusal) _ _ _ _ (eq-eqb _ _ e) (ap Err f)

  pub raise_on : (row.generation ≡ 18446744073709551615 → ⊥)
      → Ok (record { generation = row.generation + 1; reading = Some raw }) ≡ raised_row row raw
  unfolding raised_row
  raise_on e = passes (Result PortRow Refusal) _ _ _ _ (ne_eqb _ _ e) refl

  module _ (old : ℕ) (t : Bool) (e : row.reading ≡ Some old) (et : t ≡ port_connected raw) where
    pub observed_changed : (v : Result PortRow Refusal) → not (beq (port_connected old) t) ≡ true → v ≡ raised_row row raw → v ≡ observed_row row raw
    unfolding observed_row observed_by
    observed_changed v h f = takes (Result PortRow Refusal) _ _ _ _ (rw et at h) f ∙ sym (ap (λ (o : Option ℕ). observed_by o row raw) e)

    pub observed_kept : not (beq (port_connected old) t) ≡ false → Ok (record { generation = row.generation; reading = Some raw }) ≡ observed_row row raw
    unfolding observed_row observed_by
    observed_kept h = passes (Result PortRow Refusal) _ _ _ _ (rw et at h) refl ∙ sym (ap (λ (o : Option ℕ). observed_by o row raw) e)

module _ (number raw : ℕ) (b : Bus) (row : PortRow) (v : Result PortRow Refusal) (e : row ≡ port_at b number) (f : v ≡ observed_row row raw) where
  pub observe_full : (r : Refusal) → v ≡ Err r → after (Err r) b ≡ observe_port number raw b
  unfolding observe_port observe_port_by
  observe_full r g = rw (← e, ← f, g)

  pub observe_on : (w : PortRow) (left : Bus) → v ≡ Ok w → left ≡ put_port b number w → after (Ok w) left ≡ observe_port number raw b
  unfolding observe_port observe_port_by
  observe_on w left g h = rw (← e, ← f, g, h)

-- a fresh reading
module _ (o : Option Ports) (id : PortId) (raw : ℕ) (b left : Bus) (v : Result PortRow Refusal) (f : after v left ≡ observe_port id.number raw b) where
  pub fresh_full : (r : Refusal) → v ≡ Err r → after (Err r) left ≡ fresh_word raw o id b
  unfolding fresh_word fresh_observed
  fresh_full r g = rw (← f, g)

  pub fresh_on : (w : PortRow) (r : Result ℕ Refusal) → v ≡ Ok w → r ≡ validated_row o id w → after r left ≡ fresh_word raw o id b
  unfolding fresh_word fresh_observed
  fresh_on w r g h = rw (← f, g, h)

-- what it would be answered by
module _ (o : Option Ports) (id : PortId) (raw : ℕ) (b : Bus) (row : PortRow) (v : Result PortRow Refusal) (e : row ≡ port_at b id.number) (f : v ≡ observed_row row raw) where
  pub peek_full : (r : Refusal) → v ≡ Err r → Err r ≡ (fresh_word raw o id b).result
  unfolding fresh_word fresh_observed observe_port observe_port_by
  peek_full r g = rw (← e, ← f, g)

  pub peek_on : (w : PortRow) (r : Result ℕ Refusal) → v ≡ Ok w → r ≡ validated_row o id w → r ≡ (fresh_word raw o id b).result
  unfolding fresh_word fresh_observed observe_port observe_port_by
  peek_on w r g h = h ∙ rw (← e, ← f, g)

module _ (o : Option Ports) (id : PortId) (b : Bus) (reading : Result ℕ OperationError) where
  module _ (v : Result ℕ Refusal) (e : v ≡ validated o id b) where
    pub fresh_out : (r : Refusal) → v ≡ Err r → after v b ≡ fresh_port o id reading b
    unfolding fresh_port fresh_port_by
    fresh_out r f = rw (← e, f)

    pub fresh_in : (raw : ℕ) (w : Result ℕ Refusal) (left : Bus) → v ≡ Ok raw → after w left ≡ fresh_reading reading o id b
        → after w left ≡ fresh_port o id reading b
    unfolding fresh_port fresh_port_by
    fresh_in raw w left f g = g ∙ rw (← e, f)
