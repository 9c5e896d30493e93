-- A wanted reading at the checks of the device and its endpoint. Assumes nothing.
use Rattle.std.specs.Prelude.{Option, Some, None, Result, Ok, Err, ⊤}
use Prim.Native.Nat.{ℕ, ◌<◌, ◌%◌, ◌^◌}
use mathlib.Core.Bool.{Bool, true, false, not}
use mathlib.Core.List.{List}
use mathlib.Core.Path.{◌≡◌, refl, sym, ap, subst, ◌∙◌}
use native.Mathlib.Nat.{mod-lt}
use native.Mathlib.Omega.{arith}
use lib.Dec.{eqb, ltb}
use lib.ListN.{length, get_or, get_or-eq_default}
use lib.Seq.{get_or-set_same}
use borrow.Author.Tests.{ltb-true, ltb-false}
use Rattle.chain.specs.After.{After, after}
use Rattle.chain.specs.Chain.{◌if◌else◌}
use Rattle.chain.proofs.Chain.{caseB, if_all}
use Rattle.words.proofs.Records.{length-chunks, chunks_at}
use Rattle.models.specs.Kinds.{is_control, is_configured, is_prepared}
use Rattle.models.specs.Refusals.{from_backend, rejected}
use Rattle.models.specs.declared.{DeviceId.DeviceId, DeviceSnapshot.DeviceSnapshot, OperationError.OperationError, PortId.PortId, Ports.Ports, Refusal.Refusal, RequestMetadata.RequestMetadata}
use Rattle.bus.specs.Layout.{port_count, slot_count, port_words, device_words, devices_at, read_port, read_device}
use Rattle.bus.specs.Tables.{Bus, bus_of, new_port, port_index, port_at, device_at, put_port}
use Rattle.bus.specs.Ports.{number_checked, validated_row, validated_by, validated, observed_row, observe_port_by, observe_port, fresh_observed, fresh_word, fresh_reading, fresh_port_by, fresh_port}
use Rattle.targets.specs.Target.{refused_device, known_by, known_device, prepared_device, fresh_device, check_device_by, check_device, endpoint_by, check_endpoint, check_target_by, check_target}
use Rattle.targets.specs.Wants.{is_missing, second_wanted, second_by, after_first, first_wanted, port_wanted, device_wanted, wanted_by, wanted_reading}
use Rattle.targets.specs.declared.{Readings.Readings, wants.Wanted.Wanted}
use Rattle.questions.specs.Wants.{Taken, Means}
use Rattle.bus.specs.declared.{PortRow.PortRow}

-- refused by 33, with the error
abbrev pub RefusedBy : OperationError → After (Result ⊤ Refusal) Bus → Type 0
RefusedBy e o = o.result ≡ Err (from_backend 33 e)

-- ---- a port of the bus that was read is read again
module _ (o : Option Ports) (b : Bus) (id : PortId) (inside : port_index id.number < length b.ports) (raw old new : ℕ) where
  row_again : (v : Result PortRow Refusal) → fresh_observed (observe_port_by v id.number b).result o id ≡ Ok new
      → validated_row o id (port_at (observe_port_by v id.number b).lent id.number) ≡ Ok new
  unfolding observe_port_by fresh_observed put_port
  row_again (Err r) e = let z : ◌≡◌ {A = ℕ} 0 1 = cc in absurd (omega arith)
  row_again (Ok row) e = ap (validated_row o id) (get_or-set_same b.ports (port_index id.number) row new_port inside) ∙ e

  number_again : (v : Result ⊤ Refusal) → validated_by v o id b ≡ Ok old → (fresh_word raw o id b).result ≡ Ok new
      → validated_by v o id (fresh_word raw o id b).lent ≡ Ok new
  unfolding validated_by fresh_word observe_port
  number_again (Err r) e ew = let z : ◌≡◌ {A = ℕ} 0 1 = cc in absurd (omega arith)
  number_again (Ok tt) e ew = row_again (observed_row (port_at b id.number) raw) ew

  rereads : validated o id b ≡ Ok old → (fresh_word raw o id b).result ≡ Ok new
      → validated o id (fresh_word raw o id b).lent ≡ Ok new
  unfolding validated
  rereads e ew = number_again (number_checked o id.number) e ew

-- ---- what the words of the bus give: 255 ports, and a device's port is one of them
module _ (l : List ℕ) where
  abbrev Inside : DeviceSnapshot → Type 0
  Inside d = port_index d.port.number < length (bus_of l).ports

  abbrev PlacedInside : Option DeviceSnapshot → Type 0
  PlacedInside None = Unit {0}
  PlacedInside (Some d) = Inside d

  abbrev CheckedInside : Result DeviceSnapshot Refusal → Type 0
  CheckedInside (Err r) = Unit {0}
  CheckedInside (Ok d) = Inside d

  byte_inside : (n : ℕ) → port_index (n % 2 ^ 8) < length (bus_of l).ports
  unfolding bus_of
  byte_inside n = let small : n % 2 ^ 8 < 2 ^ 8 = mod-lt n (omega arith) in omega (arith, length-chunks 0 port_words read_port port_count l)

  read_inside : (w : List ℕ) → PlacedInside (read_device w)
  unfolding read_device
  read_inside w = caseB (eqb (get_or w 0 0) 0) (λ e. rw e tt) (λ e. rw e (byte_inside (get_or w 6 0)))

  device_inside : (slot : ℕ) → PlacedInside (device_at (bus_of l) slot)
  unfolding bus_of
  device_inside slot =
      caseB (ltb slot slot_count)
      (λ e. subst PlacedInside (sym (chunks_at devices_at device_words read_device slot_count l slot None (ltb-true slot slot_count e))) (read_inside _))
      (λ e. subst PlacedInside (sym (get_or-eq_default (bus_of l).devices None (omega (arith, ltb-false slot slot_count e, length-chunks devices_at device_words read_device slot_count l)))) tt)

  known_by_lem : (o : Option DeviceSnapshot) → PlacedInside o → (i : Bool) (id : DeviceId) → CheckedInside (known_by o i id)
  unfolding known_by
  known_by_lem None h i id = tt
  known_by_lem (Some d) h i id = if_all CheckedInside _ _ _ tt (if_all CheckedInside _ _ _ tt h)

  known_inside : (i : Bool) (id : DeviceId) → CheckedInside (known_device i id (bus_of l))
  unfolding known_device
  known_inside i id = if_all CheckedInside _ _ _ tt (known_by_lem (device_at (bus_of l) id.slot) (device_inside id.slot) i id)

-- ---- a wanted reading
module _ (o : Option Ports) (m : RequestMetadata) where
  abbrev pub Told : Option Wanted → Readings → Readings → After (Result ⊤ Refusal) Bus → After (Result ⊤ Refusal) Bus → Type 0
  Told = Means RefusedBy

  -- what is done by y counts only where its first reading agrees
  agreeing : (w : Option Wanted) (x y : Readings) (a c e : After (Result ⊤ Refusal) Bus) → (Taken x.first y.first → e ≡ c) → Told w x y a c → Told w x y a e
  agreeing None x y a c e k t = λ u v. k u ∙ t u v
  agreeing (Some (Wanted.First n)) x y a c e k t = t
  agreeing (Some (Wanted.Second n)) x y a c e k t = t

  module _ (d : DeviceSnapshot) where
    -- 36, and the second reading, on the bus that the first left
    module _ (left : Bus) where
      -- whether the request is control, and the device is configured
      abbrev wants : Bool → Bool → Result ℕ OperationError → Option Wanted
      wants control configured second =
          None if control else None if not configured else None if not (is_missing second) else Some (Wanted.Second d.port.number)

      abbrev does : Bool → Bool → Result ℕ OperationError → After (Result ⊤ Refusal) Bus
      does control configured second =
          after (Ok tt) left if control else
          after (rejected 36) left if not configured else
          after (endpoint_by (fresh_port o d.port second left).result m (fresh_port o d.port second left).lent) (fresh_port o d.port second left).lent

      module _ (new : ℕ) (valid : validated o d.port left ≡ Ok new) where
        second_told : (c g : Bool) (f f' s s' : Result ℕ OperationError)
            → Told (wants c g s) (record { first = f; second = s }) (record { first = f'; second = s' }) (does c g s) (does c g s')
        unfolding ◌if◌else◌ fresh_port fresh_port_by fresh_reading endpoint_by
        second_told true g f f' s s' = λ u v. refl
        second_told false false f f' s s' = λ u v. refl
        second_told false true f f' (Ok w) s' = λ u v. rw v
        second_told false true f f' (Err e) s' = rw valid

      -- 35
      abbrev prepared : Result ℕ Refusal → Bool → Result DeviceSnapshot Refusal
      prepared (Err r) t = Err r
      prepared (Ok raw) t = refused_device 35 if not t else Ok d

      prepared_told : (p : Result ℕ Refusal) (t : Bool) (f f' s s' : Result ℕ OperationError) → ((new : ℕ) → p ≡ Ok new → validated o d.port left ≡ Ok new)
          → Told (second_by (prepared p t) m s) (record { first = f; second = s }) (record { first = f'; second = s' }) (check_target_by (prepared p t) o m s left) (check_target_by (prepared p t) o m s' left)
      unfolding ◌if◌else◌ second_by second_wanted check_target_by check_endpoint
      prepared_told (Err r) t f f' s s' k = λ u v. refl
      prepared_told (Ok raw) false f f' s s' k = λ u v. refl
      prepared_told (Ok raw) true f f' s s' k = second_told raw (k raw refl) (is_control m.transfer_type) (is_configured d.state) f f' s s'

      prepared_is : (p : Result ℕ Refusal) → prepared_device p d ≡ prepared p (is_prepared d.state)
      unfolding prepared_device
      prepared_is (Err r) = refl
      prepared_is (Ok raw) = refl

    -- the first reading
    module _ (b : Bus) (inside : port_index d.port.number < length b.ports) where
      abbrev first_of : Result ℕ OperationError → Result ℕ OperationError → After (Result ⊤ Refusal) Bus
      first_of f s = check_target_by (prepared_device (fresh_reading f o d.port b).result d) o m s (fresh_reading f o d.port b).lent

      first_told : (old : ℕ) → validated o d.port b ≡ Ok old → (f f' s s' : Result ℕ OperationError)
          → Told (first_wanted f s o d m b) (record { first = f; second = s }) (record { first = f'; second = s' }) (first_of f s) (first_of f' s')
      unfolding first_wanted after_first fresh_reading prepared_device check_target_by
      first_told old e (Err x) f' s s' = refl
      first_told old e (Ok raw) f' s s' =
          let p = (fresh_word raw o d.port b).result in
          let left = (fresh_word raw o d.port b).lent in
          agreeing (first_wanted (Ok raw) s o d m b) (record { first = Ok raw; second = s }) (record { first = f'; second = s' }) (first_of (Ok raw) s) (first_of (Ok raw) s') (first_of f' s') (λ u. ap (λ (z : Result ℕ OperationError). first_of z s') u)
          (rw (prepared_is left p) (prepared_told left p (is_prepared d.state) (Ok raw) f' s s' (λ new h. rereads o b d.port inside raw old new e h)))

      -- 29 to 32
      abbrev port_of : Result ℕ Refusal → Readings → After (Result ⊤ Refusal) Bus
      port_of p x = check_target_by (prepared_device (fresh_port_by p x.first o d.port b).result d) o m x.second (fresh_port_by p x.first o d.port b).lent

      port_told : (p : Result ℕ Refusal) → validated o d.port b ≡ p → (x y : Readings) → Told (port_wanted p d o m x b) x y (port_of p x) (port_of p y)
      unfolding port_wanted fresh_port_by prepared_device check_target_by
      port_told (Err r) e x y = λ u v. refl
      port_told (Ok old) e x y = first_told old e x.first y.first x.second y.second

  -- 26 to 28
  module _ (l : List ℕ) (x y : Readings) where
    abbrev b : Bus
    b = bus_of l

    abbrev device_of : Result DeviceSnapshot Refusal → Readings → After (Result ⊤ Refusal) Bus
    device_of k z = check_target_by (check_device_by k o z.first b).result o m z.second (check_device_by k o z.first b).lent

    device_told : (k : Result DeviceSnapshot Refusal) → CheckedInside l k → Told (wanted_by k o m x b) x y (device_of k x) (device_of k y)
    unfolding wanted_by device_wanted check_device_by fresh_device fresh_port check_target_by
    device_told (Err r) h = λ u v. refl
    device_told (Ok d) h = port_told d b h (validated o d.port b) refl x y

    pub target_told : (i : Bool) → Told (wanted_reading i o m x b) x y (check_target i o m x b) (check_target i o m y b)
    unfolding wanted_reading check_target check_device
    target_told i = device_told (known_device i m.device b) (known_inside l i m.device)
