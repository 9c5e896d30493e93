-- The four tables of the bus: what a row reads, and one row put, which keeps the other tables. Assumes nothing.
use Rattle.std.specs.Prelude.{Option, Some, None}
use Prim.Native.Nat.{ℕ, suc, ◌+◌, ◌*◌, ◌%◌, ◌<◌, ◌≤◌}
use mathlib.Core.Path.{◌≡◌, refl, sym, ap, ◌∙◌}
use mathlib.Core.Bool.{Bool, false}
use mathlib.Core.List.{List, [], ◌∷◌, ◌++◌, append_assoc}
use mathlib.Core.Logic.{◌⊎◌, inl, inr}
use native.Mathlib.Omega.{arith}
use native.Mathlib.Numerals.{add-one}
use lib.ListN.{length, get_or, set, take, drop, length-append, length-drop, take-append-drop}
use lib.Seq.{take_all, take_at, take-take, take-suc-set, drop-set-lt, drop-drop, drop-append-le}
use borrow.Author.Tests.{ne_eqb}
use Rattle.words.specs.Words.{read_flag, flag_word, read_option_u32, option_u32_word}
use Rattle.words.specs.Records.{splice, part, chunks}
use Rattle.words.proofs.Records.{part-get_or, part_first, part_length, splice-set, chunks_at, chunks_put, chunks_kept}
use Rattle.models.specs.Codes.{read_device_state}
use Rattle.models.specs.declared.{DeviceSnapshot.DeviceSnapshot, DeviceState.DeviceState}
use Rattle.bus.specs.Layout.{devices_at, lists_at, marks_at, bus_words, read_port, read_device, device_record, read_endpoints, read_mark}
use Rattle.bus.specs.Tables.{bus_of, new_port, port_index, port_at, device_at, mark_at, put_port, put_device, put_endpoints, put_mark}
use Rattle.bus.specs.declared.{PortRow.PortRow}

-- words put inside one table keep each other table
module _ (l : List ℕ) (at : ℕ) (p : List ℕ) (sized : length l ≡ bus_words) (fits : at + length p ≤ bus_words) where
  keeps_ports : devices_at ≤ at → (bus_of (splice at p l)).ports ≡ (bus_of l).ports
  unfolding bus_of
  keeps_ports h = chunks_kept 0 2 read_port 255 l at p (omega arith) (inr h)

  keeps_devices : (at + length p ≤ devices_at) ⊎ (lists_at ≤ at) → (bus_of (splice at p l)).devices ≡ (bus_of l).devices
  unfolding bus_of
  keeps_devices h = chunks_kept devices_at 8 read_device 256 l at p (omega arith) h

  keeps_lists : (at + length p ≤ lists_at) ⊎ (marks_at ≤ at) → (bus_of (splice at p l)).lists ≡ (bus_of l).lists
  unfolding bus_of
  keeps_lists h = chunks_kept lists_at 31 read_endpoints 256 l at p (omega arith) h

  keeps_marks : at + length p ≤ marks_at → (bus_of (splice at p l)).marks ≡ (bus_of l).marks
  unfolding bus_of
  keeps_marks h = chunks_kept marks_at 1 read_mark 256 l at p (omega arith) (inl h)

-- a port row
pub port_is : (l : List ℕ) (number i : ℕ) (r : Option ℕ) → i ≡ port_index number → i < 255 → r ≡ read_option_u32 (get_or l (i * 2 + 1) 0)
    → ◌≡◌ {A = PortRow} (record { generation = get_or l (i * 2) 0; reading = r }) (port_at (bus_of l) number)
unfolding bus_of
port_is l number i r ei h e =
    let z : 0 + i * 2 ≡ i * 2 = omega arith in
    rw (← ei, chunks_at 0 2 read_port 255 l i new_port h, e, z, part_first 0 (i * 2) 2 l (omega arith), part-get_or 0 (i * 2) 2 l 1 (omega arith))

pub put_port_lem : (l x : List ℕ) (number i w : ℕ) (r : PortRow) → length l ≡ bus_words → i ≡ port_index number → i < 255 → read_option_u32 w ≡ r.reading
    → w ≡ option_u32_word r.reading → x ≡ splice (i * 2) (r.generation ∷ w ∷ []) l → bus_of x ≡ put_port (bus_of l) number r
unfolding bus_of put_port
put_port_lem l x number i w r sized ei h e f ex =
    let p : List ℕ = r.generation ∷ w ∷ [] in
    let fits : i * 2 + 2 ≤ devices_at = omega arith in
    let row : read_port p ≡ r = ap (λ (o : Option ℕ). record { generation = r.generation; reading = o }) e in
    let z : 0 + i * 2 ≡ i * 2 = omega arith in
    let rows = rw z at (chunks_put 0 2 read_port 255 l i p h (omega arith) refl) in
    rw (
      ← ei,
      ex,
      keeps_devices l (i * 2) p sized (omega arith) (inl fits),
      keeps_lists l (i * 2) p sized (omega arith) (inl (omega arith)),
      keeps_marks l (i * 2) p sized (omega arith) (omega arith),
      rows,
      row,
      f,
    )

-- a device row
module _ (l : List ℕ) (slot : ℕ) (h : slot < 256) where
  abbrev at : ℕ
  at = devices_at + slot * 8

  device_row : device_at (bus_of l) slot ≡ read_device (part at 8 l)
  unfolding bus_of
  device_row = chunks_at devices_at 8 read_device 256 l slot None h

  word : (k : ℕ) → k < 8 → get_or (part at 8 l) k 0 ≡ get_or l (at + k) 0
  word k g = part-get_or 0 at 8 l k g

  pub device_none : get_or l at 0 ≡ 0 → None ≡ device_at (bus_of l) slot
  unfolding read_device
  device_none e = rw (device_row, part_first 0 at 8 l (omega arith), e)

  pub device_some : (s : DeviceState) → (get_or l at 0 ≡ 0 → ⊥) → s ≡ read_device_state (get_or l (at + 7) 0)
      → Some (record {
        id = record { session = get_or l (at + 1) 0; generation = get_or l (at + 2) 0; slot = get_or l (at + 3) 0 % 256 };
        port = record { session = get_or l (at + 4) 0; generation = get_or l (at + 5) 0; number = get_or l (at + 6) 0 % 256 };
        state = s;
      }) ≡ device_at (bus_of l) slot
  unfolding read_device
  device_some s ne es =
      rw (
        device_row,
        part_first 0 at 8 l (omega arith),
        ne_eqb _ _ ne,
        word 1 (omega arith),
        word 2 (omega arith),
        word 3 (omega arith),
        word 4 (omega arith),
        word 5 (omega arith),
        word 6 (omega arith),
        word 7 (omega arith),
        es,
      )

record_length : (d : DeviceSnapshot) → length (device_record d) ≡ 8
unfolding device_record
record_length d = refl

pub put_device_lem : (l x w : List ℕ) (d : DeviceSnapshot) → length l ≡ bus_words → d.id.slot < 256 → read_device w ≡ Some d → w ≡ device_record d
    → x ≡ splice (devices_at + d.id.slot * 8) (take 8 w) l → bus_of x ≡ put_device (bus_of l) d
unfolding bus_of put_device
put_device_lem l x w d sized h e f ex =
    let at : ℕ = devices_at + d.id.slot * 8 in
    let n : length w ≡ 8 = ap length f ∙ record_length d in
    let y : x ≡ splice at w l = ex ∙ rw (take_all 8 w (omega arith)) in
    let rows = chunks_put devices_at 8 read_device 256 l d.id.slot w h (omega arith) n in
    rw (
      y,
      keeps_ports l at w sized (omega arith) (omega arith),
      keeps_lists l at w sized (omega arith) (inl (omega arith)),
      keeps_marks l at w sized (omega arith) (omega arith),
      rows,
      e,
      f,
    )

-- a mark
pub mark_is : (l : List ℕ) (slot : ℕ) (r : Bool) → slot < 256 → r ≡ read_flag (get_or l (marks_at + slot) 0) → r ≡ mark_at (bus_of l) slot
unfolding bus_of
mark_is l slot r h e =
    let z : marks_at + slot * 1 ≡ marks_at + slot = omega arith in
    e ∙ rw (chunks_at marks_at 1 read_mark 256 l slot false h, part_first 0 (marks_at + slot * 1) 1 l (omega arith), z)

pub put_mark_lem : (l : List ℕ) (slot w : ℕ) (m : Bool) → length l ≡ bus_words → slot < 256 → read_flag w ≡ m → w ≡ flag_word m
    → bus_of (set l (marks_at + slot) w) ≡ put_mark (bus_of l) slot m
unfolding bus_of put_mark
put_mark_lem l slot w m sized h e f =
    let at : ℕ = marks_at + slot in
    let p : List ℕ = w ∷ [] in
    let z : marks_at + slot * 1 ≡ at = omega arith in
    let y : set l at w ≡ splice at p l = sym (splice-set at w l (omega arith)) in
    let rows = rw z at (chunks_put marks_at 1 read_mark 256 l slot p h (omega arith) refl) in
    rw (
      y,
      keeps_ports l at p sized (omega arith) (omega arith),
      keeps_devices l at p sized (omega arith) (inr (omega arith)),
      keeps_lists l at p sized (omega arith) (inr (omega arith)),
      rows,
      e,
      f,
      splice-set at (flag_word m) l (omega arith),
    )

-- a word stored, then words after it
pub store_copy : (at n : ℕ) (e l : List ℕ) → at < length l → splice (at + 1) e (set l at n) ≡ splice at (n ∷ e) l
unfolding splice
store_copy at n e l h =
    let z : at + 1 + length e ≡ at + suc (length e) = omega arith in
    rw (drop-set-lt (at + 1 + length e) l at n (omega arith), z, add-one, take-suc-set l at n h) (append_assoc (take at l) (n ∷ []) (e ++ drop (at + suc (length e)) l))

-- the record of w words at `at`, once p stands at its start
abbrev fronted : ℕ → ℕ → List ℕ → List ℕ → List ℕ
fronted at w p l = p ++ drop (length p) (part at w l)

module _ (at w : ℕ) (p l : List ℕ) (less : length p ≤ w) (fits : at + w ≤ length l) where
  fronted-length : length (fronted at w p l) ≡ w
  fronted-length = simp (length-append, length-drop, part_length at w l fits) (omega arith)

  splice_front : splice at p l ≡ splice at (fronted at w p l) l
  unfolding splice part
  splice_front =
      let q = take w (drop at l) in
      let n : length q ≡ w = part_length at w l fits in
      let a : drop (length p) (drop at l) ≡ drop (length p) q ++ drop w (drop at l) =
      ap (drop (length p)) (sym (take-append-drop w (drop at l))) ∙ drop-append-le (length p) q (drop w (drop at l)) (omega arith) in
      rw (fronted-length, ← drop-drop (length p) at l, a, drop-drop w at l) (ap (λ (r : List ℕ). take at l ++ r) (sym (append_assoc p (drop (length p) q) (drop (at + w) l))))

-- a list of endpoints
listed : (e r : List ℕ) → length e ≤ 30 → read_endpoints ((length e ∷ e) ++ r) ≡ e
unfolding read_endpoints
listed e r h = rw (take-take (length e) 30 (e ++ r) h, take_at e r (length e) refl)

pub put_endpoints_lem : (l x : List ℕ) (slot : ℕ) (e : List ℕ) → length l ≡ bus_words → slot < 256 → length e ≤ 30
    → x ≡ splice (lists_at + slot * 31 + 1) (take (length e) e) (set l (lists_at + slot * 31) (length e)) → bus_of x ≡ put_endpoints (bus_of l) slot e
unfolding bus_of put_endpoints
put_endpoints_lem l x slot e sized h few ex =
    let at : ℕ = lists_at + slot * 31 in
    let p : List ℕ = length e ∷ e in
    let q = fronted at 31 p l in
    let n : length q ≡ 31 = fronted-length at 31 p l (omega arith) (omega arith) in
    let y : x ≡ splice at p l = ex ∙ rw (take_all (length e) e (omega arith)) (store_copy at (length e) e l (omega arith)) in
    let z : splice at p l ≡ splice at q l = splice_front at 31 p l (omega arith) (omega arith) in
    let row : read_endpoints q ≡ e = listed e (drop (length p) (part at 31 l)) few in
    let rows = ap (chunks lists_at 31 read_endpoints 256) z ∙ chunks_put lists_at 31 read_endpoints 256 l slot q h (omega arith) n in
    rw (
      y,
      keeps_ports l at p sized (omega arith) (omega arith),
      keeps_devices l at p sized (omega arith) (inr (omega arith)),
      keeps_marks l at p sized (omega arith) (omega arith),
      rows,
      row,
    )
