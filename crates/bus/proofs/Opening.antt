-- The bus at opening: the ports' words written by a loop, every other word cleared. Assumes nothing.
use Rattle.std.specs.Prelude.{None}
use Prim.Native.Nat.{ℕ, zero, suc, ◌+◌, ◌-◌, ◌*◌, ◌<◌, ◌≤◌}
use mathlib.Core.Path.{◌≡◌, refl, sym, ap, ◌∙◌}
use mathlib.Core.Bool.{false}
use mathlib.Core.List.{List, [], ◌∷◌, ◌++◌, append_assoc, append-nil}
use native.Mathlib.Omega.{arith}
use native.Mathlib.Numerals.{add-one}
use native.Mathlib.Nat.{le_of_suc-le-suc, not-suc-le-zero}
use lib.ListN.{length, get_or, set, take, drop, replicate, length-append, length-set, length-replicate, drop_of_length-le}
use lib.Seq.{take_at, drop_at, drop-drop, get_or-append-add, length-take-le}
use Rattle.words.specs.Records.{splice, part, chunks}
use Rattle.words.proofs.Records.{splice-set, tab_all, chunks_all, zero_at}
use Rattle.bus.specs.Layout.{devices_at, lists_at, marks_at, bus_words, read_port, read_device, read_endpoints, read_mark}
use Rattle.bus.specs.Tables.{Bus, bus_of, new_port, new_ports, cleared}
use Rattle.bus.proofs.Tables.{store_copy}

ports_length : (n : ℕ) → length (new_ports n) ≡ n * 2
ports_length zero = refl
ports_length (suc n) = omega (arith, ports_length n)

ports_snoc : (n : ℕ) → new_ports (suc n) ≡ new_ports n ++ (1 ∷ 0 ∷ [])
ports_snoc zero = refl
ports_snoc (suc n) = ap (λ (r : List ℕ). 1 ∷ 0 ∷ r) (ports_snoc n)

-- the first i ports are new
abbrev pub Begun : List ℕ → List ℕ → ℕ → Type 0
Begun l x i = (i ≤ 255) × (length x ≡ bus_words) × (x ≡ new_ports i ++ drop (i * 2) l)

spliced : (at : ℕ) (p x a b : List ℕ) → take at x ≡ a → drop (at + length p) x ≡ b → splice at p x ≡ a ++ (p ++ b)
unfolding splice
spliced at p x a b e f = rw (e, f)

pub begin_step : (l x : List ℕ) (i : ℕ) → i < 255 → length x ≡ bus_words → x ≡ new_ports i ++ drop (i * 2) l
    → set (set x (i * 2) 1) (i * 2 + 1) 0 ≡ new_ports (i + 1) ++ drop ((i + 1) * 2) l
begin_step l x i h sized e =
    let at : ℕ = i * 2 in
    let n = ports_length i in
    let z : (i + 1) * 2 ≡ at + 2 = omega arith in
    let two : List ℕ = 1 ∷ 0 ∷ [] in
    let a : set (set x at 1) (at + 1) 0 ≡ splice at two x =
    sym (splice-set (at + 1) 0 (set x at 1) (rw length-set (omega arith))) ∙ store_copy at 1 (0 ∷ []) x (omega arith) in
    let b : take at x ≡ new_ports i = ap (take at) e ∙ take_at (new_ports i) (drop at l) at n in
    let c : drop (at + 2) x ≡ drop (at + 2) l =
    sym (drop-drop 2 at x) ∙ ap (drop 2) (ap (drop at) e ∙ drop_at (new_ports i) (drop at l) at n) ∙ drop-drop 2 at l in
    let s : new_ports (i + 1) ≡ new_ports i ++ two = rw add-one (ports_snoc i) in
    a ∙ spliced at two x (new_ports i) (drop (at + 2) l) b c ∙ rw (z, s) (sym (append_assoc (new_ports i) two (drop (at + 2) l)))

pub begin_end : (l x : List ℕ) (i : ℕ) → 255 ≤ i → Begun l x i → x ≡ new_ports 255 ++ drop 510 l
begin_end l x i h b = let e : i ≡ 255 = omega arith in rw e at b.2

port_words_lem : (n j : ℕ) (z : List ℕ) → j < n → part (j * 2) 2 (new_ports n ++ z) ≡ 1 ∷ 0 ∷ []
unfolding part
port_words_lem zero j z h = absurd (not-suc-le-zero h)
port_words_lem (suc n) zero z h = refl
port_words_lem (suc n) (suc j) z h = let e : suc j * 2 ≡ suc (suc (j * 2)) = omega arith in rw e (port_words_lem n j z (le_of_suc-le-suc h))

-- the bus of words l, at opening
abbrev opened_bus : List ℕ → Bus
opened_bus l = record {
  words = l;
  ports = replicate 255 new_port;
  devices = replicate 256 None;
  lists = replicate 256 [];
  marks = replicate 256 false;
}

-- the tables of 255 ports and zeros
module _ (p z : List ℕ) (np : length p ≡ devices_at) (nz : length z ≡ 10240) (zeros : (k : ℕ) → get_or z k 0 ≡ 0)
    (ports : (j : ℕ) → j < 255 → part (j * 2) 2 (p ++ z) ≡ 1 ∷ 0 ∷ []) where
  whole : length (p ++ z) ≡ bus_words
  whole = length-append p z ∙ omega arith

  past : (k : ℕ) → devices_at ≤ k → get_or (p ++ z) k 0 ≡ 0
  past k h = let e : length p + (k - devices_at) ≡ k = omega arith in rw e at (get_or-append-add p z (k - devices_at) 0 ∙ zeros (k - devices_at))

  opened_ports : (bus_of (p ++ z)).ports ≡ replicate 255 new_port
  unfolding bus_of chunks
  opened_ports = tab_all (λ (j : ℕ). read_port (part (0 + j * 2) 2 (p ++ z))) 255 new_port (λ j h. let e : 0 + j * 2 ≡ j * 2 = omega arith in rw (e, ports j h))

  opened_devices : (bus_of (p ++ z)).devices ≡ replicate 256 None
  unfolding bus_of read_device
  opened_devices = let n = whole in chunks_all devices_at 8 read_device 256 (p ++ z) (omega arith) (λ k lo hi. past k lo)

  opened_lists : (bus_of (p ++ z)).lists ≡ replicate 256 []
  unfolding bus_of read_endpoints
  opened_lists = let n = whole in chunks_all lists_at 31 read_endpoints 256 (p ++ z) (omega arith) (λ k lo hi. past k (omega arith))

  opened_marks : (bus_of (p ++ z)).marks ≡ replicate 256 false
  unfolding bus_of
  opened_marks = let n = whole in chunks_all marks_at 1 read_mark 256 (p ++ z) (omega arith) (λ k lo hi. past k (omega arith))

  opened_tables : bus_of (p ++ z) ≡ opened_bus (p ++ z)
  unfolding bus_of
  opened_tables = rw (opened_ports, opened_devices, opened_lists, opened_marks)

open_words : (k n : ℕ) (l : List ℕ) → length l ≡ k + n → drop k (splice k (replicate n 0) l) ≡ replicate n 0
unfolding splice
open_words k n l e =
    let zeros : List ℕ = replicate n 0 in
    let m : length zeros ≡ n = length-replicate n 0 in
    let full : length l ≤ k + length zeros = omega arith in
    let past : drop (k + length zeros) l ≡ [] = drop_of_length-le l full in
    drop_at (take k l) (zeros ++ drop (k + length zeros) l) k (length-take-le k l (omega arith)) ∙ rw past (append-nil zeros)

pub opened : (l m x : List ℕ) → length l ≡ bus_words → m ≡ splice devices_at (replicate 10240 0) l → x ≡ new_ports 255 ++ drop devices_at m → bus_of x ≡ cleared
unfolding cleared
opened l m x sized e f =
    let z : List ℕ = replicate 10240 0 in
    let y : x ≡ new_ports 255 ++ z = f ∙ ap (λ (r : List ℕ). new_ports 255 ++ r) (ap (drop devices_at) e ∙ open_words devices_at 10240 l sized) in
    ap bus_of y ∙ opened_tables (new_ports 255) z (ports_length 255) (length-replicate {A = ℕ} 10240 0) (zero_at 10240) (λ j h. port_words_lem 255 j z h)
