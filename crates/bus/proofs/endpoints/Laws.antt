-- The endpoints of a slot: set, and searched. Assumes nothing.
use Rattle.std.specs.Prelude.{Result, Ok, Err, ⊤}
use Prim.Native.Nat.{ℕ, ◌+◌, ◌-◌, ◌*◌, ◌<◌, ◌≤◌, min}
use mathlib.Core.Path.{◌≡◌, refl, sym, ◌∙◌}
use mathlib.Core.Bool.{Bool}
use mathlib.Core.List.{List, [], ◌∷◌}
use native.Mathlib.Omega.{arith}
use lib.ListN.{length, get_or, set, take, drop, length-take, length-drop}
use lib.Seq.{get_or-take, get_or-drop, ext_get_or}
use lib.Dec.{eqb}
use borrow.Author.Tests.{lt-ltb, le-ltb, eq-eqb, ne_eqb, eqb-true, eqb-false}
use Rattle.chain.specs.After.{After, after}
use Rattle.chain.specs.Lists.{any_in}
use Rattle.chain.proofs.Chain.{caseB, takes, passes}
use Rattle.chain.proofs.Lists.{in_cons}
use Rattle.std.specs.List.{list_any}
use Rattle.words.specs.Records.{splice, part}
use Rattle.words.proofs.Records.{part-get_or, part_first, part_length, chunks_at}
use Rattle.models.specs.Refusals.{refusal_of}
use Rattle.models.specs.declared.{Refusal.Refusal, TransferType.TransferType}
use Rattle.bus.specs.Layout.{lists_at, bus_words, endpoint_word, read_endpoints}
use Rattle.bus.specs.Tables.{Bus, bus_of, endpoints_at}
use Rattle.bus.specs.Endpoints.{has_endpoint, set_endpoints}
use Rattle.bus.proofs.Tables.{put_endpoints_lem}

pub endpoints_over : (slot : ℕ) (e : List ℕ) (b : Bus) (r : Refusal) → 30 < length e → r ≡ refusal_of 53
    → after (Err r) b ≡ set_endpoints slot e b
unfolding set_endpoints
endpoints_over slot e b r h f = takes (After (Result ⊤ Refusal) Bus) _ _ _ _ (lt-ltb _ _ h) (rw f)

pub endpoints_set : (slot : ℕ) (e l x : List ℕ) → length l ≡ bus_words → slot < 256 → length e ≤ 30
    → x ≡ splice (lists_at + slot * 31 + 1) (take (length e) e) (set l (lists_at + slot * 31) (length e))
    → after (Ok tt) (bus_of x) ≡ set_endpoints slot e (bus_of l)
unfolding set_endpoints
endpoints_set slot e l x sized h few f = passes (After (Result ⊤ Refusal) Bus) _ _ _ _ (le-ltb _ _ few) (rw (put_endpoints_lem l x slot e sized h few f))

-- a list has as many endpoints as its count, 30 at the most
listed_length : (q : List ℕ) → length q ≡ 31 → length (read_endpoints q) ≡ min (get_or q 0 0) 30
unfolding read_endpoints
listed_length q n =
    let m : length (take 30 (drop 1 q)) ≡ 30 = length-take 30 (drop 1 q) ∙ rw (length-drop 1 q, n) in
    length-take (get_or q 0 0) (take 30 (drop 1 q)) ∙ rw m

listed_at : (q : List ℕ) (i : ℕ) → i < get_or q 0 0 → i < 30 → get_or (read_endpoints q) i 0 ≡ get_or q (1 + i) 0
unfolding read_endpoints
listed_at q i h k = rw (get_or-take (get_or q 0 0) (take 30 (drop 1 q)) i 0 h, get_or-take 30 (drop 1 q) i 0 k, get_or-drop 1 q i 0)

eqb_swap : (a b : ℕ) → eqb a b ≡ eqb b a
eqb_swap a b = caseB (eqb a b)
    (λ e. e ∙ sym (eq-eqb b a (sym (eqb-true a b e))))
    (λ e. e ∙ sym (ne_eqb b a (λ h. eqb-false a b e (sym h))))

-- the library's test of a list is this one
any_is : (w : ℕ) (l : List ℕ) → list_any (λ (y : ℕ). eqb y w) l ≡ any_in (eqb w) l
any_is w [] = refl
any_is w (x ∷ l) = rw (eqb_swap x w, any_is w l) (sym (in_cons w x l))

-- the list of a slot
module _ (l : List ℕ) (slot : ℕ) (sized : length l ≡ bus_words) (h : slot < 256) where
  abbrev at : ℕ
  at = lists_at + slot * 31

  endpoints_are : endpoints_at (bus_of l) slot ≡ read_endpoints (part at 31 l)
  unfolding bus_of
  endpoints_are = chunks_at lists_at 31 read_endpoints 256 l slot [] h

  count_is : get_or (part at 31 l) 0 0 ≡ get_or l at 0
  count_is = part_first 0 at 31 l (omega arith)

  pub endpoints_length : length (endpoints_at (bus_of l) slot) ≡ min (get_or l at 0) 30
  endpoints_length = rw (endpoints_are, ← count_is) (listed_length (part at 31 l) (part_length at 31 l (omega arith)))

  endpoint_at : (i : ℕ) → i < min (get_or l at 0) 30 → get_or (endpoints_at (bus_of l) slot) i 0 ≡ get_or l (at + 1 + i) 0
  endpoint_at i k =
      let s : at + (1 + i) ≡ at + 1 + i = omega arith in
      let c = count_is in
      rw (endpoints_are, listed_at (part at 31 l) i (omega arith) (omega arith), part-get_or 0 at 31 l (1 + i) (omega arith), s)

  -- the words of the list are the slot's endpoints
  listed : (n : ℕ) → n ≡ min (get_or l at 0) 30 → take (at + 1 + n - (at + 1)) (drop (at + 1) l) ≡ endpoints_at (bus_of l) slot
  listed n en =
      let k : at + 1 + n - (at + 1) ≡ n = omega arith in
      let m = endpoints_length in
      let long : length (take n (drop (at + 1) l)) ≡ n = simp (length-take, length-drop) (omega arith) in
      rw k
      (ext_get_or 0 (take n (drop (at + 1) l)) (endpoints_at (bus_of l) slot) (omega arith)
      (λ i h. get_or-take n (drop (at + 1) l) i 0 (omega arith) ∙ get_or-drop (at + 1) l i 0 ∙ sym (endpoint_at i (omega arith))))

  pub endpoint_listed : (w n : ℕ) (x : Bool) (address : ℕ) (type : TransferType) → w ≡ endpoint_word address type → n ≡ min (get_or l at 0) 30
      → x ≡ list_any (λ (y : ℕ). eqb y w) (take (at + 1 + n - (at + 1)) (drop (at + 1) l)) → x ≡ has_endpoint slot address type (bus_of l)
  endpoint_listed w n x address type ew en e = rw (← ew, ← listed n en) (e ∙ any_is w _)
