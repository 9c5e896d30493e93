-- Laws of the SETUP packet's bytes. Assumes nothing.
use Prim.Native.Nat.{ℕ, ◌+◌, ◌*◌, ◌^◌, ◌<◌}
use mathlib.Core.Bool.{true, false}
use mathlib.Core.List.{List, [], ◌∷◌}
use mathlib.Core.Path.{◌≡◌, refl, ap, ap₂, sym, ◌∙◌}
use native.Mathlib.Omega.{arith}
use native.Mathlib.Nat.{add_comm, div-one}
use lib.Dec.{eqb}
use lib.Pow.{recompose}
use lib.ListN.{length}
use borrow.Author.Tests.{eq-eqb, eqb-true}
use Rattle.chain.proofs.Chain.{caseB}
use Rattle.models.specs.declared.{SetupPacket.SetupPacket}
use Rattle.standards.specs.Fields.{field}
use Rattle.standards.specs.Setup.{setup_bytes, read_packet, same_bytes}

pub setup_length : (s : SetupPacket) → length (setup_bytes s) ≡ 8
unfolding setup_bytes
setup_length s = refl

-- how the bytes are put together
module _ (s : SetupPacket) (v₀ v₁ i₀ i₁ l₀ l₁ : ℕ) where
  pub bytes-are :
      v₀ ≡ field 0 8 s.value
      → v₁ ≡ field 8 8 s.value
      → i₀ ≡ field 0 8 s.index
      → i₁ ≡ field 8 8 s.index
      → l₀ ≡ field 0 8 s.length
      → l₁ ≡ field 8 8 s.length
      → s.request_type ∷ s.request ∷ v₀ ∷ v₁ ∷ i₀ ∷ i₁ ∷ l₀ ∷ l₁ ∷ [] ≡ setup_bytes s
  unfolding setup_bytes
  bytes-are a b c d e f = rw (a, b, c, d, e, f)

-- the fields of two bytes fit them
pub record Fitting (s : SetupPacket) : Type 0 where
  pub value_fits : s.value < 2 ^ 16
  pub index_fits : s.index < 2 ^ 16
  pub length_fits : s.length < 2 ^ 16

-- a number of two bytes is made of them again
word_back : (x : ℕ) → x < 2 ^ 16 → field 0 8 x + field 8 8 x * 2 ^ 8 ≡ x
word_back x h = rw (div-one x) (add_comm _ _ ∙ recompose 8 8 h)

-- a packet is read back from its bytes
pub packet_back : (s : SetupPacket) → Fitting s → read_packet (setup_bytes s) ≡ s
unfolding read_packet setup_bytes
packet_back s h =
    rw (word_back s.value h.value_fits, word_back s.index h.index_fits, word_back s.length h.length_fits)

-- so two packets with the same bytes are the same
pub same_packet : (s t : SetupPacket) → Fitting s → Fitting t → setup_bytes s ≡ setup_bytes t → s ≡ t
same_packet s t hs ht e = sym (packet_back s hs) ∙ ap read_packet e ∙ packet_back t ht

-- the comparison finds whether two lists are the same
pub same_self : (a : List ℕ) → same_bytes a a ≡ true
same_self [] = refl
same_self (x ∷ a) = rw (eq-eqb x x refl) (same_self a)

never : {P : Type 0} → false ≡ true → P
never e = let z : ◌≡◌ {A = ℕ} 0 1 = cc in absurd (omega arith)

pub same_told : (a b : List ℕ) → same_bytes a b ≡ true → a ≡ b
same_told [] [] = λ e. refl
same_told [] (y ∷ b) = never
same_told (x ∷ a) [] = never
same_told (x ∷ a) (y ∷ b) =
    caseB (eqb x y) (λ t. rw t λ e. ap₂ ◌∷◌ (eqb-true x y t) (same_told a b e)) (λ t. rw t λ e. never e)
