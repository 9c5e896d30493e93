-- Text that is appended, and text after text. Assumes nothing.
use Prim.Native.Nat.{ℕ, ◌+◌, ◌≤◌}
use mathlib.Core.Path.{◌≡◌, ap, ◌∙◌}
use mathlib.Core.List.{List, [], ◌++◌, append_assoc}
use native.Mathlib.Omega.{arith}
use lib.ListN.{length, take, drop, length-append, take-append-drop}
use lib.Seq.{take_at, drop_at, drop-drop, length-take-le}
use Rattle.chain.specs.After.{After, after}
use Rattle.words.specs.Records.{splice}
use Rattle.words.proofs.Records.{splice-length}
use Rattle.decimal.specs.Text.{appended}

module _ {A : Type 0} (at : ℕ) (l : List A) where
  -- a part of no length changes nothing
  splice_none : splice at [] l ≡ l
  unfolding splice
  splice_none = let e : at + 0 ≡ at = omega arith in rw e (take-append-drop at l)

  -- a part that is put where another ends: both are put as one
  pub splice_again : (a b : List A) → at + length a ≤ length l → splice (at + length a) b (splice at a l) ≡ splice at (a ++ b) l
  unfolding splice
  splice_again a b h =
      let end : length (take at l ++ a) ≡ at + length a =
      length-append (take at l) a ∙ rw (length-take-le at l (omega arith)) in
      let rest = drop (at + length a) l in
      let long : at + length (a ++ b) ≡ at + length a + length b = omega (arith, length-append a b) in
      rw (
        long,
        ← append_assoc (take at l) a rest,
        take_at (take at l ++ a) rest (at + length a) end,
        ← drop-drop (length b) (at + length a) ((take at l ++ a) ++ rest),
        drop_at (take at l ++ a) rest (at + length a) end,
        drop-drop (length b) (at + length a) l,
      )
      (simp append_assoc)

module _ (at : ℕ) (l : List ℕ) where
  -- no text leaves the list as it is
  pub appended_none : appended [] at l ≡ after at l
  appended_none = let e : at + 0 ≡ at = omega arith in rw (e, splice_none at l)

  -- text that is appended where other text ends: both are appended as one
  pub appended_again : (a b : List ℕ) → at + length a ≤ length l → appended b (at + length a) (splice at a l) ≡ appended (a ++ b) at l
  appended_again a b h =
      let long : at + length (a ++ b) ≡ at + length a + length b = omega (arith, length-append a b) in
      rw (long, splice_again at l a b h)

module _ (r at : ℕ) (w a l : List ℕ) (e : after r w ≡ appended a at l) where
  -- where text that was appended ends
  pub appended_end : r ≡ at + length a
  appended_end = ap (λ (x : After ℕ (List ℕ)). x.result) e

  -- what is appended there makes one text with it
  pub appended_then : (b : List ℕ) (s : ℕ) (v : List ℕ) → at + length (a ++ b) ≤ length l
      → (r + length b ≤ length w → after s v ≡ appended b r w) → after s v ≡ appended (a ++ b) at l
  appended_then b s v h next =
      let k = length-append a b in
      let d : w ≡ splice at a l = ap (λ (x : After ℕ (List ℕ)). x.lent) e in
      let n : length w ≡ length l = ap length d ∙ splice-length at a l (omega arith) in
      let q = next (omega (arith, appended_end)) in
      rw (appended_end, d) at q ∙ appended_again at l a b (omega arith)
