-- Laws of a length that is cut, of a slice that is filled from its front, and of a part of a slice that is put back. Assumes nothing.
use Prim.Native.Nat.{ℕ, ◌+◌, ◌-◌, ◌<◌, ◌≤◌, min}
use mathlib.Core.Path.{◌≡◌, sym, ◌∙◌}
use mathlib.Core.List.{List}
use native.Mathlib.Omega.{arith}
use native.Mathlib.Nat.{min-eq_left, min-eq_right}
use native.Mathlib.Numerals.{add-one}
use lib.Dec.{leb}
use lib.ListN.{length-drop, length, get_or, take, drop, set, replicate, length-replicate, get_or-replicate, drop_of_length-le}
use lib.Seq.{take-suc, take-suc-set, take_all, take-length, drop-length, length-take-le}
use borrow.Author.Tests.{leb-true, leb-false}
use borrow.Rule.Slice.PartMut.{put_mid, mid_of, Post-is, mid_len}
use Rattle.chain.proofs.Chain.{caseB}
use Rattle.words.specs.Records.{splice}

pub rest_some : (l : List ℕ) (n : ℕ) → take (length l - n) (drop n l) ≡ drop n l
rest_some l n = take_all (length l - n) (drop n l) (omega (arith, length-drop n l))

-- a number that is cut at the length takes and drops as much
module _ {A : Type 0} (n : ℕ) (l : List A) where
  pub take_cut : take (min n (length l)) l ≡ take n l
  take_cut = caseB (leb n (length l))
      (λ e. rw (min-eq_left (leb-true n (length l) e)))
      (λ e. let h : length l ≤ n = omega (arith, leb-false n (length l) e) in rw (min-eq_right h, take-length l, take_all n l h))

  pub drop_cut : drop (min n (length l)) l ≡ drop n l
  drop_cut = caseB (leb n (length l))
      (λ e. rw (min-eq_left (leb-true n (length l) e)))
      (λ e. let h : length l ≤ n = omega (arith, leb-false n (length l) e) in rw (min-eq_right h, drop-length l, drop_of_length-le l h))

module _ {A : Type 0} where
  -- the first k of the n elements of l are those of s
  abbrev pub Filled : ℕ → ℕ → List A → List A → Type 0
  Filled n k s l = (k ≤ n) × (length l ≡ n) × (take k l ≡ take k s)

  copy_step : (d : A) (k : ℕ) (s l : List A) → k < length l → length l ≡ length s → take k l ≡ take k s
      → take (k + 1) (set l k (get_or s k d)) ≡ take (k + 1) s
  copy_step d k s l h n same = rw add-one (take-suc-set l k (get_or s k d) h ∙ rw same (sym (take-suc s k d (omega arith))))

  pub clear_step : (n : ℕ) (x : A) (k : ℕ) (l : List A) → k < length l → length l ≡ n → take k l ≡ take k (replicate n x)
      → take (k + 1) (set l k x) ≡ take (k + 1) (replicate n x)
  clear_step n x k l h e same =
      rw (get_or-replicate n k x x (omega arith)) at (copy_step x k (replicate n x) l h (e ∙ sym (length-replicate n x)) same)

  put_back : (at n : ℕ) (p l : List A) → length p ≡ n → put_mid at (at + n - at) l p ≡ splice at p l
  unfolding splice
  put_back at n p l e = rw (Post-is at (at + n) l (omega arith), e)

  -- the part [at, at + n) of l is lent out and comes back as q
  pub copied : (at n : ℕ) (q s l : List A) → q ≡ take n s → n ≤ length s → put_mid at (at + n - at) l q ≡ splice at (take n s) l
  copied at n q s l e h = rw e (put_back at n (take n s) l (length-take-le n s h))

  pub cleared : (at n : ℕ) (x : A) (q l : List A) → q ≡ replicate (length (mid_of at (at + n - at) l)) x → at + n ≤ length l
      → put_mid at (at + n - at) l q ≡ splice at (replicate n x) l
  cleared at n x q l e h =
      let m : length (mid_of at (at + n - at) l) ≡ n = mid_len at (at + n) l h ∙ omega arith in
      rw (e, m) (put_back at n (replicate n x) l (length-replicate n x))
