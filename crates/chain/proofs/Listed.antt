-- Laws of fixed lists, filled from the front. Assumes nothing.
use Prim.Native.Nat.{ℕ, suc, ◌+◌, ◌<◌, ◌≤◌, min}
use mathlib.Core.Path.{◌≡◌, sym, ◌∙◌}
use mathlib.Core.List.{List, ◌++◌, map}
use native.Mathlib.Omega.{arith}
use native.Mathlib.Numerals.{add-one}
use lib.Dec.{ltb}
use lib.ListN.{length, get_or, take, drop, set, replicate, length-append, length-take, length-drop, length-map, length-replicate, drop_of_length-le, get_or-append, get_or-map}
use lib.Seq.{take-suc, drop-cons, set_at, take_all, append_snoc, take-append-le, length-take-le, get_or-take}
use borrow.Author.Tests.{ltb-true, ltb-false}
use Rattle.chain.specs.Lists.{listed}
use Rattle.chain.proofs.Chain.{caseB}
use Rattle.chain.proofs.Lists.{get_or-any}

module _ {A : Type 0} (m : ℕ) (z : A) where
  pub length-listed : (l : List A) → length (listed m z l) ≡ m
  unfolding listed
  length-listed l = simp (length-append, length-take, length-drop, length-replicate) (omega arith)

  -- the first of them
  pub listed-take : (l : List A) (n : ℕ) → n ≡ length l → n ≤ m → take n (listed m z l) ≡ l
  unfolding listed
  listed-take l n e h = rw (take_all m l (omega arith), take-append-le n l (drop (length l) (replicate m z)) (omega arith), take_all n l (omega arith))

  pub listed_at : {B : Type 0} (f : B → A) (l : List B) (k : ℕ) (d : B) → k < length l → k < m → get_or (listed m z (map f l)) k z ≡ f (get_or l k d)
  unfolding listed
  listed_at f l k d h small =
      let long : k < length (map f l) = omega (arith, length-map l f) in
      get_or-append (take m (map f l)) (drop (length (map f l)) (replicate m z)) z k (omega (arith, length-take m (map f l)))
      ∙ get_or-take m (map f l) k z small ∙ get_or-any (map f l) k z (f d) long ∙ get_or-map f l k d

  pub list_start : (x : A) (s : List A) → x ≡ z → replicate m x ≡ take 0 s ++ drop 0 (replicate m z)
  list_start x s e = rw e

  -- a loop that lists f of the elements of l has come to k
  module _ {B : Type 0} (f : B → A) (l : List B) where
    abbrev pub Listing : ℕ → List A → ℕ → Type 0
    Listing n a k = (n ≡ min (length l) m) × (k ≤ n) × (a ≡ take k (map f l) ++ drop k (replicate m z))

    pub list_on : (d : B) (n : ℕ) (a : List A) (k : ℕ) (x : A) → k < n → n ≡ min (length l) m → a ≡ take k (map f l) ++ drop k (replicate m z) → x ≡ f (get_or l k d)
        → set a k x ≡ take (k + 1) (map f l) ++ drop (k + 1) (replicate m z)
    list_on d n a k x lt en ea ex =
        let h : k < length (map f l) = omega (arith, length-map l f) in
        let front : length (take k (map f l)) ≡ k = length-take-le k (map f l) (omega arith) in
        rw (ea, add-one, drop-cons (replicate m z) k z (omega (arith, length-replicate m z)), take-suc (map f l) k (f d) h, get_or-map f l k d, ← ex)
        (set_at (take k (map f l)) (get_or (replicate m z) k z) (drop (suc k) (replicate m z)) x k front
        ∙ sym (append_snoc (take k (map f l)) x (drop (suc k) (replicate m z))))

    pub list_end : (n : ℕ) (a : List A) (k : ℕ) → n ≡ min (length l) m → k ≤ n → n ≤ k → a ≡ take k (map f l) ++ drop k (replicate m z) → a ≡ listed m z (map f l)
    unfolding listed
    list_end n a k en h o ea = ea ∙ caseB (ltb m (length l)) (λ e. long (ltb-true m (length l) e)) (λ e. short (ltb-false m (length l) e))
      where
        short : length l ≤ m → take k (map f l) ++ drop k (replicate m z) ≡ take m (map f l) ++ drop (length (map f l)) (replicate m z)
        short q =
            let e : length (map f l) ≡ k = length-map l f ∙ omega arith in
            rw (e, take_all k (map f l) (omega arith), take_all m (map f l) (omega (arith, length-map l f)))

        long : m < length l → take k (map f l) ++ drop k (replicate m z) ≡ take m (map f l) ++ drop (length (map f l)) (replicate m z)
        long q =
            let e : k ≡ m = omega arith in
            let c : length (replicate m z) ≤ m = omega (arith, length-replicate m z) in
            let b : length (replicate m z) ≤ length (map f l) = omega (arith, length-replicate m z, length-map l f) in
            rw (e, drop_of_length-le (replicate m z) c, drop_of_length-le (replicate m z) b)
