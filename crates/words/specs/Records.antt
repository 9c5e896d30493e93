-- Records of a fixed number of words, one after the other in a list of words. Assumes nothing.
use Rattle.std.specs.Prelude.{ℕ, zero, suc, ◌+◌, ◌*◌, min, List, [], ◌∷◌, ◌++◌, length, take, drop}

-- f 0, f 1, .. f (n - 1)
abbrev pub tab : {A : Type 0} → (ℕ → A) → ℕ → List A
tab f zero = []
tab f (suc n) = f zero ∷ tab (λ (k : ℕ). f (suc k)) n

-- l with p in the place of what stands from `at` on
unfoldable pub splice : {A : Type 0} → ℕ → List A → List A → List A
splice at p l = take at l ++ (p ++ drop (at + length p) l)

-- l with the first of p in the place of what stands from `at` on, cut at the end of a room of n
abbrev pub splice_cut : {A : Type 0} → ℕ → ℕ → List A → List A → List A
splice_cut at n p l = splice at (take (min (length p) n) p) l

-- the w words from `at` on
unfoldable pub part : {A : Type 0} → ℕ → ℕ → List A → List A
part at w l = take w (drop at l)

-- n records of w words, the first of which starts at `base`, each read by f
unfoldable pub chunks : {A : Type 0} → ℕ → ℕ → (List ℕ → A) → ℕ → List ℕ → List A
chunks base w f n l = tab (λ (i : ℕ). f (part (base + i * w) w l)) n
