-- Sums, counts, searches and changes over a list, for any type of element. Assumes nothing.
use Rattle.std.specs.Prelude.{ℕ, suc, ◌+◌, Bool, true, cond, ◌&&◌, List, [], ◌∷◌, ◌++◌, length, take, drop, replicate, eqb, ltb, Option, Some, None}

module _ {A : Type 0} where
  abbrev pub sum_by : (A → ℕ) → List A → ℕ
  sum_by f [] = 0
  sum_by f (x ∷ xs) = f x + sum_by f xs

  -- f where the test passes, else 0
  abbrev pub only : (A → Bool) → (A → ℕ) → A → ℕ
  only p f x = cond (p x) (f x) 0

  -- how many elements pass the test
  abbrev pub count : (A → Bool) → List A → ℕ
  count p l = sum_by (only p (λ x. 1)) l

  -- f at every element that passes the test
  abbrev pub map_at : (A → Bool) → (A → A) → List A → List A
  map_at p f [] = []
  map_at p f (x ∷ xs) = cond (p x) (f x) x ∷ map_at p f xs

  -- the index of the first element that passes the test; the length where none does
  abbrev pub find : (A → Bool) → List A → ℕ
  find p [] = 0
  find p (x ∷ xs) = cond (p x) 0 (suc (find p xs))

  -- whether one passes
  abbrev pub any_in : (A → Bool) → List A → Bool
  any_in p l = ltb (find p l) (length l)

  -- the answer of a search
  unfoldable pub found_in : (A → Bool) → List A → Option ℕ
  found_in p l = cond (any_in p l) (Some (find p l)) None

  -- a fixed list of n: the first n of l, and z in the places that are left
  unfoldable pub listed : ℕ → A → List A → List A
  listed n z l = take n l ++ drop (length l) (replicate n z)

-- whether a number is in a list, and whether all of one list are in another
abbrev pub is_among : ℕ → List ℕ → Bool
is_among n l = any_in (eqb n) l

abbrev pub all_in : List ℕ → List ℕ → Bool
all_in [] l = true
all_in (n ∷ ns) l = is_among n l && all_in ns l
