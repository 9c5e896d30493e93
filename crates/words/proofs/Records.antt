-- Laws of `tab`, of a part that is put into a list, and of records of w words. Assumes nothing.
use Prim.Native.Nat.{ℕ, zero, suc, ◌+◌, ◌-◌, ◌*◌, ◌<◌, ◌≤◌}
use mathlib.Core.Path.{◌≡◌, refl, sym, ap, ◌∙◌}
use mathlib.Core.List.{List, [], ◌∷◌, ◌++◌, map, append_assoc}
use mathlib.Core.Logic.{◌⊎◌, inl, inr, ⊎_elim}
use native.Mathlib.Nat.{le_of_suc-le-suc, not-suc-le-zero, suc-mul, mul-le-mul_right}
use native.Mathlib.Numerals.{add-one}
use native.Mathlib.Omega.{arith}
use lib.ListN.{length, get_or, set, take, drop, replicate, length-append, length-take, length-drop, length-replicate, get_or-replicate, take-append-drop}
use lib.Seq.{get_or-take, get_or-drop, take_at, drop_at, drop-drop, take-append-le, drop-append-le, length-take-le, set_split, ext_get_or}
use Rattle.chain.specs.Lists.{sum_by}
use Rattle.words.specs.Records.{tab, splice, part, chunks}

module _ {A : Type 0} where
  abbrev next : (ℕ → A) → ℕ → A
  next f k = f (suc k)

  pub length-tab : (f : ℕ → A) (n : ℕ) → length (tab f n) ≡ n
  length-tab f zero = refl
  length-tab f (suc n) = ap suc (length-tab (next f) n)

  pub get_or-tab : (f : ℕ → A) (n i : ℕ) (d : A) → i < n → get_or (tab f n) i d ≡ f i
  get_or-tab f zero i d h = absurd (not-suc-le-zero h)
  get_or-tab f (suc n) zero d h = refl
  get_or-tab f (suc n) (suc i) d h = get_or-tab (next f) n i d (le_of_suc-le-suc h)

  pub tab_same : (f g : ℕ → A) (n : ℕ) → ((j : ℕ) → j < n → g j ≡ f j) → tab g n ≡ tab f n
  tab_same f g zero h = refl
  tab_same f g (suc n) h =
      rw (h zero (omega arith), tab_same (next f) (next g) n (λ j l. h (suc j) (omega arith)))

  -- one element is another, the others are the same
  pub set-tab : (f g : ℕ → A) (n i : ℕ) (x : A) → i < n → g i ≡ x → ((j : ℕ) → j < n → (j ≡ i → ⊥) → g j ≡ f j)
      → tab g n ≡ set (tab f n) i x
  set-tab f g zero i x h e o = absurd (not-suc-le-zero h)
  set-tab f g (suc n) zero x h e o =
      rw (e, tab_same (next f) (next g) n (λ j l. o (suc j) (omega arith) (λ z. omega arith)))
  set-tab f g (suc n) (suc i) x h e o =
      rw (
        o zero (omega arith) (λ z. omega arith),
        set-tab (next f) (next g) n i x (le_of_suc-le-suc h) e (λ j l ne. o (suc j) (omega arith) (λ z. ne (omega arith))),
      )

  pub tab_all : (g : ℕ → A) (n : ℕ) (x : A) → ((j : ℕ) → j < n → g j ≡ x) → tab g n ≡ replicate n x
  tab_all g zero x h = refl
  tab_all g (suc n) x h = rw (h zero (omega arith), tab_all (next g) n x (λ j l. h (suc j) (omega arith)))

  pub tab_list : (l : List A) (d : A) → tab (λ (k : ℕ). get_or l k d) (length l) ≡ l
  tab_list [] d = refl
  tab_list (x ∷ l) d = ap {B = List A} (λ z. x ∷ z) (tab_list l d)

module _ {A B : Type 0} where
  pub map-tab : (g : A → B) (f : ℕ → A) (n : ℕ) → map g (tab f n) ≡ tab (λ (k : ℕ). g (f k)) n
  map-tab g f zero = refl
  map-tab g f (suc n) = ap {B = List B} (λ z. g (f 0) ∷ z) (map-tab g (next f) n)

  pub sum_tab : (p : A → ℕ) (f : ℕ → A) (q : B → ℕ) (g : ℕ → B) → ((k : ℕ) → p (f k) ≡ q (g k)) → (n : ℕ) → sum_by p (tab f n) ≡ sum_by q (tab g n)
  sum_tab p f q g h zero = refl
  sum_tab p f q g h (suc n) = omega (arith, h 0, sum_tab p (next f) q (next g) (λ k. h (suc k)) n)

pub le_or_lt : (a b : ℕ) → (a ≤ b) ⊎ (b < a)
le_or_lt zero b = inl (omega arith)
le_or_lt (suc a) zero = inr (omega arith)
le_or_lt (suc a) (suc b) = ⊎_elim (λ p. inl (omega arith)) (λ q. inr (omega arith)) (le_or_lt a b)

module _ {A : Type 0} where
  pub part_length : (at w : ℕ) (l : List A) → at + w ≤ length l → length (part at w l) ≡ w
  unfolding part
  part_length at w l h = simp (length-take, length-drop) (omega arith)

  pub part-get_or : (d : A) (at w : ℕ) (l : List A) (k : ℕ) → k < w → get_or (part at w l) k d ≡ get_or l (at + k) d
  unfolding part
  part-get_or d at w l k h = rw (get_or-take, get_or-drop)

  pub part_first : (d : A) (at w : ℕ) (l : List A) → 0 < w → get_or (part at w l) 0 d ≡ get_or l at d
  part_first d at w l h = let z : at + 0 ≡ at = omega arith in rw z at (part-get_or d at w l 0 h)

  pub part_is : (d : A) (at w : ℕ) (l q : List A) → at + w ≤ length l → length q ≡ w
      → ((i : ℕ) → i < w → get_or l (at + i) d ≡ get_or q i d) → part at w l ≡ q
  part_is d at w l q h e same =
      let n : length (part at w l) ≡ w = part_length at w l h in
      ext_get_or d (part at w l) q (n ∙ sym e) (λ i hi. part-get_or d at w l i (omega arith) ∙ same i (omega arith))

  pub part_same : (d : A) (l m : List A) (at w : ℕ) → at + w ≤ length l → length m ≡ length l
      → ((k : ℕ) → at ≤ k → k < at + w → get_or m k d ≡ get_or l k d) → part at w m ≡ part at w l
  part_same d l m at w h e same =
      part_is d at w m (part at w l) (omega arith) (part_length at w l h)
      (λ i hi. same (at + i) (omega arith) (omega arith) ∙ sym (part-get_or d at w l i hi))

  pub part_all : (d x : A) (at w : ℕ) (l : List A) → at + w ≤ length l
      → ((k : ℕ) → at ≤ k → k < at + w → get_or l k d ≡ x) → part at w l ≡ replicate w x
  part_all d x at w l h same =
      part_is d at w l (replicate w x) h (length-replicate w x)
      (λ i hi. same (at + i) (omega arith) (omega arith) ∙ sym (get_or-replicate w i x d hi))

  part_front : (a v : ℕ) (xs ys : List A) → a + v ≤ length xs → part a v (xs ++ ys) ≡ part a v xs
  unfolding part
  part_front a v xs ys h =
      rw (drop-append-le a xs ys (omega arith), take-append-le v (drop a xs) ys (rw length-drop (omega arith)))

  pub splice-set : (at : ℕ) (x : A) (l : List A) → at < length l → splice at (x ∷ []) l ≡ set l at x
  unfolding splice
  splice-set at x l h = rw add-one (sym (set_split l at x h))

module _ {A : Type 0} (at : ℕ) (p l : List A) (fits : at + length p ≤ length l) where
  pub splice-length : length (splice at p l) ≡ length l
  unfolding splice
  splice-length = simp (length-append, length-take, length-drop) (omega arith)

  front : length (take at l) ≡ at
  front = length-take-le at l (omega arith)

  pub splice-part : part at (length p) (splice at p l) ≡ p
  unfolding splice part
  splice-part = rw (drop_at (take at l) (p ++ drop (at + length p) l) at front, take_at p (drop (at + length p) l) (length p) refl)

  rest : drop (at + length p) (splice at p l) ≡ drop (at + length p) l
  unfolding splice
  rest = rw (← append_assoc) (drop_at (take at l ++ p) (drop (at + length p) l) (at + length p) (length-append (take at l) p ∙ rw front))

  part_beyond : (v k : ℕ) → part (at + length p + k) v (splice at p l) ≡ part (at + length p + k) v l
  unfolding part
  part_beyond v k = rw (← drop-drop k (at + length p) (splice at p l), rest, drop-drop)

  -- a part that the splice does not meet
  pub part-splice_apart : (a v : ℕ) → (a + v ≤ at) ⊎ (at + length p ≤ a) → part a v (splice at p l) ≡ part a v l
  unfolding splice
  part-splice_apart a v (inl h) =
      let inside : a + v ≤ length (take at l) = rw front h in
      part_front a v (take at l) (p ++ drop (at + length p) l) inside ∙ sym (part_front a v (take at l) (drop at l) inside)
      ∙ ap (part a v) (take-append-drop at l)
  part-splice_apart a v (inr h) =
      let e : at + length p + (a - (at + length p)) ≡ a = omega arith in
      rw e at (part_beyond v (a - (at + length p)))

module _ {A : Type 0} (d : A) (at : ℕ) (p l : List A) (fits : at + length p ≤ length l) (m : ℕ) where
  apart : (m + 1 ≤ at) ⊎ (at + length p ≤ m) → get_or (splice at p l) m d ≡ get_or l m d
  apart h =
      let e : m + 0 ≡ m = omega arith in
      rw e at
      (sym (part-get_or d m 1 (splice at p l) 0 (omega arith)) ∙ ap (λ (x : List A). get_or x 0 d) (part-splice_apart at p l fits m 1 h)
      ∙ part-get_or d m 1 l 0 (omega arith))

  pub splice_before : m < at → get_or (splice at p l) m d ≡ get_or l m d
  splice_before h = apart (inl (omega arith))

  pub splice_after : at + length p ≤ m → get_or (splice at p l) m d ≡ get_or l m d
  splice_after h = apart (inr h)

  pub splice_in : at ≤ m → m < at + length p → get_or (splice at p l) m d ≡ get_or p (m - at) d
  splice_in lo hi =
      let e : at + (m - at) ≡ m = omega arith in
      rw e at
      (sym (part-get_or d at (length p) (splice at p l) (m - at) (omega arith)) ∙ ap (λ (x : List A). get_or x (m - at) d) (splice-part at p l fits))

-- a record lies in the room of n of them
pub record_in : (w n i : ℕ) → i < n → i * w + w ≤ n * w
record_in w n i h = rw (suc-mul i w) at (mul-le-mul_right w h)

pub record_apart : (w i j : ℕ) → (j ≡ i → ⊥) → (j * w + w ≤ i * w) ⊎ (i * w + w ≤ j * w)
record_apart w i j ne = ⊎_elim (λ h. inr (record_in w j i (omega arith))) (λ h. inl (record_in w i j h)) (le_or_lt i j)

module _ {A : Type 0} (base w : ℕ) (f : List ℕ → A) (n : ℕ) where
  abbrev reader : List ℕ → ℕ → A
  reader l i = f (part (base + i * w) w l)

  pub length-chunks : (l : List ℕ) → length (chunks base w f n l) ≡ n
  unfolding chunks
  length-chunks l = length-tab (reader l) n

  pub chunks_at : (l : List ℕ) (i : ℕ) (d : A) → i < n → get_or (chunks base w f n l) i d ≡ f (part (base + i * w) w l)
  unfolding chunks
  chunks_at l i d h = get_or-tab (reader l) n i d h

  pub chunks_put : (l : List ℕ) (i : ℕ) (p : List ℕ) → i < n → base + n * w ≤ length l → length p ≡ w
      → chunks base w f n (splice (base + i * w) p l) ≡ set (chunks base w f n l) i (f p)
  unfolding chunks
  chunks_put l i p h fits e =
      let at = base + i * w in
      let inside : at + length p ≤ length l = omega (arith, record_in w n i h) in
      set-tab (reader l) (reader (splice at p l)) n i (f p) h
      (ap f (ap (λ (v : ℕ). part at v (splice at p l)) (sym e) ∙ splice-part at p l inside))
      (λ j hj ne. ap f (part-splice_apart at p l inside (base + j * w) w
      (⊎_elim (λ q. inl (omega arith)) (λ q. inr (omega arith)) (record_apart w i j ne))))

  pub chunks_kept : (l : List ℕ) (at : ℕ) (p : List ℕ) → at + length p ≤ length l
      → (at + length p ≤ base) ⊎ (base + n * w ≤ at) → chunks base w f n (splice at p l) ≡ chunks base w f n l
  unfolding chunks
  chunks_kept l at p fits off =
      tab_same (reader l) (reader (splice at p l)) n
      (λ j hj. ap f (part-splice_apart at p l fits (base + j * w) w
      (⊎_elim (λ q. inr (omega arith)) (λ q. inl (omega (arith, record_in w n j hj))) off)))

  pub chunks_all : (l : List ℕ) → base + n * w ≤ length l → ((k : ℕ) → base ≤ k → k < base + n * w → get_or l k 0 ≡ 0)
      → chunks base w f n l ≡ replicate n (f (replicate w 0))
  unfolding chunks
  chunks_all l fits zeros =
      tab_all (reader l) n (f (replicate w 0))
      (λ j hj. let last : j * w + w ≤ n * w = record_in w n j hj in
      ap f (part_all 0 0 (base + j * w) w l (omega arith) (λ k lo hi. zeros k (omega arith) (omega arith))))

  -- records in a stretch that was cleared
  pub chunks_cleared : (l : List ℕ) (at m : ℕ) → at + m ≤ length l → at ≤ base → base + n * w ≤ at + m
      → chunks base w f n (splice at (replicate m 0) l) ≡ replicate n (f (replicate w 0))
  chunks_cleared l at m fits lo hi =
      let zeros : List ℕ = replicate m 0 in
      let e : length zeros ≡ m = length-replicate m 0 in
      let room : at + length zeros ≤ length l = omega arith in
      chunks_all (splice at zeros l) (rw (splice-length at zeros l room) (omega arith))
      (λ k a b. splice_in 0 at zeros l room k (omega arith) (omega arith) ∙ get_or-replicate m (k - at) 0 0 (omega arith))

-- every word of zeros is 0, and so is every word past them
pub zero_at : (n k : ℕ) → ◌≡◌ {A = ℕ} (get_or (replicate n 0) k 0) 0
zero_at zero k = refl
zero_at (suc n) zero = refl
zero_at (suc n) (suc k) = zero_at n k
