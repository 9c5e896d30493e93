-- The order of ids, and lists of views by ascending id: two that weigh the same are one. Assumes nothing.
use Prim.Native.Nat.{ℕ, ◌+◌, ◌≤◌}
use mathlib.Core.Path.{◌≡◌, refl, sym, ap, ◌∙◌}
use mathlib.Core.Bool.{Bool, true, false, cond}
use mathlib.Core.List.{List, [], ◌∷◌}
use native.Mathlib.Omega.{arith}
use borrow.Author.Tests.{eq-eqb, eqb-true}
use lib.Dec.{eqb}
use Rattle.chain.specs.Lists.{sum_by, only, count}
use Rattle.chain.proofs.Chain.{caseB}
use Rattle.chain.proofs.Lists.{sum_le}
use Rattle.models.proofs.Order.{before_trans, before_asym, before_self, same_place}
use Rattle.models.specs.Requests.{request_before, same_request}
use Rattle.models.specs.declared.{RequestId.RequestId}
use Rattle.runs.proofs.Ids.{same_self}
use Rattle.history.specs.Journal.{insert_view, View}
use Rattle.history.proofs.Led.{is_view}

-- ---- lists by ascending id
abbrev earlier : View → View → Bool
earlier v u = request_before u.id v.id

abbrev pub Sorted : List View → Type 0
Sorted [] = Unit {0}
Sorted (v ∷ vs) = (count (earlier v) vs ≡ 0) × Sorted vs

pub sum_insert : (w : View → ℕ) (v : View) (l : List View) → sum_by w (insert_view v l) ≡ w v + sum_by w l
sum_insert w v [] = refl
sum_insert w v (u ∷ us) = let ih = sum_insert w v us in caseB (request_before v.id u.id) (λ e. rw e (omega (arith, ih))) (λ e. rw e (omega (arith, ih)))

pub insert_sorted : (v : View) (l : List View) → Sorted l → Sorted (insert_view v l)
insert_sorted v [] s = (refl, tt)
insert_sorted v (u ∷ us) s = caseB (request_before v.id u.id)
    (λ e. rw e (let h = before_asym v.id u.id e in
    let z : count (earlier v) (u ∷ us) ≡ 0 = rw h (omega (arith, s.0, sum_le (only (earlier v) (λ x. 1)) (only (earlier u) (λ x. 1)) us (λ x. less e x))) in
    (z, s)))
    (λ e. rw e (let z : only (earlier u) (λ x. 1) v ≡ 0 = rw e in
    (omega (arith, sum_insert (only (earlier u) (λ x. 1)) v us, z, s.0), insert_sorted v us s.1)))
  where
    less : request_before v.id u.id ≡ true → (x : View) → only (earlier v) (λ y. 1) x ≤ only (earlier u) (λ y. 1) x
    less e x = caseB (earlier v x)
        (λ y. let h = before_trans x.id v.id u.id y e in rw (y, h) (omega arith))
        (λ y. rw y (omega arith))

-- ---- a view is what numbers say of it
bit_inj : (a b : Bool) → cond {A = ℕ} a 1 0 ≡ cond b 1 0 → a ≡ b
bit_inj true true e = refl
bit_inj true false e = absurd (omega arith)
bit_inj false true e = absurd (omega arith)
bit_inj false false e = refl

pub view_ext : (v u : View) → ((w : View → ℕ) → w v ≡ w u) → v ≡ u
view_ext v u h =
    let a = h (λ z. z.id.session) in
    let b = h (λ z. z.id.generation) in
    let c = h (λ z. z.id.sequence) in
    let d = h (λ z. z.device.session) in
    let e = h (λ z. z.device.generation) in
    let f = h (λ z. z.device.slot) in
    let g = h (λ z. z.endpoint) in
    let k = h (λ z. z.requested) in
    let l = h (λ z. z.token) in
    let m = bit_inj v.failed u.failed (h (λ z. cond z.failed 1 0)) in
    λ i. record {
      id = record { session = a i; generation = b i; sequence = c i };
      device = record { session = d i; generation = e i; slot = f i };
      endpoint = g i;
      requested = k i;
      token = l i;
      failed = m i;
    }

-- ---- two lists by ascending id that weigh the same, no id twice
abbrev one : View → ℕ
one v = 1

-- the weight φ has at v, counted at its id
abbrev told : RequestId → (View → ℕ) → ℕ → View → ℕ
told x φ n z = only (is_view x) (λ y. cond (eqb (φ y) n) 1 0) z

module _ (v u : View) (l m : List View) (eq : (w : View → ℕ) → sum_by w (v ∷ l) ≡ sum_by w (u ∷ m)) (sl : Sorted (v ∷ l)) (sm : Sorted (u ∷ m))
    (once : (x : RequestId) → sum_by (only (is_view x) one) (u ∷ m) ≤ 1) where
  head_id : v.id ≡ u.id
  head_id = same_place v.id u.id low high
    where
      high : request_before u.id v.id ≡ false
      high = caseB (request_before u.id v.id)
          (λ e. let z : only (earlier v) one u ≡ 1 = rw e in
          let y : only (earlier v) one v ≡ 0 = let b = before_self v.id in rw b in
          absurd (omega (arith, eq (only (earlier v) one), z, y, sl.0)))
          (λ e. e)

      low : request_before v.id u.id ≡ false
      low = caseB (request_before v.id u.id)
          (λ e. let z : only (earlier u) one v ≡ 1 = rw e in
          let y : only (earlier u) one u ≡ 0 = let b = before_self u.id in rw b in
          absurd (omega (arith, eq (only (earlier u) one), z, y, sm.0)))
          (λ e. e)

  head_told : (φ : View → ℕ) → φ v ≡ φ u
  head_told φ = caseB (eqb (φ u) (φ v)) (λ e. sym (eqb-true (φ u) (φ v) e))
      (λ e.
      let s = same_self v.id in
      let p = eq-eqb (φ v) (φ v) refl in
      let a : told v.id φ (φ v) v ≡ 1 = rw (s, p) in
      let i : same_request u.id v.id ≡ true = ap (λ (x : RequestId). same_request x v.id) (sym head_id) ∙ s in
      let b : told v.id φ (φ v) u ≡ 0 = rw (i, e) in
      let c : only (is_view v.id) one u ≡ 1 = rw i in
      let d : sum_by (told v.id φ (φ v)) m ≤ sum_by (only (is_view v.id) one) m = sum_le (told v.id φ (φ v)) (only (is_view v.id) one) m (λ z. less z) in
      absurd (omega (arith, eq (told v.id φ (φ v)), a, b, c, d, once v.id)))
    where
      less : (z : View) → told v.id φ (φ v) z ≤ only (is_view v.id) one z
      less z = caseB (is_view v.id z)
          (λ y. rw y (caseB (eqb (φ z) (φ v)) (λ q. rw q (omega arith)) (λ q. rw q (omega arith))))
          (λ y. rw y (omega arith))

  head_same : v ≡ u
  head_same = view_ext v u head_told

pub sorted_same : (l m : List View) → ((w : View → ℕ) → sum_by w l ≡ sum_by w m) → Sorted l → Sorted m
    → ((x : RequestId) → sum_by (only (is_view x) one) m ≤ 1) → l ≡ m
sorted_same [] [] eq sl sm once = refl
sorted_same [] (u ∷ m) eq sl sm once = absurd (omega (arith, eq one))
sorted_same (v ∷ l) [] eq sl sm once = absurd (omega (arith, eq one))
sorted_same (v ∷ l) (u ∷ m) eq sl sm once =
    let h = head_same v u l m eq sl sm once in
    let rest = sorted_same l m (λ w. omega (arith, eq w, ap w h)) sl.1 sm.1 (λ x. omega (arith, once x)) in
    ap (λ (z : View). z ∷ l) h ∙ ap (λ (z : List View). u ∷ z) rest
