-- Laws of numbers that stop at the maximum of their w bits, and of the tallies that are such numbers. Assumes nothing.
use Rattle.std.specs.Prelude.{Result, Ok, Err}
use Rattle.std.specs.Result.{OkIff, result_unwrap_or}
use Rattle.std.proofs.lemmas.Result.{OkIff-at_ok, OkIff-at_err}
use Prim.Native.Nat.{ℕ, ◌+◌, ◌-◌, ◌^◌, ◌<◌, ◌≤◌}
use mathlib.Core.Path.{◌≡◌, sym, ◌∙◌}
use mathlib.Core.Bool.{Bool, true, false, cond, not}
use mathlib.Core.List.{List}
use native.Mathlib.Omega.{arith}
use native.Mathlib.Numerals.{add-one}
use lib.Dec.{ltb}
use lib.ListN.{length, get_or, take}
use lib.Pow.{pow_pos}
use lib.Seq.{take_all}
use borrow.Author.Tests.{lt-ltb, ltb-true, ltb-false, not-true, not-false}
use Rattle.chain.specs.Lists.{sum_by, only, count}
use Rattle.chain.proofs.Chain.{caseB}
use Rattle.chain.proofs.Lists.{sum_suc}
use Rattle.rows.specs.Table.{empty_row, is_held}
use Rattle.rows.specs.declared.{Row.Row}
use Rattle.ledger.specs.Tally.{saturate, held_length, held_count, held_bytes}

module _ (w : ℕ) where
  saturate_plain : (n : ℕ) → n < 2 ^ w → saturate w n ≡ n
  unfolding saturate
  saturate_plain n h = rw (lt-ltb n (2 ^ w) h)

  -- from the maximum on
  saturate_top : (n : ℕ) → 2 ^ w - 1 ≤ n → saturate w n ≡ 2 ^ w - 1
  unfolding saturate
  saturate_top n h =
      caseB (ltb n (2 ^ w)) (λ e. let g : n < 2 ^ w = ltb-true n (2 ^ w) e in rw e (omega arith)) (λ e. rw e)

  -- below the maximum, or at it
  by_size : {P : Type 0} (n : ℕ) → (n < 2 ^ w → saturate w n ≡ n → P) → (2 ^ w ≤ n → saturate w n ≡ 2 ^ w - 1 → P) → P
  by_size n a b =
      caseB (ltb n (2 ^ w)) (λ e. let h = ltb-true n (2 ^ w) e in a h (saturate_plain n h))
      (λ e. let h = ltb-false n (2 ^ w) e in b h (saturate_top n (omega arith)))

  -- the number itself where it has w bits, else their maximum
  pub saturate_is : (n r : ℕ) → (n < 2 ^ w → r ≡ n) → (2 ^ w ≤ n → r ≡ 2 ^ w - 1) → r ≡ saturate w n
  saturate_is n r a b = by_size n (λ h e. a h ∙ sym e) (λ h e. b h ∙ sym e)

  pub saturate_le : (n : ℕ) → saturate w n ≤ n
  saturate_le n = by_size n (λ h e. omega arith) (λ h e. omega arith)

  -- below a bound that has w bits, so is the number itself
  pub saturate_under : (n m : ℕ) → m < 2 ^ w → saturate w n < m → n < m
  saturate_under n m k l = by_size n (λ h e. omega arith) (λ h e. omega arith)

  pub saturate_add : (a b : ℕ) → saturate w (saturate w a + b) ≡ saturate w (a + b)
  saturate_add a b =
      by_size a (λ h e. rw e)
      (λ h e. rw e (saturate_top (2 ^ w - 1 + b) (omega arith) ∙ sym (saturate_top (a + b) (omega arith))))

  pub count_plain : (rows : List Row) → count is_held rows < 2 ^ w → held_count w rows ≡ count is_held rows
  unfolding held_count
  count_plain rows h = saturate_plain (count is_held rows) h

  pub bytes_plain : (rows : List Row) → sum_by held_length rows < 2 ^ w → held_bytes w rows ≡ sum_by held_length rows
  unfolding held_bytes
  bytes_plain rows h = saturate_plain (sum_by held_length rows) h

  -- a tally of f that has come to row i of n
  abbrev pub Tallied : (Row → ℕ) → List Row → ℕ → ℕ → Type 0
  Tallied f l i total = (total ≡ saturate w (sum_by f (take i l)))

  pub tally_start : 0 ≡ saturate w 0
  tally_start = sym (saturate_plain 0 (pow_pos w))

  module _ (f : Row → ℕ) (l : List Row) (n i total : ℕ) where
    pub tally_on : (next : ℕ) → i < n → n ≡ length l → total ≡ saturate w (sum_by f (take i l)) → next ≡ saturate w (total + f (get_or l i empty_row))
        → next ≡ saturate w (sum_by f (take (i + 1) l))
    tally_on next h e t s =
        s ∙ rw (t, add-one, sum_suc f l i empty_row (omega arith)) (saturate_add (sum_by f (take i l)) (f (get_or l i empty_row)))

    pub tally_end : n ≤ i → n ≡ length l → total ≡ saturate w (sum_by f (take i l)) → total ≡ saturate w (sum_by f l)
    tally_end h e t = t ∙ rw (take_all i l (omega arith))

  -- one row of a tally: the length of a held row joins the bytes
  module _ (total : ℕ) (r : Row) (held : Bool) (e : held ≡ is_held r) where
    pub bytes_kept : total < 2 ^ w → not held ≡ true → total ≡ saturate w (total + held_length r)
    bytes_kept g h = rw (sym e ∙ not-true held h) (omega (arith, saturate_plain (total + 0) (omega arith)))

    pub bytes_more : (n next : ℕ) → not held ≡ false → n ≡ r.metadata.requested_length → next ≡ saturate w (total + n) → next ≡ saturate w (total + held_length r)
    bytes_more n next h en es = rw (sym e ∙ not-false held h, ← en) es

-- the number in 8 bits, or their maximum
module _ {E : Type 0} (total : ℕ) where
  pub cut_is : (r : Result ℕ E) (x : ℕ) → OkIff r (total < 256) total → x ≡ result_unwrap_or r 255 → x ≡ saturate 8 total
  cut_is (Ok v) x k e =
      let r : Result ℕ E = Ok v in
      let z = OkIff-at_ok {E = E} r (total < 256) total v k (λ i. r) in saturate_is 8 total x (λ h. e ∙ z.1) (λ h. absurd (omega (arith, z.0)))
  cut_is (Err d) x k e =
      let r : Result ℕ E = Err d in
      let z = OkIff-at_err {E = E} r (total < 256) total d k (λ i. r) in saturate_is 8 total x (λ h. absurd (z h)) (λ h. omega arith)

-- one row more of a count
pub count_on : (p : Row → Bool) (l : List Row) (i total word : ℕ) → i < length l → total ≡ count p (take i l)
    → word ≡ cond (p (get_or l i empty_row)) 1 0 → total + word ≡ count p (take (i + 1) l)
count_on p l i total word h t ew = rw (add-one, sum_suc (only p (λ r. 1)) l i empty_row h, t, ew)

-- a count of held rows that has come to row i of n: at most i, so that 64 bits hold it, and cut once at the end
abbrev pub Counted : List Row → ℕ → ℕ → Type 0
Counted l i total = (total ≤ i) × (total ≡ count is_held (take i l))

module _ (l : List Row) (n i total : ℕ) where
  pub counted_on : (word : ℕ) → i < n → n ≡ length l → total ≡ count is_held (take i l) → word ≡ cond (is_held (get_or l i empty_row)) 1 0
      → total + word ≡ count is_held (take (i + 1) l)
  counted_on word h e t ew = count_on is_held l i total word (omega arith) t ew

  pub counted_end : (w r : ℕ) → n ≤ i → n ≡ length l → total ≡ count is_held (take i l) → r ≡ saturate w total → r ≡ held_count w l
  unfolding held_count
  counted_end w r h e t er = er ∙ rw (t, take_all i l (omega arith))
