-- Rows and entries agree: the held rows weigh as the entries without a release, whatever is weighed; and what a change of a row with
-- its entry does to that. Assumes nothing.
use Prim.Native.Nat.{ℕ, ◌+◌, ◌≤◌, ◌<◌}
use mathlib.Core.Path.{◌≡◌, refl, sym, ap, ◌∙◌}
use mathlib.Core.Bool.{Bool, true, false, cond, ◌&&◌}
use mathlib.Core.List.{List}
use native.Mathlib.Omega.{arith}
use lib.Dec.{ltb}
use lib.ListN.{length, set}
use Rattle.chain.specs.Lists.{sum_by, only, count, find}
use Rattle.chain.proofs.Lists.{sum_eq, sum_set, sum_one, count_pos, find_hit, find_some}
use Rattle.models.specs.Requests.{device_may_access, same_request}
use Rattle.models.specs.declared.{RequestId.RequestId}
use Rattle.rows.specs.Table.{empty_row, is_held, row_in}
use Rattle.rows.specs.declared.{Row.Row}
use Rattle.ledger.specs.Search.{is_at}
use Rattle.history.specs.Journal.{Entry, is_open, is_entry, entry_of, at_entry, no_entry, View}
use Rattle.history.specs.Claim.{row_view}

-- ---- weights

abbrev pub row_w : (View → ℕ) → Row → ℕ
row_w w r = only is_held (λ x. w (row_view x)) r

abbrev pub entry_w : (View → ℕ) → Entry → ℕ
entry_w w e = only is_open (λ x. w x.view) e

abbrev pub each : View → ℕ
each v = 1

abbrev pub length_of : View → ℕ
length_of v = v.requested

-- the weight w at the id x alone
abbrev pub is_view : RequestId → View → Bool
is_view x v = same_request v.id x

abbrev pub at : RequestId → (View → ℕ) → View → ℕ
at x w v = only (is_view x) w v

abbrev pub twice : Entry → Bool
twice e = ltb 1 e.releases

pub record Led (rows : List Row) (entries : List Entry) : Type 0 where
  pub same : (w : View → ℕ) → sum_by (row_w w) rows ≡ sum_by (entry_w w) entries
  pub known : (x : RequestId) → count (is_at x) rows ≤ count (is_entry x) entries
  pub once : (x : RequestId) → count (is_entry x) entries ≤ 1
  pub single : count twice entries ≡ 0

-- ---- small facts

pub cond_and : (a b : Bool) (n : ℕ) → cond (a && b) n 0 ≡ cond a (cond b n 0) 0
cond_and true b n = refl
cond_and false b n = refl

held_at : (u d s : Bool) (n : ℕ) → cond (u && d) (cond s n 0) 0 ≡ cond (u && s) (cond (u && d) n 0) 0
held_at true true s n = refl
held_at true false true n = refl
held_at true false false n = refl
held_at false d s n = refl

pub row_at_lem : (x : RequestId) (w : View → ℕ) (r : Row) → row_w (at x w) r ≡ only (is_at x) (row_w w) r
unfolding is_held is_at
row_at_lem x w r = held_at r.used (device_may_access r.state) (same_request r.id x) (w (row_view r))

open_at : (o s : Bool) (n : ℕ) → cond o (cond s n 0) 0 ≡ cond s (cond o n 0) 0
open_at true s n = refl
open_at false true n = refl
open_at false false n = refl

pub entry_at : (x : RequestId) (w : View → ℕ) (e : Entry) → entry_w (at x w) e ≡ only (is_entry x) (entry_w w) e
entry_at x w e = open_at (is_open e) (is_entry x e) (w e.view)

-- what is not held weighs nothing
pub row_none : (w : View → ℕ) (r : Row) → is_held r ≡ false → row_w w r ≡ 0
row_none w r e = rw e

-- ---- the row of an id, where it is in the store, and its entry
module _ (rows : List Row) (entries : List Entry) (k : Led rows entries) (x : RequestId) (i : ℕ) (lt : i < length rows)
    (hit : is_at x (row_in rows i) ≡ true) where
  pub lone : count (is_at x) rows ≤ 1
  lone = omega (arith, k.known x, k.once x)

  rows_at : (w : View → ℕ) → sum_by (row_w (at x w)) rows ≡ row_w w (row_in rows i)
  rows_at w = sum_eq (row_w (at x w)) (only (is_at x) (row_w w)) rows (row_at_lem x w) ∙ sum_one (is_at x) (row_w w) rows i empty_row lt hit lone

  pub known_in : find (is_entry x) entries < length entries
  known_in = find_some (is_entry x) entries (omega (arith, k.known x, count_pos (is_at x) rows i empty_row lt hit))

  -- what the entry of a row says is what the row says
  pub entry_is : (w : View → ℕ) → entry_w w (entry_of x entries) ≡ row_w w (row_in rows i)
  entry_is w =
      sym (sum_one (is_entry x) (entry_w w) entries (find (is_entry x) entries) no_entry known_in (find_hit (is_entry x) entries no_entry known_in) (k.once x))
      ∙ sum_eq (only (is_entry x) (entry_w w)) (entry_w (at x w)) entries (λ e. sym (entry_at x w e))
      ∙ sym (k.same (at x w)) ∙ rows_at w

-- ---- a row and its entry change
pub record Changed (r r' : Row) (e e' : Entry) : Type 0 where
  pub same : (w : View → ℕ) → entry_w w e' ≡ row_w w r'
  pub row_id : (x : RequestId) → only (is_at x) (λ y. 1) r' ≤ only (is_at x) (λ y. 1) r
  pub entry_id : (x : RequestId) → is_entry x e' ≡ is_entry x e
  pub single : twice e' ≡ false

module _ (rows : List Row) (entries : List Entry) (k : Led rows entries) (x : RequestId) (i : ℕ) (lt : i < length rows)
    (hit : is_at x (row_in rows i) ≡ true) (r' : Row) (f : Entry → Entry)
    (c : Changed (row_in rows i) r' (entry_of x entries) (f (entry_of x entries))) where
  abbrev place : ℕ
  place = find (is_entry x) entries

  sum_entry : (h : Entry → ℕ) → sum_by h (at_entry x f entries) + h (entry_of x entries) ≡ sum_by h entries + h (f (entry_of x entries))
  sum_entry h = sum_set h entries place (f (entry_of x entries)) no_entry (known_in rows entries k x i lt hit)

  pub ids_kept : (y : RequestId) → count (is_entry y) (at_entry x f entries) ≡ count (is_entry y) entries
  ids_kept y = omega (arith, sum_entry (only (is_entry y) (λ e. 1)), ap (λ (b : Bool). cond {A = ℕ} b 1 0) (c.entry_id y))

  none_twice : only twice (λ e. 1) (f (entry_of x entries)) ≡ 0
  none_twice = ap (λ (b : Bool). cond {A = ℕ} b 1 0) c.single

  pub led_at : Led (set rows i r') (at_entry x f entries)
  led_at = record {
    same = λ w. omega (arith, sum_set (row_w w) rows i r' empty_row lt, sum_entry (entry_w w), c.same w, k.same w, entry_is rows entries k x i lt hit w);
    known = λ y. omega (arith, sum_set (only (is_at y) (λ z. 1)) rows i r' empty_row lt, c.row_id y, k.known y, ids_kept y);
    once = λ y. omega (arith, k.once y, ids_kept y);
    single = omega (arith, sum_entry (only twice (λ e. 1)), none_twice, k.single);
  }

-- ---- a row changes, and not its weight: no entry changes
pub record Alike (r r' : Row) : Type 0 where
  pub weight : (w : View → ℕ) → row_w w r' ≡ row_w w r
  pub row_id : (x : RequestId) → only (is_at x) (λ y. 1) r' ≤ only (is_at x) (λ y. 1) r

module _ (rows : List Row) (entries : List Entry) (k : Led rows entries) (i : ℕ) (lt : i < length rows) (r' : Row)
    (c : Alike (row_in rows i) r') where
  pub led_set : Led (set rows i r') entries
  led_set = record {
    same = λ w. omega (arith, sum_set (row_w w) rows i r' empty_row lt, c.weight w, k.same w);
    known = λ y. omega (arith, sum_set (only (is_at y) (λ z. 1)) rows i r' empty_row lt, c.row_id y, k.known y);
    once = k.once;
    single = k.single;
  }
