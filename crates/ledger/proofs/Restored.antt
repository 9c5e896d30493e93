-- A change of a row that another takes back: the two leave the store as it was, words and all. Assumes nothing.
use Rattle.std.specs.Prelude.{Some, Ok}
use Prim.Native.Nat.{ℕ, ◌<◌}
use mathlib.Core.Bool.{true}
use mathlib.Core.Path.{◌≡◌, refl, sym, ap, ◌∙◌}
use lib.Seq.{get_or-set_same}
use Rattle.chain.specs.After.{after}
use Rattle.chain.specs.Lists.{found_in}
use Rattle.chain.proofs.Lists.{found_set}
use Rattle.models.specs.declared.{RequestId.RequestId}
use Rattle.rows.specs.Table.{row_count, empty_row, row_in, report_of}
use Rattle.rows.specs.Store.{Store, put_in, OwnAt}
use Rattle.rows.specs.declared.{Row.Row}
use Rattle.rows.proofs.Own.{put_again}
use Rattle.rules.specs.Rules.{moved, change_row}
use Rattle.rules.specs.declared.{Change.Change}
use Rattle.ledger.specs.Apply.{apply_by, changed_at, apply_at, apply_of}
use Rattle.ledger.specs.Search.{is_at}
use Rattle.ledger.proofs.Found.{found_in_lem}

-- the row of the id is q after the change
pub apply_moved : (id : RequestId) (s : Store) (i : ℕ) (q : Row) (c : Change) → found_in (is_at id) s.rows ≡ Some i → change_row (row_in s.rows i) c ≡ moved q
    → apply_of id c s ≡ after (Ok (report_of q)) (put_in s i q)
unfolding apply_of apply_at changed_at apply_by moved
apply_moved id s i q c at there = rw (at, there)

-- and what it was after one that takes it back
module _ (id : RequestId) (s : Store) (i : ℕ) (at : found_in (is_at id) s.rows ≡ Some i) (q : Row) (same : is_at id q ≡ true) where
  found_back : found_in (is_at id) (put_in s i q).rows ≡ Some i
  unfolding put_in
  found_back = found_set (is_at id) s.rows i q empty_row at same

  row_put : row_in (put_in s i q).rows i ≡ q
  unfolding put_in
  row_put = get_or-set_same s.rows i q empty_row (found_in_lem (is_at id) s.rows (Some i) i (sym at) refl)

  pub apply_back : (c : Change) → change_row q c ≡ moved (row_in s.rows i) → i < row_count s.words → OwnAt s i
      → apply_of id c (put_in s i q) ≡ after (Ok (report_of (row_in s.rows i))) s
  apply_back c back inside own =
      apply_moved id (put_in s i q) i (row_in s.rows i) c found_back (rw row_put back)
      ∙ ap (after (Ok (report_of (row_in s.rows i)))) (put_again s i inside q own)
