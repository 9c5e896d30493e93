-- One law for each way out of a reply's entries: its premises are the facts in hand there. Assumes nothing.
use Rattle.std.specs.Prelude.{Result, Ok, Err, ⊤}
use Prim.Native.Nat.{ℕ, suc, ◌+◌, ◌-◌, ◌*◌, ◌<◌, ◌≤◌}
use mathlib.Core.Path.{◌≡◌, sym, ap, ◌∙◌}
use mathlib.Core.Bool.{true}
use mathlib.Core.List.{List, [], ◌∷◌}
use native.Mathlib.Omega.{arith}
use native.Mathlib.Numerals.{add-one}
use lib.Dec.{ltb}
use lib.ListN.{length, get_or, take, drop, get_or-eq_default, drop_of_length-le}
use lib.Seq.{drop-cons, drop-drop}
use borrow.Author.Tests.{ltb-true, ltb-false, eqb-true}
use mir.Syntax.{w64}
use mir.Val.{Fits}
use Rattle.chain.specs.After.{After, after}
use Rattle.chain.specs.Lists.{sum_by}
use Rattle.chain.proofs.Chain.{caseB, both}
use Rattle.words.specs.Records.{tab}
use Rattle.words.proofs.Parts.{rest_some}
use Rattle.words.proofs.Records.{record_in, length-tab, get_or-tab}
use Rattle.models.specs.Refusals.{refusal_of, invalid_completion}
use Rattle.models.specs.declared.{BackendCompletion.BackendCompletion, Refusal.Refusal, RequestReport.RequestReport}
use Rattle.rows.specs.Table.{empty_row, read_rows, row_count}
use Rattle.rows.specs.Store.{Store, store_of}
use Rattle.rows.specs.declared.{Row.Row}
use Rattle.rows.proofs.Rows.{length-read_rows}
use Rattle.rules.specs.declared.{Change.Change}
use Rattle.ledger.specs.Apply.{changed_at}
use Rattle.checks.specs.Completion.{test_completion}
use Rattle.session.specs.Lent.{Memory, memory}
use Rattle.session.specs.Sizes.{data_at}
use Rattle.session.specs.declared.{Size.Size}
use Rattle.session.proofs.sizes.Laws.{place_in_lem}
use Rattle.scope.specs.Scope.{slot_of, meant}
use Rattle.scope.specs.Returned.{completion_words, brought_at, returned_at, read_returned, given_of, lists_agree}
use Rattle.scope.specs.declared.{returned.Brought.Brought}
use Rattle.recovery.specs.Entries.{row_completed_by, tested_by, complete_one, aborted_by, abort_one, onward_by, itself, complete_all, abort_all}
use Rattle.recovery.specs.Places.{Below, Fit}
use Rattle.checks.specs.declared.{completion.CompletionFault.CompletionFault, completion.ValidCompletion.ValidCompletion}

-- ---- a completion of row i
module _ (z : Size) (i : ℕ) (bytes area : List ℕ) (a : Result RequestReport Refusal) (left : Store) (o : After (Result RequestReport Refusal) Store) (eo : after a left ≡ o) where
  pub completed_no : (r : Refusal) (y : Result ⊤ Refusal) → a ≡ Err r → y ≡ Err r → after y (memory left area) ≡ row_completed_by o z i bytes area
  unfolding row_completed_by
  completed_no r y e ey = rw (ey, ← eo, e)

  pub completed_to : (x : RequestReport) (next : List ℕ) → a ≡ Ok x → next ≡ data_at z i bytes area
      → after (Ok tt) (memory left next) ≡ row_completed_by o z i bytes area
  unfolding row_completed_by
  completed_to x next e ea = rw (← eo, e, ea)

module _ (z : Size) (i : ℕ) (c : BackendCompletion) (bytes : List ℕ) (m : Memory) (row : Row) (t : Result ValidCompletion CompletionFault)
    (er : row ≡ get_or m.store.rows i empty_row) (et : t ≡ test_completion c (length bytes) row.metadata.requested_length) where
  pub one_missing : (r : Refusal) → t ≡ (Err CompletionFault.MissingLength) → r ≡ refusal_of 47 → after (Err r) m ≡ complete_one z i c bytes m
  unfolding complete_one tested_by
  one_missing r e ex = rw (ex, ← er, ← et, e)

  pub one_invalid : (r : Refusal) → t ≡ (Err CompletionFault.Invalid) → r ≡ invalid_completion c.completion_code → after (Err r) m ≡ complete_one z i c bytes m
  unfolding complete_one tested_by
  one_invalid r e ex = rw (ex, ← er, ← et, e)

  pub one_valid : (v : ValidCompletion) (y : After (Result ⊤ Refusal) Memory) → t ≡ Ok v
      → y ≡ row_completed_by (changed_at i (Change.Complete v.actual_length v.completion_code) m.store) z i bytes m.area → y ≡ complete_one z i c bytes m
  unfolding complete_one tested_by
  one_valid v y e ey = ey ∙ rw (← er, ← et, e)

-- ---- an abort of row i
module _ (i : ℕ) (store : Store) (a : Result RequestReport Refusal) (left : Store) (eo : after a left ≡ changed_at i Change.ConfirmAbort store) where
  pub abort_no : (r : Refusal) (y : Result ⊤ Refusal) → a ≡ Err r → y ≡ Err r → after y left ≡ abort_one i store
  unfolding abort_one aborted_by
  abort_no r y e ey = rw (ey, ← eo, e)

  pub abort_to : (x : RequestReport) → a ≡ Ok x → after (Ok tt) left ≡ abort_one i store
  unfolding abort_one aborted_by
  abort_to x e = rw (← eo, e)

-- ---- the row that a token means
pub meant_in : (w affected own : List ℕ) (t i : ℕ) → Below w affected → i ≡ meant affected own t → i < length (read_rows w)
meant_in w affected own t i b e = rw e (caseB (ltb (slot_of own t) (length affected))
    (λ y. b.inside (slot_of own t) (ltb-true (slot_of own t) (length affected) y))
    (λ y. let q : length affected ≤ slot_of own t = ltb-false (slot_of own t) (length affected) y in rw (get_or-eq_default affected 0 q) b.some))

-- ---- the places that a walk visits
module _ (z : Size) (w area : List ℕ) (f : Fit z w area) (i : ℕ) (h : i < length (read_rows w)) where
  pub row_room : i * z.row_bytes + z.row_bytes ≤ length area
  row_room = place_in_lem z w (length area) f.sizes i h

pub fit_kept : (z : Size) (w area w₀ area₀ : List ℕ) → length w ≡ length w₀ → length area ≡ length area₀ → Fit z w₀ area₀ → Fit z w area
fit_kept z w area w₀ area₀ e f x = record { sizes = rw (e, f) x.sizes }

pub same_count : (w w₀ : List ℕ) → length w ≡ length w₀ → length (read_rows w) ≡ length (read_rows w₀)
unfolding row_count
same_count w w₀ e = length-read_rows w ∙ rw e (sym (length-read_rows w₀))

pub below_kept : (w w₀ places : List ℕ) → length w ≡ length w₀ → Below w₀ places → Below w places
below_kept w w₀ places e b = let z = same_count w w₀ e in record { some = omega (arith, b.some); inside = λ k h. omega (arith, b.inside k h) }

pub place_below : (w w₀ places : List ℕ) (k : ℕ) → length w ≡ length w₀ → k < length places → Below w₀ places → get_or places k 0 < length (read_rows w)
place_below w w₀ places k e lt b = (below_kept w w₀ places e b).inside k lt

-- ---- the loop over the aborts
abbrev pub Aborting : List ℕ → List ℕ → List ℕ → ℕ → Type 0
Aborting is w₀ w k = (length w ≡ length w₀) × (abort_all itself (drop k is) (store_of w) ≡ abort_all itself is (store_of w₀))

module _ (is w₀ w : List ℕ) (k : ℕ) (h : abort_all itself (drop k is) (store_of w) ≡ abort_all itself is (store_of w₀)) where
  module _ (lt : k < length is) (v : Result ⊤ Refusal) (w' : List ℕ) (ev : after v (store_of w') ≡ abort_one (get_or is k 0) (store_of w)) where
    abort_next : onward_by v (after v (store_of w')) (λ (s : Store). abort_all itself (drop (suc k) is) s) ≡ abort_all itself is (store_of w₀)
    abort_next =
        ap (λ (x : After (Result ⊤ Refusal) Store). onward_by x.result x (λ (s : Store). abort_all itself (drop (suc k) is) s)) ev ∙ (rw (drop-cons is k 0 lt) at h)

    pub abort_on : v ≡ (Ok tt) → abort_all itself (drop (k + 1) is) (store_of w') ≡ abort_all itself is (store_of w₀)
    abort_on q = rw add-one (rw q at abort_next)

    pub abort_stop : (r : Refusal) (y : Result ⊤ Refusal) → v ≡ Err r → y ≡ Err r → after y (store_of w') ≡ abort_all itself is (store_of w₀)
    abort_stop r y q ey = rw ey (rw q at abort_next)

  pub abort_end : length is ≤ k → after (Ok tt) (store_of w) ≡ abort_all itself is (store_of w₀)
  abort_end q = let z : drop k is ≡ [] = drop_of_length-le is q in rw z at h

-- ---- the loop over the completions
module _ (places words : List ℕ) where
  entries_length : length (read_returned places words) ≡ length places
  unfolding read_returned
  entries_length = length-tab (returned_at places words) (length places)

  entries_drop : (k : ℕ) → k < length places → drop k (read_returned places words) ≡ returned_at places words k ∷ drop (suc k) (read_returned places words)
  unfolding read_returned
  entries_drop k lt =
      drop-cons (read_returned places words) k (returned_at places words k) (omega (arith, entries_length))
      ∙ rw (get_or-tab (returned_at places words) (length places) k (returned_at places words k) lt)

-- the words of n completions, and their data lengths, where the lists agree
module _ (n : ℕ) (words : List ℕ) where
  abbrev pub left : ℕ → ℕ
  left k = sum_by given_of (drop k (tab (brought_at words) n))

  pub agreed : (size : ℕ) → lists_agree n words size ≡ true → (length words ≡ n * completion_words) × (left 0 ≡ size)
  unfolding lists_agree
  agreed size e = let p = both _ _ e in (eqb-true _ _ p.0, eqb-true _ _ p.1)

  left_next : (k : ℕ) → k < n → left k ≡ (brought_at words k).given + left (suc k)
  left_next k lt =
      rw (drop-cons (tab (brought_at words) n) k (brought_at words k) (omega (arith, length-tab (brought_at words) n)), get_or-tab (brought_at words) n k (brought_at words k) lt)

abbrev pub Completing : Size → List ℕ → List ℕ → List ℕ → List ℕ → List ℕ → List ℕ → List ℕ → ℕ → ℕ → Type 0
Completing z places words bytes w₀ area₀ w area at k =
    (length w ≡ length w₀) × (length area ≡ length area₀) × (at + left (length places) words k ≡ length bytes)
    × (complete_all z itself (drop k (read_returned places words)) (drop at bytes) (memory (store_of w) area) ≡ complete_all z itself (read_returned places words) bytes (memory (store_of w₀) area₀))

pub begin_given : (n size : ℕ) (words : List ℕ) → lists_agree n words size ≡ true → 0 + left n words 0 ≡ size
begin_given n size words f = omega (arith, (agreed n words size f).1)

module _ (words : List ℕ) (n k : ℕ) (lt : k < n) where
  pub words_in : (size : ℕ) → lists_agree n words size ≡ true → k * completion_words + completion_words ≤ length words
  words_in size f = rw (agreed n words size f).0 (record_in completion_words n k lt)

  module _ (size at : ℕ) (g : at + left n words k ≡ size) (b : Brought) (eb : b ≡ brought_at words k) where
    pub given_on : at + b.given + left n words (k + 1) ≡ size
    given_on = let y = ap given_of eb in rw add-one (omega (arith, left_next n words k lt, y, g))

    pub given_fits : Fits w64 size → Fits w64 (at + b.given)
    given_fits f = omega (arith, f, given_on)

module _ (z : Size) (places words bytes w₀ area₀ w area : List ℕ) (at k : ℕ)
    (h : complete_all z itself (drop k (read_returned places words)) (drop at bytes) (memory (store_of w) area) ≡ complete_all z itself (read_returned places words) bytes (memory (store_of w₀) area₀)) where
  abbrev whole : After (Result ⊤ Refusal) Memory
  whole = complete_all z itself (read_returned places words) bytes (memory (store_of w₀) area₀)

  module _ (lt : k < length places) (b : Brought) (v : Result ⊤ Refusal) (w' area' : List ℕ) (eb : b ≡ brought_at words k)
      (ev : after v (memory (store_of w') area')
      ≡ complete_one z (get_or places k 0) b.completion (take b.given (take (length bytes - at) (drop at bytes))) (memory (store_of w) area)) where
    complete_next : onward_by v (after v (memory (store_of w') area')) (λ (m : Memory). complete_all z itself (drop (suc k) (read_returned places words)) (drop (at + b.given) bytes) m) ≡ whole
    complete_next =
        let one : after v (memory (store_of w') area')
        ≡ complete_one z (get_or places k 0) b.completion (take b.given (drop at bytes)) (memory (store_of w) area) = ev ∙ rw (rest_some bytes at) in
        rw (← drop-drop b.given at bytes)
        (ap (λ (x : After (Result ⊤ Refusal) Memory). onward_by x.result x (λ (m : Memory). complete_all z itself (drop (suc k) (read_returned places words)) (drop b.given (drop at bytes)) m)) one
        ∙ (rw (entries_drop places words k lt, ← eb) at h))

    pub complete_on : v ≡ (Ok tt) → complete_all z itself (drop (k + 1) (read_returned places words)) (drop (at + b.given) bytes) (memory (store_of w') area') ≡ whole
    complete_on q = rw add-one (rw q at complete_next)

    pub complete_stop : (r : Refusal) (y : Result ⊤ Refusal) → v ≡ Err r → y ≡ Err r → after y (memory (store_of w') area') ≡ whole
    complete_stop r y q ey = rw ey (rw q at complete_next)

  pub complete_end : length places ≤ k → after (Ok tt) (memory (store_of w) area) ≡ whole
  complete_end o =
      let q : length (read_returned places words) ≤ k = omega (arith, entries_length places words) in
      let y : drop k (read_returned places words) ≡ [] = drop_of_length-le (read_returned places words) q in
      rw y at h
