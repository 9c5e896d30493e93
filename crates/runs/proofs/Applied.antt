-- What the entries of a recovery's reply, all applied, leave of each row. Assumes nothing.
use Rattle.std.specs.Prelude.{Result, Ok, Err, ⊤}
use Prim.Native.Nat.{ℕ, ◌<◌}
use mathlib.Core.Path.{◌≡◌, refl, sym, ap, ◌∙◌, subst}
use mathlib.Core.Bool.{true, false, cond, not}
use mathlib.Core.List.{List, [], ◌∷◌, ◌++◌}
use native.Mathlib.Omega.{arith}
use borrow.Author.Tests.{ne_eqb, eqb-true, eqb-false}
use lib.Dec.{eqb}
use lib.ListN.{length, set, take, drop, length-set}
use lib.Seq.{get_or-set_same, get_or-set_other}
use Rattle.chain.specs.Lists.{is_among}
use Rattle.chain.specs.After.{After}
use Rattle.chain.proofs.Chain.{caseB, if_by, or_false}
use Rattle.chain.proofs.Lists.{in_cons}
use Rattle.models.specs.Requests.{device_may_access}
use Rattle.models.specs.declared.{DeviceId.DeviceId, Refusal.Refusal, RequestReport.RequestReport, RequestState.RequestState}
use Rattle.models.specs.declared.RequestState.TheVariants.{Pending, Completed, Failed, Aborted}
use Rattle.rows.specs.Store.{Store, put_in}
use Rattle.rows.specs.InPlace.{completed_row}
use Rattle.rows.specs.Table.{empty_row, row_in, token_in}
use Rattle.rows.specs.declared.{Row.Row}
use Rattle.rules.specs.Rules.{change_row, completed, while_pending, abort_confirmed, moved, with_state, refused_by}
use Rattle.session.specs.Lent.{Memory, memory}
use Rattle.session.specs.declared.{Size.Size}
use Rattle.scope.specs.Returned.{Returned}
use Rattle.ledger.specs.Apply.{apply_by, changed_at}
use Rattle.recovery.specs.Entries.{row_completed_by, tested_by, complete_one, aborted_by, abort_one}
use Rattle.recovery.specs.RecoveryReply.{ReplyLists, apply_all}
use Rattle.runs.specs.Completed.{completed_as}
use Rattle.runs.proofs.Affected.{meant_below, own_token, own_tokens, place_meant}
use Rattle.runs.proofs.Finish.{TestSound, test_sound}
use Rattle.runs.proofs.Entries.{Onward, entries_all}
use Rattle.runs.proofs.Tokens.{tokens_in, Each, Distinct, returned_in, reply_tokens}
use Rattle.rules.specs.declared.{Step.Step}
use Rattle.checks.specs.declared.{completion.CompletionFault.CompletionFault, completion.ValidCompletion.ValidCompletion}

-- ---- one entry
abbrev SetBy : Result ⊤ Refusal → List Row → List Row → Type 0
SetBy (Err r) l m = Unit {0}
SetBy (Ok tt) l m = m ≡ l

module _ (store : Store) (i : ℕ) where
  abbrev Sets : After (Result ⊤ Refusal) Memory → Row → Type 0
  Sets o r = SetBy o.result (set store.rows i r) o.lent.store.rows

  module _ (z : Size) (bytes area : List ℕ) where
    row_set : (st : RequestState) (q : Row) → Sets (row_completed_by (apply_by (while_pending st (moved q)) i store) z i bytes area) q
    unfolding row_completed_by apply_by while_pending moved put_in
    row_set (Pending cancel late) q = refl
    row_set (Completed a b c) q = tt
    row_set (Failed a b c) q = tt
    row_set Aborted q = tt

    test_set : (e : Returned) (requested : ℕ) (p : Result ValidCompletion CompletionFault) → TestSound e.brought.completion requested p
        → Sets (tested_by p e.brought.completion.completion_code z i bytes (memory store area)) (completed_as e (row_in store.rows i))
    unfolding tested_by changed_at change_row completed
    test_set e requested (Err CompletionFault.MissingLength) s = tt
    test_set e requested (Err CompletionFault.Invalid) s = tt
    test_set e requested (Ok v) s =
        let ea = s.0 in
        let en = s.1 in
        rw (sym ea, sym en) (row_set (row_in store.rows i).state (completed_row (row_in store.rows i) v.actual_length v.completion_code))

    complete_set : (e : Returned) → Sets (complete_one z i e.brought.completion bytes (memory store area)) (completed_as e (row_in store.rows i))
    unfolding complete_one
    complete_set e = test_set e _ _ (test_sound e.brought.completion (length bytes) (row_in store.rows i).metadata.requested_length)

  abort_set : SetBy (abort_one i store).result (set store.rows i (with_state (row_in store.rows i) Aborted)) (abort_one i store).lent.rows
  unfolding abort_one changed_at aborted_by apply_by change_row abort_confirmed moved put_in
  abort_set =
      if_by (λ (m : Result Step Refusal). SetBy (aborted_by (apply_by m i store)).result (set store.rows i (with_state (row_in store.rows i) Aborted)) (aborted_by (apply_by m i store)).lent.rows)
      (refused_by 43) (not (device_may_access (row_in store.rows i).state)) _ (λ e. tt) (λ e. refl)

-- ---- all of them: each row by the tokens that mean it
module _ (place : ℕ → ℕ) where
  -- the row that a token means has it
  abbrev pub Named : List Row → ℕ → Type 0
  Named rows t = (place t < length rows) × (token_in rows (place t) ≡ t)

  abbrev pub by_completions : List Returned → ℕ → Row → Row
  by_completions [] i r = r
  by_completions (e ∷ es) i r = cond (eqb (place e.token) i) (completed_as e r) (by_completions es i r)

  abbrev pub by_aborts : List ℕ → ℕ → Row → Row
  by_aborts [] i r = r
  by_aborts (t ∷ ts) i r = cond (eqb (place t) i) (with_state r Aborted) (by_aborts ts i r)

  -- a row's token stays
  named_after : (rows : List Row) (j : ℕ) (s : RequestState) → j < length rows → (ts : List ℕ) → Each (Named rows) ts → Each (Named (set rows j (with_state (row_in rows j) s))) ts
  named_after rows j s h [] a = tt
  named_after rows j s h (t ∷ ts) a = (
    (
      omega (arith, a.0.0, length-set rows j (with_state (row_in rows j) s)),
      caseB (eqb (place t) j)
          (λ e. let z = eqb-true (place t) j e in
          ap (λ (n : ℕ). (row_in (set rows j (with_state (row_in rows j) s)) n).token) z
          ∙ ap (λ (r : Row). r.token) (get_or-set_same rows j (with_state (row_in rows j) s) empty_row h)
          ∙ ap (λ (n : ℕ). token_in rows n) (sym z) ∙ a.0.1)
          (λ e. ap (λ (r : Row). r.token) (get_or-set_other rows j (place t) (with_state (row_in rows j) s) empty_row (eqb-false (place t) j e)) ∙ a.0.1),
    ),
    named_after rows j s h ts a.1,
  )

  -- tokens that are not t mean other rows
  module _ (rows : List Row) (t : ℕ) (own : token_in rows (place t) ≡ t) where
    elsewhere : (u : ℕ) → eqb t u ≡ false → token_in rows (place u) ≡ u → eqb (place u) (place t) ≡ false
    elsewhere u n e = ne_eqb (place u) (place t) (λ z. eqb-false t u n (sym own ∙ ap (token_in rows) (sym z) ∙ e))

    far_completions : (es : List Returned) (us : List ℕ) → is_among t (tokens_in es ++ us) ≡ false → Each (Named rows) (tokens_in es ++ us) → (r : Row) → by_completions es (place t) r ≡ r
    far_completions [] us n a r = refl
    far_completions (e ∷ es) us n a r =
        let p = or_false (eqb t e.token) (is_among t (tokens_in es ++ us)) (sym (in_cons t e.token (tokens_in es ++ us)) ∙ n) in
        let q = elsewhere e.token p.0 a.0.1 in
        rw q (far_completions es us p.1 a.1 r)

    far_aborts : (ts : List ℕ) → is_among t ts ≡ false → Each (Named rows) ts → (r : Row) → by_aborts ts (place t) r ≡ r
    far_aborts [] n a r = refl
    far_aborts (u ∷ us) n a r =
        let p = or_false (eqb t u) (is_among t us) (sym (in_cons t u us) ∙ n) in
        let q = elsewhere u p.0 a.0.1 in
        rw q (far_aborts us p.1 a.1 r)

  -- what the entries make of each row
  pub record Applied (rows rows' : List Row) (es : List Returned) (aborted : List ℕ) : Type 0 where
    pub each : (i : ℕ) → row_in rows' i ≡ by_aborts aborted i (by_completions es i (row_in rows i))
    pub size : length rows' ≡ length rows

  -- one row takes a state
  module _ (old : List Row) (p : ℕ) (h : p < length old) (s : RequestState) (new : List Row) (q : new ≡ set old p (with_state (row_in old p) s)) where
    at_p : row_in new p ≡ with_state (row_in old p) s
    at_p = ap (λ (l : List Row). row_in l p) q ∙ get_or-set_same old p (with_state (row_in old p) s) empty_row h

    other : (i : ℕ) → eqb p i ≡ false → row_in new i ≡ row_in old i
    other i y = ap (λ (l : List Row). row_in l i) q ∙ get_or-set_other old p i (with_state (row_in old p) s) empty_row (λ z. eqb-false p i y (sym z))

    same_size : length new ≡ length old
    same_size = ap (λ (l : List Row). length l) q ∙ length-set old p (with_state (row_in old p) s)

    still_named : (ts : List ℕ) → Each (Named old) ts → Each (Named new) ts
    still_named ts a = subst (λ (l : List Row). Each (Named l) ts) (sym q) (named_after old p s h ts a)

  module _ (rows : List Row) (whole : List Returned) (aborted : List ℕ) where
    -- the entries that are left make of the rows where the walk has come what all of them make of `rows`
    record Left (es : List Returned) (ts : List ℕ) (now : List Row) : Type 0 where
      pub each : (i : ℕ) → by_aborts ts i (by_completions es i (row_in now i)) ≡ by_aborts aborted i (by_completions whole i (row_in rows i))
      pub size : length now ≡ length rows
      pub named : Each (Named now) (tokens_in es ++ ts)
      pub distinct : Distinct (tokens_in es ++ ts)

    completed_left : (e : Returned) (es : List Returned) (ts : List ℕ) (old new : List Row) → Left (e ∷ es) ts old
        → new ≡ set old (place e.token) (completed_as e (row_in old (place e.token))) → Left es ts new
    unfolding completed_row
    completed_left e es ts old new k q =
        let p : ℕ = place e.token in
        let s : RequestState = (completed_as e (row_in old p)).state in
        let h : p < length old = k.named.0.0 in
        let here = still_named old p h s new q (tokens_in es ++ ts) k.named.1 in
        let token : token_in new p ≡ e.token = ap (λ (r : Row). r.token) (at_p old p h s new q) ∙ k.named.0.1 in
        let one : (i : ℕ) → by_completions es i (row_in new i) ≡ by_completions (e ∷ es) i (row_in old i) = λ i.
        caseB (eqb p i)
        (λ y.
        let z = eqb-true p i y in
        rw y (ap (λ (n : ℕ). by_completions es n (row_in new n)) (sym z) ∙ far_completions new e.token token es ts k.distinct.0 here (row_in new p)
        ∙ at_p old p h s new q ∙ ap (λ (n : ℕ). completed_as e (row_in old n)) z))
        (λ y. rw y (ap (by_completions es i) (other old p h s new q i y))) in
        record { each = λ i. ap (by_aborts ts i) (one i) ∙ k.each i; size = same_size old p h s new q ∙ k.size; named = here; distinct = k.distinct.1 }

    aborted_left : (t : ℕ) (ts : List ℕ) (old new : List Row) → Left [] (t ∷ ts) old → new ≡ set old (place t) (with_state (row_in old (place t)) Aborted) → Left [] ts new
    aborted_left t ts old new k q =
        let p : ℕ = place t in
        let h : p < length old = k.named.0.0 in
        let here = still_named old p h Aborted new q ts k.named.1 in
        let token : token_in new p ≡ t = ap (λ (r : Row). r.token) (at_p old p h Aborted new q) ∙ k.named.0.1 in
        let one : (i : ℕ) → by_aborts ts i (row_in new i) ≡ by_aborts (t ∷ ts) i (row_in old i) = λ i.
        caseB (eqb p i)
        (λ y.
        let z = eqb-true p i y in
        rw y (ap (λ (n : ℕ). by_aborts ts n (row_in new n)) (sym z) ∙ far_aborts new t token ts k.distinct.0 here (row_in new p)
        ∙ at_p old p h Aborted new q ∙ ap (λ (n : ℕ). with_state (row_in old n) Aborted) z))
        (λ y. rw y (ap (by_aborts ts i) (other old p h Aborted new q i y))) in
        record { each = λ i. one i ∙ k.each i; size = same_size old p h Aborted new q ∙ k.size; named = here; distinct = k.distinct.1 }

  pub applied_rows : (z : Size) (l : ReplyLists) (m : Memory) → Each (Named m.store.rows) (reply_tokens l)
      → Distinct (reply_tokens l) → (apply_all z place l m).result ≡ (Ok tt)
      → Applied m.store.rows (apply_all z place l m).lent.store.rows (returned_in l) l.aborted
  applied_rows z l m a d =
      entries_all place z J P (λ bytes n k e. record { each = k.each; size = k.size })
      (λ e rest ts bytes n k.
      let p : ℕ = place e.token in
      let one : After (Result ⊤ Refusal) Memory = complete_one z p e.brought.completion (take e.brought.given bytes) n in
      on one.result rest ts (drop e.brought.given bytes) (set n.store.rows p (completed_as e (row_in n.store.rows p))) one.lent
      (complete_set n.store p z (take e.brought.given bytes) n.area e) (completed_left m.store.rows es l.aborted e rest ts n.store.rows one.lent.store.rows k))
      (λ t ts bytes n k.
      on (abort_one (place t) n.store).result [] ts bytes (set n.store.rows (place t) (with_state (row_in n.store.rows (place t)) Aborted)) (memory (abort_one (place t) n.store).lent n.area)
      (abort_set n.store (place t)) (aborted_left m.store.rows es l.aborted t ts n.store.rows (abort_one (place t) n.store).lent.rows k))
      l m (record { each = λ i. refl; size = refl; named = a; distinct = d })
    where
      es : List Returned
      es = returned_in l

      J : List Returned → List ℕ → List ℕ → Memory → Type 0
      J rest ts bytes n = Left m.store.rows es l.aborted rest ts n.store.rows

      P : Result ⊤ Refusal → Memory → Type 0
      P v n = v ≡ (Ok tt) → Applied m.store.rows n.store.rows es l.aborted

      on : (v : Result ⊤ Refusal) (rest : List Returned) (ts bytes : List ℕ) (rows : List Row) (n : Memory) → SetBy v rows n.store.rows
          → (n.store.rows ≡ rows → Left m.store.rows es l.aborted rest ts n.store.rows) → Onward place z J P v rest ts bytes n
      on (Err r) rest ts bytes rows n q k = λ e. let z : ◌≡◌ {A = ℕ} 0 1 = cc in absurd (omega arith)
      on (Ok tt) rest ts bytes rows n q k = k q

-- a token of an affected row means that row
pub named_row : (d : DeviceId) (endpoint : ℕ) (rows : List Row) (t : ℕ) → is_among t (own_tokens d endpoint rows) ≡ true → Named (place_meant d endpoint rows) rows t
named_row d endpoint rows t e = (meant_below d endpoint rows t e, own_token d endpoint rows t e)
