-- A reply's entries, applied to rows and to entries of the journal alike: by induction over them. Assumes nothing.
use Rattle.std.specs.Prelude.{Result, Ok, Err, ⊤}
use Prim.Native.Nat.{ℕ, ◌<◌}
use mathlib.Core.Path.{◌≡◌, refl, sym, ap, ◌∙◌, subst}
use mathlib.Core.Bool.{Bool, true, false, cond, not, ◌&&◌, ◌||◌, true≢false, false≢true}
use mathlib.Core.List.{List, [], ◌∷◌, ◌++◌}
use native.Mathlib.Omega.{arith}
use borrow.Author.Tests.{eq-eqb}
use lib.Dec.{eqb}
use lib.ListN.{length, set, take, drop, length-set}
use lib.Seq.{get_or-set_other}
use Rattle.chain.specs.Chain.{◌if◌else◌}
use Rattle.chain.specs.Lists.{count, is_among}
use Rattle.chain.specs.After.{After}
use Rattle.chain.proofs.Chain.{both, or_false}
use Rattle.chain.proofs.Lists.{in_cons}
use Rattle.models.specs.Requests.{device_may_access, is_uncertain_failure}
use Rattle.models.specs.declared.{BackendCompletion.BackendCompletion, Refusal.Refusal, RequestId.RequestId, RequestState.RequestState}
use Rattle.models.specs.declared.RequestState.TheVariants.{Pending, Completed, Failed, Aborted}
use Rattle.rows.specs.Store.{put_in}
use Rattle.rows.specs.InPlace.{cancel_in, completed_row}
use Rattle.rows.specs.Table.{empty_row, is_held, row_in}
use Rattle.rows.specs.declared.{Row.Row}
use Rattle.ledger.specs.Search.{is_at}
use Rattle.rules.specs.Rules.{change_row, completed, while_pending, abort_confirmed, moved, with_state}
use Rattle.checks.specs.Completion.{test_completion}
use Rattle.scope.specs.Returned.{Returned}
use Rattle.session.specs.Lent.{Memory, memory}
use Rattle.session.specs.declared.{Size.Size}
use Rattle.ledger.specs.Apply.{apply_by, changed_at}
use Rattle.recovery.specs.Entries.{row_completed_by, tested_by, complete_one, aborted_by, abort_one}
use Rattle.recovery.specs.RecoveryReply.{ReplyLists, apply_all}
use Rattle.runs.proofs.Ids.{same_self}
use Rattle.runs.proofs.Entries.{Onward, entries_all}
use Rattle.runs.proofs.Tokens.{tokens_in, Each, Distinct, reply_tokens}
use Rattle.history.specs.Journal.{Entry, is_entry, entry_of, at_entry, release, ReleasedTo, released_to, completes_by, goes_on, completes_all, aborted_after, releases_all, View}
use Rattle.history.specs.Claim.{row_view}
use Rattle.history.proofs.Led.{Led, Changed, led_at, ids_kept, entry_is}
use Rattle.history.proofs.Changes.{settle_change}
use Rattle.checks.specs.declared.{completion.CompletionFault.CompletionFault, completion.ValidCompletion.ValidCompletion}

-- a refusal of an entry: not 2, 3, 49, 45 or 46, and not the ledger's 43
abbrev pub is_late : ℕ → Bool
is_late n = not (eqb n 2 || eqb n 3 || eqb n 49 || eqb n 45 || eqb n 46) && not (eqb n 43)

abbrev pub LateBy : Result ⊤ Refusal → Type 0
LateBy (Err r) = is_late r.number ≡ true
LateBy (Ok tt) = Unit {0}

-- what a list of entries leaves of rows and journal
pub record Kept (rows : List Row) (entries : List Entry) (rows' : List Row) (entries' : List Entry) : Type 0 where
  pub led : Led rows' entries'
  pub ids : (x : RequestId) → count (is_entry x) entries' ≡ count (is_entry x) entries

kept_on : (rows : List Row) (entries : List Entry) (rows' : List Row) (entries' : List Entry) (rows'' : List Row) (entries'' : List Entry)
    → Kept rows entries rows' entries' → Kept rows' entries' rows'' entries'' → Kept rows entries rows'' entries''
kept_on rows entries rows' entries' rows'' entries'' a b = record { led = b.led; ids = λ x. b.ids x ∙ a.ids x }

module _ (place : ℕ → ℕ) (view : ℕ → View) where
  -- the row that a token means is held, and is what the journal's entry says
  pub record Ready (rows : List Row) (t : ℕ) : Type 0 where
    pub below : place t < length rows
    pub held : is_held (row_in rows (place t)) ≡ true
    pub is : row_view (row_in rows (place t)) ≡ view t
    pub token : (view t).token ≡ t

  abbrev pub AllReady : List Row → List ℕ → Type 0
  AllReady rows ts = Each (Ready rows) ts

  apart : (rows : List Row) (t u : ℕ) → Ready rows t → Ready rows u → place u ≡ place t → u ≡ t
  apart rows t u a b e =
      sym b.token ∙ ap (λ (v : View). v.token) (sym b.is ∙ ap (λ (i : ℕ). row_view (row_in rows i)) e ∙ a.is) ∙ a.token

  ready_after : (rows : List Row) (t : ℕ) (r : Row) → Ready rows t → (ts : List ℕ) → is_among t ts ≡ false → AllReady rows ts → AllReady (set rows (place t) r) ts
  ready_after rows t r a [] n k = tt
  ready_after rows t r a (u ∷ us) n k =
      let c = in_cons t u us in
      let q : (eqb t u || is_among t us) ≡ false = sym c ∙ n in
      let p = or_false (eqb t u) (is_among t us) q in
      let far : place u ≡ place t → ⊥ = λ e. true≢false (sym (eq-eqb t u (sym (apart rows t u a k.0 e))) ∙ p.0) in
      let same : row_in (set rows (place t) r) (place u) ≡ row_in rows (place u) = get_or-set_other rows (place t) (place u) r empty_row far in (
        record {
          below = omega (arith, k.0.below, length-set rows (place t) r);
          held = ap is_held same ∙ k.0.held;
          is = ap row_view same ∙ k.0.is;
          token = k.0.token;
        },
        ready_after rows t r a us p.1 k.1,
      )

  -- ---- one row, to a state that is not held, and its entry, released
  module _ (rows : List Row) (entries : List Entry) (k : Led rows entries) (t : ℕ) (a : Ready rows t) where
    hit : is_at (view t).id (row_in rows (place t)) ≡ true
    unfolding is_at is_held
    hit =
        let u = (both (row_in rows (place t)).used (device_may_access (row_in rows (place t)).state) a.held).0 in
        let i : (row_in rows (place t)).id ≡ (view t).id = ap (λ (v : View). v.id) a.is in
        rw (u, i) (same_self (view t).id)

    changed : (s : RequestState) → device_may_access s ≡ false
        → Changed (row_in rows (place t)) (with_state (row_in rows (place t)) s) (entry_of (view t).id entries) (release (entry_of (view t).id entries))
    changed s h = settle_change (row_in rows (place t)) (entry_of (view t).id entries) a.held (entry_is rows entries k (view t).id (place t) a.below hit) s h

    pub release_kept : (s : RequestState) → device_may_access s ≡ false
        → Kept rows entries (set rows (place t) (with_state (row_in rows (place t)) s)) (at_entry (view t).id release entries)
    release_kept s h = record {
      led = led_at rows entries k (view t).id (place t) a.below hit (with_state (row_in rows (place t)) s) release (changed s h);
      ids = ids_kept rows entries k (view t).id (place t) a.below hit (with_state (row_in rows (place t)) s) release (changed s h);
    }

  -- ---- one entry of the reply: refused on both sides, or a row changed and its entry released
  abbrev Together : List Row → List Entry → ℕ → Result ⊤ Refusal → List Row → ReleasedTo → Type 0
  Together rows entries t (Err r) rows' q = (rows' ≡ rows) × (q ≡ released_to true entries) × (is_late r.number ≡ true)
  Together rows entries t (Ok tt) rows' q =
      (s : RequestState) × (device_may_access s ≡ false) × (rows' ≡ set rows (place t) (with_state (row_in rows (place t)) s)) × (q ≡ released_to false (at_entry (view t).id release entries))

  module _ (m : Memory) (entries : List Entry) (t : ℕ) (a : Ready m.store.rows t) (z : Size) (bytes : List ℕ) where
    abbrev row : Row
    row = row_in m.store.rows (place t)

    abbrev Both : After (Result ⊤ Refusal) Memory → ReleasedTo → Type 0
    Both o q = Together m.store.rows entries t o.result o.lent.store.rows q

    valid_both : (actual n : ℕ) (st : RequestState) → device_may_access st ≡ true
        → Both (row_completed_by (apply_by (while_pending st (moved (with_state row (Completed actual n (cancel_in st))))) (place t) m.store) z (place t) bytes m.area)
        (cond (is_uncertain_failure st) (released_to true entries) (released_to false (at_entry (view t).id release entries)))
    unfolding row_completed_by apply_by while_pending moved put_in
    valid_both actual n (Pending cancel late) h = (Completed actual n cancel, refl, refl, refl)
    valid_both actual n (Completed x y c) h = absurd (false≢true h)
    valid_both actual n (Failed x y true) h = absurd (false≢true h)
    valid_both actual n (Failed x y false) h = (refl, refl, refl)
    valid_both actual n Aborted h = absurd (false≢true h)

    tested_both : (c : BackendCompletion) (p : Result ValidCompletion CompletionFault) → Both (tested_by p c.completion_code z (place t) bytes m) (completes_by p (view t) entries)
    unfolding tested_by changed_at change_row completed completed_row is_held
    tested_both c (Err CompletionFault.MissingLength) = (refl, refl, refl)
    tested_both c (Err CompletionFault.Invalid) = (refl, refl, refl)
    tested_both c (Ok vs) =
        let f : is_uncertain_failure row.state ≡ (view t).failed = ap (λ (v : View). v.failed) a.is in
        subst (λ (b : Bool). Both (tested_by (Ok (record { actual_length = vs.actual_length; completion_code = vs.completion_code })) c.completion_code z (place t) bytes m)
        (cond b (released_to true entries) (released_to false (at_entry (view t).id release entries)))) f
        (valid_both vs.actual_length vs.completion_code row.state access)
      where
        access : device_may_access row.state ≡ true
        access = (both row.used (device_may_access row.state) a.held).1

    complete_both : (c : BackendCompletion) → Both (complete_one z (place t) c bytes m) (completes_by (test_completion c (length bytes) (view t).requested) (view t) entries)
    unfolding complete_one
    complete_both c =
        let f : row.metadata.requested_length ≡ (view t).requested = ap (λ (v : View). v.requested) a.is in
        subst (λ (n : ℕ). Both (complete_one z (place t) c bytes m) (completes_by (test_completion c (length bytes) n) (view t) entries)) f
        (tested_both c (test_completion c (length bytes) row.metadata.requested_length))

  -- ---- the completions, then the aborts
  module _ (z : Size) (rows : List Row) (entries whole : List Entry) where
    -- rows and entries are in step where the walk has come, and what is left of the journal's own leads to the whole
    record Along (es : List Returned) (ts bytes : List ℕ) (now : List Row) : Type 0 where
      pub so_far : List Entry
      pub kept : Kept rows entries now so_far
      pub distinct : Distinct (tokens_in es ++ ts)
      pub ready : AllReady now (tokens_in es ++ ts)
      pub leads : aborted_after (completes_all view es bytes so_far) view ts ≡ whole

    abbrev To : List Returned → List ℕ → List ℕ → Memory → Type 0
    To es ts bytes m = Along es ts bytes m.store.rows

    abbrev End : Result ⊤ Refusal → Memory → Type 0
    End v m = Kept rows entries m.store.rows whole × LateBy v

    ends : (bytes : List ℕ) (m : Memory) → To [] [] bytes m → End (Ok tt) m
    ends bytes m k = (subst (λ (l : List Entry). Kept rows entries m.store.rows l) k.leads k.kept, tt)

    completes : (e : Returned) (es : List Returned) (ts bytes : List ℕ) (m : Memory) (k : To (e ∷ es) ts bytes m) (v : Result ⊤ Refusal) (n : Memory) (q : ReleasedTo)
        → Together m.store.rows k.so_far e.token v n.store.rows q
        → aborted_after (goes_on q (λ (l : List Entry). completes_all view es (drop e.brought.given bytes) l)) view ts ≡ whole
        → Onward place z To End v es ts (drop e.brought.given bytes) n
    completes e es ts bytes m k (Err r) n q (er, eq, late) leads =
        let is : k.so_far ≡ whole = subst (λ (z : ReleasedTo). aborted_after (goes_on z (λ (l : List Entry). completes_all view es (drop e.brought.given bytes) l)) view ts ≡ whole) eq leads in
        (subst (λ (l : List Row). Kept rows entries l whole) (sym er) (subst (λ (l : List Entry). Kept rows entries m.store.rows l) is k.kept), late)
    completes e es ts bytes m k (Ok tt) n q (s, h, er, eq) leads =
        let next : List Entry = at_entry (view e.token).id release k.so_far in
        record {
          so_far = next;
          kept = subst (λ (l : List Row). Kept rows entries l next) (sym er)
              (kept_on rows entries m.store.rows k.so_far _ next k.kept (release_kept m.store.rows k.so_far k.kept.led e.token k.ready.0 s h));
          distinct = k.distinct.1;
          ready = subst (λ (l : List Row). AllReady l (tokens_in es ++ ts)) (sym er)
              (ready_after m.store.rows e.token _ k.ready.0 (tokens_in es ++ ts) k.distinct.0 k.ready.1);
          leads = subst (λ (z : ReleasedTo). aborted_after (goes_on z (λ (l : List Entry). completes_all view es (drop e.brought.given bytes) l)) view ts ≡ whole) eq leads;
        }

    aborts : (t : ℕ) (ts bytes : List ℕ) (m : Memory) → To [] (t ∷ ts) bytes m
        → Onward place z To End (abort_one (place t) m.store).result [] ts bytes (memory (abort_one (place t) m.store).lent m.area)
    unfolding abort_one changed_at aborted_by apply_by change_row abort_confirmed moved put_in ◌if◌else◌ is_held
    aborts t ts bytes m k =
        let row : Row = row_in m.store.rows (place t) in
        let h : device_may_access row.state ≡ true = (both row.used (device_may_access row.state) k.ready.0.held).1 in
        rw h (record {
          so_far = at_entry (view t).id release k.so_far;
          kept = kept_on rows entries m.store.rows k.so_far _ _ k.kept (release_kept m.store.rows k.so_far k.kept.led t k.ready.0 Aborted refl);
          distinct = k.distinct.1;
          ready = ready_after m.store.rows t (with_state row Aborted) k.ready.0 ts k.distinct.0 k.ready.1;
          leads = k.leads;
        })

  -- the lemma: every list of entries keeps rows and journal in step
  pub apply_kept : (z : Size) (l : ReplyLists) (m : Memory) (entries : List Entry) → Led m.store.rows entries
      → Distinct (reply_tokens l) → AllReady m.store.rows (reply_tokens l)
      → Kept m.store.rows entries (apply_all z place l m).lent.store.rows (releases_all view l entries) × LateBy (apply_all z place l m).result
  apply_kept z l m entries k d a =
      let whole : List Entry = releases_all view l entries in
      entries_all place z (To z m.store.rows entries whole) (End z m.store.rows entries whole) (ends z m.store.rows entries whole)
      (λ e es ts bytes n h.
      let given : List ℕ = take e.brought.given bytes in
      let one : After (Result ⊤ Refusal) Memory = complete_one z (place e.token) e.brought.completion given n in
      completes z m.store.rows entries whole e es ts bytes n h one.result one.lent
      (completes_by (test_completion e.brought.completion (length given) (view e.token).requested) (view e.token) h.so_far)
      (complete_both n h.so_far e.token h.ready.0 z given e.brought.completion) h.leads)
      (aborts z m.store.rows entries whole) l m
      (record { so_far = entries; kept = record { led = k; ids = λ x. refl }; distinct = d; ready = a; leads = refl })
