-- The changes of one row and its entry; a new row; an emptied store. Assumes nothing.
use Prim.Native.Nat.{ℕ, zero, suc, ◌+◌, ◌≤◌, ◌<◌}
use mathlib.Core.Path.{◌≡◌, subst, refl, sym, ap, ◌∙◌}
use mathlib.Core.Bool.{Bool, true, false, cond, ◌&&◌, false≢true}
use mathlib.Core.List.{List, [], ◌∷◌}
use native.Mathlib.Nat.{le_refl}
use native.Mathlib.Omega.{arith}
use lib.Dec.{ltb}
use lib.ListN.{length, set, replicate}
use Rattle.chain.specs.Lists.{sum_by, only, count, map_at}
use Rattle.chain.proofs.Chain.{caseB, both}
use Rattle.chain.proofs.Lists.{sum_set, count_keeps}
use Rattle.models.specs.Requests.{device_may_access, is_pending, is_uncertain_failure, same_request}
use Rattle.models.specs.declared.{DeviceId.DeviceId, RequestId.RequestId, RequestMetadata.RequestMetadata, RequestState.RequestState}
use Rattle.models.specs.declared.RequestState.TheVariants.{Pending, Completed, Failed, Aborted}
use Rattle.rows.specs.Table.{empty_row, is_held, row_in}
use Rattle.rows.specs.declared.{Row.Row}
use Rattle.ledger.specs.Search.{is_at}
use Rattle.rules.specs.Rules.{pending_row, with_token, with_state, flagged}
use Rattle.runs.proofs.Held.{empty_free, free_held, unheld_row}
use Rattle.runs.proofs.Ids.{free_at, same_request_lem, same_self}
use Rattle.history.specs.Journal.{Entry, failing, tokened, is_none, is_open, is_entry, entry_of, release, mark_failed, entry_with_token, new_entry, View}
use Rattle.history.specs.Claim.{row_view}
use Rattle.history.proofs.Led.{row_w, entry_w, each, twice, Led, Changed, Alike, row_none}

-- the view of a row, marked Failed or not
abbrev view_as : Row → Bool → View
view_as r b = record {
  id = r.id;
  device = r.metadata.device;
  endpoint = r.metadata.endpoint;
  requested = r.metadata.requested_length;
  token = r.token;
  failed = b;
}

empty_held : is_held empty_row ≡ false
empty_held = free_held empty_row empty_free

-- ---- a held row and its entry
module _ (r : Row) (e : Entry) (held : is_held r ≡ true) (is : (w : View → ℕ) → entry_w w e ≡ row_w w r) where
  pub entry_open : is_open e ≡ true
  entry_open =
      let a = is each in
      caseB (is_open e) (λ y. y) (λ y. let b : entry_w each e ≡ 0 = rw y in let d : row_w each r ≡ 1 = rw held in absurd (omega arith))

  -- any number that the entry's view gives is the row's
  pub view_is : (w : View → ℕ) → w e.view ≡ w (row_view r)
  view_is w = let o = entry_open in
      let a : w e.view ≡ entry_w w e = rw o in
      let b : row_w w r ≡ w (row_view r) = rw held in
      a ∙ is w ∙ b

  no_release : e.releases ≡ 0
  no_release = go e.releases entry_open
    where
      go : (n : ℕ) → is_none n ≡ true → n ≡ 0
      go zero y = refl
      go (suc n) y = absurd (false≢true y)

  stays : ltb 1 e.releases ≡ false
  stays = rw no_release

  bumps : ltb 1 (suc e.releases) ≡ false
  bumps = rw no_release

  -- a row that is not held in its place, and a release of its entry
  pub released : (r' : Row) → is_held r' ≡ false → ((x : RequestId) → only (is_at x) (λ y. 1) r' ≤ only (is_at x) (λ y. 1) r)
      → Changed r r' e (release e)
  released r' h i = record {
    same = λ w. sym (row_none w r' h);
    row_id = i;
    entry_id = λ x. refl;
    single = bumps;
  }

  pub discard_change : Changed r empty_row e (release e)
  discard_change = released empty_row empty_held (λ x. rw (free_at x empty_row empty_free) (omega arith))

  -- a held row in its place whose view is the view's change, as the entry's is
  kept : (g : View → View) (r' : Row) (e' : Entry) → is_held r' ≡ true → is_open e' ≡ true → row_view r' ≡ g (row_view r)
      → e'.view ≡ g e.view → (w : View → ℕ) → entry_w w e' ≡ row_w w r'
  kept g r' e' h o er ee w = rw (h, o) (ap w ee ∙ view_is (λ v. w (g v)) ∙ sym (ap w er))

module _ (r : Row) (e : Entry) (held : is_held r ≡ true) (is : (w : View → ℕ) → entry_w w e ≡ row_w w r) where
  -- the backend's token
  same_held : (t : ℕ) → is_held (with_token r t) ≡ is_held r
  unfolding is_held
  same_held t = refl

  same_at : (t : ℕ) (x : RequestId) → is_at x (with_token r t) ≡ is_at x r
  unfolding is_at
  same_at t x = refl

  pub token_change : (t : ℕ) → Changed r (with_token r t) e (entry_with_token t e)
  token_change t = record {
    same = kept r e held is (tokened t) (with_token r t) (entry_with_token t e) (same_held t ∙ held) (entry_open r e held is) refl refl;
    row_id = λ x. rw (same_at t x) (le_refl _);
    entry_id = λ x. refl;
    single = stays r e held is;
  }

  -- a new state
  state_at_lem : (s : RequestState) (x : RequestId) → is_at x (with_state r s) ≡ is_at x r
  unfolding is_at
  state_at_lem s x = refl

  state_on : (s : RequestState) → device_may_access s ≡ true → is_held (with_state r s) ≡ true
  unfolding is_held
  state_on s h = rw ((both r.used (device_may_access r.state) held).0, h)

  -- terminal: a release
  pub settle_change : (s : RequestState) → device_may_access s ≡ false → Changed r (with_state r s) e (release e)
  settle_change s h = released r e held is (with_state r s) (unheld_row (with_state r s) h) (λ x. rw (state_at_lem s x) (le_refl _))

  -- Failed and not quiescent: the mark
  pub fail_change : (s : RequestState) → device_may_access s ≡ true → is_uncertain_failure s ≡ true → Changed r (with_state r s) e (mark_failed e)
  fail_change s h u =
      let on = state_on s h in
      let seen : row_view (with_state r s) ≡ failing (row_view r) = ap (view_as r) u in
      record {
        same = kept r e held is failing (with_state r s) (mark_failed e) on (entry_open r e held is) seen refl;
        row_id = λ x. rw (state_at_lem s x) (le_refl _);
        entry_id = λ x. refl;
        single = stays r e held is;
      }

-- ---- flags
flag_weight : (u : Bool) (s : RequestState) (n : Bool → ℕ) → is_pending s ≡ true
    → cond (u && true) (n false) 0 ≡ cond (u && device_may_access s) (n (is_uncertain_failure s)) 0
flag_weight u (Pending cancel late) n e = refl
flag_weight u (Completed actual code cancel) n e = absurd (false≢true e)
flag_weight u (Failed error code quiescent) n e = absurd (false≢true e)
flag_weight u Aborted n e = absurd (false≢true e)

pub flag_alike : (r : Row) (sc st c t : Bool) → is_pending r.state ≡ true → Alike r (flagged r sc st c t)
unfolding is_held is_at
flag_alike r sc st c t e = record {
  weight = λ w. flag_weight r.used r.state (λ b. w (view_as r b)) e;
  row_id = λ x. le_refl _;
}

-- a reclaimed row was not held
pub empty_alike : (r : Row) → is_held r ≡ false → Alike r empty_row
empty_alike r e = record {
  weight = λ w. row_none w empty_row empty_held ∙ sym (row_none w r e);
  row_id = λ x. rw (free_at x empty_row empty_free) (omega arith);
}

-- the entry of an id is the latest of that id
pub latest_entry : (x : RequestId) (d : DeviceId) (endpoint requested : ℕ) (l : List Entry)
    → entry_of x (new_entry x d endpoint requested ∷ l) ≡ new_entry x d endpoint requested
latest_entry x d endpoint requested l = rw (same_self x)

-- ---- a new row and its entry
module _ (rows : List Row) (entries : List Entry) (k : Led rows entries) (x : RequestId) (m : RequestMetadata) (i : ℕ) (lt : i < length rows)
    (free : (row_in rows i).used ≡ false) (new : count (is_entry x) entries ≡ 0) where
  abbrev begun : Row
  begun = pending_row x m

  pub sum_new : (f : Row → ℕ) → ((r : Row) → r.used ≡ false → f r ≡ 0) → sum_by f (set rows i begun) ≡ sum_by f rows + f begun
  sum_new f z = omega (arith, sum_set f rows i begun empty_row lt, z (row_in rows i) free)

  begun_held : is_held begun ≡ true
  unfolding is_held pending_row
  begun_held = refl

  begun-view : row_view begun ≡ (new_entry x m.device m.endpoint m.requested_length).view
  unfolding pending_row
  begun-view = refl

  begun_weight : (w : View → ℕ) → row_w w begun ≡ entry_w w (new_entry x m.device m.endpoint m.requested_length)
  begun_weight w = rw begun_held (ap w begun-view)

  begun_at : (y : RequestId) → is_at y begun ≡ same_request x y
  unfolding is_at pending_row
  begun_at y = refl

  count_new : (y : RequestId) → count (is_at y) (set rows i begun) ≡ count (is_at y) rows + cond (same_request x y) 1 0
  count_new y = sum_new (only (is_at y) (λ r. 1)) (λ r e. rw (free_at y r e)) ∙ rw (begun_at y)

  weight_new : (w : View → ℕ) → sum_by (row_w w) (set rows i begun) ≡ sum_by (row_w w) rows + row_w w begun
  weight_new w = sum_new (row_w w) (λ r e. row_none w r (free_held r e))

  pub led_new : Led (set rows i begun) (new_entry x m.device m.endpoint m.requested_length ∷ entries)
  led_new = record {
    same = λ w. omega (arith, weight_new w, begun_weight w, k.same w);
    known = λ y. omega (arith, count_new y, k.known y);
    once = λ y. caseB (same_request x y)
        (λ e. let n : count (is_entry y) entries ≡ 0 = subst (λ (z : RequestId). count (is_entry z) entries ≡ 0) (same_request_lem x y e) new in
        rw e (omega (arith, n)))
        (λ e. rw e (omega (arith, k.once y)));
    single = omega (arith, k.single);
  }

-- ---- an emptied store, and every entry released
pub none_in : (f : Row → ℕ) (n : ℕ) → f empty_row ≡ 0 → sum_by f (replicate n empty_row) ≡ 0
none_in f zero z = refl
none_in f (suc n) z = omega (arith, z, none_in f n z)

pub none_held : (w : View → ℕ) (n : ℕ) → sum_by (row_w w) (replicate n empty_row) ≡ 0
none_held w n = none_in (row_w w) n (row_none w empty_row empty_held)

pub none_at : (x : RequestId) (n : ℕ) → count (is_at x) (replicate n empty_row) ≡ 0
none_at x n = none_in (only (is_at x) (λ r. 1)) n (rw (free_at x empty_row empty_free))

closed_entry : (w : View → ℕ) (e : Entry) → entry_w w (cond (is_open e) (release e) e) ≡ 0
closed_entry w e = caseB (is_open e) (λ y. rw y)
    (λ y. let z : cond (is_open e) (release e) e ≡ e = rw y in let o : entry_w w e ≡ 0 = rw y in ap (entry_w w) z ∙ o)

pub closed_entries : (w : View → ℕ) (l : List Entry) → sum_by (entry_w w) (map_at is_open release l) ≡ 0
closed_entries w [] = refl
closed_entries w (e ∷ l) = omega (arith, closed_entry w e, closed_entries w l)

closed_one : (n : ℕ) → is_none n ≡ true → cond {A = ℕ} (ltb 1 (suc n)) 1 0 ≡ cond (ltb 1 n) 1 0
closed_one zero e = refl
closed_one (suc n) e = absurd (false≢true e)

pub closed_single : (l : List Entry) → count twice (map_at is_open release l) ≡ count twice l
closed_single [] = refl
closed_single (e ∷ l) = caseB (is_open e) (λ y. rw y (omega (arith, closed_one e.releases y, closed_single l))) (λ y. rw y (omega (arith, closed_single l)))

pub closed_ids : (x : RequestId) (l : List Entry) → count (is_entry x) (map_at is_open release l) ≡ count (is_entry x) l
closed_ids x l = count_keeps (is_entry x) is_open release l (λ e. refl)

-- rows of which none is held, and every entry released
pub led_closed : (rows : List Row) (entries : List Entry) (rows' : List Row) → Led rows entries → ((w : View → ℕ) → sum_by (row_w w) rows' ≡ 0)
    → ((x : RequestId) → count (is_at x) rows' ≤ count (is_at x) rows) → Led rows' (map_at is_open release entries)
led_closed rows entries rows' k none ids = record {
  same = λ w. omega (arith, none w, closed_entries w entries);
  known = λ x. omega (arith, ids x, k.known x, closed_ids x entries);
  once = λ x. omega (arith, k.once x, closed_ids x entries);
  single = omega (arith, k.single, closed_single entries);
}
