-- Demand 3: the claim of every list of calls that follows an opening which passed. Assumes nothing.
use Rattle.std.specs.Prelude.{Result}
use Prim.Native.Nat.{ℕ, zero, suc, ◌≤◌, ◌<◌}
use mathlib.Core.Path.{◌≡◌, refl, sym, ap, ◌∙◌, subst}
use mathlib.Core.Bool.{Bool, true, false, cond, ◌&&◌}
use mathlib.Core.List.{List, [], ◌∷◌, ◌++◌}
use native.Mathlib.Omega.{arith}
use borrow.Author.Tests.{eq-eqb, ltb-true, ltb-false}
use lib.Dec.{ltb}
use lib.ListN.{length, get_or, replicate}
use Rattle.chain.specs.Lists.{sum_by, only, count, find}
use Rattle.chain.specs.After.{After, after}
use Rattle.chain.proofs.Chain.{caseB, if_by}
use Rattle.chain.proofs.Lists.{sum_eq, sum_le, sum_one, sum_none, count_pos, find_hit, find_some}
use Rattle.models.specs.Refusals.{refusal_of}
use Rattle.models.specs.Requests.{device_may_access, same_request}
use Rattle.models.specs.declared.{OperationError.OperationError, Refusal.Refusal, RequestId.RequestId, RequestReport.RequestReport}
use Rattle.rows.specs.Store.{store_of, emptied, Store}
use Rattle.rows.specs.Table.{empty_row, is_held, row_in}
use Rattle.rows.specs.declared.{Row.Row}
use Rattle.ledger.specs.Apply.{apply_by}
use Rattle.rules.specs.Rules.{reclaimed, change_row}
use Rattle.ledger.specs.Search.{is_at}
use Rattle.rules.specs.declared.Change.TheVariants as change
use Rattle.bus.specs.Tables.{Bus, bus_of}
use Rattle.session.specs.Lifecycle.{new_session, open_of}
use Rattle.session.specs.Lent.{Lent, lent, memory}
use Rattle.session.specs.declared.{Called.Called, InFlight.InFlight, Recovery.Recovery, RecoveryKind.RecoveryKind, Session.Session, lifecycle.Opening.Opening}
use Rattle.reports.specs.Change.{reported_by, change_of}
use Rattle.reports.specs.Status.{tally_of}
use Rattle.recovery.specs.RecoveryReply.{ReplyLists}
use Rattle.recovery.specs.declared.{AbortReport.AbortReport, BackendAbort.BackendAbort}
use Rattle.calls.specs.Answers.{of_report, of_tally}
use Rattle.calls.specs.Calls.{Call, Open, Begin, Recover, Change, Reclaim}
use Rattle.calls.specs.Step.{World, world, begun_of, replied_of, step_of, opens, read_of, world_store, next}
use Rattle.calls.specs.declared.{Answer.Answer}
use Rattle.runs.specs.Run.{Handed, Event, answer_to, left_by, end_of, history_of, Handing, Follows, number_of, is_new, noted, Fresh, beside}
use Rattle.runs.proofs.Held.{and_less, any_count, unheld_row}
use Rattle.runs.proofs.Handings.{by_handed, follows_at, follows_front, fresh_front}
use Rattle.runs.proofs.Ways.{change_all}
use Rattle.runs.proofs.Run.{Whole, lent_rows, sound_open, left_leads, sound_run, fitted_run, SoundIn}
use Rattle.runs.proofs.Tally.{count_answer, bytes_answer}
use Rattle.history.specs.Journal.{Entry, Journal, blank, is_none, is_open, is_entry, no_entry, entry_of, recovery_waits, journal_step, journal_of, View}
use Rattle.history.specs.Claim.{row_view, held_as, open_as, Agrees, releases_of, rows_by, entries_after, reclaims, starts, returns, Spared, Claim, ReportOf}
use Rattle.history.proofs.Led.{cond_and, row_w, entry_w, each, length_of, at, twice, Led, row_none, known_in, entry_is}
use Rattle.history.proofs.Changes.{none_held, none_at}
use Rattle.history.proofs.Inv.{Inv, seen_more}
use Rattle.history.proofs.Recovery.{begin_names}
use Rattle.history.proofs.Steps.{step_kept}
use Rattle.history.proofs.Counting.{refused_3, handed_over}
use Rattle.history.proofs.Refusing.{refused_untouched}
use Rattle.history.proofs.Settling.{no_report, Settles, recovered_told, waited_told}
use Rattle.history.proofs.Sparing.{all_spared, reply_spares}
use Rattle.rules.specs.declared.{Step.Step}

-- ---- rows and entries that agree, seen through a filter
row_ids : (u d s q : Bool) → cond {A = ℕ} ((u && s) && ((u && d) && q)) 1 0 ≡ cond (u && d) (cond s (cond q 1 0) 0) 0
row_ids true true true q = refl
row_ids true true false q = refl
row_ids true false true q = refl
row_ids true false false q = refl
row_ids false d s q = refl

entry_ids : (s o q : Bool) → cond {A = ℕ} (s && (o && q)) 1 0 ≡ cond o (cond s (cond q 1 0) 0) 0
entry_ids true true q = refl
entry_ids true false q = refl
entry_ids false true q = refl
entry_ids false false q = refl

module _ (rows : List Row) (entries : List Entry) (k : Led rows entries) where
  weigh_as : (p : View → Bool) (w : View → ℕ) → sum_by (only (held_as p) (λ r. w (row_view r))) rows ≡ sum_by (only (open_as p) (λ e. w e.view)) entries
  weigh_as p w =
      sum_eq (only (held_as p) (λ r. w (row_view r))) (row_w (only p w)) rows (λ r. cond_and (is_held r) (p (row_view r)) (w (row_view r)))
      ∙ k.same (only p w)
      ∙ sym (sum_eq (only (open_as p) (λ e. w e.view)) (entry_w (only p w)) entries (λ e. cond_and (is_open e) (p e.view) (w e.view)))

  held_ids : (p : View → Bool) (x : RequestId) → count (λ r. is_at x r && held_as p r) rows ≡ sum_by (row_w (at x (only p each))) rows
  unfolding is_at is_held
  held_ids p x = sum_eq _ (row_w (at x (only p each))) rows (λ r. row_ids r.used (device_may_access r.state) (same_request r.id x) (p (row_view r)))

  open_ids : (p : View → Bool) (x : RequestId) → count (λ e. is_entry x e && open_as p e) entries ≡ sum_by (entry_w (at x (only p each))) entries
  open_ids p x = sum_eq _ (entry_w (at x (only p each))) entries (λ e. entry_ids (is_entry x e) (is_open e) (p e.view))

  pub agreed : count is_held rows ≤ 128 → (p : View → Bool) → Agrees p rows entries
  agreed few p = record {
    ids = λ x.
        any_count (λ r. is_at x r && held_as p r) rows empty_row
        ∙ ap (λ (n : ℕ). ltb 0 n) (held_ids p x ∙ k.same (at x (only p each)) ∙ sym (open_ids p x))
        ∙ sym (any_count (λ e. is_entry x e && open_as p e) entries no_entry);
    number = weigh_as p each;
    lengths = weigh_as p length_of;
    bound = let a = sum_le (only (held_as p) (λ r. 1)) (only is_held (λ r. 1)) rows (λ r. and_less (is_held r) (p (row_view r))) in omega (arith, few);
  }

  -- the releases of an id are those of its one entry
  entry_releases : (x : RequestId) → find (is_entry x) entries < length entries → releases_of x entries ≡ (entry_of x entries).releases
  entry_releases x h = sum_one (is_entry x) (λ e. e.releases) entries (find (is_entry x) entries) no_entry h (find_hit (is_entry x) entries no_entry h) (k.once x)

  at_most : (i : ℕ) → i < length entries → (get_or entries i no_entry).releases ≤ 1
  at_most i h = caseB (twice (get_or entries i no_entry))
      (λ e. absurd (omega (arith, count_pos twice entries i no_entry h e, k.single)))
      (λ e. ltb-false 1 (get_or entries i no_entry).releases e)

  pub release_once : (x : RequestId) → releases_of x entries ≤ 1
  release_once x = caseB (ltb 0 (count (is_entry x) entries))
      (λ e. let h = find_some (is_entry x) entries (ltb-true 0 (count (is_entry x) entries) e) in omega (arith, entry_releases x h, at_most (find (is_entry x) entries) h))
      (λ e. let h = ltb-false 0 (count (is_entry x) entries) e in omega (arith, sum_none (is_entry x) (λ y. y.releases) entries (omega arith)))

  -- the row of an id that is not held has an entry with one release
  pub unheld_once : (x : RequestId) (i : ℕ) → i < length rows → is_at x (row_in rows i) ≡ true → is_held (row_in rows i) ≡ false → releases_of x entries ≡ 1
  unheld_once x i lt hit free =
      let h = known_in rows entries k x i lt hit in
      let z : entry_w each (entry_of x entries) ≡ 0 = entry_is rows entries k x i lt hit each ∙ row_none each (row_in rows i) free in
      omega (arith, entry_releases x h, at_most (find (is_entry x) entries) h, go (entry_of x entries).releases z)
    where
      go : (n : ℕ) → cond {A = ℕ} (is_none n) 1 0 ≡ 0 → 1 ≤ n
      go zero e = absurd (omega arith)
      go (suc n) e = omega arith

-- ---- a list of calls
abbrev pub Holds : World → Journal → List ℕ → Type 0
Holds w j seen = Inv w.session (world_store w).rows j seen

event_kept : (h : Handed) (c : Call) (w : World) → SoundIn w → (j : Journal) (seen : List ℕ) → Holds w j seen → Handing h c → is_new (number_of c) seen ≡ true
    → Holds (left_by h c w) (journal_step c (answer_to w (record { call = c; handed = h })) j) (noted (number_of c) seen)
event_kept h c w sound j seen k f n =
    by_handed h c w (λ a v. Holds v (journal_step c a j) (noted (number_of c) seen)) f
    (λ first bus area. step_kept (beside bus area w) sound j seen k c first n)
    (subst (λ (x : Journal). Holds w x (noted (number_of c) seen)) (sym (refused_3 c j)) (seen_more w.session (world_store w).rows j seen k (number_of c)))

pub run_kept : (es : List Event) (w : World) (j : Journal) (seen : List ℕ) → SoundIn w → Holds w j seen → Follows es → Fresh seen es
    → (seen' : List ℕ) × Holds (end_of w es) (journal_of (history_of w es) j) seen'
run_kept [] w j seen sound k f n = (seen, k)
run_kept (e ∷ es) w j seen sound k f n =
    run_kept es (left_by e.handed e.call w) (journal_step e.call (answer_to w e) j) (noted (number_of e.call) seen)
    (left_leads e.handed e.call w sound f.0).sound (event_kept e.handed e.call w sound j seen k f.0 n.0) f.1 n.1

-- an opening that passed
pub opened_holds : (o : Opening) (w : World) → (step_of (Open o) w).result.answer ≡ Answer.Pass → Holds (next (step_of (Open o) w)) blank (o.session ∷ [])
unfolding step_of open_of emptied
opened_holds o w =
    if_by (λ (x : After (Result Session Refusal) Lent). (opens x w).result.answer ≡ Answer.Pass → Holds (next (opens x w)) blank (o.session ∷ [])) _ _ _
    (λ y e. let z : ◌≡◌ {A = ℕ} 0 1 = cc in absurd (omega arith)) (λ y e. begins)
  where
    begins : Inv (new_session o) (replicate (length (world_store w).rows) empty_row) blank (o.session ∷ [])
    begins = record {
      led = record {
        same = λ v. none_held v (length (world_store w).rows);
        known = λ x. omega (arith, none_at x (length (world_store w).rows));
        once = λ x. omega arith;
        single = refl;
      };
      fresh = λ n h. refl;
      past = λ x h. refl;
      here = let h = eq-eqb o.session o.session refl in rw h;
      agree = refl;
    }

-- ---- what a reclaim that passed tells
reclaim_told : (s : Session) (store : Store) (x : RequestId) (r : RequestReport) (entries : List Entry) → Led store.rows entries
    → of_report (change_of x change.Reclaim s store).result.answer ≡ Answer.Report r → releases_of x entries ≡ 1
unfolding reported_by apply_by change_row reclaimed
reclaim_told s store x r entries k =
    change_all x change.Reclaim s store Told (λ f e. refuses e)
    (λ idle i lt hit.
    if_by (λ (t : Result Step Refusal). Told (after (reported_by (apply_by t i store).result s) (apply_by t i store).lent)) _ _ _ (λ y e. refuses e)
    (λ y e. unheld_once store.rows entries k x i lt hit (unheld_row (row_in store.rows i) y)))
  where
    Told : After (Called RequestReport) Store → Type 0
    Told o = of_report o.result.answer ≡ Answer.Report r → releases_of x entries ≡ 1

    refuses : {f : Refusal} → Answer.Refused f ≡ Answer.Report r → releases_of x entries ≡ 1
    refuses e = let z : ◌≡◌ {A = ℕ} 0 1 = cc in absurd (omega arith)

-- ---- the theorem
module _ (o : Opening) (w : World) (es : List Event) (pass : (step_of (Open o) w).result.answer ≡ Answer.Pass) (follows : Follows es)
    (fresh : Fresh (o.session ∷ []) es) where
  abbrev start : World
  start = next (step_of (Open o) w)

  abbrev seen : List ℕ
  seen = o.session ∷ []

  -- what holds before a call of the list
  module _ (before after : List Event) (e : Event) (is : es ≡ before ++ (e ∷ after)) where
    handing : Handing e.handed e.call
    handing = follows_at before after e (subst Follows is follows)

    holds : (s : List ℕ) × Holds (end_of start before) (journal_of (history_of start before) blank) s
    holds =
        run_kept before start blank seen (sound_open o w pass) (opened_holds o w pass) (follows_front before (e ∷ after) (subst Follows is follows))
        (fresh_front seen before (e ∷ after) (subst (Fresh seen) is fresh))

  reclaim_at : (before after : List Event) (h : Handed) (x : RequestId) (r : RequestReport) → es ≡ before ++ (reclaims x h ∷ after)
      → answer_to (end_of start before) (reclaims x h) ≡ Answer.Report r → releases_of x (entries_after start before) ≡ 1
  unfolding step_of
  reclaim_at before after h x r is =
      let at = end_of start before in
      let k = (holds before after (reclaims x h) is).1.led in
      by_handed h (Change x Reclaim) at (λ a v. a ≡ Answer.Report r → releases_of x (entries_after start before) ≡ 1) (handing before after (reclaims x h) is)
      (λ first bus area. reclaim_told at.session (world_store at) x r _ k)
      (λ e. let z : ◌≡◌ {A = ℕ} 0 1 = cc in absurd (omega arith))

  started_at : (before after : List Event) (h : Handed) (q : RecoveryKind) (id : RequestId) → es ≡ before ++ (starts q id h ∷ after) → (x : Recovery)
      → answer_to (end_of start before) (starts q id h) ≡ Answer.Recovering x
      → InFlight.Recovery x ≡ (recovery_waits id q (journal_of (history_of start before) blank)).waiting
  unfolding step_of begun_of
  started_at before after h q id is x =
      let mid = end_of start before in
      let k = holds before after (starts q id h) is in
      by_handed h (Begin (Recover id q)) mid
      (λ a v. a ≡ Answer.Recovering x → InFlight.Recovery x ≡ (recovery_waits id q (journal_of (history_of start before) blank)).waiting)
      (handing before after (starts q id h) is)
      (λ first bus area a. begin_names mid.session (journal_of (history_of start before) blank) k.0 (world_store mid) k.1 x id q a)
      (λ a. let z : ◌≡◌ {A = ℕ} 0 1 = cc in absurd (omega arith))

  module _ (before after : List Event) (h : Handed) (reply : Result BackendAbort OperationError) (l : ReplyLists) (is : es ≡ before ++ (returns reply l h ∷ after)) where
    abbrev mid : World
    mid = end_of start before

    abbrev ending : Event
    ending = returns reply l h

    by_reply : (P : Answer → World → Type 0)
        → ((bus : Bus) (area : List ℕ) → P (step_of ending.call (beside bus area mid)).result.answer (next (step_of ending.call (beside bus area mid))))
        → P (Answer.Refused (refusal_of 3)) mid → P (answer_to mid ending) (left_by h ending.call mid)
    by_reply P ours = by_handed h ending.call mid P (handing before after ending is) (λ first. ours)

    recovered_at : (x : AbortReport) → answer_to mid ending ≡ Answer.Recovered x → Settles l (world_store mid).rows (rows_by mid ending) x
    unfolding step_of replied_of
    recovered_at x =
        by_reply (λ a v. a ≡ Answer.Recovered x → Settles l (world_store mid).rows (world_store v).rows x)
        (λ bus area. recovered_told l mid.session (memory (world_store mid) area) x (sound_run o w before pass (follows_front before (ending ∷ after) (subst Follows is follows))).held reply)
        (no_report (refusal_of 3) x _)

    reported_at_lem : (x : AbortReport) → answer_to mid ending ≡ Answer.Recovered x → ReportOf (journal_of (history_of start before) blank).waiting x
    unfolding step_of replied_of
    reported_at_lem x e =
        let q = by_reply (λ a v. a ≡ Answer.Recovered x → ReportOf mid.session.in_flight x)
        (λ bus area. waited_told l mid.session (memory (world_store mid) area) x reply) (no_report (refusal_of 3) x _) e in
        (q.0, (holds before after ending is).1.agree ∙ q.1)

    spared_at : Spared (journal_of (history_of start before) blank).waiting (world_store mid).rows (rows_by mid ending)
    unfolding step_of replied_of
    spared_at =
        subst (λ (f : InFlight). Spared f (world_store mid).rows (rows_by mid ending)) (sym (holds before after ending is).1.agree)
        (by_reply (λ a v. Spared mid.session.in_flight (world_store mid).rows (world_store v).rows)
        (λ bus area. reply_spares reply l mid.session (memory (world_store mid) area)) (all_spared mid.session.in_flight (world_store mid).rows))

  pub whole_claim : Whole w → Claim start es
  unfolding step_of read_of
  whole_claim whole =
      let sound = sound_run o w es pass follows in
      let fitted = fitted_run o w es pass follows whole in
      let k = (run_kept es start blank seen (sound_open o w pass) (opened_holds o w pass) follows fresh).1.led in
      record {
        agrees = agreed _ _ k sound.held;
        count_is = ap (λ (a : Result ℕ Refusal). of_tally (tally_of a)) (count_answer sound fitted) ∙ ap (λ (n : ℕ). Answer.Number n) (k.same each);
        bytes_is = ap of_tally (bytes_answer sound fitted) ∙ ap (λ (n : ℕ). Answer.Number n) (k.same length_of);
        one_entry = k.once;
        one_release = release_once _ _ k;
        reclaimed = reclaim_at;
        handed = λ x. let a = handed_over x es start blank follows in omega (arith, a);
        started = started_at;
        recovered = recovered_at;
        spared = spared_at;
        reported = reported_at_lem;
        untouched = refused_untouched;
      }

-- what lent slices say
abbrev pub world_of : Session → List ℕ → List ℕ → List ℕ → World
world_of s bus rows area = world s (lent (bus_of bus) (memory (store_of rows) area))

-- the theorem: lent slices always have as many rows as their words say
pub history_claim : (o : Opening) (s : Session) (bus rows area : List ℕ) (es : List Event)
    → (step_of (Open o) (world_of s bus rows area)).result.answer ≡ Answer.Pass → Follows es → Fresh (o.session ∷ []) es
    → Claim (next (step_of (Open o) (world_of s bus rows area))) es
history_claim o s bus rows area es pass follows fresh = whole_claim o (world_of s bus rows area) es pass follows fresh (lent_rows rows)
