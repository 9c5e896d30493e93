-- A cancel and its withdrawal, in either order, leave all as it was in every session that calls lead to. Assumes nothing.
use Rattle.std.specs.Prelude.{Option, Some, None, Ok}
use Prim.Native.Nat.{ℕ, ◌<◌}
use mathlib.Core.Bool.{Bool, true, false, true≢false}
use mathlib.Core.List.{List}
use mathlib.Core.Path.{◌≡◌, refl, sym, ap, subst, ◌∙◌}
use native.Mathlib.Omega.{arith}
use Rattle.chain.specs.After.{after}
use Rattle.chain.specs.Chain.{◌if◌else◌}
use Rattle.chain.specs.Lists.{found_in}
use Rattle.models.specs.declared.{RequestId.RequestId, RequestReport.RequestReport, RequestState.RequestState}
use Rattle.models.specs.declared.RequestState.TheVariants.{Pending}
use Rattle.rows.specs.Store.{Store, put_in}
use Rattle.rows.specs.Table.{row_count, row_in}
use Rattle.rows.specs.declared.{Row.Row}
use Rattle.rows.proofs.Own.{same_length}
use Rattle.rules.specs.Rules.{report_of, moved, change_row}
use Rattle.rules.proofs.Restored.{cancel_as, cancels, withdraws, withdraw_restores, cancel_restores}
use Rattle.ledger.specs.Apply.{apply_of}
use Rattle.ledger.specs.Search.{is_at}
use Rattle.ledger.proofs.Found.{found_row}
use Rattle.ledger.proofs.Restored.{apply_moved, apply_back}
use Rattle.session.specs.Lent.{memory, lent, store_fits}
use Rattle.session.specs.Session.{is_busy}
use Rattle.session.specs.Start.{guarded}
use Rattle.session.specs.declared.{InFlight.InFlight, Size.Size}
use Rattle.reports.specs.Change.{reported_by, change_of}
use Rattle.reports.specs.Status.{shown_at, status_by, status_of}
use Rattle.calls.specs.Answers.{of_report, outcome}
use Rattle.calls.specs.Calls.{Changing, Cancel, Withdraw, Change, Read, Status}
use Rattle.calls.specs.Step.{World, world, world_store, change_by, read_of, step_of, next}
use Rattle.calls.specs.declared.{Answer.Answer}
use Rattle.runs.specs.Sound.{StateSound}
use Rattle.runs.proofs.Ids.{at_used}
use Rattle.runs.proofs.Rows.{below_words}
use Rattle.runs.proofs.Run.{SoundIn, FittedIn}
use Rattle.history.specs.Operator.{Shows, TakesBack, Withdraws}

-- while nothing is in flight
shown_idle : (f : InFlight) (id : RequestId) (rows : List Row) → is_busy f ≡ false → shown_at f id rows ≡ found_in (is_at id) rows
unfolding shown_at ◌if◌else◌
shown_idle InFlight.Nothing id rows e = refl
shown_idle (InFlight.Submission own) id rows e = absurd (true≢false e)
shown_idle (InFlight.Poll own) id rows e = absurd (true≢false e)
shown_idle (InFlight.Recovery x) id rows e = absurd (true≢false e)

-- a change and a status call that neither 1 nor 3 refuses
module _ (id : RequestId) (w : World) (idle : is_busy w.session.in_flight ≡ false) (fits : store_fits w.session.size (world_store w) ≡ true) where
  changes : (c : Changing) (report : RequestReport) (left : Store) → apply_of id (change_by c) (world_store w) ≡ after (Ok report) left
      → step_of (Change id c) w ≡ after (outcome (Answer.Report report) w.session) (lent w.lent.bus (memory left w.lent.memory.area))
  unfolding step_of change_of guarded reported_by ◌if◌else◌
  changes c report left e = rw (idle, fits, e)

  tells : (i : ℕ) → found_in (is_at id) (world_store w).rows ≡ Some i
      → step_of (Read (Status id)) w ≡ after (outcome (Answer.Report (report_of (row_in (world_store w).rows i))) w.session) w.lent
  unfolding step_of read_of status_of status_by ◌if◌else◌
  tells i at = rw (fits, shown_idle w.session.in_flight id (world_store w).rows idle ∙ at)

put_fits : (store : Store) (i : ℕ) (q : Row) (z : Size) → i < row_count store.words → store_fits z store ≡ true → store_fits z (put_in store i q) ≡ true
unfolding put_in
put_fits store i q z inside fits = rw (same_length store.words i q inside) fits

module _ (w : World) (sound : SoundIn w) (fitted : FittedIn w) (id : RequestId) where
  abbrev rows : List Row
  rows = (world_store w).rows

  -- c makes q of the row, and d the row of q
  takes_back : (c d : Changing) (i : ℕ) (q : Row) → is_busy w.session.in_flight ≡ false → found_in (is_at id) rows ≡ Some i → is_at id q ≡ true
      → change_row (row_in rows i) (change_by c) ≡ moved q → change_row q (change_by d) ≡ moved (row_in rows i) → TakesBack w id c d
  takes_back c d i q idle at same there back =
      let store = world_store w in
      let below = (found_row id rows (Some i) i (sym at) refl).0 in
      let inside = below_words w.session.size store fitted.fits fitted.whole i below in
      let v : World = world w.session (lent w.lent.bus (memory (put_in store i q) w.lent.memory.area)) in
      let first : next (step_of (Change id c) w) ≡ v =
      ap next (changes id w idle fitted.fits c (report_of q) (put_in store i q) (apply_moved id store i q (change_by c) at there)) in
      ap (step_of (Change id d)) first
      ∙ changes id v idle (put_fits store i q w.session.size inside fitted.fits) d (report_of (row_in rows i)) store
      (apply_back id store i at q same (change_by d) back inside (fitted.own i below))
      ∙ sym (tells id w idle fitted.fits i at)

  -- the row of the id; its own copy of the flag is the state's
  record RowFound (cancel late : Bool) : Type 0 where
    index : ℕ
    at : found_in (is_at id) rows ≡ Some index
    hit : is_at id (row_in rows index) ≡ true
    state : Pending cancel late ≡ (row_in rows index).state
    copy : cancel ≡ (row_in rows index).logical_cancel

  by_found : (cancel late : Bool) (x : RequestReport) (f : Option ℕ) → found_in (is_at id) rows ≡ f → of_report (status_by f rows) ≡ Answer.Report x
      → x.state ≡ Pending cancel late → RowFound cancel late
  unfolding status_by
  by_found cancel late x None e h p = let z : ◌≡◌ {A = ℕ} 0 1 = cc in absurd (omega arith)
  by_found cancel late x (Some i) e h p =
      let here = found_row id rows (Some i) i (sym e) refl in
      let same : report_of (row_in rows i) ≡ x = cc in
      let is : (row_in rows i).state ≡ Pending cancel late = ap (λ (y : RequestReport). y.state) same ∙ p in
      record {
        index = i;
        at = e;
        hit = here.1;
        state = sym is;
        copy = (subst (λ (y : RequestState). StateSound y (row_in rows i)) is (sound.rows i here.0 (at_used id (row_in rows i) here.1)).state).0;
      }

  row_found : (cancel : Bool) (x : Shows w id cancel) → RowFound cancel x.late
  unfolding step_of read_of status_of ◌if◌else◌
  row_found cancel x =
      by_found cancel x.late x.report (found_in (is_at id) rows) refl
      (rw (fitted.fits, shown_idle w.session.in_flight id rows x.idle) at x.shown) x.state

  cancelled_back : Shows w id false → TakesBack w id Cancel Withdraw
  unfolding is_at
  cancelled_back x =
      let r = row_found false x in
      let row = row_in rows r.index in
      takes_back Cancel Withdraw r.index (cancel_as row x.late true) x.idle r.at r.hit (cancels row x.late false r.state)
      (withdraw_restores row x.late r.state r.copy)

  withdrawn_back : Shows w id true → TakesBack w id Withdraw Cancel
  unfolding is_at
  withdrawn_back x =
      let r = row_found true x in
      let row = row_in rows r.index in
      takes_back Withdraw Cancel r.index (cancel_as row x.late false) x.idle r.at r.hit (withdraws row x.late r.state)
      (cancel_restores row x.late r.state r.copy)

pub withdraws_in : (w : World) → SoundIn w → FittedIn w → Withdraws w
withdraws_in w sound fitted = record { cancelled = cancelled_back w sound fitted; withdrawn = withdrawn_back w sound fitted }
