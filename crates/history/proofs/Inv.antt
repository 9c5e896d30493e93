-- The invariant of a session, its rows and the journal, and the moves that keep it. Assumes nothing.
use Rattle.std.specs.Prelude.{Option, Some, None}
use Prim.Native.Nat.{ℕ, ◌≤◌, ◌<◌}
use mathlib.Core.Path.{◌≡◌, refl, sym, ◌∙◌, subst}
use mathlib.Core.Bool.{true, false, true≢false}
use mathlib.Core.List.{List, ◌∷◌}
use native.Mathlib.Omega.{arith}
use lib.Dec.{eqb}
use lib.ListN.{length, set, replicate}
use Rattle.chain.specs.Lists.{count, is_among}
use Rattle.chain.proofs.Chain.{caseB, if_all, or_false}
use Rattle.chain.proofs.Lists.{sum_none, in_cons, in_head}
use Rattle.models.specs.declared.{OperationError.OperationError, RequestId.RequestId}
use Rattle.rows.specs.Table.{empty_row, is_held, row_in}
use Rattle.rows.specs.declared.{Row.Row}
use Rattle.ledger.specs.Search.{is_at}
use Rattle.session.specs.Session.{is_busy, with_flight, marked}
use Rattle.session.specs.Lifecycle.{closed_session}
use Rattle.session.specs.declared.{InFlight.InFlight, Session.Session}
use Rattle.reports.specs.Answers.{effect}
use Rattle.runs.specs.Run.{noted}
use Rattle.history.specs.Journal.{Entry, Journal, is_entry, entry_of, at_entry, at_waiting, ended_with, released_all}
use Rattle.history.specs.Claim.{row_view}
use Rattle.history.proofs.Led.{Led, Changed, Alike, led_at, led_set, ids_kept}
use Rattle.history.proofs.Changes.{none_held, none_at, closed_ids, led_closed}

-- a session's number, generation and next sequence number, and what it has in flight
pub record InvOf (number generation next : ℕ) (waits : InFlight) (rows : List Row) (j : Journal) (seen : List ℕ) : Type 0 where
  pub led : Led rows j.entries
  -- no entry has an id that is still to be given, nor a session number that was never handed over
  pub fresh : (k : ℕ) → next ≤ k → count (is_entry (record { session = number; generation = generation; sequence = k })) j.entries ≡ 0
  pub past : (x : RequestId) → is_among x.session seen ≡ false → count (is_entry x) j.entries ≡ 0
  pub here : is_among number seen ≡ true
  pub agree : j.waiting ≡ waits

-- so the controller's state, its revision and the stall may be any
abbrev pub Inv : Session → List Row → Journal → List ℕ → Type 0
Inv s rows j seen = InvOf s.number s.generation s.next_sequence s.in_flight rows j seen

flight_none : (f : InFlight) → is_busy f ≡ false → f ≡ InFlight.Nothing
flight_none InFlight.Nothing e = refl
flight_none (InFlight.Submission id) e = absurd (true≢false e)
flight_none (InFlight.Poll id) e = absurd (true≢false e)
flight_none (InFlight.Recovery x) e = absurd (true≢false e)

module _ (s : Session) (rows : List Row) (j : Journal) (seen : List ℕ) (k : Inv s rows j seen) where
  pub marks : Inv (marked s) rows j seen
  unfolding marked
  marks = if_all (λ (x : Session). Inv x rows j seen) _ _ _ k k

  pub effects : (e : OperationError) → Inv (effect e s) rows j seen
  unfolding effect
  effects e = if_all (λ (x : Session). Inv x rows j seen) _ _ _ k marks

  -- ---- an operation ends
  pub ended_kept : (rows' : List Row) (entries' : List Entry) → Led rows' entries' → ((x : RequestId) → count (is_entry x) entries' ≡ count (is_entry x) j.entries)
      → Inv (with_flight s InFlight.Nothing) rows' (record { entries = entries'; waiting = InFlight.Nothing }) seen
  ended_kept rows' entries' led ids = record {
    led = led;
    fresh = λ n h. ids _ ∙ k.fresh n h;
    past = λ x e. ids x ∙ k.past x e;
    here = k.here;
    agree = refl;
  }

  -- it opens or ends, and no row changes, no entry
  pub waits_for : (f : InFlight) → Inv (with_flight s f) rows (record { entries = j.entries; waiting = f }) seen
  waits_for f = record { led = k.led; fresh = k.fresh; past = k.past; here = k.here; agree = refl }

  -- it ends, and its row changes, with its entry
  module _ (x : RequestId) (i : ℕ) (lt : i < length rows) (hit : is_at x (row_in rows i) ≡ true) (g : Entry → Entry)
      (about : at_waiting j.waiting g j.entries ≡ at_entry x g j.entries) (r' : Row)
      (c : Changed (row_in rows i) r' (entry_of x j.entries) (g (entry_of x j.entries))) where
    pub ends_at : Inv (with_flight s InFlight.Nothing) (set rows i r') (ended_with g j) seen
    ends_at =
        subst (λ (l : List Entry). Inv (with_flight s InFlight.Nothing) (set rows i r') (record { entries = l; waiting = InFlight.Nothing }) seen) (sym about)
        (ended_kept (set rows i r') (at_entry x g j.entries) (led_at rows j.entries k.led x i lt hit r' g c)
        (ids_kept rows j.entries k.led x i lt hit r' g c))

  -- ---- a row changes, and no entry
  pub quietly : (i : ℕ) → i < length rows → (r' : Row) → Alike (row_in rows i) r' → Inv s (set rows i r') j seen
  quietly i lt r' c =
      record { led = led_set rows j.entries k.led i lt r' c; fresh = k.fresh; past = k.past; here = k.here; agree = k.agree }

  -- ---- session numbers
  pub seen_more : (n : Option ℕ) → Inv s rows j (noted n seen)
  seen_more None = k
  seen_more (Some n) = record {
    led = k.led;
    fresh = k.fresh;
    agree = k.agree;
    past = λ x e. k.past x (or_false (eqb x.session n) (is_among x.session seen) (sym (in_cons x.session n seen) ∙ e)).1;
    here = let h = k.here in in_cons s.number n seen ∙ caseB (eqb s.number n) (λ e. rw e) (λ e. rw e h);
  }

  -- ---- a close that passes
  -- of a session that is Closed: nothing was held, so no entry was without a release
  pub closed_again : count is_held rows ≡ 0 → Inv s rows (released_all j) seen
  closed_again z = record {
    led = led_closed rows j.entries rows k.led (λ w. sum_none is_held (λ r. w (row_view r)) rows z) (λ x. omega arith);
    fresh = λ n h. closed_ids _ j.entries ∙ k.fresh n h;
    past = λ x h. closed_ids x j.entries ∙ k.past x h;
    here = k.here;
    agree = k.agree;
  }

  pub closed_anew : (n size : ℕ) → is_among n seen ≡ false → is_busy s.in_flight ≡ false
      → Inv (closed_session s n) (replicate size empty_row) (released_all j) (n ∷ seen)
  closed_anew n size new b = record {
    led = led_closed rows j.entries (replicate size empty_row) k.led (λ w. none_held w size) (λ x. omega (arith, none_at x size));
    fresh = λ i h. closed_ids _ j.entries ∙ k.past (record { session = n; generation = 0; sequence = i }) new;
    past = λ x h. closed_ids x j.entries ∙ k.past x (or_false (eqb x.session n) (is_among x.session seen) (sym (in_cons x.session n seen) ∙ h)).1;
    here = in_head n seen;
    agree = k.agree ∙ flight_none s.in_flight b;
  }
