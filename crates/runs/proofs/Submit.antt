-- Submissions keep the session sound. Assumes nothing.
use Rattle.std.specs.Prelude.{Result}
use Prim.Native.Nat.{ℕ, ◌<◌, ◌≤◌}
use mathlib.Core.Bool.{true, false, false≢true}
use mathlib.Core.List.{List}
use mathlib.Core.Path.{◌≡◌, refl, ap}
use native.Mathlib.Omega.{arith}
use lib.ListN.{length, set, length-set}
use lib.Seq.{get_or-set_same}
use Rattle.chain.specs.Lists.{count}
use Rattle.chain.proofs.Lists.{sum_set}
use Rattle.models.specs.declared.{ControlPlan.ControlPlan, ControllerState.ControllerState, OperationError.OperationError, RequestId.RequestId, RequestMetadata.RequestMetadata}
use Rattle.models.specs.declared.ControllerState.TheVariants.{Closed, AcquiredUnknown, Initialized, Closing, RecoveryRequired}
use Rattle.rows.specs.Store.{put_in, Store}
use Rattle.rows.specs.Table.{empty_row, is_held, is_uncertain, row_in}
use Rattle.rows.specs.declared.{Row.Row}
use Rattle.rules.specs.Rules.{pending_row}
use Rattle.checks.specs.Plan.{plan_of}
use Rattle.checks.specs.Prepare.{metadata_of}
use Rattle.session.specs.Session.{is_initialized}
use Rattle.session.specs.Session as session
use Rattle.session.specs.Lent.{Lent}
use Rattle.session.specs.Sizes.{place_of}
use Rattle.session.specs.declared.{Session.Session}
use Rattle.submissions.specs.Begin.{new_id, draft}
use Rattle.submissions.specs.Submit.{submitted_by, submitted_to, submit_of, Request}
use Rattle.submissions.specs.Plan.{plan_started, planned_to, submit_plan_of}
use Rattle.runs.specs.Sound.{RowSound, FlightSound, is_bare, Sound}
use Rattle.runs.proofs.Moves.{Moves}
use Rattle.runs.proofs.Rows.{Leads, kept, one, put}
use Rattle.runs.proofs.Stages.{submit_all, plan_all, target_all}

ready_full : (x : ControllerState) → is_initialized x ≡ true → is_bare x ≡ false
ready_full Closed e = absurd (false≢true e)
ready_full AcquiredUnknown e = absurd (false≢true e)
ready_full Initialized e = refl
ready_full Closing e = absurd (false≢true e)
ready_full RecoveryRequired e = absurd (false≢true e)

-- a new request
module _ {s : Session} {store : Store} (k : Sound s store) (i : ℕ) (h : i < length store.rows) (room : count is_held store.rows < 128) (m : RequestMetadata)
    (fits : m.requested_length ≤ s.size.row_bytes) (ready : is_initialized s.state ≡ true) (next : ℕ) (later : s.next_sequence < next) where
  abbrev own : Row
  own = pending_row (new_id s) m

  abbrev begun : Session
  begun = session.spent s next (new_id s)

  begun_moves : Moves s begun
  begun_moves = record { same_number = refl; same_generation = refl; later = omega arith; same_size = refl; ready = λ e. e; bare = λ e. e }

  row_own : RowSound begun own
  unfolding pending_row
  row_own = record { session = refl; generation = refl; below = later; fits = fits; state = (refl, refl) }

  -- every other request has a lower sequence number
  alone : (j : ℕ) → j < length store.rows → (row_in store.rows j).used ≡ true → own.used ≡ true → (row_in store.rows j).id ≡ own.id → j ≡ i
  unfolding pending_row
  alone j g u v e =
      let l = (k.rows j g u).below in
      let n = ap (λ (x : RequestId). x.sequence) e in
      absurd (omega arith)

  one_more : one is_held own ≤ 1
  unfolding pending_row is_held
  one_more = omega arith

  no_more : one is_uncertain own ≡ 0
  unfolding pending_row is_uncertain
  no_more = refl

  flies : FlightSound begun.in_flight (set store.rows i own)
  unfolding pending_row
  flies =
      let g = get_or-set_same store.rows i own empty_row h in
      record {
        index = i;
        below = omega (arith, length-set store.rows i own);
        used = ap (λ (r : Row). r.used) g;
        own = ap (λ (r : Row). r.id) g;
        state_is = ap (λ (r : Row). r.state) g;
      }

  pub begun_sound : Leads s store begun (put_in store i own)
  begun_sound =
      let x = sum_set (one is_held) store.rows i own empty_row h in
      let y = sum_set (one is_uncertain) store.rows i own empty_row h in
      put k i h own begun begun_moves (λ e. row_own) alone (omega (arith, one_more)) (omega (arith, no_more, k.uncertain))
      (λ e. omega (arith, no_more, k.certain e)) (ready_full s.state ready) flies ready

-- a submission, and one of a plan
module _ {s : Session} (l : Lent) (k : Sound s l.memory.store) where
  abbrev To : Session → Lent → Type 0
  To t m = Leads s l.memory.store t m.memory.store

  pub submit_sound : (packets : List ℕ) (q : Request) → To (submit_of packets q s l).result.session (submit_of packets q s l).lent
  unfolding submitted_by
  submit_sound packets q =
      submit_all q s l (λ o. To o.result.session o.lent) (λ x early. kept k)
      (λ i room size.
      target_all (draft (place_of s.size i) (metadata_of q.spec) q.bytes) s l.memory
      (λ o. To (submitted_to o (metadata_of q.spec) q.given).result.session o.lent) (λ x b. kept k)
      (λ ready next later b. begun_sound k i room.below room.few (metadata_of q.spec) size.0 ready next later) q.readings l.bus)
      packets

  pub plan_sound : (q : ControlPlan) (bytes : List ℕ) (first : Result ℕ OperationError) → To (submit_plan_of q bytes first s l).result.session (submit_plan_of q bytes first s l).lent
  unfolding plan_started
  plan_sound q bytes first =
      plan_all q bytes first s l (λ o. To o.result.session o.lent) (λ x early. kept k)
      (λ i room size.
      target_all (draft (place_of s.size i) (plan_of q).metadata bytes) s l.memory
      (λ o. To (planned_to o (plan_of q)).result.session o.lent) (λ x b. kept k)
      (λ ready next later b. begun_sound k i room.below room.few (plan_of q).metadata size.0 ready next later) _ l.bus)
