-- Every list of calls after an opening that passed leads to a sound session. Assumes nothing.
use Rattle.std.specs.Prelude.{Result}
use Prim.Native.Nat.{ℕ}
use mathlib.Core.Bool.{true, false, true≢false}
use mathlib.Core.List.{List, [], ◌∷◌}
use mathlib.Core.Path.{◌≡◌, refl}
use native.Mathlib.Omega.{arith}
use borrow.Author.Tests.{not-false}
use lib.ListN.{length}
use Rattle.chain.specs.After.{After}
use Rattle.chain.proofs.Chain.{if_by, both}
use Rattle.rows.specs.Store.{store_of, emptied}
use Rattle.rows.specs.Table.{row_count}
use Rattle.rows.proofs.Rows.{length-read_rows}
use Rattle.bus.specs.Tables.{cleared}
use Rattle.session.specs.Lifecycle.{new_session, open_of}
use Rattle.session.specs.Sizes.{sized, rows_fit}
use Rattle.session.specs.Lent.{Lent, lent, memory, store_fits}
use Rattle.session.specs.declared.{Session.Session, Size.Size, lifecycle.Opening.Opening}
use Rattle.session.proofs.sizes.Laws.{rows_words}
use Rattle.calls.specs.Calls.{Call, Open, Place, Move, Acquire, Initialize, Close, Begin, Submit, SubmitPlan, Poll, Recover, Reply, ToSubmit, ToPoll, ToRecovery, Change, Read}
use Rattle.calls.specs.Step.{World, world, opens, moved_of, begun_of, replied_of, change_by, step_of, world_store, next}
use Rattle.calls.specs.declared.{Answer.Answer}
use Rattle.runs.specs.Run.{Handed, Event, left_by, end_of, is_opening, Handing, Follows, beside}
use Rattle.runs.specs.Sound.{Sound, Fitted}
use Rattle.runs.proofs.Handings.{by_handed}
use Rattle.runs.proofs.Rows.{Leads, kept, all_free, all_fitted}
use Rattle.runs.proofs.Rules.{change_step}
use Rattle.runs.proofs.Change.{change_sound}
use Rattle.runs.proofs.Reply.{reply_sound}
use Rattle.runs.proofs.Poll.{poll_sound}
use Rattle.runs.proofs.Finish.{finish_sound}
use Rattle.runs.proofs.Submit.{submit_sound, plan_sound}
use Rattle.runs.proofs.Recover.{begin_sound, recovery_sound}
use Rattle.runs.proofs.Lifecycle.{acquire_sound, initialize_sound, close_sound}
use Rattle.models.specs.declared.{Refusal.Refusal}

-- an opening that passes, for whatever is claimed of it
by_opening : (o : Opening) (w : World) (P : World → Type 0)
    → (store_fits o.size (world_store w) ≡ true → P (world (new_session o) (lent cleared (memory (emptied (world_store w)) w.lent.memory.area))))
    → (step_of (Open o) w).result.answer ≡ Answer.Pass → P (next (step_of (Open o) w))
unfolding step_of open_of
by_opening o w P go =
    if_by (λ (x : After (Result Session Refusal) Lent). (opens x w).result.answer ≡ Answer.Pass → P (next (opens x w))) _ _ _
    (λ t e. let z : ◌≡◌ {A = ℕ} 0 1 = cc in absurd (omega arith))
    (λ t e. go (both _ _ (both _ _ (not-false _ t)).0).0)

fits_sized : (z : Size) (words : ℕ) → rows_fit z words ≡ true → sized z ≡ true
unfolding rows_fit
fits_sized z words e = (both _ _ e).0

abbrev pub SoundIn : World → Type 0
SoundIn w = Sound w.session (world_store w)

abbrev pub FittedIn : World → Type 0
FittedIn w = Fitted w.session (world_store w)

pub sound_open : (o : Opening) (w : World) → (step_of (Open o) w).result.answer ≡ Answer.Pass → SoundIn (next (step_of (Open o) w))
sound_open o w = by_opening o w SoundIn (λ z. all_free (world_store w) (new_session o) (fits_sized _ _ z) refl)

-- a store has as many rows as its words say; one of lent words always does
abbrev pub Whole : World → Type 0
Whole w = length (world_store w).rows ≡ row_count (world_store w).words

pub lent_rows : (l : List ℕ) → length (store_of l).rows ≡ row_count (store_of l).words
unfolding store_of
lent_rows l = length-read_rows l

-- where the opening's store is such
pub fitted_open : (o : Opening) (w : World) → Whole w → (step_of (Open o) w).result.answer ≡ Answer.Pass → FittedIn (next (step_of (Open o) w))
unfolding row_count
fitted_open o w n =
    by_opening o w FittedIn (λ z. all_fitted (world_store w) (new_session o) z (omega (arith, n, rows_words o.size (length (world_store w).words) z)))

-- any other call
abbrev LeadsTo : World → World → Type 0
LeadsTo w v = Leads w.session (world_store w) v.session (world_store v)

module _ (w : World) (k : SoundIn w) where
  leads : (c : Call) → is_opening c ≡ false → LeadsTo w (next (step_of c w))
  unfolding step_of moved_of begun_of replied_of
  leads (Open o) e = absurd (true≢false e)
  leads (Place p) e = kept k
  leads (Move (Acquire reply)) e = acquire_sound k reply
  leads (Move (Initialize reply)) e = initialize_sound k reply
  leads (Move (Close fresh reply)) e = close_sound k fresh reply
  leads (Begin (Submit packets q)) e = submit_sound w.lent k packets q
  leads (Begin (SubmitPlan q)) e = plan_sound w.lent k q.plan q.bytes q.reading
  leads (Begin (Poll id)) e = poll_sound k id
  leads (Begin (Recover id kind)) e = begin_sound k id kind
  leads (Reply (ToSubmit reply)) e = reply_sound k reply
  leads (Reply (ToPoll reply bytes)) e = finish_sound w.lent.memory k reply bytes
  leads (Reply (ToRecovery reply lists)) e = recovery_sound w.lent.memory k lists reply
  leads (Change id c) e = change_sound k id (change_by c) (λ r. change_step r c)
  leads (Read r) e = kept k

pub left_leads : (h : Handed) (c : Call) (w : World) → SoundIn w → Handing h c → LeadsTo w (left_by h c w)
left_leads h c w k e = by_handed h c w (λ x v. LeadsTo w v) e (λ first bus area. leads (beside bus area w) k c first) (kept k)

-- a list of calls from a sound session
leads_on : (es : List Event) (w : World) → SoundIn w → Follows es → LeadsTo w (end_of w es)
leads_on [] w k f = kept k
leads_on (e ∷ es) w k f =
    let a = left_leads e.handed e.call w k f.0 in
    let b = leads_on es (left_by e.handed e.call w) a.sound f.1 in
    record { sound = b.sound; fitted = λ z. b.fitted (a.fitted z) }

-- and one after an opening that passed
module _ (o : Opening) (w : World) (es : List Event) (e : (step_of (Open o) w).result.answer ≡ Answer.Pass) (f : Follows es) where
  pub sound_run : SoundIn (end_of (next (step_of (Open o) w)) es)
  sound_run = (leads_on es (next (step_of (Open o) w)) (sound_open o w e) f).sound

  pub fitted_run : Whole w → FittedIn (end_of (next (step_of (Open o) w)) es)
  fitted_run n = (leads_on es (next (step_of (Open o) w)) (sound_open o w e) f).fitted (fitted_open o w n e)
