-- A paper's calls are a list of calls from an opening, so that demand 3's claim holds of it. Assumes nothing.
use Rattle.std.specs.Prelude.{None, Result}
use Prim.Native.Nat.{ℕ, zero, suc}
use mathlib.Core.Bool.{not}
use mathlib.Core.List.{List, [], ◌∷◌, ◌++◌, append_assoc}
use mathlib.Core.Path.{◌≡◌, refl, sym, ap, ◌∙◌}
use lib.ListN.{replicate}
use Rattle.chain.specs.After.{After}
use Rattle.chain.proofs.Chain.{passes, if_all}
use Rattle.rows.specs.declared.{Row.Row}
use Rattle.session.specs.Lent.{Lent}
use Rattle.session.specs.Lifecycle.{open_of}
use Rattle.calls.specs.Calls.{Call, Open}
use Rattle.calls.specs.Step.{World, world, opens, step_of, made_on, no_session}
use Rattle.calls.specs.declared.{Answer.Answer}
use Rattle.calls.proofs.Made.{made_append}
use Rattle.runs.specs.Run.{number_of, end_of, history_of, Follows, Fresh}
use Rattle.runs.proofs.Run.{SoundIn, FittedIn, lent_rows, sound_open, sound_run, fitted_run}
use Rattle.runs.proofs.Own.{end_made, Unnumbered, unnumbered_append, follows_calls, fresh_calls}
use Rattle.history.specs.Journal.{blank, journal_of}
use Rattle.history.specs.Claim.{Claim}
use Rattle.history.proofs.Theorem.{Holds, run_kept, opened_holds, history_claim}
use Rattle.paper.specs.declared.{PaperEvent.PaperEvent}
use Rattle.paper_session.specs.Start.{paper_opening, ready_calls, slot_calls, slots_calls, start_on, paper_words, blank_lent}
use Rattle.paper_session.proofs.Started.{blank_fits}
use Rattle.marking.specs.Marking.{event_call, reply_calls, event_calls}
use Rattle.board.specs.Board.{events_calls, paper_calls, opened, paper_run}
use Rattle.models.specs.declared.{Refusal.Refusal}
use Rattle.session.specs.declared.{Session.Session}

-- ---- no call after the opening hands over a session number

slots_unnumbered : (n : ℕ) → Unnumbered (slots_calls n)
unfolding slots_calls
slots_unnumbered zero = tt
slots_unnumbered (suc n) = unnumbered_append (slots_calls n) (slot_calls n) (slots_unnumbered n) (refl, (refl, tt))

abbrev Bare : Call → Type 0
Bare c = number_of c ≡ None

call_unnumbered : (e : PaperEvent) → Bare (event_call e)
unfolding event_call
call_unnumbered e =
    if_all Bare _ _ _ refl (if_all Bare _ _ _ refl (if_all Bare _ _ _ refl (if_all Bare _ _ _ refl (if_all Bare _ _ _ refl refl))))

reply_unnumbered : (a : Answer) (e : PaperEvent) (rows : List Row) → Unnumbered (reply_calls a e rows)
unfolding reply_calls
reply_unnumbered (Answer.Refused r) e rows = tt
reply_unnumbered Answer.Pass e rows = tt
reply_unnumbered (Answer.Begun x) e rows = (refl, tt)
reply_unnumbered (Answer.PlanBegun x) e rows = tt
reply_unnumbered (Answer.Report x) e rows = tt
reply_unnumbered Answer.NoReport e rows = tt
reply_unnumbered (Answer.Asked token) e rows = (refl, tt)
reply_unnumbered (Answer.Number n) e rows = tt
reply_unnumbered (Answer.Bytes p) e rows = tt
reply_unnumbered (Answer.Recovering x) e rows = (refl, tt)
reply_unnumbered (Answer.Recovered x) e rows = tt

event_unnumbered : (e : PaperEvent) (w : World) → Unnumbered (event_calls e w)
unfolding event_calls
event_unnumbered e w = if_all Unnumbered _ _ _ tt (call_unnumbered e, reply_unnumbered _ e _)

events_unnumbered : (es : List PaperEvent) (w : World) → Unnumbered (events_calls es w)
events_unnumbered [] w = tt
events_unnumbered (e ∷ es) w = unnumbered_append (event_calls e w) (events_calls es (made_on (event_calls e w) w)) (event_unnumbered e w) (events_unnumbered es (made_on (event_calls e w) w))

paper_unnumbered : (es : List PaperEvent) → Unnumbered (paper_calls es)
paper_unnumbered es =
    let cs : List Call = events_calls es (start_on blank_lent) in
    unnumbered_append ready_calls (slots_calls 256 ++ cs) (refl, (refl, (refl, tt)))
    (unnumbered_append (slots_calls 256) cs (slots_unnumbered 256) (events_unnumbered es (start_on blank_lent)))

-- the opening passes
opening_passes : (step_of (Open paper_opening) (world no_session blank_lent)).result.answer ≡ Answer.Pass
unfolding step_of open_of
opening_passes =
    ap (λ (z : After (Result Session Refusal) Lent). (opens z (world no_session blank_lent)).result.answer) (sym (passes (After (Result Session Refusal) Lent) _ _ _ _ (ap not blank_fits) refl))

module _ (es : List PaperEvent) where
  follows : Follows (paper_run es)
  follows = follows_calls (paper_calls es) (paper_unnumbered es)

  fresh : Fresh (1 ∷ []) (paper_run es)
  fresh = fresh_calls (1 ∷ []) (paper_calls es) (paper_unnumbered es)

  -- so demand 3 holds of what a paper's events lead to
  pub paper_claim : Claim opened (paper_run es)
  paper_claim = history_claim paper_opening no_session _ _ _ (paper_run es) opening_passes follows fresh

  -- and the facts of every session that calls lead to
  pub paper_sound : SoundIn (end_of opened (paper_run es))
  paper_sound = sound_run paper_opening (world no_session blank_lent) (paper_run es) opening_passes follows

  pub paper_fits : FittedIn (end_of opened (paper_run es))
  paper_fits = fitted_run paper_opening (world no_session blank_lent) (paper_run es) opening_passes follows (lent_rows (replicate paper_words 0))

  pub paper_holds : (seen : List ℕ) × Holds (end_of opened (paper_run es)) (journal_of (history_of opened (paper_run es)) blank) seen
  paper_holds =
      run_kept (paper_run es) opened blank (1 ∷ []) (sound_open paper_opening (world no_session blank_lent) opening_passes)
      (opened_holds paper_opening (world no_session blank_lent) opening_passes) follows fresh

-- ---- they lead where the events' calls do, one after the other

-- the start's calls lead to the start
start_made : made_on (ready_calls ++ slots_calls 256) opened ≡ start_on blank_lent
unfolding start_on
start_made = refl

pub paper_made : (es : List PaperEvent) → end_of opened (paper_run es) ≡ made_on (events_calls es (start_on blank_lent)) (start_on blank_lent)
paper_made es =
    let cs = events_calls es (start_on blank_lent) in
    end_made (paper_calls es) opened
    ∙ ap (λ (l : List Call). made_on l opened) (sym (append_assoc ready_calls (slots_calls 256) cs))
    ∙ made_append (ready_calls ++ slots_calls 256) cs opened
    ∙ ap (made_on cs) start_made

-- the calls of an event come after those of the events before it
pub made_more : (es : List PaperEvent) (e : PaperEvent) (w : World) → made_on (events_calls (es ++ (e ∷ [])) w) w
    ≡ made_on (event_calls e (made_on (events_calls es w) w)) (made_on (events_calls es w) w)
made_more [] e w = made_append (event_calls e w) [] w
made_more (x ∷ es) e w =
    let v = made_on (event_calls x w) w in
    let same : made_on (events_calls (x ∷ es) w) w ≡ made_on (events_calls es v) v = made_append (event_calls x w) (events_calls es v) w in
    made_append (event_calls x w) (events_calls (es ++ (e ∷ [])) v) w
    ∙ made_more es e v
    ∙ ap (λ (z : World). made_on (event_calls e z) z) (sym same)
