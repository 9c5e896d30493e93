-- The board's sentence, of every paper. Assumes nothing.
use Rattle.std.specs.Prelude.{Option, Some, None, Result, Ok, Err}
use Prim.Native.Nat.{ℕ, suc, ◌<◌}
use mathlib.Core.Bool.{true, false, cond}
use mathlib.Core.List.{List, [], ◌∷◌, ◌++◌}
use mathlib.Core.Path.{◌≡◌, refl, sym, ap, ◌∙◌, subst}
use native.Mathlib.Omega.{arith}
use lib.ListN.{length}
use Rattle.chain.specs.Chain.{◌if◌else◌}
use Rattle.chain.specs.Lists.{count, find, any_in, found_in}
use Rattle.chain.proofs.Chain.{caseB, if_all}
use Rattle.models.specs.Refusals.{refusal_of}
use Rattle.models.specs.declared.{Refusal.Refusal, RequestId.RequestId, RequestReport.RequestReport, RequestState.RequestState}
use Rattle.models.specs.declared.RequestState.TheVariants.{Pending, Completed, Failed, Aborted}
use Rattle.rows.specs.Table.{row_in}
use Rattle.rows.specs.Store.{Store}
use Rattle.rows.specs.declared.{Row.Row}
use Rattle.ledger.specs.Search.{is_at}
use Rattle.session.specs.Lent.{store_fits}
use Rattle.session.specs.declared.{Session.Session}
use Rattle.reports.specs.Status.{is_submitting, shown_at, status_by, status_of, held_count_of, tally_of}
use Rattle.calls.specs.Answers.{of_tally}
use Rattle.calls.specs.Step.{World, world, world_store, read_of, step_of, made_on}
use Rattle.calls.specs.declared.{Answer.Answer}
use Rattle.calls.proofs.Made.{made_append}
use Rattle.runs.specs.Run.{Event, end_of}
use Rattle.runs.proofs.Ways.{found_all}
use Rattle.history.specs.Journal.{is_open}
use Rattle.history.specs.Claim.{entries_after, Claim}
use Rattle.paper.specs.Form.{is_damaged}
use Rattle.paper.specs.declared.{PaperEvent.PaperEvent}
use Rattle.paper_session.specs.Start.{start_on, blank_lent}
use Rattle.marking.specs.Marking.{event_calls, event_marked}
use Rattle.marking.proofs.Laws.{marked_made}
use Rattle.lines.specs.Lines.{state_letter, no_letter, letter_by, letter_of, held_number, held_in, event_line, marked_line, lines_from}
use Rattle.lines.specs.declared.{Line.Line}
use Rattle.board.specs.Board.{events_calls, opened, paper_run, RowShown, LineSays, BoardSays}
use Rattle.board.proofs.Calls.{paper_claim, paper_fits, paper_made, made_more}
use Rattle.board.proofs.Quiet.{FreeIn, paper_free}

-- ---- the held count is the claim's
number_told : (h : Result ℕ Refusal) (n : ℕ) → of_tally (tally_of h) ≡ Answer.Number n → held_number h ≡ n
number_told (Err r) n e = let z : ◌≡◌ {A = ℕ} 0 1 = cc in absurd (omega arith)
number_told (Ok m) n e = cc

held_is : (w : World) (es : List Event) → Claim w es → held_in (end_of w es).session (world_store (end_of w es)) ≡ count is_open (entries_after w es)
unfolding step_of read_of
held_is w es k = number_told (held_count_of (end_of w es).session (world_store (end_of w es))) _ k.count_is

-- ---- a letter is that of a row
letter_some : (x : RequestState) → state_letter x ≡ no_letter → ⊥
letter_some (Pending cancel late) e = absurd (omega arith)
letter_some (Completed actual code cancel) e = absurd (omega arith)
letter_some (Failed error code quiescent) e = absurd (omega arith)
letter_some Aborted e = absurd (omega arith)

module _ (id : RequestId) (s : Session) (store : Store) where
  -- what an answer shows
  abbrev Shown : Result RequestReport Refusal → Type 0
  Shown a = (letter_by a ≡ no_letter → ⊥) → RowShown id (letter_by a) store.rows

  abbrev FoundShown : Option ℕ → Type 0
  FoundShown f = Shown (status_by f store.rows)

  refused_shown : (r : Refusal) → Shown (Err r)
  refused_shown r other = absurd (other refl)

  status_shown : Shown (status_of id s store)
  unfolding status_of status_by shown_at
  status_shown =
      if_all Shown _ _ _ (refused_shown (refusal_of 3))
      (if_all FoundShown _ _ _ (refused_shown (refusal_of 40)) (found_all id store.rows FoundShown (refused_shown (refusal_of 40))
      (λ i lt hit other. record { index = i; below = lt; own = hit; state = refl })))

  -- none where no row has the id
  status_dash : store_fits s.size store ≡ true → is_submitting s.in_flight id ≡ false → letter_by (status_of id s store) ≡ no_letter → any_in (is_at id) store.rows ≡ false
  unfolding status_of status_by shown_at found_in ◌if◌else◌
  status_dash fits free dash =
      caseB (any_in (is_at id) store.rows)
      (λ some. absurd (letter_some (row_in store.rows (find (is_at id) store.rows)).state (rw (fits, free, some) at dash)))
      (λ none. none)

letter_shown : (o : Option RequestId) (s : Session) (store : Store) → (letter_of o s store ≡ no_letter → ⊥)
    → (id : RequestId) × (o ≡ Some id) × RowShown id (letter_of o s store) store.rows
letter_shown None s store other = absurd (other refl)
letter_shown (Some id) s store other = (id, refl, status_shown id s store other)

letter_dash : (o : Option RequestId) (s : Session) (store : Store) → store_fits s.size store ≡ true → ((id : RequestId) → is_submitting s.in_flight id ≡ false)
    → letter_of o s store ≡ no_letter → (id : RequestId) → o ≡ Some id → any_in (is_at id) store.rows ≡ false
letter_dash o s store fits free dash id e = status_dash id s store fits (free id) (rw e at dash)

-- ---- a line is that of its event, after the calls of those before it
no_line : (fs : List Line) (line : Line) (back : List Line) → [] ≡ fs ++ (line ∷ back) → ⊥
no_line [] line back e = let z : ◌≡◌ {A = ℕ} 0 1 = cc in absurd (omega arith)
no_line (f ∷ fs) line back e = let z : ◌≡◌ {A = ℕ} 0 1 = cc in absurd (omega arith)

line_is : (before after : List PaperEvent) (e : PaperEvent) (front back : List Line) (line : Line) (i : ℕ) (w : World)
    → lines_from i (before ++ (e ∷ after)) w ≡ front ++ (line ∷ back) → length front ≡ length before
    → (n : ℕ) × (line ≡ marked_line n (event_marked e (made_on (events_calls before w) w)))
line_is [] after e [] back line i w h k = (i, cc)
line_is [] after e (f ∷ fs) back line i w h k = absurd (omega arith)
line_is (b ∷ bs) after e [] back line i w h k = absurd (omega arith)
line_is (b ∷ bs) after e (f ∷ fs) back line i w h k =
    let v : World = made_on (event_calls b w) w in
    let rest : cond (is_damaged b) [] (lines_from (suc i) (bs ++ (e ∷ after)) v) ≡ fs ++ (line ∷ back) = cc in
    caseB (is_damaged b)
    (λ d. absurd (no_line fs line back (rw d at rest)))
    (λ d. let q = line_is bs after e fs back line (suc i) v (rw d at rest) (omega arith) in
    (q.0, q.1 ∙ ap (λ (z : World). marked_line q.0 (event_marked e z)) (sym (made_append (event_calls b w) (events_calls bs v) w))))

-- ---- the sentence
module _ (before : List PaperEvent) (e : PaperEvent) (n : ℕ) where
  -- the world of the event, and the one that it leaves
  abbrev met : World
  met = made_on (events_calls before (start_on blank_lent)) (start_on blank_lent)

  abbrev left : World
  left = world (event_marked e met).result.session (event_marked e met).lent

  left_is : end_of opened (paper_run (before ++ (e ∷ []))) ≡ left
  left_is = paper_made (before ++ (e ∷ [])) ∙ made_more before e (start_on blank_lent) ∙ sym (marked_made e met)

  line_says : LineSays before e (marked_line n (event_marked e met))
  unfolding event_line
  line_says = record {
    held = ap (λ (z : World). held_in z.session (world_store z)) (sym left_is) ∙ held_is opened (paper_run (before ++ (e ∷ []))) (paper_claim (before ++ (e ∷ [])));
    letter = λ other.
        let q = letter_shown (event_marked e met).result.id left.session (world_store left) other in (
          q.0,
          ap (λ (z : World). (event_marked e z).result.id) (paper_made before) ∙ q.1,
          subst (λ (rows : List Row). RowShown q.0 (letter_of (event_marked e met).result.id left.session (world_store left)) rows)
              (ap (λ (z : World). (world_store z).rows) (sym left_is)) q.2,
        );
    dash = λ dash id own.
        subst (λ (z : World). any_in (is_at id) (world_store z).rows ≡ false) (sym left_is)
        (letter_dash (event_marked e met).result.id left.session (world_store left)
        (subst (λ (z : World). store_fits z.session.size (world_store z) ≡ true) left_is (paper_fits (before ++ (e ∷ []))).fits)
        (subst FreeIn left_is (paper_free (before ++ (e ∷ [])))) dash id (ap (λ (z : World). (event_marked e z).result.id) (sym (paper_made before)) ∙ own));
  }

line_there : (before after : List PaperEvent) (e : PaperEvent) (i : ℕ) (w : World) → count is_damaged before ≡ 0 → length before < length (lines_from i (before ++ (e ∷ after)) w)
line_there [] after e i w none = omega arith
line_there (b ∷ bs) after e i w none =
    caseB (is_damaged b)
    (λ d. let z = rw d at none in absurd (omega arith))
    (λ d. let z = rw d at none in rw d (omega (arith, line_there bs after e (suc i) (made_on (event_calls b w) w) (omega arith))))

pub board_says : (paper : List ℕ) → BoardSays paper
board_says paper = record {
  says = λ before after e front back line split lines same.
      let q = line_is before after e front back line 0 (start_on blank_lent) (rw split at lines) same in
      subst (LineSays before e) (sym q.1) (line_says before e q.0);
  every = λ before after e split none. rw split (line_there before after e 0 (start_on blank_lent) none);
}
