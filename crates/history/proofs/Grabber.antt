-- Those who take completed bytes: the row of bytes that come back is not held, and its id has one release. Assumes nothing.
use Rattle.std.specs.Prelude.{Option, Result}
use Prim.Native.Nat.{ℕ, ◌+◌, ◌*◌, ◌<◌, ◌≤◌, min}
use mathlib.Core.Bool.{true, false, true≢false}
use mathlib.Core.List.{List, [], ◌∷◌, ◌++◌}
use mathlib.Core.Logic.{◌⊎◌, inl, inr}
use mathlib.Core.Path.{◌≡◌, refl, sym, ap, ◌∙◌, subst}
use native.Mathlib.Omega.{arith}
use lib.ListN.{length}
use Rattle.chain.proofs.Chain.{if_by}
use Rattle.words.proofs.Records.{record_apart}
use Rattle.models.specs.Requests.{device_may_access}
use Rattle.models.specs.declared.{Refusal.Refusal, RequestId.RequestId, RequestState.RequestState}
use Rattle.models.specs.declared.RequestState.TheVariants.{Pending, Completed, Failed, Aborted}
use Rattle.rows.specs.Store.{Store}
use Rattle.rows.specs.Table.{is_held, row_in}
use Rattle.rows.specs.declared.{Row.Row}
use Rattle.ledger.specs.Search.{is_at}
use Rattle.session.specs.declared.{Session.Session, Size.Size, lifecycle.Opening.Opening}
use Rattle.reports.specs.Status.{shown_at, completed_length, bytes_part, part_by, completed_part}
use Rattle.reports.specs.declared.{Part.Part}
use Rattle.calls.specs.Answers.{of_part}
use Rattle.calls.specs.Calls.{Open, Read, CompletedBytes}
use Rattle.calls.specs.Step.{World, read_of, step_of, world_store, next}
use Rattle.calls.specs.declared.{Answer.Answer}
use Rattle.runs.specs.Run.{Handed, Event, answer_to, end_of, history_of, Follows, Fresh, calls}
use Rattle.runs.proofs.Handings.{by_handed, follows_at, follows_front, fresh_front}
use Rattle.runs.proofs.Held.{unheld_row}
use Rattle.runs.proofs.Run.{Whole, sound_open, fitted_run}
use Rattle.runs.proofs.Ways.{found_all}
use Rattle.history.specs.Journal.{blank, journal_of}
use Rattle.history.specs.Grabber.{Apart, takes, BytesSafe}
use Rattle.history.proofs.Theorem.{Holds, unheld_once, run_kept, opened_holds}
use Rattle.history.proofs.Unwritten.{held_same}

-- the row that bytes came from: the id's, not held, and the part within its bytes
record TakenFrom (id : RequestId) (z : Size) (rows : List Row) (p : Part) : Type 0 where
  index : ℕ
  below : index < length rows
  hit : is_at id (row_in rows index) ≡ true
  unheld : is_held (row_in rows index) ≡ false
  starts : p.start ≡ index * z.row_bytes
  fits : p.length ≤ z.row_bytes

-- only a Completed request has completed bytes
completed_off : (x : RequestState) → 1 ≤ completed_length x → device_may_access x ≡ false
completed_off (Pending cancel late) h = absurd (omega arith)
completed_off (Completed actual code cancel) h = refl
completed_off (Failed error code quiescent) h = absurd (omega arith)
completed_off Aborted h = absurd (omega arith)

taken_told : (id : RequestId) (size : ℕ) (s : Session) (store : Store) (p : Part) → of_part (completed_part id size s store) ≡ Answer.Bytes p → 1 ≤ p.length
    → TakenFrom id s.size store.rows p
unfolding completed_part shown_at part_by
taken_told id size s store p =
    if_by Told _ _ _ (λ t e. refuses e)
    (λ t.
    if_by (λ (f : Option ℕ). Told (part_by f s.size.row_bytes store.rows)) _ _ _ (λ y e. refuses e)
    (λ y. found_all id store.rows (λ (f : Option ℕ). Told (part_by f s.size.row_bytes store.rows)) (λ e. refuses e) (λ i h hit. at i h hit)))
  where
    Told : Result Part Refusal → Type 0
    Told a = of_part a ≡ Answer.Bytes p → 1 ≤ p.length → TakenFrom id s.size store.rows p

    refuses : {f : Refusal} → Answer.Refused f ≡ Answer.Bytes p → 1 ≤ p.length → TakenFrom id s.size store.rows p
    refuses e = let z : ◌≡◌ {A = ℕ} 0 1 = cc in absurd (omega arith)

    at : (i : ℕ) → i < length store.rows → is_at id (row_in store.rows i) ≡ true
        → Answer.Bytes (bytes_part (i * s.size.row_bytes) (min (completed_length (row_in store.rows i).state) s.size.row_bytes)) ≡ Answer.Bytes p
        → 1 ≤ p.length → TakenFrom id s.size store.rows p
    at i h hit e some =
        let q : bytes_part (i * s.size.row_bytes) (min (completed_length (row_in store.rows i).state) s.size.row_bytes) ≡ p = cc in
        let length_is = ap (λ (x : Part). x.length) q in
        record {
          index = i;
          below = h;
          hit = hit;
          unheld = unheld_row (row_in store.rows i) (completed_off (row_in store.rows i).state (omega (arith, length_is)));
          starts = sym (ap (λ (x : Part). x.start) q);
          fits = omega (arith, length_is);
        }

taken_apart : (id : RequestId) (z : Size) (rows : List Row) (p : Part) → TakenFrom id z rows p → (i : ℕ) → is_held (row_in rows i) ≡ true → Apart z p i
taken_apart id z rows p k i on =
    go (record_apart z.row_bytes k.index i (λ e. true≢false (sym on ∙ ap (λ (n : ℕ). is_held (row_in rows n)) e ∙ k.unheld)))
  where
    go : (i * z.row_bytes + z.row_bytes ≤ k.index * z.row_bytes) ⊎ (k.index * z.row_bytes + z.row_bytes ≤ i * z.row_bytes) → Apart z p i
    go (inl e) = inr (omega (arith, k.starts))
    go (inr e) = inl (omega (arith, k.starts, k.fits))

module _ (o : Opening) (w : World) (es : List Event) (pass : (step_of (Open o) w).result.answer ≡ Answer.Pass) (follows : Follows es)
    (fresh : Fresh (o.session ∷ []) es) (whole : Whole w) where
  abbrev start : World
  start = next (step_of (Open o) w)

  taken_at : (before after : List Event) (h : Handed) (id : RequestId) (p : Part) → es ≡ before ++ (takes id h ∷ after)
      → answer_to (end_of start before) (takes id h) ≡ Answer.Bytes p → 1 ≤ p.length
      → TakenFrom id (end_of start before).session.size (world_store (end_of start before)).rows p
  unfolding step_of read_of
  taken_at before after h id p is =
      let at = end_of start before in
      by_handed h (Read (CompletedBytes id)) at (λ a v. a ≡ Answer.Bytes p → 1 ≤ p.length → TakenFrom id at.session.size (world_store at).rows p)
      (follows_at before after (takes id h) (subst Follows is follows)) (λ first bus area. taken_told id (length area) at.session (world_store at) p)
      (λ e. let z : ◌≡◌ {A = ℕ} 0 1 = cc in absurd (omega arith))

  holds : (before after : List Event) (e : Event) → es ≡ before ++ (e ∷ after)
      → (seen : List ℕ) × Holds (end_of start before) (journal_of (history_of start before) blank) seen
  holds before after e is =
      run_kept before start blank (o.session ∷ []) (sound_open o w pass) (opened_holds o w pass) (follows_front before (e ∷ after) (subst Follows is follows))
      (fresh_front (o.session ∷ []) before (e ∷ after) (subst (Fresh (o.session ∷ [])) is fresh))

  pub bytes_safe : BytesSafe start es
  bytes_safe = record {
    unwritten = λ before after c is.
        let run = subst Follows is follows in
        let fitted = fitted_run o w before pass (follows_front before (calls c ∷ after) run) whole in
        held_same c (end_of start before) fitted (follows_at before after (calls c) run);
    released = λ before after h id p is e some.
        let k = taken_at before after h id p is e some in
        unheld_once _ _ (holds before after (takes id h) is).1.led id k.index k.below k.hit k.unheld;
    apart = λ before after h id p is e some. taken_apart id _ _ p (taken_at before after h id p is e some);
  }
