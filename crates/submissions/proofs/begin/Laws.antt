-- One law for each way out of the end of a submission: its premises are the facts in hand there. Assumes nothing.
use Rattle.std.specs.Prelude.{Option, Some, None, Result, Ok, Err, ⊤}
use Prim.Native.Nat.{ℕ, ◌<◌, ◌≤◌}
use mathlib.Core.Bool.{Bool, true, false}
use mathlib.Core.List.{List}
use mathlib.Core.Path.{◌≡◌, refl, sym, ap, ◌∙◌}
use native.Mathlib.Omega.{arith}
use borrow.Author.Tests.{le-leb, lt-leb}
use lib.Dec.{leb}
use lib.ListN.{length, take, replicate}
use lib.Seq.{take-length}
use Rattle.chain.specs.After.{after}
use Rattle.chain.specs.Chain.{◌if◌else◌}
use Rattle.chain.specs.Lists.{count, found_in}
use Rattle.chain.proofs.Chain.{caseB, takes, passes, through}
use Rattle.words.specs.Records.{splice}
use Rattle.models.specs.Kinds.{is_in}
use Rattle.models.specs.Requests.{held_most}
use Rattle.models.specs.declared.{Refusal.Refusal, RequestId.RequestId, RequestMetadata.RequestMetadata}
use Rattle.rows.specs.Table.{is_held}
use Rattle.rows.specs.Store.{Store, put_in}
use Rattle.rows.specs.declared.{Row.Row}
use Rattle.ledger.specs.Search.{is_free}
use Rattle.ledger.specs.Tally.{saturate, held_count}
use Rattle.rules.specs.Rules.{pending_row, spend_sequence}
use Rattle.ledger.proofs.Found.{found_in_lem}
use Rattle.ledger.proofs.tally.Laws.{saturate_le, saturate_under}
use Rattle.bus.specs.Tables.{Bus}
use Rattle.targets.specs.Target.{check_target}
use Rattle.targets.specs.declared.{Readings.Readings}
use Rattle.session.specs.Lent.{Memory, memory, lent}
use Rattle.session.specs.Session.{is_initialized}
use Rattle.session.specs.Session as session
use Rattle.session.specs.declared.{Called.Called, Session.Session, sizes.Place.Place}
use Rattle.submissions.specs.Begin.{room_in, new_id, write_of, Draft, draft, begin_of, target_by, target_of}
use Rattle.session.specs.Called.{call_refused}
use Rattle.submissions.specs.declared.{begin.Start.Start}

-- the row for a new request
module _ (rows : List Row) (n : ℕ) (e : n ≡ held_count 8 rows) where
  pub room_full : held_most ≤ n → None ≡ room_in rows
  unfolding room_in held_count
  room_full h =
      let z : n ≡ saturate 8 (count is_held rows) = e in
      let l = saturate_le 8 (count is_held rows) in
      takes (Option ℕ) _ _ _ _ (le-leb held_most (count is_held rows) (omega arith)) refl

  pub room_first : (f : Option ℕ) → n < held_most → f ≡ found_in is_free rows → f ≡ room_in rows
  unfolding room_in held_count
  room_first f h ef =
      let z : n ≡ saturate 8 (count is_held rows) = e in
      passes (Option ℕ) _ _ _ _ (lt-leb held_most (count is_held rows) (saturate_under 8 (count is_held rows) held_most (omega arith) (omega arith))) ef

found_free : (rows : List Row) (i : ℕ) → room_in rows ≡ Some i → found_in is_free rows ≡ Some i
unfolding room_in ◌if◌else◌
found_free rows i =
    caseB (leb held_most (count is_held rows)) (λ t. rw t λ e. let z : ◌≡◌ {A = ℕ} 0 1 = cc in absurd (omega arith)) (λ t. rw t λ e. e)

-- it is inside
pub room_in_lem : (rows : List Row) (f : Option ℕ) (i : ℕ) → f ≡ room_in rows → f ≡ Some i → i < length rows
room_in_lem rows f i ef e = found_in_lem is_free rows (found_in is_free rows) i refl (found_free rows i (sym ef ∙ e))

-- the buffer
module _ (start : ℕ) (m : RequestMetadata) (bytes area written : List ℕ) (b : Bool) (eb : b ≡ is_in m.direction) where
  pub write_in : b ≡ true → written ≡ splice start (replicate m.requested_length 0) area → written ≡ write_of start m bytes area
  unfolding write_of
  write_in t e = e ∙ ap (λ (z : List ℕ). splice start z area) (takes (List ℕ) _ _ _ _ (through b _ true eb t) refl)

  pub write_out : b ≡ false → written ≡ splice start (take (length bytes) bytes) area → written ≡ write_of start m bytes area
  unfolding write_of
  write_out t e = e ∙ ap (λ (z : List ℕ). splice start z area) (passes (List ℕ) _ _ _ _ (through b _ false eb t) (take-length bytes))

-- the sequence number, then row and buffer
module _ (p : Place) (q : RequestMetadata) (bytes : List ℕ) (s : Session) (m : Memory) (v : Result ℕ Refusal) (ev : v ≡ spend_sequence s.next_sequence) where
  pub begin_stop : (r : Refusal) (x : Called Start) → v ≡ Err r → x ≡ call_refused s r → after x m ≡ begin_of (draft p q bytes) s m
  unfolding begin_of
  begin_stop r x e ex = rw (ex, ← ev, e, begin_of)

  pub begin_on : (next : ℕ) (id : RequestId) (row : Row) (store : Store) (area : List ℕ) (n : Session) → v ≡ Ok next → id ≡ new_id s
      → row ≡ pending_row id q → store ≡ put_in m.store p.row row → area ≡ write_of p.start q bytes m.area → n ≡ session.spent s next id
      → after (record { answer = Ok (record { id = id; row = p.row }); session = n }) (memory store area) ≡ begin_of (draft p q bytes) s m
  unfolding begin_of
  begin_on next id row store area n e ei er es ea en = rw (en, es, er, ea, ei, ← ev, e, begin_of)

-- device and endpoint, then the sequence number
module _ (d : Draft) (x : Readings) (s : Session) (b seen : Bus) (m : Memory) (t : Bool) (v : Result ⊤ Refusal) (et : t ≡ is_initialized s.state) (ev : after v seen ≡ check_target t s.ports d.metadata x b) where
  pub target_stop : (r : Refusal) (y : Called Start) → v ≡ Err r → y ≡ call_refused s r → after y (lent seen m) ≡ target_of d x s (lent b m)
  unfolding target_of target_by
  target_stop r y e ey = rw (ey, ← et, ← ev, e)

  pub target_on : (y : Called Start) (left : Memory) → v ≡ (Ok tt) → after y left ≡ begin_of d s m → after y (lent seen left) ≡ target_of d x s (lent b m)
  unfolding target_of target_by
  target_on y left e h = rw (← et, ← ev, e, ← h)
