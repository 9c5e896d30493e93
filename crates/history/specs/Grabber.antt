-- For those who take completed bytes, as a camera's: no call writes into the bytes of a request that is held, so from its submission to its
-- release, and bytes that come back are of a request with a release, apart from those of every held one. Assumes nothing.
use Rattle.std.specs.Prelude.{ℕ, ◌+◌, ◌*◌, ◌≤◌, true, List, ◌∷◌, ◌++◌, ◌⊎◌, ◌≡◌}
use Rattle.words.specs.Records.{part}
use Rattle.models.specs.declared.{RequestId.RequestId}
use Rattle.rows.specs.Table.{is_held, row_in}
use Rattle.session.specs.Lent.{Memory}
use Rattle.session.specs.declared.{Size.Size}
use Rattle.reports.specs.declared.{Part.Part}
use Rattle.calls.specs.Calls.{Call, Read, CompletedBytes}
use Rattle.calls.specs.Step.{World, step_of}
use Rattle.calls.specs.declared.{Answer.Answer}
use Rattle.runs.specs.Run.{Handed, Event, answer_to, end_of, calls}
use Rattle.history.specs.Claim.{releases_of, rows_after, entries_after}

-- the bytes of row i in an area
abbrev pub row_bytes : Size → ℕ → List ℕ → List ℕ
row_bytes z i area = part (i * z.row_bytes) z.row_bytes area

-- a row that is held in both has the same bytes in both
abbrev pub HeldSame : Size → Memory → Memory → Type 0
HeldSame z m m' = (i : ℕ) → is_held (row_in m.store.rows i) ≡ true → is_held (row_in m'.store.rows i) ≡ true
    → row_bytes z i m'.area ≡ row_bytes z i m.area

-- a part of the area that shares no byte with row i's
abbrev pub Apart : Size → Part → ℕ → Type 0
Apart z p i = (p.start + p.length ≤ i * z.row_bytes) ⊎ (i * z.row_bytes + z.row_bytes ≤ p.start)

-- completed bytes are asked for
abbrev pub takes : RequestId → Handed → Event
takes id h = record { call = Read (CompletedBytes id); handed = h }

pub record BytesSafe (w : World) (es : List Event) : Type 0 where
  -- no call of the list writes into a row that is held before and after it
  pub unwritten : (before after : List Event) (c : Call) → es ≡ before ++ (calls c ∷ after)
      → HeldSame (end_of w before).session.size (end_of w before).lent.memory (step_of c (end_of w before)).lent.memory
  -- bytes that come back are of an id with a release
  pub released : (before after : List Event) (h : Handed) (id : RequestId) (p : Part) → es ≡ before ++ (takes id h ∷ after)
      → answer_to (end_of w before) (takes id h) ≡ Answer.Bytes p → 1 ≤ p.length → releases_of id (entries_after w before) ≡ 1
  -- and apart from those of every held row
  pub apart : (before after : List Event) (h : Handed) (id : RequestId) (p : Part) → es ≡ before ++ (takes id h ∷ after)
      → answer_to (end_of w before) (takes id h) ≡ Answer.Bytes p → 1 ≤ p.length
      → (i : ℕ) → is_held (row_in (rows_after w before) i) ≡ true → Apart (end_of w before).session.size p i
