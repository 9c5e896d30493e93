-- A change in place: where its row stands, and what that says. Assumes nothing.
use Rattle.std.specs.Prelude.{ℕ, ◌<◌, List, [], ◌∷◌, length, Result, Ok, Err}
use Rattle.chain.specs.After.{After, after}
use Rattle.chain.specs.Lists.{find}
use Rattle.models.specs.Said.{Said, said_by}
use Rattle.models.specs.declared.{Refusal.Refusal, RequestId.RequestId, RequestReport.RequestReport}
use Rattle.rows.specs.Table.{empty_row, row_in, report_of}
use Rattle.rows.specs.Store.{Store, put_in}
use Rattle.rows.specs.declared.{Row.Row}
use Rattle.rules.specs.declared.{Change.Change}
use Rattle.ledger.specs.Apply.{apply_of}
use Rattle.ledger.specs.Search.{is_at}

-- row i took the change, or the refusal
abbrev pub row_placed : Result RequestReport Refusal → ℕ → Result ℕ Refusal
row_placed (Err refusal) i = Err refusal
row_placed (Ok report) i = Ok i

-- `apply_of`, with the place of the row for its report: the first that has the id
unfoldable pub apply_placed : RequestId → Change → Store → After (Result ℕ Refusal) Store
apply_placed id c s = after (row_placed (apply_of id c s).result (find (is_at id) s.rows)) (apply_of id c s).lent

abbrev pub placed_said : Result ℕ Refusal → Said
placed_said = said_by (λ i. i ∷ [])

-- the answer, with the report of the row as it stands
abbrev pub reported_at : Result ℕ Refusal → List Row → Result RequestReport Refusal
reported_at (Err refusal) rows = Err refusal
reported_at (Ok i) rows = Ok (report_of (row_in rows i))

-- the row is freed, and reported as it was
abbrev pub freed_at : Result ℕ Refusal → Store → After (Result RequestReport Refusal) Store
freed_at (Err refusal) s = after (Err refusal) s
freed_at (Ok i) s = after (Ok (report_of (row_in s.rows i))) (put_in s i empty_row)

-- where there is a row, it is inside
abbrev pub PlacedIn : Result ℕ Refusal → List Row → Type 0
PlacedIn (Err refusal) rows = Unit {0}
PlacedIn (Ok i) rows = i < length rows
