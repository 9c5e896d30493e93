-- A recovery's reply with the ids of its requests, in fixed lists of 128. Assumes nothing.
use Rattle.std.specs.Prelude.{ℕ, ◌+◌, List, [], map, take, drop, Result, Ok, Err}
use Rattle.chain.specs.After.{After, after}
use Rattle.chain.specs.Lists.{listed}
use Rattle.models.specs.Requests.{no_id}
use Rattle.models.specs.declared.{Refusal.Refusal, RequestId.RequestId}
use Rattle.rows.specs.Table.{id_in}
use Rattle.rows.specs.declared.{Row.Row}
use Rattle.session.specs.Lent.{Memory}
use Rattle.recovery.specs.declared.{AbortReport.AbortReport, Ids.Ids, Recovered.Recovered, Replied.Replied}

-- the ids of the rows at these places
abbrev pub ids_of : List Row → List ℕ → List RequestId
ids_of rows places = map (id_in rows) places

abbrev pub id_lists : List Row → List ℕ → List ℕ → Ids
id_lists rows completed aborted = record { completed = listed 128 no_id (ids_of rows completed); aborted = listed 128 no_id (ids_of rows aborted) }

-- how many requests an answer names
abbrev pub many_in : Result AbortReport Refusal → ℕ
many_in (Err r) = 0
many_in (Ok x) = x.completed + x.aborted

-- those of the completed requests stand at the first places, and those of the aborted ones at the next; a refusal has none
abbrev pub ids_in : Result AbortReport Refusal → List Row → List ℕ → Ids
ids_in (Err r) rows places = id_lists rows [] []
ids_in (Ok x) rows places = id_lists rows (take x.completed places) (take x.aborted (drop x.completed places))

-- a reply by places, with the ids of the rows there; its entries left every row its id
abbrev pub filled : Replied → List Row → Recovered
filled r rows = record { answer = r.answer; session = r.session; ids = ids_in r.answer rows r.places }

abbrev pub with_ids : After Replied Memory → After Recovered Memory
with_ids o = after (filled o.result o.lent.store.rows) o.lent
