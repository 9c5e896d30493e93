-- What the contracts say of lent slices: of their words at the call's start and at its end. Assumes nothing.
use Rattle.std.specs.Prelude.{ℕ, ◌≡◌, List}
use Rattle.chain.specs.After.{after}
use Rattle.rows.specs.Store.{store_of}
use Rattle.bus.specs.Tables.{Bus}
use Rattle.session.specs.Lent.{memory, lent, memory_of, lent_of}
use Rattle.session.specs.declared.{Session.Session}
use Rattle.calls.specs.Calls.{Call}
use Rattle.calls.specs.Step.{world, step_of}
use Rattle.calls.specs.declared.{Outcome.Outcome}
use Rattle.session_words.specs.State.{kept_of}
use Rattle.dispatch.specs.Apply.{ran, run_of, Buffers, buffers, ran_on}

abbrev pub buffers_of : List ℕ → List ℕ → List ℕ → List ℕ → List ℕ → List ℕ → Buffers
buffers_of session bus rows area out lists = buffers (kept_of session) (lent_of bus rows area) out lists

-- a step of a call that takes neither the bus nor the area: it is the call's step whatever they are. The rows' words before and after
abbrev pub StepsRows : Outcome → Call → Session → List ℕ → List ℕ → Type 0
StepsRows r c s rows rows' =
    (b : Bus) (area : List ℕ) → after r (lent b (memory (store_of rows') area)) ≡ step_of c (world s (lent b (memory (store_of rows) area)))

-- of a call that does not take the bus, and leaves all as it is
abbrev pub ReadsMemory : Outcome → Call → Session → List ℕ → List ℕ → Type 0
ReadsMemory r c s rows area = (b : Bus) → after r (lent b (memory_of rows area)) ≡ step_of c (world s (lent b (memory_of rows area)))

-- of a call with lists that does not take the bus. Each slice before and after
abbrev pub RunsMemory : Outcome → Call → Session → List ℕ → List ℕ → List ℕ → List ℕ → List ℕ → List ℕ → Type 0
RunsMemory r c s rows rows' area area' lists lists' =
    (b : Bus) → ran (after r (lent b (memory_of rows' area'))) lists'
    ≡ run_of c (world s (lent b (memory_of rows area))) lists

-- a run of a call that leaves the session and takes neither the bus nor the area nor lists
abbrev pub WritesRows : Call → List ℕ → List ℕ → List ℕ → List ℕ → List ℕ → Type 0
WritesRows c session rows rows' out out' =
    (b : Bus) (area lists : List ℕ) → buffers (kept_of session) (lent b (memory (store_of rows') area)) out' lists
    ≡ ran_on c (buffers (kept_of session) (lent b (memory (store_of rows) area)) out lists)

-- of one that leaves all but its answer
abbrev pub WritesAnswer : Call → List ℕ → List ℕ → List ℕ → List ℕ → List ℕ → Type 0
WritesAnswer c session rows area out out' =
    (b : Bus) (lists : List ℕ) → buffers (kept_of session) (lent b (memory_of rows area)) out' lists
    ≡ ran_on c (buffers (kept_of session) (lent b (memory_of rows area)) out lists)
