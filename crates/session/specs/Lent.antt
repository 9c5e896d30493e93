-- What is lent to a call, as one value. Assumes nothing.
use Rattle.std.specs.Prelude.{ℕ, Bool, List, length}
use Rattle.rows.specs.Store.{Store, store_of}
use Rattle.bus.specs.Tables.{Bus, bus_of}
use Rattle.session.specs.Sizes.{rows_fit, bus_fits, memory_sizes, lent_sizes}
use Rattle.session.specs.declared.{Size.Size}

-- the rows and their bytes
pub record Memory : Type 0 where
  pub store : Store
  pub area : List ℕ

abbrev pub memory : Store → List ℕ → Memory
memory store area = record { store = store; area = area }

-- and the bus
pub record Lent : Type 0 where
  pub bus : Bus
  pub memory : Memory

abbrev pub lent : Bus → Memory → Lent
lent b m = record { bus = b; memory = m }

-- whether each has the size that the session records
abbrev pub store_fits : Size → Store → Bool
store_fits z store = rows_fit z (length store.words)

abbrev pub memory_fits : Size → Memory → Bool
memory_fits z m = memory_sizes z (length m.store.words) (length m.area)

abbrev pub tables_fit : Bus → Bool
tables_fit b = bus_fits (length b.words)

abbrev pub lent_fits : Size → Lent → Bool
lent_fits z l = lent_sizes z (length l.memory.store.words) (length l.memory.area) (length l.bus.words)

-- ---- of the words and bytes that a contract's slices have, at the call's start or at its end

abbrev pub memory_of : List ℕ → List ℕ → Memory
memory_of rows area = memory (store_of rows) area

abbrev pub lent_of : List ℕ → List ℕ → List ℕ → Lent
lent_of bus rows area = lent (bus_of bus) (memory_of rows area)
