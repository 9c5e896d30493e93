-- One law for each way out of what a line shows: its premises are the facts in hand there. Assumes nothing.
use Prim.Native.Nat.{ℕ}
use mathlib.Core.Path.{◌≡◌}
use Rattle.rows.specs.Store.{Store}
use Rattle.lines.specs.Lines.{letter_of, held_in, event_line}
use Rattle.marking.specs.declared.{Marked.Marked}

-- an event's line
pub event_told : (m : Marked) (store : Store) (i letter n : ℕ) → letter ≡ letter_of m.id m.session store → n ≡ held_in m.session store
    → record { index = i; refusal = m.refusal; letter = letter; held = n } ≡ event_line i m store
unfolding event_line
event_told m store i letter n el en = rw (el, en)
