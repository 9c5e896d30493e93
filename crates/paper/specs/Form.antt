-- The checks 56 and 57 (document 02, M-100). Assumes nothing.
use Rattle.std.specs.Prelude.{ℕ, ◌%◌, Bool, true, false, not, ◌||◌, eqb, ltb}
use Rattle.chain.specs.Chain.{◌if◌else◌}
use Rattle.paper.specs.declared.{PaperEvent.PaperEvent}

-- 56: size over 65,536 or no multiple of 8
unfoldable pub is_refused_size : ℕ → Bool
is_refused_size size = ltb 65536 size || not (eqb (size % 8) 0)

-- 57: kind above 5 or an unused field not zero. Kind 0 uses slot, endpoint and length; 1 all; 2 to 5 slot, endpoint and sequence
unfoldable pub is_damaged : PaperEvent → Bool
is_damaged e =
    true if ltb 5 e.kind else
    not (eqb e.sequence 0) || not (eqb e.code 0) || not (eqb e.flags 0) if eqb e.kind 0 else
    false if eqb e.kind 1 else
    not (eqb e.code 0) || not (eqb e.length 0) || not (eqb e.flags 0)
