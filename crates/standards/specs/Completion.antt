-- Completion codes, xHCI 6.4.5, table 6-90. Assumes nothing.
use Rattle.std.specs.Prelude.{ℕ, Bool, ◌||◌, eqb}

abbrev pub success : ℕ
success = 1

abbrev pub stall_error : ℕ
stall_error = 6

-- fewer bytes came than the buffer holds
abbrev pub short_packet : ℕ
short_packet = 13

-- the codes with which a transfer is complete
abbrev pub is_finished : ℕ → Bool
is_finished code = eqb code success || eqb code short_packet

abbrev pub is_stall : ℕ → Bool
is_stall code = eqb code stall_error
