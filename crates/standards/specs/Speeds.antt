-- What low speed carries, USB 2.0 chapter 5. Assumes nothing.
use Rattle.std.specs.Prelude.{ℕ, Bool, true, false}
use Rattle.models.specs.declared.{TransferType.TransferType}

-- the code of low speed in a port's word, xHCI 7.2.2.1.1
abbrev pub low_speed : ℕ
low_speed = 2

-- 5.6 and 5.8 leave isochronous and bulk transfers to the higher speeds
abbrev pub is_low_speed_type : TransferType → Bool
is_low_speed_type TransferType.Control = true
is_low_speed_type TransferType.Bulk = false
is_low_speed_type TransferType.Interrupt = true
is_low_speed_type TransferType.Isochronous = false
