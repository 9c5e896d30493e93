-- The port status and control register PORTSC, xHCI 5.4.8. Assumes nothing.
use Rattle.std.specs.Prelude.{ℕ, ◌*◌, ◌^◌, Bool, ◌||◌}
use Rattle.standards.specs.Fields.{field, bit}
use Rattle.standards.specs.declared.{PortStatus.PortStatus}

-- bit 0, Current Connect Status (CCS)
abbrev pub port_connected : ℕ → Bool
port_connected raw = bit 0 raw

-- bit 1, Port Enabled/Disabled (PED)
abbrev pub port_enabled : ℕ → Bool
port_enabled raw = bit 1 raw

-- bit 4, Port Reset (PR), or bit 31, Warm Port Reset (WPR): document 01 has both as resetting
abbrev pub port_resetting : ℕ → Bool
port_resetting raw = bit 4 raw || bit 31 raw

-- bits 13..10, Port Speed
abbrev pub port_speed : ℕ → ℕ
port_speed raw = field 10 4 raw

-- bits 17 to 23, the changes CSC, PEC, WRC, OCC, PRC, PLC and CEC, kept in their place
abbrev pub port_changes : ℕ → ℕ
port_changes raw = field 17 7 raw * 2 ^ 17

abbrev pub port_status_of : ℕ → PortStatus
port_status_of raw = record {
  connected = port_connected raw;
  enabled = port_enabled raw;
  resetting = port_resetting raw;
  speed_code = port_speed raw;
  change_bits = port_changes raw;
}
