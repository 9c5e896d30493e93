-- The bus: its words, the tables that they decode to, and one row of a table put. Assumes nothing.
use Rattle.std.specs.Prelude.{ℕ, zero, suc, ◌+◌, ◌-◌, ◌*◌, Bool, false, List, [], ◌∷◌, ◌++◌, length, get_or, set, replicate, Option, Some, None}
use Rattle.words.specs.Words.{flag_word}
use Rattle.words.specs.Records.{splice, chunks}
use Rattle.models.specs.declared.{DeviceSnapshot.DeviceSnapshot}
use Rattle.bus.specs.Layout.{port_count, slot_count, port_words, device_words, list_words, devices_at, lists_at, marks_at, bus_words, read_port, port_record, read_device, device_record, read_endpoints, read_mark}
use Rattle.bus.specs.declared.{PortRow.PortRow}

pub record Bus : Type 0 where
  pub words : List ℕ
  pub ports : List PortRow
  pub devices : List (Option DeviceSnapshot)
  pub lists : List (List ℕ)
  pub marks : List Bool

unfoldable pub bus_of : List ℕ → Bus
bus_of l = record {
  words = l;
  ports = chunks 0 port_words read_port port_count l;
  devices = chunks devices_at device_words read_device slot_count l;
  lists = chunks lists_at list_words read_endpoints slot_count l;
  marks = chunks marks_at 1 read_mark slot_count l;
}

-- a port at opening
abbrev pub new_port : PortRow
new_port = record { generation = 1; reading = None }

-- ports are numbered from 1
abbrev pub port_index : ℕ → ℕ
port_index number = number - 1

-- a port by its number, and what stands at a slot
abbrev pub port_at : Bus → ℕ → PortRow
port_at b number = get_or b.ports (port_index number) new_port

abbrev pub device_at : Bus → ℕ → Option DeviceSnapshot
device_at b slot = get_or b.devices slot None

abbrev pub endpoints_at : Bus → ℕ → List ℕ
endpoints_at b slot = get_or b.lists slot []

abbrev pub mark_at : Bus → ℕ → Bool
mark_at b slot = get_or b.marks slot false

unfoldable pub put_port : Bus → ℕ → PortRow → Bus
put_port b number r = record {
  words = splice (port_index number * port_words) (port_record r) b.words;
  ports = set b.ports (port_index number) r;
  devices = b.devices;
  lists = b.lists;
  marks = b.marks;
}

-- the device replaces its slot's
unfoldable pub put_device : Bus → DeviceSnapshot → Bus
put_device b d = record {
  words = splice (devices_at + d.id.slot * device_words) (device_record d) b.words;
  ports = b.ports;
  devices = set b.devices d.id.slot (Some d);
  lists = b.lists;
  marks = b.marks;
}

-- the words l replace the slot's list: the count, then as many words; later words stay, and are not read
unfoldable pub put_endpoints : Bus → ℕ → List ℕ → Bus
put_endpoints b slot l = record {
  words = splice (lists_at + slot * list_words) (length l ∷ l) b.words;
  ports = b.ports;
  devices = b.devices;
  lists = set b.lists slot l;
  marks = b.marks;
}

unfoldable pub put_mark : Bus → ℕ → Bool → Bus
put_mark b slot m = record {
  words = set b.words (marks_at + slot) (flag_word m);
  ports = b.ports;
  devices = b.devices;
  lists = b.lists;
  marks = set b.marks slot m;
}

-- the words of n ports at opening
abbrev pub new_ports : ℕ → List ℕ
new_ports zero = []
new_ports (suc n) = 1 ∷ 0 ∷ new_ports n

-- at opening: every device absent, every list empty, every mark clear, every port of generation 1 and without a reading
unfoldable pub cleared : Bus
cleared = record {
  words = new_ports port_count ++ replicate (bus_words - devices_at) 0;
  ports = replicate port_count new_port;
  devices = replicate slot_count None;
  lists = replicate slot_count [];
  marks = replicate slot_count false;
}
