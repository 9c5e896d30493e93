-- Encoding of the bus as words: 255 port rows, 256 device rows, 256 endpoint lists and 256 marks, one table after the other.
-- Decoding is total. Assumes nothing.
use Rattle.std.specs.Prelude.{ℕ, ◌+◌, ◌*◌, ◌%◌, ◌^◌, Bool, cond, List, [], ◌∷◌, get_or, take, drop, eqb, Option, Some, None}
use Rattle.words.specs.Words.{read_flag, read_option_u32, option_u32_word}
use Rattle.models.specs.Codes.{read_device_state, transfer_word}
use Rattle.models.specs.Values.{snapshot_words}
use Rattle.models.specs.declared.{DeviceSnapshot.DeviceSnapshot, TransferType.TransferType}
use Rattle.bus.specs.declared.{PortRow.PortRow}

-- how many ports and slots there are, and the most endpoints of a slot
abbrev pub port_count : ℕ
port_count = 255

abbrev pub slot_count : ℕ
slot_count = 256

abbrev pub endpoints_most : ℕ
endpoints_most = 30

-- the words of a record of each table, and where the table starts
abbrev pub port_words : ℕ
port_words = 2

abbrev pub device_words : ℕ
device_words = 8

-- a count and the endpoints
abbrev pub list_words : ℕ
list_words = 31

abbrev pub devices_at : ℕ
devices_at = 510

abbrev pub lists_at : ℕ
lists_at = 2558

abbrev pub marks_at : ℕ
marks_at = 10494

abbrev pub bus_words : ℕ
bus_words = 10750

-- a port row: its generation, and its last reading or none
abbrev pub read_port : List ℕ → PortRow
read_port w = record { generation = get_or w 0 0; reading = read_option_u32 (get_or w 1 0) }

abbrev pub port_record : PortRow → List ℕ
port_record r = r.generation ∷ option_u32_word r.reading ∷ []

-- a device row: absent, or the device
unfoldable pub read_device : List ℕ → Option DeviceSnapshot
read_device w =
    cond (eqb (get_or w 0 0) 0) None
    (Some (record {
      id = record { session = get_or w 1 0; generation = get_or w 2 0; slot = get_or w 3 0 % 2 ^ 8 };
      port = record { session = get_or w 4 0; generation = get_or w 5 0; number = get_or w 6 0 % 2 ^ 8 };
      state = read_device_state (get_or w 7 0);
    }))

unfoldable pub device_record : DeviceSnapshot → List ℕ
device_record d = 1 ∷ snapshot_words d

-- an endpoint: its address in the low 8 bits, its transfer type above them
abbrev pub endpoint_word : ℕ → TransferType → ℕ
endpoint_word address type = address + 2 ^ 8 * transfer_word type

-- a list: a count, cut at the most endpoints, and a word for each endpoint
unfoldable pub read_endpoints : List ℕ → List ℕ
read_endpoints w = take (get_or w 0 0) (take endpoints_most (drop 1 w))

abbrev pub read_mark : List ℕ → Bool
read_mark w = read_flag (get_or w 0 0)
