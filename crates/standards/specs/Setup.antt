-- The SETUP packet, USB 2.0, 9.3, and the endpoint address, 9.6.6. Assumes nothing.
use Rattle.std.specs.Prelude.{ℕ, ◌+◌, ◌*◌, ◌^◌, Bool, true, false, cond, ◌&&◌, List, [], ◌∷◌, eqb, get_or, Option, Some, None}
use Rattle.models.specs.declared.{Direction.Direction, SetupPacket.SetupPacket}
use Rattle.models.specs.declared.Direction.TheVariants.{In, Out}
use Rattle.standards.specs.Fields.{field, bit}

-- the packet, or one of zeros
abbrev pub packet_of : Option SetupPacket → SetupPacket
packet_of None = record { request_type = 0; request = 0; value = 0; index = 0; length = 0 }
packet_of (Some p) = p

-- table 9-2: bmRequestType, bRequest, then wValue, wIndex and wLength; 8.1: of two bytes the low one comes first
unfoldable pub setup_bytes : SetupPacket → List ℕ
setup_bytes s =
    s.request_type ∷ s.request
    ∷ field 0 8 s.value ∷ field 8 8 s.value
    ∷ field 0 8 s.index ∷ field 8 8 s.index
    ∷ field 0 8 s.length ∷ field 8 8 s.length
    ∷ []

-- the two bytes from `at` on, as one number
abbrev pub pair_at : List ℕ → ℕ → ℕ
pair_at l at = get_or l at 0 + get_or l (at + 1) 0 * 2 ^ 8

-- table 9-2 read back
unfoldable pub read_packet : List ℕ → SetupPacket
read_packet l = record {
  request_type = get_or l 0 0;
  request = get_or l 1 0;
  value = pair_at l 2;
  index = pair_at l 4;
  length = pair_at l 6;
}

-- byte by byte
abbrev pub same_bytes : List ℕ → List ℕ → Bool
same_bytes [] [] = true
same_bytes [] (y ∷ b) = false
same_bytes (x ∷ a) [] = false
same_bytes (x ∷ a) (y ∷ b) = eqb x y && same_bytes a b

-- a direction bit: 1 is to the host
abbrev pub in_if : Bool → Direction
in_if b = cond b In Out

-- table 9-2, bmRequestType: D7 is the data transfer direction, 1 from device to host
abbrev pub request_direction : ℕ → Direction
request_direction t = in_if (bit 7 t)

-- D6..5 is the type: 0 standard, 1 class, 2 vendor, 3 reserved
abbrev pub request_kind : ℕ → ℕ
request_kind t = field 5 2 t

-- D4..0 is the recipient: 0 device, 1 interface, 2 endpoint, 3 other, 4..31 reserved
abbrev pub recipient_of : ℕ → ℕ
recipient_of t = field 0 5 t

-- 9.6.6, bEndpointAddress: bits 3..0 are the endpoint number
abbrev pub endpoint_number : ℕ → ℕ
endpoint_number e = field 0 4 e

-- bits 6..4 are reserved, zero
abbrev pub endpoint_reserved : ℕ → ℕ
endpoint_reserved e = field 4 3 e

-- bit 7 is the direction, 1 for IN
abbrev pub endpoint_direction : ℕ → Direction
endpoint_direction e = in_if (bit 7 e)
