-- The place prepare of document 01's table, in its order. Assumes nothing.
use Rattle.std.specs.Prelude.{ℕ, Bool, true, false, not, ◌&&◌, ◌||◌, eqb, ltb, Option, Some, None, Result, Ok, Err, ⊤}
use Rattle.std.specs.Bool.{beq}
use Rattle.chain.specs.Chain.{◌if◌else◌}
use Rattle.models.specs.Kinds.{is_in, is_control}
use Rattle.models.specs.Refusals.{rejected}
use Rattle.models.specs.declared.{Refusal.Refusal, RequestMetadata.RequestMetadata, RequestSpec.RequestSpec, SetupPacket.SetupPacket}
use Rattle.standards.specs.Setup.{packet_of, request_direction, request_kind, recipient_of, endpoint_number, endpoint_reserved, endpoint_direction}
use Rattle.checks.specs.declared.{prepare.SpecFacts.SpecFacts}

abbrev pub has_setup : Option SetupPacket → Bool
has_setup None = false
has_setup (Some p) = true

-- what the checks look at, of the request q with m bytes of data, where a row of the store has `row` bytes; past 10 the packet is there
abbrev pub spec_facts : RequestSpec → ℕ → ℕ → SpecFacts
spec_facts q m row = record {
  length = q.length;
  row_bytes = row;
  data_length = m;
  control = is_control q.transfer_type;
  inward = is_in q.direction;
  endpoint = q.endpoint;
  reserved = endpoint_reserved q.endpoint;
  number = endpoint_number q.endpoint;
  endpoint_in = is_in (endpoint_direction q.endpoint);
  has_setup = has_setup q.setup;
  setup_length = (packet_of q.setup).length;
  setup_in = is_in (request_direction (packet_of q.setup).request_type);
  recipient = recipient_of (packet_of q.setup).request_type;
  kind = request_kind (packet_of q.setup).request_type;
  request = (packet_of q.setup).request;
}

-- 6U over 65,536; 7 over the store's row; then the other checks, of a request and of a plan alike
abbrev pub within_row : ℕ → ℕ → Result ⊤ Refusal → Result ⊤ Refusal
within_row size row others =
    rejected 6 if ltb 65536 size else
    rejected 7 if ltb row size else
    others

-- the tests of 13 and 21: the recipient is over 3, or the type is 3
abbrev pub is_reserved : ℕ → ℕ → Bool
is_reserved recipient kind = ltb 3 recipient || eqb kind 3

-- the tests of 17 and 24: IN with data, or OUT with data of another length
abbrev pub is_wrong_data : Bool → ℕ → ℕ → Bool
is_wrong_data inward given size = inward && not (eqb given 0) || not inward && not (eqb given size)

-- all: 17 data
unfoldable pub data_checked : SpecFacts → Result ⊤ Refusal
data_checked v = rejected 17 if is_wrong_data v.inward v.data_length v.length else (Ok tt)

-- control: 9 endpoint not 0 or over 65,535; 10 no SETUP; 11U lengths differ; 12 direction; 13U recipient over 3 or type 3;
-- 14U standard type with request 5, 9, 11
unfoldable pub control_checked : SpecFacts → Result ⊤ Refusal
control_checked v =
    rejected 9 if not (eqb v.endpoint 0) || ltb 65535 v.length else
    rejected 10 if not v.has_setup else
    rejected 11 if not (eqb v.setup_length v.length) else
    rejected 12 if not (beq v.setup_in v.inward) else
    rejected 13 if is_reserved v.recipient v.kind else
    rejected 14 if eqb v.kind 0 && (eqb v.request 5 || eqb v.request 9 || eqb v.request 11) else
    data_checked v

-- else: 15 endpoint number 0 or SETUP given; 16 direction
unfoldable pub other_checked : SpecFacts → Result ⊤ Refusal
other_checked v =
    rejected 15 if eqb v.number 0 || v.has_setup else
    rejected 16 if not (beq v.endpoint_in v.inward) else
    data_checked v

-- 6, 7; 8 endpoint bits 4 to 6
unfoldable pub spec_checked : SpecFacts → Result ⊤ Refusal
spec_checked v =
    within_row v.length v.row_bytes
    (rejected 8 if not (eqb v.reserved 0) else control_checked v if v.control else other_checked v)

-- document 01's prepared request
abbrev pub metadata_of : RequestSpec → RequestMetadata
metadata_of q = record {
  device = q.device;
  endpoint = q.endpoint;
  transfer_type = q.transfer_type;
  direction = q.direction;
  requested_length = q.length;
  setup = q.setup;
}

unfoldable pub prepared_if : Result ⊤ Refusal → RequestSpec → Result RequestMetadata Refusal
prepared_if (Err r) q = Err r
prepared_if (Ok tt) q = Ok (metadata_of q)

unfoldable pub prepared : RequestSpec → ℕ → ℕ → Result RequestMetadata Refusal
prepared q m row = prepared_if (spec_checked (spec_facts q m row)) q
