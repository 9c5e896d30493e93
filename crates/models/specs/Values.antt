-- Ids, errors and a request's metadata as words, a word a value. Reading is total: a missing word counts as 0. Assumes nothing.
use Rattle.std.specs.Prelude.{ℕ, ◌+◌, ◌%◌, ◌^◌, cond, List, [], ◌∷◌, ◌++◌, eqb, get_or, replicate, Option, Some, None}
use Rattle.words.specs.Words.{read_option_u32, option_u32_word, read_option_i32, option_i32_word}
use Rattle.models.specs.Codes.{read_category, category_word, transfer_word, direction_word, device_state_word}
use Rattle.models.specs.declared.{DeviceId.DeviceId, DeviceSnapshot.DeviceSnapshot, OperationError.OperationError, PortId.PortId, RequestId.RequestId, RequestMetadata.RequestMetadata, SetupPacket.SetupPacket, SetupWords.SetupWords}

abbrev pub request_id_words : RequestId → List ℕ
request_id_words x = x.session ∷ x.generation ∷ x.sequence ∷ []

abbrev pub read_request_words : ℕ → ℕ → ℕ → RequestId
read_request_words session generation sequence = record { session = session; generation = generation; sequence = sequence }

-- from word `at` on
abbrev pub read_request_id : List ℕ → ℕ → RequestId
read_request_id w at = read_request_words (get_or w at 0) (get_or w (at + 1) 0) (get_or w (at + 2) 0)

abbrev pub device_id_words : DeviceId → List ℕ
device_id_words x = x.session ∷ x.generation ∷ x.slot ∷ []

abbrev pub read_device_words : ℕ → ℕ → ℕ → DeviceId
read_device_words session generation slot = record { session = session; generation = generation; slot = slot % 2 ^ 8 }

abbrev pub read_device_id : List ℕ → ℕ → DeviceId
read_device_id w at = read_device_words (get_or w at 0) (get_or w (at + 1) 0) (get_or w (at + 2) 0)

abbrev pub port_id_words : PortId → List ℕ
port_id_words x = x.session ∷ x.generation ∷ x.number ∷ []

abbrev pub snapshot_words : DeviceSnapshot → List ℕ
snapshot_words d = device_id_words d.id ++ port_id_words d.port ++ device_state_word d.state ∷ []

-- four: category, message, system number, completion code
abbrev pub error_words : OperationError → List ℕ
error_words e = category_word e.category ∷ e.message ∷ option_i32_word e.os_code ∷ option_u32_word e.completion_code ∷ []

abbrev pub read_error_words : ℕ → ℕ → ℕ → ℕ → OperationError
read_error_words category message os code = record {
  category = read_category category;
  message = message % 2 ^ 16;
  os_code = read_option_i32 os;
  completion_code = read_option_u32 code;
}

abbrev pub read_error : List ℕ → ℕ → OperationError
read_error w at = read_error_words (get_or w at 0) (get_or w (at + 1) 0) (get_or w (at + 2) 0) (get_or w (at + 3) 0)

-- five: a flag, and the error
abbrev pub option_error_words : Option OperationError → List ℕ
option_error_words None = replicate 5 0
option_error_words (Some e) = 1 ∷ error_words e

abbrev pub read_option_error : List ℕ → ℕ → Option OperationError
read_option_error w at = cond (eqb (get_or w at 0) 0) None (Some (read_error w (at + 1)))

abbrev pub setup_words : Option SetupPacket → SetupWords
setup_words None = record { present = 0; request_type = 0; request = 0; value = 0; index = 0; length = 0 }
setup_words (Some p) = record { present = 1; request_type = p.request_type; request = p.request; value = p.value; index = p.index; length = p.length }

abbrev pub setup_tail : SetupWords → List ℕ → List ℕ
setup_tail p rest = p.present ∷ p.request_type ∷ p.request ∷ p.value ∷ p.index ∷ p.length ∷ rest

-- thirteen: device, endpoint, type, direction, length, SETUP
abbrev pub metadata_tail : RequestMetadata → List ℕ → List ℕ
metadata_tail m rest =
    device_id_words m.device ++ m.endpoint
    ∷ transfer_word m.transfer_type ∷ direction_word m.direction ∷ m.requested_length
    ∷ setup_tail (setup_words m.setup) rest
