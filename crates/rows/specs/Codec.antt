-- Encoding of rows as words. Decoding is total: any words give some row. Assumes nothing.
use Rattle.std.specs.Prelude.{ℕ, ◌%◌, ◌^◌, List, [], ◌∷◌, Bool, true, false, cond, get_or, take, drop, eqb, ltb, Option, Some, None}
use Rattle.words.specs.Words.{read_flag, flag_word, read_option_u32, option_u32_word, option_i32_word}
use Rattle.models.specs.Codes.{category_word, read_transfer, read_direction}
use Rattle.models.specs.Values.{metadata_tail, read_error_words}
use Rattle.models.specs.declared.{OperationError.OperationError, RequestMetadata.RequestMetadata, RequestState.RequestState, SetupPacket.SetupPacket, SetupWords.SetupWords}
use Rattle.models.specs.declared.RequestState.TheVariants.{Pending, Completed, Failed, Aborted}
use Rattle.rows.specs.declared.{Row.Row, codec.StateWords.StateWords, codec.StatusWords.StatusWords}

abbrev pub read_setup_words : ℕ → ℕ → ℕ → ℕ → ℕ → ℕ → Option SetupPacket
read_setup_words present type request value index length =
    cond (eqb present 0) None
    (Some (record { request_type = type % 2 ^ 8; request = request % 2 ^ 8; value = value % 2 ^ 16; index = index % 2 ^ 16; length = length % 2 ^ 16 }))

abbrev pub setup_in : SetupWords → Option SetupPacket
setup_in p = read_setup_words p.present p.request_type p.request p.value p.index p.length

unfoldable pub read_metadata : List ℕ → RequestMetadata
read_metadata w = record {
  device = record { session = get_or w 0 0; generation = get_or w 1 0; slot = get_or w 2 0 % 2 ^ 8 };
  endpoint = get_or w 3 0 % 2 ^ 8;
  transfer_type = read_transfer (get_or w 4 0);
  direction = read_direction (get_or w 5 0);
  requested_length = get_or w 6 0;
  setup = read_setup_words (get_or w 7 0) (get_or w 8 0) (get_or w 9 0) (get_or w 10 0) (get_or w 11 0) (get_or w 12 0);
}

-- a report's state by its words; tags: 0 Pending, 1 Completed, 2 Failed, any other Aborted
abbrev pub read_state_words : StateWords → RequestState
read_state_words w =
    cond (eqb w.tag 0) (Pending (read_flag w.a) (read_flag w.b))
    (cond (eqb w.tag 1) (Completed w.a (w.b % 2 ^ 32) (read_flag w.c))
    (cond (eqb w.tag 2) (Failed (read_error_words w.a w.b w.d w.e) (read_option_u32 w.f) (read_flag w.c))
    Aborted))

-- the words of a state: three beside its tag, or six where it has an error
abbrev pub short_words : ℕ → ℕ → ℕ → ℕ → StateWords
short_words tag a b c = record { tag = tag; a = a; b = b; c = c; d = 0; e = 0; f = 0 }

abbrev pub failed_words : OperationError → Option ℕ → Bool → StateWords
failed_words x code quiescent = record {
  tag = 2;
  a = category_word x.category;
  b = x.message;
  c = flag_word quiescent;
  d = option_i32_word x.os_code;
  e = option_u32_word x.completion_code;
  f = option_u32_word code;
}

abbrev pub state_words : RequestState → StateWords
state_words (Pending cancel late) = short_words 0 (flag_word cancel) (flag_word late) 0
state_words (Completed actual code cancel) = short_words 1 actual code (flag_word cancel)
state_words (Failed x code quiescent) = failed_words x code quiescent
state_words Aborted = short_words 3 0 0 0

-- the kind of a row's state, odd where the row is held: 1 Pending, 2 Completed, 3 Failed and not quiescent, 4 Failed and quiescent, 6 Aborted
abbrev pub kind_word : RequestState → ℕ
kind_word (Pending cancel late) = 1
kind_word (Completed actual code cancel) = 2
kind_word (Failed x code quiescent) = cond quiescent 4 3
kind_word Aborted = 6

-- a row's state by its kind and its words. Of the other kinds 0 says what 1 says, an odd one what 3 says, an even one what 6 says
abbrev pub state_by_kind : ℕ → ℕ → ℕ → ℕ → ℕ → ℕ → RequestState
state_by_kind k a b d e f =
    cond (ltb k 2) (Pending (read_flag a) (read_flag b))
    (cond (eqb k 2) (Completed a (b % 2 ^ 32) (read_flag d))
    (cond (eqb (k % 2) 1) (Failed (read_error_words a b d e) (read_option_u32 f) false)
    (cond (eqb k 4) (Failed (read_error_words a b d e) (read_option_u32 f) true)
    Aborted)))

-- a row's status: 0 where it is free, else the kind of its state. A free row keeps the kind (0: Pending) in a word of its record, `rest`,
-- which is 0 in a row that is used
abbrev pub kind_by : ℕ → ℕ → ℕ
kind_by status rest = cond (eqb status 0) rest status

abbrev pub state_in : StatusWords → RequestState
state_in w = state_by_kind (kind_by w.status w.rest) w.a w.b w.d w.e w.f

abbrev pub row_status : Bool → ℕ → ℕ
row_status used kind = cond used kind 0

abbrev pub rest_of : Bool → ℕ → ℕ
rest_of used kind = cond used 0 (cond (eqb kind 1) 0 kind)

-- a row's words of a state are a report's, without the tag and the third, which a Completed state has as its fourth
abbrev pub row_status_words : Bool → ℕ → StateWords → StatusWords
row_status_words used kind w = record {
  status = row_status used kind;
  rest = rest_of used kind;
  a = w.a;
  b = w.b;
  d = cond (eqb kind 2) w.c w.d;
  e = w.e;
  f = w.f;
}

abbrev pub status_words : Bool → RequestState → StatusWords
status_words used s = row_status_words used (kind_word s) (state_words s)

-- a row's words: the two that stand in columns (sequence, status), then its record
unfoldable pub read_row : List ℕ → Row
read_row w = record {
  used = read_flag (get_or w 1 0);
  id = record { session = get_or w 2 0; generation = get_or w 3 0; sequence = get_or w 0 0 };
  metadata = read_metadata (take 13 (drop 4 w));
  token = get_or w 17 0;
  logical_cancel = read_flag (get_or w 18 0);
  timed_out = read_flag (get_or w 19 0);
  state = state_by_kind (kind_by (get_or w 1 0) (get_or w 22 0)) (get_or w 20 0) (get_or w 21 0) (get_or w 23 0) (get_or w 24 0) (get_or w 25 0);
}

abbrev pub status_tail : StatusWords → List ℕ
status_tail s = s.a ∷ s.b ∷ s.rest ∷ s.d ∷ s.e ∷ s.f ∷ []

unfoldable pub record_of : Row → List ℕ
record_of r =
    r.id.session ∷ r.id.generation
    ∷ metadata_tail r.metadata
    (r.token ∷ flag_word r.logical_cancel ∷ flag_word r.timed_out ∷ status_tail (status_words r.used r.state))
