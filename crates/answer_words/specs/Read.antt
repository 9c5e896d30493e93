-- What an answer's words say, and the answers that they tell whole: those with every number in the range of its type. Assumes nothing.
use Rattle.std.specs.Prelude.{ℕ, ◌+◌, ◌<◌, ◌^◌, true, List, eqb, get_or, drop}
use Rattle.chain.specs.Chain.{◌if◌else◌}
use Rattle.words.specs.Records.{tab}
use Rattle.words.specs.Words.{read_flag}
use Rattle.models.specs.Codes.{read_direction, read_profile}
use Rattle.models.specs.Said.{Said, says}
use Rattle.models.specs.Values.{read_error, read_option_error, read_request_id, read_device_id}
use Rattle.models.specs.declared.{RequestMetadata.RequestMetadata, RequestState.RequestState}
use Rattle.rows.specs.Codec.{read_metadata, read_state_words}
use Rattle.session_words.specs.State.{read_kind}
use Rattle.calls.specs.Fits.{U32Fits, ErrorFits, OptionErrorFits, DeviceFits, SetupFits}
use Rattle.calls.specs.declared.{Answer.Answer}

-- the n words from `at` on; a word that is missing is 0
abbrev pub words_from : List ℕ → ℕ → ℕ → List ℕ
words_from w at n = tab (λ (k : ℕ). get_or w (at + k) 0) n

-- by the tag in word 0
unfoldable pub read_answer : List ℕ → Answer
read_answer w =
    Answer.Refused (record { number = get_or w 1 0; error = read_error w 2 }) if eqb (get_or w 0 0) 0 else
    Answer.Pass if eqb (get_or w 0 0) 1 else
    Answer.Begun (record { id = read_request_id w 1; row = get_or w 4 0; metadata = read_metadata (words_from w 5 13); has_packets = read_flag (get_or w 18 0) })
    if eqb (get_or w 0 0) 2 else
    Answer.PlanBegun (record {
      id = read_request_id w 1;
      row = get_or w 4 0;
      plan = record {
        metadata = read_metadata (words_from w 5 13);
        has_data = read_flag (get_or w 18 0);
        data_direction = read_direction (get_or w 19 0);
        status_direction = read_direction (get_or w 20 0);
        profile = read_profile (get_or w 21 0);
      };
    }) if eqb (get_or w 0 0) 3 else
    Answer.Report (record {
      id = read_request_id w 1;
      metadata = read_metadata (words_from w 4 13);
      state = read_state_words (record { tag = get_or w 17 0; a = get_or w 18 0; b = get_or w 19 0; c = get_or w 20 0; d = get_or w 21 0; e = get_or w 22 0; f = get_or w 23 0 });
      logical_cancel = read_flag (get_or w 24 0);
      timed_out = read_flag (get_or w 25 0);
    }) if eqb (get_or w 0 0) 4 else
    Answer.NoReport if eqb (get_or w 0 0) 5 else
    Answer.Asked (get_or w 1 0) if eqb (get_or w 0 0) 6 else
    Answer.Number (get_or w 1 0) if eqb (get_or w 0 0) 7 else
    Answer.Bytes (record { start = get_or w 1 0; length = get_or w 2 0 }) if eqb (get_or w 0 0) 8 else
    Answer.Recovering (record { target = read_request_id w 1; device = read_device_id w 4; endpoint = get_or w 7 0; kind = read_kind (get_or w 8 0) }) if eqb (get_or w 0 0) 9 else
    Answer.Recovered (record {
      target = read_request_id w 1;
      device = read_device_id w 4;
      endpoint = get_or w 7 0;
      completed = get_or w 8 0;
      aborted = get_or w 9 0;
      restart_ready = read_flag (get_or w 10 0);
      error = read_option_error w 11;
    })

-- the number and the values
abbrev pub said_in : List ℕ → Said
said_in w = record { is_refused = true; number = get_or w 1 0; values = drop 2 w } if eqb (get_or w 0 0) 0 else says (drop 1 w)

-- ---- in the range of its type
abbrev pub MetadataFits : RequestMetadata → Type 0
MetadataFits m = DeviceFits m.device × (m.endpoint < 2 ^ 8) × SetupFits m.setup

abbrev pub StateFits : RequestState → Type 0
StateFits (RequestState.Pending cancel late) = Unit {0}
StateFits (RequestState.Completed actual code cancel) = code < 2 ^ 32
StateFits (RequestState.Failed e code quiescent) = ErrorFits e × U32Fits code
StateFits RequestState.Aborted = Unit {0}

abbrev pub AnswerFits : Answer → Type 0
AnswerFits (Answer.Refused r) = ErrorFits r.error
AnswerFits Answer.Pass = Unit {0}
AnswerFits (Answer.Begun x) = MetadataFits x.metadata
AnswerFits (Answer.PlanBegun x) = MetadataFits x.plan.metadata
AnswerFits (Answer.Report x) = MetadataFits x.metadata × StateFits x.state
AnswerFits Answer.NoReport = Unit {0}
AnswerFits (Answer.Asked token) = Unit {0}
AnswerFits (Answer.Number n) = Unit {0}
AnswerFits (Answer.Bytes p) = Unit {0}
AnswerFits (Answer.Recovering x) = DeviceFits x.device
AnswerFits (Answer.Recovered x) = DeviceFits x.device × OptionErrorFits x.error
