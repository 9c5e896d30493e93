-- The words beside an answer: lists that it can't hold, each its length and then its items. Assumes nothing.
use Rattle.std.specs.Prelude.{ℕ, List, [], ◌∷◌, ◌++◌, length, take, drop, ltb, Result, Ok, Err}
use Rattle.chain.specs.Chain.{◌if◌else◌}
use Rattle.words.specs.Records.{splice}
use Rattle.models.specs.Values.{request_id_words}
use Rattle.models.specs.declared.{Refusal.Refusal, RequestId.RequestId}
use Rattle.rows.specs.declared.{Row.Row}
use Rattle.recovery.specs.Recover.{recover_of}
use Rattle.recovery.specs.RecoveryReply.{recovery_reply_of}
use Rattle.recovery.specs.Reports.{ids_of}
use Rattle.recovery.specs.declared.{AbortReport.AbortReport, Begun.Begun, Replied.Replied}
use Rattle.calls.specs.Calls.{Beginning, Submit, SubmitPlan, Poll, Recover, Replying, ToSubmit, ToPoll, ToRecovery, Call, Open, Place, Move, Begin, Reply, Change, Read}
use Rattle.calls.specs.Step.{World, world_store}
use Rattle.session.specs.declared.{Recovery.Recovery}

-- how many words the lists have at most: two lengths, and 128 ids
abbrev pub list_size : ℕ
list_size = 386

abbrev pub token_list : List ℕ → List ℕ
token_list tokens = length tokens ∷ tokens

abbrev pub id_words : List RequestId → List ℕ
id_words [] = []
id_words (id ∷ ids) = request_id_words id ++ id_words ids

abbrev pub id_list : List RequestId → List ℕ
id_list ids = length ids ∷ id_words ids

-- the tokens of the affected requests
abbrev pub begun_list : Result Recovery Refusal → ℕ → List ℕ → List ℕ
begun_list (Err r) n tokens = []
begun_list (Ok x) n tokens = token_list (take n tokens)

unfoldable pub begun_lists : Begun → List ℕ
begun_lists o = begun_list o.answer o.count o.tokens

-- the ids of the completed requests, whose rows stand at the first n places, and of the aborted ones, at the next m
abbrev pub part_lists : List Row → List ℕ → ℕ → ℕ → List ℕ
part_lists rows places n m = id_list (ids_of rows (take n places)) ++ id_list (ids_of rows (take m (drop n places)))

abbrev pub recovered_by : Result AbortReport Refusal → List Row → List ℕ → List ℕ
recovered_by (Err r) rows places = []
recovered_by (Ok x) rows places = part_lists rows places x.completed x.aborted

unfoldable pub recovered_lists : Replied → List Row → List ℕ
recovered_lists o rows = recovered_by o.answer rows o.places

-- the lists of a call: those of a recovery's start and of its reply, and no others
abbrev pub begun_in : Beginning → World → List ℕ
begun_in (Submit packets q) w = []
begun_in (SubmitPlan q) w = []
begun_in (Poll id) w = []
begun_in (Recover id kind) w = begun_lists (recover_of id kind w.session (world_store w))

abbrev pub replied_in : Replying → World → List ℕ
replied_in (ToSubmit reply) w = []
replied_in (ToPoll reply bytes) w = []
replied_in (ToRecovery reply lists) w =
    let o = recovery_reply_of reply lists w.session w.lent.memory in
    recovered_lists o.result o.lent.store.rows

unfoldable pub lists_of : Call → World → List ℕ
lists_of (Open o) w = []
lists_of (Place p) w = []
lists_of (Move m) w = []
lists_of (Begin b) w = begun_in b w
lists_of (Reply r) w = replied_in r w
lists_of (Change id c) w = []
lists_of (Read r) w = []

-- the lists at the front of the words l; where there is too little room, nothing changes
unfoldable pub put_lists : List ℕ → List ℕ → List ℕ
put_lists lists l = l if ltb (length l) (length lists) else splice 0 lists l
