-- One call on lent words: the step that history runs, its answer and its lists in words. Assumes nothing.
use Rattle.std.specs.Prelude.{ℕ, Bool, not, ◌||◌, List, length, eqb, ltb}
use Rattle.chain.specs.After.{After, after}
use Rattle.chain.specs.Chain.{◌if◌else◌}
use Rattle.words.specs.Records.{splice}
use Rattle.session.specs.Lent.{Lent}
use Rattle.calls.specs.Calls.{Call}
use Rattle.calls.specs.Step.{World, world, step_of}
use Rattle.calls.specs.declared.{Outcome.Outcome}
use Rattle.session_words.specs.State.{Kept, kept_as, is_session}
use Rattle.call_words.specs.Form.{is_call}
use Rattle.call_words.specs.Decode.{read_call}
use Rattle.answer_words.specs.Encode.{answer_size, answer_words, written}
use Rattle.answer_words.specs.Lists.{list_size, lists_of, put_lists}

-- what a call leaves, and the words lent for lists after it
pub record Ran : Type 0 where
  pub left : After Outcome Lent
  pub lists : List ℕ

abbrev pub ran : After Outcome Lent → List ℕ → Ran
ran o lists = record { left = o; lists = lists }

unfoldable pub run_of : Call → World → List ℕ → Ran
run_of c w lists = ran (step_of c w) (put_lists (lists_of c w) lists)

-- all that C lends to be changed: the session's words, bus, rows and area, and the words for an answer and its lists
pub record Buffers : Type 0 where
  pub kept : Kept
  pub lent : Lent
  pub out : List ℕ
  pub lists : List ℕ

abbrev pub buffers : Kept → Lent → List ℕ → List ℕ → Buffers
buffers k l out lists = record { kept = k; lent = l; out = out; lists = lists }

abbrev pub world_of : Buffers → World
world_of x = world x.kept.session x.lent

-- the session, the answer and the lists of a call that ran are written
abbrev pub wrote : Ran → Buffers → Buffers
wrote o x =
    let a = o.left in
    buffers (kept_as x.kept.words a.result.session) a.lent (written (answer_words a.result.answer) x.out) o.lists

abbrev pub ran_on : Call → Buffers → Buffers
ran_on c x = wrote (run_of c (world_of x) x.lists) x

-- the same where there is room for every list
abbrev pub answered : Call → Buffers → Buffers
answered c x = wrote (ran (step_of c (world_of x)) (splice 0 (lists_of c (world_of x)) x.lists)) x

-- the calls that carry the session by value; of the others 10 to 16 are made in place, and all but 10 to 12 leave the session
abbrev pub is_by_value : ℕ → Bool
is_by_value n = ltb n 10 || ltb 21 n

-- those, and the replies to a submission and to a poll
abbrev pub is_other : ℕ → Bool
is_other n = ltb n 11 || eqb n 12 || ltb 21 n

-- a status. 1: no call; 2: not a session's own words; 3: too few words for the answer; 4: too few words for lists. Then nothing changes
unfoldable pub dispatch_of : List ℕ → List ℕ → Buffers → After ℕ Buffers
dispatch_of call bytes x =
    after 1 x if not (is_call call) else
    after 2 x if not (is_session x.kept.words) else
    after 3 x if ltb (length x.out) answer_size else
    after 4 x if ltb (length x.lists) list_size else
    after 0 (answered (read_call call bytes) x)
