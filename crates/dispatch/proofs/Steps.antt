-- What a call leaves is what the step of its kind leaves. Assumes nothing.
use Prim.Native.Nat.{ℕ}
use mathlib.Core.List.{List, []}
use mathlib.Core.Path.{◌≡◌, ap, ◌∙◌}
use Rattle.chain.specs.After.{After, after}
use Rattle.session.specs.Lent.{Lent}
use Rattle.calls.specs.Calls.{Call}
use Rattle.answer_words.specs.Encode.{answer_words, written}
use Rattle.answer_words.specs.Lists.{lists_of, put_lists}
use Rattle.session_words.specs.State.{Kept, read_session, kept_of, kept_as}
use Rattle.calls.specs.Step.{World, world, step_of}
use Rattle.calls.specs.declared.{Outcome.Outcome}
use Rattle.answer_words.proofs.lists.Laws.{put_none}
use Rattle.dispatch.specs.Apply.{Ran, ran, run_of, buffers, wrote, ran_on}

-- the step of the call that the words say
pub said : (c d : Call) (v : World) (o : After Outcome Lent) → c ≡ d → o ≡ step_of c v → o ≡ step_of d v
said c d v o e h = h ∙ ap (λ (z : Call). step_of z v) e

-- with its lists
pub ran_said : (c d : Call) (v : World) (o : Ran) (l : List ℕ) → c ≡ d → o ≡ run_of c v l → o ≡ run_of d v l
ran_said c d v o l e h = h ∙ ap (λ (z : Call). run_of z v l) e

-- a call without lists leaves the words that are lent for them
pub unlisted : (c d : Call) (v : World) (o : After Outcome Lent) (l : List ℕ) → c ≡ d → lists_of c v ≡ [] → o ≡ step_of c v → ran o l ≡ run_of d v l
unfolding run_of
unlisted c d v o l e n h =
    let p : l ≡ put_lists (lists_of c v) l = rw n (put_none l) in
    ap (λ (z : After Outcome Lent). ran z l) h ∙ ap (ran (step_of c v)) p ∙ ap (λ (z : Call). run_of z v l) e

-- and what is lent is the session's words s, and the words for an answer and lists; k is what the session's words say after it
pub ran_kept : (c d : Call) (s out after-out l : List ℕ) (a left : Lent) (k : Kept) (o : Outcome) → c ≡ d → lists_of c (world (read_session s) a) ≡ []
    → after o left ≡ step_of c (world (read_session s) a) → k ≡ kept_as s o.session → after-out ≡ written (answer_words o.answer) out
    → buffers k left after-out l ≡ ran_on d (buffers (kept_of s) a out l)
unfolding kept_of
ran_kept c d s out after-out l a left k o e n h ek eo =
    ap (λ (z : Kept). buffers z left after-out l) ek
    ∙ ap (λ (z : List ℕ). buffers (kept_as s o.session) left z l) eo
    ∙ ap (λ (z : Ran). wrote z (buffers (kept_of s) a out l)) (unlisted c d (world (read_session s) a) (after o left) l e n h)
