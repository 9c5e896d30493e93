-- One law for each reply, calls 10 and 12: its premises are the facts in hand there. Assumes nothing.
use Prim.Native.Nat.{ℕ, ◌<◌, ◌≤◌}
use mathlib.Core.List.{List}
use mathlib.Core.Path.{◌≡◌, refl, ap}
use lib.ListN.{get_or}
use native.Mathlib.Omega.{arith}
use Rattle.chain.specs.After.{After, after}
use Rattle.chain.proofs.Chain.{chain}
use Rattle.rows.specs.Store.{Store}
use Rattle.bus.specs.Tables.{Bus}
use Rattle.session.specs.Lent.{Memory, memory, lent}
use Rattle.polls.specs.PollReply.{poll_reply_of}
use Rattle.submissions.specs.SubmitReply.{submit_reply_of}
use Rattle.calls.specs.Answers.{outcome, of_report}
use Rattle.calls.specs.Calls.{ToSubmit, ToPoll, Reply}
use Rattle.calls.specs.Step.{replied_of, step_of}
use Rattle.session_words.specs.State.{Kept, read_session, kept_of}
use Rattle.call_words.specs.Arguments.{read_submit_reply, read_poll_reply}
use Rattle.call_words.specs.Decode.{read_replying, read_call}
use Rattle.answer_words.specs.Lists.{lists_of}
use Rattle.direct.specs.Replies.{replied_told}
use Rattle.dispatch.specs.Apply.{buffers, ran_on}
use Rattle.dispatch.proofs.Steps.{ran_kept}

-- s are the session's words, w the call's
module _ (n : ℕ) (w bytes : List ℕ) (en : n ≡ get_or w 0 0) where
  to_submit : n ≡ 10 → Reply (ToSubmit (read_submit_reply w)) ≡ read_call w bytes
  unfolding read_call read_replying
  to_submit e =
      let a : 4 < n = omega arith in let b : 7 < n = omega arith in let c : 9 < n = omega arith in let d : n ≤ 12 = omega arith in
      rw (← en) (search chain depth 20)

  to_poll : n ≡ 12 → Reply (ToPoll (read_poll_reply w) bytes) ≡ read_call w bytes
  unfolding read_call read_replying
  to_poll e =
      let a : 4 < n = omega arith in let b : 7 < n = omega arith in let c : 9 < n = omega arith in let d : n ≤ 12 = omega arith in
      let n10 : n ≡ 10 → ⊥ = λ z. omega arith in let n11 : n ≡ 11 → ⊥ = λ z. omega arith in
      rw (← en) (search chain depth 20)

  module _ (s next out after-out l : List ℕ) (b : Bus) where
    pub submit_reply_ran : (store left : Store) (area : List ℕ) → n ≡ 10
        → after (after after-out (kept_of next)) left ≡ replied_told (submit_reply_of (read_submit_reply w) (read_session s) store) s out
        → buffers (kept_of next) (lent b (memory left area)) after-out l ≡ ran_on (read_call w bytes) (buffers (kept_of s) (lent b (memory store area)) out l)
    unfolding step_of replied_of lists_of
    submit_reply_ran store left area e h =
        let o = submit_reply_of (read_submit_reply w) (read_session s) store in
        let x = outcome (of_report o.result.answer) o.result.session in
        ran_kept (Reply (ToSubmit (read_submit_reply w))) (read_call w bytes) s out after-out l (lent b (memory store area)) (lent b (memory left area))
        (kept_of next) x (to_submit e) refl
        (ap (λ (z : After (After (List ℕ) Kept) Store). after x (lent b (memory z.lent area))) h)
        (ap (λ (z : After (After (List ℕ) Kept) Store). z.result.lent) h)
        (ap (λ (z : After (After (List ℕ) Kept) Store). z.result.result) h)

    pub poll_reply_ran : (m left : Memory) → n ≡ 12
        → after (after after-out (kept_of next)) left ≡ replied_told (poll_reply_of (read_poll_reply w) bytes (read_session s) m) s out
        → buffers (kept_of next) (lent b left) after-out l ≡ ran_on (read_call w bytes) (buffers (kept_of s) (lent b m) out l)
    unfolding step_of replied_of lists_of
    poll_reply_ran m left e h =
        let o = poll_reply_of (read_poll_reply w) bytes (read_session s) m in
        let x = outcome (of_report o.result.answer) o.result.session in
        ran_kept (Reply (ToPoll (read_poll_reply w) bytes)) (read_call w bytes) s out after-out l (lent b m) (lent b left)
        (kept_of next) x (to_poll e) refl
        (ap (λ (z : After (After (List ℕ) Kept) Memory). after x (lent b z.lent)) h)
        (ap (λ (z : After (After (List ℕ) Kept) Memory). z.result.lent) h)
        (ap (λ (z : After (After (List ℕ) Kept) Memory). z.result.result) h)
