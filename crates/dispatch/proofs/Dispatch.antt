-- One law for each group of calls, and for a call that was answered: its premises are the facts in hand there. Assumes nothing.
use Prim.Native.Nat.{ℕ, ◌<◌, ◌≤◌}
use mathlib.Core.Bool.{Bool, true, false, not, ◌||◌}
use mathlib.Core.List.{List, []}
use mathlib.Core.Path.{◌≡◌, refl, sym, ap, ◌∙◌}
use lib.ListN.{length, get_or}
use lib.Dec.{eqb, ltb}
use native.Mathlib.Omega.{arith}
use borrow.Author.Tests.{ne_eqb, eqb-false, le-ltb, ltb-true, ltb-false}
use Rattle.chain.specs.After.{After, after}
use Rattle.chain.proofs.Chain.{chain, caseB, if_all, or_false}
use Rattle.models.specs.Values.{read_request_id}
use Rattle.models.specs.declared.{RequestId.RequestId}
use Rattle.rows.specs.Store.{Store}
use Rattle.bus.specs.Tables.{Bus}
use Rattle.session.specs.Lent.{Memory, Lent, memory, lent}
use Rattle.session.specs.declared.{Session.Session}
use Rattle.polls.specs.Poll.{poll_of}
use Rattle.calls.specs.Answers.{outcome, of_poll}
use Rattle.calls.specs.Calls.{Poll, Begin, Change, Withdraw, Call}
use Rattle.answer_words.specs.Encode.{answer_words, written}
use Rattle.call_words.specs.Form.{is_call}
use Rattle.answer_words.specs.Lists.{lists_of}
use Rattle.session_words.specs.State.{Kept, kept_of, kept_as, read_session, is_session}
use Rattle.calls.specs.Step.{World, world, begun_of, step_of}
use Rattle.calls.specs.declared.{Outcome.Outcome}
use Rattle.answer_words.proofs.Room.{lists_put}
use Rattle.session_words.proofs.Own.{written_same}
use Rattle.direct.specs.Direct.{polled_told}
use Rattle.dispatch.specs.Apply.{is_by_value, is_other, Ran, ran, run_of, Buffers, buffers, world_of, wrote, ran_on, answered, dispatch_of}
use Rattle.call_words.specs.Decode.{read_placing, read_moving, read_submission, read_replying, read_changing, read_reporting, read_recovering, read_call}
use Rattle.dispatch.proofs.Steps.{unlisted, ran_said, ran_kept}

-- ---- calls without lists
abbrev Unlisted : World → Call → Type 0
Unlisted v c = lists_of c v ≡ []

module _ (n : ℕ) (w bytes : List ℕ) (v : World) where
  placing_none : Unlisted v (read_placing n w)
  unfolding read_placing lists_of
  placing_none = if_all (Unlisted v) _ _ _ refl (if_all (Unlisted v) _ _ _ refl (if_all (Unlisted v) _ _ _ refl (if_all (Unlisted v) _ _ _ refl refl)))

  moving_none : Unlisted v (read_moving n w)
  unfolding read_moving lists_of
  moving_none = if_all (Unlisted v) _ _ _ refl (if_all (Unlisted v) _ _ _ refl refl)

  submission_none : Unlisted v (read_submission n w bytes)
  unfolding read_submission lists_of
  submission_none = if_all (Unlisted v) _ _ _ refl refl

  pub reporting_none : Unlisted v (read_reporting n w)
  unfolding read_reporting lists_of
  reporting_none =
      if_all (Unlisted v) _ _ _ refl
      (if_all (Unlisted v) _ _ _ refl (if_all (Unlisted v) _ _ _ refl (if_all (Unlisted v) _ _ _ refl (if_all (Unlisted v) _ _ _ refl refl))))

-- ---- by value, or in place
pub other_is : (n : ℕ) (w : List ℕ) → n ≡ get_or w 0 0 → is_other n ≡ true → is_other (get_or w 0 0) ≡ true
other_is n w en v = rw (← en) v

-- by value, where it is no reply
pub by_value_is : (n : ℕ) (w : List ℕ) → n ≡ get_or w 0 0 → is_other (get_or w 0 0) ≡ true → (n ≡ 10 → ⊥) → (n ≡ 12 → ⊥) → is_by_value (get_or w 0 0) ≡ true
by_value_is n w en v n10 n12 =
    let u : is_other n ≡ true = rw (← en) at v in
    let t : is_by_value n ≡ true =
    caseB (ltb n 10) (λ e. rw e)
    (λ e.
    let h = ltb-false n 10 e in
    rw e (caseB (ltb 21 n) (λ f. f) (λ f.
    let z : (false || false || false) ≡ true = rw (le-ltb n 11 (omega arith), ne_eqb n 12 n12, f) at u in
    let y : ◌≡◌ {A = ℕ} 0 1 = cc in
    absurd (omega arith)))) in
    rw en at t

by_value_late : (n : ℕ) → is_by_value n ≡ true → 9 < n → 21 < n
by_value_late n v h =
    caseB (ltb 21 n) (λ e. ltb-true 21 n e)
    (λ e.
    let z : (false || false) ≡ true = rw (le-ltb n 10 (omega arith), e) at v in
    let y : ◌≡◌ {A = ℕ} 0 1 = cc in
    omega arith)

record InPlace (n : ℕ) : Type 0 where
  least : 11 ≤ n
  reply : n ≡ 12 → ⊥
  most : n ≤ 21

in_place : (n : ℕ) → is_other n ≡ false → InPlace n
in_place n v =
    let p = or_false (ltb n 11 || eqb n 12) (ltb 21 n) v in
    let q = or_false (ltb n 11) (eqb n 12) p.0 in
    record { least = ltb-false n 11 q.0; reply = eqb-false n 12 q.1; most = ltb-false 21 n p.1 }

-- ---- the call that the words say; l is lent for lists
-- its step, whatever the bus and the area
abbrev StepsRows : Call → Outcome → Store → Session → Store → Type 0
StepsRows c r next s store = (b : Bus) (area : List ℕ) → after r (lent b (memory next area)) ≡ step_of c (world s (lent b (memory store area)))

module _ (n : ℕ) (w bytes l : List ℕ) (en : n ≡ get_or w 0 0) where
  -- 0 to 4
  pub place_said : (o : After Outcome Lent) (v : World) → n ≤ 4 → o ≡ step_of (read_placing n w) v → ran o l ≡ run_of (read_call w bytes) v l
  unfolding read_call
  place_said o v t h = unlisted (read_placing n w) (read_call w bytes) v o l (rw (← en) (search chain depth 20)) (placing_none n w bytes v) h

  module _ (n4 : 4 < n) where
    -- 5 to 7
    pub move_said : (r : Outcome) (next store : Store) (s : Session) (b : Bus) (area : List ℕ) → n ≤ 7 → StepsRows (read_moving n w) r next s store
        → ran (after r (lent b (memory next area))) l ≡ run_of (read_call w bytes) (world s (lent b (memory store area))) l
    unfolding read_call
    move_said r next store s b area t h =
        unlisted (read_moving n w) (read_call w bytes) _ _ l (rw (← en) (search chain depth 20)) (moving_none n w bytes _) (h b area)

    module _ (n7 : 7 < n) where
      -- 8 and 9
      pub submit_said_lem : (o : After Outcome Lent) (v : World) → n ≤ 9 → o ≡ step_of (read_submission n w bytes) v → ran o l ≡ run_of (read_call w bytes) v l
      unfolding read_call
      submit_said_lem o v t h = unlisted (read_submission n w bytes) (read_call w bytes) v o l (rw (← en) (search chain depth 20)) (submission_none n w bytes v) h

      module _ (n9 : 9 < n) (r : Outcome) (s : Session) (b : Bus) where
        -- 22 to 24
        pub recover_said : (next m : Memory) (k : List ℕ) → is_by_value (get_or w 0 0) ≡ true → n ≤ 24
            → ((o : Bus) → ran (after r (lent o next)) k ≡ run_of (read_recovering n w bytes) (world s (lent o m)) l)
            → ran (after r (lent b next)) k ≡ run_of (read_call w bytes) (world s (lent b m)) l
        unfolding read_call
        recover_said next m k v n24 h =
            let n21 : 21 < n = by_value_late n (rw (← en) at v) n9 in
            let n12 : 12 < n = omega arith in let n15 : 15 < n = omega arith in
            ran_said (read_recovering n w bytes) (read_call w bytes) _ _ l (rw (← en) (search chain depth 20)) (h b)

        -- 29
        pub withdraw_said : (next store : Store) (area : List ℕ) → 24 < n → StepsRows (Change (read_request_id w 1) Withdraw) r next s store
            → ran (after r (lent b (memory next area))) l ≡ run_of (read_call w bytes) (world s (lent b (memory store area))) l
        unfolding read_call lists_of
        withdraw_said next store area n24 h =
            let n12 : 12 < n = omega arith in let n15 : 15 < n = omega arith in let n21 : 21 < n = omega arith in
            unlisted (Change (read_request_id w 1) Withdraw) (read_call w bytes) _ _ l (rw (← en) (search chain depth 20)) refl (h b area)

-- what was lent before is s, a, out and l, and after it s', a', out' and l'
module _ (s call bytes out l s' out' l' : List ℕ) (a a' : Lent) where
  abbrev before : Buffers
  before = buffers (kept_of s) a out l

  abbrev left : Buffers
  left = buffers (kept_of s') a' out' l'

  pub answer_done : (v : Session) (x : Outcome) → v ≡ read_session s → ran (after x a') l' ≡ run_of (read_call call bytes) (world v a) l
      → kept_of s' ≡ kept_as s x.session → out' ≡ written (answer_words x.answer) out → left ≡ ran_on (read_call call bytes) before
  unfolding kept_of
  answer_done v x es h ek eo =
      ap (λ (o : Kept). buffers o a' out' l') ek
      ∙ ap (λ (o : List ℕ). buffers (kept_as s x.session) a' o l') eo
      ∙ ap (λ (o : Ran). wrote o before) h
      ∙ ap (λ (o : Session). wrote (run_of (read_call call bytes) (world o a) l) before) es

  pub apply_done : (t u : Bool) → t ≡ is_call call → not t ≡ false → u ≡ is_session s → not u ≡ false → 32 ≤ length out → 386 ≤ length l
      → left ≡ ran_on (read_call call bytes) before → after {A = ℕ} 0 left ≡ dispatch_of call bytes before
  unfolding run_of dispatch_of kept_of
  apply_done t u et nt eu nu k k' h =
      let c = read_call call bytes in
      let v = world (read_session s) a in
      let e : left ≡ answered c before = h ∙ ap (λ (o : List ℕ). wrote (ran (step_of c v) o) before) (sym (lists_put c v l k')) in
      let z : after {A = ℕ} 0 left ≡ after {A = ℕ} 0 (answered c before) = ap (λ (o : Buffers). after {A = ℕ} 0 o) e in
      search (chain, z) depth 20

-- calls in place: the call that the words say
module _ (n : ℕ) (w bytes : List ℕ) (en : n ≡ get_or w 0 0) where
  polling : n ≡ 11 → Begin (Poll (read_request_id w 1)) ≡ read_call w bytes
  unfolding read_call read_replying
  polling e =
      let a : 4 < n = omega arith in let b : 7 < n = omega arith in let c : 9 < n = omega arith in let d : n ≤ 12 = omega arith in
      let n10 : n ≡ 10 → ⊥ = λ z. omega arith in
      rw (← en) (search chain depth 20)

  changing : is_other n ≡ false → (n ≡ 11 → ⊥) → n ≤ 15 → read_changing n w ≡ read_call w bytes
  unfolding read_call
  changing v n11 h =
      let p = in_place n v in
      let o = p.reply in let q = p.least in
      let d : 12 < n = omega arith in let a : 4 < n = omega arith in let b : 7 < n = omega arith in let c : 9 < n = omega arith in
      rw (← en) (search chain depth 20)

  reporting : is_other n ≡ false → 15 < n → read_reporting n w ≡ read_call w bytes
  unfolding read_call
  reporting v h =
      let k = (in_place n v).most in
      let d : 12 < n = omega arith in let a : 4 < n = omega arith in let b : 7 < n = omega arith in let c : 9 < n = omega arith in
      rw (← en) (search chain depth 20)

  module _ (v : is_other n ≡ false) (s out after-out l : List ℕ) (b : Bus) where
    pub change_ran : (next store : Store) (area : List ℕ) → (n ≡ 11 → ⊥) → n ≤ 15
        → ((o : Bus) (u k : List ℕ) → buffers (kept_of s) (lent o (memory next u)) after-out k
        ≡ ran_on (read_changing n w) (buffers (kept_of s) (lent o (memory store u)) out k))
        → buffers (kept_of s) (lent b (memory next area)) after-out l ≡ ran_on (read_call w bytes) (buffers (kept_of s) (lent b (memory store area)) out l)
    change_ran next store area n11 h e = e b area l ∙ ap (λ (c : Call). ran_on c (buffers (kept_of s) (lent b (memory store area)) out l)) (changing v n11 h)

    pub report_ran : (m : Memory) → 15 < n
        → ((o : Bus) (k : List ℕ) → buffers (kept_of s) (lent o m) after-out k ≡ ran_on (read_reporting n w) (buffers (kept_of s) (lent o m) out k))
        → buffers (kept_of s) (lent b m) after-out l ≡ ran_on (read_call w bytes) (buffers (kept_of s) (lent b m) out l)
    report_ran m h e = e b l ∙ ap (λ (c : Call). ran_on c (buffers (kept_of s) (lent b m) out l)) (reporting v h)

  pub poll_ran : (s next out after-out l area : List ℕ) (b : Bus) (store : Store) (id : RequestId) → n ≡ 11 → id ≡ read_request_id w 1
      → after after-out (kept_of next) ≡ polled_told (poll_of id (read_session s) store) s out
      → buffers (kept_of next) (lent b (memory store area)) after-out l ≡ ran_on (read_call w bytes) (buffers (kept_of s) (lent b (memory store area)) out l)
  unfolding step_of begun_of lists_of
  poll_ran s next out after-out l area b store id e ei h =
      let x = poll_of id (read_session s) store in
      let a = lent b (memory store area) in
      ran_kept (Begin (Poll id)) (read_call w bytes) s out after-out l a a (kept_of next) (outcome (of_poll x.answer) x.session)
      (ap (λ (z : RequestId). Begin (Poll z)) ei ∙ polling e) refl refl (ap (λ (z : After (List ℕ) Kept). z.lent) h)
      (ap (λ (z : After (List ℕ) Kept). z.result) h)

-- a call that leaves the session as it is leaves its words
pub session_left : (c : Call) (x : Buffers) → is_session x.kept.words ≡ true → (step_of c (world_of x)).result.session ≡ read_session x.kept.words
    → (answered c x).kept ≡ kept_of x.kept.words
session_left c x h e = ap (kept_as x.kept.words) e ∙ written_same x.kept.words h
