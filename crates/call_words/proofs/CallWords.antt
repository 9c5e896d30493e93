-- Words that are a call are the words of the call that they say. Assumes nothing.
use Prim.Native.Nat.{ℕ, suc, ◌+◌, ◌*◌, ◌/◌, ◌%◌, ◌≤◌, ◌^◌}
use mathlib.Core.Path.{◌≡◌, refl, sym, ap, ◌∙◌}
use mathlib.Core.Bool.{Bool, true, false, ◌&&◌, false≢true}
use mathlib.Core.List.{List, [], ◌∷◌, ◌++◌, append_assoc}
use native.Mathlib.Omega.{arith}
use lib.Dec.{eqb, leb}
use lib.ListN.{length, get_or, drop, take-append-drop}
use lib.Seq.{drop-drop}
use borrow.Author.Tests.{eqb-true, eqb-false, leb-true, leb-false}
use Rattle.chain.specs.Chain.{◌if◌else◌}
use Rattle.chain.proofs.Chain.{caseB, both, and3, if_by}
use Rattle.words.specs.Records.{tab, part}
use Rattle.words.specs.Words.{read_flag, read_option_u64}
use Rattle.words.proofs.Records.{part_length}
use Rattle.models.specs.Values.{request_id_words, read_option_error, read_request_id}
use Rattle.scope.specs.Returned.{completion_words, read_completion}
use Rattle.session.specs.declared.{RecoveryKind.RecoveryKind}
use Rattle.calls.specs.Calls.{Call, Open, Place, Device, Port, Endpoints, Reconcile, Move, Acquire, Initialize, Close, Begin, Submit, SubmitPlan, Recover, Reply, ToSubmit, ToPoll, ToRecovery, Change, Cancel, Timeout, Read, Reports, HeldCount, HeldBytes}
use Rattle.call_words.specs.Parts.{is_zero, is_flag, is_byte, are_zero, by_flag, zeros, backend_completion_words, is_error, is_option_error, is_completion}
use Rattle.call_words.specs.Form.{has, is_open_call, is_set_device, is_set_port, is_set_endpoints, is_set_reconcile, is_acquire, is_initialize, is_close, is_submit, is_plan, is_submit_reply, is_poll_reply, is_reports, is_reset, is_recovered, is_recovery_reply, is_placing, is_moving, is_submission, is_replying, is_reporting, is_recovery_call, is_call}
use Rattle.call_words.specs.Arguments.{read_opening, read_snapshot, read_port_row, read_acquire_reply, read_spec, read_readings, read_request, read_plan, read_plan_request, read_submit_reply, read_poll_reply, read_option_id, read_recovery_reply, read_completed, read_completions, read_aborted, read_lists}
use Rattle.call_words.specs.Decode.{read_placing, read_moving, read_submission, read_replying, read_changing, read_reporting, read_recovering, read_call}
use Rattle.call_words.specs.Encode.{recovery_reply_words, call_words}
use Rattle.call_words.proofs.Told.{and4, opening_told, device_told, port_told, endpoints_told, reconcile_told, acquire_told, initialize_told, close_told, submit_reply_told, reports_told, reset_told, recovery_reply_told, submit_told, plan_told}
use Rattle.call_words.proofs.PartWords.{word, from, cut, whole, by_flag_lem, zeros_words, flag_word_lem, transfer_word_lem, direction_word_lem, device_state_word_lem, profile_word_lem, status_word_lem, byte_word, option_u32_word_lem, number_words, error_words_lem, setup_words_lem, option_error_words_lem, option_setup_words_lem, reading_words_lem, stage_words_lem, ports_words_lem, completion_words_lem}

-- the way that two chains with the same tests take
same_way : {A : Type 0} (P : A → Type 0) (b : Bool) {x y : Bool} {u v : A} → (b ≡ true → x ≡ true → P u) → (b ≡ false → y ≡ true → P v)
    → (x if b else y) ≡ true → P (u if b else v)
unfolding ◌if◌else◌
same_way P true a c = a refl
same_way P false a c = c refl

known : (b x : Bool) → (x if b else false) ≡ true → (b ≡ true) × (x ≡ true)
unfolding ◌if◌else◌
known true x t = (refl, t)
known false x t = absurd (false≢true t)

module _ (w : List ℕ) where
  abbrev Says : Call → Type 0
  Says c = call_words c ≡ w

  -- the number, and the n words after it
  all : (n k : ℕ) → has w (suc n) ≡ true → get_or w 0 0 ≡ k → k ∷ tab (λ (i : ℕ). get_or w (suc i) 0) n ≡ w
  all n k h e = rw (← e) (whole w (suc n) h)

  byte : (i : ℕ) → is_byte w i ≡ true → get_or w i 0 % 2 ^ 8 ≡ get_or w i 0
  byte i t = byte_word (get_or w i 0) t

  abbrev after : ℕ → ℕ → ℕ
  after at = from (word w) at

  opening_says : get_or w 0 0 ≡ 0 → is_open_call w ≡ true → Says (Open (read_opening w))
  unfolding read_opening call_words
  opening_says e t =
      let p = opening_told w t in
      rw (number_words (after 3) p.1, ports_words_lem (after 5) p.2) (all 8 0 p.0 e)

  device_says : get_or w 0 0 ≡ 1 → is_set_device w ≡ true → Says (Place (Device (read_snapshot w)))
  unfolding read_snapshot call_words
  device_says e t =
      let p = device_told w t in
      rw (byte 3 p.1, byte 6 p.2, device_state_word_lem (get_or w 7 0) p.3) (all 7 1 p.0 e)

  port_says : get_or w 0 0 ≡ 2 → is_set_port w ≡ true → Says (Place (Port (get_or w 1 0 % 2 ^ 8) (read_port_row w)))
  unfolding read_port_row call_words
  port_says e t =
      let p = port_told w t in
      rw (byte 1 p.1, option_u32_word_lem (get_or w 3 0) p.2) (all 3 2 p.0 e)

  endpoints_says : get_or w 0 0 ≡ 3 → is_set_endpoints w ≡ true → Says (Place (Endpoints (get_or w 1 0 % 2 ^ 8) (drop 2 w)))
  unfolding call_words
  endpoints_says e t =
      let p = endpoints_told w t in
      rw (byte 1 p.1) (rw e at (cut w 2 (leb-true 2 (length w) p.0)))

  reconcile_says : get_or w 0 0 ≡ 4 → is_set_reconcile w ≡ true → Says (Place (Reconcile (get_or w 1 0 % 2 ^ 8) (read_flag (get_or w 2 0))))
  unfolding call_words
  reconcile_says e t =
      let p = reconcile_told w t in
      rw (byte 1 p.1, flag_word_lem (get_or w 2 0) p.2) (all 2 4 p.0 e)

  acquire_says : get_or w 0 0 ≡ 5 → is_acquire w ≡ true → Says (Move (Acquire (read_acquire_reply w)))
  unfolding read_acquire_reply call_words
  acquire_says e t =
      let p = acquire_told w t in
      let h = all 6 5 p.0 e in
      by_flag_lem (get_or w 1 0) (are_zero w 2 5) (is_flag w 2 && is_error w 3) p.1
      (λ k z. rw k (rw (k, zeros_words (after 2) 5 z) at h))
      (λ k z. let q = both (is_flag w 2) (is_error w 3) z in rw (k, flag_word_lem (get_or w 2 0) q.0, error_words_lem (after 3) q.1) (rw k at h))

  initialize_says : get_or w 0 0 ≡ 6 → is_initialize w ≡ true → Says (Move (Initialize (read_option_error w 1)))
  unfolding call_words
  initialize_says e t =
      let p = initialize_told w t in
      rw (option_error_words_lem (after 1) p.1) (all 5 6 p.0 e)

  close_says : get_or w 0 0 ≡ 7 → is_close w ≡ true → Says (Move (Close (read_option_u64 (get_or w 1 0) (get_or w 2 0)) (read_option_error w 3)))
  unfolding call_words
  close_says e t =
      let p = close_told w t in
      rw (number_words (after 1) p.1, option_error_words_lem (after 3) p.2) (all 7 7 p.0 e)

  -- packets not given are none
  packets : by_flag (get_or w 26 0) (has w 27) (leb 27 (length w)) ≡ true → (27 ≤ length w) × (leb (get_or w 26 0) 1 ≡ true)
  packets t =
      by_flag_lem (get_or w 26 0) (has w 27) (leb 27 (length w)) t
      (λ k z. let q = eqb-true (length w) 27 z in (omega arith, rw k))
      (λ k z. (leb-true 27 (length w) z, rw k))

  submit_says : (bytes : List ℕ) → get_or w 0 0 ≡ 8 → is_submit w ≡ true
      → Says (Begin (Submit (drop 27 w) (read_request w bytes)))
  unfolding read_spec read_readings call_words
  submit_says bytes e t =
      let p = submit_told w t in
      let g = packets p.7 in
      rw (
        byte 3 p.0,
        byte 4 p.1,
        transfer_word_lem (get_or w 5 0) p.2,
        direction_word_lem (get_or w 6 0) p.3,
        option_setup_words_lem (after 8) p.4,
        reading_words_lem (after 14) p.5,
        reading_words_lem (after 20) p.6,
        flag_word_lem (get_or w 26 0) g.1,
      )
      (rw e at (cut w 27 g.0))

  plan_says : (bytes : List ℕ) → get_or w 0 0 ≡ 9 → is_plan w ≡ true → Says (Begin (SubmitPlan (read_plan_request w bytes)))
  unfolding read_plan call_words
  plan_says bytes e t =
      let p = plan_told w t in
      let u = setup_words_lem (after 5) p.3 in
      rw (
        byte 3 p.1,
        profile_word_lem (get_or w 4 0) p.2,
        u.0,
        u.1,
        u.2,
        u.3,
        u.4,
        stage_words_lem (after 10) p.4,
        status_word_lem (get_or w 13 0) p.5,
        reading_words_lem (after 14) p.6,
      )
      (all 19 9 p.0 e)

  submit_reply_says : get_or w 0 0 ≡ 10 → is_submit_reply w ≡ true → Says (Reply (ToSubmit (read_submit_reply w)))
  unfolding read_submit_reply call_words
  submit_reply_says e t =
      let p = submit_reply_told w t in
      let h = all 6 10 p.0 e in
      by_flag_lem (get_or w 1 0) (are_zero w 3 4) (is_zero w 2 && is_error w 3) p.1
      (λ k z. rw k (rw (k, zeros_words (after 3) 4 z) at h))
      (λ k z. let q = both (is_zero w 2) (is_error w 3) z in
      rw (k, error_words_lem (after 3) q.1) (rw (k, eqb-true (get_or w 2 0) 0 q.0) at h))

  id_says : (n : ℕ) → get_or w 0 0 ≡ n → has w 4 ≡ true → n ∷ request_id_words (read_request_id w 1) ≡ w
  id_says n e t = all 3 n t e

  polled : (k : ℕ) → get_or w 1 0 ≡ k → has w 12 ≡ true → get_or w 0 0 ≡ 12 → 12 ∷ k ∷ tab (after 2) 10 ≡ w
  polled k ek h e = rw ek at (all 11 12 h e)

  poll_reply_says : (bytes : List ℕ) → get_or w 0 0 ≡ 12 → is_poll_reply w ≡ true → Says (Reply (ToPoll (read_poll_reply w) bytes))
  unfolding is_poll_reply read_poll_reply call_words ◌if◌else◌
  poll_reply_says bytes e =
      caseB (eqb (get_or w 1 0) 0)
      (λ y. rw y λ t. let p = both (has w 12) (are_zero w 2 10) t in rw (zeros_words (after 2) 10 p.1) at (polled 0 (eqb-true (get_or w 1 0) 0 y) p.0 e))
      (λ y. rw y (caseB (eqb (get_or w 1 0) 1)
      (λ z. rw z λ t.
      let p = and4 (has w 12) (is_zero w 2) (is_error w 3) (are_zero w 7 5) t in
      ap (λ (l : List ℕ). 12 ∷ 1 ∷ 0 ∷ (l ++ zeros 5)) (error_words_lem (after 3) p.2)
      ∙ (rw (eqb-true (get_or w 2 0) 0 p.1, zeros_words (after 7) 5 p.3) at (polled 1 (eqb-true (get_or w 1 0) 1 z) p.0 e)))
      (λ z. rw z λ t.
      let p = and3 (has w 12) (eqb (get_or w 1 0) 2) (is_completion (drop 2 w)) t in
      let d : drop 2 w ≡ tab (after 2) 10 = ap (λ (l : List ℕ). drop 2 l) (sym (whole w 12 p.0)) in
      let q : is_completion (tab (after 2) 10) ≡ true = rw d at p.2 in
      ap (λ (l : List ℕ). 12 ∷ 2 ∷ backend_completion_words (read_completion l)) d ∙ ap (λ (l : List ℕ). 12 ∷ 2 ∷ l) (completion_words_lem (after 2) q)
      ∙ polled 2 (eqb-true (get_or w 1 0) 2 p.1) p.0 e)))

  reports_says : get_or w 0 0 ≡ 17 → is_reports w ≡ true → Says (Read (Reports (read_option_id w)))
  unfolding read_option_id call_words
  reports_says e t =
      let p = reports_told w t in
      let h = all 4 17 p.0 e in
      by_flag_lem (get_or w 1 0) (are_zero w 2 3) true p.1 (λ k z. rw k (rw (k, zeros_words (after 2) 3 z) at h)) (λ k z. rw k (rw k at h))

  reset_says : get_or w 0 0 ≡ 23 → is_reset w ≡ true → Says (Begin (Recover (read_request_id w 1) (RecoveryKind.Reset (read_flag (get_or w 4 0)))))
  unfolding call_words
  reset_says e t = let p = reset_told w t in rw (flag_word_lem (get_or w 4 0) p.1) (all 4 23 p.0 e)

  recovered_says : is_recovered w ≡ true → recovery_reply_words (read_recovery_reply w) ≡ tab (after 1) 7
  unfolding read_recovery_reply
  recovered_says t =
      by_flag_lem (get_or w 1 0) (is_flag w 2 && is_option_error w 3) (are_zero w 2 2 && is_error w 4) t
      (λ k z. let q = both (is_flag w 2) (is_option_error w 3) z in rw (k, flag_word_lem (get_or w 2 0) q.0, option_error_words_lem (after 3) q.1))
      (λ k z. let q = both (are_zero w 2 2) (is_error w 4) z in
      let y = and3 true (is_zero w 2) (is_zero w 3) q.0 in
      rw (k, error_words_lem (after 4) q.1, eqb-true (get_or w 2 0) 0 y.1, eqb-true (get_or w 3 0) 0 y.2))

  lists_are : (n m : ℕ) → part 10 n w ++ (part (10 + n) (m * completion_words) w ++ drop (10 + n + m * completion_words) w) ≡ drop 10 w
  unfolding part
  lists_are n m =
      rw (← drop-drop (m * completion_words) (10 + n) w, take-append-drop (m * completion_words) (drop (10 + n) w), ← drop-drop n 10 w)
      (take-append-drop n (drop 10 w))

  recovery_reply_says : (bytes : List ℕ) → get_or w 0 0 ≡ 24 → is_recovery_reply w ≡ true
      → Says (Reply (ToRecovery (read_recovery_reply w) (read_lists w bytes)))
  unfolding read_completed read_completions read_aborted call_words
  recovery_reply_says bytes e t =
      let n = get_or w 8 0 in
      let m = get_or w 9 0 in
      let p = recovery_reply_told w t in
      let room = leb-true (10 + n + m * completion_words) (length w) p.0 in
      let a = part 10 n w in
      let b = part (10 + n) (m * completion_words) w in
      let c = drop (10 + n + m * completion_words) w in
      let la : length a ≡ n = part_length 10 n w (omega arith) in
      let lb : length b ≡ m * completion_words = part_length (10 + n) (m * completion_words) w (omega arith) in
      let lm : m * completion_words / completion_words ≡ m = omega arith in
      rw (recovered_says p.1, la, lb, lm)
      (append_assoc ((24 ∷ tab (after 1) 7) ++ n ∷ m ∷ a) b c
      ∙ (let z : a ++ (b ++ c) ≡ drop 10 w = lists_are n m in ap (λ (l : List ℕ). 24 ∷ tab (after 1) 9 ++ l) z ∙ (rw e at (cut w 10 (omega arith)))))

  -- ---- by number
  module _ (n : ℕ) (e : get_or w 0 0 ≡ n) where
    to : (k : ℕ) → eqb n k ≡ true → get_or w 0 0 ≡ k
    to k t = e ∙ eqb-true n k t

    placing_says : n ≤ 4 → is_placing n w ≡ true → Says (read_placing n w)
    unfolding is_placing read_placing
    placing_says h =
        same_way Says (eqb n 0) (λ t. opening_says (to 0 t)) λ n0.
        same_way Says (eqb n 1) (λ t. device_says (to 1 t)) λ n1.
        same_way Says (eqb n 2) (λ t. port_says (to 2 t)) λ n2.
        same_way Says (eqb n 3) (λ t. endpoints_says (to 3 t)) λ n3.
        reconcile_says (e ∙ omega (arith, eqb-false n 0 n0, eqb-false n 1 n1, eqb-false n 2 n2, eqb-false n 3 n3))

    moving_says : 5 ≤ n → n ≤ 7 → is_moving n w ≡ true → Says (read_moving n w)
    unfolding is_moving read_moving
    moving_says l h =
        same_way Says (eqb n 5) (λ t. acquire_says (to 5 t)) λ n5.
        same_way Says (eqb n 6) (λ t. initialize_says (to 6 t)) λ n6.
        close_says (e ∙ omega (arith, eqb-false n 5 n5, eqb-false n 6 n6))

    submission_says : (bytes : List ℕ) → 8 ≤ n → n ≤ 9 → is_submission n w ≡ true → Says (read_submission n w bytes)
    unfolding is_submission read_submission
    submission_says bytes l h =
        same_way Says (eqb n 8) (λ t. submit_says bytes (to 8 t)) λ n8.
        plan_says bytes (e ∙ omega (arith, eqb-false n 8 n8))

    replying_says : (bytes : List ℕ) → 10 ≤ n → n ≤ 12 → is_replying n w ≡ true → Says (read_replying n w bytes)
    unfolding is_replying read_replying call_words
    replying_says bytes l h =
        same_way Says (eqb n 10) (λ t. submit_reply_says (to 10 t)) λ n10.
        same_way Says (eqb n 11) (λ t. id_says 11 (to 11 t)) λ n11.
        poll_reply_says bytes (e ∙ omega (arith, eqb-false n 10 n10, eqb-false n 11 n11))

    changing_says : 13 ≤ n → n ≤ 15 → has w 4 ≡ true → Says (read_changing n w)
    unfolding read_changing call_words
    changing_says l h t =
        if_by Says (Change (read_request_id w 1) Cancel) (eqb n 13) _ (λ q. id_says 13 (to 13 q) t) λ n13.
        if_by Says (Change (read_request_id w 1) Timeout) (eqb n 14) _ (λ q. id_says 14 (to 14 q) t) λ n14.
        id_says 15 (e ∙ omega (arith, eqb-false n 13 n13, eqb-false n 14 n14)) t

    count_says : (k : ℕ) → get_or w 0 0 ≡ k → has w 1 ≡ true → (k ∷ []) ≡ w
    count_says k q t = all 0 k t q

    reporting_says : 16 ≤ n → n ≤ 21 → is_reporting n w ≡ true → Says (read_reporting n w)
    unfolding is_reporting read_reporting call_words
    reporting_says l h =
        same_way Says (eqb n 16) (λ t. id_says 16 (to 16 t)) λ n16.
        same_way Says (eqb n 17) (λ t. reports_says (to 17 t)) λ n17.
        same_way Says (eqb n 18) (λ t. count_says 18 (to 18 t)) λ n18.
        same_way Says (eqb n 19) (λ t. id_says 19 (to 19 t)) λ n19 t.
        if_by Says (Read HeldCount) (eqb n 20) (Read HeldBytes) (λ q. count_says 20 (to 20 q) t) λ n20.
        count_says 21 (e ∙ omega (arith, eqb-false n 16 n16, eqb-false n 17 n17, eqb-false n 18 n18, eqb-false n 19 n19, eqb-false n 20 n20)) t

    recovering_says : (bytes : List ℕ) → 22 ≤ n → n ≤ 24 → is_recovery_call n w ≡ true → Says (read_recovering n w bytes)
    unfolding is_recovery_call read_recovering call_words
    recovering_says bytes l h =
        same_way Says (eqb n 22) (λ t. id_says 22 (to 22 t)) λ n22.
        same_way Says (eqb n 23) (λ t. reset_says (to 23 t)) λ n23.
        recovery_reply_says bytes (e ∙ omega (arith, eqb-false n 22 n22, eqb-false n 23 n23))

  pub call_words_lem : (bytes : List ℕ) → is_call w ≡ true → call_words (read_call w bytes) ≡ w
  unfolding is_call read_call call_words
  call_words_lem bytes =
      let n = get_or w 0 0 in
      same_way Says (leb n 4) (λ a. placing_says n refl (leb-true n 4 a)) λ a.
      same_way Says (leb n 7) (λ b. moving_says n refl (leb-false n 4 a) (leb-true n 7 b)) λ b.
      same_way Says (leb n 9) (λ c. submission_says n refl bytes (leb-false n 7 b) (leb-true n 9 c)) λ c.
      same_way Says (leb n 12) (λ d. replying_says n refl bytes (leb-false n 9 c) (leb-true n 12 d)) λ d.
      same_way Says (leb n 15) (λ f. changing_says n refl (leb-false n 12 d) (leb-true n 15 f)) λ f.
      same_way Says (leb n 21) (λ g. reporting_says n refl (leb-false n 15 f) (leb-true n 21 g)) λ g.
      same_way Says (leb n 24) (λ h. recovering_says n refl bytes (leb-false n 21 g) (leb-true n 24 h)) λ h t.
      let z = known (eqb n 29) (has w 4) t in
      id_says 29 (eqb-true n 29 z.0) z.1

-- so different words are different calls
pub one_words : (w v bytes other : List ℕ) → is_call w ≡ true → is_call v ≡ true → read_call w bytes ≡ read_call v other → w ≡ v
one_words w v bytes other tw tv e = sym (call_words_lem w bytes tw) ∙ ap call_words e ∙ call_words_lem v other tv
