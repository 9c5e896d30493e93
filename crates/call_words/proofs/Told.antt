-- What each test of a call says, part by part. Assumes nothing.
use Prim.Native.Nat.{ℕ, ◌+◌, ◌*◌}
use mathlib.Core.Path.{◌≡◌}
use mathlib.Core.Bool.{Bool, true, not, ◌&&◌}
use mathlib.Core.List.{List}
use lib.Dec.{leb, ltb}
use lib.ListN.{length, get_or}
use Rattle.chain.specs.Lists.{any_in}
use Rattle.chain.proofs.Chain.{both, and3}
use Rattle.scope.specs.Returned.{completion_words}
use Rattle.call_words.specs.Parts.{at_most, is_zero, is_flag, is_byte, is_option, are_zero, by_flag, is_bus_id, is_option_number, is_error, is_option_error, is_setup, is_option_setup, is_reading, is_stage}
use Rattle.call_words.specs.Form.{has, is_open_call, is_set_device, is_set_port, is_set_endpoints, is_set_reconcile, is_acquire, is_initialize, is_close, is_submit, is_plan, is_submit_reply, is_reports, is_reset, are_completions, is_recovered, is_recovery_reply}

pub and4 : (a b c d : Bool) → (a && b && c && d) ≡ true → (a ≡ true) × (b ≡ true) × (c ≡ true) × (d ≡ true)
and4 a b c d t = let p = both (a && b && c) d t in let q = and3 a b c p.0 in (q.0, q.1, q.2, p.1)

pub and5 : (a b c d e : Bool) → (a && b && c && d && e) ≡ true → (a ≡ true) × (b ≡ true) × (c ≡ true) × (d ≡ true) × (e ≡ true)
and5 a b c d e t = let p = both (a && b && c && d) e t in let q = and4 a b c d p.0 in (q.0, q.1, q.2, q.3, p.1)

module _ (w : List ℕ) where
  pub opening_told : is_open_call w ≡ true → (has w 9 ≡ true) × (is_option_number w 3 ≡ true) × (by_flag (get_or w 5 0) (is_zero w 6) (is_byte w 6) ≡ true)
  unfolding is_open_call
  opening_told t = and3 _ _ _ t

  pub device_told : is_set_device w ≡ true → (has w 8 ≡ true) × (is_bus_id w 1 ≡ true) × (is_bus_id w 4 ≡ true) × (at_most w 7 6 ≡ true)
  unfolding is_set_device
  device_told t = and4 _ _ _ _ t

  pub port_told : is_set_port w ≡ true → (has w 4 ≡ true) × (is_byte w 1 ≡ true) × (is_option w 3 ≡ true)
  unfolding is_set_port
  port_told t = and3 _ _ _ t

  pub endpoints_told : is_set_endpoints w ≡ true → (leb 2 (length w) ≡ true) × (is_byte w 1 ≡ true) × (not (any_in (ltb 1023) w) ≡ true)
  unfolding is_set_endpoints
  endpoints_told t = and3 _ _ _ t

  pub reconcile_told : is_set_reconcile w ≡ true → (has w 3 ≡ true) × (is_byte w 1 ≡ true) × (is_flag w 2 ≡ true)
  unfolding is_set_reconcile
  reconcile_told t = and3 _ _ _ t

  pub acquire_told : is_acquire w ≡ true → (has w 7 ≡ true) × (by_flag (get_or w 1 0) (are_zero w 2 5) (is_flag w 2 && is_error w 3) ≡ true)
  unfolding is_acquire
  acquire_told t = both _ _ t

  pub initialize_told : is_initialize w ≡ true → (has w 6 ≡ true) × (is_option_error w 1 ≡ true)
  unfolding is_initialize
  initialize_told t = both _ _ t

  pub close_told : is_close w ≡ true → (has w 8 ≡ true) × (is_option_number w 1 ≡ true) × (is_option_error w 3 ≡ true)
  unfolding is_close
  close_told t = and3 _ _ _ t

  pub submit_reply_told : is_submit_reply w ≡ true → (has w 7 ≡ true) × (by_flag (get_or w 1 0) (are_zero w 3 4) (is_zero w 2 && is_error w 3) ≡ true)
  unfolding is_submit_reply
  submit_reply_told t = both _ _ t

  pub reports_told : is_reports w ≡ true → (has w 5 ≡ true) × (by_flag (get_or w 1 0) (are_zero w 2 3) true ≡ true)
  unfolding is_reports
  reports_told t = both _ _ t

  pub reset_told : is_reset w ≡ true → (has w 5 ≡ true) × (is_flag w 4 ≡ true)
  unfolding is_reset
  reset_told t = both _ _ t

  pub recovery_reply_told : is_recovery_reply w ≡ true → (leb (10 + get_or w 8 0 + get_or w 9 0 * completion_words) (length w) ≡ true) × (is_recovered w ≡ true) × (are_completions w (10 + get_or w 8 0) (get_or w 9 0) ≡ true)
  unfolding is_recovery_reply
  recovery_reply_told t = and3 _ _ _ t

  pub submit_told : is_submit w ≡ true
      → (is_bus_id w 1 ≡ true) × (is_byte w 4 ≡ true) × (at_most w 5 3 ≡ true) × (is_flag w 6 ≡ true) × (is_option_setup w 8 ≡ true) × (is_reading w 14 ≡ true)
      × (is_reading w 20 ≡ true) × (by_flag (get_or w 26 0) (has w 27) (leb 27 (length w)) ≡ true)
  unfolding is_submit
  submit_told t =
      let p = and3 (is_bus_id w 1 && is_byte w 4 && at_most w 5 3 && is_flag w 6 && is_option_setup w 8) (is_reading w 14 && is_reading w 20)
      (by_flag (get_or w 26 0) (has w 27) (leb 27 (length w))) t in
      let q = and5 (is_bus_id w 1) (is_byte w 4) (at_most w 5 3) (is_flag w 6) (is_option_setup w 8) p.0 in
      let r = both (is_reading w 14) (is_reading w 20) p.1 in
      (q.0, q.1, q.2, q.3, q.4, r.0, r.1, p.2)

  pub plan_told : is_plan w ≡ true
      → (has w 20 ≡ true) × (is_bus_id w 1 ≡ true) × (is_flag w 4 ≡ true) × (is_setup w 5 ≡ true) × (is_stage w 10 ≡ true) × (at_most w 13 2 ≡ true) × (is_reading w 14 ≡ true)
  unfolding is_plan
  plan_told t =
      let p = both (has w 20 && is_bus_id w 1 && is_flag w 4 && is_setup w 5) (is_stage w 10 && at_most w 13 2 && is_reading w 14) t in
      let q = and4 (has w 20) (is_bus_id w 1) (is_flag w 4) (is_setup w 5) p.0 in
      let r = and3 (is_stage w 10) (at_most w 13 2) (is_reading w 14) p.1 in
      (q.0, q.1, q.2, q.3, r.0, r.1, r.2)
