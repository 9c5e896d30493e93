-- The claim tells right from wrong: it is false of each of four steps that have one fault, on a script of which the theorem shows it of the
-- calls' own step. Assumes nothing.
use Rattle.std.specs.Prelude.{Ok}
use Prim.Native.Nat.{ℕ}
use mathlib.Core.Bool.{true, true≢false}
use mathlib.Core.List.{List, [], ◌∷◌, ◌++◌}
use mathlib.Core.Path.{◌≡◌, refl, ap}
use native.Mathlib.Omega.{arith}
use lib.ListN.{replicate}
use Rattle.chain.specs.Chain.{◌if◌else◌}
use Rattle.chain.specs.Lists.{found_in}
use Rattle.words.specs.Records.{splice, part}
use Rattle.models.specs.Requests.{request_before}
use Rattle.models.specs.declared.{DeviceId.DeviceId}
use Rattle.rows.specs.Codec.{read_row, record_of}
use Rattle.rows.specs.Store.{store_of, put_in, emptied}
use Rattle.rows.specs.Table.{empty_row, is_held, put_row, put_words, row_count, read_rows}
use Rattle.ledger.specs.Apply.{apply_by, changed_at, apply_at, apply_of}
use Rattle.rules.specs.Rules.{pending_row, spend_sequence, moved, accepted, abort_confirmed, change_row}
use Rattle.ledger.specs.Search.{is_at, is_free}
use Rattle.bus.specs.Tables.{bus_of, cleared, put_device, put_endpoints, put_port}
use Rattle.bus.specs.Layout as layout
use Rattle.bus.specs.Ports as bus
use Rattle.bus.specs.Endpoints as endpoints
use Rattle.checks.specs.Packets.{packets_checked}
use Rattle.checks.specs.Prepare as prepare
use Rattle.targets.specs.Target as target
use Rattle.session.specs.Lifecycle.{open_of, acquired_by, acquire_of, initialized_by, initialize_of}
use Rattle.session.specs.Place.{placed, set_device_of, set_port_of, set_endpoints_of}
use Rattle.session.specs.Start.{guarded}
use Rattle.session.specs.Sizes.{rows_fit, area_fits}
use Rattle.session.specs.declared.{RecoveryKind.RecoveryKind}
use Rattle.reports.specs.Answers.{effect}
use Rattle.reports.specs.Change.{reported_by, change_of}
use Rattle.submissions.specs.Begin.{room_in, write_of, begin_of, target_by, target_of}
use Rattle.submissions.specs.Admit.{place_in, admit_prepared, admit_room, admit_packets, admit_of}
use Rattle.submissions.specs.Submit.{submitted_by, submit_of, submit_by, submit_target}
use Rattle.submissions.specs.SubmitReply.{submit_reply_in, accepted_by, submit_reply_by, submit_reply_of}
use Rattle.scope.specs.Affected.{is_affected, joined, affected_of}
use Rattle.scope.specs.Returned.{read_returned, lists_agree}
use Rattle.scope.specs.Scope.{in_scope}
use Rattle.recovery.specs.Entries.{aborted_by, abort_one}
use Rattle.recovery.specs.Recover.{recover_by, begin_row, recover_of, begun_as}
use Rattle.recovery.specs.RecoveryReply.{apply_all, done_of, reply_by, reply_sized, reply_in, reply_lists, concluded_by, settled_of, recovery_reply_of}
use Rattle.calls.specs.Calls.{Call, Open, Place, Device, Move, Begin, Recover, Reply, ToSubmit, ToPoll, ToRecovery, Change, Cancel, Timeout, Reclaim, Withdraw, Read, Status, Reports, CountReports, CompletedBytes, HeldCount, HeldBytes}
use Rattle.calls.specs.Step.{World, no_session, placed_of, moved_of, begun_of, replied_of, step_of, next}
use Rattle.calls.specs.declared.{Answer.Answer}
use Rattle.runs.specs.Run.{Event, own, Stepping, FollowsBy, Follows, Fresh, calls}
use Rattle.history.specs.Journal.{journal_step}
use Rattle.history.specs.Claim.{returns, ClaimOf, Claim}
use Rattle.history.specs.Impostors.{step_with, right_ways, first_only, held_invented, timeout_releases, slots_compared}
use Rattle.history.proofs.Theorem.{history_claim}
use Rattle.history.proofs.Examples.{opening, bus_words, before, start, plugged, id, asking, asks, ready, whole, number_in}

-- ---- the scripts

-- request 0, of 8 bytes, has token 7
abbrev one : List Event
one = ready ++ (calls (asks 8) ∷ calls (Reply (ToSubmit (Ok 7))) ∷ [])

abbrev late : List Event
late = one ++ (calls (Change (id 0) Timeout) ∷ [])

-- request 1 has token 9, and a recovery aborts both
abbrev two : List Event
two =
    one ++ (calls (asks 4) ∷ calls (Reply (ToSubmit (Ok 9)))
    ∷ calls (Begin (Recover (id 0) RecoveryKind.Abort)) ∷ returns whole (reply_lists [] [] (7 ∷ 9 ∷ []) []) own
    ∷ [])

-- another device comes to the camera's slot; its request 1 has token 7 too, and a recovery aborts it
abbrev newcomer : DeviceId
newcomer = record { session = 5; generation = 1; slot = 1 }

abbrev shared : List Event
shared =
    one ++ (calls (Place (Device (plugged newcomer))) ∷ calls (Begin (asking newcomer 4 0x403)) ∷ calls (Reply (ToSubmit (Ok 7)))
    ∷ calls (Begin (Recover (id 1) RecoveryKind.Abort)) ∷ returns whole (reply_lists [] [] (7 ∷ []) []) own
    ∷ [])

-- ---- the four

pub record Refuted (step : Stepping) (es : List Event) : Type 0 where
  -- what the theorem assumes
  pub passes : (step (Open opening) before).result.answer ≡ Answer.Pass
  pub follows : FollowsBy step es
  pub fresh : Fresh (opening.session ∷ []) es
  -- the claim holds of the calls' own step, and not of the impostor
  pub right : Claim start es
  pub wrong : ClaimOf step (next (step (Open opening) before)) es → ⊥

pub record Impostors : Type 0 where
  -- an impostor that goes the right way in each of its calls is the calls' own step
  pub ways : (c : Call) (w : World) → step_with right_ways c w ≡ step_of c w
  -- request 1 is held, though released
  pub first_entry : Refuted first_only two
  -- the count is 0, and request 0 is held
  pub held_count_lem : Refuted held_invented one
  -- request 0 is not held, though not released
  pub timeout : Refuted timeout_releases late
  -- request 0 is aborted in place of 1
  pub slots : Refuted slots_compared shared

only_ways : (c : Call) (w : World) → step_with right_ways c w ≡ step_of c w
unfolding step_of
only_ways (Open o) w = refl
only_ways (Place p) w = refl
only_ways (Move m) w = refl
only_ways (Begin b) w = refl
only_ways (Reply (ToSubmit q)) w = refl
only_ways (Reply (ToPoll q bytes)) w = refl
only_ways (Reply (ToRecovery q l)) w = refl
only_ways (Change x Cancel) w = refl
only_ways (Change x Timeout) w = refl
only_ways (Change x Reclaim) w = refl
only_ways (Change x Withdraw) w = refl
only_ways (Read (Status x)) w = refl
only_ways (Read (Reports from)) w = refl
only_ways (Read CountReports) w = refl
only_ways (Read (CompletedBytes x)) w = refl
only_ways (Read HeldCount) w = refl
only_ways (Read HeldBytes) w = refl

refutes : {step : Stepping} {es : List Event} → (step (Open opening) before).result.answer ≡ Answer.Pass → FollowsBy step es
    → (FollowsBy step es → Follows es) → Fresh (opening.session ∷ []) es → (ClaimOf step (next (step (Open opening) before)) es → ⊥) → Refuted step es
unfolding step_of open_of rows_fit area_fits ◌if◌else◌ cleared store_of bus_of
refutes passes follows same fresh wrong = record {
  passes = passes;
  follows = follows;
  fresh = fresh;
  right = history_claim opening no_session bus_words (replicate 52 0) (replicate 16 0) _ refl (same follows) fresh;
  wrong = wrong;
}

pub refuted : Impostors
unfolding step_of placed_of moved_of begun_of replied_of open_of rows_fit area_fits cleared ◌if◌else◌ found_in splice put_in emptied empty_row is_held put_row put_words row_count read_row record_of apply_by changed_at apply_at apply_of pending_row spend_sequence moved accepted change_row is_at is_free put_device put_endpoints put_port packets_checked acquired_by acquire_of initialized_by initialize_of placed set_device_of set_port_of set_endpoints_of effect room_in write_of begin_of target_by target_of reported_by change_of accepted_by submit_reply_by submit_reply_in submit_reply_of submitted_by place_in admit_prepared admit_room admit_packets admit_of submit_target submit_by guarded submit_of bus.number_checked bus.set_port_by bus.set_port bus.reading_checked bus.validated_row bus.validated_by bus.validated bus.observed_by bus.observed_row bus.observe_port_by bus.observe_port bus.fresh_observed bus.fresh_word bus.fresh_reading bus.fresh_port_by bus.fresh_port endpoints.set_endpoints prepare.data_checked prepare.other_checked prepare.spec_checked prepare.prepared_if prepare.prepared target.known_by target.known_device target.prepared_device target.fresh_device target.check_device_by target.check_device target.speed_checked target.endpoint_by target.check_endpoint target.check_target_by target.check_target layout.device_record journal_step recover_of recover_by begin_row begun_as is_affected joined affected_of in_scope read_returned lists_agree aborted_by abort_one abort_confirmed apply_all concluded_by settled_of done_of reply_by reply_sized reply_in recovery_reply_of part request_before store_of read_rows bus_of
refuted = record {
  ways = only_ways;
  first_entry =
      refutes refl (refl, (refl, (refl, (refl, (refl, (refl, (refl, (refl, (refl, (refl, (refl, tt))))))))))) (λ f. f)
      (refl, (refl, (refl, (refl, (refl, (refl, (refl, (refl, (refl, (refl, (refl, tt)))))))))))
      (λ k. let z : ◌≡◌ {A = ℕ} 1 0 = (k.agrees (λ v. true)).number in absurd (omega arith));
  held_count_lem =
      refutes refl (refl, (refl, (refl, (refl, (refl, (refl, (refl, tt))))))) (λ f. f)
      (refl, (refl, (refl, (refl, (refl, (refl, (refl, tt)))))))
      (λ k. let z : ◌≡◌ {A = ℕ} 0 1 = ap number_in k.count_is in absurd (omega arith));
  timeout =
      refutes refl (refl, (refl, (refl, (refl, (refl, (refl, (refl, (refl, tt)))))))) (λ f. f)
      (refl, (refl, (refl, (refl, (refl, (refl, (refl, (refl, tt))))))))
      (λ k. let z : ◌≡◌ {A = ℕ} 0 1 = (k.agrees (λ v. true)).number in absurd (omega arith));
  slots =
      refutes refl (refl, (refl, (refl, (refl, (refl, (refl, (refl, (refl, (refl, (refl, (refl, (refl, tt)))))))))))) (λ f. f)
      (refl, (refl, (refl, (refl, (refl, (refl, (refl, (refl, (refl, (refl, (refl, (refl, tt))))))))))))
      (λ k. true≢false ((k.agrees (λ v. true)).ids (id 1)));
}
