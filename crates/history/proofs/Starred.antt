-- Document 01's starred examples, together, by computing. Assumes nothing.
use mathlib.Core.Path.{refl}
use Rattle.chain.specs.Chain.{◌if◌else◌}
use Rattle.chain.specs.Lists.{found_in}
use Rattle.models.specs.Refusals.{table_category}
use Rattle.models.specs.Requests.{request_before}
use Rattle.standards.specs.Setup.{setup_bytes}
use Rattle.rows.specs.Store.{put_in}
use Rattle.rows.specs.InPlace.{completed_row}
use Rattle.rows.specs.Table.{is_held}
use Rattle.rules.specs.Rules.{moved, while_pending, completed, failed, abort_confirmed, change_row}
use Rattle.ledger.specs.Apply.{apply_by, changed_at}
use Rattle.ledger.specs.Search.{is_at}
use Rattle.checks.specs.Completion.{code_tested, test_code, test_length, test_completion}
use Rattle.checks.specs.Packets.{packets_checked}
use Rattle.checks.specs.Plan.{payload_checked, stages_checked, size_checked, plan_checked, planned_if, planned}
use Rattle.checks.specs.Prepare.{data_checked, control_checked, other_checked, spec_checked, prepared_if, prepared}
use Rattle.session.specs.Session.{raised, marked}
use Rattle.session.specs.Sizes.{rows_fit, area_fits}
use Rattle.polls.specs.PollReply.{invalid_as, judged_test, judged_by, judged, stored_in, settled, poll_reply_at, poll_reply_by, poll_reply_found, poll_reply_in, poll_reply_of}
use Rattle.scope.specs.Affected.{is_affected, joined, affected_of}
use Rattle.scope.specs.Returned.{read_returned, lists_agree}
use Rattle.scope.specs.Scope.{in_scope}
use Rattle.recovery.specs.Entries.{aborted_by, abort_one}
use Rattle.recovery.specs.RecoveryReply.{apply_all, session_after, concluded_by, settled_of, done_of, reply_by, reply_sized, reply_in, recovery_reply_of}
use Rattle.history.specs.Starred.{starred, Shown}

pub starred_shown : Shown starred
unfolding prepared prepared_if spec_checked control_checked other_checked data_checked packets_checked setup_bytes planned planned_if plan_checked size_checked stages_checked payload_checked test_completion test_length test_code code_tested poll_reply_of poll_reply_in poll_reply_found poll_reply_by poll_reply_at settled changed_at apply_by judged judged_by judged_test invalid_as stored_in recovery_reply_of reply_in reply_sized reply_by done_of settled_of concluded_by session_after apply_all read_returned abort_one aborted_by lists_agree in_scope affected_of joined is_affected is_held request_before found_in is_at change_row completed completed_row failed abort_confirmed while_pending moved put_in rows_fit area_fits marked raised table_category ◌if◌else◌
starred_shown = refl
