use Rattle.std.proofs.Common.{rules}
use Rattle.targets.proofs.Said.{target_said}
use Rattle.targets.proofs.target.Laws.{target_refused, target_control, target_other}
use Rattle.targets.proofs.target.check_target.Goals as goal

pub returns-in_err-device-clause-step : goal.returns-in_err-device-clause-step
returns-in_err-device-clause-step c = target_refused _ _ _ _ _ _ _ c.check_device.ensures _ _ c.in_err-device.was (search rules)

pub returns-in_err-device-clause-table : goal.returns-in_err-device-clause-table
returns-in_err-device-clause-table c = (target_said _ _ _ _ _ _ _ (returns-in_err-device-clause-step c)).1

pub returns-then-is_control-clause-step : goal.returns-then-is_control-clause-step
returns-then-is_control-clause-step c = target_control _ _ _ _ _ _ _ c.check_device.ensures _ c.in_ok-device.was _ c.is_control.ensures c.if-is_control.true

pub returns-then-is_control-clause-table : goal.returns-then-is_control-clause-table
returns-then-is_control-clause-table c = (target_said _ _ _ _ _ _ _ (returns-then-is_control-clause-step c)).1

pub returns-clause-step : goal.returns-clause-step
returns-clause-step c = target_other _ _ _ _ _ _ _ c.check_device.ensures _ c.in_ok-device.was _ c.is_control.ensures _ _ c.if-is_control.false c.check_endpoint.ensures

pub returns-clause-table : goal.returns-clause-table
returns-clause-table c = (target_said _ _ _ _ _ _ _ (returns-clause-step c)).1
