use Rattle.recovery.proofs.recover.Laws.{row_43, row_44, row_on}
use Rattle.recovery.proofs.recover.begin_row.Goals as goal

pub returns-then-not-device_may_access : goal.returns-then-not-device_may_access
returns-then-not-device_may_access c = search row_43

pub returns-then-not-may_recover : goal.returns-then-not-may_recover
returns-then-not-may_recover c = search row_44

pub returns : goal.returns
returns c = search row_on
