use Rattle.targets.proofs.target.Laws.{speed-bulk, speed-isochronous, speed_absent, speed_pass}
use Rattle.targets.proofs.target.check_speed.Goals as goal

pub returns-then-speed-bulk : goal.returns-then-speed-bulk
returns-then-speed-bulk c = search (speed-bulk, speed-isochronous, speed_absent, speed_pass)

pub returns-then-speed-isochronous : goal.returns-then-speed-isochronous
returns-then-speed-isochronous c = search (speed-bulk, speed-isochronous, speed_absent, speed_pass)

pub returns-then-not-placed : goal.returns-then-not-placed
returns-then-not-placed c = search (speed-bulk, speed-isochronous, speed_absent, speed_pass)

pub returns : goal.returns
returns c = search (speed-bulk, speed-isochronous, speed_absent, speed_pass)
