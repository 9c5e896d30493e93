use Rattle.bus.proofs.Opening.{Begun}
use Rattle.bus.proofs.begin_ports.Given as goal

abbrev pub invariant-loop-i : goal.invariant-loop-i
invariant-loop-i l = Begun l.initial.bus l.bus l.i
