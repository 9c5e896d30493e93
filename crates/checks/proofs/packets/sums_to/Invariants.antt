use Rattle.std.proofs.Common.{◌≡◌, ◌≤◌, take}
use Rattle.checks.specs.Packets.{total}
use Rattle.checks.proofs.packets.sums_to.Given as goal

abbrev pub invariant-loop-next : goal.invariant-loop-next
invariant-loop-next l = (l.sum ≤ l.length) × (l.sum ≡ total (take l.next-index l.packets))
