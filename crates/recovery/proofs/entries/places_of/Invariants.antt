use Rattle.std.proofs.Common.{◌+◌, ◌++◌, length}
use Rattle.scope.specs.Scope.{Rises, meant}
use Rattle.chain.proofs.Listed.{Listing}
use Rattle.recovery.proofs.entries.places_of.Given as goal

abbrev pub invariant-loop-k : goal.invariant-loop-k
invariant-loop-k l = Rises l.rising l.own × Listing 128 0 (meant l.affected l.own) (l.tokens ++ l.aborted) (length l.tokens + length l.aborted) l.places l.k
