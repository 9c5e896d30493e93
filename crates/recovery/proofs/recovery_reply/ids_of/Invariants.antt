use Rattle.std.proofs.Common.{length, min}
use Rattle.chain.proofs.Listed.{Listing}
use Rattle.rows.specs.Table.{read_rows, id_in}
use Rattle.models.specs.Requests.{no_id}
use Rattle.recovery.proofs.recovery_reply.ids_of.Given as goal

abbrev pub invariant-loop-k : goal.invariant-loop-k
invariant-loop-k l = Listing 128 no_id (id_in (read_rows l.rows)) l.places (min (length l.places) 128) l.ids l.k
