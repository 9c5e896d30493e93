use Rattle.dispatch.proofs.requests.Recover.{places_run}
use Rattle.recovery.proofs.Few.{few_told}
use Rattle.dispatch.proofs.requests.recovered.Goals as goal

pub write_replied-requires : goal.write_replied-requires
write_replied-requires c = search few_told

pub returns : goal.returns
returns c = search (places_run, c.reply_by_places-replied.ensures.step, c.backend_abort-answer.ensures)
