use Rattle.decimal.proofs.Decimal.{number_put}
use Rattle.decimal.proofs.put_number.Goals as goal

pub returns-clause-text : goal.returns-clause-text
returns-clause-text c = search number_put
