use Rattle.decimal.proofs.Decimal.{field_put}
use Rattle.decimal.proofs.put_field.Goals as goal

pub returns-clause-text : goal.returns-clause-text
returns-clause-text c = search field_put
