use Rattle.bus.proofs.ports.Laws.{validated_out, validated_in}
use borrow.Author.Rules.{rules}
use Rattle.bus.proofs.ports.validate.Goals as goal

pub returns-in_err-check_number : goal.returns-in_err-check_number
returns-in_err-check_number c = search (validated_out, rules)

pub returns : goal.returns
returns c = search (validated_in, rules)
