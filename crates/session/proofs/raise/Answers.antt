use Rattle.std.proofs.Common.{rules}
use Rattle.session.proofs.Revision.{raise_none, raise_next}
use Rattle.session.proofs.raise.Goals as goal

pub returns-in_err-revision : goal.returns-in_err-revision
returns-in_err-revision c = search (rules, raise_none)

pub returns : goal.returns
returns c = search (rules, raise_next)
