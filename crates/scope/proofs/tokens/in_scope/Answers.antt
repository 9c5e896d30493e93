use Rattle.scope.proofs.tokens.Laws.{scope_first, scope_second, scope_not, scope_some, scope_full, scope_whole}
use Rattle.scope.proofs.tokens.in_scope.Goals as goal

pub returns-then-tokens-most : goal.returns-then-tokens-most
returns-then-tokens-most c = search scope_first

pub returns-then-aborted-most : goal.returns-then-aborted-most
returns-then-aborted-most c = search scope_second

pub returns-then-not-each_once : goal.returns-then-not-each_once
returns-then-not-each_once c = search scope_not

pub returns-then-not-whole : goal.returns-then-not-whole
returns-then-not-whole c = search scope_some

pub returns-then-tokens-aborted : goal.returns-then-tokens-aborted
returns-then-tokens-aborted c = search scope_full

pub returns : goal.returns
returns c = search scope_whole
