use Rattle.scope.proofs.tokens.Laws.{among_any, came_first, came_second}
use Rattle.scope.proofs.tokens.came_back.Goals as goal

pub returns-then-contains : goal.returns-then-contains
returns-then-contains c =
    let t = c.args.token in
    came_first t c.args.tokens.now c.args.aborted.now _ (among_any t c.args.tokens.now _ c.contains.ensures.value) c.if-contains.true

pub returns-else-contains : goal.returns-else-contains
returns-else-contains c =
    let t = c.args.token in
    let a = c.args.tokens.now in
    let b = c.args.aborted.now in
    came_second t a b _ (among_any t a _ c.contains.ensures.value) _ c.if-contains.false (among_any t b _ c.contains-else-contains.ensures.value)
