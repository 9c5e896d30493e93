use Rattle.std.proofs.Common.{arith, ap, sym, ◌∙◌, not}
use Rattle.chain.proofs.Lists.{find_on, found_at, found_none}
use Rattle.rows.specs.Table.{read_rows, empty_row}
use Rattle.ledger.specs.Search.{is_free}
use Rattle.ledger.proofs.search.first_free.Goals as goal

pub returns-then-not-used_at : goal.returns-then-not-used_at
unfolding is_free
returns-then-not-used_at c =
    found_at is_free (read_rows c.args.rows.now) c.loop-i.i empty_row (omega (arith, c.loop-i-test.true, c.count-i-end.ensures)) c.loop-i.invariant
    (ap not (sym c.used_at.ensures ∙ c.if-not-used_at.true))

pub loop-i-preserved : goal.loop-i-preserved
unfolding is_free
loop-i-preserved c =
    find_on is_free empty_row (read_rows c.args.rows.now) c.loop-i.i (omega (arith, c.loop-i-test.true, c.count-i-end.ensures)) c.loop-i.invariant
    (ap not (sym c.used_at.ensures ∙ c.if-not-used_at.false))

pub returns : goal.returns
returns c =
    found_none is_free (read_rows c.args.rows.now) c.loop-i.i (omega (arith, c.loop-i-test.false, c.count-i-end.ensures)) c.loop-i.invariant
