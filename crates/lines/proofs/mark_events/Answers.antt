use mathlib.Core.Path.{sym, ◌∙◌}
use borrow.Author.Rules.{rules}
use Rattle.paper.proofs.Papers.{event_none}
use Rattle.lines.proofs.Walk.{room_next, few_next, walk_done, walk_last, walk_on}
use Rattle.lines.proofs.mark_events.Goals as goal

pub returns-in_default : goal.returns-in_default
returns-in_default c = walk_done _ _ _ _ _ _ c.loop-i.invariant.5 (event_none _ _ (sym c.read.ensures ∙ c.in_default.is))

pub mark_event-walked-requires : goal.mark_event-walked-requires
mark_event-walked-requires c = room_next _ _ _ _ c.requires.1 c.loop-i.invariant.4 (c.loop-i.invariant.0 ∙ c.requires.0) c.loop-i-test.true

pub returns-then-is_damaged : goal.returns-then-is_damaged
returns-then-is_damaged c = walk_last _ _ _ _ _ _ c.loop-i.invariant.5 _ _ c.read.ensures c.in-Some.is _ _ _ c.mark_event-walked.ensures _ c.is_damaged.ensures c.if-is_damaged.true

pub loop-i-preserved : goal.loop-i-preserved
loop-i-preserved c = (search rules, search rules, search rules, search rules, few_next _ _ _ _ _ _ _ _ c.mark_event-walked.ensures c.loop-i.invariant.4, walk_on _ _ _ _ _ _ c.loop-i.invariant.5 _ _ c.read.ensures c.in-Some.is _ _ _ c.mark_event-walked.ensures _ c.is_damaged.ensures c.if-is_damaged.false (room_next _ _ _ _ c.requires.1 c.loop-i.invariant.4 (c.loop-i.invariant.0 ∙ c.requires.0) c.loop-i-test.true))

pub returns : goal.returns
returns c = walk_done _ _ _ _ _ _ c.loop-i.invariant.5 c.loop-i-test.false
