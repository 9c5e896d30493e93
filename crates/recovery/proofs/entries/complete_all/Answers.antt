use native.Mathlib.Omega.{arith}
use lib.ListN.{length-take, length-drop}
use Rattle.std.proofs.Common.{rules}
use Rattle.recovery.proofs.entries.Laws.{place_below, fit_kept, begin_given, words_in, given_on, given_fits, complete_on, complete_stop, complete_end}
use Rattle.recovery.proofs.entries.complete_all.Goals as goal

pub loop-k-init : goal.loop-k-init
loop-k-init c = (search rules, search rules, search begin_given, search rules)

pub brought_at-brought-requires : goal.brought_at-brought-requires
brought_at-brought-requires c = search words_in

pub overflow_add-end : goal.overflow_add-end
overflow_add-end c = given_fits _ _ _ c.loop-k-test.true _ _ c.loop-k.invariant.2 _ c.brought_at-brought.ensures (search rules)

pub complete_next-requires : goal.complete_next-requires
complete_next-requires c = (
  fit_kept _ _ _ _ _ c.loop-k.invariant.0 c.loop-k.invariant.1 c.requires.0.fit,
  search place_below,
  simp (length-take, length-drop) (omega (arith, given_on _ _ _ c.loop-k-test.true _ _ c.loop-k.invariant.2 _ c.brought_at-brought.ensures)),
)

pub returns-in_err-complete_next : goal.returns-in_err-complete_next
returns-in_err-complete_next c = complete_stop _ _ _ _ _ _ _ _ _ _ c.loop-k.invariant.3 c.loop-k-test.true _ _ _ _ c.brought_at-brought.ensures c.complete_next.ensures _ _ c.in_err-complete_next.was (search rules)

pub loop-k-preserved : goal.loop-k-preserved
loop-k-preserved c = (
  search rules,
  search rules,
  given_on _ _ _ c.loop-k-test.true _ _ c.loop-k.invariant.2 _ c.brought_at-brought.ensures,
  complete_on _ _ _ _ _ _ _ _ _ _ c.loop-k.invariant.3 c.loop-k-test.true _ _ _ _ c.brought_at-brought.ensures c.complete_next.ensures c.in_ok-complete_next.was,
)

pub returns : goal.returns
returns c = search complete_end
