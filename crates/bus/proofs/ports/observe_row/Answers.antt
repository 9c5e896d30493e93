use Rattle.bus.specs.Ports.{observed_row, observed_by}
use Rattle.bus.proofs.ports.Laws.{observed_changed, observed_kept}
use Rattle.std.proofs.lemmas.Option.{MatchOption-at_none, MatchOption-at_some}
use Rattle.std.proofs.Common.{Option, None, Some}
use borrow.Author.Rules.{rules}
use Prim.Native.Nat.{ℕ}
use mathlib.Core.Path.{◌≡◌, refl}
use Rattle.bus.proofs.ports.observe_row.Goals as goal

pub returns-then-is_some_and : goal.returns-then-is_some_and
returns-then-is_some_and c = by c.args.row.reading refl
  where
    by : (o : Option ℕ) → c.args.row.reading ≡ o → c.raise.result ≡ observed_row c.args.row c.args.raw
    by None e = search (MatchOption-at_none _ _ e c.is_some_and.ensures, rules)
    by (Some old) e =
        let changed = MatchOption-at_some _ _ old e c.is_some_and.ensures in
        observed_changed _ _ old _ e c.port_connected-now.ensures _ (search rules) c.raise.ensures

pub returns : goal.returns
unfolding observed_row observed_by
returns c = search (observed_kept, rules)
