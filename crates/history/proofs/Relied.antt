-- What those who rely on the library may say of every list of calls from an opening that passed, under the theorem's own hypotheses.
-- Assumes nothing.
use Prim.Native.Nat.{ℕ}
use mathlib.Core.List.{List, [], ◌∷◌}
use mathlib.Core.Path.{◌≡◌}
use Rattle.session.specs.declared.{Session.Session, lifecycle.Opening.Opening}
use Rattle.calls.specs.Calls.{Open}
use Rattle.calls.specs.Step.{World, step_of, next}
use Rattle.calls.specs.declared.{Answer.Answer}
use Rattle.runs.specs.Run.{Event, end_of, Follows, Fresh}
use Rattle.runs.proofs.Run.{lent_rows, sound_run, fitted_run}
use Rattle.history.specs.Watcher.{Watched}
use Rattle.history.specs.Grabber.{BytesSafe}
use Rattle.history.specs.Reset.{ResetSpares}
use Rattle.history.specs.Operator.{Withdraws}
use Rattle.history.proofs.Theorem.{world_of, history_claim}
use Rattle.history.proofs.Watcher.{watched}
use Rattle.history.proofs.Grabber.{bytes_safe}
use Rattle.history.proofs.Reset.{reset_spares}
use Rattle.history.proofs.Operator.{withdraws_in}

module _ (o : Opening) (s : Session) (bus rows area : List ℕ) (es : List Event) (pass : (step_of (Open o) (world_of s bus rows area)).result.answer ≡ Answer.Pass)
    (follows : Follows es) (fresh : Fresh (o.session ∷ []) es) where
  abbrev start : World
  start = next (step_of (Open o) (world_of s bus rows area))

  pub port_watcher : Watched start es
  port_watcher = watched start es follows

  pub camera_grabber : BytesSafe start es
  camera_grabber = bytes_safe o (world_of s bus rows area) es pass follows fresh (lent_rows rows)

  pub reset_key : ResetSpares start es
  reset_key = reset_spares start es (history_claim o s bus rows area es pass follows fresh)

  pub operator : Withdraws (end_of start es)
  operator = withdraws_in (end_of start es) (sound_run o (world_of s bus rows area) es pass follows)
      (fitted_run o (world_of s bus rows area) es pass follows (lent_rows rows))
