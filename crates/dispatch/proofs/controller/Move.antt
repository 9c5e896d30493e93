-- One law for each call that moves the controller's state, calls 5 to 7: its premises are the facts in hand there. Assumes nothing.
use Rattle.std.specs.Prelude.{Option, Result, ⊤}
use Prim.Native.Nat.{ℕ}
use mathlib.Core.List.{List}
use mathlib.Core.Path.{◌≡◌, ap, ◌∙◌}
use lib.ListN.{get_or}
use Rattle.chain.specs.After.{After, after}
use Rattle.chain.proofs.Chain.{chain}
use Rattle.words.specs.Words.{read_option_u64}
use Rattle.models.specs.Values.{read_option_error}
use Rattle.rows.specs.Store.{Store}
use Rattle.bus.specs.Tables.{Bus}
use Rattle.session.specs.Lent.{memory, lent}
use Rattle.session.specs.Lifecycle.{acquire_of, initialize_of, close_of}
use Rattle.session.specs.declared.{Called.Called, Session.Session, lifecycle.AcquireFailure.AcquireFailure}
use Rattle.calls.specs.Answers.{outcome, of_verdict}
use Rattle.call_words.specs.Arguments.{read_acquire_reply}
use Rattle.calls.specs.Calls.{Moving, Acquire, Initialize, Close, Move}
use Rattle.calls.specs.Step.{World, world, moves, moved_of, step_of}
use Rattle.calls.specs.declared.{Outcome.Outcome}
use Rattle.call_words.specs.Decode.{read_moving}
use Rattle.dispatch.proofs.Steps.{said}
use Rattle.models.specs.declared.{OperationError.OperationError}

module _ (n : ℕ) (s : Session) (store : Store) (w : List ℕ) (x : Called ⊤) (r : Outcome) (er : r ≡ outcome (of_verdict x.answer) x.session) where
  abbrev handed : Bus → List ℕ → World
  handed b area = world s (lent b (memory store area))

  -- `next` is what the rows are afterwards
  abbrev Steps : Store → Type 0
  Steps next = (b : Bus) (area : List ℕ) → after r (lent b (memory next area)) ≡ step_of (read_moving n w) (handed b area)

  moved : (m : Moving) (next : Store) → Move m ≡ read_moving n w → ((b : Bus) (area : List ℕ) → after x next ≡ moved_of m (handed b area)) → Steps next
  unfolding step_of
  moved m next e h b area =
      said (Move m) (read_moving n w) (handed b area) _ e
      (ap (λ (z : Outcome). after z (lent b (memory next area))) er ∙ ap (λ (z : After (Called ⊤) Store). moves z (handed b area)) (h b area))

  pub acquire_step : (reply : Result ⊤ AcquireFailure) → reply ≡ read_acquire_reply w → n ≡ 5 → x ≡ acquire_of reply s → Steps store
  unfolding moved_of read_moving
  acquire_step reply ea e h =
      moved (Acquire reply) store (search (chain, ap (λ (z : Result ⊤ AcquireFailure). Move (Acquire z)) ea) depth 20) (λ b area. ap (λ (z : Called ⊤). after z store) h)

  module _ (n5 : n ≡ 5 → ⊥) (reply : Option OperationError) where
    pub initialize_step : reply ≡ read_option_error w 1 → n ≡ 6 → x ≡ initialize_of reply s → Steps store
    unfolding moved_of read_moving
    initialize_step ea e h =
        moved (Initialize reply) store (search (chain, ap (λ (z : Option OperationError). Move (Initialize z)) ea) depth 20) (λ b area. ap (λ (z : Called ⊤). after z store) h)

    pub close_step : (next : Store) (p q : ℕ) (fresh : Option ℕ) → p ≡ get_or w 1 0 → q ≡ get_or w 2 0 → fresh ≡ read_option_u64 p q
        → reply ≡ read_option_error w 3 → (n ≡ 6 → ⊥) → after x next ≡ close_of fresh reply s store → Steps next
    unfolding moved_of read_moving
    close_step next p q fresh ep eq ef ea n6 h =
        let c : Move (Close fresh reply) ≡ Move (Close (read_option_u64 (get_or w 1 0) (get_or w 2 0)) (read_option_error w 3)) = rw (ef, ep, eq, ea) in
        moved (Close fresh reply) next (search (chain, c) depth 20) (λ b area. h)
