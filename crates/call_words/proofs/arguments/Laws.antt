-- Laws of words that are read. Assumes nothing.
use Rattle.std.specs.Prelude.{Option, Some, Result, Ok, Err, ⊤}
use Prim.Native.Nat.{ℕ, ◌%◌, ◌^◌}
use mathlib.Core.Path.{◌≡◌, sym, ◌∙◌}
use mathlib.Core.Bool.{Bool}
use mathlib.Core.List.{List}
use lib.ListN.{get_or}
use borrow.Author.Tests.{eq-eqb, ne_eqb}
use Rattle.words.specs.Words.{read_flag}
use Rattle.models.specs.Codes.{read_transfer, read_direction}
use Rattle.models.specs.Values.{read_error, read_option_error, read_device_id}
use Rattle.models.specs.declared.{BackendCompletion.BackendCompletion, DeviceId.DeviceId, Direction.Direction, OperationError.OperationError, SetupPacket.SetupPacket, TransferType.TransferType}
use Rattle.rows.specs.Codec.{read_setup_words}
use Rattle.scope.specs.Returned.{read_completion}
use Rattle.call_words.specs.Arguments.{read_spec, read_recovery_reply}
use Rattle.session.specs.declared.{lifecycle.AcquireFailure.AcquireFailure}

-- a failure to acquire, from its error and its flag
pub failure_read : (w : List ℕ) (e : OperationError) (f : Bool) (r : ℕ) → e ≡ read_error w 3 → f ≡ read_flag r → r ≡ get_or w 2 0
    → ◌≡◌ {A = Result ⊤ AcquireFailure} (Err (record { error = e; retained = f })) (Err (record { error = read_error w 3; retained = read_flag (get_or w 2 0) }))
failure_read w e f r ee ef er = cc

-- a completion from a part of a reply's words
pub completion_read : (x : BackendCompletion) (v u : List ℕ) → x ≡ read_completion v → v ≡ u
    → ◌≡◌ {A = Result (Option BackendCompletion) OperationError} (Ok (Some x)) (Ok (Some (read_completion u)))
completion_read x v u e f = rw (e, f)

-- a request from its device, its codes and its words
pub spec_read : (w : List ℕ) (d : DeviceId) (e x y l a b c f g h : ℕ) (t : TransferType) (i : Direction) (s : Option SetupPacket)
    → d ≡ read_device_id w 1 → e ≡ get_or w 4 0 → x ≡ get_or w 5 0 → t ≡ read_transfer x → y ≡ get_or w 6 0 → i ≡ read_direction y → l ≡ get_or w 7 0
    → a ≡ get_or w 8 0 → b ≡ get_or w 9 0 → c ≡ get_or w 10 0 → f ≡ get_or w 11 0 → g ≡ get_or w 12 0 → h ≡ get_or w 13 0 → s ≡ read_setup_words a b c f g h
    → record { device = d; endpoint = e % 2 ^ 8; transfer_type = t; direction = i; length = l; setup = s } ≡ read_spec w
unfolding read_spec
spec_read w d e x y l a b c f g h t i s hd he hx ht hy hi hl ha hb hc hf hg hh hs = cc

-- what a recovery's reply says
module _ (w : List ℕ) (k : ℕ) (ek : k ≡ get_or w 1 0) where
  pub abort_done : (n : ℕ) (ready : Bool) (e : Option OperationError) → k ≡ 0 → n ≡ get_or w 2 0 → ready ≡ read_flag n → e ≡ read_option_error w 3
      → Ok (record { restart_ready = ready; error = e }) ≡ read_recovery_reply w
  unfolding read_recovery_reply
  abort_done n ready e z en er ee = rw (eq-eqb (get_or w 1 0) 0 (sym ek ∙ z), er, en, ee)

  pub abort_failed : (e : OperationError) → (k ≡ 0 → ⊥) → e ≡ read_error w 4 → Err e ≡ read_recovery_reply w
  unfolding read_recovery_reply
  abort_failed e z ee = rw (ne_eqb (get_or w 1 0) 0 (λ q. z (ek ∙ q)), ee)
