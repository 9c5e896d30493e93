-- Laws of a session's words. Assumes nothing.
use Rattle.std.specs.Prelude.{Option, Some}
use Prim.Native.Nat.{ℕ, ◌<◌, ◌≤◌, ◌%◌, ◌^◌}
use mathlib.Core.List.{List, [], ◌∷◌}
use mathlib.Core.Path.{◌≡◌, refl, sym, ap, ◌∙◌}
use lib.ListN.{length, get_or, take, drop_of_length-le}
use native.Mathlib.Omega.{arith}
use borrow.Author.Tests.{eq-eqb, ne_eqb}
use Rattle.chain.proofs.Chain.{takes, passes, eq_not, ne_not}
use Rattle.words.specs.Records.{splice}
use Rattle.words.specs.Words.{read_option_u64, option_u64_words}
use Rattle.words.specs.declared.{OptionWords.OptionWords}
use Rattle.words.proofs.Options.{low}
use Rattle.models.specs.Codes.{read_controller, controller_word}
use Rattle.models.specs.Values.{read_device_words, read_request_words, read_device_id, read_request_id}
use Rattle.models.specs.declared.{ControllerState.ControllerState, DeviceId.DeviceId, Ports.Ports, RequestId.RequestId}
use Rattle.session.specs.declared.{InFlight.InFlight, RecoverableStall.RecoverableStall, Recovery.Recovery, RecoveryKind.RecoveryKind, Session.Session}
use Rattle.session_words.specs.State.{read_ports, ports_words, read_stall, stall_words, read_kind, read_flight, ports_in, stall_in, flight_in, recovery_flight, flight_words, read_session, session_words, ports_tail, revision_tail, stall_tail, flight_tail, Kept, kept_of, kept_as}
use Rattle.session_words.specs.declared.{state.FlightWords.FlightWords, state.PortsWords.PortsWords, state.StallWords.StallWords}

pub ports_back : (p : Ports) → p.count < 2 ^ 8 → read_ports 1 p.session p.count ≡ Some p
ports_back p h = simp (low 8 h)

pub stall_back : (x : RecoverableStall) → x.device.slot < 2 ^ 8 → x.endpoint < 2 ^ 8
    → read_stall 1 x.revision (read_device_words x.device.session x.device.generation x.device.slot) x.endpoint ≡ Some x
stall_back x h k = simp (low 8 h, low 8 k)

-- what is in flight, from its words
abbrev flight_by : FlightWords → InFlight
flight_by f =
    read_flight f.tag (read_request_words f.session f.generation f.sequence) (read_device_words f.device_session f.device_generation f.slot) f.endpoint
    f.kind

pub recovery_back : (x : Recovery) (f : FlightWords) → x.device.slot < 2 ^ 8 → x.endpoint < 2 ^ 8
    → f ≡ recovery_flight x → read_kind f.kind ≡ x.kind → flight_by f ≡ InFlight.Recovery x
recovery_back x f h g ef ek =
    let z : read_kind (recovery_flight x).kind ≡ x.kind = ap (λ (y : FlightWords). read_kind y.kind) (sym ef) ∙ ek in
    rw ef (simp (low 8 h, low 8 g, z))

-- a session's words, and the session that they say
module _ (s : Session) (p : PortsWords) (c : ℕ) (r : OptionWords) (x : StallWords) (f : FlightWords) where
  abbrev words_by : List ℕ
  words_by =
      s.number ∷ s.generation ∷ s.next_sequence
      ∷ ports_tail p (c ∷ revision_tail r (stall_tail x (flight_tail f (s.size.row_count ∷ s.size.row_bytes ∷ []))))

  pub session_back : read_ports p.present p.session p.count ≡ s.ports → read_controller c ≡ s.state
      → read_option_u64 r.present r.value ≡ s.recovery_revision
      → read_stall x.present x.revision (read_device_words x.session x.generation x.slot) x.endpoint ≡ s.recoverable_stall
      → flight_by f ≡ s.in_flight → read_session words_by ≡ s
  unfolding read_session
  session_back ep ec er ex ef = simp (ep, ec, er, ex, ef)

  pub session_exact : p ≡ ports_words s.ports → c ≡ controller_word s.state → r ≡ option_u64_words s.recovery_revision
      → x ≡ stall_words s.recoverable_stall → f ≡ flight_words s.in_flight → words_by ≡ session_words s
  unfolding session_words
  session_exact ep ec er ex ef = rw (ep, ec, er, ex, ef)

-- what is in flight, by its tag
module _ (l : List ℕ) (tag : ℕ) (et : tag ≡ get_or l 15 0) where
  pub flight_nothing : tag ≡ 0 → InFlight.Nothing ≡ flight_in l
  flight_nothing e = simp (sym et, eq-eqb tag 0 e)

  module _ (some : tag ≡ 0 → ⊥) (id : RequestId) (ei : id ≡ read_request_id l 16) where
    pub flight_submission : tag ≡ 1 → InFlight.Submission id ≡ flight_in l
    flight_submission e = simp (sym et, ne_eqb tag 0 some, eq-eqb tag 1 e, ei)

    module _ (other : tag ≡ 1 → ⊥) where
      pub flight_poll : tag ≡ 2 → InFlight.Poll id ≡ flight_in l
      flight_poll e = simp (sym et, ne_eqb tag 0 some, ne_eqb tag 1 other, eq-eqb tag 2 e, ei)

      pub flight_recovery : (d : DeviceId) (e w : ℕ) (k : RecoveryKind) → (tag ≡ 2 → ⊥) → d ≡ read_device_id l 19 → e ≡ get_or l 22 0 → k ≡ read_kind w
          → w ≡ get_or l 23 0 → InFlight.Recovery (record { target = id; device = d; endpoint = e % 2 ^ 8; kind = k }) ≡ flight_in l
      flight_recovery d e w k h ed ee ek ew =
          simp (sym et, ne_eqb tag 0 some, ne_eqb tag 1 other, ne_eqb tag 2 h, ei, ed, ee, ek, ew)

-- a session that is read from its words
pub session_read : (l : List ℕ) (number generation sequence state present value count bytes : ℕ) (p : Option Ports) (c : ControllerState) (r : Option ℕ)
    (x : Option RecoverableStall) (f : InFlight) → number ≡ get_or l 0 0 → generation ≡ get_or l 1 0 → sequence ≡ get_or l 2 0 → p ≡ ports_in l
    → c ≡ read_controller state → state ≡ get_or l 6 0 → r ≡ read_option_u64 present value → present ≡ get_or l 7 0 → value ≡ get_or l 8 0
    → x ≡ stall_in l → f ≡ flight_in l → count ≡ get_or l 24 0 → bytes ≡ get_or l 25 0
    → ◌≡◌ {A = Session} (record {
      number = number;
      generation = generation;
      next_sequence = sequence;
      ports = p;
      state = c;
      recovery_revision = r;
      recoverable_stall = x;
      in_flight = f;
      size = record { row_count = count; row_bytes = bytes };
    }) (read_session l)
unfolding read_session
session_read l _ _ _ _ _ _ _ _ _ _ _ _ _ e₀ e₁ e₂ ep ec e₆ er e₇ e₈ ex ef en eb = rw (e₀, e₁, e₂, ep, ec, e₆, er, e₇, e₈, ex, ef, en, eb)

-- a session written to its words
module _ (l : List ℕ) (s : Session) where
  pub kept_out : (length l ≡ 26 → ⊥) → kept_of l ≡ kept_as l s
  unfolding kept_as
  kept_out h = takes Kept _ _ _ _ (ne_not _ _ h) refl

  pub kept_in_lem : (next after : List ℕ) → length l ≡ 26 → read_session next ≡ s → next ≡ session_words s → after ≡ splice 0 (take 26 next) l
      → kept_of after ≡ kept_as l s
  unfolding kept_as kept_of session_words splice
  kept_in_lem next after h eb en ea =
      let k : length l ≤ 26 = omega arith in
      let z : after ≡ session_words s = ea ∙ rw (en, drop_of_length-le l k) in
      passes Kept _ _ _ _ (eq_not _ _ h) (rw (z, ap read_session (sym en) ∙ eb))
