-- Laws of single fields in a session's words. Assumes nothing.
use Prim.Native.Nat.{ℕ, ◌+◌, ◌≤◌}
use mathlib.Core.Bool.{Bool, true, false, not}
use mathlib.Core.List.{List, ◌∷◌}
use mathlib.Core.Path.{◌≡◌, refl, sym, ap, ◌∙◌}
use lib.Dec.{eqb}
use lib.ListN.{length, get_or, take, replicate}
use native.Mathlib.Omega.{arith}
use borrow.Author.Tests.{eqb-true, not-true}
use Rattle.chain.proofs.Chain.{caseB, both, passes, eq_not}
use Rattle.words.specs.Records.{splice}
use Rattle.models.specs.Codes.{read_controller}
use Rattle.models.specs.Values.{request_id_words, read_request_id}
use Rattle.models.specs.declared.{ControllerState.ControllerState, RequestId.RequestId}
use Rattle.session.specs.Session.{is_busy, is_initialized, with_flight}
use Rattle.session.specs.declared.{InFlight.InFlight, Session.Session, Size.Size}
use Rattle.session_words.specs.Fields.{is_submit_flight, is_poll_flight, flight_id}
use Rattle.session_words.specs.State.{read_session, session_words, session_size, stands_at, is_session, Kept, kept_of, kept_as}
use Rattle.session_words.proofs.Own.{own_words}

module _ (l : List ℕ) where
  pub size_is : (count bytes : ℕ) → count ≡ get_or l 24 0 → bytes ≡ get_or l 25 0
      → ◌≡◌ {A = Size} (record { row_count = count; row_bytes = bytes }) (read_session l).size
  unfolding read_session
  size_is count bytes ec eb = rw (ec, eb)

  pub initialized_is : (r : Bool) (c : ControllerState) (state : ℕ) → r ≡ is_initialized c → c ≡ read_controller state → state ≡ get_or l 6 0
      → r ≡ is_initialized (read_session l).state
  unfolding read_session
  initialized_is r c state er ec es = er ∙ rw (ec, es)

  pub busy_is : (tag : ℕ) → tag ≡ get_or l 15 0 → not (eqb tag 0) ≡ is_busy (read_session l).in_flight
  unfolding read_session
  busy_is tag e =
      rw (← e)
      (caseB (eqb tag 0) (λ t. rw t)
      (λ t. rw t (caseB (eqb tag 1) (λ u. rw u) (λ u. rw u (caseB (eqb tag 2) (λ v. rw v) (λ v. rw v))))))

  pub submission_is : (tag : ℕ) → tag ≡ get_or l 15 0 → eqb tag 1 ≡ is_submit_flight (read_session l).in_flight
  unfolding read_session
  submission_is tag e =
      rw (← e)
      (caseB (eqb tag 0) (λ t. rw t (ap (λ (n : ℕ). eqb n 1) (eqb-true tag 0 t)))
      (λ t. rw t (caseB (eqb tag 1) (λ u. rw u) (λ u. rw u (caseB (eqb tag 2) (λ v. rw v) (λ v. rw v))))))

  pub poll_is : (tag : ℕ) → tag ≡ get_or l 15 0 → eqb tag 2 ≡ is_poll_flight (read_session l).in_flight
  unfolding read_session
  poll_is tag e =
      rw (← e)
      (caseB (eqb tag 0) (λ t. rw t (ap (λ (n : ℕ). eqb n 2) (eqb-true tag 0 t)))
      (λ t. rw t (caseB (eqb tag 1) (λ u. rw u (ap (λ (n : ℕ). eqb n 2) (eqb-true tag 1 u)))
      (λ u. rw u (caseB (eqb tag 2) (λ v. rw v) (λ v. rw v))))))

  pub flight_id_is : (id : RequestId) → is_busy (read_session l).in_flight ≡ true → id ≡ read_request_id l 16 → id ≡ flight_id (read_session l).in_flight
  unfolding read_session
  flight_id_is id busy e =
      let busy-words : not (eqb (get_or l 15 0) 0) ≡ true = busy_is (get_or l 15 0) refl ∙ busy in
      e
      ∙ rw (not-true (eqb (get_or l 15 0) 0) busy-words)
      (caseB (eqb (get_or l 15 0) 1) (λ u. rw u) (λ u. rw u (caseB (eqb (get_or l 15 0) 2) (λ v. rw v) (λ v. rw v))))

idle : (f : InFlight) → is_busy f ≡ false → f ≡ InFlight.Nothing
idle InFlight.Nothing h = refl
idle (InFlight.Submission id) h = cc
idle (InFlight.Poll id) h = cc
idle (InFlight.Recovery x) h = cc

-- the words of a session where nothing is in flight, and those with a poll
poll_put : (s : Session) (id : RequestId) → s.in_flight ≡ InFlight.Nothing
    → splice 15 (2 ∷ request_id_words id) (session_words s) ≡ session_words (with_flight s (InFlight.Poll id))
unfolding session_words splice
poll_put s id e = rw e

poll_back : (s : Session) (id : RequestId) → read_session (session_words s) ≡ s
    → read_session (session_words (with_flight s (InFlight.Poll id))) ≡ with_flight s (InFlight.Poll id)
unfolding read_session session_words
poll_back s id e = ap (λ (x : Session). with_flight x (InFlight.Poll id)) e

own_size : (l : List ℕ) → is_session l ≡ true → length l ≡ 26
unfolding is_session
own_size l h = eqb-true (length l) 26 (both (eqb (length l) session_size) (stands_at l 0 (session_words (read_session l))) h).0

pub poll_room : (l : List ℕ) → is_session l ≡ true → 15 + 4 ≤ length l
poll_room l h = let n = own_size l h in omega arith

pub poll_begun : (l after : List ℕ) (id : RequestId) → is_session l ≡ true → is_busy (read_session l).in_flight ≡ false
    → after ≡ splice 15 (take 4 (2 ∷ request_id_words id)) l → kept_of after ≡ kept_as l (with_flight (read_session l) (InFlight.Poll id))
unfolding kept_as kept_of
poll_begun l after id h b e =
    let s = read_session l in
    let own = own_words l h in
    let z : after ≡ session_words (with_flight s (InFlight.Poll id)) = e ∙ ap (splice 15 (2 ∷ request_id_words id)) (sym own) ∙ poll_put s id (idle s.in_flight b) in
    passes Kept _ _ _ _ (eq_not _ _ (own_size l h)) (rw (z, poll_back s id (ap read_session own)))

-- and those with nothing in flight any more
flight_put : (s : Session) → splice 15 (replicate 9 0) (session_words s) ≡ session_words (with_flight s InFlight.Nothing)
unfolding session_words splice
flight_put s = refl

flight_back : (s : Session) → read_session (session_words s) ≡ s → read_session (session_words (with_flight s InFlight.Nothing)) ≡ with_flight s InFlight.Nothing
unfolding read_session session_words
flight_back s e = ap (λ (x : Session). with_flight x InFlight.Nothing) e

pub flight_room : (l : List ℕ) → is_session l ≡ true → 15 + 9 ≤ length l
flight_room l h = let n = own_size l h in omega arith

pub flight_ended : (l after : List ℕ) → is_session l ≡ true → after ≡ splice 15 (replicate 9 0) l
    → kept_of after ≡ kept_as l (with_flight (read_session l) InFlight.Nothing)
unfolding kept_as kept_of
flight_ended l after h e =
    let s = read_session l in
    let own = own_words l h in
    let z : after ≡ session_words (with_flight s InFlight.Nothing) = e ∙ ap (splice 15 (replicate 9 0)) (sym own) ∙ flight_put s in
    passes Kept _ _ _ _ (eq_not _ _ (own_size l h)) (rw (z, flight_back s (ap read_session own)))
