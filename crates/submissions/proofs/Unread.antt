-- Packets that are not given are not read: a submission is the same whatever stands in their place. Assumes nothing.
use Rattle.std.specs.Prelude.{Option, Result, Ok, Err, ⊤, unwrap_or, option_copied}
use Rattle.std.specs.Bool.{then_some}
use Prim.Native.Nat.{ℕ}
use mathlib.Core.Bool.{Bool, true, false, not}
use mathlib.Core.List.{List, []}
use mathlib.Core.Path.{◌≡◌, refl, sym, ap, ◌∙◌}
use lib.ListN.{length}
use Rattle.chain.proofs.Chain.{takes}
use Rattle.models.specs.declared.{Refusal.Refusal, RequestSpec.RequestSpec, TransferType.TransferType}
use Rattle.rows.specs.declared.{Row.Row}
use Rattle.checks.specs.Packets.{packets_checked}
use Rattle.session.specs.Lent.{Lent, lent_fits}
use Rattle.session.specs.Start.{guarded}
use Rattle.session.specs.declared.{Session.Session}
use Rattle.submissions.specs.Admit.{admit_room, admit_packets, admit_of}
use Rattle.submissions.specs.Submit.{Request, packets_in, request_in, submit_by, submit_of}
use Rattle.submissions.specs.Wants.{wants_by, submit_wants}
use Rattle.submissions.specs.declared.{NewRequest.NewRequest, admit.Admitted.Admitted}

packets_pass : (packets : List ℕ) (type : TransferType) (size : ℕ) → packets_checked false packets type size ≡ Ok tt
unfolding packets_checked
packets_pass packets type size = sym (takes (Result ⊤ Refusal) (Ok tt) (not false) _ (Ok tt) refl refl)

module _ (q : RequestSpec) (n : ℕ) (s : Session) where
  room_next : (packets : List ℕ) (rows : List Row) → admit_packets packets false q n s rows ≡ admit_room q n s rows
  unfolding admit_packets
  room_next packets rows = rw (packets_pass packets q.transfer_type q.length, admit_packets) refl

  module _ (l : Lent) where
    admit_unread : (packets others : List ℕ) → admit_of packets false q n s l ≡ admit_of others false q n s l
    unfolding admit_of
    admit_unread packets others =
        ap (λ (r : Result Admitted Refusal). guarded s (lent_fits s.size l) Err r) (room_next packets _ ∙ sym (room_next others _))

    admit_read : (o : Option (List ℕ)) (given : Bool) (packets : List ℕ) → o ≡ then_some given packets
        → admit_of (unwrap_or o []) given q n s l ≡ admit_of packets given q n s l
    admit_read o false packets e = admit_unread (unwrap_or o []) packets
    admit_read o true packets e = ap (λ (x : Option (List ℕ)). admit_of (unwrap_or x []) true q n s l) e

-- x says q, and packets where they are given
module _ (x : NewRequest) (q : Request) (packets : List ℕ) (s : Session) (l : Lent) (eq : request_in x ≡ q) (ep : option_copied x.packets ≡ then_some q.given packets) where
  pub submit_read : submit_of (packets_in x) (request_in x) s l ≡ submit_of packets q s l
  unfolding submit_of
  submit_read =
      ap (λ (z : Request). submit_of (packets_in x) z s l) eq
      ∙ ap (λ (a : Result Admitted Refusal). submit_by a q s l) (admit_read q.spec (length q.bytes) s l (option_copied x.packets) q.given packets ep)

  pub wants_read : submit_wants (packets_in x) (request_in x) s l ≡ submit_wants packets q s l
  unfolding submit_wants
  wants_read =
      ap (λ (z : Request). submit_wants (packets_in x) z s l) eq
      ∙ ap (λ (a : Result Admitted Refusal). wants_by a q.readings s l.bus) (admit_read q.spec (length q.bytes) s l (option_copied x.packets) q.given packets ep)
