-- A recovery's two calls keep the invariant of session, rows and journal. Assumes nothing.
use Rattle.std.specs.Prelude.{Option, Some, None, Result, Ok, Err, ⊤}
use Prim.Native.Nat.{ℕ, ◌≤◌, ◌<◌}
use mathlib.Core.Path.{◌≡◌, refl, sym, ap, ◌∙◌}
use mathlib.Core.Bool.{Bool, true, false, not, cond, ◌||◌, false≢true}
use mathlib.Core.List.{List, ◌++◌}
use native.Mathlib.Omega.{arith}
use borrow.Author.Tests.{not-true}
use lib.Dec.{eqb}
use lib.ListN.{length}
use Rattle.chain.specs.Lists.{count}
use Rattle.chain.specs.After.{After}
use Rattle.chain.proofs.Chain.{if_all, both}
use Rattle.models.specs.declared.{OperationError.OperationError, Refusal.Refusal, RequestId.RequestId}
use Rattle.rows.specs.Store.{Store}
use Rattle.rows.specs.Table.{is_held, row_in}
use Rattle.rows.specs.declared.{Row.Row}
use Rattle.ledger.specs.Search.{is_at}
use Rattle.session.specs.Session.{with_flight, marked}
use Rattle.session.specs.Lent.{Memory}
use Rattle.session.specs.declared.{InFlight.InFlight, RecoverableStall.RecoverableStall, Recovery.Recovery, RecoveryKind.RecoveryKind, Session.Session}
use Rattle.scope.specs.Scope.{in_scope}
use Rattle.recovery.specs.Recover.{recover_of, begun_as, recovery_of}
use Rattle.recovery.specs.RecoveryReply.{ReplyLists, apply_all, ended, is_whole, restored_by, reset_by, session_after, refused_after, concluded_by, settled_of, recovery_reply_of}
use Rattle.recovery.specs.declared.{AbortReport.AbortReport, Begun.Begun, BackendAbort.BackendAbort, Replied.Replied}
use Rattle.calls.specs.Answers.{of_begin, of_recovery, is_recovering}
use Rattle.calls.specs.declared.{Answer.Answer}
use Rattle.runs.proofs.Ids.{access_held}
use Rattle.runs.proofs.Ways.{begin_all, recovery_all}
use Rattle.runs.proofs.Affected.{own_tokens, place_meant}
use Rattle.history.specs.Journal.{Entry, Journal, View, entry_of, idle, affected_views, meant_view, releases_all, recovery_waits, released_in, recovered_journal, recovery_as}
use Rattle.history.specs.Claim.{row_view}
use Rattle.history.proofs.Led.{entry_is}
use Rattle.history.proofs.Changes.{view_is}
use Rattle.history.proofs.Ordered.{view_ext}
use Rattle.history.proofs.Inv.{Inv, marks, ended_kept, waits_for}
use Rattle.history.proofs.Walks.{Kept, is_late, LateBy}
use Rattle.history.proofs.Scoped.{recovered_kept}

-- ---- the session after the entries
module _ (rows : List Row) (j : Journal) (seen : List ℕ) (s : Session) (k : Inv s rows j seen) where
  abbrev Holds : Session → Type 0
  Holds t = Inv t rows j seen

  restored_kept : (q : Option RecoverableStall) (x : Recovery) (certain : Bool) → Holds (restored_by q x certain s)
  unfolding restored_by
  restored_kept None x certain = k
  restored_kept (Some note) x certain = if_all Holds _ _ _ k k

  reset_kept : (q : RecoveryKind) (x : Recovery) (l : List Row) → Holds (reset_by q x l s)
  unfolding reset_by
  reset_kept RecoveryKind.Abort x l = k
  reset_kept (RecoveryKind.Reset preserve) x l = restored_kept s.recoverable_stall x _

  after_kept : (x : Recovery) (o : BackendAbort) (l : List Row) → Holds (session_after (ended s x o) l)
  unfolding session_after
  after_kept x o l = if_all Holds _ _ _ (marks s rows j seen k) (reset_kept x.kind x l)

-- a refusal of an entry is none of those before the entries
late_each : (a b c d e : Bool) → not (a || b || c || d || e) ≡ true → (a ≡ false) × (b ≡ false) × (c ≡ false) × (d ≡ false) × (e ≡ false)
late_each true b c d e p = absurd (false≢true p)
late_each false true c d e p = absurd (false≢true p)
late_each false false true d e p = absurd (false≢true p)
late_each false false false true e p = absurd (false≢true p)
late_each false false false false true p = absurd (false≢true p)
late_each false false false false false p = (refl, refl, refl, refl, refl)

pub late_numbers : (n : ℕ) → is_late n ≡ true → (eqb n 2 ≡ false) × (eqb n 3 ≡ false) × (eqb n 49 ≡ false) × (eqb n 45 ≡ false) × (eqb n 46 ≡ false)
late_numbers n late = late_each (eqb n 2) (eqb n 3) (eqb n 49) (eqb n 45) (eqb n 46)
    (both (not (eqb n 2 || eqb n 3 || eqb n 49 || eqb n 45 || eqb n 46)) (not (eqb n 43)) late).0

pub late_43 : (n : ℕ) → is_late n ≡ true → eqb n 43 ≡ false
late_43 n late = not-true (eqb n 43) (both (not (eqb n 2 || eqb n 3 || eqb n 49 || eqb n 45 || eqb n 46)) (not (eqb n 43)) late).1

module _ (s : Session) (j : Journal) (seen : List ℕ) (store : Store) (k : Inv s store.rows j seen) where
  -- ---- the start
  abbrev BeginKept : RequestId → RecoveryKind → Begun → Type 0
  BeginKept id q o = Inv o.session store.rows (cond (is_recovering (of_begin o.answer)) (recovery_waits id q j) j) seen

  -- the target's entry says what its row says
  module _ (id : RequestId) (i : ℕ) (lt : i < length store.rows) (hit : is_at id (row_in store.rows i) ≡ true) (held : is_held (row_in store.rows i) ≡ true) where
    abbrev its : Entry
    its = entry_of id j.entries

    its_view : its.view ≡ row_view (row_in store.rows i)
    its_view =
        view_ext its.view (row_view (row_in store.rows i))
        (view_is (row_in store.rows i) its held (entry_is store.rows j.entries k.led id i lt hit))

    opened : (q : RecoveryKind) → BeginKept id q (begun_as (recovery_of id q (row_in store.rows i)) s store.rows)
    unfolding begun_as
    opened q = record {
      led = k.led;
      fresh = k.fresh;
      past = k.past;
      here = k.here;
      agree = ap (λ (v : View). InFlight.Recovery (recovery_as id q v)) its_view;
    }

  pub begin_kept : (id : RequestId) (q : RecoveryKind) → BeginKept id q (recover_of id q s store)
  begin_kept id q =
      begin_all id q s store (BeginKept id q) (λ n e. k) (λ i lt hit m. k) (λ i lt hit a m. opened id i lt hit (access_held id (row_in store.rows i) hit a) q)

  -- a start that opens its operation names it
  pub begin_names : (x : Recovery) (id : RequestId) (q : RecoveryKind) → of_begin (recover_of id q s store).answer ≡ Answer.Recovering x
      → InFlight.Recovery x ≡ (recovery_waits id q j).waiting
  unfolding begun_as
  begin_names x id q =
      begin_all id q s store (λ (o : Begun). of_begin o.answer ≡ Answer.Recovering x → InFlight.Recovery x ≡ (recovery_waits id q j).waiting)
      (λ n e. refused) (λ i lt hit m. refused)
      (λ i lt hit a m y.
      let n : recovery_of id q (row_in store.rows i) ≡ x = cc in
      ap InFlight.Recovery (sym n)
      ∙ ap (λ (v : View). InFlight.Recovery (recovery_as id q v)) (sym (its_view id i lt hit (access_held id (row_in store.rows i) hit a))))
    where
      refused : {f : Refusal} {A : Type 0} → Answer.Refused f ≡ Answer.Recovering x → A
      refused e = let z : ◌≡◌ {A = ℕ} 0 1 = cc in absurd (omega arith)

-- ---- the reply
module _ (s : Session) (j : Journal) (seen : List ℕ) (m : Memory) (k : Inv s m.store.rows j seen) (few : count is_held m.store.rows ≤ 128) (l : ReplyLists) where
  abbrev ReplyKept : After Replied Memory → Type 0
  ReplyKept o = Inv o.result.session o.lent.store.rows (recovered_journal (of_recovery o.result.answer) l j) seen

  -- the session without the recovery
  abbrev quiet : Session
  quiet = with_flight s InFlight.Nothing

  refused_kept : Inv (marked quiet) m.store.rows (idle j) seen
  refused_kept = marks quiet m.store.rows (idle j) seen (waits_for s m.store.rows j seen k InFlight.Nothing)

  module _ (x : Recovery) (own : s.in_flight ≡ InFlight.Recovery x) where
    abbrev entries' : List Entry
    entries' = releases_all (meant_view (affected_views x.device x.endpoint j.entries)) l j.entries

    about : released_in j.waiting l j.entries ≡ entries'
    about = ap (λ (f : InFlight). released_in f l j.entries) (k.agree ∙ own)

    abbrev released : Journal
    released = record { entries = entries'; waiting = InFlight.Nothing }

    module _ (rows' : List Row) (kept : Kept m.store.rows j.entries rows' entries') where
      base : Inv quiet rows' released seen
      base = ended_kept s m.store.rows j seen k rows' entries' kept.led kept.ids

      concluded : (v : Result ⊤ Refusal) → LateBy v → (o : BackendAbort) (report : AbortReport) (places : List ℕ)
          → Inv (concluded_by v (ended quiet x o) report places rows').session rows' (recovered_journal (of_recovery (concluded_by v (ended quiet x o) report places rows').answer) l j) seen
      unfolding concluded_by refused_after
      concluded (Err r) late o report places =
          let (two, three, lists, error, scope) = late_numbers r.number late in
          rw (two, three, lists, error, scope, about) (if_all (λ (y : Session). Inv y rows' released seen) _ _ _ (marks quiet rows' released seen base) base)
      concluded (Ok tt) late o report places = rw about (after_kept rows' released seen quiet base x o rows')

    settled_kept : (o : BackendAbort) → in_scope (is_whole o) (own_tokens x.device x.endpoint m.store.rows) (l.tokens ++ l.aborted) ≡ true
        → ReplyKept (settled_of (ended quiet x o) (place_meant x.device x.endpoint m.store.rows) l m)
    unfolding settled_of
    settled_kept o n =
        let w = recovered_kept x.device x.endpoint m j.entries few k.led (is_whole o) s.size l n in
        concluded _ w.0 (apply_all s.size (place_meant x.device x.endpoint m.store.rows) l m).result w.1 o _ _

  pub recovery_kept : (r : Result BackendAbort OperationError) → ReplyKept (recovery_reply_of r l s m)
  recovery_kept r = recovery_all l s m ReplyKept k k k (λ e. refused_kept) refused_kept (λ x own o n. settled_kept x own o n) r
