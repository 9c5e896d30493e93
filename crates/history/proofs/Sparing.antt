-- What a recovery's reply leaves of the rows that it does not affect, whatever it is answered. Assumes nothing.
use Rattle.std.specs.Prelude.{Option, Result, Ok, Err, ⊤}
use Prim.Native.Nat.{ℕ}
use mathlib.Core.Path.{◌≡◌, refl, sym, ap, ◌∙◌, subst}
use mathlib.Core.Bool.{Bool, true, false, true≢false}
use mathlib.Core.List.{List, [], ◌∷◌, ◌++◌}
use lib.ListN.{length, set, take, drop, length-set}
use lib.Seq.{get_or-set_other}
use Rattle.chain.specs.After.{After}
use Rattle.models.specs.declared.{DeviceId.DeviceId, OperationError.OperationError, Refusal.Refusal}
use Rattle.rows.specs.Store.{Store, put_in}
use Rattle.rows.specs.Table.{empty_row, row_in}
use Rattle.rows.specs.declared.{Row.Row}
use Rattle.rules.specs.Rules.{change_row}
use Rattle.rules.specs.declared.{Change.Change, Step.Step}
use Rattle.session.specs.Lent.{Memory, memory}
use Rattle.session.specs.declared.{InFlight.InFlight, Session.Session, Size.Size}
use Rattle.scope.specs.Affected.{is_affected}
use Rattle.scope.specs.Scope.{in_scope}
use Rattle.scope.specs.Returned.{Returned}
use Rattle.ledger.specs.Apply.{apply_by, changed_at}
use Rattle.recovery.specs.Entries.{row_completed_by, tested_by, complete_one, aborted_by, abort_one}
use Rattle.recovery.specs.RecoveryReply.{ReplyLists, apply_all, is_whole, settled_of, recovery_reply_of}
use Rattle.recovery.specs.declared.{BackendAbort.BackendAbort, Replied.Replied}
use Rattle.runs.proofs.Affected.{meant_affected, own_tokens, place_meant}
use Rattle.runs.proofs.Ways.{recovery_all}
use Rattle.runs.proofs.Entries.{Onward, entries_all}
use Rattle.runs.proofs.Tokens.{tokens_in, Each, scope_each, reply_tokens}
use Rattle.history.specs.Claim.{Spared}
use Rattle.checks.specs.declared.{completion.CompletionFault.CompletionFault, completion.ValidCompletion.ValidCompletion}

-- ---- a walk that changes marked rows only
module _ (marks : ℕ → Bool) where
  pub record Spares (rows rows' : List Row) : Type 0 where
    pub size : length rows' ≡ length rows
    pub row : (i : ℕ) → marks i ≡ false → row_in rows' i ≡ row_in rows i

  none : (rows : List Row) → Spares rows rows
  none rows = record { size = refl; row = λ i e. refl }

  further : (a b c : List Row) → Spares a b → Spares b c → Spares a c
  further a b c p q = record { size = q.size ∙ p.size; row = λ i e. q.row i e ∙ p.row i e }

  module _ (p : ℕ) (on : marks p ≡ true) (store : Store) where
    one_put : (r : Row) → Spares store.rows (set store.rows p r)
    one_put r = record {
      size = length-set store.rows p r;
      row = λ i e. get_or-set_other store.rows p i r empty_row (λ z. true≢false (sym on ∙ ap marks (sym z) ∙ e));
    }

    completed_row_lem : (n : Result Step Refusal) (z : Size) (bytes area : List ℕ) → Spares store.rows (row_completed_by (apply_by n p store) z p bytes area).lent.store.rows
    unfolding row_completed_by apply_by put_in
    completed_row_lem (Err r) z bytes area = none store.rows
    completed_row_lem (Ok n) z bytes area = one_put n.row

    tested_row : (t : Result ValidCompletion CompletionFault) (code : Option ℕ) (z : Size) (bytes area : List ℕ) → Spares store.rows (tested_by t code z p bytes (memory store area)).lent.store.rows
    unfolding tested_by changed_at
    tested_row (Err CompletionFault.MissingLength) code z bytes area = none store.rows
    tested_row (Err CompletionFault.Invalid) code z bytes area = none store.rows
    tested_row (Ok v) code z bytes area = completed_row_lem (change_row (row_in store.rows p) (Change.Complete v.actual_length v.completion_code)) z bytes area

    aborted_row : (n : Result Step Refusal) → Spares store.rows (aborted_by (apply_by n p store)).lent.rows
    unfolding aborted_by apply_by put_in
    aborted_row (Err r) = none store.rows
    aborted_row (Ok n) = one_put n.row

  module _ (place : ℕ → ℕ) where
    -- the rows that tokens mean are marked
    abbrev pub Marked : ℕ → Type 0
    Marked t = marks (place t) ≡ true

    apply_spares : (z : Size) (l : ReplyLists) (m : Memory) → Each Marked (reply_tokens l)
        → Spares m.store.rows (apply_all z place l m).lent.store.rows
    unfolding complete_one abort_one changed_at
    apply_spares z l m a =
        entries_all place z J P (λ bytes n h. h.0)
        (λ e es ts bytes n h.
        let one : After (Result ⊤ Refusal) Memory = complete_one z (place e.token) e.brought.completion (take e.brought.given bytes) n in
        on one.result es ts (drop e.brought.given bytes) n one.lent h (tested_row (place e.token) h.1.0 n.store _ e.brought.completion.completion_code z (take e.brought.given bytes) n.area))
        (λ t ts bytes n h.
        on (abort_one (place t) n.store).result [] ts bytes n (memory (abort_one (place t) n.store).lent n.area) h (aborted_row (place t) h.1.0 n.store _))
        l m (none m.store.rows, a)
      where
        J : List Returned → List ℕ → List ℕ → Memory → Type 0
        J es ts bytes n = Spares m.store.rows n.store.rows × Each Marked (tokens_in es ++ ts)

        P : Result ⊤ Refusal → Memory → Type 0
        P v n = Spares m.store.rows n.store.rows

        on : (v : Result ⊤ Refusal) (es : List Returned) (ts bytes : List ℕ) (n n' : Memory) {t : ℕ} → Spares m.store.rows n.store.rows × Each Marked (t ∷ (tokens_in es ++ ts))
            → Spares n.store.rows n'.store.rows → Onward place z J P v es ts bytes n'
        on (Err r) es ts bytes n n' h o = further m.store.rows n.store.rows n'.store.rows h.0 o
        on (Ok tt) es ts bytes n n' h o = (further m.store.rows n.store.rows n'.store.rows h.0 o, h.1.1)

-- ---- in scope, the tokens mean affected rows
module _ (d : DeviceId) (endpoint : ℕ) (m : Memory) where
  abbrev affects : ℕ → Bool
  affects i = is_affected d endpoint (row_in m.store.rows i)

  pub scope_spares : (whole : Bool) (z : Size) (l : ReplyLists) → in_scope whole (own_tokens d endpoint m.store.rows) (l.tokens ++ l.aborted) ≡ true
      → Spares affects m.store.rows (apply_all z (place_meant d endpoint m.store.rows) l m).lent.store.rows
  scope_spares whole z l s =
      let place : ℕ → ℕ = place_meant d endpoint m.store.rows in
      apply_spares affects place z l m (scope_each (own_tokens d endpoint m.store.rows) whole l s (Marked affects place) (meant_affected d endpoint m.store.rows))

-- ---- the reply
pub all_spared : (f : InFlight) (rows : List Row) → Spared f rows rows
all_spared InFlight.Nothing rows = refl
all_spared (InFlight.Submission id) rows = refl
all_spared (InFlight.Poll id) rows = refl
all_spared (InFlight.Recovery x) rows = record { number = refl; equal = λ i h e. refl }

pub reply_spares : (r : Result BackendAbort OperationError) (l : ReplyLists) (s : Session) (m : Memory)
    → Spared s.in_flight m.store.rows (recovery_reply_of r l s m).lent.store.rows
unfolding settled_of
reply_spares r l s m =
    let same = all_spared s.in_flight m.store.rows in
    recovery_all l s m (λ (o : After Replied Memory). Spared s.in_flight m.store.rows o.lent.store.rows) same same same (λ e. same) same
    (λ x own o n.
    let k = scope_spares x.device x.endpoint m (is_whole o) s.size l n in
    subst (λ (f : InFlight). Spared f m.store.rows (apply_all s.size (place_meant x.device x.endpoint m.store.rows) l m).lent.store.rows) (sym own)
    (record { number = k.size; equal = λ i h e. k.row i e }))
    r
