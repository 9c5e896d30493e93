-- A recovery's reply keeps rows and journal in step, and the invariant. Assumes nothing.
use Prim.Native.Nat.{ℕ, ◌≤◌}
use mathlib.Core.Path.{◌≡◌, sym, ap, ◌∙◌}
use mathlib.Core.Bool.{Bool, true}
use mathlib.Core.List.{List, ◌++◌, map, map-map}
use native.Mathlib.Omega.{arith}
use borrow.Author.Tests.{eqb-true, ltb-true}
use lib.Dec.{eqb}
use lib.ListN.{length, get_or, length-map, get_or-map}
use Rattle.chain.specs.Lists.{count, find, is_among}
use Rattle.chain.proofs.Lists.{find_hit, get_or-any}
use Rattle.models.specs.declared.{DeviceId.DeviceId}
use Rattle.rows.specs.Table.{is_held, row_in, token_in}
use Rattle.rows.specs.declared.{Row.Row}
use Rattle.scope.specs.Affected.{affected_of}
use Rattle.scope.specs.Scope.{slot_of, in_scope}
use Rattle.session.specs.Lent.{Memory}
use Rattle.session.specs.declared.{Size.Size}
use Rattle.recovery.specs.RecoveryReply.{ReplyLists, apply_all}
use Rattle.runs.proofs.Affected.{affected_is_held, meant_affected, meant_below, slot_in, own_tokens, place_meant}
use Rattle.runs.proofs.Tokens.{scope_each, scope_distinct}
use Rattle.history.specs.Journal.{Entry, no_entry, affected_views, meant_view, releases_all, View}
use Rattle.history.specs.Claim.{row_view}
use Rattle.history.proofs.Led.{Led}
use Rattle.history.proofs.Affects.{seen, affected_same}
use Rattle.history.proofs.Walks.{Kept, LateBy, Ready, apply_kept}

-- ---- what a token means on both sides
module _ (d : DeviceId) (endpoint : ℕ) (rows : List Row) (entries : List Entry) (few : count is_held rows ≤ 128) (k : Led rows entries) where
  abbrev affected : List ℕ
  affected = affected_of d endpoint rows

  abbrev own : List ℕ
  own = own_tokens d endpoint rows

  abbrev place : ℕ → ℕ
  place = place_meant d endpoint rows

  abbrev pub view : ℕ → View
  view t = meant_view (affected_views d endpoint entries) t

  own_is : map (λ (v : View). v.token) (affected_views d endpoint entries) ≡ own
  own_is = ap (map (λ (v : View). v.token)) (sym (affected_same d endpoint rows entries few k)) ∙ map-map (λ (v : View). v.token) (seen d endpoint rows) affected

  module _ (t : ℕ) (e : is_among t own ≡ true) where
    view_at : row_view (row_in rows (place t)) ≡ view t
    view_at =
        let a : get_or (map (seen d endpoint rows) affected) (slot_of own t) (seen d endpoint rows 0) ≡ seen d endpoint rows (place t) = get_or-map (seen d endpoint rows) affected (slot_of own t) 0 in
        let b = get_or-any (map (seen d endpoint rows) affected) (slot_of own t) (seen d endpoint rows 0) no_entry.view (omega (arith, slot_in d endpoint rows t e, length-map affected (seen d endpoint rows))) in
        sym a ∙ b ∙ ap (λ (l : List View). get_or l (slot_of own t) no_entry.view) (affected_same d endpoint rows entries few k)
        ∙ ap (λ (l : List ℕ). get_or (affected_views d endpoint entries) (find (eqb t) l) no_entry.view) (sym own_is)

    token_at : (view t).token ≡ t
    token_at =
        let a : get_or own (slot_of own t) (token_in rows 0) ≡ token_in rows (place t) = get_or-map (token_in rows) affected (slot_of own t) 0 in
        let b = get_or-any own (slot_of own t) (token_in rows 0) 0 (ltb-true (slot_of own t) (length own) e) in
        let c = eqb-true t (get_or own (slot_of own t) 0) (find_hit (eqb t) own 0 (ltb-true (slot_of own t) (length own) e)) in
        ap (λ (v : View). v.token) (sym view_at) ∙ sym a ∙ b ∙ sym c

    ready_at : Ready place view rows t
    ready_at = record { below = meant_below d endpoint rows t e; held = affected_is_held d endpoint rows (row_in rows (place t)) (meant_affected d endpoint rows t e); is = view_at; token = token_at }

-- ---- a reply in scope keeps rows and journal in step
module _ (d : DeviceId) (endpoint : ℕ) (m : Memory) (entries : List Entry) (few : count is_held m.store.rows ≤ 128) (k : Led m.store.rows entries) where
  abbrev rows : List Row
  rows = m.store.rows

  pub recovered_kept : (whole : Bool) (z : Size) (l : ReplyLists) → in_scope whole (own_tokens d endpoint rows) (l.tokens ++ l.aborted) ≡ true
      → Kept rows entries (apply_all z (place_meant d endpoint rows) l m).lent.store.rows (releases_all (meant_view (affected_views d endpoint entries)) l entries)
      × LateBy (apply_all z (place_meant d endpoint rows) l m).result
  recovered_kept whole z l s =
      let v : ℕ → View = view d endpoint rows entries few k in
      apply_kept (place_meant d endpoint rows) v z l m entries k
      (scope_distinct (own_tokens d endpoint rows) whole l s)
      (scope_each (own_tokens d endpoint rows) whole l s (Ready (place_meant d endpoint rows) v rows) (ready_at d endpoint rows entries few k))
