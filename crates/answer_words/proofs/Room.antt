-- The lists of every call have at most 386 words: a recovery affects at most 128 requests, and a reply in scope names each once. Assumes nothing.
use Rattle.std.specs.Prelude.{Option, Some, None, Result, Ok, Err}
use Prim.Native.Nat.{ℕ, ◌≤◌}
use mathlib.Core.List.{List}
use mathlib.Core.Path.{◌≡◌, refl}
use native.Mathlib.Omega.{arith}
use native.Mathlib.Nat.{min-le_left}
use lib.ListN.{length, take, drop, length-take, length-append, length-map}
use Rattle.chain.proofs.Chain.{if_all}
use Rattle.words.specs.Records.{splice}
use Rattle.models.specs.declared.{Refusal.Refusal, RequestId.RequestId}
use Rattle.rows.specs.Table.{id_in}
use Rattle.rows.specs.Store.{Store}
use Rattle.rows.specs.declared.{Row.Row}
use Rattle.session.specs.Start.{guarded}
use Rattle.session.specs.declared.{Recovery.Recovery, RecoveryKind.RecoveryKind, Session.Session}
use Rattle.scope.specs.Affected.{affected_of}
use Rattle.scope.proofs.affected.Laws.{affected_most}
use Rattle.recovery.specs.Recover.{begin_refused, begun_as, begin_row, recover_by, recover_of}
use Rattle.recovery.specs.RecoveryReply.{recovery_reply_of}
use Rattle.recovery.specs.Reports.{ids_of, many_in}
use Rattle.recovery.specs.declared.{AbortReport.AbortReport, Begun.Begun}
use Rattle.recovery.proofs.Few.{reply_few}
use Rattle.calls.specs.Calls.{Beginning, Submit, SubmitPlan, Poll, Recover, Replying, ToSubmit, ToPoll, ToRecovery, Call, Open, Place, Move, Begin, Reply, Change, Read}
use Rattle.answer_words.specs.Lists.{list_size, id_list, begun_lists, recovered_by, recovered_lists, begun_in, replied_in, lists_of, put_lists}
use Rattle.calls.specs.Step.{World, world_store}
use Rattle.answer_words.proofs.lists.Laws.{id_words_length, put_all}

-- ---- the lists of a recovery's start
abbrev ShortBegun : Begun → Type 0
ShortBegun o = length (begun_lists o) ≤ list_size

module _ (id : RequestId) (k : RecoveryKind) (s : Session) (rows : List Row) where
  refused_begun : (r : Refusal) → ShortBegun (begin_refused s r)
  unfolding begun_lists
  refused_begun r = omega arith

  begun_short : (x : Recovery) → ShortBegun (begun_as x s rows)
  unfolding begun_lists begun_as
  begun_short x =
      let n = length (affected_of x.device x.endpoint rows) in
      omega (arith, length-take n (begun_as x s rows).tokens, min-le_left n (length (begun_as x s rows).tokens), affected_most x.device x.endpoint rows)

  row_begun : (r : Row) → ShortBegun (begin_row id k r s rows)
  unfolding begin_row
  row_begun r = if_all ShortBegun _ _ _ (refused_begun _) (if_all ShortBegun _ _ _ (refused_begun _) (begun_short _))

  found_begun : (f : Option ℕ) → ShortBegun (recover_by f id k s rows)
  unfolding recover_by
  found_begun None = refused_begun _
  found_begun (Some i) = row_begun _

begin_short : (id : RequestId) (k : RecoveryKind) (s : Session) (store : Store) → ShortBegun (recover_of id k s store)
unfolding recover_of guarded
begin_short id k s store =
    let r = refused_begun id k s store.rows in
    if_all ShortBegun _ _ _ (r _) (if_all ShortBegun _ _ _ (r _) (found_begun id k s store.rows _))

-- ---- and of its reply
recovered_short : (a : Result AbortReport Refusal) (rows : List Row) (places : List ℕ) → many_in a ≤ 128 → length (recovered_by a rows places) ≤ list_size
recovered_short (Err r) rows places h = omega arith
recovered_short (Ok x) rows places h =
    let n = x.completed in
    let m = x.aborted in
    let a = ids_of rows (take n places) in
    let b = ids_of rows (take m (drop n places)) in
    omega (
      arith,
      length-append (id_list a) (id_list b),
      id_words_length a,
      id_words_length b,
      length-map (take n places) (id_in rows),
      length-map (take m (drop n places)) (id_in rows),
      length-take n places,
      length-take m (drop n places),
      min-le_left n (length places),
      min-le_left m (length (drop n places)),
    )

-- ---- of every call
begins_short : (b : Beginning) (w : World) → length (begun_in b w) ≤ list_size
begins_short (Submit packets q) w = omega arith
begins_short (SubmitPlan q) w = omega arith
begins_short (Poll id) w = omega arith
begins_short (Recover id k) w = begin_short id k w.session (world_store w)

replies_short : (r : Replying) (w : World) → length (replied_in r w) ≤ list_size
unfolding recovered_lists
replies_short (ToSubmit reply) w = omega arith
replies_short (ToPoll reply bytes) w = omega arith
replies_short (ToRecovery reply lists) w =
    let o = recovery_reply_of reply lists w.session w.lent.memory in
    recovered_short o.result.answer o.lent.store.rows o.result.places (reply_few lists w.lent.memory reply w.session)

lists_short : (c : Call) (w : World) → length (lists_of c w) ≤ list_size
unfolding lists_of
lists_short (Open o) w = omega arith
lists_short (Place p) w = omega arith
lists_short (Move m) w = omega arith
lists_short (Begin b) w = begins_short b w
lists_short (Reply r) w = replies_short r w
lists_short (Change id c) w = omega arith
lists_short (Read r) w = omega arith

-- so they are always put
pub lists_put : (c : Call) (w : World) (l : List ℕ) → list_size ≤ length l → splice 0 (lists_of c w) l ≡ put_lists (lists_of c w) l
lists_put c w l h = put_all (lists_of c w) l (splice 0 (lists_of c w) l) (omega (arith, lists_short c w)) refl
