-- What a recovery that succeeded leaves of each row. Assumes nothing.
use Rattle.std.specs.Prelude.{Result, Ok, Err, ⊤}
use Prim.Native.Nat.{ℕ, ◌≤◌, ◌<◌}
use mathlib.Core.Path.{◌≡◌, refl, sym, ap, ◌∙◌, subst}
use mathlib.Core.Bool.{Bool, true, false, cond, not, ◌&&◌}
use mathlib.Core.List.{List, [], ◌∷◌, ◌++◌, map}
use native.Mathlib.Omega.{arith}
use borrow.Author.Tests.{eq-eqb, ne_eqb, eqb-true, eqb-false}
use lib.Dec.{eqb}
use lib.ListN.{length, length-map, get_or-map}
use lib.Seq.{ext_get_or}
use Rattle.chain.specs.Lists.{count, is_among, all_in}
use Rattle.chain.specs.After.{After}
use Rattle.chain.proofs.Chain.{caseB, both, or_false}
use Rattle.chain.proofs.Lists.{get_or-any, in_cons, in_append, all_in_lem}
use Rattle.models.specs.declared.{DeviceId.DeviceId, OperationError.OperationError, Refusal.Refusal, RequestReport.RequestReport}
use Rattle.models.specs.declared.RequestState.TheVariants.{Aborted}
use Rattle.rows.specs.InPlace.{completed_row}
use Rattle.rows.specs.Table.{empty_row, is_held, row_in, token_in}
use Rattle.rows.specs.declared.{Row.Row}
use Rattle.rules.specs.Rules.{with_state}
use Rattle.checks.specs.Completion.{has_error}
use Rattle.session.specs.Session.{with_flight}
use Rattle.session.specs.Lent.{Memory}
use Rattle.session.specs.declared.{InFlight.InFlight, Recovery.Recovery, Session.Session}
use Rattle.scope.specs.Affected.{is_affected}
use Rattle.scope.specs.Scope.{each_once, in_scope}
use Rattle.scope.specs.Returned.{Returned}
use Rattle.recovery.specs.RecoveryReply.{ReplyLists, apply_all, ended, is_whole, abort_report, concluded_by, settled_of, recovery_reply_of}
use Rattle.recovery.specs.declared.{AbortReport.AbortReport, BackendAbort.BackendAbort, Replied.Replied}
use Rattle.calls.specs.Answers.{of_recovery}
use Rattle.calls.specs.declared.{Answer.Answer}
use Rattle.runs.specs.Completed.{completed_as}
use Rattle.runs.proofs.Affected.{meant_affected, meant_below, own_token, own_tokens, place_meant, expected}
use Rattle.runs.proofs.Applied.{by_completions, by_aborts, Named, Applied, applied_rows, named_row}
use Rattle.runs.proofs.Held.{or_right}
use Rattle.runs.proofs.Ways.{recovery_all}
use Rattle.runs.proofs.Tokens.{tokens_in, Each, Distinct, each_last, scope_each, scope_distinct, returned_in, reply_tokens_lem}
use Rattle.history.specs.Claim.{named_as, recovered_as, is_settled, Different, Recovered, ReportOf}
use Rattle.history.proofs.Sparing.{Spares, scope_spares}

turned : (a b : ℕ) → eqb a b ≡ eqb b a
turned a b = caseB (eqb b a) (λ e. eq-eqb a b (sym (eqb-true b a e)) ∙ sym e) (λ e. ne_eqb a b (λ z. eqb-false b a e (sym z)) ∙ sym e)

-- ---- each row by its own token
module _ (place : ℕ → ℕ) (rows : List Row) (i : ℕ) where
  -- a token means the row just where it is the row's
  abbrev Meets : ℕ → Type 0
  Meets t = (place t ≡ i → t ≡ token_in rows i) × (t ≡ token_in rows i → place t ≡ i)

  meet_eqb : (t : ℕ) → Meets t → eqb (place t) i ≡ eqb t (token_in rows i)
  meet_eqb t m = caseB (eqb t (token_in rows i))
      (λ e. eq-eqb (place t) i (m.1 (eqb-true t (token_in rows i) e)) ∙ sym e)
      (λ e. ne_eqb (place t) i (λ z. eqb-false t (token_in rows i) e (m.0 z)) ∙ sym e)

  aborts_named : (ts : List ℕ) → Each Meets ts → by_aborts place ts i (row_in rows i) ≡ cond (is_among (token_in rows i) ts) (with_state (row_in rows i) Aborted) (row_in rows i)
  aborts_named [] m = refl
  aborts_named (t ∷ ts) m =
      let e = meet_eqb t m.0 ∙ turned t (token_in rows i) in
      let c = in_cons (token_in rows i) t ts in
      let ih = aborts_named ts m.1 in
      rw (e, c) (caseB (eqb (token_in rows i) t) (λ y. rw y) (λ y. rw y ih))

  -- none of them is the row's
  aborts_off : (ts : List ℕ) → Each Meets ts → is_among (token_in rows i) ts ≡ false → (r : Row) → by_aborts place ts i r ≡ r
  aborts_off [] m n r = refl
  aborts_off (t ∷ ts) m n r =
      let p = or_false (eqb (token_in rows i) t) (is_among (token_in rows i) ts) (sym (in_cons (token_in rows i) t ts) ∙ n) in
      let e : eqb (place t) i ≡ false = meet_eqb t m.0 ∙ turned t (token_in rows i) ∙ p.0 in
      rw e (aborts_off ts m.1 p.1 r)

  in_last : (t : ℕ) (ts us : List ℕ) → is_among t (ts ++ us) ≡ false → is_among t us ≡ false
  in_last t ts us e = (or_false (is_among t ts) (is_among t us) (sym (in_append t ts us) ∙ e)).1

  row_named : (es : List Returned) (aborted : List ℕ) → Each Meets (tokens_in es ++ aborted) → Distinct (tokens_in es ++ aborted)
      → by_aborts place aborted i (by_completions place es i (row_in rows i)) ≡ named_as es aborted (row_in rows i)
  row_named [] aborted m d = aborts_named aborted m
  row_named (e ∷ es) aborted m d =
      let q = meet_eqb e.token m.0 in
      let ih = row_named es aborted m.1 d.1 in
      rw q (caseB (eqb e.token (token_in rows i))
      (λ y.
      let z = eqb-true e.token (token_in rows i) y in
      let n : is_among (token_in rows i) aborted ≡ false = ap (λ (t : ℕ). is_among t aborted) (sym z) ∙ in_last e.token (tokens_in es) aborted d.0 in
      rw y (aborts_off aborted (each_last Meets (tokens_in es) aborted m.1) n (completed_as e (row_in rows i))))
      (λ y. rw y ih))

-- a row that the reply names is settled
settled_named : (es : List Returned) (aborted : List ℕ) (r : Row) → is_among r.token (tokens_in es ++ aborted) ≡ true → is_settled (named_as es aborted r).state ≡ true
unfolding completed_row
settled_named [] aborted r e = rw e
settled_named (c ∷ cs) aborted r e =
    caseB (eqb c.token r.token) (λ y. rw y)
    (λ y. rw y (settled_named cs aborted r (or_right (eqb r.token c.token) _ (turned r.token c.token ∙ y) (sym (in_cons r.token c.token (tokens_in cs ++ aborted)) ∙ e))))

-- ---- the affected rows
module _ (d : DeviceId) (endpoint : ℕ) (rows : List Row) (few : count is_held rows ≤ 128) where
  abbrev own : List ℕ
  own = own_tokens d endpoint rows

  abbrev place : ℕ → ℕ
  place = place_meant d endpoint rows

  -- ---- every row, after a reply in scope
  module _ (different : Different d endpoint rows) (l : ReplyLists) (scope : in_scope true own (l.tokens ++ l.aborted) ≡ true) where
    abbrev es : List Returned
    es = returned_in l

    all_of_them : all_in own (l.tokens ++ l.aborted) ≡ true
    unfolding in_scope
    all_of_them = (both (each_once own [] (l.tokens ++ l.aborted)) (all_in own (l.tokens ++ l.aborted)) scope).1

    -- an affected row, by the tokens that mean it and by its own
    by_row : (i : ℕ) → i < length rows → is_affected d endpoint (row_in rows i) ≡ true
        → by_aborts place l.aborted i (by_completions place es i (row_in rows i)) ≡ named_as es l.aborted (row_in rows i)
    by_row i h a =
        row_named place rows i es l.aborted
        (scope_each own true l scope (Meets place rows i)
        (λ t e. (
          λ z. sym (own_token d endpoint rows t e) ∙ ap (token_in rows) z,
          λ z. different (place t) i (meant_below d endpoint rows t e) h (meant_affected d endpoint rows t e) a (own_token d endpoint rows t e ∙ z),
        )))
        (scope_distinct own true l scope)

    recovered_rows : (rows' : List Row) → Applied place rows rows' es l.aborted → Spares (λ (i : ℕ). is_affected d endpoint (row_in rows i)) rows rows'
        → Recovered d endpoint l rows rows'
    recovered_rows rows' k spares =
        let f : Row → Row = recovered_as d endpoint es l.aborted in
        let each : (i : ℕ) → i < length rows → row_in rows' i ≡ f (row_in rows i) = λ i h.
        caseB (is_affected d endpoint (row_in rows i)) (λ e. rw e (k.each i ∙ by_row i h e)) (λ e. rw e (spares.row i e)) in
        record {
          rows_are = ext_get_or empty_row rows' (map f rows) (k.size ∙ sym (length-map rows f))
              (λ i h. each i (omega (arith, h, k.size))
              ∙ sym (get_or-any (map f rows) i empty_row (f empty_row) (omega (arith, h, k.size, length-map rows f)) ∙ get_or-map f rows i empty_row));
          named = λ i h e. all_in_lem own (l.tokens ++ l.aborted) (token_in rows i) all_of_them (expected d endpoint rows few i h e);
          settled = λ i h e.
              ap (λ (r : Row). is_settled r.state) (each i h)
              ∙ rw e (settled_named es l.aborted (row_in rows i)
              (ap (is_among (token_in rows i)) (reply_tokens_lem l) ∙ all_in_lem own (l.tokens ++ l.aborted) (token_in rows i) all_of_them (expected d endpoint rows few i h e)));
        }

-- ---- the reply
pub no_report : (f : Refusal) (x : AbortReport) (A : Type 0) → Answer.Refused f ≡ Answer.Recovered x → A
no_report f x A e = let z : ◌≡◌ {A = ℕ} 0 1 = cc in absurd (omega arith)

-- what the claim says of a report
abbrev pub Settles : ReplyLists → List Row → List Row → AbortReport → Type 0
Settles l rows rows' x =
    x.restart_ready ≡ true → has_error x.error ≡ false → Different x.device x.endpoint rows → Recovered x.device x.endpoint l rows rows'

module _ (l : ReplyLists) (s : Session) (m : Memory) (x : AbortReport) where
  abbrev quiet : Session
  quiet = with_flight s InFlight.Nothing

  abbrev rows : List Row
  rows = m.store.rows

  module _ (few : count is_held rows ≤ 128) where
    abbrev Told : After Replied Memory → Type 0
    Told o = of_recovery o.result.answer ≡ Answer.Recovered x → Settles l rows o.lent.store.rows x

    whole_is : (a b : Bool) → a ≡ true → b ≡ false → (a && not b) ≡ true
    whole_is a b e f = rw (e, f)

    concluded_told : (y : Recovery) (o : BackendAbort) → in_scope (is_whole o) (own_tokens y.device y.endpoint rows) (l.tokens ++ l.aborted) ≡ true → (v : Result ⊤ Refusal)
        (done : After (Result ⊤ Refusal) Memory) → done ≡ apply_all s.size (place_meant y.device y.endpoint rows) l m → done.result ≡ v → (a b : ℕ) (places : List ℕ)
        → of_recovery (concluded_by v (ended quiet y o) (abort_report (ended quiet y o) a b) places done.lent.store.rows).answer ≡ Answer.Recovered x
        → Settles l rows done.lent.store.rows x
    unfolding concluded_by
    concluded_told y o sc (Err r) done ew ev a b places e = no_report r x _ e
    concluded_told y o sc (Ok tt) done ew ev a b places e =
        let q : abort_report (ended quiet y o) a b ≡ x = cc in
        subst (Settles l rows done.lent.store.rows) q
        (λ ready fine different.
        let whole = whole_is o.restart_ready (has_error o.error) ready fine in
        let own : List ℕ = own_tokens y.device y.endpoint rows in
        let place : ℕ → ℕ = place_meant y.device y.endpoint rows in
        let scope : in_scope true own (l.tokens ++ l.aborted) ≡ true = subst (λ (c : Bool). in_scope c own (l.tokens ++ l.aborted) ≡ true) whole sc in
        let k = applied_rows place s.size l m
        (scope_each own true l scope (Named place rows) (named_row y.device y.endpoint rows)) (scope_distinct own true l scope)
        (ap (λ (z : After (Result ⊤ Refusal) Memory). z.result) (sym ew) ∙ ev) in
        subst (λ (z : After (Result ⊤ Refusal) Memory). Recovered y.device y.endpoint l rows z.lent.store.rows) (sym ew)
        (recovered_rows y.device y.endpoint rows few different l scope _ k (scope_spares y.device y.endpoint m true s.size l scope)))

    pub recovered_told : (r : Result BackendAbort OperationError) → Told (recovery_reply_of r l s m)
    unfolding settled_of
    recovered_told r =
        recovery_all l s m Told (no_report _ x _) (no_report _ x _) (no_report _ x _) (λ e. no_report _ x _) (no_report _ x _)
        (λ y own o n. concluded_told y o n _ (apply_all s.size (place_meant y.device y.endpoint rows) l m) refl refl _ _ _) r

  -- ---- the report is of the operation that waited
  concluded_same : (y : Recovery) (o : BackendAbort) (v : Result ⊤ Refusal) (a b : ℕ) (places : List ℕ) (rows' : List Row)
      → of_recovery (concluded_by v (ended quiet y o) (abort_report (ended quiet y o) a b) places rows').answer ≡ Answer.Recovered x → ReportOf (InFlight.Recovery y) x
  unfolding concluded_by
  concluded_same y o (Err r) a b places rows' e = no_report r x _ e
  concluded_same y o (Ok tt) a b places rows' e =
      let q : abort_report (ended quiet y o) a b ≡ x = cc in
      subst (ReportOf (InFlight.Recovery y)) q (y.kind, refl)

  pub waited_told : (r : Result BackendAbort OperationError) → of_recovery (recovery_reply_of r l s m).result.answer ≡ Answer.Recovered x → ReportOf s.in_flight x
  unfolding settled_of
  waited_told r =
      recovery_all l s m (λ (o : After Replied Memory). of_recovery o.result.answer ≡ Answer.Recovered x → ReportOf s.in_flight x)
      (no_report _ x _) (no_report _ x _) (no_report _ x _) (λ e. no_report _ x _) (no_report _ x _)
      (λ y own o n e. subst (λ (f : InFlight). ReportOf f x) (sym own) (concluded_same y o _ _ _ _ _ e)) r
