-- One law for each call that leaves all as it is, calls 16 to 21: its premises are the facts in hand there. Assumes nothing.
use Rattle.std.specs.Prelude.{Option, Result}
use Prim.Native.Nat.{ℕ}
use mathlib.Core.Bool.{true}
use mathlib.Core.List.{List, []}
use mathlib.Core.Path.{◌≡◌, refl, sym, ap, ◌∙◌}
use lib.ListN.{length}
use Rattle.chain.specs.After.{after}
use Rattle.chain.proofs.Chain.{chain}
use Rattle.models.specs.Values.{read_request_id}
use Rattle.models.specs.declared.{Refusal.Refusal, RequestId.RequestId, RequestReport.RequestReport}
use Rattle.rows.specs.Store.{Store}
use Rattle.bus.specs.Tables.{Bus}
use Rattle.session.specs.Lent.{memory, lent}
use Rattle.session.specs.declared.{Session.Session}
use Rattle.reports.specs.Status.{status_of, next_of, shown_count, completed_part, held_count_of, tally_of, held_bytes_of}
use Rattle.calls.specs.Answers.{outcome, of_report, of_next, of_tally, of_part}
use Rattle.call_words.specs.Arguments.{read_option_id}
use Rattle.calls.specs.Calls.{Reading, Status, Reports, CountReports, CompletedBytes, HeldCount, HeldBytes, Read}
use Rattle.session_words.specs.State.{read_session, is_session, kept_of}
use Rattle.session_words.proofs.Own.{written_same}
use Rattle.calls.specs.Step.{World, world, reads, read_of, step_of}
use Rattle.calls.specs.declared.{Answer.Answer}
use Rattle.call_words.specs.Decode.{read_reporting}
use Rattle.answer_words.specs.Encode.{answer_words, written}
use Rattle.answer_words.specs.Lists.{lists_of}
use Rattle.direct.specs.Direct.{told}
use Rattle.dispatch.specs.Apply.{buffers, ran_on}
use Rattle.dispatch.proofs.Dispatch.{reporting_none}
use Rattle.dispatch.proofs.Steps.{said, ran_kept}
use Rattle.reports.specs.declared.{Part.Part}

module _ (n : ℕ) (s : Session) (store : Store) (area w : List ℕ) where
  abbrev handed : Bus → World
  handed b = world s (lent b (memory store area))

  abbrev Steps : Answer → Type 0
  Steps r = (b : Bus) → after (outcome r s) (lent b (memory store area)) ≡ step_of (read_reporting n w) (handed b)

  -- of the call c, which answers as r
  by : (c : Reading) (r : Answer) → Read c ≡ read_reporting n w → ((b : Bus) → r ≡ read_of c (handed b)) → Steps r
  unfolding step_of
  by c r e h b = said (Read c) (read_reporting n w) (handed b) _ e (ap (λ (z : Answer). reads z (handed b)) (h b))

  module _ (n16 : n ≡ 16 → ⊥) where
    pub reports_step : (r : Answer) (x : Result (Option RequestReport) Refusal) (from : Option RequestId) → from ≡ read_option_id w → n ≡ 17 → r ≡ of_next x → x ≡ next_of from s store → Steps r
    unfolding read_of read_reporting
    reports_step r x from ei e er h = by (Reports from) r (search (chain, ap (λ (z : Option RequestId). Read (Reports z)) ei) depth 20) (λ b. er ∙ ap of_next h)

    module _ (n17 : n ≡ 17 → ⊥) where
      pub count_step : (r : Answer) (x : Result ℕ Refusal) → n ≡ 18 → r ≡ of_tally x → x ≡ shown_count s store → Steps r
      unfolding read_of read_reporting
      count_step r x e er h = by CountReports r (search chain depth 20) (λ b. er ∙ ap of_tally h)

      module _ (n18 : n ≡ 18 → ⊥) where
        pub bytes_step : (r : Answer) (x : Result Part Refusal) (id : RequestId) → id ≡ read_request_id w 1 → n ≡ 19 → r ≡ of_part x
            → x ≡ completed_part id (length area) s store → Steps r
        unfolding read_of read_reporting
        bytes_step r x id ei e er h =
            by (CompletedBytes id) r (search (chain, ap (λ (z : RequestId). Read (CompletedBytes z)) ei) depth 20) (λ b. er ∙ ap of_part h)

        module _ (n19 : n ≡ 19 → ⊥) (r : Answer) (x : Result ℕ Refusal) (er : r ≡ of_tally x) where
          pub held_count_step : (y : Result ℕ Refusal) → n ≡ 20 → y ≡ held_count_of s store → x ≡ tally_of y → Steps r
          unfolding read_of read_reporting
          held_count_step y e h hx = by HeldCount r (search chain depth 20) (λ b. er ∙ ap of_tally (hx ∙ ap tally_of h))

          pub held_bytes_step : (n ≡ 20 → ⊥) → x ≡ held_bytes_of s store → Steps r
          unfolding read_of read_reporting
          held_bytes_step n20 h = by HeldBytes r (search chain depth 20) (λ b. er ∙ ap of_tally h)

-- in place: s are the session's words
module _ (n : ℕ) (s w out after-out area : List ℕ) (store : Store) (own : is_session s ≡ true) where
  abbrev Writes : Type 0
  Writes =
      (b : Bus) (l : List ℕ) → buffers (kept_of s) (lent b (memory store area)) after-out l
      ≡ ran_on (read_reporting n w) (buffers (kept_of s) (lent b (memory store area)) out l)

  pub status_writes : (id : RequestId) → id ≡ read_request_id w 1 → n ≡ 16 → after-out ≡ told (of_report (status_of id (read_session s) store)) out → Writes
  unfolding step_of read_of read_reporting lists_of
  status_writes id ei e eo b l =
      let a = lent b (memory store area) in
      ran_kept (Read (Status id)) (read_reporting n w) s out after-out l a a (kept_of s) (outcome (of_report (status_of id (read_session s) store)) (read_session s))
      (search (chain, ap (λ (z : RequestId). Read (Status z)) ei) depth 20) refl refl (sym (written_same s own)) eo

  pub answer_writes : (v : Session) (r : Answer) → v ≡ read_session s
      → ((b : Bus) → after (outcome r v) (lent b (memory store area)) ≡ step_of (read_reporting n w) (world v (lent b (memory store area))))
      → after-out ≡ written (answer_words r) out → Writes
  answer_writes v r ev h eo b l =
      let a = lent b (memory store area) in
      let c = read_reporting n w in
      ran_kept c c s out after-out l a a (kept_of s) (outcome r (read_session s)) refl (reporting_none n w [] (world (read_session s) a)) (rw ev at (h b))
      (sym (written_same s own)) eo
