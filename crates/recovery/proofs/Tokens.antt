-- The rows that tokens mean: their places, and the entries at them. Assumes nothing.
use Rattle.std.specs.Prelude.{Result, Ok, Err, ⊤}
use Prim.Native.Nat.{ℕ, ◌+◌, ◌<◌, ◌≤◌}
use mathlib.Core.Bool.{true}
use mathlib.Core.List.{List, [], ◌∷◌, ◌++◌, map, map-append}
use mathlib.Core.Path.{◌≡◌, refl, sym, ap, ◌∙◌}
use native.Mathlib.Omega.{arith}
use lib.ListN.{length, get_or, take, drop, length-map, length-append, get_or-map}
use lib.Seq.{take_at, drop_at}
use Rattle.chain.specs.After.{After, after}
use Rattle.chain.specs.Lists.{listed}
use Rattle.chain.proofs.Listed.{listed-take}
use Rattle.chain.proofs.Lists.{get_or-any}
use Rattle.words.proofs.Records.{map-tab, tab_same}
use Rattle.rows.specs.Table.{read_rows}
use Rattle.rows.specs.Store.{Store, store_of}
use Rattle.session.specs.Lent.{Memory, memory}
use Rattle.session.specs.declared.{Size.Size}
use Rattle.scope.specs.Scope.{meant}
use Rattle.scope.specs.Returned.{brought_at, Returned, returned_at, read_returned, lists_agree}
use Rattle.recovery.specs.Entries.{complete_one, abort_one, onward_by, itself, complete_all, abort_all}
use Rattle.recovery.specs.Places.{Below, Places}
use Rattle.recovery.specs.RecoveryReply.{reply_lists, apply_all, abort_report, concluded_by, settled_of}
use Rattle.recovery.specs.declared.{AbortReport.AbortReport, Replied.Replied, recovery_reply.Ended.Ended}
use Rattle.recovery.proofs.entries.Laws.{meant_in}
use Rattle.models.specs.declared.{Refusal.Refusal}

onward_same : {L : Type 0} (v : Result ⊤ Refusal) (o : After (Result ⊤ Refusal) L) (f g : L → After (Result ⊤ Refusal) L) → ((l : L) → f l ≡ g l) → onward_by v o f ≡ onward_by v o g
onward_same (Err r) o f g h = refl
onward_same (Ok tt) o f g h = h o.lent

module _ (place : ℕ → ℕ) where
  map_at_lem : (l : List ℕ) (k : ℕ) → k < length l → get_or (map place l) k 0 ≡ place (get_or l k 0)
  map_at_lem l k h = get_or-any (map place l) k 0 (place 0) (omega (arith, length-map l place)) ∙ get_or-map place l k 0

  -- what a token's row is brought
  abbrev row_meant : Returned → Returned
  row_meant e = record { token = place e.token; brought = e.brought }

  entries_meant : (tokens words : List ℕ) → read_returned (map place tokens) words ≡ map row_meant (read_returned tokens words)
  unfolding read_returned
  entries_meant tokens words =
      rw (length-map tokens place, map-tab row_meant (returned_at tokens words) (length tokens))
      (tab_same (λ (k : ℕ). row_meant (returned_at tokens words k)) (returned_at (map place tokens) words) (length tokens)
      (λ k h. ap (λ (i : ℕ). record { token = i; brought = brought_at words k }) (map_at_lem tokens k h)))

  completions_meant : (z : Size) (es : List Returned) (bytes : List ℕ) (m : Memory) → complete_all z itself (map row_meant es) bytes m ≡ complete_all z place es bytes m
  completions_meant z [] bytes m = refl
  completions_meant z (e ∷ es) bytes m =
      let one : After (Result ⊤ Refusal) Memory = complete_one z (place e.token) e.brought.completion (take e.brought.given bytes) m in
      onward_same one.result one _ _ (λ left. completions_meant z es (drop e.brought.given bytes) left)

  aborts_meant : (ts : List ℕ) (s : Store) → abort_all itself (map place ts) s ≡ abort_all place ts s
  aborts_meant [] s = refl
  aborts_meant (t ∷ ts) s = onward_same (abort_one (place t) s).result (abort_one (place t) s) _ _ (λ left. aborts_meant ts left)

  -- so the entries at the places are those of the tokens
  apply_meant : (z : Size) (a words b bytes : List ℕ) (m : Memory)
      → apply_all z itself (reply_lists (map place a) words (map place b) bytes) m ≡ apply_all z place (reply_lists a words b bytes) m
  unfolding apply_all
  apply_meant z a words b bytes m =
      let done : After (Result ⊤ Refusal) Memory = complete_all z place (read_returned a words) bytes m in
      rw (entries_meant a words, completions_meant z (read_returned a words) bytes m)
      (onward_same done.result done _ _ (λ left. ap (λ (x : After (Result ⊤ Refusal) Store). after x.result (memory x.lent left.area)) (aborts_meant b left.store)))

-- ---- the places in a fixed list: those of the tokens a, then those of b
module _ (affected own a b list : List ℕ) (e : list ≡ listed 128 0 (map (meant affected own) (a ++ b))) (few : length a + length b ≤ 128) where
  abbrev meant_by : List ℕ → List ℕ
  meant_by l = map (meant affected own) l

  meant_below : (w l : List ℕ) → Below w affected → Below w (meant_by l)
  meant_below w l h = record { some = h.some; inside = λ k lt. inside k (omega (arith, lt, length-map l (meant affected own))) }
    where
      inside : (k : ℕ) → k < length l → get_or (meant_by l) k 0 < length (read_rows w)
      inside k lt = meant_in w affected own (get_or l k 0) (get_or (meant_by l) k 0) h (map_at_lem (meant affected own) l k lt)

  module _ (n end : ℕ) (en : n ≡ length a) (ed : end ≡ n + length b) where
    count_is : length (meant_by a) ≡ n
    count_is = length-map a (meant affected own) ∙ sym en

    both_are : take end list ≡ meant_by a ++ meant_by b
    both_are =
        let z : end ≡ length (meant_by (a ++ b)) = omega (arith, length-map (a ++ b) (meant affected own), length-append a b) in
        rw e (listed-take 128 0 (meant_by (a ++ b)) end z (omega arith)) ∙ map-append (meant affected own) a b

    pub first_in : n ≤ length (take end list)
    first_in = rw both_are (omega (arith, length-append (meant_by a) (meant_by b), count_is))

    first_is : take n (take end list) ≡ meant_by a
    first_is = rw both_are (take_at (meant_by a) (meant_by b) n count_is)

    rest_is : drop n (take end list) ≡ meant_by b
    rest_is = rw both_are (drop_at (meant_by a) (meant_by b) n count_is)

    module _ (z : Size) (w area : List ℕ) (p : Places z w area affected) where
      pub done_places : Places z w area (take n (take end list))
      done_places = record { fit = p.fit; below = rw first_is (meant_below w a p.below) }

      pub gone_below : Below w (drop n (take end list))
      gone_below = rw rest_is (meant_below w b p.below)

    pub done_agree : (words : List ℕ) (size : ℕ) → lists_agree (length a) words size ≡ true → lists_agree (length (take n (take end list))) words size ≡ true
    done_agree words size f = rw (first_is, length-map a (meant affected own)) f

    -- the entries at these places, then the session and the report
    pub settled_is : (x : Ended) (words bytes : List ℕ) (m : Memory) (report : AbortReport) (v : Result ⊤ Refusal) (w₁ area₁ : List ℕ) (y : Replied)
        → report ≡ abort_report x n (length b)
        → after v (memory (store_of w₁) area₁) ≡ apply_all x.idle.size itself (reply_lists (take n (take end list)) words (drop n (take end list)) bytes) m
        → y ≡ concluded_by v x report list (read_rows w₁)
        → after y (memory (store_of w₁) area₁) ≡ settled_of x (meant affected own) (reply_lists a words b bytes) m
    unfolding store_of settled_of
    settled_is x words bytes m report v w₁ area₁ y er ev ey =
        let done : after v (memory (store_of w₁) area₁) ≡ apply_all x.idle.size (meant affected own) (reply_lists a words b bytes) m =
        ev ∙ rw (first_is, rest_is) (apply_meant (meant affected own) x.idle.size a words b bytes m) in
        rw (← done, ← e, ← en) (rw (ey, er))
