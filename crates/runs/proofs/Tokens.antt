-- The tokens that a reply returns, and what holds of each of those in scope. Assumes nothing.
use Prim.Native.Nat.{ℕ}
use mathlib.Core.Path.{◌≡◌, refl, sym, ap, ◌∙◌}
use mathlib.Core.Bool.{Bool, true, false, not, ◌||◌, true≢false}
use mathlib.Core.List.{List, [], ◌∷◌, ◌++◌, map}
use borrow.Author.Tests.{eqb-true, not-true}
use lib.ListN.{length}
use lib.Dec.{eqb}
use Rattle.chain.specs.Lists.{is_among, all_in}
use Rattle.chain.proofs.Chain.{caseB, both, and3}
use Rattle.chain.proofs.Lists.{in_cons, in_head}
use Rattle.words.proofs.Records.{map-tab, tab_list}
use Rattle.scope.specs.Returned.{Returned, returned_at, read_returned}
use Rattle.scope.specs.Scope.{each_once, in_scope}
use Rattle.recovery.specs.RecoveryReply.{ReplyLists}

abbrev pub tokens_in : List Returned → List ℕ
tokens_in es = map (λ (e : Returned). e.token) es

-- what a reply completes, and the tokens of all that it names
abbrev pub returned_in : ReplyLists → List Returned
returned_in l = read_returned l.tokens l.completions

abbrev pub reply_tokens : ReplyLists → List ℕ
reply_tokens l = tokens_in (returned_in l) ++ l.aborted

pub reply_tokens_lem : (l : ReplyLists) → reply_tokens l ≡ l.tokens ++ l.aborted
unfolding read_returned
reply_tokens_lem l =
    ap (λ (ts : List ℕ). ts ++ l.aborted)
    (map-tab (λ (e : Returned). e.token) (returned_at l.tokens l.completions) (length l.tokens) ∙ tab_list l.tokens 0)

abbrev pub Each : (ℕ → Type 0) → List ℕ → Type 0
Each P [] = Unit {0}
Each P (t ∷ ts) = P t × Each P ts

abbrev pub Distinct : List ℕ → Type 0
Distinct [] = Unit {0}
Distinct (t ∷ ts) = (is_among t ts ≡ false) × Distinct ts

pub each_first : (P : ℕ → Type 0) (ts us : List ℕ) → Each P (ts ++ us) → Each P ts
each_first P [] us a = tt
each_first P (t ∷ ts) us a = (a.0, each_first P ts us a.1)

pub each_last : (P : ℕ → Type 0) (ts us : List ℕ) → Each P (ts ++ us) → Each P us
each_last P [] us a = a
each_last P (t ∷ ts) us a = each_last P ts us a.1

pub distinct_last : (ts us : List ℕ) → Distinct (ts ++ us) → Distinct us
distinct_last [] us d = d
distinct_last (t ∷ ts) us d = distinct_last ts us d.1

-- ---- in scope: each is expected, and came not before
module _ (own : List ℕ) where
  each_own : (P : ℕ → Type 0) → ((t : ℕ) → is_among t own ≡ true → P t) → (ts l : List ℕ) → each_once own l ts ≡ true → Each P ts
  each_own P h [] l e = tt
  each_own P h (t ∷ ts) l e =
      let p = and3 (is_among t own) (not (is_among t l)) (each_once own (t ∷ l) ts) e in
      (h t p.0, each_own P h ts (t ∷ l) p.2)

  apart : (ts l : List ℕ) (u : ℕ) → each_once own l ts ≡ true → is_among u l ≡ true → is_among u ts ≡ false
  apart [] l u e i = refl
  apart (t ∷ ts) l u e i =
      let p = and3 (is_among t own) (not (is_among t l)) (each_once own (t ∷ l) ts) e in
      let n : eqb u t ≡ false = caseB (eqb u t)
      (λ y. let z = eqb-true u t y in absurd (true≢false (sym i ∙ ap (λ (x : ℕ). is_among x l) z ∙ not-true (is_among t l) p.1)))
      (λ y. y) in
      let later : is_among u (t ∷ l) ≡ true = in_cons u t l ∙ rw (n, i) in
      in_cons u t ts ∙ rw n (apart ts (t ∷ l) u p.2 later)

  each_apart : (ts l : List ℕ) → each_once own l ts ≡ true → Distinct ts
  each_apart [] l e = tt
  each_apart (t ∷ ts) l e =
      let p = and3 (is_among t own) (not (is_among t l)) (each_once own (t ∷ l) ts) e in
      (apart ts (t ∷ l) t p.2 (in_head t l), each_apart ts (t ∷ l) p.2)

  module _ (whole : Bool) (l : ReplyLists) (scope : in_scope whole own (l.tokens ++ l.aborted) ≡ true) where
    once : each_once own [] (reply_tokens l) ≡ true
    unfolding in_scope
    once = let e = reply_tokens_lem l in rw e (both (each_once own [] (l.tokens ++ l.aborted)) (not whole || all_in own (l.tokens ++ l.aborted)) scope).0

    pub scope_each : (P : ℕ → Type 0) → ((t : ℕ) → is_among t own ≡ true → P t) → Each P (reply_tokens l)
    scope_each P h = each_own P h (reply_tokens l) [] once

    pub scope_distinct : Distinct (reply_tokens l)
    scope_distinct = each_apart (reply_tokens l) [] once
