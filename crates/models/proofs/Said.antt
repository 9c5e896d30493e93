-- Laws of `Tabled`: of an answer and of a refusal, of a chain, of a longer list, and of what equals its definition. Assumes nothing.
use Rattle.std.specs.Prelude.{Option, Result, ⊤}
use Prim.Native.Nat.{ℕ}
use mathlib.Core.Bool.{Bool, true, false, not, ◌&&◌, ◌||◌, false≢true}
use mathlib.Core.List.{List, [], ◌∷◌}
use mathlib.Core.Path.{◌≡◌, refl, sym, subst, ◌∙◌}
use borrow.Author.Tests.{eq-eqb, eqb-true}
use lib.Dec.{eqb}
use Rattle.chain.specs.Chain.{◌if◌else◌}
use Rattle.chain.specs.Lists.{is_among, all_in}
use Rattle.chain.proofs.Chain.{caseB, both, if_all}
use Rattle.chain.proofs.Lists.{all_in_lem, in_cons}
use Rattle.words.specs.Words.{option_u32_word}
use Rattle.models.specs.Codes.{category_word}
use Rattle.models.specs.Refusals.{table_category, refusal_of, rejected, from_backend, invalid_completion}
use Rattle.models.specs.Said.{Said, says, refused, verdict_said, is_table_error, Tabled}
use Rattle.models.specs.Values.{error_words}
use Rattle.models.specs.declared.{OperationError.OperationError, Refusal.Refusal}

or_true : (a : Bool) → (a || true) ≡ true
or_true true = refl
or_true false = refl

-- the table's category, the number, no system number, and the code k
table_error : (n k : ℕ) → (eqb n 48 || eqb k 0) ≡ true → is_table_error n (category_word (table_category n) ∷ n ∷ 0 ∷ k ∷ []) ≡ true
table_error n k e =
    let c : ℕ = category_word (table_category n) in
    if_all (λ (b : Bool). b ≡ true) true (eqb n 33 || eqb n 45) (eqb c c && eqb n n && eqb 0 0 && (eqb n 48 || eqb k 0)) refl
    (rw (eq-eqb c c refl, eq-eqb n n refl, e))

module _ (ns : List ℕ) where
  pub tabled_says : (values : List ℕ) → Tabled ns (says values)
  unfolding Tabled
  tabled_says values = refl

  listed : (n : ℕ) (values : List ℕ) → is_among n ns ≡ true → is_table_error n values ≡ true → Tabled ns (record { is_refused = true; number = n; values = values })
  unfolding Tabled
  listed n values e f = rw (e, f)

  pub tabled_own : (n : ℕ) → is_among n ns ≡ true → Tabled ns (refused (refusal_of n))
  tabled_own n e = listed n _ e (table_error n 0 (or_true (eqb n 48)))

  pub tabled_backend : (n : ℕ) (x : OperationError) → (eqb n 33 || eqb n 45) ≡ true → is_among n ns ≡ true → Tabled ns (refused (from_backend n x))
  unfolding ◌if◌else◌
  tabled_backend n x b e = listed n _ e (rw b refl)

  pub tabled_code : (code : Option ℕ) → is_among 48 ns ≡ true → Tabled ns (refused (invalid_completion code))
  tabled_code code e = listed 48 _ e (table_error 48 (option_u32_word code) refl)

  pub tabled_stop : (n : ℕ) → is_among n ns ≡ true → (t : Bool) (p : Result ⊤ Refusal) → Tabled ns (verdict_said p) → Tabled ns (verdict_said (rejected n if t else p))
  tabled_stop n e t p h = if_all (λ (v : Result ⊤ Refusal). Tabled ns (verdict_said v)) (rejected n) t p (tabled_own n e) h

within : (ms ns : List ℕ) → all_in ns ms ≡ true → (r : Bool) (n : ℕ) (b : Bool) → (not r || is_among n ns && b) ≡ true → (not r || is_among n ms && b) ≡ true
within ms ns a true n b e = let p = both (is_among n ns) b e in rw (all_in_lem ns ms n a p.0, p.1)
within ms ns a false n b e = refl

pub tabled_in : (ms ns : List ℕ) → all_in ns ms ≡ true → (x : Said) → Tabled ns x → Tabled ms x
unfolding Tabled
tabled_in ms ns a x h = within ms ns a x.is_refused x.number (is_table_error x.number x.values) h

-- what holds of a definition holds of what equals it
pub said_of : {A : Type 0} (P : A → Type 0) (x y : A) → x ≡ y → P y → (x ≡ y) × P x
said_of P x y e h = (e, subst P (sym e) h)

-- what every number of a list passes, a refusal by one of them passes
abbrev pub every : (ℕ → Bool) → List ℕ → Bool
every p [] = true
every p (n ∷ ns) = p n && every p ns

passes : (p : ℕ → Bool) (ns : List ℕ) (n : ℕ) → every p ns ≡ true → is_among n ns ≡ true → p n ≡ true
passes p [] n a e = absurd (false≢true e)
passes p (m ∷ ms) n a e =
    let k = both (p m) (every p ms) a in
    let o : (eqb n m || is_among n ms) ≡ true = sym (in_cons n m ms) ∙ e in
    caseB (eqb n m) (λ y. subst (λ (x : ℕ). p x ≡ true) (sym (eqb-true n m y)) k.0) (λ y. passes p ms n k.1 (rw y at o))

pub tabled_number : (p : ℕ → Bool) (ns : List ℕ) → every p ns ≡ true → (r : Refusal) → Tabled ns (refused r) → p r.number ≡ true
unfolding Tabled
tabled_number p ns a r h = passes p ns r.number a (both (is_among r.number ns) (is_table_error r.number (error_words r.error)) h).0
