-- Laws of the text of a line. Assumes nothing.
use Rattle.std.specs.Prelude.{Option}
use Rattle.std.proofs.Common.{◌≡◌, ℕ, zero, suc, ◌+◌, ◌-◌, ◌<◌, ◌≤◌, List, [], ◌∷◌, ◌++◌, refl, sym, ap, ◌∙◌, arith, append_assoc, append-nil, get_or, subst, Result, Ok, Err, OnOk}
use Rattle.std.specs.declared.option.Option.{Option}
use Rattle.std.specs.Io.KnownBytes.{Appends}
use Rattle.std.proofs.KnownBytes.{Appends-trans}
use Rattle.std.specs.Fmt.{decimal}
use Rattle.words.specs.Records.{tab}
use Rattle.texts.specs.Lines.{numbers_text, numbered_line, words_between}

-- one more number comes last
pub numbers_more : (a : List ℕ) (n : ℕ) → numbers_text (a ++ (n ∷ [])) ≡ numbers_text a ++ (32 ∷ decimal n)
numbers_more [] n = append-nil (32 ∷ decimal n)
numbers_more (x ∷ a) n = ap (λ l. (32 ∷ decimal x) ++ l) (numbers_more a n) ∙ sym (append_assoc (32 ∷ decimal x) (numbers_text a) (32 ∷ decimal n))

tab_more : (f : ℕ → ℕ) (n : ℕ) → tab f (suc n) ≡ tab f n ++ (f n ∷ [])
tab_more f zero = refl
tab_more f (suc n) = ap (λ l. f zero ∷ l) (tab_more (λ k. f (suc k)) n)

-- one more word comes last
pub words_more : (w : List ℕ) (from i : ℕ) → from ≤ i → words_between w from (i + 1) ≡ words_between w from i ++ (get_or w i 0 ∷ [])
words_more w from i h =
    let e : (i + 1) - from ≡ suc (i - from) = omega arith in
    let at : from + (i - from) ≡ i = omega arith in
    ap (tab (λ k. get_or w (from + k) 0)) e ∙ tab_more (λ k. get_or w (from + k) 0) (i - from)
    ∙ ap (λ j. words_between w from i ++ (get_or w j 0 ∷ [])) at

-- the words up to where a loop ended are those up to its end
pub words_all : (w : List ℕ) (from to i : ℕ) → to ≤ i → (from ≤ to → i ≤ to) → (to < from → i ≡ from) → words_between w from i ≡ words_between w from to
words_all w from to i past most none =
    let e : i - from ≡ to - from = grind arith in
    ap (tab (λ k. get_or w (from + k) 0)) e

-- what was written, and one number more
pub number_written : (a b c : Option (List ℕ)) (ns : List ℕ) (m n : ℕ) → m ≡ n → Appends a b (numbers_text ns) → Appends b c (32 ∷ decimal m) → Appends a c (numbers_text (ns ++ (n ∷ [])))
number_written a b c ns m n e p q =
    subst (Appends a c) (ap (λ k. numbers_text ns ++ (32 ∷ decimal k)) e ∙ sym (numbers_more ns n)) (Appends-trans a b c _ _ p q)

-- a name, numbers and the line's end
pub line_written : {E : Type 0} (a b c d : Option (List ℕ)) (name ms ns : List ℕ) (r : Result (Unit {0}) E)
    → ms ≡ ns → Appends a b name → Appends b c (numbers_text ms) → OnOk r (Appends c d (10 ∷ [])) → OnOk r (Appends a d (numbered_line name ns))
line_written a b c d name ms ns (Ok x) e p q t =
    subst (Appends a d) (ap (numbered_line name) e) (Appends-trans a b d name _ p (Appends-trans b c d _ _ q t))
line_written a b c d name ms ns (Err x) e p q t = t
