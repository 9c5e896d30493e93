-- Laws of a line as text. Assumes nothing.
use Prim.Native.Nat.{ℕ, ◌+◌, ◌≤◌}
use mathlib.Core.Path.{◌≡◌}
use mathlib.Core.List.{List, [], ◌∷◌, ◌++◌, append_assoc}
use native.Mathlib.Omega.{arith}
use lib.ListN.{length, length-append}
use Rattle.chain.specs.After.{after}
use Rattle.decimal.specs.Text.{decimal, space, newline, appended}
use Rattle.decimal.proofs.Appended.{appended_then}
use Rattle.decimal.proofs.Decimal.{decimal_most}
use Rattle.lines.specs.Lines.{line_room, line_text}
use Rattle.lines.specs.declared.{Line.Line}

-- a line is its numbers, each with the character after it, and its letter
line_fields : (x : Line) → line_text x ≡ (decimal x.index ++ (space ∷ [])) ++ ((decimal x.refusal ++ (space ∷ [])) ++ ((x.letter ∷ []) ++ ((space ∷ [])
    ++ (decimal x.held ++ (newline ∷ [])))))
unfolding line_text
line_fields x = simp append_assoc

-- a line has room
pub line_text_length : (x : Line) → length (line_text x) ≤ line_room
unfolding line_text
line_text_length x =
    simp length-append (omega (arith, decimal_most x.index, decimal_most x.refusal, decimal_most x.held))

-- a line's parts that are appended one after the other are the line
pub line_put : (x : Line) (at a b c d e : ℕ) (l l1 l2 l3 l4 l5 : List ℕ) → at + line_room ≤ length l
    → after a l1 ≡ appended (decimal x.index ++ (space ∷ [])) at l → after b l2 ≡ appended (decimal x.refusal ++ (space ∷ [])) a l1
    → after c l3 ≡ appended (x.letter ∷ []) b l2 → after d l4 ≡ appended (space ∷ []) c l3
    → after e l5 ≡ appended (decimal x.held ++ (newline ∷ [])) d l4 → after e l5 ≡ appended (line_text x) at l
line_put x at a b c d e l l1 l2 l3 l4 l5 fits p1 p2 p3 p4 p5 =
    let t = line_fields x in
    let h : at + length (line_text x) ≤ length l = omega (arith, line_text_length x) in
    rw t
    (appended_then _ _ _ _ _ p1 _ _ _ (rw t at h)
    (λ n. appended_then _ _ _ _ _ p2 _ _ _ n
    (λ n. appended_then _ _ _ _ _ p3 _ _ _ n
    (λ n. appended_then _ _ _ _ _ p4 _ _ _ n (λ n. p5)))))
