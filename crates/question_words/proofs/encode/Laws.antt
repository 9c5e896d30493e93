-- Laws of answers to questions as words. Assumes nothing.
use Rattle.std.specs.Prelude.{Option, Some}
use Prim.Native.Nat.{ℕ, ◌≤◌}
use mathlib.Core.List.{List, [], ◌∷◌}
use mathlib.Core.Path.{◌≡◌, ◌∙◌}
use native.Mathlib.Omega.{arith}
use lib.ListN.{length, take, drop, replicate}
use Rattle.words.specs.Records.{splice}
use Rattle.models.specs.declared.{Refusal.Refusal, RequestReport.RequestReport}
use Rattle.targets.specs.declared.{wants.Wanted.Wanted}
use Rattle.session.specs.declared.{Session.Session}
use Rattle.session_words.specs.State.{session_words}
use Rattle.calls.specs.declared.{Answer.Answer}
use Rattle.answer_words.specs.Encode.{report_words, answer_words, written}
use Rattle.questions.specs.declared.{QuestionAnswer.QuestionAnswer}
use Rattle.question_words.specs.Encode.{session_status_words, placed_words, wanted_words, question_words}

-- parts of words, put one behind the other
module _ (own rest w₁ w : List ℕ) where
  pub status_exact : (s : Session) (w₂ : List ℕ) → own ≡ session_words s → rest ≡ drop 24 own → w₁ ≡ splice 0 (take 1 (11 ∷ [])) (replicate 19 0)
      → w₂ ≡ splice 1 (take 16 own) w₁ → w ≡ splice 17 (take 2 rest) w₂ → w ≡ session_status_words s
  unfolding session_status_words session_words splice
  status_exact s w₂ eo er e₁ e₂ e = e ∙ rw (e₂, e₁, er, eo)

  pub placed_exact : (place : ℕ) (x : RequestReport) → own ≡ report_words x → rest ≡ drop 1 own → w₁ ≡ splice 0 (take 2 (12 ∷ place ∷ [])) (replicate 27 0)
      → w ≡ splice 2 (take 25 rest) w₁ → w ≡ placed_words place x
  unfolding placed_words report_words splice
  placed_exact place x eo er e₁ e = e ∙ rw (e₁, er, eo)

-- there are as many as are copied
pub status_room : (own rest : List ℕ) (s : Session) → own ≡ session_words s → rest ≡ drop 24 own → 2 ≤ length rest
unfolding session_words
status_room own rest s eo er = rw (er, eo) (omega arith)

pub placed_room : (own rest : List ℕ) (x : RequestReport) → own ≡ report_words x → rest ≡ drop 1 own → 25 ≤ length rest
unfolding report_words
placed_room own rest x eo er = rw (er, eo) (omega arith)

pub first_exact : (x : Option Wanted) (n : ℕ) → x ≡ Some (Wanted.First n) → 13 ∷ 1 ∷ n ∷ [] ≡ wanted_words x
first_exact x n e = rw e

pub second_exact : (x : Option Wanted) (n : ℕ) → x ≡ Some (Wanted.Second n) → 13 ∷ 2 ∷ n ∷ [] ≡ wanted_words x
second_exact x n e = rw e

-- an answer's words are put
module _ (a : QuestionAnswer) (out after : List ℕ) where
  pub question_put : (b : QuestionAnswer) (w : List ℕ) → a ≡ b → w ≡ question_words b → after ≡ written w out → after ≡ written (question_words a) out
  question_put b w ea ew e = e ∙ rw (ew, ea)

  pub refused_put : (r : Refusal) → a ≡ QuestionAnswer.Refused r → after ≡ written (answer_words (Answer.Refused r)) out → after ≡ written (question_words a) out
  refused_put r ea e = e ∙ rw ea

  pub none_put : a ≡ QuestionAnswer.NoReport → after ≡ written (answer_words Answer.NoReport) out → after ≡ written (question_words a) out
  none_put ea e = e ∙ rw ea
