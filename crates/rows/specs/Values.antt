-- A request's report as words. Assumes nothing.
use Rattle.std.specs.Prelude.{ℕ, List, [], ◌∷◌, ◌++◌}
use Rattle.words.specs.Words.{flag_word}
use Rattle.models.specs.Values.{request_id_words, metadata_tail}
use Rattle.models.specs.declared.{RequestReport.RequestReport}
use Rattle.rows.specs.Codec.{state_words}
use Rattle.rows.specs.declared.{codec.StateWords.StateWords}

abbrev pub state_tail : StateWords → List ℕ → List ℕ
state_tail s rest = s.tag ∷ s.a ∷ s.b ∷ s.c ∷ s.d ∷ s.e ∷ s.f ∷ rest

-- id, metadata, state, and whether it was cancelled and timed out
abbrev pub report_values : RequestReport → List ℕ
report_values x =
    request_id_words x.id ++ metadata_tail x.metadata (state_tail (state_words x.state) (flag_word x.logical_cancel ∷ flag_word x.timed_out ∷ []))
