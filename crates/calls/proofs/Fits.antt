-- A value whose numbers are in the range of their types is what its words say. Assumes nothing.
use Rattle.std.specs.Prelude.{ℕ, Option, Some, None}
use mathlib.Core.Path.{◌≡◌, refl, ap}
use Rattle.words.specs.Words.{option_u32_word, read_option_u32}
use Rattle.words.proofs.Options.{low, option_u32_back}
use Rattle.words.proofs.Signed.{option_i32_says}
use Rattle.models.specs.Values.{setup_words, error_words, option_error_words, read_error, read_option_error}
use Rattle.models.specs.declared.{OperationError.OperationError, SetupPacket.SetupPacket, SetupWords.SetupWords}
use Rattle.models.proofs.Enums.{category_back}
use Rattle.rows.specs.Codec.{read_setup_words}
use Rattle.calls.specs.Fits.{U32Fits, ErrorFits, OptionErrorFits, SetupFits}

pub u32_back : (o : Option ℕ) → U32Fits o → read_option_u32 (option_u32_word o) ≡ o
u32_back None h = refl
u32_back (Some v) h = option_u32_back v h

pub error_back : (e : OperationError) → ErrorFits e → read_error (error_words e) 0 ≡ e
error_back e (m, o, c) =
    rw (category_back e.category, low 16 m, option_i32_says e.os_code o, u32_back e.completion_code c)

pub option_error_back : (o : Option OperationError) → OptionErrorFits o → read_option_error (option_error_words o) 0 ≡ o
option_error_back None h = refl
option_error_back (Some e) h = ap Some (error_back e h)

abbrev setup_by : SetupWords → Option SetupPacket
setup_by p = read_setup_words p.present p.request_type p.request p.value p.index p.length

pub setup_back : (o : Option SetupPacket) → SetupFits o → setup_by (setup_words o) ≡ o
setup_back None h = refl
setup_back (Some p) (t, r, v, i, l) = rw (low 8 t, low 8 r, low 16 v, low 16 i, low 16 l)
