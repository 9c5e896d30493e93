-- Document 02's two events, by computing. Assumes nothing.
use mathlib.Core.List.{[], ◌∷◌}
use mathlib.Core.Path.{◌≡◌, refl}
use Rattle.paper.specs.Events.{event_in, decoded, word_of}

-- a submit: slot 1, endpoint 81h, 8 bytes
pub submit-event :
    event_in (0x00 ∷ 0x18 ∷ 0x10 ∷ 0x00 ∷ 0x00 ∷ 0x00 ∷ 0x00 ∷ 0x40 ∷ [])
    ≡ record { kind = 0; slot = 1; endpoint = 0x81; sequence = 0; code = 0; length = 8; flags = 0 }
unfolding decoded word_of
submit-event = refl

-- an abort of the same endpoint
pub abort-event :
    event_in (0x50 ∷ 0x18 ∷ 0x10 ∷ 0x00 ∷ 0x00 ∷ 0x00 ∷ 0x00 ∷ 0x00 ∷ [])
    ≡ record { kind = 5; slot = 1; endpoint = 0x81; sequence = 0; code = 0; length = 0; flags = 0 }
unfolding decoded word_of
abort-event = refl
