-- The endpoints of a slot. Assumes nothing.
use Rattle.std.specs.Prelude.{ℕ, Bool, List, length, eqb, ltb, Result, Ok, Err, ⊤}
use Rattle.chain.specs.Chain.{◌if◌else◌}
use Rattle.chain.specs.After.{After, after}
use Rattle.chain.specs.Lists.{any_in}
use Rattle.models.specs.Refusals.{refusal_of}
use Rattle.models.specs.declared.{Refusal.Refusal, TransferType.TransferType}
use Rattle.bus.specs.Layout.{endpoints_most, endpoint_word}
use Rattle.bus.specs.Tables.{Bus, endpoints_at, put_endpoints}

-- whether an endpoint of this address and type was placed; a word whose type is none of the four equals no endpoint's
abbrev pub has_endpoint : ℕ → ℕ → TransferType → Bus → Bool
has_endpoint slot address type b = any_in (eqb (endpoint_word address type)) (endpoints_at b slot)

-- 53: over 30 endpoints
unfoldable pub set_endpoints : ℕ → List ℕ → Bus → After (Result ⊤ Refusal) Bus
set_endpoints slot l b =
    after (Err (refusal_of 53)) b if ltb endpoints_most (length l) else
    after (Ok tt) (put_endpoints b slot l)
