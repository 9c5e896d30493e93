-- The place packets of document 01's table. Assumes nothing.
use Rattle.std.specs.Prelude.{ℕ, Bool, not, ◌||◌, List, length, eqb, ltb, Result, Ok, ⊤}
use Rattle.chain.specs.Chain.{◌if◌else◌}
use Rattle.chain.specs.Lists.{sum_by}
use Rattle.models.specs.Kinds.{is_isochronous}
use Rattle.models.specs.Refusals.{rejected}
use Rattle.models.specs.declared.{Refusal.Refusal, TransferType.TransferType}

-- the most packets of a request
abbrev pub packets_most : ℕ
packets_most = 128

-- the sum of the packets, which no width bounds
abbrev pub total : List ℕ → ℕ
total packets = sum_by (λ (n : ℕ). n) packets

-- 4: given, and not isochronous, not 1 to 128, or the sum is not the length
unfoldable pub packets_checked : Bool → List ℕ → TransferType → ℕ → Result ⊤ Refusal
packets_checked given packets type size =
    (Ok tt) if not given else
    rejected 4 if not (is_isochronous type) else
    rejected 4 if eqb (length packets) 0 || ltb packets_most (length packets) else
    rejected 4 if not (eqb (total packets) size) else
    (Ok tt)
