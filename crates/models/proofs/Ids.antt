-- What `==`, `<` and `default` say of ids, in the words of specs/Requests. Assumes nothing.
use Rattle.std.specs.Prelude.{Bool, ◌≡◌, not, ◌&&◌, eqb, Some}
use Rattle.std.specs.Ordering.{partial_lt, partial_ordering_then, nat_cmp}
use Rattle.std.proofs.lemmas.Bool.Decides.{nat_tests}
use native.Mathlib.Omega.{arith}
use Rattle.chain.specs.Chain.{◌if◌else◌}
use Rattle.models.specs.Requests.{no_id, same_request, same_device, request_before}
use Rattle.models.specs.declared.{DeviceId.DeviceId, RequestId.RequestId}

-- of `a == b`
pub same_request-eq : (a b : RequestId) (r : Bool) → r ≡ (eqb a.session b.session && (eqb a.generation b.generation && eqb a.sequence b.sequence)) → r ≡ same_request a b
same_request-eq a b r e = grind (arith, nat_tests)

pub same_device-eq : (a b : DeviceId) (r : Bool) → r ≡ (eqb a.session b.session && (eqb a.generation b.generation && eqb a.slot b.slot)) → r ≡ same_device a b
same_device-eq a b r e = grind (arith, nat_tests)

-- of `a != b`
pub same_device-ne : (a b : DeviceId) (r : Bool) → r ≡ not (eqb a.session b.session && (eqb a.generation b.generation && eqb a.slot b.slot)) → r ≡ not (same_device a b)
same_device-ne a b r e = grind (arith, nat_tests)

-- of `a < b`
pub request_before-lt : (a b : RequestId) (r : Bool)
    → r ≡ partial_lt (λ (x y : RequestId). partial_ordering_then (Some (nat_cmp x.session y.session)) (partial_ordering_then (Some (nat_cmp x.generation y.generation)) (Some (nat_cmp x.sequence y.sequence)))) a b
    → r ≡ request_before a b
unfolding request_before ◌if◌else◌
request_before-lt a b r e = grind (arith, nat_tests)

-- of `RequestId::default()`
pub no_id-default : (x : RequestId) → x.session ≡ 0 → x.generation ≡ 0 → x.sequence ≡ 0 → x ≡ no_id
no_id-default x a b c = λ i. record { session = a i; generation = b i; sequence = c i }
