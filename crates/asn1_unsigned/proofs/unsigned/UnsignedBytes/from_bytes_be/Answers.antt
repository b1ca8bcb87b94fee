use Rattle.std.proofs.Common.{ℕ, get_or, Fits, w8, rules}
use Rattle.asn1_unsigned.proofs.Compared.{digits_of_octets, all_octets}
use Rattle.asn1_unsigned.proofs.unsigned.UnsignedBytes.from_bytes_be.Goals as goal

pub invariant_of-result : goal.invariant_of-result
invariant_of-result c =
    let kept = c.trim-kept.result.now in
    let each : (i : ℕ) → Fits w8 (get_or kept i 0) = search rules in
    record { shortest = digits_of_octets kept (all_octets kept each) c.trim-kept.ensures.first }
