use Rattle.std.proofs.Common.{[], ◌∷◌}
use Rattle.asn1_traits.specs.Writes.{IsLong}
use Rattle.asn1_traits.proofs.Writing.{front_first, front_second, stops_too, stops_from}
use Rattle.asn1_values.specs.Bits.{AreStrictBits}
use Rattle.asn1_values.proofs.bitstring.BitStringDerLeaf.write_leaf.Goals as goal

-- the count of unused bits wasn't written
pub returns-in-Err : goal.returns-in-Err
returns-in-Err g c =
    let unused = c.args.self.now.unused_bits in
    let octets = c.args.self.now.content.now in
    record {
      ok = tt;
      err = (
        front_first _ _ (unused ∷ []) octets c.in-Err.ensures.octets.err.0,
        stops_too _ _ ⊥ ⊥ ⊥ (IsLong (unused ∷ octets)) ⊥ (AreStrictBits unused octets → ⊥) c.in-Err.e (λ h. absurd h) (λ h. h) (λ h. absurd h) c.in-Err.ensures.octets.err.1,
      );
    }

-- it was, the octets weren't
pub returns-in-Err-write_all : goal.returns-in-Err-write_all
returns-in-Err-write_all g c =
    let unused = c.args.self.now.unused_bits in
    let octets = c.args.self.now.content.now in
    let first = c.in-Ok.ensures.octets.ok in
    let Wrong = AreStrictBits unused octets → ⊥ in
    record {
      ok = tt;
      err = (
        front_second _ _ _ (unused ∷ []) octets first.0 c.in-Err-write_all.ensures.octets.err.0,
        stops_from _ _ _ (IsLong (unused ∷ octets)) ⊥ Wrong c.in-Err-write_all.e first.2
            (stops_too _ _ ⊥ ⊥ ⊥ (IsLong (unused ∷ octets)) ⊥ Wrong c.in-Err-write_all.e (λ h. absurd h) (λ h. h) (λ h. absurd h) c.in-Err-write_all.ensures.octets.err.1),
      );
    }
