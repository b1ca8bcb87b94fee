-- Why the octets of a set's content aren't made.
use Rattle.asn1_core.specs.declared.serialize.SerializeError.{SerializeError}
use Rattle.asn1_core.specs.declared.serialize.SerializeError.TheVariants as writes

-- `long` says when `usize` can't count them, `grows` when memory may be wanted, and `wrong` when a
-- value has no encoding
abbrev pub Unmade : Type 0 → Type 0 → Type 0 → SerializeError → Type 0
Unmade long grows wrong (writes.ASN1Error e) = wrong
Unmade long grows wrong (writes.InvalidClass class) = wrong
Unmade long grows wrong writes.InvalidLength = long
Unmade long grows wrong writes.IOError = ⊥
Unmade long grows wrong writes.OutOfMemory = grows
