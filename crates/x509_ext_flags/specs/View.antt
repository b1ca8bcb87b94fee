-- What the values of this crate's types are, as the data of `Values`.
use Rattle.std.specs.Prelude.{ℕ, List}
use Rattle.x509_ext_flags.specs.Values as values
use Rattle.x509_ext_flags.specs.declared.flags.KeyUsage.{KeyUsage}
use Rattle.x509_ext_flags.specs.declared.flags.ReasonFlags.{ReasonFlags}
use Rattle.x509_ext_flags.specs.declared.flags.NSCertType.{NSCertType}
use Rattle.x509_ext_flags.specs.declared.identifier.KeyIdentifier.{KeyIdentifier}
use Rattle.x509_ext_flags.specs.declared.policy.InhibitAnyPolicy.{InhibitAnyPolicy}
use Rattle.x509_ext_flags.specs.declared.policy.PolicyConstraints.{PolicyConstraints}

abbrev pub usage_view : KeyUsage → ℕ
usage_view u = u.flags

abbrev pub reasons_view : ReasonFlags → ℕ
reasons_view r = r.flags

abbrev pub netscape_view : NSCertType → ℕ
netscape_view t = t.0

abbrev pub key_identifier_view : KeyIdentifier → List ℕ
key_identifier_view k = k.0.now

abbrev pub inhibit_view : InhibitAnyPolicy → ℕ
inhibit_view p = p.skip_certs

abbrev pub policy_constraints_view : PolicyConstraints → values.PolicyConstraints
policy_constraints_view c = record { require_explicit_policy = c.require_explicit_policy; inhibit_policy_mapping = c.inhibit_policy_mapping }
