-- A certificate with the lists of its issuer.
use Rattle.cert_reasons.specs.declared.linking.Linking.{Linking}
use Rattle.cert_reasons.specs.Listed.{AreListed}

-- the places that are kept are those of the lists of its issuer that are in force, and of those that revoke it
abbrev pub HasItsLists : Linking → Type 0
HasItsLists l = AreListed l.items.now l.policy.moment l.certificate.now.issuer.now l.certificate.now.fields.serial.now l.listed
