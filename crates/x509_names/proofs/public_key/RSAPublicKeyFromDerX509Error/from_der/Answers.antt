use Rattle.std.proofs.Common.{arith}
use Rattle.asn1_core.proofs.Numbers.{octets_below}
use Rattle.x509_core.specs.declared.error.X509Error.TheVariants as errors
use Rattle.x509_core.proofs.Public.{gives_found, gives_only}
use Rattle.x509_names.specs.PublicKeys.{RSAPublicKey}
use Rattle.x509_names.specs.Reading.{rsa_key_at}
use Rattle.x509_names.specs.View.{rsa_view}
use Rattle.x509_core.proofs.FrontLaws.{gives_whole}
use Rattle.x509_names.proofs.KeyLaws.{rsa_reading}
use Rattle.x509_names.proofs.public_key.RSAPublicKeyFromDerX509Error.from_der.Goals as goal

pub returns-clause-reads : goal.returns-clause-reads
returns-clause-reads c =
    gives_whole RSAPublicKey rsa_key_at rsa_reading rsa_view c.args.bytes.now errors.InvalidSPKI c.rsa_key_at_front.result
    (octets_below c.args.bytes.now (λ k. omega (arith, c.type_inv.bytes k))) c.rsa_key_at_front.ensures.exact c.rsa_key_at_front.ensures.refused

pub returns-clause-found : goal.returns-clause-found
returns-clause-found c =
    gives_found RSAPublicKey rsa_key_at rsa_reading rsa_view c.args.bytes.now c.rsa_key_at_front.result
    (octets_below c.args.bytes.now (λ k. omega (arith, c.type_inv.bytes k))) c.rsa_key_at_front.ensures.exact

pub returns-clause-only : goal.returns-clause-only
returns-clause-only c =
    gives_only RSAPublicKey rsa_key_at rsa_reading rsa_view c.args.bytes.now c.rsa_key_at_front.result
    (octets_below c.args.bytes.now (λ k. omega (arith, c.type_inv.bytes k))) c.rsa_key_at_front.ensures.exact
