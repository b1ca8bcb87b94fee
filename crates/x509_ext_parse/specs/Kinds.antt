-- The kinds of values that are known, and the identifiers of their extensions.
use Rattle.std.specs.Prelude.{ℕ, List}
use Rattle.x509_ext_parse.specs.declared.kind.Kind.{Kind}
use Rattle.x509_ext_parse.specs.declared.kind.Kind.TheVariants as kinds
use Rattle.x509_ext_parse.specs.Identifiers.{id_ce, id_pe, timestamp_list, netscape}

abbrev pub identifier_of : Kind → List ℕ
identifier_of kinds.SubjectKeyIdentifier = id_ce 14
identifier_of kinds.KeyUsage = id_ce 15
identifier_of kinds.SubjectAlternativeName = id_ce 17
identifier_of kinds.IssuerAlternativeName = id_ce 18
identifier_of kinds.BasicConstraints = id_ce 19
identifier_of kinds.CRLNumber = id_ce 20
identifier_of kinds.ReasonCode = id_ce 21
identifier_of kinds.InvalidityDate = id_ce 24
identifier_of kinds.IssuingDistributionPoint = id_ce 28
identifier_of kinds.NameConstraints = id_ce 30
identifier_of kinds.CRLDistributionPoints = id_ce 31
identifier_of kinds.CertificatePolicies = id_ce 32
identifier_of kinds.PolicyMappings = id_ce 33
identifier_of kinds.AuthorityKeyIdentifier = id_ce 35
identifier_of kinds.PolicyConstraints = id_ce 36
identifier_of kinds.ExtendedKeyUsage = id_ce 37
identifier_of kinds.InhibitAnyPolicy = id_ce 54
identifier_of kinds.AuthorityInfoAccess = id_pe 1
identifier_of kinds.SubjectInfoAccess = id_pe 11
identifier_of kinds.SCT = timestamp_list
identifier_of kinds.NSCertType = netscape 1
identifier_of kinds.NsCertComment = netscape 13
