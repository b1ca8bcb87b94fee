-- The text of a fault: where it is, what is expected, and what is found. It has no octets of the item. This page is to be believed.
use Rattle.std.specs.Prelude.{ℕ, Bool, true, false, List, [], ◌++◌, Option, Some, None, codes}
use Rattle.std.specs.Fmt.{decimal}
use Rattle.asn1_core.specs.Views.{class_of, constructed_of, tag_of, length_of}
use Rattle.asn1_core.specs.declared.class.Class.{Class}
use Rattle.asn1_core.specs.declared.class.Class.TheVariants as classes
use Rattle.asn1_core.specs.declared.header.Header.{Header}
use Rattle.asn1_core.specs.declared.length.Length.{Length}
use Rattle.asn1_core.specs.declared.length.Length.TheVariants.{Definite, Indefinite}
use Rattle.cert_faults.specs.declared.fault.Fault.{Fault}
use Rattle.cert_faults.specs.declared.places.Expected.{Expected}
use Rattle.cert_faults.specs.declared.places.Expected.TheVariants as wants
use Rattle.cert_faults.specs.declared.places.Field.{Field}
use Rattle.cert_faults.specs.declared.places.Field.TheVariants as fields
use Rattle.cert_faults.specs.declared.places.Part.{Part}
use Rattle.cert_faults.specs.declared.places.Part.TheVariants as parts

-- the names of a field and of the fields that hold it, as RFC 5280 writes them
abbrev pub path_text : Field → List ℕ
path_text fields.Item = codes "item"
path_text fields.TbsCertificate = codes "tbsCertificate"
path_text fields.Version = codes "tbsCertificate.version"
path_text fields.SerialNumber = codes "tbsCertificate.serialNumber"
path_text fields.Signature = codes "tbsCertificate.signature"
path_text fields.Issuer = codes "tbsCertificate.issuer"
path_text fields.Validity = codes "tbsCertificate.validity"
path_text fields.NotBefore = codes "tbsCertificate.validity.notBefore"
path_text fields.NotAfter = codes "tbsCertificate.validity.notAfter"
path_text fields.Subject = codes "tbsCertificate.subject"
path_text fields.SubjectPublicKeyInfo = codes "tbsCertificate.subjectPublicKeyInfo"
path_text fields.KeyAlgorithm = codes "tbsCertificate.subjectPublicKeyInfo.algorithm"
path_text fields.SubjectPublicKey = codes "tbsCertificate.subjectPublicKeyInfo.subjectPublicKey"
path_text fields.IssuerUniqueId = codes "tbsCertificate.issuerUniqueID"
path_text fields.SubjectUniqueId = codes "tbsCertificate.subjectUniqueID"
path_text fields.Extensions = codes "tbsCertificate.extensions"
path_text fields.TbsCertList = codes "tbsCertList"
path_text fields.ListVersion = codes "tbsCertList.version"
path_text fields.ListSignature = codes "tbsCertList.signature"
path_text fields.ListIssuer = codes "tbsCertList.issuer"
path_text fields.ThisUpdate = codes "tbsCertList.thisUpdate"
path_text fields.NextUpdate = codes "tbsCertList.nextUpdate"
path_text fields.RevokedCertificates = codes "tbsCertList.revokedCertificates"
path_text fields.Entry = codes "tbsCertList.revokedCertificates.entry"
path_text fields.UserCertificate = codes "tbsCertList.revokedCertificates.userCertificate"
path_text fields.RevocationDate = codes "tbsCertList.revokedCertificates.revocationDate"
path_text fields.EntryExtensions = codes "tbsCertList.revokedCertificates.crlEntryExtensions"
path_text fields.ListExtensions = codes "tbsCertList.crlExtensions"
path_text fields.SignatureAlgorithm = codes "signatureAlgorithm"
path_text fields.SignatureValue = codes "signatureValue"

-- a part of a field
abbrev pub part_text : Part → List ℕ
part_text parts.Whole = []
part_text parts.Algorithm = codes ".algorithm"
part_text parts.Parameters = codes ".parameters"
part_text parts.RelativeName = codes ".RelativeDistinguishedName"
part_text parts.Attribute = codes ".AttributeTypeAndValue"
part_text parts.Type = codes ".type"
part_text parts.Value = codes ".value"
part_text parts.Extension = codes ".Extension"
part_text parts.ExtnId = codes ".extnID"
part_text parts.Critical = codes ".critical"
part_text parts.ExtnValue = codes ".extnValue"

-- what is expected
abbrev pub expected_text : Expected → List ℕ
expected_text wants.WholeElement = codes "an element that ends within what holds it"
expected_text wants.ShortTag = codes "a tag number in the fewest octets, below 2^32"
expected_text wants.ShortLength = codes "a length in the fewest octets, below 2^32"
expected_text wants.DefiniteLength = codes "a definite length"
expected_text wants.FewLevels = codes "at most 50 levels of elements"
expected_text wants.Primitive = codes "a primitive element"
expected_text wants.Constructed = codes "a constructed element"
expected_text wants.BooleanContent = codes "a BOOLEAN of one octet, 00 or ff"
expected_text wants.IntegerContent = codes "an INTEGER in the fewest octets, one or more"
expected_text wants.BitStringContent = codes "a BIT STRING with 0 to 7 unused bits, all zero"
expected_text wants.NullContent = codes "a NULL without content"
expected_text wants.IdentifierContent = codes "an OBJECT IDENTIFIER of numbers in the fewest octets"
expected_text wants.EnumeratedContent = codes "an ENUMERATED in the fewest octets, from 0, below 2^64"
expected_text wants.Characters = codes "characters that the string type has"
expected_text wants.TimeContent = codes "a real time to the second, with Z"
expected_text wants.NoEndOfContents = codes "an element that is no end of contents"
expected_text wants.Sequence = codes "a SEQUENCE"
expected_text wants.Set = codes "a SET"
expected_text wants.Identifier = codes "an OBJECT IDENTIFIER"
expected_text wants.AnyElement = codes "an element"
expected_text wants.NumberFromZero = codes "an INTEGER that isn't negative"
expected_text wants.BitString = codes "a BIT STRING"
expected_text wants.OctetString = codes "an OCTET STRING"
expected_text wants.Time = codes "a UTCTime to 2049, a GeneralizedTime from 2050 on"
expected_text wants.VersionTwoOrThree = codes "the INTEGER 1 or 2 in a constructed [0], or nothing"
expected_text wants.VersionTwo = codes "the INTEGER 1, or nothing"
expected_text wants.ImplicitBits = codes "the content of a BIT STRING in a primitive element"
expected_text wants.LaterVersion = codes "nothing here in this version"
expected_text wants.OneAttribute = codes "one attribute or more"
expected_text wants.Ascending = codes "attributes in ascending order of their octets"
expected_text wants.TrueOrNothing = codes "the BOOLEAN true, or nothing"
expected_text wants.OneExtension = codes "one extension or more"
expected_text wants.OneEntry = codes "one entry or more"
expected_text wants.NothingMore = codes "nothing more"

-- what is found: class, form, tag number and content octets of a header; no element, if none is there
abbrev pub class_text : Class → List ℕ
class_text classes.Universal = codes "universal"
class_text classes.Application = codes "application"
class_text classes.ContextSpecific = codes "context-specific"
class_text classes.Private = codes "private"

abbrev pub form_text : Bool → List ℕ
form_text true = codes " constructed "
form_text false = codes " primitive "

abbrev pub length_text : Length → List ℕ
length_text (Definite size) = codes " of " ++ decimal size
length_text Indefinite = codes " indefinite"

abbrev pub header_text : Header → List ℕ
header_text h = class_text (class_of h) ++ (form_text (constructed_of h) ++ (decimal (tag_of h).0 ++ length_text (length_of h)))

abbrev pub found_text : Option Header → List ℕ
found_text None = codes "no element"
found_text (Some h) = header_text h

-- where it is: the octet of the item, and the field
unfoldable pub place_text : Fault → List ℕ
place_text f = codes "at " ++ (decimal f.offset ++ (codes ": " ++ (path_text f.field ++ part_text f.part)))

-- what is expected and found there
unfoldable pub clause_text : Fault → List ℕ
clause_text f = codes ": expected " ++ (expected_text f.expected ++ (codes "; found " ++ found_text f.found))

-- as `at 57: tbsCertificate.serialNumber: expected an INTEGER that isn't negative; found universal primitive 2 of 1`
abbrev pub fault_text : Fault → List ℕ
fault_text f = place_text f ++ clause_text f
