-- What the values of this crate's types are, as the records of `Fields`.
use Rattle.std.specs.Prelude.{List, [], Option, All, map, string_bytes}
use Rattle.asn1_core.specs.declared.error.Error.{Error}
use Rattle.asn1_core.specs.declared.outcome.Err.{Err as Refusal}
use Rattle.x509_names.specs.View.{HasCountedParameters, IsCountedName, IsCountedKey, algorithm_view, name_view, key_view, bits_view}
use Rattle.x509_ext.specs.View.{extension_view, extension_error, IsCountedExtension, WantsNoMemory}
use Rattle.x509_requests.specs.Fields.{AttributeValues, extension_request, challenge_password, unsupported_attribute, RequestAttribute, RequestInfo, Request}
use Rattle.x509_requests.specs.declared.attribute.ParsedCriAttribute.{ParsedCriAttribute}
use Rattle.x509_requests.specs.declared.attribute.ParsedCriAttribute.TheVariants as cases
use Rattle.x509_requests.specs.declared.attribute.X509CriAttribute.{X509CriAttribute}
use Rattle.x509_requests.specs.declared.info.X509CertificationRequestInfo.{X509CertificationRequestInfo}
use Rattle.x509_requests.specs.declared.request.X509CertificationRequest.{X509CertificationRequest}

abbrev pub values_view : ParsedCriAttribute → AttributeValues
values_view (cases.ChallengePassword p) = challenge_password (string_bytes p.0)
values_view (cases.ExtensionRequest r) = extension_request (map extension_view r.extensions.items)
values_view cases.UnsupportedAttribute = unsupported_attribute

-- why values of the extensions that are asked for are none of their types, extension by extension
abbrev pub values_errors : ParsedCriAttribute → List (Option (Refusal Error))
values_errors (cases.ExtensionRequest r) = map extension_error r.extensions.items
values_errors a = []

-- if a value of the extensions that are asked for is none of its type, the error isn't
-- `OutOfMemory`
abbrev pub ValuesWantNoMemory : ParsedCriAttribute → Type 0
ValuesWantNoMemory (cases.ExtensionRequest r) = All WantsNoMemory r.extensions.items
ValuesWantNoMemory a = Unit {0}

abbrev pub AttributeWantsNoMemory : X509CriAttribute → Type 0
AttributeWantsNoMemory a = ValuesWantNoMemory a.parsed_attribute

-- elements in the parsed values of the extensions that are asked for have the lengths of their
-- contents
abbrev pub HasCountedRequest : ParsedCriAttribute → Type 0
HasCountedRequest (cases.ExtensionRequest r) = All IsCountedExtension r.extensions.items
HasCountedRequest a = Unit {0}

abbrev pub IsCountedAttribute : X509CriAttribute → Type 0
IsCountedAttribute a = HasCountedRequest a.parsed_attribute

abbrev pub attribute_view : X509CriAttribute → RequestAttribute
attribute_view a = record { identifier = a.oid; raw = a.value.now; values = values_view a.parsed_attribute }

abbrev pub info_view : X509CertificationRequestInfo → RequestInfo
info_view r = record { version = r.version.0; subject = name_view r.subject; key = key_view r.subject_pki; attributes = map attribute_view r.attributes.items; raw = r.raw.now }

-- each attribute's is so
abbrev pub AttributesWantNoMemory : X509CertificationRequestInfo → Type 0
AttributesWantNoMemory r = All AttributeWantsNoMemory r.attributes.items

-- headers of elements that are handed out unparsed have the lengths of their contents: the values
-- in the subject's name, the parameters of the key's algorithm, and those in the parsed values of
-- extensions that are asked for
abbrev pub IsCountedInfo : X509CertificationRequestInfo → Type 0
IsCountedInfo r = IsCountedName r.subject × IsCountedKey r.subject_pki × All IsCountedAttribute r.attributes.items

abbrev pub request_view : X509CertificationRequest → Request
request_view r = record { info = info_view r.certification_request_info; algorithm = algorithm_view r.signature_algorithm; signature_value = bits_view r.signature_value; raw = r.raw.now }

-- headers in the signed part do so, and that of the signature algorithm's parameters
abbrev pub IsCountedRequest : X509CertificationRequest → Type 0
IsCountedRequest r = IsCountedInfo r.certification_request_info × HasCountedParameters r.signature_algorithm
