-- The readers of certification requests as functions on octets, with the refusals that are promised, in their order. What they
-- read is defined in `Requests`; laws tie each function to it.
use Rattle.std.specs.Prelude.{ℕ, ◌==◌, ◌&&◌, Bool, if◌then◌else◌, List, Ok, Err, bytes_eq}
use Rattle.std.specs.List.{list_all}
use Rattle.std.specs.Str.{is_utf8}
use Rattle.asn1_core.specs.Elements.{Element}
use Rattle.asn1_core.specs.Strict.{Head}
use Rattle.asn1_any.specs.Cutting.{Piece}
use Rattle.asn1_any.specs.Reading.{any_ber}
use Rattle.asn1_strings.specs.Charsets.{is_printable}
use Rattle.x509_core.specs.Answers.{Answer, named, unnamed, plain, naming, ◌>>=◌}
use Rattle.x509_core.specs.Reading.{Reader, front_header_at, content_in, next, many_of}
use Rattle.x509_core.specs.declared.error.X509Error.TheVariants as errors
use Rattle.x509_names.specs.Reading.{oid_at, window_to, algorithm_at, name_at, key_at, bits_at}
use Rattle.x509_ext.specs.Fields.{Extension, ValueReading}
use Rattle.x509_ext.specs.Reading.{version_at, to_end, extension_list_in}
use Rattle.x509_requests.specs.Fields.{AttributeValues, extension_request, challenge_password, unsupported_attribute, RequestAttribute, RequestInfo, Request}
use Rattle.x509_requests.specs.Identifiers.{extension_request_id, challenge_password_id}

-- the extensions that are asked for, by themselves
abbrev pub requested_at : ValueReading → Reader (List Extension)
requested_at parse = next (λ p. extension_list_in parse p.element)

-- a content that is text of such characters
abbrev pub text_of : (List ℕ → Bool) → List ℕ → Answer (List ℕ)
text_of tests content = if tests content then Ok content else Err unnamed

unfoldable pub password_in : Element → Answer (List ℕ)
password_in e =
    if e.constructed then Err unnamed
    else if e.tag == 12 then text_of is_utf8 e.content
    else if e.tag == 19 then text_of (list_all is_printable) e.content
    else Err unnamed

abbrev pub password_at : Reader (List ℕ)
password_at = next (λ p. password_in p.element)

-- what comes after the SET's header, by the attribute's type
unfoldable pub values_at : ValueReading → List ℕ → Reader AttributeValues
values_at parse id i =
    if bytes_eq id extension_request_id then (requested_at parse i >>= λ es. Ok (extension_request es.0, es.1))
    else if bytes_eq id challenge_password_id then (password_at i >>= λ text. Ok (challenge_password text.0, text.1))
    else Ok (unsupported_attribute, i)

abbrev pub set_behind : ValueReading → List ℕ → Head × List ℕ → Answer (AttributeValues × List ℕ)
set_behind parse id h = if h.0.tag == 17 then values_at parse id h.1 else Err unnamed

-- what an attribute's content begins with; what is left of it is ignored
unfoldable pub attribute_parts_in : ValueReading → List ℕ → Answer RequestAttribute
attribute_parts_in parse content = do
  o ← oid_at content
  h ← front_header_at o.1
  values ← set_behind parse o.0 h
  Ok (record { identifier = o.0; raw = window_to o.1 values.1; values = values.0 })

unfoldable pub attribute_in : ValueReading → Element → Answer RequestAttribute
attribute_in parse e = if (e.class == 0) && (e.constructed && (e.tag == 16)) then attribute_parts_in parse e.content else Err unnamed

-- an attribute at the front of octets, by the rules of BER
unfoldable pub attribute_at : ValueReading → Reader RequestAttribute
attribute_at parse i = do
  e ← plain (any_ber i)
  a ← attribute_in parse e.0
  Ok (a, e.1)

-- an attribute by itself
abbrev pub named_attribute_at : ValueReading → Reader RequestAttribute
named_attribute_at parse i = naming errors.InvalidAttributes (attribute_at parse i)

-- attributes to the end
unfoldable pub all_attributes_at : ValueReading → List ℕ → Answer (List RequestAttribute)
all_attributes_at parse i = to_end (many_of (attribute_at parse) i)

-- after the header, whose length isn't used
abbrev pub attributes_behind : ValueReading → Head × List ℕ → Answer (List RequestAttribute)
attributes_behind parse h = if (h.0.class == 2) && (h.0.tag == 0) then all_attributes_at parse h.1 else Err (named errors.InvalidAttributes)

-- a request's attributes, to the end
unfoldable pub attributes_at : ValueReading → List ℕ → Answer (List RequestAttribute)
attributes_at parse i = naming errors.InvalidAttributes (front_header_at i) >>= attributes_behind parse

unfoldable pub info_in : ValueReading → Piece → Answer RequestInfo
info_in parse p = do
  content ← content_in 16 p.element
  version ← version_at content
  subject ← name_at version.1
  key ← key_at subject.1
  attributes ← attributes_at parse key.1
  Ok (record { version = version.0; subject = subject.0; key = key.0; attributes = attributes; raw = p.octets })

-- a signed part at the front of octets
abbrev pub info_at : ValueReading → Reader RequestInfo
info_at parse = next (info_in parse)

unfoldable pub request_in : ValueReading → Piece → Answer Request
request_in parse p = do
  content ← content_in 16 p.element
  info ← info_at parse content
  algorithm ← algorithm_at info.1
  signature_value ← naming errors.InvalidSignatureValue (bits_at algorithm.1)
  Ok (record { info = info.0; algorithm = algorithm.0; signature_value = signature_value.0; raw = p.octets })

-- a request at the front of octets
abbrev pub request_at : ValueReading → Reader Request
request_at parse = next (request_in parse)
