-- What a file is, by its octets, and the labels that are known. This page is to be believed.
use Rattle.std.specs.Prelude.{ℕ, ◌==◌, nat_le, Bool, true, false, ◌&&◌, ◌||◌, if◌then◌else◌, List, [], ◌∷◌, drop, codes, bytes_eq}
use Rattle.certpath_pem.specs.Labels.{begins_with, holds, begin_mark}

pub data Source : Type 0 where
  -- a text with blocks (RFC 7468)
  pem : Source
  -- elements in BER or DER, the first of which is a SEQUENCE (X.690, 8.9.1)
  der : Source
  -- a text in UTF-16: it has to be converted before anything in it is read
  utf16 : Source
  -- no octet
  nothing : Source
  other : Source

-- the octet 30, and a length in a long form or the indefinite one (X.690, 8.1.3.5 and 8.1.3.6). No
-- text in ASCII or UTF-8 begins so: after the character 0 an octet below 128 or above 193 would be.
abbrev pub begins_long : List ℕ → Bool
begins_long [] = false
begins_long (first ∷ []) = false
begins_long (first ∷ second ∷ octets) = (first == 48) && (nat_le 128 second && nat_le second 193)

abbrev pub begins_sequence : List ℕ → Bool
begins_sequence [] = false
begins_sequence (first ∷ octets) = first == 48

-- characters of ASCII in UTF-16: the lower octet first, or the higher one
abbrev pub low_first : List ℕ → List ℕ
low_first [] = []
low_first (octet ∷ octets) = octet ∷ 0 ∷ low_first octets

abbrev pub high_first : List ℕ → List ℕ
high_first [] = []
high_first (octet ∷ octets) = 0 ∷ octet ∷ high_first octets

-- its byte order mark
abbrev pub has_wide_mark : List ℕ → Bool
has_wide_mark octets = begins_with (255 ∷ 254 ∷ []) octets || begins_with (254 ∷ 255 ∷ []) octets

abbrev pub holds_wide_words : List ℕ → Bool
holds_wide_words octets = holds (low_first begin_mark) octets || holds (high_first begin_mark) octets

-- a byte order mark, or the words of a boundary
abbrev pub is_utf16 : List ℕ → Bool
is_utf16 octets = has_wide_mark octets || holds_wide_words octets

abbrev pub is_none : List ℕ → Bool
is_none [] = true
is_none (octet ∷ octets) = false

-- what a file of these octets is. What begins as certificates in DER do is no text, whatever is in
-- it.
abbrev pub source_of : List ℕ → Source
source_of octets =
    if begins_long octets then der
    else if holds begin_mark octets then pem
    else if begins_sequence octets then der
    else if is_utf16 octets then utf16
    else if is_none octets then nothing
    else other

-- the byte order mark of UTF-8
abbrev pub mark : List ℕ
mark = 239 ∷ 187 ∷ 191 ∷ []

-- the text without it
abbrev pub without_mark : List ℕ → List ℕ
without_mark octets = if begins_with mark octets then drop 3 octets else octets

-- what the label of a block says that it holds
pub data Label : Type 0 where
  -- one certificate or one revocation list (RFC 7468, 5 and 6), by the names that OpenSSL has
  -- written too
  one_item : Label
  -- a certificate, and what OpenSSL's trust settings say of it after that
  trusted : Label
  -- SignedData (RFC 7468, 8 and 9; RFC 5652, 5.1)
  signed_data : Label
  -- another label that is known: it may be printed
  known : Label
  unknown : Label

-- the label is one of these two
abbrev pub is_either : List ℕ → List ℕ → List ℕ → Bool
is_either label one two = bytes_eq label one || bytes_eq label two

abbrev pub is_item_label : List ℕ → Bool
is_item_label label =
    is_either label (codes "CERTIFICATE") (codes "X509 CRL")
    || is_either label (codes "X509 CERTIFICATE") (codes "X.509 CERTIFICATE")

abbrev pub is_trusted_label : List ℕ → Bool
is_trusted_label label = bytes_eq label (codes "TRUSTED CERTIFICATE")

abbrev pub is_signed_label : List ℕ → Bool
is_signed_label label = is_either label (codes "PKCS7") (codes "CMS") || bytes_eq label (codes "PKCS #7 SIGNED DATA")

-- labels of keys (RFC 7468, 10, 11 and 13), and those of OpenSSL and OpenSSH
abbrev pub is_key_label : List ℕ → Bool
is_key_label label =
    is_either label (codes "PRIVATE KEY") (codes "ENCRYPTED PRIVATE KEY")
    || is_either label (codes "PUBLIC KEY") (codes "OPENSSH PRIVATE KEY")

abbrev pub is_old_key_label : List ℕ → Bool
is_old_key_label label =
    is_either label (codes "RSA PRIVATE KEY") (codes "EC PRIVATE KEY")
    || is_either label (codes "DSA PRIVATE KEY") (codes "RSA PUBLIC KEY")

-- labels of requests and attribute certificates (RFC 7468, 7 and 12)
abbrev pub is_request_label : List ℕ → Bool
is_request_label label =
    is_either label (codes "CERTIFICATE REQUEST") (codes "NEW CERTIFICATE REQUEST")
    || is_either label (codes "ATTRIBUTE CERTIFICATE") (codes "X509 ATTRIBUTE CERTIFICATE")

-- labels of parameters of keys
abbrev pub is_parameter_label : List ℕ → Bool
is_parameter_label label =
    is_either label (codes "EC PARAMETERS") (codes "DSA PARAMETERS")
    || is_either label (codes "DH PARAMETERS") (codes "X9.42 DH PARAMETERS")

abbrev pub is_any_key_label : List ℕ → Bool
is_any_key_label label = is_key_label label || is_old_key_label label

abbrev pub is_other_label : List ℕ → Bool
is_other_label label = is_request_label label || is_parameter_label label

abbrev pub is_known_label : List ℕ → Bool
is_known_label label = is_any_key_label label || is_other_label label

abbrev pub label_kind : List ℕ → Label
label_kind label =
    if is_item_label label then one_item
    else if is_trusted_label label then trusted
    else if is_signed_label label then signed_data
    else if is_known_label label then known
    else unknown
