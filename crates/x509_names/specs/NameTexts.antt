-- The text of a name, as `C=FR, O=Some + CN=Other`. Texts are given as their octets.
use Rattle.std.specs.Prelude.{ℕ, ◌+◌, ◌*◌, ◌/◌, ◌%◌, ◌==◌, ◌||◌, ◌&&◌, nat_le, Bool, true, if◌then◌else◌, List, [], ◌∷◌, ◌++◌, map, codes, Option, Some, None, option_map, bytes_eq}
use Rattle.std.specs.Char.Utf16.{utf16_lossy_chars}
use Rattle.std.specs.Fmt.{digit_glyph}
use Rattle.std.specs.List.{flat_map, join_by}
use Rattle.std.specs.Option.{unwrap_or}
use Rattle.std.specs.Str.{is_utf8, all_scalars, encode_utf8_all}
use Rattle.asn1_core.specs.Elements.{Element}
use Rattle.asn1_oid.specs.Text.{oid_text}
use Rattle.asn1_strings.specs.Wide.{utf16_octets}
use Rattle.x509_names.specs.Fields.{Attribute, Name}
use Rattle.x509_objects.specs.Registry.{name_or}
use Rattle.x509_objects.specs.Table.{known_entry, abbreviation_of}

-- ObjectDescriptor, UTF8String, NumericString, PrintableString, T61String, VideotexString, IA5String, GraphicString,
-- VisibleString and GeneralString (X.680, table 1); the class isn't looked at
abbrev pub is_shown_as_text : ℕ → Bool
is_shown_as_text tag = ((tag == 7) || (tag == 12)) || ((nat_le 18 tag && nat_le tag 22) || (nat_le 25 tag && nat_le tag 27))

-- a content that is UTF-8 itself
abbrev pub utf8_text : List ℕ → Option (List ℕ)
utf8_text content = if is_utf8 content then Some content else None

-- the units of two octets, the high one first; an octet that is left over counts as nothing
unfoldable pub units_of : List ℕ → List ℕ
units_of [] = []
units_of (a ∷ []) = []
units_of (a ∷ b ∷ octets) = (256 * a + b) ∷ units_of octets

abbrev pub told_if : {A : Type 0} → Bool → A → Option A
told_if is x = if is then Some x else None

-- the text that a BMPString is: characters that have these octets as UTF-16, the high octet of a unit first (X.690, 8.23)
abbrev pub wide_text : List ℕ → Option (List ℕ)
wide_text content =
    let characters = utf16_lossy_chars (units_of content) in
    told_if (all_scalars characters && bytes_eq (flat_map utf16_octets characters) content) (encode_utf8_all characters)

-- two upper-case hexadecimal digits an octet
abbrev pub upper_pair : ℕ → List ℕ
upper_pair octet = digit_glyph true (octet / 16) ∷ digit_glyph true (octet % 16) ∷ []

abbrev pub upper_hex : List ℕ → List ℕ
upper_hex octets = flat_map upper_pair octets

-- the text of a value; none of one that can't be shown
abbrev pub value_text : Element → Option (List ℕ)
value_text e =
    if is_shown_as_text e.tag then utf8_text e.content else
    if e.tag == 30 then wide_text e.content else
    Some (upper_hex e.content)

-- the name of a type if there is one, else its identifier, as `OID(1.2.3)`
abbrev pub type_text : (List ℕ → Option (List ℕ)) → List ℕ → List ℕ
type_text label identifier = unwrap_or (label identifier) (codes "OID(" ++ oid_text identifier ++ codes ")")

-- `CN=value`
abbrev pub attribute_text : (List ℕ → Option (List ℕ)) → Attribute → Option (List ℕ)
attribute_text label a = option_map (λ value. type_text label a.identifier ++ 0x3D ∷ value) (value_text a.value)

-- all of them, if each is there
abbrev pub also : {A : Type 0} → Option A → Option (List A) → Option (List A)
also None xs = None
also (Some x) xs = option_map (λ l. x ∷ l) xs

abbrev pub each_of : {A : Type 0} → List (Option A) → Option (List A)
each_of [] = Some []
each_of (x ∷ xs) = also x (each_of xs)

-- texts one after another; a separator comes only after a text that isn't empty
abbrev pub joined : List ℕ → List (List ℕ) → List ℕ
joined separator [] = []
joined separator ([] ∷ texts) = joined separator texts
joined separator ((x ∷ text) ∷ texts) = join_by (λ t. t) separator ((x ∷ text) ∷ texts)

abbrev pub set_text : (List ℕ → Option (List ℕ)) → List Attribute → Option (List ℕ)
set_text label attributes = option_map (joined (codes " + ")) (each_of (map (attribute_text label) attributes))

-- the text of a name, types being named so; none if a value can't be shown
abbrev pub name_text : (List ℕ → Option (List ℕ)) → Name → Option (List ℕ)
name_text label name = option_map (joined (codes ", ")) (each_of (map (set_text label) name.sets))

-- the abbreviation of an attribute type, or else the short name in the registry that is handed out
abbrev pub known_label : List ℕ → Option (List ℕ)
known_label identifier = name_or (abbreviation_of identifier) (known_entry identifier)

-- the text, or that there is none
abbrev pub text_or_fault : Option (List ℕ) → List ℕ
text_or_fault text = unwrap_or text (codes "<X509Error: Invalid X.509 name>")

-- what is shown of a name
abbrev pub shown_name : Name → List ℕ
shown_name name = text_or_fault (name_text known_label name)
