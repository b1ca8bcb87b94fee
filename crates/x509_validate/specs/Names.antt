-- What is said of names.
use Rattle.std.specs.Prelude.{ℕ, Bool, ◌==◌, ◌||◌, ◌&&◌, nat_lt, if◌then◌else◌, codes, List, [], ◌∷◌, ◌++◌}
use Rattle.std.specs.List.{flat_map, list_any}
use Rattle.asn1_oid.specs.Text.{oid_text}
use Rattle.x509_names.specs.Fields.{Attribute, Name}
use Rattle.x509_validate.specs.Messages.{Message, message, warning}

-- no octet of ASCII
abbrev pub is_high : ℕ → Bool
is_high octet = nat_lt 127 octet

-- PrintableString (19) and IA5String (22), whose characters are of ASCII (X.680, 41); the class isn't compared
abbrev pub is_ascii_string : ℕ → Bool
is_ascii_string tag = (tag == 19) || (tag == 22)

-- of an attribute of such a string
abbrev pub attribute_messages : Attribute → List Message
attribute_messages a =
    if is_ascii_string a.value.tag && list_any is_high a.value.content
    then message warning (codes "Invalid charset in X.509 Name, component " ++ oid_text a.identifier) ∷ []
    else []

abbrev pub set_messages : List Attribute → List Message
set_messages attributes = flat_map attribute_messages attributes

-- of a name: its attributes in their order
abbrev pub name_messages : Name → List Message
name_messages n = flat_map set_messages n.sets
