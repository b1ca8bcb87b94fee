-- How the text of a name is written: pieces one after the other, once it is known that each can be shown. Laws tie these to
-- `NameTexts`.
use Rattle.std.specs.Prelude.{ℕ, ◌==◌, Bool, true, false, if◌then◌else◌, List, [], ◌∷◌, ◌++◌, map, codes, Option, is_some}
use Rattle.std.specs.List.{flat_map, list_all}
use Rattle.std.specs.Option.{unwrap_or}
use Rattle.asn1_core.specs.Elements.{Element}
use Rattle.x509_names.specs.Fields.{Attribute}
use Rattle.x509_names.specs.NameTexts.{is_shown_as_text, utf8_text, wide_text, upper_hex, value_text, type_text, joined, known_label}
use Rattle.x509_names.specs.declared.labels.Labels.{Labels}
use Rattle.x509_names.specs.declared.labels.Labels.TheVariants as labels
use Rattle.x509_objects.specs.Registry.{abbreviated}

-- how types are named
abbrev pub label_of : Labels → List ℕ → Option (List ℕ)
label_of labels.Known identifier = known_label identifier
label_of (labels.Of registry) identifier = abbreviated registry.now identifier

abbrev pub or_nothing : Option (List ℕ) → List ℕ
or_nothing text = unwrap_or text []

-- what is written of a value: nothing of one that can't be shown
abbrev pub value_piece : Element → List ℕ
value_piece e =
    if is_shown_as_text e.tag then or_nothing (utf8_text e.content) else
    if e.tag == 30 then or_nothing (wide_text e.content) else
    upper_hex e.content

abbrev pub attribute_piece : (List ℕ → Option (List ℕ)) → Attribute → List ℕ
attribute_piece label a = type_text label a.identifier ++ 0x3D ∷ value_piece a.value

abbrev pub set_piece : (List ℕ → Option (List ℕ)) → List Attribute → List ℕ
set_piece label attributes = joined (codes " + ") (map (attribute_piece label) attributes)

abbrev pub sets_piece : (List ℕ → Option (List ℕ)) → List (List Attribute) → List ℕ
sets_piece label sets = joined (codes ", ") (map (set_piece label) sets)

-- whether each value can be shown
abbrev pub can_be_shown : Attribute → Bool
can_be_shown a = is_some (value_text a.value)

abbrev pub set_can_be_shown : List Attribute → Bool
set_can_be_shown attributes = list_all can_be_shown attributes

abbrev pub sets_can_be_shown : List (List Attribute) → Bool
sets_can_be_shown sets = list_all set_can_be_shown sets

-- whether a text is there
abbrev pub is_nonempty : {A : Type 0} → List A → Bool
is_nonempty [] = false
is_nonempty (x ∷ xs) = true

-- the separator, if something comes before
abbrev pub separator_if : Bool → List ℕ → List ℕ
separator_if begun separator = if begun then separator else []

-- what is left to write: each text after a separator, but the first
abbrev pub left_texts : Bool → List ℕ → List (List ℕ) → List ℕ
left_texts true separator texts = flat_map (λ text. separator ++ text) texts
left_texts false separator texts = joined separator texts
