-- What is said of names, over the values of types and over what these are.
use Rattle.std.proofs.Common.{◌≡◌, ◌∙◌, ap, refl, sym, map, List, [], ◌∷◌, ◌++◌, append_assoc}
use Rattle.std.specs.List.{flat_map}
use Rattle.x509_names.specs.View.{attribute_view, set_view, name_view, attributes_in}
use Rattle.x509_names.specs.declared.attribute.AttributeTypeAndValue.{AttributeTypeAndValue}
use Rattle.x509_names.specs.declared.relative.RelativeDistinguishedName.{RelativeDistinguishedName}
use Rattle.x509_names.specs.declared.name.X509Name.{X509Name}
use Rattle.x509_validate.specs.Names.{attribute_messages, set_messages, name_messages}
use Rattle.x509_validate.specs.Saying.{said_of_attributes}

said_of_set : (xs ys : List AttributeTypeAndValue) → said_of_attributes (xs ++ ys) ≡ set_messages (map attribute_view xs) ++ said_of_attributes ys
said_of_set [] ys = refl
said_of_set (a ∷ xs) ys = ap (λ z. attribute_messages (attribute_view a) ++ z) (said_of_set xs ys)
    ∙ sym (append_assoc (attribute_messages (attribute_view a)) (set_messages (map attribute_view xs)) (said_of_attributes ys))

said_of_all : (ss : List RelativeDistinguishedName) → said_of_attributes (attributes_in ss) ≡ flat_map set_messages (map set_view ss)
said_of_all [] = refl
said_of_all (s ∷ ss) = said_of_set s.set.items (attributes_in ss) ∙ ap (λ z. set_messages (set_view s) ++ z) (said_of_all ss)

pub said_of_name : (n : X509Name) → said_of_attributes (attributes_in n.rdn_seq.items) ≡ name_messages (name_view n)
said_of_name n = said_of_all n.rdn_seq.items
