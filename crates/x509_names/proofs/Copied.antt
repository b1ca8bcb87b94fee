-- A copy of a name stands for the value that the name stands for, and has its lengths.
use Rattle.std.proofs.Common.{◌≡◌, ◌∙◌, refl, sym, ap, subst, List, [], ◌∷◌, map}
use Rattle.std.specs.Prelude.{All}
use Rattle.std.proofs.lemmas.List.Elements.{All-nil, All-cons, All-head, All-tail, All-map}
use Rattle.x509_names.specs.View.{HasCountedValue, HasCountedValues, IsCountedName, attribute_view, set_view, name_view, attributes_of_set}
use Rattle.x509_names.specs.declared.attribute.AttributeTypeAndValue.{AttributeTypeAndValue}
use Rattle.x509_names.specs.declared.relative.RelativeDistinguishedName.{RelativeDistinguishedName}
use Rattle.x509_names.specs.declared.name.X509Name.{X509Name}

seen_sets : (sets : List RelativeDistinguishedName) → map set_view sets ≡ map (λ (l : List AttributeTypeAndValue). map attribute_view l) (map attributes_of_set sets)
seen_sets [] = refl
seen_sets (s ∷ sets) = ap (λ z. set_view s ∷ z) (seen_sets sets)

pub same_name : (a b : X509Name) → map attributes_of_set a.rdn_seq.items ≡ map attributes_of_set b.rdn_seq.items → a.raw ≡ b.raw → name_view a ≡ name_view b
same_name a b sets raw =
    let seen : map set_view a.rdn_seq.items ≡ map set_view b.rdn_seq.items =
    seen_sets a.rdn_seq.items ∙ ap (map (λ (l : List AttributeTypeAndValue). map attribute_view l)) sets ∙ sym (seen_sets b.rdn_seq.items) in
    let window = ap (λ z. z.now) raw in
    rw (seen, window) refl

counted_sets : (sets : List RelativeDistinguishedName) → All (All HasCountedValue) (map attributes_of_set sets) → All HasCountedValues sets
counted_sets [] h = All-nil HasCountedValues
counted_sets (s ∷ sets) h =
    let head = All-head (All HasCountedValue) (attributes_of_set s) (map attributes_of_set sets) h in
    let tail = All-tail (All HasCountedValue) (attributes_of_set s) (map attributes_of_set sets) h in
    All-cons HasCountedValues s sets head (counted_sets sets tail)

pub same_counted : (a b : X509Name) → map attributes_of_set a.rdn_seq.items ≡ map attributes_of_set b.rdn_seq.items → IsCountedName b → IsCountedName a
same_counted a b sets counted =
    let all : All (All HasCountedValue) (map attributes_of_set b.rdn_seq.items) = All-map (All HasCountedValue) attributes_of_set b.rdn_seq.items counted in
    counted_sets a.rdn_seq.items (subst (All (All HasCountedValue)) (sym sets) all)
