-- Parts in a row, by what each is a value of.
use Rattle.std.proofs.Common.{◌≡◌, ◌∙◌, ap, refl, ◌++◌, ℕ, ◌≢◌, List, [], ◌∷◌, map, flat_map}
use Rattle.std.proofs.lemmas.List.Folds.{flat_map-map}
use Rattle.cert_model.specs.declared.fields.AttrField.{AttrField}
use Rattle.cert_model.specs.declared.fields.ExtField.{ExtField}
use Rattle.cert_model.specs.declared.fields.EntryFields.{EntryFields}
use Rattle.cert_model.specs.declared.fields.NameFields.{NameFields}
use Rattle.cert_model.specs.Octets.{sequence_octets, set_octets, explicit_octets, several_octets, attribute_octets, relative_name_octets, name_octets, extension_octets, extensions_octets, tagged_extensions_octets, entry_octets, entries_octets}
use Rattle.cert_model.specs.View.{attr_view, ext_view, name_view, entry_view}

pub relative_name_spelled : (s : List AttrField) → relative_name_octets (map attr_view s) ≡ set_octets (flat_map (λ f. attribute_octets (attr_view f)) s)
unfolding relative_name_octets
relative_name_spelled s = ap set_octets (flat_map-map attribute_octets attr_view s)

pub name_spelled : (n : NameFields) → name_octets (name_view n) ≡ sequence_octets (flat_map (λ v. relative_name_octets (map attr_view v.items)) n.sets.items)
unfolding name_octets
name_spelled n = ap sequence_octets (flat_map-map relative_name_octets (λ v. map attr_view v.items) n.sets.items)

pub extensions_spelled : (s : List ExtField) → s ≢ [] → several_octets extensions_octets (map ext_view s) ≡ sequence_octets (flat_map (λ f. extension_octets (ext_view f)) s)
unfolding extensions_octets
extensions_spelled [] some = absurd (some refl)
extensions_spelled (f ∷ s) some = ap sequence_octets (flat_map-map extension_octets ext_view (f ∷ s))

pub tagged_extensions_spelled : (tag : ℕ) (s : List ExtField) → s ≢ [] → tagged_extensions_octets tag (map ext_view s) ≡ explicit_octets tag (sequence_octets (flat_map (λ f. extension_octets (ext_view f)) s))
unfolding extensions_octets
tagged_extensions_spelled tag [] some = absurd (some refl)
tagged_extensions_spelled tag (f ∷ s) some = ap (λ z. explicit_octets tag (sequence_octets z)) (flat_map-map extension_octets ext_view (f ∷ s))

pub entries_spelled : (s : List EntryFields) → s ≢ [] → entries_octets (map entry_view s) ≡ sequence_octets (flat_map (λ f. entry_octets (entry_view f)) s)
entries_spelled [] some = absurd (some refl)
entries_spelled (f ∷ s) some = ap sequence_octets (flat_map-map entry_octets entry_view (f ∷ s))

-- a part as it is
pub same : (a : List ℕ) → a ≡ a
same a = refl

-- two parts, each as it is spelled
pub two_parts : {a b x y : List ℕ} → a ≡ x → b ≡ y → a ++ b ≡ x ++ y
two_parts {a} {b} {x} {y} p q = ap (λ z. z ++ b) p ∙ ap (λ z. x ++ z) q
