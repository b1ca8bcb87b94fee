-- The identifiers of strict parts are in their octets.
use Rattle.std.proofs.Common.{◌≡◌, ◌∙◌, refl, sym, ap, ℕ, Bool, true, false, ◌||◌, inl, inr, List, [], ◌∷◌, ◌++◌, append_assoc, append-nil, Option, Some, None, option_map, map, flat_map}
use Rattle.std.specs.Prelude.{nat_eq}
use Rattle.std.specs.List.{starts_with, AllZip}
use Rattle.asn1_core.specs.Strict.{strict_header}
use Rattle.asn1_core.specs.Elements.{Element, head_of_element, element_octets}
use Rattle.asn1_oid.proofs.Fronts.{test_from_front}
use Rattle.cert_model.specs.Fields.{Algorithm, Attribute, RelativeName, Name, Bits, Key, Extension}
use Rattle.cert_model.specs.Octets.{identifier_octets, optional_octets, flag_octets, primitive_octets, bit_field_octets, algorithm_octets, attribute_octets, relative_name_octets, name_octets, key_octets, extension_octets, extensions_octets, tagged_extensions_octets, several_octets}
use Rattle.x509_links.specs.Lenient.{lenient_algorithm, lenient_attribute, lenient_set, lenient_name, lenient_bits, lenient_key, lenient_extension}
use Rattle.certpath_typed.specs.Told.{stand_in, TellsIdentifier, TellsAlgorithm, TellsAttribute, TellsSet, TellsName, told_bits, TellsKey, TellsExtension, TellsExtensions}

-- octets are somewhere in others
pub record Stands (octets s : List ℕ) : Type 0 where
  pub front : List ℕ
  pub back : List ℕ
  pub whole : s ≡ front ++ (octets ++ back)

pub here : (o : List ℕ) → Stands o o
here o = record { front = []; back = []; whole = sym (append-nil o) }

pub left : (o a b : List ℕ) → Stands o a → Stands o (a ++ b)
left o a b is = record {
  front = is.front;
  back = is.back ++ b;
  whole = ap (λ z. z ++ b) is.whole ∙ append_assoc is.front (o ++ is.back) b ∙ ap (λ z. is.front ++ z) (append_assoc o is.back b);
}

pub right : (o a b : List ℕ) → Stands o b → Stands o (a ++ b)
right o a b is = record { front = a ++ is.front; back = is.back; whole = ap (λ z. a ++ z) is.whole ∙ sym (append_assoc a is.front (o ++ is.back)) }

pub within : (o : List ℕ) (e : Element) → Stands o e.content → Stands o (element_octets e)
within o e is = right o (strict_header (head_of_element e)) e.content is

or_true : (b : Bool) → (b || true) ≡ true
or_true true = refl
or_true false = refl

front_stands : (s o back : List ℕ) → s ≡ o ++ back → stand_in s o ≡ true
front_stands [] o back is = test_from_front o [] (record { rest = back; whole_is = is })
front_stands (x ∷ s) o back is = ap (λ b. b || stand_in s o) (test_from_front o (x ∷ s) (record { rest = back; whole_is = is }))

stands_behind : (front o back : List ℕ) → stand_in (front ++ (o ++ back)) o ≡ true
stands_behind [] o back = front_stands (o ++ back) o back refl
stands_behind (x ∷ front) o back =
    ap (λ b. starts_with nat_eq (x ∷ (front ++ (o ++ back))) o || b) (stands_behind front o back) ∙ or_true (starts_with nat_eq (x ∷ (front ++ (o ++ back))) o)

-- what is in the item is reported as it is
pub told_there : (item o told : List ℕ) → Stands o item → TellsIdentifier item o told → told ≡ o
unfolding TellsIdentifier
told_there item o told is (inl same) = same
told_there item o told is (inr none) =
    let there : stand_in item o ≡ true = ap (λ z. stand_in z o) is.whole ∙ stands_behind is.front o is.back in
    let not_there : stand_in item o ≡ false = none.0 in
    cc

-- what is in a part is in the item
abbrev pub Lifts : List ℕ → List ℕ → Type 0
Lifts item part = (o : List ℕ) → Stands o part → Stands o item

-- ---- algorithms

abbrev pub identifier_element : List ℕ → Element
identifier_element id = record { class = 0; constructed = false; tag = 6; content = id }

id_first : (id b : List ℕ) → Stands id (identifier_octets id ++ b)
id_first id b = left id (identifier_octets id) b (within id (identifier_element id) (here id))

algorithm_stands : (a : Algorithm) → Stands a.identifier (algorithm_octets a)
unfolding algorithm_octets
algorithm_stands a =
    let last = optional_octets element_octets a.parameters in
    within a.identifier (record { class = 0; constructed = true; tag = 16; content = identifier_octets a.identifier ++ last }) (id_first a.identifier last)

pub algorithm_told : (item : List ℕ) (a told : Algorithm) → Lifts item (algorithm_octets a) → TellsAlgorithm item (lenient_algorithm a) told → told ≡ a
algorithm_told item a told lift tells =
    let same = told_there item a.identifier told.identifier (lift a.identifier (algorithm_stands a)) tells.0 in
    λ i. record { identifier = same i; parameters = tells.1 i }

-- ---- names

attribute_stands : (a : Attribute) → Stands a.identifier (attribute_octets a)
unfolding attribute_octets
attribute_stands a =
    let last = element_octets a.value in
    within a.identifier (record { class = 0; constructed = true; tag = 16; content = identifier_octets a.identifier ++ last }) (id_first a.identifier last)

attribute_told : (item : List ℕ) (a told : Attribute) → Lifts item (attribute_octets a) → TellsAttribute item (lenient_attribute a) told → told ≡ a
attribute_told item a told lift tells =
    let same = told_there item a.identifier told.identifier (lift a.identifier (attribute_stands a)) tells.0 in
    λ i. record { identifier = same i; value = tells.1 i }

-- parts one after another, each reported as it is
pub each_told : {X A : Type 0} (item : List ℕ) (write : X → List ℕ) (view : X → A) (tells : A → X → Type 0) → ((x told : X) → Lifts item (write x) → tells (view x) told → told ≡ x)
    → (xs told : List X) → Lifts item (flat_map write xs) → AllZip tells (map view xs) told → told ≡ xs
each_told item write view tells one [] [] lift all = refl
each_told item write view tells one [] (y ∷ ys) lift all = absurd all
each_told item write view tells one (x ∷ xs) [] lift all = absurd all
each_told item write view tells one (x ∷ xs) (y ∷ ys) lift all =
    let first = one x y (λ o is. lift o (left o (write x) (flat_map write xs) is)) all.0 in
    let others = each_told item write view tells one xs ys (λ o is. lift o (right o (write x) (flat_map write xs) is)) all.1 in
    ap (λ z. z ∷ ys) first ∙ ap (λ z. x ∷ z) others

set_told : (item : List ℕ) (s told : RelativeName) → Lifts item (relative_name_octets s) → TellsSet item (lenient_set s) told → told ≡ s
unfolding relative_name_octets
set_told item s told lift tells =
    let whole : Element = record { class = 0; constructed = true; tag = 17; content = flat_map attribute_octets s } in
    each_told item attribute_octets lenient_attribute (TellsAttribute item) (attribute_told item) s told (λ o is. lift o (within o whole is)) tells

pub name_told : (item : List ℕ) (n told : Name) → Lifts item (name_octets n) → TellsName item (lenient_name n) told → told ≡ n
unfolding name_octets
name_told item n told lift tells =
    let whole : Element = record { class = 0; constructed = true; tag = 16; content = flat_map relative_name_octets n } in
    each_told item relative_name_octets lenient_set (TellsSet item) (set_told item) n told (λ o is. lift o (within o whole is)) tells

-- ---- keys

pub key_told : (item : List ℕ) (k told : Key) → Lifts item (key_octets k) → TellsKey item (lenient_key k) told → told ≡ k
unfolding key_octets
key_told item k told lift tells =
    let last = bit_field_octets k.key in
    let whole : Element = record { class = 0; constructed = true; tag = 16; content = algorithm_octets k.algorithm ++ last } in
    let same = algorithm_told item k.algorithm told.algorithm (λ o is. lift o (within o whole (left o (algorithm_octets k.algorithm) last is))) tells.0 in
    λ i. record { algorithm = same i; key = tells.1 i }

-- ---- extensions

extension_stands : (e : Extension) → Stands e.identifier (extension_octets e)
unfolding extension_octets
extension_stands e =
    let last = flag_octets e.critical ++ (primitive_octets 4 e.value ++ []) in
    within e.identifier (record { class = 0; constructed = true; tag = 16; content = identifier_octets e.identifier ++ last }) (id_first e.identifier last)

extension_told : (item : List ℕ) (e told : Extension) → Lifts item (extension_octets e) → TellsExtension item (lenient_extension e) told → told ≡ e
extension_told item e told lift tells =
    let same = told_there item e.identifier told.identifier (lift e.identifier (extension_stands e)) tells.0 in
    λ i. record { identifier = same i; critical = tells.1 i; value = tells.2 i }

extensions_told : (item : List ℕ) (es told : List Extension) → Lifts item (extensions_octets es) → TellsExtensions item (map lenient_extension es) told → told ≡ es
unfolding extensions_octets
extensions_told item es told lift tells =
    let whole : Element = record { class = 0; constructed = true; tag = 16; content = flat_map extension_octets es } in
    each_told item extension_octets lenient_extension (TellsExtension item) (extension_told item) es told (λ o is. lift o (within o whole is)) tells

pub several_told : (item : List ℕ) (es told : List Extension) → Lifts item (several_octets extensions_octets es) → TellsExtensions item (map lenient_extension es) told → told ≡ es
several_told item [] [] lift tells = refl
several_told item [] (x ∷ told) lift tells = absurd tells
several_told item (e ∷ es) told lift tells = extensions_told item (e ∷ es) told lift tells

pub tagged_told : (item : List ℕ) (n : ℕ) (es told : List Extension) → Lifts item (tagged_extensions_octets n es) → TellsExtensions item (map lenient_extension es) told → told ≡ es
tagged_told item n [] [] lift tells = refl
tagged_told item n [] (x ∷ told) lift tells = absurd tells
tagged_told item n (e ∷ es) told lift tells =
    let whole : Element = record { class = 2; constructed = true; tag = n; content = extensions_octets (e ∷ es) } in
    extensions_told item (e ∷ es) told (λ o is. lift o (within o whole is)) tells

-- ---- unique identifiers

pub ids_told : (id : Option Bits) → option_map told_bits (option_map lenient_bits id) ≡ id
ids_told None = refl
ids_told (Some b) = refl
