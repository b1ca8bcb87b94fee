-- The next part, of a kind.
use Rattle.std.proofs.Common.{◌≡◌, ◌∙◌, sym, ap, refl, ℕ, ◌^◌, ◌<◌, List, ◌++◌, true, Some, lit<, subst, false}
use Rattle.std.specs.List.{flat_map}
use Rattle.std.proofs.lemmas.Option.{option_and_then_some}
use Rattle.asn1_core.specs.Elements.{Element, element_octets}
use Rattle.der_tree.specs.Tree.{Trees, all_octets}
use Rattle.der_tree.specs.Shape.{AreObjects}
use Rattle.der_tree.specs.Access.{first_at, universal}
use Rattle.der_tree.proofs.Shapes.{first_found}
use Rattle.cert_model.specs.Fields.{Number, Algorithm, Name, Bits, Key}
use Rattle.cert_model.specs.Octets.{number_octets, identifier_octets, optional_octets, bits_content, bit_field_octets, algorithm_octets, relative_name_octets, name_octets, key_octets}
use Rattle.cert_model.specs.Range.{IsNumber, AreBits, IsAlgorithm, IsName, IsKey}
use Rattle.cert_model.specs.Reads.{number_at, bits_at, algorithm_at, name_at, key_at, next_at}
use Rattle.cert_model.proofs.Algorithms.{algorithm_found, algorithm_only, number_found, number_only, bits_found, bits_only, key_found, key_only}
use Rattle.cert_model.proofs.Names.{name_found, name_only}
use Rattle.cert_model.proofs.Steps.{Parts, first_part}
use Rattle.cert_model.proofs.Lists.{Kind, IsKind}

pub next_found : {A : Type 0} (kind : Kind A) (Is : A → Type 0) → IsKind A kind Is → (k : ℕ) (ts : Trees) (m : A × Trees) → AreObjects k ts → next_at kind.read ts ≡ Some m →
    Is m.0 × AreObjects k m.1 × (all_octets ts ≡ kind.bytes m.0 ++ all_octets m.1)
next_found {A = A} kind Is laws k ts m p e =
    option_and_then_some _ (first_at ts) m e (λ first e0 r0.
    option_and_then_some _ (kind.read first.0) m r0 (λ value e1 r1.
    let both : ◌≡◌ {A = A × Trees} (value, first.1) m = cc in
    let f = first_found k ts first.0 first.1 p e0 in
    let v = laws.found k first.0 value f.0 e1 in
    subst (λ (z : A × Trees). Is z.0 × AreObjects k z.1 × (all_octets ts ≡ kind.bytes z.0 ++ all_octets z.1)) both (v.0, f.1, f.2 ∙ ap (λ z. z ++ all_octets first.1) (sym v.1))))

pub next_only : {A : Type 0} (kind : Kind A) (Is : A → Type 0) → IsKind A kind Is → (k : ℕ) (ts : Trees) (a : A) (r : List ℕ) → Parts k (kind.bytes a ++ r) ts → Is a →
    (us : Trees) × (next_at kind.read ts ≡ Some (a, us)) × Parts k r us
next_only kind Is laws k ts a r p q =
    let w = laws.element a q in
    let m = first_part k ts w.0 r (subst (λ z. Parts k (z ++ r) ts) w.3 p) w.1 w.2 in
    let v = laws.only k m.tree a m.object q (w.3 ∙ sym m.spelled) in
    (m.others, rw (m.is_first, v) refl, m.rest)

abbrev pub numbers : Kind Number
numbers = record { bytes = number_octets; read = number_at }

number_element : (a : Number) → IsNumber a → (e : Element) × (e.class < 4) × (e.tag < 2 ^ 32) × (number_octets a ≡ element_octets e)
number_element a p = (record { class = 0; constructed = false; tag = 2; content = a }, lit< tt, lit< tt, refl)

pub number_laws : IsKind Number numbers IsNumber
number_laws = record { element = number_element; found = number_found; only = number_only }

abbrev pub bit_fields : Kind Bits
bit_fields = record { bytes = bit_field_octets; read = bits_at }

bits_element : (a : Bits) → AreBits a → (e : Element) × (e.class < 4) × (e.tag < 2 ^ 32) × (bit_field_octets a ≡ element_octets e)
bits_element a p = (record { class = 0; constructed = false; tag = 3; content = bits_content a }, lit< tt, lit< tt, refl)

pub bits_laws : IsKind Bits bit_fields AreBits
bits_laws = record { element = bits_element; found = bits_found; only = bits_only }

abbrev pub algorithms : Kind Algorithm
algorithms = record { bytes = algorithm_octets; read = algorithm_at }

algorithm_element : (a : Algorithm) → IsAlgorithm a → (e : Element) × (e.class < 4) × (e.tag < 2 ^ 32) × (algorithm_octets a ≡ element_octets e)
unfolding algorithm_octets
algorithm_element a p = (universal true 16 (identifier_octets a.identifier ++ optional_octets element_octets a.parameters), lit< tt, lit< tt, refl)

pub algorithm_laws : IsKind Algorithm algorithms IsAlgorithm
algorithm_laws = record { element = algorithm_element; found = algorithm_found; only = algorithm_only }

abbrev pub names : Kind Name
names = record { bytes = name_octets; read = name_at }

name_element : (a : Name) → IsName a → (e : Element) × (e.class < 4) × (e.tag < 2 ^ 32) × (name_octets a ≡ element_octets e)
unfolding name_octets
name_element a p = (universal true 16 (flat_map relative_name_octets a), lit< tt, lit< tt, refl)

pub name_laws : IsKind Name names IsName
name_laws = record { element = name_element; found = name_found; only = name_only }

abbrev pub keys : Kind Key
keys = record { bytes = key_octets; read = key_at }

key_element : (a : Key) → IsKey a → (e : Element) × (e.class < 4) × (e.tag < 2 ^ 32) × (key_octets a ≡ element_octets e)
unfolding key_octets
key_element a p = (universal true 16 (algorithm_octets a.algorithm ++ bit_field_octets a.key), lit< tt, lit< tt, refl)

pub key_laws : IsKind Key keys IsKey
key_laws = record { element = key_element; found = key_found; only = key_only }
