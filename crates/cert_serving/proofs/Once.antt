-- Octets are the names of one list at most.
use Rattle.std.proofs.Common.{◌≡◌, ◌∙◌, ap, ap₂, sym, subst, refl, ℕ, ◌+◌, ◌^◌, ◌<◌, ◌≤◌, true, List, [], ◌∷◌, ◌++◌, length, length-append, arith, lit<, inl, inr}
use Rattle.std.proofs.lemmas.List.{append-nil}
use Rattle.std.specs.List.{flat_map, Contains}
use Rattle.std.proofs.lemmas.List.Elements.{Contains-push_cases}
use Rattle.std.proofs.lemmas.List.Concat.{flat_map-cons}
use Rattle.asn1_core.specs.Elements.{Element, IsElement, head_of_element, element_octets}
use Rattle.asn1_core.specs.Strict.{strict_header}
use Rattle.asn1_core.proofs.StrictLaws.{one_element_lem}
use Rattle.cert_model.specs.Fields.{Extension}
use Rattle.cert_model.specs.Octets.{sequence_octets}
use Rattle.cert_purpose.specs.Purposes.{IsOneUnder}
use Rattle.cert_purpose.proofs.Ones.{without_none, one_of_one}
use Rattle.host_names.specs.Asked.{Asked}
use Rattle.cert_serving.specs.declared.names.Choice.{Choice}
use Rattle.cert_serving.specs.GeneralNames.{tag_of, GeneralName, element_of_name, general_name_octets, AreGeneralNames}
use Rattle.cert_serving.specs.Serving.{subject_alt_name, IsNameOf, HasNameOf, Serves}
use Rattle.cert_serving.specs.Examples.{alternative}
use Rattle.cert_serving.proofs.Choices.{one_choice, tag_below}
use Rattle.cert_serving.proofs.Written.{written_some, ended}

element_fits : (e : Element) (rest : List ℕ) → length (element_octets e ++ rest) < 2 ^ 64 → length e.content < 2 ^ 64
element_fits e rest small =
    let h = strict_header (head_of_element e) in
    let one : length (h ++ e.content) ≡ length h + length e.content = length-append h e.content in
    let two : length ((h ++ e.content) ++ rest) ≡ length (h ++ e.content) + length rest = length-append (h ++ e.content) rest in
    omega arith

is_name_element : (g : GeneralName) (rest : List ℕ) → length (general_name_octets g ++ rest) < 2 ^ 64 → IsElement (element_of_name g)
is_name_element g rest small = record { class = lit< tt; tag = tag_below g.choice; size = element_fits (element_of_name g) rest small }

abbrev named_so : Choice → List ℕ → GeneralName
named_so choice content = record { choice = choice; content = content }

one_name_element : (g h : GeneralName) → element_of_name g ≡ element_of_name h → g ≡ h
one_name_element g h e = ap₂ named_so (one_choice g.choice h.choice (ap (λ (x : Element). x.tag) e)) (ap (λ (x : Element). x.content) e)

once : (gs hs : List GeneralName) → length (flat_map general_name_octets gs) < 2 ^ 64 → flat_map general_name_octets gs ≡ flat_map general_name_octets hs → gs ≡ hs
once [] hs small e = sym (ended hs e)
once (g ∷ gs) [] small e = absurd (written_some g (flat_map general_name_octets gs) (sym (flat_map-cons general_name_octets g gs) ∙ e))
once (g ∷ gs) (h ∷ hs) small e =
    let P : List ℕ → Type 0 = λ s. length s < 2 ^ 64 in
    let split : general_name_octets g ++ flat_map general_name_octets gs ≡ general_name_octets h ++ flat_map general_name_octets hs = sym (flat_map-cons general_name_octets g gs) ∙ e ∙ flat_map-cons general_name_octets h hs in
    let first : length (general_name_octets g ++ flat_map general_name_octets gs) < 2 ^ 64 = subst P (flat_map-cons general_name_octets g gs) small in
    let second : length (general_name_octets h ++ flat_map general_name_octets hs) < 2 ^ 64 = subst P split first in
    let n = length-append (general_name_octets g) (flat_map general_name_octets gs) in
    let one = one_element_lem (element_of_name g) (element_of_name h) (flat_map general_name_octets gs) (flat_map general_name_octets hs)
    (is_name_element g (flat_map general_name_octets gs) first) (is_name_element h (flat_map general_name_octets hs) second) split in
    ap₂ (λ (x : GeneralName) (xs : List GeneralName). x ∷ xs) (one_name_element g h one.0) (once gs hs (omega arith) one.1)

-- one content of a sequence
abbrev sequence_of : List ℕ → Element
sequence_of content = record { class = 0; constructed = true; tag = 16; content = content }

one_content : (a b : List ℕ) → length (sequence_octets a) < 2 ^ 64 → sequence_octets a ≡ sequence_octets b → a ≡ b
one_content a b small e =
    let P : List ℕ → Type 0 = λ s. length s < 2 ^ 64 in
    let first : length (sequence_octets a ++ []) < 2 ^ 64 = subst P (sym (append-nil (sequence_octets a))) small in
    let second : length (sequence_octets b ++ []) < 2 ^ 64 = subst P (ap (λ s. s ++ []) e) first in
    let one = one_element_lem (sequence_of a) (sequence_of b) [] [] (record { class = lit< tt; tag = lit< tt; size = element_fits (sequence_of a) [] first })
    (record { class = lit< tt; tag = lit< tt; size = element_fits (sequence_of b) [] second }) (ap (λ s. s ++ []) e) in
    ap (λ (x : Element). x.content) one.0

names_once : (value : List ℕ) (gs hs : List GeneralName) → length value < 2 ^ 64 → AreGeneralNames value gs → AreGeneralNames value hs → gs ≡ hs
names_once value gs hs small a b =
    let P : List ℕ → Type 0 = λ s. length s < 2 ^ 64 in
    let whole : length (sequence_octets (flat_map general_name_octets gs)) < 2 ^ 64 = subst P a.spelled small in
    let fits : length (flat_map general_name_octets gs) < 2 ^ 64 = element_fits (sequence_of (flat_map general_name_octets gs)) [] (subst P (sym (append-nil (sequence_octets (flat_map general_name_octets gs)))) whole) in
    once gs hs fits (one_content (flat_map general_name_octets gs) (flat_map general_name_octets hs) whole (sym a.spelled ∙ b.spelled))

-- the one value of one extension
pub single : (value : List ℕ) → IsOneUnder subject_alt_name (alternative value ∷ []) value
single value = record {
  front = [];
  extension = alternative value;
  back = [];
  place = refl;
  under = refl;
  before = without_none subject_alt_name;
  behind = without_none subject_alt_name;
  value_is = refl;
}

-- a certificate of these names serves a host by one of them
pub only_names : (host : Asked) (value : List ℕ) (gs : List GeneralName) → length value < 2 ^ 64 → AreGeneralNames value gs → Serves host (alternative value ∷ []) → HasNameOf host gs
only_names host value gs small a s =
    let same : s.0 ≡ value = one_of_one subject_alt_name (alternative value ∷ []) s.0 value s.1 (single value) in
    let names = subst (λ v. AreGeneralNames v s.2.0) same s.2.1 in
    subst (HasNameOf host) (names_once value s.2.0 gs small names a) s.2.2

none_there : (x : GeneralName) → Contains {X = GeneralName} [] x → ⊥
none_there x h = omega (arith, h.1)

-- of one name, by that
pub only_name : (host : Asked) (g : GeneralName) → HasNameOf host (g ∷ []) → IsNameOf host g
only_name host g h = elim (Contains-push_cases [] g h.0 h.1) [ inl none ↦ absurd (none_there h.0 none) | inr e ↦ subst (IsNameOf host) (sym e) h.2 ]
