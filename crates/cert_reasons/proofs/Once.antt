-- Values are the purposes, and the names, of one list at most.
use Rattle.std.proofs.Common.{◌≡◌, ◌∙◌, ap, ap₂, sym, subst, ℕ, ◌+◌, ◌^◌, ◌<◌, true, false, List, [], ◌∷◌, ◌++◌, length, length-append, arith, lit<}
use Rattle.std.proofs.lemmas.List.{append-nil}
use Rattle.std.specs.List.{flat_map}
use Rattle.std.proofs.lemmas.List.Concat.{flat_map-cons}
use Rattle.asn1_core.specs.Elements.{Element, IsElement, head_of_element, element_octets}
use Rattle.asn1_core.specs.Strict.{strict_header}
use Rattle.asn1_core.proofs.StrictLaws.{one_element_lem}
use Rattle.cert_model.specs.Fields.{Identifier}
use Rattle.cert_model.specs.Octets.{sequence_octets, identifier_octets}
use Rattle.cert_serving.specs.cert_purpose.specs.Purposes.{ArePurposes}
use Rattle.cert_serving.specs.declared.names.Choice.{Choice}
use Rattle.cert_serving.specs.GeneralNames.{GeneralName, AreGeneralNames, element_of_name, general_name_octets}
use Rattle.cert_serving.proofs.Choices.{one_choice, tag_below}
use Rattle.cert_reasons.proofs.Reading.{IsLong, ended}
use Rattle.cert_reasons.proofs.Contents.{purposes_long, names_long}

-- octets begin with one element at most
abbrev IsOne : {X : Type 0} → (X → List ℕ) → Type 0
IsOne {X} octets = (x y : X) (a b : List ℕ) → length (octets x ++ a) < 2 ^ 64 → length (octets y ++ b) < 2 ^ 64 → octets x ++ a ≡ octets y ++ b → (x ≡ y) × (a ≡ b)

once : {X : Type 0} (octets : X → List ℕ) → IsLong octets → IsOne octets → (xs ys : List X) → length (flat_map octets xs) < 2 ^ 64 → flat_map octets xs ≡ flat_map octets ys → xs ≡ ys
once octets long one [] ys small e = sym (ended octets ys long e)
once octets long one (x ∷ xs) [] small e = ended octets (x ∷ xs) long (sym e)
once octets long one (x ∷ xs) (y ∷ ys) small e =
    let P : List ℕ → Type 0 = λ s. length s < 2 ^ 64 in
    let split : octets x ++ flat_map octets xs ≡ octets y ++ flat_map octets ys = sym (flat_map-cons octets x xs) ∙ e ∙ flat_map-cons octets y ys in
    let first : length (octets x ++ flat_map octets xs) < 2 ^ 64 = subst P (flat_map-cons octets x xs) small in
    let second : length (octets y ++ flat_map octets ys) < 2 ^ 64 = subst P split first in
    let both = one x y (flat_map octets xs) (flat_map octets ys) first second split in
    let n = length-append (octets x) (flat_map octets xs) in
    ap₂ (λ z zs. z ∷ zs) both.0 (once octets long one xs ys (omega arith) both.1)

element_fits : (e : Element) (rest : List ℕ) → length (element_octets e ++ rest) < 2 ^ 64 → length e.content < 2 ^ 64
element_fits e rest small =
    let h = strict_header (head_of_element e) in
    let one : length (h ++ e.content) ≡ length h + length e.content = length-append h e.content in
    let two : length ((h ++ e.content) ++ rest) ≡ length (h ++ e.content) + length rest = length-append (h ++ e.content) rest in
    omega arith

-- ---- values by their contents

abbrev sequence_of : List ℕ → Element
sequence_of content = record { class = 0; constructed = true; tag = 16; content = content }

is_sequence : (content rest : List ℕ) → length (sequence_octets content ++ rest) < 2 ^ 64 → IsElement (sequence_of content)
is_sequence content rest small = record { class = lit< tt; tag = lit< tt; size = element_fits (sequence_of content) rest small }

one_content : (a b : List ℕ) → length (sequence_octets a) < 2 ^ 64 → sequence_octets a ≡ sequence_octets b → a ≡ b
one_content a b small e =
    let P : List ℕ → Type 0 = λ s. length s < 2 ^ 64 in
    let first : length (sequence_octets a ++ []) < 2 ^ 64 = subst P (sym (append-nil (sequence_octets a))) small in
    let second : length (sequence_octets b ++ []) < 2 ^ 64 = subst P (ap (λ s. s ++ []) e) first in
    let one = one_element_lem (sequence_of a) (sequence_of b) [] [] (is_sequence a [] first) (is_sequence b [] second) (ap (λ s. s ++ []) e) in
    ap (λ (x : Element). x.content) one.0

content_fits : (value content : List ℕ) → length value < 2 ^ 64 → value ≡ sequence_octets content → length content < 2 ^ 64
content_fits value content small e = element_fits (sequence_of content) [] (subst (λ s. length s < 2 ^ 64) (e ∙ sym (append-nil (sequence_octets content))) small)

-- ---- purposes

abbrev purpose_element : Identifier → Element
purpose_element i = record { class = 0; constructed = false; tag = 6; content = i }

one_purpose : IsOne identifier_octets
one_purpose x y a b first second e =
    let one = one_element_lem (purpose_element x) (purpose_element y) a b (record { class = lit< tt; tag = lit< tt; size = element_fits (purpose_element x) a first })
    (record { class = lit< tt; tag = lit< tt; size = element_fits (purpose_element y) b second }) e in
    (ap (λ (z : Element). z.content) one.0, one.1)

pub purposes_once : (value : List ℕ) (ps qs : List Identifier) → length value < 2 ^ 64 → ArePurposes value ps → ArePurposes value qs → ps ≡ qs
purposes_once value ps qs small a b =
    let same = one_content (flat_map identifier_octets ps) (flat_map identifier_octets qs) (subst (λ s. length s < 2 ^ 64) a.spelled small) (sym a.spelled ∙ b.spelled) in
    once identifier_octets purposes_long one_purpose ps qs (content_fits value (flat_map identifier_octets ps) small a.spelled) same

-- ---- names

is_name : (g : GeneralName) (rest : List ℕ) → length (general_name_octets g ++ rest) < 2 ^ 64 → IsElement (element_of_name g)
is_name g rest small = record { class = lit< tt; tag = tag_below g.choice; size = element_fits (element_of_name g) rest small }

abbrev named_so : Choice → List ℕ → GeneralName
named_so choice content = record { choice = choice; content = content }

one_name : IsOne general_name_octets
one_name g h a b first second e =
    let one = one_element_lem (element_of_name g) (element_of_name h) a b (is_name g a first) (is_name h b second) e in
    (ap₂ named_so (one_choice g.choice h.choice (ap (λ (x : Element). x.tag) one.0)) (ap (λ (x : Element). x.content) one.0), one.1)

pub names_once : (value : List ℕ) (gs hs : List GeneralName) → length value < 2 ^ 64 → AreGeneralNames value gs → AreGeneralNames value hs → gs ≡ hs
names_once value gs hs small a b =
    let same = one_content (flat_map general_name_octets gs) (flat_map general_name_octets hs) (subst (λ s. length s < 2 ^ 64) a.spelled small) (sym a.spelled ∙ b.spelled) in
    once general_name_octets names_long one_name gs hs (content_fits value (flat_map general_name_octets gs) small a.spelled) same

-- an empty sequence has no purposes
pub no_purposes_in : (ps : List Identifier) → ArePurposes (sequence_octets []) ps → ⊥
no_purposes_in ps a = a.some (ended identifier_octets ps purposes_long (one_content [] (flat_map identifier_octets ps) (lit< tt) a.spelled))
