-- The parts of a certificate, and of a list.
use Rattle.std.specs.List.{concat, flat_map, AllByRecursion}
use Rattle.std.proofs.Common.{◌≡◌, ◌∙◌, ap, sym, refl, ℕ, ◌+◌, List, [], ◌∷◌, ◌++◌, Option, Some, None, Bool, true, false, if◌then◌else◌, nat_lt, length, arith, lit<}
use Rattle.std.proofs.lemmas.List.Folds.{concat-append}
use Rattle.asn1_core.specs.Elements.{element_octets}
use Rattle.cert_model.specs.Fields.{Algorithm, Name, Bits, Key, CivilTime, Certificate, RevocationList}
use Rattle.cert_model.specs.Octets.{sequence_octets, explicit_octets, identifier_octets, relative_name_octets, time_octets, validity_octets, number_octets, algorithm_octets, name_octets, key_octets, optional_octets, implicit_bits_octets, tagged_extensions_octets, tbs_certificate_octets, certificate_octets, bit_field_octets, entries_octets, tbs_cert_list_octets, list_octets}
use Rattle.cert_model.specs.Parts.{IsPart}
use Rattle.cert_judge.specs.Windows.{fixed_parts, optional_parts, tbs_content, behind_version, list_front, tbs_list_content, issuer_place}

split : (b : Bool) (v : List ℕ) (fixed opts : List (List ℕ)) → concat ((if b then v else []) ∷ (fixed ++ opts)) ≡ concat (if b then v ∷ fixed else fixed) ++ concat opts
split true v fixed opts = concat-append (v ∷ fixed) opts
split false v fixed opts = concat-append fixed opts

all_if : (b : Bool) (v : List ℕ) (fixed : List (List ℕ)) → (b ≡ true → IsPart v) → AllByRecursion IsPart fixed → AllByRecursion IsPart (if b then v ∷ fixed else fixed)
all_if true v fixed p all = (p refl, all)
all_if false v fixed p all = all

number_part : (s : List ℕ) → IsPart (number_octets s)
number_part s = (record { class = 0; constructed = false; tag = 2; content = s }, lit< tt, lit< tt, refl)

pub sequence_part : (s : List ℕ) → IsPart (sequence_octets s)
sequence_part s = (record { class = 0; constructed = true; tag = 16; content = s }, lit< tt, lit< tt, refl)

version_part : (n : ℕ) → IsPart (explicit_octets 0 (number_octets (n ∷ [])))
version_part n = (record { class = 2; constructed = true; tag = 0; content = number_octets (n ∷ []) }, lit< tt, lit< tt, refl)

pub validity_part : (not_before not_after : CivilTime) → IsPart (validity_octets not_before not_after)
validity_part not_before not_after = sequence_part (time_octets not_before ++ time_octets not_after)

algorithm_part : (a : Algorithm) → IsPart (algorithm_octets a)
unfolding algorithm_octets
algorithm_part a = sequence_part (identifier_octets a.identifier ++ optional_octets element_octets a.parameters)

pub name_part : (n : Name) → IsPart (name_octets n)
unfolding name_octets
name_part n = sequence_part (flat_map relative_name_octets n)

pub key_part : (k : Key) → IsPart (key_octets k)
unfolding key_octets
key_part k = sequence_part (algorithm_octets k.algorithm ++ bit_field_octets k.key)

tbs_is : (c : Certificate) → tbs_certificate_octets c ≡ sequence_octets (tbs_content c)
unfolding tbs_certificate_octets
tbs_is c =
    let opts = optional_octets (implicit_bits_octets 1) c.issuer_id ∷ optional_octets (implicit_bits_octets 2) c.subject_id ∷ tagged_extensions_octets 3 c.extensions ∷ [] in
    ap sequence_octets (split (nat_lt 0 c.version) (explicit_octets 0 (number_octets (c.version ∷ []))) (fixed_parts c) opts)

-- after the first part
abbrev pub signed_rest : Algorithm → Bits → List ℕ
signed_rest a b = concat (algorithm_octets a ∷ bit_field_octets b ∷ [])

certificate_is : (c : Certificate) → certificate_octets c ≡ sequence_octets (tbs_certificate_octets c ++ signed_rest c.algorithm c.signature_value)
unfolding certificate_octets
certificate_is c = refl

pub certificate_in_parts : (c : Certificate) → certificate_octets c ≡ sequence_octets (sequence_octets (tbs_content c) ++ signed_rest c.algorithm c.signature_value)
certificate_in_parts c = certificate_is c ∙ ap (λ z. sequence_octets (z ++ signed_rest c.algorithm c.signature_value)) (tbs_is c)

-- the parts before the issuer
abbrev pub certificate_front : Certificate → List (List ℕ)
certificate_front c =
    let parts = number_octets c.serial ∷ algorithm_octets c.signature ∷ [] in
    if nat_lt 0 c.version then explicit_octets 0 (number_octets (c.version ∷ [])) ∷ parts else parts

-- from the key on, from the subject on, and so forth
abbrev pub from_key : Certificate → List ℕ
from_key c = key_octets c.key ++ optional_parts c

abbrev pub from_subject : Certificate → List ℕ
from_subject c = name_octets c.subject ++ from_key c

abbrev pub from_validity : Certificate → List ℕ
from_validity c = validity_octets c.not_before c.not_after ++ from_subject c

abbrev pub from_issuer : Certificate → List ℕ
from_issuer c = name_octets c.issuer ++ from_validity c

pub certificate_front_all : (c : Certificate) → AllByRecursion IsPart (certificate_front c)
certificate_front_all c =
    all_if (nat_lt 0 c.version) (explicit_octets 0 (number_octets (c.version ∷ []))) (number_octets c.serial ∷ algorithm_octets c.signature ∷ []) (λ e. version_part c.version) (number_part c.serial, (algorithm_part c.signature, tt))

counted : (b : Bool) (v : List ℕ) (parts : List (List ℕ)) → length (if b then v ∷ parts else parts) ≡ (if b then 1 else 0) + length parts
counted true v parts = omega arith
counted false v parts = omega arith

pub certificate_front_counted : (c : Certificate) (first : ℕ) → first ≡ (if nat_lt 0 c.version then 1 else 0) → length (certificate_front c) ≡ first + 2
certificate_front_counted c first e = rw e (counted (nat_lt 0 c.version) (explicit_octets 0 (number_octets (c.version ∷ []))) (number_octets c.serial ∷ algorithm_octets c.signature ∷ []))

parted : (b : Bool) (v s a : List ℕ) (later opts : List (List ℕ)) → concat (if b then v ∷ s ∷ a ∷ later else s ∷ a ∷ later) ++ concat opts ≡ concat (if b then v ∷ s ∷ a ∷ [] else s ∷ a ∷ []) ++ concat (later ++ opts)
parted true v s a later opts = sym (concat-append (v ∷ s ∷ a ∷ later) opts) ∙ concat-append (v ∷ s ∷ a ∷ []) (later ++ opts)
parted false v s a later opts = sym (concat-append (s ∷ a ∷ later) opts) ∙ concat-append (s ∷ a ∷ []) (later ++ opts)

pub tbs_content_parted : (c : Certificate) → tbs_content c ≡ concat (certificate_front c) ++ from_issuer c
tbs_content_parted c =
    let later = name_octets c.issuer ∷ validity_octets c.not_before c.not_after ∷ name_octets c.subject ∷ key_octets c.key ∷ [] in
    let opts = optional_octets (implicit_bits_octets 1) c.issuer_id ∷ optional_octets (implicit_bits_octets 2) c.subject_id ∷ tagged_extensions_octets 3 c.extensions ∷ [] in
    parted (nat_lt 0 c.version) (explicit_octets 0 (number_octets (c.version ∷ []))) (number_octets c.serial) (algorithm_octets c.signature) later opts

split_version : (o : Option ℕ) (front back : List (List ℕ)) → concat (optional_octets (λ version. number_octets (version ∷ [])) o ∷ (front ++ back)) ≡ concat (behind_version o front) ++ concat back
split_version None front back = concat-append front back
split_version (Some v) front back = concat-append (number_octets (v ∷ []) ∷ front) back

list_tbs_is : (l : RevocationList) → tbs_cert_list_octets l ≡ sequence_octets (tbs_list_content l)
unfolding tbs_cert_list_octets
list_tbs_is l =
    let back = name_octets l.issuer ∷ time_octets l.this_update ∷ optional_octets time_octets l.next_update ∷ entries_octets l.entries ∷ tagged_extensions_octets 0 l.extensions ∷ [] in
    ap sequence_octets (split_version l.version (algorithm_octets l.signature ∷ []) back)

list_is : (l : RevocationList) → list_octets l ≡ sequence_octets (tbs_cert_list_octets l ++ signed_rest l.algorithm l.signature_value)
unfolding list_octets
list_is l = refl

pub list_in_parts : (l : RevocationList) → list_octets l ≡ sequence_octets (sequence_octets (tbs_list_content l) ++ signed_rest l.algorithm l.signature_value)
list_in_parts l = list_is l ∙ ap (λ z. sequence_octets (z ++ signed_rest l.algorithm l.signature_value)) (list_tbs_is l)

all_behind : (o : Option ℕ) (front : List (List ℕ)) → AllByRecursion IsPart front → AllByRecursion IsPart (behind_version o front)
all_behind None front all = all
all_behind (Some v) front all = (number_part (v ∷ []), all)

pub list_front_all : (l : RevocationList) → AllByRecursion IsPart (list_front l)
list_front_all l = all_behind l.version (algorithm_octets l.signature ∷ []) (algorithm_part l.signature, tt)

counted_behind : (o : Option ℕ) (first : List ℕ) → length (behind_version o (first ∷ [])) ≡ issuer_place o
counted_behind None first = refl
counted_behind (Some v) first = refl

pub list_front_counted : (l : RevocationList) (place : ℕ) → place ≡ issuer_place l.version → length (list_front l) ≡ place
list_front_counted l place e = counted_behind l.version (algorithm_octets l.signature) ∙ sym e
