-- A certificate's extensions are short: their values are among its octets.
use Rattle.std.proofs.Common.{subst, zero, suc, ℕ, ◌^◌, ◌<◌, ◌≤◌, List, [], ◌∷◌, ◌++◌, length, length-append, arith, flat_map, refl, lit<, true, false, le_trans, Contains}
use Rattle.std.specs.List.{concat}
use Rattle.asn1_core.specs.Elements.{Element, element_octets, head_of_element}
use Rattle.asn1_core.specs.Strict.{strict_header}
use Rattle.der_tree.proofs.Leveled.{object_to}
use Rattle.cert_model.specs.Class.{IsCertificateItem}
use Rattle.cert_model.specs.Fields.{Certificate, Extension}
use Rattle.cert_model.specs.Octets.{algorithm_octets, bit_field_octets, certificate_octets, extension_octets, extensions_octets, flag_octets, identifier_octets, implicit_bits_octets, key_octets, name_octets, number_octets, optional_octets, primitive_octets, tagged_extensions_octets, tbs_certificate_octets, validity_octets, version_octets}
use Rattle.cert_model.proofs.Bounds.{object_short}
use Rattle.certpath_why.specs.Laws.{AreShort}

after : (a b : List ℕ) → length b ≤ length (a ++ b)
after a b = omega (arith, length-append a b)

before : (a b : List ℕ) → length a ≤ length (a ++ b)
before a b = omega (arith, length-append a b)

further : (n : ℕ) (a b : List ℕ) → n ≤ length b → n ≤ length (a ++ b)
further n a b le = omega (arith, length-append a b, le)

in_element : (e : Element) → length e.content ≤ length (element_octets e)
in_element e = after (strict_header (head_of_element e)) e.content

in_pieces : (s : List ℕ) (pieces : List (List ℕ)) → Contains pieces s → length s ≤ length (concat pieces)
in_pieces s [] at = let lt = at.1 in absurd (omega arith)
in_pieces s (x ∷ xs) (zero, lt, is) = subst (λ (z : List ℕ). length z ≤ length (x ++ concat xs)) is (before x (concat xs))
in_pieces s (x ∷ xs) (suc k, lt, is) = let less : k < length xs = omega (arith, lt) in further (length s) x (concat xs) (in_pieces s xs (k, less, is))

in_each : {X : Type 0} (write : X → List ℕ) (xs : List X) (x : X) → Contains xs x → length (write x) ≤ length (flat_map write xs)
in_each write [] x at = let lt = at.1 in absurd (omega arith)
in_each write (y ∷ ys) x (zero, lt, is) = subst (λ z. length (write z) ≤ length (write y ++ flat_map write ys)) is (before (write y) (flat_map write ys))
in_each write (y ∷ ys) x (suc k, lt, is) = let less : k < length ys = omega (arith, lt) in further (length (write x)) (write y) (flat_map write ys) (in_each write ys x (k, less, is))

abbrev in_sequence : List ℕ → Element
in_sequence content = record { class = 0; constructed = true; tag = 16; content = content }

in_extension : (e : Extension) → length e.value ≤ length (extension_octets e)
unfolding extension_octets
in_extension e =
    let pieces = identifier_octets e.identifier ∷ flag_octets e.critical ∷ primitive_octets 4 e.value ∷ [] in
    le_trans (in_element (record { class = 0; constructed = false; tag = 4; content = e.value }))
    (le_trans (in_pieces (primitive_octets 4 e.value) pieces (2, lit< tt, refl)) (in_element (in_sequence (concat pieces))))

in_extensions : (es : List Extension) (e : Extension) → Contains es e → length e.value ≤ length (extensions_octets es)
unfolding extensions_octets
in_extensions es e at = le_trans (in_extension e) (le_trans (in_each extension_octets es e at) (in_element (in_sequence (flat_map extension_octets es))))

in_tagged : (es : List Extension) (e : Extension) → Contains es e → length e.value ≤ length (tagged_extensions_octets 3 es)
in_tagged [] e at = let lt = at.1 in absurd (omega arith)
in_tagged (x ∷ es) e at = le_trans (in_extensions (x ∷ es) e at) (in_element (record { class = 2; constructed = true; tag = 3; content = extensions_octets (x ∷ es) }))

in_tbs : (c : Certificate) (e : Extension) → Contains c.extensions e → length e.value ≤ length (tbs_certificate_octets c)
unfolding tbs_certificate_octets
in_tbs c e at =
    let pieces = version_octets c.version ∷ number_octets c.serial ∷ algorithm_octets c.signature
    ∷ name_octets c.issuer ∷ validity_octets c.not_before c.not_after ∷ name_octets c.subject ∷ key_octets c.key
    ∷ optional_octets (implicit_bits_octets 1) c.issuer_id ∷ optional_octets (implicit_bits_octets 2) c.subject_id
    ∷ tagged_extensions_octets 3 c.extensions ∷ [] in
    le_trans (in_tagged c.extensions e at) (le_trans (in_pieces (tagged_extensions_octets 3 c.extensions) pieces (9, lit< tt, refl)) (in_element (in_sequence (concat pieces))))

in_certificate : (c : Certificate) (e : Extension) → Contains c.extensions e → length e.value ≤ length (certificate_octets c)
unfolding certificate_octets
in_certificate c e at =
    let pieces = tbs_certificate_octets c ∷ algorithm_octets c.algorithm ∷ bit_field_octets c.signature_value ∷ [] in
    le_trans (in_tbs c e at) (le_trans (in_pieces (tbs_certificate_octets c) pieces (0, lit< tt, refl)) (in_element (in_sequence (concat pieces))))

pub short_extensions : (s : List ℕ) (c : Certificate) → IsCertificateItem s c → AreShort c.extensions
short_extensions s c h e at =
    let object = object_to 50 s h.object.object in
    let long : length s < 2 ^ 40 = subst (λ (z : List ℕ). length z < 2 ^ 40) object.2 (object_short 50 object.0 object.1) in
    let inside : length e.value ≤ length s = subst (λ (z : List ℕ). length e.value ≤ length z) h.spelled (in_certificate c e at) in
    omega (arith, long, inside)
