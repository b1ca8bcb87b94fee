-- The values of a certificate's extensions are no longer than the certificate.
use Rattle.std.proofs.Common.{◌≡◌, ◌∙◌, sym, ap, true, false, ℕ, zero, suc, ◌<◌, ◌≤◌, List, [], ◌∷◌, ◌++◌, length, arith, length-append, get_or, lit<}
use Rattle.std.specs.List.{All, flat_map, concat}
use Rattle.std.proofs.lemmas.List.{append-nil}
use Rattle.asn1_core.specs.Strict.{strict_header}
use Rattle.asn1_core.specs.Elements.{Element, head_of_element, element_octets}
use Rattle.asn1_core.proofs.StrictLaws.{one_element_lem}
use Rattle.der_tree.specs.Object.{IsDerObject}
use Rattle.cert_model.specs.Fields.{Extension, Certificate}
use Rattle.cert_model.specs.Octets.{sequence_octets, primitive_octets, identifier_octets, flag_octets, extension_octets, extensions_octets, tagged_extensions_octets, optional_octets, implicit_bits_octets}
use Rattle.cert_model.specs.Class.{IsCertificateItem}
use Rattle.cert_model.proofs.Bounds.{IsShort, cut_short, element_in}
use Rattle.cert_judge.specs.Windows.{parts_of, tbs_content}
use Rattle.cert_judge.proofs.WindowFacts.{signed_rest, certificate_in_parts}

-- a content is no longer than its element
within : (e : Element) → length e.content ≤ length (element_octets e)
within e = omega (arith, length-append (strict_header (head_of_element e)) e.content)

third_of_three : (a b c : List ℕ) → length c ≤ length (concat (a ∷ b ∷ c ∷ []))
third_of_three a b c = omega (arith, length-append a (b ++ (c ++ [])), length-append b (c ++ []), length-append c [])

value_in_extension : (e : Extension) → length e.value ≤ length (extension_octets e)
unfolding extension_octets
value_in_extension e =
    let value = primitive_octets 4 e.value in
    let parts = concat (identifier_octets e.identifier ∷ flag_octets e.critical ∷ value ∷ []) in
    let a = within (record { class = 0; constructed = false; tag = 4; content = e.value }) in
    let b = third_of_three (identifier_octets e.identifier) (flag_octets e.critical) value in
    let c = within (record { class = 0; constructed = true; tag = 16; content = parts }) in
    omega (arith, a, b, c)

piece_in : (f : Extension → List ℕ) (xs : List Extension) (k : ℕ) (d : Extension) → k < length xs → length (f (get_or xs k d)) ≤ length (flat_map f xs)
piece_in f [] k d lt = absurd (omega arith)
piece_in f (x ∷ xs) zero d lt = omega (arith, length-append (f x) (flat_map f xs))
piece_in f (x ∷ xs) (suc k) d lt = let below : k < length xs = omega arith in omega (arith, length-append (f x) (flat_map f xs), piece_in f xs k d below)

extensions_within : (es : List Extension) → length (flat_map extension_octets es) ≤ length (extensions_octets es)
unfolding extensions_octets
extensions_within es = within (record { class = 0; constructed = true; tag = 16; content = flat_map extension_octets es })

extensions_in : (es : List Extension) → length (flat_map extension_octets es) ≤ length (tagged_extensions_octets 3 es)
extensions_in [] = omega arith
extensions_in (e ∷ es) =
    let a = extensions_within (e ∷ es) in
    let b = within (record { class = 2; constructed = true; tag = 3; content = extensions_octets (e ∷ es) }) in
    omega (arith, a, b)

extensions_in_tbs : (c : Certificate) → length (flat_map extension_octets c.extensions) ≤ length (tbs_content c)
extensions_in_tbs c =
    let first = optional_octets (implicit_bits_octets 1) c.issuer_id in
    let second = optional_octets (implicit_bits_octets 2) c.subject_id in
    let third = tagged_extensions_octets 3 c.extensions in
    omega (arith, length-append (concat (parts_of c)) (concat (first ∷ second ∷ third ∷ [])), third_of_three first second third, extensions_in c.extensions)

short_of : (k : ℕ) (s : List ℕ) → IsDerObject (suc k) s → IsShort s
unfolding IsDerObject
short_of k s p = cut_short s p.0 p.1

pub values_small : (octets : List ℕ) (c : Certificate) → IsCertificateItem octets c → All (λ (e : Extension). length e.value ≤ 4_294_967_295) c.extensions
values_small octets c p k d lt =
    let item = p.object.item in
    let tbs = sequence_octets (tbs_content c) in
    let rest = signed_rest c.algorithm c.signature_value in
    let whole : octets ≡ sequence_octets (tbs ++ rest) = sym p.spelled ∙ certificate_in_parts c in
    let short = short_of 49 octets p.object.object in
    let e : Element = record { class = 0; constructed = true; tag = 16; content = item.content } in
    let f : Element = record { class = 0; constructed = true; tag = 16; content = tbs ++ rest } in
    let a = element_in e [] [] octets (lit< tt) (lit< tt) (item.spelled ∙ sym (append-nil (element_octets e))) short in
    let b = element_in f [] [] octets (lit< tt) (lit< tt) (whole ∙ sym (append-nil (element_octets f))) short in
    let same = one_element_lem e f [] [] a.0 b.0 (append-nil (element_octets e) ∙ sym item.spelled ∙ whole ∙ sym (append-nil (element_octets f))) in
    let size : length item.content ≡ length (tbs ++ rest) = ap (λ (z : Element). length z.content) same.0 in
    let outer = within (record { class = 0; constructed = true; tag = 16; content = tbs_content c }) in
    omega (arith, item.small, size, length-append tbs rest, outer, extensions_in_tbs c, piece_in extension_octets c.extensions k d lt, value_in_extension (get_or c.extensions k d))
