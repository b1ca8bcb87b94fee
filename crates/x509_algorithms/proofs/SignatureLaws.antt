-- What an algorithm of signatures is, it is by its identifier, or by that and its parameters, and never by both.
use Rattle.std.proofs.Common.{◌≡◌, ◌∙◌, refl, sym, ap, subst, ℕ, List, ◌++◌, Option, None, Some, option_map, Result, Ok, Err, IfErr, ◌⊎◌, inl, inr}
use Rattle.std.specs.Int.Digits.{AllBelowBase}
use Rattle.std.specs.Prelude.{bytes_eq, take, true, false}
use Rattle.asn1_any.specs.Views.{any_of}
use Rattle.asn1_any.specs.declared.any.Any.{Any}
use Rattle.asn1_core.specs.Elements.{Element}
use Rattle.x509_core.specs.Grammar.{One}
use Rattle.x509_core.specs.Leaves.{IsOid}
use Rattle.x509_names.specs.Fields.{Algorithm}
use Rattle.x509_names.specs.View.{algorithm_view}
use Rattle.x509_names.specs.declared.algorithm.AlgorithmIdentifier.{AlgorithmIdentifier}
use Rattle.x509_core.specs.declared.error.X509Error.{X509Error}
use Rattle.x509_core.specs.declared.error.X509Error.TheVariants as errors
use Rattle.x509_algorithms.specs.Answers.{IsOrMemory, IsUnsigned}
use Rattle.x509_algorithms.specs.Identifiers.{pkcs_1, rsassa_pss_id, ansi_x962_signatures, x9_57, ed25519_id}
use Rattle.x509_algorithms.specs.Parameters.{IsMaskGen, PssParts, PssOf}
use Rattle.x509_algorithms.specs.Signatures.{IsPss, IsPlain, is_rsa, is_ecdsa, is_dsa, is_ed25519, IsSignature, of_pss, of_plain}
use Rattle.x509_algorithms.specs.Reading.{parameters_of, pss_parts_at}
use Rattle.x509_algorithms.specs.Values as values
use Rattle.x509_algorithms.proofs.Laws.{means_only, pss_reading}

pub plain_no_pss : (identifier : List ℕ) (v : values.SignatureAlgorithm) → identifier ≡ rsassa_pss_id → IsPlain identifier v → ⊥
plain_no_pss identifier v is (is_rsa other front same) = other is
plain_no_pss identifier v is (is_ecdsa front same) = let wrong : rsassa_pss_id ≡ ansi_x962_signatures ++ front.rest = sym is ∙ front.whole_is in cc
plain_no_pss identifier v is (is_dsa front same) = let wrong : rsassa_pss_id ≡ x9_57 ++ front.rest = sym is ∙ front.whole_is in cc
plain_no_pss identifier v is (is_ed25519 front same) = let wrong : rsassa_pss_id ≡ ed25519_id = sym is ∙ front in cc

pub plain_once : (a : Algorithm) (k v : values.SignatureAlgorithm) → IsPlain a.identifier k → ((w : values.SignatureAlgorithm) → IsPlain a.identifier w → k ≡ w) → IsSignature a v → k ≡ v
plain_once a k v plain once (of_pss p there same) = absurd (plain_no_pss a.identifier k there.identifier plain)
plain_once a k v plain once (of_plain is) = once v is

pub pss_once : (a : Algorithm) (q : values.RsaSsaPssParams) (v : values.SignatureAlgorithm) → ((w : values.SignatureAlgorithm) → IsPlain a.identifier w → ⊥) → ((p : values.RsaSsaPssParams) → IsPss a p → q ≡ p) → IsSignature a v → values.rsassa_pss q ≡ v
pss_once a q v none once (of_pss p there same) = ap values.rsassa_pss (once p there) ∙ sym same
pss_once a q v none once (of_plain is) = absurd (none v is)

pub pss_alone : (a : Algorithm) (Q : Type 0) (v : values.SignatureAlgorithm) → ((w : values.SignatureAlgorithm) → IsPlain a.identifier w → ⊥) → ((p : values.RsaSsaPssParams) → IsPss a p → Q) → IsSignature a v → Q
pss_alone a Q v none so (of_pss p there same) = so p there
pss_alone a Q v none so (of_plain is) = absurd (none v is)

-- an element that was there is the one that the error names
pub element_is : (o : Option Any) (any : Any) (e : Element) → o ≡ Some any → option_map any_of o ≡ Some e → any_of any ≡ e
element_is None any e is given = cc
element_is (Some b) any e is given =
    let same : b ≡ any = cc in
    let told : any_of b ≡ e = cc in
    subst (λ z. any_of z ≡ e) same told

pub mask_there : (a : AlgorithmIdentifier) (any : Any) (mgf hash left : List ℕ) → a.parameters ≡ Some any → mgf ≡ a.algorithm → One IsOid any.content.now hash left
    → IsMaskGen (Some (algorithm_view a)) (record { mgf = mgf; hash = hash })
mask_there a any mgf hash left is same one = (same, any_of any, left, ap (option_map any_of) is, one)

pub mask_none : (a : AlgorithmIdentifier) (any : Any) (v : values.MaskGenAlgorithm) → a.parameters ≡ Some any → ((h left : List ℕ) → One IsOid any.content.now h left → ⊥) → IsMaskGen (Some (algorithm_view a)) v → ⊥
mask_none a any v is none mask =
    let same = element_is a.parameters any mask.1 is mask.3 in
    none v.hash mask.2 (subst (λ (z : Element). One IsOid z.content v.hash mask.2) (sym same) mask.4)

pub mask_once : (a : AlgorithmIdentifier) (any : Any) (mgf hash : List ℕ) (v : values.MaskGenAlgorithm) → a.parameters ≡ Some any → mgf ≡ a.algorithm → ((h left : List ℕ) → One IsOid any.content.now h left → hash ≡ h)
    → IsMaskGen (Some (algorithm_view a)) v → ◌≡◌ {A = values.MaskGenAlgorithm} (record { mgf = mgf; hash = hash }) v
mask_once a any mgf hash v is same once mask =
    let element = element_is a.parameters any mask.1 is mask.3 in
    let h = once v.hash mask.2 (subst (λ (z : Element). One IsOid z.content v.hash mask.2) (sym element) mask.4) in
    rw (h, same, sym mask.0) refl

unsigned_by : (a : Algorithm) (x : Element) (e : X509Error) → a.identifier ≡ rsassa_pss_id → a.parameters ≡ Some x → IsOrMemory errors.InvalidSignatureValue e → IsUnsigned a e
unsigned_by a x e id there (inl named) = inl named
unsigned_by a x e id there (inr memory) = inr (memory, id, x, there)

pub unsigned_still : {X : Type 0} (a : Algorithm) (x : Element) (r : Result X X509Error) → a.identifier ≡ rsassa_pss_id → a.parameters ≡ Some x → IfErr r (IsOrMemory errors.InvalidSignatureValue) → IfErr r (IsUnsigned a)
unsigned_still a x (Ok v) id there refused = tt
unsigned_still a x (Err e) id there refused = unsigned_by a x e id there refused

-- ---- an algorithm is one thing at most

fronts_differ : (front other identifier : List ℕ) (r s : List ℕ) → identifier ≡ front ++ r → identifier ≡ other ++ s → front ++ r ≡ other ++ s
fronts_differ front other identifier r s first second = sym first ∙ second

-- the fifth octet decides
arcs_differ : (identifier r s : List ℕ) → identifier ≡ ansi_x962_signatures ++ r → identifier ≡ x9_57 ++ s → ⊥
arcs_differ identifier r s ecdsa dsa =
    let wrong : false ≡ true = ap (λ (z : List ℕ). bytes_eq (take 5 z) (take 5 x9_57)) (sym ecdsa ∙ dsa) in
    cc

plain_one : (i : List ℕ) (v w : values.SignatureAlgorithm) → IsPlain i v → IsPlain i w → v ≡ w
plain_one i v w (is_rsa other front same) (is_rsa other2 front2 same2) = same ∙ sym same2
plain_one i v w (is_rsa other front same) (is_ecdsa front2 same2) = let wrong = fronts_differ pkcs_1 ansi_x962_signatures i front.rest front2.rest front.whole_is front2.whole_is in cc wrong
plain_one i v w (is_rsa other front same) (is_dsa front2 same2) = let wrong = fronts_differ pkcs_1 x9_57 i front.rest front2.rest front.whole_is front2.whole_is in cc wrong
plain_one i v w (is_rsa other front same) (is_ed25519 is same2) = let wrong : ed25519_id ≡ pkcs_1 ++ front.rest = sym is ∙ front.whole_is in cc wrong
plain_one i v w (is_ecdsa front same) (is_rsa other front2 same2) = let wrong = fronts_differ ansi_x962_signatures pkcs_1 i front.rest front2.rest front.whole_is front2.whole_is in cc wrong
plain_one i v w (is_ecdsa front same) (is_ecdsa front2 same2) = same ∙ sym same2
plain_one i v w (is_ecdsa front same) (is_dsa front2 same2) = absurd (arcs_differ i front.rest front2.rest front.whole_is front2.whole_is)
plain_one i v w (is_ecdsa front same) (is_ed25519 is same2) = let wrong : ed25519_id ≡ ansi_x962_signatures ++ front.rest = sym is ∙ front.whole_is in cc wrong
plain_one i v w (is_dsa front same) (is_rsa other front2 same2) = let wrong = fronts_differ x9_57 pkcs_1 i front.rest front2.rest front.whole_is front2.whole_is in cc wrong
plain_one i v w (is_dsa front same) (is_ecdsa front2 same2) = absurd (arcs_differ i front2.rest front.rest front2.whole_is front.whole_is)
plain_one i v w (is_dsa front same) (is_dsa front2 same2) = same ∙ sym same2
plain_one i v w (is_dsa front same) (is_ed25519 is same2) = let wrong : ed25519_id ≡ x9_57 ++ front.rest = sym is ∙ front.whole_is in cc wrong
plain_one i v w (is_ed25519 is same) (is_rsa other front2 same2) = let wrong : ed25519_id ≡ pkcs_1 ++ front2.rest = sym is ∙ front2.whole_is in cc wrong
plain_one i v w (is_ed25519 is same) (is_ecdsa front2 same2) = let wrong : ed25519_id ≡ ansi_x962_signatures ++ front2.rest = sym is ∙ front2.whole_is in cc wrong
plain_one i v w (is_ed25519 is same) (is_dsa front2 same2) = let wrong : ed25519_id ≡ x9_57 ++ front2.rest = sym is ∙ front2.whole_is in cc wrong
plain_one i v w (is_ed25519 is same) (is_ed25519 is2 same2) = same ∙ sym same2

means_one : (e : Element) (p q : values.RsaSsaPssParams) → AllBelowBase 256 e.content → PssOf e p → PssOf e q → p ≡ q
means_one e p q below left right =
    let first = means_only PssParts pss_parts_at pss_reading e p below left in
    let second = means_only PssParts pss_parts_at pss_reading e q below right in
    cc

pss_one : (a : Algorithm) (p q : values.RsaSsaPssParams) → ((e : Element) → a.parameters ≡ Some e → AllBelowBase 256 e.content) → IsPss a p → IsPss a q → p ≡ q
pss_one a p q below left right =
    let same : left.element ≡ right.element = let l = left.parameters in let r = right.parameters in cc in
    means_one right.element p q (below right.element right.parameters) (subst (λ z. PssOf z p) same left.means) right.means

pub signature_one : (a : Algorithm) (v w : values.SignatureAlgorithm) → ((e : Element) → a.parameters ≡ Some e → AllBelowBase 256 e.content) → IsSignature a v → IsSignature a w → v ≡ w
signature_one a v w below (of_pss p there same) (of_pss q there2 same2) = same ∙ ap values.rsassa_pss (pss_one a p q below there there2) ∙ sym same2
signature_one a v w below (of_pss p there same) (of_plain is) = absurd (plain_no_pss a.identifier w there.identifier is)
signature_one a v w below (of_plain is) (of_pss q there same) = absurd (plain_no_pss a.identifier v there.identifier is)
signature_one a v w below (of_plain is) (of_plain is2) = plain_one a.identifier v w is is2
