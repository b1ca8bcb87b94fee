-- If a step of reading finds nothing, no fields write the octets.
use Rattle.std.proofs.Common.{◌≡◌, ◌∙◌, sym, ap, ℕ, Bool, true, false, ◌&&◌, List, Option, Some, None, subst}
use Rattle.der_tree.specs.Tree.{Tree, octets}
use Rattle.der_tree.specs.Shape.{IsObject}
use Rattle.cert_model.specs.Fields.{Bits, Extension, Certificate, RevocationList}
use Rattle.cert_model.specs.Class.{NoCertificate, NoList}
use Rattle.cert_model.specs.Pieces.{TbsPieces, tbs_at, Signed, signed_at, TbsListPieces, tbs_list_at}
use Rattle.cert_model.specs.Assembly.{version_in, id_in, AreExtensionsIn, is_some, implies, fits_version, is_version_two, entries_fit}
use Rattle.cert_model.proofs.Certificates.{extensions_small}
use Rattle.cert_model.proofs.RevocationLists.{list_extensions_small}
use Rattle.cert_model.proofs.Assemblies.{ReadsCertificate, certificate_only, ReadsList, list_only}
use Rattle.cert_model.proofs.Classes.{extensions_in_once, the_value}

none_some : {A : Type 0} (o : Option A) (x : A) → o ≡ None → o ≡ Some x → ⊥
none_some o x e f = cc

false_true : (b : Bool) → b ≡ false → b ≡ true → ⊥
false_true b e f = cc

pub no_pieces : (t : Tree) → IsObject 50 t → signed_at tbs_at t ≡ None → NoCertificate (octets t)
no_pieces t o e c p is = let r = certificate_only 50 t c o p is in none_some (signed_at tbs_at t) r.pieces e r.read

same_pieces : (t : Tree) (s : Signed TbsPieces) (c : Certificate) → signed_at tbs_at t ≡ Some s → (r : ReadsCertificate t c) → r.pieces ≡ s
same_pieces t s c e r = the_value r.pieces s (sym r.read ∙ e)

pub no_version : (t : Tree) (s : Signed TbsPieces) → IsObject 50 t → signed_at tbs_at t ≡ Some s → version_in s.signed.version ≡ None → NoCertificate (octets t)
no_version t s o e n c p is =
    let r = certificate_only 50 t c o p is in
    none_some (version_in s.signed.version) c.version n (ap (λ (z : Signed TbsPieces). version_in z.signed.version) (sym (same_pieces t s c e r)) ∙ r.version)

pub no_issuer_id : (t : Tree) (s : Signed TbsPieces) → IsObject 50 t → signed_at tbs_at t ≡ Some s → id_in s.signed.issuer_id ≡ None → NoCertificate (octets t)
no_issuer_id t s o e n c p is =
    let r = certificate_only 50 t c o p is in
    none_some (id_in s.signed.issuer_id) c.issuer_id n (ap (λ (z : Signed TbsPieces). id_in z.signed.issuer_id) (sym (same_pieces t s c e r)) ∙ r.issuer_id)

pub no_subject_id : (t : Tree) (s : Signed TbsPieces) → IsObject 50 t → signed_at tbs_at t ≡ Some s → id_in s.signed.subject_id ≡ None → NoCertificate (octets t)
no_subject_id t s o e n c p is =
    let r = certificate_only 50 t c o p is in
    none_some (id_in s.signed.subject_id) c.subject_id n (ap (λ (z : Signed TbsPieces). id_in z.signed.subject_id) (sym (same_pieces t s c e r)) ∙ r.subject_id)

pub no_extensions : (t : Tree) (s : Signed TbsPieces) → IsObject 50 t → signed_at tbs_at t ≡ Some s → ((es : List Extension) → AreExtensionsIn s.signed.extensions es → ⊥) → NoCertificate (octets t)
no_extensions t s o e n c p is =
    let r = certificate_only 50 t c o p is in
    n c.extensions (subst (λ (z : Signed TbsPieces). AreExtensionsIn z.signed.extensions c.extensions) (same_pieces t s c e r) r.extensions)

pub no_fit : (t : Tree) (s : Signed TbsPieces) (v : ℕ) (i j : Option Bits) (es : List Extension) → IsObject 50 t → signed_at tbs_at t ≡ Some s → version_in s.signed.version ≡ Some v →
    id_in s.signed.issuer_id ≡ Some i → id_in s.signed.subject_id ≡ Some j → AreExtensionsIn s.signed.extensions es → fits_version v i j es ≡ false → NoCertificate (octets t)
no_fit t s v i j es o e version issuer subject extensions n c p is =
    let r = certificate_only 50 t c o p is in
    let same = same_pieces t s c e r in
    let a : c.version ≡ v = the_value c.version v (sym r.version ∙ ap (λ (z : Signed TbsPieces). version_in z.signed.version) same ∙ version) in
    let b : c.issuer_id ≡ i = the_value c.issuer_id i (sym r.issuer_id ∙ ap (λ (z : Signed TbsPieces). id_in z.signed.issuer_id) same ∙ issuer) in
    let d : c.subject_id ≡ j = the_value c.subject_id j (sym r.subject_id ∙ ap (λ (z : Signed TbsPieces). id_in z.signed.subject_id) same ∙ subject) in
    let there = subst (λ (z : Signed TbsPieces). AreExtensionsIn z.signed.extensions c.extensions) same r.extensions in
    let f : c.extensions ≡ es = extensions_in_once s.signed.extensions c.extensions es (extensions_small 50 t s o e) there extensions in
    let fits : fits_version v i j es ≡ true = sym (ap (λ z. fits_version z c.issuer_id c.subject_id c.extensions) a ∙ ap (λ z. fits_version v z c.subject_id c.extensions) b ∙ ap (λ z. fits_version v i z c.extensions) d ∙ ap (fits_version v i j) f) ∙ r.fits in
    false_true (fits_version v i j es) n fits

pub no_list_pieces : (t : Tree) → IsObject 50 t → signed_at tbs_list_at t ≡ None → NoList (octets t)
no_list_pieces t o e l p is = let r = list_only 50 t l o p is in none_some (signed_at tbs_list_at t) r.pieces e r.read

same_list_pieces : (t : Tree) (s : Signed TbsListPieces) (l : RevocationList) → signed_at tbs_list_at t ≡ Some s → (r : ReadsList t l) → r.pieces ≡ s
same_list_pieces t s l e r = the_value r.pieces s (sym r.read ∙ e)

pub no_list_extensions : (t : Tree) (s : Signed TbsListPieces) → IsObject 50 t → signed_at tbs_list_at t ≡ Some s → ((es : List Extension) → AreExtensionsIn s.signed.extensions es → ⊥) → NoList (octets t)
no_list_extensions t s o e n l p is =
    let r = list_only 50 t l o p is in
    n l.extensions (subst (λ (z : Signed TbsListPieces). AreExtensionsIn z.signed.extensions l.extensions) (same_list_pieces t s l e r) r.extensions)

abbrev list_fits : Signed TbsListPieces → List Extension → Bool
list_fits s es = entries_fit s.signed.version s.signed.entries && implies (is_some es) (is_version_two s.signed.version)

pub no_list_fit : (t : Tree) (s : Signed TbsListPieces) (es : List Extension) → IsObject 50 t → signed_at tbs_list_at t ≡ Some s → AreExtensionsIn s.signed.extensions es →
    (entries_fit s.signed.version s.signed.entries && implies (is_some es) (is_version_two s.signed.version)) ≡ false → NoList (octets t)
no_list_fit t s es o e extensions n l p is =
    let r = list_only 50 t l o p is in
    let same = same_list_pieces t s l e r in
    let there = subst (λ (z : Signed TbsListPieces). AreExtensionsIn z.signed.extensions l.extensions) same r.extensions in
    let f : l.extensions ≡ es = extensions_in_once s.signed.extensions l.extensions es (list_extensions_small 50 t s o e) there extensions in
    let fits : list_fits s es ≡ true = sym (ap (λ (z : Signed TbsListPieces). list_fits z l.extensions) same ∙ ap (list_fits s) f) ∙ r.fits in
    false_true (list_fits s es) n fits
