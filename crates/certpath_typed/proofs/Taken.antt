-- What the lenient readers take of strict items, and what else is no strict item.
use Rattle.std.proofs.Common.{◌≡◌, ◌∙◌, refl, sym, ap, subst, arith, ℕ, ◌<◌, ◌^◌, List, [], append-nil, length}
use Rattle.asn1_core.specs.declared.outcome.Err.{Err as Refusal}
use Rattle.asn1_core.specs.declared.outcome.Err.TheVariants as refusals
use Rattle.cert_model.specs.Fields.{Certificate, RevocationList}
use Rattle.cert_model.specs.Octets.{certificate_octets, list_octets}
use Rattle.cert_model.specs.Range.{AreCertificateFields, AreListFields}
use Rattle.cert_model.specs.Class.{IsCertificateItem, IsListItem}
use Rattle.cert_framing.specs.Framing.{IsItem}
use Rattle.x509_core.specs.Answers.{OrMemory}
use Rattle.x509_core.specs.declared.error.X509Error.{X509Error}
use Rattle.x509_links.specs.Readers.{IsUnparsed, certificate_view, X509Certificate as ReadCertificate, list_view, CertificateRevocationList as ReadList}
use Rattle.x509_links.specs.Grammars.{X509Certificate, CertificateRevocationList}
use Rattle.x509_links.specs.Lenient.{lenient_certificate, lenient_list}
use Rattle.x509_links.proofs.StrictCertificates.{certificate_is}
use Rattle.x509_links.proofs.StrictLists.{list_is}
use Rattle.certpath_typed.specs.ToldItems.{TellsCertificate, TellsList}
use Rattle.certpath_typed.proofs.ToldCertificates.{certificate_told}
use Rattle.certpath_typed.proofs.ToldLists.{list_told}

-- the reader takes all of a strict item
pub certificate_taken : (item : List ℕ) (c : Certificate) → length item < 2 ^ 64 → IsCertificateItem item c → X509Certificate IsUnparsed item (lenient_certificate c) []
certificate_taken item c small is =
    let short = subst (λ z. length z < 2 ^ 64) (sym is.spelled) small in
    subst (λ z. X509Certificate IsUnparsed z (lenient_certificate c) []) (append-nil (certificate_octets c) ∙ is.spelled) (certificate_is c [] is.in_range short)

pub list_taken : (item : List ℕ) (l : RevocationList) → length item < 2 ^ 64 → IsListItem item l → CertificateRevocationList IsUnparsed item (lenient_list l) []
list_taken item l small is =
    let short = subst (λ z. length z < 2 ^ 64) (sym is.spelled) small in
    let under = subst (IsItem 4_294_967_295) (sym is.spelled) is.object.item in
    subst (λ z. CertificateRevocationList IsUnparsed z (lenient_list l) []) (append-nil (list_octets l) ∙ is.spelled) (list_is l [] is.in_range short under)

-- a refusal that is not for lack of memory
pub refused : (e : Refusal X509Error) → ((x : X509Error) → e ≡ refusals.Failure x → ⊥) → OrMemory e → ⊥
refused (refusals.Incomplete n) plain is = is
refused (refusals.Error x) plain is = is
refused (refusals.Failure x) plain is = plain x refl

pub some_left : (rest : List ℕ) → 0 < length rest → rest ≡ [] → ⊥
some_left rest long none = omega (arith, long, ap length none)

-- fields that are out of range, or don't write the item, are no certificate's
pub no_certificate : (item : List ℕ) (r : ReadCertificate) (f : Certificate) → ((c : Certificate) → IsCertificateItem item c → certificate_view r ≡ lenient_certificate c) → TellsCertificate item r f
    → (AreCertificateFields f → certificate_octets f ≡ item → ⊥) → (c : Certificate) → ¬ IsCertificateItem item c
no_certificate item r f read tells refuse c is =
    let same : f ≡ c = certificate_told item c r f is.in_range is.spelled (read c is) tells in
    refuse (subst AreCertificateFields (sym same) is.in_range) (ap certificate_octets same ∙ is.spelled)

pub no_list : (item : List ℕ) (r : ReadList) (f : RevocationList) → ((l : RevocationList) → IsListItem item l → list_view r ≡ lenient_list l) → TellsList item r f
    → (AreListFields f → list_octets f ≡ item → ⊥) → (l : RevocationList) → ¬ IsListItem item l
no_list item r f read tells refuse l is =
    let same : f ≡ l = list_told item l r f is.in_range is.spelled (read l is) tells in
    refuse (subst AreListFields (sym same) is.in_range) (ap list_octets same ∙ is.spelled)
