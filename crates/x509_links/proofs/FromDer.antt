-- What `from_der` reads of strict certificates and lists, and of what parsers read that leave values unparsed.
use Rattle.std.proofs.Common.{◌≡◌, ◌∙◌, sym, subst, ℕ, Bool, false, true, List, [], ◌++◌, append-nil, length, ◌<◌, ◌^◌}
use Rattle.std.specs.Int.Digits.{AllBelowBase}
use Rattle.cert_framing.specs.Framing.{IsItem}
use Rattle.cert_model.specs.Class.{IsCertificateItem, IsListItem}
use Rattle.cert_model.specs.Fields.{Certificate, RevocationList}
use Rattle.cert_model.specs.Octets.{certificate_octets, list_octets}
use Rattle.cert_model.specs.Range.{AreCertificateFields, AreListFields}
use Rattle.x509_core.specs.Grammar.{HoldsWhole}
use Rattle.x509_certs.specs.Shared.{IsUnparsed, unread, meaning_of, reading_of}
use Rattle.x509_certs.specs.Shared.{IsParsed, deeply}
use Rattle.x509_certs.proofs.Shared.{reads_law}
use Rattle.x509_certs.specs.Certificates.{CertificateParts, X509Certificate}
use Rattle.x509_certs.specs.Fields.{Certificate as ReadCertificate}
use Rattle.x509_lists.specs.Fields.{RevocationList as ReadList}
use Rattle.x509_lists.specs.Lists.{ListParts, CertificateRevocationList}
use Rattle.x509_links.specs.Lenient.{lenient_certificate, lenient_list}
use Rattle.x509_links.specs.Values.{certificate_by, list_by, parsed_certificate, parsed_list}
use Rattle.x509_links.proofs.Carried.{one_carried, one_before}
use Rattle.x509_links.proofs.StrictCertificates.{certificate_is}
use Rattle.x509_links.proofs.StrictLists.{list_is}
use Rattle.x509_links.proofs.Valued.{AreWays, certificate_carried}
use Rattle.x509_links.proofs.ValuedLists.{list_carried}

ways : (deep other : Bool) → AreWays (meaning_of deep) (meaning_of other) (reading_of deep) (reading_of other)
ways deep other = record { here = reads_law deep; there = reads_law other }

pub certificate_by_either : (deep other : Bool) (octets : List ℕ) (c : ReadCertificate) (rest : List ℕ) → AllBelowBase 256 octets
    → X509Certificate (meaning_of deep) octets c rest → X509Certificate (meaning_of other) octets (certificate_by (reading_of other) c) rest
certificate_by_either deep other octets c rest below is =
    one_carried (HoldsWhole 16 (CertificateParts (meaning_of deep)) (λ d. d.raw)) (HoldsWhole 16 (CertificateParts (meaning_of other)) (λ d. d.raw)) (certificate_by (reading_of other))
    (certificate_carried (meaning_of deep) (meaning_of other) (reading_of deep) (reading_of other) (ways deep other)) octets c rest below is

pub list_by_either : (deep other : Bool) (octets : List ℕ) (l : ReadList) (rest : List ℕ) → AllBelowBase 256 octets
    → CertificateRevocationList (meaning_of deep) octets l rest → CertificateRevocationList (meaning_of other) octets (list_by (reading_of other) l) rest
list_by_either deep other octets l rest below is =
    one_carried (HoldsWhole 16 (ListParts (meaning_of deep)) (λ m. m.raw)) (HoldsWhole 16 (ListParts (meaning_of other)) (λ m. m.raw)) (list_by (reading_of other))
    (list_carried (meaning_of deep) (meaning_of other) (reading_of deep) (reading_of other) (ways deep other)) octets l rest below is

pub certificate_read : (c : Certificate) (rest : List ℕ) → AreCertificateFields c → AllBelowBase 256 (certificate_octets c) → length (certificate_octets c) < 2 ^ 64
    → X509Certificate IsParsed (certificate_octets c ++ rest) (parsed_certificate c) rest
certificate_read c rest range below small =
    let octets = certificate_octets c in
    let alone = subst (λ z. X509Certificate IsUnparsed z (lenient_certificate c) []) (append-nil octets) (certificate_is c [] range small) in
    one_before (HoldsWhole 16 (CertificateParts IsParsed) (λ d. d.raw)) octets (parsed_certificate c) rest (certificate_by_either false true octets (lenient_certificate c) [] below alone)

pub certificate_item_unparsed : (item : List ℕ) (c : Certificate) → IsCertificateItem item c → length item < 2 ^ 64 → X509Certificate IsUnparsed item (lenient_certificate c) []
certificate_item_unparsed item c is small =
    subst (λ z. X509Certificate IsUnparsed z (lenient_certificate c) []) (append-nil (certificate_octets c) ∙ is.spelled) (certificate_is c [] is.in_range (subst (λ z. length z < 2 ^ 64) (sym is.spelled) small))

pub certificate_item_read : (item : List ℕ) (c : Certificate) (rest : List ℕ) → IsCertificateItem item c → AllBelowBase 256 item → length item < 2 ^ 64
    → X509Certificate IsParsed (item ++ rest) (parsed_certificate c) rest × ((parsed_certificate c).raw ≡ item)
certificate_item_read item c rest is below small =
    let same = sym is.spelled in
    let read = certificate_read c rest is.in_range (subst (AllBelowBase 256) same below) (subst (λ z. length z < 2 ^ 64) same small) in
    (subst (λ z. X509Certificate IsParsed (z ++ rest) (parsed_certificate c) rest) is.spelled read, is.spelled)

pub list_read : (l : RevocationList) (rest : List ℕ) → AreListFields l → AllBelowBase 256 (list_octets l) → length (list_octets l) < 2 ^ 64 → IsItem 4_294_967_295 (list_octets l)
    → CertificateRevocationList IsParsed (list_octets l ++ rest) (parsed_list l) rest
list_read l rest range below small item =
    let octets = list_octets l in
    let alone = subst (λ z. CertificateRevocationList IsUnparsed z (lenient_list l) []) (append-nil octets) (list_is l [] range small item) in
    one_before (HoldsWhole 16 (ListParts IsParsed) (λ m. m.raw)) octets (parsed_list l) rest (list_by_either false true octets (lenient_list l) [] below alone)

pub list_item_unparsed : (item : List ℕ) (l : RevocationList) → IsListItem item l → length item < 2 ^ 64 → CertificateRevocationList IsUnparsed item (lenient_list l) []
list_item_unparsed item l is small =
    let same = sym is.spelled in
    subst (λ z. CertificateRevocationList IsUnparsed z (lenient_list l) []) (append-nil (list_octets l) ∙ is.spelled)
    (list_is l [] is.in_range (subst (λ z. length z < 2 ^ 64) same small) (subst (IsItem 4_294_967_295) same is.object.item))

pub list_item_read : (item : List ℕ) (l : RevocationList) (rest : List ℕ) → IsListItem item l → AllBelowBase 256 item → length item < 2 ^ 64
    → CertificateRevocationList IsParsed (item ++ rest) (parsed_list l) rest × ((parsed_list l).raw ≡ item)
list_item_read item l rest is below small =
    let same = sym is.spelled in
    let read = list_read l rest is.in_range (subst (AllBelowBase 256) same below) (subst (λ z. length z < 2 ^ 64) same small) (subst (IsItem 4_294_967_295) same is.object.item) in
    (subst (λ z. CertificateRevocationList IsParsed (z ++ rest) (parsed_list l) rest) is.spelled read, is.spelled)
