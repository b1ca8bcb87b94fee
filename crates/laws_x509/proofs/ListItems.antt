-- Revocation lists without entries, written out by hand, are what the relations say.
use Rattle.std.proofs.Common.{◌≡◌, refl, ℕ, ◌<◌, List, [], ◌∷◌, ◌++◌, false, true, length, None, Ok, lit<}
use Rattle.std.specs.Int.Digits.{AllBelowBase}
use Rattle.asn1_core.specs.Strict.{Head}
use Rattle.asn1_traits.specs.Integers.{twos_complement}
use Rattle.x509_core.specs.Grammar.{Header, NoneBegins, One, Holds, HoldsWindow, HoldsWhole, ToEnd, AsMany}
use Rattle.x509_core.proofs.Grammars.{IsReading, next_reading, none_at_end}
use Rattle.x509_core.proofs.Items.{tlv, piece, spelled, one, none_here, header_is}
use Rattle.x509_names.specs.Examples.{algorithm_octets, empty_octets}
use Rattle.x509_names.specs.Leaves.{IsOctets}
use Rattle.x509_names.proofs.Items.{oid_is, bits_are, algorithm_is, empty_name_is}
use Rattle.x509_time.specs.Examples.{start_octets, end, end_octets}
use Rattle.x509_time.specs.Updates.{there, at_end}
use Rattle.x509_time.proofs.Items.{start_is, end_is}
use Rattle.x509_ext.specs.Extensions.{IsBoolean, ExtensionParts, X509Extension, ExtensionList, absent, there as wrapped}
use Rattle.x509_ext.specs.Fields.{IsUnparsed, unread}
use Rattle.x509_ext.specs.Parts.{IsVersion}
use Rattle.x509_ext.proofs.ExtensionLaws.{unread_law}
use Rattle.x509_certs.specs.Examples.{signature_octets}
use Rattle.x509_lists.specs.Fields.{TbsList, RevocationList}
use Rattle.x509_lists.specs.Lists.{RevokedCertificate, RevokedCertificates, TbsParts, BeginsWithWrapper, TbsCertList, ListParts, CertificateRevocationList}
use Rattle.x509_lists.specs.Reading.{list_in, list_at}
use Rattle.x509_lists.proofs.ListLaws.{list_meaning}
use Rattle.laws_x509.specs.RefusedOctets.{signed_list}
use Rattle.laws_x509.specs.WorkedLists as worked
use Rattle.laws_x509.specs.WorkedLists.{number}

-- ---- a list of any signed part

list_is : (t : TbsList) (octets : List ℕ) → length (octets ++ signature_octets) < 128 → TbsCertList IsUnparsed (octets ++ signature_octets) t signature_octets
    → CertificateRevocationList IsUnparsed (tlv 0 true 16 (octets ++ signature_octets) ++ []) (worked.list_of t (tlv 0 true 16 (octets ++ signature_octets))) []
list_is t octets short signed =
    one (HoldsWhole 16 (ListParts IsUnparsed) (λ l. l.raw)) 0 true 16 (octets ++ signature_octets) (worked.list_of t (tlv 0 true 16 (octets ++ signature_octets))) [] (lit< tt) (lit< tt) short (record {
      inside = (
        [],
        record {
          tag = refl;
          inner = record {
            after_tbs = signature_octets;
            tbs = signed;
            after_algorithm = 0x03 ∷ 0x01 ∷ 0x00 ∷ [];
            signature_algorithm = algorithm_is (0x03 ∷ 0x01 ∷ 0x00 ∷ []);
            signature_value = bits_are [];
          };
        },
      );
      window = refl;
    })

lists : IsReading (CertificateRevocationList IsUnparsed) (list_at unread)
lists = next_reading (HoldsWhole 16 (ListParts IsUnparsed) (λ l. l.raw)) (list_in unread) (list_meaning IsUnparsed unread unread_law)

-- what is a list is read as one
pub list_read : (octets : List ℕ) (l : RevocationList) → AllBelowBase 256 octets → CertificateRevocationList IsUnparsed octets l [] → list_at unread octets ≡ Ok (l, [])
list_read octets l below is = lists.only octets l [] below is

-- ---- the list that ends with its update

-- an algorithm is no version
pub none_before : (rest : List ℕ) → NoneBegins (One IsVersion) (algorithm_octets ++ rest)
none_before rest = none_here IsVersion (piece 0 true 16 (0x06 ∷ 0x02 ∷ 0x2a ∷ 0x03 ∷ [])) rest (spelled 0 true 16 (0x06 ∷ 0x02 ∷ 0x2a ∷ 0x03 ∷ []) (lit< tt) (lit< tt) (lit< tt)) (λ v is. cc is.leaf.tag_is)

abbrev ended_parts : TbsParts IsUnparsed worked.ended_content worked.ended_tbs []
ended_parts = record {
  after_version = worked.ended_content;
  version = (refl, none_before (empty_octets ++ start_octets));
  after_signature = empty_octets ++ start_octets;
  signature = algorithm_is (empty_octets ++ start_octets);
  after_issuer = start_octets;
  issuer = empty_name_is start_octets;
  after_this_update = [];
  this_update = start_is [];
  after_next_update = [];
  next_update = at_end refl refl refl;
  written = None;
  after_entries = [];
  revoked_certificates = (refl, none_at_end (Holds 16 (ToEnd (RevokedCertificate IsUnparsed))));
  are_entries = refl;
  crl_extensions = absent refl refl refl;
}

pub ended_counts : (is : TbsParts IsUnparsed worked.ended_content worked.ended_tbs []) × (is.written ≡ None) × (is.after_next_update ≡ [])
ended_counts = (ended_parts, refl, refl)

pub ended_signed_is : (rest : List ℕ) → TbsCertList IsUnparsed (signed_list ++ rest) worked.ended_tbs rest
ended_signed_is rest = one (HoldsWindow 16 (TbsParts IsUnparsed) (λ t. t.raw)) 0 true 16 worked.ended_content worked.ended_tbs rest (lit< tt) (lit< tt) (lit< tt)
    (record { left = []; inside = record { tag = refl; inner = ended_parts }; window = refl })

pub ended_is : CertificateRevocationList IsUnparsed worked.ended_octets worked.ended []
ended_is = list_is worked.ended_tbs signed_list (lit< tt) (ended_signed_is signature_octets)

-- ---- the list with extensions

abbrev id_octets : List ℕ
id_octets = tlv 0 false 6 number.identifier

abbrev value_octets : List ℕ
value_octets = tlv 0 false 4 number.value

abbrev extension_octets : List ℕ
extension_octets = tlv 0 true 16 (id_octets ++ value_octets)

abbrev extensions_octets : List ℕ
extensions_octets = tlv 0 true 16 extension_octets

number_is : (rest : List ℕ) → X509Extension IsUnparsed (extension_octets ++ rest) number rest
number_is rest = one (Holds 16 (ExtensionParts IsUnparsed)) 0 true 16 (id_octets ++ value_octets) number rest (lit< tt) (lit< tt) (lit< tt) (
  [],
  record {
    tag = refl;
    inner = record {
      after_id = value_octets;
      extn_id = oid_is number.identifier value_octets (lit< tt);
      written = None;
      after_critical = value_octets;
      critical = (refl, none_here IsBoolean (piece 0 false 4 number.value) [] (spelled 0 false 4 number.value (lit< tt) (lit< tt) (lit< tt)) (λ v m. cc m.leaf.tag_is));
      is_critical = refl;
      extn_value = one IsOctets 0 false 4 number.value number.value [] (lit< tt) (lit< tt) (lit< tt) (record { leaf = record { tag_is = refl; primitive = refl }; meant = refl });
      parsed = refl;
    };
  },
)

extensions_are : ExtensionList IsUnparsed extensions_octets (number ∷ []) []
unfolding AsMany
extensions_are = one (Holds 16 (ToEnd (X509Extension IsUnparsed))) 0 true 16 extension_octets (number ∷ []) [] (lit< tt) (lit< tt) (lit< tt) (
  [],
  record { tag = refl; inner = (([], number_is [], (refl, none_at_end (Holds 16 (ExtensionParts IsUnparsed)))), refl) },
)

abbrev head : Head
head = record { class = 2; constructed = true; tag = 0; size = 14 }

wrapper_header : Header worked.wrapper_octets head extensions_octets
wrapper_header = header_is 2 true 0 14 extensions_octets (lit< tt) (lit< tt) (lit< tt)

-- a wrapper holds no entries
no_entries : NoneBegins (RevokedCertificates IsUnparsed) worked.wrapper_octets
no_entries = none_here (Holds 16 (ToEnd (RevokedCertificate IsUnparsed))) (piece 2 true 0 extensions_octets) [] (spelled 2 true 0 extensions_octets (lit< tt) (lit< tt) (lit< tt)) (λ v holds. cc holds.1.tag)

second_version : (rest : List ℕ) → One IsVersion (0x02 ∷ 0x01 ∷ 0x01 ∷ rest) 1 rest
unfolding twos_complement
second_version rest = one IsVersion 0 false 2 (0x01 ∷ []) 1 rest (lit< tt) (lit< tt) (lit< tt) (record {
  leaf = record { tag_is = refl; primitive = refl };
  meant = record { shortest = tt; value = record { some = λ e. cc e; value = refl }; small = lit< tt };
})

-- what comes after the first update, the issuer's name and the algorithm
abbrev from_next : List ℕ
from_next = end_octets ++ worked.wrapper_octets

abbrev from_update : List ℕ
from_update = start_octets ++ from_next

abbrev from_issuer : List ℕ
from_issuer = empty_octets ++ from_update

abbrev numbered_parts : TbsParts IsUnparsed worked.numbered_content worked.numbered_tbs []
numbered_parts = record {
  after_version = algorithm_octets ++ from_issuer;
  version = second_version (algorithm_octets ++ from_issuer);
  after_signature = from_issuer;
  signature = algorithm_is from_issuer;
  after_issuer = from_update;
  issuer = empty_name_is from_update;
  after_this_update = from_next;
  this_update = start_is from_next;
  after_next_update = worked.wrapper_octets;
  next_update = there end refl (end_is worked.wrapper_octets);
  written = None;
  after_entries = worked.wrapper_octets;
  revoked_certificates = (refl, no_entries);
  are_entries = refl;
  crl_extensions = wrapped (record { head = head; after_header = extensions_octets; header = wrapper_header; tag = refl; list = extensions_are }) refl;
}

pub numbered_counts : (is : TbsParts IsUnparsed worked.numbered_content worked.numbered_tbs []) × (is.written ≡ None) × BeginsWithWrapper is.after_next_update
numbered_counts = (numbered_parts, refl, record { head = head; after_header = extensions_octets; header = wrapper_header; tag = refl })

numbered_signed_is : (rest : List ℕ) → TbsCertList IsUnparsed (worked.numbered_signed ++ rest) worked.numbered_tbs rest
numbered_signed_is rest = one (HoldsWindow 16 (TbsParts IsUnparsed) (λ t. t.raw)) 0 true 16 worked.numbered_content worked.numbered_tbs rest (lit< tt) (lit< tt) (lit< tt)
    (record { left = []; inside = record { tag = refl; inner = numbered_parts }; window = refl })

pub numbered_is : CertificateRevocationList IsUnparsed worked.numbered_octets worked.numbered []
numbered_is = list_is worked.numbered_tbs worked.numbered_signed (lit< tt) (numbered_signed_is signature_octets)
