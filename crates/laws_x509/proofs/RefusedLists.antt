-- Revocation lists written out by hand are refused as the tables say.
use Rattle.std.proofs.Common.{◌⊎◌, refl, inl, ℕ, List, [], ◌∷◌, ◌++◌, true, None, lit<, lit≤}
use Rattle.x509_core.specs.Grammar.{NoneBegins, One, Holds, ToEnd, Maybe}
use Rattle.x509_core.specs.declared.error.X509Error.TheVariants as errors
use Rattle.x509_core.proofs.Grammars.{none_at_end}
use Rattle.x509_core.proofs.Items.{piece, spelled, none_here, header_is}
use Rattle.x509_names.specs.Examples.{algorithm, algorithm_octets, empty_name, empty_octets}
use Rattle.x509_names.specs.Leaves.{IsBits}
use Rattle.x509_names.proofs.Items.{algorithm_is, empty_name_is}
use Rattle.x509_time.specs.Examples.{start, start_octets}
use Rattle.x509_time.specs.Times.{IsTime, ASN1Time}
use Rattle.x509_time.specs.Updates.{NextUpdate, no_time}
use Rattle.x509_time.proofs.Items.{start_is}
use Rattle.x509_ext.specs.Fields.{IsUnparsed}
use Rattle.x509_ext.specs.Parts.{IsVersion, IsSerial}
use Rattle.x509_lists.specs.Lists.{RevokedCertificate, RevokedCertificates}
use Rattle.laws_x509.specs.Refused.{Then, NoWrapper}
use Rattle.laws_x509.specs.ListRefusals.{EntryPartsRefused, EntryRefused, AfterIssuer, TbsPartsRefused, TbsListRefused, ListPartsRefused, ListRefused}
use Rattle.laws_x509.specs.RefusedOctets as refused
use Rattle.laws_x509.specs.WorkedLists as worked
use Rattle.laws_x509.proofs.RefusedParts.{sequence, no_identifier}
use Rattle.laws_x509.proofs.RefusedExtensions.{head, no_wrapper_there}
use Rattle.laws_x509.proofs.RefusedCertificates.{serial_is}
use Rattle.laws_x509.proofs.ListItems.{none_before, ended_signed_is}

-- ---- an entry

pub no_entry_serial : EntryRefused errors.InvalidSerial refused.empty
no_entry_serial = sequence (EntryPartsRefused errors.InvalidSerial) [] [] (lit< tt) (none_at_end IsSerial)

pub no_entry_date : EntryRefused errors.InvalidDate refused.no_entry_date
no_entry_date = sequence (EntryPartsRefused errors.InvalidDate) refused.before_signature [] (lit< tt) (record { value = 0x01 ∷ []; after = []; begins = serial_is []; next = none_at_end IsTime })

-- ---- the signed part

-- a SEQUENCE is no version
no_version : (rest : List ℕ) → NoneBegins (One IsVersion) (refused.empty ++ rest)
no_version rest = none_here IsVersion (piece 0 true 16 []) rest (spelled 0 true 16 [] (lit< tt) (lit< tt) (lit< tt)) (λ v is. cc is.leaf.tag_is)

after_issuer : (Q : List ℕ → Type 0) (rest : List ℕ) → Q rest → AfterIssuer Q (refused.before_dates ++ rest)
after_issuer Q rest is = record {
  value = None;
  after = algorithm_octets ++ (empty_octets ++ rest);
  begins = (refl, none_before (empty_octets ++ rest));
  next = record {
    value = algorithm;
    after = empty_octets ++ rest;
    begins = algorithm_is (empty_octets ++ rest);
    next = record { value = empty_name; after = rest; begins = empty_name_is rest; next = is };
  };
}

pub no_list_algorithm : TbsListRefused IsUnparsed errors.InvalidAlgorithmIdentifier refused.no_list_algorithm
no_list_algorithm = sequence (TbsPartsRefused IsUnparsed errors.InvalidAlgorithmIdentifier) refused.empty [] (lit< tt) (record { value = None; after = refused.empty; begins = (refl, no_version []); next = no_identifier })

pub no_date : TbsListRefused IsUnparsed errors.InvalidDate refused.no_date
no_date = sequence (TbsPartsRefused IsUnparsed errors.InvalidDate) refused.before_dates [] (lit< tt) (after_issuer (λ o. NoneBegins ASN1Time o ⊎ Then ASN1Time (NoneBegins NextUpdate) o) [] (inl (none_at_end IsTime)))

no_update : NextUpdate refused.other_wrapper None refused.other_wrapper
no_update =
    no_time (record {
      head = head;
      after_header = [];
      header = header_is 2 true 4 0 [] (lit< tt) (lit< tt) (lit< tt);
      size = lit≤ tt;
      no_utc_time = λ e. cc e;
      no_general_time = λ e. cc e;
    }) refl refl

no_entries : NoneBegins (RevokedCertificates IsUnparsed) refused.other_wrapper
no_entries = none_here (Holds 16 (ToEnd (RevokedCertificate IsUnparsed))) (piece 2 true 4 []) [] (spelled 2 true 4 [] (lit< tt) (lit< tt) (lit< tt)) (λ v holds. cc holds.1.tag)

pub no_list_extensions : TbsListRefused IsUnparsed errors.InvalidExtensions refused.no_list_extensions
no_list_extensions = sequence (TbsPartsRefused IsUnparsed errors.InvalidExtensions) (refused.before_dates ++ start_octets ++ refused.other_wrapper) [] (lit< tt)
    (after_issuer (Then ASN1Time (Then NextUpdate (Then (Maybe (RevokedCertificates IsUnparsed)) (NoWrapper 0)))) (start_octets ++ refused.other_wrapper) (record {
      value = start;
      after = refused.other_wrapper;
      begins = start_is refused.other_wrapper;
      next = record {
        value = None;
        after = refused.other_wrapper;
        begins = no_update;
        next = record { value = None; after = refused.other_wrapper; begins = (refl, no_entries); next = no_wrapper_there 0 (lit< tt) };
      };
    }))

-- ---- the list

pub no_list_bits : ListRefused IsUnparsed errors.InvalidSignatureValue refused.no_list_bits
no_list_bits = sequence (ListPartsRefused IsUnparsed errors.InvalidSignatureValue) (refused.signed_list ++ algorithm_octets) [] (lit< tt) (record {
  value = worked.ended_tbs;
  after = algorithm_octets;
  begins = ended_signed_is algorithm_octets;
  next = record { value = algorithm; after = []; begins = algorithm_is []; next = none_at_end IsBits };
})
