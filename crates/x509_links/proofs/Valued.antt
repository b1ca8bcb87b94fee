-- Certificates are read with equal fields, however the values of extensions are parsed.
use Rattle.std.proofs.Common.{◌≡◌, ◌∙◌, refl, sym, ap, subst, ℕ, List, [], ◌∷◌, ◌++◌, map, Option, Some, None, option_map}
use Rattle.std.specs.Int.Digits.{AllBelowBase}
use Rattle.asn1_core.proofs.Numbers.{append_below}
use Rattle.asn1_any.specs.Cutting.{Piece, IsPiece}
use Rattle.x509_core.specs.Grammar.{One, Holds, HoldsWindow, HoldsWhole, ToEnd}
use Rattle.x509_core.proofs.Grammars.{content_below, front_below}
use Rattle.x509_names.specs.Leaves.{IsOid, IsOctets, IsBits}
use Rattle.x509_names.specs.Names.{AlgorithmParts, NameParts, KeyParts}
use Rattle.x509_time.specs.Times.{ValidityParts}
use Rattle.x509_certs.specs.Shared.{IsBoolean, ExtensionParts, X509Extension, Extensions, absent, there}
use Rattle.x509_certs.specs.Shared.{Extension, ValueMeaning, ValueReading}
use Rattle.x509_certs.specs.Shared.{IsTaggedVersion, Version, version_at_end, version_absent, version_there, IsSerial, IsIdentifier, UniqueIdentifier, id_at_end, id_absent, id_there}
use Rattle.x509_certs.proofs.Shared.{IsValueLaw}
use Rattle.x509_certs.specs.Certificates.{TbsParts, CertificateParts}
use Rattle.x509_certs.specs.Fields.{Tbs, Certificate}
use Rattle.x509_links.specs.Values.{extension_by, tbs_by, certificate_by}
use Rattle.x509_links.proofs.Carried.{Carries, after_one, one_carried, after_maybe, all_carried}

-- two ways to parse values, each of which parses any octets
pub record AreWays (Means Other : ValueMeaning) (parse other : ValueReading) : Type 0 where
  pub here : IsValueLaw Means parse
  pub there : IsValueLaw Other other

pub turned : {Means Other : ValueMeaning} {parse other : ValueReading} → AreWays Means Other parse other → AreWays Other Means other parse
turned ways = record { here = ways.there; there = ways.here }

-- ---- extensions

value_below : (i v r : List ℕ) → AllBelowBase 256 i → One IsOctets i v r → AllBelowBase 256 v
value_below i v r below is = subst (AllBelowBase 256) (sym is.means.meant) (content_below is.piece is.spells (front_below i is.piece.octets r is.whole below))

pub extension_carried : (Means Other : ValueMeaning) (parse other : ValueReading) → AreWays Means Other parse other
    → Carries (Holds 16 (ExtensionParts Means)) (Holds 16 (ExtensionParts Other)) (extension_by other)
extension_carried Means Other parse other ways = λ q e spells below is.
    let parts = is.1.inner in
    let id = after_one IsOid q.element.content e.identifier parts.after_id (content_below q spells below) parts.extn_id in
    let critical = after_maybe IsBoolean parts.written parts.after_id parts.after_critical id parts.critical in (
      is.0,
      record {
        tag = is.1.tag;
        inner = record {
          after_id = parts.after_id;
          extn_id = parts.extn_id;
          written = parts.written;
          after_critical = parts.after_critical;
          critical = parts.critical;
          is_critical = parts.is_critical;
          extn_value = parts.extn_value;
          parsed = ways.there.found e.identifier e.value (value_below parts.after_critical e.value is.0 critical parts.extn_value);
        };
      },
    )

pub extension_list_carried : (Means Other : ValueMeaning) (parse other : ValueReading) → AreWays Means Other parse other
    → Carries (Holds 16 (ToEnd (X509Extension Means))) (Holds 16 (ToEnd (X509Extension Other))) (map (extension_by other))
extension_list_carried Means Other parse other ways =
    all_carried 16 (Holds 16 (ExtensionParts Means)) (Holds 16 (ExtensionParts Other)) (extension_by other) (extension_by parse)
    (extension_carried Means Other parse other ways) (extension_carried Other Means other parse (turned ways))

pub extensions_carried : (Means Other : ValueMeaning) (parse other : ValueReading) → AreWays Means Other parse other
    → (n : ℕ) (i : List ℕ) (es : List Extension) (r : List ℕ) → AllBelowBase 256 i → Extensions Means n i es r → Extensions Other n i (map (extension_by other) es) r
extensions_carried Means Other parse other ways n i es r below (absent none empty end) = absent none (ap (map (extension_by other)) empty) end
extensions_carried Means Other parse other ways n i es r below (there is end) =
    let inner : AllBelowBase 256 is.after_header = let whole = is.header.whole in append_below 256 is.header.front is.after_header (subst (AllBelowBase 256) whole below) in
    there (record {
      head = is.head;
      after_header = is.after_header;
      header = is.header;
      tag = is.tag;
      list = one_carried (Holds 16 (ToEnd (X509Extension Means))) (Holds 16 (ToEnd (X509Extension Other))) (map (extension_by other)) (extension_list_carried Means Other parse other ways)
          is.after_header es [] inner is.list;
    }) end

-- ---- what is left after a part

after_version : (i : List ℕ) (v : ℕ) (r : List ℕ) → AllBelowBase 256 i → Version i v r → AllBelowBase 256 r
after_version i v r below (version_at_end none zero same) = subst (AllBelowBase 256) (sym same) below
after_version i v r below (version_absent other zero same) = subst (AllBelowBase 256) (sym same) below
after_version i v r below (version_there is) = after_one IsTaggedVersion i v r below is

after_id : (n : ℕ) (i : List ℕ) (id : Option _) (r : List ℕ) → AllBelowBase 256 i → UniqueIdentifier n i id r → AllBelowBase 256 r
after_id n i id r below (id_at_end none no_id same) = subst (AllBelowBase 256) (sym same) below
after_id n i id r below (id_absent other no_id same) = subst (AllBelowBase 256) (sym same) below
after_id n i id r below (id_there b some is) = after_one (IsIdentifier n) i b r below is

-- ---- certificates

tbs_parts_carried : (Means Other : ValueMeaning) (parse other : ValueReading) → AreWays Means Other parse other
    → (i : List ℕ) (t : Tbs) (r : List ℕ) → AllBelowBase 256 i → TbsParts Means i t r → TbsParts Other i (tbs_by other t) r
tbs_parts_carried Means Other parse other ways i t r b0 is =
    let b1 = after_version i t.version is.after_version b0 is.version in
    let b2 = after_one IsSerial is.after_version t.serial is.after_serial b1 is.serial in
    let b3 = after_one (Holds 16 AlgorithmParts) is.after_serial t.signature is.after_signature b2 is.signature in
    let b4 = after_one (HoldsWindow 16 NameParts (λ n. n.raw)) is.after_signature t.issuer is.after_issuer b3 is.issuer in
    let b5 = after_one (Holds 16 ValidityParts) is.after_issuer t.validity is.after_validity b4 is.validity in
    let b6 = after_one (HoldsWindow 16 NameParts (λ n. n.raw)) is.after_validity t.subject is.after_subject b5 is.subject in
    let b7 = after_one (HoldsWindow 16 KeyParts (λ k. k.raw)) is.after_subject t.key is.after_key b6 is.key in
    let b8 = after_id 1 is.after_key t.issuer_id is.after_issuer_id b7 is.issuer_id in
    let b9 = after_id 2 is.after_issuer_id t.subject_id is.after_subject_id b8 is.subject_id in
    record {
      after_version = is.after_version;
      version = is.version;
      after_serial = is.after_serial;
      serial = is.serial;
      after_signature = is.after_signature;
      signature = is.signature;
      after_issuer = is.after_issuer;
      issuer = is.issuer;
      after_validity = is.after_validity;
      validity = is.validity;
      after_subject = is.after_subject;
      subject = is.subject;
      after_key = is.after_key;
      key = is.key;
      after_issuer_id = is.after_issuer_id;
      issuer_id = is.issuer_id;
      after_subject_id = is.after_subject_id;
      subject_id = is.subject_id;
      extensions = extensions_carried Means Other parse other ways 3 is.after_subject_id t.extensions r b9 is.extensions;
    }

tbs_carried : (Means Other : ValueMeaning) (parse other : ValueReading) → AreWays Means Other parse other
    → Carries (HoldsWindow 16 (TbsParts Means) (λ t. t.raw)) (HoldsWindow 16 (TbsParts Other) (λ t. t.raw)) (tbs_by other)
tbs_carried Means Other parse other ways = λ q t spells below is. record {
  left = is.left;
  inside = record { tag = is.inside.tag; inner = tbs_parts_carried Means Other parse other ways q.element.content t is.left (content_below q spells below) is.inside.inner };
  window = is.window;
}

certificate_parts_carried : (Means Other : ValueMeaning) (parse other : ValueReading) → AreWays Means Other parse other
    → (i : List ℕ) (c : Certificate) (r : List ℕ) → AllBelowBase 256 i → CertificateParts Means i c r → CertificateParts Other i (certificate_by other c) r
certificate_parts_carried Means Other parse other ways i c r below is = record {
  after_tbs = is.after_tbs;
  tbs = one_carried (HoldsWindow 16 (TbsParts Means) (λ t. t.raw)) (HoldsWindow 16 (TbsParts Other) (λ t. t.raw)) (tbs_by other) (tbs_carried Means Other parse other ways)
      i c.tbs is.after_tbs below is.tbs;
  after_algorithm = is.after_algorithm;
  signature_algorithm = is.signature_algorithm;
  signature_value = is.signature_value;
}

pub certificate_carried : (Means Other : ValueMeaning) (parse other : ValueReading) → AreWays Means Other parse other
    → Carries (HoldsWhole 16 (CertificateParts Means) (λ c. c.raw)) (HoldsWhole 16 (CertificateParts Other) (λ c. c.raw)) (certificate_by other)
certificate_carried Means Other parse other ways = λ q c spells below is. record {
  inside = (
    is.inside.0,
    record { tag = is.inside.1.tag; inner = certificate_parts_carried Means Other parse other ways q.element.content c is.inside.0 (content_below q spells below) is.inside.1.inner },
  );
  window = is.window;
}
