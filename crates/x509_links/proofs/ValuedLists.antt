-- Revocation lists are read with equal fields, however the values of extensions are parsed.
use Rattle.std.proofs.Common.{◌≡◌, ◌∙◌, refl, sym, ap, subst, ℕ, List, [], ◌∷◌, map, Option, Some, None, option_map}
use Rattle.std.specs.Int.Digits.{AllBelowBase}
use Rattle.asn1_any.specs.Cutting.{Piece, IsPiece}
use Rattle.x509_core.specs.Grammar.{One, Holds, HoldsWindow, HoldsWhole, ToEnd}
use Rattle.x509_core.proofs.Grammars.{content_below}
use Rattle.x509_names.specs.Names.{AlgorithmParts, NameParts}
use Rattle.x509_time.specs.Times.{Time, IsTime}
use Rattle.x509_time.specs.Updates.{NextUpdate, there, at_end, cut_tag, no_time}
use Rattle.x509_certs.specs.Shared.{X509Extension}
use Rattle.x509_certs.specs.Shared.{ValueMeaning, ValueReading}
use Rattle.x509_certs.specs.Shared.{IsVersion, IsSerial}
use Rattle.x509_lists.specs.Fields.{Entry, TbsList, RevocationList}
use Rattle.x509_lists.specs.Lists.{or_none, EntryParts, RevokedCertificate, TbsParts, ListParts}
use Rattle.x509_links.specs.Values.{extension_by, entry_by, tbs_list_by, list_by}
use Rattle.x509_links.proofs.Carried.{Carries, after_one, one_carried, maybe_carried, after_maybe, all_carried}
use Rattle.x509_links.proofs.Valued.{AreWays, turned, extension_list_carried, extensions_carried}

-- ---- entries

or_none_map : {A B : Type 0} (f : A → B) (o : Option (List A)) → map f (or_none o) ≡ or_none (option_map (map f) o)
or_none_map f None = refl
or_none_map f (Some vs) = refl

entry_carried : (Means Other : ValueMeaning) (parse other : ValueReading) → AreWays Means Other parse other
    → Carries (Holds 16 (EntryParts Means)) (Holds 16 (EntryParts Other)) (entry_by other)
entry_carried Means Other parse other ways = λ q e spells below is.
    let parts = is.1.inner in
    let serial = after_one IsSerial q.element.content e.serial parts.after_serial (content_below q spells below) parts.user_certificate in
    let date = after_one IsTime parts.after_serial e.date parts.after_date serial parts.revocation_date in (
      is.0,
      record {
        tag = is.1.tag;
        inner = record {
          after_serial = parts.after_serial;
          user_certificate = parts.user_certificate;
          after_date = parts.after_date;
          revocation_date = parts.revocation_date;
          written = option_map (map (extension_by other)) parts.written;
          crl_entry_extensions = maybe_carried (Holds 16 (ToEnd (X509Extension Means))) (Holds 16 (ToEnd (X509Extension Other))) (map (extension_by other)) (map (extension_by parse))
              (extension_list_carried Means Other parse other ways) (extension_list_carried Other Means other parse (turned ways))
              parts.written parts.after_date is.0 date parts.crl_entry_extensions;
          are_extensions = ap (map (extension_by other)) parts.are_extensions ∙ or_none_map (extension_by other) parts.written;
        };
      },
    )

entries_carried : (Means Other : ValueMeaning) (parse other : ValueReading) → AreWays Means Other parse other
    → Carries (Holds 16 (ToEnd (RevokedCertificate Means))) (Holds 16 (ToEnd (RevokedCertificate Other))) (map (entry_by other))
entries_carried Means Other parse other ways =
    all_carried 16 (Holds 16 (EntryParts Means)) (Holds 16 (EntryParts Other)) (entry_by other) (entry_by parse)
    (entry_carried Means Other parse other ways) (entry_carried Other Means other parse (turned ways))

-- ---- lists

after_update : (i : List ℕ) (v : Option Time) (r : List ℕ) → AllBelowBase 256 i → NextUpdate i v r → AllBelowBase 256 r
after_update i v r below (there t some is) = after_one IsTime i t r below is
after_update i v r below (at_end none no_update same) = subst (AllBelowBase 256) (sym same) below
after_update i v r below (cut_tag cut no_update same) = subst (AllBelowBase 256) (sym same) below
after_update i v r below (no_time other no_update same) = subst (AllBelowBase 256) (sym same) below

tbs_parts_carried : (Means Other : ValueMeaning) (parse other : ValueReading) → AreWays Means Other parse other
    → (i : List ℕ) (t : TbsList) (r : List ℕ) → AllBelowBase 256 i → TbsParts Means i t r → TbsParts Other i (tbs_list_by other t) r
tbs_parts_carried Means Other parse other ways i t r b0 is =
    let b1 = after_maybe IsVersion t.version i is.after_version b0 is.version in
    let b2 = after_one (Holds 16 AlgorithmParts) is.after_version t.signature is.after_signature b1 is.signature in
    let b3 = after_one (HoldsWindow 16 NameParts (λ n. n.raw)) is.after_signature t.issuer is.after_issuer b2 is.issuer in
    let b4 = after_one IsTime is.after_issuer t.this_update is.after_this_update b3 is.this_update in
    let b5 = after_update is.after_this_update t.next_update is.after_next_update b4 is.next_update in
    let b6 = after_maybe (Holds 16 (ToEnd (RevokedCertificate Means))) is.written is.after_next_update is.after_entries b5 is.revoked_certificates in
    record {
      after_version = is.after_version;
      version = is.version;
      after_signature = is.after_signature;
      signature = is.signature;
      after_issuer = is.after_issuer;
      issuer = is.issuer;
      after_this_update = is.after_this_update;
      this_update = is.this_update;
      after_next_update = is.after_next_update;
      next_update = is.next_update;
      written = option_map (map (entry_by other)) is.written;
      after_entries = is.after_entries;
      revoked_certificates = maybe_carried (Holds 16 (ToEnd (RevokedCertificate Means))) (Holds 16 (ToEnd (RevokedCertificate Other))) (map (entry_by other)) (map (entry_by parse))
          (entries_carried Means Other parse other ways) (entries_carried Other Means other parse (turned ways))
          is.written is.after_next_update is.after_entries b5 is.revoked_certificates;
      are_entries = ap (map (entry_by other)) is.are_entries ∙ or_none_map (entry_by other) is.written;
      crl_extensions = extensions_carried Means Other parse other ways 0 is.after_entries t.extensions r b6 is.crl_extensions;
    }

tbs_carried : (Means Other : ValueMeaning) (parse other : ValueReading) → AreWays Means Other parse other
    → Carries (HoldsWindow 16 (TbsParts Means) (λ t. t.raw)) (HoldsWindow 16 (TbsParts Other) (λ t. t.raw)) (tbs_list_by other)
tbs_carried Means Other parse other ways = λ q t spells below is. record {
  left = is.left;
  inside = record { tag = is.inside.tag; inner = tbs_parts_carried Means Other parse other ways q.element.content t is.left (content_below q spells below) is.inside.inner };
  window = is.window;
}

list_parts_carried : (Means Other : ValueMeaning) (parse other : ValueReading) → AreWays Means Other parse other
    → (i : List ℕ) (l : RevocationList) (r : List ℕ) → AllBelowBase 256 i → ListParts Means i l r → ListParts Other i (list_by other l) r
list_parts_carried Means Other parse other ways i l r below is = record {
  after_tbs = is.after_tbs;
  tbs = one_carried (HoldsWindow 16 (TbsParts Means) (λ t. t.raw)) (HoldsWindow 16 (TbsParts Other) (λ t. t.raw)) (tbs_list_by other) (tbs_carried Means Other parse other ways)
      i l.tbs is.after_tbs below is.tbs;
  after_algorithm = is.after_algorithm;
  signature_algorithm = is.signature_algorithm;
  signature_value = is.signature_value;
}

pub list_carried : (Means Other : ValueMeaning) (parse other : ValueReading) → AreWays Means Other parse other
    → Carries (HoldsWhole 16 (ListParts Means) (λ l. l.raw)) (HoldsWhole 16 (ListParts Other) (λ l. l.raw)) (list_by other)
list_carried Means Other parse other ways = λ q l spells below is. record {
  inside = (
    is.inside.0,
    record { tag = is.inside.1.tag; inner = list_parts_carried Means Other parse other ways q.element.content l is.inside.0 (content_below q spells below) is.inside.1.inner },
  );
  window = is.window;
}
