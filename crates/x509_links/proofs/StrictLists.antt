-- Strict revocation lists are what the lenient grammar says.
use Rattle.std.proofs.Common.{◌≡◌, ◌⊎◌, refl, sym, ap, subst, arith, ℕ, ◌<◌, ◌≤◌, ◌^◌, List, [], ◌∷◌, ◌++◌, map, flat_map, true, length, Option, Some, None, option_map, inl, inr, lit<, append-nil, length-append}
use Rattle.std.specs.List.{concat, AllByRecursion}
use Rattle.asn1_core.specs.Strict.{strict_header}
use Rattle.asn1_core.specs.Elements.{Element, IsElement, head_of_element, element_octets}
use Rattle.asn1_core.proofs.StrictLaws.{one_element_lem}
use Rattle.cert_framing.specs.Framing.{IsItem}
use Rattle.cert_model.specs.Fields.{Algorithm, Extension, CivilTime, Entry, RevocationList}
use Rattle.cert_model.specs.Octets.{optional_octets, number_octets, identifier_octets, bit_field_octets, algorithm_octets, name_octets, time_octets, several_octets, extensions_octets, tagged_extensions_octets, entry_octets, entries_octets, tbs_cert_list_octets, list_octets}
use Rattle.cert_model.specs.Range.{IfThere, IsTimeField, AreExtensions, IsEntry, AreListFields}
use Rattle.x509_core.specs.Grammar.{One, NoneBegins, Holds, HoldsWindow, HoldsWhole, ToEnd, Maybe}
use Rattle.x509_core.proofs.Grammars.{none_at_end}
use Rattle.x509_time.specs.Updates.{IsNoTime, NextUpdate, there, at_end, no_time}
use Rattle.x509_certs.specs.Shared.{IsUnparsed, X509Extension, IsVersion}
use Rattle.x509_lists.specs.Fields.{Entry as ReadEntry}
use Rattle.x509_lists.specs.Lists.{EntryParts, RevokedCertificate, RevokedCertificates, or_none, TbsParts, TbsCertList, ListParts, CertificateRevocationList}
use Rattle.x509_links.specs.Lenient.{lenient_extension, lenient_time, lenient_entry, lenient_tbs_list, lenient_list}
use Rattle.x509_links.proofs.Strict.{one_strict, content_small, two_small, each_is, algorithm_is, name_is, bits_is}
use Rattle.x509_links.proofs.StrictTimes.{time_is}
use Rattle.x509_links.proofs.StrictParts.{element_in, none_strict, header_strict, version_number_is, serial_is, extensions_is, tagged_is}

-- ---- entries

entry_parts : (s : List ℕ) (t : CivilTime) (es : List Extension) → IsTimeField t → AreExtensions es → length (number_octets s) < 2 ^ 64 → length (several_octets extensions_octets es) < 2 ^ 64 →
    EntryParts IsUnparsed (number_octets s ++ (time_octets t ++ (several_octets extensions_octets es ++ []))) (lenient_entry (record { serial = s; date = t; extensions = es })) []
entry_parts s t [] date range front back = record {
  after_serial = time_octets t ++ [];
  user_certificate = serial_is s (time_octets t ++ []) front;
  after_date = [];
  revocation_date = time_is t [] date;
  written = None;
  crl_entry_extensions = (refl, none_at_end (Holds 16 (ToEnd (X509Extension IsUnparsed))));
  are_extensions = refl;
}
entry_parts s t (e ∷ es) date range front back =
    let last = extensions_octets (e ∷ es) ++ [] in
    record {
      after_serial = time_octets t ++ last;
      user_certificate = serial_is s (time_octets t ++ last) front;
      after_date = last;
      revocation_date = time_is t last date;
      written = Some (map lenient_extension (e ∷ es));
      crl_entry_extensions = extensions_is (e ∷ es) [] range back;
      are_extensions = refl;
    }

-- what of an entry's range a reader needs
pub record IsEntryField (e : Entry) : Type 0 where
  pub date : IsTimeField e.date
  pub extensions : AreExtensions e.extensions

entry_is : (e : Entry) (rest : List ℕ) → IsEntryField e → length (entry_octets e) < 2 ^ 64 → RevokedCertificate IsUnparsed (entry_octets e ++ rest) (lenient_entry e) rest
unfolding entry_octets
entry_is e rest range small =
    let last = several_octets extensions_octets e.extensions ++ [] in
    let middle = time_octets e.date ++ last in
    let whole : Element = record { class = 0; constructed = true; tag = 16; content = number_octets e.serial ++ middle } in
    let s0 = two_small (number_octets e.serial) middle (content_small whole small) in
    let s1 = two_small (time_octets e.date) last s0.1 in
    let s2 = two_small (several_octets extensions_octets e.extensions) [] s1.1 in
    one_strict (Holds 16 (EntryParts IsUnparsed)) whole (lenient_entry e) rest (lit< tt) (lit< tt) small
    ([], record { tag = refl; inner = entry_parts e.serial e.date e.extensions range.date range.extensions s0.0 s2.0 })

entry_fields : (version : Option ℕ) (es : List Entry) → AllByRecursion (IsEntry version) es → AllByRecursion IsEntryField es
entry_fields version [] each = tt
entry_fields version (e ∷ es) each = (record { date = each.0.date; extensions = each.0.extensions }, entry_fields version es each.1)

-- an element of tag number 0 isn't a SEQUENCE
no_entries : (es : List Extension) → length (tagged_extensions_octets 0 es) < 2 ^ 64 → NoneBegins (RevokedCertificates IsUnparsed) (tagged_extensions_octets 0 es ++ [])
no_entries [] small = none_at_end (Holds 16 (ToEnd (RevokedCertificate IsUnparsed)))
no_entries (e ∷ es) small =
    let whole : Element = record { class = 2; constructed = true; tag = 0; content = extensions_octets (e ∷ es) } in
    none_strict (Holds 16 (ToEnd (RevokedCertificate IsUnparsed))) whole [] (element_in whole (lit< tt) (lit< tt) small) (λ v is. let tag : 0 ≡ 16 = is.1.tag in omega (arith, tag))

-- entries or none, as the reader returns them
pub record AreEntries (octets : List ℕ) (es : List Entry) (rest : List ℕ) : Type 0 where
  pub written : Option (List ReadEntry)
  pub there_or_none : Maybe (RevokedCertificates IsUnparsed) octets written rest
  pub are : map lenient_entry es ≡ or_none written

entries_are : (version : Option ℕ) (es : List Entry) (xs : List Extension) → AllByRecursion (IsEntry version) es → length (entries_octets es) < 2 ^ 64 → length (tagged_extensions_octets 0 xs) < 2 ^ 64 →
    AreEntries (entries_octets es ++ (tagged_extensions_octets 0 xs ++ [])) es (tagged_extensions_octets 0 xs ++ [])
entries_are version [] xs each small behind = record { written = None; there_or_none = (refl, no_entries xs behind); are = refl }
entries_are version (e ∷ es) xs each small behind =
    let all = e ∷ es in
    let whole : Element = record { class = 0; constructed = true; tag = 16; content = flat_map entry_octets all } in
    record {
      written = Some (map lenient_entry all);
      there_or_none = one_strict (Holds 16 (ToEnd (RevokedCertificate IsUnparsed))) whole (map lenient_entry all) (tagged_extensions_octets 0 xs ++ []) (lit< tt) (lit< tt) small
          ([], record { tag = refl; inner = (each_is (Holds 16 (EntryParts IsUnparsed)) entry_octets lenient_entry IsEntryField entry_is all (entry_fields version all each) (content_small whole small), refl) });
      are = refl;
    }

-- ---- the next update

-- nothing is left, or a header of another tag number than a time's is next
abbrev BeginsNoTime : List ℕ → Type 0
BeginsNoTime rest = (rest ≡ []) ⊎ IsNoTime rest

-- a content is no longer than its element
size_small : (e : Element) → length (element_octets e) ≤ 4_294_967_295 → length e.content ≤ 4_294_967_295
size_small e small = omega (arith, small, length-append (strict_header (head_of_element e)) e.content)

begins_no_time : (e : Element) (rest : List ℕ) → IsElement e → e.tag < 23 → length (element_octets e) ≤ 4_294_967_295 → BeginsNoTime (element_octets e ++ rest)
begins_no_time e rest is other small = inr (record {
  head = head_of_element e;
  after_header = e.content ++ rest;
  header = header_strict e rest is;
  size = size_small e small;
  no_utc_time = λ tag. omega (arith, other, tag);
  no_general_time = λ tag. absurd (omega (arith, other, tag));
})

tagged_no_time : (es : List Extension) → length (tagged_extensions_octets 0 es) ≤ 4_294_967_295 → BeginsNoTime (tagged_extensions_octets 0 es ++ [])
tagged_no_time [] small = inl refl
tagged_no_time (e ∷ es) small =
    let whole : Element = record { class = 2; constructed = true; tag = 0; content = extensions_octets (e ∷ es) } in
    begins_no_time whole [] (element_in whole (lit< tt) (lit< tt) (omega (arith, small))) (lit< tt) small

entries_no_time : (es : List Entry) (rest : List ℕ) → length (entries_octets es) ≤ 4_294_967_295 → BeginsNoTime rest → BeginsNoTime (entries_octets es ++ rest)
entries_no_time [] rest small behind = behind
entries_no_time (e ∷ es) rest small behind =
    let whole : Element = record { class = 0; constructed = true; tag = 16; content = flat_map entry_octets (e ∷ es) } in
    begins_no_time whole rest (element_in whole (lit< tt) (lit< tt) (omega (arith, small))) (lit< tt) small

no_update : (rest : List ℕ) → BeginsNoTime rest → NextUpdate rest None rest
no_update rest (inl none) = at_end none refl refl
no_update rest (inr other) = no_time other refl refl

update_is : (t : Option CivilTime) (rest : List ℕ) → IfThere IsTimeField t → BeginsNoTime rest → NextUpdate (optional_octets time_octets t ++ rest) (option_map lenient_time t) rest
update_is None rest range behind = no_update rest behind
update_is (Some t) rest range behind = there (lenient_time t) refl (time_is t rest range)

-- ---- the version

no_version : (a : Algorithm) (rest : List ℕ) → length (algorithm_octets a) < 2 ^ 64 → NoneBegins (One IsVersion) (algorithm_octets a ++ rest)
unfolding algorithm_octets
no_version a rest small =
    let whole : Element = record { class = 0; constructed = true; tag = 16; content = identifier_octets a.identifier ++ optional_octets element_octets a.parameters } in
    none_strict IsVersion whole rest (element_in whole (lit< tt) (lit< tt) small) (λ v is. let tag : 16 ≡ 2 = is.leaf.tag_is in omega (arith, tag))

version_is : (version : Option ℕ) (a : Algorithm) (rest : List ℕ) → IfThere (λ v. v ≡ 1) version → length (algorithm_octets a) < 2 ^ 64 →
    Maybe (One IsVersion) (optional_octets (λ v. number_octets (v ∷ [])) version ++ (algorithm_octets a ++ rest)) version (algorithm_octets a ++ rest)
version_is None a rest range small = (refl, no_version a rest small)
version_is (Some v) a rest range small = version_number_is v (algorithm_octets a ++ rest) (omega (arith, range))

-- ---- lists

-- of two parts each is as short as both
two_within : (a b : List ℕ) → length (a ++ b) ≤ 4_294_967_295 → (length a ≤ 4_294_967_295) × (length b ≤ 4_294_967_295)
two_within a b small = (omega (arith, small, length-append a b), omega (arith, small, length-append a b))

wide : (a : List ℕ) → length a ≤ 4_294_967_295 → length a < 2 ^ 64
wide a small = omega (arith, small)

tbs_parts : (l : RevocationList) → AreListFields l → (content : List ℕ) → length content ≤ 4_294_967_295 →
    content ≡ concat (optional_octets (λ version. number_octets (version ∷ [])) l.version ∷ algorithm_octets l.signature ∷ name_octets l.issuer ∷ time_octets l.this_update
    ∷ optional_octets time_octets l.next_update ∷ entries_octets l.entries ∷ tagged_extensions_octets 0 l.extensions ∷ []) → TbsParts IsUnparsed content (lenient_tbs_list l) []
tbs_parts l range content small is =
    let r6 = tagged_extensions_octets 0 l.extensions ++ [] in
    let r5 = entries_octets l.entries ++ r6 in
    let r4 = optional_octets time_octets l.next_update ++ r5 in
    let r3 = time_octets l.this_update ++ r4 in
    let r2 = name_octets l.issuer ++ r3 in
    let r1 = algorithm_octets l.signature ++ r2 in
    let s0 = two_within (optional_octets (λ version. number_octets (version ∷ [])) l.version) r1 (subst (λ z. length z ≤ 4_294_967_295) is small) in
    let s1 = two_within (algorithm_octets l.signature) r2 s0.1 in
    let s2 = two_within (name_octets l.issuer) r3 s1.1 in
    let s3 = two_within (time_octets l.this_update) r4 s2.1 in
    let s4 = two_within (optional_octets time_octets l.next_update) r5 s3.1 in
    let s5 = two_within (entries_octets l.entries) r6 s4.1 in
    let s6 = two_within (tagged_extensions_octets 0 l.extensions) [] s5.1 in
    let signature = wide (algorithm_octets l.signature) s1.0 in
    let extensions = wide (tagged_extensions_octets 0 l.extensions) s6.0 in
    let entries = entries_are l.version l.entries l.extensions range.entries (wide (entries_octets l.entries) s5.0) extensions in
    subst (λ z. TbsParts IsUnparsed z (lenient_tbs_list l) []) (sym is) (record {
      after_version = r1;
      version = version_is l.version l.signature r2 range.version signature;
      after_signature = r2;
      signature = algorithm_is l.signature r2 range.signature signature;
      after_issuer = r3;
      issuer = name_is l.issuer r3 range.issuer (wide (name_octets l.issuer) s2.0);
      after_this_update = r4;
      this_update = time_is l.this_update r4 range.this_update;
      after_next_update = r5;
      next_update = update_is l.next_update r5 range.next_update (entries_no_time l.entries r6 s5.0 (tagged_no_time l.extensions s6.0));
      written = entries.written;
      after_entries = r6;
      revoked_certificates = entries.there_or_none;
      are_entries = entries.are;
      crl_extensions = tagged_is 0 l.extensions (lit< tt) range.extensions extensions;
    })

pub tbs_is : (l : RevocationList) (rest : List ℕ) → AreListFields l → length (tbs_cert_list_octets l) ≤ 4_294_967_295 → TbsCertList IsUnparsed (tbs_cert_list_octets l ++ rest) (lenient_tbs_list l) rest
unfolding tbs_cert_list_octets
tbs_is l rest range small =
    let content = concat (optional_octets (λ version. number_octets (version ∷ [])) l.version ∷ algorithm_octets l.signature ∷ name_octets l.issuer ∷ time_octets l.this_update
    ∷ optional_octets time_octets l.next_update ∷ entries_octets l.entries ∷ tagged_extensions_octets 0 l.extensions ∷ []) in
    let whole : Element = record { class = 0; constructed = true; tag = 16; content = content } in
    one_strict (HoldsWindow 16 (TbsParts IsUnparsed) (λ t. t.raw)) whole (lenient_tbs_list l) rest (lit< tt) (lit< tt) (wide (element_octets whole) small) (record {
      left = [];
      inside = record { tag = refl; inner = tbs_parts l range content (size_small whole small) refl };
      window = sym (append-nil (element_octets whole));
    })

-- the content of an item is under its limit
item_within : (e : Element) → e.class < 4 → e.tag < 2 ^ 32 → length (element_octets e) < 2 ^ 64 → IsItem 4_294_967_295 (element_octets e) → length e.content ≤ 4_294_967_295
item_within e class tag small item =
    let f : Element = record { class = 0; constructed = true; tag = 16; content = item.content } in
    let second : IsElement f = record { class = lit< tt; tag = lit< tt; size = omega (arith, item.small) } in
    let same = one_element_lem e f [] [] (element_in e class tag small) second (ap (λ z. z ++ []) item.spelled) in
    omega (arith, item.small, ap (λ (z : Element). length z.content) same.0)

pub list_is : (l : RevocationList) (rest : List ℕ) → AreListFields l → length (list_octets l) < 2 ^ 64 → IsItem 4_294_967_295 (list_octets l) → CertificateRevocationList IsUnparsed (list_octets l ++ rest) (lenient_list l) rest
unfolding list_octets
list_is l rest range small item =
    let last = bit_field_octets l.signature_value ++ [] in
    let middle = algorithm_octets l.algorithm ++ last in
    let whole : Element = record { class = 0; constructed = true; tag = 16; content = tbs_cert_list_octets l ++ middle } in
    let s0 = two_within (tbs_cert_list_octets l) middle (item_within whole (lit< tt) (lit< tt) small item) in
    let s1 = two_within (algorithm_octets l.algorithm) last s0.1 in
    let s2 = two_within (bit_field_octets l.signature_value) [] s1.1 in
    one_strict (HoldsWhole 16 (ListParts IsUnparsed) (λ d. d.raw)) whole (lenient_list l) rest (lit< tt) (lit< tt) small (record {
      inside = (
        [],
        record {
          tag = refl;
          inner = record {
            after_tbs = middle;
            tbs = tbs_is l middle range s0.0;
            after_algorithm = last;
            signature_algorithm = algorithm_is l.algorithm last range.algorithm (wide (algorithm_octets l.algorithm) s1.0);
            signature_value = bits_is l.signature_value [] range.signature_value (wide (bit_field_octets l.signature_value) s2.0);
          };
        },
      );
      window = refl;
    })
