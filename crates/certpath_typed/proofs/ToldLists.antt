-- A strict revocation list that was read leniently has its own fields.
use Rattle.std.proofs.Common.{◌≡◌, ◌∙◌, refl, sym, ap, subst, ℕ, min, true, List, [], ◌∷◌, ◌++◌, map, flat_map, Option, Some, None, option_map}
use Rattle.std.specs.List.{AllByRecursion, AllZip}
use Rattle.asn1_core.specs.Elements.{Element}
use Rattle.cert_model.specs.Fields.{CivilTime, Entry, RevocationList}
use Rattle.cert_model.specs.Octets.{optional_octets, number_octets, bit_field_octets, algorithm_octets, name_octets, time_octets, several_octets, extensions_octets, tagged_extensions_octets, entry_octets, entries_octets, tbs_cert_list_octets, list_octets}
use Rattle.cert_model.specs.Range.{IfThere, IsTimeField, IsEntry, AreListFields}
use Rattle.cert_model.specs.View.{time_view as civil_view}
use Rattle.x509_links.specs.Readers.{HeldVersion as X509Version, entry_view, list_view, RevokedCertificate, CertificateRevocationList}
use Rattle.x509_time.specs.declared.time.ASN1Time.{ASN1Time}
use Rattle.x509_time.specs.View.{time_view}
use Rattle.x509_links.specs.Lenient.{lenient_time, lenient_entry, lenient_list}
use Rattle.x509_links.proofs.StrictTimes.{one_time_is}
use Rattle.certpath_typed.specs.Told.{TellsAlgorithm, TellsName, told_bits, TellsExtensions}
use Rattle.certpath_typed.specs.ToldItems.{TellsEntry, TellsList}
use Rattle.certpath_typed.proofs.Standing.{Stands, Lifts, left, right, within, algorithm_told, name_told, several_told, tagged_told}

-- equal parts are equal lists
same_list : (a b : RevocationList) → a.version ≡ b.version → a.signature ≡ b.signature → a.issuer ≡ b.issuer → a.this_update ≡ b.this_update → a.next_update ≡ b.next_update
    → a.entries ≡ b.entries → a.extensions ≡ b.extensions → a.algorithm ≡ b.algorithm → a.signature_value ≡ b.signature_value → a ≡ b
same_list a b version signature issuer this_update next_update entries extensions algorithm signature_value = λ i. record {
  version = version i;
  signature = signature i;
  issuer = issuer i;
  this_update = this_update i;
  next_update = next_update i;
  entries = entries i;
  extensions = extensions i;
  algorithm = algorithm i;
  signature_value = signature_value i;
}

same_entry : (a b : Entry) → a.serial ≡ b.serial → a.date ≡ b.date → a.extensions ≡ b.extensions → a ≡ b
same_entry a b serial date extensions = λ i. record { serial = serial i; date = date i; extensions = extensions i }

-- ---- entries

entry_lifts : (item : List ℕ) (e : Entry) → Lifts item (entry_octets e) → Lifts item (several_octets extensions_octets e.extensions)
unfolding entry_octets
entry_lifts item e lift =
    let p0 = number_octets e.serial in
    let p1 = time_octets e.date in
    let p2 = several_octets extensions_octets e.extensions in
    let whole : Element = record { class = 0; constructed = true; tag = 16; content = p0 ++ (p1 ++ (p2 ++ [])) } in
    λ o h. lift o (within o whole (right o p0 (p1 ++ (p2 ++ [])) (right o p1 (p2 ++ []) (left o p2 [] h))))

entry_told : (item : List ℕ) (version : Option ℕ) (e : Entry) (r : RevokedCertificate) (told : Entry) → IsEntry version e → Lifts item (entry_octets e) → entry_view r ≡ lenient_entry e → TellsEntry item r told → told ≡ e
entry_told item version e r told range lift read tells =
    same_entry told e (tells.0 ∙ ap (λ z. z.serial) read) (tells.1 ∙ one_time_is e.date r.revocation_date.time range.date (ap (λ z. z.date.nanoseconds) read))
    (several_told item e.extensions told.extensions (entry_lifts item e lift) (subst (λ z. TellsExtensions item z.extensions told.extensions) read tells.2))

entries_told : (item : List ℕ) (version : Option ℕ) (es : List Entry) (rs : List RevokedCertificate) (told : List Entry) → AllByRecursion (IsEntry version) es → Lifts item (flat_map entry_octets es) → map entry_view rs ≡ map lenient_entry es
    → AllZip (TellsEntry item) rs told → told ≡ es
entries_told item version [] [] [] each lift read tells = refl
entries_told item version [] [] (t ∷ told) each lift read tells = absurd tells
entries_told item version [] (r ∷ rs) told each lift read tells = cc
entries_told item version (e ∷ es) [] told each lift read tells = cc
entries_told item version (e ∷ es) (r ∷ rs) [] each lift read tells = absurd tells
entries_told item version (e ∷ es) (r ∷ rs) (t ∷ told) each lift read tells =
    let first : entry_view r ≡ lenient_entry e = cc in
    let others : map entry_view rs ≡ map lenient_entry es = cc in
    let one = entry_told item version e r t each.0 (λ o h. lift o (left o (entry_octets e) (flat_map entry_octets es) h)) first tells.0 in
    let more = entries_told item version es rs told each.1 (λ o h. lift o (right o (entry_octets e) (flat_map entry_octets es) h)) others tells.1 in
    ap (λ z. z ∷ told) one ∙ ap (λ z. e ∷ z) more

listed_told : (item : List ℕ) (version : Option ℕ) (es : List Entry) (rs : List RevokedCertificate) (told : List Entry) → AllByRecursion (IsEntry version) es → Lifts item (entries_octets es) → map entry_view rs ≡ map lenient_entry es
    → AllZip (TellsEntry item) rs told → told ≡ es
listed_told item version [] rs told each lift read tells = entries_told item version [] rs told each (λ o h. lift o h) read tells
listed_told item version (e ∷ es) rs told each lift read tells =
    let whole : Element = record { class = 0; constructed = true; tag = 16; content = flat_map entry_octets (e ∷ es) } in
    entries_told item version (e ∷ es) rs told each (λ o h. lift o (within o whole h)) read tells

-- ---- what may be absent

version_told : (r : Option X509Version) (v : Option ℕ) → IfThere (λ n. n ≡ 1) v → option_map (λ n. n.0) r ≡ v → option_map (λ n. min n.0 255) r ≡ v
version_told None None range read = refl
version_told None (Some v) range read = cc
version_told (Some r) None range read = cc
version_told (Some r) (Some v) range read =
    let same : r.0 ≡ v = cc in
    ap (λ n. Some (min n 255)) (same ∙ range) ∙ ap Some (sym range)

update_told : (r : Option ASN1Time) (t : Option CivilTime) → IfThere IsTimeField t → option_map time_view r ≡ option_map lenient_time t → option_map (λ u. civil_view u.time) r ≡ t
update_told None None range read = refl
update_told None (Some t) range read = cc
update_told (Some r) None range read = cc
update_told (Some r) (Some t) range read =
    let same : time_view r ≡ lenient_time t = cc in
    ap Some (one_time_is t r.time range (ap (λ z. z.nanoseconds) same))

-- ---- lists

tbs_lifts : (item : List ℕ) (l : RevocationList) → list_octets l ≡ item → Lifts item (tbs_cert_list_octets l)
unfolding list_octets
tbs_lifts item l is =
    let last = algorithm_octets l.algorithm ++ (bit_field_octets l.signature_value ++ []) in
    let whole : Element = record { class = 0; constructed = true; tag = 16; content = tbs_cert_list_octets l ++ last } in
    λ o h. subst (Stands o) is (within o whole (left o (tbs_cert_list_octets l) last h))

algorithm_lifts : (item : List ℕ) (l : RevocationList) → list_octets l ≡ item → Lifts item (algorithm_octets l.algorithm)
unfolding list_octets
algorithm_lifts item l is =
    let last = bit_field_octets l.signature_value ++ [] in
    let middle = algorithm_octets l.algorithm ++ last in
    let whole : Element = record { class = 0; constructed = true; tag = 16; content = tbs_cert_list_octets l ++ middle } in
    λ o h. subst (Stands o) is (within o whole (right o (tbs_cert_list_octets l) middle (left o (algorithm_octets l.algorithm) last h)))

-- the parts of the signed part that hold identifiers
record Parts (item : List ℕ) (l : RevocationList) : Type 0 where
  pub signature : Lifts item (algorithm_octets l.signature)
  pub issuer : Lifts item (name_octets l.issuer)
  pub entries : Lifts item (entries_octets l.entries)
  pub extensions : Lifts item (tagged_extensions_octets 0 l.extensions)

parts_lift : (item : List ℕ) (l : RevocationList) → Lifts item (tbs_cert_list_octets l) → Parts item l
unfolding tbs_cert_list_octets
parts_lift item l lift =
    let p0 = optional_octets (λ version. number_octets (version ∷ [])) l.version in
    let p1 = algorithm_octets l.signature in
    let p2 = name_octets l.issuer in
    let p3 = time_octets l.this_update in
    let p4 = optional_octets time_octets l.next_update in
    let p5 = entries_octets l.entries in
    let p6 = tagged_extensions_octets 0 l.extensions in
    let r6 = p6 ++ [] in
    let r5 = p5 ++ r6 in
    let r4 = p4 ++ r5 in
    let r3 = p3 ++ r4 in
    let r2 = p2 ++ r3 in
    let r1 = p1 ++ r2 in
    let whole : Element = record { class = 0; constructed = true; tag = 16; content = p0 ++ r1 } in
    let in1 : Lifts item r1 = λ o h. lift o (within o whole (right o p0 r1 h)) in
    let in2 : Lifts item r2 = λ o h. in1 o (right o p1 r2 h) in
    let in5 : Lifts item r5 = λ o h. in2 o (right o p2 r3 (right o p3 r4 (right o p4 r5 h))) in
    record {
      signature = λ o h. in1 o (left o p1 r2 h);
      issuer = λ o h. in2 o (left o p2 r3 h);
      entries = λ o h. in5 o (left o p5 r6 h);
      extensions = λ o h. in5 o (right o p5 r6 (left o p6 [] h));
    }

pub list_told : (item : List ℕ) (l : RevocationList) (r : CertificateRevocationList) (told : RevocationList) → AreListFields l → list_octets l ≡ item → list_view r ≡ lenient_list l → TellsList item r told → told ≡ l
list_told item l r told range spelled read tells =
    let parts = parts_lift item l (tbs_lifts item l spelled) in
    let t = r.tbs_cert_list in
    same_list told l
    (tells.version ∙ version_told t.version l.version range.version (ap (λ z. z.tbs.version) read))
    (algorithm_told item l.signature told.signature parts.signature (subst (λ z. TellsAlgorithm item z.tbs.signature told.signature) read tells.signature))
    (name_told item l.issuer told.issuer parts.issuer (subst (λ z. TellsName item z.tbs.issuer told.issuer) read tells.issuer))
    (tells.this_update ∙ one_time_is l.this_update t.this_update.time range.this_update (ap (λ z. z.tbs.this_update.nanoseconds) read))
    (tells.next_update ∙ update_told t.next_update l.next_update range.next_update (ap (λ z. z.tbs.next_update) read))
    (listed_told item l.version l.entries t.revoked_certificates.items told.entries range.entries parts.entries (ap (λ z. z.tbs.entries) read) tells.entries)
    (tagged_told item 0 l.extensions told.extensions parts.extensions (subst (λ z. TellsExtensions item z.tbs.extensions told.extensions) read tells.extensions))
    (algorithm_told item l.algorithm told.algorithm (algorithm_lifts item l spelled) (subst (λ z. TellsAlgorithm item z.algorithm told.algorithm) read tells.algorithm))
    (tells.signature_value ∙ ap (λ z. told_bits z.signature_value) read)
