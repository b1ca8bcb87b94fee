-- Readers of revocation lists take what the relations say, and no more.
use Rattle.std.proofs.Common.{◌≡◌, ◌∙◌, ◌⊎◌, inl, inr, refl, sym, ap, subst, ℕ, List, [], ◌++◌, append-nil, Option, Some, None, Result, Ok, Err, IfOk, Bor}
use Rattle.std.specs.Int.Digits.{AllBelowBase}
use Rattle.asn1_core.specs.declared.error.Needed.TheVariants as needed
use Rattle.asn1_core.specs.declared.outcome.Err.{Err as Refusal}
use Rattle.asn1_core.specs.Reading.{header_at, identity_at}
use Rattle.asn1_any.specs.Cutting.{Piece}
use Rattle.asn1_any.specs.Reading.{der_element_at}
use Rattle.asn1_traits.specs.Elements.{EndsWithinElement}
use Rattle.x509_core.specs.Answers.{Answer, plain, unnamed, naming, ◌>>=◌}
use Rattle.x509_core.specs.Grammar.{Header, One, HoldsWindow, Holds, HoldsWhole, Maybe}
use Rattle.x509_core.specs.Reading.{content_in}
use Rattle.x509_core.specs.declared.error.X509Error.{X509Error}
use Rattle.x509_core.specs.declared.error.X509Error.TheVariants as errors
use Rattle.x509_core.proofs.Grammars.{IsMeaning, IsReading, next_reading, two, was_named, content_below}
use Rattle.x509_core.proofs.Pieces.{empty_read}
use Rattle.x509_names.specs.Fields.{Algorithm, Name}
use Rattle.x509_names.specs.Leaves.{IsBits}
use Rattle.x509_names.specs.Names.{AlgorithmParts, AlgorithmIdentifier, NameParts, X509Name}
use Rattle.x509_names.specs.Reading.{algorithm_in, algorithm_at, name_in, name_at, bits_in, bits_at}
use Rattle.x509_names.proofs.LeafLaws.{content_found, content_only, bits_meaning}
use Rattle.x509_names.proofs.NameLaws.{algorithm_meaning, name_meaning}
use Rattle.x509_time.specs.Reading.{time_at, next_update_at}
use Rattle.x509_time.specs.Times.{Time, ASN1Time}
use Rattle.x509_time.specs.Updates.{NextUpdate}
use Rattle.x509_time.proofs.TimeLaws.{time_reading}
use Rattle.x509_time.proofs.UpdateLaws.{update_reading}
use Rattle.x509_ext.specs.Extensions.{Extensions, absent, there}
use Rattle.x509_ext.specs.Fields.{Extension, ValueMeaning, ValueReading}
use Rattle.x509_ext.specs.Parts.{IsVersion}
use Rattle.x509_ext.specs.Reading.{version_in, extensions_at}
use Rattle.x509_ext.proofs.ExtensionLaws.{IsValueLaw, extensions_found, extensions_only, extensions_end}
use Rattle.x509_ext.proofs.PartLaws.{version_meaning}
use Rattle.x509_lists.specs.Fields.{Entry, TbsList, RevocationList}
use Rattle.x509_lists.specs.Lists.{or_none, RevokedCertificates, BeginsWithWrapper, TbsParts, TbsCertList, ListParts, CertificateRevocationList}
use Rattle.x509_lists.specs.Reading.{number_at, version_at, entries_at, tbs_in, tbs_at, list_in, list_at}
use Rattle.x509_lists.specs.View.{tbs_view, list_view}
use Rattle.x509_lists.specs.declared.tbs.TbsCertList.{TbsCertList as Signed}
use Rattle.x509_lists.specs.declared.list.CertificateRevocationList.{CertificateRevocationList as Whole}
use Rattle.x509_lists.proofs.EntryLaws.{IsMaybe, maybe_found, maybe_only, AreEntries, entries_found, entries_only}

algorithms : IsReading AlgorithmIdentifier algorithm_at
algorithms = next_reading (Holds 16 AlgorithmParts) (λ q. algorithm_in q.element) algorithm_meaning

names : IsReading X509Name name_at
names = next_reading (HoldsWindow 16 NameParts (λ n. n.raw)) name_in name_meaning

bits : IsReading (One IsBits) bits_at
bits = next_reading IsBits (λ q. bits_in q.element) bits_meaning

numbers : IsReading (One IsVersion) number_at
numbers = next_reading IsVersion (λ q. plain (version_in q.element)) version_meaning

version_found : (i : List ℕ) → AllBelowBase 256 i → IsMaybe (One IsVersion) i (version_at i).0 (version_at i).1
unfolding version_at
version_found i below = maybe_found (One IsVersion) number_at numbers i below

version_only : (i : List ℕ) (v : Option ℕ) (r : List ℕ) → AllBelowBase 256 i → Maybe (One IsVersion) i v r → version_at i ≡ (v, r)
unfolding version_at
version_only i v r below is = maybe_only (One IsVersion) number_at numbers i v r below is

-- ---- the signed part, in two runs of parts: each is read with what it is put into

abbrev Ended : Type 0
Ended = Option Time → List Entry → List Extension → TbsList

abbrev Begun : Type 0
Begun = Option ℕ → Algorithm → Name → Time → Ended

unfoldable end_by : ValueReading → Ended → List ℕ → Answer TbsList
end_by parse put i = do
  next_update ← next_update_at i
  entries ← entries_at parse next_update.1
  extensions ← extensions_at parse 0 entries.1
  Ok (put next_update.0 entries.0 extensions)

unfoldable begin_by : ValueReading → Begun → List ℕ → Answer TbsList
begin_by parse put i = do
  signature ← algorithm_at (version_at i).1
  issuer ← name_at signature.1
  this_update ← time_at issuer.1
  end_by parse (put (version_at i).0 signature.0 issuer.0 this_update.0) this_update.1

abbrev made : List ℕ → Begun
made raw version signature issuer this_update next_update entries extensions =
    record { version = version; signature = signature; issuer = issuer; this_update = this_update; next_update = next_update; entries = entries; extensions = extensions; raw = raw }

tbs_is : (parse : ValueReading) (q : Piece) → tbs_in parse q ≡ content_in 16 q.element >>= begin_by parse (made q.octets)
unfolding tbs_in begin_by end_by
tbs_is parse q = refl

record End (Means : ValueMeaning) (put : Ended) (i : List ℕ) (v : TbsList) : Type 0 where
  next_update : Option Time
  after_next_update : List ℕ
  first : NextUpdate i next_update after_next_update
  entries : List Entry
  after_entries : List ℕ
  second : AreEntries Means after_next_update entries after_entries
  extensions : List Extension
  last : Extensions Means 0 after_entries extensions []
  is : put next_update entries extensions ≡ v

end_found : (Means : ValueMeaning) (parse : ValueReading) → IsValueLaw Means parse → (put : Ended) (i : List ℕ) (v : TbsList) → AllBelowBase 256 i → end_by parse put i ≡ Ok v → End Means put i v
unfolding end_by
end_found Means parse law put i v below given =
    let s1 = two (next_update_at i) _ v given in
    let p1 = update_reading.found i s1.0.0 s1.0.1 below s1.1 in
    let s2 = two (entries_at parse s1.0.1) _ v s1.2 in
    let p2 = entries_found Means parse law s1.0.1 s2.0.0 s2.0.1 p1.1 s2.1 in
    let s3 = two (extensions_at parse 0 s2.0.1) _ v s2.2 in
    let same : put s1.0.0 s2.0.0 s3.0 ≡ v = cc in
    record {
      next_update = s1.0.0;
      after_next_update = s1.0.1;
      first = p1.0;
      entries = s2.0.0;
      after_entries = s2.0.1;
      second = p2;
      extensions = s3.0;
      last = extensions_found Means parse law 0 s2.0.1 s3.0 p2.below s3.1;
      is = same;
    }

record Begin (Means : ValueMeaning) (put : Begun) (i : List ℕ) (v : TbsList) : Type 0 where
  first : IsMaybe (One IsVersion) i (version_at i).0 (version_at i).1
  signature : Algorithm
  after_signature : List ℕ
  second : AlgorithmIdentifier (version_at i).1 signature after_signature
  issuer : Name
  after_issuer : List ℕ
  third : X509Name after_signature issuer after_issuer
  this_update : Time
  after_this_update : List ℕ
  fourth : ASN1Time after_issuer this_update after_this_update
  end : End Means (put (version_at i).0 signature issuer this_update) after_this_update v

begin_found : (Means : ValueMeaning) (parse : ValueReading) → IsValueLaw Means parse → (put : Begun) (i : List ℕ) (v : TbsList) → AllBelowBase 256 i → begin_by parse put i ≡ Ok v → Begin Means put i v
unfolding begin_by
begin_found Means parse law put i v below given =
    let p0 = version_found i below in
    let s1 = two (algorithm_at (version_at i).1) _ v given in
    let p1 = algorithms.found (version_at i).1 s1.0.0 s1.0.1 p0.below s1.1 in
    let s2 = two (name_at s1.0.1) _ v s1.2 in
    let p2 = names.found s1.0.1 s2.0.0 s2.0.1 p1.1 s2.1 in
    let s3 = two (time_at s2.0.1) _ v s2.2 in
    let p3 = time_reading.found s2.0.1 s3.0.0 s3.0.1 p2.1 s3.1 in
    record {
      first = p0;
      signature = s1.0.0;
      after_signature = s1.0.1;
      second = p1.0;
      issuer = s2.0.0;
      after_issuer = s2.0.1;
      third = p2.0;
      this_update = s3.0.0;
      after_this_update = s3.0.1;
      fourth = p3.0;
      end = end_found Means parse law (put (version_at i).0 s1.0.0 s2.0.0 s3.0.0) s3.0.1 v p3.1 s3.2;
    }

end_only : (Means : ValueMeaning) (parse : ValueReading) → IsValueLaw Means parse → (put : Ended) (rest : List ℕ) (t : TbsList) (octets : List ℕ) (is : TbsParts Means octets t rest) → AllBelowBase 256 is.after_this_update
    → end_by parse put is.after_this_update ≡ Ok (put t.next_update t.entries t.extensions)
unfolding end_by
end_only Means parse law put rest t octets is below =
    let e1 = update_reading.only is.after_this_update t.next_update is.after_next_update below is.next_update in
    let b1 = (update_reading.found is.after_this_update t.next_update is.after_next_update below e1).1 in
    let e2 = entries_only Means parse law is.after_next_update is.written is.after_entries t.extensions rest b1 is.revoked_certificates is.crl_extensions in
    let b2 = (entries_found Means parse law is.after_next_update (or_none is.written) is.after_entries b1 e2).below in
    rw (e1, e2, extensions_only Means parse law 0 is.after_entries t.extensions rest b2 is.crl_extensions, sym is.are_entries) refl

begin_only : (Means : ValueMeaning) (parse : ValueReading) → IsValueLaw Means parse → (put : Begun) (octets rest : List ℕ) (t : TbsList) (is : TbsParts Means octets t rest) → AllBelowBase 256 octets
    → begin_by parse put octets ≡ Ok (put t.version t.signature t.issuer t.this_update t.next_update t.entries t.extensions)
unfolding begin_by
begin_only Means parse law put octets rest t is below =
    let e0 = version_only octets t.version is.after_version below is.version in
    let b0 : AllBelowBase 256 is.after_version = subst (AllBelowBase 256) (ap (λ (z : Option ℕ × List ℕ). z.1) e0) (version_found octets below).below in
    let e1 = algorithms.only is.after_version t.signature is.after_signature b0 is.signature in
    let b1 = (algorithms.found is.after_version t.signature is.after_signature b0 e1).1 in
    let e2 = names.only is.after_signature t.issuer is.after_issuer b1 is.issuer in
    let b2 = (names.found is.after_signature t.issuer is.after_issuer b1 e2).1 in
    let e3 = time_reading.only is.after_issuer t.this_update is.after_this_update b2 is.this_update in
    let b3 = (time_reading.found is.after_issuer t.this_update is.after_this_update b2 e3).1 in
    rw (e0, e1, e2, e3) (end_only Means parse law (put t.version t.signature t.issuer t.this_update) rest t octets is b3)

pub tbs_meaning : (Means : ValueMeaning) (parse : ValueReading) → IsValueLaw Means parse → IsMeaning (HoldsWindow 16 (TbsParts Means) (λ t. t.raw)) (tbs_in parse)
tbs_meaning Means parse law = record {
  found = λ q v spells below given.
      let content = two (content_in 16 q.element) (begin_by parse (made q.octets)) v (sym (tbs_is parse q) ∙ given) in
      let tag = content_found 16 q.element content.0 content.1 in
      let inner : AllBelowBase 256 content.0 = subst (AllBelowBase 256) tag.1 (content_below q spells below) in
      let b = begin_found Means parse law (made q.octets) content.0 v inner content.2 in
      let e = b.end in
      let here : TbsList = made q.octets (version_at content.0).0 b.signature b.issuer b.this_update e.next_update e.entries e.extensions in
      let parts : TbsParts Means content.0 here [] = record {
        after_version = (version_at content.0).1;
        version = b.first.is;
        after_signature = b.after_signature;
        signature = b.second;
        after_issuer = b.after_issuer;
        issuer = b.third;
        after_this_update = b.after_this_update;
        this_update = b.fourth;
        after_next_update = e.after_next_update;
        next_update = e.first;
        written = e.second.written;
        after_entries = e.after_entries;
        revoked_certificates = e.second.is;
        are_entries = e.second.are;
        crl_extensions = e.last;
      } in
      subst (HoldsWindow 16 (TbsParts Means) (λ t. t.raw) q) e.is (record {
        left = [];
        inside = record { tag = tag.0; inner = subst (λ z. TbsParts Means z here []) (sym tag.1) parts };
        window = sym (append-nil q.octets);
      });
  only = λ q v spells below is.
      let parts = is.inside.inner in
      let begun = begin_only Means parse law (made q.octets) q.element.content is.left v parts (content_below q spells below) in
      let whole : q.octets ≡ v.raw = is.window ∙ ap (λ z. v.raw ++ z) (extensions_end Means 0 parts.after_entries v.extensions is.left parts.crl_extensions) ∙ append-nil v.raw in
      tbs_is parse q ∙ ap (λ z. z >>= begin_by parse (made q.octets)) (content_only 16 q.element is.inside.tag) ∙ begun
      ∙ ap (λ z. Ok (made z v.version v.signature v.issuer v.this_update v.next_update v.entries v.extensions)) whole;
}

-- ---- the list

pub list_meaning : (Means : ValueMeaning) (parse : ValueReading) → IsValueLaw Means parse → IsMeaning (HoldsWhole 16 (ListParts Means) (λ l. l.raw)) (list_in parse)
unfolding list_in
list_meaning Means parse law = record {
  found = λ q v spells below given.
      let signed = next_reading (HoldsWindow 16 (TbsParts Means) (λ t. t.raw)) (tbs_in parse) (tbs_meaning Means parse law) in
      let content = two (content_in 16 q.element) _ v given in
      let tag = content_found 16 q.element content.0 content.1 in
      let inner : AllBelowBase 256 content.0 = subst (AllBelowBase 256) tag.1 (content_below q spells below) in
      let s1 = two (tbs_at parse content.0) _ v content.2 in
      let p1 = signed.found content.0 s1.0.0 s1.0.1 inner s1.1 in
      let s2 = two (algorithm_at s1.0.1) _ v s1.2 in
      let p2 = algorithms.found s1.0.1 s2.0.0 s2.0.1 p1.1 s2.1 in
      let s3 = two (naming errors.InvalidSignatureValue (bits_at s2.0.1)) _ v s2.2 in
      let p3 = bits.found s2.0.1 s3.0.0 s3.0.1 p2.1 (was_named _ _ _ s3.1) in
      let here : RevocationList = record { tbs = s1.0.0; algorithm = s2.0.0; signature_value = s3.0.0; raw = q.octets } in
      let same : ◌≡◌ {A = RevocationList} here v = cc in
      let parts : ListParts Means content.0 here s3.0.1 = record { after_tbs = s1.0.1; tbs = p1.0; after_algorithm = s2.0.1; signature_algorithm = p2.0; signature_value = p3.0 } in
      subst (HoldsWhole 16 (ListParts Means) (λ l. l.raw) q) same (record {
        inside = (s3.0.1, record { tag = tag.0; inner = subst (λ z. ListParts Means z here s3.0.1) (sym tag.1) parts });
        window = refl;
      });
  only = λ q v spells below is.
      let signed = next_reading (HoldsWindow 16 (TbsParts Means) (λ t. t.raw)) (tbs_in parse) (tbs_meaning Means parse law) in
      let parts = is.inside.1.inner in
      let b0 = content_below q spells below in
      let r1 : tbs_at parse q.element.content ≡ Ok (v.tbs, parts.after_tbs) = signed.only q.element.content v.tbs parts.after_tbs b0 parts.tbs in
      let b1 = (signed.found q.element.content v.tbs parts.after_tbs b0 r1).1 in
      let r2 : algorithm_at parts.after_tbs ≡ Ok (v.algorithm, parts.after_algorithm) = algorithms.only parts.after_tbs v.algorithm parts.after_algorithm b1 parts.signature_algorithm in
      let b2 = (algorithms.found parts.after_tbs v.algorithm parts.after_algorithm b1 r2).1 in
      let r3 : bits_at parts.after_algorithm ≡ Ok (v.signature_value, is.inside.0) = bits.only parts.after_algorithm v.signature_value is.inside.0 b2 parts.signature_value in
      rw (content_only 16 q.element is.inside.1.tag, r1, r2, r3, sym is.window) refl;
}

-- ---- what readers promise

pub list_window : (Means : ValueMeaning) (i : List ℕ) (answer : Result (Bor (List ℕ) × Whole) (Refusal X509Error)) → IfOk answer (λ r. CertificateRevocationList Means i (list_view r.1) r.0.now) → IfOk answer (λ r. i ≡ r.1.raw.now ++ r.0.now)
list_window Means i (Ok r) found = found.whole ∙ ap (λ z. z ++ r.0.now) (sym found.means.window)
list_window Means i (Err e) found = tt

pub tbs_window : (Means : ValueMeaning) (i : List ℕ) (answer : Result (Bor (List ℕ) × Signed) (Refusal X509Error)) → IfOk answer (λ r. TbsCertList Means i (tbs_view r.1) r.0.now) → IfOk answer (λ r. i ≡ r.1.raw.now ++ r.0.now)
tbs_window Means i (Ok r) found =
    let parts = found.means.inside.inner in
    let end = extensions_end Means 0 parts.after_entries (tbs_view r.1).extensions found.means.left parts.crl_extensions in
    let whole : found.piece.octets ≡ r.1.raw.now = found.means.window ∙ ap (λ z. r.1.raw.now ++ z) end ∙ append-nil r.1.raw.now in
    found.whole ∙ ap (λ z. z ++ r.0.now) whole
tbs_window Means i (Err e) found = tt

-- of no octets one is missing at least
pub one_missing : (i : List ℕ) → i ≡ [] → EndsWithinElement i (needed.Size 1)
unfolding der_element_at header_at identity_at
one_missing i none = rw none refl

pub none_there : (parse : ValueReading) (i : List ℕ) → i ≡ [] → list_at parse i ≡ Err unnamed
none_there parse i none = ap (λ z. z >>= λ e. (list_in parse e.0 >>= λ v. Ok (v, e.1))) (empty_read i none)

-- no entries are hidden: if they count as absent, nothing is left, or the wrapper of extensions is
-- in their place
pub nothing_hidden : (Means : ValueMeaning) (before after : List ℕ) (written : Option (List Entry)) (xs : List Extension) (rest : List ℕ) → Maybe (RevokedCertificates Means) before written after → written ≡ None → Extensions Means 0 after xs rest
    → (before ≡ []) ⊎ BeginsWithWrapper before
nothing_hidden Means before after None xs rest is none (absent e f g) = inl (is.0 ∙ e)
nothing_hidden Means before after None xs rest is none (there w g) =
    inr (record { head = w.head; after_header = w.after_header; header = subst (λ z. Header z w.head w.after_header) (sym is.0) w.header; tag = w.tag })
nothing_hidden Means before after (Some es) xs rest is none any = cc none
