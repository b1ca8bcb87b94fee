-- An object has no fault as a certificate exactly if it is one.
use Rattle.std.proofs.Common.{◌≡◌, ◌∙◌, refl, sym, ap, ℕ, ◌==◌, ◌&&◌, nat_lt, true, Option, Some, None, Ok, option_and_then, subst}
use Rattle.std.proofs.lemmas.Option.{option_and_then_some}
use Rattle.der_tree.specs.Tree.{Tree, Trees, octets}
use Rattle.der_tree.specs.Shape.{IsObject}
use Rattle.der_tree.specs.Access.{sequence_at, first_at, end_at}
use Rattle.cert_model.specs.Fields.{Bits, Certificate}
use Rattle.cert_model.specs.Range.{IfThere}
use Rattle.cert_model.specs.Class.{IsCertificateItem}
use Rattle.cert_model.specs.PieceOctets.{HasSmallContent}
use Rattle.cert_model.specs.Reads.{next_at, number_at, algorithm_at, name_at, key_at, bits_at, tagged_at}
use Rattle.cert_model.specs.Pieces.{validity_at, TbsPieces, tbs_at, Signed, signed_at}
use Rattle.cert_model.specs.Assembly.{version_in, id_in, AreExtensionsIn, is_there, is_some, implies, fits_version, certificate_from}
use Rattle.cert_model.proofs.Assemblies.{certificate_found, ReadsCertificate}
use Rattle.cert_model.proofs.Certificates.{extensions_small}
use Rattle.cert_model.proofs.Cases.{both_true}
use Rattle.cert_model.proofs.StrictItems.{certificate_item}
use Rattle.cert_faults.specs.declared.places.Field.TheVariants as fields
use Rattle.cert_faults.specs.declared.places.Expected.TheVariants as wants
use Rattle.cert_faults.specs.Steps.{whole, inside, left_after, Rest, there_or, sequence_or, first_or, end_or, next_or}
use Rattle.cert_faults.specs.Walks.{number_fault, bits_fault, algorithm_fault, name_fault, validity_fault, key_fault}
use Rattle.cert_faults.specs.Items.{tagged, certificate_version, id_or, Front, certificate_front, signed_front, signed_end, HasTagged}
use Rattle.cert_faults.proofs.PartLaws.{number_agrees, bits_agrees, algorithm_agrees, name_agrees, validity_agrees, key_agrees}
use Rattle.cert_faults.proofs.Opening.{the_ok, outcome_then, parts_read, first_read, first_is_ok, end_read, end_ok, next_read, next_ok, tagged_same, there_read, id_read, id_ok}

-- the first part up to its extensions, as it is read
pub record ReadsFront (t : Tree) (f : Front) : Type 0 where
  pub version : ℕ
  pub issuer_id : Option Bits
  pub subject_id : Option Bits
  pub later : f.0 ≡ (version == 2)
  -- whatever follows, the pieces are these
  pub pieces : TbsPieces
  pub read : end_at (tagged_at 3 f.1.0).1 ≡ Some tt → tbs_at t ≡ Some (record pieces { extensions = (tagged_at 3 f.1.0).0 })
  pub is_version : version_in pieces.version ≡ Some version
  pub is_issuer_id : id_in pieces.issuer_id ≡ Some issuer_id
  pub is_subject_id : id_in pieces.subject_id ≡ Some subject_id
  pub has_issuer_id : implies (is_there issuer_id) (nat_lt 0 version) ≡ true
  pub has_subject_id : implies (is_there subject_id) (nat_lt 0 version) ≡ true

pub front_read : (n : ℕ) (t : Tree) (f : Front) → certificate_front n t ≡ Ok f → ReadsFront t f
unfolding certificate_front tbs_at
front_read n t f e =
    outcome_then (sequence_or (whole fields.TbsCertificate) n t) _ f e (λ all e0 r0.
    let p0 = parts_read _ _ (sequence_at t) all e0 in
    outcome_then (certificate_version all) _ f r0 (λ version e1 r1.
    outcome_then (there_or _ (version_in (tagged 0 all).0)) _ version e1 (λ v f1 g1.
    let p1 = there_read _ (version_in (tagged 0 all).0) v f1 in
    let q1 = the_ok (v, (tagged 0 all).2) version g1 in
    outcome_then (next_or (number_fault (whole fields.SerialNumber)) (whole fields.SerialNumber) wants.NumberFromZero version.1) _ f r1 (λ serial e2 r2.
    let p2 = next_read _ number_at (number_agrees (whole fields.SerialNumber)) (whole fields.SerialNumber) wants.NumberFromZero version.1.1 version.1.0 serial e2 in
    outcome_then (next_or (algorithm_fault fields.Signature) (whole fields.Signature) wants.Sequence serial) _ f r2 (λ signature e3 r3.
    let p3 = next_read _ algorithm_at (algorithm_agrees fields.Signature) (whole fields.Signature) wants.Sequence serial.1 serial.0 signature e3 in
    outcome_then (next_or (name_fault fields.Issuer) (whole fields.Issuer) wants.Sequence signature) _ f r3 (λ issuer e4 r4.
    let p4 = next_read _ name_at (name_agrees fields.Issuer) (whole fields.Issuer) wants.Sequence signature.1 signature.0 issuer e4 in
    outcome_then (next_or validity_fault (whole fields.Validity) wants.Sequence issuer) _ f r4 (λ validity e5 r5.
    let p5 = next_read _ validity_at validity_agrees (whole fields.Validity) wants.Sequence issuer.1 issuer.0 validity e5 in
    outcome_then (next_or (name_fault fields.Subject) (whole fields.Subject) wants.Sequence validity) _ f r5 (λ subject e6 r6.
    let p6 = next_read _ name_at (name_agrees fields.Subject) (whole fields.Subject) wants.Sequence validity.1 validity.0 subject e6 in
    outcome_then (next_or key_fault (whole fields.SubjectPublicKeyInfo) wants.Sequence subject) _ f r6 (λ key e7 r7.
    let p7 = next_read _ key_at key_agrees (whole fields.SubjectPublicKeyInfo) wants.Sequence subject.1 subject.0 key e7 in
    outcome_then (id_or fields.IssuerUniqueId 1 version.0 key) _ f r7 (λ issuer_id e8 r8.
    let p8 = id_read (whole fields.IssuerUniqueId) version.0 key.1 (tagged 1 key).0 (tagged 1 key).2 issuer_id e8 in
    outcome_then (id_or fields.SubjectUniqueId 2 version.0 issuer_id) _ f r8 (λ subject_id e9 r9.
    let p9 = id_read (whole fields.SubjectUniqueId) version.0 issuer_id.1 (tagged 2 issuer_id).0 (tagged 2 issuer_id).2 subject_id e9 in
    let q9 = the_ok (version.0 == 2, subject_id) f r9 in
    let t0 = tagged_same 0 all.1 all.0 in
    let t1 = tagged_same 1 key.1 key.0 in
    let t2 = tagged_same 2 issuer_id.1 issuer_id.0 in
    let is_version : version.0 ≡ v = ap (λ (z : ℕ × Rest). z.0) (sym q1) in
    let behind_version : version.1.0 ≡ (tagged_at 0 all.0).1 = ap (λ (z : ℕ × Rest). z.1.0) (sym q1) ∙ t0.1 in
    let behind_issuer_id : issuer_id.0 ≡ (tagged_at 1 key.0).1 = ap (λ (z : Rest). z.0) (sym p8.3) ∙ t1.1 in
    let behind_subject_id : subject_id.0 ≡ (tagged_at 2 issuer_id.0).1 = ap (λ (z : Rest). z.0) (sym p9.3) ∙ t2.1 in
    let last : f.1.0 ≡ subject_id.0 = ap (λ (z : Front). z.1.0) (sym q9) in
    let pieces : TbsPieces = record { version = (tagged_at 0 all.0).0; serial = p2.0; signature = p3.0; issuer = p4.0; validity = p5.0; subject = p6.0; key = p7.0; issuer_id = (tagged_at 1 key.0).0; subject_id = (tagged_at 2 issuer_id.0).0; extensions = None } in
    record {
      version = version.0;
      issuer_id = p8.0;
      subject_id = p9.0;
      later = ap (λ (z : Front). z.0) (sym q9);
      pieces = pieces;
      read = λ over.
          let s2 : next_at number_at (tagged_at 0 all.0).1 ≡ Some (p2.0, serial.0) = rw (← behind_version) p2.1 in
          let u2 : (tagged_at 2 (tagged_at 1 key.0).1).1 ≡ f.1.0 = sym (last ∙ behind_subject_id ∙ ap (λ z. (tagged_at 2 z).1) behind_issuer_id) in
          let i2 : (tagged_at 2 (tagged_at 1 key.0).1).0 ≡ (tagged_at 2 issuer_id.0).0 = ap (λ z. (tagged_at 2 z).0) (sym behind_issuer_id) in
          rw (p0.0, s2, p3.1, p4.1, p5.1, p6.1, p7.1, u2, over, i2) refl;
      is_version = sym (ap version_in t0.0) ∙ p1 ∙ ap Some (sym is_version);
      is_issuer_id = sym (ap id_in t1.0) ∙ p8.1;
      is_subject_id = sym (ap id_in t2.0) ∙ p9.1;
      has_issuer_id = p8.2;
      has_subject_id = p9.2;
    })))))))))))

pub certificate_sound : (n : ℕ) (t : Tree) (f : Front × Rest) → IsObject 50 t → signed_front fields.TbsCertificate certificate_front n t ≡ Ok f → HasTagged 3 f.0.0 f.0.1 →
    signed_end fields.TbsCertificate (tagged 3 f.0.1).2 f.1 ≡ Ok tt → (c : Certificate) × IsCertificateItem (octets t) c
certificate_sound n t f o before has_es after =
    outcome_then (sequence_or (whole fields.Item) n t) _ f before (λ all e0 r0.
    let p0 = parts_read _ _ (sequence_at t) all e0 in
    outcome_then (first_or (whole fields.TbsCertificate) wants.Sequence all) _ f r0 (λ first e1 r1.
    let p1 = first_read (whole fields.TbsCertificate) wants.Sequence all.1 all.0 first e1 in
    outcome_then (certificate_front all.1 first.0) _ f r1 (λ inner e2 r2.
    let q2 = the_ok (inner, first.1) f r2 in
    let m = front_read all.1 first.0 f.0 (e2 ∙ ap (λ (z : Front × Rest). Ok z.0) q2) in
    let outer : first.1 ≡ f.1 = ap (λ (z : Front × Rest). z.1) q2 in
    outcome_then (end_or (whole fields.TbsCertificate) (tagged 3 f.0.1).2) _ tt after (λ over e3 r3.
    outcome_then (next_or (algorithm_fault fields.SignatureAlgorithm) (whole fields.SignatureAlgorithm) wants.Sequence f.1) _ tt r3 (λ algorithm e4 r4.
    let p4 = next_read _ algorithm_at (algorithm_agrees fields.SignatureAlgorithm) (whole fields.SignatureAlgorithm) wants.Sequence f.1.1 f.1.0 algorithm e4 in
    outcome_then (next_or (bits_fault (whole fields.SignatureValue)) (whole fields.SignatureValue) wants.BitString algorithm) _ tt r4 (λ value e5 r5.
    let p5 = next_read _ bits_at (bits_agrees (whole fields.SignatureValue)) (whole fields.SignatureValue) wants.BitString algorithm.1 algorithm.0 value e5 in
    let p6 = end_read (whole fields.Item) value.1 value.0 tt r5 in
    let t3 = tagged_same 3 f.0.1.1 f.0.1.0 in
    let ended : end_at (tagged_at 3 f.0.1.0).1 ≡ Some tt = sym (ap end_at t3.1) ∙ end_read (whole fields.TbsCertificate) (tagged 3 f.0.1).2.1 (tagged 3 f.0.1).2.0 over e3 in
    let pieces : TbsPieces = record m.pieces { extensions = (tagged_at 3 f.0.1.0).0 } in
    let step : next_at tbs_at all.0 ≡ Some (pieces, first.1.0) = ap (next_at tbs_at) p1.1 ∙ ap (option_and_then (λ (v : TbsPieces). Some (v, first.1.0))) (m.read ended) in
    let next : next_at tbs_at all.0 ≡ Some (pieces, f.1.0) = step ∙ ap (λ (z : Rest). let y : Option (TbsPieces × Trees) = Some (pieces, z.0) in y) outer in
    let s : Signed TbsPieces = record { signed = pieces; algorithm = p4.0; signature_value = p5.0 } in
    let read : signed_at tbs_at t ≡ Some s = rw (p0.0, next, p4.1, p5.1, p6) refl in
    let there : AreExtensionsIn (tagged_at 3 f.0.1.0).0 has_es.0 = subst (λ e. AreExtensionsIn e has_es.0) t3.0 has_es.1 in
    let has : implies (is_some has_es.0) (m.version == 2) ≡ true = ap (implies (is_some has_es.0)) (sym m.later) ∙ has_es.2 in
    let fits : fits_version m.version m.issuer_id m.subject_id has_es.0 ≡ true = rw (m.has_issuer_id, m.has_subject_id, has) refl in
    let found = certificate_found 50 t s m.version m.issuer_id m.subject_id has_es.0 o read m.is_version m.is_issuer_id m.is_subject_id there fits in
    let c = certificate_from s m.version m.issuer_id m.subject_id has_es.0 in
    (c, certificate_item t c o found.0 found.1)))))))

front_ok : (n : ℕ) (t : Tree) (p : TbsPieces) (v : ℕ) (i j : Option Bits) → tbs_at t ≡ Some p → version_in p.version ≡ Some v → id_in p.issuer_id ≡ Some i → id_in p.subject_id ≡ Some j →
    implies (is_there i) (nat_lt 0 v) ≡ true → implies (is_there j) (nat_lt 0 v) ≡ true →
    (f : Front) × (certificate_front n t ≡ Ok f) × (f.0 ≡ (v == 2)) × ((tagged_at 3 f.1.0).0 ≡ p.extensions) × (end_at (tagged_at 3 f.1.0).1 ≡ Some tt)
unfolding certificate_front tbs_at
front_ok n t p v i j e is_v is_i is_j has_i has_j =
    option_and_then_some _ (sequence_at t) p e (λ parts e0 r0.
    option_and_then_some _ (next_at number_at (tagged_at 0 parts).1) p r0 (λ serial e1 r1.
    option_and_then_some _ (next_at algorithm_at serial.1) p r1 (λ signature e2 r2.
    option_and_then_some _ (next_at name_at signature.1) p r2 (λ issuer e3 r3.
    option_and_then_some _ (next_at validity_at issuer.1) p r3 (λ validity e4 r4.
    option_and_then_some _ (next_at name_at validity.1) p r4 (λ subject e5 r5.
    option_and_then_some _ (next_at key_at subject.1) p r5 (λ key e6 r6.
    let issuer_id = tagged_at 1 key.1 in
    let subject_id = tagged_at 2 issuer_id.1 in
    let extensions = tagged_at 3 subject_id.1 in
    option_and_then_some _ (end_at extensions.1) p r6 (λ end e7 r7.
    let here : TbsPieces = record { version = (tagged_at 0 parts).0; serial = serial.0; signature = signature.0; issuer = issuer.0; validity = validity.0; subject = subject.0; key = key.0; issuer_id = issuer_id.0; subject_id = subject_id.0; extensions = extensions.0 } in
    let same : here ≡ p = cc in
    let all : Rest = (parts, inside n t) in
    let t0 = tagged_same 0 (inside n t) parts in
    let version : version_in (tagged 0 all).0 ≡ Some v = ap version_in t0.0 ∙ ap (λ (z : TbsPieces). version_in z.version) same ∙ is_v in
    let r0 = (tagged 0 all).2 in
    let s1 = next_ok _ number_at (number_agrees (whole fields.SerialNumber)) (whole fields.SerialNumber) wants.NumberFromZero r0.1 r0.0 serial (ap (next_at number_at) t0.1 ∙ e1) in
    let s2 = next_ok _ algorithm_at (algorithm_agrees fields.Signature) (whole fields.Signature) wants.Sequence s1.0.1 s1.0.0 signature (ap (next_at algorithm_at) s1.2 ∙ e2) in
    let s3 = next_ok _ name_at (name_agrees fields.Issuer) (whole fields.Issuer) wants.Sequence s2.0.1 s2.0.0 issuer (ap (next_at name_at) s2.2 ∙ e3) in
    let s4 = next_ok _ validity_at validity_agrees (whole fields.Validity) wants.Sequence s3.0.1 s3.0.0 validity (ap (next_at validity_at) s3.2 ∙ e4) in
    let s5 = next_ok _ name_at (name_agrees fields.Subject) (whole fields.Subject) wants.Sequence s4.0.1 s4.0.0 subject (ap (next_at name_at) s4.2 ∙ e5) in
    let s6 = next_ok _ key_at key_agrees (whole fields.SubjectPublicKeyInfo) wants.Sequence s5.0.1 s5.0.0 key (ap (next_at key_at) s5.2 ∙ e6) in
    let t1 = tagged_same 1 s6.0.1 s6.0.0 in
    let first_id : id_in (tagged 1 s6.0).0 ≡ Some i = ap id_in t1.0 ∙ ap (λ z. id_in (tagged_at 1 z).0) s6.2 ∙ ap (λ (z : TbsPieces). id_in z.issuer_id) same ∙ is_i in
    let a = id_ok (whole fields.IssuerUniqueId) v s6.0.1 (tagged 1 s6.0).0 (tagged 1 s6.0).2 i first_id has_i in
    let r7 = (tagged 1 s6.0).2 in
    let at7 : r7.0 ≡ issuer_id.1 = t1.1 ∙ ap (λ z. (tagged_at 1 z).1) s6.2 in
    let t2 = tagged_same 2 r7.1 r7.0 in
    let second_id : id_in (tagged 2 r7).0 ≡ Some j = ap id_in t2.0 ∙ ap (λ z. id_in (tagged_at 2 z).0) at7 ∙ ap (λ (z : TbsPieces). id_in z.subject_id) same ∙ is_j in
    let b = id_ok (whole fields.SubjectUniqueId) v r7.1 (tagged 2 r7).0 (tagged 2 r7).2 j second_id has_j in
    let r8 = (tagged 2 r7).2 in
    let at8 : r8.0 ≡ subject_id.1 = t2.1 ∙ ap (λ z. (tagged_at 2 z).1) at7 in
    let f : Front = (v == 2, r8) in (
      f,
      rw (e0, version, s1.1, s2.1, s3.1, s4.1, s5.1, s6.1, a, b) refl,
      refl,
      ap (λ z. (tagged_at 3 z).0) at8 ∙ ap (λ (z : TbsPieces). z.extensions) same,
      ap (λ z. end_at (tagged_at 3 z).1) at8 ∙ e7,
    )))))))))

pub certificate_complete : (n : ℕ) (t : Tree) (c : Certificate) → IsObject 50 t → ReadsCertificate t c →
    (f : Front × Rest) × (signed_front fields.TbsCertificate certificate_front n t ≡ Ok f) × HasTagged 3 f.0.0 f.0.1 × (signed_end fields.TbsCertificate (tagged 3 f.0.1).2 f.1 ≡ Ok tt) × IfThere HasSmallContent (tagged 3 f.0.1).0
certificate_complete n t c o m =
    option_and_then_some _ (sequence_at t) m.pieces m.read (λ parts e0 r0.
    option_and_then_some _ (next_at tbs_at parts) m.pieces r0 (λ signed e1 r1.
    option_and_then_some _ (next_at algorithm_at signed.1) m.pieces r1 (λ algorithm e2 r2.
    option_and_then_some _ (next_at bits_at algorithm.1) m.pieces r2 (λ value e3 r3.
    option_and_then_some _ (end_at value.1) m.pieces r3 (λ end e4 r4.
    let here : Signed TbsPieces = record { signed = signed.0; algorithm = algorithm.0; signature_value = value.0 } in
    let same : here ≡ m.pieces = cc in
    option_and_then_some _ (first_at parts) signed e1 (λ first f0 g0.
    option_and_then_some _ (tbs_at first.0) signed g0 (λ p f1 g1.
    let both : ◌≡◌ {A = TbsPieces × Trees} (p, first.1) signed = cc in
    let whole_is : p ≡ m.pieces.signed = ap (λ (z : TbsPieces × Trees). z.0) both ∙ ap (λ (z : Signed TbsPieces). z.signed) same in
    let k = both_true (implies (is_there c.issuer_id) (nat_lt 0 c.version) && implies (is_there c.subject_id) (nat_lt 0 c.version)) (implies (is_some c.extensions) (c.version == 2)) m.fits in
    let l = both_true (implies (is_there c.issuer_id) (nat_lt 0 c.version)) (implies (is_there c.subject_id) (nat_lt 0 c.version)) k.0 in
    let w = front_ok (inside n t) first.0 m.pieces.signed c.version c.issuer_id c.subject_id (f1 ∙ ap Some whole_is) m.version m.issuer_id m.subject_id l.0 l.1 in
    let first_is = first_is_ok (whole fields.TbsCertificate) wants.Sequence (inside n t) parts first f0 in
    let rest : Rest = (first.1, left_after (inside n t) first.0) in
    let at_rest : rest.0 ≡ signed.1 = ap (λ (z : TbsPieces × Trees). z.1) both in
    let s2 = next_ok _ algorithm_at (algorithm_agrees fields.SignatureAlgorithm) (whole fields.SignatureAlgorithm) wants.Sequence rest.1 rest.0 algorithm (ap (next_at algorithm_at) at_rest ∙ e2) in
    let s3 = next_ok _ bits_at (bits_agrees (whole fields.SignatureValue)) (whole fields.SignatureValue) wants.BitString s2.0.1 s2.0.0 value (ap (next_at bits_at) s2.2 ∙ e3) in
    let s4 = end_ok (whole fields.Item) s3.0.1 s3.0.0 tt (ap end_at s3.2 ∙ e4) in
    let t3 = tagged_same 3 w.0.1.1 w.0.1.0 in
    let over = end_ok (whole fields.TbsCertificate) (tagged 3 w.0.1).2.1 (tagged 3 w.0.1).2.0 tt (ap end_at t3.1 ∙ w.4) in
    let f : Front × Rest = (w.0, rest) in (
      f,
      rw (e0, first_is, w.1) refl,
      (c.extensions, subst (λ e. AreExtensionsIn e c.extensions) (sym (t3.0 ∙ w.3)) m.extensions, ap (implies (is_some c.extensions)) w.2 ∙ k.1),
      rw (over, s2.1, s3.1, s4) refl,
      subst (IfThere HasSmallContent) (sym (t3.0 ∙ w.3)) (extensions_small 50 t m.pieces o m.read),
    ))))))))
