-- An object has no fault as a list exactly if it is one.
use Rattle.std.proofs.Common.{◌≡◌, ◌∙◌, refl, sym, ap, ℕ, ◌-◌, ◌&&◌, true, Option, Some, None, Ok, option_and_then, subst}
use Rattle.std.proofs.lemmas.Option.{option_and_then_some}
use Rattle.der_tree.specs.Tree.{Tree, Trees, octets}
use Rattle.der_tree.specs.Shape.{IsObject, AreObjects}
use Rattle.der_tree.proofs.Shapes.{sequence_found, first_found}
use Rattle.der_tree.specs.Access.{sequence_at, first_at, end_at}
use Rattle.cert_model.specs.Fields.{RevocationList}
use Rattle.cert_model.specs.Class.{IsListItem}
use Rattle.cert_model.specs.Reads.{next_at, algorithm_at, name_at, bits_at, tagged_at}
use Rattle.cert_model.specs.Times.{time_at}
use Rattle.cert_model.specs.Pieces.{TbsListPieces, tbs_list_at, Signed, signed_at, list_version_at, maybe_time_at, behind_entries}
use Rattle.cert_model.specs.Pieces as pieces
use Rattle.cert_model.specs.Assembly.{AreExtensionsIn, is_some, implies, is_version_two, entries_fit, list_from}
use Rattle.cert_model.proofs.Assemblies.{list_found, ReadsList}
use Rattle.cert_model.specs.Range.{IfThere, IsAlgorithm, IsName, IsTimeField}
use Rattle.cert_model.specs.PieceOctets.{HasSmallContent}
use Rattle.cert_model.proofs.RevocationLists.{list_extensions_small}
use Rattle.cert_model.proofs.Cases.{both_true}
use Rattle.cert_model.proofs.StrictItems.{list_item}
use Rattle.cert_model.proofs.Next.{next_found, algorithms, algorithm_laws, names, name_laws}
use Rattle.cert_model.proofs.TimeParts.{times, time_laws}
use Rattle.cert_faults.specs.declared.places.Field.TheVariants as fields
use Rattle.cert_faults.specs.declared.places.Expected.TheVariants as wants
use Rattle.cert_faults.specs.Steps.{whole, inside, left_after, Rest, sequence_or, first_or, end_or, next_or}
use Rattle.cert_faults.specs.Walks.{bits_fault, time_fault, algorithm_fault, name_fault}
use Rattle.cert_faults.specs.Items.{tagged, list_version_in, next_update_in, entries_in, Front, list_front, signed_front, signed_end, HasTagged}
use Rattle.cert_faults.proofs.PartLaws.{bits_agrees, time_agrees, algorithm_agrees, name_agrees}
use Rattle.cert_faults.proofs.Opening.{the_ok, outcome_then, parts_read, first_read, first_is_ok, end_read, end_ok, next_read, next_ok, tagged_same}
use Rattle.cert_faults.proofs.EntryLaws.{version_read, version_ok, entries_read, entries_ok}
use Rattle.cert_faults.proofs.UpdateLaws.{update_read, update_ok, version_left}

-- the first part up to its extensions, as it is read
pub record ReadsFront (t : Tree) (f : Front) : Type 0 where
  -- whatever follows, the pieces are these
  pub pieces : TbsListPieces
  pub later : f.0 ≡ is_version_two pieces.version
  pub read : end_at (tagged_at 0 f.1.0).1 ≡ Some tt → tbs_list_at t ≡ Some (record pieces { extensions = (tagged_at 0 f.1.0).0 })
  pub fit : entries_fit pieces.version pieces.entries ≡ true

pub front_read : (n : ℕ) (t : Tree) (f : Front) → list_front n t ≡ Ok f → ReadsFront t f
unfolding list_front tbs_list_at
front_read n t f e =
    outcome_then (sequence_or (whole fields.TbsCertList) n t) _ f e (λ all e0 r0.
    let p0 = parts_read _ _ (sequence_at t) all e0 in
    outcome_then (list_version_in all.1 all.0) _ f r0 (λ version e1 r1.
    let p1 = version_read all.1 all.0 version e1 in
    outcome_then (next_or (algorithm_fault fields.ListSignature) (whole fields.ListSignature) wants.Sequence version.1) _ f r1 (λ signature e2 r2.
    let p2 = next_read _ algorithm_at (algorithm_agrees fields.ListSignature) (whole fields.ListSignature) wants.Sequence version.1.1 version.1.0 signature e2 in
    outcome_then (next_or (name_fault fields.ListIssuer) (whole fields.ListIssuer) wants.Sequence signature) _ f r2 (λ issuer e3 r3.
    let p3 = next_read _ name_at (name_agrees fields.ListIssuer) (whole fields.ListIssuer) wants.Sequence signature.1 signature.0 issuer e3 in
    outcome_then (next_or (time_fault (whole fields.ThisUpdate)) (whole fields.ThisUpdate) wants.Time issuer) _ f r3 (λ this_update e4 r4.
    let p4 = next_read _ time_at (time_agrees (whole fields.ThisUpdate)) (whole fields.ThisUpdate) wants.Time issuer.1 issuer.0 this_update e4 in
    outcome_then (next_update_in this_update.1 this_update.0) _ f r4 (λ next_update e5 r5.
    let p5 = update_read this_update.1 this_update.0 next_update e5 in
    outcome_then (entries_in version.0 next_update.1 next_update.0) _ f r5 (λ entries e6 r6.
    let p6 = entries_read version.0 next_update.1 next_update.0 entries e6 in
    let q6 = the_ok (is_version_two version.0, entries) f r6 in
    let listed : pieces.entries_in (maybe_time_at this_update.0).1 ≡ Some p6.0 = ap pieces.entries_in (sym p5) ∙ p6.1 in
    let last : behind_entries (maybe_time_at this_update.0).1 ≡ f.1.0 = ap behind_entries (sym p5) ∙ sym p6.2 ∙ ap (λ (z : Front). z.1.0) q6 in
    record {
      pieces = record { version = version.0; signature = p2.0; issuer = p3.0; this_update = p4.0; next_update = (maybe_time_at this_update.0).0; entries = p6.0; extensions = None };
      later = ap (λ (z : Front). z.0) (sym q6);
      read = λ over. rw (p0.0, p1, p2.1, p3.1, p4.1, listed, last, over) refl;
      fit = p6.3;
    })))))))

pub list_sound : (n : ℕ) (t : Tree) (f : Front × Rest) → IsObject 50 t → signed_front fields.TbsCertList list_front n t ≡ Ok f → HasTagged 0 f.0.0 f.0.1 →
    signed_end fields.TbsCertList (tagged 0 f.0.1).2 f.1 ≡ Ok tt → (l : RevocationList) × IsListItem (octets t) l
list_sound n t f o before has_es after =
    outcome_then (sequence_or (whole fields.Item) n t) _ f before (λ all e0 r0.
    let p0 = parts_read _ _ (sequence_at t) all e0 in
    outcome_then (first_or (whole fields.TbsCertList) wants.Sequence all) _ f r0 (λ first e1 r1.
    let p1 = first_read (whole fields.TbsCertList) wants.Sequence all.1 all.0 first e1 in
    outcome_then (list_front all.1 first.0) _ f r1 (λ inner e2 r2.
    let q2 = the_ok (inner, first.1) f r2 in
    let m = front_read all.1 first.0 f.0 (e2 ∙ ap (λ (z : Front × Rest). Ok z.0) q2) in
    let outer : first.1 ≡ f.1 = ap (λ (z : Front × Rest). z.1) q2 in
    outcome_then (end_or (whole fields.TbsCertList) (tagged 0 f.0.1).2) _ tt after (λ over e3 r3.
    outcome_then (next_or (algorithm_fault fields.SignatureAlgorithm) (whole fields.SignatureAlgorithm) wants.Sequence f.1) _ tt r3 (λ algorithm e4 r4.
    let p4 = next_read _ algorithm_at (algorithm_agrees fields.SignatureAlgorithm) (whole fields.SignatureAlgorithm) wants.Sequence f.1.1 f.1.0 algorithm e4 in
    outcome_then (next_or (bits_fault (whole fields.SignatureValue)) (whole fields.SignatureValue) wants.BitString algorithm) _ tt r4 (λ value e5 r5.
    let p5 = next_read _ bits_at (bits_agrees (whole fields.SignatureValue)) (whole fields.SignatureValue) wants.BitString algorithm.1 algorithm.0 value e5 in
    let p6 = end_read (whole fields.Item) value.1 value.0 tt r5 in
    let t3 = tagged_same 0 f.0.1.1 f.0.1.0 in
    let ended : end_at (tagged_at 0 f.0.1.0).1 ≡ Some tt = sym (ap end_at t3.1) ∙ end_read (whole fields.TbsCertList) (tagged 0 f.0.1).2.1 (tagged 0 f.0.1).2.0 over e3 in
    let held : TbsListPieces = record m.pieces { extensions = (tagged_at 0 f.0.1.0).0 } in
    let step : next_at tbs_list_at all.0 ≡ Some (held, first.1.0) = ap (next_at tbs_list_at) p1.1 ∙ ap (option_and_then (λ (v : TbsListPieces). Some (v, first.1.0))) (m.read ended) in
    let next : next_at tbs_list_at all.0 ≡ Some (held, f.1.0) = step ∙ ap (λ (z : Rest). let y : Option (TbsListPieces × Trees) = Some (held, z.0) in y) outer in
    let s : Signed TbsListPieces = record { signed = held; algorithm = p4.0; signature_value = p5.0 } in
    let read : signed_at tbs_list_at t ≡ Some s = rw (p0.0, next, p4.1, p5.1, p6) refl in
    let there : AreExtensionsIn (tagged_at 0 f.0.1.0).0 has_es.0 = subst (λ e. AreExtensionsIn e has_es.0) t3.0 has_es.1 in
    let has : implies (is_some has_es.0) (is_version_two m.pieces.version) ≡ true = ap (implies (is_some has_es.0)) (sym m.later) ∙ has_es.2 in
    let fits : (entries_fit m.pieces.version m.pieces.entries && implies (is_some has_es.0) (is_version_two m.pieces.version)) ≡ true = rw (m.fit, has) refl in
    let found = list_found 50 t s has_es.0 o read there fits in
    let l = list_from s has_es.0 in
    (l, list_item t l o found.0 found.1)))))))

front_ok : (k n : ℕ) (t : Tree) (p : TbsListPieces) → IsObject k t → tbs_list_at t ≡ Some p → entries_fit p.version p.entries ≡ true →
    (f : Front) × (list_front n t ≡ Ok f) × (f.0 ≡ is_version_two p.version) × ((tagged_at 0 f.1.0).0 ≡ p.extensions) × (end_at (tagged_at 0 f.1.0).1 ≡ Some tt)
unfolding list_front tbs_list_at
front_ok k n t p o e fits =
    option_and_then_some _ (sequence_at t) p e (λ parts e0 r0.
    option_and_then_some _ (list_version_at parts) p r0 (λ version e1 r1.
    option_and_then_some _ (next_at algorithm_at version.1) p r1 (λ signature e2 r2.
    option_and_then_some _ (next_at name_at signature.1) p r2 (λ issuer e3 r3.
    option_and_then_some _ (next_at time_at issuer.1) p r3 (λ this_update e4 r4.
    let next_update = maybe_time_at this_update.1 in
    option_and_then_some _ (pieces.entries_in next_update.1) p r4 (λ entries e5 r5.
    let extensions = tagged_at 0 (behind_entries next_update.1) in
    option_and_then_some _ (end_at extensions.1) p r5 (λ end e6 r6.
    let here : TbsListPieces = record { version = version.0; signature = signature.0; issuer = issuer.0; this_update = this_update.0; next_update = next_update.0; entries = entries; extensions = extensions.0 } in
    let same : here ≡ p = cc in
    let all : Rest = (parts, inside n t) in
    let s1 = version_ok (inside n t) parts version e1 in
    let s2 = next_ok _ algorithm_at (algorithm_agrees fields.ListSignature) (whole fields.ListSignature) wants.Sequence s1.0.1.1 s1.0.1.0 signature (ap (next_at algorithm_at) s1.3 ∙ e2) in
    let s3 = next_ok _ name_at (name_agrees fields.ListIssuer) (whole fields.ListIssuer) wants.Sequence s2.0.1 s2.0.0 issuer (ap (next_at name_at) s2.2 ∙ e3) in
    let s4 = next_ok _ time_at (time_agrees (whole fields.ThisUpdate)) (whole fields.ThisUpdate) wants.Time s3.0.1 s3.0.0 this_update (ap (next_at time_at) s3.2 ∙ e4) in
    let held = (sequence_found k t parts o e0).1 in
    let held1 = version_left (k - 1) parts version held e1 in
    let held2 = (next_found algorithms IsAlgorithm algorithm_laws (k - 1) version.1 signature held1 e2).1 in
    let held3 = (next_found names IsName name_laws (k - 1) signature.1 issuer held2 e3).1 in
    let held4 = (next_found times IsTimeField time_laws (k - 1) issuer.1 this_update held3 e4).1 in
    let ended : end_at (tagged_at 0 (behind_entries (maybe_time_at s4.0.0).1)).1 ≡ Some tt = ap (λ z. end_at (tagged_at 0 (behind_entries (maybe_time_at z).1)).1) s4.2 ∙ e6 in
    let s5 = update_ok (k - 1) s4.0.1 s4.0.0 (subst (AreObjects (k - 1)) (sym s4.2) held4) ended in
    let r5 = s5.0 in
    let at5 : r5.0 ≡ next_update.1 = s5.2 ∙ ap (λ z. (maybe_time_at z).1) s4.2 in
    let fit : entries_fit s1.0.0 entries ≡ true = ap (λ v. entries_fit v entries) s1.2 ∙ ap (λ (z : TbsListPieces). entries_fit z.version z.entries) same ∙ fits in
    let s6 = entries_ok s1.0.0 r5.1 r5.0 entries (ap pieces.entries_in at5 ∙ e5) fit in
    let at6 : s6.0.0 ≡ behind_entries next_update.1 = s6.2 ∙ ap behind_entries at5 in
    let f : Front = (is_version_two s1.0.0, s6.0) in (
      f,
      rw (e0, s1.1, s2.1, s3.1, s4.1, s5.1, s6.1) refl,
      ap is_version_two s1.2 ∙ ap (λ (z : TbsListPieces). is_version_two z.version) same,
      ap (λ z. (tagged_at 0 z).0) at6 ∙ ap (λ (z : TbsListPieces). z.extensions) same,
      ap (λ z. end_at (tagged_at 0 z).1) at6 ∙ e6,
    ))))))))

pub list_complete : (n : ℕ) (t : Tree) (l : RevocationList) → IsObject 50 t → ReadsList t l →
    (f : Front × Rest) × (signed_front fields.TbsCertList list_front n t ≡ Ok f) × HasTagged 0 f.0.0 f.0.1 × (signed_end fields.TbsCertList (tagged 0 f.0.1).2 f.1 ≡ Ok tt) × IfThere HasSmallContent (tagged 0 f.0.1).0
list_complete n t l o m =
    option_and_then_some _ (sequence_at t) m.pieces m.read (λ parts e0 r0.
    option_and_then_some _ (next_at tbs_list_at parts) m.pieces r0 (λ signed e1 r1.
    option_and_then_some _ (next_at algorithm_at signed.1) m.pieces r1 (λ algorithm e2 r2.
    option_and_then_some _ (next_at bits_at algorithm.1) m.pieces r2 (λ value e3 r3.
    option_and_then_some _ (end_at value.1) m.pieces r3 (λ end e4 r4.
    let here : Signed TbsListPieces = record { signed = signed.0; algorithm = algorithm.0; signature_value = value.0 } in
    let same : here ≡ m.pieces = cc in
    option_and_then_some _ (first_at parts) signed e1 (λ first f0 g0.
    option_and_then_some _ (tbs_list_at first.0) signed g0 (λ p f1 g1.
    let both : ◌≡◌ {A = TbsListPieces × Trees} (p, first.1) signed = cc in
    let whole_is : p ≡ m.pieces.signed = ap (λ (z : TbsListPieces × Trees). z.0) both ∙ ap (λ (z : Signed TbsListPieces). z.signed) same in
    let k = both_true (entries_fit m.pieces.signed.version m.pieces.signed.entries) (implies (is_some l.extensions) (is_version_two m.pieces.signed.version)) m.fits in
    let parted = (sequence_found 50 t parts o e0).1 in
    let held = (first_found 49 parts first.0 first.1 parted f0).0 in
    let w = front_ok 49 (inside n t) first.0 m.pieces.signed held (f1 ∙ ap Some whole_is) k.0 in
    let first_is = first_is_ok (whole fields.TbsCertList) wants.Sequence (inside n t) parts first f0 in
    let rest : Rest = (first.1, left_after (inside n t) first.0) in
    let at_rest : rest.0 ≡ signed.1 = ap (λ (z : TbsListPieces × Trees). z.1) both in
    let s2 = next_ok _ algorithm_at (algorithm_agrees fields.SignatureAlgorithm) (whole fields.SignatureAlgorithm) wants.Sequence rest.1 rest.0 algorithm (ap (next_at algorithm_at) at_rest ∙ e2) in
    let s3 = next_ok _ bits_at (bits_agrees (whole fields.SignatureValue)) (whole fields.SignatureValue) wants.BitString s2.0.1 s2.0.0 value (ap (next_at bits_at) s2.2 ∙ e3) in
    let s4 = end_ok (whole fields.Item) s3.0.1 s3.0.0 tt (ap end_at s3.2 ∙ e4) in
    let t3 = tagged_same 0 w.0.1.1 w.0.1.0 in
    let over = end_ok (whole fields.TbsCertList) (tagged 0 w.0.1).2.1 (tagged 0 w.0.1).2.0 tt (ap end_at t3.1 ∙ w.4) in
    let f : Front × Rest = (w.0, rest) in (
      f,
      rw (e0, first_is, w.1) refl,
      (l.extensions, subst (λ e. AreExtensionsIn e l.extensions) (sym (t3.0 ∙ w.3)) m.extensions, ap (implies (is_some l.extensions)) w.2 ∙ k.1),
      rw (over, s2.1, s3.1, s4) refl,
      subst (IfThere HasSmallContent) (sym (t3.0 ∙ w.3)) (list_extensions_small 50 t m.pieces o m.read),
    ))))))))
