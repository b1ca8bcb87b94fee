-- The parts of an object that a front leaves to be read are objects. So tagged extensions among them are short enough
-- for an object.
use Rattle.std.proofs.Common.{◌≡◌, sym, ℕ, ◌-◌, ◌==◌, Bool, true, false, Option, Some, None, Ok, subst}
use Rattle.der_tree.specs.Tree.{Tree, Trees, none, more}
use Rattle.der_tree.specs.Access.{sequence_at}
use Rattle.der_tree.specs.Shape.{IsObject, AreObjects}
use Rattle.der_tree.proofs.Shapes.{sequence_found, first_found}
use Rattle.cert_model.specs.Range.{IfThere}
use Rattle.cert_model.specs.PieceOctets.{HasSmallContent}
use Rattle.cert_model.specs.Times.{time_at}
use Rattle.cert_model.specs.Assembly.{version_in, is_there, is_version_two}
use Rattle.cert_model.proofs.Tagged.{tagged_found, tagged_small}
use Rattle.cert_faults.specs.declared.places.Field.{Field}
use Rattle.cert_faults.specs.declared.places.Field.TheVariants as fields
use Rattle.cert_faults.specs.declared.places.Expected.{Expected}
use Rattle.cert_faults.specs.declared.places.Expected.TheVariants as wants
use Rattle.cert_faults.specs.Steps.{Outcome, whole, inside, left_after, Rest, there_or, sequence_or, first_or, next_or, each_in}
use Rattle.cert_faults.specs.Walks.{number_fault, time_fault, algorithm_fault, name_fault, validity_fault, key_fault, entry_fault}
use Rattle.cert_faults.specs.Items.{tagged, certificate_version, id_or, Front, certificate_front, list_version_in, is_time, next_update_of, next_update_in, entries_of, entries_in, list_front, signed_front}
use Rattle.cert_faults.proofs.Opening.{the_ok, outcome_then, parts_read, first_read, tagged_same, id_read}
use Rattle.cert_faults.proofs.EntryLaws.{version_read}
use Rattle.cert_faults.proofs.UpdateLaws.{version_left}

-- the parts are objects of at most k levels
abbrev pub Are : ℕ → Rest → Type 0
Are k r = AreObjects k r.0

tail_objects : (k : ℕ) (t : Tree) (ts : Trees) → AreObjects k (more t ts) → AreObjects k ts
unfolding AreObjects
tail_objects k t ts p = p.1

-- the parts after a single step

pub sequence_left : (k : ℕ) (place : _) (n : ℕ) (t : Tree) (r : Rest) → IsObject k t → sequence_or place n t ≡ Ok r → Are (k - 1) r
sequence_left k place n t r o e = (sequence_found k t r.0 o (parts_read _ _ (sequence_at t) r e).0).1

pub first_left : (k : ℕ) (place : _) (expected : Expected) (r : Rest) (m : Tree × Rest) → Are k r → first_or place expected r ≡ Ok m → IsObject k m.0 × Are k m.1
first_left k place expected r m p e =
    let f = first_found k r.0 m.0 m.1.0 p (first_read place expected r.1 r.0 m e).0 in
    (f.0, f.1)

pub next_left : (k : ℕ) (fault : ℕ → Tree → Outcome (Unit {0})) (place : _) (expected : Expected) (r s : Rest) → Are k r → next_or fault place expected r ≡ Ok s → Are k s
next_left k fault place expected r s p e =
    outcome_then (first_or place expected r) _ s e (λ first e0 r0.
    outcome_then (fault r.1 first.0) _ s r0 (λ ok e1 r1.
    subst (Are k) (the_ok first.1 s r1) (first_left k place expected r first p e0).1))

pub tagged_left : (k tag : ℕ) (r : Rest) → Are k r → Are k (tagged tag r).2
tagged_left k tag r p = subst (AreObjects k) (sym (tagged_same tag r.1 r.0).1) (tagged_found tag k r.0 p).0

pub small_there : (k tag : ℕ) (r : Rest) → Are k r → IfThere HasSmallContent (tagged tag r).0
small_there k tag r p = subst (IfThere HasSmallContent) (sym (tagged_same tag r.1 r.0).0) (tagged_small tag k r.0 p)

-- the parts after a certificate's front

version_parts : (k : ℕ) (r : Rest) (v : ℕ × Rest) → Are k r → certificate_version r ≡ Ok v → Are k v.1
version_parts k r v p e =
    outcome_then (there_or _ (version_in (tagged 0 r).0)) _ v e (λ version e0 r0.
    subst (λ (z : ℕ × Rest). Are k z.1) (the_ok (version, (tagged 0 r).2) v r0) (tagged_left k 0 r p))

id_left : (k : ℕ) (field : Field) (tag version : ℕ) (r s : Rest) → Are k r → id_or field tag version r ≡ Ok s → Are k s
id_left k field tag version r s p e = subst (Are k) (id_read (whole field) version r.1 (tagged tag r).0 (tagged tag r).2 s e).3 (tagged_left k tag r p)

pub certificate_left : (k n : ℕ) (t : Tree) (f : Front) → IsObject k t → certificate_front n t ≡ Ok f → Are (k - 1) f.1
unfolding certificate_front
certificate_left k n t f o e =
    outcome_then (sequence_or (whole fields.TbsCertificate) n t) _ f e (λ all e0 r0.
    let p0 = sequence_left k _ n t all o e0 in
    outcome_then (certificate_version all) _ f r0 (λ version e1 r1.
    let p1 = version_parts (k - 1) all version p0 e1 in
    outcome_then (next_or (number_fault (whole fields.SerialNumber)) (whole fields.SerialNumber) wants.NumberFromZero version.1) _ f r1 (λ serial e2 r2.
    let p2 = next_left (k - 1) (number_fault (whole fields.SerialNumber)) (whole fields.SerialNumber) wants.NumberFromZero version.1 serial p1 e2 in
    outcome_then (next_or (algorithm_fault fields.Signature) (whole fields.Signature) wants.Sequence serial) _ f r2 (λ signature e3 r3.
    let p3 = next_left (k - 1) (algorithm_fault fields.Signature) (whole fields.Signature) wants.Sequence serial signature p2 e3 in
    outcome_then (next_or (name_fault fields.Issuer) (whole fields.Issuer) wants.Sequence signature) _ f r3 (λ issuer e4 r4.
    let p4 = next_left (k - 1) (name_fault fields.Issuer) (whole fields.Issuer) wants.Sequence signature issuer p3 e4 in
    outcome_then (next_or validity_fault (whole fields.Validity) wants.Sequence issuer) _ f r4 (λ validity e5 r5.
    let p5 = next_left (k - 1) validity_fault (whole fields.Validity) wants.Sequence issuer validity p4 e5 in
    outcome_then (next_or (name_fault fields.Subject) (whole fields.Subject) wants.Sequence validity) _ f r5 (λ subject e6 r6.
    let p6 = next_left (k - 1) (name_fault fields.Subject) (whole fields.Subject) wants.Sequence validity subject p5 e6 in
    outcome_then (next_or key_fault (whole fields.SubjectPublicKeyInfo) wants.Sequence subject) _ f r6 (λ key e7 r7.
    let p7 = next_left (k - 1) key_fault (whole fields.SubjectPublicKeyInfo) wants.Sequence subject key p6 e7 in
    outcome_then (id_or fields.IssuerUniqueId 1 version.0 key) _ f r7 (λ issuer_id e8 r8.
    let p8 = id_left (k - 1) fields.IssuerUniqueId 1 version.0 key issuer_id p7 e8 in
    outcome_then (id_or fields.SubjectUniqueId 2 version.0 issuer_id) _ f r8 (λ subject_id e9 r9.
    let p9 = id_left (k - 1) fields.SubjectUniqueId 2 version.0 issuer_id subject_id p8 e9 in
    subst (λ (z : Front). Are (k - 1) z.1) (the_ok (version.0 == 2, subject_id) f r9) p9))))))))))

-- the parts after a list's front

update_by : (k : ℕ) (a b : Bool) (n : ℕ) (t : Tree) (ts : Trees) (s : Rest) → AreObjects k (more t ts) → next_update_of a b n t ts ≡ Ok s → Are k s
update_by k true b n t ts s p e = subst (Are k) (the_ok (ts, left_after n t) s e) (tail_objects k t ts p)
update_by k false true n t ts s p e = absurd cc
update_by k false false n t ts s p e = subst (Are k) (the_ok (more t ts, n) s e) p

update_left : (k n : ℕ) (ts : Trees) (s : Rest) → AreObjects k ts → next_update_in n ts ≡ Ok s → Are k s
update_left k n none s p e = subst (Are k) (the_ok (none, n) s e) p
update_left k n (more t ts) s p e = update_by k (is_there (time_at t)) (is_time t) n t ts s p e

entries_by : (k : ℕ) (o : Option Trees) (version : Option ℕ) (n : ℕ) (t : Tree) (ts : Trees) (s : Rest) → AreObjects k (more t ts) → entries_of o version n t ts ≡ Ok s → Are k s
entries_by k None version n t ts s p e = subst (Are k) (the_ok (more t ts, n) s e) p
entries_by k (Some parts) version n t ts s p e =
    outcome_then (first_or (whole fields.RevokedCertificates) wants.OneEntry (parts, inside n t)) _ s e (λ first e0 r0.
    outcome_then (each_in (entry_fault version) (inside n t) parts) _ s r0 (λ ok e1 r1.
    subst (Are k) (the_ok (ts, left_after n t) s r1) (tail_objects k t ts p)))

entries_left : (k : ℕ) (version : Option ℕ) (n : ℕ) (ts : Trees) (s : Rest) → AreObjects k ts → entries_in version n ts ≡ Ok s → Are k s
entries_left k version n none s p e = subst (Are k) (the_ok (none, n) s e) p
entries_left k version n (more t ts) s p e = entries_by k (sequence_at t) version n t ts s p e

pub list_left : (k n : ℕ) (t : Tree) (f : Front) → IsObject k t → list_front n t ≡ Ok f → Are (k - 1) f.1
unfolding list_front
list_left k n t f o e =
    outcome_then (sequence_or (whole fields.TbsCertList) n t) _ f e (λ all e0 r0.
    let p0 = sequence_left k _ n t all o e0 in
    outcome_then (list_version_in all.1 all.0) _ f r0 (λ version e1 r1.
    let p1 = version_left (k - 1) all.0 (version.0, version.1.0) p0 (version_read all.1 all.0 version e1) in
    outcome_then (next_or (algorithm_fault fields.ListSignature) (whole fields.ListSignature) wants.Sequence version.1) _ f r1 (λ signature e2 r2.
    let p2 = next_left (k - 1) (algorithm_fault fields.ListSignature) (whole fields.ListSignature) wants.Sequence version.1 signature p1 e2 in
    outcome_then (next_or (name_fault fields.ListIssuer) (whole fields.ListIssuer) wants.Sequence signature) _ f r2 (λ issuer e3 r3.
    let p3 = next_left (k - 1) (name_fault fields.ListIssuer) (whole fields.ListIssuer) wants.Sequence signature issuer p2 e3 in
    outcome_then (next_or (time_fault (whole fields.ThisUpdate)) (whole fields.ThisUpdate) wants.Time issuer) _ f r3 (λ this_update e4 r4.
    let p4 = next_left (k - 1) (time_fault (whole fields.ThisUpdate)) (whole fields.ThisUpdate) wants.Time issuer this_update p3 e4 in
    outcome_then (next_update_in this_update.1 this_update.0) _ f r4 (λ next_update e5 r5.
    let p5 = update_left (k - 1) this_update.1 this_update.0 next_update p4 e5 in
    outcome_then (entries_in version.0 next_update.1 next_update.0) _ f r5 (λ entries e6 r6.
    let p6 = entries_left (k - 1) version.0 next_update.1 next_update.0 entries p5 e6 in
    subst (λ (z : Front). Are (k - 1) z.1) (the_ok (is_version_two version.0, entries) f r6) p6)))))))

-- the parts after the front of a signed object

pub signed_left : (field : Field) (front : ℕ → Tree → Outcome Front) → ((k n : ℕ) (t : Tree) (f : Front) → IsObject k t → front n t ≡ Ok f → Are (k - 1) f.1) →
    (k n : ℕ) (t : Tree) (f : Front × Rest) → IsObject k t → signed_front field front n t ≡ Ok f → Are (k - 1 - 1) f.0.1
signed_left field front leaves k n t f o e =
    outcome_then (sequence_or (whole fields.Item) n t) _ f e (λ all e0 r0.
    let p0 = sequence_left k _ n t all o e0 in
    outcome_then (first_or (whole field) wants.Sequence all) _ f r0 (λ first e1 r1.
    let p1 = first_left (k - 1) (whole field) wants.Sequence all first p0 e1 in
    outcome_then (front all.1 first.0) _ f r1 (λ inside_it e2 r2.
    let same : ◌≡◌ {A = Front × Rest} (inside_it, first.1) f = the_ok (inside_it, first.1) f r2 in
    subst (λ (z : Front × Rest). Are (k - 1 - 1) z.0.1) same (leaves (k - 1) all.1 first.0 inside_it p1.0 e2))))
