-- Octets have one class, and one list of fields.
use Rattle.std.proofs.Common.{◌≡◌, ◌∙◌, ◌↔◌, sym, ap, refl, ℕ, ◌==◌, List, [], ◌∷◌, Bool, true, false, Option, Some, None, subst, arith, if◌then◌else◌}
use Rattle.std.proofs.lemmas.Option.{option_and_then_some}
use Rattle.std.proofs.lemmas.Bool.{eqb-true}
use Rattle.asn1_core.specs.Elements.{Element}
use Rattle.der_tree.specs.Table.{Kind, tag_of, integer, utc_time, generalized_time}
use Rattle.der_tree.specs.Tree.{end_of_content, boolean, bit_string, null, oid, enumerated, plain, raw, Tree, Content, leaf, sequence, set, Trees, none, more, all_octets}
use Rattle.der_tree.specs.Shape.{IsObject, AreObjects, HasTree}
use Rattle.der_tree.specs.Access.{content_in, sequence_of, plain_of, sequence_at, plain_at, first_at, element_at, universal}
use Rattle.der_tree.proofs.Leveled.{object_to}
use Rattle.der_tree.proofs.Shapes.{sequence_found, plain_found, first_found, element_only}
use Rattle.cert_model.specs.Fields.{Algorithm, Name, Extension, CivilTime, Certificate, RevocationList}
use Rattle.cert_model.specs.Octets.{certificate_octets, list_octets}
use Rattle.cert_model.specs.Class.{IsObjectItem, IsCertificateItem, IsListItem, Class, certificate, list, other, IsClassOf}
use Rattle.cert_model.specs.Range.{IfThere}
use Rattle.cert_model.specs.Reads.{next_at, number_at, algorithm_at, name_at, is_tagged, tagged_at}
use Rattle.cert_model.specs.Times.{or_else, time_at, utc_time_at, late_time_at}
use Rattle.cert_model.specs.Pieces.{validity_at, TbsPieces, tbs_at, Signed, list_version_of, list_version_at, TbsListPieces, tbs_list_at}
use Rattle.cert_model.specs.PieceOctets.{HasSmallContent}
use Rattle.cert_model.specs.Assembly.{version_in, id_in, AreExtensionsIn, certificate_from, list_from}
use Rattle.cert_model.proofs.Cases.{both_true}
use Rattle.cert_model.proofs.ExtensionTrees.{extensions_once}
use Rattle.cert_model.proofs.Certificates.{extensions_small, signed_part}
use Rattle.cert_model.proofs.RevocationLists.{list_extensions_small}
use Rattle.cert_model.proofs.Assemblies.{ReadsCertificate, certificate_only, ReadsList, list_only}

the_tree : (s : List ℕ) → IsObjectItem s → HasTree 50 s
the_tree s p = object_to 50 s p.object

pub extensions_in_once : (o : Option Element) (es fs : List Extension) → IfThere HasSmallContent o → AreExtensionsIn o es → AreExtensionsIn o fs → es ≡ fs
extensions_in_once None es fs small p q = p ∙ sym q
extensions_in_once (Some e) es fs small p q = extensions_once e.content es fs small p.1 q.1

pub the_value : {A : Type 0} (x y : A) → Some x ≡ Some y → x ≡ y
the_value x y e = cc

-- one certificate

certificate_of_tree : (t : Tree) (c d : Certificate) → IsObject 50 t → ReadsCertificate t c → ReadsCertificate t d → c ≡ d
certificate_of_tree t c d o a b =
    let pieces : a.pieces ≡ b.pieces = the_value a.pieces b.pieces (sym a.read ∙ b.read) in
    let version : c.version ≡ d.version = the_value c.version d.version (sym a.version ∙ ap (λ (s : Signed TbsPieces). version_in s.signed.version) pieces ∙ b.version) in
    let issuer : c.issuer_id ≡ d.issuer_id = the_value c.issuer_id d.issuer_id (sym a.issuer_id ∙ ap (λ (s : Signed TbsPieces). id_in s.signed.issuer_id) pieces ∙ b.issuer_id) in
    let subject : c.subject_id ≡ d.subject_id = the_value c.subject_id d.subject_id (sym a.subject_id ∙ ap (λ (s : Signed TbsPieces). id_in s.signed.subject_id) pieces ∙ b.subject_id) in
    let there : AreExtensionsIn a.pieces.signed.extensions d.extensions = subst (λ (s : Signed TbsPieces). AreExtensionsIn s.signed.extensions d.extensions) (sym pieces) b.extensions in
    let extensions : c.extensions ≡ d.extensions = extensions_in_once a.pieces.signed.extensions c.extensions d.extensions (extensions_small 50 t a.pieces o a.read) a.extensions there in
    sym a.same ∙ ap (λ s. certificate_from s c.version c.issuer_id c.subject_id c.extensions) pieces
    ∙ ap (λ v. certificate_from b.pieces v c.issuer_id c.subject_id c.extensions) version
    ∙ ap (λ i. certificate_from b.pieces d.version i c.subject_id c.extensions) issuer
    ∙ ap (λ i. certificate_from b.pieces d.version d.issuer_id i c.extensions) subject
    ∙ ap (certificate_from b.pieces d.version d.issuer_id d.subject_id) extensions ∙ b.same

pub certificate_once : (s : List ℕ) (c d : Certificate) → IsCertificateItem s c → IsCertificateItem s d → c ≡ d
certificate_once s c d p q =
    let t = the_tree s p.object in
    certificate_of_tree t.0 c d t.1 (certificate_only 50 t.0 c t.1 p.in_range (p.spelled ∙ sym t.2)) (certificate_only 50 t.0 d t.1 q.in_range (q.spelled ∙ sym t.2))

-- one list

list_of_tree : (t : Tree) (l m : RevocationList) → IsObject 50 t → ReadsList t l → ReadsList t m → l ≡ m
list_of_tree t l m o a b =
    let pieces : a.pieces ≡ b.pieces = the_value a.pieces b.pieces (sym a.read ∙ b.read) in
    let there : AreExtensionsIn a.pieces.signed.extensions m.extensions = subst (λ (s : Signed TbsListPieces). AreExtensionsIn s.signed.extensions m.extensions) (sym pieces) b.extensions in
    let extensions : l.extensions ≡ m.extensions = extensions_in_once a.pieces.signed.extensions l.extensions m.extensions (list_extensions_small 50 t a.pieces o a.read) a.extensions there in
    sym a.same ∙ ap (λ s. list_from s l.extensions) pieces ∙ ap (list_from b.pieces) extensions ∙ b.same

pub list_once : (s : List ℕ) (l m : RevocationList) → IsListItem s l → IsListItem s m → l ≡ m
list_once s l m p q =
    let t = the_tree s p.object in
    list_of_tree t.0 l m t.1 (list_only 50 t.0 l t.1 p.in_range (p.spelled ∙ sym t.2)) (list_only 50 t.0 m t.1 q.in_range (q.spelled ∙ sym t.2))

-- no octets are both: after the name a certificate has a sequence, a list a time

-- a sequence is no text or time
sequence_or_plain : (j : Kind) (c : Content) (ts : Trees) (s : List ℕ) → sequence_of c ≡ Some ts → plain_of j c ≡ Some s → ⊥
sequence_or_plain j (leaf end_of_content) ts s e f = cc
sequence_or_plain j (leaf (boolean b)) ts s e f = cc
sequence_or_plain j (leaf (bit_string n v)) ts s e f = cc
sequence_or_plain j (leaf null) ts s e f = cc
sequence_or_plain j (leaf (oid v)) ts s e f = cc
sequence_or_plain j (leaf (enumerated n)) ts s e f = cc
sequence_or_plain j (leaf (plain i v)) ts s e f = cc
sequence_or_plain j (leaf (raw x)) ts s e f = cc
sequence_or_plain j (sequence us) ts s e f = cc
sequence_or_plain j (set us) ts s e f = cc

time_plain_by : (t : Tree) (o : Option CivilTime) (c : CivilTime) → utc_time_at t ≡ o → or_else o (late_time_at t) ≡ Some c → (j : Kind) × (s : List ℕ) × (plain_at j t ≡ Some s)
unfolding utc_time_at late_time_at
time_plain_by t (Some d) c u e = option_and_then_some _ (plain_at utc_time t) d u (λ s e0 r0. (utc_time, s, e0))
time_plain_by t None c u e = option_and_then_some _ (plain_at generalized_time t) c e (λ s e0 r0. (generalized_time, s, e0))

time_plain : (t : Tree) (c : CivilTime) → time_at t ≡ Some c → (j : Kind) × (s : List ℕ) × (plain_at j t ≡ Some s)
unfolding time_at
time_plain t c e = time_plain_by t (utc_time_at t) c refl e

not_time : (t : Tree) (ts : Trees) (c : CivilTime) → sequence_at t ≡ Some ts → time_at t ≡ Some c → ⊥
not_time t ts c e f = let m = time_plain t c f in sequence_or_plain m.0 (content_in t) ts m.1 e m.2

validity_sequence : (t : Tree) (v : CivilTime × CivilTime) → validity_at t ≡ Some v → (ts : Trees) × (sequence_at t ≡ Some ts)
unfolding validity_at
validity_sequence t v e = option_and_then_some _ (sequence_at t) v e (λ parts e0 r0. (parts, e0))

algorithm_sequence : (t : Tree) (a : Algorithm) → algorithm_at t ≡ Some a → (ts : Trees) × (sequence_at t ≡ Some ts)
unfolding algorithm_at
algorithm_sequence t a e = option_and_then_some _ (sequence_at t) a e (λ parts e0 r0. (parts, e0))

number_plain : (t : Tree) (n : List ℕ) → number_at t ≡ Some n → (s : List ℕ) × (plain_at integer t ≡ Some s)
unfolding number_at
number_plain t n e = option_and_then_some _ (plain_at integer t) n e (λ s e0 r0. (s, e0))

next_first : {A : Type 0} (read : Tree → Option A) (ts : Trees) (m : A × Trees) → next_at read ts ≡ Some m → (t : Tree) × (first_at ts ≡ Some (t, m.1)) × (read t ≡ Some m.0)
next_first {A = A} read ts m e =
    option_and_then_some _ (first_at ts) m e (λ first e0 r0.
    option_and_then_some _ (read first.0) m r0 (λ value e1 r1.
    let both : ◌≡◌ {A = A × Trees} (value, first.1) m = cc in
    (first.0, e0 ∙ ap (λ (z : A × Trees). Some (first.0, z.1)) both, e1 ∙ ap (λ (z : A × Trees). Some z.0) both)))

-- after the name of a certificate's first part
pub record CertificateFront (ts : Trees) : Type 0 where
  pub serial : List ℕ × Trees
  pub signature : Algorithm × Trees
  pub issuer : Name × Trees
  pub validity : (CivilTime × CivilTime) × Trees
  pub first : next_at number_at (tagged_at 0 ts).1 ≡ Some serial
  pub second : next_at algorithm_at serial.1 ≡ Some signature
  pub third : next_at name_at signature.1 ≡ Some issuer
  pub fourth : next_at validity_at issuer.1 ≡ Some validity

-- after the name of a list's first part
pub record ListFront (ts : Trees) : Type 0 where
  pub version : Option ℕ × Trees
  pub signature : Algorithm × Trees
  pub issuer : Name × Trees
  pub date : CivilTime × Trees
  pub first : list_version_at ts ≡ Some version
  pub second : next_at algorithm_at version.1 ≡ Some signature
  pub third : next_at name_at signature.1 ≡ Some issuer
  pub fourth : next_at time_at issuer.1 ≡ Some date

certificate_front : (t : Tree) (p : TbsPieces) → tbs_at t ≡ Some p → (ts : Trees) × (sequence_at t ≡ Some ts) × CertificateFront ts
unfolding tbs_at
certificate_front t p e =
    option_and_then_some _ (sequence_at t) p e (λ parts e0 r0.
    option_and_then_some _ (next_at number_at (tagged_at 0 parts).1) p r0 (λ serial e1 r1.
    option_and_then_some _ (next_at algorithm_at serial.1) p r1 (λ signature e2 r2.
    option_and_then_some _ (next_at name_at signature.1) p r2 (λ issuer e3 r3.
    option_and_then_some _ (next_at validity_at issuer.1) p r3 (λ validity e4 r4.
    (parts, e0, record { serial = serial; signature = signature; issuer = issuer; validity = validity; first = e1; second = e2; third = e3; fourth = e4 }))))))

list_front : (t : Tree) (p : TbsListPieces) → tbs_list_at t ≡ Some p → (ts : Trees) × (sequence_at t ≡ Some ts) × ListFront ts
unfolding tbs_list_at
list_front t p e =
    option_and_then_some _ (sequence_at t) p e (λ parts e0 r0.
    option_and_then_some _ (list_version_at parts) p r0 (λ version e1 r1.
    option_and_then_some _ (next_at algorithm_at version.1) p r1 (λ signature e2 r2.
    option_and_then_some _ (next_at name_at signature.1) p r2 (λ issuer e3 r3.
    option_and_then_some _ (next_at time_at issuer.1) p r3 (λ date e4 r4.
    (parts, e0, record { version = version; signature = signature; issuer = issuer; date = date; first = e1; second = e2; third = e3; fourth = e4 }))))))

not_tagged : (x : Tree) (xs : Trees) → is_tagged 0 (element_at x) ≡ false → (tagged_at 0 (more x xs)).1 ≡ more x xs
unfolding tagged_at
not_tagged x xs e = rw e refl

is_first : (x t : Tree) (xs ts : Trees) → first_at (more x xs) ≡ Some (t, ts) → (x ≡ t) × (xs ≡ ts)
is_first x t xs ts e =
    let both : ◌≡◌ {A = Tree × Trees} (x, xs) (t, ts) = cc in
    (ap (λ (z : Tree × Trees). z.0) both, ap (λ (z : Tree × Trees). z.1) both)

if_some : {A : Type 0} (b : Bool) (x y : A) → (if b then Some x else None) ≡ Some y → x ≡ y
if_some true x y e = cc
if_some false x y e = cc

version_rest : (x : Tree) (xs : Trees) (s : List ℕ) (m : Option ℕ × Trees) → list_version_of (Some s) x xs ≡ Some m → xs ≡ m.1
version_rest x xs [] m e = cc
version_rest x xs (v ∷ []) m e = let both = if_some (v == 1) (Some v, xs) m e in ap (λ (z : Option ℕ × Trees). z.1) both
version_rest x xs (a ∷ b ∷ s) m e = cc

version_none : (x : Tree) (xs : Trees) (m : Option ℕ × Trees) → list_version_of None x xs ≡ Some m → more x xs ≡ m.1
version_none x xs m e = let both : ◌≡◌ {A = Option ℕ × Trees} (None, more x xs) m = cc in ap (λ (z : Option ℕ × Trees). z.1) both

list_version_is : (x : Tree) (xs : Trees) (o : Option (List ℕ)) (m : Option ℕ × Trees) → plain_at integer x ≡ o → list_version_at (more x xs) ≡ Some m → list_version_of o x xs ≡ Some m
unfolding list_version_at
list_version_is x xs o m is e = ap (λ z. list_version_of z x xs) (sym is) ∙ e

-- if equal parts come after the versions, one has a sequence and the other a time
same_tails : (ts us : Trees) (a : Algorithm × Trees) (n : Name × Trees) (v : (CivilTime × CivilTime) × Trees) (b : Algorithm × Trees) (m : Name × Trees) (d : CivilTime × Trees) → ts ≡ us →
    next_at algorithm_at ts ≡ Some a → next_at name_at a.1 ≡ Some n → next_at validity_at n.1 ≡ Some v →
    next_at algorithm_at us ≡ Some b → next_at name_at b.1 ≡ Some m → next_at time_at m.1 ≡ Some d → ⊥
same_tails ts us a n v b m d same a1 a2 a3 b1 b2 b3 =
    let first : a ≡ b = the_value a b (sym a1 ∙ ap (next_at algorithm_at) same ∙ b1) in
    let second : n ≡ m = the_value n m (sym a2 ∙ ap (λ (z : Algorithm × Trees). next_at name_at z.1) first ∙ b2) in
    let third : next_at time_at n.1 ≡ Some d = ap (λ (z : Name × Trees). next_at time_at z.1) second ∙ b3 in
    let x = next_first validity_at n.1 v a3 in
    let y = next_first time_at n.1 d third in
    let both : ◌≡◌ {A = Tree × Trees} (x.0, v.1) (y.0, d.1) = the_value (x.0, v.1) (y.0, d.1) (sym x.1 ∙ y.1) in
    let tree : x.0 ≡ y.0 = ap (λ (z : Tree × Trees). z.0) both in
    let seq = validity_sequence x.0 v.0 x.2 in
    not_time x.0 seq.0 d.0 seq.1 (ap time_at tree ∙ y.2)

tagged_class : (x : Tree) (e : Element) → element_at x ≡ e → e.class ≡ 0 → is_tagged 0 (element_at x) ≡ true → ⊥
tagged_class x e is class test =
    let tests = both_true ((element_at x).class == 2) ((element_at x).tag == 0) test in
    let two : (element_at x).class ≡ 2 = eqb-true (element_at x).class 2 tests.0 in
    omega (arith, two, ap (λ (z : Element). z.class) is, class)

plain_class : (k : ℕ) (x : Tree) (j : Kind) (s : List ℕ) → IsObject k x → plain_at j x ≡ Some s → is_tagged 0 (element_at x) ≡ true → ⊥
plain_class k x j s o e = let m = plain_found k x j s o e in tagged_class x (universal false (tag_of j) s) (element_only k x (universal false (tag_of j) s) o m.0.in_range m.0.octets) refl

sequence_class : (k : ℕ) (x : Tree) (ts : Trees) → IsObject k x → sequence_at x ≡ Some ts → is_tagged 0 (element_at x) ≡ true → ⊥
sequence_class k x ts o e = let m = sequence_found k x ts o e in tagged_class x (universal true 16 (all_octets ts)) (element_only k x (universal true 16 (all_octets ts)) o m.0.in_range m.0.octets) refl

fronts_step : (k : ℕ) (x : Tree) (xs : Trees) (tagged : Bool) (o : Option (List ℕ)) → IsObject k x → is_tagged 0 (element_at x) ≡ tagged → plain_at integer x ≡ o →
    CertificateFront (more x xs) → ListFront (more x xs) → ⊥
fronts_step k x xs true (Some s) p test is a b = plain_class k x integer s p is test
fronts_step k x xs true None p test is a b =
    let rest = version_none x xs b.version (list_version_is x xs None b.version is b.first) in
    let m = next_first algorithm_at (more x xs) b.signature (ap (next_at algorithm_at) rest ∙ b.second) in
    let here = is_first x m.0 xs b.signature.1 m.1 in
    let seq = algorithm_sequence m.0 b.signature.0 m.2 in
    sequence_class k x seq.0 p (ap sequence_at here.0 ∙ seq.1) test
fronts_step k x xs false None p test is a b =
    let number = next_first number_at (more x xs) a.serial (ap (next_at number_at) (sym (not_tagged x xs test)) ∙ a.first) in
    let here = is_first x number.0 xs a.serial.1 number.1 in
    let found = number_plain number.0 a.serial.0 number.2 in
    let both : None ≡ Some found.0 = sym is ∙ ap (plain_at integer) here.0 ∙ found.1 in
    cc
fronts_step k x xs false (Some s) p test is a b =
    let number = next_first number_at (more x xs) a.serial (ap (next_at number_at) (sym (not_tagged x xs test)) ∙ a.first) in
    let here = is_first x number.0 xs a.serial.1 number.1 in
    let rest = version_rest x xs s b.version (list_version_is x xs (Some s) b.version is b.first) in
    same_tails a.serial.1 b.version.1 a.signature a.issuer a.validity b.signature b.issuer b.date (sym here.1 ∙ rest) a.second a.third a.fourth b.second b.third b.fourth

list_version_nothing : (m : Option ℕ × Trees) → list_version_at none ≡ Some m → m.1 ≡ none
unfolding list_version_at
list_version_nothing m e = let both : ◌≡◌ {A = Option ℕ × Trees} (None, none) m = cc in ap (λ (z : Option ℕ × Trees). z.1) (sym both)

nothing_first : (ts : Trees) → ts ≡ none → (t : Tree) (us : Trees) → first_at ts ≡ Some (t, us) → ⊥
nothing_first none is t us e = cc
nothing_first (more x xs) is t us e = cc

fronts_differ : (k : ℕ) (ts : Trees) → AreObjects k ts → CertificateFront ts → ListFront ts → ⊥
fronts_differ k none p a b =
    let m = next_first algorithm_at b.version.1 b.signature b.second in
    nothing_first b.version.1 (list_version_nothing b.version b.first) m.0 b.signature.1 m.1
fronts_differ k (more x xs) p a b = fronts_step k x xs (is_tagged 0 (element_at x)) (plain_at integer x) (first_found k (more x xs) x xs p refl).0 refl refl a b

pub not_both_lem : (s : List ℕ) (c : Certificate) (l : RevocationList) → IsCertificateItem s c → IsListItem s l → ⊥
not_both_lem s c l p q =
    let t = the_tree s p.object in
    let a = certificate_only 50 t.0 c t.1 p.in_range (p.spelled ∙ sym t.2) in
    let b = list_only 50 t.0 l t.1 q.in_range (q.spelled ∙ sym t.2) in
    let u = signed_part tbs_at 50 t.0 a.pieces t.1 a.read in
    let v = signed_part tbs_list_at 50 t.0 b.pieces t.1 b.read in
    let same : u.0 ≡ v.0 = the_value u.0 v.0 (sym u.3 ∙ v.3) in
    let x = certificate_front u.0 a.pieces.signed u.2 in
    let y = list_front u.0 b.pieces.signed (ap tbs_list_at same ∙ v.2) in
    let parts : x.0 ≡ y.0 = the_value x.0 y.0 (sym x.1 ∙ y.1) in
    let objects = (sequence_found 49 u.0 x.0 u.1 x.1).1 in
    fronts_differ 48 x.0 objects x.2 (subst ListFront (sym parts) y.2)

-- one class

pub class_once : (s : List ℕ) (a b : Class) → IsClassOf s a → IsClassOf s b → a ≡ b
class_once s (certificate c) (certificate d) p q = ap (λ z. certificate z) (certificate_once s c d p q)
class_once s (certificate c) (list l) p q = absurd (not_both_lem s c l p q)
class_once s (certificate c) other p q = absurd (q.0 c p)
class_once s (list l) (certificate c) p q = absurd (not_both_lem s c l q p)
class_once s (list l) (list m) p q = ap (λ z. list z) (list_once s l m p q)
class_once s (list l) other p q = absurd (q.1 l p)
class_once s other (certificate c) p q = absurd (p.0 c q)
class_once s other (list l) p q = absurd (p.1 l q)
class_once s other other p q = refl

-- equal fields if equal octets, and the other way round

pub one_certificate : (s r : List ℕ) (c d : Certificate) → IsCertificateItem s c → IsCertificateItem r d → (c ≡ d) ↔ (s ≡ r)
one_certificate s r c d p q =
    (λ e. sym p.spelled ∙ ap certificate_octets e ∙ q.spelled, λ e. certificate_once r c d (subst (λ z. IsCertificateItem z c) e p) q)

pub one_list : (s r : List ℕ) (l m : RevocationList) → IsListItem s l → IsListItem r m → (l ≡ m) ↔ (s ≡ r)
one_list s r l m p q =
    (λ e. sym p.spelled ∙ ap list_octets e ∙ q.spelled, λ e. list_once r l m (subst (λ z. IsListItem z l) e p) q)
