-- The parts of a certificate: what is read of a tree is what its octets spell.
use Rattle.std.proofs.Common.{◌≡◌, ◌∙◌, sym, ap, refl, ℕ, ◌-◌, ◌^◌, ◌<◌, List, [], ◌∷◌, ◌++◌, true, false, Option, Some, None, lit<, subst, arith}
use Rattle.std.specs.List.{concat}
use Rattle.std.proofs.lemmas.Bool.Decides.{nat_tests}
use Rattle.std.proofs.lemmas.List.{append-nil}
use Rattle.std.proofs.lemmas.Option.{option_and_then_some}
use Rattle.asn1_core.specs.Elements.{Element, element_octets}
use Rattle.der_tree.specs.Tree.{Tree, Trees, octets, all_octets}
use Rattle.der_tree.specs.Shape.{IsObject}
use Rattle.der_tree.specs.Access.{sequence_at, first_at, end_at, universal}
use Rattle.der_tree.proofs.Shapes.{sequence_found, first_found, end_found}
use Rattle.cert_model.specs.Fields.{CivilTime}
use Rattle.cert_model.specs.Octets.{sequence_octets, optional_octets, number_octets, bit_field_octets, algorithm_octets, name_octets, time_octets, key_octets}
use Rattle.cert_model.specs.Range.{IfThere, IsNumber, AreBits, IsAlgorithm, IsName, IsKey, IsTimeField}
use Rattle.cert_model.specs.Reads.{◌>>=◌, next_at, number_at, bits_at, algorithm_at, name_at, key_at, is_tagged, tagged_at}
use Rattle.cert_model.specs.Times.{time_at}
use Rattle.cert_model.specs.Pieces.{validity_at, TbsPieces, tbs_at, Signed, signed_at}
use Rattle.cert_model.specs.PieceOctets.{IsTagged, HasSmallContent, both_times, AreTimes, tbs_pieces_octets, AreTbsPieces, signed_octets, AreSigned}
use Rattle.cert_model.proofs.Steps.{Parts, in_sequence, no_more}
use Rattle.cert_model.proofs.Lists.{Kind, IsKind}
use Rattle.cert_model.proofs.Tagged.{Otherwise, over, other, tagged_found, tagged_only, tagged_small}
use Rattle.cert_model.proofs.TimeParts.{times, time_laws}
use Rattle.cert_model.proofs.Next.{next_found, next_only, numbers, number_laws, bit_fields, bits_laws, algorithms, algorithm_laws, names, name_laws, keys, key_laws}

-- the end after the last part
pub ends : (ts : Trees) (u : Unit {0}) → end_at ts ≡ Some u → all_octets ts ≡ []
ends ts u e = (end_found ts e).1

-- validity

validity_found : (k : ℕ) (t : Tree) (v : CivilTime × CivilTime) → IsObject k t → validity_at t ≡ Some v → AreTimes v × (both_times v ≡ octets t)
unfolding validity_at
validity_found k t v p e =
    option_and_then_some _ (sequence_at t) v e (λ parts e0 r0.
    option_and_then_some _ (next_at time_at parts) v r0 (λ first e1 r1.
    option_and_then_some _ (next_at time_at first.1) v r1 (λ second e2 r2.
    option_and_then_some _ (end_at second.1) v r2 (λ end e3 r3.
    let same : ◌≡◌ {A = CivilTime × CivilTime} (first.0, second.0) v = cc in
    let m = sequence_found k t parts p e0 in
    let a = next_found times IsTimeField time_laws (k - 1) parts first m.1 e1 in
    let b = next_found times IsTimeField time_laws (k - 1) first.1 second a.1 e2 in
    let whole : all_octets parts ≡ time_octets first.0 ++ time_octets second.0 =
    a.2 ∙ ap (λ z. time_octets first.0 ++ z) (b.2 ∙ ap (λ z. time_octets second.0 ++ z) (ends second.1 end e3) ∙ append-nil (time_octets second.0)) in
    subst (λ (z : CivilTime × CivilTime). AreTimes z × (both_times z ≡ octets t)) same ((a.0, b.0), sym (m.0.octets ∙ ap sequence_octets whole))))))

validity_only : (k : ℕ) (t : Tree) (v : CivilTime × CivilTime) → IsObject k t → AreTimes v → both_times v ≡ octets t → validity_at t ≡ Some v
unfolding validity_at
validity_only k t v p q e =
    let m = in_sequence k t (time_octets v.0 ++ time_octets v.1) p e in
    let a = next_only times IsTimeField time_laws (k - 1) m.0 v.0 (time_octets v.1) m.2 q.0 in
    let b = next_only times IsTimeField time_laws (k - 1) a.0 v.1 [] (subst (λ s. Parts (k - 1) s a.0) (sym (append-nil (time_octets v.1))) a.2) q.1 in
    let over' : end_at b.0 ≡ Some tt = ap end_at (no_more (k - 1) b.0 b.2) in
    rw (m.1, a.1, b.1, over') refl

abbrev validities : Kind (CivilTime × CivilTime)
validities = record { bytes = both_times; read = validity_at }

validity_element : (v : CivilTime × CivilTime) → AreTimes v → (e : Element) × (e.class < 4) × (e.tag < 2 ^ 32) × (both_times v ≡ element_octets e)
validity_element v p = (universal true 16 (time_octets v.0 ++ time_octets v.1), lit< tt, lit< tt, refl)

validity_laws : IsKind (CivilTime × CivilTime) validities AreTimes
validity_laws = record { element = validity_element; found = validity_found; only = validity_only }

-- the first part

tbs_read : (k : ℕ) (t : Tree) (p : TbsPieces) → IsObject k t → tbs_at t ≡ Some p → AreTbsPieces p × (tbs_pieces_octets p ≡ octets t) × IfThere HasSmallContent p.extensions
unfolding tbs_at tbs_pieces_octets
tbs_read k t p o e =
    option_and_then_some _ (sequence_at t) p e (λ parts e0 r0.
    let version = tagged_at 0 parts in
    option_and_then_some _ (next_at number_at version.1) p r0 (λ serial e1 r1.
    option_and_then_some _ (next_at algorithm_at serial.1) p r1 (λ signature e2 r2.
    option_and_then_some _ (next_at name_at signature.1) p r2 (λ issuer e3 r3.
    option_and_then_some _ (next_at validity_at issuer.1) p r3 (λ validity e4 r4.
    option_and_then_some _ (next_at name_at validity.1) p r4 (λ subject e5 r5.
    option_and_then_some _ (next_at key_at subject.1) p r5 (λ key e6 r6.
    let issuer_id = tagged_at 1 key.1 in
    let subject_id = tagged_at 2 issuer_id.1 in
    let extensions = tagged_at 3 subject_id.1 in
    option_and_then_some _ (end_at extensions.1) p r6 (λ end e7 r7.
    let here : TbsPieces = record { version = version.0; serial = serial.0; signature = signature.0; issuer = issuer.0; validity = validity.0; subject = subject.0; key = key.0; issuer_id = issuer_id.0; subject_id = subject_id.0; extensions = extensions.0 } in
    let same : here ≡ p = cc in
    let m = sequence_found k t parts o e0 in
    let p0 = tagged_found 0 (k - 1) parts m.1 in
    let p1 = next_found numbers IsNumber number_laws (k - 1) version.1 serial p0.0 e1 in
    let p2 = next_found algorithms IsAlgorithm algorithm_laws (k - 1) serial.1 signature p1.1 e2 in
    let p3 = next_found names IsName name_laws (k - 1) signature.1 issuer p2.1 e3 in
    let p4 = next_found validities AreTimes validity_laws (k - 1) issuer.1 validity p3.1 e4 in
    let p5 = next_found names IsName name_laws (k - 1) validity.1 subject p4.1 e5 in
    let p6 = next_found keys IsKey key_laws (k - 1) subject.1 key p5.1 e6 in
    let p7 = tagged_found 1 (k - 1) key.1 p6.1 in
    let p8 = tagged_found 2 (k - 1) issuer_id.1 p7.0 in
    let p9 = tagged_found 3 (k - 1) subject_id.1 p8.0 in
    let last : all_octets subject_id.1 ≡ optional_octets element_octets extensions.0 ++ [] = p9.2 ∙ ap (λ z. optional_octets element_octets extensions.0 ++ z) (ends extensions.1 end e7) in
    let whole : all_octets parts ≡ concat (optional_octets element_octets version.0 ∷ number_octets serial.0 ∷ algorithm_octets signature.0
    ∷ name_octets issuer.0 ∷ both_times validity.0 ∷ name_octets subject.0 ∷ key_octets key.0
    ∷ optional_octets element_octets issuer_id.0 ∷ optional_octets element_octets subject_id.0 ∷ optional_octets element_octets extensions.0 ∷ []) =
    p0.2 ∙ ap (λ z. optional_octets element_octets version.0 ++ z) (p1.2
    ∙ ap (λ z. number_octets serial.0 ++ z) (p2.2
    ∙ ap (λ z. algorithm_octets signature.0 ++ z) (p3.2
    ∙ ap (λ z. name_octets issuer.0 ++ z) (p4.2
    ∙ ap (λ z. both_times validity.0 ++ z) (p5.2
    ∙ ap (λ z. name_octets subject.0 ++ z) (p6.2
    ∙ ap (λ z. key_octets key.0 ++ z) (p7.2
    ∙ ap (λ z. optional_octets element_octets issuer_id.0 ++ z) (p8.2
    ∙ ap (λ z. optional_octets element_octets subject_id.0 ++ z) last)))))))) in
    let are : AreTbsPieces here = record { version = p0.1; serial = p1.0; signature = p2.0; issuer = p3.0; validity = p4.0; subject = p5.0; key = p6.0; issuer_id = p7.1; subject_id = p8.1; extensions = p9.1 } in
    rw (← same) (are, sym (m.0.octets ∙ ap sequence_octets whole), tagged_small 3 (k - 1) subject_id.1 p8.0)))))))))

pub tbs_found : (k : ℕ) (t : Tree) (p : TbsPieces) → IsObject k t → tbs_at t ≡ Some p → AreTbsPieces p × (tbs_pieces_octets p ≡ octets t)
tbs_found k t p o e = let m = tbs_read k t p o e in (m.0, m.1)

-- after an absent part come others, or nothing

not_this : (tag n : ℕ) (e : Element) → IsTagged n e → ((tag ≡ n) → ⊥) → is_tagged tag e ≡ false
not_this tag n e p differ = grind (arith, nat_tests)

tagged_behind : (tag n : ℕ) (o : Option Element) (r : List ℕ) → ((tag ≡ n) → ⊥) → IfThere (IsTagged n) o → Otherwise tag r → Otherwise tag (optional_octets element_octets o ++ r)
tagged_behind tag n None r differ p q = q
tagged_behind tag n (Some e) r differ p q = other e r p.any.class p.any.tag (not_this tag n e p differ) refl

pub tbs_only : (k : ℕ) (t : Tree) (p : TbsPieces) → IsObject k t → AreTbsPieces p → tbs_pieces_octets p ≡ octets t → tbs_at t ≡ Some p
unfolding tbs_at tbs_pieces_octets
tbs_only k t p o q e =
    let x = optional_octets element_octets p.extensions ++ [] in
    let s = optional_octets element_octets p.subject_id ++ x in
    let i = optional_octets element_octets p.issuer_id ++ s in
    let b6 = key_octets p.key ++ i in
    let b5 = name_octets p.subject ++ b6 in
    let b4 = both_times p.validity ++ b5 in
    let b3 = name_octets p.issuer ++ b4 in
    let b2 = algorithm_octets p.signature ++ b3 in
    let b1 = number_octets p.serial ++ b2 in
    let m = in_sequence k t (optional_octets element_octets p.version ++ b1) o e in
    let first : Otherwise 0 b1 = other (universal false 2 p.serial) b2 (lit< tt) (lit< tt) refl refl in
    let p0 = tagged_only 0 (k - 1) m.0 p.version b1 m.2 q.version first in
    let p1 = next_only numbers IsNumber number_laws (k - 1) p0.0 p.serial b2 p0.2 q.serial in
    let p2 = next_only algorithms IsAlgorithm algorithm_laws (k - 1) p1.0 p.signature b3 p1.2 q.signature in
    let p3 = next_only names IsName name_laws (k - 1) p2.0 p.issuer b4 p2.2 q.issuer in
    let p4 = next_only validities AreTimes validity_laws (k - 1) p3.0 p.validity b5 p3.2 q.validity in
    let p5 = next_only names IsName name_laws (k - 1) p4.0 p.subject b6 p4.2 q.subject in
    let p6 = next_only keys IsKey key_laws (k - 1) p5.0 p.key i p5.2 q.key in
    let none3 : Otherwise 3 [] = over refl in
    let none2 : Otherwise 2 x = tagged_behind 2 3 p.extensions [] (λ z. omega (arith, z)) q.extensions (over refl) in
    let none1 : Otherwise 1 s = tagged_behind 1 2 p.subject_id x (λ z. omega (arith, z)) q.subject_id (tagged_behind 1 3 p.extensions [] (λ z. omega (arith, z)) q.extensions (over refl)) in
    let p7 = tagged_only 1 (k - 1) p6.0 p.issuer_id s p6.2 q.issuer_id none1 in
    let p8 = tagged_only 2 (k - 1) p7.0 p.subject_id x p7.2 q.subject_id none2 in
    let p9 = tagged_only 3 (k - 1) p8.0 p.extensions [] p8.2 q.extensions none3 in
    let end : end_at p9.0 ≡ Some tt = ap end_at (no_more (k - 1) p9.0 p9.2) in
    rw (m.1, p0.1, p1.1, p2.1, p3.1, p4.1, p5.1, p6.1, p7.1, p8.1, p9.1, end) refl

-- what is signed, the algorithm, and the signature value

pub signed_found : {A : Type 0} (kind : Kind A) (Is : A → Type 0) → IsKind A kind Is → (k : ℕ) (t : Tree) (s : Signed A) → IsObject k t → signed_at kind.read t ≡ Some s →
    AreSigned A Is s × (signed_octets kind.bytes s ≡ octets t)
signed_found {A = A} kind Is laws k t s o e =
    option_and_then_some _ (sequence_at t) s e (λ parts e0 r0.
    option_and_then_some _ (next_at kind.read parts) s r0 (λ signed e1 r1.
    option_and_then_some _ (next_at algorithm_at signed.1) s r1 (λ algorithm e2 r2.
    option_and_then_some _ (next_at bits_at algorithm.1) s r2 (λ value e3 r3.
    option_and_then_some _ (end_at value.1) s r3 (λ end e4 r4.
    let here : Signed A = record { signed = signed.0; algorithm = algorithm.0; signature_value = value.0 } in
    let same : here ≡ s = cc in
    let m = sequence_found k t parts o e0 in
    let p1 = next_found kind Is laws (k - 1) parts signed m.1 e1 in
    let p2 = next_found algorithms IsAlgorithm algorithm_laws (k - 1) signed.1 algorithm p1.1 e2 in
    let p3 = next_found bit_fields AreBits bits_laws (k - 1) algorithm.1 value p2.1 e3 in
    let whole : all_octets parts ≡ concat (kind.bytes signed.0 ∷ algorithm_octets algorithm.0 ∷ bit_field_octets value.0 ∷ []) =
    p1.2 ∙ ap (λ z. kind.bytes signed.0 ++ z) (p2.2 ∙ ap (λ z. algorithm_octets algorithm.0 ++ z) (p3.2 ∙ ap (λ z. bit_field_octets value.0 ++ z) (ends value.1 end e4))) in
    let are : AreSigned A Is here = record { signed = p1.0; algorithm = p2.0; signature_value = p3.0 } in
    rw (← same) (are, sym (m.0.octets ∙ ap sequence_octets whole)))))))

pub signed_only : {A : Type 0} (kind : Kind A) (Is : A → Type 0) → IsKind A kind Is → (k : ℕ) (t : Tree) (s : Signed A) → IsObject k t → AreSigned A Is s → signed_octets kind.bytes s ≡ octets t →
    signed_at kind.read t ≡ Some s
signed_only kind Is laws k t s o q e =
    let b2 = bit_field_octets s.signature_value ++ [] in
    let b1 = algorithm_octets s.algorithm ++ b2 in
    let m = in_sequence k t (kind.bytes s.signed ++ b1) o e in
    let p1 = next_only kind Is laws (k - 1) m.0 s.signed b1 m.2 q.signed in
    let p2 = next_only algorithms IsAlgorithm algorithm_laws (k - 1) p1.0 s.algorithm b2 p1.2 q.algorithm in
    let p3 = next_only bit_fields AreBits bits_laws (k - 1) p2.0 s.signature_value [] p2.2 q.signature_value in
    let end : end_at p3.0 ≡ Some tt = ap end_at (no_more (k - 1) p3.0 p3.2) in
    rw (m.1, p1.1, p2.1, p3.1, end) refl

abbrev pub tbs_parts : Kind TbsPieces
tbs_parts = record { bytes = tbs_pieces_octets; read = tbs_at }

tbs_element : (p : TbsPieces) → AreTbsPieces p → (e : Element) × (e.class < 4) × (e.tag < 2 ^ 32) × (tbs_pieces_octets p ≡ element_octets e)
unfolding tbs_pieces_octets
tbs_element p q = (
  universal true 16 (concat (optional_octets element_octets p.version ∷ number_octets p.serial ∷ algorithm_octets p.signature
      ∷ name_octets p.issuer ∷ both_times p.validity ∷ name_octets p.subject ∷ key_octets p.key
      ∷ optional_octets element_octets p.issuer_id ∷ optional_octets element_octets p.subject_id ∷ optional_octets element_octets p.extensions ∷ [])),
  lit< tt,
  lit< tt,
  refl,
)

pub tbs_laws : IsKind TbsPieces tbs_parts AreTbsPieces
tbs_laws = record { element = tbs_element; found = tbs_found; only = tbs_only }

abbrev pub first_tree : Tree → Option Tree
first_tree t = do
  parts ← sequence_at t
  first ← first_at parts
  Some first.0

-- the first part of a signed object
pub signed_part : {A : Type 0} (read : Tree → Option A) (k : ℕ) (t : Tree) (s : Signed A) → IsObject k t → signed_at read t ≡ Some s →
    (u : Tree) × IsObject (k - 1) u × (read u ≡ Some s.signed) × (first_tree t ≡ Some u)
signed_part {A = A} read k t s o e =
    option_and_then_some _ (sequence_at t) s e (λ parts e0 r0.
    option_and_then_some _ (next_at read parts) s r0 (λ signed e1 r1.
    option_and_then_some _ (next_at algorithm_at signed.1) s r1 (λ algorithm e2 r2.
    option_and_then_some _ (next_at bits_at algorithm.1) s r2 (λ value e3 r3.
    option_and_then_some _ (end_at value.1) s r3 (λ end e4 r4.
    let here : Signed A = record { signed = signed.0; algorithm = algorithm.0; signature_value = value.0 } in
    let same : here ≡ s = cc in
    let m = sequence_found k t parts o e0 in
    option_and_then_some _ (first_at parts) signed e1 (λ first f0 g0.
    option_and_then_some _ (read first.0) signed g0 (λ value' f1 g1.
    let both : ◌≡◌ {A = A × Trees} (value', first.1) signed = cc in
    let f = first_found (k - 1) parts first.0 first.1 m.1 f0 in
    (first.0, f.0, f1 ∙ ap (λ (z : A × Trees). Some z.0) both ∙ ap (λ (z : Signed A). Some z.signed) same, rw (e0, f0) refl))))))))

pub extensions_small : (k : ℕ) (t : Tree) (s : Signed TbsPieces) → IsObject k t → signed_at tbs_at t ≡ Some s → IfThere HasSmallContent s.signed.extensions
extensions_small k t s o e = let m = signed_part tbs_at k t s o e in (tbs_read (k - 1) m.0 s.signed m.1 m.2).2
