-- The parts of a revocation list: what is read of a tree is what its octets spell.
use Rattle.std.proofs.Common.{◌≡◌, ◌≢◌, ◌∙◌, sym, ap, refl, ℕ, ◌-◌, ◌^◌, ◌<◌, ◌==◌, List, [], ◌∷◌, ◌++◌, true, false, Option, Some, None, nat_lt, length, lit<, subst, arith}
use Rattle.std.specs.List.{concat, flat_map, AllByRecursion}
use Rattle.std.proofs.lemmas.List.{append-nil}
use Rattle.std.proofs.lemmas.Bool.{eqb-true}
use Rattle.std.proofs.lemmas.Option.{option_and_then_some}
use Rattle.asn1_core.specs.Elements.{Element, IsElement, element_octets}
use Rattle.asn1_core.proofs.StrictLaws.{one_element_lem}
use Rattle.der_tree.specs.Table.{integer}
use Rattle.der_tree.specs.Tree.{Tree, Trees, none, more, octets, all_octets}
use Rattle.der_tree.specs.Shape.{IsObject, AreObjects}
use Rattle.der_tree.specs.Access.{sequence_at, plain_at, first_at, end_at, universal}
use Rattle.der_tree.proofs.Shapes.{sequence_found, plain_found, plain_only, first_found}
use Rattle.cert_model.specs.Fields.{Number, Extension, CivilTime, Entry}
use Rattle.cert_model.specs.Octets.{sequence_octets, optional_octets, several_octets, number_octets, identifier_octets, algorithm_octets, name_octets, time_octets, extension_octets, extensions_octets, entry_octets, entries_octets}
use Rattle.cert_model.specs.Range.{IfThere, IsNumber, IsAlgorithm, IsName, IsTimeField, AreExtensions}
use Rattle.cert_model.specs.Assembly.{AreExtensionsOf}
use Rattle.cert_model.specs.Reads.{◌>>=◌, next_at, number_at, algorithm_at, name_at, extensions_at, list_at, tagged_at}
use Rattle.cert_model.specs.Times.{time_at}
use Rattle.cert_model.specs.Pieces.{last_extensions_at, entry_at, list_version_of, list_version_at, maybe_time_of, maybe_time_at, some_entries_at, entries_in_of, entries_in, behind_of, behind_entries, TbsListPieces, tbs_list_at, Signed, signed_at}
use Rattle.cert_model.specs.PieceOctets.{IsTagged, HasSmallContent, AreEntryFields, tbs_list_pieces_octets, AreTbsListPieces}
use Rattle.cert_model.proofs.Cases.{chosen, some_if, if_some}
use Rattle.cert_model.proofs.Steps.{Parts, in_sequence, first_part, no_more}
use Rattle.cert_model.proofs.Lists.{Kind, IsKind, list_found, list_only}
use Rattle.cert_model.proofs.Extensions.{extensions_found, extensions_only}
use Rattle.cert_model.proofs.Tagged.{over, tagged_found, tagged_only, tagged_small}
use Rattle.cert_model.proofs.TimeParts.{times, time_laws, no_time, plain_other}
use Rattle.cert_model.proofs.Next.{next_found, next_only, numbers, number_laws, algorithms, algorithm_laws, names, name_laws}
use Rattle.cert_model.proofs.Certificates.{ends, signed_part}

-- extensions to the end, or none

several_is : (es : List Extension) → es ≢ [] → several_octets extensions_octets es ≡ extensions_octets es
several_is [] p = absurd (p refl)
several_is (x ∷ es) p = refl

last_extensions_found : (k : ℕ) (ts : Trees) (es : List Extension) → AreObjects k ts → last_extensions_at ts ≡ Some es → AreExtensions es × (all_octets ts ≡ several_octets extensions_octets es)
last_extensions_found k none es p e =
    let same : [] ≡ es = cc in
    subst (λ z. AreExtensions z × (all_octets none ≡ several_octets extensions_octets z)) same (tt, refl)
last_extensions_found k (more t none) es p e =
    let m = extensions_found k t es (first_found k (more t none) t none p refl).0 e in
    (m.in_range, append-nil (octets t) ∙ sym m.spelled ∙ sym (several_is es m.some))
last_extensions_found k (more t (more u us)) es p e = cc

last_step : (ts : Trees) (t : Tree) (es : List Extension) → first_at ts ≡ Some (t, none) → extensions_at t ≡ Some es → last_extensions_at ts ≡ Some es
last_step none t es e is = cc
last_step (more x none) t es e is =
    let both : ◌≡◌ {A = Tree × Trees} (x, none) (t, none) = cc in
    ap (λ (z : Tree × Trees). extensions_at z.0) both ∙ is
last_step (more x (more y ys)) t es e is =
    let both : ◌≡◌ {A = Tree × Trees} (x, more y ys) (t, none) = cc in
    let gone : more y ys ≡ none = ap (λ (z : Tree × Trees). z.1) both in
    cc

last_extensions_only : (k : ℕ) (ts : Trees) (es : List Extension) → Parts k (several_octets extensions_octets es) ts → AreExtensions es → last_extensions_at ts ≡ Some es
unfolding extensions_octets
last_extensions_only k ts [] p q = ap last_extensions_at (no_more k ts p)
last_extensions_only k ts (x ∷ es) p q =
    let whole : Parts k (extensions_octets (x ∷ es) ++ []) ts = subst (λ s. Parts k s ts) (sym (append-nil (extensions_octets (x ∷ es)))) p in
    let m = first_part k ts (universal true 16 (flat_map extension_octets (x ∷ es))) [] whole (lit< tt) (lit< tt) in
    let gone = no_more k m.others m.rest in
    let are : AreExtensionsOf (octets m.tree) (x ∷ es) = record { some = λ is. cc; in_range = q; spelled = sym m.spelled } in
    last_step ts m.tree (x ∷ es) (m.is_first ∙ ap (λ z. Some (m.tree, z)) gone) (extensions_only k m.tree (x ∷ es) m.object are)

-- entries

entry_found : (k : ℕ) (t : Tree) (a : Entry) → IsObject k t → entry_at t ≡ Some a → AreEntryFields a × (entry_octets a ≡ octets t)
unfolding entry_at entry_octets
entry_found k t a o e =
    option_and_then_some _ (sequence_at t) a e (λ parts e0 r0.
    option_and_then_some _ (next_at number_at parts) a r0 (λ serial e1 r1.
    option_and_then_some _ (next_at time_at serial.1) a r1 (λ date e2 r2.
    option_and_then_some _ (last_extensions_at date.1) a r2 (λ extensions e3 r3.
    let here : Entry = record { serial = serial.0; date = date.0; extensions = extensions } in
    let same : here ≡ a = cc in
    let m = sequence_found k t parts o e0 in
    let p1 = next_found numbers IsNumber number_laws (k - 1) parts serial m.1 e1 in
    let p2 = next_found times IsTimeField time_laws (k - 1) serial.1 date p1.1 e2 in
    let p3 = last_extensions_found (k - 1) date.1 extensions p2.1 e3 in
    let whole : all_octets parts ≡ concat (number_octets serial.0 ∷ time_octets date.0 ∷ several_octets extensions_octets extensions ∷ []) =
    p1.2 ∙ ap (λ z. number_octets serial.0 ++ z) (p2.2 ∙ ap (λ z. time_octets date.0 ++ z) (p3.1 ∙ sym (append-nil (several_octets extensions_octets extensions)))) in
    let are : AreEntryFields here = record { serial = p1.0; date = p2.0; extensions = p3.0 } in
    rw (← same) (are, sym (m.0.octets ∙ ap sequence_octets whole))))))

entry_only : (k : ℕ) (t : Tree) (a : Entry) → IsObject k t → AreEntryFields a → entry_octets a ≡ octets t → entry_at t ≡ Some a
unfolding entry_at entry_octets
entry_only k t a o q e =
    let x = several_octets extensions_octets a.extensions ++ [] in
    let m = in_sequence k t (number_octets a.serial ++ (time_octets a.date ++ x)) o e in
    let p1 = next_only numbers IsNumber number_laws (k - 1) m.0 a.serial (time_octets a.date ++ x) m.2 q.serial in
    let p2 = next_only times IsTimeField time_laws (k - 1) p1.0 a.date x p1.2 q.date in
    let p3 = last_extensions_only (k - 1) p2.0 a.extensions (subst (λ s. Parts (k - 1) s p2.0) (append-nil (several_octets extensions_octets a.extensions)) p2.2) q.extensions in
    rw (m.1, p1.1, p2.1, p3) refl

abbrev entries : Kind Entry
entries = record { bytes = entry_octets; read = entry_at }

entry_element : (a : Entry) → AreEntryFields a → (e : Element) × (e.class < 4) × (e.tag < 2 ^ 32) × (entry_octets a ≡ element_octets e)
unfolding entry_octets
entry_element a p = (universal true 16 (concat (number_octets a.serial ∷ time_octets a.date ∷ several_octets extensions_octets a.extensions ∷ [])), lit< tt, lit< tt, refl)

entry_laws : IsKind Entry entries AreEntryFields
entry_laws = record { element = entry_element; found = entry_found; only = entry_only }

-- what is at the front: an element of some kind, or nothing
pub data Fronted (Is : Element → Type 0) (r : List ℕ) : Type 0 where
  nothing : r ≡ [] → Fronted Is r
  front : (e : Element) (x : List ℕ) → e.class < 4 → e.tag < 2 ^ 32 → Is e → r ≡ element_octets e ++ x → Fronted Is r

-- not a universal element without parts
abbrev pub IsNoLeaf : Element → Type 0
IsNoLeaf e = e.class ≡ 0 → e.constructed ≡ false → ⊥

-- not a universal element
abbrev pub IsForeign : Element → Type 0
IsForeign e = e.class ≡ 0 → ⊥

-- the version

abbrev version_number : ℕ → List ℕ
version_number version = number_octets (version ∷ [])

list_version_step : (k : ℕ) (t : Tree) (ts : Trees) (o : Option (List ℕ)) (m : Option ℕ × Trees) → AreObjects k (more t ts) → plain_at integer t ≡ o → list_version_of o t ts ≡ Some m →
    IfThere (λ version. version ≡ 1) m.0 × AreObjects k m.1 × (all_octets (more t ts) ≡ optional_octets version_number m.0 ++ all_octets m.1)
list_version_step k t ts None m p o e =
    let both : ◌≡◌ {A = Option ℕ × Trees} (None, more t ts) m = cc in
    subst (λ (z : Option ℕ × Trees). IfThere (λ version. version ≡ 1) z.0 × AreObjects k z.1 × (all_octets (more t ts) ≡ optional_octets version_number z.0 ++ all_octets z.1)) both (tt, p, refl)
list_version_step k t ts (Some []) m p o e = cc
list_version_step k t ts (Some (version ∷ [])) m p o e =
    let test = chosen (version == 1) (Some version, ts) m e in
    let f = first_found k (more t ts) t ts p refl in
    let is = (plain_found k t integer (version ∷ []) f.0 o).0.octets in
    subst (λ (z : Option ℕ × Trees). IfThere (λ version. version ≡ 1) z.0 × AreObjects k z.1 × (all_octets (more t ts) ≡ optional_octets version_number z.0 ++ all_octets z.1)) test.1
    (eqb-true version 1 test.0, f.1, ap (λ z. z ++ all_octets ts) is)
list_version_step k t ts (Some (a ∷ b ∷ s)) m p o e = cc

list_version_found : (k : ℕ) (ts : Trees) (m : Option ℕ × Trees) → AreObjects k ts → list_version_at ts ≡ Some m →
    IfThere (λ version. version ≡ 1) m.0 × AreObjects k m.1 × (all_octets ts ≡ optional_octets version_number m.0 ++ all_octets m.1)
unfolding list_version_at
list_version_found k none m p e =
    let both : ◌≡◌ {A = Option ℕ × Trees} (None, none) m = cc in
    subst (λ (z : Option ℕ × Trees). IfThere (λ version. version ≡ 1) z.0 × AreObjects k z.1 × (all_octets none ≡ optional_octets version_number z.0 ++ all_octets z.1)) both (tt, p, refl)
list_version_found k (more t ts) m p e = list_version_step k t ts (plain_at integer t) m p refl e

list_version_none : (ts : Trees) (t : Tree) (us : Trees) → first_at ts ≡ Some (t, us) → plain_at integer t ≡ None → list_version_at ts ≡ Some (None, ts)
unfolding list_version_at
list_version_none none t us e n = refl
list_version_none (more x xs) t us e n =
    let both : ◌≡◌ {A = Tree × Trees} (x, xs) (t, us) = cc in
    let same : plain_at integer x ≡ None = ap (λ (z : Tree × Trees). plain_at integer z.0) both ∙ n in
    rw same refl

list_version_some : (ts : Trees) (t : Tree) (us : Trees) → first_at ts ≡ Some (t, us) → plain_at integer t ≡ Some (1 ∷ []) → list_version_at ts ≡ Some (Some 1, us)
unfolding list_version_at
list_version_some none t us e n = cc
list_version_some (more x xs) t us e n =
    let both : ◌≡◌ {A = Tree × Trees} (x, xs) (t, us) = cc in
    let same : plain_at integer x ≡ Some (1 ∷ []) = ap (λ (z : Tree × Trees). plain_at integer z.0) both ∙ n in
    rw same (ap (λ (z : Tree × Trees). Some (Some 1, z.1)) both)

number_read : (k : ℕ) (t : Tree) (n : Number) → IsObject k t → IsElement (universal false 2 n) → octets t ≡ element_octets (universal false 2 n) → plain_at integer t ≡ Some n
number_read k t n p fits is = (plain_only k t integer n p fits is).0

list_version_only : (k : ℕ) (ts : Trees) (o : Option ℕ) (e : Element) (x : List ℕ) → IfThere (λ version. version ≡ 1) o → e.class < 4 → e.tag < 2 ^ 32 → IsNoLeaf e →
    Parts k (optional_octets version_number o ++ (element_octets e ++ x)) ts → (us : Trees) × (list_version_at ts ≡ Some (o, us)) × Parts k (element_octets e ++ x) us
list_version_only k ts None e x q class tag parted p =
    let m = first_part k ts e x p class tag in
    let absent = plain_other k m.tree integer e m.object m.in_range m.spelled (record { differs = λ a b c. parted a b }) in
    (ts, list_version_none ts m.tree m.others m.is_first absent, p)
list_version_only k ts (Some version) e x q class tag parted p =
    let one : Parts k (version_number 1 ++ (element_octets e ++ x)) ts = subst (λ n. Parts k (version_number n ++ (element_octets e ++ x)) ts) q p in
    let m = first_part k ts (universal false 2 (1 ∷ [])) (element_octets e ++ x) one (lit< tt) (lit< tt) in
    let n = number_read k m.tree (1 ∷ []) m.object m.in_range m.spelled in
    (m.others, list_version_some ts m.tree m.others m.is_first n ∙ ap (λ z. Some (Some z, m.others)) (sym q), m.rest)

-- the next update

maybe_time_step : (k : ℕ) (t : Tree) (ts : Trees) (o : Option CivilTime) → AreObjects k (more t ts) → time_at t ≡ o → let m = maybe_time_of o t ts in
    IfThere IsTimeField m.0 × AreObjects k m.1 × (all_octets (more t ts) ≡ optional_octets time_octets m.0 ++ all_octets m.1)
maybe_time_step k t ts None p o = (tt, p, refl)
maybe_time_step k t ts (Some c) p o =
    let f = first_found k (more t ts) t ts p refl in
    let m = time_laws.found k t c f.0 o in
    (m.0, f.1, ap (λ z. z ++ all_octets ts) (sym m.1))

maybe_time_found : (k : ℕ) (ts : Trees) → AreObjects k ts → let m = maybe_time_at ts in
    IfThere IsTimeField m.0 × AreObjects k m.1 × (all_octets ts ≡ optional_octets time_octets m.0 ++ all_octets m.1)
unfolding maybe_time_at
maybe_time_found k none p = (tt, p, refl)
maybe_time_found k (more t ts) p = maybe_time_step k t ts (time_at t) p refl

maybe_time_none : (k : ℕ) (ts : Trees) (r : List ℕ) → Parts k r ts → Fronted IsNoLeaf r → maybe_time_at ts ≡ (None, ts)
unfolding maybe_time_at
maybe_time_none k none r p q = refl
maybe_time_none k (more t us) r p (nothing z) = let gone = no_more k (more t us) (subst (λ s. Parts k s (more t us)) z p) in cc
maybe_time_none k (more t us) r p (front e x class tag parted z) =
    let m = first_part k (more t us) e x (subst (λ s. Parts k s (more t us)) z p) class tag in
    let both : ◌≡◌ {A = Tree × Trees} (t, us) (m.tree, m.others) = cc in
    let absent : time_at t ≡ None = ap (λ (y : Tree × Trees). time_at y.0) both ∙ no_time k m.tree e m.object m.in_range m.spelled parted in
    rw absent refl

maybe_time_there_by : (ts : Trees) (t : Tree) (us : Trees) (c : CivilTime) → first_at ts ≡ Some (t, us) → time_at t ≡ Some c → maybe_time_at ts ≡ (Some c, us)
unfolding maybe_time_at
maybe_time_there_by none t us c e is = cc
maybe_time_there_by (more x xs) t us c e is =
    let both : ◌≡◌ {A = Tree × Trees} (x, xs) (t, us) = cc in
    let same : time_at x ≡ Some c = ap (λ (z : Tree × Trees). time_at z.0) both ∙ is in
    rw same (ap (λ (z : Tree × Trees). (Some c, z.1)) both)

maybe_time_there : (ts : Trees) (c : CivilTime) (us : Trees) → next_at time_at ts ≡ Some (c, us) → maybe_time_at ts ≡ (Some c, us)
maybe_time_there ts c us e =
    option_and_then_some _ (first_at ts) (c, us) e (λ first e0 r0.
    option_and_then_some _ (time_at first.0) (c, us) r0 (λ value e1 r1.
    let both : ◌≡◌ {A = CivilTime × Trees} (value, first.1) (c, us) = cc in
    maybe_time_there_by ts first.0 first.1 value e0 e1 ∙ ap (λ (z : CivilTime × Trees). (Some z.0, z.1)) both))

maybe_time_only : (k : ℕ) (ts : Trees) (o : Option CivilTime) (r : List ℕ) → IfThere IsTimeField o → Fronted IsNoLeaf r → Parts k (optional_octets time_octets o ++ r) ts →
    (us : Trees) × (maybe_time_at ts ≡ (o, us)) × Parts k r us
maybe_time_only k ts None r q f p = (ts, maybe_time_none k ts r p f, p)
maybe_time_only k ts (Some c) r q f p =
    let m = next_only times IsTimeField time_laws k ts c r p q in
    (m.0, maybe_time_there ts c m.0 m.1, m.2)

-- a sequence of entries, or none

abbrev entries_of : Option Trees → Tree → Trees → Option (List Entry × Trees)
entries_of o t ts = do
  es ← entries_in_of o
  Some (es, behind_of o t ts)

entries_at : Trees → Option (List Entry × Trees)
entries_at ts = do
  es ← entries_in ts
  Some (es, behind_entries ts)

entries_parts : (ts : Trees) (es : List Entry) (us : Trees) → entries_at ts ≡ Some (es, us) → (entries_in ts ≡ Some es) × (behind_entries ts ≡ us)
unfolding entries_at
entries_parts ts es us e =
    option_and_then_some _ (entries_in ts) (es, us) e (λ fs e0 r0.
    let both : ◌≡◌ {A = List Entry × Trees} (fs, behind_entries ts) (es, us) = cc in
    (e0 ∙ ap (λ (z : List Entry × Trees). Some z.0) both, ap (λ (z : List Entry × Trees). z.1) both))

some_entries_found : (k : ℕ) (ts : Trees) (es : List Entry) → AreObjects k ts → some_entries_at ts ≡ Some es → (es ≢ []) × AllByRecursion AreEntryFields es × (all_octets ts ≡ flat_map entry_octets es)
unfolding some_entries_at
some_entries_found k ts es p e =
    option_and_then_some _ (list_at entry_at ts) es e (λ found e0 r0.
    let test = chosen (nat_lt 0 (length found)) found es r0 in
    let l = list_found entries AreEntryFields entry_laws k ts found p e0 in
    subst (λ z. (z ≢ []) × AllByRecursion AreEntryFields z × (all_octets ts ≡ flat_map entry_octets z)) test.1 (some_if found test.0, l.0, l.1))

some_entries_only : (k : ℕ) (ts : Trees) (es : List Entry) → Parts k (flat_map entry_octets es) ts → es ≢ [] → AllByRecursion AreEntryFields es → some_entries_at ts ≡ Some es
unfolding some_entries_at
some_entries_only k ts es p some q = rw (list_only entries AreEntryFields entry_laws k ts es p q, if_some es some) refl

entries_are : (es : List Entry) → es ≢ [] → entries_octets es ≡ sequence_octets (flat_map entry_octets es)
entries_are [] p = absurd (p refl)
entries_are (x ∷ es) p = refl

entries_step : (k : ℕ) (t : Tree) (ts : Trees) (o : Option Trees) (m : List Entry × Trees) → AreObjects k (more t ts) → sequence_at t ≡ o → entries_of o t ts ≡ Some m →
    AllByRecursion AreEntryFields m.0 × AreObjects k m.1 × (all_octets (more t ts) ≡ entries_octets m.0 ++ all_octets m.1)
entries_step k t ts None m p o e =
    let both : ◌≡◌ {A = List Entry × Trees} ([], more t ts) m = cc in
    subst (λ (z : List Entry × Trees). AllByRecursion AreEntryFields z.0 × AreObjects k z.1 × (all_octets (more t ts) ≡ entries_octets z.0 ++ all_octets z.1)) both (tt, p, refl)
entries_step k t ts (Some parts) m p o e =
    option_and_then_some _ (some_entries_at parts) m e (λ es e0 r0.
    let both : ◌≡◌ {A = List Entry × Trees} (es, ts) m = cc in
    let f = first_found k (more t ts) t ts p refl in
    let s = sequence_found k t parts f.0 o in
    let l = some_entries_found (k - 1) parts es s.1 e0 in
    let is : octets t ≡ entries_octets es = s.0.octets ∙ ap sequence_octets l.2 ∙ sym (entries_are es l.0) in
    subst (λ (z : List Entry × Trees). AllByRecursion AreEntryFields z.0 × AreObjects k z.1 × (all_octets (more t ts) ≡ entries_octets z.0 ++ all_octets z.1)) both (l.1, f.1, ap (λ z. z ++ all_octets ts) is))

entries_found : (k : ℕ) (ts : Trees) (m : List Entry × Trees) → AreObjects k ts → entries_at ts ≡ Some m →
    AllByRecursion AreEntryFields m.0 × AreObjects k m.1 × (all_octets ts ≡ entries_octets m.0 ++ all_octets m.1)
unfolding entries_at entries_in behind_entries
entries_found k none m p e =
    let both : ◌≡◌ {A = List Entry × Trees} ([], none) m = cc in
    subst (λ (z : List Entry × Trees). AllByRecursion AreEntryFields z.0 × AreObjects k z.1 × (all_octets none ≡ entries_octets z.0 ++ all_octets z.1)) both (tt, p, refl)
entries_found k (more t ts) m p e = entries_step k t ts (sequence_at t) m p refl e

-- an element that is not universal is no sequence
no_sequence_by : (k : ℕ) (t : Tree) (e : Element) (o : Option Trees) → IsObject k t → IsElement e → octets t ≡ element_octets e → IsForeign e → sequence_at t ≡ o → o ≡ None
no_sequence_by k t e None p fits is foreign read = refl
no_sequence_by k t e (Some ts) p fits is foreign read =
    let m = sequence_found k t ts p read in
    let same = (one_element_lem e (universal true 16 (all_octets ts)) [] [] fits m.0.in_range (ap (λ z. z ++ []) (sym is ∙ m.0.octets))).0 in
    absurd (foreign (ap (λ (z : Element). z.class) same))

entries_none : (k : ℕ) (ts : Trees) (r : List ℕ) → Parts k r ts → Fronted IsForeign r → entries_at ts ≡ Some ([], ts)
unfolding entries_at entries_in behind_entries
entries_none k none r p q = refl
entries_none k (more t us) r p (nothing z) = let gone = no_more k (more t us) (subst (λ s. Parts k s (more t us)) z p) in cc
entries_none k (more t us) r p (front e x class tag foreign z) =
    let m = first_part k (more t us) e x (subst (λ s. Parts k s (more t us)) z p) class tag in
    let both : ◌≡◌ {A = Tree × Trees} (t, us) (m.tree, m.others) = cc in
    let absent : sequence_at t ≡ None = ap (λ (y : Tree × Trees). sequence_at y.0) both ∙ no_sequence_by k m.tree e (sequence_at m.tree) m.object m.in_range m.spelled foreign refl in
    rw absent refl

entries_there : (ts : Trees) (t : Tree) (us parts : Trees) (es : List Entry) → first_at ts ≡ Some (t, us) → sequence_at t ≡ Some parts → some_entries_at parts ≡ Some es → entries_at ts ≡ Some (es, us)
unfolding entries_at entries_in behind_entries
entries_there none t us parts es e s l = cc
entries_there (more x xs) t us parts es e s l =
    let both : ◌≡◌ {A = Tree × Trees} (x, xs) (t, us) = cc in
    let same : sequence_at x ≡ Some parts = ap (λ (z : Tree × Trees). sequence_at z.0) both ∙ s in
    rw (same, l) (ap (λ (z : Tree × Trees). Some (es, z.1)) both)

entries_only : (k : ℕ) (ts : Trees) (es : List Entry) (r : List ℕ) → AllByRecursion AreEntryFields es → Fronted IsForeign r → Parts k (entries_octets es ++ r) ts →
    (us : Trees) × (entries_at ts ≡ Some (es, us)) × Parts k r us
entries_only k ts [] r q f p = (ts, entries_none k ts r p f, p)
entries_only k ts (a ∷ es) r q f p =
    let m = first_part k ts (universal true 16 (flat_map entry_octets (a ∷ es))) r p (lit< tt) (lit< tt) in
    let s = in_sequence k m.tree (flat_map entry_octets (a ∷ es)) m.object (sym m.spelled) in
    let l = some_entries_only (k - 1) s.0 (a ∷ es) s.2 (λ is. cc) q in
    (m.others, entries_there ts m.tree m.others s.0 (a ∷ es) m.is_first s.1 l, m.rest)

-- the first part

tbs_list_read : (k : ℕ) (t : Tree) (p : TbsListPieces) → IsObject k t → tbs_list_at t ≡ Some p → AreTbsListPieces p × (tbs_list_pieces_octets p ≡ octets t) × IfThere HasSmallContent p.extensions
unfolding tbs_list_at tbs_list_pieces_octets entries_at
tbs_list_read k t p o e =
    option_and_then_some _ (sequence_at t) p e (λ parts e0 r0.
    option_and_then_some _ (list_version_at parts) p r0 (λ version e1 r1.
    option_and_then_some _ (next_at algorithm_at version.1) p r1 (λ signature e2 r2.
    option_and_then_some _ (next_at name_at signature.1) p r2 (λ issuer e3 r3.
    option_and_then_some _ (next_at time_at issuer.1) p r3 (λ this_update e4 r4.
    let next_update = maybe_time_at this_update.1 in
    option_and_then_some _ (entries_in next_update.1) p r4 (λ es e5 r5.
    let listed : List Entry × Trees = (es, behind_entries next_update.1) in
    let extensions = tagged_at 0 listed.1 in
    option_and_then_some _ (end_at extensions.1) p r5 (λ end e6 r6.
    let here : TbsListPieces = record { version = version.0; signature = signature.0; issuer = issuer.0; this_update = this_update.0; next_update = next_update.0; entries = listed.0; extensions = extensions.0 } in
    let same : here ≡ p = cc in
    let m = sequence_found k t parts o e0 in
    let p1 = list_version_found (k - 1) parts version m.1 e1 in
    let p2 = next_found algorithms IsAlgorithm algorithm_laws (k - 1) version.1 signature p1.1 e2 in
    let p3 = next_found names IsName name_laws (k - 1) signature.1 issuer p2.1 e3 in
    let p4 = next_found times IsTimeField time_laws (k - 1) issuer.1 this_update p3.1 e4 in
    let p5 = maybe_time_found (k - 1) this_update.1 p4.1 in
    let p6 = entries_found (k - 1) next_update.1 listed p5.1 (rw e5 refl) in
    let p7 = tagged_found 0 (k - 1) listed.1 p6.1 in
    let last : all_octets listed.1 ≡ optional_octets element_octets extensions.0 ++ [] = p7.2 ∙ ap (λ z. optional_octets element_octets extensions.0 ++ z) (ends extensions.1 end e6) in
    let whole : all_octets parts ≡ concat (optional_octets version_number version.0 ∷ algorithm_octets signature.0 ∷ name_octets issuer.0 ∷ time_octets this_update.0
    ∷ optional_octets time_octets next_update.0 ∷ entries_octets listed.0 ∷ optional_octets element_octets extensions.0 ∷ []) =
    p1.2 ∙ ap (λ z. optional_octets version_number version.0 ++ z) (p2.2
    ∙ ap (λ z. algorithm_octets signature.0 ++ z) (p3.2
    ∙ ap (λ z. name_octets issuer.0 ++ z) (p4.2
    ∙ ap (λ z. time_octets this_update.0 ++ z) (p5.2
    ∙ ap (λ z. optional_octets time_octets next_update.0 ++ z) (p6.2
    ∙ ap (λ z. entries_octets listed.0 ++ z) last))))) in
    let are : AreTbsListPieces here = record { version = p1.0; signature = p2.0; issuer = p3.0; this_update = p4.0; next_update = p5.0; entries = p6.0; extensions = p7.1 } in
    rw (← same) (are, sym (m.0.octets ∙ ap sequence_octets whole), tagged_small 0 (k - 1) listed.1 p6.1))))))))

pub tbs_list_found : (k : ℕ) (t : Tree) (p : TbsListPieces) → IsObject k t → tbs_list_at t ≡ Some p → AreTbsListPieces p × (tbs_list_pieces_octets p ≡ octets t)
tbs_list_found k t p o e = let m = tbs_list_read k t p o e in (m.0, m.1)

-- after an absent part come others, or nothing

fronted_tagged : (Is : Element → Type 0) (o : Option Element) → IfThere (IsTagged 0) o → ((e : Element) → IsTagged 0 e → Is e) → Fronted Is (optional_octets element_octets o ++ [])
fronted_tagged Is None p is = nothing refl
fronted_tagged Is (Some e) p is = front e [] p.any.class p.any.tag (is e p) refl

fronted_entries : (es : List Entry) (r : List ℕ) → Fronted IsNoLeaf r → Fronted IsNoLeaf (entries_octets es ++ r)
fronted_entries [] r p = p
fronted_entries (a ∷ es) r p = front (universal true 16 (flat_map entry_octets (a ∷ es))) r (lit< tt) (lit< tt) (λ class parts. cc) refl

pub tbs_list_only : (k : ℕ) (t : Tree) (p : TbsListPieces) → IsObject k t → AreTbsListPieces p → tbs_list_pieces_octets p ≡ octets t → tbs_list_at t ≡ Some p
unfolding tbs_list_at tbs_list_pieces_octets algorithm_octets
tbs_list_only k t p o q e =
    let x = optional_octets element_octets p.extensions ++ [] in
    let b5 = entries_octets p.entries ++ x in
    let b4 = optional_octets time_octets p.next_update ++ b5 in
    let b3 = time_octets p.this_update ++ b4 in
    let b2 = name_octets p.issuer ++ b3 in
    let algorithm = identifier_octets p.signature.identifier ++ optional_octets element_octets p.signature.parameters in
    let b1 = algorithm_octets p.signature ++ b2 in
    let m = in_sequence k t (optional_octets version_number p.version ++ b1) o e in
    let p1 = list_version_only (k - 1) m.0 p.version (universal true 16 algorithm) b2 q.version (lit< tt) (lit< tt) (λ class parts. cc) m.2 in
    let p2 = next_only algorithms IsAlgorithm algorithm_laws (k - 1) p1.0 p.signature b2 p1.2 q.signature in
    let p3 = next_only names IsName name_laws (k - 1) p2.0 p.issuer b3 p2.2 q.issuer in
    let p4 = next_only times IsTimeField time_laws (k - 1) p3.0 p.this_update b4 p3.2 q.this_update in
    let foreign : Fronted IsForeign x = fronted_tagged IsForeign p.extensions q.extensions (λ e is class. omega (arith, is.class, class)) in
    let parted : Fronted IsNoLeaf x = fronted_tagged IsNoLeaf p.extensions q.extensions (λ e is class parts. omega (arith, is.class, class)) in
    let p5 = maybe_time_only (k - 1) p4.0 p.next_update b5 q.next_update (fronted_entries p.entries x parted) p4.2 in
    let p6 = entries_only (k - 1) p5.0 p.entries x q.entries foreign p5.2 in
    let p7 = tagged_only 0 (k - 1) p6.0 p.extensions [] p6.2 q.extensions (over refl) in
    let split = entries_parts p5.0 p.entries p6.0 p6.1 in
    let end : end_at p7.0 ≡ Some tt = ap end_at (no_more (k - 1) p7.0 p7.2) in
    rw (m.1, p1.1, p2.1, p3.1, p4.1, p5.1, split.0, split.1, p7.1, end) refl

abbrev pub tbs_list_parts : Kind TbsListPieces
tbs_list_parts = record { bytes = tbs_list_pieces_octets; read = tbs_list_at }

tbs_list_element : (p : TbsListPieces) → AreTbsListPieces p → (e : Element) × (e.class < 4) × (e.tag < 2 ^ 32) × (tbs_list_pieces_octets p ≡ element_octets e)
unfolding tbs_list_pieces_octets
tbs_list_element p q = (
  universal true 16 (concat (optional_octets version_number p.version ∷ algorithm_octets p.signature ∷ name_octets p.issuer ∷ time_octets p.this_update
      ∷ optional_octets time_octets p.next_update ∷ entries_octets p.entries ∷ optional_octets element_octets p.extensions ∷ [])),
  lit< tt,
  lit< tt,
  refl,
)

pub tbs_list_laws : IsKind TbsListPieces tbs_list_parts AreTbsListPieces
tbs_list_laws = record { element = tbs_list_element; found = tbs_list_found; only = tbs_list_only }

pub list_extensions_small : (k : ℕ) (t : Tree) (s : Signed TbsListPieces) → IsObject k t → signed_at tbs_list_at t ≡ Some s → IfThere HasSmallContent s.signed.extensions
list_extensions_small k t s o e = let m = signed_part tbs_list_at k t s o e in (tbs_list_read (k - 1) m.0 s.signed m.1 m.2).2
