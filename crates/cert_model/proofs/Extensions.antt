-- Extensions: what is read of a tree is what its octets spell.
use Rattle.std.proofs.Common.{◌≡◌, ◌∙◌, sym, ap, refl, ℕ, ◌-◌, ◌^◌, ◌<◌, List, [], ◌∷◌, ◌++◌, Bool, true, false, length, Option, Some, None, nat_lt, lit<, subst}
use Rattle.std.specs.List.{flat_map, concat}
use Rattle.std.proofs.lemmas.Option.{option_and_then_some}
use Rattle.asn1_core.specs.Elements.{Element, element_octets}
use Rattle.der_tree.specs.Table.{octet_string}
use Rattle.der_tree.specs.Tree.{end_of_content, boolean, bit_string, null, oid, enumerated, plain, raw, Tree, Content, leaf, sequence, set, Trees, none, more, octets, all_octets}
use Rattle.der_tree.specs.Shape.{IsObject, AreObjects}
use Rattle.der_tree.specs.Access.{sequence_at, boolean_at, boolean_of, plain_at, plain_of, content_in, first_at, end_at, universal}
use Rattle.der_tree.proofs.Shapes.{sequence_found, plain_only, plain_found, boolean_only, boolean_found, first_found, end_found}
use Rattle.cert_model.specs.Fields.{Extension}
use Rattle.cert_model.specs.Octets.{primitive_octets, sequence_octets, identifier_octets, flag_octets, extension_octets, extensions_octets}
use Rattle.cert_model.specs.Range.{IsExtension}
use Rattle.cert_model.specs.Assembly.{AreExtensionsOf}
use Rattle.cert_model.specs.Reads.{identifier_at, critical_of, critical_at, extension_at, extensions_at, list_at}
use Rattle.cert_model.proofs.Algorithms.{identifier_found, identifier_only}
use Rattle.cert_model.proofs.Cases.{chosen, some_if, if_some}
use Rattle.cert_model.proofs.Steps.{Parts, in_sequence, first_part, no_more}
use Rattle.cert_model.proofs.Lists.{Kind, IsKind, list_found, list_only}

-- critical or not

critical_step : (k : ℕ) (t : Tree) (ts : Trees) (o : Option Bool) (b : Bool) (us : Trees) → AreObjects k (more t ts) → boolean_at t ≡ o → critical_of o t ts ≡ Some (b, us) →
    AreObjects k us × (all_octets (more t ts) ≡ flag_octets b ++ all_octets us)
critical_step k t ts None b us p o e =
    let both : ◌≡◌ {A = Bool × Trees} (false, more t ts) (b, us) = cc in
    let flag : false ≡ b = ap (λ (z : Bool × Trees). z.0) both in
    let rest : more t ts ≡ us = ap (λ (z : Bool × Trees). z.1) both in
    (subst (AreObjects k) rest p, ap (λ z. flag_octets z ++ all_octets (more t ts)) flag ∙ ap (λ z. flag_octets b ++ all_octets z) rest)
critical_step k t ts (Some false) b us p o e = cc
critical_step k t ts (Some true) b us p o e =
    let both : ◌≡◌ {A = Bool × Trees} (true, ts) (b, us) = cc in
    let flag : true ≡ b = ap (λ (z : Bool × Trees). z.0) both in
    let rest : ts ≡ us = ap (λ (z : Bool × Trees). z.1) both in
    let m = first_found k (more t ts) t ts p refl in
    let is : octets t ≡ flag_octets true = (boolean_found k t true m.0 o).octets in
    (subst (AreObjects k) rest m.1, ap (λ z. z ++ all_octets ts) is ∙ ap (λ z. flag_octets z ++ all_octets ts) flag ∙ ap (λ z. flag_octets b ++ all_octets z) rest)

critical_found : (k : ℕ) (ts : Trees) (b : Bool) (us : Trees) → AreObjects k ts → critical_at ts ≡ Some (b, us) → AreObjects k us × (all_octets ts ≡ flag_octets b ++ all_octets us)
unfolding critical_at
critical_found k none b us p e =
    let both : ◌≡◌ {A = Bool × Trees} (false, none) (b, us) = cc in
    let flag : false ≡ b = ap (λ (z : Bool × Trees). z.0) both in
    let rest : none ≡ us = ap (λ (z : Bool × Trees). z.1) both in
    (subst (AreObjects k) rest p, ap (λ z. flag_octets z ++ all_octets none) flag ∙ ap (λ z. flag_octets b ++ all_octets z) rest)
critical_found k (more t ts) b us p e = critical_step k t ts (boolean_at t) b us p refl e

-- octets are no truth value
not_boolean : (c : Content) (v : List ℕ) → plain_of octet_string c ≡ Some v → boolean_of c ≡ None
not_boolean (leaf end_of_content) v e = refl
not_boolean (leaf (boolean b)) v e = cc
not_boolean (leaf (bit_string n s)) v e = refl
not_boolean (leaf null) v e = refl
not_boolean (leaf (oid s)) v e = refl
not_boolean (leaf (enumerated n)) v e = refl
not_boolean (leaf (plain j s)) v e = refl
not_boolean (leaf (raw f)) v e = refl
not_boolean (sequence ts) v e = refl
not_boolean (set ts) v e = refl

critical_absent : (ts : Trees) (t : Tree) (us : Trees) → first_at ts ≡ Some (t, us) → boolean_at t ≡ None → critical_at ts ≡ Some (false, ts)
unfolding critical_at
critical_absent none t us e n = refl
critical_absent (more x xs) t us e n =
    let both : ◌≡◌ {A = Tree × Trees} (x, xs) (t, us) = cc in
    let same : boolean_at x ≡ None = ap (λ (z : Tree × Trees). boolean_at z.0) both ∙ n in
    rw same refl

critical_there : (ts : Trees) (t : Tree) (us : Trees) → first_at ts ≡ Some (t, us) → boolean_at t ≡ Some true → critical_at ts ≡ Some (true, us)
unfolding critical_at
critical_there none t us e n = cc
critical_there (more x xs) t us e n =
    let both : ◌≡◌ {A = Tree × Trees} (x, xs) (t, us) = cc in
    let same : boolean_at x ≡ Some true = ap (λ (z : Tree × Trees). boolean_at z.0) both ∙ n in
    rw same (ap (λ (z : Tree × Trees). Some (true, z.1)) both)

critical_only : (k : ℕ) (ts : Trees) (b : Bool) (v r : List ℕ) → Parts k (flag_octets b ++ (primitive_octets 4 v ++ r)) ts →
    (us : Trees) × (critical_at ts ≡ Some (b, us)) × Parts k (primitive_octets 4 v ++ r) us
critical_only k ts false v r p =
    let m = first_part k ts (universal false 4 v) r p (lit< tt) (lit< tt) in
    let o = plain_only k m.tree octet_string v m.object m.in_range m.spelled in
    (ts, critical_absent ts m.tree m.others m.is_first (not_boolean (content_in m.tree) v o.0), p)
critical_only k ts true v r p =
    let m = first_part k ts (universal false 1 (255 ∷ [])) (primitive_octets 4 v ++ r) p (lit< tt) (lit< tt) in
    let o = boolean_only k m.tree true m.object m.in_range m.spelled in
    (m.others, critical_there ts m.tree m.others m.is_first o, m.rest)

-- one extension

pub extension_found : (k : ℕ) (t : Tree) (a : Extension) → IsObject k t → extension_at t ≡ Some a → IsExtension a × (extension_octets a ≡ octets t)
unfolding extension_at extension_octets
extension_found k t a p e =
    option_and_then_some _ (sequence_at t) a e (λ parts e0 r0.
    option_and_then_some _ (first_at parts) a r0 (λ first e1 r1.
    option_and_then_some _ (identifier_at first.0) a r1 (λ identifier e2 r2.
    option_and_then_some _ (critical_at first.1) a r2 (λ critical e3 r3.
    option_and_then_some _ (first_at critical.1) a r3 (λ last e4 r4.
    option_and_then_some _ (plain_at octet_string last.0) a r4 (λ value e5 r5.
    option_and_then_some _ (end_at last.1) a r5 (λ end e6 r6.
    let same : ◌≡◌ {A = Extension} (record { identifier = identifier; critical = critical.0; value = value }) a = cc in
    let m = sequence_found k t parts p e0 in
    let n = first_found (k - 1) parts first.0 first.1 m.1 e1 in
    let o = identifier_found (k - 1) first.0 identifier n.0 e2 in
    let c = critical_found (k - 1) first.1 critical.0 critical.1 n.1 e3 in
    let l = first_found (k - 1) critical.1 last.0 last.1 c.0 e4 in
    let v = plain_found (k - 1) last.0 octet_string value l.0 e5 in
    let tail : all_octets critical.1 ≡ primitive_octets 4 value ++ [] = l.2 ∙ ap (λ z. octets last.0 ++ z) (end_found last.1 e6).1 ∙ ap (λ z. z ++ []) v.0.octets in
    let whole : all_octets parts ≡ concat (identifier_octets identifier ∷ flag_octets critical.0 ∷ primitive_octets 4 value ∷ []) =
    n.2 ∙ ap (λ z. z ++ all_octets first.1) o.0.octets ∙ ap (λ z. identifier_octets identifier ++ z) (c.1 ∙ ap (λ z. flag_octets critical.0 ++ z) tail) in
    rw (← same) (o.1, sym (m.0.octets ∙ ap sequence_octets whole)))))))))

pub extension_only : (k : ℕ) (t : Tree) (a : Extension) → IsObject k t → IsExtension a → extension_octets a ≡ octets t → extension_at t ≡ Some a
unfolding extension_at extension_octets
extension_only k t a p q e =
    let m = in_sequence k t (concat (identifier_octets a.identifier ∷ flag_octets a.critical ∷ primitive_octets 4 a.value ∷ [])) p e in
    let n = first_part (k - 1) m.0 (universal false 6 a.identifier) (flag_octets a.critical ++ (primitive_octets 4 a.value ++ [])) m.2 (lit< tt) (lit< tt) in
    let o = identifier_only (k - 1) n.tree a.identifier n.object n.in_range n.spelled in
    let c = critical_only (k - 1) n.others a.critical a.value [] n.rest in
    let l = first_part (k - 1) c.0 (universal false 4 a.value) [] c.2 (lit< tt) (lit< tt) in
    let v = plain_only (k - 1) l.tree octet_string a.value l.object l.in_range l.spelled in
    let over : end_at l.others ≡ Some tt = ap end_at (no_more (k - 1) l.others l.rest) in
    rw (m.1, n.is_first, o.0, c.1, l.is_first, v.0, over) refl

-- several

abbrev pub extensions : Kind Extension
extensions = record { bytes = extension_octets; read = extension_at }

extension_element : (a : Extension) → IsExtension a → (e : Element) × (e.class < 4) × (e.tag < 2 ^ 32) × (extension_octets a ≡ element_octets e)
unfolding extension_octets
extension_element a p = (universal true 16 (concat (identifier_octets a.identifier ∷ flag_octets a.critical ∷ primitive_octets 4 a.value ∷ [])), lit< tt, lit< tt, refl)

pub extension_laws : IsKind Extension extensions IsExtension
extension_laws = record { element = extension_element; found = extension_found; only = extension_only }

pub extensions_found : (k : ℕ) (t : Tree) (es : List Extension) → IsObject k t → extensions_at t ≡ Some es → AreExtensionsOf (octets t) es
unfolding extensions_at extensions_octets
extensions_found k t es p e =
    option_and_then_some _ (sequence_at t) es e (λ parts e0 r0.
    option_and_then_some _ (list_at extension_at parts) es r0 (λ found e1 r1.
    let test = chosen (nat_lt 0 (length found)) found es r1 in
    let m = sequence_found k t parts p e0 in
    let l = list_found extensions IsExtension extension_laws (k - 1) parts found m.1 e1 in
    let is : AreExtensionsOf (octets t) found = record { some = some_if found test.0; in_range = l.0; spelled = ap sequence_octets (sym l.1) ∙ sym m.0.octets } in
    subst (AreExtensionsOf (octets t)) test.1 is))

pub extensions_only : (k : ℕ) (t : Tree) (es : List Extension) → IsObject k t → AreExtensionsOf (octets t) es → extensions_at t ≡ Some es
unfolding extensions_at extensions_octets
extensions_only k t es p q =
    let m = in_sequence k t (flat_map extension_octets es) p q.spelled in
    let l : list_at extension_at m.0 ≡ Some es = list_only extensions IsExtension extension_laws (k - 1) m.0 es m.2 q.in_range in
    rw (m.1, l, if_some es q.some) refl
