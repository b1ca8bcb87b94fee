-- Extensions in range are DER objects, and few octets spell one list of them.
use Rattle.std.proofs.Common.{◌≡◌, ◌∙◌, sym, ap, refl, ℕ, ◌-◌, ◌^◌, ◌<◌, ◌≤◌, List, [], ◌∷◌, ◌++◌, Bool, true, false, length, arith, length-append, lit<, subst, append_assoc}
use Rattle.std.specs.List.{flat_map}
use Rattle.std.proofs.lemmas.List.{append-nil}
use Rattle.asn1_core.specs.Elements.{Element, head_of_element, element_octets}
use Rattle.asn1_core.specs.Strict.{strict_header}
use Rattle.der_tree.specs.Table.{octet_string}
use Rattle.der_tree.specs.Object.{IsCut}
use Rattle.der_tree.specs.Tree.{Leaf, boolean, oid, plain, Tree, node, leaf, sequence, Trees, none, more, octets, all_octets}
use Rattle.der_tree.specs.Shape.{BeginsWithObject, Holds, IsObject, IsContent, AreObjects}
use Rattle.der_tree.specs.Access.{universal}
use Rattle.der_tree.proofs.Objects.{object_made, object_once, leaf_content}
use Rattle.cert_model.specs.Fields.{Extension}
use Rattle.cert_model.specs.Octets.{primitive_octets, sequence_octets, identifier_octets, flag_octets, extension_octets, extensions_octets}
use Rattle.cert_model.specs.Range.{IsExtension, AreExtensions}
use Rattle.cert_model.specs.Assembly.{AreExtensionsOf}
use Rattle.cert_model.proofs.Extensions.{extensions_only}

-- no more content octets than an object may have
abbrev pub IsSmall : List ℕ → Type 0
IsSmall s = length s ≤ 4_294_967_295

part_small : (before part after s : List ℕ) → s ≡ before ++ (part ++ after) → IsSmall s → IsSmall part
part_small before part after s is small = omega (arith, ap length is, length-append before (part ++ after), length-append part after, small)

element_cut : (e : Element) → e.class < 4 → e.tag < 2 ^ 32 → IsSmall (element_octets e) → IsCut (element_octets e) e
element_cut e class tag small =
    let content : IsSmall e.content = omega (arith, length-append (strict_header (head_of_element e)) e.content, small) in
    record { in_range = record { class = class; tag = tag; size = omega (arith, content) }; size = content; octets = refl }

leaf_object : (k : ℕ) (e : Element) (v : Leaf) → 0 < k → IsCut (element_octets e) e → Holds e v → IsObject k (node (head_of_element e) (element_octets e) (leaf v))
leaf_object k e v pos cut holds = object_made k e (element_octets e) (leaf v) pos cut (leaf_content (k - 1) e (leaf v) holds)

sequence_content : (k : ℕ) (s : List ℕ) (ts : Trees) → s ≡ all_octets ts → AreObjects k ts → IsContent k (universal true 16 s) (sequence ts)
unfolding IsContent
sequence_content k s ts is p = (record { class = refl; constructed = refl; tag = refl }, is, p)

sequence_object : (k : ℕ) (s : List ℕ) (ts : Trees) → 0 < k → IsSmall (sequence_octets s) → s ≡ all_octets ts → AreObjects (k - 1) ts →
    IsObject k (node (head_of_element (universal true 16 s)) (sequence_octets s) (sequence ts))
sequence_object k s ts pos small is p =
    object_made k (universal true 16 s) (sequence_octets s) (sequence ts) pos (element_cut (universal true 16 s) (lit< tt) (lit< tt) small) (sequence_content (k - 1) s ts is p)

one_object : (k : ℕ) (t : Tree) → IsObject k t → AreObjects k (more t none)
unfolding AreObjects
one_object k t p = (p, tt)

more_objects : (k : ℕ) (t : Tree) (ts : Trees) → IsObject k t → AreObjects k ts → AreObjects k (more t ts)
unfolding AreObjects
more_objects k t ts p q = (p, q)

-- trees of these octets
pub record HasTrees (k : ℕ) (s : List ℕ) : Type 0 where
  pub trees : Trees
  pub objects : AreObjects k trees
  pub spelled : all_octets trees ≡ s

value_trees : (k : ℕ) (v : List ℕ) → 0 < k → IsSmall (primitive_octets 4 v) → HasTrees k (primitive_octets 4 v ++ [])
value_trees k v pos small =
    let cut = element_cut (universal false 4 v) (lit< tt) (lit< tt) small in
    let t = leaf_object k (universal false 4 v) (plain octet_string v) pos cut (record { class = refl; constructed = refl; tag = refl }, refl, tt) in
    record { trees = more (node (head_of_element (universal false 4 v)) (primitive_octets 4 v) (leaf (plain octet_string v))) none; objects = one_object k _ t; spelled = refl }

critical_trees : (k : ℕ) (b : Bool) (r : List ℕ) → 0 < k → IsSmall (flag_octets b) → HasTrees k r → HasTrees k (flag_octets b ++ r)
critical_trees k false r pos small p = p
critical_trees k true r pos small p =
    let e = universal false 1 (255 ∷ []) in
    let cut = element_cut e (lit< tt) (lit< tt) small in
    let t = leaf_object k e (boolean true) pos cut (record { class = refl; constructed = refl; tag = refl }, refl) in
    record { trees = more (node (head_of_element e) (element_octets e) (leaf (boolean true))) p.trees; objects = more_objects k _ p.trees t p.objects; spelled = ap (λ z. element_octets e ++ z) p.spelled }

identifier_trees : (k : ℕ) (a : Extension) (r : List ℕ) → 0 < k → IsExtension a → IsSmall (identifier_octets a.identifier) → HasTrees k r → HasTrees k (identifier_octets a.identifier ++ r)
identifier_trees k a r pos is small p =
    let e = universal false 6 a.identifier in
    let cut = element_cut e (lit< tt) (lit< tt) small in
    let t = leaf_object k e (oid a.identifier) pos cut (record { class = refl; constructed = refl; tag = refl }, refl, is) in
    record { trees = more (node (head_of_element e) (element_octets e) (leaf (oid a.identifier))) p.trees; objects = more_objects k _ p.trees t p.objects; spelled = ap (λ z. element_octets e ++ z) p.spelled }

-- a tree of these octets
pub record HasObject (k : ℕ) (s : List ℕ) : Type 0 where
  pub tree : Tree
  pub object : IsObject k tree
  pub spelled : octets tree ≡ s

extension_object : (a : Extension) → IsExtension a → IsSmall (extension_octets a) → HasObject 49 (extension_octets a)
unfolding extension_octets
extension_object a is small =
    let value = primitive_octets 4 a.value ++ [] in
    let rest = flag_octets a.critical ++ value in
    let s = identifier_octets a.identifier ++ rest in
    let inner : IsSmall s = part_small (strict_header (head_of_element (universal true 16 s))) s [] (sequence_octets s) (ap (λ z. strict_header (head_of_element (universal true 16 s)) ++ z) (sym (append-nil s))) small in
    let v = value_trees 48 a.value (lit< tt) (part_small (identifier_octets a.identifier ++ flag_octets a.critical) (primitive_octets 4 a.value) [] s (sym (append_assoc (identifier_octets a.identifier) (flag_octets a.critical) value)) inner) in
    let c = critical_trees 48 a.critical value (lit< tt) (part_small (identifier_octets a.identifier) (flag_octets a.critical) value s refl inner) v in
    let i = identifier_trees 48 a rest (lit< tt) is (part_small [] (identifier_octets a.identifier) rest s refl inner) c in
    let t = sequence_object 49 s i.trees (lit< tt) small (sym i.spelled) i.objects in
    record { tree = node (head_of_element (universal true 16 s)) (sequence_octets s) (sequence i.trees); object = t; spelled = refl }

extension_trees : (es : List Extension) → AreExtensions es → IsSmall (flat_map extension_octets es) → HasTrees 49 (flat_map extension_octets es)
unfolding AreObjects
extension_trees [] p small = record { trees = none; objects = tt; spelled = refl }
extension_trees (a ∷ es) p small =
    let first = extension_object a p.0 (part_small [] (extension_octets a) (flat_map extension_octets es) (flat_map extension_octets (a ∷ es)) refl small) in
    let rest = extension_trees es p.1 (omega (arith, length-append (extension_octets a) (flat_map extension_octets es), small)) in
    record { trees = more first.tree rest.trees; objects = (first.object, rest.objects); spelled = ap (λ z. z ++ all_octets rest.trees) first.spelled ∙ ap (λ z. extension_octets a ++ z) rest.spelled }

-- octets of extensions are an object, if they are not too many
pub extensions_object : (s : List ℕ) (es : List Extension) → IsSmall s → AreExtensionsOf s es → HasObject 50 s
unfolding extensions_octets
extensions_object s es small p =
    let content = flat_map extension_octets es in
    let whole : IsSmall (sequence_octets content) = subst IsSmall (sym p.spelled) small in
    let inner : IsSmall content = part_small (strict_header (head_of_element (universal true 16 content))) content [] (sequence_octets content) (ap (λ z. strict_header (head_of_element (universal true 16 content)) ++ z) (sym (append-nil content))) whole in
    let parts = extension_trees es p.in_range inner in
    let t = sequence_object 50 content parts.trees (lit< tt) whole (sym parts.spelled) parts.objects in
    record { tree = node (head_of_element (universal true 16 content)) (sequence_octets content) (sequence parts.trees); object = t; spelled = p.spelled }

-- and spell one list of them
pub extensions_once : (s : List ℕ) (es fs : List Extension) → IsSmall s → AreExtensionsOf s es → AreExtensionsOf s fs → es ≡ fs
extensions_once s es fs small p q =
    let o = extensions_object s es small p in
    let first = extensions_only 50 o.tree es o.object (subst (λ z. AreExtensionsOf z es) (sym o.spelled) p) in
    let second = extensions_only 50 o.tree fs o.object (subst (λ z. AreExtensionsOf z fs) (sym o.spelled) q) in
    cc

-- if no object begins the octets, they spell no extensions
pub no_object : (s : List ℕ) → IsSmall s → (BeginsWithObject 50 s → ⊥) → (es : List Extension) → AreExtensionsOf s es → ⊥
no_object s small refused es p =
    let o = extensions_object s es small p in
    refused (o.tree, [], o.object, sym o.spelled ∙ sym (append-nil (octets o.tree)))

-- if more octets follow an object, they spell no extensions
pub object_with_rest : (s rest : List ℕ) (t : Tree) → IsSmall s → IsObject 50 t → s ≡ octets t ++ rest → 0 < length rest → (es : List Extension) → AreExtensionsOf s es → ⊥
object_with_rest s rest t small q is long es p =
    let o = extensions_object s es small p in
    let same = object_once 50 50 o.tree t [] rest o.object q (append-nil (octets o.tree) ∙ o.spelled ∙ is) in
    omega (arith, ap length same.1, long)

-- if one object is all of the octets, they spell what is read of it
pub object_read : (s rest : List ℕ) (t : Tree) → IsSmall s → IsObject 50 t → s ≡ octets t ++ rest → length rest ≡ 0 → (octets t ≡ s)
object_read s [] t small q is short = sym (is ∙ append-nil (octets t))
object_read s (x ∷ rest) t small q is short = absurd (omega (arith, short))
