-- What is read off octets as windows is what the trees of objects hold.
use Rattle.std.proofs.Common.{◌≡◌, ◌∙◌, sym, ap, refl, subst, ℕ, zero, suc, ◌-◌, ◌<◌, ◌≤◌, ◌==◌, ◌&&◌, not, nat_lt, Bool, true, false, if◌then◌else◌, Option, Some, None, Ok, Err, List, [], ◌∷◌, ◌++◌, length, take, drop, arith, length-append, length-drop, lt-ltb, le-ltb, append_assoc}
use Rattle.std.proofs.lemmas.Bool.{eqb-true, eq-eqb}
use Rattle.std.proofs.lemmas.Bool.Decides.{nat_tests}
use Rattle.std.proofs.lemmas.List.{length-take-le, append-nil, take-append-drop}
use Rattle.std.proofs.Math.Seq.{take-append_seam, drop-append_seam}
use Rattle.asn1_core.specs.Answers.{Answer}
use Rattle.asn1_core.specs.declared.error.Error.{Error}
use Rattle.asn1_core.specs.declared.outcome.Err.{Err as Refusal}
use Rattle.asn1_core.specs.Elements.{Element, head_of_element, element_octets}
use Rattle.asn1_core.specs.Reading.{strict_at, identity_at}
use Rattle.asn1_core.specs.Strict.{Head, strict_header}
use Rattle.asn1_core.proofs.StrictLaws.{strict_again}
use Rattle.der_tree.specs.Table.{IsConstructed}
use Rattle.der_tree.specs.Object.{IsCut, IsDerObject}
use Rattle.der_tree.specs.Tree.{Leaf, Tree, node, Content, leaf, sequence, set, Trees, none, more, octets, all_octets}
use Rattle.der_tree.specs.Shape.{Holds, IsObject, IsContent, AreObjects}
use Rattle.der_tree.specs.Access.{first_at, end_at}
use Rattle.der_tree.proofs.Cuts.{header_long, cut_front, element_of}
use Rattle.der_tree.proofs.Objects.{no_leaf}
use Rattle.der_tree.proofs.OneTree.{held_is}
use Rattle.der_tree.proofs.Leveled.{object_to}
use Rattle.certcheck.specs.Windows.{element_after, part_of, part_in, is_universal, is_constructed, leaf_at, held, tree_with, trees_with, trees_by, trees_in, tree_of}

-- an element that begins octets is shorter than they are, and so are the octets after it

abbrev IsShorter : ℕ → Option (Element × List ℕ) → Type 0
IsShorter size None = Unit {0}
IsShorter size (Some p) = (length p.0.content < size) × (length p.1 < size)

after_by : (few fits : Bool) (size : ℕ) (h : Head) (after : List ℕ) → nat_lt (length after) size ≡ few → nat_lt (length after) h.size ≡ fits →
    IsShorter size (if few && not fits then Some (record { class = h.class; constructed = h.constructed; tag = h.tag; content = take h.size after }, drop h.size after) else None)
after_by false fits size h after e f = tt
after_by true true size h after e f = tt
after_by true false size h after e f =
    let less : length after < size = grind (arith, nat_tests) in
    let fit : h.size ≤ length after = grind (arith, nat_tests) in
    (omega (arith, length-take-le h.size after fit), omega (arith, length-drop h.size after))

shorter_by : (size : ℕ) (read : Answer Head) → IsShorter size (part_of size read)
shorter_by size (Ok p) = after_by (nat_lt (length p.1) size) (nat_lt (length p.1) p.0.size) size p.0 p.1 refl refl
shorter_by size (Err e) = tt

part_shorter : (s : List ℕ) → IsShorter (length s) (part_in s)
unfolding part_in
part_shorter s = shorter_by (length s) (strict_at s)

-- no element begins no octets

no_part : part_in [] ≡ None
unfolding part_in strict_at identity_at
no_part = refl

none_by : (n : ℕ) → trees_by n [] ≡ none
unfolding trees_by
none_by zero = refl
none_by (suc n) = ap (trees_with (trees_by n)) no_part

-- as many steps as there are octets are enough

alike : (size : ℕ) (go by : List ℕ → Trees) (found : Option (Element × List ℕ)) → ((s : List ℕ) → length s < size → go s ≡ by s) → IsShorter size found →
    trees_with go found ≡ trees_with by found
alike size go by None same short = refl
alike size go by (Some p) same short =
    ap (λ ts. more (tree_with ts p.0) (go p.1)) (same p.0.content short.0) ∙ ap (λ ts. more (tree_with (by p.0.content) p.0) ts) (same p.1 short.1)

empty_by : (n m : ℕ) (s : List ℕ) → length s ≤ 0 → trees_by n s ≡ trees_by m s
empty_by n m [] le = none_by n ∙ sym (none_by m)
empty_by n m (x ∷ s) le = absurd (omega arith)

enough : (n m : ℕ) (s : List ℕ) → length s ≤ n → length s ≤ m → trees_by n s ≡ trees_by m s
unfolding trees_by
enough zero m s a b = empty_by zero m s a
enough (suc n) zero s a b = empty_by (suc n) zero s b
enough (suc n) (suc m) s a b = alike (length s) (trees_by n) (trees_by m) (part_in s) (λ u less. enough n m u (omega arith) (omega arith)) (part_shorter s)

enough_in : (n : ℕ) (s : List ℕ) → length s ≤ n → trees_by n s ≡ trees_in s
unfolding trees_in
enough_in n s le = enough n (length s) s le (omega arith)

-- the trees of octets, by the element that begins them

pub none_in : (s : List ℕ) → part_in s ≡ None → trees_in s ≡ none
unfolding trees_in trees_by
none_in [] e = refl
none_in (x ∷ s) e = ap (trees_with (trees_by (length s))) e

some_by : (n : ℕ) (s : List ℕ) (e : Element) (rest : List ℕ) → length s ≤ suc n → part_in s ≡ Some (e, rest) → trees_by (suc n) s ≡ more (tree_of e) (trees_in rest)
unfolding trees_by tree_of
some_by n s e rest le found =
    let short : IsShorter (length s) (Some (e, rest)) = subst (IsShorter (length s)) found (part_shorter s) in
    ap (trees_with (trees_by n)) found
    ∙ ap (λ ts. more (tree_with ts e) (trees_by n rest)) (enough_in n e.content (omega (arith, short.0)))
    ∙ ap (λ ts. more (tree_with (trees_in e.content) e) ts) (enough_in n rest (omega (arith, short.1)))

pub some_in : (s : List ℕ) (e : Element) (rest : List ℕ) → part_in s ≡ Some (e, rest) → trees_in s ≡ more (tree_of e) (trees_in rest)
some_in s e rest found = sym (enough_in (suc (length s)) s (omega arith)) ∙ some_by (length s) s e rest (omega arith) found

-- an element begins the octets that begin with its own

again_by : (size : ℕ) (e : Element) (rest : List ℕ) → length (e.content ++ rest) < size → element_after size (head_of_element e) (e.content ++ rest) ≡ Some (e, rest)
again_by size e rest few =
    let first : nat_lt (length (e.content ++ rest)) size ≡ true = lt-ltb (length (e.content ++ rest)) size few in
    let second : nat_lt (length (e.content ++ rest)) (length e.content) ≡ false = le-ltb (length (e.content ++ rest)) (length e.content) (omega (arith, length-append e.content rest)) in
    rw (first, second, take-append_seam e.content rest, drop-append_seam e.content rest) refl

pub part_again : (s rest : List ℕ) (e : Element) → IsCut s e → part_in (s ++ rest) ≡ Some (e, rest)
unfolding part_in
part_again s rest e p =
    let h = head_of_element e in
    let front = cut_front (s ++ rest) s rest e p refl in
    let read : strict_at (s ++ rest) ≡ Ok (h, e.content ++ rest) = ap strict_at front ∙ strict_again h (e.content ++ rest) p.in_range in
    ap (part_of (length (s ++ rest))) read
    ∙ again_by (length (s ++ rest)) e rest (omega (arith, ap length front, length-append (strict_header h) (e.content ++ rest), header_long h))

-- what an element holds

all_true : (a b c : Bool) → (a && (b && c)) ≡ true → (a ≡ true) × (b ≡ true) × (c ≡ true)
all_true true true true e = (refl, refl, refl)
all_true true true false e = cc
all_true true false c e = cc
all_true false b c e = cc

pub both_true : (b c : Bool) → (b && c) ≡ true → (b ≡ true) × (c ≡ true)
both_true true true e = (refl, refl)
both_true true false e = cc
both_true false c e = cc

constructed_from : (n : ℕ) (e : Element) → is_constructed n e ≡ true → IsConstructed e n
constructed_from n e test =
    let all = all_true e.constructed (e.class == 0) (e.tag == n) test in
    record { class = eqb-true e.class 0 all.1; constructed = all.0; tag = eqb-true e.tag n all.2 }

constructed_test : (n : ℕ) (e : Element) → IsConstructed e n → is_constructed n e ≡ true
constructed_test n e p =
    ap (λ c. c && is_universal n e) p.constructed ∙ ap (λ b. b && (e.tag == n)) (eq-eqb e.class 0 p.class) ∙ eq-eqb e.tag n p.tag

other_test : (b : Bool) (n m : ℕ) (e : Element) → is_constructed n e ≡ b → e.tag ≡ m → (m == n) ≡ false → b ≡ false
other_test true n m e test tag other =
    let same : (m == n) ≡ true = eq-eqb m n (sym tag ∙ (constructed_from n e test).tag) in
    cc
other_test false n m e test tag other = refl

pub not_constructed : (n m : ℕ) (e : Element) → e.tag ≡ m → (m == n) ≡ false → is_constructed n e ≡ false
not_constructed n m e tag other = other_test (is_constructed n e) n m e refl tag other

leaf_by : (a b : Bool) (ts : Trees) (e : Element) (v : Leaf) → is_constructed 16 e ≡ a → is_constructed 17 e ≡ b → Holds e v →
    (if a then sequence ts else if b then set ts else leaf (leaf_at e)) ≡ leaf v
leaf_by true b ts e v x y q = absurd (no_leaf 16 e v refl (constructed_from 16 e x) q)
leaf_by false true ts e v x y q = absurd (no_leaf 17 e v refl (constructed_from 17 e y) q)
leaf_by false false ts e v x y q = ap leaf (held_is e v q)

held_sequence : (ts : Trees) (e : Element) → IsConstructed e 16 → held ts e ≡ sequence ts
held_sequence ts e p = ap (λ a. if a then sequence ts else if is_constructed 17 e then set ts else leaf (leaf_at e)) (constructed_test 16 e p)

held_set : (ts : Trees) (e : Element) → IsConstructed e 17 → held ts e ≡ set ts
held_set ts e p =
    ap (λ a. if a then sequence ts else if is_constructed 17 e then set ts else leaf (leaf_at e)) (not_constructed 16 17 e p.tag refl)
    ∙ ap (λ b. if b then set ts else leaf (leaf_at e)) (constructed_test 17 e p)

-- the trees of objects are read off their octets

mutual
  unfolding IsObject IsContent AreObjects tree_of

  pub object_again : (t : Tree) (k : ℕ) → IsObject k t → (e : Element) × IsCut (octets t) e × (tree_of e ≡ t)
  object_again (node h s c) k p =
      let e = p.1 in
      let content : held (trees_in e.content) e ≡ c = content_again c (k - 1) e p.4 in
      (e, p.3, ap (λ z. node z (element_octets e) (held (trees_in e.content) e)) (sym p.2) ∙ ap (λ z. node h z (held (trees_in e.content) e)) (sym p.3.octets) ∙ ap (node h s) content)

  content_again : (c : Content) (k : ℕ) (e : Element) → IsContent k e c → held (trees_in e.content) e ≡ c
  content_again (leaf v) k e q = leaf_by (is_constructed 16 e) (is_constructed 17 e) (trees_in e.content) e v refl refl q
  content_again (sequence ts) k e q = held_sequence (trees_in e.content) e q.0 ∙ ap (λ s. sequence (trees_in s)) q.1 ∙ ap sequence (trees_again ts k q.2)
  content_again (set ts) k e q = held_set (trees_in e.content) e q.0 ∙ ap (λ s. set (trees_in s)) q.1 ∙ ap set (trees_again ts k q.2)

  pub trees_again : (ts : Trees) (k : ℕ) → AreObjects k ts → trees_in (all_octets ts) ≡ ts
  trees_again none k p = none_in [] no_part
  trees_again (more t ts) k p =
      let m = object_again t k p.0 in
      some_in (octets t ++ all_octets ts) m.0 (all_octets ts) (part_again (octets t) (all_octets ts) m.0 m.1)
      ∙ ap (λ x. more x (trees_in (all_octets ts))) m.2 ∙ ap (more t) (trees_again ts k p.1)

one_object : (t : Tree) (k : ℕ) → IsObject k t → AreObjects k (more t none)
unfolding AreObjects
one_object t k p = (p, tt)

-- what the first of some trees says of all
pub first_more : (ts us : Trees) (t : Tree) → ◌≡◌ {A = Option (Tree × Trees)} (Some (t, us)) (first_at ts) → ts ≡ more t us
first_more none us t e = cc
first_more (more u vs) us t e = let both : ◌≡◌ {A = Tree × Trees} (t, us) (u, vs) = cc in ap (λ (z : Tree × Trees). more z.0 z.1) (sym both)

pub first_none : (ts : Trees) → ◌≡◌ {A = Option (Tree × Trees)} None (first_at ts) → ts ≡ none
first_none none e = refl
first_none (more u vs) e = cc

-- what the reader of a header finds at the front

pub nothing_in : (s : List ℕ) → length s ≡ 0 → ◌≡◌ {A = Option (Tree × Trees)} None (first_at (trees_in s))
nothing_in [] e = sym (ap first_at (none_in [] no_part))
nothing_in (x ∷ s) e = absurd (omega (arith, e))

refused_part : (s : List ℕ) (x : Refusal Error) → strict_at s ≡ Err x → part_in s ≡ None
unfolding part_in
refused_part s x e = ap (part_of (length s)) e

pub refused_in : (s : List ℕ) (x : Refusal Error) → strict_at s ≡ Err x → ◌≡◌ {A = Option (Tree × Trees)} None (first_at (trees_in s))
refused_in s x e = sym (ap first_at (none_in s (refused_part s x e)))

short_by : (few long : Bool) (found : Option (Element × List ℕ)) → long ≡ true → (if few && not long then found else None) ≡ None
short_by true true found e = refl
short_by true false found e = cc
short_by false long found e = refl

short_part : (s : List ℕ) (h : Head) (after : List ℕ) → strict_at s ≡ Ok (h, after) → length after < h.size → part_in s ≡ None
unfolding part_in
short_part s h after e less =
    ap (part_of (length s)) e ∙ short_by (nat_lt (length after) (length s)) (nat_lt (length after) h.size) _ (lt-ltb (length after) h.size less)

pub short_in : (s : List ℕ) (h : Head) (after : List ℕ) → strict_at s ≡ Ok (h, after) → length after < h.size → ◌≡◌ {A = Option (Tree × Trees)} None (first_at (trees_in s))
short_in s h after e less = sym (ap first_at (none_in s (short_part s h after e less)))

found_part : (s : List ℕ) (h : Head) (after : List ℕ) → strict_at s ≡ Ok (h, after) → length after < length s → h.size ≤ length after →
    part_in s ≡ Some (element_of h (take h.size after), drop h.size after)
unfolding part_in
found_part s h after e less fit =
    let first : nat_lt (length after) (length s) ≡ true = lt-ltb (length after) (length s) less in
    let second : nat_lt (length after) h.size ≡ false = le-ltb (length after) h.size fit in
    ap (part_of (length s)) e ∙ rw (first, second) refl

pub found_in : (s : List ℕ) (h : Head) (after content rest : List ℕ) (size : ℕ) → strict_at s ≡ Ok (h, after) → length after < length s → size ≡ h.size → size ≤ length after →
    content ≡ take size after → rest ≡ drop size after → ◌≡◌ {A = Option (Tree × Trees)} (Some (tree_of (element_of h content), trees_in rest)) (first_at (trees_in s))
found_in s h after content rest size e less n fit front back =
    let read = some_in s (element_of h (take h.size after)) (drop h.size after) (found_part s h after e less (omega (arith, n, fit))) in
    ap (λ z. Some (tree_of (element_of h z), trees_in rest)) (front ∙ ap (λ k. take k after) n)
    ∙ ap (λ z. Some (tree_of (element_of h (take h.size after)), trees_in z)) (back ∙ ap (λ k. drop k after) n)
    ∙ sym (ap first_at read)

pub spelled_in : (s : List ℕ) (h : Head) (after content rest : List ℕ) (size : ℕ) → s ≡ strict_header h ++ after → size ≡ h.size → size ≤ length after →
    content ≡ take size after → rest ≡ drop size after → s ≡ element_octets (element_of h content) ++ rest
spelled_in s h after content rest size e n fit front back =
    let long : length content ≡ size = ap length front ∙ length-take-le size after fit in
    let head : h ≡ head_of_element (element_of h content) = ap (λ z. record { class = h.class; constructed = h.constructed; tag = h.tag; size = z }) (sym n ∙ sym long) in
    let split : after ≡ content ++ rest = sym (take-append-drop size after) ∙ ap (λ z. z ++ drop size after) (sym front) ∙ ap (λ z. content ++ z) (sym back) in
    e ∙ ap (λ z. strict_header h ++ z) split ∙ sym (append_assoc (strict_header h) content rest) ∙ ap (λ z. (strict_header z ++ content) ++ rest) head

-- whether an element is left
pub end_none : (ts : Trees) → ◌≡◌ {A = Option (Tree × Trees)} None (first_at ts) → Some tt ≡ end_at ts
end_none none e = refl
end_none (more u vs) e = cc

pub end_some : (ts us : Trees) (t : Tree) → ◌≡◌ {A = Option (Tree × Trees)} (Some (t, us)) (first_at ts) → None ≡ end_at ts
end_some none us t e = cc
end_some (more u vs) us t e = refl

-- an object's octets are one tree's

pub record Whole (s : List ℕ) : Type 0 where
  pub tree : Tree
  pub object : IsObject 50 tree
  pub spelled : octets tree ≡ s
  pub alone : trees_in s ≡ more tree none

pub whole : (s : List ℕ) → IsDerObject 50 s → Whole s
whole s p =
    let t = object_to 50 s p in
    let alone : trees_in s ≡ more t.0 none = ap trees_in (sym t.2 ∙ sym (append-nil (octets t.0))) ∙ trees_again (more t.0 none) 50 (one_object t.0 50 t.1) in
    record { tree = t.0; object = t.1; spelled = t.2; alone = alone }

one_first : (t u : Tree) (ts us : Trees) → ◌≡◌ {A = Option (Tree × Trees)} (Some (t, ts)) (Some (u, us)) → t ≡ u
one_first t u ts us e = let both : ◌≡◌ {A = Tree × Trees} (t, ts) (u, us) = cc in ap (λ (z : Tree × Trees). z.0) both

-- the element that is read at the front of an object is the object's
pub first_is_whole : (s : List ℕ) (e : Element) (rest : Trees) → IsDerObject 50 s → Some (tree_of e, rest) ≡ first_at (trees_in s) → IsObject 50 (tree_of e) × (octets (tree_of e) ≡ s)
first_is_whole s e rest p found =
    let w = whole s p in
    let same = one_first (tree_of e) w.tree rest none (found ∙ ap first_at w.alone) in
    (subst (IsObject 50) (sym same) w.object, ap octets same ∙ w.spelled)

pub first_is_there : (s : List ℕ) → IsDerObject 50 s → None ≡ first_at (trees_in s) → ⊥
first_is_there s p missing =
    let w = whole s p in
    let found : ◌≡◌ {A = Option (Tree × Trees)} None (Some (w.tree, none)) = missing ∙ ap first_at w.alone in
    cc
