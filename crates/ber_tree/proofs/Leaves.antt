-- What is under a header, line by line.
use Rattle.std.proofs.Common.{◌≡◌, ◌∙◌, sym, ap, refl, subst, ℕ, inl, inr, true, false, arith}
use Rattle.asn1_core.specs.Elements.{Element}
use Rattle.der_tree.specs.Table.{Kind, tag_of, IsPrimitive, IsConstructed, is_listed}
use Rattle.der_tree.specs.Tree.{Leaf, end_of_content, boolean, bit_string, null, oid, enumerated, plain, raw, Content, leaf, sequence, set, Trees, all_octets}
use Rattle.der_tree.specs.Shape.{Holds, HoldsLeaf}
use Rattle.der_tree.specs.View.{as_universal}
use Rattle.der_tree.proofs.Objects.{kind_at, same_kind, kind_listed, not_raw, no_leaf}
use Rattle.ber_tree.specs.Table.{HoldsWider, HoldsWiderLeaf, HoldsBer, HoldsBerLeaf}
use Rattle.ber_tree.specs.Object.{IsBerContent, AreBerObjects}

-- the wider forms are universal and primitive, of a tag number that has a line
pub record IsPlain (e : Element) : Type 0 where
  pub class : e.class ≡ 0
  pub constructed : e.constructed ≡ false
  pub listed : is_listed e.tag ≡ true
  pub some : e.tag ≡ 0 → ⊥

plain_by : (e : Element) (n : ℕ) → is_listed n ≡ true → (n ≡ 0 → ⊥) → IsPrimitive e n → IsPlain e
plain_by e n listed some p = record { class = p.class; constructed = p.constructed; listed = ap is_listed p.tag ∙ listed; some = λ z. some (sym p.tag ∙ z) }

kind_some : (k : Kind) → tag_of k ≡ 0 → ⊥
kind_some k e = let x : kind_at (tag_of k) ≡ kind_at 0 = ap kind_at e in let y = same_kind k in cc

pub wider_plain : (e : Element) (v : Leaf) → HoldsWider e v → IsPlain e
wider_plain e end_of_content p = absurd p
wider_plain e (boolean b) p = plain_by e 1 refl (λ z. omega arith) p.0
wider_plain e (bit_string unused s) p = plain_by e 3 refl (λ z. omega arith) p.0
wider_plain e null p = absurd p
wider_plain e (oid s) p = absurd p
wider_plain e (enumerated n) p = plain_by e 10 refl (λ z. omega arith) p.0
wider_plain e (plain k s) p = plain_by e (tag_of k) (kind_listed k) (kind_some k) p.0
wider_plain e (raw f) p = absurd p

-- what is under a constructed header is no leaf, unless it is raw
pub no_ber_leaf : (n : ℕ) (e : Element) (v : Leaf) → is_listed n ≡ true → IsConstructed e n → HoldsBer e v → ⊥
no_ber_leaf n e v l p (inl q) = no_leaf n e v l p q
no_ber_leaf n e v l p (inr q) = let x = (wider_plain e v q).constructed in let y = p.constructed in cc

pub no_ber_sequence : (k : ℕ) (e : Element) → IsConstructed e 16 → ((ts : Trees) → AreBerObjects k ts → e.content ≡ all_octets ts → ⊥) → (c : Content) → IsBerContent k e c → ⊥
unfolding IsBerContent
no_ber_sequence k e p refused (leaf v) q = no_ber_leaf 16 e v refl p q
no_ber_sequence k e p refused (sequence ts) q = refused ts q.2 q.1
no_ber_sequence k e p refused (set ts) q = absurd (omega (arith, p.tag, q.0.tag))

pub no_ber_set : (k : ℕ) (e : Element) → IsConstructed e 17 → ((ts : Trees) → AreBerObjects k ts → e.content ≡ all_octets ts → ⊥) → (c : Content) → IsBerContent k e c → ⊥
unfolding IsBerContent
no_ber_set k e p refused (leaf v) q = no_ber_leaf 17 e v refl p q
no_ber_set k e p refused (sequence ts) q = absurd (omega (arith, p.tag, q.0.tag))
no_ber_set k e p refused (set ts) q = refused ts q.2 q.1

pub ber_leaf_content : (k : ℕ) (e : Element) (c : Content) → HoldsBerLeaf e c → IsBerContent k e c
unfolding IsBerContent
ber_leaf_content k e (leaf v) p = p
ber_leaf_content k e (sequence ts) p = absurd p
ber_leaf_content k e (set ts) p = absurd p

pub ber_content_leaf : (k : ℕ) (e : Element) → (IsConstructed e 16 → ⊥) → (IsConstructed e 17 → ⊥) → (c : Content) → IsBerContent k e c → HoldsBerLeaf e c
unfolding IsBerContent
ber_content_leaf k e a b (leaf v) p = p
ber_content_leaf k e a b (sequence ts) p = a p.0
ber_content_leaf k e a b (set ts) p = b p.0

-- no object has the universal tag number 0
holds_zero : (e : Element) (v : Leaf) → Holds e v → e.class ≡ 0 → e.tag ≡ 0 → ⊥
holds_zero e end_of_content p class tag = p
holds_zero e (boolean b) p class tag = omega (arith, p.0.tag, tag)
holds_zero e (bit_string unused s) p class tag = omega (arith, p.0.tag, tag)
holds_zero e null p class tag = omega (arith, p.0.tag, tag)
holds_zero e (oid s) p class tag = omega (arith, p.0.tag, tag)
holds_zero e (enumerated n) p class tag = omega (arith, p.0.tag, tag)
holds_zero e (plain k s) p class tag = kind_some k (sym p.0.tag ∙ tag)
holds_zero e (raw f) p class tag = not_raw 0 e refl class tag p.0

pub content_zero : (k : ℕ) (e : Element) (c : Content) → IsBerContent k e c → e.class ≡ 0 → e.tag ≡ 0 → ⊥
unfolding IsBerContent
content_zero k e (leaf v) (inl p) class tag = holds_zero e v p class tag
content_zero k e (leaf v) (inr p) class tag = (wider_plain e v p).some tag
content_zero k e (sequence ts) p class tag = omega (arith, p.0.tag, tag)
content_zero k e (set ts) p class tag = omega (arith, p.0.tag, tag)

-- a universal element is as it is

pub universal_leaf : (e : Element) (c : Content) → e.class ≡ 0 → HoldsLeaf (as_universal e) c → HoldsLeaf e c
universal_leaf e c is p =
    subst (λ z. HoldsLeaf (let f : Element = record { class = z; constructed = e.constructed; tag = e.tag; content = e.content } in f) c) (sym is) p

pub leaf_universal : (e : Element) (c : Content) → e.class ≡ 0 → HoldsLeaf e c → HoldsLeaf (as_universal e) c
leaf_universal e c is p =
    subst (λ z. HoldsLeaf (let f : Element = record { class = z; constructed = e.constructed; tag = e.tag; content = e.content } in f) c) is p

pub strict_leaf : (e : Element) (c : Content) → HoldsLeaf e c → HoldsBerLeaf e c
strict_leaf e (leaf v) p = inl p
strict_leaf e (sequence ts) p = p
strict_leaf e (set ts) p = p

pub wider_leaf : (e : Element) (c : Content) → HoldsWiderLeaf e c → HoldsBerLeaf e c
wider_leaf e (leaf v) p = inr p
wider_leaf e (sequence ts) p = p
wider_leaf e (set ts) p = p

pub no_leaf_by : (e : Element) (c : Content) → (HoldsLeaf e c → ⊥) → (HoldsWiderLeaf e c → ⊥) → HoldsBerLeaf e c → ⊥
no_leaf_by e (leaf v) a b (inl p) = a p
no_leaf_by e (leaf v) a b (inr p) = b p
no_leaf_by e (sequence ts) a b p = p
no_leaf_by e (set ts) a b p = p
