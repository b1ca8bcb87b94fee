-- What an element without parts may hold, by its tag number.
use Rattle.std.proofs.Common.{◌≡◌, ◌∙◌, sym, ap, refl, subst, ℕ, List, [], ◌∷◌, Bool, true, false, if◌then◌else◌, arith}
use Rattle.std.specs.Int.Digits.{number_from_digits}
use Rattle.asn1_core.specs.Elements.{Element}
use Rattle.asn1_oid.specs.Identifier.{IsOidContent}
use Rattle.der_tree.specs.Shape.{Holds, HoldsLeaf}
use Rattle.der_tree.specs.Table.{Kind, tag_of, Allows, IsPrimitive, IsRaw, IsEnumerated, is_boolean, is_bit_string, is_listed}
use Rattle.der_tree.specs.Tree.{boolean, bit_string, null, oid, enumerated, plain, raw, Content, leaf, sequence, set}
use Rattle.der_tree.proofs.Leveled.{to_boolean, to_bits}
use Rattle.der_tree.proofs.Objects.{kind_listed}
use Rattle.der_tree.proofs.OneTree.{is_true, bits_in, listed_leaf, at_listed, plain_leaf, held_is}

-- what is held under a tag number that has a line
held_at : (n : ℕ) (e : Element) → IsPrimitive e n → is_listed n ≡ true → (c : Content) → HoldsLeaf e c → Holds e (listed_leaf n e)
held_at n e p l (leaf v) q = subst (Holds e) (sym (held_is e v q) ∙ at_listed e n p.class p.tag l) q
held_at n e p l (sequence ts) q = absurd q
held_at n e p l (set ts) q = absurd q

pub plain_found : (k : Kind) (e : Element) → IsPrimitive e (tag_of k) → Allows k e.content → (c : Content) × HoldsLeaf e c
plain_found k e p q = (leaf (plain k e.content), (p, refl, q))

pub plain_only : (k : Kind) (e : Element) → IsPrimitive e (tag_of k) → (c : Content) → HoldsLeaf e c → Allows k e.content
plain_only k e p c q = let held : Holds e (plain k e.content) = subst (Holds e) (plain_leaf k e) (held_at (tag_of k) e p (kind_listed k) c q) in held.2

one_boolean : (b : Bool) (s : List ℕ) → s ≡ (if b then 255 else 0) ∷ [] → is_boolean s ≡ true
one_boolean true s p = ap is_boolean p
one_boolean false s p = ap is_boolean p

pub boolean_found : (e : Element) → IsPrimitive e 1 → is_boolean e.content ≡ true → (c : Content) × HoldsLeaf e c
boolean_found e p q = let m = to_boolean e.content q in (leaf (boolean m.0), (p, m.1))

pub boolean_only : (e : Element) → IsPrimitive e 1 → (c : Content) → HoldsLeaf e c → is_boolean e.content ≡ true
boolean_only e p c q = one_boolean (is_true e.content) e.content (held_at 1 e p refl c q).1

bits_held : (e : Element) (s : List ℕ) → IsPrimitive e 3 → Holds e (bits_in s) → is_bit_string e.content ≡ true
unfolding bits_in
bits_held e [] p q = absurd (omega (arith, p.tag, q.0.tag))
bits_held e (a ∷ s) p q = q.2

pub bits_found : (e : Element) → IsPrimitive e 3 → is_bit_string e.content ≡ true → (c : Content) × HoldsLeaf e c
bits_found e p q = let m = to_bits e.content q in (leaf (bit_string m.0 m.1), (p, m.2, q))

pub bits_only : (e : Element) → IsPrimitive e 3 → (c : Content) → HoldsLeaf e c → is_bit_string e.content ≡ true
bits_only e p c q = bits_held e e.content p (held_at 3 e p refl c q)

pub null_found : (e : Element) → IsPrimitive e 5 → e.content ≡ [] → (c : Content) × HoldsLeaf e c
null_found e p q = (leaf null, (p, q))

pub null_only : (e : Element) → IsPrimitive e 5 → (c : Content) → HoldsLeaf e c → e.content ≡ []
null_only e p c q = (held_at 5 e p refl c q).1

pub oid_found : (e : Element) → IsPrimitive e 6 → IsOidContent e.content → (c : Content) × HoldsLeaf e c
oid_found e p q = (leaf (oid e.content), (p, refl, q))

pub oid_only : (e : Element) → IsPrimitive e 6 → (c : Content) → HoldsLeaf e c → IsOidContent e.content
oid_only e p c q = (held_at 6 e p refl c q).2

pub enumerated_found : (e : Element) → IsPrimitive e 10 → IsEnumerated e.content → (c : Content) × HoldsLeaf e c
enumerated_found e p q = (leaf (enumerated (number_from_digits 256 e.content)), (p, refl, q))

pub enumerated_only : (e : Element) → IsPrimitive e 10 → (c : Content) → HoldsLeaf e c → IsEnumerated e.content
enumerated_only e p c q = (held_at 10 e p refl c q).2

pub raw_found : (e : Element) → IsRaw e → (c : Content) × HoldsLeaf e c
raw_found e p = (leaf (raw e), (p, refl))
