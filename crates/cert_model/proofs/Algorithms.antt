-- Identifiers, algorithms, attributes, bit strings, numbers and keys: what is read of a tree is what its octets spell.
use Rattle.std.proofs.Common.{◌≡◌, ◌∙◌, sym, ap, refl, ℕ, ◌-◌, [], ◌++◌, false, true, Option, Some, None, subst, lit<}
use Rattle.std.proofs.lemmas.List.{append-nil}
use Rattle.std.proofs.lemmas.Option.{option_and_then_some}
use Rattle.asn1_core.specs.Elements.{Element, IsElement, element_octets}
use Rattle.der_tree.specs.Object.{IsCut}
use Rattle.der_tree.specs.Table.{integer, is_negative}
use Rattle.der_tree.specs.Tree.{Tree, Trees, none, more, octets, all_octets}
use Rattle.der_tree.specs.Shape.{IsObject, AreObjects}
use Rattle.der_tree.specs.Access.{sequence_at, oid_at, bit_string_at, plain_at, element_at, first_at, end_at, universal}
use Rattle.der_tree.proofs.Shapes.{sequence_found, oid_only, oid_found, plain_only, plain_found, bit_string_only, bit_string_found, element_found, element_only, first_found, end_found}
use Rattle.cert_model.specs.Fields.{Number, Identifier, Algorithm, Attribute, Bits, Key}
use Rattle.cert_model.specs.Octets.{sequence_octets, number_octets, identifier_octets, optional_octets, bits_content, bit_field_octets, algorithm_octets, attribute_octets, key_octets}
use Rattle.cert_model.specs.Range.{IfThere, IsNumber, AreBits, IsAny, IsIdentifier, IsAlgorithm, IsAttribute, IsKey}
use Rattle.cert_model.specs.Reads.{identifier_at, number_at, bits_at, last_element_at, algorithm_at, attribute_at, key_at}
use Rattle.cert_model.proofs.Bounds.{whole_in}
use Rattle.cert_model.proofs.Cases.{not_chosen}
use Rattle.cert_model.proofs.Steps.{Parts, in_sequence, first_part, no_more}

-- identifiers

pub identifier_found : (k : ℕ) (t : Tree) (i : Identifier) → IsObject k t → identifier_at t ≡ Some i → IsCut (octets t) (universal false 6 i) × IsIdentifier i
unfolding identifier_at
identifier_found k t i p e =
    option_and_then_some _ (oid_at t) i e (λ s e0 r0.
    let m = oid_found k t s p e0 in
    let is = element_only k t (universal false 6 s) p m.0.in_range m.0.octets in
    let same : (element_at t).content ≡ i = cc in
    let word : s ≡ i = ap (λ (z : Element). z.content) (sym is) ∙ same in
    (subst (λ z. IsCut (octets t) (universal false 6 z)) word m.0, subst IsIdentifier word m.1))

pub identifier_only : (k : ℕ) (t : Tree) (i : Identifier) → IsObject k t → IsElement (universal false 6 i) → octets t ≡ element_octets (universal false 6 i) → (identifier_at t ≡ Some i) × IsIdentifier i
unfolding identifier_at
identifier_only k t i p fits is =
    let m = oid_only k t i p fits is in
    let e = element_only k t (universal false 6 i) p fits is in
    (rw m.0 (ap (λ (z : Element). Some z.content) e), m.1)

-- any element

pub any_found : (k : ℕ) (t : Tree) (e : Element) → IsObject k t → element_at t ≡ e → (octets t ≡ element_octets e) × IsAny e
any_found k t e p is =
    let m = element_found k t p in
    let any : IsAny (element_at t) = record { class = m.in_range.class; tag = m.in_range.tag } in
    (m.octets ∙ ap element_octets is, subst IsAny is any)

last_found : (k : ℕ) (ts : Trees) (e : Option Element) → AreObjects k ts → last_element_at ts ≡ Some e → (all_octets ts ≡ optional_octets element_octets e) × IfThere IsAny e
last_found k none None p e = (refl, tt)
last_found k none (Some f) p e = cc
last_found k (more t none) None p e = cc
last_found k (more t none) (Some f) p e =
    let same : element_at t ≡ f = cc in
    let m = any_found k t f (first_found k (more t none) t none p refl).0 same in
    (append-nil (octets t) ∙ m.0, m.1)
last_found k (more t (more u us)) f p e = cc

last_after : (k : ℕ) (ts : Trees) (t : Tree) (e : Element) → first_at ts ≡ Some (t, none) → element_at t ≡ e → last_element_at ts ≡ Some (Some e)
last_after k none t e is same = cc
last_after k (more x none) t e is same =
    let both : ◌≡◌ {A = Tree × Trees} (x, none) (t, none) = cc in
    ap (λ (z : Tree × Trees). Some (Some (element_at z.0))) both ∙ ap (λ z. Some (Some z)) same
last_after k (more x (more y ys)) t e is same =
    let both : ◌≡◌ {A = Tree × Trees} (x, more y ys) (t, none) = cc in
    let gone : more y ys ≡ none = ap (λ (z : Tree × Trees). z.1) both in
    cc

pub last_only : (k : ℕ) (ts : Trees) (e : Option Element) → Parts k (optional_octets element_octets e) ts → IfThere IsAny e → last_element_at ts ≡ Some e
last_only k ts None p q = ap last_element_at (no_more k ts p)
last_only k ts (Some e) p q =
    let whole : Parts k (element_octets e ++ []) ts = subst (λ s. Parts k s ts) (sym (append-nil (element_octets e))) p in
    let m = first_part k ts e [] whole q.class q.tag in
    let gone = no_more k m.others m.rest in
    last_after k ts m.tree e (m.is_first ∙ ap (λ z. Some (m.tree, z)) gone) (element_only k m.tree e m.object m.in_range m.spelled)

-- algorithms

pub algorithm_found : (k : ℕ) (t : Tree) (a : Algorithm) → IsObject k t → algorithm_at t ≡ Some a → IsAlgorithm a × (algorithm_octets a ≡ octets t)
unfolding algorithm_at algorithm_octets
algorithm_found k t a p e =
    option_and_then_some _ (sequence_at t) a e (λ parts e0 r0.
    option_and_then_some _ (first_at parts) a r0 (λ first e1 r1.
    option_and_then_some _ (identifier_at first.0) a r1 (λ identifier e2 r2.
    option_and_then_some _ (last_element_at first.1) a r2 (λ parameters e3 r3.
    let same : ◌≡◌ {A = Algorithm} (record { identifier = identifier; parameters = parameters }) a = cc in
    let m = sequence_found k t parts p e0 in
    let n = first_found (k - 1) parts first.0 first.1 m.1 e1 in
    let o = identifier_found (k - 1) first.0 identifier n.0 e2 in
    let l = last_found (k - 1) first.1 parameters n.1 e3 in
    let whole : all_octets parts ≡ identifier_octets identifier ++ optional_octets element_octets parameters =
    n.2 ∙ ap (λ z. z ++ all_octets first.1) o.0.octets ∙ ap (λ z. identifier_octets identifier ++ z) l.0 in
    let is : IsAlgorithm (record { identifier = identifier; parameters = parameters }) = record { identifier = o.1; parameters = l.1 } in
    rw (← same) (is, sym (m.0.octets ∙ ap sequence_octets whole))))))

pub algorithm_only : (k : ℕ) (t : Tree) (a : Algorithm) → IsObject k t → IsAlgorithm a → algorithm_octets a ≡ octets t → algorithm_at t ≡ Some a
unfolding algorithm_at algorithm_octets
algorithm_only k t a p q e =
    let m = in_sequence k t (identifier_octets a.identifier ++ optional_octets element_octets a.parameters) p e in
    let n = first_part (k - 1) m.0 (universal false 6 a.identifier) (optional_octets element_octets a.parameters) m.2 (lit< tt) (lit< tt) in
    let o = identifier_only (k - 1) n.tree a.identifier n.object n.in_range n.spelled in
    let l = last_only (k - 1) n.others a.parameters n.rest q.parameters in
    rw (m.1, n.is_first, o.0, l) refl

-- attributes

pub attribute_found : (k : ℕ) (t : Tree) (a : Attribute) → IsObject k t → attribute_at t ≡ Some a → IsAttribute a × (attribute_octets a ≡ octets t)
unfolding attribute_at attribute_octets
attribute_found k t a p e =
    option_and_then_some _ (sequence_at t) a e (λ parts e0 r0.
    option_and_then_some _ (first_at parts) a r0 (λ first e1 r1.
    option_and_then_some _ (identifier_at first.0) a r1 (λ identifier e2 r2.
    option_and_then_some _ (first_at first.1) a r2 (λ second e3 r3.
    option_and_then_some _ (end_at second.1) a r3 (λ end e4 r4.
    let same : ◌≡◌ {A = Attribute} (record { identifier = identifier; value = element_at second.0 }) a = cc in
    let m = sequence_found k t parts p e0 in
    let n = first_found (k - 1) parts first.0 first.1 m.1 e1 in
    let o = identifier_found (k - 1) first.0 identifier n.0 e2 in
    let l = first_found (k - 1) first.1 second.0 second.1 n.1 e3 in
    let v = any_found (k - 1) second.0 (element_at second.0) l.0 refl in
    let tail : all_octets first.1 ≡ element_octets (element_at second.0) =
    l.2 ∙ ap (λ z. octets second.0 ++ z) (end_found second.1 e4).1 ∙ append-nil (octets second.0) ∙ v.0 in
    let whole : all_octets parts ≡ identifier_octets identifier ++ element_octets (element_at second.0) =
    n.2 ∙ ap (λ z. z ++ all_octets first.1) o.0.octets ∙ ap (λ z. identifier_octets identifier ++ z) tail in
    let is : IsAttribute (record { identifier = identifier; value = element_at second.0 }) = record { identifier = o.1; value = v.1 } in
    rw (← same) (is, sym (m.0.octets ∙ ap sequence_octets whole)))))))

pub attribute_only : (k : ℕ) (t : Tree) (a : Attribute) → IsObject k t → IsAttribute a → attribute_octets a ≡ octets t → attribute_at t ≡ Some a
unfolding attribute_at attribute_octets
attribute_only k t a p q e =
    let m = in_sequence k t (identifier_octets a.identifier ++ element_octets a.value) p e in
    let n = first_part (k - 1) m.0 (universal false 6 a.identifier) (element_octets a.value) m.2 (lit< tt) (lit< tt) in
    let o = identifier_only (k - 1) n.tree a.identifier n.object n.in_range n.spelled in
    let rest : Parts (k - 1) (element_octets a.value ++ []) n.others = subst (λ s. Parts (k - 1) s n.others) (sym (append-nil (element_octets a.value))) n.rest in
    let l = first_part (k - 1) n.others a.value [] rest q.value.class q.value.tag in
    let v = element_only (k - 1) l.tree a.value l.object l.in_range l.spelled in
    let over : end_at l.others ≡ Some tt = ap end_at (no_more (k - 1) l.others l.rest) in
    rw (m.1, n.is_first, o.0, l.is_first, over, v) refl

-- numbers

pub number_found : (k : ℕ) (t : Tree) (n : Number) → IsObject k t → number_at t ≡ Some n → IsNumber n × (number_octets n ≡ octets t)
unfolding number_at
number_found k t n p e =
    option_and_then_some _ (plain_at integer t) n e (λ s e0 r0.
    let test = not_chosen (is_negative s) s n r0 in
    let m = plain_found k t integer s p e0 in
    let is : IsNumber s = record { shortest = m.1; sign = test.0 } in
    (subst IsNumber test.1 is, ap number_octets (sym test.1) ∙ sym m.0.octets))

pub number_only : (k : ℕ) (t : Tree) (n : Number) → IsObject k t → IsNumber n → number_octets n ≡ octets t → number_at t ≡ Some n
unfolding number_at
number_only k t n p q e =
    let m = plain_only k t integer n p (whole_in k t (universal false 2 n) p (lit< tt) (lit< tt) e) (sym e) in
    rw (m.0, q.sign) refl

-- bit strings

pub bits_found : (k : ℕ) (t : Tree) (b : Bits) → IsObject k t → bits_at t ≡ Some b → AreBits b × (bit_field_octets b ≡ octets t)
unfolding bits_at
bits_found k t b p e =
    option_and_then_some _ (bit_string_at t) b e (λ found e0 r0.
    let same : ◌≡◌ {A = Bits} (record { unused = found.0; octets = found.1 }) b = cc in
    let m = bit_string_found k t found.0 found.1 p e0 in
    rw (← same) (m.1, sym m.0.octets))

pub bits_only : (k : ℕ) (t : Tree) (b : Bits) → IsObject k t → AreBits b → bit_field_octets b ≡ octets t → bits_at t ≡ Some b
unfolding bits_at
bits_only k t b p q e =
    let m = bit_string_only k t b.unused b.octets p (whole_in k t (universal false 3 (bits_content b)) p (lit< tt) (lit< tt) e) (sym e) in
    rw m.0 refl

-- keys

pub key_found : (k : ℕ) (t : Tree) (a : Key) → IsObject k t → key_at t ≡ Some a → IsKey a × (key_octets a ≡ octets t)
unfolding key_at key_octets
key_found k t a p e =
    option_and_then_some _ (sequence_at t) a e (λ parts e0 r0.
    option_and_then_some _ (first_at parts) a r0 (λ first e1 r1.
    option_and_then_some _ (algorithm_at first.0) a r1 (λ algorithm e2 r2.
    option_and_then_some _ (first_at first.1) a r2 (λ second e3 r3.
    option_and_then_some _ (bits_at second.0) a r3 (λ key e4 r4.
    option_and_then_some _ (end_at second.1) a r4 (λ end e5 r5.
    let same : ◌≡◌ {A = Key} (record { algorithm = algorithm; key = key }) a = cc in
    let m = sequence_found k t parts p e0 in
    let n = first_found (k - 1) parts first.0 first.1 m.1 e1 in
    let o = algorithm_found (k - 1) first.0 algorithm n.0 e2 in
    let l = first_found (k - 1) first.1 second.0 second.1 n.1 e3 in
    let v = bits_found (k - 1) second.0 key l.0 e4 in
    let tail : all_octets first.1 ≡ bit_field_octets key =
    l.2 ∙ ap (λ z. octets second.0 ++ z) (end_found second.1 e5).1 ∙ append-nil (octets second.0) ∙ sym v.1 in
    let whole : all_octets parts ≡ algorithm_octets algorithm ++ bit_field_octets key =
    n.2 ∙ ap (λ z. z ++ all_octets first.1) (sym o.1) ∙ ap (λ z. algorithm_octets algorithm ++ z) tail in
    let is : IsKey (record { algorithm = algorithm; key = key }) = record { algorithm = o.0; key = v.0 } in
    rw (← same) (is, sym (m.0.octets ∙ ap sequence_octets whole))))))))

pub key_only : (k : ℕ) (t : Tree) (a : Key) → IsObject k t → IsKey a → key_octets a ≡ octets t → key_at t ≡ Some a
unfolding key_at key_octets algorithm_octets
key_only k t a p q e =
    let algorithm = identifier_octets a.algorithm.identifier ++ optional_octets element_octets a.algorithm.parameters in
    let m = in_sequence k t (algorithm_octets a.algorithm ++ bit_field_octets a.key) p e in
    let n = first_part (k - 1) m.0 (universal true 16 algorithm) (bit_field_octets a.key) m.2 (lit< tt) (lit< tt) in
    let o = algorithm_only (k - 1) n.tree a.algorithm n.object q.algorithm (sym n.spelled) in
    let rest : Parts (k - 1) (bit_field_octets a.key ++ []) n.others = subst (λ s. Parts (k - 1) s n.others) (sym (append-nil (bit_field_octets a.key))) n.rest in
    let l = first_part (k - 1) n.others (universal false 3 (bits_content a.key)) [] rest (lit< tt) (lit< tt) in
    let v = bits_only (k - 1) l.tree a.key l.object q.key (sym l.spelled) in
    let over : end_at l.others ≡ Some tt = ap end_at (no_more (k - 1) l.others l.rest) in
    rw (m.1, n.is_first, o, l.is_first, v, over) refl
