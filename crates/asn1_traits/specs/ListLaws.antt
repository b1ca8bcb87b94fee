-- Values one after another have the laws if each has: what is written of them is read back.
use Rattle.std.proofs.Common.{arith, ◌≡◌, ◌≢◌, ◌∙◌, refl, sym, ap, subst, ℕ, suc, ◌+◌, ◌^◌, ◌<◌, ◌≤◌, true, List, [], ◌∷◌, ◌++◌, length, Option, Some, None, length-append, lit<}
use Rattle.std.specs.Vec.{with_items}
use Rattle.std.specs.Prelude.{Vec}
use Rattle.std.proofs.lemmas.List.{with_items_is}
use Rattle.asn1_core.specs.Strict.{strict_header}
use Rattle.asn1_core.specs.Lenient.{ber_head_of_head}
use Rattle.asn1_core.specs.Elements.{Element, head_of_element, IsElement, element_octets}
use Rattle.asn1_core.proofs.StrictLaws.{header_is_lenient}
use Rattle.asn1_core.proofs.LenientLaws.{lenient_is_ber_lem}
use Rattle.asn1_any.proofs.DerLaws.{strict_begins}
use Rattle.asn1_core.proofs.Long.{header_long}
use Rattle.asn1_traits.specs.Elements.{ReadsElement}
use Rattle.asn1_traits.specs.Writes.{written, IsLong, IsOneElement}
use Rattle.asn1_traits.specs.Lists.{AllRead, IsContainer, ContainerMeans, all_written, container_of, EachIs}
use Rattle.asn1_traits.specs.LeafLaws.{short_element, same_element}

-- an element takes an octet at least
pub some_octets : (o : Option Element) → IsOneElement o → (IsLong (written o) → ⊥) → 0 < length (written o)
some_octets None one short = absurd one
some_octets (Some e) one short =
    let h = head_of_element e in
    let in_range : IsElement e = short_element e one.0 one.1 short in
    let long = header_long (strict_header h) (ber_head_of_head h) (lenient_is_ber_lem (strict_header h) h (header_is_lenient h in_range)) in
    omega (arith, long, length-append (strict_header h) e.content)

abbrev pub OneEach : {V : Type 0} → (V → Type 0) → (V → Option Element) → Type 0
OneEach {V} formed element = (v : V) → formed v → IsOneElement (element v)

abbrev pub BackEach : {V : Type 0} → (V → Type 0) → (V → Option Element) → (List ℕ → V → List ℕ → Type 0) → Type 0
BackEach {V} formed element reads = (v : V) (rest : List ℕ) → formed v → (IsLong (written (element v)) → ⊥) → (w : V) × reads (written (element v) ++ rest) w rest

abbrev pub SameEach : {V : Type 0} → (V → Type 0) → (V → Option Element) → (List ℕ → V → List ℕ → Type 0) → Type 0
SameEach {V} formed element reads = (v w : V) (rest r : List ℕ) → formed v → (IsLong (written (element v)) → ⊥) → reads (written (element v) ++ rest) w r → element w ≡ element v

abbrev pub OneRest : {V : Type 0} → (List ℕ → V → List ℕ → Type 0) → Type 0
OneRest {V} reads = (octets : List ℕ) (v w : V) (r s : List ℕ) → reads octets v r → reads octets w s → r ≡ s

-- the parts of what isn't too long
short_first : (xs ys : List ℕ) → (IsLong (xs ++ ys) → ⊥) → IsLong xs → ⊥
short_first xs ys short long = short (omega (arith, long, length-append xs ys))

short_second : (xs ys : List ℕ) → (IsLong (xs ++ ys) → ⊥) → IsLong ys → ⊥
short_second xs ys short long = short (omega (arith, long, length-append xs ys))

-- as many values, read back
record Back {V : Type 0} (reads : List ℕ → V → List ℕ → Type 0) (octets : List ℕ) (count : ℕ) : Type 0 where
  values : List V
  read : AllRead reads octets values
  counted : length values ≡ count

items_back : {V : Type 0} (formed : V → Type 0) (element : V → Option Element) (reads : List ℕ → V → List ℕ → Type 0) → OneEach formed element → BackEach formed element reads →
    (vs : List V) → EachIs formed vs → (IsLong (all_written element vs) → ⊥) → Back reads (all_written element vs) (length vs)
items_back formed element reads one back [] each short = record { values = []; read = refl; counted = refl }
items_back formed element reads one back (v ∷ vs) each short =
    let octets = written (element v) in
    let rest = all_written element vs in
    let brief = short_first octets rest short in
    let first = back v rest each.0 brief in
    let others = items_back formed element reads one back vs each.1 (short_second octets rest short) in
    let shorter : length rest < length (octets ++ rest) = omega (arith, length-append octets rest, some_octets (element v) (one v each.0) brief) in
    record { values = first.0 ∷ others.values; read = (rest, first.1, shorter, others.read); counted = ap suc others.counted }

pub items_same : {V : Type 0} (formed : V → Type 0) (element : V → Option Element) (reads : List ℕ → V → List ℕ → Type 0) → OneEach formed element → BackEach formed element reads →
    SameEach formed element reads → OneRest reads → (vs ws : List V) → EachIs formed vs → (IsLong (all_written element vs) → ⊥) → AllRead reads (all_written element vs) ws → all_written element ws ≡ all_written element vs
items_same formed element reads one back same once [] [] each short all = refl
items_same formed element reads one back same once [] (w ∷ ws) each short all = absurd (omega (arith, all.2))
items_same formed element reads one back same once (v ∷ vs) [] each short all =
    let octets = written (element v) in
    let rest = all_written element vs in
    absurd (omega (arith, ap length all, length-append octets rest, some_octets (element v) (one v each.0) (short_first octets rest short)))
items_same {V} formed element reads one back same once (v ∷ vs) (w ∷ ws) each short all =
    let octets = written (element v) in
    let rest = all_written element vs in
    let brief = short_first octets rest short in
    let first = back v rest each.0 brief in
    let after : all.0 ≡ rest = once (octets ++ rest) w first.0 all.0 rest all.1 first.1 in
    let others : AllRead reads rest ws = let P : List ℕ → Type 0 = λ z. AllRead reads z ws in subst P after all.3 in
    let tail = items_same formed element reads one back same once vs ws each.1 (short_second octets rest short) others in
    ap (λ o. written o ++ all_written element ws) (same v w rest all.0 each.0 brief all.1) ∙ ap (λ z. octets ++ z) tail

-- a container that isn't too long is in range, and so is its content
container_range : {V : Type 0} (tag : ℕ) (element : V → Option Element) (vs : List V) → tag < 2 ^ 32 → (IsLong (written (Some (container_of tag element vs))) → ⊥) → IsElement (container_of tag element vs)
container_range tag element vs low short = short_element (container_of tag element vs) (lit< tt) low short

content_short : {V : Type 0} (tag : ℕ) (element : V → Option Element) (vs : List V) → (IsLong (written (Some (container_of tag element vs))) → ⊥) → IsLong (all_written element vs) → ⊥
content_short tag element vs short = short_second (strict_header (head_of_element (container_of tag element vs))) (all_written element vs) short

-- a collection of items: read back before any rest; `put` gives it other items, as many as it has
pub list_back : {V X : Type 0} (tag : ℕ) → tag < 2 ^ 32 → (formed : V → Type 0) (element : V → Option Element) (reads : List ℕ → V → List ℕ → Type 0) (items : X → List V) (put : X → List V → X) →
    ((x : X) (vs : List V) → length vs ≡ length (items x) → items (put x vs) ≡ vs) → OneEach formed element → BackEach formed element reads →
    (x : X) (rest : List ℕ) → EachIs formed (items x) → (IsLong (written (Some (container_of tag element (items x)))) → ⊥) →
    (w : X) × ReadsElement (λ e y. ContainerMeans tag reads e (items y)) (written (Some (container_of tag element (items x))) ++ rest) w rest
list_back {V} tag low formed element reads items put put_items one back x rest each short =
    let e = container_of tag element (items x) in
    let found = items_back formed element reads one back (items x) each (content_short tag element (items x) short) in
    let P : List V → Type 0 = λ z. AllRead reads (all_written element (items x)) z in
    let is : IsContainer tag e = record { class_is = refl; constructed = refl; tag_is = refl } in (
      put x found.values,
      record {
        element = e;
        begins = strict_begins e rest (container_range tag element (items x) low short);
        meant = record { container = is; items = subst P (sym (put_items x found.values found.counted)) found.read };
      },
    )

-- whatever is read back is written as equal octets
pub list_same : {V X : Type 0} (tag : ℕ) → tag < 2 ^ 32 → (formed : V → Type 0) (element : V → Option Element) (reads : List ℕ → V → List ℕ → Type 0) (items : X → List V) →
    OneEach formed element → BackEach formed element reads → SameEach formed element reads → OneRest reads →
    (x w : X) (rest r : List ℕ) → EachIs formed (items x) → (IsLong (written (Some (container_of tag element (items x)))) → ⊥) →
    ReadsElement (λ e y. ContainerMeans tag reads e (items y)) (written (Some (container_of tag element (items x))) ++ rest) w r →
    Some (container_of tag element (items w)) ≡ Some (container_of tag element (items x))
list_same tag low formed element reads items one back same once x w rest r each short read =
    let e = container_of tag element (items x) in
    let is : read.element ≡ e = same_element e read.element rest r (container_range tag element (items x) low short) read.begins in
    let all : AllRead reads (all_written element (items x)) (items w) = subst (λ (f : Element). AllRead reads f.content (items w)) is read.meant.items in
    let content = items_same formed element reads one back same once (items x) (items w) each (content_short tag element (items x) short) all in
    ap (λ (z : List ℕ). Some (record { class = 0; constructed = true; tag = tag; content = z })) content

-- other items in a `Vec`
abbrev pub vec_put : {V A : Type 0} → Vec V A → List V → Vec V A
vec_put v ws = with_items v ws

pub vec_put_items : {V A : Type 0} (v : Vec V A) (ws : List V) → length ws ≡ length v.items → (vec_put v ws).items ≡ ws
vec_put_items v ws e = with_items_is v ws (e ∙ sym v.ok.0)
