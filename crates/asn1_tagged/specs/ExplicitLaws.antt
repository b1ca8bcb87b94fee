-- A value with an explicit tag has the laws if the value has: what is written is read back.
use Rattle.std.proofs.Common.{arith, ◌≡◌, refl, sym, ap, subst, ℕ, ◌^◌, ◌<◌, true, List, [], ◌++◌, Option, Some, nat_lt, lt-ltb, length-append}
use Rattle.std.proofs.lemmas.List.{append-nil}
use Rattle.asn1_core.specs.Strict.{strict_header}
use Rattle.asn1_core.specs.Elements.{Element, head_of_element, IsElement}
use Rattle.asn1_any.specs.BerElements.{BerElement}
use Rattle.asn1_any.proofs.DerLaws.{strict_begins}
use Rattle.asn1_traits.specs.Elements.{ReadsElement}
use Rattle.asn1_traits.specs.Writes.{written, IsLong, IsOneElement, HasTag}
use Rattle.asn1_traits.specs.LeafLaws.{short_element, same_element}
use Rattle.asn1_traits.specs.ListLaws.{BackEach, SameEach}
use Rattle.asn1_tagged.specs.Tagging.{IsExplicit, ExplicitMeans, explicit_element, IsExplicitForm}

-- the element with an explicit tag of a class
abbrev wrapped : ℕ → ℕ → Option Element → Element
wrapped class tag o = record { class = class; constructed = true; tag = tag; content = written o }

wraps : (class tag : ℕ) (o : Option Element) → class < 4 → explicit_element class tag o ≡ Some (wrapped class tag o)
wraps class tag o p = let e : nat_lt class 4 ≡ true = lt-ltb class 4 p in rw e refl

pub explicit_one : (class tag : ℕ) (form : Type 0) (o : Option Element) → IsExplicitForm class tag form → IsOneElement (explicit_element class tag o)
explicit_one class tag form o f = let P : Option Element → Type 0 = λ z. IsOneElement z in subst P (sym (wraps class tag o f.class_is)) (f.class_is, f.tag_is)

pub explicit_tag : (class tag : ℕ) (form : Type 0) (o : Option Element) → IsExplicitForm class tag form → HasTag tag (explicit_element class tag o)
explicit_tag class tag form o f = let P : Option Element → Type 0 = λ z. HasTag tag z in subst P (sym (wraps class tag o f.class_is)) refl

wrapped_short : (class tag : ℕ) (o : Option Element) → class < 4 → (IsLong (written (explicit_element class tag o)) → ⊥) → IsLong (written (Some (wrapped class tag o))) → ⊥
wrapped_short class tag o p short = let P : Option Element → Type 0 = λ z. IsLong (written z) → ⊥ in subst P (wraps class tag o p) short

inner_short : (class tag : ℕ) (o : Option Element) → (IsLong (written (Some (wrapped class tag o))) → ⊥) → IsLong (written o) → ⊥
inner_short class tag o short long = short (omega (arith, long, length-append (strict_header (head_of_element (wrapped class tag o))) (written o)))

wrapped_range : (class tag : ℕ) (o : Option Element) → class < 4 → tag < 2 ^ 32 → (IsLong (written (Some (wrapped class tag o))) → ⊥) → IsElement (wrapped class tag o)
wrapped_range class tag o p q short = short_element (wrapped class tag o) p q short

-- read back before any rest; `put` puts another value in the tag
pub explicit_back : {V X : Type 0} (class tag : ℕ) (formed : V → Type 0) (element : V → Option Element) (reads : List ℕ → V → List ℕ → Type 0) (inner : X → V) (put : X → V → X) →
    ((x : X) (v : V) → inner (put x v) ≡ v) → BackEach formed element reads →
    (x : X) (rest : List ℕ) → IsExplicitForm class tag (formed (inner x)) → (IsLong (written (explicit_element class tag (element (inner x)))) → ⊥) →
    (w : X) × ReadsElement (λ e y. ExplicitMeans class tag reads e (inner y)) (written (explicit_element class tag (element (inner x))) ++ rest) w rest
explicit_back {V} {X} class tag formed element reads inner put put_inner back x rest f short =
    let o = element (inner x) in
    let e = wrapped class tag o in
    let brief = wrapped_short class tag o f.class_is short in
    let found = back (inner x) [] f.inner (inner_short class tag o brief) in
    let Reads : List ℕ → Type 0 = λ z. reads z found.0 [] in
    let read : reads (written o) found.0 [] = subst Reads (append-nil (written o)) found.1 in
    let Inner : V → Type 0 = λ z. reads (written o) z [] in
    let is : IsExplicit class tag e = record { tagged = record { class_is = refl; tag_is = refl }; constructed = refl } in
    let Means : BerElement → X → Type 0 = λ z y. ExplicitMeans class tag reads z (inner y) in
    let whole : ReadsElement Means (written (Some e) ++ rest) (put x found.0) rest =
    record {
      element = e;
      begins = strict_begins e rest (wrapped_range class tag o f.class_is f.tag_is brief);
      meant = record { explicit = is; rest = []; begins = subst Inner (sym (put_inner x found.0)) read };
    } in
    let Whole : Option Element → Type 0 = λ z. ReadsElement Means (written z ++ rest) (put x found.0) rest in
    (put x found.0, subst Whole (sym (wraps class tag o f.class_is)) whole)

-- whatever is read back is written as equal octets
pub explicit_same : {V X : Type 0} (class tag : ℕ) (formed : V → Type 0) (element : V → Option Element) (reads : List ℕ → V → List ℕ → Type 0) (inner : X → V) → SameEach formed element reads →
    (x w : X) (rest r : List ℕ) → IsExplicitForm class tag (formed (inner x)) → (IsLong (written (explicit_element class tag (element (inner x)))) → ⊥) →
    ReadsElement (λ e y. ExplicitMeans class tag reads e (inner y)) (written (explicit_element class tag (element (inner x))) ++ rest) w r →
    explicit_element class tag (element (inner w)) ≡ explicit_element class tag (element (inner x))
explicit_same {V} {X} class tag formed element reads inner same x w rest r f short read =
    let o = element (inner x) in
    let e = wrapped class tag o in
    let brief = wrapped_short class tag o f.class_is short in
    let Means : BerElement → X → Type 0 = λ z y. ExplicitMeans class tag reads z (inner y) in
    let Whole : Option Element → Type 0 = λ z. ReadsElement Means (written z ++ rest) w r in
    let again : ReadsElement Means (written (Some e) ++ rest) w r = subst Whole (wraps class tag o f.class_is) read in
    let is : again.element ≡ e = same_element e again.element rest r (wrapped_range class tag o f.class_is f.tag_is brief) again.begins in
    let Begins : Element → Type 0 = λ z. reads z.content (inner w) again.meant.rest in
    let begins : reads (written o) (inner w) again.meant.rest = subst Begins is again.meant.begins in
    let Reads : List ℕ → Type 0 = λ z. reads z (inner w) again.meant.rest in
    ap (explicit_element class tag) (same (inner x) (inner w) [] again.meant.rest f.inner (inner_short class tag o brief) (subst Reads (sym (append-nil (written o))) begins))
