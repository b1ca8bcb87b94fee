-- A value with an implicit tag has the laws if the value has: what is written is read back.
use Rattle.std.proofs.Common.{arith, ◌≡◌, ◌∙◌, refl, sym, ap, subst, ℕ, ◌<◌, true, List, [], ◌++◌, Option, Some, None, nat_lt, lt-ltb}
use Rattle.asn1_core.specs.Elements.{Element, element_octets, IsElement}
use Rattle.asn1_any.specs.BerElements.{BerElement, definite_element}
use Rattle.asn1_any.proofs.DerLaws.{strict_begins}
use Rattle.asn1_traits.specs.Elements.{ReadsElement}
use Rattle.asn1_traits.specs.Writes.{written, IsLong, IsOneElement, HasTag}
use Rattle.asn1_traits.specs.LeafLaws.{short_element, same_element}
use Rattle.asn1_traits.specs.ListLaws.{OneEach, BackEach, SameEach}
use Rattle.asn1_tagged.specs.Tagging.{IsTagged, retagged, ImplicitMeans, implicit_element, IsImplicitForm}

-- the value's own element, of its type's class and tag number
record Own (own_class own : ℕ) (o : Option Element) : Type 0 where
  element : Element
  is : o ≡ Some element
  class_is : element.class ≡ own_class
  tag_is : element.tag ≡ own

own_of : (class tag own_class own : ℕ) (form : Type 0) (o : Option Element) → IsImplicitForm class tag own_class own form o → Own own_class own o
own_of class tag own_class own form None f = absurd f.own_is
own_of class tag own_class own form (Some e) f = record { element = e; is = refl; class_is = f.own_is.0; tag_is = f.own_is.1 }

-- under another tag, and under its own again
back_again : (class tag own_class own : ℕ) (e : Element) → e.class ≡ own_class → e.tag ≡ own → retagged own_class own (retagged class tag e) ≡ e
back_again class tag own_class own e p q =
    ap (λ n. record { class = n; constructed = e.constructed; tag = own; content = e.content }) (sym p)
    ∙ ap (λ n. record { class = e.class; constructed = e.constructed; tag = n; content = e.content }) (sym q)

moves : (class tag : ℕ) (e : Element) (o : Option Element) → class < 4 → o ≡ Some e → implicit_element class tag o ≡ Some (retagged class tag e)
moves class tag e o p is = let t : nat_lt class 4 ≡ true = lt-ltb class 4 p in rw (t, is) refl

moved : (class tag own_class own : ℕ) (form : Type 0) (o : Option Element) (f : IsImplicitForm class tag own_class own form o) → implicit_element class tag o ≡ Some (retagged class tag (own_of class tag own_class own form o f).element)
moved class tag own_class own form o f = moves class tag (own_of class tag own_class own form o f).element o f.class_is (own_of class tag own_class own form o f).is

pub implicit_one : (class tag own_class own : ℕ) (form : Type 0) (o : Option Element) → IsImplicitForm class tag own_class own form o → IsOneElement (implicit_element class tag o)
implicit_one class tag own_class own form o f = let P : Option Element → Type 0 = λ z. IsOneElement z in subst P (sym (moved class tag own_class own form o f)) (f.class_is, f.tag_is)

pub implicit_tag : (class tag own_class own : ℕ) (form : Type 0) (o : Option Element) → IsImplicitForm class tag own_class own form o → HasTag tag (implicit_element class tag o)
implicit_tag class tag own_class own form o f = let P : Option Element → Type 0 = λ z. HasTag tag z in subst P (sym (moved class tag own_class own form o f)) refl

-- octets of an element that begins nothing else
alone : {V : Type 0} (means : BerElement → V → Type 0) (e : Element) (v : V) (rest : List ℕ) → IsElement e → ReadsElement means (element_octets e ++ rest) v [] → means (definite_element e) v
alone means e v rest in_range read = let P : Element → Type 0 = λ z. means (definite_element z) v in subst P (same_element e read.element rest [] in_range read.begins) read.meant

moved_short : (class tag own_class own : ℕ) (form : Type 0) (o : Option Element) (f : IsImplicitForm class tag own_class own form o) → (IsLong (written (implicit_element class tag o)) → ⊥) →
    IsLong (written (Some (retagged class tag (own_of class tag own_class own form o f).element))) → ⊥
moved_short class tag own_class own form o f short = let P : Option Element → Type 0 = λ z. IsLong (written z) → ⊥ in subst P (moved class tag own_class own form o f) short

-- both elements, under the value's own tag and under the other, are in range
own_range : (class tag own_class own : ℕ) (form : Type 0) (o : Option Element) (f : IsImplicitForm class tag own_class own form o) → IsOneElement o → IsElement (own_of class tag own_class own form o f).element
own_range class tag own_class own form o f one =
    let found = own_of class tag own_class own form o f in
    let One : Option Element → Type 0 = λ z. IsOneElement z in
    let Short : Option Element → Type 0 = λ z. IsLong (written z) → ⊥ in
    let is_one = subst One found.is one in
    short_element found.element is_one.0 is_one.1 (subst Short found.is f.short)

moved_range : (class tag own_class own : ℕ) (form : Type 0) (o : Option Element) (f : IsImplicitForm class tag own_class own form o) → (IsLong (written (implicit_element class tag o)) → ⊥) →
    IsElement (retagged class tag (own_of class tag own_class own form o f).element)
moved_range class tag own_class own form o f short =
    short_element (retagged class tag (own_of class tag own_class own form o f).element) f.class_is f.tag_is (moved_short class tag own_class own form o f short)

-- read back before any rest; `put` puts another value under the tag
pub implicit_back : {V X : Type 0} (class tag own_class own : ℕ) (formed : V → Type 0) (element : V → Option Element) (means : BerElement → V → Type 0) (inner : X → V) (put : X → V → X) →
    ((x : X) (v : V) → inner (put x v) ≡ v) → OneEach formed element → BackEach formed element (ReadsElement means) →
    (x : X) (rest : List ℕ) → IsImplicitForm class tag own_class own (formed (inner x)) (element (inner x)) → (IsLong (written (implicit_element class tag (element (inner x)))) → ⊥) →
    (w : X) × ReadsElement (λ e y. ImplicitMeans class tag own_class own means e (inner y)) (written (implicit_element class tag (element (inner x))) ++ rest) w rest
implicit_back {V} {X} class tag own_class own formed element means inner put put_inner one back x rest f short =
    let o = element (inner x) in
    let found = own_of class tag own_class own (formed (inner x)) o f in
    let e = found.element in
    let other = retagged class tag e in
    let again = back (inner x) [] f.inner f.short in
    let Reads : Option Element → Type 0 = λ z. ReadsElement means (written z ++ []) again.0 [] in
    let meant : means (definite_element e) again.0 = alone means e again.0 [] (own_range class tag own_class own (formed (inner x)) o f (one (inner x) f.inner)) (subst Reads found.is again.1) in
    let Back : Element → Type 0 = λ z. means (definite_element z) again.0 in
    let back_meant : means (definite_element (retagged own_class own other)) again.0 = subst Back (sym (back_again class tag own_class own e found.class_is found.tag_is)) meant in
    let Inner : V → Type 0 = λ z. means (definite_element (retagged own_class own other)) z in
    let is : IsTagged class tag other = record { class_is = refl; tag_is = refl } in
    let Means : BerElement → X → Type 0 = λ z y. ImplicitMeans class tag own_class own means z (inner y) in
    let whole : ReadsElement Means (written (Some other) ++ rest) (put x again.0) rest =
    record {
      element = other;
      begins = strict_begins other rest (moved_range class tag own_class own (formed (inner x)) o f short);
      meant = record { tagged = is; meant = subst Inner (sym (put_inner x again.0)) back_meant };
    } in
    let Whole : Option Element → Type 0 = λ z. ReadsElement Means (written z ++ rest) (put x again.0) rest in
    (put x again.0, subst Whole (sym (moved class tag own_class own (formed (inner x)) o f)) whole)

-- whatever is read back is written as equal octets
pub implicit_same : {V X : Type 0} (class tag own_class own : ℕ) (formed : V → Type 0) (element : V → Option Element) (means : BerElement → V → Type 0) (inner : X → V) →
    OneEach formed element → SameEach formed element (ReadsElement means) →
    (x w : X) (rest r : List ℕ) → IsImplicitForm class tag own_class own (formed (inner x)) (element (inner x)) → (IsLong (written (implicit_element class tag (element (inner x)))) → ⊥) →
    ReadsElement (λ e y. ImplicitMeans class tag own_class own means e (inner y)) (written (implicit_element class tag (element (inner x))) ++ rest) w r →
    implicit_element class tag (element (inner w)) ≡ implicit_element class tag (element (inner x))
implicit_same {V} {X} class tag own_class own formed element means inner one same x w rest r f short read =
    let o = element (inner x) in
    let found = own_of class tag own_class own (formed (inner x)) o f in
    let e = found.element in
    let other = retagged class tag e in
    let Means : BerElement → X → Type 0 = λ z y. ImplicitMeans class tag own_class own means z (inner y) in
    let Whole : Option Element → Type 0 = λ z. ReadsElement Means (written z ++ rest) w r in
    let again : ReadsElement Means (written (Some other) ++ rest) w r = subst Whole (moved class tag own_class own (formed (inner x)) o f) read in
    let is : again.element ≡ other = same_element other again.element rest r (moved_range class tag own_class own (formed (inner x)) o f short) again.begins in
    let Other : Element → Type 0 = λ z. means (definite_element (retagged own_class own z)) (inner w) in
    let meant : means (definite_element (retagged own_class own other)) (inner w) = subst Other is again.meant.meant in
    let Own : Element → Type 0 = λ z. means (definite_element z) (inner w) in
    let own_meant : means (definite_element e) (inner w) = subst Own (back_again class tag own_class own e found.class_is found.tag_is) meant in
    let own_read : ReadsElement means (written (Some e) ++ []) (inner w) [] = record { element = e; begins = strict_begins e [] (own_range class tag own_class own (formed (inner x)) o f (one (inner x) f.inner)); meant = own_meant } in
    let Reads : Option Element → Type 0 = λ z. ReadsElement means (written z ++ []) (inner w) [] in
    ap (implicit_element class tag) (same (inner x) (inner w) [] [] f.inner f.short (subst Reads (sym found.is) own_read))
