-- A sequence of two values.
use Rattle.std.proofs.Common.{arith, ◌≡◌, ◌∙◌, refl, sym, ap, subst, ℕ, ◌^◌, ◌<◌, true, List, [], ◌++◌, Option, Some, length-append, lit<}
use Rattle.std.proofs.lemmas.List.{append-nil}
use Rattle.asn1_core.specs.Strict.{strict_header}
use Rattle.asn1_core.specs.Elements.{Element, head_of_element, IsElement}
use Rattle.asn1_any.specs.BerElements.{BerElement, element_of_ber}
use Rattle.asn1_any.proofs.DerLaws.{strict_begins}
use Rattle.asn1_traits.specs.Elements.{ReadsElement}
use Rattle.asn1_traits.specs.Lists.{IsContainer}
use Rattle.asn1_traits.specs.Writes.{written, IsLong, IsOneElement}
use Rattle.asn1_traits.specs.LeafLaws.{short_element, same_element}
use Rattle.asn1_traits.specs.ListLaws.{BackEach, SameEach, OneRest}

-- a sequence whose content is the two values and nothing else
pub record PairMeans {A B : Type 0} (first : List ℕ → A → List ℕ → Type 0) (second : List ℕ → B → List ℕ → Type 0) (e : BerElement) (a : A) (b : B) : Type 0 where
  pub container : IsContainer 16 (element_of_ber e)
  pub middle : List ℕ
  pub begins : first e.content a middle
  pub ends : second middle b []

-- what is written
abbrev pub pair_element : Option Element → Option Element → Element
pair_element x y = record { class = 0; constructed = true; tag = 16; content = written x ++ written y }

pub pair_one : (x y : Option Element) → IsOneElement (Some (pair_element x y))
pair_one x y = (lit< tt, lit< tt)

range : (x y : Option Element) → (IsLong (written (Some (pair_element x y))) → ⊥) → IsElement (pair_element x y)
range x y short = short_element (pair_element x y) (lit< tt) (lit< tt) short

first_short : (x y : Option Element) → (IsLong (written (Some (pair_element x y))) → ⊥) → IsLong (written x) → ⊥
first_short x y short long = short (omega (arith, long, length-append (strict_header (head_of_element (pair_element x y))) (written x ++ written y), length-append (written x) (written y)))

second_short : (x y : Option Element) → (IsLong (written (Some (pair_element x y))) → ⊥) → IsLong (written y) → ⊥
second_short x y short long = short (omega (arith, long, length-append (strict_header (head_of_element (pair_element x y))) (written x ++ written y), length-append (written x) (written y)))

pub pair_back : {A B P : Type 0} (make : A → B → P) (fst : P → A) (snd : P → B) → ((a : A) (b : B) → fst (make a b) ≡ a) → ((a : A) (b : B) → snd (make a b) ≡ b) →
    (fa : A → Type 0) (ea : A → Option Element) (ra : List ℕ → A → List ℕ → Type 0) (fb : B → Type 0) (eb : B → Option Element) (rb : List ℕ → B → List ℕ → Type 0) →
    BackEach fa ea ra → BackEach fb eb rb → (p : P) (rest : List ℕ) → fa (fst p) × fb (snd p) → (IsLong (written (Some (pair_element (ea (fst p)) (eb (snd p))))) → ⊥) →
    (w : P) × ReadsElement (λ e v. PairMeans ra rb e (fst v) (snd v)) (written (Some (pair_element (ea (fst p)) (eb (snd p)))) ++ rest) w rest
pair_back {A} {B} make fst snd is_fst is_snd fa ea ra fb eb rb back_a back_b p rest form short =
    let x = ea (fst p) in
    let y = eb (snd p) in
    let e = pair_element x y in
    let a = back_a (fst p) (written y) form.0 (first_short x y short) in
    let b = back_b (snd p) [] form.1 (second_short x y short) in
    let Second : List ℕ → Type 0 = λ z. rb z b.0 [] in
    let plain : rb (written y) b.0 [] = subst Second (append-nil (written y)) b.1 in
    let First : A → Type 0 = λ z. ra (written x ++ written y) z (written y) in
    let Last : B → Type 0 = λ z. rb (written y) z [] in
    let w = make a.0 b.0 in (
      w,
      record {
        element = e;
        begins = strict_begins e rest (range x y short);
        meant = record {
          container = record { class_is = refl; constructed = refl; tag_is = refl };
          middle = written y;
          begins = subst First (sym (is_fst a.0 b.0)) a.1;
          ends = subst Last (sym (is_snd a.0 b.0)) plain;
        };
      },
    )

pub pair_same : {A B P : Type 0} (fst : P → A) (snd : P → B) →
    (fa : A → Type 0) (ea : A → Option Element) (ra : List ℕ → A → List ℕ → Type 0) (fb : B → Type 0) (eb : B → Option Element) (rb : List ℕ → B → List ℕ → Type 0) →
    BackEach fa ea ra → SameEach fa ea ra → OneRest ra → SameEach fb eb rb → (p w : P) (rest r : List ℕ) → fa (fst p) × fb (snd p) →
    (IsLong (written (Some (pair_element (ea (fst p)) (eb (snd p))))) → ⊥) →
    ReadsElement (λ e v. PairMeans ra rb e (fst v) (snd v)) (written (Some (pair_element (ea (fst p)) (eb (snd p)))) ++ rest) w r →
    Some (pair_element (ea (fst w)) (eb (snd w))) ≡ Some (pair_element (ea (fst p)) (eb (snd p)))
pair_same {A} {B} fst snd fa ea ra fb eb rb back_a same_a once_a same_b p w rest r form short read =
    let x = ea (fst p) in
    let y = eb (snd p) in
    let e = pair_element x y in
    let is : read.element ≡ e = same_element e read.element rest r (range x y short) read.begins in
    let m = read.meant in
    let First : Element → Type 0 = λ z. ra z.content (fst w) m.middle in
    let begins : ra (written x ++ written y) (fst w) m.middle = subst First is m.begins in
    let found = back_a (fst p) (written y) form.0 (first_short x y short) in
    let middle : m.middle ≡ written y = once_a (written x ++ written y) (fst w) found.0 m.middle (written y) begins found.1 in
    let one : ea (fst w) ≡ x = same_a (fst p) (fst w) (written y) m.middle form.0 (first_short x y short) begins in
    let Last : List ℕ → Type 0 = λ z. rb z (snd w) [] in
    let ends : rb (written y ++ []) (snd w) [] = subst Last (sym (append-nil (written y))) (subst Last middle m.ends) in
    let two : eb (snd w) ≡ y = same_b (snd p) (snd w) [] [] form.1 (second_short x y short) ends in
    ap (λ z. Some (pair_element z (eb (snd w)))) one ∙ ap (λ z. Some (pair_element x z)) two
