-- Which step of a reading tells a name, and what that says of the octets.
use Rattle.std.proofs.Common.{◌≡◌, ◌∙◌, ◌⊎◌, inl, inr, refl, sym, ap, ℕ, ◌==◌, List, ◌++◌, Option, Some, None, Ok, Err, option_map}
use Rattle.std.specs.Int.Digits.{AllBelowBase}
use Rattle.asn1_core.proofs.Cases.{chosen}
use Rattle.asn1_core.specs.Elements.{Element}
use Rattle.asn1_any.specs.Cutting.{Piece, IsPiece}
use Rattle.asn1_any.specs.Reading.{any_der}
use Rattle.x509_core.specs.Answers.{Answer, Why, named, plain, naming, ◌>>=◌}
use Rattle.x509_core.specs.Grammar.{Grammar, NoneBegins}
use Rattle.x509_core.specs.Reading.{Reader, piece_at, piece_before, content_in, next}
use Rattle.x509_core.specs.declared.error.X509Error.{X509Error}
use Rattle.x509_core.proofs.FrontLaws.{named_reading}
use Rattle.x509_core.proofs.Grammars.{IsReading, content_below, front_below, piece_found, piece_only}
use Rattle.x509_core.proofs.LeafLaws.{content_found, content_only}
use Rattle.laws_x509.specs.Refused.{Then, Inside}

-- ---- the step that refuses

pub which_step : {A B : Type 0} (a : Answer A) (f : A → Answer B) (e : X509Error) → a >>= f ≡ Err (named e) → (a ≡ Err (named e)) ⊎ ((x : A) × (a ≡ Ok x) × (f x ≡ Err (named e)))
which_step (Ok x) f e given = inr (x, refl, given)
which_step (Err y) f e given = let same : y ≡ named e = cc in inl (ap (λ z. Err z) same)

pub told_by : {A : Type 0} (x : X509Error) (a : Answer A) (w : Why) → naming x a ≡ Err w → (w ≡ named x) × ((y : Why) × (a ≡ Err y))
told_by x (Ok v) w given = cc
told_by x (Err y) w given = let same : w ≡ named x = cc in (same, (y, refl))

pub name_is : (e x : X509Error) → named e ≡ named x → e ≡ x
name_is e x given = cc

-- ---- what has no name

pub plain_silent : {A : Type 0} (o : Option A) (e : X509Error) → plain o ≡ Err (named e) → ⊥
plain_silent (Some x) e given = cc
plain_silent None e given = cc

pub piece_silent : (i : List ℕ) (e : X509Error) → piece_at i ≡ Err (named e) → ⊥
unfolding piece_at
piece_silent i e given = plain_silent (option_map (piece_before i) (any_der i)) e given

pub content_silent : (n : ℕ) (e : Element) (x : X509Error) → content_in n e ≡ Err (named x) → ⊥
content_silent n e x given =
    elim (chosen (e.tag == n) _ _ _ given) [
      | inl same ↦ let wrong = same.1 in cc
      | inr other ↦ let wrong = other.1 in cc
    ]

-- ---- parts, one after another

-- a part was read, and what comes after it is refused
pub record Passed {A B : Type 0} (P : Grammar A) (i : List ℕ) (f : A × List ℕ → Answer B) (e : X509Error) : Type 0 where
  pub value : A
  pub after : List ℕ
  pub begins : P i value after
  pub below : AllBelowBase 256 after
  pub refused : f (value, after) ≡ Err (named e)

pub part_step : {A B : Type 0} (P : Grammar A) (p : Reader A) → IsReading P p → (i : List ℕ) (f : A × List ℕ → Answer B) (e : X509Error) → AllBelowBase 256 i → p i >>= f ≡ Err (named e) → (p i ≡ Err (named e)) ⊎ Passed P i f e
part_step P p reading i f e below given =
    elim (which_step (p i) f e given) [
      | inl here ↦ inl here
      | inr step ↦
          let is = reading.found i step.0.0 step.0.1 below step.1 in
          inr (record { value = step.0.0; after = step.0.1; begins = is.0; below = is.1; refused = step.2 })
    ]

-- what is refused isn't there
pub not_there : {A : Type 0} (P : Grammar A) (p : Reader A) → IsReading P p → (i : List ℕ) (w : Why) → AllBelowBase 256 i → p i ≡ Err w → NoneBegins P i
not_there P p reading i w below given v r is = let there = reading.only i v r below is in cc

pub told_none : {A : Type 0} (P : Grammar A) (p : Reader A) → IsReading P p → (x : X509Error) (i : List ℕ) (e : X509Error) → AllBelowBase 256 i → naming x (p i) ≡ Err (named e) → (e ≡ x) × NoneBegins P i
told_none P p reading x i e below given =
    let told = told_by x (p i) (named e) given in
    (name_is e x told.0, not_there P p reading i told.1.0 below told.1.1)

-- a part that is refused by a name
pub named_step : {A B : Type 0} (P : Grammar A) (p : Reader A) → IsReading P p → (x : X509Error) (i : List ℕ) (f : A × List ℕ → Answer B) (e : X509Error) → AllBelowBase 256 i → naming x (p i) >>= f ≡ Err (named e)
    → ((e ≡ x) × NoneBegins P i) ⊎ Passed P i f e
named_step P p reading x i f e below given =
    elim (part_step P (λ j. naming x (p j)) (named_reading P p x reading) i f e below given) [
      | inl here ↦ inl (told_none P p reading x i e below here)
      | inr step ↦ inr step
    ]

-- ---- what isn't there is refused

refused_by : {A : Type 0} (P : Grammar A) (p : Reader A) → IsReading P p → (i : List ℕ) (o : Answer (A × List ℕ)) → AllBelowBase 256 i → p i ≡ o → NoneBegins P i → (w : Why) × (p i ≡ Err w)
refused_by P p reading i (Ok x) below read none = absurd (none x.0 x.1 (reading.found i x.0 x.1 below read).0)
refused_by P p reading i (Err y) below read none = (y, read)

pub is_refused : {A : Type 0} (P : Grammar A) (p : Reader A) → IsReading P p → (i : List ℕ) → AllBelowBase 256 i → NoneBegins P i → (w : Why) × (p i ≡ Err w)
is_refused P p reading i below none = refused_by P p reading i (p i) below refl none

pub none_told : {A : Type 0} (P : Grammar A) (p : Reader A) → IsReading P p → (x : X509Error) (i : List ℕ) → AllBelowBase 256 i → NoneBegins P i → naming x (p i) ≡ Err (named x)
none_told P p reading x i below none = ap (naming x) (is_refused P p reading i below none).1

-- ---- the content of an element

-- an element at the front that is refused
pub record Opened {A : Type 0} (p : Piece → Answer A) (i : List ℕ) (e : X509Error) : Type 0 where
  pub piece : Piece
  pub after : List ℕ
  pub spells : IsPiece piece
  pub whole : i ≡ piece.octets ++ after
  pub below : AllBelowBase 256 piece.element.content
  pub refused : p piece ≡ Err (named e)

pub element_step : {A : Type 0} (p : Piece → Answer A) (i : List ℕ) (e : X509Error) → AllBelowBase 256 i → next p i ≡ Err (named e) → Opened p i e
element_step p i e below given =
    elim (which_step (piece_at i) _ e given) [
      | inl here ↦ absurd (piece_silent i e here)
      | inr step ↦
          let is = piece_found i step.0.0 step.0.1 below step.1 in
          elim (which_step (p step.0.0) _ e step.2) [
            | inl here ↦ record {
              piece = step.0.0;
              after = step.0.1;
              spells = is.spells;
              whole = is.whole;
              below = content_below step.0.0 is.spells (front_below i step.0.0.octets step.0.1 is.whole below);
              refused = here;
            }
            | inr last ↦ let wrong = last.2 in cc
          ]
    ]

pub content_step : {A : Type 0} (n : ℕ) (e : Element) (g : List ℕ → Answer A) (x : X509Error) → content_in n e >>= g ≡ Err (named x) → (e.tag ≡ n) × (g e.content ≡ Err (named x))
content_step n e g x given =
    elim (which_step (content_in n e) g x given) [
      | inl here ↦ absurd (content_silent n e x here)
      | inr step ↦ let is = content_found n e step.0 step.1 in (is.0, ap g is.1 ∙ step.2)
    ]

-- an element whose content is read further tells what that reading tells
pub inside_told : {A : Type 0} (n : ℕ) (p : Piece → Answer A) (g : Piece → List ℕ → Answer A) (Q : List ℕ → Type 0) (i : List ℕ) (e : X509Error) → ((q : Piece) → p q ≡ content_in n q.element >>= g q) → AllBelowBase 256 i
    → ((q : Piece) → AllBelowBase 256 q.element.content → g q q.element.content ≡ Err (named e) → Q q.element.content) → next p i ≡ Err (named e) → Inside n Q i
inside_told n p g Q i e same below go given =
    let opened = element_step p i e below given in
    let step = content_step n opened.piece.element (g opened.piece) e (sym (same opened.piece) ∙ opened.refused) in
    record { piece = opened.piece; after = opened.after; spells = opened.spells; whole = opened.whole; tag = step.0; inner = go opened.piece opened.below step.1 }

pub inside_only : {A : Type 0} (n : ℕ) (p : Piece → Answer A) (g : Piece → List ℕ → Answer A) (Q : List ℕ → Type 0) (i : List ℕ) (e : X509Error) → ((q : Piece) → p q ≡ content_in n q.element >>= g q) → AllBelowBase 256 i
    → ((q : Piece) → AllBelowBase 256 q.element.content → Q q.element.content → g q q.element.content ≡ Err (named e)) → Inside n Q i → next p i ≡ Err (named e)
inside_only n p g Q i e same below go is =
    let content = content_below is.piece is.spells (front_below i is.piece.octets is.after is.whole below) in
    let read : p is.piece ≡ Err (named e) = same is.piece ∙ ap (λ z. z >>= g is.piece) (content_only n is.piece.element is.tag) ∙ go is.piece content is.inner in
    rw (piece_only i is.piece is.after is.spells is.whole, read) refl

-- ---- what is known of a content

pub apart : (E : Type 0) (n : ℕ) (Q : List ℕ → Type 0) (i : List ℕ) → Inside n (λ o. E × Q o) i → E × Inside n Q i
apart E n Q i is = (is.inner.0, record { piece = is.piece; after = is.after; spells = is.spells; whole = is.whole; tag = is.tag; inner = is.inner.1 })

pub either_apart : (E F : Type 0) (n : ℕ) (Q R : List ℕ → Type 0) (i : List ℕ) → Inside n (λ o. (E × Q o) ⊎ (F × R o)) i → (E × Inside n Q i) ⊎ (F × Inside n R i)
either_apart E F n Q R i is =
    elim is.inner [
      | inl here ↦ inl (here.0, record { piece = is.piece; after = is.after; spells = is.spells; whole = is.whole; tag = is.tag; inner = here.1 })
      | inr here ↦ inr (here.0, record { piece = is.piece; after = is.after; spells = is.spells; whole = is.whole; tag = is.tag; inner = here.1 })
    ]
