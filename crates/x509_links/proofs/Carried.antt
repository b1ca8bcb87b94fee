-- A meaning of elements is carried to another one, and so is each grammar made of it.
use Rattle.std.proofs.Common.{◌≡◌, ◌∙◌, refl, ap, subst, ℕ, List, [], ◌∷◌, ◌++◌, append-nil, map, Option, Some, None, option_map}
use Rattle.std.specs.Int.Digits.{AllBelowBase}
use Rattle.asn1_core.proofs.Numbers.{append_below}
use Rattle.asn1_any.specs.Cutting.{Piece, IsPiece}
use Rattle.x509_core.specs.Grammar.{NoneBegins, One, Holds, Within, ToEnd, AsMany, Maybe}
use Rattle.x509_core.proofs.Grammars.{content_below, front_below}

-- what an element of octets means by M, turned by f, it means by N
abbrev pub Carries : {A B : Type 0} (M : Piece → A → Type 0) (N : Piece → B → Type 0) (f : A → B) → Type 0
Carries {A} M N f = (q : Piece) (v : A) → IsPiece q → AllBelowBase 256 q.octets → M q v → N q (f v)

-- what is left after an element
pub after_one : {A : Type 0} (M : Piece → A → Type 0) (i : List ℕ) (v : A) (r : List ℕ) → AllBelowBase 256 i → One M i v r → AllBelowBase 256 r
after_one M i v r below is = let whole = is.whole in append_below 256 is.piece.octets r (subst (AllBelowBase 256) whole below)

pub one_carried : {A B : Type 0} (M : Piece → A → Type 0) (N : Piece → B → Type 0) (f : A → B) → Carries M N f → (i : List ℕ) (v : A) (r : List ℕ) → AllBelowBase 256 i → One M i v r → One N i (f v) r
one_carried M N f carry i v r below is = record {
  piece = is.piece;
  spells = is.spells;
  whole = is.whole;
  means = carry is.piece v is.spells (front_below i is.piece.octets r is.whole below) is.means;
}

-- whatever comes after the element
pub one_before : {A : Type 0} (M : Piece → A → Type 0) (i : List ℕ) (v : A) (rest : List ℕ) → One M i v [] → One M (i ++ rest) v rest
one_before M i v rest is = record {
  piece = is.piece;
  spells = is.spells;
  whole = ap (λ z. z ++ rest) (is.whole ∙ append-nil is.piece.octets);
  means = is.means;
}

pub none_carried : {A B : Type 0} (M : Piece → A → Type 0) (N : Piece → B → Type 0) (g : B → A) → Carries N M g → (i : List ℕ) → AllBelowBase 256 i → NoneBegins (One M) i → NoneBegins (One N) i
none_carried M N g back i below none = λ v r is. none (g v) r (one_carried N M g back i v r below is)

-- if both meanings are carried to each other
pub many_carried : {A B : Type 0} (M : Piece → A → Type 0) (N : Piece → B → Type 0) (f : A → B) (g : B → A) → Carries M N f → Carries N M g
    → (vs : List A) (i r : List ℕ) → AllBelowBase 256 i → AsMany (One M) i vs r → AsMany (One N) i (map f vs) r
unfolding AsMany
many_carried M N f g carry back [] i r below is = (is.0, none_carried M N g back i below is.1)
many_carried M N f g carry back (v ∷ vs) i r below is =
    (is.0, one_carried M N f carry i v is.0 below is.1, many_carried M N f g carry back vs is.0 r (after_one M i v is.0 below is.1) is.2)

pub maybe_carried : {A B : Type 0} (M : Piece → A → Type 0) (N : Piece → B → Type 0) (f : A → B) (g : B → A) → Carries M N f → Carries N M g
    → (o : Option A) (i r : List ℕ) → AllBelowBase 256 i → Maybe (One M) i o r → Maybe (One N) i (option_map f o) r
maybe_carried M N f g carry back None i r below is = (is.0, none_carried M N g back i below is.1)
maybe_carried M N f g carry back (Some v) i r below is = one_carried M N f carry i v r below is

pub after_maybe : {A : Type 0} (M : Piece → A → Type 0) (o : Option A) (i r : List ℕ) → AllBelowBase 256 i → Maybe (One M) i o r → AllBelowBase 256 r
after_maybe M None i r below is = subst (AllBelowBase 256) is.0 below
after_maybe M (Some v) i r below is = after_one M i v r below is

-- elements to the end of a content
pub all_carried : {A B : Type 0} (n : ℕ) (M : Piece → A → Type 0) (N : Piece → B → Type 0) (f : A → B) (g : B → A) → Carries M N f → Carries N M g
    → Carries (Holds n (ToEnd (One M))) (Holds n (ToEnd (One N))) (map f)
all_carried n M N f g carry back = λ q vs spells below is. (
  is.0,
  record { tag = is.1.tag; inner = (many_carried M N f g carry back vs q.element.content [] (content_below q spells below) is.1.inner.0, is.1.inner.1) },
)
