-- Octets written out by hand: elements with short headers.
use Rattle.std.proofs.Common.{◌≡◌, inl, refl, ap, subst, ℕ, ◌<◌, List, [], ◌∷◌, ◌++◌, Bool, length, arith}
use Rattle.asn1_core.specs.Strict.{lead}
use Rattle.asn1_any.specs.Cutting.{Piece, IsPiece}
use Rattle.x509_core.specs.Grammar.{Header, NoneBegins, One}
use Rattle.x509_core.proofs.Grammars.{piece_only}

-- an element with a short header
abbrev pub tlv : ℕ → Bool → ℕ → List ℕ → List ℕ
tlv class constructed tag content = lead class constructed tag ∷ length content ∷ content

abbrev pub piece : ℕ → Bool → ℕ → List ℕ → Piece
piece class constructed tag content = record {
  octets = tlv class constructed tag content;
  element = record { class = class; constructed = constructed; tag = tag; content = content };
}

pub spelled : (class : ℕ) (constructed : Bool) (tag : ℕ) (content : List ℕ) → class < 4 → tag < 31 → length content < 128 → IsPiece (piece class constructed tag content)
spelled class constructed tag content in_class in_tag short = record {
  header = lead class constructed tag ∷ length content ∷ [];
  in_range = record { class = in_class; tag = omega (arith, in_tag); size = omega (arith, short) };
  spells = record {
    identifier = lead class constructed tag ∷ [];
    size = length content ∷ [];
    whole = refl;
    spells_identifier = inl (in_tag, refl);
    spells_length = inl (short, refl);
  };
  whole = refl;
}

pub one : {A : Type 0} (M : Piece → A → Type 0) (class : ℕ) (constructed : Bool) (tag : ℕ) (content : List ℕ) (v : A) (rest : List ℕ) → class < 4 → tag < 31 → length content < 128
    → M (piece class constructed tag content) v → One M (tlv class constructed tag content ++ rest) v rest
one M class constructed tag content v rest in_class in_tag short means =
    record { piece = piece class constructed tag content; spells = spelled class constructed tag content in_class in_tag short; whole = refl; means = means }

-- what the element at the front doesn't mean doesn't begin there
pub none_here : {A : Type 0} (M : Piece → A → Type 0) (p : Piece) (rest : List ℕ) → IsPiece p → ((v : A) → M p v → ⊥) → NoneBegins (One M) (p.octets ++ rest)
none_here M p rest spells none v r is =
    let mine = piece_only (p.octets ++ rest) p rest spells refl in
    let other = piece_only (p.octets ++ rest) is.piece r is.spells is.whole in
    let both : ◌≡◌ {A = Piece × List ℕ} (is.piece, r) (p, rest) = cc in
    none v (subst (λ z. M z v) (ap (λ (z : Piece × List ℕ). z.0) both) is.means)

-- a header alone, of one octet of length
pub header_is : (class : ℕ) (constructed : Bool) (tag size : ℕ) (rest : List ℕ) → class < 4 → tag < 31 → size < 128
    → Header (lead class constructed tag ∷ size ∷ rest) (record { class = class; constructed = constructed; tag = tag; size = size }) rest
header_is class constructed tag size rest in_class in_tag short = record {
  front = lead class constructed tag ∷ size ∷ [];
  in_range = record { class = in_class; tag = omega (arith, in_tag); size = omega (arith, short) };
  spells = record {
    identifier = lead class constructed tag ∷ [];
    size = size ∷ [];
    whole = refl;
    spells_identifier = inl (in_tag, refl);
    spells_length = inl (short, refl);
  };
  whole = refl;
}
