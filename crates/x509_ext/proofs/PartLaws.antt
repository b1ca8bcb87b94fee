-- Readers of versions, serial numbers and unique identifiers take what the relations say, and no more.
use Rattle.std.proofs.Common.{◌≡◌, ◌≢◌, ◌∙◌, refl, sym, ap, subst, ℕ, ◌==◌, ◌||◌, not, List, [], ◌∷◌, ◌++◌, Bool, true, false, arith, Option, Some, None, Ok, Err, if◌then◌else◌, inl, inr, append_assoc}
use Rattle.std.specs.Int.Digits.{AllBelowBase}
use Rattle.asn1_core.proofs.Cases.{chosen}
use Rattle.asn1_core.specs.Elements.{head_of_element}
use Rattle.asn1_core.specs.Strict.{Head}
use Rattle.asn1_any.specs.Cutting.{Piece, IsPiece}
use Rattle.x509_core.specs.Answers.{Answer, unnamed, plain}
use Rattle.x509_core.specs.Grammar.{One}
use Rattle.x509_core.specs.Reading.{piece_at, front_header_at, content_in, next}
use Rattle.x509_core.proofs.Pieces.{empty_read}
use Rattle.x509_core.proofs.FrontLaws.{named_reading}
use Rattle.x509_core.proofs.Grammars.{IsMeaning, IsReading, next_reading, two, content_below, front_below, piece_found, piece_only}
use Rattle.x509_core.proofs.LeafLaws.{equal_tags, tags_equal, tags_differ, differ_tags, content_found, content_only, option_meaning}
use Rattle.x509_core.specs.declared.error.X509Error.TheVariants as errors
use Rattle.x509_ext_parse.specs.x509_ext_flags.specs.Reading.{number_in}
use Rattle.x509_ext_parse.specs.x509_ext_flags.proofs.Laws.{number_found, number_only}
use Rattle.x509_items.proofs.HeaderLaws.{front_header_found, front_header_only}
use Rattle.x509_names.specs.Fields.{Bits}
use Rattle.x509_names.specs.Leaves.{AreBits}
use Rattle.x509_names.specs.Reading.{bits_of}
use Rattle.x509_names.proofs.LeafLaws.{bits_found, bits_only}
use Rattle.x509_ext.specs.Parts.{IsNumber, IsVersion, X509Version, IsTaggedVersion, IsOtherElement, IsSerial, IsIdentifier, IsOtherHeader, Version, version_at_end, version_absent, version_there, UniqueIdentifier, id_at_end, id_absent, id_there}
use Rattle.x509_ext.specs.Reading.{version_in, version_at, tagged_version_in, version_behind, any_version_at, implicit_bits_in, id_behind, id_at}

-- ---- versions

pub version_meaning : IsMeaning IsVersion (λ q. plain (version_in q.element))
unfolding version_in
version_meaning = option_meaning 2 IsNumber number_in number_found number_only

pub version_reading : IsReading X509Version version_at
version_reading = named_reading X509Version (next (λ q. plain (version_in q.element))) errors.InvalidVersion (next_reading IsVersion (λ q. plain (version_in q.element)) version_meaning)

tagged_found : (q : Piece) (v : ℕ) → AllBelowBase 256 q.element.content → q.element.tag ≡ 0 → tagged_version_in q.element ≡ Ok v → IsTaggedVersion q v
unfolding tagged_version_in
tagged_found q v below tag given =
    elim (chosen (q.element.class == 2) _ _ _ given) [
      | inl same ↦
          let step = two (next (λ p. plain (version_in p.element)) q.element.content) _ v same.1 in
          let number = (next_reading IsVersion (λ p. plain (version_in p.element)) version_meaning).found q.element.content step.0.0 step.0.1 below step.1 in
          let value : step.0.0 ≡ v = cc in
          record { class = equal_tags q.element.class 2 same.0; tag = tag; left = step.0.1; number = subst (λ z. X509Version q.element.content z step.0.1) value number.0 }
      | inr other ↦ let impossible = other.1 in cc
    ]

tagged_only : (q : Piece) (v : ℕ) → AllBelowBase 256 q.element.content → IsTaggedVersion q v → tagged_version_in q.element ≡ Ok v
unfolding tagged_version_in
tagged_only q v below is =
    let number = (next_reading IsVersion (λ p. plain (version_in p.element)) version_meaning).only q.element.content v is.left below is.number in
    rw (tags_equal q.element.class 2 is.class, number) refl

version_case : (x : ℕ) (s : List ℕ) (p : Piece × List ℕ) (v : ℕ) (r : List ℕ) → AllBelowBase 256 (x ∷ s) → piece_at (x ∷ s) ≡ Ok p → version_behind (x ∷ s) p ≡ Ok (v, r) → Version (x ∷ s) v r × AllBelowBase 256 r
version_case x s p v r below read given =
    let piece = piece_found (x ∷ s) p.0 p.1 below read in
    elim (chosen (p.0.element.tag == 0) _ _ _ given) [
      | inl same ↦
          let step = two (tagged_version_in p.0.element) _ (v, r) same.1 in
          let both : ◌≡◌ {A = ℕ × List ℕ} (step.0, p.1) (v, r) = cc in
          let content = content_below p.0 piece.spells (front_below (x ∷ s) p.0.octets p.1 piece.whole below) in
          let tagged = tagged_found p.0 step.0 content (equal_tags p.0.element.tag 0 same.0) step.1 in
          let here : One IsTaggedVersion (x ∷ s) step.0 p.1 = record { piece = p.0; spells = piece.spells; whole = piece.whole; means = tagged } in
          subst (λ (z : ℕ × List ℕ). Version (x ∷ s) z.0 z.1 × AllBelowBase 256 z.1) both (version_there here, piece.below)
      | inr other ↦
          let both : ◌≡◌ {A = ℕ × List ℕ} (0, x ∷ s) (v, r) = cc in
          let element : IsOtherElement 0 (x ∷ s) = record {
            piece = p.0;
            rest = p.1;
            begins = record { piece = p.0; spells = piece.spells; whole = piece.whole; means = refl };
            tag = tags_differ p.0.element.tag 0 other.0;
          } in
          subst (λ (z : ℕ × List ℕ). Version (x ∷ s) z.0 z.1 × AllBelowBase 256 z.1) both (version_absent element refl refl, below)
    ]

version_found : (i : List ℕ) (v : ℕ) (r : List ℕ) → AllBelowBase 256 i → any_version_at i ≡ Ok (v, r) → Version i v r × AllBelowBase 256 r
version_found [] v r below given =
    let both : ◌≡◌ {A = ℕ × List ℕ} (0, []) (v, r) = cc in
    subst (λ (z : ℕ × List ℕ). Version [] z.0 z.1 × AllBelowBase 256 z.1) both (version_at_end refl refl refl, tt)
version_found (x ∷ s) v r below given =
    let step = two (piece_at (x ∷ s)) (version_behind (x ∷ s)) (v, r) given in
    version_case x s step.0 v r below step.1 step.2

version_other : (i : List ℕ) → IsOtherElement 0 i → any_version_at i ≡ Ok (0, i)
version_other [] is = refl
version_other (x ∷ s) is =
    let one = is.begins in
    let read = piece_only (x ∷ s) one.piece is.rest one.spells one.whole in
    let tag : (one.piece.element.tag == 0) ≡ false = differ_tags one.piece.element.tag 0 (subst (λ (z : Piece). z.element.tag ≢ 0) one.means is.tag) in
    rw (read, tag) refl

version_tagged : (i : List ℕ) (v : ℕ) (r : List ℕ) → AllBelowBase 256 i → One IsTaggedVersion i v r → any_version_at i ≡ Ok (v, r)
version_tagged [] v r below is = let read = piece_only [] is.piece r is.spells is.whole in let none = empty_read [] refl in cc
version_tagged (x ∷ s) v r below is =
    let read = piece_only (x ∷ s) is.piece r is.spells is.whole in
    let content = content_below is.piece is.spells (front_below (x ∷ s) is.piece.octets r is.whole below) in
    rw (read, tags_equal is.piece.element.tag 0 is.means.tag, tagged_only is.piece v content is.means) refl

version_only : (i : List ℕ) (v : ℕ) (r : List ℕ) → AllBelowBase 256 i → Version i v r → any_version_at i ≡ Ok (v, r)
version_only i v r below (version_at_end none zero left) = rw (left, zero, none) refl
version_only i v r below (version_absent other zero left) = version_other i other ∙ ap (λ z. Ok (0, z)) (sym left) ∙ ap (λ z. Ok (z, r)) (sym zero)
version_only i v r below (version_there is) = version_tagged i v r below is

pub tagged_version_reading : IsReading Version any_version_at
tagged_version_reading = record { found = version_found; only = version_only }

-- ---- serial numbers

pub serial_meaning : IsMeaning IsSerial (λ q. content_in 2 q.element)
serial_meaning = record {
  found = λ q v spells below given. let is = content_found 2 q.element v given in record { tag = is.0; content = sym is.1 };
  only = λ q v spells below is. content_only 2 q.element is.tag ∙ ap (λ z. Ok z) (sym is.content);
}

-- ---- unique identifiers

implicit_case : (t c : Bool) (r : Answer Bits) (v : Bits) → (if not t || c then Err unnamed else r) ≡ Ok v → (t ≡ true) × (c ≡ false) × (r ≡ Ok v)
implicit_case true true r v given = cc
implicit_case true false r v given = (refl, refl, given)
implicit_case false c r v given = cc

-- the content of any tag number: the number was compared with the header's
record AreImplicitBits (q : Piece) (v : Bits) : Type 0 where
  class : q.element.class ≡ 2
  primitive : q.element.constructed ≡ false
  bits : AreBits q.element.content v

implicit_meaning : IsMeaning AreImplicitBits (λ q. implicit_bits_in q.element)
implicit_meaning = record {
  found = λ q v spells below given.
      let case = implicit_case (q.element.class == 2) q.element.constructed (bits_of q.element.content) v given in
      record { class = equal_tags q.element.class 2 case.0; primitive = case.1; bits = bits_found q.element.content v case.2 };
  only = λ q v spells below is. rw (tags_equal q.element.class 2 is.class, is.primitive) (bits_only q.element.content v is.bits);
}

-- the header of an element at the front is the one that is read there
element_header : (i : List ℕ) (q : Piece) (r : List ℕ) → IsPiece q → i ≡ q.octets ++ r → front_header_at i ≡ Ok (head_of_element q.element, q.element.content ++ r)
element_header i q r spells whole = front_header_only i (head_of_element q.element) (q.element.content ++ r) (record {
  front = spells.header;
  in_range = spells.in_range;
  spells = spells.spells;
  whole = whole ∙ ap (λ z. z ++ r) spells.whole ∙ append_assoc spells.header q.element.content r;
})

bits_of_tag : (n : ℕ) (i : List ℕ) (h : Head × List ℕ) (b : Bits) (r : List ℕ) → front_header_at i ≡ Ok h → h.0.tag ≡ n → One AreImplicitBits i b r → One (IsIdentifier n) i b r
bits_of_tag n i h b r read tag is =
    let same : ◌≡◌ {A = Head × List ℕ} h (head_of_element is.piece.element, is.piece.element.content ++ r) = let front = element_header i is.piece r is.spells is.whole in cc in
    let told : h.0.tag ≡ is.piece.element.tag = ap (λ (z : Head × List ℕ). z.0.tag) same in
    record { piece = is.piece; spells = is.spells; whole = is.whole; means = record { class = is.means.class; tag = sym told ∙ tag; primitive = is.means.primitive; bits = is.means.bits } }

id_case : (n x : ℕ) (s : List ℕ) (h : Head × List ℕ) (v : Option Bits) (r : List ℕ) → AllBelowBase 256 (x ∷ s) → front_header_at (x ∷ s) ≡ Ok h → id_behind n (x ∷ s) h ≡ Ok (v, r) → UniqueIdentifier n (x ∷ s) v r × AllBelowBase 256 r
id_case n x s h v r below read given =
    elim (chosen (h.0.tag == n) _ _ _ given) [
      | inl same ↦
          let step = two (next (λ p. implicit_bits_in p.element) (x ∷ s)) _ (v, r) same.1 in
          let both : ◌≡◌ {A = Option Bits × List ℕ} (Some step.0.0, step.0.1) (v, r) = cc in
          let is = (next_reading AreImplicitBits (λ p. implicit_bits_in p.element) implicit_meaning).found (x ∷ s) step.0.0 step.0.1 below step.1 in
          let here = bits_of_tag n (x ∷ s) h step.0.0 step.0.1 read (equal_tags h.0.tag n same.0) is.0 in
          subst (λ (z : Option Bits × List ℕ). UniqueIdentifier n (x ∷ s) z.0 z.1 × AllBelowBase 256 z.1) both (id_there step.0.0 refl here, is.1)
      | inr other ↦
          let both : ◌≡◌ {A = Option Bits × List ℕ} (None, x ∷ s) (v, r) = cc in
          let header = front_header_found (x ∷ s) h.0 h.1 below read in
          let absent : IsOtherHeader n (x ∷ s) = record { head = h.0; after = h.1; header = header.0; tag = tags_differ h.0.tag n other.0 } in
          subst (λ (z : Option Bits × List ℕ). UniqueIdentifier n (x ∷ s) z.0 z.1 × AllBelowBase 256 z.1) both (id_absent absent refl refl, below)
    ]

id_found : (n : ℕ) (i : List ℕ) (v : Option Bits) (r : List ℕ) → AllBelowBase 256 i → id_at n i ≡ Ok (v, r) → UniqueIdentifier n i v r × AllBelowBase 256 r
id_found n [] v r below given =
    let both : ◌≡◌ {A = Option Bits × List ℕ} (None, []) (v, r) = cc in
    subst (λ (z : Option Bits × List ℕ). UniqueIdentifier n [] z.0 z.1 × AllBelowBase 256 z.1) both (id_at_end refl refl refl, tt)
id_found n (x ∷ s) v r below given =
    let step = two (front_header_at (x ∷ s)) (id_behind n (x ∷ s)) (v, r) given in
    id_case n x s step.0 v r below step.1 step.2

id_other : (n : ℕ) (i : List ℕ) → IsOtherHeader n i → id_at n i ≡ Ok (None, i)
id_other n [] is = refl
id_other n (x ∷ s) is = rw (front_header_only (x ∷ s) is.head is.after is.header, differ_tags is.head.tag n is.tag) refl

id_written : (n : ℕ) (i : List ℕ) (b : Bits) (r : List ℕ) → AllBelowBase 256 i → One (IsIdentifier n) i b r → id_at n i ≡ Ok (Some b, r)
id_written n [] b r below is = let read = piece_only [] is.piece r is.spells is.whole in let none = empty_read [] refl in cc
id_written n (x ∷ s) b r below is =
    let bits : One AreImplicitBits (x ∷ s) b r = record { piece = is.piece; spells = is.spells; whole = is.whole; means = record { class = is.means.class; primitive = is.means.primitive; bits = is.means.bits } } in
    let header = element_header (x ∷ s) is.piece r is.spells is.whole in
    let read = (next_reading AreImplicitBits (λ p. implicit_bits_in p.element) implicit_meaning).only (x ∷ s) b r below bits in
    rw (header, tags_equal is.piece.element.tag n is.means.tag, read) refl

id_only : (n : ℕ) (i : List ℕ) (v : Option Bits) (r : List ℕ) → AllBelowBase 256 i → UniqueIdentifier n i v r → id_at n i ≡ Ok (v, r)
id_only n i v r below (id_at_end none absent left) = rw (left, absent, none) refl
id_only n i v r below (id_absent other absent left) = id_other n i other ∙ ap (λ z. Ok (None, z)) (sym left) ∙ ap (λ z. Ok (z, r)) (sym absent)
id_only n i v r below (id_there b some is) = id_written n i b r below is ∙ ap (λ z. Ok (z, r)) (sym some)

pub id_reading : (n : ℕ) → IsReading (UniqueIdentifier n) (id_at n)
id_reading n = record { found = id_found n; only = id_only n }
