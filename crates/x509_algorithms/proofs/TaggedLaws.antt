-- Parts under a tag, present or not, are read as the relations say.
use Rattle.std.proofs.Common.{◌≡◌, ◌≢◌, ◌∙◌, refl, sym, ap, subst, ℕ, ◌==◌, ◌&&◌, Bool, true, false, List, [], ◌∷◌, Option, Some, None, ◌⊎◌, inl, inr, Ok, Err, if◌then◌else◌, ◌++◌, append_assoc}
use Rattle.std.specs.Int.Digits.{AllBelowBase}
use Rattle.asn1_core.proofs.Cases.{chosen}
use Rattle.asn1_core.specs.Elements.{Element, head_of_element}
use Rattle.asn1_core.specs.Strict.{Head}
use Rattle.asn1_any.specs.Cutting.{Piece, IsPiece}
use Rattle.asn1_tagged.specs.Tagging.{IsTagged, IsExplicit}
use Rattle.x509_core.specs.Answers.{Answer, unnamed, ◌>>=◌}
use Rattle.x509_core.specs.Grammar.{Grammar, One}
use Rattle.x509_core.specs.Reading.{Reader, piece_at, front_header_at}
use Rattle.x509_core.proofs.Grammars.{IsReading, IsPieceRead, two, piece_found, piece_only, content_below, front_below, none_at_end}
use Rattle.x509_core.proofs.LeafLaws.{equal_tags, tags_equal, tags_differ, differ_tags}
use Rattle.x509_items.proofs.HeaderLaws.{front_header_found, front_header_only}
use Rattle.x509_algorithms.specs.Parameters.{HoldsTagged, IsOther, NoElement, Tagged, HoldsExplicit, OtherHeader, Explicit}
use Rattle.x509_algorithms.specs.Reading.{content_or_none, tagged_content, inner_at, tagged_at, explicit_in, explicit_behind, explicit_content, explicit_by}

-- a content, as it is
abbrev Whole : Grammar (List ℕ)
Whole octets v rest = (v ≡ octets) × (rest ≡ [])

-- what was read of an element: its content and the octets after it, or none and all octets
tagged_case : (n : ℕ) (i : List ℕ) (q : Piece) (after : List ℕ) (o : Option (List ℕ)) (r : List ℕ) → IsPieceRead i q after → AllBelowBase 256 i
    → content_or_none n i q.element after ≡ Ok (o, r) → Tagged n Whole i o r × AllBelowBase 256 r
tagged_case n i q after o r read below given =
    elim (chosen (q.element.tag == n) _ _ _ given) [
      | inl here ↦ elim (chosen (q.element.class == 2) _ _ _ here.1) [
        | inl is ↦ (
            let both : ◌≡◌ {A = Option (List ℕ) × List ℕ} (Some q.element.content, after) (o, r) = cc in
            let tagged : IsTagged 2 n q.element = record { class_is = equal_tags q.element.class 2 is.0; tag_is = equal_tags q.element.tag n here.0 } in
            let there : One (HoldsTagged n Whole) i q.element.content after = record { piece = q; spells = read.spells; whole = read.whole; means = record { tagged = tagged; left = []; inner = (refl, refl) } } in
            subst (λ (z : Option (List ℕ) × List ℕ). Tagged n Whole i z.0 z.1 × AllBelowBase 256 z.1) both (there, read.below))
        | inr wrong ↦ let impossible = wrong.1 in cc
      ]
      | inr other ↦ (
          let both : ◌≡◌ {A = Option (List ℕ) × List ℕ} (None, i) (o, r) = cc in
          let there : One (IsOther n) i tt after = record { piece = q; spells = read.spells; whole = read.whole; means = record { tag = tags_differ q.element.tag n other.0 } } in
          subst (λ (z : Option (List ℕ) × List ℕ). Tagged n Whole i z.0 z.1 × AllBelowBase 256 z.1) both ((inr (after, there), refl), below))
    ]

tagged_found : (n : ℕ) (i : List ℕ) (o : Option (List ℕ)) (r : List ℕ) → AllBelowBase 256 i → tagged_content n i ≡ Ok (o, r) → Tagged n Whole i o r × AllBelowBase 256 r
unfolding tagged_content
tagged_found n [] o r below given =
    let both : ◌≡◌ {A = Option (List ℕ) × List ℕ} (None, []) (o, r) = cc in
    subst (λ (z : Option (List ℕ) × List ℕ). Tagged n Whole [] z.0 z.1 × AllBelowBase 256 z.1) both ((inl refl, refl), tt)
tagged_found n (x ∷ s) o r below given =
    let step = two (piece_at (x ∷ s)) _ (o, r) given in
    let read = piece_found (x ∷ s) step.0.0 step.0.1 below step.1 in
    tagged_case n (x ∷ s) step.0.0 step.0.1 o r read below step.2

tagged_there : (n : ℕ) (i : List ℕ) (c r : List ℕ) → One (HoldsTagged n Whole) i c r → tagged_content n i ≡ Ok (Some c, r)
unfolding tagged_content
tagged_there n [] c r is = absurd (none_at_end (HoldsTagged n Whole) c r is)
tagged_there n (x ∷ s) c r is =
    rw (piece_only (x ∷ s) is.piece r is.spells is.whole, tags_equal is.piece.element.tag n is.means.tagged.tag_is, tags_equal is.piece.element.class 2 is.means.tagged.class_is, is.means.inner.0) refl

tagged_absent : (n : ℕ) (i : List ℕ) → NoElement n i → tagged_content n i ≡ Ok (None, i)
unfolding tagged_content
tagged_absent n [] is = refl
tagged_absent n (x ∷ s) (inl none) = cc
tagged_absent n (x ∷ s) (inr is) =
    rw (piece_only (x ∷ s) is.1.piece is.0 is.1.spells is.1.whole, differ_tags is.1.piece.element.tag n is.1.means.tag) refl

-- what is within an optional content
inner_found : {A : Type 0} (n : ℕ) (P : Grammar A) (p : Reader A) → IsReading P p → (i : List ℕ) (o : Option (List ℕ)) (after : List ℕ) (v : Option A) → AllBelowBase 256 i
    → Tagged n Whole i o after → inner_at p o ≡ Ok v → Tagged n P i v after
inner_found n P p reading i None after v below is given =
    let same : None ≡ v = cc in
    subst (λ z. Tagged n P i z after) same is
inner_found n P p reading i (Some c) after v below is given =
    let read = two (p c) _ v given in
    let same : Some read.0.0 ≡ v = cc in
    let inner = content_below is.piece is.spells (front_below i is.piece.octets after is.whole below) in
    let there = (reading.found is.piece.element.content read.0.0 read.0.1 inner (ap p (sym is.means.inner.0) ∙ read.1)).0 in
    let one : One (HoldsTagged n P) i read.0.0 after = record { piece = is.piece; spells = is.spells; whole = is.whole; means = record { tagged = is.means.tagged; left = read.0.1; inner = there } } in
    subst (λ z. Tagged n P i z after) same one

tagged_only : {A : Type 0} (n : ℕ) (P : Grammar A) (p : Reader A) → IsReading P p → (i : List ℕ) (v : Option A) (r : List ℕ) → AllBelowBase 256 i → Tagged n P i v r → tagged_at n p i ≡ Ok (v, r)
tagged_only n P p reading i (Some v) r below is =
    let content = is.piece.element.content in
    let inner = content_below is.piece is.spells (front_below i is.piece.octets r is.whole below) in
    let one : One (HoldsTagged n Whole) i content r = record { piece = is.piece; spells = is.spells; whole = is.whole; means = record { tagged = is.means.tagged; left = []; inner = (refl, refl) } } in
    rw (tagged_there n i content r one, reading.only content v is.means.left inner is.means.inner) refl
tagged_only n P p reading i None r below is = rw (tagged_absent n i is.0, is.1) refl

pub tagged_reading : {A : Type 0} (n : ℕ) (P : Grammar A) (p : Reader A) → IsReading P p → IsReading (Tagged n P) (tagged_at n p)
tagged_reading {A = A} n P p reading = record {
  found = λ i v r below given.
      let content = two (tagged_content n i) _ (v, r) given in
      let is = tagged_found n i content.0.0 content.0.1 below content.1 in
      let value = two (inner_at p content.0.0) _ (v, r) content.2 in
      let both : ◌≡◌ {A = Option A × List ℕ} (value.0, content.0.1) (v, r) = cc in
      let there = inner_found n P p reading i content.0.0 content.0.1 value.0 below is.0 value.1 in
      subst (λ (z : Option A × List ℕ). Tagged n P i z.0 z.1 × AllBelowBase 256 z.1) both (there, is.1);
  only = λ i v r below is. tagged_only n P p reading i v r below is;
}

-- ---- under an explicit tag

explicit_case : (a b c : Bool) (content v : List ℕ) → (let x : Answer (List ℕ) = if (a && b) && c then Ok content else Err unnamed in x ≡ Ok v) → (a ≡ true) × (b ≡ true) × (c ≡ true) × (content ≡ v)
explicit_case true true true content v given = (refl, refl, refl, cc)
explicit_case true true false content v given = cc
explicit_case true false c content v given = cc
explicit_case false b c content v given = cc

explicit_is : (n : ℕ) (e : Element) (c : List ℕ) → explicit_in n e ≡ Ok c → IsExplicit 2 n e × (e.content ≡ c)
explicit_is n e c given =
    let case = explicit_case (e.class == 2) e.constructed (e.tag == n) e.content c given in
    (record { tagged = record { class_is = equal_tags e.class 2 case.0; tag_is = equal_tags e.tag n case.2 }; constructed = case.1 }, case.3)

explicit_there : (n : ℕ) (e : Element) → IsExplicit 2 n e → explicit_in n e ≡ Ok e.content
explicit_there n e is = rw (tags_equal e.class 2 is.tagged.class_is, is.constructed, tags_equal e.tag n is.tagged.tag_is) refl

behind_found : (n : ℕ) (i after : List ℕ) (h : Head) (o : Option (List ℕ)) (r : List ℕ) → AllBelowBase 256 i → front_header_at i ≡ Ok (h, after)
    → explicit_behind n i h ≡ Ok (o, r) → Explicit n Whole i o r × AllBelowBase 256 r
behind_found n i after h o r below header given =
    elim (chosen (h.tag == n) _ _ _ given) [
      | inl here ↦ (
          let step = two (piece_at i) _ (o, r) here.1 in
          let read = piece_found i step.0.0 step.0.1 below step.1 in
          let content = two (explicit_in n step.0.0.element) _ (o, r) step.2 in
          let is = explicit_is n step.0.0.element content.0 content.1 in
          let both : ◌≡◌ {A = Option (List ℕ) × List ℕ} (Some content.0, step.0.1) (o, r) = cc in
          let there : One (HoldsExplicit n Whole) i content.0 step.0.1 = record { piece = step.0.0; spells = read.spells; whole = read.whole; means = record { explicit = is.0; left = []; inner = (sym is.1, refl) } } in
          subst (λ (z : Option (List ℕ) × List ℕ). Explicit n Whole i z.0 z.1 × AllBelowBase 256 z.1) both (there, read.below))
      | inr other ↦ (
          let both : ◌≡◌ {A = Option (List ℕ) × List ℕ} (None, i) (o, r) = cc in
          let there : OtherHeader n i = record { head = h; after = after; header = (front_header_found i h after below header).0; tag = tags_differ h.tag n other.0 } in
          subst (λ (z : Option (List ℕ) × List ℕ). Explicit n Whole i z.0 z.1 × AllBelowBase 256 z.1) both ((inr there, refl), below))
    ]

explicit_found : (n : ℕ) (i : List ℕ) (o : Option (List ℕ)) (r : List ℕ) → AllBelowBase 256 i → explicit_content n i ≡ Ok (o, r) → Explicit n Whole i o r × AllBelowBase 256 r
unfolding explicit_content
explicit_found n [] o r below given =
    let both : ◌≡◌ {A = Option (List ℕ) × List ℕ} (None, []) (o, r) = cc in
    subst (λ (z : Option (List ℕ) × List ℕ). Explicit n Whole [] z.0 z.1 × AllBelowBase 256 z.1) both ((inl refl, refl), tt)
explicit_found n (x ∷ s) o r below given =
    let step = two (front_header_at (x ∷ s)) _ (o, r) given in
    behind_found n (x ∷ s) step.0.1 step.0.0 o r below step.1 step.2

element_header : (i : List ℕ) (q : Piece) (r : List ℕ) → IsPiece q → i ≡ q.octets ++ r → front_header_at i ≡ Ok (head_of_element q.element, q.element.content ++ r)
element_header i q r spells whole = front_header_only i (head_of_element q.element) (q.element.content ++ r) (record {
  front = spells.header;
  in_range = spells.in_range;
  spells = spells.spells;
  whole = whole ∙ ap (λ z. z ++ r) spells.whole ∙ append_assoc spells.header q.element.content r;
})

explicit_at : (n : ℕ) (i : List ℕ) (c r : List ℕ) → One (HoldsExplicit n Whole) i c r → explicit_content n i ≡ Ok (Some c, r)
unfolding explicit_content
explicit_at n [] c r is = absurd (none_at_end (HoldsExplicit n Whole) c r is)
explicit_at n (x ∷ s) c r is =
    rw (
      element_header (x ∷ s) is.piece r is.spells is.whole,
      tags_equal is.piece.element.tag n is.means.explicit.tagged.tag_is,
      piece_only (x ∷ s) is.piece r is.spells is.whole,
      explicit_there n is.piece.element is.means.explicit,
      is.means.inner.0,
    ) refl

explicit_absent : (n : ℕ) (i : List ℕ) → (i ≡ []) ⊎ OtherHeader n i → explicit_content n i ≡ Ok (None, i)
unfolding explicit_content
explicit_absent n [] is = refl
explicit_absent n (x ∷ s) (inl none) = cc
explicit_absent n (x ∷ s) (inr is) = rw (front_header_only (x ∷ s) is.head is.after is.header, differ_tags is.head.tag n is.tag) refl

within_found : {A : Type 0} (n : ℕ) (P : Grammar A) (p : Reader A) → IsReading P p → (i : List ℕ) (o : Option (List ℕ)) (after : List ℕ) (v : Option A) → AllBelowBase 256 i
    → Explicit n Whole i o after → inner_at p o ≡ Ok v → Explicit n P i v after
within_found n P p reading i None after v below is given =
    let same : None ≡ v = cc in
    subst (λ z. Explicit n P i z after) same is
within_found n P p reading i (Some c) after v below is given =
    let read = two (p c) _ v given in
    let same : Some read.0.0 ≡ v = cc in
    let inner = content_below is.piece is.spells (front_below i is.piece.octets after is.whole below) in
    let there = (reading.found is.piece.element.content read.0.0 read.0.1 inner (ap p (sym is.means.inner.0) ∙ read.1)).0 in
    let one : One (HoldsExplicit n P) i read.0.0 after = record { piece = is.piece; spells = is.spells; whole = is.whole; means = record { explicit = is.means.explicit; left = read.0.1; inner = there } } in
    subst (λ z. Explicit n P i z after) same one

explicit_only : {A : Type 0} (n : ℕ) (P : Grammar A) (p : Reader A) → IsReading P p → (i : List ℕ) (v : Option A) (r : List ℕ) → AllBelowBase 256 i → Explicit n P i v r → explicit_by n p i ≡ Ok (v, r)
explicit_only n P p reading i (Some v) r below is =
    let content = is.piece.element.content in
    let inner = content_below is.piece is.spells (front_below i is.piece.octets r is.whole below) in
    let one : One (HoldsExplicit n Whole) i content r = record { piece = is.piece; spells = is.spells; whole = is.whole; means = record { explicit = is.means.explicit; left = []; inner = (refl, refl) } } in
    rw (explicit_at n i content r one, reading.only content v is.means.left inner is.means.inner) refl
explicit_only n P p reading i None r below is = rw (explicit_absent n i is.0, is.1) refl

pub explicit_reading : {A : Type 0} (n : ℕ) (P : Grammar A) (p : Reader A) → IsReading P p → IsReading (Explicit n P) (explicit_by n p)
explicit_reading {A = A} n P p reading = record {
  found = λ i v r below given.
      let content = two (explicit_content n i) _ (v, r) given in
      let is = explicit_found n i content.0.0 content.0.1 below content.1 in
      let value = two (inner_at p content.0.0) _ (v, r) content.2 in
      let both : ◌≡◌ {A = Option A × List ℕ} (value.0, content.0.1) (v, r) = cc in
      let there = within_found n P p reading i content.0.0 content.0.1 value.0 below is.0 value.1 in
      subst (λ (z : Option A × List ℕ). Explicit n P i z.0 z.1 × AllBelowBase 256 z.1) both (there, is.1);
  only = λ i v r below is. explicit_only n P p reading i v r below is;
}
