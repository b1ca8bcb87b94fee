-- The elements of a content, one more at a time.
use Rattle.std.proofs.Common.{◌≡◌, refl, sym, ◌∙◌, ap, subst, ℕ, ◌+◌, ◌-◌, ◌≤◌, List, [], ◌∷◌, ◌++◌, length, take, arith, length-append, append_assoc}
use Rattle.std.specs.List.{AllByRecursion, flat_map}
use Rattle.std.proofs.lemmas.List.{append_cancel_right, append-nil, take_at}
use Rattle.std.proofs.lemmas.List.Concat.{flat_map-append}
use Rattle.asn1_core.specs.Elements.{Element}
use Rattle.asn1_any.specs.DerElements.{BeginsWithElement, HasElement}
use Rattle.asn1_any.specs.Cutting.{Piece, IsPiece, IsCutting}
use Rattle.asn1_any.proofs.DerLaws.{der_once, der_found, der_only}
use Rattle.asn1_any.specs.Reading.{any_der, der_element_at}
use Rattle.std.specs.Int.Digits.{AllBelowBase}
use Rattle.std.proofs.Common.{Some, None, Ok, Err}
use Rattle.std.specs.Result.{result_ok}
use Rattle.asn1_core.specs.Answers.{Answer}
use Rattle.asn1_core.proofs.Numbers.{append_below}
use Rattle.asn1_core.specs.declared.error.Error.{Error}
use Rattle.asn1_core.specs.declared.outcome.Err.{Err as Refusal}
use Rattle.asn1_any.proofs.Long.{element_takes}

-- the content up to its tail, in pieces
pub record IsCutTo (content : List ℕ) (pieces : List Piece) (tail : List ℕ) : Type 0 where
  pub whole : content ≡ flat_map (λ piece. piece.octets) pieces ++ tail
  pub each : AllByRecursion IsPiece pieces

pub all_push : {X : Type 0} (P : X → Type 0) (xs : List X) (x : X) → AllByRecursion P xs → P x → AllByRecursion P (xs ++ x ∷ [])
all_push P [] x all here = (here, tt)
all_push P (y ∷ xs) x all here = (all.0, all_push P xs x all.1 here)

-- the octets before the rest
pub front_is : (octets front rest : List ℕ) → octets ≡ front ++ rest → take (length octets - length rest) octets ≡ front
front_is octets front rest whole =
    let long = ap length whole in
    let counted : length front ≡ length octets - length rest = omega (arith, length-append front rest) in
    ap (take (length octets - length rest)) whole ∙ take_at front rest (length octets - length rest) counted

-- an element takes octets
pub element_long : (octets rest : List ℕ) (e : Element) → BeginsWithElement octets e rest → length rest + 2 ≤ length octets
element_long octets rest e begins = omega (arith, element_takes octets rest e begins)

-- if no element is read, none begins the octets
pub none_begins : (octets : List ℕ) (e : Refusal Error) → der_element_at octets ≡ Err e → ¬ HasElement octets
none_begins octets e read has =
    let there : der_element_at octets ≡ Ok (has.0, has.1) = der_only octets has.1 has.0 has.2 in
    cc

-- an element that was read, and what is left
pub record IsRead (octets : List ℕ) (e : Element) (rest : List ℕ) : Type 0 where
  pub begins : BeginsWithElement octets e rest
  pub shorter : length rest + 2 ≤ length octets
  pub below : AllBelowBase 256 rest

pub is_read : (octets rest : List ℕ) (e : Element) → AllBelowBase 256 octets → der_element_at octets ≡ Ok (e, rest) → IsRead octets e rest
is_read octets rest e below read =
    let begins = der_found octets rest e below read in
    record { begins = begins; shorter = element_long octets rest e begins; below = append_below 256 begins.front rest (subst (AllBelowBase 256) begins.whole below) }

-- one more piece
pub cut_more : (content : List ℕ) (pieces : List Piece) (octets rest : List ℕ) (e : Element) → IsCutTo content pieces octets → BeginsWithElement octets e rest →
    IsCutTo content (pieces ++ (record { octets = take (length octets - length rest) octets; element = e }) ∷ []) rest
cut_more content pieces octets rest e to begins =
    let front = begins.front in
    let is = front_is octets front rest begins.whole in
    let piece : Piece = record { octets = front; element = e } in
    let more : IsCutTo content (pieces ++ piece ∷ []) rest = record {
      whole = to.whole ∙ ap (λ z. flat_map (λ p. p.octets) pieces ++ z) begins.whole ∙ sym (append_assoc (flat_map (λ p. p.octets) pieces) front rest)
          ∙ ap (λ z. z ++ rest) (ap (λ z. flat_map (λ p. p.octets) pieces ++ z) (sym (append-nil front)) ∙ sym (flat_map-append (λ (p : Piece). p.octets) pieces (piece ∷ [])));
      each = all_push IsPiece pieces piece to.each begins.spells;
    } in
    subst (λ z. IsCutTo content (pieces ++ (record { octets = z; element = e }) ∷ []) rest) (sym is) more

-- what a cutting says of its first piece, or of a content without one
pub none_cut : (content tail : List ℕ) → IsCutting content [] tail → (content ≡ tail) × ¬ HasElement content
none_cut content tail cutting = (cutting.whole, subst (λ z. ¬ HasElement z) (sym cutting.whole) cutting.last)

-- a cutting of the first piece and the others
pub record StartsCut (content : List ℕ) (piece : Piece) (pieces : List Piece) (tail : List ℕ) : Type 0 where
  pub rest : List ℕ
  pub whole : content ≡ piece.octets ++ rest
  pub begins : BeginsWithElement content piece.element rest
  pub cutting : IsCutting rest pieces tail

pub one_cut : (content : List ℕ) (piece : Piece) (pieces : List Piece) (tail : List ℕ) → IsCutting content (piece ∷ pieces) tail → StartsCut content piece pieces tail
one_cut content piece pieces tail cutting =
    let rest : List ℕ = flat_map (λ p. p.octets) pieces ++ tail in
    let whole : content ≡ piece.octets ++ rest = cutting.whole ∙ append_assoc piece.octets (flat_map (λ p. p.octets) pieces) tail in
    record { rest = rest; whole = whole; begins = record { front = piece.octets; spells = cutting.each.0; whole = whole }; cutting = record { whole = refl; each = cutting.each.1; last = cutting.last } }

-- one more piece before others
pub one_more : (content rest : List ℕ) (piece : Piece) (pieces : List Piece) (tail : List ℕ) → IsPiece piece → content ≡ piece.octets ++ rest → IsCutting rest pieces tail → IsCutting content (piece ∷ pieces) tail
one_more content rest piece pieces tail here whole cutting = record {
  whole = whole ∙ ap (λ z. piece.octets ++ z) cutting.whole ∙ sym (append_assoc piece.octets (flat_map (λ p. p.octets) pieces) tail);
  each = (here, cutting.each);
  last = cutting.last;
}

-- two cuttings of one content are one
pub cutting_once : (content : List ℕ) (pieces others : List Piece) (tail last : List ℕ) → IsCutting content pieces tail → IsCutting content others last → (pieces ≡ others) × (tail ≡ last)
cutting_once content [] [] tail last left right = (refl, sym left.whole ∙ right.whole)
cutting_once content [] (q ∷ others) tail last left right =
    let start = one_cut content q others last right in
    absurd ((none_cut content tail left).1 (q.element, start.rest, start.begins))
cutting_once content (p ∷ pieces) [] tail last left right =
    let start = one_cut content p pieces tail left in
    absurd ((none_cut content last right).1 (p.element, start.rest, start.begins))
cutting_once content (p ∷ pieces) (q ∷ others) tail last left right =
    let start = one_cut content p pieces tail left in
    let other = one_cut content q others last right in
    let once = der_once content start.rest other.rest p.element q.element start.begins other.begins in
    let octets : p.octets ≡ q.octets = append_cancel_right p.octets q.octets start.rest (sym start.whole ∙ other.whole ∙ ap (λ z. q.octets ++ z) (sym once.1)) in
    let first : p ≡ q = ap (λ o. record { octets = o; element = p.element }) octets ∙ ap (λ e. record { octets = q.octets; element = e }) once.0 in
    let both = cutting_once start.rest pieces others tail last start.cutting (subst (λ z. IsCutting z others last) (sym once.1) other.cutting) in
    (ap (λ x. x ∷ pieces) first ∙ ap (λ xs. q ∷ xs) both.0, both.1)

-- the reader at the front of a cutting: its first element, or none at its tail
pub first_read : (content : List ℕ) (piece : Piece) (pieces : List Piece) (tail : List ℕ) → IsCutting content (piece ∷ pieces) tail →
    (rest : List ℕ) × (any_der content ≡ Some (piece.element, rest)) × (content ≡ piece.octets ++ rest) × IsCutting rest pieces tail
first_read content piece pieces tail cutting =
    let start = one_cut content piece pieces tail cutting in
    (start.rest, ap result_ok (der_only content start.rest piece.element start.begins), start.whole, start.cutting)

none_by : (octets : List ℕ) (r : Answer Element) → AllBelowBase 256 octets → der_element_at octets ≡ r → ¬ HasElement octets → result_ok r ≡ None
none_by octets (Ok x) below read none = absurd (none (x.0, x.1, der_found octets x.1 x.0 below read))
none_by octets (Err e) below read none = refl

pub none_read : (octets : List ℕ) → AllBelowBase 256 octets → ¬ HasElement octets → any_der octets ≡ None
none_read octets below none = none_by octets (der_element_at octets) below refl none
