-- The front of octets that were cut.
use Rattle.std.proofs.Common.{◌≡◌, ◌∙◌, refl, sym, ap, subst, ℕ, ◌+◌, ◌≤◌, List, [], ◌∷◌, ◌++◌, length, drop, arith, length-append, Option, Some, None, Ok, Err, option_map}
use Rattle.std.specs.Result.{result_ok}
use Rattle.std.specs.Prelude.{All}
use Rattle.std.proofs.lemmas.List.{drop_at}
use Rattle.std.proofs.lemmas.List.Elements.{All-head, All-tail}
use Rattle.asn1_core.specs.Elements.{Element as Any}
use Rattle.asn1_any.specs.declared.cut.Element.{Element}
use Rattle.asn1_any.specs.Cutting.{Piece, IsCutting}
use Rattle.asn1_any.specs.CutViews.{HasCountedContent, piece_of, pieces_of}
use Rattle.asn1_any.specs.DerElements.{BeginsWithElement, HasElement}
use Rattle.asn1_any.specs.Reading.{any_der}
use Rattle.asn1_any.proofs.DerLaws.{der_only}
use Rattle.asn1_any.proofs.Cuts.{one_cut, none_cut, none_read as read_none, front_is, element_long}
use Rattle.asn1_any.proofs.Long.{content_long}
use Rattle.std.specs.Int.Digits.{AllBelowBase}
use Rattle.asn1_core.proofs.Numbers.{append_below}
use Rattle.x509_core.specs.Answers.{plain, unnamed}
use Rattle.x509_core.specs.Parts.{IsCut}
use Rattle.x509_core.specs.Reading.{piece_at, piece_before, first_piece}

-- an element that begins octets is read
pub element_read : (octets rest front : List ℕ) (e : Any) → BeginsWithElement octets e rest → octets ≡ front ++ rest → piece_at octets ≡ Ok (record { octets = front; element = e }, rest)
unfolding piece_at
element_read octets rest front e begins whole =
    let read : any_der octets ≡ Some (e, rest) = ap result_ok (der_only octets rest e begins) in
    rw (read, front_is octets front rest whole) refl

-- if none begins them, none is read
pub none_read : (octets : List ℕ) → AllBelowBase 256 octets → ¬ HasElement octets → piece_at octets ≡ Err unnamed
unfolding piece_at
none_read octets below none =
    let nothing : any_der octets ≡ None = read_none octets below none in
    rw nothing refl

pub at_end : (octets : List ℕ) (elements : List Element) → IsCut octets elements → elements ≡ [] → piece_at octets ≡ Err unnamed
at_end octets elements cut over =
    none_read octets cut.below (none_cut octets cut.tail (subst (λ z. IsCutting octets (pieces_of z) cut.tail) over cut.cutting)).1

-- the first of the elements that are left, and what comes after it
pub record IsNext (octets : List ℕ) (e : Element) (others : List Element) (after : List ℕ) : Type 0 where
  pub read : piece_at octets ≡ Ok (piece_of e, after)
  pub cut : IsCut after others
  pub shorter : length e.octets.now + length after ≡ length octets
  pub content : length e.any.content.now + 2 ≤ length e.octets.now
  pub counted : HasCountedContent e

pub at_front : (octets after : List ℕ) (elements others : List Element) (e : Element) → IsCut octets elements → elements ≡ e ∷ others → after ≡ drop (length e.octets.now) octets → IsNext octets e others after
at_front octets after elements others e cut here left =
    let cutting = subst (λ z. IsCutting octets (pieces_of z) cut.tail) here cut.cutting in
    let counted = subst (All HasCountedContent) here cut.counted in
    let start = one_cut octets (piece_of e) (pieces_of others) cut.tail cutting in
    let whole = ap length start.whole in
    let rest : start.rest ≡ after = sym (left ∙ ap (drop (length e.octets.now)) start.whole ∙ drop_at e.octets.now start.rest (length e.octets.now) refl) in
    record {
      read = element_read octets start.rest e.octets.now (piece_of e).element start.begins start.whole ∙ ap (λ z. Ok (piece_of e, z)) rest;
      shorter = omega (arith, ap length rest, whole, length-append e.octets.now start.rest);
      content = content_long e.octets.now (piece_of e).element cutting.each.0;
      cut = record { below = subst (AllBelowBase 256) rest (append_below 256 e.octets.now start.rest (subst (AllBelowBase 256) start.whole cut.below)); tail = cut.tail; cutting = subst (λ z. IsCutting z (pieces_of others) cut.tail) rest start.cutting; counted = All-tail HasCountedContent e others counted };
      counted = All-head HasCountedContent e others counted;
    }

-- what is said to be at the front is what is read there
pub record IsPassed (octets : List ℕ) (x : Piece) (after : List ℕ) : Type 0 where
  pub read : piece_at octets ≡ Ok (x, after)
  pub shorter : length x.octets + length after ≡ length octets

pub passed : (octets after : List ℕ) (others : List Element) (e : Element) → IsNext octets e others after → (x : Piece) → first_piece octets ≡ Some x → IsPassed octets x after
passed octets after others e front x told =
    let here : first_piece octets ≡ Some (piece_of e) = ap (λ z. option_map (λ p. p.0) (result_ok z)) front.read in
    let same : piece_of e ≡ x = cc in
    subst (λ z. IsPassed octets z after) same (record { read = front.read; shorter = front.shorter })

no_piece_of : (i : List ℕ) (o : Option (Any × List ℕ)) → option_map (λ p. p.0) (result_ok (plain (option_map (piece_before i) o))) ≡ None → plain (option_map (piece_before i) o) ≡ Err unnamed
no_piece_of i None none = refl
no_piece_of i (Some x) none = cc

pub no_piece : (i : List ℕ) → None ≡ first_piece i → piece_at i ≡ Err unnamed
unfolding piece_at
no_piece i none = no_piece_of i (any_der i) (sym none)

-- no element is read of nothing
pub empty_read : (i : List ℕ) → i ≡ [] → piece_at i ≡ Err unnamed
empty_read i none =
    rw none (none_read [] tt (λ has. let long = element_long [] has.1 has.0 has.2 in omega (arith, long)))
