-- Contents that are cut one element at a time.
use Rattle.std.proofs.Common.{◌≡◌, refl, subst, ℕ, List, [], ◌∷◌, ◌++◌, Some, None}
use Rattle.std.specs.Int.Digits.{AllBelowBase}
use Rattle.std.proofs.lemmas.List.Elements.{All-nil, All-cons}
use Rattle.asn1_core.proofs.Numbers.{append_below}
use Rattle.asn1_any.specs.declared.cut.Element.{Element}
use Rattle.asn1_any.specs.Cutting.{IsPiece}
use Rattle.asn1_any.specs.CutViews.{HasCountedContent, piece_of, pieces_of}
use Rattle.asn1_any.specs.DerElements.{HasElement}
use Rattle.asn1_any.proofs.Cuts.{one_more}
use Rattle.x509_core.specs.declared.ahead.Ahead.{Ahead}
use Rattle.x509_core.specs.Parts.{IsCut, ahead_of}

-- octets that no element begins
pub none_left : (octets : List ℕ) → AllBelowBase 256 octets → ¬ HasElement octets → IsCut octets []
none_left octets below none = record { below = below; tail = octets; cutting = record { whole = refl; each = tt; last = none }; counted = All-nil HasCountedContent }

-- the octets after others
pub below_rest : (octets front rest : List ℕ) → AllBelowBase 256 octets → octets ≡ front ++ rest → AllBelowBase 256 rest
below_rest octets front rest below whole = append_below 256 front rest (subst (AllBelowBase 256) whole below)

-- one element, and those that the octets after it are cut into
pub one_left : (octets rest : List ℕ) (e : Element) (others : List Element) → AllBelowBase 256 octets → IsPiece (piece_of e) → HasCountedContent e → octets ≡ e.octets.now ++ rest → IsCut rest others → IsCut octets (e ∷ others)
one_left octets rest e others below here length whole cut = record {
  below = below;
  tail = cut.tail;
  cutting = one_more octets rest (piece_of e) (pieces_of others) cut.tail here whole cut.cutting;
  counted = All-cons HasCountedContent e others length cut.counted;
}

-- at most two elements
pub few_none : (a : Ahead) → a.front ≡ None → a.at ≡ 0 → a.others.items ≡ [] → ahead_of a ≡ []
unfolding ahead_of
few_none a none start empty = rw (none, start, empty) refl

pub few_one : (a : Ahead) (e : Element) → a.front ≡ Some e → a.second ≡ None → a.at ≡ 0 → a.others.items ≡ [] → ahead_of a ≡ e ∷ []
unfolding ahead_of
few_one a e first none start empty = rw (first, none, start, empty) refl

pub few_two : (a : Ahead) (e f : Element) → a.front ≡ Some e → a.second ≡ Some f → a.third ≡ None → a.at ≡ 0 → a.others.items ≡ [] → ahead_of a ≡ e ∷ f ∷ []
unfolding ahead_of
few_two a e f first second none start empty = rw (first, second, none, start, empty) refl
