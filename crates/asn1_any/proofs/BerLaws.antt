-- The walk over indefinite contents ends just where the relation ends them.
use Rattle.std.proofs.Common.{◌≡◌, ◌≢◌, refl, sym, ◌∙◌, ap, subst, ℕ, zero, suc, ◌-◌, ◌<◌, ◌≤◌, Option, Some, None, List, [], ◌∷◌, ◌++◌, length, take, drop, Ok, Err, Bool, true, false, ◌&&◌, ◌==◌, if◌then◌else◌, arith, length-append, append_assoc}
use Rattle.std.specs.Prelude.{nat_lt}
use Rattle.std.specs.List.{AllByRecursion, concat}
use Rattle.std.specs.Int.Digits.{AllBelowBase}
use Rattle.std.proofs.lemmas.List.{take-append-drop, append_cancel_left, append_cancel_right, append-nil, drop_at, length-take-le, drop-append-le, length-drop, nil_from_length}
use Rattle.std.proofs.lemmas.Bool.{ltb-false, le-ltb, eqb-true}
use Rattle.asn1_core.specs.declared.error.Needed.TheVariants as needed
use Rattle.asn1_core.specs.declared.outcome.Err.TheVariants as refusals
use Rattle.asn1_core.specs.Lenient.{BerHead}
use Rattle.asn1_core.specs.Answers.{Answer, lack}
use Rattle.asn1_core.specs.Reading.{identity_at, length_at, ber_header_at}
use Rattle.asn1_any.specs.BerElements.{BerElement, end_of_contents, AreAll, Closes, IsWithin}
use Rattle.asn1_any.specs.Reading.{Rest, end_at, past_length, past_header, past_end, past_contents}
use Rattle.asn1_core.proofs.Cases.{same_answer}
use Rattle.asn1_core.proofs.Numbers.{append_below}
use Rattle.asn1_core.proofs.Long.{header_long}
use Rattle.asn1_core.proofs.Headers.{BeginsWithBer, ber_header_found, ber_header_again}
use Rattle.asn1_core.proofs.Refusals.{ber_header_refused}

-- the innermost of the open elements closes, and then what `Next` says holds of the octets after it
pub record Ends (levels : ℕ) (Next : List ℕ → Type 0) (octets : List ℕ) : Type 0 where
  pub content : List ℕ
  pub after : List ℕ
  pub each : AreAll (IsWithin levels) content
  pub whole : octets ≡ content ++ (end_of_contents ++ after)
  pub next : Next after

-- so many open elements close, each within one more, and the rest comes after them
abbrev pub AllEnd : ℕ → ℕ → List ℕ → List ℕ → Type 0
AllEnd levels zero rest octets = octets ≡ rest
AllEnd levels (suc nested) rest octets = Ends levels (AllEnd (suc levels) nested rest) octets

end_by : (p q : Bool) (a b : ℕ) (rest after : List ℕ) → (a == 0) ≡ p → (b == 0) ≡ q → (if p && q then Some rest else None) ≡ Some after → (a ∷ b ∷ rest) ≡ (0 ∷ 0 ∷ after)
end_by true true a b rest after first second e =
    let zero_first : a ≡ 0 = eqb-true a 0 first in
    let zero_second : b ≡ 0 = eqb-true b 0 second in
    let same : rest ≡ after = cc in
    cc
end_by true false a b rest after first second e = cc
end_by false q a b rest after first second e = cc

-- octets 00 00
pub end_is : (octets after : List ℕ) → end_at octets ≡ Some after → octets ≡ 0 ∷ 0 ∷ after
end_is [] after e = cc
end_is (a ∷ []) after e = cc
end_is (a ∷ b ∷ rest) after e = end_by (a == 0) (b == 0) a b rest after refl refl e

-- they are a header of an empty element, too
end_header : (after : List ℕ) → ber_header_at (0 ∷ 0 ∷ after) ≡ Ok (record { class = 0; constructed = false; tag = 0; size = Some 0 }, after)
unfolding ber_header_at identity_at length_at
end_header after = refl

-- one more element before those within
prepend : (levels : ℕ) (Next : List ℕ → Type 0) (piece after octets : List ℕ) → IsWithin levels piece → octets ≡ piece ++ after →
    Ends levels Next after → Ends levels Next octets
prepend levels Next piece after octets within whole ends = record {
  content = piece ++ ends.content;
  after = ends.after;
  each = record { pieces = piece ∷ ends.each.pieces; each = (within, ends.each.each); whole = ap (λ z. piece ++ z) ends.each.whole };
  whole = whole ∙ ap (λ z. piece ++ z) ends.whole ∙ sym (append_assoc piece ends.content (end_of_contents ++ ends.after));
  next = ends.next;
}

-- a walk that returns only at places where elements end
abbrev Finds : (ℕ → ℕ → List ℕ → Rest) → List ℕ → Type 0
Finds go rest = (levels nested : ℕ) (octets : List ℕ) → AllBelowBase 256 octets → go levels nested octets ≡ Ok rest → AllEnd levels nested rest octets

module _ (go : ℕ → ℕ → List ℕ → Rest) (rest : List ℕ) (finds : Finds go rest) where
  -- a piece that isn't 00 00, after a header
  piece_within : (levels : ℕ) (octets after body content tail : List ℕ) (h : BerHead) → end_at octets ≡ None → BeginsWithBer octets h after →
      after ≡ body ++ tail → Closes (IsWithin levels) h.size content body →
      (piece : List ℕ) × IsWithin (suc levels) piece × (octets ≡ piece ++ tail)
  unfolding IsWithin
  piece_within levels octets after body content tail h none begins split closes =
      let header = begins.front in
      let piece : List ℕ = header ++ body in
      let whole : octets ≡ piece ++ tail = begins.whole ∙ ap (λ z. header ++ z) split ∙ sym (append_assoc header body tail) in
      let other : piece ≢ end_of_contents = λ same. let bad : octets ≡ 0 ∷ 0 ∷ tail = whole ∙ ap (λ z. z ++ tail) same in let there : end_at octets ≡ Some tail = ap end_at bad in cc in
      (piece, (other, (record { head = h; content = content }, record { header = header; body = body; in_range = begins.head; spells = begins.spells; closes = closes; whole = refl })), whole)

  length_found : (b : Bool) (levels nested n : ℕ) (octets after : List ℕ) (h : BerHead) → end_at octets ≡ None → AllBelowBase 256 after → BeginsWithBer octets h after → h.size ≡ Some n →
      nat_lt (length after) n ≡ b → (if b then Err (refusals.Incomplete (needed.Size (n - length after))) else go (suc levels) (suc nested) (drop n after)) ≡ Ok rest →
      AllEnd (suc levels) (suc nested) rest octets
  length_found true levels nested n octets after h none below begins size long e = cc
  length_found false levels nested n octets after h none below begins size long e =
      let content : List ℕ = take n after in
      let tail : List ℕ = drop n after in
      let split : after ≡ content ++ tail = sym (take-append-drop n after) in
      let left : AllBelowBase 256 tail = append_below 256 content tail (subst (AllBelowBase 256) split below) in
      let counted : n ≡ length content = sym (length-take-le n after (ltb-false (length after) n long)) in
      let closes = subst (λ s. Closes (IsWithin levels) s content content) (sym size) (counted, refl) in
      let piece = piece_within levels octets after content content tail h none begins split closes in
      prepend (suc levels) (AllEnd (suc (suc levels)) nested rest) piece.0 tail octets piece.1 piece.2 (finds (suc levels) (suc nested) tail left e)

  size_found : (levels nested : ℕ) (octets after : List ℕ) (h : BerHead) (size : Option ℕ) → end_at octets ≡ None → AllBelowBase 256 after → BeginsWithBer octets h after → h.size ≡ size →
      past_length go levels nested size after ≡ Ok rest → AllEnd (suc levels) (suc nested) rest octets
  size_found levels nested octets after h (Some n) none below begins size e = length_found (nat_lt (length after) n) levels nested n octets after h none below begins size refl e
  size_found levels nested octets after h None none below begins size e =
      let ends = finds levels (suc (suc nested)) after below e in
      let body : List ℕ = ends.content ++ end_of_contents in
      let split : after ≡ body ++ ends.after = ends.whole ∙ sym (append_assoc ends.content end_of_contents ends.after) in
      let closes = subst (λ s. Closes (IsWithin levels) s ends.content body) (sym size) (ends.each, refl) in
      let piece = piece_within levels octets after body ends.content ends.after h none begins split closes in
      prepend (suc levels) (AllEnd (suc (suc levels)) nested rest) piece.0 ends.after octets piece.1 piece.2 ends.next

  header_step : (levels nested : ℕ) (octets : List ℕ) (r : Answer BerHead) → end_at octets ≡ None → AllBelowBase 256 octets → ber_header_at octets ≡ r →
      past_header go levels nested r ≡ Ok rest → AllEnd levels (suc nested) rest octets
  header_step levels nested octets (Err d) none below read e = cc
  header_step zero nested octets (Ok p) none below read e = cc
  header_step (suc levels) nested octets (Ok p) none below read e =
      let begins = ber_header_found octets p.0 p.1 below read in
      let left : AllBelowBase 256 p.1 = append_below 256 begins.front p.1 (subst (AllBelowBase 256) begins.whole below) in
      size_found levels nested octets p.1 p.0 p.0.size none left begins refl e

  end_step : (levels nested : ℕ) (octets : List ℕ) (o : Option (List ℕ)) → AllBelowBase 256 octets → end_at octets ≡ o → past_end go levels nested octets o ≡ Ok rest → AllEnd levels (suc nested) rest octets
  end_step levels nested octets (Some after) below at e =
      let is = end_is octets after at in
      let left : AllBelowBase 256 after = append_below 256 end_of_contents after (subst (AllBelowBase 256) is below) in
      record { content = []; after = after; each = record { pieces = []; each = tt; whole = refl }; whole = is; next = finds (suc levels) nested after left e }
  end_step levels nested octets None below at e = header_step levels nested octets (ber_header_at octets) at below refl e

pub ends_found : (steps : ℕ) (rest : List ℕ) → Finds (past_contents steps) rest
unfolding past_contents
ends_found zero rest levels zero octets below e = cc
ends_found zero rest levels (suc nested) octets below e = cc
ends_found (suc steps) rest levels zero octets below e = cc
ends_found (suc steps) rest levels (suc nested) octets below e = end_step (past_contents steps) rest (ends_found steps rest) levels nested octets (end_at octets) below refl e

-- what is spelled as an element within, before other octets: no end, and a header
pub record Leads (levels : ℕ) (octets tail : List ℕ) : Type 0 where
  pub e : BerElement
  pub header : List ℕ
  pub body : List ℕ
  pub long : 2 ≤ length header
  pub none : end_at octets ≡ None
  pub read : ber_header_at octets ≡ Ok (e.head, body ++ tail)
  pub closes : Closes (IsWithin levels) e.head.size e.content body
  pub whole : octets ≡ header ++ (body ++ tail)

no_end : (o : Option (List ℕ)) (piece octets tail : List ℕ) → octets ≡ piece ++ tail → piece ≢ end_of_contents → end_at octets ≡ o →
    ((after : List ℕ) → o ≡ Some after → piece ≡ end_of_contents) → end_at octets ≡ None
no_end (Some after) piece octets tail whole other at same = absurd (other (same after refl))
no_end None piece octets tail whole other at same = at

-- an empty element of tag number 0, in these octets, is 00 00
empty_end : (levels : ℕ) (size : Option ℕ) (content body : List ℕ) → size ≡ Some 0 → Closes (IsWithin levels) size content body → body ≡ []
empty_end levels (Some zero) content body is closes = closes.1 ∙ nil_from_length content (sym closes.0)
empty_end levels (Some (suc n)) content body is closes = cc
empty_end levels None content body is closes = cc

pub leads : (levels : ℕ) (piece octets tail : List ℕ) → IsWithin (suc levels) piece → octets ≡ piece ++ tail → Leads levels octets tail
unfolding IsWithin
leads levels piece octets tail within whole =
    let e = within.1.0 in
    let spells = within.1.1 in
    let split : octets ≡ spells.header ++ (spells.body ++ tail) = whole ∙ ap (λ z. z ++ tail) spells.whole ∙ append_assoc spells.header spells.body tail in
    let read : ber_header_at octets ≡ Ok (e.head, spells.body ++ tail) = ap ber_header_at split ∙ ber_header_again spells.header e.head (spells.body ++ tail) spells.in_range spells.spells in
    let same : (after : List ℕ) → end_at octets ≡ Some after → piece ≡ end_of_contents = λ after at.
    let is = end_is octets after at in
    let said = same_answer e.head (record { class = 0; constructed = false; tag = 0; size = Some 0 }) (spells.body ++ tail) after (sym read ∙ ap ber_header_at is ∙ end_header after) in
    let empty = empty_end levels e.head.size e.content spells.body (ap (λ h. h.size) said.0) spells.closes in
    let all : spells.header ++ after ≡ end_of_contents ++ after = ap (λ z. spells.header ++ z) (sym said.1) ∙ sym split ∙ is in
    spells.whole ∙ ap (λ z. spells.header ++ z) empty ∙ append-nil spells.header ∙ append_cancel_right spells.header end_of_contents after all in
    record {
      e = e;
      header = spells.header;
      body = spells.body;
      long = header_long spells.header e.head spells.spells;
      none = no_end (end_at octets) piece octets tail whole within.0 refl same;
      read = read;
      closes = spells.closes;
      whole = split;
    }

-- what is left of open elements after the first piece within the innermost
left_ends : (levels : ℕ) (Next : List ℕ → Type 0) (pieces : List (List ℕ)) (after : List ℕ) → AllByRecursion (IsWithin levels) pieces → Next after →
    Ends levels Next (concat pieces ++ (end_of_contents ++ after))
left_ends levels Next pieces after each next = record { content = concat pieces; after = after; each = record { pieces = pieces; each = each; whole = refl }; whole = refl; next = next }

-- a walk that takes all that ends, up to so many octets
abbrev Takes : (ℕ → ℕ → List ℕ → Rest) → ℕ → List ℕ → Type 0
Takes go steps rest = (levels nested : ℕ) (octets : List ℕ) → length octets ≤ steps → AllEnd levels nested rest octets → go levels nested octets ≡ Ok rest

module _ (go : ℕ → ℕ → List ℕ → Rest) (steps : ℕ) (rest : List ℕ) (takes : Takes go steps rest) where
  body_taken : (levels nested : ℕ) (size : Option ℕ) (content body tail : List ℕ) → length (body ++ tail) ≤ steps → Closes (IsWithin levels) size content body →
      AllEnd (suc levels) (suc nested) rest tail → past_length go levels nested size (body ++ tail) ≡ Ok rest
  body_taken levels nested (Some n) content body tail short closes ends =
      let long : length body ≡ n = ap length closes.1 ∙ sym closes.0 in
      let fits : nat_lt (length (body ++ tail)) n ≡ false = le-ltb (length (body ++ tail)) n (omega (arith, length-append body tail)) in
      rw (fits, drop_at body tail n long) (takes (suc levels) (suc nested) tail (omega (arith, length-append body tail)) ends)
  body_taken levels nested None content body tail short closes ends =
      takes levels (suc (suc nested)) (body ++ tail) short
      (record { content = content; after = tail; each = closes.0; whole = ap (λ z. z ++ tail) closes.1 ∙ append_assoc content end_of_contents tail; next = ends })

  pieces_taken : (levels nested : ℕ) (pieces : List (List ℕ)) (octets after : List ℕ) → length octets ≤ suc steps → AllByRecursion (IsWithin levels) pieces →
      octets ≡ concat pieces ++ (end_of_contents ++ after) → AllEnd (suc levels) nested rest after → past_end go levels nested octets (end_at octets) ≡ Ok rest
  unfolding IsWithin
  pieces_taken levels nested [] octets after short each whole next =
      let long = ap length whole in
      rw whole (takes (suc levels) nested after (omega arith) next)
  pieces_taken zero nested (piece ∷ pieces) octets after short each whole next = absurd each.0
  pieces_taken (suc levels) nested (piece ∷ pieces) octets after short each whole next =
      let tail : List ℕ = concat pieces ++ (end_of_contents ++ after) in
      let l = leads levels piece octets tail each.0 (whole ∙ append_assoc piece (concat pieces) (end_of_contents ++ after)) in
      let long = ap length l.whole in
      let header = l.long in
      let less : length (l.body ++ tail) ≤ steps = omega (arith, length-append l.header (l.body ++ tail)) in
      rw (l.none, l.read) (body_taken levels nested l.e.head.size l.e.content l.body tail less l.closes (left_ends (suc levels) (AllEnd (suc (suc levels)) nested rest) pieces after each.1 next))

pub ends_only : (steps : ℕ) (rest : List ℕ) → Takes (past_contents steps) steps rest
unfolding past_contents
ends_only zero rest levels zero octets short ends = ap Ok ends
ends_only zero rest levels (suc nested) octets short ends =
    let long = ap length ends.whole in
    absurd (omega (arith, length-append ends.content (end_of_contents ++ ends.after)))
ends_only (suc steps) rest levels zero octets short ends = ap Ok ends
ends_only (suc steps) rest levels (suc nested) octets short ends =
    pieces_taken (past_contents steps) steps rest (ends_only steps rest) levels nested ends.each.pieces octets ends.after short ends.each.each
    (ends.whole ∙ ap (λ z. z ++ (end_of_contents ++ ends.after)) ends.each.whole) ends.next

-- octets of two or more that don't begin with 00 00 don't do so with more after them
end_kept : (octets more after : List ℕ) → 2 ≤ length octets → end_at octets ≡ None → octets ++ more ≡ 0 ∷ 0 ∷ after → ⊥
end_kept [] more after long none is = absurd (omega arith)
end_kept (a ∷ []) more after long none is = absurd (omega arith)
end_kept (a ∷ b ∷ octets) more after long none is =
    let first : a ≡ 0 = cc in
    let second : b ≡ 0 = cc in
    let there : end_at (a ∷ b ∷ octets) ≡ Some octets = rw (first, second) refl in
    cc

-- what closes begins with a header
ends_header : (levels : ℕ) (octets after : List ℕ) (pieces : List (List ℕ)) → AllByRecursion (IsWithin levels) pieces → octets ≡ concat pieces ++ (end_of_contents ++ after) →
    (h : BerHead) × ((rest : List ℕ) × (ber_header_at octets ≡ Ok (h, rest)))
unfolding IsWithin
ends_header levels octets after [] each whole = (record { class = 0; constructed = false; tag = 0; size = Some 0 }, (after, ap ber_header_at whole ∙ end_header after))
ends_header zero octets after (piece ∷ pieces) each whole = absurd each.0
ends_header (suc levels) octets after (piece ∷ pieces) each whole =
    let tail : List ℕ = concat pieces ++ (end_of_contents ++ after) in
    let l = leads levels piece octets tail each.0 (whole ∙ append_assoc piece (concat pieces) (end_of_contents ++ after)) in
    (l.e.head, (l.body ++ tail, l.read))

-- a walk that lacks octets only if no fewer make it end
abbrev Lacks : (ℕ → ℕ → List ℕ → Rest) → ℕ → List ℕ → List ℕ → ℕ → Type 0
Lacks go steps rest more n = (levels nested : ℕ) (octets : List ℕ) → AllBelowBase 256 octets → length octets ≤ steps → go levels nested octets ≡ Err (refusals.Incomplete (needed.Size n)) →
    AllEnd levels nested rest (octets ++ more) → ⊥

module _ (go : ℕ → ℕ → List ℕ → Rest) (steps : ℕ) (rest more : List ℕ) (n : ℕ) (few : length more < n) (lacks : Lacks go steps rest more n) where
  definite_lacks : (b : Bool) (levels nested m : ℕ) (content body tail after : List ℕ) → AllBelowBase 256 after → length after ≤ steps → nat_lt (length after) m ≡ b →
      (if b then Err (refusals.Incomplete (needed.Size (m - length after))) else go (suc levels) (suc nested) (drop m after)) ≡ Err (refusals.Incomplete (needed.Size n)) →
      m ≡ length content → body ≡ content → after ++ more ≡ body ++ tail → AllEnd (suc levels) (suc nested) rest tail → ⊥
  definite_lacks true levels nested m content body tail after below short long e counted is same ends =
      let missing : m - length after ≡ n = cc in
      let sides = ap length same in
      let bodies = ap length is in
      omega (arith, length-append after more, length-append body tail)
  definite_lacks false levels nested m content body tail after below short long e counted is same ends =
      let fits : m ≤ length after = ltb-false (length after) m long in
      let sized : length body ≡ m = ap length is ∙ sym counted in
      let split : tail ≡ drop m after ++ more = sym (drop_at body tail m sized) ∙ ap (drop m) (sym same) ∙ drop-append-le m after more fits in
      let left : AllBelowBase 256 (drop m after) = append_below 256 (take m after) (drop m after) (subst (AllBelowBase 256) (sym (take-append-drop m after)) below) in
      lacks (suc levels) (suc nested) (drop m after) left (omega (arith, length-drop m after)) e (subst (AllEnd (suc levels) (suc nested) rest) split ends)

  size_lacks : (levels nested : ℕ) (size : Option ℕ) (content body tail after : List ℕ) → AllBelowBase 256 after → length after ≤ steps →
      past_length go levels nested size after ≡ Err (refusals.Incomplete (needed.Size n)) → Closes (IsWithin levels) size content body → after ++ more ≡ body ++ tail →
      AllEnd (suc levels) (suc nested) rest tail → ⊥
  size_lacks levels nested (Some m) content body tail after below short e closes same ends =
      definite_lacks (nat_lt (length after) m) levels nested m content body tail after below short refl e closes.0 closes.1 same ends
  size_lacks levels nested None content body tail after below short e closes same ends =
      let inner : AllEnd levels (suc (suc nested)) rest (body ++ tail) =
      record { content = content; after = tail; each = closes.0; whole = ap (λ z. z ++ tail) closes.1 ∙ append_assoc content end_of_contents tail; next = ends } in
      lacks levels (suc (suc nested)) after below short e (subst (AllEnd levels (suc (suc nested)) rest) (sym same) inner)

  header_lacks : (levels nested : ℕ) (octets : List ℕ) (r : Answer BerHead) (pieces : List (List ℕ)) (after : List ℕ) → AllBelowBase 256 octets → length octets ≤ suc steps →
      end_at octets ≡ None → ber_header_at octets ≡ r → past_header go levels nested r ≡ Err (refusals.Incomplete (needed.Size n)) →
      AllByRecursion (IsWithin levels) pieces → octets ++ more ≡ concat pieces ++ (end_of_contents ++ after) → AllEnd (suc levels) nested rest after → ⊥
  unfolding IsWithin
  header_lacks levels nested octets (Err d) pieces after below short none read e each whole next =
      let lacking : ber_header_at octets ≡ lack n = read ∙ (let s : Err d ≡ Err (refusals.Incomplete (needed.Size n)) = e in cc) in
      let header = ends_header levels (octets ++ more) after pieces each whole in
      (ber_header_refused octets (refusals.Incomplete (needed.Size n)) below lacking).1 more few (header.0, header.1.0) header.1.1
  header_lacks zero nested octets (Ok p) pieces after below short none read e each whole next = cc
  header_lacks (suc levels) nested octets (Ok p) [] after below short none read e each whole next =
      let begins = ber_header_found octets p.0 p.1 below read in
      let header = header_long begins.front p.0 begins.spells in
      let long = ap length begins.whole in
      end_kept octets more after (omega (arith, length-append begins.front p.1)) none whole
  header_lacks (suc levels) nested octets (Ok p) (piece ∷ pieces) after below short none read e each whole next =
      let begins = ber_header_found octets p.0 p.1 below read in
      let header = header_long begins.front p.0 begins.spells in
      let long = ap length begins.whole in
      let left : AllBelowBase 256 p.1 = append_below 256 begins.front p.1 (subst (AllBelowBase 256) begins.whole below) in
      let tail : List ℕ = concat pieces ++ (end_of_contents ++ after) in
      let l = leads levels piece (octets ++ more) tail each.0 (whole ∙ append_assoc piece (concat pieces) (end_of_contents ++ after)) in
      let again : ber_header_at (octets ++ more) ≡ Ok (p.0, p.1 ++ more) =
      ap ber_header_at (ap (λ z. z ++ more) begins.whole ∙ append_assoc begins.front p.1 more) ∙ ber_header_again begins.front p.0 (p.1 ++ more) begins.head begins.spells in
      let same = same_answer p.0 l.e.head (p.1 ++ more) (l.body ++ tail) (sym again ∙ l.read) in
      let closes = subst (λ h. Closes (IsWithin levels) h.size l.e.content l.body) (sym same.0) l.closes in
      size_lacks levels nested p.0.size l.e.content l.body tail p.1 left (omega (arith, length-append begins.front p.1)) e closes same.1
      (left_ends (suc levels) (AllEnd (suc (suc levels)) nested rest) pieces after each.1 next)

  end_lacks : (levels nested : ℕ) (octets : List ℕ) (o : Option (List ℕ)) (pieces : List (List ℕ)) (after : List ℕ) → AllBelowBase 256 octets → length octets ≤ suc steps →
      end_at octets ≡ o → past_end go levels nested octets o ≡ Err (refusals.Incomplete (needed.Size n)) →
      AllByRecursion (IsWithin levels) pieces → octets ++ more ≡ concat pieces ++ (end_of_contents ++ after) → AllEnd (suc levels) nested rest after → ⊥
  unfolding IsWithin
  end_lacks levels nested octets None pieces after below short at e each whole next = header_lacks levels nested octets (ber_header_at octets) pieces after below short at refl e each whole next
  end_lacks levels nested octets (Some last) [] after below short at e each whole next =
      let is = end_is octets last at in
      let left : AllBelowBase 256 last = append_below 256 end_of_contents last (subst (AllBelowBase 256) is below) in
      let both : end_of_contents ++ (last ++ more) ≡ end_of_contents ++ after = ap (λ z. z ++ more) (sym is) ∙ whole in
      let same : last ++ more ≡ after = append_cancel_left end_of_contents (last ++ more) after both in
      let long = ap length is in
      lacks (suc levels) nested last left (omega arith) e (subst (AllEnd (suc levels) nested rest) (sym same) next)
  end_lacks zero nested octets (Some last) (piece ∷ pieces) after below short at e each whole next = absurd each.0
  end_lacks (suc levels) nested octets (Some last) (piece ∷ pieces) after below short at e each whole next =
      let is = end_is octets last at in
      let tail : List ℕ = concat pieces ++ (end_of_contents ++ after) in
      let l = leads levels piece (octets ++ more) tail each.0 (whole ∙ append_assoc piece (concat pieces) (end_of_contents ++ after)) in
      let none = l.none in
      let there : end_at (octets ++ more) ≡ Some (last ++ more) = ap end_at (ap (λ z. z ++ more) is) in
      cc

pub ends_lack : (steps : ℕ) (rest more : List ℕ) (n : ℕ) → length more < n → Lacks (past_contents steps) steps rest more n
unfolding past_contents
ends_lack zero rest more n few levels zero octets below short e ends = cc
ends_lack zero rest more n few levels (suc nested) octets below short e ends =
    let one : 1 ≡ n = cc in
    let long = ap length ends.whole in
    omega (arith, length-append ends.content (end_of_contents ++ ends.after), length-append octets more)
ends_lack (suc steps) rest more n few levels zero octets below short e ends = cc
ends_lack (suc steps) rest more n few levels (suc nested) octets below short e ends =
    end_lacks (past_contents steps) steps rest more n few (ends_lack steps rest more n few) levels nested octets (end_at octets) ends.each.pieces ends.after below short refl e ends.each.each
    (ends.whole ∙ ap (λ z. z ++ (end_of_contents ++ ends.after)) ends.each.whole) ends.next
