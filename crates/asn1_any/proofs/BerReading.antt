-- The reader of BER elements takes just what the relation says, and goes on so with more octets after.
use Rattle.std.proofs.Common.{◌+◌, ◌≤◌, ◌≡◌, refl, sym, ◌∙◌, ap, subst, ℕ, suc, ◌-◌, Option, Some, None, List, ◌++◌, length, take, Ok, Err, arith, length-append, append_assoc}
use Rattle.std.specs.Int.Digits.{AllBelowBase}
use Rattle.std.proofs.lemmas.List.{take_at}
use Rattle.asn1_core.specs.Lenient.{BerHead, IsBerHead, SpellsBerHeader}
use Rattle.asn1_core.specs.Answers.{Answer}
use Rattle.asn1_core.specs.Reading.{ber_header_at}
use Rattle.asn1_core.proofs.Cases.{same_answer, two_steps}
use Rattle.asn1_core.proofs.Numbers.{append_below}
use Rattle.asn1_core.proofs.Headers.{ber_header_found, ber_header_again}
use Rattle.asn1_any.specs.BerElements.{definite_element, BerElement, end_of_contents, AreAll, Closes, IsWithin, BeginsWithBerElement}
use Rattle.asn1_any.specs.Reading.{any_ber, Rest, part_at, past_contents, indefinite_at, sized_at, ber_content_at, ber_element_at}
use Rattle.asn1_core.specs.Elements.{Element, IsElement, element_octets}
use Rattle.asn1_any.proofs.DerLaws.{definite_begins, strict_begins}
use Rattle.asn1_any.proofs.Readings.{part_found, part_only}
use Rattle.asn1_any.proofs.BerLaws.{Ends, AllEnd, ends_found, ends_only}

-- an element after its header
record Follows (levels : ℕ) (h : BerHead) (after : List ℕ) (e : BerElement) (rest : List ℕ) : Type 0 where
  pub head : e.head ≡ h
  pub body : List ℕ
  pub closes : Closes (IsWithin levels) h.size e.content body
  pub whole : after ≡ body ++ rest

content_is : (after content rest : List ℕ) → after ≡ content ++ (end_of_contents ++ rest) → take (length after - length rest - 2) after ≡ content
content_is after content rest whole =
    let long = ap length whole in
    let counted : length content ≡ length after - length rest - 2 = omega (arith, length-append content (end_of_contents ++ rest)) in
    ap (take (length after - length rest - 2)) whole ∙ take_at content (end_of_contents ++ rest) (length after - length rest - 2) counted

indefinite_found : (levels : ℕ) (h : BerHead) (after : List ℕ) (r : Rest) (e : BerElement) (rest : List ℕ) → h.size ≡ None → AllBelowBase 256 after → past_contents (length after) levels 1 after ≡ r →
    indefinite_at h after r ≡ Ok (e, rest) → Follows levels h after e rest
indefinite_found levels h after (Err d) e rest size below walk read = cc
indefinite_found levels h after (Ok last) e rest size below walk read =
    let content : List ℕ = take (length after - length last - 2) after in
    let done = same_answer (let b : BerElement = record { head = h; content = content } in b) e last rest read in
    let ends : Ends levels (AllEnd (suc levels) 0 last) after = ends_found (length after) last levels 1 after below walk in
    let rests : ends.after ≡ rest = ends.next ∙ done.1 in
    let whole : after ≡ ends.content ++ (end_of_contents ++ last) = ends.whole ∙ ap (λ z. ends.content ++ (end_of_contents ++ z)) ends.next in
    let is : ends.content ≡ e.content = sym (content_is after ends.content last whole) ∙ ap (λ b. b.content) done.0 in
    let body : List ℕ = e.content ++ end_of_contents in
    record {
      head = ap (λ b. b.head) (sym done.0);
      body = body;
      closes = subst (λ s. Closes (IsWithin levels) s e.content body) (sym size) (subst (AreAll (IsWithin levels)) is ends.each, refl);
      whole = whole ∙ ap (λ z. z ++ (end_of_contents ++ last)) is ∙ sym (append_assoc e.content end_of_contents last) ∙ ap (λ z. body ++ z) done.1;
    }

content_found : (levels : ℕ) (h : BerHead) (size : Option ℕ) (after : List ℕ) (e : BerElement) (rest : List ℕ) → h.size ≡ size → AllBelowBase 256 after →
    sized_at levels h size after ≡ Ok (e, rest) → Follows levels h after e rest
content_found levels h None after e rest size below read = indefinite_found levels h after (past_contents (length after) levels 1 after) e rest size below refl read
content_found levels h (Some n) after e rest size below read =
    let part = two_steps (part_at n after) (λ content tail. (let r : Answer BerElement = Ok (record { head = h; content = content }, tail) in r)) (e, rest) read in
    let content = part.0.0 in
    let cut = part_found n after content part.0.1 part.1 in
    let done = same_answer (let b : BerElement = record { head = h; content = content } in b) e part.0.1 rest part.2 in
    let is : content ≡ e.content = ap (λ b. b.content) done.0 in
    record {
      head = ap (λ b. b.head) (sym done.0);
      body = content;
      closes = subst (λ s. Closes (IsWithin levels) s e.content content) (sym size) (sym cut.0 ∙ ap length is, is);
      whole = cut.1 ∙ ap (λ z. content ++ z) done.1;
    }

pub ber_found : (levels : ℕ) (octets rest : List ℕ) (e : BerElement) → AllBelowBase 256 octets → ber_element_at levels octets ≡ Ok (e, rest) → BeginsWithBerElement levels octets e rest
unfolding ber_element_at
ber_found levels octets rest e below read =
    let head = two_steps (ber_header_at octets) (ber_content_at levels) (e, rest) read in
    let h = head.0.0 in
    let after = head.0.1 in
    let begins = ber_header_found octets h after below head.1 in
    let left : AllBelowBase 256 after = append_below 256 begins.front after (subst (AllBelowBase 256) begins.whole below) in
    let follows = content_found levels h h.size after e rest refl left head.2 in
    let said = sym follows.head in
    record {
      front = begins.front ++ follows.body;
      spells = record {
        header = begins.front;
        body = follows.body;
        in_range = subst IsBerHead said begins.head;
        spells = subst (SpellsBerHeader begins.front) said begins.spells;
        closes = subst (λ g. Closes (IsWithin levels) g.size e.content follows.body) said follows.closes;
        whole = refl;
      };
      whole = begins.whole ∙ ap (λ z. begins.front ++ z) follows.whole ∙ sym (append_assoc begins.front follows.body rest);
    }

content_only : (levels : ℕ) (h : BerHead) (size : Option ℕ) (content body rest : List ℕ) → Closes (IsWithin levels) size content body →
    sized_at levels h size (body ++ rest) ≡ Ok (record { head = h; content = content }, rest)
content_only levels h (Some n) content body rest closes =
    let fits = part_only n body rest (ap length closes.1 ∙ sym closes.0) in
    rw fits (ap (λ c. Ok (record { head = h; content = c }, rest)) closes.1)
content_only levels h None content body rest closes =
    let whole : body ++ rest ≡ content ++ (end_of_contents ++ rest) = ap (λ z. z ++ rest) closes.1 ∙ append_assoc content end_of_contents rest in
    let ends : AllEnd levels 1 rest (body ++ rest) = record { content = content; after = rest; each = closes.0; whole = whole; next = refl } in
    let walk : past_contents (length (body ++ rest)) levels 1 (body ++ rest) ≡ Ok rest = ends_only (length (body ++ rest)) rest levels 1 (body ++ rest) (omega arith) ends in
    rw walk (ap (λ c. Ok (record { head = h; content = c }, rest)) (content_is (body ++ rest) content rest whole))

-- the end-of-contents octets of an element take two octets
pub contents_long : (levels : ℕ) (after rest : List ℕ) → AllBelowBase 256 after → past_contents (length after) levels 1 after ≡ Ok rest → length rest + 2 ≤ length after
contents_long levels after rest below walk =
    let ends : Ends levels (AllEnd (suc levels) 0 rest) after = ends_found (length after) rest levels 1 after below walk in
    let long = ap length ends.whole in
    let last = ap length ends.next in
    omega (arith, length-append ends.content (end_of_contents ++ ends.after))

-- after its header, in the octets that begin with an element
pub header_first : (levels : ℕ) (octets rest : List ℕ) (e : BerElement) (begins : BeginsWithBerElement levels octets e rest) → ber_header_at octets ≡ Ok (e.head, begins.spells.body ++ rest)
header_first levels octets rest e begins =
    let spells = begins.spells in
    let split : octets ≡ spells.header ++ (spells.body ++ rest) = begins.whole ∙ ap (λ z. z ++ rest) spells.whole ∙ append_assoc spells.header spells.body rest in
    ap ber_header_at split ∙ ber_header_again spells.header e.head (spells.body ++ rest) spells.in_range spells.spells

pub ber_only : (levels : ℕ) (octets rest : List ℕ) (e : BerElement) → BeginsWithBerElement levels octets e rest → ber_element_at levels octets ≡ Ok (e, rest)
unfolding ber_element_at
ber_only levels octets rest e begins = rw (header_first levels octets rest e begins) (content_only levels e.head e.head.size e.content begins.spells.body rest begins.spells.closes)

-- one element begins a list
pub ber_once : (levels : ℕ) (octets rest after : List ℕ) (e f : BerElement) → BeginsWithBerElement levels octets e rest → BeginsWithBerElement levels octets f after → (e ≡ f) × (rest ≡ after)
ber_once levels octets rest after e f left right =
    let read : ber_element_at levels octets ≡ Ok (e, rest) = ber_only levels octets rest e left in
    same_answer e f rest after (sym read ∙ ber_only levels octets after f right)

-- what begins octets begins them with more after them
pub ber_stays : (levels : ℕ) (octets rest more : List ℕ) (e : BerElement) → BeginsWithBerElement levels octets e rest → BeginsWithBerElement levels (octets ++ more) e (rest ++ more)
ber_stays levels octets rest more e begins =
    record { front = begins.front; spells = begins.spells; whole = ap (λ z. z ++ more) begins.whole ∙ append_assoc begins.front rest more }

-- strict octets are read back by BER's rules, too
pub any_ber_spelled : (e : Element) (rest : List ℕ) → IsElement e → any_ber (element_octets e ++ rest) ≡ Some (e, rest)
any_ber_spelled e rest in_range =
    let octets : List ℕ = element_octets e ++ rest in
    let read : ber_element_at 49 octets ≡ Ok (definite_element e, rest) = ber_only 49 octets rest (definite_element e) (definite_begins 49 octets rest e (strict_begins e rest in_range)) in
    rw read refl
