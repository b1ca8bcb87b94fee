-- Cut tag numbers, and headers of other tag numbers.
use Rattle.std.proofs.Common.{◌≡◌, ◌≢◌, ◌∙◌, sym, ap, refl, subst, arith, inl, inr, ◌<◌, ◌≤◌, ◌+◌, ◌-◌, ◌/◌, ◌%◌, ◌==◌, ◌&&◌, ◌||◌, not, nat_le, Bool, true, false, ℕ, List, [], ◌∷◌, ◌++◌, map, append_assoc, Ok, Err}
use Rattle.std.specs.Int.Digits.{AllBelowBase}
use Rattle.std.specs.List.{list_all}
use Rattle.std.specs.Result.{result_ok}
use Rattle.std.proofs.lemmas.Bool.{and_parts, eqb-true, eq-eqb, le-leb, leb-true}
use Rattle.std.proofs.lemmas.Bool.Decides.{nat_tests}
use Rattle.asn1_core.proofs.Cases.{same_answer}
use Rattle.asn1_core.proofs.Headers.{header_found, header_again}
use Rattle.asn1_core.specs.Answers.{Answer as Reads}
use Rattle.asn1_core.specs.Digits.{continued}
use Rattle.asn1_core.specs.Elements.{head_of_element}
use Rattle.asn1_core.specs.Lenient.{SpellsIdentifier}
use Rattle.asn1_core.specs.Reading.{header_at, identity_at}
use Rattle.asn1_core.specs.Strict.{Head, lead}
use Rattle.asn1_any.specs.Cutting.{Piece}
use Rattle.x509_core.specs.Answers.{plain, unnamed}
use Rattle.x509_core.specs.Grammar.{Header, One}
use Rattle.x509_core.specs.Reading.{front_header_at}
use Rattle.x509_time.specs.Reading.{is_cut_tag, is_other_header}
use Rattle.x509_time.specs.Updates.{IsCutTag}

-- ---- tag numbers that are cut

raised : (s : List ℕ) → list_all (nat_le 128) s ≡ true → s ≡ map (λ d. 128 + d) (map (λ o. o - 128) s)
raised [] e = refl
raised (o ∷ s) e =
    let both = and_parts (nat_le 128 o) (list_all (nat_le 128) s) e in
    let here : o ≡ 128 + (o - 128) = omega (arith, leb-true 128 o both.0) in
    ap (λ z. z ∷ s) here ∙ ap (λ z. (128 + (o - 128)) ∷ z) (raised s both.1)

low_digits : (s : List ℕ) → AllBelowBase 256 s → AllBelowBase 128 (map (λ o. o - 128) s)
low_digits [] below = tt
low_digits (o ∷ s) below = (omega (arith, below.0), low_digits s below.1)

high_octets : (ds : List ℕ) → list_all (nat_le 128) (map (λ d. 128 + d) ds) ≡ true
high_octets [] = refl
high_octets (d ∷ ds) = rw (le-leb 128 (128 + d) (omega arith), high_octets ds) refl

lead_by : (x : ℕ) (b : Bool) → (x / 32 % 2 == 1) ≡ b → x % 32 ≡ 31 → x ≡ lead (x / 64) b 31
lead_by x true e low = omega (arith, eqb-true (x / 32 % 2) 1 e, low)
lead_by x false e low = grind (arith, nat_tests)

pub cut_found : (i : List ℕ) → AllBelowBase 256 i → is_cut_tag i ≡ true → IsCutTag i
cut_found [] below e = cc
cut_found (x ∷ s) below e =
    let both = and_parts (x % 32 == 31) (list_all (nat_le 128) s) e in
    let first = lead_by x (x / 32 % 2 == 1) refl (eqb-true (x % 32) 31 both.0) in
    record {
      class = x / 64;
      constructed = x / 32 % 2 == 1;
      digits = map (λ o. o - 128) s;
      is_class = omega (arith, below.0);
      below = low_digits s below.1;
      whole = ap (λ z. z ∷ s) first ∙ ap (λ z. lead (x / 64) (x / 32 % 2 == 1) 31 ∷ z) (raised s both.1);
    }

lead_low : (class : ℕ) (b : Bool) → lead class b 31 % 32 ≡ 31
lead_low class true = omega arith
lead_low class false = omega arith

pub cut_only : (i : List ℕ) → IsCutTag i → is_cut_tag i ≡ true
cut_only i is =
    subst (λ z. is_cut_tag z ≡ true) (sym is.whole) (rw (eq-eqb (lead is.class is.constructed 31 % 32) 31 (lead_low is.class is.constructed), high_octets is.digits) refl)

-- an octet below 128 ends a tag number's digits
never_ends : (ds : List ℕ) → ds ≢ [] → AllBelowBase 128 ds → (more xs : List ℕ) → continued ds ++ more ≡ map (λ d. 128 + d) xs → ⊥
never_ends [] some below more xs q = some refl
never_ends (d ∷ []) some below more [] q = cc q
never_ends (d ∷ []) some below more (x ∷ xs) q = let h : d ≡ 128 + x = cc q in absurd (omega (arith, h, below.0))
never_ends (d ∷ e ∷ ds) some below more [] q = cc q
never_ends (d ∷ e ∷ ds) some below more (x ∷ xs) q = let t : continued (e ∷ ds) ++ more ≡ map (λ d. 128 + d) xs = cc q in never_ends (e ∷ ds) (λ z. cc z) below.1 more xs t

not_low : (c b : ℕ) (k j : Bool) (t : ℕ) → t < 31 → lead c k t ≡ lead b j 31 → ⊥
not_low c b true true t low q = absurd (omega (arith, low, q))
not_low c b true false t low q = absurd (omega (arith, low, q))
not_low c b false true t low q = absurd (omega (arith, low, q))
not_low c b false false t low q = absurd (omega (arith, low, q))

identifier_whole : (identifier size more : List ℕ) (c : ℕ) (k : Bool) (t : ℕ) (b : ℕ) (j : Bool) (xs : List ℕ) → SpellsIdentifier identifier c k t → identifier ++ (size ++ more) ≡ lead b j 31 ∷ map (λ d. 128 + d) xs → ⊥
identifier_whole identifier size more c k t b j xs (inl low) q =
    let whole : lead c k t ∷ (size ++ more) ≡ lead b j 31 ∷ map (λ d. 128 + d) xs = ap (λ z. z ++ (size ++ more)) (sym low.1) ∙ q in
    let first : lead c k t ≡ lead b j 31 = cc whole in
    not_low c b k j t low.0 first
identifier_whole identifier size more c k t b j xs (inr high) q =
    let whole : lead c k 31 ∷ (continued high.0 ++ (size ++ more)) ≡ lead b j 31 ∷ map (λ d. 128 + d) xs = ap (λ z. z ++ (size ++ more)) (sym high.2) ∙ q in
    let digits : continued high.0 ++ (size ++ more) ≡ map (λ d. 128 + d) xs = cc whole in
    never_ends high.0 high.1.some high.1.below (size ++ more) xs digits

-- no header begins a cut tag
pub cut_no_header : (octets : List ℕ) (head : Head) (rest : List ℕ) → IsCutTag octets → Header octets head rest → ⊥
cut_no_header octets head rest cut header =
    let s = header.spells in
    let parts : (s.identifier ++ s.size) ++ rest ≡ octets = ap (λ z. z ++ rest) (sym s.whole) ∙ sym header.whole in
    identifier_whole s.identifier s.size rest head.class head.constructed head.tag cut.class cut.constructed cut.digits s.spells_identifier (sym (append_assoc s.identifier s.size rest) ∙ parts ∙ cut.whole)

-- ---- headers at the front

was_read : (r : Reads Head) (h : Head × List ℕ) → plain (result_ok r) ≡ Ok h → r ≡ Ok h
was_read (Ok x) h given = let same : ◌≡◌ {A = Head × List ℕ} x h = cc in ap (λ z. Ok z) same
was_read (Err e) h given = cc

pub front_found : (i : List ℕ) (h : Head × List ℕ) → AllBelowBase 256 i → front_header_at i ≡ Ok h → Header i h.0 h.1
unfolding front_header_at
front_found i h below given =
    let is = header_found i h.0 h.1 below (was_read (header_at i) h given) in
    record { front = is.front; in_range = is.head; spells = is.spells; whole = is.whole }

again : (i : List ℕ) (h : Head) (rest : List ℕ) → Header i h rest → header_at i ≡ Ok (h, rest)
again i h rest is = ap header_at is.whole ∙ header_again is.front h rest is.in_range is.spells

pub front_only : (i : List ℕ) (h : Head) (rest : List ℕ) → Header i h rest → front_header_at i ≡ Ok (h, rest)
unfolding front_header_at
front_only i h rest is = ap (λ z. plain (result_ok z)) (again i h rest is)

-- an element begins with its header
pub element_header : {A : Type 0} (M : Piece → A → Type 0) (i : List ℕ) (v : A) (r : List ℕ) → (is : One M i v r) → Header i (head_of_element is.piece.element) (is.piece.element.content ++ r)
element_header M i v r is = record {
  front = is.spells.header;
  in_range = is.spells.in_range;
  spells = is.spells.spells;
  whole = is.whole ∙ ap (λ z. z ++ r) is.spells.whole ∙ append_assoc is.spells.header is.piece.element.content r;
}

-- octets begin with one header
pub one_head : (i : List ℕ) (h k : Head) (r s : List ℕ) → Header i h r → Header i k s → h ≡ k
one_head i h k r s left right = (same_answer h k r s (sym (again i h r left) ∙ again i k s right)).0

-- no header begins no octets
pub no_header : front_header_at [] ≡ Err unnamed
unfolding front_header_at header_at identity_at
no_header = refl

-- ---- the test of a header

nay : (b : Bool) → not b ≡ true → b ≡ false
nay true e = cc
nay false e = refl

or_case : (b g : Bool) → (not b || not g) ≡ true → b ≡ true → g ≡ false
or_case true true e q = cc
or_case true false e q = refl
or_case false g e q = cc

or_only : (b g : Bool) → (b ≡ true → g ≡ false) → (not b || not g) ≡ true
or_only true g e = rw (e refl) refl
or_only false g e = refl

pub record IsOther (h : Head) (general : Bool) : Type 0 where
  pub size : h.size ≤ 4_294_967_295
  pub no_utc : h.tag ≢ 23
  pub no_general : h.tag ≡ 24 → general ≡ false

pub other_found : (h : Head × List ℕ) (general : Bool) → is_other_header (Ok h) general ≡ true → IsOther h.0 general
other_found h general e =
    let outer = and_parts (nat_le h.0.size 4_294_967_295 && not (h.0.tag == 23)) (not (h.0.tag == 24) || not general) e in
    let inner = and_parts (nat_le h.0.size 4_294_967_295) (not (h.0.tag == 23)) outer.0 in
    record {
      size = leb-true h.0.size 4_294_967_295 inner.0;
      no_utc = λ same. let yes = eq-eqb h.0.tag 23 same in let no = nay (h.0.tag == 23) inner.1 in cc;
      no_general = λ same. or_case (h.0.tag == 24) general outer.1 (eq-eqb h.0.tag 24 same);
    }

pub test_false : (a b : ℕ) → a ≢ b → (a == b) ≡ false
test_false a b other = by (a == b) refl
  where
    by : (t : Bool) → (a == b) ≡ t → (a == b) ≡ false
    by true e = absurd (other (eqb-true a b e))
    by false e = e

pub other_only : (h : Head) (rest : List ℕ) (general : Bool) → IsOther h general → is_other_header (Ok (h, rest)) general ≡ true
other_only h rest general is =
    rw (le-leb h.size 4_294_967_295 is.size, test_false h.tag 23 is.no_utc, or_only (h.tag == 24) general (λ e. is.no_general (eqb-true h.tag 24 e))) refl
