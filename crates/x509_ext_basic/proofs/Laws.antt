-- The readers of this crate take what the relations say, and no more.
use Rattle.std.proofs.Common.{◌≡◌, ◌∙◌, refl, sym, ap, subst, arith, ℕ, ℤ, pos, negsuc, ◌≤◌, ◌<◌, ◌≤ℤ◌, ◌↔◌, int_le, nat_lt, Bool, true, false, List, [], ◌∷◌, Option, Some, None, option_map, option_and_then, Ok, Err, inl, inr, if◌then◌else◌}
use Rattle.std.specs.Int.Digits.{AllBelowBase, number_from_digits}
use Rattle.std.specs.List.{list_all}
use Rattle.std.specs.Str.{IsUtf8}
use Rattle.std.proofs.lemmas.Bool.Decides.{nat_tests}
use Rattle.std.proofs.lemmas.Int.{ints}
use Rattle.asn1_core.proofs.Cases.{chosen}
use Rattle.asn1_strings.specs.Charsets.{is_below_80, IsTextOf}
use Rattle.asn1_strings.specs.CharsetLaws.{text_is_utf8, below_80}
use Rattle.asn1_traits.specs.Integers.{twos_complement, SpellsInteger}
use Rattle.asn1_traits.specs.IntegerReading.{is_shortest}
use Rattle.jiff.specs.Words.{civil_nanos}
use Rattle.jiff_core.specs.declared.civil.datetime.DateTime.{DateTime}
use Rattle.x509_core.specs.Answers.{Answer, unnamed, plain}
use Rattle.x509_core.specs.Grammar.{Grammar, NoneBegins, One}
use Rattle.x509_core.specs.Leaves.{Leaf}
use Rattle.x509_core.specs.Reading.{next}
use Rattle.x509_core.proofs.Grammars.{IsMeaning, IsReading, next_reading, two}
use Rattle.x509_core.proofs.LeafLaws.{leaf_meaning, was_some}
use Rattle.x509_ext_flags.specs.x509_names.proofs.LeafLaws.{shortest_is, is_shortest_of}
use Rattle.x509_items.proofs.TextLaws.{text_found, text_only}
use Rattle.x509_items.specs.Reading.{text_in}
use Rattle.x509_ext_flags.specs.Reading.{number_in}
use Rattle.x509_ext_flags.proofs.Laws.{number_found, number_only}
use Rattle.x509_time.specs.Times.{Time, GeneralMoment}
use Rattle.x509_time.specs.Reading.{general_nanos_at}
use Rattle.x509_time.specs.Calls.{is_late}
use Rattle.x509_time.proofs.LateLaws.{late}
use Rattle.x509_time.proofs.TimeLaws.{general_is}
use Rattle.x509_ext_basic.specs.Leaves.{IsNatural, CRLNumber, IsReason, CRLReason, IsDate, InvalidityDate, IsIa5, NetscapeComment, ia5_string, bare}
use Rattle.x509_ext_basic.specs.Reading.{starts_low, natural_in, natural_of, number_at, reason_in, reason_of, reason_at, time_from, moment_in, date_of, date_at, ia5_in, ia5_of, ia5_at, bare_at, comment_by, comment_at}

-- ---- numbers

low_is : (c : List ℕ) → starts_low c ≡ true → SpellsInteger c (pos (number_from_digits 256 c))
unfolding twos_complement
low_is [] e = cc
low_is (x ∷ s) e = record { some = λ none. cc; value = rw e refl }

natural_found : (c : List ℕ) (n : ℕ) → natural_in c ≡ Some n → IsNatural c n
unfolding natural_in
natural_found c n given =
    elim (chosen (is_shortest c) _ _ _ given) [
      | inl is ↦ elim (chosen (starts_low c) _ _ _ is.1) [
        | inl low ↦
            let same : number_from_digits 256 c ≡ n = cc in
            record { shortest = shortest_is c is.0; value = subst (λ z. SpellsInteger c (pos z)) same (low_is c low.0) }
        | inr high ↦ let impossible = high.1 in cc
      ]
      | inr other ↦ let impossible = other.1 in cc
    ]

low_by : (b : Bool) (m k n : ℕ) → (if b then pos m else negsuc k) ≡ pos n → (b ≡ true) × (m ≡ n)
low_by true m k n e = (refl, cc)
low_by false m k n e = cc

natural_low : (c : List ℕ) (n : ℕ) → SpellsInteger c (pos n) → (starts_low c ≡ true) × (number_from_digits 256 c ≡ n)
unfolding twos_complement
natural_low [] n is = absurd (is.some refl)
natural_low (x ∷ s) n is = low_by (nat_lt x 128) (number_from_digits 256 (x ∷ s)) _ n is.value

natural_only : (c : List ℕ) (n : ℕ) → IsNatural c n → natural_in c ≡ Some n
unfolding natural_in
natural_only c n is =
    let low = natural_low c n is.value in
    rw (is_shortest_of c is.shortest, low.0) (ap (λ z. Some z) low.1)

pub natural_meaning : IsMeaning (Leaf 2 IsNatural) natural_of
natural_meaning = leaf_meaning 2 IsNatural (λ c. plain (natural_in c)) (λ c n given. natural_found c n (was_some (natural_in c) n given)) (λ c n is. ap plain (natural_only c n is))

pub number_reading : IsReading CRLNumber number_at
number_reading = next_reading (Leaf 2 IsNatural) natural_of natural_meaning

-- ---- reasons

small_found : (o : Option ℕ) (n : ℕ) → option_and_then (λ z. if nat_lt 10 z then None else Some z) o ≡ Some n → (o ≡ Some n) × (n ≤ 10)
small_found None n given = cc
small_found (Some m) n given =
    elim (chosen (nat_lt 10 m) _ _ _ given) [
      | inl above ↦ let impossible = above.1 in cc
      | inr at_most ↦
          let same : m ≡ n = let z = at_most.1 in cc in
          (ap (λ z. Some z) same, grind (arith, nat_tests))
    ]

pub reason_found : (c : List ℕ) (n : ℕ) → reason_in c ≡ Some n → IsReason c n
unfolding reason_in
reason_found c n given =
    let is = small_found (number_in c) n given in
    record { number = number_found c n is.0; known = is.1 }

small_is : (n : ℕ) → n ≤ 10 → nat_lt 10 n ≡ false
small_is n few = grind (arith, nat_tests)

reason_only : (c : List ℕ) (n : ℕ) → IsReason c n → reason_in c ≡ Some n
unfolding reason_in
reason_only c n is = rw (number_only c n is.number, small_is n is.known) refl

pub reason_meaning : IsMeaning (Leaf 10 IsReason) reason_of
reason_meaning = leaf_meaning 10 IsReason (λ c. plain (reason_in c)) (λ c n given. reason_found c n (was_some (reason_in c) n given)) (λ c n is. ap plain (reason_only c n is))

pub reason_reading : IsReading CRLReason reason_at
reason_reading = next_reading (Leaf 10 IsReason) reason_of reason_meaning

-- ---- dates

late_form : (n : ℤ) → int_le (pos 2_524_608_000_000_000_000) n ≡ true ↔ pos 2_524_608_000_000_000_000 ≤ℤ n
late_form n = (λ e. grind (arith, ints), λ p. grind (arith, ints))

form_one : (a b : Bool) (T : Type 0) → (a ≡ true ↔ T) → (b ≡ true ↔ T) → a ≡ b
form_one true true T p q = refl
form_one false false T p q = refl
form_one true false T p q = sym (q.1 (p.0 refl))
form_one false true T p q = p.1 (q.0 refl)

-- the form that the year asks for
pub new_form : (moment : DateTime) → is_late moment ≡ int_le (pos 2_524_608_000_000_000_000) (civil_nanos moment)
new_form moment = form_one (is_late moment) (int_le (pos 2_524_608_000_000_000_000) (civil_nanos moment)) (pos 2_524_608_000_000_000_000 ≤ℤ civil_nanos moment) (late moment) (late_form (civil_nanos moment))

date_by : (c : List ℕ) (o : Option ℤ) (t : Time) → general_nanos_at c ≡ o → option_map time_from o ≡ Some t → IsDate c t
date_by c None t is given = cc
date_by c (Some n) t is given =
    let same : time_from n ≡ t = cc in
    subst (IsDate c) same (record { moment = (general_is c n).0 is; form = late_form n })

date_found : (c : List ℕ) (t : Time) → moment_in c ≡ Some t → IsDate c t
unfolding moment_in
date_found c t given = date_by c (general_nanos_at c) t refl given

date_only : (c : List ℕ) (t : Time) → IsDate c t → moment_in c ≡ Some t
unfolding moment_in
date_only c t is =
    let read = (general_is c t.nanoseconds).1 is.moment in
    let form = form_one (int_le (pos 2_524_608_000_000_000_000) t.nanoseconds) t.generalized (pos 2_524_608_000_000_000_000 ≤ℤ t.nanoseconds) (late_form t.nanoseconds) is.form in
    rw (read, form) refl

pub date_meaning : IsMeaning (Leaf 24 IsDate) date_of
date_meaning = leaf_meaning 24 IsDate (λ c. plain (moment_in c)) (λ c t given. date_found c t (was_some (moment_in c) t given)) (λ c t is. ap plain (date_only c t is))

pub date_reading : IsReading InvalidityDate date_at
date_reading = next_reading (Leaf 24 IsDate) date_of date_meaning

-- ---- comments

ia5_found : (c text : List ℕ) → ia5_in c ≡ Ok text → IsIa5 c text
ia5_found c text given =
    elim (chosen (list_all is_below_80 c) _ _ _ given) [
      | inl is ↦ record { same = sym (text_found c text is.1).1; below_80 = is.0 }
      | inr other ↦ let impossible = other.1 in cc
    ]

ia5_only : (c text : List ℕ) → IsIa5 c text → ia5_in c ≡ Ok text
ia5_only c text is =
    let below : list_all is_below_80 c ≡ true = is.below_80 in
    rw (below) (text_only c (text_is_utf8 is_below_80 below_80 c is.below_80) ∙ ap (λ z. Ok z) (sym is.same))

ia5_meaning : IsMeaning (Leaf 22 IsIa5) ia5_of
ia5_meaning = leaf_meaning 22 IsIa5 ia5_in ia5_found ia5_only

ia5_reading : IsReading (One (Leaf 22 IsIa5)) ia5_at
ia5_reading = next_reading (Leaf 22 IsIa5) ia5_of ia5_meaning

bare_case : (i text r : List ℕ) → bare_at i ≡ Ok (text, r) → IsUtf8 i × (text ≡ i) × (r ≡ [])
bare_case i text r given =
    let read = two (text_in i) _ (text, r) given in
    let is = text_found i read.0 read.1 in
    let both : ◌≡◌ {A = List ℕ × List ℕ} (read.0, []) (text, r) = cc in
    let value : read.0 ≡ text = ap (λ (z : List ℕ × List ℕ). z.0) both in
    let none : [] ≡ r = ap (λ (z : List ℕ × List ℕ). z.1) both in
    (is.0, sym (is.1 ∙ value), sym none)

comment_found : (i : List ℕ) (o : Answer (List ℕ × List ℕ)) (text r : List ℕ) → AllBelowBase 256 i → ia5_at i ≡ o → comment_by i o ≡ Ok (text, r) → NetscapeComment i text r × AllBelowBase 256 r
comment_found i (Ok x) text r below read given =
    let same : ◌≡◌ {A = List ℕ × List ℕ} x (text, r) = cc in
    let is = ia5_reading.found i text r below (read ∙ ap (λ z. Ok z) same) in
    (ia5_string is.0, is.1)
comment_found i (Err e) text r below read given =
    let case = bare_case i text r given in
    (bare (λ v s is. let there = ia5_reading.only i v s below is in cc) case.0 case.1 case.2, subst (AllBelowBase 256) (sym case.2) tt)

comment_bare : (i : List ℕ) (o : Answer (List ℕ × List ℕ)) → AllBelowBase 256 i → ia5_at i ≡ o → NoneBegins (One (Leaf 22 IsIa5)) i → IsUtf8 i → comment_by i o ≡ Ok (i, [])
comment_bare i (Ok x) below read none utf8 = absurd (none x.0 x.1 (ia5_reading.found i x.0 x.1 below read).0)
comment_bare i (Err e) below read none utf8 = rw (text_only i utf8) refl

comment_only : (i text r : List ℕ) → AllBelowBase 256 i → NetscapeComment i text r → comment_at i ≡ Ok (text, r)
comment_only i text r below (ia5_string is) = ap (comment_by i) (ia5_reading.only i text r below is)
comment_only i text r below (bare none utf8 text_is rest_is) = comment_bare i (ia5_at i) below refl none utf8 ∙ ap (λ z. Ok z) (rw (text_is, rest_is) refl)

pub comment_reading : IsReading NetscapeComment comment_at
comment_reading = record {
  found = λ i v r below given. comment_found i (ia5_at i) v r below refl given;
  only = λ i v r below is. comment_only i v r below is;
}
