-- What is cut off at a length.
use Rattle.std.proofs.Common.{◌≡◌, refl, sym, ◌∙◌, ap, ℕ, ◌-◌, ◌≤◌, List, ◌++◌, length, take, drop, Ok, Bool, true, false, if◌then◌else◌, arith, length-append}
use Rattle.std.specs.Prelude.{nat_lt}
use Rattle.std.proofs.lemmas.List.{take-append-drop, length-take-le, take_at, drop_at}
use Rattle.std.proofs.lemmas.Bool.{ltb-false, le-ltb}
use Rattle.asn1_core.specs.Answers.{lack}
use Rattle.asn1_any.specs.Reading.{part_at}
use Rattle.asn1_core.proofs.Cases.{same_answer}

part_by : (b : Bool) (n : ℕ) (octets content rest : List ℕ) → nat_lt (length octets) n ≡ b →
    (if b then lack (n - length octets) else Ok (take n octets, drop n octets)) ≡ Ok (content, rest) → (length content ≡ n) × (octets ≡ content ++ rest)
part_by true n octets content rest long e = cc
part_by false n octets content rest long e =
    let both = same_answer (take n octets) content (drop n octets) rest e in
    let fits : n ≤ length octets = ltb-false (length octets) n long in
    (ap length (sym both.0) ∙ length-take-le n octets fits, sym (take-append-drop n octets) ∙ ap (λ z. z ++ drop n octets) both.0 ∙ ap (λ z. content ++ z) both.1)

pub part_found : (n : ℕ) (octets content rest : List ℕ) → part_at n octets ≡ Ok (content, rest) → (length content ≡ n) × (octets ≡ content ++ rest)
part_found n octets content rest e = part_by (nat_lt (length octets) n) n octets content rest refl e

pub part_only : (n : ℕ) (content rest : List ℕ) → length content ≡ n → part_at n (content ++ rest) ≡ Ok (content, rest)
part_only n content rest e =
    let fits : nat_lt (length (content ++ rest)) n ≡ false = le-ltb (length (content ++ rest)) n (omega (arith, length-append content rest)) in
    rw (fits, take_at content rest n e, drop_at content rest n e) refl
