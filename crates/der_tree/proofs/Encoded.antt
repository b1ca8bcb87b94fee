-- What is written of the tree of an object are its octets.
use Rattle.std.proofs.Common.{Result, Ok, Err, OnOk, ◌≡◌, ◌∙◌, sym, ap, refl, ℕ, ◌-◌, ◌/◌, ◌%◌, ◌<◌, ◌≤◌, nat_lt, List, [], ◌∷◌, ◌++◌, true, false, length, get_or, lt-ltb, le-ltb, arith, append_assoc, length-append, zero, suc}
use Rattle.std.specs.Int.Digits.{digits_of, number_from_digits, AllBelowBase}
use Rattle.std.proofs.lemmas.Int.Digits.{digits_of_step}
use Rattle.std.proofs.lemmas.Bool.Decides.{nat_tests}
use Rattle.asn1_core.specs.Strict.{strict_header}
use Rattle.asn1_core.specs.Elements.{Element, head_of_element}
use Rattle.asn1_core.proofs.Numbers.{digits_shortest}
use Rattle.der_tree.specs.Table.{is_shortest, is_negative}
use Rattle.der_tree.specs.Tree.{Leaf, end_of_content, boolean, bit_string, null, oid, enumerated, plain, raw, Tree, node, Content, leaf, sequence, set, Trees, none, more, octets, all_octets}
use Rattle.der_tree.specs.Shape.{IsObject, IsContent, AreObjects, Holds}
use Rattle.der_tree.specs.Encode.{positive, leaf_octets, sized, encoded, encoded_content, all_encoded}

-- one more octet at the end of what was written
pub pushed : {T E : Type 0} (r : Result T E) (old mid new front all : List ℕ) (last : ℕ) → mid ≡ old ++ front → all ≡ front ++ last ∷ [] → OnOk r (new ≡ mid ++ last ∷ []) → OnOk r (new ≡ old ++ all)
pushed (Ok x) old mid new front all last p q e = e ∙ ap (λ z. z ++ last ∷ []) p ∙ append_assoc old front (last ∷ []) ∙ ap (λ z. old ++ z) (sym q)
pushed (Err x) old mid new front all last p q e = e

pub one_digit : (n : ℕ) → 0 < n → n < 256 → digits_of 256 n ≡ n ∷ []
one_digit n p q =
    let high : n / 256 ≡ 0 = omega arith in
    let low : n % 256 ≡ n = omega arith in
    digits_of_step 256 n (omega arith) p ∙ ap (λ z. digits_of 256 z ++ n % 256 ∷ []) high ∙ ap (λ z. z ∷ []) low

first_append : (xs ys : List ℕ) → 0 < length xs → get_or (xs ++ ys) 0 0 ≡ get_or xs 0 0
first_append [] ys p = absurd (omega arith)
first_append (x ∷ xs) ys p = refl

pub digits_long : (n : ℕ) → 0 < n → 0 < length (digits_of 256 n)
digits_long n p = omega (arith, ap length (digits_of_step 256 n (omega arith) p), length-append (digits_of 256 (n / 256)) (n % 256 ∷ []))

pub first_digit_of : (n : ℕ) → 256 ≤ n → get_or (digits_of 256 n) 0 0 ≡ get_or (digits_of 256 (n / 256)) 0 0
first_digit_of n p =
    ap (λ z. get_or z 0 0) (digits_of_step 256 n (omega arith) (omega arith)) ∙ first_append (digits_of 256 (n / 256)) (n % 256 ∷ []) (digits_long (n / 256) (omega arith))

pub positive_low : (ds : List ℕ) → 0 < length ds → get_or ds 0 0 < 128 → positive ds ≡ ds
positive_low [] p q = absurd (omega arith)
positive_low (d ∷ ds) p q = let low : nat_lt d 128 ≡ true = lt-ltb d 128 q in rw low refl

pub positive_high : (ds : List ℕ) → 0 < length ds → 128 ≤ get_or ds 0 0 → positive ds ≡ 0 ∷ ds
positive_high [] p q = absurd (omega arith)
positive_high (d ∷ ds) p q = let high : nat_lt d 128 ≡ false = le-ltb d 128 q in rw high refl

-- shortest octets of a number that isn't negative are those that are written of it
positive_same : (s : List ℕ) → is_shortest s ≡ true → is_negative s ≡ false → AllBelowBase 256 s → positive (digits_of 256 (number_from_digits 256 s)) ≡ s
positive_same [] p q below = cc
positive_same (zero ∷ []) p q below = refl
positive_same (suc a ∷ []) p q below =
    let low : suc a < 128 = grind (arith, nat_tests) in
    ap positive (digits_shortest 256 (suc a) [] (omega arith) (omega arith) below) ∙ positive_low (suc a ∷ []) (omega arith) low
positive_same (zero ∷ b ∷ s) p q below =
    let high : 128 ≤ b = grind (arith, nat_tests) in
    ap positive (digits_shortest 256 b s (omega arith) (omega arith) below.1) ∙ positive_high (b ∷ s) (omega arith) high
positive_same (suc a ∷ b ∷ s) p q below =
    let low : suc a < 128 = grind (arith, nat_tests) in
    ap positive (digits_shortest 256 (suc a) (b ∷ s) (omega arith) (omega arith) below) ∙ positive_low (suc a ∷ b ∷ s) (omega arith) low

leaf_same : (e : Element) (v : Leaf) → Holds e v → leaf_octets v ≡ e.content
leaf_same e end_of_content p = absurd p
leaf_same e (boolean b) p = sym p.1
leaf_same e (bit_string unused s) p = sym p.1
leaf_same e null p = sym p.1
leaf_same e (oid s) p = p.1
leaf_same e (enumerated n) p = ap (λ z. positive (digits_of 256 z)) p.1 ∙ positive_same e.content p.2.shortest p.2.sign p.2.octets
leaf_same e (plain k s) p = p.1
leaf_same e (raw f) p = ap (λ (z : Element). z.content) p.1

mutual
  unfolding IsObject IsContent AreObjects

  pub encoded_same : (t : Tree) (k : ℕ) → IsObject k t → encoded t ≡ octets t
  encoded_same (node h s c) k p =
      let inner : encoded_content c ≡ p.1.content = content_same c (k - 1) p.1 p.4 in
      let head : sized h (length (encoded_content c)) ≡ head_of_element p.1 = ap (λ z. sized z (length (encoded_content c))) p.2 ∙ ap (λ z. sized (head_of_element p.1) (length z)) inner in
      ap (λ z. strict_header z ++ encoded_content c) head ∙ ap (λ z. strict_header (head_of_element p.1) ++ z) inner ∙ sym p.3.octets

  content_same : (c : Content) (k : ℕ) (e : Element) → IsContent k e c → encoded_content c ≡ e.content
  content_same (leaf v) k e p = leaf_same e v p
  content_same (sequence ts) k e p = all_same ts k p.2 ∙ sym p.1
  content_same (set ts) k e p = all_same ts k p.2 ∙ sym p.1

  all_same : (ts : Trees) (k : ℕ) → AreObjects k ts → all_encoded ts ≡ all_octets ts
  all_same none k p = refl
  all_same (more t ts) k p = ap (λ z. z ++ all_encoded ts) (encoded_same t k p.0) ∙ ap (λ z. octets t ++ z) (all_same ts k p.1)
