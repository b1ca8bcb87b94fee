-- One length, one sequence, one item begins a list.
use Rattle.std.proofs.Common.{◌≡◌, ℕ, ◌+◌, ◌<◌, ◌≤◌, List, [], ◌∷◌, ◌++◌, length, sym, ◌∙◌, ap, ltb, append_assoc, inl, inr, arith}
use Rattle.std.proofs.lemmas.Bool.{cond-true, cond-false, lt-ltb, le-ltb, cases_lt}
use Rattle.std.proofs.lemmas.Int.Digits.{same_from_digits_of}
use Rattle.std.specs.Int.Digits.{digits_of}
use Rattle.asn1_core.specs.Strict.{strict_length}
use Rattle.cert_framing.specs.Framing.{sequence_of, IsItem}
use Rattle.cert_framing.proofs.Lists.{same_fronts}

pub short_length : (n : ℕ) → n < 128 → strict_length n ≡ n ∷ []
short_length n small = cond-true (ltb n 128) (n ∷ []) ((128 + length (digits_of 256 n)) ∷ digits_of 256 n) (lt-ltb n 128 small)

pub long_length : (n : ℕ) → 128 ≤ n → strict_length n ≡ (128 + length (digits_of 256 n)) ∷ digits_of 256 n
long_length n large = cond-false (ltb n 128) (n ∷ []) ((128 + length (digits_of 256 n)) ∷ digits_of 256 n) (le-ltb n 128 large)

heads : (x y : ℕ) (a b : List ℕ) → x ∷ a ≡ y ∷ b → (x ≡ y) × (a ≡ b)
heads x y a b e = (cc, cc)

-- lengths of one form
one_short : (m n : ℕ) (rest after : List ℕ) → m < 128 → n < 128 → strict_length m ++ rest ≡ strict_length n ++ after → (m ≡ n) × (rest ≡ after)
one_short m n rest after sm sn e =
    let f : m ∷ rest ≡ n ∷ after = rw (short_length m sm, short_length n sn) at e in
    heads m n rest after f

one_long : (m n : ℕ) (rest after : List ℕ) → 128 ≤ m → 128 ≤ n → strict_length m ++ rest ≡ strict_length n ++ after → (m ≡ n) × (rest ≡ after)
one_long m n rest after lm ln e =
    let f : (128 + length (digits_of 256 m)) ∷ (digits_of 256 m ++ rest) ≡ (128 + length (digits_of 256 n)) ∷ (digits_of 256 n ++ after) =
    rw (long_length m lm, long_length n ln) at e in
    let parts = heads (128 + length (digits_of 256 m)) (128 + length (digits_of 256 n)) (digits_of 256 m ++ rest) (digits_of 256 n ++ after) f in
    let sizes : 128 + length (digits_of 256 m) ≡ 128 + length (digits_of 256 n) = parts.0 in
    let both = same_fronts (digits_of 256 m) (digits_of 256 n) rest after (omega arith) parts.1 in
    (same_from_digits_of 256 m n (omega arith) both.0, both.1)

-- a short length is no long one
not_both : (m n : ℕ) (rest after : List ℕ) → m < 128 → 128 ≤ n → strict_length m ++ rest ≡ strict_length n ++ after → ⊥
not_both m n rest after sm ln e =
    let f : m ∷ rest ≡ (128 + length (digits_of 256 n)) ∷ (digits_of 256 n ++ after) = rw (short_length m sm, long_length n ln) at e in
    let first : m ≡ 128 + length (digits_of 256 n) = (heads m (128 + length (digits_of 256 n)) rest (digits_of 256 n ++ after) f).0 in
    omega arith

-- two strict lengths that begin one list are one
pub one_length : (m n : ℕ) (rest after : List ℕ) → strict_length m ++ rest ≡ strict_length n ++ after → (m ≡ n) × (rest ≡ after)
one_length m n rest after e =
    elim (cases_lt m 128) [
      | inl sm ↦ elim (cases_lt n 128) [ inl sn ↦ one_short m n rest after sm sn e | inr ln ↦ absurd (not_both m n rest after sm ln e) ]
      | inr lm ↦ elim (cases_lt n 128) [ inl sn ↦ absurd (not_both n m after rest sn lm (sym e)) | inr ln ↦ one_long m n rest after lm ln e ]
    ]

-- the octets after the first
tail_is : (x : ℕ) (a b : List ℕ) → x ∷ a ≡ x ∷ b → a ≡ b
tail_is x a b e = cc

one_sequence : (content other rest after : List ℕ) → sequence_of content ++ rest ≡ sequence_of other ++ after → (content ≡ other) × (rest ≡ after)
one_sequence content other rest after e =
    let tails : (strict_length (length content) ++ content) ++ rest ≡ (strict_length (length other) ++ other) ++ after =
    tail_is 48 ((strict_length (length content) ++ content) ++ rest) ((strict_length (length other) ++ other) ++ after) e in
    let f : strict_length (length content) ++ (content ++ rest) ≡ strict_length (length other) ++ (other ++ after) =
    sym (append_assoc (strict_length (length content)) content rest) ∙ tails ∙ append_assoc (strict_length (length other)) other after in
    let both = one_length (length content) (length other) (content ++ rest) (other ++ after) f in
    same_fronts content other rest after both.0 both.1

-- two items that begin one list are one
pub one_item : (limit : ℕ) (item other rest after : List ℕ) → IsItem limit item → IsItem limit other → item ++ rest ≡ other ++ after
    → (item ≡ other) × (rest ≡ after)
one_item limit item other rest after is is' e =
    let f : sequence_of is.content ++ rest ≡ sequence_of is'.content ++ after =
    ap (λ (x : List ℕ). x ++ rest) (sym is.spelled) ∙ e ∙ ap (λ (x : List ℕ). x ++ after) is'.spelled in
    let both = one_sequence is.content is'.content rest after f in
    (is.spelled ∙ ap sequence_of both.0 ∙ sym is'.spelled, both.1)

-- an item has octets
pub item_is_some : (limit : ℕ) (item : List ℕ) → IsItem limit item → 0 < length item
item_is_some limit item is = rw is.spelled (omega arith)
