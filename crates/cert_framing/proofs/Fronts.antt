-- What is at the front of octets that begin as a sequence does.
use Rattle.std.proofs.Common.{◌≡◌, ◌≢◌, ℕ, suc, ◌+◌, ◌-◌, ◌^◌, ◌<◌, ◌≤◌, List, [], ◌∷◌, ◌++◌, length, get_or, take, drop, refl, subst, ◌⊎◌, sym, ◌∙◌, ap, append_assoc, length-append, length-drop, replicate, min, inl, inr, arith}
use Rattle.std.proofs.lemmas.Bool.{cases_lt}
use Rattle.std.proofs.lemmas.List.{append-nil, length-replicate, length-take-le, take-append-drop, take_all, take_at, take-take, drop-take, nil_from_length}
use Rattle.std.proofs.lemmas.Int.Digits.{length-digits_of-le}
use Rattle.std.specs.Int.Digits.{digits_of}
use Rattle.asn1_core.specs.Strict.{strict_length}
use Rattle.cert_framing.specs.Framing.{IsItem, IsCutShort}
use Rattle.cert_framing.specs.Fronts.{MeetsNoItem, IsLongLength}
use Rattle.cert_framing.proofs.Lists.{front_cases}
use Rattle.cert_framing.proofs.Numbers.{where_none}
use Rattle.cert_framing.proofs.Sequences.{short_length, long_length}

-- an item from its length and content
item_from : (limit n : ℕ) (size content : List ℕ) → length content ≡ n → n ≤ limit → strict_length n ≡ size → IsItem limit (48 ∷ (size ++ content))
item_from limit n size content width small spelled =
    record {
      content = content;
      small = omega arith;
      spelled = ap (λ (x : List ℕ). 48 ∷ (x ++ content)) (sym spelled ∙ ap strict_length (sym width));
    }

none_is_some : (k : ℕ) → 0 < k → replicate {A = ℕ} k 0 ≢ []
none_is_some k pos none =
    let zeros : List ℕ = replicate k 0 in
    let width : length zeros ≡ k = length-replicate {A = ℕ} k 0 in
    let empty : 0 ≡ k = rw none at width in
    omega arith

-- nothing at all begins 30 00, and so does 30
pub nothing_is_cut : (limit : ℕ) (octets : List ℕ) → length octets ≡ 0 → IsCutShort limit octets
nothing_is_cut limit [] empty = (48 ∷ 0 ∷ [], (λ none. cc), item_from limit 0 (0 ∷ []) [] refl (omega arith) refl)
nothing_is_cut limit (x ∷ octets) empty = absurd (omega arith)

pub lone_is_cut : (limit : ℕ) (octets : List ℕ) → length octets ≡ 1 → get_or octets 0 0 ≡ 48 → IsCutShort limit octets
lone_is_cut limit [] one first = absurd (omega arith)
lone_is_cut limit (x ∷ y ∷ octets) one first = absurd (omega arith)
lone_is_cut limit (x ∷ []) one first =
    subst (λ (y : ℕ). IsCutShort limit (y ∷ [])) (sym first) (0 ∷ [], (λ none. cc), item_from limit 0 (0 ∷ []) [] refl (omega arith) refl)

-- the short form, its content not complete
pub short_is_cut : (limit n : ℕ) (rest : List ℕ) → n < 128 → n ≤ limit → length rest < n → IsCutShort limit (48 ∷ n ∷ rest)
short_is_cut limit n rest short small part = (
  replicate (n - length rest) 0,
  none_is_some (n - length rest) (omega arith),
  item_from limit n (n ∷ []) (rest ++ replicate (n - length rest) 0)
      (omega (arith, length-append rest (replicate (n - length rest) 0), length-replicate {A = ℕ} (n - length rest) 0)) small (short_length n short),
)

-- complete
pub short_is_whole : (limit n : ℕ) (rest : List ℕ) → n < 128 → n ≤ limit → n ≤ length rest → IsItem limit (48 ∷ n ∷ take n rest)
short_is_whole limit n rest short small whole =
    item_from limit n (n ∷ []) (take n rest) (length-take-le n rest whole) small (short_length n short)

-- what an item says that such octets begin or that begins them
two_heads : (x y : ℕ) (a b : List ℕ) → x ∷ a ≡ y ∷ b → (x ≡ y) × (a ≡ b)
two_heads x y a b e = (cc, cc)

-- the octets after 30 are a length, a content and what follows
behind_first : (limit : ℕ) (octets more item after : List ℕ) (is : IsItem limit item) → (48 ∷ octets) ++ more ≡ item ++ after
    → octets ++ more ≡ strict_length (length is.content) ++ (is.content ++ after)
behind_first limit octets more item after is e =
    let f : 48 ∷ (octets ++ more) ≡ 48 ∷ ((strict_length (length is.content) ++ is.content) ++ after) =
    e ∙ ap (λ (x : List ℕ). x ++ after) is.spelled in
    (two_heads 48 48 (octets ++ more) ((strict_length (length is.content) ++ is.content) ++ after) f).1
    ∙ append_assoc (strict_length (length is.content)) is.content after

-- the short form above the limit
pub short_is_none : (limit n : ℕ) (rest : List ℕ) → n < 128 → limit < n → MeetsNoItem limit (48 ∷ n ∷ rest)
short_is_none limit n rest short large item more after is e =
    let f = behind_first limit (n ∷ rest) more item after is e in
    elim (cases_lt (length is.content) 128) [
      | inl low ↦ (
          let g : n ∷ (rest ++ more) ≡ length is.content ∷ (is.content ++ after) = rw (short_length (length is.content) low) at f in
          let same : n ≡ length is.content = (two_heads n (length is.content) (rest ++ more) (is.content ++ after) g).0 in
          let small : length is.content ≤ limit = is.small in
          omega arith)
      | inr high ↦ (
          let ds : List ℕ = digits_of 256 (length is.content) in
          let g : n ∷ (rest ++ more) ≡ (128 + length ds) ∷ (ds ++ (is.content ++ after)) = rw (long_length (length is.content) high) at f in
          let same : n ≡ 128 + length ds = (two_heads n (128 + length ds) (rest ++ more) (ds ++ (is.content ++ after)) g).0 in
          omega arith)
    ]

-- the known length octets are all of them or the first
known_digits : (count n : ℕ) (rest more after : List ℕ) → 128 ≤ n → count ≡ length (digits_of 256 n) → rest ++ more ≡ digits_of 256 n ++ after
    → IsLongLength (take count rest) count n
known_digits count n rest more after high size e =
    elim (front_cases rest more (digits_of 256 n) after e) [
      | inl w ↦ (
          let taken : take count rest ≡ digits_of 256 n = ap (take count) w.1 ∙ take_at (digits_of 256 n) w.0 count (sym size) in
          record { more = []; large = high; spelled = sym taken ∙ sym (append-nil (take count rest)); full = ap length (append-nil (take count rest)) ∙ ap length taken ∙ sym size })
      | inr w ↦ (
          let short : length rest ≤ count = omega (arith, ap length w.2, length-append rest w.0) in
          let taken : take count rest ≡ rest = take_all count rest short in
          record { more = w.0; large = high; spelled = rw taken w.2; full = rw taken (sym (ap length w.2) ∙ sym size) })
    ]

-- an item whose octets begin or go on from such octets has a long length that begins with the known ones
long_length_from : (limit count : ℕ) (rest more item after : List ℕ) (is : IsItem limit item) → (48 ∷ (128 + count) ∷ rest) ++ more ≡ item ++ after
    → IsLongLength (take count rest) count (length is.content)
long_length_from limit count rest more item after is e =
    let n : ℕ = length is.content in
    let f = behind_first limit ((128 + count) ∷ rest) more item after is e in
    elim (cases_lt n 128) [
      | inl low ↦ (
          let g : (128 + count) ∷ (rest ++ more) ≡ n ∷ (is.content ++ after) = rw (short_length n low) at f in
          let same : 128 + count ≡ n = (two_heads (128 + count) n (rest ++ more) (is.content ++ after) g).0 in
          absurd (omega arith))
      | inr high ↦ (
          let ds : List ℕ = digits_of 256 n in
          let g : (128 + count) ∷ (rest ++ more) ≡ (128 + length ds) ∷ (ds ++ (is.content ++ after)) = rw (long_length n high) at f in
          let heads = two_heads (128 + count) (128 + length ds) (rest ++ more) (ds ++ (is.content ++ after)) g in
          let same : 128 + count ≡ 128 + length ds = heads.0 in
          known_digits count n rest more (is.content ++ after) high (omega arith) heads.1)
    ]

-- no such length, or none under the limit
pub long_is_none : (limit count : ℕ) (rest : List ℕ) → ((n : ℕ) → IsLongLength (take count rest) count n → n ≤ limit → ⊥)
    → MeetsNoItem limit (48 ∷ (128 + count) ∷ rest)
long_is_none limit count rest none item more after is e =
    none (length is.content) (long_length_from limit count rest more item after is e) is.small

-- too few length octets for a long form, or too many for the limit
pub none_of_count : (limit count : ℕ) (known : List ℕ) (n : ℕ) → limit < 2 ^ 32 → (count ≡ 0) ⊎ (4 < count) → IsLongLength known count n → n ≤ limit → ⊥
none_of_count limit count known n low counts long small =
    elim counts [
      | inl none ↦ (
          let empty : length (digits_of 256 n) ≡ 0 = ap length long.spelled ∙ long.full ∙ none in
          where_none n long.large (nil_from_length (digits_of 256 n) empty))
      | inr many ↦ (
          let few : length (digits_of 256 n) ≤ 4 = length-digits_of-le 256 4 n (omega arith) (omega arith) in
          let full : length (digits_of 256 n) ≡ count = ap length long.spelled ∙ long.full in
          omega arith)
    ]

-- an item from the octets of its long length
long_item : (limit count n : ℕ) (ds content : List ℕ) → digits_of 256 n ≡ ds → length ds ≡ count → 128 ≤ n → n ≤ limit → length content ≡ n
    → IsItem limit (48 ∷ (128 + count) ∷ (ds ++ content))
long_item limit count n ds content digits width large small size =
    let spelled : strict_length n ≡ (128 + count) ∷ ds =
    long_length n large ∙ ap (λ (x : List ℕ). (128 + length x) ∷ x) digits ∙ ap (λ (k : ℕ). (128 + k) ∷ ds) width in
    item_from limit n ((128 + count) ∷ ds) content size small spelled

header_is_cut : (limit count n : ℕ) (rest : List ℕ) → IsLongLength (take count rest) count n → n ≤ limit → length rest < count
    → IsCutShort limit (48 ∷ (128 + count) ∷ rest)
header_is_cut limit count n rest long small cut =
    let zeros : List ℕ = replicate n 0 in
    let width : length zeros ≡ n = length-replicate {A = ℕ} n 0 in
    let known : take count rest ≡ rest = take_all count rest (omega arith) in
    let digits : digits_of 256 n ≡ rest ++ long.more = rw known at long.spelled in
    let size : length (rest ++ long.more) ≡ count = rw known at long.full in
    let item : IsItem limit (48 ∷ (128 + count) ∷ ((rest ++ long.more) ++ zeros)) =
    long_item limit count n (rest ++ long.more) zeros digits size long.large small width in (
      long.more ++ zeros,
      (λ none. let size : 0 ≡ length (long.more ++ zeros) = ap length (sym none) in omega (arith, length-append long.more zeros, long.large)),
      subst (λ (x : List ℕ). IsItem limit (48 ∷ (128 + count) ∷ x)) (append_assoc rest long.more zeros) item,
    )

-- all length octets are known
all_known : (count n : ℕ) (rest : List ℕ) → IsLongLength (take count rest) count n → count ≤ length rest → digits_of 256 n ≡ take count rest
all_known count n rest long all =
    let size : length (take count rest) ≡ count = length-take-le count rest all in
    let none : length long.more ≡ 0 = omega (arith, long.full, length-append (take count rest) long.more) in
    let nil : long.more ≡ [] = nil_from_length long.more none in
    long.spelled ∙ ap (λ (x : List ℕ). take count rest ++ x) nil ∙ append-nil (take count rest)

content_is_cut : (limit count n : ℕ) (rest : List ℕ) → IsLongLength (take count rest) count n → n ≤ limit → length rest < count + n
    → count ≤ length rest → IsCutShort limit (48 ∷ (128 + count) ∷ rest)
content_is_cut limit count n rest long small part all =
    let tail : List ℕ = drop count rest in
    let behind : length tail ≡ length rest - count = length-drop count rest in
    let zeros : List ℕ = replicate (n - length tail) 0 in
    let width : length zeros ≡ n - length tail = length-replicate {A = ℕ} (n - length tail) 0 in
    let size : length (tail ++ zeros) ≡ n = omega (arith, length-append tail zeros) in
    let item : IsItem limit (48 ∷ (128 + count) ∷ (take count rest ++ (tail ++ zeros))) =
    long_item limit count n (take count rest) (tail ++ zeros) (all_known count n rest long all) (length-take-le count rest all) long.large small size in
    let whole : take count rest ++ (tail ++ zeros) ≡ rest ++ zeros =
    sym (append_assoc (take count rest) tail zeros) ∙ ap (λ (x : List ℕ). x ++ zeros) (take-append-drop count rest) in
    (zeros, none_is_some (n - length tail) (omega arith), subst (λ (x : List ℕ). IsItem limit (48 ∷ (128 + count) ∷ x)) whole item)

-- the least length is under the limit, and its octets or its content are not complete
pub long_is_cut : (limit count n : ℕ) (rest : List ℕ) → IsLongLength (take count rest) count n → n ≤ limit → length rest < count + n
    → IsCutShort limit (48 ∷ (128 + count) ∷ rest)
long_is_cut limit count n rest long small part =
    elim (cases_lt (length rest) count) [ inl cut ↦ header_is_cut limit count n rest long small cut | inr all ↦ content_is_cut limit count n rest long small part all ]

-- a front is its own front and what follows there
taken_parts : (a b : ℕ) (xs : List ℕ) → take a xs ++ take b (drop a xs) ≡ take (a + b) xs
taken_parts a b xs =
    let front : take a (take (a + b) xs) ≡ take a xs = take-take a (a + b) xs (omega arith) in
    let back : drop a (take (a + b) xs) ≡ take b (drop a xs) = drop-take a b xs in
    let whole : take a (take (a + b) xs) ++ drop a (take (a + b) xs) ≡ take (a + b) xs = take-append-drop a (take (a + b) xs) in
    rw (front, back) at whole

-- complete
pub long_is_whole : (limit count n : ℕ) (rest : List ℕ) → IsLongLength (take count rest) count n → n ≤ limit → count + n ≤ length rest
    → IsItem limit (48 ∷ (128 + count) ∷ take (count + n) rest)
long_is_whole limit count n rest long small whole =
    let tail : List ℕ = drop count rest in
    let behind : length tail ≡ length rest - count = length-drop count rest in
    let item : IsItem limit (48 ∷ (128 + count) ∷ (take count rest ++ take n tail)) =
    long_item limit count n (take count rest) (take n tail) (all_known count n rest long (omega arith)) (length-take-le count rest (omega arith))
    long.large small (length-take-le n tail (omega arith)) in
    subst (λ (x : List ℕ). IsItem limit (48 ∷ (128 + count) ∷ x)) (taken_parts count n rest) item

-- complete items, as the code meets them
pub short_front_whole : (limit n : ℕ) (rest : List ℕ) → n < 128 → n ≤ limit → n ≤ length rest → IsItem limit (take (2 + n) (48 ∷ n ∷ rest))
short_front_whole limit n rest short small whole =
    let two : 2 + n ≡ suc (suc n) = omega arith in
    rw two (short_is_whole limit n rest short small whole)

pub long_front_whole : (limit count n : ℕ) (rest : List ℕ) → IsLongLength (take count rest) count n → n ≤ limit → count + n ≤ length rest
    → IsItem limit (take (2 + (count + n)) (48 ∷ (128 + count) ∷ rest))
long_front_whole limit count n rest long small whole =
    let two : 2 + (count + n) ≡ suc (suc (count + n)) = omega arith in
    rw two (long_is_whole limit count n rest long small whole)

-- the octets that the code takes for known
pub known_are : (count m : ℕ) (rest known : List ℕ) → known ≡ take m rest → m ≡ min (length rest) count → known ≡ take count rest
known_are count m rest known taken least =
    elim (cases_lt (length rest) count) [
      | inl short ↦ (let all : m ≡ length rest = omega arith in taken ∙ rw all (take_all (length rest) rest (omega arith) ∙ sym (take_all count rest (omega arith))))
      | inr long ↦ (let all : m ≡ count = omega arith in taken ∙ ap (λ (n : ℕ). take n rest) all)
    ]
