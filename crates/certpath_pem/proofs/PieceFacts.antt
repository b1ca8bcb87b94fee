-- Base64 that is decoded piece by piece.
use Rattle.std.proofs.Common.{◌≡◌, ◌≢◌, ◌∙◌, sym, ap, subst, refl, ℕ, zero, suc, ◌+◌, ◌-◌, ◌*◌, ◌/◌, ◌%◌, ◌<◌, ◌≤◌, Bool, true, false, List, [], ◌∷◌, ◌++◌, length, take, drop, replicate, Ok, Err, arith, inl, inr, ◌⊎◌, append_assoc}
use Rattle.std.proofs.lemmas.List.{take-append-drop, take_at, drop_at, length-append, length-take-le, length-replicate, append-nil, take_all}
use Rattle.std.specs.declared.result.Result.{Result}
use Rattle.std.specs.List.{filter}
use Rattle.base64.specs.declared.decode.DecodeError.{DecodeError}
use Rattle.base64.specs.Rfc4648.{encode_symbols, padding_len}
use Rattle.base64.specs.Engines.{standard}
use Rattle.base64.specs.GeneralPurpose.{IsBytes, encode_of, decode_of}
use Rattle.base64.proofs.RoundTrip.{length-encode_symbols}
use Rattle.base64.proofs.EngineFacts.{encode_of-append, encode_of-nil, decode_of-encode_of, decode_of_strict}
use Rattle.certpath_pem.specs.Lines.{lines_of}
use Rattle.certpath_pem.specs.Blocks.{Content, octets, unended, headers, empty, no_base64, is_symbol, symbols_of, has_headers, content_of, by_symbols, by_decoding}
use Rattle.certpath_pem.specs.Laws.{IsHeld, IsContent}
use Rattle.certpath_pem.specs.Starts.{Start, start_of, first_of, count_of}
use Rattle.certpath_pem.proofs.LabelFacts.{tells}
use Rattle.certpath_pem.proofs.ContentFacts.{by_symbols_some, symbols_same, shown_headers, shown_symbols}
use Rattle.certpath_pem.proofs.BytesFacts.{no_bytes, bytes_append, bytes_take, bytes_drop, bytes_filter, decoded_is_bytes}

abbrev encoded : List ℕ → List ℕ
encoded = encode_of standard

encoded_length : (o : List ℕ) → length (encoded o) ≡ 4 * ((length o + 2) / 3)
encoded_length o =
    let symbols = length-encode_symbols standard.encode_table o in
    let padding = length-replicate {A = ℕ} (padding_len (length o)) 61 in
    let both = length-append (encode_symbols standard.encode_table o) (replicate (padding_len (length o)) 61) in
    omega (arith, symbols, padding, both)

-- two lists that are one, cut at one place
same_fronts : (a b x y : List ℕ) → a ++ b ≡ x ++ y → length a ≡ length x → (a ≡ x) × (b ≡ y)
same_fronts a b x y e n = (
  sym (take_at a b (length x) n) ∙ ap (take (length x)) e ∙ take_at x y (length x) refl,
  sym (drop_at a b (length x) n) ∙ ap (drop (length x)) e ∙ drop_at x y (length x) refl,
)

some_length : (s : List ℕ) → s ≢ [] → 0 < length s
some_length [] n = absurd (n refl)
some_length (a ∷ s) n = omega arith

-- an encoding that is cut between two groups
record IsCut (o x t : List ℕ) (k : ℕ) : Type 0 where
  within : 3 * k < length o
  front : x ≡ encoded (take (3 * k) o)
  rest : t ≡ encoded (drop (3 * k) o)

cut : (o x t : List ℕ) (k : ℕ) → encoded o ≡ x ++ t → length x ≡ 4 * k → t ≢ [] → IsCut o x t k
cut o x t k e n some =
    let more : 0 < length t = some_length t some in
    let sizes : length (encoded o) ≡ length x + length t = ap length e ∙ length-append x t in
    let whole = encoded_length o in
    let fits : 3 * k < length o = omega (arith, more, sizes, whole, n) in
    let size : length (take (3 * k) o) ≡ 3 * k = length-take-le (3 * k) o (omega (arith, fits)) in
    let groups : length (take (3 * k) o) % 3 ≡ 0 = omega (arith, size) in
    let front : length (encoded (take (3 * k) o)) ≡ length x = omega (arith, encoded_length (take (3 * k) o), size, n) in
    let apart : encoded (take (3 * k) o) ++ encoded (drop (3 * k) o) ≡ x ++ t =
    sym (encode_of-append standard (take (3 * k) o) (drop (3 * k) o) groups) ∙ ap encoded (take-append-drop (3 * k) o) ∙ e in
    let both = same_fronts _ _ x t apart front in
    record { within = fits; front = sym both.0; rest = sym both.1 }

ok_same : {X E : Type 0} (x y : X) → ◌≡◌ {A = Result X E} (Ok x) (Ok y) → x ≡ y
ok_same x y e = cc

pub same_encoded : (a b : List ℕ) → IsBytes a → IsBytes b → encoded a ≡ encoded b → a ≡ b
same_encoded a b f g e = ok_same {E = DecodeError} a b (sym (decode_of-encode_of standard a refl f) ∙ ap (decode_of standard) e ∙ decode_of-encode_of standard b refl g)

abbrev pub NoEncoding : List ℕ → Type 0
NoEncoding s = (o : List ℕ) → IsBytes o → s ≢ encoded o

-- ---- what is read so far: the symbols before the rest are the base64 of these octets

pub record SoFar (limit : ℕ) (symbols rest first : List ℕ) (count : ℕ) : Type 0 where
  pub octets : List ℕ
  pub bytes : IsBytes octets
  pub groups : length octets % 3 ≡ 0
  pub symbols_are : symbols ≡ encoded octets ++ rest
  pub kept : first ≡ take limit octets
  pub counted : count ≡ length octets
  pub more : octets ≢ [] → rest ≢ []

pub nothing_yet : (limit : ℕ) (symbols : List ℕ) → SoFar limit symbols symbols [] 0
nothing_yet limit symbols = record {
  octets = [];
  bytes = no_bytes;
  groups = refl;
  symbols_are = ap (λ z. z ++ symbols) (sym (encode_of-nil standard));
  kept = none_taken limit;
  counted = refl;
  more = λ n. absurd (n refl);
}
  where
    none_taken : (n : ℕ) → ◌≡◌ {A = List ℕ} [] (take n [])
    none_taken zero = refl
    none_taken (suc n) = refl

whole_length : (o : List ℕ) → length o % 3 ≡ 0 → length (encoded o) ≡ 4 * (length o / 3)
whole_length o g = omega (arith, encoded_length o, g)

-- a piece, and what is after it
pub joined : (o p s symbols rest : List ℕ) → length o % 3 ≡ 0 → symbols ≡ encoded o ++ rest → rest ≡ encoded p ++ s → symbols ≡ encoded (o ++ p) ++ s
joined o p s symbols rest g e f =
    e ∙ ap (λ z. encoded o ++ z) f ∙ sym (append_assoc (encoded o) (encoded p) s) ∙ ap (λ z. z ++ s) (sym (encode_of-append standard o p g))

pub kept_more : (limit : ℕ) (o p first : List ℕ) → first ≡ take limit o → first ++ take (limit - length first) p ≡ take limit (o ++ p)
kept_more limit o p first e = ap (λ z. z ++ take (limit - length z) p) e ∙ by limit o
  where
    by : (n : ℕ) (s : List ℕ) → take n s ++ take (n - length (take n s)) p ≡ take n (s ++ p)
    by zero s = refl
    by (suc n) [] = let whole : suc n - 0 ≡ suc n = omega arith in ap (λ m. take m p) whole
    by (suc n) (a ∷ s) =
        let room : suc n - suc (length (take n s)) ≡ n - length (take n s) = omega arith in
        ap (λ m. a ∷ (take n s ++ take m p)) room ∙ ap (λ z. a ∷ z) (by n s)

-- no octets have this encoding, if its last piece is none
pub no_last : (o p symbols : List ℕ) → length o % 3 ≡ 0 → symbols ≡ encoded o ++ p → p ≢ [] → NoEncoding p → NoEncoding symbols
no_last o p symbols g e some none b bytes f =
    let parts = cut b (encoded o) p (length o / 3) (sym f ∙ e) (whole_length o g) some in
    none (drop (3 * (length o / 3)) b) (bytes_drop (3 * (length o / 3)) b bytes) parts.rest

-- nor if a piece before the last one is none, or ends within a group
after_cut : (o p s symbols b : List ℕ) (k : ℕ) → length o % 3 ≡ 0 → symbols ≡ encoded o ++ (p ++ s) → length p ≡ 4 * k → s ≢ [] → symbols ≡ encoded b → IsBytes b
    → (c : List ℕ) × IsBytes c × IsCut c p s k
after_cut o p s symbols b k g e n some f bytes =
    let tail : p ++ s ≢ [] = λ z. some (no_right p s z) in
    let parts = cut b (encoded o) (p ++ s) (length o / 3) (sym f ∙ e) (whole_length o g) tail in
    let c : List ℕ = drop (3 * (length o / 3)) b in
    (c, bytes_drop (3 * (length o / 3)) b bytes, cut c p s k (sym parts.rest) n some)
  where
    no_right : (x y : List ℕ) → x ++ y ≡ [] → y ≡ []
    no_right [] y z = z
    no_right (a ∷ x) y z = cc z

pub no_middle : (o p s symbols : List ℕ) (k : ℕ) → length o % 3 ≡ 0 → symbols ≡ encoded o ++ (p ++ s) → length p ≡ 4 * k → s ≢ [] → NoEncoding p → NoEncoding symbols
no_middle o p s symbols k g e n some none b bytes f =
    let parts = after_cut o p s symbols b k g e n some f bytes in
    none (take (3 * k) parts.0) (bytes_take (3 * k) parts.0 parts.1) parts.2.front

pub no_padded : (o p s symbols q : List ℕ) (k : ℕ) → length o % 3 ≡ 0 → symbols ≡ encoded o ++ (p ++ s) → length p ≡ 4 * k → s ≢ []
    → IsBytes q → p ≡ encoded q → length q % 3 ≢ 0 → NoEncoding symbols
no_padded o p s symbols q k g e n some is_bytes is odd b bytes f =
    let parts = after_cut o p s symbols b k g e n some f bytes in
    let same : q ≡ take (3 * k) parts.0 = same_encoded q (take (3 * k) parts.0) is_bytes (bytes_take (3 * k) parts.0 parts.1) (sym is ∙ parts.2.front) in
    let size : length q ≡ 3 * k = ap length same ∙ length-take-le (3 * k) parts.0 (omega (arith, parts.2.within)) in
    odd (omega (arith, size))

-- ---- what symbols hold

decoding_cases : (r : Result (List ℕ) DecodeError) → ((x : List ℕ) × (r ≡ Ok x)) ⊎ ((e : DecodeError) × (r ≡ Err e))
decoding_cases (Ok x) = inl (x, refl)
decoding_cases (Err e) = inr (e, refl)

pub holds_none : (s : List ℕ) → IsBytes s → s ≢ [] → NoEncoding s → by_symbols s ≡ no_base64
holds_none s bytes some none = elim (decoding_cases (decode_of standard s)) [
  | inl ok ↦ absurd (none ok.0 (decoded_is_bytes s ok.0 bytes ok.1) (decode_of_strict standard s ok.0 (refl, refl) bytes ok.1))
  | inr err ↦ by_symbols_some s some ∙ ap by_decoding err.1
]

pub holds_octets : (s o : List ℕ) → s ≢ [] → IsBytes o → s ≡ encoded o → by_symbols s ≡ octets o
holds_octets s o some bytes e = by_symbols_some s some ∙ ap (λ z. by_decoding (decode_of standard z)) e ∙ ap by_decoding (decode_of-encode_of standard o refl bytes)

held_some : (s : List ℕ) (r : Result (List ℕ) DecodeError) → IsBytes s → s ≢ [] → decode_of standard s ≡ r → IsHeld s (by_decoding r)
held_some s (Ok b) bytes some ok =
    let is = decode_of_strict standard s b (refl, refl) bytes ok in
    (λ none. some (is ∙ ap encoded none ∙ encode_of-nil standard), decoded_is_bytes s b bytes ok, is)
held_some s (Err e) bytes some bad = λ o is f. apart o e (sym bad ∙ ap (decode_of standard) f ∙ decode_of-encode_of standard o refl is)
  where
    apart : (x : List ℕ) (d : DecodeError) → ◌≡◌ {A = Result (List ℕ) DecodeError} (Err d) (Ok x) → ⊥
    apart x d p = cc p

pub is_held : (s : List ℕ) → IsBytes s → IsHeld s (by_symbols s)
is_held [] bytes = refl
is_held (a ∷ s) bytes = held_some (a ∷ s) (decode_of standard (a ∷ s)) bytes (λ e. cc e) refl

content_kept : (body : List (List ℕ)) (content : Content) → has_headers body ≡ false → IsHeld (symbols_of body) content → IsContent body true content
content_kept body (octets o) none held = (refl, none, held)
content_kept body unended none held = absurd held
content_kept body headers none held = absurd held
content_kept body empty none held = (refl, none, held)
content_kept body no_base64 none held = (refl, none, held)

pub is_content : (s : List ℕ) (ended : Bool) → IsBytes s → IsContent (lines_of s) ended (content_of (lines_of s) ended)
is_content s false bytes = refl
is_content s true bytes = elim (tells (has_headers (lines_of s))) [
  | inl there ↦ subst (IsContent (lines_of s) true) (sym (shown_headers s there)) (refl, there)
  | inr none ↦
      let held : IsHeld (symbols_of (lines_of s)) (by_symbols (filter is_symbol s)) =
      subst (λ z. IsHeld z (by_symbols (filter is_symbol s))) (sym (symbols_same s)) (is_held (filter is_symbol s) (bytes_filter is_symbol s bytes)) in
      subst (IsContent (lines_of s) true) (sym (shown_symbols s none)) (content_kept (lines_of s) (by_symbols (filter is_symbol s)) none held)
]

-- ---- what a loop over the pieces knows at its returns

no_front : (o t : List ℕ) → o ++ t ≡ [] → t ≡ []
no_front [] t e = e
no_front (a ∷ o) t e = cc e

some_symbols_left : (o p s symbols : List ℕ) → symbols ≡ encoded o ++ (p ++ s) → p ≢ [] → symbols ≢ []
some_symbols_left o p s symbols e some none = some (by p (no_front (encoded o) (p ++ s) (sym e ∙ none)))
  where
    by : (x : List ℕ) → x ++ s ≡ [] → x ≡ []
    by [] z = refl
    by (a ∷ x) z = cc z

pub none_in_piece : (piece after rest : List ℕ) (used : ℕ) → rest ≡ take used piece ++ filter is_symbol after → (after ≢ [] → used ≡ 4096) → used ≡ 0 → rest ≡ []
none_in_piece piece [] rest used e full none = e ∙ ap (λ n. take n piece ++ []) none
none_in_piece piece (a ∷ after) rest used e full none = absurd (let n : used ≡ 4096 = full (λ z. cc z) in omega (arith, n, none))

-- a piece that has symbols
pub some_in_piece : (piece : List ℕ) (used : ℕ) → used ≢ 0 → used ≤ length piece → take used piece ≢ []
some_in_piece piece used some within e = some (sym (length-take-le used piece within) ∙ ap length e)

pub full_piece : (piece after : List ℕ) (used : ℕ) → used ≤ length piece → (after ≢ [] → used ≡ 4096) → filter is_symbol after ≢ [] → length (take used piece) ≡ 4096
full_piece piece after used within full more = length-take-le used piece within ∙ full (λ e. more (ap (filter is_symbol) e))

pub none_so_far : (limit : ℕ) (symbols rest first : List ℕ) (count : ℕ) → SoFar limit symbols rest first count → rest ≡ [] → symbols ≡ []
none_so_far limit symbols rest first count so none = by so.octets so.symbols_are so.more
  where
    by : (o : List ℕ) → symbols ≡ encoded o ++ rest → (o ≢ [] → rest ≢ []) → symbols ≡ []
    by [] e more = e ∙ ap (λ z. z ++ rest) (encode_of-nil standard) ∙ none
    by (a ∷ o) e more = absurd (more (λ z. cc z) none)

pub none_holds : (limit : ℕ) (symbols rest first p s : List ℕ) (count : ℕ) → SoFar limit symbols rest first count → IsBytes symbols → rest ≡ p ++ s → p ≢ []
    → (s ≢ [] → length p ≡ 4096) → NoEncoding p → by_symbols symbols ≡ no_base64
none_holds limit symbols rest first p s count so bytes is some full none = holds_none symbols bytes (some_symbols_left so.octets p s symbols e some) (by s e full)
  where
    e : symbols ≡ encoded so.octets ++ (p ++ s)
    e = so.symbols_are ∙ ap (λ z. encoded so.octets ++ z) is

    by : (t : List ℕ) → symbols ≡ encoded so.octets ++ (p ++ t) → (t ≢ [] → length p ≡ 4096) → NoEncoding symbols
    by [] f g = no_last so.octets p symbols so.groups (f ∙ ap (λ z. encoded so.octets ++ z) (append-nil p)) some none
    by (a ∷ t) f g = no_middle so.octets p (a ∷ t) symbols 1024 so.groups f (g (λ z. cc z)) (λ z. cc z) none

pub padded_holds : (limit : ℕ) (symbols rest first p s q : List ℕ) (count : ℕ) → SoFar limit symbols rest first count → IsBytes symbols → rest ≡ p ++ s → p ≢ []
    → s ≢ [] → length p ≡ 4096 → IsBytes q → p ≡ encoded q → length q % 3 ≢ 0 → by_symbols symbols ≡ no_base64
padded_holds limit symbols rest first p s q count so bytes is some more full f g odd =
    let e : symbols ≡ encoded so.octets ++ (p ++ s) = so.symbols_are ∙ ap (λ z. encoded so.octets ++ z) is in
    holds_none symbols bytes (some_symbols_left so.octets p s symbols e some) (no_padded so.octets p s symbols q 1024 so.groups e full more f g odd)

-- the octets of a piece that is encoded are no more than its symbols
fewer : (o : List ℕ) → length o ≤ length (encoded o)
fewer o = omega (arith, encoded_length o)

pub counted_within : (limit : ℕ) (symbols rest first p s q : List ℕ) (count : ℕ) → SoFar limit symbols rest first count → rest ≡ p ++ s → p ≡ encoded q → count + length q ≤ length symbols
counted_within limit symbols rest first p s q count so is f =
    let e : symbols ≡ encoded (so.octets ++ q) ++ s = joined so.octets q s symbols rest so.groups so.symbols_are (is ∙ ap (λ z. z ++ s) f) in
    omega (arith, fewer (so.octets ++ q), length-append so.octets q, ap length e, length-append (encoded (so.octets ++ q)) s, so.counted)

pub finished : (limit : ℕ) (symbols rest first p q more : List ℕ) (count total : ℕ) → SoFar limit symbols rest first count → rest ≡ p ++ [] → p ≢ [] → IsBytes q → p ≡ encoded q
    → more ≡ first ++ take (limit - length first) q → total ≡ count + length q
    → ◌≡◌ {A = Start} (record { content = octets more; count = total }) (start_of limit (by_symbols symbols))
finished limit symbols rest first p q more count total so is some bytes f g n =
    let o : List ℕ = so.octets ++ q in
    let e : symbols ≡ encoded o ++ [] = joined so.octets q [] symbols rest so.groups so.symbols_are (is ∙ ap (λ z. z ++ []) f) in
    let there : symbols ≢ [] = some_symbols_left so.octets p [] symbols (so.symbols_are ∙ ap (λ z. encoded so.octets ++ z) is) some in
    let held : by_symbols symbols ≡ octets o = holds_octets symbols o there (bytes_append so.octets q so.bytes bytes) (e ∙ append-nil (encoded o)) in
    let kept : more ≡ take limit o = g ∙ kept_more limit so.octets q first so.kept in
    let size : total ≡ length o = n ∙ ap (λ z. z + length q) so.counted ∙ sym (length-append so.octets q) in
    same_start more (take limit o) total (length o) kept size ∙ sym (ap (start_of limit) held)
  where
    same_start : (x y : List ℕ) (m n : ℕ) → x ≡ y → m ≡ n → ◌≡◌ {A = Start} (record { content = octets x; count = m }) (record { content = octets y; count = n })
    same_start x y m n e f = cc

pub went_on : (limit : ℕ) (symbols rest first p s q more : List ℕ) (count total : ℕ) → SoFar limit symbols rest first count → rest ≡ p ++ s → s ≢ [] → IsBytes q → p ≡ encoded q
    → length q % 3 ≡ 0 → more ≡ first ++ take (limit - length first) q → total ≡ count + length q → SoFar limit symbols s more total
went_on limit symbols rest first p s q more count total so is left bytes f groups g n = record {
  octets = so.octets ++ q;
  bytes = bytes_append so.octets q so.bytes bytes;
  groups = omega (arith, length-append so.octets q, so.groups, groups);
  symbols_are = joined so.octets q s symbols rest so.groups so.symbols_are (is ∙ ap (λ z. z ++ s) f);
  kept = g ∙ kept_more limit so.octets q first so.kept;
  counted = n ∙ ap (λ z. z + length q) so.counted ∙ sym (length-append so.octets q);
  more = λ z. left;
}

-- all octets are those that fit
pub all_first : (limit : ℕ) (content : Content) → count_of content ≤ limit → first_of limit content ≡ content
all_first limit (octets o) h = ap octets (take_all limit o h)
all_first limit unended h = refl
all_first limit headers h = refl
all_first limit empty h = refl
all_first limit no_base64 h = refl
