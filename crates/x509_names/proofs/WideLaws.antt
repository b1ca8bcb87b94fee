-- The characters of octets that are UTF-16, the high octet of a unit first.
use Rattle.std.proofs.Common.{arith, inl, inr, ◌≡◌, ◌∙◌, refl, sym, ap, ℕ, ◌+◌, ◌*◌, ◌/◌, ◌%◌, ◌<◌, ◌≤◌, Bool, true, false, ◌&&◌, List, [], ◌∷◌, ◌++◌, map, length, length-append, append_assoc, append-nil, Option, Some, None, is_some, bytes_eq}
use Rattle.std.specs.Prelude.{◌⊎◌}
use Rattle.std.specs.Char.{IsScalar, encode_utf8}
use Rattle.std.specs.Char.Utf16.{utf16_lossy_chars, lone_unit_char, surrogate_pair_char}
use Rattle.std.specs.List.{flat_map}
use Rattle.std.specs.Option.{unwrap_or}
use Rattle.std.specs.Str.{all_scalars, encode_utf8_all}
use Rattle.std.proofs.Math.Utf8.{scalar_cases}
use Rattle.std.proofs.lemmas.Bool.{and_parts, and_from, le-leb, le-ltb, lt-leb}
use Rattle.std.proofs.lemmas.List.Concat.{flat_map-append}
use Rattle.std.proofs.lemmas.Slice.Eq.{bytes_eq-Decides}
use Rattle.std.proofs.lemmas.Str.{encodes-append, utf16_chars-nil, utf16_chars_lone, utf16_chars_pair}
use Rattle.asn1_strings.specs.Wide.{utf16_octets, IsWideText, BeginsWithChar, BeginsWithNone}
use Rattle.asn1_strings.specs.WideLaws.{unit, high, low, starts, Starts, utf16_one, utf16_some}
use Rattle.x509_names.specs.NameTexts.{units_of, told_if, wide_text}
use Rattle.x509_names.specs.Writing.{or_nothing}

one_unit : (u : ℕ) (rest : List ℕ) → units_of (unit u rest) ≡ u ∷ units_of rest
unfolding units_of
one_unit u rest = let same : 256 * (u / 256) + u % 256 ≡ u = omega arith in ap (λ x. x ∷ units_of rest) same

no_units : units_of [] ≡ []
unfolding units_of
no_units = refl

lone_by : (c : ℕ) → (c < 0xD800) ⊎ (0xE000 ≤ c) → lone_unit_char c ≡ Some c
lone_by c (inl below) = rw (lt-leb 0xD800 c below)
lone_by c (inr from) = let over : 0xD800 ≤ c = omega arith in rw (le-leb 0xD800 c over, le-ltb c 0xE000 from)

abbrev lossy : Option ℕ → ℕ
lossy o = unwrap_or o 0xFFFD

-- one character more, of one unit or of two
lone_char : (c : ℕ) (us : List ℕ) → (c < 0xD800) ⊎ (0xE000 ≤ c) → utf16_lossy_chars (c ∷ us) ≡ c ∷ utf16_lossy_chars us
lone_char c us range =
    ap (map lossy) (utf16_chars_lone c us (λ pair. elim range [ inl below ↦ absurd (omega (arith, pair.0)) | inr from ↦ absurd (omega (arith, pair.1)) ]))
    ∙ ap (λ o. lossy o ∷ utf16_lossy_chars us) (lone_by c range)

pair_char : (c : ℕ) (us : List ℕ) → 0x1_0000 ≤ c → c < 0x11_0000 → utf16_lossy_chars (high c ∷ low c ∷ us) ≡ c ∷ utf16_lossy_chars us
pair_char c us from below =
    let same : surrogate_pair_char (high c) (low c) ≡ c = omega arith in
    ap (map lossy) (utf16_chars_pair (high c) (low c) us (omega arith, omega arith, omega arith, omega arith))
    ∙ ap (λ x. x ∷ utf16_lossy_chars us) same

char_by : (octets rest : List ℕ) (c : ℕ) → IsScalar c → Starts octets c rest → utf16_lossy_chars (units_of octets) ≡ c ∷ utf16_lossy_chars (units_of rest)
char_by octets rest c scalar (inl one) =
    ap (λ o. utf16_lossy_chars (units_of o)) one.0 ∙ ap utf16_lossy_chars (one_unit c rest)
    ∙ lone_char c (units_of rest) (elim (scalar_cases c scalar) [ inl below ↦ inl below | inr from ↦ inr from.0 ])
char_by octets rest c scalar (inr two) =
    ap (λ o. utf16_lossy_chars (units_of o)) two.0
    ∙ ap utf16_lossy_chars (one_unit (high c) (unit (low c) rest) ∙ ap (λ us. high c ∷ us) (one_unit (low c) rest))
    ∙ pair_char c (units_of rest) two.1 two.2

-- the characters come back from their octets
pub characters_back : (cs : List ℕ) → all_scalars cs ≡ true → utf16_lossy_chars (units_of (flat_map utf16_octets cs)) ≡ cs
characters_back [] scalars = ap utf16_lossy_chars no_units ∙ ap (map lossy) utf16_chars-nil
characters_back (c ∷ cs) scalars =
    let parts = and_parts _ (all_scalars cs) scalars in
    let octets = utf16_octets c ++ flat_map utf16_octets cs in
    char_by octets (flat_map utf16_octets cs) c parts.0 (starts octets (flat_map utf16_octets cs) c parts.0 refl)
    ∙ ap (λ l. c ∷ l) (characters_back cs parts.1)

told_by : {A : Type 0} (b : Bool) (x : A) → b ≡ true → told_if b x ≡ Some x
told_by true x is = refl
told_by false x is = cc

none_by : {A : Type 0} (b : Bool) (x : A) → (b ≡ true → ⊥) → told_if b x ≡ None
none_by true x other = absurd (other refl)
none_by false x other = refl

-- the text of characters that have these octets
pub wide_is : (cs content : List ℕ) → all_scalars cs ≡ true → content ≡ flat_map utf16_octets cs → wide_text content ≡ Some (encode_utf8_all cs)
wide_is cs content scalars e =
    let back : utf16_lossy_chars (units_of content) ≡ cs = ap (λ o. utf16_lossy_chars (units_of o)) e ∙ characters_back cs scalars in
    ap (λ l. told_if (all_scalars l && bytes_eq (flat_map utf16_octets l) content) (encode_utf8_all l)) back
    ∙ told_by (all_scalars cs && bytes_eq (flat_map utf16_octets cs) content) (encode_utf8_all cs)
    (and_from _ _ scalars ((bytes_eq-Decides (flat_map utf16_octets cs) content).1 (sym e)))

pub wide_isnt : (content : List ℕ) → (IsWideText utf16_octets content → ⊥) → wide_text content ≡ None
wide_isnt content other =
    let cs = utf16_lossy_chars (units_of content) in
    none_by (all_scalars cs && bytes_eq (flat_map utf16_octets cs) content) (encode_utf8_all cs)
    (λ is. let parts = and_parts (all_scalars cs) _ is in other (cs, parts.0, sym ((bytes_eq-Decides (flat_map utf16_octets cs) content).0 parts.1)))

-- these characters were read, and these octets are left
pub record HasRead (content rest cs : List ℕ) : Type 0 where
  pub scalars : all_scalars cs ≡ true
  pub whole : content ≡ flat_map utf16_octets cs ++ rest

pub read_none : (content : List ℕ) → HasRead content content []
read_none content = record { scalars = refl; whole = refl }

scalars_push : (cs : List ℕ) (c : ℕ) → all_scalars cs ≡ true → IsScalar c → all_scalars (cs ++ c ∷ []) ≡ true
scalars_push [] c p q = and_from _ true q refl
scalars_push (d ∷ cs) c p q = let parts = and_parts _ (all_scalars cs) p in and_from _ _ parts.0 (scalars_push cs c parts.1 q)

pub read_more : (content rest after cs : List ℕ) (c : ℕ) → HasRead content rest cs → BeginsWithChar utf16_octets rest c after → HasRead content after (cs ++ c ∷ [])
read_more content rest after cs c read begins =
    let pushed : flat_map utf16_octets (cs ++ c ∷ []) ≡ flat_map utf16_octets cs ++ utf16_octets c =
    flat_map-append utf16_octets cs (c ∷ []) ∙ ap (λ z. flat_map utf16_octets cs ++ z) (append-nil (utf16_octets c)) in
    record {
      scalars = scalars_push cs c read.scalars begins.0;
      whole = read.whole ∙ ap (λ z. flat_map utf16_octets cs ++ z) begins.1 ∙ sym (append_assoc (flat_map utf16_octets cs) (utf16_octets c) after) ∙ ap (λ z. z ++ after) (sym pushed);
    }

-- the text with one character more
pub text_more : (cs : List ℕ) (c : ℕ) → encode_utf8_all cs ++ encode_utf8 c ≡ encode_utf8_all (cs ++ c ∷ [])
text_more cs c = ap (λ z. encode_utf8_all cs ++ z) (sym (append-nil (encode_utf8 c))) ∙ sym (encodes-append cs (c ∷ []))

-- nothing is left of the octets of characters that no character begins
stuck : (cs ds rest : List ℕ) → all_scalars cs ≡ true → all_scalars ds ≡ true → flat_map utf16_octets cs ++ rest ≡ flat_map utf16_octets ds
    → BeginsWithNone utf16_octets rest → rest ≡ []
stuck [] [] rest p q e none = e
stuck [] (d ∷ ds) rest p q e none = absurd (none d (flat_map utf16_octets ds) ((and_parts _ (all_scalars ds) q).0, e))
stuck (c ∷ cs) [] rest p q e none =
    absurd (omega (arith, ap length e, utf16_some c, length-append (utf16_octets c ++ flat_map utf16_octets cs) rest, length-append (utf16_octets c) (flat_map utf16_octets cs)))
stuck (c ∷ cs) (d ∷ ds) rest p q e none =
    let here = and_parts _ (all_scalars cs) p in
    let there = and_parts _ (all_scalars ds) q in
    let same = utf16_one c d (flat_map utf16_octets cs ++ rest) (flat_map utf16_octets ds) here.0 there.0 (sym (append_assoc (utf16_octets c) (flat_map utf16_octets cs) rest) ∙ e) in
    stuck cs ds rest here.1 there.1 same.1 none

-- all was read
pub read_all : (content rest cs : List ℕ) → IsWideText utf16_octets content → HasRead content rest cs → BeginsWithNone utf16_octets rest
    → wide_text content ≡ Some (encode_utf8_all cs)
read_all content rest cs is read none =
    let empty = stuck cs is.0 rest read.scalars is.1 (sym read.whole ∙ is.2) none in
    wide_is cs content read.scalars (read.whole ∙ ap (λ z. flat_map utf16_octets cs ++ z) empty ∙ append-nil (flat_map utf16_octets cs))

-- whether there is a text
pub wide_told : (content : List ℕ) → IsWideText utf16_octets content → is_some (wide_text content) ≡ true
wide_told content is = ap is_some (wide_is is.0 content is.1 is.2)

pub wide_missing : (content : List ℕ) → (IsWideText utf16_octets content → ⊥) → is_some (wide_text content) ≡ false
wide_missing content other = ap is_some (wide_isnt content other)

pub nothing_wide : (content : List ℕ) → (IsWideText utf16_octets content → ⊥) → or_nothing (wide_text content) ≡ []
nothing_wide content other = ap or_nothing (wide_isnt content other)
