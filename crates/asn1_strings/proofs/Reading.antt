-- Characters read one after the other.
use Rattle.std.proofs.Common.{arith, inl, inr, refl, ap, sym, ◌≡◌, ◌∙◌, ℕ, ◌<◌, true, List, [], ◌∷◌, ◌++◌, length, append_assoc, length-append}
use Rattle.std.specs.Prelude.{◌⊎◌, ◌≢◌}
use Rattle.std.specs.List.{flat_map}
use Rattle.std.specs.Char.{encode_utf8, IsScalar}
use Rattle.std.specs.Str.{IsUtf8, all_scalars, chars, encode_utf8_all}
use Rattle.std.proofs.lemmas.Bool.{and_parts, and_from}
use Rattle.std.proofs.lemmas.List.{append-nil}
use Rattle.std.proofs.lemmas.List.Concat.{flat_map-append}
use Rattle.std.proofs.lemmas.Str.{chars-encodes, encodes-append, scalars-chars}
use Rattle.asn1_core.specs.declared.error.Error.{Error}
use Rattle.asn1_core.specs.declared.error.Error.TheVariants as errors
use Rattle.asn1_strings.specs.Wide.{wide_octets, IsWideText, BeginsWithChar, BeginsWithNone}

-- these characters were read, and these octets are left
pub record HasRead (f : ℕ → List ℕ) (octets rest cs : List ℕ) : Type 0 where
  pub scalars : all_scalars cs ≡ true
  pub whole : octets ≡ flat_map f cs ++ rest

pub read_none : (f : ℕ → List ℕ) (octets : List ℕ) → HasRead f octets octets []
read_none f octets = record { scalars = refl; whole = refl }

scalars_push : (cs : List ℕ) (c : ℕ) → all_scalars cs ≡ true → IsScalar c → all_scalars (cs ++ c ∷ []) ≡ true
scalars_push [] c p q = and_from _ true q refl
scalars_push (d ∷ cs) c p q = let parts = and_parts _ (all_scalars cs) p in and_from _ _ parts.0 (scalars_push cs c parts.1 q)

pub read_more : (f : ℕ → List ℕ) (octets rest after cs : List ℕ) (c : ℕ) → HasRead f octets rest cs → BeginsWithChar f rest c after → HasRead f octets after (cs ++ c ∷ [])
read_more f octets rest after cs c read begins =
    let pushed : flat_map f (cs ++ c ∷ []) ≡ flat_map f cs ++ f c = flat_map-append f cs (c ∷ []) ∙ ap (λ z. flat_map f cs ++ z) (append-nil (f c)) in
    record {
      scalars = scalars_push cs c read.scalars begins.0;
      whole = read.whole ∙ ap (λ z. flat_map f cs ++ z) begins.1 ∙ sym (append_assoc (flat_map f cs) (f c) after) ∙ ap (λ z. z ++ after) (sym pushed);
    }

-- the text of the characters
pub text_more : (bytes more cs : List ℕ) (c : ℕ) → bytes ≡ encode_utf8_all cs → more ≡ bytes ++ encode_utf8 c → more ≡ encode_utf8_all (cs ++ c ∷ [])
text_more bytes more cs c is added = added ∙ ap (λ z. z ++ encode_utf8 c) is ∙ ap (λ z. encode_utf8_all cs ++ z) (sym (append-nil (encode_utf8 c))) ∙ sym (encodes-append cs (c ∷ []))

-- nothing is left
pub read_all : (f : ℕ → List ℕ) (octets rest cs : List ℕ) → HasRead f octets rest cs → rest ≡ [] → octets ≡ flat_map f cs
read_all f octets rest cs read e = read.whole ∙ ap (λ z. flat_map f cs ++ z) e ∙ append-nil (flat_map f cs)

pub read_text : (f : ℕ → List ℕ) (octets rest cs bytes : List ℕ) → HasRead f octets rest cs → bytes ≡ encode_utf8_all cs → rest ≡ [] → wide_octets f bytes ≡ octets
read_text f octets rest cs bytes read is e = ap (wide_octets f) is ∙ ap (flat_map f) (chars-encodes cs read.scalars) ∙ sym (read_all f octets rest cs read e)

-- octets are left that no character begins
pub stuck : (f : ℕ → List ℕ) → ((c : ℕ) → 0 < length (f c)) → ((c d : ℕ) (r s : List ℕ) → IsScalar c → IsScalar d → f c ++ r ≡ f d ++ s → (c ≡ d) × (r ≡ s)) →
    (cs ds rest : List ℕ) → all_scalars cs ≡ true → all_scalars ds ≡ true → flat_map f cs ++ rest ≡ flat_map f ds → 0 < length rest → BeginsWithNone f rest → ⊥
stuck f some one [] [] rest p q e left none = absurd (omega (arith, ap length e))
stuck f some one [] (d ∷ ds) rest p q e left none = none d (flat_map f ds) ((and_parts _ (all_scalars ds) q).0, e)
stuck f some one (c ∷ cs) [] rest p q e left none =
    absurd (omega (arith, ap length e, some c, length-append (f c ++ flat_map f cs) rest, length-append (f c) (flat_map f cs)))
stuck f some one (c ∷ cs) (d ∷ ds) rest p q e left none =
    let here = and_parts _ (all_scalars cs) p in
    let there = and_parts _ (all_scalars ds) q in
    let same = one c d (flat_map f cs ++ rest) (flat_map f ds) here.0 there.0 (sym (append_assoc (f c) (flat_map f cs) rest) ∙ e) in
    stuck f some one cs ds rest here.1 there.1 same.1 left none

pub read_stuck : (f : ℕ → List ℕ) → ((c : ℕ) → 0 < length (f c)) → ((c d : ℕ) (r s : List ℕ) → IsScalar c → IsScalar d → f c ++ r ≡ f d ++ s → (c ≡ d) × (r ≡ s)) →
    (octets rest cs : List ℕ) → HasRead f octets rest cs → 0 < length rest → BeginsWithNone f rest → IsWideText f octets → ⊥
read_stuck f some one octets rest cs read left none text = stuck f some one cs text.0 rest read.scalars text.1 (sym read.whole ∙ text.2) left none

pub no_octets : (octets : List ℕ) → length octets ≡ 0 → octets ≡ []
no_octets [] e = refl
no_octets (x ∷ xs) e = absurd (omega arith)

-- an error that isn't `OutOfMemory` says that no text has the octets
pub refused : (f : ℕ → List ℕ) (octets bytes : List ℕ) (e : Error) → (e ≡ errors.OutOfMemory) ⊎ ((e ≡ errors.StringInvalidCharset) × (IsWideText f octets → ⊥)) →
    e ≢ errors.OutOfMemory → IsUtf8 bytes → wide_octets f bytes ≡ octets → ⊥
refused f octets bytes e (inl memory) other utf8 is = other memory
refused f octets bytes e (inr none) other utf8 is = none.1 (chars bytes, scalars-chars bytes utf8, sym is)
