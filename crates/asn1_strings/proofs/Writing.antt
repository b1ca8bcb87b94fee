-- Characters written one after the other.
use Rattle.std.proofs.Common.{arith, refl, ap, sym, subst, ◌≡◌, ◌∙◌, ℕ, ◌+◌, ◌^◌, ◌≤◌, List, [], ◌∷◌, ◌++◌, length, Option, append_assoc, length-append}
use Rattle.std.specs.List.{flat_map}
use Rattle.std.specs.Char.{encode_utf8}
use Rattle.std.specs.Str.{IsUtf8}
use Rattle.std.specs.Io.KnownBytes.{Appends}
use Rattle.std.proofs.lemmas.List.{append-nil}
use Rattle.std.proofs.lemmas.Str.{chars_past_char, chars-nil}
use Rattle.asn1_device.specs.Counts.{AppendsFront}
use Rattle.asn1_core.specs.declared.serialize.SerializeError.{SerializeError}
use Rattle.asn1_traits.specs.Writes.{IsLong, Stops}
use Rattle.asn1_traits.proofs.Writing.{appends_two, appends_none, front_first, front_second, front_all, stops_too, stops_from}
use Rattle.asn1_strings.specs.Wide.{wide_octets}

-- the next character's octets
pub next_char : (f : ℕ → List ℕ) (text after : List ℕ) (c : ℕ) → IsUtf8 text → text ≡ encode_utf8 c ++ after → wide_octets f text ≡ f c ++ wide_octets f after
next_char f text after c utf8 e = ap (flat_map f) (chars_past_char text after c utf8 e)

-- all but the rest was appended and counted
pub record Sent (all rest : List ℕ) (old now : Option (List ℕ)) (before after total : ℕ) : Type 0 where
  pub front : List ℕ
  pub split : all ≡ front ++ rest
  pub sent : Appends old now front × (total ≡ length front) × (after ≡ before)

pub sent_none : (all : List ℕ) (old : Option (List ℕ)) (before : ℕ) → Sent all all old old before before 0
sent_none all old before = record { front = []; split = refl; sent = (appends_none old, refl, refl) }

pub sent_more : (all rest next more : List ℕ) (old now new : Option (List ℕ)) (before mid after total n sum : ℕ) → Sent all rest old now before mid total → rest ≡ next ++ more →
    Appends now new next × (n ≡ length next) × (after ≡ mid) → sum ≡ total + n → Sent all more old new before after sum
sent_more all rest next more old now new before mid after total n sum s e w added = record {
  front = s.front ++ next;
  split = s.split ∙ ap (λ z. s.front ++ z) e ∙ sym (append_assoc s.front next more);
  sent = (appends_two old now new s.front next s.sent.0 w.0, omega (arith, added, s.sent.1, w.1, length-append s.front next), w.2 ∙ s.sent.2);
}

pub sent_all : (all rest : List ℕ) (old now : Option (List ℕ)) (before after total : ℕ) → Sent all rest old now before after total → rest ≡ [] →
    Appends old now all × (total ≡ length all) × (after ≡ before)
sent_all all rest old now before after total s e =
    let whole : s.front ≡ all = sym (s.split ∙ ap (λ z. s.front ++ z) e ∙ append-nil s.front) in
    let P : List ℕ → Type 0 = λ z. Appends old now z × (total ≡ length z) × (after ≡ before) in
    subst P whole s.sent

-- the next octets weren't written
pub sent_stops : (all rest next more : List ℕ) (old now new : Option (List ℕ)) (before mid after total : ℕ) (e : SerializeError) → Sent all rest old now before mid total → rest ≡ next ++ more →
    AppendsFront now new next × Stops mid after ⊥ ⊥ ⊥ e → AppendsFront old new all × Stops before after (IsLong all) ⊥ ⊥ e
sent_stops all rest next more old now new before mid after total e s is w =
    let whole : all ≡ s.front ++ (next ++ more) = s.split ∙ ap (λ z. s.front ++ z) is in
    let P : List ℕ → Type 0 = λ z. AppendsFront old new z in (
      subst P (sym whole) (front_second old now new s.front (next ++ more) s.sent.0 (front_first now new next more w.0)),
      stops_from before mid after (IsLong all) ⊥ ⊥ e s.sent.2 (stops_too mid after ⊥ ⊥ ⊥ (IsLong all) ⊥ ⊥ e (λ h. absurd h) (λ h. h) (λ h. h) w.1),
    )

-- the octets so far, the next ones too, are too many to be counted
pub sent_too_long : (all rest next more : List ℕ) (old now new : Option (List ℕ)) (before mid after total n : ℕ) → Sent all rest old now before mid total → rest ≡ next ++ more →
    Appends now new next × (n ≡ length next) × (after ≡ mid) → 2 ^ 64 ≤ total + n → AppendsFront old new all × (IsLong all × (after ≡ before))
sent_too_long all rest next more old now new before mid after total n s is w long =
    let most = sent_more all rest next more old now new before mid after total n (total + n) s is w refl in
    let P : List ℕ → Type 0 = λ z. AppendsFront old new z in (
      subst P (sym most.split) (front_first old new most.front more (front_all old new most.front most.sent.0)),
      (omega (arith, long, most.sent.1, ap length most.split, length-append most.front more), most.sent.2),
    )

-- no character is left
pub no_char : (f : ℕ → List ℕ) (text : List ℕ) → length text ≡ 0 → wide_octets f text ≡ []
no_char f [] e = ap (flat_map f) chars-nil
no_char f (x ∷ xs) e = absurd (omega arith)
