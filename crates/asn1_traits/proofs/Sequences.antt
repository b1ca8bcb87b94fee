-- Values read one after the other, and written one after the other.
use Rattle.std.proofs.Common.{arith, ◌≡◌, ◌≢◌, ◌∙◌, ◌⊎◌, inl, inr, refl, sym, ap, subst, ℕ, ◌+◌, ◌^◌, ◌<◌, ◌≤◌, List, [], ◌∷◌, ◌++◌, length, Option, Some, None, Result, Ok, Err, append_assoc, length-append}
use Rattle.std.proofs.lemmas.List.{append-nil}
use Rattle.std.specs.Io.KnownBytes.{Appends}
use Rattle.asn1_device.specs.Counts.{AppendsFront}
use Rattle.asn1_core.specs.Elements.{Element}
use Rattle.asn1_core.specs.declared.serialize.SerializeError.{SerializeError}
use Rattle.asn1_core.specs.declared.serialize.SerializeError.TheVariants as writes
use Rattle.asn1_traits.specs.Writes.{Writes, Stops, IsLong, written}
use Rattle.asn1_traits.specs.Lists.{AllRead, all_written, EachIs, OneIs}
use Rattle.asn1_traits.proofs.Writing.{appends_two, appends_none, front_first, front_second, front_all, stops_from, stops_too}

-- how far the values of the octets are read: `rest` is left after `items`
pub record HasRead {V : Type 0} (reads : List ℕ → V → List ℕ → Type 0) (octets rest : List ℕ) (items : List V) : Type 0 where
  pub kept : (vs : List V) → AllRead reads rest vs → AllRead reads octets (items ++ vs)
  pub only : (vs : List V) → AllRead reads octets vs → (ws : List V) × AllRead reads rest ws

pub read_none : {V : Type 0} (reads : List ℕ → V → List ℕ → Type 0) (octets : List ℕ) → HasRead {V = V} reads octets octets []
read_none reads octets = record { kept = λ vs h. h; only = λ vs h. (vs, h) }

-- values of octets that aren't empty: the first is followed by the rest that every reading leaves
pub behind_first : {V : Type 0} (reads : List ℕ → V → List ℕ → Type 0) → ((octets : List ℕ) (v w : V) (r s : List ℕ) → reads octets v r → reads octets w s → r ≡ s) →
    (octets after : List ℕ) (v : V) (vs : List V) → reads octets v after → octets ≢ [] → AllRead reads octets vs → (length after < length octets) × ((ws : List V) × AllRead reads after ws)
behind_first reads once octets after v [] read some all = absurd (some all)
behind_first {V} reads once octets after v (w ∷ ws) read some all =
    let same : all.0 ≡ after = once octets w v all.0 after all.1 read in
    let P : List ℕ → Type 0 = λ z. (length z < length octets) × AllRead reads z ws in
    let moved = subst P same (all.2, all.3) in
    (moved.0, (ws, moved.1))

pub read_more : {V : Type 0} (reads : List ℕ → V → List ℕ → Type 0) → ((octets : List ℕ) (v w : V) (r s : List ℕ) → reads octets v r → reads octets w s → r ≡ s) →
    (octets rest after : List ℕ) (items more : List V) (v : V) → HasRead reads octets rest items → reads rest v after → rest ≢ [] → length after < length rest → more ≡ items ++ v ∷ [] → HasRead reads octets after more
read_more {V} reads once octets rest after items more v has read some short e = record {
  kept = λ vs h.
      let whole : more ++ vs ≡ items ++ v ∷ vs = ap (λ z. z ++ vs) e ∙ append_assoc items (v ∷ []) vs in
      let P : List V → Type 0 = λ z. AllRead reads octets z in
      subst P (sym whole) (has.kept (v ∷ vs) (after, read, short, h));
  only = λ vs h. let left = has.only vs h in (behind_first reads once rest after v left.0 read some left.1).1;
}

pub read_all : {V : Type 0} (reads : List ℕ → V → List ℕ → Type 0) (octets rest : List ℕ) (items : List V) → HasRead reads octets rest items → rest ≡ [] → AllRead reads octets items
read_all {V} reads octets rest items has e = let P : List V → Type 0 = λ z. AllRead reads octets z in subst P (append-nil items) (has.kept [] e)

first_none : {V : Type 0} (reads : List ℕ → V → List ℕ → Type 0) (rest : List ℕ) (vs : List V) → rest ≢ [] → ((v : V) (s : List ℕ) → reads rest v s → ⊥) → AllRead reads rest vs → ⊥
first_none reads rest [] some none all = some all
first_none reads rest (v ∷ vs) some none all = none v all.0 all.1

-- no values, if none begins what is left
pub none_left : {V : Type 0} (reads : List ℕ → V → List ℕ → Type 0) (octets rest : List ℕ) (items : List V) → HasRead reads octets rest items → rest ≢ [] →
    ((v : V) (s : List ℕ) → reads rest v s → ⊥) → (vs : List V) → AllRead reads octets vs → ⊥
none_left reads octets rest items has some none vs h = let left = has.only vs h in first_none reads rest left.0 some none left.1

-- no values, if one takes no octet
pub none_short : {V : Type 0} (reads : List ℕ → V → List ℕ → Type 0) → ((octets : List ℕ) (v w : V) (r s : List ℕ) → reads octets v r → reads octets w s → r ≡ s) →
    (octets rest after : List ℕ) (items : List V) (v : V) → HasRead reads octets rest items → reads rest v after → rest ≢ [] → length rest ≤ length after → (vs : List V) → AllRead reads octets vs → ⊥
none_short reads once octets rest after items v has read some long vs h = let left = has.only vs h in omega (arith, long, (behind_first reads once rest after v left.0 read some left.1).0)

-- how far values are written: those in `rest` are left
pub record Sent {V : Type 0} (element : V → Option Element) (formed grows : V → Type 0) (all rest : List V) (old now : Option (List ℕ)) (before after total : ℕ) : Type 0 where
  pub front : List ℕ
  pub split : all_written element all ≡ front ++ all_written element rest
  pub each : EachIs formed all → EachIs formed rest
  pub one : OneIs grows rest → OneIs grows all
  pub sent : Appends old now front × (total ≡ length front) × (after ≡ before)

pub sent_none : {V : Type 0} (element : V → Option Element) (formed grows : V → Type 0) (all : List V) (old : Option (List ℕ)) (before : ℕ) → Sent element formed grows all all old old before before 0
sent_none element formed grows all old before = record { front = []; split = refl; each = λ h. h; one = λ h. h; sent = (appends_none old, refl, refl) }

pub sent_more : {V : Type 0} (element : V → Option Element) (formed grows : V → Type 0) (all rest more : List V) (v : V) (old now new : Option (List ℕ)) (before mid after total n sum : ℕ) →
    Sent element formed grows all rest old now before mid total → rest ≡ v ∷ more → Appends now new (written (element v)) × (n ≡ length (written (element v))) × (after ≡ mid) → sum ≡ total + n →
    Sent element formed grows all more old new before after sum
sent_more {V} element formed grows all rest more v old now new before mid after total n sum s e w added =
    let next = written (element v) in
    let each : EachIs formed all → EachIs formed (v ∷ more) = let P : List V → Type 0 = λ z. EachIs formed z in λ h. subst P e (s.each h) in
    let one : OneIs grows (v ∷ more) → OneIs grows all = let P : List V → Type 0 = λ z. OneIs grows z in λ h. s.one (subst P (sym e) h) in
    record {
      front = s.front ++ next;
      split = s.split ∙ ap (λ z. s.front ++ all_written element z) e ∙ sym (append_assoc s.front next (all_written element more));
      each = λ h. (each h).1;
      one = λ h. one (inr h);
      sent = (appends_two old now new s.front next s.sent.0 w.0, omega (arith, added, s.sent.1, w.1, length-append s.front next), w.2 ∙ s.sent.2);
    }

pub sent_all : {V : Type 0} (element : V → Option Element) (formed grows : V → Type 0) (all rest : List V) (old now : Option (List ℕ)) (before after total : ℕ) →
    Sent element formed grows all rest old now before after total → rest ≡ [] → Appends old now (all_written element all) × (total ≡ length (all_written element all)) × (after ≡ before)
sent_all element formed grows all rest old now before after total s e =
    let whole : s.front ≡ all_written element all = sym (s.split ∙ ap (λ z. s.front ++ all_written element z) e ∙ append-nil s.front) in
    let P : List ℕ → Type 0 = λ z. Appends old now z × (total ≡ length z) × (after ≡ before) in
    subst P whole s.sent

-- the next value wasn't written
pub sent_stops : {V : Type 0} (element : V → Option Element) (formed grows : V → Type 0) (all rest more : List V) (v : V) (old now new : Option (List ℕ)) (before mid after total : ℕ) (e : SerializeError) →
    Sent element formed grows all rest old now before mid total → rest ≡ v ∷ more → AppendsFront now new (written (element v)) × Stops mid after (IsLong (written (element v))) (grows v) (formed v → ⊥) e →
    AppendsFront old new (all_written element all) × Stops before after (IsLong (all_written element all)) (OneIs grows all) (EachIs formed all → ⊥) e
sent_stops {V} element formed grows all rest more v old now new before mid after total e s is w =
    let next = written (element v) in
    let others = all_written element more in
    let whole : all_written element all ≡ s.front ++ (next ++ others) = s.split ∙ ap (λ z. s.front ++ all_written element z) is in
    let each : EachIs formed all → EachIs formed (v ∷ more) = let P : List V → Type 0 = λ z. EachIs formed z in λ h. subst P is (s.each h) in
    let one : OneIs grows (v ∷ more) → OneIs grows all = let P : List V → Type 0 = λ z. OneIs grows z in λ h. s.one (subst P (sym is) h) in
    let P : List ℕ → Type 0 = λ z. AppendsFront old new z in (
      subst P (sym whole) (front_second old now new s.front (next ++ others) s.sent.0 (front_first now new next others w.0)),
      stops_from before mid after (IsLong (all_written element all)) (OneIs grows all) (EachIs formed all → ⊥) e s.sent.2
          (stops_too mid after (IsLong next) (grows v) (formed v → ⊥) (IsLong (all_written element all)) (OneIs grows all) (EachIs formed all → ⊥) e
          (λ h. omega (arith, h, ap length whole, length-append s.front (next ++ others), length-append next others))
          (λ h. one (inl h)) (λ h all_formed. h (each all_formed).0) w.1),
    )

-- the values so far, the next one too, are too many octets to be counted
pub sent_too_long : {V : Type 0} (element : V → Option Element) (formed grows : V → Type 0) (all rest more : List V) (v : V) (old now new : Option (List ℕ)) (before mid after total n : ℕ) →
    Sent element formed grows all rest old now before mid total → rest ≡ v ∷ more → Appends now new (written (element v)) × (n ≡ length (written (element v))) × (after ≡ mid) → 2 ^ 64 ≤ total + n →
    AppendsFront old new (all_written element all) × (IsLong (all_written element all) × (after ≡ before))
sent_too_long element formed grows all rest more v old now new before mid after total n s is w long =
    let next = sent_more element formed grows all rest more v old now new before mid after total n (total + n) s is w refl in
    let P : List ℕ → Type 0 = λ z. AppendsFront old new z in (
      subst P (sym next.split) (front_first old new next.front (all_written element more) (front_all old new next.front next.sent.0)),
      (omega (arith, long, next.sent.1, ap length next.split, length-append next.front (all_written element more)), next.sent.2),
    )
