-- The reader of basic constraints takes what the relation says, and no more.
use Rattle.std.proofs.Common.{◌≡◌, ◌≢◌, ◌∙◌, refl, sym, ap, subst, arith, ℕ, ◌==◌, ◌&&◌, ◌||◌, ◌⊎◌, Bool, true, false, List, [], ◌∷◌, ◌++◌, length, Option, Some, None, option_map, Ok, Err, inl, inr, if◌then◌else◌}
use Rattle.std.proofs.lemmas.Bool.{and_parts}
use Rattle.asn1_core.proofs.Cases.{chosen}
use Rattle.asn1_core.specs.Elements.{Element}
use Rattle.asn1_any.specs.Cutting.{Piece}
use Rattle.x509_core.specs.Answers.{Answer, unnamed, plain}
use Rattle.x509_core.proofs.Grammars.{IsMeaning, IsReading, next_reading, two}
use Rattle.x509_core.proofs.LeafLaws.{equal_tags, tags_equal, tags_differ, differ_tags, was_some}
use Rattle.x509_ext_flags.specs.Reading.{number_in}
use Rattle.x509_ext_flags.proofs.Laws.{number_found, number_only}
use Rattle.x509_ext_basic.specs.Leaves.{IsSequence, flag_octets, IsLimit, BasicParts, neither, flag, limit, both, IsBasicConstraints, BasicConstraints}
use Rattle.x509_ext_basic.specs.Reading.{sequence_in, truth_by, flag_by, flag_at, limit_in, with_limit, without_limit, behind_flag, parts_by, parts_in, constraints_of, constraints_at}
use Rattle.x509_ext_basic.specs.Values as values

-- ---- the flag

truth_found : (b : ℕ) (s : List ℕ) (ca : Bool) (r : List ℕ) → truth_by b s ≡ Some (ca, r) → (b ≡ (if ca then 0xff else 0x00)) × (s ≡ r)
truth_found b s ca r given =
    elim (chosen (b == 0) _ _ _ given) [
      | inl zero ↦
          let pair : ◌≡◌ {A = Bool × List ℕ} (false, s) (ca, r) = let z = zero.1 in cc in
          let off : false ≡ ca = ap (λ (z : Bool × List ℕ). z.0) pair in
          (subst (λ z. b ≡ (if z then 0xff else 0x00)) off (equal_tags b 0 zero.0), ap (λ (z : Bool × List ℕ). z.1) pair)
      | inr other ↦ elim (chosen (b == 255) _ _ _ other.1) [
        | inl full ↦
            let pair : ◌≡◌ {A = Bool × List ℕ} (true, s) (ca, r) = let z = full.1 in cc in
            let on : true ≡ ca = ap (λ (z : Bool × List ℕ). z.0) pair in
            (subst (λ z. b ≡ (if z then 0xff else 0x00)) on (equal_tags b 255 full.0), ap (λ (z : Bool × List ℕ). z.1) pair)
        | inr none ↦ let impossible = none.1 in cc
      ]
    ]

flag_found : (i : List ℕ) (ca : Bool) (r : List ℕ) → flag_at i ≡ Some (ca, r) → i ≡ flag_octets ca ++ r
unfolding flag_at
flag_found [] ca r given = cc
flag_found (t ∷ []) ca r given = cc
flag_found (t ∷ n ∷ []) ca r given = cc
flag_found (t ∷ n ∷ b ∷ s) ca r given =
    elim (chosen ((t == 1) && (n == 1)) _ _ _ given) [
      | inl is ↦
          let parts = and_parts (t == 1) (n == 1) is.0 in
          let tag = equal_tags t 1 parts.0 in
          let size = equal_tags n 1 parts.1 in
          let truth = truth_found b s ca r is.1 in
          rw (tag, size, truth.0, truth.1) refl
      | inr other ↦ let impossible = other.1 in cc
    ]

flag_only : (ca : Bool) (r : List ℕ) → flag_at (flag_octets ca ++ r) ≡ Some (ca, r)
unfolding flag_at
flag_only true r = refl
flag_only false r = refl

no_flag : (t n : ℕ) (s : List ℕ) → (t == 1) ≡ false → flag_at (t ∷ n ∷ s) ≡ None
unfolding flag_at
no_flag t n [] other = refl
no_flag t n (b ∷ s) other = rw (other) refl

-- ---- the limit

either_tag : (t : ℕ) → (let b : Bool = (t == 2) || (t == 10) in b ≡ true) → (t ≡ 2) ⊎ (t ≡ 10)
either_tag t e = by (t == 2) (t == 10) refl refl e
  where
    by : (a b : Bool) → (t == 2) ≡ a → (t == 10) ≡ b → (a || b) ≡ true → (t ≡ 2) ⊎ (t ≡ 10)
    by true b is other e = inl (equal_tags t 2 is)
    by false true is other e = inr (equal_tags t 10 other)
    by false false is other e = cc

limit_found : (i : List ℕ) (n : ℕ) → limit_in i ≡ Some n → IsLimit i n
unfolding limit_in
limit_found [] n given = cc
limit_found (t ∷ []) n given = cc
limit_found (t ∷ size ∷ s) n given =
    elim (chosen (((t == 2) || (t == 10)) && (size == length s)) _ _ _ given) [
      | inl is ↦
          let parts = and_parts ((t == 2) || (t == 10)) (size == length s) is.0 in
          record { tag = t; content = s; is_tag = either_tag t parts.0; whole = ap (λ z. t ∷ z ∷ s) (equal_tags size (length s) parts.1); number = number_found s n is.1 }
      | inr other ↦ let impossible = other.1 in cc
    ]

tag_told : (t : ℕ) → (t ≡ 2) ⊎ (t ≡ 10) → (let b : Bool = (t == 2) || (t == 10) in b ≡ true) × ((t == 1) ≡ false)
tag_told t (inl two_is) = rw (two_is) (refl, refl)
tag_told t (inr ten_is) = rw (ten_is) (refl, refl)

limit_only : (i : List ℕ) (n : ℕ) → IsLimit i n → limit_in i ≡ Some n
unfolding limit_in
limit_only i n is =
    let tag = (tag_told is.tag is.is_tag).0 in
    rw (is.whole, tag, tags_equal (length is.content) (length is.content) refl) (number_only is.content n is.number)

-- ---- both

some_limit : (ca : Bool) (o : Option ℕ) (c : values.BasicConstraints) → option_map (with_limit ca) o ≡ Some c → (n : ℕ) × (o ≡ Some n) × (c ≡ with_limit ca n)
some_limit ca None c given = cc
some_limit ca (Some n) c given = let same : with_limit ca n ≡ c = cc in (n, refl, sym same)

-- what comes after a flag: nothing, or a limit
behind_case : (ca : Bool) (i : List ℕ) (c : values.BasicConstraints) → behind_flag ca i ≡ Some c → ((i ≡ []) × (c ≡ without_limit ca)) ⊎ ((n : ℕ) × IsLimit i n × (c ≡ with_limit ca n))
unfolding behind_flag
behind_case ca [] c given = let same : without_limit ca ≡ c = cc in inl (refl, sym same)
behind_case ca (x ∷ s) c given =
    let some = some_limit ca (limit_in (x ∷ s)) c given in
    inr (some.0, limit_found (x ∷ s) some.0 some.1, some.2)

append_none : (ca : Bool) → flag_octets ca ++ [] ≡ flag_octets ca
append_none ca = refl

parts_found_by : (i : List ℕ) (o : Option (Bool × List ℕ)) (c : values.BasicConstraints) → flag_at i ≡ o → parts_by i o ≡ Some c → BasicParts i c
parts_found_by i (Some f) c told given =
    let front = flag_found i f.0 f.1 told in
    elim (behind_case f.0 f.1 c given) [
      | inl end ↦ flag f.0 (front ∙ ap (λ z. flag_octets f.0 ++ z) end.0) end.1
      | inr more ↦ both f.0 f.1 more.0 front more.1 more.2
    ]
parts_found_by i None c told given =
    elim (behind_case false i c given) [
      | inl end ↦ neither end.0 end.1
      | inr more ↦ limit more.0 more.1 more.2
    ]

pub parts_found : (i : List ℕ) (c : values.BasicConstraints) → parts_in i ≡ Some c → BasicParts i c
unfolding parts_in
parts_found i c given = parts_found_by i (flag_at i) c refl given

-- a limit isn't empty
limit_behind : (ca : Bool) (i : List ℕ) (n : ℕ) → IsLimit i n → behind_flag ca i ≡ Some (with_limit ca n)
unfolding behind_flag
limit_behind ca [] n is = let wrong = is.whole in cc
limit_behind ca (x ∷ s) n is = ap (option_map (with_limit ca)) (limit_only (x ∷ s) n is)

limit_no_flag : (i : List ℕ) (n : ℕ) → IsLimit i n → flag_at i ≡ None
limit_no_flag i n is = ap flag_at is.whole ∙ no_flag is.tag (length is.content) is.content (tag_told is.tag is.is_tag).1

end_behind : (ca : Bool) → behind_flag ca [] ≡ Some (without_limit ca)
unfolding behind_flag
end_behind ca = refl

no_octets : flag_at [] ≡ None
unfolding flag_at
no_octets = refl

parts_only : (i : List ℕ) (c : values.BasicConstraints) → BasicParts i c → parts_in i ≡ Some c
unfolding parts_in
parts_only i c (neither none is) = rw (none, no_octets) (end_behind false ∙ ap (λ z. Some z) (sym is))
parts_only i c (flag ca whole is) = rw (whole) (ap (parts_by (flag_octets ca)) (flag_only ca []) ∙ end_behind ca ∙ ap (λ z. Some z) (sym is))
parts_only i c (limit n there is) = ap (parts_by i) (limit_no_flag i n there) ∙ limit_behind false i n there ∙ ap (λ z. Some z) (sym is)
parts_only i c (both ca octets n whole there is) =
    rw (whole) (ap (parts_by (flag_octets ca ++ octets)) (flag_only ca octets) ∙ limit_behind ca octets n there ∙ ap (λ z. Some z) (sym is))

-- ---- the sequence

sequence_case : (a b : Bool) (content v : List ℕ) → (let x : Answer (List ℕ) = if a && b then Ok content else Err unnamed in x ≡ Ok v) → (a ≡ true) × (b ≡ true) × (content ≡ v)
sequence_case true true content v given = (refl, refl, cc)
sequence_case true false content v given = cc
sequence_case false b content v given = cc

sequence_found : (p : Piece) (c : List ℕ) → sequence_in p.element ≡ Ok c → IsSequence p c
sequence_found p c given =
    let case = sequence_case (p.element.tag == 16) p.element.constructed p.element.content c given in
    record { tag = equal_tags p.element.tag 16 case.0; constructed = case.1; same = sym case.2 }

sequence_only : (p : Piece) (c : List ℕ) → IsSequence p c → sequence_in p.element ≡ Ok c
sequence_only p c is = rw (tags_equal p.element.tag 16 is.tag, is.constructed) (ap (λ z. Ok z) (sym is.same))

pub sequence_meaning : IsMeaning IsSequence (λ p. sequence_in p.element)
sequence_meaning = record {
  found = λ q v spells below given. sequence_found q v given;
  only = λ q v spells below is. sequence_only q v is;
}

pub constraints_meaning : IsMeaning IsBasicConstraints constraints_of
constraints_meaning = record {
  found = λ q v spells below given.
      let content = two (sequence_in q.element) _ v given in
      record { content = content.0; sequence = sequence_found q content.0 content.1; parts = parts_found content.0 v (was_some (parts_in content.0) v content.2) };
  only = λ q v spells below is. rw (sequence_only q is.content is.sequence, parts_only is.content v is.parts) refl;
}

pub constraints_reading : IsReading BasicConstraints constraints_at
constraints_reading = next_reading IsBasicConstraints constraints_of constraints_meaning
