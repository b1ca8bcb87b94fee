-- Parameters want memory for algorithms alone: a part that is absent leaves all octets to the next one.
use Rattle.std.proofs.Common.{◌≡◌, ◌∙◌, refl, sym, ap, subst, ℕ, ◌<◌, ◌==◌, List, [], ◌∷◌, Option, Some, None, ◌⊎◌, inl, inr, Ok}
use Rattle.asn1_core.proofs.Cases.{chosen}
use Rattle.asn1_core.specs.Elements.{Element}
use Rattle.asn1_core.specs.declared.outcome.Err.{Err as Refusal}
use Rattle.x509_core.specs.declared.error.X509Error.{X509Error}
use Rattle.x509_core.specs.Answers.{◌>>=◌}
use Rattle.x509_core.specs.Reading.{Reader, piece_at}
use Rattle.x509_core.proofs.Grammars.{two}
use Rattle.x509_algorithms.specs.Answers.{HasPart, HasPartBelow, WantsFor}
use Rattle.x509_algorithms.specs.Reading.{content_or_none, tagged_content, inner_at, tagged_at}
use Rattle.x509_algorithms.proofs.AnswerLaws.{wanted_so}

none_is : (n : ℕ) (i : List ℕ) (e : Element) (after r : List ℕ) → content_or_none n i e after ≡ Ok (None, r) → r ≡ i
none_is n i e after r given =
    elim (chosen (e.tag == n) _ _ _ given) [
      | inl here ↦ elim (chosen (e.class == 2) _ _ _ here.1) [
        | inl is ↦ let both : ◌≡◌ {A = Option (List ℕ) × List ℕ} (Some e.content, after) (None, r) = cc in let wrong : Some e.content ≡ None = ap (λ (z : Option (List ℕ) × List ℕ). z.0) both in cc
        | inr wrong ↦ let impossible = wrong.1 in cc
      ]
      | inr other ↦ let both : ◌≡◌ {A = Option (List ℕ) × List ℕ} (None, i) (None, r) = cc in ap (λ (z : Option (List ℕ) × List ℕ). z.1) (sym both)
    ]

absent_same : (n : ℕ) (i r : List ℕ) → tagged_content n i ≡ Ok (None, r) → r ≡ i
unfolding tagged_content
absent_same n [] r given = let both : ◌≡◌ {A = Option (List ℕ) × List ℕ} (None, []) (None, r) = cc in ap (λ (z : Option (List ℕ) × List ℕ). z.1) (sym both)
absent_same n (x ∷ s) r given =
    let step = two (piece_at (x ∷ s)) _ (None, r) given in
    none_is n (x ∷ s) step.0.0.element step.0.1 r step.2

behind : (n : ℕ) (i : List ℕ) (o : Option (List ℕ)) (after r : List ℕ) → tagged_content n i ≡ Ok (o, after) → after ≡ r → HasPart n i ⊎ (r ≡ i)
behind n i (Some c) after r read same = inl (c, after, read)
behind n i None after r read same = inr (sym same ∙ absent_same n i after read)

behind_part : {A : Type 0} (n : ℕ) (p : Reader A) (i : List ℕ) (v : Option A) (r : List ℕ) → tagged_at n p i ≡ Ok (v, r) → HasPart n i ⊎ (r ≡ i)
behind_part {A = A} n p i v r given =
    let content = two (tagged_content n i) _ (v, r) given in
    let value = two (inner_at p content.0.0) _ (v, r) content.2 in
    let both : ◌≡◌ {A = Option A × List ℕ} (value.0, content.0.1) (v, r) = cc in
    behind n i content.0.0 content.0.1 r content.1 (ap (λ (z : Option A × List ℕ). z.1) both)

-- a part was there, or all octets are left
pub part_or_all : {A : Type 0} (k n : ℕ) (p : Reader A) (i r s : List ℕ) (v : Option A) → n < k → HasPartBelow k i ⊎ (r ≡ i) → tagged_at n p r ≡ Ok (v, s) → HasPartBelow k i ⊎ (s ≡ i)
part_or_all k n p i r s v less (inl there) read = inl there
part_or_all k n p i r s v less (inr same) read =
    elim (behind_part n p r v s read) [
      | inl has ↦ inl (n, less, subst (λ z. HasPart n z) same has)
      | inr is ↦ inr (is ∙ same)
    ]

pub part_wants : (k n : ℕ) (i r : List ℕ) (e : Refusal X509Error) → n < k → HasPartBelow k i ⊎ (r ≡ i) → WantsFor (HasPart n r) e → WantsFor (HasPartBelow k i) e
part_wants k n i r e less (inl there) wants = wanted_so (HasPart n r) (HasPartBelow k i) e (λ _. there) wants
part_wants k n i r e less (inr same) wants = wanted_so (HasPart n r) (HasPartBelow k i) e (λ has. (n, less, subst (λ z. HasPart n z) same has)) wants
