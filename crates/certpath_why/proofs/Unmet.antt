-- What a certificate does not meet.
use Rattle.std.proofs.Common.{◌≡◌, ◌∙◌, ap, sym, refl, ℕ, List, [], ◌++◌, append_assoc, inl, inr}
use Rattle.std.proofs.lemmas.List.{append-nil}
use Rattle.certpath_why.specs.Appended.{Appends}
use Rattle.certpath_why.specs.Demanded.{IsLineUnless}

-- nothing was appended, since the fact holds
pub met : (P : Type 0) (IsLine : List ℕ → Type 0) (text : List ℕ) → P → Appends (IsLineUnless P IsLine) text text
met P IsLine text p = ([], sym (append-nil text), inl (p, refl))

-- a line was appended, since it does not hold
pub unmet : (P : Type 0) (IsLine : List ℕ → Type 0) (old new line : List ℕ) → (P → ⊥) → IsLine line → new ≡ old ++ line → Appends (IsLineUnless P IsLine) old new
unmet P IsLine old new line n is e = (line, e, inr (n, is))

-- the front of a line, its words and its end, appended one after the other
pub line_joined : (old at a s b w e one two three : List ℕ) → one ≡ old ++ (at ++ (a ++ (s ++ b))) → two ≡ one ++ w → three ≡ two ++ e → three ≡ old ++ (at ++ (a ++ (s ++ (b ++ (w ++ e)))))
line_joined old at a s b w e one two three p q r =
    r ∙ ap (λ t. t ++ e) (q ∙ ap (λ t. t ++ w) p) ∙ append_assoc (old ++ (at ++ (a ++ (s ++ b)))) w e ∙ append_assoc old (at ++ (a ++ (s ++ b))) (w ++ e)
    ∙ ap (λ t. old ++ t) (append_assoc at (a ++ (s ++ b)) (w ++ e) ∙ ap (λ t. at ++ t) (append_assoc a (s ++ b) (w ++ e) ∙ ap (λ t. a ++ t) (append_assoc s b (w ++ e))))

-- a host that is asked of this certificate
pub of_target : (same S : Type 0) (IsLine : List ℕ → Type 0) (old new : List ℕ) → same → Appends (IsLineUnless S IsLine) old new → Appends (IsLineUnless (same → S) IsLine) old new
of_target same S IsLine old new is h = (h.0, h.1, elim h.2 [ inl p ↦ inl (λ t. p.0, p.1) | inr n ↦ inr (λ f. n.0 (f is), n.1) ])
