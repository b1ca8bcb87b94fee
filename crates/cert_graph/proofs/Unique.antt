-- What a true answer says is decided by the graph.
use Rattle.std.proofs.Common.{◌≡◌, ℕ, ◌<◌, List, [], ◌∷◌, length, arith, ap, sym, subst, refl, inl, inr}
use Rattle.std.specs.Prelude.{◌⊎◌, All}
use Rattle.std.proofs.lemmas.Bool.{cases_lt}
use Rattle.std.proofs.lemmas.List.Elements.{All-head}
use Rattle.cert_graph.specs.declared.answer.Answer.{Answer}
use Rattle.cert_graph.specs.declared.answer.Answer.TheVariants.{Path, NoPath, NoTarget}
use Rattle.cert_graph.specs.Graph.{Graph, IsBefore, ComesBefore, IsValidPath, IsFirstPath}
use Rattle.cert_graph.specs.Adequate.{IsTrueAnswer}
use Rattle.cert_graph.specs.Laws.{UsableIsCertificate}
use Rattle.cert_graph.specs.LawsOfNodes.{SayTheSame}

-- of two numbers one is the lower, or they are one
lower_or_same : (m n : ℕ) → (m < n) ⊎ (n < m) ⊎ (m ≡ n)
lower_or_same m n = elim (cases_lt m n) [
  | inl below ↦ inl below
  | inr above ↦ elim (cases_lt n m) [ inl below ↦ inr (inl below) | inr same ↦ inr (inr (omega arith)) ]
]

-- one position more in front of both
before_on : (p : ℕ) (ps qs : List ℕ) → IsBefore ps qs → IsBefore (p ∷ ps) (p ∷ qs)
before_on p ps qs b = (p ∷ b.0, b.1, b.2, b.3, b.4, ap (λ zs. p ∷ zs) b.5, ap (λ zs. p ∷ zs) b.6, b.7)

-- of two lists of one length one comes before the other, or they are one
before_or_same : (ps qs : List ℕ) → length ps ≡ length qs → IsBefore ps qs ⊎ IsBefore qs ps ⊎ (ps ≡ qs)
before_or_same [] [] e = inr (inr refl)
before_or_same [] (q ∷ qs) e = absurd (omega arith)
before_or_same (p ∷ ps) [] e = absurd (omega arith)
before_or_same (p ∷ ps) (q ∷ qs) e = elim (lower_or_same p q) [
  | inl below ↦ inl ([], p, q, ps, qs, refl, refl, below)
  | inr rest ↦ elim rest [
    | inl above ↦ inr (inl ([], q, p, qs, ps, refl, refl, above))
    | inr same ↦
        let shorter : length ps ≡ length qs = omega arith in
        elim (before_or_same ps qs shorter) [
          | inl b ↦ inl (subst (λ (x : ℕ). IsBefore (p ∷ ps) (x ∷ qs)) same (before_on p ps qs b))
          | inr more ↦ elim more [
            | inl b ↦ inr (inl (subst (λ (x : ℕ). IsBefore (x ∷ qs) (p ∷ ps)) same (before_on p qs ps b)))
            | inr equal ↦ inr (inr (cc (same, equal)))
          ]
        ]
  ]
]

-- of two paths one comes before the other, or they are one
comes_or_same : (ps qs : List ℕ) (a b : ℕ) → ComesBefore ps a qs b ⊎ ComesBefore qs b ps a ⊎ ((ps ≡ qs) × (a ≡ b))
comes_or_same ps qs a b = elim (lower_or_same (length ps) (length qs)) [
  | inl shorter ↦ inl (inl shorter)
  | inr rest ↦ elim rest [
    | inl longer ↦ inr (inl (inl longer))
    | inr even ↦ elim (before_or_same ps qs even) [
      | inl x ↦ inl (inr (inl (even, x)))
      | inr more ↦ elim more [
        | inl x ↦ inr (inl (inr (inl (sym even, x))))
        | inr same ↦ elim (lower_or_same a b) [
          | inl x ↦ inl (inr (inr (same, x)))
          | inr last ↦ elim last [
            | inl x ↦ inr (inl (inr (inr (sym same, x))))
            | inr x ↦ inr (inr (same, x))
          ]
        ]
      ]
    ]
  ]
]

-- two first paths are one
pub one_first : (g : Graph) (target : ℕ) (ps qs : List ℕ) (a b : ℕ) → IsFirstPath g target ps a → IsFirstPath g target qs b → (ps ≡ qs) × (a ≡ b)
one_first g target ps qs a b h k = elim (comes_or_same ps qs a b) [
  | inl before ↦ absurd (k.first ps a h.valid before)
  | inr rest ↦ elim rest [ inl after ↦ absurd (h.first qs b k.valid after) | inr same ↦ same ]
]

-- the target of a valid path is a certificate
pub certificate_of : (g : Graph) → UsableIsCertificate g → (target : ℕ) (ps : List ℕ) (a : ℕ) → IsValidPath g target ps a → g.IsCertificate target
certificate_of g uc target ps a v = uc target (All-head g.Usable target v.issuers (subst (All g.Usable) v.starts v.usable))

pub one_true_answer : (g : Graph) → UsableIsCertificate g → (target : ℕ) (answer other : Answer) → IsTrueAnswer g target answer → IsTrueAnswer g target other → SayTheSame answer other
one_true_answer g uc target (Path ps a table) (Path qs b second) h k = one_first g target ps.items qs.items a b h k
one_true_answer g uc target (Path ps a table) (NoPath second) h k = k.1 ps.items a h.valid
one_true_answer g uc target (Path ps a table) NoTarget h k = k (certificate_of g uc target ps.items a h.valid)
one_true_answer g uc target (NoPath table) (Path qs b second) h k = h.1 qs.items b k.valid
one_true_answer g uc target (NoPath table) (NoPath second) h k = tt
one_true_answer g uc target (NoPath table) NoTarget h k = k h.0
one_true_answer g uc target NoTarget (Path qs b second) h k = h (certificate_of g uc target qs.items b k.valid)
one_true_answer g uc target NoTarget (NoPath second) h k = h k.0
one_true_answer g uc target NoTarget NoTarget h k = tt
