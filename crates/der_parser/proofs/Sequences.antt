-- Items read one after the other.
use Rattle.std.proofs.Common.{◌≡◌, ◌∙◌, sym, subst, refl, ℕ, ◌<◌, List, [], ◌∷◌, ◌++◌, length, Bor, Result, Ok}
use Rattle.asn1_core.specs.declared.outcome.Err.{Err as Refusal}
use Rattle.der_parser.specs.Items.{Takes}

-- one more item
pub takes_more : {T E : Type 0} (post : Bor (List ℕ) → Result (Bor (List ℕ) × T) (Refusal E) → Type 0) (octets rest : List ℕ) (xs : List T) (x : T) (i after : Bor (List ℕ)) →
    Takes post octets xs rest → i.now ≡ rest → post i (Ok (after, x)) → length after.now < length rest → Takes post octets (xs ++ x ∷ []) after.now
takes_more post octets rest [] x i after p is q lt = (i, after, is ∙ sym p, q, subst (λ z. length after.now < length z) (sym p) lt, refl)
takes_more post octets rest (y ∷ ys) x i after p is q lt = (p.0, p.1, p.2, p.3, p.4, takes_more post p.1.now rest ys x i after p.5 is q lt)

-- nothing is left
pub takes_all : {T E : Type 0} (post : Bor (List ℕ) → Result (Bor (List ℕ) × T) (Refusal E) → Type 0) (octets rest : List ℕ) (xs : List T) →
    Takes post octets xs rest → rest ≡ [] → Takes post octets xs []
takes_all post octets rest xs p e = subst (λ z. Takes post octets xs z) e p
