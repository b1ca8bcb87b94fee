use Rattle.std.proofs.Common.{◌≡◌, ◌≢◌, refl, ℕ, Bool, true, false, List, [], ◌∷◌, ◌++◌, slice_index}
use Rattle.cert_model.specs.Octets.{flag_octets}
use Rattle.cert_judge.proofs.constraints.flag_of.Goals as goal

pub returns-in_default-clause-only : goal.returns-in_default-clause-only
returns-in_default-clause-only c = λ flag.
    elim flag as (λ (flag : Bool). (rest : List ℕ) → c.args.octets.now ≡ flag_octets flag ++ rest → slice_index rest 0 ≢ 1 → (false ≡ flag) × (c.args.octets.now ≡ rest)) [
      | true ↦ λ rest e n. let x = c.part.ensures.only (255 ∷ []) rest e in let y = rw c.in_default.is at x in absurd y
      | false ↦ λ rest e n. (refl, e)
    ]

pub returns-else-is_ff-clause-only : goal.returns-else-is_ff-clause-only
returns-else-is_ff-clause-only c = λ flag.
    elim flag as (λ (flag : Bool). (rest : List ℕ) → c.args.octets.now ≡ flag_octets flag ++ rest → slice_index rest 0 ≢ 1 → (false ≡ flag) × (c.args.octets.now ≡ rest)) [
      | true ↦ λ rest e n. let x = c.in-Some.ensures.only (255 ∷ []) rest e in let t = c.is_ff.ensures.1 x.0 in absurd cc
      | false ↦ λ rest e n. (refl, e)
    ]
