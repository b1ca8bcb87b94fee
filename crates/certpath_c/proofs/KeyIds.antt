-- A reader that finds what is so and no other finds the one.
use Rattle.std.proofs.Common.{ℕ, List, Option, Some, None, option_copied}
use Rattle.std.specs.Prelude.{◌≡◌, IfSome, IsSomeAnd}
use Rattle.std.specs.Borrow.{Bor}
use Rattle.certpath_c.specs.Contents.{IsTheOne}

pub the_one : (P : List ℕ → Type 0) (r : Option (Bor (List ℕ))) → IfSome r (λ id. P id.now) → ((id : List ℕ) → P id → IsSomeAnd r (λ s. s.now ≡ id)) → IsTheOne P (option_copied r)
the_one P None found only = λ id here. only id here
the_one P (Some id) found only = found
