-- Where a path length prevents a path. This page is to be believed.
use Rattle.std.specs.Prelude.{◌≡◌, ◌≢◌, ℕ, List}
use Rattle.cert_graph.specs.Entries.{IsAt}
use Rattle.cert_graph.specs.Adequate.{rows_of, row_of, at_row}
use Rattle.cert_graph.specs.declared.answer.Answer.{Answer}
use Rattle.cert_graph.specs.declared.answer.Answer.TheVariants.{Path, NoPath, NoTarget}
use Rattle.cert_graph.specs.declared.reach.Reach.{Reach}
use Rattle.cert_graph.specs.declared.reach.Reach.TheVariants.{No, UpTo}
use Rattle.cert_model.specs.Octets.{name_octets}
use Rattle.cert_judge.specs.Revoking.{Item, JudgingContext}
use Rattle.cert_judge.specs.ItemGraph.{IsCertificateWith, IsLink}
use Rattle.certpath_why.specs.Reached.{IsFurther}

-- how far a certificate leads to an anchor, by the row of an answer that there is no path
abbrev pub reach_by : Answer → ℕ → Reach
reach_by (NoPath table) v = at_row (row_of (rows_of table) 0) v
reach_by (Path positions anchor table) v = No
reach_by NoTarget v = No

-- a certificate that is not self-issued: path lengths count it (RFC 5280, 6.1.4, l)
abbrev pub IsCounted : List Item → ℕ → Type 0
IsCounted items w = IsAt items w (IsCertificateWith (λ c. name_octets c.subject ≢ name_octets c.issuer))

-- A path length holds the one certificate back from the other: it is linked to it and counts, and leads to no anchor,
-- while the other leads to one with nothing counted below it (RFC 5280, 6.1.4, l and m).
pub record IsHeldBack (r : JudgingContext) (items : List Item) (reach : ℕ → Reach) (w v : ℕ) : Type 0 where
  pub leads_nowhere : reach w ≡ No
  pub counts : IsCounted items w
  pub linked : IsAt items w (λ x. IsAt items v (IsLink r items x))
  pub bounded : reach v ≡ UpTo 0

-- a certificate that is reached, other than the target, is held back from this one, which is not the target
abbrev pub IsBound : JudgingContext → List Item → ℕ → (ℕ → Reach) → ℕ → Type 0
IsBound r items target reach v = ((w : ℕ) × IsFurther items target w × IsHeldBack r items reach w v) × (v ≢ target)
