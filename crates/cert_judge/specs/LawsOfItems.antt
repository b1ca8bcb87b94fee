-- What the laws over items say.
use Rattle.std.specs.Prelude.{◌≡◌, ◌↔◌, ℕ, Bool, IsTrue, List, length, Contains}
use Rattle.cert_graph.specs.Graph.{IsValidPath}
use Rattle.cert_graph.specs.Entries.{IsAt}
use Rattle.cert_model.specs.Fields.{CivilTime, Certificate, RevocationList}
use Rattle.cert_model.specs.Class.{certificate, list}
use Rattle.cert_judge.specs.Moments.{IsBetween}
use Rattle.cert_judge.specs.Revoking.{Item, JudgingContext}
use Rattle.cert_judge.specs.Vouching.{nothing}
use Rattle.cert_judge.specs.ItemGraph.{IsCertificateWith, graph_of_items}

-- rules by a test of what is vouched for; no further extension is processed
abbrev pub rules_from : CivilTime → Bool → (List ℕ → List ℕ → Bool) → JudgingContext
rules_from moment demand vouches = record { moment = moment; demand_lists = demand; Vouches = λ key item. IsTrue (vouches key item); Processes = nothing }

-- the second rules vouch for each certificate among the items that the first vouch for, and for
-- equal lists among them, and process each extension of the certificates that the first process
pub record VouchesForMore (r s : JudgingContext) (items : List Item) : Type 0 where
  pub moment : r.moment ≡ s.moment
  pub demand : r.demand_lists ≡ s.demand_lists
  pub certificates : (x : Item) (c : Certificate) (key : List ℕ) → Contains items x → x.class ≡ certificate c → r.Vouches key x.octets → s.Vouches key x.octets
  pub lists : (x : Item) (l : RevocationList) (key : List ℕ) → Contains items x → x.class ≡ list l → r.Vouches key x.octets ↔ s.Vouches key x.octets
  pub processed : (x : Item) (c : Certificate) (identifier : List ℕ) → Contains items x → x.class ≡ certificate c → r.Processes x.octets identifier → s.Processes x.octets identifier

-- Each certificate goes to a place where it is among other items, and the lists among both are
-- equal.
pub record Keeps (f : ℕ → ℕ) (items others : List Item) : Type 0 where
  pub certificates : (v : ℕ) (x : Item) (c : Certificate) → IsAt items v (λ y. y ≡ x) → x.class ≡ certificate c → IsAt others (f v) (λ y. y ≡ x)
  pub lists : (x : Item) (l : RevocationList) → x.class ≡ list l → Contains items x ↔ Contains others x

-- wherever there is a path, there is one of equal length elsewhere
abbrev pub HasPathsOf : (ℕ → ℕ) → JudgingContext → JudgingContext → List Item → List Item → List Item → Type 0
HasPathsOf f r s items others anchors =
    (target : ℕ) (ps : List ℕ) (a : ℕ) → IsValidPath (graph_of_items r items anchors) target ps a
    → (qs : List ℕ) × (length qs ≡ length ps) × IsValidPath (graph_of_items s others anchors) (f target) qs a

-- the certificate at a position is valid at a moment
abbrev pub IsValidAt : List Item → CivilTime → ℕ → Type 0
IsValidAt items moment p = IsAt items p (IsCertificateWith (λ c. IsBetween c.not_before moment c.not_after))

-- there is a path of so many certificates
abbrev pub HasPathOf : JudgingContext → List Item → List Item → ℕ → ℕ → Type 0
HasPathOf r items anchors target n = (ps : List ℕ) × (a : ℕ) × (length ps ≡ n) × IsValidPath (graph_of_items r items anchors) target ps a
