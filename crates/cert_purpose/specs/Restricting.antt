-- JudgingContext that vouch for less, and rules that vouch alike.
use Rattle.std.specs.Prelude.{◌≡◌, ◌↔◌, ◌⊎◌, ℕ, List, Contains, All}
use Rattle.cert_graph.specs.declared.answer.Answer.{Answer}
use Rattle.cert_graph.specs.Adequate.{IsTrueAnswer}
use Rattle.cert_graph.specs.Entries.{IsAt}
use Rattle.cert_graph.specs.Graph.{IsValidPath}
use Rattle.cert_model.specs.Fields.{Certificate, RevocationList}
use Rattle.cert_model.specs.Class.{certificate, list}
use Rattle.cert_judge.specs.Revoking.{Item, JudgingContext}
use Rattle.cert_judge.specs.Vouching.{Vouching}
use Rattle.cert_judge.specs.ItemGraph.{graph_of_items}

-- who vouches for what is permitted alone, and processes these extensions too
abbrev pub restricted_by : (List ℕ → Type 0) → (List ℕ → List ℕ → Type 0) → Vouching → Vouching
restricted_by P R v = record { Vouches = λ key item. v.Vouches key item × P item; Processes = λ item identifier. v.Processes item identifier ⊎ R item identifier }

-- two rules vouch alike for certificates and lists among the items, and process equal extensions of
-- the certificates
pub record VouchAlike (r s : JudgingContext) (items : List Item) : Type 0 where
  pub moment : r.moment ≡ s.moment
  pub demand : r.demand_lists ≡ s.demand_lists
  pub certificates : (x : Item) (c : Certificate) (key : List ℕ) → Contains items x → x.class ≡ certificate c → r.Vouches key x.octets ↔ s.Vouches key x.octets
  pub lists : (x : Item) (l : RevocationList) (key : List ℕ) → Contains items x → x.class ≡ list l → r.Vouches key x.octets ↔ s.Vouches key x.octets
  pub processed : (x : Item) (c : Certificate) (identifier : List ℕ) → Contains items x → x.class ≡ certificate c → r.Processes x.octets identifier ↔ s.Processes x.octets identifier

-- whatever the anchors and the target are
abbrev pub HaveSameTrueAnswers : JudgingContext → JudgingContext → List Item → Type 0
HaveSameTrueAnswers r s items =
    (anchors : List Item) (target : ℕ) (answer : Answer) → IsTrueAnswer (graph_of_items r items anchors) target answer ↔ IsTrueAnswer (graph_of_items s items anchors) target answer

-- Of the certificates among the items exactly those are permitted of which Q says so, and each list
-- is.
pub record PermitsThose (P : List ℕ → Type 0) (Q : Item → Certificate → Type 0) (items : List Item) : Type 0 where
  pub certificates : (x : Item) (c : Certificate) → Contains items x → x.class ≡ certificate c → P x.octets ↔ Q x c
  pub lists : (x : Item) (l : RevocationList) → Contains items x → x.class ≡ list l → P x.octets

-- the item at a place is a certificate of which Q says so
abbrev pub IsCertificateSuch : (Item → Certificate → Type 0) → List Item → ℕ → Type 0
IsCertificateSuch Q items v = IsAt items v (λ x. (c : Certificate) × (x.class ≡ certificate c) × Q x c)

-- the valid paths of the second rules are those of the first all of whose certificates are such
abbrev pub HasPathsOfThose : JudgingContext → JudgingContext → (Item → Certificate → Type 0) → List Item → Type 0
HasPathsOfThose base less Q items =
    (anchors : List Item) (target : ℕ) (ps : List ℕ) (a : ℕ)
    → IsValidPath (graph_of_items less items anchors) target ps a ↔ (IsValidPath (graph_of_items base items anchors) target ps a × All (IsCertificateSuch Q items) ps)
