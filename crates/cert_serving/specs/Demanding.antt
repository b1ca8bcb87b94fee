-- What may be demanded of the certificates of a path, and which items are permitted then.
use Rattle.std.specs.Prelude.{◌≡◌, ◌↔◌, ◌⊎◌, ℕ, List, Option, IsSome, Contains, All}
use Rattle.cert_graph.specs.Graph.{IsValidPath}
use Rattle.cert_model.specs.Fields.{Identifier, Extension, Certificate}
use Rattle.cert_model.specs.Range.{IfThere}
use Rattle.cert_model.specs.Class.{IsCertificateItem}
use Rattle.cert_judge.specs.Revoking.{Item, JudgingContext}
use Rattle.cert_judge.specs.ItemGraph.{graph_of_items}
use Rattle.cert_purpose.specs.Purposes.{extended_key_usage, Allows}
use Rattle.cert_purpose.specs.Restricting.{IsCertificateSuch}
use Rattle.host_names.specs.Asked.{Asked}
use Rattle.cert_serving.specs.declared.item.Answer.{Answer}
use Rattle.cert_serving.specs.declared.item.Answer.TheVariants.{NotCertificate, No, Yes}
use Rattle.cert_serving.specs.Serving.{subject_alt_name, Serves}

-- a purpose that each certificate allows, and a host that the target serves
pub record Demanded : Type 0 where
  pub purpose : Option Identifier
  pub host : Option Asked
  pub target : List ℕ

abbrev pub AllowsIt : Demanded → List Extension → Type 0
AllowsIt d es = IfThere (λ purpose. Allows purpose es) d.purpose

abbrev pub ServesIt : Demanded → List Extension → Type 0
ServesIt d es = IfThere (λ host. Serves host es) d.host

-- what is demanded of a certificate, by its octets and its extensions
pub record Meets (d : Demanded) (octets : List ℕ) (es : List Extension) : Type 0 where
  pub purpose : AllowsIt d es
  pub host : octets ≡ d.target → ServesIt d es

-- an item is permitted: it is no certificate, or one that meets the demands
abbrev pub IsPermitted : Demanded → List ℕ → Type 0
IsPermitted d octets = (c : Certificate) → IsCertificateItem octets c → Meets d octets c.extensions

-- exactly those of the items are permitted; of other octets all are
abbrev pub PermitsOf : Demanded → List (List ℕ) → (List ℕ → Type 0) → Type 0
PermitsOf d items P = (octets : List ℕ) → P octets ↔ (Contains items octets → IsPermitted d octets)

-- extensions of an identifier are processed in an item, so that they may be critical there
-- (RFC 5280, 6.1.4, o, and 6.1.5, f): extKeyUsage in each item, if a purpose is demanded, and
-- subjectAltName in the target, if a host is
abbrev pub IsProcessedFor : Demanded → List ℕ → Identifier → Type 0
IsProcessedFor d octets identifier = (IsSome d.purpose × (identifier ≡ extended_key_usage)) ⊎ (IsSome d.host × (octets ≡ d.target) × (identifier ≡ subject_alt_name))

-- exactly those are processed
abbrev pub ProcessesFor : Demanded → (List ℕ → List ℕ → Type 0) → Type 0
ProcessesFor d R = (octets identifier : List ℕ) → R octets identifier ↔ IsProcessedFor d octets identifier

-- octets are no certificate
abbrev pub IsNoCertificate : List ℕ → Type 0
IsNoCertificate octets = (c : Certificate) → ¬ IsCertificateItem octets c

-- octets are a certificate with these extensions
abbrev pub HasExtensions : List ℕ → List Extension → Type 0
HasExtensions octets es = (c : Certificate) × IsCertificateItem octets c × (c.extensions ≡ es)

-- the answer on an item of whose certificate's extensions something is asked
abbrev pub IsAnswer : List ℕ → (List Extension → Type 0) → Answer → Type 0
IsAnswer octets P NotCertificate = IsNoCertificate octets
IsAnswer octets P No = (c : Certificate) × IsCertificateItem octets c × ¬ P c.extensions
IsAnswer octets P Yes = (c : Certificate) × IsCertificateItem octets c × P c.extensions

-- A path of certificates that allow the purpose, from a target that serves the host.
pub record IsServingPath (r : JudgingContext) (d : Demanded) (items anchors : List Item) (target : ℕ) (ps : List ℕ) (a : ℕ) : Type 0 where
  pub path : IsValidPath (graph_of_items r items anchors) target ps a
  pub purpose : All (IsCertificateSuch (λ x c. AllowsIt d c.extensions) items) ps
  pub host : IsCertificateSuch (λ x c. ServesIt d c.extensions) items target
