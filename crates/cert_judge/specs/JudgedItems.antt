-- Items as they are judged, and what they show to those that link them.
use Rattle.std.specs.Prelude.{◌≡◌, ◌↔◌, ◌<◌, ℕ, true, if◌then◌else◌, List, length, map, Some, None, option_map, slice_index_or}
use Rattle.cert_graph.specs.declared.nodes.Node.{Node}
use Rattle.cert_graph.specs.Reach.{reach_of}
use Rattle.cert_graph.specs.declared.places.Place.{Place}
use Rattle.cert_model.specs.Fields.{Identifier, CivilTime, Entry, Certificate, RevocationList}
use Rattle.cert_model.specs.Octets.{name_octets, key_octets}
use Rattle.cert_model.specs.Class.{certificate, list, other}
use Rattle.cert_judge.specs.declared.judged.JudgedCertificate.{JudgedCertificate}
use Rattle.cert_judge.specs.declared.judged.JudgedList.{JudgedList}
use Rattle.cert_judge.specs.declared.judged.JudgedItem.{JudgedItem}
use Rattle.cert_judge.specs.declared.judged.JudgedItem.TheVariants.{Certificate as certificate_judged, List as list_judged, Other as other_judged}
use Rattle.cert_judge.specs.Judging.{IsUsable, IsFitIssuer}
use Rattle.cert_judge.specs.Further.{any_identifier, AreFurther}
use Rattle.cert_judge.specs.Revoking.{Item, IsCurrent, IsPlain}
use Rattle.cert_judge.specs.Named.{NamesKeyId, HasKeyId}
use Rattle.cert_judge.specs.ItemGraph.{IsCertificateWith, self_issued_of, limit_of}

-- What is judged of an item by itself is in its node, if the caller processes extensions of some
-- identifiers.
pub record IsNodeOf (P : Identifier → Type 0) (moment : CivilTime) (x : Item) (n : Node) : Type 0 where
  pub certificate : (n.certificate ≡ true) ↔ IsCertificateWith (λ c. Unit {0}) x
  pub usable : (n.usable ≡ true) ↔ IsCertificateWith (IsUsable P moment) x
  pub fit : (n.fit ≡ true) ↔ IsCertificateWith (IsFitIssuer P moment) x
  pub self_issued : self_issued_of x.class ≡ n.self_issued
  pub limit : n.fit ≡ true → limit_of x.class ≡ reach_of n.limit

-- A certificate as the definitions judge it.
pub record IsJudgedCertificate (moment : CivilTime) (x : Item) (j : JudgedCertificate) : Type 0 where
  pub fields : Certificate
  pub class : x.class ≡ certificate fields
  pub octets : j.octets.now ≡ x.octets
  pub issuer : j.issuer.now ≡ name_octets fields.issuer
  pub subject : j.subject.now ≡ name_octets fields.subject
  pub key : j.key.now ≡ key_octets fields.key
  pub serial : j.serial.now ≡ fields.serial
  pub names : NamesKeyId fields (option_map (λ s. s.now) j.authority_key_id)
  pub has : HasKeyId fields (option_map (λ s. s.now) j.subject_key_id)
  -- as if the caller processed the further extensions, whichever there are
  pub node : IsNodeOf any_identifier moment x j.node
  pub further : AreFurther fields.extensions (map (λ s. s.now) j.further.items)

-- A list as the definitions judge it.
pub record IsJudgedList (moment : CivilTime) (x : Item) (j : JudgedList) : Type 0 where
  pub fields : RevocationList
  pub class : x.class ≡ list fields
  pub octets : j.octets.now ≡ x.octets
  pub issuer : j.issuer.now ≡ name_octets fields.issuer
  pub current : j.in_force ≡ true → IsCurrent moment fields
  pub plain : j.in_force ≡ true → IsPlain fields
  pub in_force : IsCurrent moment fields → IsPlain fields → j.in_force ≡ true
  pub serials : map (λ s. s.now) j.serials.items ≡ map (λ (n : Entry). n.serial) fields.entries

abbrev pub IsJudged : CivilTime → Item → JudgedItem → Type 0
IsJudged moment x (certificate_judged j) = IsJudgedCertificate moment x j
IsJudged moment x (list_judged j) = IsJudgedList moment x j
IsJudged moment x other_judged = x.class ≡ other

-- items are judged in their order
pub record AreJudged (moment : CivilTime) (xs : List Item) (js : List JudgedItem) : Type 0 where
  pub count : length js ≡ length xs
  pub each : (v : ℕ) (x : Item) (j : JudgedItem) → v < length xs → IsJudged moment (slice_index_or xs v x) (slice_index_or js v j)

-- what a node says of an item that is so judged
abbrev pub IsNodeFor : (List ℕ → List ℕ → Type 0) → JudgedItem → Node → Type 0
IsNodeFor Q j n = (moment : CivilTime) (x : Item) → IsJudged moment x j → IsNodeOf (Q x.octets) moment x n

-- so many items have nodes
pub record AreNodesFor (Q : List ℕ → List ℕ → Type 0) (js : List JudgedItem) (nodes : List Node) (k : ℕ) : Type 0 where
  pub count : length nodes ≡ k
  pub each : (v : ℕ) (j : JudgedItem) (n : Node) → v < k → IsNodeFor Q (slice_index_or js v j) (slice_index_or nodes v n)

abbrev pub no_place : Place
no_place = record { name = None; key = None; id = None }

-- what an item shows as one that was issued, as an issuer, and as an anchor
abbrev pub as_issued : JudgedItem → Place
as_issued (certificate_judged j) = record { name = Some j.issuer; key = None; id = j.authority_key_id }
as_issued (list_judged j) = record { name = Some j.issuer; key = None; id = None }
as_issued other_judged = no_place

abbrev pub as_member : JudgedItem → Place
as_member (certificate_judged j) = if j.node.fit then record { name = Some j.subject; key = Some j.key; id = j.subject_key_id } else no_place
as_member (list_judged j) = no_place
as_member other_judged = no_place

abbrev pub as_anchor : JudgedItem → Place
as_anchor (certificate_judged j) = record { name = Some j.subject; key = Some j.key; id = None }
as_anchor (list_judged j) = no_place
as_anchor other_judged = no_place
