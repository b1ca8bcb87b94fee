-- Links of one certificate, brought together by what is said of them. Contracts of private functions cite it.
use Rattle.std.specs.Prelude.{◌≡◌, ℕ, List, Vec}
use Rattle.std.specs.BTreeMap.{BTreeMap}
use Rattle.std.specs.declared.alloc.Global.{Global}
use Rattle.cert_model.specs.Fields.{Certificate}
use Rattle.cert_model.specs.Octets.{name_octets}
use Rattle.cert_graph.specs.Entries.{IsAt}
use Rattle.cert_judge.specs.ItemGraph.{IsCertificateWith, KeyIdsAgree}
use Rattle.cert_judge.specs.Items.{certificate_of}
use Rattle.cert_judge.specs.Revoking.{Item}
use Rattle.cert_judge.specs.declared.items.CertificateItem.{CertificateItem}
use Rattle.cert_judge.specs.declared.items.ReadItem.{ReadItem}
use Rattle.cert_reasons.specs.declared.links.Unlinked.{Unlinked}
use Rattle.cert_reasons.specs.declared.links.Unlinked.TheVariants.{NotVouched}
use Rattle.certpath_why.specs.Cuts.{IsCutOf}
use Rattle.certpath_why.specs.Kinds.{AreWrittenBy, kind_numbers, named_by}
use Rattle.certpath_why.specs.Reached.{HasSubject}
use Rattle.certpath_why.specs.declared.cuts.Cut.{Cut}
use Rattle.certpath_why.specs.declared.links.Groups.{Groups}

-- the certificate at a position has the issuer's name, and the key identifiers differ
abbrev pub IsDiffering : List Item → Certificate → ℕ → Type 0
IsDiffering items c w = IsAt items w (IsCertificateWith (λ d. (name_octets d.subject ≡ name_octets c.issuer) × (KeyIdsAgree c d → ⊥)))

-- a kind by the key identifier that a certificate names, and by the position of one of its issuer's name
abbrev pub IsIdKind : List Item → ℕ → CertificateItem → List ℕ → Type 0
IsIdKind others p x kind = (first : ℕ) × HasSubject others x.issuer.now first × (kind ≡ kind_numbers first 0 0 (named_by x))

-- what is under such a kind are those that differ
abbrev pub AreDifferingKept : List ReadItem → List Item → BTreeMap (Vec ℕ Global) Cut → Type 0
AreDifferingKept items others kept = AreWrittenBy items (IsIdKind others) (λ x (cut : Cut). IsCutOf (IsDiffering others (certificate_of x)) cut) kept

-- The groups of links, but for key identifiers that differ and for lists.
pub record AreGroups (Linked : ℕ → Type 0) (Fails : Unlinked → ℕ → Type 0) (g : Groups) : Type 0 where
  pub linked : IsCutOf Linked g.linked
  pub unvouched : IsCutOf (Fails NotVouched) g.unvouched
