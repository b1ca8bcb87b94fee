-- Items with their groups, and what is said of them: they try the laws' definitions, not the code.
use Rattle.std.specs.Prelude.{◌<◌, ℕ, true, false, Some, None, [], ◌∷◌, All}
use Rattle.std.specs.Global.{Vec, Global}
use Rattle.std.proofs.Common.{refl}
use Rattle.std.proofs.Math.Dec.{lit<}
use Rattle.std.proofs.lemmas.List.Elements.{All-from_recursion}
use Rattle.cert_graph.specs.declared.reach.Reach.TheVariants.{No, UpTo}
use Rattle.cert_graph.specs.declared.changes.Change.{Change}
use Rattle.cert_graph.specs.declared.nodes.Node.{Node}
use Rattle.cert_graph.specs.declared.nodes.Group.{Group}
use Rattle.cert_graph.specs.declared.nodes.Nodes.{Nodes}
use Rattle.cert_graph.specs.declared.answer.Table.TheVariants.{Row, Rows}
use Rattle.cert_graph.specs.declared.answer.Answer.{Answer}
use Rattle.cert_graph.specs.declared.answer.Answer.TheVariants.{Path}
use Rattle.cert_graph.specs.declared.inventory.Verdict.{Verdict}
use Rattle.cert_graph.specs.declared.inventory.Verdict.TheVariants.{FirstPath, Pathless, NoCertificate}
use Rattle.cert_graph.specs.declared.inventory.Inventory.{Inventory}
use Rattle.laws_graph.specs.Vectors.{vec_of}
use Rattle.laws_graph.specs.Ascending.{none_ascends, one_ascends, two_ascend, none_within, one_within, two_within}

-- a fit issuer with path length 0, a certificate that may not issue, and an item that is no certificate
abbrev pub issuer : Node
issuer = record { certificate = true; usable = true; fit = true; self_issued = false; limit = Some 0; usable_is_certificate = λ h. h; fit_is_usable = λ h. h }

abbrev pub issued : Node
issued = record { certificate = true; usable = true; fit = false; self_issued = false; limit = None; usable_is_certificate = λ h. h; fit_is_usable = λ h. refl }

abbrev pub no_certificate : Node
no_certificate = record { certificate = false; usable = false; fit = false; self_issued = false; limit = None; usable_is_certificate = λ h. h; fit_is_usable = λ h. h }

module _ (alloc : Global) where
  abbrev pub none : Vec ℕ
  none = vec_of alloc [] (lit< tt)

  abbrev pub one : ℕ → Vec ℕ
  one p = vec_of alloc (p ∷ []) (lit< tt)

  abbrev pub two : ℕ → ℕ → Vec ℕ
  two p q = vec_of alloc (p ∷ q ∷ []) (lit< tt)

  -- the certificate at 0, with what it issued
  abbrev pub issuers : Group
  issuers = record { members = one 0; anchors = none; issued = one 1; members_ascend = one_ascends 0; anchors_ascend = none_ascends; issued_ascend = one_ascends 1 }

  -- the anchor, with what it issued
  abbrev pub anchors : Group
  anchors = record { members = none; anchors = one 0; issued = one 0; members_ascend = none_ascends; anchors_ascend = one_ascends 0; issued_ascend = one_ascends 0 }

  -- an issuer under the anchor, a certificate under it, one under nobody, and an item that is no certificate
  abbrev pub four : Nodes
  four = record {
    items = vec_of alloc (issuer ∷ issued ∷ issued ∷ no_certificate ∷ []) (lit< tt);
    groups = vec_of alloc (issuers ∷ anchors ∷ []) (lit< tt);
    members_within = All-from_recursion (λ (g : Group). All (λ v. v < 4) g.members.items) (issuers ∷ anchors ∷ []) (one_within 0 4 (lit< tt), (none_within 4, tt));
    issued_within = All-from_recursion (λ (g : Group). All (λ v. v < 4) g.issued.items) (issuers ∷ anchors ∷ []) (one_within 1 4 (lit< tt), (one_within 0 4 (lit< tt), tt));
  }

  -- the group of issuers with a second certificate under the issuer
  abbrev pub more_issuers : Group
  more_issuers = record issuers { issued = two 1 4; issued_ascend = two_ascend 1 4 (lit< tt) }

  abbrev pub five : Nodes
  five = record {
    items = vec_of alloc (issuer ∷ issued ∷ issued ∷ no_certificate ∷ issued ∷ []) (lit< tt);
    groups = vec_of alloc (more_issuers ∷ anchors ∷ []) (lit< tt);
    members_within = All-from_recursion (λ (g : Group). All (λ v. v < 5) g.members.items) (more_issuers ∷ anchors ∷ []) (one_within 0 5 (lit< tt), (none_within 5, tt));
    issued_within = All-from_recursion (λ (g : Group). All (λ v. v < 5) g.issued.items) (more_issuers ∷ anchors ∷ []) (two_within 1 4 5 (lit< tt) (lit< tt), (one_within 0 5 (lit< tt), tt));
  }

  -- the issuer reaches the anchor
  abbrev pub first_change : Vec Change
  first_change = vec_of alloc (record { position = 0; reach = UpTo 0 } ∷ []) (lit< tt)

  -- the path of the certificate, with the table's row given by its changes, and with the row itself
  abbrev pub by_changes : Answer
  by_changes = Path (two 1 0) 0 (Rows 4 (vec_of alloc (first_change ∷ []) (lit< tt)))

  abbrev pub by_row : Answer
  by_row = Path (two 1 0) 0 (Row (vec_of alloc (UpTo 0 ∷ No ∷ No ∷ No ∷ []) (lit< tt)))

  abbrev pub verdicts : Vec Verdict
  verdicts = vec_of alloc (FirstPath (one 0) 0 ∷ FirstPath (two 1 0) 0 ∷ Pathless ∷ NoCertificate ∷ []) (lit< tt)

  -- a verdict on each, with two rows and with none
  abbrev pub whole_inventory : Inventory
  whole_inventory = record { steps = vec_of alloc (first_change ∷ vec_of alloc [] (lit< tt) ∷ []) (lit< tt); verdicts = verdicts }

  abbrev pub bare_inventory : Inventory
  bare_inventory = record { steps = vec_of alloc [] (lit< tt); verdicts = verdicts }
