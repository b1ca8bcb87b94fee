-- What a run that checks evidence does to its readers and its writer. If a device's octets are
-- unknown, the relations hold for some stream. This page is to be believed.
use Rattle.std.specs.Prelude.{◌≡◌, ◌≢◌, ◌↔◌, ℕ, ◌+◌, Bool, List, ◌++◌, length, codes, Option, Some, None, IsTrue}
use Rattle.std.specs.Io.KnownBytes.{Appends}
use Rattle.asn1_device.specs.Counts.{AppendsFront}
use Rattle.cert_framing.specs.Held.{Framed}
use Rattle.cert_graph.specs.declared.inventory.Inventory.{Inventory}
use Rattle.cert_graph.specs.Inventory.{IsAdequateInventory, IsTrueInventory}
use Rattle.cert_judge.specs.Classed.{AreClassed}
use Rattle.cert_judge.specs.ItemGraph.{graph_of_items}
use Rattle.cert_judge.specs.Items.{rules_by}
use Rattle.cert_judge.specs.Revoking.{Item, JudgingContext}
use Rattle.cert_vouchers.specs.declared.vouchers.Vouchers.{Vouchers}
use Rattle.certpath_evidence.specs.Answers.{IsEvidenceOf, HasFirstBad}
use Rattle.certpath_inputs.specs.Reads.{ReadsAll}
use Rattle.certpath_inputs.specs.Check.{check_line}
use Rattle.certpath_inputs.specs.Inputs.{AreInputs, MeetsRefusal}
use Rattle.certpath_inputs.specs.Demands.{HoldsFor, of_purpose, purpose_line}
use Rattle.certpath_inputs.specs.declared.demand.AskedPurpose.{AskedPurpose}
use Rattle.certpath_inputs.specs.declared.settings.AllSettings.{AllSettings}
use Rattle.certpath_recheck.specs.declared.rechecking.RecheckError.{RecheckError}
use Rattle.certpath_recheck.specs.declared.rechecking.RecheckError.TheVariants.{Run, Read, TooLong, BadLine, OtherPurpose}

-- what is said of an inventory: yes exactly if its one table shows each of its verdicts, by the
-- classes of items and anchors; and then each is true
pub record IsSaidOf (r : JudgingContext) (items anchors : Framed) (inventory : Inventory) (said : Bool) : Type 0 where
  pub classed : List Item
  pub classed_anchors : List Item
  pub are_classed : AreClassed items.items classed
  pub anchors_are_classed : AreClassed anchors.items classed_anchors
  pub exact : IsTrue said ↔ IsAdequateInventory (graph_of_items r classed classed_anchors) inventory
  pub holds : IsTrue said → IsTrueInventory (graph_of_items r classed classed_anchors) inventory

-- what is said of an inventory by the rules of these settings, under which these pairs vouch; if a
-- purpose is demanded of the paths, for the items that allow it
abbrev pub IsSaidFor : AllSettings → Option AskedPurpose → Framed → Framed → Vouchers → Inventory → Bool → Type 0
IsSaidFor settings purpose items anchors pairs inventory said =
    HoldsFor (of_purpose purpose) items.items (length items.items) pairs (λ vouches. IsSaidOf (rules_by settings.policy.moment settings.policy.demand_lists vouches) items anchors inventory said)

abbrev pub IsSaidOn : AllSettings → Framed → Framed → Vouchers → Inventory → Bool → Type 0
IsSaidOn settings = IsSaidFor settings None

-- the evidence of an inventory, with a line before it for the purpose that it is for
abbrev pub IsEvidenceFor : Option AskedPurpose → List ℕ → Inventory → Type 0
IsEvidenceFor None text inventory = IsEvidenceOf text inventory
IsEvidenceFor (Some purpose) text inventory = (rest : List ℕ) × (text ≡ purpose_line (Some purpose) ++ rest) × IsEvidenceOf rest inventory

-- the first bad line, of which that of the purpose is none
abbrev pub HasFirstBadFor : Option AskedPurpose → List ℕ → ℕ → Type 0
HasFirstBadFor None text number = HasFirstBad text number
HasFirstBadFor (Some purpose) text number = (rest : List ℕ) × (after : ℕ) × (text ≡ purpose_line (Some purpose) ++ rest) × HasFirstBad rest after × (number ≡ after + 1)

-- evidence for another purpose: for one if none is asked for, or not for the one that is asked for
abbrev pub IsForOther : Option AskedPurpose → List ℕ → Type 0
IsForOther None text = (rest : List ℕ) × (text ≡ codes "purpose " ++ rest)
IsForOther (Some purpose) text = (rest : List ℕ) → text ≢ purpose_line (Some purpose) ++ rest

-- all four inputs were read to their ends, and this is what is said of the inventory that the evidence was written of
pub record HasSaidFor (settings : AllSettings) (purpose : Option AskedPurpose) (bundle bundle' anchors anchors' vouchers vouchers' evidence evidence' : Option (List ℕ)) (said : Bool) : Type 0 where
  pub items : Framed
  pub anchor_items : Framed
  pub pairs : Vouchers
  pub inputs : AreInputs bundle bundle' anchors anchors' vouchers vouchers' settings.limit items anchor_items pairs
  pub shown : List ℕ
  pub shown_read : ReadsAll evidence evidence' shown
  pub inventory : Inventory
  pub is_evidence : IsEvidenceFor purpose shown inventory
  pub is_said : IsSaidFor settings purpose items anchor_items pairs inventory said

-- and exactly the line of it was written
pub record WritesRecheckFor (settings : AllSettings) (purpose : Option AskedPurpose) (bundle bundle' anchors anchors' vouchers vouchers' evidence evidence' sink sink' : Option (List ℕ)) (said : Bool) : Type 0 where
  pub has_said : HasSaidFor settings purpose bundle bundle' anchors anchors' vouchers vouchers' evidence evidence' said
  pub wrote : Appends sink sink' (check_line said)

-- and a front of the line of it was written
pub record WritesRecheckInPartFor (settings : AllSettings) (purpose : Option AskedPurpose) (bundle bundle' anchors anchors' vouchers vouchers' evidence evidence' sink sink' : Option (List ℕ)) (said : Bool) : Type 0 where
  pub has_said : HasSaidFor settings purpose bundle bundle' anchors anchors' vouchers vouchers' evidence evidence' said
  pub wrote : AppendsFront sink sink' (check_line said)

-- all was read, and the evidence has this first bad line
pub record MeetsBadEvidence (purpose : Option AskedPurpose) (bundle bundle' anchors anchors' vouchers vouchers' evidence evidence' : Option (List ℕ)) (limit number : ℕ) : Type 0 where
  pub items : Framed
  pub anchor_items : Framed
  pub pairs : Vouchers
  pub inputs : AreInputs bundle bundle' anchors anchors' vouchers vouchers' limit items anchor_items pairs
  pub shown : List ℕ
  pub shown_read : ReadsAll evidence evidence' shown
  pub first : HasFirstBadFor purpose shown number

-- all was read, and the evidence is for another purpose
pub record MeetsOther (purpose : Option AskedPurpose) (bundle bundle' anchors anchors' vouchers vouchers' evidence evidence' : Option (List ℕ)) (limit : ℕ) : Type 0 where
  pub items : Framed
  pub anchor_items : Framed
  pub pairs : Vouchers
  pub inputs : AreInputs bundle bundle' anchors anchors' vouchers vouchers' limit items anchor_items pairs
  pub shown : List ℕ
  pub shown_read : ReadsAll evidence evidence' shown
  pub is_other : IsForOther purpose shown

-- an error of a bad line comes if vouchers or evidence have it, and one of another purpose if the
-- evidence is for it; of the others nothing is said here
abbrev pub MeetsRecheckRefusalFor : Option AskedPurpose → Option (List ℕ) → Option (List ℕ) → Option (List ℕ) → Option (List ℕ) → Option (List ℕ) → Option (List ℕ) → Option (List ℕ) → Option (List ℕ) → ℕ → RecheckError → Type 0
MeetsRecheckRefusalFor purpose bundle bundle' anchors anchors' vouchers vouchers' evidence evidence' limit (Run e) = MeetsRefusal bundle bundle' anchors anchors' vouchers vouchers' limit e
MeetsRecheckRefusalFor purpose bundle bundle' anchors anchors' vouchers vouchers' evidence evidence' limit Read = Unit {0}
MeetsRecheckRefusalFor purpose bundle bundle' anchors anchors' vouchers vouchers' evidence evidence' limit TooLong = Unit {0}
MeetsRecheckRefusalFor purpose bundle bundle' anchors anchors' vouchers vouchers' evidence evidence' limit (BadLine n) = MeetsBadEvidence purpose bundle bundle' anchors anchors' vouchers vouchers' evidence evidence' limit n
MeetsRecheckRefusalFor purpose bundle bundle' anchors anchors' vouchers vouchers' evidence evidence' limit OtherPurpose = MeetsOther purpose bundle bundle' anchors anchors' vouchers vouchers' evidence evidence' limit

-- if no purpose is asked for
abbrev pub WritesRecheck : AllSettings → Option (List ℕ) → Option (List ℕ) → Option (List ℕ) → Option (List ℕ) → Option (List ℕ) → Option (List ℕ) → Option (List ℕ) → Option (List ℕ) → Option (List ℕ) → Option (List ℕ) → Bool → Type 0
WritesRecheck settings = WritesRecheckFor settings None

abbrev pub WritesRecheckInPart : AllSettings → Option (List ℕ) → Option (List ℕ) → Option (List ℕ) → Option (List ℕ) → Option (List ℕ) → Option (List ℕ) → Option (List ℕ) → Option (List ℕ) → Option (List ℕ) → Option (List ℕ) → Bool → Type 0
WritesRecheckInPart settings = WritesRecheckInPartFor settings None

abbrev pub MeetsRecheckRefusal : Option (List ℕ) → Option (List ℕ) → Option (List ℕ) → Option (List ℕ) → Option (List ℕ) → Option (List ℕ) → Option (List ℕ) → Option (List ℕ) → ℕ → RecheckError → Type 0
MeetsRecheckRefusal = MeetsRecheckRefusalFor None
