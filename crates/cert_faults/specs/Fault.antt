-- The first fault of an item that is other.
use Rattle.std.specs.Prelude.{◌≡◌, ℕ, ◌-◌, List, length, drop, Bool, true, false, Option, Some, None, Result, Ok, Err, MatchResult, ⊤}
use Rattle.asn1_core.specs.Lenient.{BerHead}
use Rattle.asn1_core.specs.Reading.{ber_header_at}
use Rattle.asn1_core.specs.Views.{ber_head_of}
use Rattle.asn1_core.specs.Answers.{Answer}
use Rattle.asn1_core.specs.declared.header.Header.{Header}
use Rattle.asn1_core.specs.declared.memory.OutOfMemory.{OutOfMemory as WantOfMemory}
use Rattle.der_tree.specs.Tree.{Tree}
use Rattle.cert_faults.specs.declared.places.Field.TheVariants as fields
use Rattle.cert_faults.specs.declared.steps.Blame.{Blame}
use Rattle.cert_faults.specs.declared.steps.Stop.{Stop}
use Rattle.cert_faults.specs.declared.steps.Stop.TheVariants as stops
use Rattle.cert_faults.specs.declared.fault.Fault.{Fault}
use Rattle.cert_faults.specs.Steps.{whole}
use Rattle.cert_faults.specs.Elements.{IsObjectFault}
use Rattle.cert_faults.specs.Items.{means_list, IsCertificateFault, IsListFault}

-- P of the value; F of the fault at which a walk stops
abbrev pub OnStop : Stop → (Blame → Type 0) → Type 0
OnStop (stops.Fault b) F = F b
OnStop stops.OutOfMemory F = ⊤

abbrev pub Walks : {T : Type 0} → Result T Stop → (T → Type 0) → (Blame → Type 0) → Type 0
Walks result P F = MatchResult result P (λ stop. OnStop stop F)

-- what ends a walk: the fault, or memory ran out
abbrev pub stopped : Result (Unit {0}) Stop → Result (Option Blame) WantOfMemory
stopped (Ok u) = Ok None
stopped (Err (stops.Fault b)) = Ok (Some b)
stopped (Err stops.OutOfMemory) = Err record {}

-- the fault of an object by its fields: as a list if that is so, else as a certificate; it is so if it is meant as one
abbrev pub IsFaultAs : Bool → ℕ → Tree → Blame → Type 0
IsFaultAs true n t b = IsListFault n t b
IsFaultAs false n t b = IsCertificateFault n t b

abbrev pub IsFieldFault : ℕ → Tree → Blame → Type 0
IsFieldFault n t b = IsFaultAs (means_list t) n t b

abbrev pub IsItemFault : List ℕ → Blame → Type 0
IsItemFault s b = IsObjectFault (IsFieldFault (length s)) (whole fields.Item) s (length s) b

-- the header that begins octets, in any form of BER, if there is one
abbrev pub HeadsBy : Answer BerHead → Option Header → Type 0
HeadsBy (Ok h) found = (header : Header) × (found ≡ Some header) × (ber_head_of header ≡ h.0)
HeadsBy (Err e) found = found ≡ None

-- what is found at a fault: nothing, if the element that holds it ends there, else the header there
abbrev pub IsFound : Bool → List ℕ → Option Header → Type 0
IsFound true s found = found ≡ None
IsFound false s found = HeadsBy (ber_header_at s) found

-- a fault has the place of a blame, what is expected, and what is found there
pub record IsFaultOf (s : List ℕ) (b : Blame) (f : Fault) : Type 0 where
  pub field : f.field ≡ b.place.field
  pub part : f.part ≡ b.place.part
  pub expected : f.expected ≡ b.expected
  pub offset : f.offset ≡ length s - b.left
  pub found : IsFound b.is_missing (drop f.offset s) f.found

-- the first fault of octets that are other
abbrev pub IsFirstFault : List ℕ → Fault → Type 0
IsFirstFault s f = (b : Blame) × IsItemFault s b × IsFaultOf s b f
