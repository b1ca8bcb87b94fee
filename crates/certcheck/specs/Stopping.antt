-- What an answer with a `Stop` says.
use Rattle.std.specs.Prelude.{◌≡◌, Option, Some, None, Result, Ok, Err, MatchResult, ⊤}
use Rattle.asn1_core.specs.declared.memory.OutOfMemory.{OutOfMemory as WantOfMemory}
use Rattle.certcheck.specs.declared.stop.Stop.{Stop}
use Rattle.certcheck.specs.declared.stop.Stop.TheVariants as stops

-- P, where the octets are of another form
abbrev pub OnOther : Stop → Type 0 → Type 0
OnOther stops.Other P = P
OnOther stops.OutOfMemory P = ⊤

-- P of the value; N, where the octets are of another form
abbrev pub Settles : {T : Type 0} → Result T Stop → (T → Type 0) → Type 0 → Type 0
Settles result P N = MatchResult result P (λ stop. OnOther stop N)

-- the value that was found, and `Other` where none was
abbrev pub Finds : {T A : Type 0} → (T → A) → Result T Stop → Option A → Type 0
Finds view result found = Settles result (λ x. Some (view x) ≡ found) (None ≡ found)

-- the value, or none where the octets are of another form
abbrev pub settled : {T : Type 0} → Result T Stop → Result (Option T) WantOfMemory
settled (Ok x) = Ok (Some x)
settled (Err stops.Other) = Ok None
settled (Err stops.OutOfMemory) = Err record {}
