-- What is found of a link, from which its reasons follow. Contracts of private functions cite it.
use Rattle.std.specs.Prelude.{Contains, IsTrue}
use Rattle.cert_reasons.specs.declared.links.Findings.{Findings}
use Rattle.cert_reasons.specs.declared.links.Unlinked.{Unlinked}
use Rattle.cert_reasons.specs.declared.links.Unlinked.TheVariants.{NotVouched, KeyIdsDiffer, RevokedBy, NoUsedList}

-- a reason follows from what was found of a link
abbrev pub HasFoundReason : Findings → Unlinked → Type 0
HasFoundReason f NotVouched = IsTrue f.vouched → ⊥
HasFoundReason f KeyIdsDiffer = IsTrue f.agree → ⊥
HasFoundReason f (RevokedBy p) = Contains f.revoking.now p
HasFoundReason f NoUsedList = IsTrue f.lacking
