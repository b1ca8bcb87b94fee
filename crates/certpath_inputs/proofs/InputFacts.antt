-- What a refused text of vouchers is to the run.
use Rattle.std.proofs.Common.{◌≡◌, sym, subst, ℕ, List, Option, Result, Ok, Err, IsErrAnd, IfErr}
use Rattle.cert_framing.specs.Held.{Framed}
use Rattle.certpath_inputs.specs.Reads.{ReadsAll, ReadsItems}
use Rattle.certpath_inputs.specs.declared.settings.RunError.{RunError}
use Rattle.certpath_inputs.specs.declared.settings.RunError.TheVariants.{Read, TooLong, BadLine, OutOfMemory, Write}
use Rattle.certpath_inputs.specs.Inputs.{MeetsRefusal, RefusesText}

pub text_refused : (b b' a a' v v' : Option (List ℕ)) (limit : ℕ) (items anchors : Framed) (text : List ℕ) (e : RunError) → ReadsItems b b' limit items.items items.end → ReadsItems a a' limit anchors.items anchors.end
    → ReadsAll v v' text → RefusesText text e → MeetsRefusal b b' a a' v v' limit e
text_refused b b' a a' v v' limit items anchors text (Read i) p q r s = tt
text_refused b b' a a' v v' limit items anchors text (TooLong i) p q r s = tt
text_refused b b' a a' v v' limit items anchors text (BadLine n) p q r s = record { items = items; anchor_items = anchors; items_read = p; anchors_read = q; text = text; text_read = r; first = s }
text_refused b b' a a' v v' limit items anchors text OutOfMemory p q r s = tt
text_refused b b' a a' v v' limit items anchors text Write p q r s = tt

pub if_handed_on : {A : Type 0} (r : Result A RunError) (e : RunError) (P : RunError → Type 0) → IsErrAnd r (λ x. x ≡ e) → P e → IfErr r P
if_handed_on (Ok x) e P h p = absurd h
if_handed_on (Err x) e P h p = subst P (sym h) p
