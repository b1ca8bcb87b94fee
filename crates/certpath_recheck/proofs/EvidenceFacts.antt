-- A bad line that follows the line of a purpose.
use Rattle.std.specs.Prelude.{nat_eq}
use Rattle.std.specs.Cmp.Lexicographic.{pointwise, same_text, other_text}
use Rattle.std.specs.Option.{MatchOption, IfNone}
use Rattle.std.proofs.Common.{◌≡◌, ◌≢◌, ◌∙◌, ap, sym, ℕ, ◌+◌, List, ◌++◌, length, take, drop, true, false, Option, Some, None, IfSome}
use Rattle.std.proofs.Math.Seq.{take-append_seam}
use Rattle.std.proofs.lemmas.List.{take-append-drop}
use Rattle.certpath_evidence.specs.Answers.{HasFirstBad}
use Rattle.certpath_inputs.specs.Demands.{purpose_line}
use Rattle.certpath_inputs.specs.declared.demand.AskedPurpose.{AskedPurpose}
use Rattle.certpath_recheck.specs.declared.rechecking.RecheckError.{RecheckError}
use Rattle.certpath_recheck.specs.declared.rechecking.RecheckError.TheVariants.{Run, Read, TooLong, BadLine, OtherPurpose}
use Rattle.certpath_recheck.specs.Uses.{MatchesAfter, RefusesEvidence}

-- what a front leaves of a text, as `strip_prefix` says it
abbrev pub Strips : {X : Type 0} → (X → List ℕ) → List ℕ → List ℕ → Option X → Type 0
Strips now text front r =
    MatchOption r (pointwise nat_eq (take (length front) text) front ≡ false)
    (λ x. (pointwise nat_eq (take (length front) text) front ≡ true) × (now x ≡ drop (length front) text) × (length (now x) + length front ≡ length text))

pub left_after : {X : Type 0} (now : X → List ℕ) (text front : List ℕ) (r : Option X) → Strips now text front r → IfSome r (λ x. text ≡ front ++ now x)
left_after now text front None h = tt
left_after now text front (Some x) h =
    sym (take-append-drop (length front) text) ∙ ap (λ z. z ++ drop (length front) text) (same_text (take (length front) text) front (sym h.0)) ∙ ap (λ z. front ++ z) (sym h.1)

pub none_after : {X : Type 0} (now : X → List ℕ) (text front : List ℕ) (r : Option X) → Strips now text front r → IfNone r ((rest : List ℕ) → text ≢ front ++ rest)
none_after now text front None h = λ rest e. other_text (take (length front) text) front (sym h) (ap (take (length front)) e ∙ take-append_seam front rest)
none_after now text front (Some x) h = tt

pub bad_line_after : (purpose : AskedPurpose) (text line rest : List ℕ) (after : ℕ) (e : RecheckError) → line ≡ purpose_line (Some purpose) → text ≡ line ++ rest → HasFirstBad rest after → MatchesAfter after e
    → RefusesEvidence (Some purpose) text e
bad_line_after purpose text line rest after Read l t h m = absurd m
bad_line_after purpose text line rest after TooLong l t h m = absurd m
bad_line_after purpose text line rest after (BadLine n) l t h m = (rest, after, t ∙ ap (λ x. x ++ rest) l, h, m)
bad_line_after purpose text line rest after OtherPurpose l t h m = absurd m
bad_line_after purpose text line rest after (Run error) l t h m = m
