-- What the reader's results say of octets alone.
use Rattle.std.proofs.Common.{◌≡◌, ◌∙◌, sym, ap, ℕ, List, ◌++◌, Bor, Result, Ok, Err, IfOk, IfErr, MatchResult}
use Rattle.asn1_core.specs.declared.error.Error.{Error}
use Rattle.asn1_core.specs.declared.outcome.Err.{Err as Refusal}
use Rattle.der_tree.specs.declared.object.BerObject.{BerObject}
use Rattle.der_tree.specs.Object.{IsDerObject}
use Rattle.der_tree.specs.Outcome.{Refuses, WantsMemory}
use Rattle.der_tree.specs.Shape.{IsObject, BeginsWithObject}
use Rattle.der_tree.specs.Tree.{octets}
use Rattle.der_tree.specs.View.{view}
use Rattle.der_tree.proofs.Exits.{only_memory}
use Rattle.der_tree.proofs.Leveled.{object_to}
use Rattle.der_tree.proofs.Objects.{object_once}

-- an object that begins the octets is the one that is read, unless memory ran out
pub read_only : (k : ℕ) (i s r : List ℕ) (result : Result (Bor (List ℕ) × BerObject) (Refusal Error)) → IfOk result (λ p. IsObject k (view p.1) × (i ≡ octets (view p.1) ++ p.0.now)) → IfErr result (λ e. Refuses e (BeginsWithObject k i → ⊥)) →
    IsDerObject k s → i ≡ s ++ r → MatchResult result (λ p. (octets (view p.1) ≡ s) × (p.0.now ≡ r)) WantsMemory
read_only k i s r (Ok p) found none is split =
    let t = object_to k s is in
    let once = object_once k k (view p.1) t.0 p.0.now r found.0 t.1 (sym found.1 ∙ split ∙ ap (λ z. z ++ r) (sym t.2)) in
    (once.0 ∙ t.2, once.1)
read_only k i s r (Err e) found none is split =
    let t = object_to k s is in
    only_memory e (BeginsWithObject k i) none (t.0, r, t.1, split ∙ ap (λ z. z ++ r) (sym t.2))
