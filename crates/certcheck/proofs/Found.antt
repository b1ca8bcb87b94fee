-- What a step of the tree road finds is what the octets spell.
use Rattle.std.proofs.Common.{◌≡◌, sym, ℕ, ◌≤◌, length, List, Result, Ok, Err, subst}
use Rattle.der_tree.specs.Object.{IsDerObject}
use Rattle.der_tree.specs.Tree.{Tree, octets}
use Rattle.der_tree.specs.Shape.{IsObject}
use Rattle.der_tree.proofs.Leveled.{object_from}
use Rattle.cert_model.specs.Fields.{Extension}
use Rattle.cert_model.specs.Class.{IsClassOf, other}
use Rattle.cert_model.specs.Assembly.{AreExtensionsOf}
use Rattle.cert_model.specs.Reads.{extensions_at}
use Rattle.cert_model.proofs.Extensions.{extensions_found, extensions_only}
use Rattle.cert_model.proofs.ExtensionTrees.{extensions_object}
use Rattle.certcheck.specs.declared.stop.Stop.{Stop}
use Rattle.certcheck.specs.declared.stop.Stop.TheVariants as stops
use Rattle.certcheck.specs.Stopping.{Finds, Settles}

pub extensions_exact : {V : Type 0} (items : V → List Extension) (t : Tree) (s : List ℕ) → IsObject 50 t → octets t ≡ s → (r : Result V Stop) → Finds items r (extensions_at t) →
    Settles r (λ v. AreExtensionsOf s (items v)) ((es : List Extension) → AreExtensionsOf s es → ⊥)
extensions_exact items t s o is (Ok v) e = subst (λ z. AreExtensionsOf z (items v)) is (extensions_found 50 t (items v) o (sym e))
extensions_exact items t s o is (Err stops.Other) e = λ es p. let found = extensions_only 50 t es o (subst (λ z. AreExtensionsOf z es) (sym is) p) in cc
extensions_exact items t s o is (Err stops.OutOfMemory) e = e

-- octets that are no object spell no extensions
pub no_extensions : (s : List ℕ) → length s ≤ 4_294_967_295 → (IsDerObject 50 s → ⊥) → (es : List Extension) → AreExtensionsOf s es → ⊥
no_extensions s small refused es p =
    let o = extensions_object s es small p in
    refused (subst (IsDerObject 50) o.spelled (object_from o.tree 50 o.object))

-- octets that are no object are other
pub not_an_object : (s : List ℕ) → (IsDerObject 50 s → ⊥) → IsClassOf s other
not_an_object s refused = (λ c p. refused p.object.object, λ l p. refused p.object.object)
