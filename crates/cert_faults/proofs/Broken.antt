-- Octets that don't begin with an object have a first element that is broken.
use Rattle.std.proofs.Common.{◌≡◌, ◌≢◌, ◌∙◌, refl, sym, ap, ℕ, ◌-◌, ◌<◌, ◌==◌, ◌||◌, zero, suc, List, [], ◌++◌, Bool, true, false, if◌then◌else◌, subst, arith, append_assoc, ◌⊎◌, inl, inr}
use Rattle.std.proofs.lemmas.List.{append-nil}
use Rattle.std.proofs.lemmas.Bool.{eqb-true}
use Rattle.asn1_core.specs.Elements.{Element, head_of_element}
use Rattle.der_tree.specs.Object.{IsCut}
use Rattle.der_tree.specs.Table.{IsConstructed}
use Rattle.der_tree.specs.Tree.{node, Content, sequence, set, Trees, none, more, Tree, octets, all_octets}
use Rattle.der_tree.specs.Shape.{IsObject, IsContent, AreObjects, BeginsWithObject}
use Rattle.der_tree.proofs.Objects.{object_made}
use Rattle.cert_faults.specs.declared.places.Expected.TheVariants as wants
use Rattle.cert_faults.specs.declared.steps.Place.{Place}
use Rattle.cert_faults.specs.declared.steps.Blame.{Blame}
use Rattle.cert_faults.specs.Steps.{unlike}
use Rattle.cert_faults.specs.Elements.{is_holder, IsElementFault, IsBroken}

pub broken_none : (k : ℕ) (place : Place) (s : List ℕ) (n : ℕ) (b : Blame) → k ≡ 0 → b ≡ unlike place wants.FewLevels n → IsBroken k place s n b
unfolding IsBroken
broken_none zero place s n b e p = p
broken_none (suc k) place s n b e p = absurd (omega (arith, e))

pub broken_some : (k : ℕ) (place : Place) (s : List ℕ) (n : ℕ) (b : Blame) → 0 < k → IsElementFault (k - 1) (IsBroken (k - 1) place) place s n b → IsBroken k place s n b
unfolding IsBroken
broken_some zero place s n b lt p = absurd (omega (arith, lt))
broken_some (suc k) place s n b lt p =
    let less : suc k - 1 ≡ k = omega arith in
    subst (λ i. IsElementFault i (IsBroken i place) place s n b) less p

-- an element that holds something is an object
pub begins : (k : ℕ) (s front rest : List ℕ) (e : Element) (c : Content) → 0 < k → IsCut front e → s ≡ front ++ rest → IsContent (k - 1) e c → BeginsWithObject k s
begins k s front rest e c lt cut is holds = (node (head_of_element e) front c, rest, object_made k e front c lt cut holds, is)

-- which universal tag number a holder has

holder_by : (e : Element) (a b c d : Bool) → e.constructed ≡ a → (e.class == 0) ≡ b → (e.tag == 16) ≡ c → (e.tag == 17) ≡ d →
    (if a then if b then c || d else false else false) ≡ true → (n : ℕ) × IsConstructed e n × ((n ≡ 16) ⊎ (n ≡ 17))
holder_by e false b c d p q r s h = absurd cc
holder_by e true false c d p q r s h = absurd cc
holder_by e true true true d p q r s h = (16, record { class = eqb-true e.class 0 q; constructed = p; tag = eqb-true e.tag 16 r }, inl refl)
holder_by e true true false true p q r s h = (17, record { class = eqb-true e.class 0 q; constructed = p; tag = eqb-true e.tag 17 s }, inr refl)
holder_by e true true false false p q r s h = absurd cc

holder_content : (k : ℕ) (e : Element) (ts : Trees) → is_holder e ≡ true → AreObjects k ts → e.content ≡ all_octets ts → (c : Content) × IsContent k e c
unfolding IsContent
holder_content k e ts h p is =
    let m = holder_by e e.constructed (e.class == 0) (e.tag == 16) (e.tag == 17) refl refl refl refl h in
    elim m.2 [ inl x ↦ (sequence ts, (subst (IsConstructed e) x m.1, is, p)) | inr y ↦ (set ts, (subst (IsConstructed e) y m.1, is, p)) ]

-- if no object begins octets, an element there that holds parts has one that isn't an object
pub part_left : (k : ℕ) (s front rest others : List ℕ) (e : Element) (ts : Trees) → 0 < k → (BeginsWithObject k s → ⊥) → IsCut front e → s ≡ front ++ rest → is_holder e ≡ true → AreObjects (k - 1) ts →
    e.content ≡ all_octets ts ++ others → others ≢ []
part_left k s front rest others e ts lt begun cut is h p content = λ none_left.
    let whole : e.content ≡ all_octets ts = content ∙ ap (λ z. all_octets ts ++ z) none_left ∙ append-nil (all_octets ts) in
    let held = holder_content (k - 1) e ts h p whole in
    begun (begins k s front rest e held.0 lt cut is held.1)

-- parts that are objects, one more after them

pub joined : Trees → Trees → Trees
joined none us = us
joined (more t ts) us = more t (joined ts us)

pub joined_objects : (k : ℕ) (ts : Trees) (t : Tree) → AreObjects k ts → IsObject k t → AreObjects k (joined ts (more t none))
unfolding joined AreObjects
joined_objects k none t p q = (q, tt)
joined_objects k (more u us) t p q = (p.0, joined_objects k us t p.1 q)

pub joined_octets : (ts : Trees) (t : Tree) (s : List ℕ) → all_octets ts ++ (octets t ++ s) ≡ all_octets (joined ts (more t none)) ++ s
unfolding joined
joined_octets none t s = ap (λ z. z ++ s) (sym (append-nil (octets t)))
joined_octets (more u us) t s =
    append_assoc (octets u) (all_octets us) (octets t ++ s) ∙ ap (λ z. octets u ++ z) (joined_octets us t s) ∙ sym (append_assoc (octets u) (all_octets (joined us (more t none))) s)
