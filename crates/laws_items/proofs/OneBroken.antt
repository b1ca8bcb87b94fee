-- Octets have one first fault among their elements, and one as an object.
use Rattle.std.proofs.Common.{◌≡◌, ◌∙◌, sym, ap, ℕ, ◌-◌, zero, suc, List, [], ◌++◌, length, Bool, true, false, Ok, Err, subst, append_assoc}
use Rattle.std.proofs.lemmas.List.{append-nil}
use Rattle.asn1_core.specs.Answers.{Answer}
use Rattle.asn1_core.specs.Elements.{Element}
use Rattle.asn1_core.specs.declared.error.Error.{Error}
use Rattle.asn1_core.specs.declared.outcome.Err.{Err as Refusal}
use Rattle.der_tree.specs.Outcome.{cut_at}
use Rattle.der_tree.specs.Tree.{Tree, Trees, none, more, octets, all_octets}
use Rattle.der_tree.specs.Shape.{IsObject, AreObjects, BeginsWithObject}
use Rattle.der_tree.proofs.OneTree.{one_tree_lem}
use Rattle.cert_faults.specs.declared.places.Expected.TheVariants as wants
use Rattle.cert_faults.specs.Steps.{unlike, left_after}
use Rattle.cert_faults.specs.Elements.{header_wants, content_wants, is_holder, IsElementFault, header, content, part, IsBroken, IsObjectFault, elements, rest, inner}

-- a reading gives one element or one refusal

same_refusal : (x : Answer Element) (d e : Refusal Error) → x ≡ Err d → x ≡ Err e → d ≡ e
same_refusal x d e p q = cc

same_cut : (x : Answer Element) (a b : Element × List ℕ) → x ≡ Ok a → x ≡ Ok b → a ≡ b
same_cut x a b p q = cc

cut_or_refused : {P : Type 0} (x : Answer Element) (a : Element × List ℕ) (e : Refusal Error) → x ≡ Ok a → x ≡ Err e → P
cut_or_refused x a e p q = absurd cc

never_both : {P : Type 0} (b : Bool) → b ≡ true → b ≡ false → P
never_both b p q = absurd cc

-- Objects begin the octets twice, and no further object follows either time: the octets left are equal.
pub one_rest : (k : ℕ) (ts us : Trees) (x y : List ℕ) → AreObjects k ts → AreObjects k us → all_octets ts ++ x ≡ all_octets us ++ y → (BeginsWithObject k x → ⊥) → (BeginsWithObject k y → ⊥) → x ≡ y
unfolding AreObjects
one_rest k none none x y p q e a b = e
one_rest k none (more u us) x y p q e a b = absurd (a (u, all_octets us ++ y, q.0, e ∙ append_assoc (octets u) (all_octets us) y))
one_rest k (more t ts) none x y p q e a b = absurd (b (t, all_octets ts ++ x, p.0, sym e ∙ append_assoc (octets t) (all_octets ts) x))
one_rest k (more t ts) (more u us) x y p q e a b =
    let once = one_tree_lem k k t u (all_octets ts ++ x) (all_octets us ++ y) p.0 q.0 (sym (append_assoc (octets t) (all_octets ts) x) ∙ e ∙ append_assoc (octets u) (all_octets us) y) in
    one_rest k ts us x y p.1 q.1 once.1 a b

-- at each place one fault holds

abbrev pub IsOne : {B : Type 0} → (List ℕ → ℕ → B → Type 0) → Type 0
IsOne {B} Inner = (s : List ℕ) (n : ℕ) (b c : B) → Inner s n b → Inner s n c → b ≡ c

-- how many octets are left from the others on
abbrev left_from : List ℕ → ℕ → List ℕ → List ℕ → ℕ
left_from s n after others = n - (length s - length after - length others)

same_part : {B : Type 0} (k : ℕ) (Inner : List ℕ → ℕ → B → Type 0) → IsOne Inner → (s : List ℕ) (n : ℕ) (b c : B) (e f : Element) (r w : List ℕ) (ts us : Trees) (x y : List ℕ) →
    ◌≡◌ {A = Element × List ℕ} (e, r) (f, w) → AreObjects k ts → AreObjects k us → e.content ≡ all_octets ts ++ x → f.content ≡ all_octets us ++ y →
    (BeginsWithObject k x → ⊥) → (BeginsWithObject k y → ⊥) → Inner x (left_from s n r x) b → Inner y (left_from s n w y) c → b ≡ c
same_part k Inner once s n b c e f r w ts us x y cut p q g h over after i j =
    let content_is : all_octets ts ++ x ≡ all_octets us ++ y = sym g ∙ ap (λ (z : Element × List ℕ). z.0.content) cut ∙ h in
    let others : x ≡ y = one_rest k ts us x y p q content_is over after in
    let here : Inner y (left_from s n r y) b = subst (λ (z : List ℕ). Inner z (left_from s n r z) b) others i in
    let there : Inner y (left_from s n w y) b = subst (λ (z : Element × List ℕ). Inner y (left_from s n z.1 y) b) cut here in
    once y (left_from s n w y) b c there j

one_element_fault : (k : ℕ) (Inner : List ℕ → ℕ → _ → Type 0) → IsOne Inner → (place : _) (s : List ℕ) (n : ℕ) (b c : _) →
    IsElementFault k Inner place s n b → IsElementFault k Inner place s n c → b ≡ c
one_element_fault k Inner once place s n b c (header e p i) (header f q j) = i ∙ ap (λ z. unlike place (header_wants z) n) (same_refusal (cut_at s) e f p q) ∙ sym j
one_element_fault k Inner once place s n b c (header e p i) (content f w q g h j) = cut_or_refused (cut_at s) (f, w) e q p
one_element_fault k Inner once place s n b c (header e p i) (part f w us y q g o h some over j) = cut_or_refused (cut_at s) (f, w) e q p
one_element_fault k Inner once place s n b c (content e r p l m i) (header f q j) = cut_or_refused (cut_at s) (e, r) f p q
one_element_fault k Inner once place s n b c (content e r p l m i) (content f w q g h j) =
    let cut = same_cut (cut_at s) (e, r) (f, w) p q in
    i ∙ ap (λ (z : Element × List ℕ). unlike place (content_wants z.0) n) cut ∙ sym j
one_element_fault k Inner once place s n b c (content e r p l m i) (part f w us y q g o h some over j) =
    let cut = same_cut (cut_at s) (e, r) (f, w) p q in
    never_both (is_holder f) g (subst (λ (z : Element × List ℕ). is_holder z.0 ≡ false) cut l)
one_element_fault k Inner once place s n b c (part e r ts x p l m u any done i) (header f q j) = cut_or_refused (cut_at s) (e, r) f p q
one_element_fault k Inner once place s n b c (part e r ts x p l m u any done i) (content f w q g h j) =
    let cut = same_cut (cut_at s) (e, r) (f, w) p q in
    never_both (is_holder f) (subst (λ (z : Element × List ℕ). is_holder z.0 ≡ true) cut l) g
one_element_fault k Inner once place s n b c (part e r ts x p l m u any done i) (part f w us y q g o h some over j) =
    same_part k Inner once s n b c e f r w ts us x y (same_cut (cut_at s) (e, r) (f, w) p q) m o u h done over i j

-- the fault among elements
pub one_broken : (k : ℕ) (place : _) (s : List ℕ) (n : ℕ) (b c : _) → IsBroken k place s n b → IsBroken k place s n c → b ≡ c
unfolding IsBroken
one_broken zero place s n b c p q = p ∙ sym q
one_broken (suc k) place s n b c p q = one_element_fault k (IsBroken k place) (one_broken k place) place s n b c p q

-- the fault as an object, if each object has one by `Inner`
pub one_object_fault : (Inner : Tree → _ → Type 0) → ((t : Tree) (b c : _) → IsObject 50 t → Inner t b → Inner t c → b ≡ c) → (place : _) (s : List ℕ) (n : ℕ) (b c : _) →
    IsObjectFault Inner place s n b → IsObjectFault Inner place s n c → b ≡ c
one_object_fault Inner once place s n b c (elements a p) (elements d q) = one_broken 50 place s n b c p q
one_object_fault Inner once place s n b c (elements a p) (rest u y w is some j) = absurd (a (u, y, w, is))
one_object_fault Inner once place s n b c (elements a p) (inner u w is j) = absurd (a (u, [], w, sym is ∙ sym (append-nil (octets u))))
one_object_fault Inner once place s n b c (rest t x o is some i) (elements d q) = absurd (d (t, x, o, is))
one_object_fault Inner once place s n b c (rest t x o is some i) (rest u y w same any j) =
    let once_there = one_tree_lem 50 50 t u x y o w (sym is ∙ same) in
    i ∙ ap (λ z. unlike place wants.NothingMore (left_after n z)) once_there.0 ∙ sym j
one_object_fault Inner once place s n b c (rest t x o is some i) (inner u w same j) =
    let once_there = one_tree_lem 50 50 t u x [] o w (sym is ∙ sym same ∙ sym (append-nil (octets u))) in
    absurd (some once_there.1)
one_object_fault Inner once place s n b c (inner t o is i) (elements d q) = absurd (d (t, [], o, sym is ∙ sym (append-nil (octets t))))
one_object_fault Inner once place s n b c (inner t o is i) (rest u y w same any j) =
    let once_there = one_tree_lem 50 50 u t y [] w o (sym same ∙ sym is ∙ sym (append-nil (octets t))) in
    absurd (any once_there.1)
one_object_fault Inner once place s n b c (inner t o is i) (inner u w same j) =
    let once_there = one_tree_lem 50 50 t u [] [] o w (append-nil (octets t) ∙ is ∙ sym same ∙ sym (append-nil (octets u))) in
    once u b c w (subst (λ z. Inner z b) once_there.0 i) j
