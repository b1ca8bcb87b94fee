-- Paths of permitted items.
use Rattle.std.specs.Prelude.{◌↔◌}
use Rattle.std.proofs.Common.{◌≡◌, ◌∙◌, ap, sym, subst, refl, ℕ, ◌<◌, Bool, List, [], ◌∷◌, map, length, get_or, arith, inl, inr}
use Rattle.std.specs.List.{All, Contains}
use Rattle.std.proofs.lemmas.List.{get_or-map, length-map}
use Rattle.std.proofs.lemmas.List.Elements.{All-contains}
use Rattle.cert_graph.specs.Entries.{IsAt}
use Rattle.cert_graph.specs.Graph.{IsValidPath}
use Rattle.cert_model.specs.Fields.{CivilTime, Certificate, RevocationList}
use Rattle.cert_model.specs.Class.{IsCertificateItem, IsListItem, IsClassOf, certificate, list}
use Rattle.cert_model.proofs.Classes.{certificate_once, not_both_lem}
use Rattle.cert_judge.specs.Classed.{AreClassed}
use Rattle.cert_judge.specs.Items.{rules_at}
use Rattle.cert_judge.specs.Revoking.{Item, JudgingContext}
use Rattle.cert_judge.specs.ItemGraph.{graph_of_items}
use Rattle.cert_judge.specs.Vouching.{Vouching, processing_too}
use Rattle.cert_purpose.specs.Restricting.{restricted_by, VouchAlike, PermitsThose, IsCertificateSuch}
use Rattle.cert_purpose.proofs.Alike.{restricted_paths, alike_valid, alike_back}
use Rattle.cert_serving.specs.Demanding.{Demanded, AllowsIt, ServesIt, Meets, IsPermitted, PermitsOf, IsProcessedFor, ProcessesFor, IsServingPath}

mapped_in : {X Y : Type 0} (f : X → Y) (xs : List X) (x : X) → Contains xs x → Contains (map f xs) (f x)
mapped_in f xs x h =
    let n = length-map xs f in
    let lt = h.1 in
    (h.0, omega arith, get_or-map f xs h.0 x (f x) h.1 ∙ ap f h.2)

abbrev octets_in : Item → List ℕ
octets_in x = x.octets

abbrev IsClassed : Item → Type 0
IsClassed x = IsClassOf x.octets x.class

listed : (octets : List (List ℕ)) (items : List Item) (x : Item) → AreClassed octets items → Contains items x → Contains octets x.octets
listed octets items x k at = subst (λ os. Contains os x.octets) k.octets_are (mapped_in octets_in items x at)

certificate_at : (octets : List (List ℕ)) (items : List Item) (x : Item) (c : Certificate) → AreClassed octets items → Contains items x → x.class ≡ certificate c → IsCertificateItem x.octets c
certificate_at octets items x c k at is = subst (IsClassOf x.octets) is (All-contains IsClassed items x k.classes at)

list_at : (octets : List (List ℕ)) (items : List Item) (x : Item) (l : RevocationList) → AreClassed octets items → Contains items x → x.class ≡ list l → IsListItem x.octets l
list_at octets items x l k at is = subst (IsClassOf x.octets) is (All-contains IsClassed items x k.classes at)

pub those_permitted : (d : Demanded) (octets : List (List ℕ)) (items : List Item) (P : List ℕ → Type 0) → PermitsOf d octets P → AreClassed octets items → PermitsThose P (λ x c. Meets d x.octets c.extensions) items
those_permitted d octets items P h k = record {
  certificates = λ x c at is.
      let i = certificate_at octets items x c k at is in (
        λ p. (h x.octets).0 p (listed octets items x k at) c i,
        λ m. (h x.octets).1 (λ found e j. subst (λ (z : Certificate). Meets d x.octets z.extensions) (certificate_once x.octets c e i j) m),
      );
  lists = λ x l at is. (h x.octets).1 (λ found c i. absurd (not_both_lem x.octets c l i (list_at octets items x l k at is)));
}

-- the certificate of an item at a place
class_here : (octets : List (List ℕ)) (items : List Item) (v : ℕ) (e : Item) (c : Certificate) → AreClassed octets items → v < length items → (get_or items v e).class ≡ certificate c → IsCertificateItem (get_or items v e).octets c
class_here octets items v e c k lt is = subst (IsClassOf (get_or items v e).octets) is (k.classes v e lt)

module _ (r : JudgingContext) (d : Demanded) (octets : List (List ℕ)) (items anchors : List Item) (target : ℕ) (k : AreClassed octets items) (t : IsAt items target (λ x. x.octets ≡ d.target)) where
  abbrev Met : ℕ → Type 0
  Met = IsCertificateSuch (λ x c. Meets d x.octets c.extensions) items

  abbrev Allowed : ℕ → Type 0
  Allowed = IsCertificateSuch (λ x c. AllowsIt d c.extensions) items

  abbrev Served : ℕ → Type 0
  Served = IsCertificateSuch (λ x c. ServesIt d c.extensions) items

  allowed : (v : ℕ) → Met v → Allowed v
  allowed v m = (m.0, λ e. let q = m.1 e in (q.0, q.1, q.2.purpose))

  served : Met target → Served target
  served m = (m.0, λ e. let q = m.1 e in (q.0, q.1, q.2.host (t.1 e)))

  met : (v : ℕ) → Served target → Allowed v → Met v
  met v s a = (
    a.0,
    λ e.
        let q = a.1 e in
        let y = s.1 e in
        let here = class_here octets items v e q.0 k a.0 q.1 in
        let there = class_here octets items target e y.0 k s.0 y.1 in (
          q.0,
          q.1,
          record {
            purpose = q.2;
            host = λ same.
                let one : (get_or items target e).octets ≡ (get_or items v e).octets = t.1 e ∙ sym same in
                let is : y.0 ≡ q.0 = certificate_once (get_or items v e).octets y.0 q.0 (subst (λ o. IsCertificateItem o y.0) one there) here in
                subst (λ (z : Certificate). ServesIt d z.extensions) is y.2;
          },
        ),
  )

  at_start : (P : ℕ → Type 0) (ps : List ℕ) (a : ℕ) → IsValidPath (graph_of_items r items anchors) target ps a → All P ps → P target
  at_start P ps a v all =
      let n : length ps ≡ length (target ∷ v.issuers) = ap length v.starts in
      subst P (ap (λ (zs : List ℕ). get_or zs 0 target) v.starts) (all 0 target (omega arith))

  pub serving_path : (ps : List ℕ) (a : ℕ) → (IsValidPath (graph_of_items r items anchors) target ps a × All Met ps) ↔ IsServingPath r d items anchors target ps a
  serving_path ps a = (
    λ h. record {
      path = h.0;
      purpose = λ i e lt. allowed (get_or ps i e) (h.1 i e lt);
      host = served (at_start Met ps a h.0 h.1);
    },
    λ h. (h.path, λ i e lt. met (get_or ps i e) h.host (h.purpose i e lt)),
  )

-- relations that process equal extensions too vouch alike
told_alike : (moment : CivilTime) (demand : Bool) (V : Vouching) (R S : List ℕ → List ℕ → Type 0) (items : List Item) → ((octets identifier : List ℕ) → R octets identifier ↔ S octets identifier)
    → VouchAlike (rules_at moment demand (processing_too R V)) (rules_at moment demand (processing_too S V)) items
told_alike moment demand V R S items same = record {
  moment = refl;
  demand = refl;
  certificates = λ x c key at is. (λ v. v, λ v. v);
  lists = λ x l key at is. (λ v. v, λ v. v);
  processed = λ x c id at is. (
    λ p. elim p [ inl own ↦ inl own | inr more ↦ inr ((same x.octets id).0 more) ],
    λ p. elim p [ inl own ↦ inl own | inr more ↦ inr ((same x.octets id).1 more) ],
  );
}

pub serving_paths : (moment : CivilTime) (demand : Bool) (V : Vouching) (P : List ℕ → Type 0) (R : List ℕ → List ℕ → Type 0) (d : Demanded) (octets : List (List ℕ)) (items anchors : List Item) (target : ℕ) (ps : List ℕ) (a : ℕ)
    → PermitsOf d octets P → ProcessesFor d R → AreClassed octets items → IsAt items target (λ x. x.octets ≡ d.target)
    → IsValidPath (graph_of_items (rules_at moment demand (restricted_by P R V)) items anchors) target ps a ↔ IsServingPath (rules_at moment demand (processing_too (IsProcessedFor d) V)) d items anchors target ps a
serving_paths moment demand V P R d octets items anchors target ps a h p k t =
    let there = rules_at moment demand (processing_too R V) in
    let r = rules_at moment demand (processing_too (IsProcessedFor d) V) in
    let alike = told_alike moment demand V R (IsProcessedFor d) items p in
    let i = restricted_paths moment demand V P R (λ x c. Meets d x.octets c.extensions) items (those_permitted d octets items P h k) anchors target ps a in
    let j = serving_path r d octets items anchors target k t ps a in (
      λ v. let w = i.0 v in j.0 (alike_valid there r items anchors alike target ps a w.0, w.1),
      λ s. let w = j.1 s in i.1 (alike_valid r there items anchors (alike_back there r items alike) target ps a w.0, w.1),
    )
