-- Names written one after the other.
use Rattle.std.specs.Prelude.{◌↔◌, ◌⊎◌, IsTrue}
use Rattle.std.proofs.Common.{◌≡◌, ◌≢◌, ◌∙◌, ap, sym, subst, refl, ℕ, ◌+◌, ◌<◌, ◌≤◌, Bool, true, false, List, [], ◌∷◌, ◌++◌, length, length-append, append_assoc, arith, inl, inr}
use Rattle.std.proofs.lemmas.List.{append-nil}
use Rattle.std.proofs.lemmas.Bool.{false≢true}
use Rattle.std.specs.List.{AllByRecursion, Contains, flat_map}
use Rattle.std.proofs.lemmas.List.Elements.{Contains-append_left, Contains-push, Contains-push_cases}
use Rattle.std.proofs.lemmas.List.Concat.{flat_map-cons}
use Rattle.std.proofs.lemmas.Grind.{flat_map-append}
use Rattle.asn1_core.specs.Elements.{head_of_element}
use Rattle.asn1_core.specs.Strict.{strict_header}
use Rattle.cert_judge.specs.der_tree.proofs.Cuts.{header_long}
use Rattle.cert_model.specs.Octets.{sequence_octets}
use Rattle.host_names.specs.Asked.{Asked}
use Rattle.cert_serving.specs.GeneralNames.{GeneralName, IsGeneralName, element_of_name, general_name_octets, AreGeneralNames}
use Rattle.cert_serving.specs.Serving.{IsNameOf, HasNameOf, AreNames, Names}

all_push : (P : GeneralName → Type 0) (xs : List GeneralName) (x : GeneralName) → AllByRecursion P xs → P x → AllByRecursion P (xs ++ x ∷ [])
all_push P [] x h p = (p, tt)
all_push P (y ∷ ys) x h p = (h.0, all_push P ys x h.1 p)

pub written_long : (g : GeneralName) (rest : List ℕ) → length rest < length (general_name_octets g ++ rest)
written_long g rest =
    let h = strict_header (head_of_element (element_of_name g)) in
    let long : 0 < length h = header_long (head_of_element (element_of_name g)) in
    let one : length (h ++ g.content) ≡ length h + length g.content = length-append h g.content in
    let two : length ((h ++ g.content) ++ rest) ≡ length (h ++ g.content) + length rest = length-append (h ++ g.content) rest in
    omega arith

pub written_some : (g : GeneralName) (rest : List ℕ) → general_name_octets g ++ rest ≢ []
written_some g rest e = let lt = written_long g rest in let z : length (general_name_octets g ++ rest) ≡ 0 = ap length e in omega arith

-- the names up to here are read
pub record IsRead (host : Asked) (content rest : List ℕ) (found : Bool) : Type 0 where
  pub gs : List GeneralName
  pub each : AllByRecursion IsGeneralName gs
  pub spelled : content ≡ flat_map general_name_octets gs ++ rest
  pub told : IsTrue found ↔ HasNameOf host gs
  pub only : (hs : List GeneralName) → AllByRecursion IsGeneralName hs → content ≡ flat_map general_name_octets hs
      → (rs : List GeneralName) × AllByRecursion IsGeneralName rs × (rest ≡ flat_map general_name_octets rs) × (hs ≡ gs ++ rs)

none_in : (x : GeneralName) → Contains {X = GeneralName} [] x → ⊥
none_in x h = omega (arith, h.1)

pub none_of : (host : Asked) → HasNameOf host [] → ⊥
none_of host h = none_in h.0 h.1

pub read_none : (host : Asked) (content : List ℕ) → IsRead host content content false
read_none host content = record {
  gs = [];
  each = tt;
  spelled = refl;
  told = (λ h. absurd (false≢true h), λ h. absurd (none_of host h));
  only = λ hs a e. (hs, a, e, refl);
}

name_more : (host : Asked) (one : GeneralName) (gs : List GeneralName) → HasNameOf host (gs ++ one ∷ []) ↔ (HasNameOf host gs ⊎ IsNameOf host one)
name_more host one gs = (
  λ h. elim (Contains-push_cases gs one h.0 h.1) [ inl d ↦ inl (h.0, d, h.2) | inr e ↦ inr (subst (IsNameOf host) (sym e) h.2) ],
  λ h. elim h [ inl x ↦ (x.0, Contains-append_left gs (one ∷ []) x.0 x.1, x.2) | inr k ↦ (one, Contains-push gs one, k) ],
)

-- what `next_name` returns
abbrev pub IsNext : List ℕ → GeneralName → List ℕ → Type 0
IsNext rest one behind = (g : GeneralName) (r : List ℕ) → IsGeneralName g → rest ≡ general_name_octets g ++ r → (one ≡ g) × (behind ≡ r)

next_only : (rest : List ℕ) (one : GeneralName) (behind : List ℕ) (gs rs hs : List GeneralName) → rest ≡ general_name_octets one ++ behind → IsNext rest one behind → AllByRecursion IsGeneralName rs
    → rest ≡ flat_map general_name_octets rs → hs ≡ gs ++ rs
    → (ts : List GeneralName) × AllByRecursion IsGeneralName ts × (behind ≡ flat_map general_name_octets ts) × (hs ≡ (gs ++ one ∷ []) ++ ts)
next_only rest one behind gs [] hs s n a e q = absurd (written_some one behind (sym s ∙ e))
next_only rest one behind gs (r ∷ rs) hs s n a e q =
    let x = n r (flat_map general_name_octets rs) a.0 (e ∙ flat_map-cons general_name_octets r rs) in
    (rs, a.1, x.1, q ∙ ap (λ z. gs ++ z ∷ rs) (sym x.0) ∙ sym (append_assoc gs (one ∷ []) rs))

pub read_more : (host : Asked) (content rest : List ℕ) (one : GeneralName) (behind : List ℕ) (found more : Bool) → IsRead host content rest found → IsGeneralName one → rest ≡ general_name_octets one ++ behind
    → IsNext rest one behind → (IsTrue more ↔ (IsTrue found ⊎ IsNameOf host one)) → IsRead host content behind more
read_more host content rest one behind found more r o s n w = record {
  gs = r.gs ++ one ∷ [];
  each = all_push IsGeneralName r.gs one r.each o;
  spelled = r.spelled ∙ ap (λ z. flat_map general_name_octets r.gs ++ z) (s ∙ ap (λ z. z ++ behind) (sym (append-nil (general_name_octets one))))
      ∙ sym (append_assoc (flat_map general_name_octets r.gs) (general_name_octets one ++ []) behind)
      ∙ ap (λ z. z ++ behind) (ap (λ z. flat_map general_name_octets r.gs ++ z) (sym (flat_map-cons general_name_octets one [])) ∙ sym (flat_map-append general_name_octets r.gs (one ∷ [])));
  told = (
    λ h. (name_more host one r.gs).1 (elim (w.0 h) [ inl t ↦ inl (r.told.0 t) | inr k ↦ inr k ]),
    λ h. w.1 (elim ((name_more host one r.gs).0 h) [ inl t ↦ inl (r.told.1 t) | inr k ↦ inr k ]),
  );
  only = λ hs a e. let x = r.only hs a e in next_only rest one behind r.gs x.0 hs s n x.1 x.2 x.3;
}

pub ended : (rs : List GeneralName) → [] ≡ flat_map general_name_octets rs → rs ≡ []
ended [] e = refl
ended (r ∷ rs) e = absurd (written_some r (flat_map general_name_octets rs) (sym (flat_map-cons general_name_octets r rs) ∙ sym e))

pub read_end : (host : Asked) (content rest : List ℕ) (found : Bool) → rest ≡ [] → IsRead host content rest found → IsTrue found ↔ AreNames host content
read_end host content rest found z r = (
  λ h. (r.gs, r.each, r.spelled ∙ ap (λ y. flat_map general_name_octets r.gs ++ y) z ∙ append-nil (flat_map general_name_octets r.gs), r.told.0 h),
  λ h.
      let x = r.only h.0 h.1 h.2 in
      let none : x.0 ≡ [] = ended x.0 (sym z ∙ x.2) in
      let same : h.0 ≡ r.gs = x.3 ∙ ap (λ y. r.gs ++ y) none ∙ append-nil r.gs in
      r.told.1 (subst (HasNameOf host) same h.3),
)

stuck : (rest : List ℕ) (rs : List GeneralName) → rest ≢ [] → AllByRecursion IsGeneralName rs → rest ≡ flat_map general_name_octets rs
    → ((g : GeneralName) (r : List ℕ) → IsGeneralName g → rest ≡ general_name_octets g ++ r → ⊥) → ⊥
stuck rest [] some a e none = some e
stuck rest (r ∷ rs) some a e none = none r (flat_map general_name_octets rs) a.0 (e ∙ flat_map-cons general_name_octets r rs)

-- nothing is read further
pub read_stuck : (host : Asked) (content rest : List ℕ) (found : Bool) → rest ≢ [] → IsRead host content rest found
    → ((g : GeneralName) (r : List ℕ) → IsGeneralName g → rest ≡ general_name_octets g ++ r → ⊥) → AreNames host content → ⊥
read_stuck host content rest found some r none h = let x = r.only h.0 h.1 h.2 in stuck rest x.0 some x.1 x.2 none

-- a value by its content
pub names_content : (host : Asked) (value content : List ℕ) → value ≡ sequence_octets content → AreNames host content → Names host value
names_content host value content e w =
    (w.0, record { some = λ z. none_of host (subst (HasNameOf host) z w.3); each = w.1; spelled = e ∙ ap sequence_octets w.2 }, w.3)
