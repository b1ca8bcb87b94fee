-- Equal items brought together, and what is issued among them.
use Rattle.std.specs.Prelude.{◌↔◌, ◌⊎◌}
use Rattle.std.proofs.Common.{◌≡◌, ◌∙◌, ap, sym, subst, refl, ℕ, ◌+◌, ◌-◌, ◌<◌, Bool, true, List, [], ◌∷◌, ◌++◌, length, map, length-append, arith, get_or, set, inl, inr, Bor}
use Rattle.std.specs.List.{All, Any, Contains}
use Rattle.std.specs.List.Sorted.{IsStrictlyIncreasing}
use Rattle.std.proofs.Math.ListN.{get_or-append}
use Rattle.std.proofs.Math.Seq.{get_or-append_seam}
use Rattle.std.proofs.lemmas.Bool.{cases_lt, cases_eq}
use Rattle.std.proofs.lemmas.List.{get_or_default, length-set, get_or-set_same, get_or-set_other}
use Rattle.std.specs.Str.{bytes_eq}
use Rattle.std.specs.Cmp.Lexicographic.{pointwise}
use Rattle.std.specs.Cmp.Derive.Mapped.{pointwise-map}
use Rattle.std.proofs.lemmas.Slice.Eq.{slice_eq-Decides, bytes_eq-Decides}
use Rattle.std.proofs.lemmas.List.Kept.{AllPairs-from_increasing}
use Rattle.cert_graph.specs.Entries.{IsAt}
use Rattle.cert_graph.specs.Lists.{IsPut}
use Rattle.cert_graph.proofs.Sifted.{push_ascends}
use Rattle.cert_judge.specs.declared.judged.JudgedCertificate.{JudgedCertificate}
use Rattle.cert_judge.specs.declared.judged.JudgedList.{JudgedList}
use Rattle.cert_judge.specs.declared.judged.JudgedItem.{JudgedItem}
use Rattle.cert_judge.specs.declared.judged.JudgedItem.TheVariants.{Certificate as certificate_judged, List as list_judged, Other as other_judged}
use Rattle.cert_judge.specs.Standing.{WithCertificate, WithList, IsUsedBy, HasSerial, IsUsedAt, IsUsedAgainstAt, StandsBy, IsIssuedAt}
use Rattle.cert_judge.specs.Copies.{IsSameList, AreAlike, AreAlikeAt, IsIn, AreCopies}
use Rattle.cert_judge.proofs.Grouping.{element}
use Rattle.cert_judge.proofs.Listed.{in_plain, in_pushed, in_set}
use Rattle.cert_judge.proofs.Mapped.{any_to, any_from}

-- texts that are equal one by one
pub texts_same : (xs ys : List (Bor (List ℕ))) (r : Bool) → r ≡ pointwise (λ a b. bytes_eq a.now b.now) xs ys → r ≡ true → map (λ s. s.now) xs ≡ map (λ s. s.now) ys
texts_same xs ys r e =
    let now : Bor (List ℕ) → List ℕ = λ s. s.now in
    (slice_eq-Decides bytes_eq-Decides (map now xs) (map now ys) r (e ∙ sym (pointwise-map now bytes_eq xs ys))).0

pub alike_itself : (j : JudgedItem) → AreAlike j j
alike_itself (certificate_judged c) = (refl, refl)
alike_itself (list_judged l) = record { octets = refl; in_force = refl; serials = refl }
alike_itself other_judged = tt

pub alike_there : (js : List JudgedItem) (v : ℕ) → v < length js → AreAlikeAt js v v
alike_there js v lt = (lt, λ d. (lt, λ e. subst (AreAlike (get_or js v d)) (get_or_default js v d e lt) (alike_itself (get_or js v d))))

-- the first places met
abbrev pub Met : List ℕ → ℕ → ℕ → Type 0
Met ps k v = (i : ℕ) × (i < k) × (get_or ps i 0 ≡ v)

-- the items at the first places, brought together
pub record CopiesUpTo (js : List JudgedItem) (ps : List ℕ) (k : ℕ) (firsts : List ℕ) (lists : List (List ℕ)) : Type 0 where
  pub count : length lists ≡ length firsts
  pub ascend : (d : ℕ) → d < length lists → IsStrictlyIncreasing (get_or lists d [])
  pub issued : (d v : ℕ) → IsIn lists d v → Met ps k v
  pub alike : (d v : ℕ) → IsIn lists d v → AreAlikeAt js (get_or firsts d 0) v
  pub first : (d : ℕ) → d < length lists → IsIn lists d (get_or firsts d 0)
  pub complete : (v : ℕ) → Met ps k v → (d : ℕ) × IsIn lists d v

pub copies_none : (js : List JudgedItem) (ps : List ℕ) → CopiesUpTo js ps 0 [] []
copies_none js ps = record {
  count = refl;
  ascend = λ d lt. absurd (omega arith);
  issued = λ d v h. let lt = h.0 in absurd (omega arith);
  alike = λ d v h. let lt = h.0 in absurd (omega arith);
  first = λ d lt. absurd (omega arith);
  complete = λ v h. let lt = h.1 in absurd (omega arith);
}

met_more : (ps : List ℕ) (k v : ℕ) → Met ps k v → Met ps (k + 1) v
met_more ps k v h = let lt = h.1 in (h.0, omega arith, h.2)

met_cases : (ps : List ℕ) (k v : ℕ) → Met ps (k + 1) v → Met ps k v ⊎ (get_or ps k 0 ≡ v)
met_cases ps k v h = elim (cases_lt h.0 k) [
  | inl less ↦ inl (h.0, less, h.2)
  | inr past ↦ let below = h.1 in let same : h.0 ≡ k = omega arith in inr (subst (λ i. get_or ps i 0 ≡ v) same h.2)
]

met_less : (ps : List ℕ) (k v : ℕ) → IsStrictlyIncreasing ps → k < length ps → Met ps k v → v < get_or ps k 0
met_less ps k v up lt h = let less = AllPairs-from_increasing ps up h.0 k 0 h.1 lt in let is = h.2 in omega arith

-- one copy more
pub copies_known : (js : List JudgedItem) (ps : List ℕ) (k : ℕ) (firsts : List ℕ) (lists new : List (List ℕ)) (n : ℕ) → IsStrictlyIncreasing ps → k < length ps → n < length firsts → AreAlikeAt js (get_or firsts n 0) (get_or ps k 0)
    → IsPut lists new n (get_or ps k 0) → CopiesUpTo js ps k firsts lists → CopiesUpTo js ps (k + 1) firsts new
unfolding IsPut
copies_known js ps k firsts lists new n up lt below same put h =
    let w = get_or ps k 0 in
    let count = h.count in
    let within : n < length lists = omega arith in
    elim put [
      | inl stays ↦
          let last = stays.1 within in
          let place : length (get_or lists n []) - 1 < length (get_or lists n []) = omega (arith, last.0) in
          let there : Contains (get_or lists n []) w = (length (get_or lists n []) - 1, place, get_or_default (get_or lists n []) (length (get_or lists n []) - 1) w 0 place ∙ last.1) in
          let less = met_less ps k w up lt (h.issued n w ((in_plain lists n w within).1 there)) in
          absurd (omega arith)
      | inr moves ↦
          let is = moves.2 in
          let l = get_or lists n [] ++ w ∷ [] in
          subst (CopiesUpTo js ps (k + 1) firsts) (sym is) (record {
            count = length-set lists n l ∙ h.count;
            ascend = λ d small.
                let long = length-set lists n l in
                let old : d < length lists = omega arith in
                elim (cases_eq d n) [
                  | inl e ↦
                      subst (λ i. IsStrictlyIncreasing (get_or (set lists n l) i [])) (sym e) (subst IsStrictlyIncreasing (sym (get_or-set_same lists n l [] within))
                      (push_ascends (get_or lists n []) w (h.ascend n within) (λ u c. met_less ps k u up lt (h.issued n u ((in_plain lists n u within).1 c)))))
                  | inr other ↦ subst IsStrictlyIncreasing (sym (get_or-set_other lists n d l [] other)) (h.ascend d old)
                ];
            issued = λ d v x. elim ((in_set lists n w d v within).0 x) [ inl y ↦ met_more ps k v (h.issued d v y) | inr y ↦ (k, omega arith, y.1) ];
            alike = λ d v x. elim ((in_set lists n w d v within).0 x) [
              | inl y ↦ h.alike d v y
              | inr y ↦ subst (λ i. AreAlikeAt js (get_or firsts i 0) v) (sym y.0) (subst (AreAlikeAt js (get_or firsts n 0)) y.1 same)
            ];
            first = λ d small. let long = length-set lists n l in (in_set lists n w d (get_or firsts d 0) within).1 (inl (h.first d (omega arith)));
            complete = λ v m. elim (met_cases ps k v m) [
              | inl y ↦ let x = h.complete v y in (x.0, (in_set lists n w x.0 v within).1 (inl x.1))
              | inr e ↦ (n, (in_set lists n w n v within).1 (inr (refl, e)))
            ];
          })
    ]

one_up : (w : ℕ) → IsStrictlyIncreasing (w ∷ [])
one_up w k lt = absurd (omega arith)

one_in : (w v : ℕ) → Contains (w ∷ []) v → w ≡ v
one_in w v c = let lt = c.1 in let at : c.0 ≡ 0 = omega arith in subst (λ i. get_or (w ∷ []) i v ≡ v) at c.2

-- one item more
pub copies_new : (js : List JudgedItem) (ps : List ℕ) (k : ℕ) (firsts : List ℕ) (lists : List (List ℕ)) → k < length ps → get_or ps k 0 < length js
    → CopiesUpTo js ps k firsts lists → CopiesUpTo js ps (k + 1) (firsts ++ get_or ps k 0 ∷ []) (lists ++ (get_or ps k 0 ∷ []) ∷ [])
copies_new js ps k firsts lists lt there h =
    let w = get_or ps k 0 in
    let count = h.count in
    let lf = length-append firsts (w ∷ []) in
    let ll = length-append lists ((w ∷ []) ∷ []) in
    let last : (d : ℕ) → d ≡ length lists → get_or (firsts ++ w ∷ []) d 0 ≡ w = λ d e. let f : d ≡ length firsts = omega arith in ap (λ i. get_or (firsts ++ w ∷ []) i 0) f ∙ get_or-append_seam firsts w [] 0 in
    let early : (d : ℕ) → d < length lists → get_or (firsts ++ w ∷ []) d 0 ≡ get_or firsts d 0 = λ d s. get_or-append firsts (w ∷ []) 0 d (omega arith) in
    record {
      count = omega arith;
      ascend = λ d small. elim (cases_lt d (length lists)) [
        | inl less ↦ subst IsStrictlyIncreasing (sym (get_or-append lists ((w ∷ []) ∷ []) [] d less)) (h.ascend d less)
        | inr past ↦
            let e : d ≡ length lists = omega arith in
            subst (λ i. IsStrictlyIncreasing (get_or (lists ++ (w ∷ []) ∷ []) i [])) (sym e) (subst IsStrictlyIncreasing (sym (get_or-append_seam lists (w ∷ []) [] [])) (one_up w))
      ];
      issued = λ d v x. elim ((in_pushed lists (w ∷ []) d v).0 x) [ inl y ↦ met_more ps k v (h.issued d v y) | inr y ↦ (k, omega arith, one_in w v y.1) ];
      alike = λ d v x. elim ((in_pushed lists (w ∷ []) d v).0 x) [
        | inl y ↦ subst (λ u. AreAlikeAt js u v) (sym (early d y.0)) (h.alike d v y)
        | inr y ↦ subst (λ u. AreAlikeAt js u v) (sym (last d y.0)) (subst (AreAlikeAt js w) (one_in w v y.1) (alike_there js w there))
      ];
      first = λ d small. elim (cases_lt d (length lists)) [
        | inl less ↦ (in_pushed lists (w ∷ []) d (get_or (firsts ++ w ∷ []) d 0)).1 (inl (subst (IsIn lists d) (sym (early d less)) (h.first d less)))
        | inr past ↦
            let e : d ≡ length lists = omega arith in
            (in_pushed lists (w ∷ []) d (get_or (firsts ++ w ∷ []) d 0)).1 (inr (e, subst (Contains (w ∷ [])) (sym (last d e)) (0, omega arith, refl)))
      ];
      complete = λ v m. elim (met_cases ps k v m) [
        | inl y ↦ let x = h.complete v y in (x.0, (in_pushed lists (w ∷ []) x.0 v).1 (inl x.1))
        | inr e ↦ (length lists, (in_pushed lists (w ∷ []) (length lists) v).1 (inr (refl, subst (Contains (w ∷ [])) e (0, omega arith, refl))))
      ];
    }

met_contains : (ps : List ℕ) (k v : ℕ) → k ≡ length ps → Met ps k v ↔ Contains ps v
met_contains ps k v end = (
  λ h. let below = h.1 in let lt : h.0 < length ps = omega arith in (h.0, lt, get_or_default ps h.0 v 0 lt ∙ h.2),
  λ h. let lt = h.1 in (h.0, omega arith, get_or_default ps h.0 0 v h.1 ∙ h.2),
)

pub copies_all : (js : List JudgedItem) (ps : List ℕ) (k : ℕ) (firsts : List ℕ) (lists : List (List ℕ)) → k ≡ length ps → CopiesUpTo js ps k firsts lists → AreCopies js ps firsts lists
copies_all js ps k firsts lists end h = record {
  count = h.count;
  ascend = h.ascend;
  within = λ d v x. (met_contains ps k v end).0 (h.issued d v x);
  alike = h.alike;
  first = h.first;
  complete = λ v c. h.complete v ((met_contains ps k v end).1 c);
}

-- alike items agree
cert_moved : (P Q : JudgedCertificate → Type 0) → ((c d : JudgedCertificate) → c.octets.now ≡ d.octets.now → c.serial.now ≡ d.serial.now → P c → Q d) → (i j : JudgedItem) → AreAlike i j → WithCertificate P i → WithCertificate Q j
cert_moved P Q f (certificate_judged c) (certificate_judged d) a h = f c d a.0 a.1 h
cert_moved P Q f (certificate_judged c) (list_judged m) a h = absurd a
cert_moved P Q f (certificate_judged c) other_judged a h = absurd a
cert_moved P Q f (list_judged l) j a h = absurd h
cert_moved P Q f other_judged j a h = absurd h

cert_back : (P Q : JudgedCertificate → Type 0) → ((c d : JudgedCertificate) → c.octets.now ≡ d.octets.now → c.serial.now ≡ d.serial.now → P d → Q c) → (i j : JudgedItem) → AreAlike i j → WithCertificate P j → WithCertificate Q i
cert_back P Q f (certificate_judged c) (certificate_judged d) a h = f c d a.0 a.1 h
cert_back P Q f (certificate_judged c) (list_judged m) a h = absurd a
cert_back P Q f (certificate_judged c) other_judged a h = absurd a
cert_back P Q f (list_judged l) (certificate_judged d) a h = absurd a
cert_back P Q f (list_judged l) (list_judged m) a h = absurd h
cert_back P Q f (list_judged l) other_judged a h = absurd h
cert_back P Q f other_judged (certificate_judged d) a h = absurd a
cert_back P Q f other_judged (list_judged m) a h = absurd h
cert_back P Q f other_judged other_judged a h = absurd h

list_back : (P : JudgedList → Type 0) → ((l m : JudgedList) → IsSameList l m → P m → P l) → (i j : JudgedItem) → AreAlike i j → WithList P j → WithList P i
list_back P f (list_judged l) (list_judged m) a h = f l m a h
list_back P f (list_judged l) (certificate_judged d) a h = absurd a
list_back P f (list_judged l) other_judged a h = absurd a
list_back P f (certificate_judged c) (certificate_judged d) a h = absurd h
list_back P f (certificate_judged c) (list_judged m) a h = absurd a
list_back P f (certificate_judged c) other_judged a h = absurd h
list_back P f other_judged (certificate_judged d) a h = absurd h
list_back P f other_judged (list_judged m) a h = absurd a
list_back P f other_judged other_judged a h = absurd h

at_back : (P Q : JudgedItem → Type 0) (js : List JudgedItem) (u v : ℕ) → ((i j : JudgedItem) → AreAlike i j → P j → Q i) → AreAlikeAt js u v → IsAt js v P → IsAt js u Q
at_back P Q js u v f a h = (a.0, λ d. let b = a.1 d in f (get_or js u d) (get_or js v d) (b.1 d) (h.1 d))

at_moved : (P Q : JudgedItem → Type 0) (js : List JudgedItem) (u v : ℕ) → ((i j : JudgedItem) → AreAlike i j → P i → Q j) → AreAlikeAt js u v → IsAt js u P → IsAt js v Q
at_moved P Q js u v f a h = let d0 = element js u a.0 in ((a.1 d0.0).0, λ d. let b = a.1 d in f (get_or js u d) (get_or js v d) (b.1 d) (h.1 d))

used_same : (V : List ℕ → List ℕ → Type 0) (key : List ℕ) (l m : JudgedList) → IsSameList l m → IsUsedBy V key m → IsUsedBy V key l
used_same V key l m a h = record { in_force = a.in_force ∙ h.in_force; vouched = subst (V key) (sym a.octets) h.vouched }

serial_same : (serial : List ℕ) (l m : JudgedList) → IsSameList l m → HasSerial serial m → HasSerial serial l
serial_same serial l m a h =
    let now : Bor (List ℕ) → List ℕ = λ s. s.now in
    any_from now (λ t. t ≡ serial) l.serials.items (subst (Any (λ t. t ≡ serial)) (sym a.serials) (any_to now (λ t. t ≡ serial) m.serials.items h))

module _ (V : List ℕ → List ℕ → Type 0) (demand : Bool) (js : List JudgedItem) (issued firsts : List ℕ) (lists : List (List ℕ)) (are : AreCopies js issued firsts lists) (key : List ℕ) where
  to_first : (P : ℕ → Type 0) → ((u v : ℕ) → AreAlikeAt js u v → P v → P u) → Any P issued → Any P firsts
  to_first P f x =
      let c = are.complete x.1 (x.0, x.2, x.3) in
      let count = are.count in
      let lt = c.1.0 in
      let u = get_or firsts c.0 0 in
      let small : c.0 < length firsts = omega arith in
      (c.0, u, small, get_or_default firsts c.0 u 0 small, f u x.1 (are.alike c.0 x.1 c.1) x.4)

  from_first : (P : ℕ → Type 0) → Any P firsts → Any P issued
  from_first P x =
      let count = are.count in
      let lt = x.2 in
      let small : x.0 < length lists = omega arith in
      let is : get_or firsts x.0 0 ≡ x.1 = get_or_default firsts x.0 0 x.1 x.2 ∙ x.3 in
      let c = are.within x.0 x.1 (subst (IsIn lists x.0) is (are.first x.0 small)) in
      (c.0, x.1, c.1, c.2, x.4)

  used_first : (u v : ℕ) → AreAlikeAt js u v → IsUsedAt V js key v → IsUsedAt V js key u
  used_first u v a h = at_back (WithList (IsUsedBy V key)) (WithList (IsUsedBy V key)) js u v (λ i j b. list_back (IsUsedBy V key) (used_same V key) i j b) a h

  against_first : (serial : List ℕ) (u v : ℕ) → AreAlikeAt js u v → IsUsedAgainstAt V js key serial v → IsUsedAgainstAt V js key serial u
  against_first serial u v a h =
      at_back (WithList (λ l. IsUsedBy V key l × HasSerial serial l)) (WithList (λ l. IsUsedBy V key l × HasSerial serial l)) js u v
      (λ i j b. list_back (λ l. IsUsedBy V key l × HasSerial serial l) (λ l m s x. (used_same V key l m s x.0, serial_same serial l m s x.1)) i j b) a h

  stands_first : (serial : List ℕ) → StandsBy V demand js issued key serial → StandsBy V demand js firsts key serial
  stands_first serial s = record {
    kept = λ x. s.kept (from_first (IsUsedAgainstAt V js key serial) x);
    listed = λ d. to_first (IsUsedAt V js key) used_first (s.listed d);
  }

  stands_all : (serial : List ℕ) → StandsBy V demand js firsts key serial → StandsBy V demand js issued key serial
  stands_all serial s = record {
    kept = λ x. s.kept (to_first (IsUsedAgainstAt V js key serial) (against_first serial) x);
    listed = λ d. from_first (IsUsedAt V js key) (s.listed d);
  }

  pub issued_first : (d v : ℕ) → IsIn lists d v → IsIssuedAt V demand js issued key v ↔ IsIssuedAt V demand js firsts key (get_or firsts d 0)
  issued_first d v x = let a = are.alike d v x in (
    λ h. at_back _ _ js (get_or firsts d 0) v
        (cert_back (λ c. V key c.octets.now × StandsBy V demand js issued key c.serial.now) (λ c. V key c.octets.now × StandsBy V demand js firsts key c.serial.now)
        (λ c e o s y. (subst (V key) (sym o) y.0, stands_first c.serial.now (subst (StandsBy V demand js issued key) (sym s) y.1)))) a h,
    λ h. at_moved _ _ js (get_or firsts d 0) v
        (cert_moved (λ c. V key c.octets.now × StandsBy V demand js firsts key c.serial.now) (λ c. V key c.octets.now × StandsBy V demand js issued key c.serial.now)
        (λ c e o s y. (subst (V key) o y.0, stands_all e.serial.now (subst (StandsBy V demand js firsts key) s y.1)))) a h,
  )

-- the first places are places of items
pub firsts_within : (js : List JudgedItem) (issued firsts : List ℕ) (lists : List (List ℕ)) → AreCopies js issued firsts lists → ((v : ℕ) → Contains issued v → v < length js) → All (λ v. v < length js) firsts
firsts_within js issued firsts lists are below k d lt =
    let count = are.count in
    let small : k < length lists = omega arith in
    subst (λ v. v < length js) (get_or_default firsts k 0 d lt) (below (get_or firsts k 0) (are.within k (get_or firsts k 0) (are.first k small)))
