-- Links between judged items are those of the definitions.
use Rattle.std.specs.Prelude.{◌↔◌}
use Rattle.std.proofs.Common.{◌≡◌, ◌∙◌, ap, sym, subst, refl, ℕ, ◌+◌, ◌<◌, Bool, true, false, cond, List, length, map, arith, get_or, Option, Some, None, Bor, option_map}
use Rattle.std.specs.List.{Any, Contains}
use Rattle.std.proofs.Math.Logic.{∥∥₁_elim}
use Rattle.std.proofs.lemmas.Bool.{false≢true}
use Rattle.cert_graph.specs.Entries.{IsAt}
use Rattle.cert_graph.proofs.EntryFacts.{is_at, has_at}
use Rattle.cert_graph.specs.declared.places.Place.{Place}
use Rattle.cert_graph.specs.declared.places.Part.{Part}
use Rattle.cert_graph.specs.declared.places.Part.TheVariants.{Name, Key, Id}
use Rattle.cert_graph.specs.Places.{shown_at, text_at, Shows}
use Rattle.cert_model.specs.Fields.{CivilTime, Number, Entry, Certificate, RevocationList}
use Rattle.cert_model.specs.Octets.{name_octets, key_octets}
use Rattle.cert_model.specs.Class.{Class, certificate, list, other}
use Rattle.cert_judge.specs.declared.judged.JudgedCertificate.{JudgedCertificate}
use Rattle.cert_judge.specs.declared.judged.JudgedList.{JudgedList}
use Rattle.cert_judge.specs.declared.judged.JudgedItem.{JudgedItem}
use Rattle.cert_judge.specs.declared.judged.JudgedItem.TheVariants.{Certificate as certificate_judged, List as list_judged, Other as other_judged}
use Rattle.cert_judge.specs.Vouching.{Vouching}
use Rattle.cert_judge.specs.Judging.{IsFitIssuer}
use Rattle.cert_judge.specs.Further.{any_identifier}
use Rattle.cert_judge.specs.Items.{rules_at}
use Rattle.cert_judge.specs.Revoking.{Item, JudgingContext, IsCurrent, IsPlain, IsUsedList, IsSatisfied}
use Rattle.cert_judge.specs.Named.{NamesKeyId, HasKeyId}
use Rattle.cert_judge.specs.ItemGraph.{IsCertificateWith, IsIssuedUnder, KeyIdsAgree, IsLink, IsAnchorLink}
use Rattle.cert_judge.specs.JudgedItems.{IsJudged, AreJudged, as_issued, as_member, as_anchor}
use Rattle.cert_judge.specs.Standing.{WithCertificate, WithList, IsUsedBy}
use Rattle.cert_judge.specs.NamedLinks.{IsUnder, StandsUnder, places_of, IsSomeLink, IsSomeAnchor}
use Rattle.cert_judge.proofs.Grouping.{element, one_name, one_certificate}
use Rattle.cert_judge.proofs.Mapped.{any_to, any_from}
use Rattle.cert_judge.proofs.PlaceFacts.{issued_place, member_place, anchor_place}

held : {X : Type 0} {x y : X} → Some x ≡ Some y → x ≡ y
held e = cc

empty : {X : Type 0} {x : X} → None ≡ Some x → ⊥
empty e = cc

abbrev list_in : RevocationList → Class → RevocationList
list_in l (certificate c) = l
list_in l (list m) = m
list_in l other = l

one_list : (k : Class) (l m : RevocationList) → k ≡ list l → k ≡ list m → l ≡ m
one_list k l m p q = ap (list_in l) (sym p ∙ q)

certificate_is_list : (c : Certificate) (l : RevocationList) (k : Class) → k ≡ certificate c → k ≡ list l → ⊥
certificate_is_list c l k p q = let e = sym p ∙ q in cc

other_is_list : (l : RevocationList) (k : Class) → k ≡ other → k ≡ list l → ⊥
other_is_list l k p q = let e = sym p ∙ q in cc

list_is_certificate : (l : RevocationList) (c : Certificate) (k : Class) → k ≡ list l → k ≡ certificate c → ⊥
list_is_certificate l c k p q = let e = sym p ∙ q in cc

other_is_certificate : (c : Certificate) (k : Class) → k ≡ other → k ≡ certificate c → ⊥
other_is_certificate c k p q = let e = sym p ∙ q in cc

abbrev numbers : JudgedList → List (List ℕ)
numbers l = map (λ (s : Bor (List ℕ)). s.now) l.serials.items

abbrev serials : RevocationList → List (List ℕ)
serials l = map (λ (n : Entry). n.serial) l.entries

-- a list that is used, as the code holds it and as the definitions say, with what its serial numbers have
used_from : (moment : CivilTime) (demand : Bool) (W : Vouching) (name key : List ℕ) (Q : List (List ℕ) → Type 0) (x : Item) (j : JudgedItem) → IsJudged moment x j → shown_at Name (Some (as_issued j)) ≡ Some name
    → WithList (λ l. IsUsedBy W.Vouches key l × Q (numbers l)) j → (l : RevocationList) × IsUsedList (rules_at moment demand W) name key x l × Q (serials l)
used_from moment demand W name key Q x (certificate_judged c) h is u = absurd u
used_from moment demand W name key Q x (list_judged l) h is u = (
  h.fields,
  record { is_list = h.class; issuer = sym h.issuer ∙ held is; vouched = subst (W.Vouches key) h.octets u.0.vouched; current = h.current u.0.in_force; plain = h.plain u.0.in_force },
  subst Q h.serials u.1,
)
used_from moment demand W name key Q x other_judged h is u = absurd u

used_to : (moment : CivilTime) (demand : Bool) (W : Vouching) (name key : List ℕ) (Q : List (List ℕ) → Type 0) (x : Item) (j : JudgedItem) → IsJudged moment x j → (l : RevocationList) → IsUsedList (rules_at moment demand W) name key x l → Q (serials l)
    → (shown_at Name (Some (as_issued j)) ≡ Some name) × WithList (λ l. IsUsedBy W.Vouches key l × Q (numbers l)) j
used_to moment demand W name key Q x (certificate_judged c) h l u q = absurd (certificate_is_list h.fields l x.class h.class u.is_list)
used_to moment demand W name key Q x (list_judged m) h l u q =
    let same : l ≡ h.fields = one_list x.class l h.fields u.is_list h.class in (
      ap Some (h.issuer ∙ ap (λ (z : RevocationList). name_octets z.issuer) (sym same) ∙ u.issuer),
      (record { in_force = h.in_force (subst (IsCurrent moment) same u.current) (subst IsPlain same u.plain); vouched = subst (W.Vouches key) (sym h.octets) u.vouched }, subst Q (sym h.serials) (subst (λ z. Q (serials z)) same q)),
    )
used_to moment demand W name key Q x other_judged h l u q = absurd (other_is_list l x.class h u.is_list)

list_mapped : (P Q : JudgedList → Type 0) → ((l : JudgedList) → P l → Q l) → (j : JudgedItem) → WithList P j → WithList Q j
list_mapped P Q f (certificate_judged c) h = h
list_mapped P Q f (list_judged l) h = f l h
list_mapped P Q f other_judged h = h

abbrev HasNumber : List ℕ → List (List ℕ) → Type 0
HasNumber serial ss = Any (λ s. s ≡ serial) ss

-- Items, anchors and what is judged of them.
module _ (moment : CivilTime) (demand : Bool) (W : Vouching) (xs ys : List Item) (js hs : List JudgedItem) (judged : AreJudged moment xs js) (anchored : AreJudged moment ys hs) where
  abbrev all : List Place
  all = places_of js hs

  abbrev r : JudgingContext
  r = rules_at moment demand W

  as_many : {v : ℕ} → v < length xs → v < length js
  as_many lt = let c = judged.count in omega arith

  as_few : {v : ℕ} → v < length js → v < length xs
  as_few lt = let c = judged.count in omega arith

  issued_text : (p : ℕ) (j : JudgedItem) (q : List ℕ) → p < length js → j ≡ get_or js p j → Shows Name all p q → shown_at Name (Some (as_issued j)) ≡ Some q
  issued_text p j q lt at s = ap (λ z. shown_at Name (Some (as_issued z))) at ∙ ap (shown_at Name) (sym (issued_place js hs p j lt)) ∙ s

  issued_shows : (p : ℕ) (j : JudgedItem) (q : List ℕ) → p < length js → j ≡ get_or js p j → shown_at Name (Some (as_issued j)) ≡ Some q → Shows Name all p q
  issued_shows p j q lt at s = ap (shown_at Name) (issued_place js hs p j lt) ∙ ap (λ z. shown_at Name (Some (as_issued z))) (sym at) ∙ s

  -- a list at a place
  used_there : (name key : List ℕ) (Q : List (List ℕ) → Type 0) (p : ℕ) → IsUnder js all name p → IsAt js p (WithList (λ l. IsUsedBy W.Vouches key l × Q (numbers l))) → (x : Item) × (l : RevocationList) × Contains xs x × IsUsedList r name key x l × Q (serials l)
  used_there name key Q p under h =
      let lt = as_few under.0 in
      let x = element xs p lt in
      let j = element js p under.0 in
      let is : IsJudged moment x.0 j.0 = subst (λ z. IsJudged moment z j.0) (sym x.1) (subst (IsJudged moment (get_or xs p x.0)) (sym j.1) (judged.each p x.0 j.0 lt)) in
      let u = used_from moment demand W name key Q x.0 j.0 is (issued_text p j.0 name under.0 j.1 under.1) (has_at js p j.0 j.1 (WithList (λ l. IsUsedBy W.Vouches key l × Q (numbers l))) h) in
      (x.0, u.0, (p, lt, sym x.1), u.1, u.2)

  used_here : (name key : List ℕ) (Q : List (List ℕ) → Type 0) (x : Item) (l : RevocationList) → Contains xs x → IsUsedList r name key x l → Q (serials l) → (p : ℕ) × IsUnder js all name p × IsAt js p (WithList (λ l. IsUsedBy W.Vouches key l × Q (numbers l)))
  used_here name key Q x l at u q =
      let p = at.0 in
      let lt = as_many at.1 in
      let j = element js p lt in
      let is : IsJudged moment x j.0 = subst (λ z. IsJudged moment z j.0) at.2 (subst (IsJudged moment (get_or xs p x)) (sym j.1) (judged.each p x j.0 at.1)) in
      let w = used_to moment demand W name key Q x j.0 is l u q in
      (p, (lt, issued_shows p j.0 name lt j.1 w.0), is_at js p j.0 lt j.1 (WithList (λ l. IsUsedBy W.Vouches key l × Q (numbers l))) w.1)

  satisfied_iff : (name key : List ℕ) (serial : Number) → StandsUnder W.Vouches demand js all name key serial ↔ IsSatisfied r xs name key serial
  satisfied_iff name key serial = (
    λ s. record {
      kept = λ v.
          let w = used_here name key (HasNumber serial) v.0 v.1 v.2 v.3 (any_to (λ (n : Entry). n.serial) (λ s. s ≡ serial) v.1.entries v.4) in
          s.kept w.0 w.1 (w.2.0, λ d. list_mapped _ _ (λ l u. (u.0, any_from (λ (s : Bor (List ℕ)). s.now) (λ s. s ≡ serial) l.serials.items u.1)) (get_or js w.0 d) (w.2.1 d));
      listed = λ d.
          let l = s.listed d in
          let u = used_there name key (λ ss. Unit {0}) l.0 l.1 (l.2.0, λ e. list_mapped _ _ (λ m u. (u, tt)) (get_or js l.0 e) (l.2.1 e)) in
          (u.0, u.1, u.2, u.3);
    },
    λ s. record {
      kept = λ p under a.
          let u = used_there name key (HasNumber serial) p under (a.0, λ d. list_mapped _ _ (λ l u. (u.0, any_to (λ (s : Bor (List ℕ)). s.now) (λ s. s ≡ serial) l.serials.items u.1)) (get_or js p d) (a.1 d)) in
          s.kept (u.0, u.1, u.2, u.3, any_from (λ (n : Entry). n.serial) (λ s. s ≡ serial) u.1.entries u.4);
      listed = λ d.
          let l = s.listed d in
          let w = used_here name key (λ ss. Unit {0}) l.0 l.1 l.2 l.3 tt in
          (w.0, w.1, (w.2.0, λ e. list_mapped _ _ (λ m u. u.0) (get_or js w.0 e) (w.2.1 e)));
    },
  )

abbrev the_member : JudgedCertificate → Place
the_member c = record { name = Some c.subject; key = Some c.key; id = c.subject_key_id }

abbrev nowhere : Place
nowhere = record { name = None; key = None; id = None }

shown_fit : (b : Bool) (c : JudgedCertificate) (q : List ℕ) → shown_at Name (Some (cond b (the_member c) nowhere)) ≡ Some q → b ≡ true
shown_fit true c q s = refl
shown_fit false c q s = absurd (empty s)

member_is : (b : Bool) (c : JudgedCertificate) → b ≡ true → cond b (the_member c) nowhere ≡ the_member c
member_is true c e = refl
member_is false c e = absurd (false≢true e)

member_holds : (moment : CivilTime) (y : Item) (j : JudgedItem) (name key : List ℕ) → IsJudged moment y j → shown_at Name (Some (as_member j)) ≡ Some name → shown_at Key (Some (as_member j)) ≡ Some key
    → (d : Certificate) × (y.class ≡ certificate d) × (name ≡ name_octets d.subject) × (key ≡ key_octets d.key) × HasKeyId d (shown_at Id (Some (as_member j)))
member_holds moment y (certificate_judged c) name key h n k =
    let is = member_is c.node.fit c (shown_fit c.node.fit c name n) in (
      h.fields,
      h.class,
      held (sym n ∙ ap (λ p. shown_at Name (Some p)) is) ∙ h.subject,
      held (sym k ∙ ap (λ p. shown_at Key (Some p)) is) ∙ h.key,
      subst (λ p. HasKeyId h.fields (shown_at Id (Some p))) (sym is) h.has,
    )
member_holds moment y (list_judged l) name key h n k = absurd (empty n)
member_holds moment y other_judged name key h n k = absurd (empty n)

member_shows : (moment : CivilTime) (y : Item) (j : JudgedItem) (d : Certificate) → IsJudged moment y j → IsCertificateWith (IsFitIssuer any_identifier moment) y → y.class ≡ certificate d
    → (shown_at Name (Some (as_member j)) ≡ Some (name_octets d.subject)) × (shown_at Key (Some (as_member j)) ≡ Some (key_octets d.key)) × HasKeyId d (shown_at Id (Some (as_member j)))
member_shows moment y (certificate_judged c) d h fit is_d =
    let same : h.fields ≡ d = one_certificate y.class h.fields d h.class is_d in
    let is = member_is c.node.fit c (h.node.fit.1 fit) in (
      ap (λ p. shown_at Name (Some p)) is ∙ ap Some (h.subject ∙ ap (λ (z : Certificate). name_octets z.subject) same),
      ap (λ p. shown_at Key (Some p)) is ∙ ap Some (h.key ∙ ap (λ (z : Certificate). key_octets z.key) same),
      subst (λ z. HasKeyId z (shown_at Id (Some (cond c.node.fit (the_member c) nowhere)))) same (subst (λ p. HasKeyId h.fields (shown_at Id (Some p))) (sym is) h.has),
    )
member_shows moment y (list_judged l) d h fit is_d = absurd (list_is_certificate h.fields d y.class h.class is_d)
member_shows moment y other_judged d h fit is_d = absurd (other_is_certificate d y.class h is_d)

anchor_holds : (moment : CivilTime) (y : Item) (j : JudgedItem) (name key : List ℕ) → IsJudged moment y j → shown_at Name (Some (as_anchor j)) ≡ Some name → shown_at Key (Some (as_anchor j)) ≡ Some key
    → (d : Certificate) × (y.class ≡ certificate d) × (name ≡ name_octets d.subject) × (key ≡ key_octets d.key)
anchor_holds moment y (certificate_judged c) name key h n k = (h.fields, h.class, sym (held n) ∙ h.subject, sym (held k) ∙ h.key)
anchor_holds moment y (list_judged l) name key h n k = absurd (empty n)
anchor_holds moment y other_judged name key h n k = absurd (empty n)

anchor_shows : (moment : CivilTime) (y : Item) (j : JudgedItem) (d : Certificate) → IsJudged moment y j → y.class ≡ certificate d
    → (shown_at Name (Some (as_anchor j)) ≡ Some (name_octets d.subject)) × (shown_at Key (Some (as_anchor j)) ≡ Some (key_octets d.key))
anchor_shows moment y (certificate_judged c) d h is_d =
    let same : h.fields ≡ d = one_certificate y.class h.fields d h.class is_d in
    (ap Some (h.subject ∙ ap (λ (z : Certificate). name_octets z.subject) same), ap Some (h.key ∙ ap (λ (z : Certificate). key_octets z.key) same))
anchor_shows moment y (list_judged l) d h is_d = absurd (list_is_certificate h.fields d y.class h.class is_d)
anchor_shows moment y other_judged d h is_d = absurd (other_is_certificate d y.class h is_d)

-- one that was issued under a name and key, as the code says and as the definitions say
issued_to : (moment : CivilTime) (V : List ℕ → List ℕ → Type 0) (key : List ℕ) (P : List ℕ → Type 0) (x : Item) (j : JudgedItem) (name : List ℕ) → IsJudged moment x j → shown_at Name (Some (as_issued j)) ≡ Some name
    → WithCertificate (λ c. V key c.octets.now × P c.serial.now) j → (c : Certificate) × (x.class ≡ certificate c) × (name_octets c.issuer ≡ name) × V key x.octets × P c.serial × NamesKeyId c (shown_at Id (Some (as_issued j)))
issued_to moment V key P x (certificate_judged c) name h n w = (h.fields, h.class, sym h.issuer ∙ held n, subst (V key) h.octets w.0, subst P h.serial w.1, h.names)
issued_to moment V key P x (list_judged l) name h n w = absurd w
issued_to moment V key P x other_judged name h n w = absurd w

issued_of : (moment : CivilTime) (V : List ℕ → List ℕ → Type 0) (key : List ℕ) (P : List ℕ → Type 0) (x : Item) (j : JudgedItem) (name : List ℕ) (c : Certificate) → IsJudged moment x j → x.class ≡ certificate c → name_octets c.issuer ≡ name → V key x.octets → P c.serial
    → (shown_at Name (Some (as_issued j)) ≡ Some name) × WithCertificate (λ c. V key c.octets.now × P c.serial.now) j × NamesKeyId c (shown_at Id (Some (as_issued j)))
issued_of moment V key P x (certificate_judged z) name c h is_c issuer v p =
    let same : h.fields ≡ c = one_certificate x.class h.fields c h.class is_c in (
      ap Some (h.issuer ∙ ap (λ (z : Certificate). name_octets z.issuer) same ∙ issuer),
      (subst (V key) (sym h.octets) v, subst P (sym (h.serial ∙ ap (λ (z : Certificate). z.serial) same)) p),
      subst (λ d. NamesKeyId d (option_map (λ (s : Bor (List ℕ)). s.now) z.authority_key_id)) same h.names,
    )
issued_of moment V key P x (list_judged l) name c h is_c issuer v p = absurd (list_is_certificate h.fields c x.class h.class is_c)
issued_of moment V key P x other_judged name c h is_c issuer v p = absurd (other_is_certificate c x.class h is_c)

ids_to : (c d : Certificate) (o p : Option (List ℕ)) → NamesKeyId c o → HasKeyId d p → ((a s : List ℕ) → o ≡ Some a → p ≡ Some s → a ≡ s) → KeyIdsAgree c d
ids_to c d o p names has agree a s ha hs = ∥∥₁_elim names (one_name a s) (λ f. ∥∥₁_elim has (one_name a s) (λ h. agree a s ((f a).0 ha) ((h s).0 hs)))

ids_from : (c d : Certificate) (o p : Option (List ℕ)) → NamesKeyId c o → HasKeyId d p → KeyIdsAgree c d → (a s : List ℕ) → o ≡ Some a → p ≡ Some s → a ≡ s
ids_from c d o p names has same a s ea es = ∥∥₁_elim names (one_name a s) (λ f. ∥∥₁_elim has (one_name a s) (λ h. same a s ((f a).1 ea) ((h s).1 es)))

issued_is : (js hs : List JudgedItem) (part : Part) (v : ℕ) (j : JudgedItem) → v < length js → j ≡ get_or js v j → text_at part (places_of js hs) v ≡ shown_at part (Some (as_issued j))
issued_is js hs part v j lt at = ap (shown_at part) (issued_place js hs v j lt) ∙ ap (λ z. shown_at part (Some (as_issued z))) (sym at)

held_is : (js hs : List JudgedItem) (part : Part) (w : ℕ) (j : JudgedItem) → w < length js → j ≡ get_or js w j → text_at part (places_of js hs) (length js + w) ≡ shown_at part (Some (as_member j))
held_is js hs part w j lt at = ap (shown_at part) (member_place js hs w j lt) ∙ ap (λ z. shown_at part (Some (as_member z))) (sym at)

anchor_is : (js hs : List JudgedItem) (part : Part) (a : ℕ) (j : JudgedItem) → a < length hs → j ≡ get_or hs a j → text_at part (places_of js hs) (length js + length js + a) ≡ shown_at part (Some (as_anchor j))
anchor_is js hs part a j lt at = ap (shown_at part) (anchor_place js hs a j lt) ∙ ap (λ z. shown_at part (Some (as_anchor z))) (sym at)

under_names : (r : JudgingContext) (items : List Item) (x : Item) (c : Certificate) (m n k l : List ℕ) → m ≡ n → k ≡ l → IsIssuedUnder r items x c m k → IsIssuedUnder r items x c n l
under_names r items x c m n k l e f h = subst (λ z. IsIssuedUnder r items x c n z) f (subst (λ z. IsIssuedUnder r items x c z k) e h)

judged_at : (moment : CivilTime) (xs : List Item) (js : List JudgedItem) → AreJudged moment xs js → (v : ℕ) (x : Item) (j : JudgedItem) → v < length xs → x ≡ get_or xs v x → j ≡ get_or js v j → IsJudged moment x j
judged_at moment xs js h v x j lt a b = subst (λ z. IsJudged moment z j) (sym a) (subst (IsJudged moment (get_or xs v x)) (sym b) (h.each v x j lt))

-- The links between judged items are the links between the items.
module _ (moment : CivilTime) (demand : Bool) (W : Vouching) (xs ys : List Item) (js hs : List JudgedItem) (judged : AreJudged moment xs js) (anchored : AreJudged moment ys hs) where
  pub edge_iff : (v w : ℕ) → IsAt xs w (IsCertificateWith (IsFitIssuer any_identifier moment)) → IsSomeLink W.Vouches demand js hs v w ↔ IsAt xs v (λ x. IsAt xs w (λ y. IsLink (rules_at moment demand W) xs x y))
  edge_iff v w fit =
      let r = rules_at moment demand W in
      let all = places_of js hs in
      let n = judged.count in (
        λ l.
            let name = l.0 in
            let key = l.1.0 in
            let from = l.1.1 in
            let lt : v < length xs = let b = from.0.0 in omega arith in
            let ltw : w < length xs = let b = l.1.3 in omega arith in
            let x = element xs v lt in
            let j = element js v from.0.0 in
            let y = element xs w ltw in
            let k = element js w l.1.3 in
            let P = StandsUnder W.Vouches demand js all name key in
            let a = issued_to moment W.Vouches key P x.0 j.0 name (judged_at moment xs js judged v x.0 j.0 lt x.1 j.1) (sym (issued_is js hs Name v j.0 from.0.0 j.1) ∙ from.0.1) (has_at js v j.0 j.1 (WithCertificate (λ c. W.Vouches key c.octets.now × P c.serial.now)) from.1) in
            let b = member_holds moment y.0 k.0 name key (judged_at moment xs js judged w y.0 k.0 ltw y.1 k.1) (sym (held_is js hs Name w k.0 l.1.3 k.1) ∙ l.1.2.0) (sym (held_is js hs Key w k.0 l.1.3 k.1) ∙ l.1.2.1) in
            let issued : IsIssuedUnder r xs x.0 a.0 name key = record { issuer = a.2; vouched = a.3; satisfied = (satisfied_iff moment demand W xs ys js hs judged anchored name key a.0.serial).0 a.4 } in
            let ids = ids_to a.0 b.0 (shown_at Id (Some (as_issued j.0))) (shown_at Id (Some (as_member k.0))) a.5 b.4 (λ p q ep eq. l.1.4 p q (issued_is js hs Id v j.0 from.0.0 j.1 ∙ ep) (held_is js hs Id w k.0 l.1.3 k.1 ∙ eq)) in
            let link : IsLink r xs x.0 y.0 = (a.0, a.1, (b.0, b.1, (under_names r xs x.0 a.0 name _ key _ b.2 b.3 issued, ids))) in
            is_at xs v x.0 lt x.1 (λ x. IsAt xs w (λ y. IsLink r xs x y)) (is_at xs w y.0 ltw y.1 (λ y. IsLink r xs x.0 y) link),
        λ e.
            let x = element xs v e.0 in
            let e' = has_at xs v x.0 x.1 (λ x. IsAt xs w (λ y. IsLink r xs x y)) e in
            let y = element xs w e'.0 in
            let l = has_at xs w y.0 y.1 (λ y. IsLink r xs x.0 y) e' in
            let c = l.0 in
            let d = l.2.0 in
            let issued = l.2.2.0 in
            let name = name_octets d.subject in
            let key = key_octets d.key in
            let P = StandsUnder W.Vouches demand js all name key in
            let lt : v < length js = let b = e.0 in omega arith in
            let ltw : w < length js = let b = e'.0 in omega arith in
            let j = element js v lt in
            let k = element js w ltw in
            let a = issued_of moment W.Vouches key P x.0 j.0 name c (judged_at moment xs js judged v x.0 j.0 e.0 x.1 j.1) l.1 issued.issuer issued.vouched ((satisfied_iff moment demand W xs ys js hs judged anchored name key c.serial).1 issued.satisfied) in
            let b = member_shows moment y.0 k.0 d (judged_at moment xs js judged w y.0 k.0 e'.0 y.1 k.1) (has_at xs w y.0 y.1 (IsCertificateWith (IsFitIssuer any_identifier moment)) fit) l.2.1 in
            let at = issued_is js hs Id v j.0 lt j.1 in
            let to = held_is js hs Id w k.0 ltw k.1 in (
              name,
              (
                key,
                ((lt, issued_is js hs Name v j.0 lt j.1 ∙ a.0), is_at js v j.0 lt j.1 (WithCertificate (λ c. W.Vouches key c.octets.now × P c.serial.now)) a.1),
                (held_is js hs Name w k.0 ltw k.1 ∙ b.0, held_is js hs Key w k.0 ltw k.1 ∙ b.1),
                ltw,
                λ p q sp sq. ids_from c d _ _ a.2 b.2 l.2.2.1 p q (sym at ∙ sp) (sym to ∙ sq),
              ),
            ),
      )

  pub anchor_edge_iff : (v w : ℕ) → IsSomeAnchor W.Vouches demand js hs v w ↔ IsAt xs v (λ x. IsAt ys w (λ y. IsAnchorLink (rules_at moment demand W) xs x y))
  anchor_edge_iff v w =
      let r = rules_at moment demand W in
      let all = places_of js hs in
      let n = judged.count in
      let m = anchored.count in (
        λ l.
            let name = l.0 in
            let key = l.1.0 in
            let from = l.1.1 in
            let lt : v < length xs = let b = from.0.0 in omega arith in
            let ltw : w < length ys = let b = l.1.3 in omega arith in
            let x = element xs v lt in
            let j = element js v from.0.0 in
            let y = element ys w ltw in
            let k = element hs w l.1.3 in
            let P = StandsUnder W.Vouches demand js all name key in
            let a = issued_to moment W.Vouches key P x.0 j.0 name (judged_at moment xs js judged v x.0 j.0 lt x.1 j.1) (sym (issued_is js hs Name v j.0 from.0.0 j.1) ∙ from.0.1) (has_at js v j.0 j.1 (WithCertificate (λ c. W.Vouches key c.octets.now × P c.serial.now)) from.1) in
            let b = anchor_holds moment y.0 k.0 name key (judged_at moment ys hs anchored w y.0 k.0 ltw y.1 k.1) (sym (anchor_is js hs Name w k.0 l.1.3 k.1) ∙ l.1.2.0) (sym (anchor_is js hs Key w k.0 l.1.3 k.1) ∙ l.1.2.1) in
            let issued : IsIssuedUnder r xs x.0 a.0 name key = record { issuer = a.2; vouched = a.3; satisfied = (satisfied_iff moment demand W xs ys js hs judged anchored name key a.0.serial).0 a.4 } in
            let link : IsAnchorLink r xs x.0 y.0 = (a.0, a.1, (b.0, b.1, under_names r xs x.0 a.0 name _ key _ b.2 b.3 issued)) in
            is_at xs v x.0 lt x.1 (λ x. IsAt ys w (λ y. IsAnchorLink r xs x y)) (is_at ys w y.0 ltw y.1 (λ y. IsAnchorLink r xs x.0 y) link),
        λ e.
            let x = element xs v e.0 in
            let e' = has_at xs v x.0 x.1 (λ x. IsAt ys w (λ y. IsAnchorLink r xs x y)) e in
            let y = element ys w e'.0 in
            let l = has_at ys w y.0 y.1 (λ y. IsAnchorLink r xs x.0 y) e' in
            let c = l.0 in
            let d = l.2.0 in
            let issued = l.2.2 in
            let name = name_octets d.subject in
            let key = key_octets d.key in
            let P = StandsUnder W.Vouches demand js all name key in
            let lt : v < length js = let b = e.0 in omega arith in
            let ltw : w < length hs = let b = e'.0 in omega arith in
            let j = element js v lt in
            let k = element hs w ltw in
            let a = issued_of moment W.Vouches key P x.0 j.0 name c (judged_at moment xs js judged v x.0 j.0 e.0 x.1 j.1) l.1 issued.issuer issued.vouched ((satisfied_iff moment demand W xs ys js hs judged anchored name key c.serial).1 issued.satisfied) in
            let b = anchor_shows moment y.0 k.0 d (judged_at moment ys hs anchored w y.0 k.0 e'.0 y.1 k.1) l.2.1 in (
              name,
              (
                key,
                ((lt, issued_is js hs Name v j.0 lt j.1 ∙ a.0), is_at js v j.0 lt j.1 (WithCertificate (λ c. W.Vouches key c.octets.now × P c.serial.now)) a.1),
                (anchor_is js hs Name w k.0 ltw k.1 ∙ b.0, anchor_is js hs Key w k.0 ltw k.1 ∙ b.1),
                ltw,
              ),
            ),
      )
