-- The certificates of a name, and their key identifiers.
use Rattle.std.specs.Prelude.{◌↔◌, ◌⊎◌, IfSome, option_copied, slice_get}
use Rattle.std.proofs.Common.{◌≡◌, ◌∙◌, refl, ap, sym, subst, ℕ, ◌+◌, ◌<◌, ◌≤◌, cond, List, [], ◌∷◌, ◌++◌, map, length, take, get_or, arith, Option, Some, None, option_map, Bor, inl, inr}
use Rattle.std.specs.List.{Contains}
use Rattle.std.specs.List.Sorted.{IsStrictlyIncreasing}
use Rattle.std.specs.BTreeMap as mapped
use Rattle.std.specs.BTreeMap.{BTreeMap, is_at}
use Rattle.std.specs.Map.{lookup}
use Rattle.std.proofs.lemmas.Bool.{cases_lt, cases_Bool, cond-true, cond-false}
use Rattle.std.proofs.lemmas.List.{length-map, get_or_default, take_more, take_all}
use Rattle.std.proofs.lemmas.Option.{slice_get-map, slice_get-get_or, slice_get_past}
use Rattle.cert_graph.specs.Entries.{IsAt}
use Rattle.cert_graph.specs.Places.{shown_at, Shows}
use Rattle.cert_graph.specs.declared.places.Part.TheVariants.{Name}
use Rattle.cert_graph.specs.declared.places.Place.{Place}
use Rattle.cert_graph.proofs.Gathering.{E, R, same}
use Rattle.cert_model.specs.Octets.{name_octets}
use Rattle.cert_judge.specs.ItemGraph.{IsCertificateWith, KeyIdsAgree}
use Rattle.cert_judge.specs.Items.{item_of, certificate_of}
use Rattle.cert_judge.specs.Named.{HasKeyId, NamesKeyId}
use Rattle.cert_judge.specs.declared.items.CertificateItem.{CertificateItem}
use Rattle.cert_judge.specs.declared.items.ReadItem.{ReadItem}
use Rattle.cert_judge.specs.declared.items.ReadItem.TheVariants.{Certificate as certificate_read, List as list_read, Other as other_read}
use Rattle.cert_judge.proofs.Grouping.{element}
use Rattle.cert_reasons.proofs.Certain.{viewed_by}
use Rattle.cert_reasons.proofs.Marks.{both_named, none_named, none_own}
use Rattle.certpath_why.specs.Cuts.{CutsTo, IsCutOf}
use Rattle.certpath_why.specs.Groups.{IsDiffering}
use Rattle.certpath_why.specs.Named.{AreGathered, AreIssuers, HasId, id_in, id_place, IsOwnId, own_id}
use Rattle.certpath_why.specs.Directories.{IsDirectory}
use Rattle.certpath_why.specs.Ranges.{AreRanges, IsInRanges}
use Rattle.certpath_why.specs.Reached.{ArePositions, HasSubject, IsCertificateAt}
use Rattle.certpath_why.specs.declared.cuts.Cut.{Cut}
use Rattle.certpath_why.specs.declared.named.Issuers.{Issuers}
use Rattle.certpath_why.proofs.Cutting.{cut_as, cut_none}
use Rattle.certpath_why.proofs.Fating.{ranges_as}
use Rattle.certpath_why.proofs.Ranging.{contains_more}
use Rattle.certpath_why.proofs.Items.{empty, held, no_list, no_other, positions_as, subject_certificate, with_read}

-- ---- the certificate at a position

certificate_in : (z : ReadItem) → IsCertificateWith (λ c. Unit {0}) (item_of z) → (y : CertificateItem) × (z ≡ certificate_read y)
certificate_in (certificate_read y) h = (y, refl)
certificate_in (list_read l) h = absurd (no_list h.1)
certificate_in (other_read o) h = absurd (no_other h.1)

-- it was read as one
pub certificate_there : (items : List ReadItem) (w : ℕ) → IsCertificateAt (map item_of items) w → (y : CertificateItem) × IsAt items w (λ z. z ≡ certificate_read y)
certificate_there items w h =
    let long = length-map items item_of in
    let lt : w < length items = let below = h.0 in omega arith in
    let e = element items w lt in
    let c = certificate_in e.0 ((viewed_by item_of items w e.0 lt e.1 (IsCertificateWith (λ c. Unit {0}))).1 h) in
    (c.0, (lt, λ d. sym (get_or_default items w e.0 d lt) ∙ sym e.1 ∙ c.1))

-- one of a name was read as a certificate
pub read_there : (items : List ReadItem) (name : List ℕ) (w : ℕ) → HasSubject (map item_of items) name w → (y : CertificateItem) × IsAt items w (λ z. z ≡ certificate_read y)
read_there items name w h = certificate_there items w (subject_certificate (map item_of items) name w h)

-- its own key identifier
pub own_read : (items : List ReadItem) (w : ℕ) (y : CertificateItem) → IsAt items w (λ z. z ≡ certificate_read y) → own_id items w ≡ y.subject_key_id
own_read items w y at = ap id_in (slice_get-get_or items w (certificate_read y) at.0 ∙ ap Some (at.1 (certificate_read y)))

-- ---- key identifiers

pub names_some : (x : CertificateItem) (id : Bor (List ℕ)) → x.authority_key_id ≡ Some id → NamesKeyId (certificate_of x) (Some id.now)
names_some x id is = subst (λ (o : Option (Bor (List ℕ))). NamesKeyId (certificate_of x) (option_map (λ (s : Bor (List ℕ)). s.now) o)) is x.authority_is

pub names_none : (x : CertificateItem) → x.authority_key_id ≡ None → NamesKeyId (certificate_of x) None
names_none x is = subst (λ (o : Option (Bor (List ℕ))). NamesKeyId (certificate_of x) (option_map (λ (s : Bor (List ℕ)). s.now) o)) is x.authority_is

pub has_some : (y : CertificateItem) (id : Bor (List ℕ)) → y.subject_key_id ≡ Some id → HasKeyId (certificate_of y) (Some id.now)
has_some y id is = subst (λ (o : Option (Bor (List ℕ))). HasKeyId (certificate_of y) (option_map (λ (s : Bor (List ℕ)). s.now) o)) is y.own_is

pub has_none : (y : CertificateItem) → y.subject_key_id ≡ None → HasKeyId (certificate_of y) None
has_none y is = subst (λ (o : Option (Bor (List ℕ))). HasKeyId (certificate_of y) (option_map (λ (s : Bor (List ℕ)). s.now) o)) is y.own_is

nothing : (s : Bor (List ℕ)) → None ≡ Some s → ⊥
nothing s e = cc

-- two certificates differ exactly if the one has a key identifier, and another than the other names
differ_iff : (x y : CertificateItem) (id : Bor (List ℕ)) (o : Option (Bor (List ℕ))) → x.authority_key_id ≡ Some id → y.subject_key_id ≡ o
    → (((s : Bor (List ℕ)) × (o ≡ Some s)) × (option_map (λ (s : Bor (List ℕ)). s.now) o ≡ Some id.now → ⊥)) ↔ (KeyIdsAgree (certificate_of x) (certificate_of y) → ⊥)
differ_iff x y id None names own = (
  λ h. absurd (nothing h.0.0 h.0.1),
  λ h. absurd (h (none_own (certificate_of x) (certificate_of y) (has_none y own))),
)
differ_iff x y id (Some s) names own =
    let b = both_named (certificate_of x) (certificate_of y) id.now s.now (names_some x id names) (has_some y s own) in (
      λ h agree. h.1 (ap Some (sym (b.1 agree))),
      λ h. ((s, refl), λ e. h (b.0 (sym (held e)))),
    )

-- those of a name that differ
differing_iff : (items : List ReadItem) (x : CertificateItem) (id : Bor (List ℕ)) (ps : List ℕ) → x.authority_key_id ≡ Some id → ArePositions (HasSubject (map item_of items) x.issuer.now) ps → (w : ℕ)
    → ((Contains ps w × HasId items w) × (Contains ps w × IsOwnId items id.now w → ⊥)) ↔ IsDiffering (map item_of items) (certificate_of x) w
differing_iff items x id ps names are w = (
  λ h.
      let s = (are.exact w).0 h.0.0 in
      let y = read_there items x.issuer.now w s in
      let own = own_read items w y.0 y.1 in
      let subject = (with_read (λ d. name_octets d.subject ≡ x.issuer.now) items w y.0 y.1).1 s in
      let differ = differ_iff x y.0 id (own_id items w) names (sym own) in
      (with_read (λ d. (name_octets d.subject ≡ name_octets (certificate_of x).issuer) × (KeyIdsAgree (certificate_of x) d → ⊥)) items w y.0 y.1).0 (subject ∙ x.issuer_is, differ.0 (h.0.1, λ e. h.1 (h.0.0, e))),
  λ d.
      let s : HasSubject (map item_of items) x.issuer.now w = (d.0, λ e. let p = d.1 e in (p.0, p.1, p.2.0 ∙ sym x.issuer_is)) in
      let y = read_there items x.issuer.now w s in
      let own = own_read items w y.0 y.1 in
      let both = (with_read (λ d. (name_octets d.subject ≡ name_octets (certificate_of x).issuer) × (KeyIdsAgree (certificate_of x) d → ⊥)) items w y.0 y.1).1 d in
      let differ = (differ_iff x y.0 id (own_id items w) names (sym own)).1 both.1 in
      (((are.exact w).1 s, differ.0), λ h. differ.1 h.1),
)

pub differing_cut : (items : List ReadItem) (x : CertificateItem) (id : Bor (List ℕ)) (issuers : Issuers) (found : List ℕ) (cut : Cut) → x.authority_key_id ≡ Some id → AreIssuers items x.issuer.now issuers
    → ArePositions (λ w. Contains issuers.places.items w × IsOwnId items id.now w) found → IsCutOf (λ w. IsInRanges issuers.keyed.items w × (Contains found w → ⊥)) cut → IsCutOf (IsDiffering (map item_of items) (certificate_of x)) cut
differing_cut items x id issuers found cut names are agreeing h =
    cut_as (λ w. IsInRanges issuers.keyed.items w × (Contains found w → ⊥)) (IsDiffering (map item_of items) (certificate_of x)) cut
    (λ w.
    let iff = differing_iff items x id issuers.places.items names are.places w in (
      λ y. iff.0 ((are.keyed.exact w).0 y.0, λ o. y.1 ((agreeing.exact w).1 o)),
      λ d. let y = iff.1 d in ((are.keyed.exact w).1 y.0, λ c. y.1 ((agreeing.exact w).0 c)),
    )) h

-- if no key is named, none differs
pub none_differing : (items : List ReadItem) (x : CertificateItem) (cut : Cut) → x.authority_key_id ≡ None → CutsTo [] cut → IsCutOf (IsDiffering (map item_of items) (certificate_of x)) cut
none_differing items x cut is h =
    cut_none (IsDiffering (map item_of items) (certificate_of x)) cut
    (λ w d.
    let s : HasSubject (map item_of items) x.issuer.now w = (d.0, λ e. let p = d.1 e in (p.0, p.1, p.2.0 ∙ sym x.issuer_is)) in
    let y = read_there items x.issuer.now w s in
    let both = (with_read (λ d. (name_octets d.subject ≡ name_octets (certificate_of x).issuer) × (KeyIdsAgree (certificate_of x) d → ⊥)) items w y.0 y.1).1 d in
    both.1 (none_named (certificate_of x) (certificate_of y.0) (names_none x is))) h

-- ---- numbers of positions

pub shows_id : (items : List ReadItem) (ps : List ℕ) (id : List ℕ) (i : ℕ) → Shows Name (map (id_place items) ps) i id ↔ ((i < length ps) × IsOwnId items id (get_or ps i 0))
shows_id items ps id i = elim (cases_lt i (length ps)) [
  | inl lt ↦
      let is : slice_get (map (id_place items) ps) i ≡ Some (id_place items (get_or ps i 0)) = slice_get-map (id_place items) ps i ∙ ap (λ o. option_map (id_place items) o) (slice_get-get_or ps i 0 lt) in (
        λ s. (lt, ap (shown_at Name) (sym is) ∙ s),
        λ h. ap (shown_at Name) is ∙ h.1,
      )
  | inr past ↦
      let longer = length-map ps (id_place items) in (
        λ s. absurd (empty (sym (ap (shown_at Name) (slice_get_past (map (id_place items) ps) i (omega arith))) ∙ s)),
        λ h. let lt = h.0 in absurd (omega arith),
      )
]

-- the positions of the numbers that have a key identifier
pub with_id_iff : (items : List ReadItem) (ps numbers : List ℕ) (id : List ℕ) → ArePositions (λ i. Shows Name (map (id_place items) ps) i id) numbers → (w : ℕ)
    → ((i : ℕ) × Contains numbers i × (i < length ps) × (get_or ps i 0 ≡ w)) ↔ (Contains ps w × IsOwnId items id w)
with_id_iff items ps numbers id h w = (
  λ y.
      let shows = (shows_id items ps id y.0).0 ((h.exact y.0).0 y.1) in
      ((y.0, y.2, sym (get_or_default ps y.0 0 w y.2) ∙ y.3), subst (IsOwnId items id) y.3 shows.1),
  λ y.
      let at : get_or ps y.0.0 0 ≡ w = get_or_default ps y.0.0 0 w y.0.1 ∙ y.0.2 in
      (y.0.0, (h.exact y.0.0).1 ((shows_id items ps id y.0.0).1 (y.0.1, subst (IsOwnId items id) (sym at) y.1)), y.0.1, at),
)

-- those at some positions as they are brought together
pub issuers_made : (items : List ReadItem) (ps keyed : List ℕ) (shown : List Place) (i : Issuers) → IsStrictlyIncreasing ps → i.places.items ≡ ps → AreRanges (Contains ps) i.all.items
    → ArePositions (λ w. Contains ps w × HasId items w) keyed → AreRanges (Contains keyed) i.keyed.items → shown ≡ map (id_place items) ps → IsDirectory shown i.by_id.buckets.items
    → ArePositions (λ w. Contains ps w × (HasId items w → ⊥)) i.bare.items → AreRanges (Contains i.bare.items) i.bare_ranges.items → AreGathered items (Contains ps) i
issuers_made items ps keyed shown i up is all with ranges shows directory bare bare_ranges = record {
  places = subst (ArePositions (Contains ps)) (sym is) (record { ascends = up; exact = λ w. (λ c. c, λ c. c) });
  all = subst (λ (l : List ℕ). AreRanges (Contains l) i.all.items) (sym is) all;
  keyed = subst (λ (l : List ℕ). AreRanges (λ w. Contains l w × HasId items w) i.keyed.items) (sym is) (ranges_as i.keyed.items with.exact ranges);
  by_id = subst (λ (l : List ℕ). IsDirectory (map (id_place items) l) i.by_id.buckets.items) (sym is) (subst (λ (l : List Place). IsDirectory l i.by_id.buckets.items) shows directory);
  bare = subst (λ (l : List ℕ). ArePositions (λ w. Contains l w × (HasId items w → ⊥)) i.bare.items) (sym is) bare;
  bare_ranges = bare_ranges;
}

pub gathered_as : (items : List ReadItem) (P Q : ℕ → Type 0) (i : Issuers) → ((w : ℕ) → P w ↔ Q w) → AreGathered items P i → AreGathered items Q i
gathered_as items P Q i iff h = record {
  places = positions_as i.places.items iff h.places;
  all = h.all;
  keyed = h.keyed;
  by_id = h.by_id;
  bare = h.bare;
  bare_ranges = h.bare_ranges;
}

-- a position of one of some numbers
abbrev pub IsPicked : List ℕ → List ℕ → ℕ → Type 0
IsPicked ps numbers w = (i : ℕ) × Contains numbers i × (i < length ps) × (get_or ps i 0 ≡ w)

pub picked_none : (ps numbers : List ℕ) (w : ℕ) → Contains [] w ↔ IsPicked ps (take 0 numbers) w
picked_none ps numbers w = (λ c. let lt = c.1 in absurd (omega arith), λ y. let at = y.1 in let lt = at.1 in absurd (omega arith))

picked_step : (ps numbers : List ℕ) (k : ℕ) (w : ℕ) → k < length numbers → IsPicked ps (take (k + 1) numbers) w ↔ (IsPicked ps (take k numbers) w ⊎ ((get_or numbers k 0 < length ps) × (get_or ps (get_or numbers k 0) 0 ≡ w)))
picked_step ps numbers k w lt =
    let n = get_or numbers k 0 in
    let is = take_more numbers k 0 lt in (
      λ y. elim ((contains_more (take k numbers) n y.0).0 (subst (λ l. Contains l y.0) is y.1)) [
        | inl at ↦ inl (y.0, at, y.2, y.3)
        | inr e ↦ inr (subst (λ i. i < length ps) (sym e) y.2, subst (λ i. get_or ps i 0 ≡ w) (sym e) y.3)
      ],
      λ h. elim h [
        | inl y ↦ (y.0, subst (λ l. Contains l y.0) (sym is) ((contains_more (take k numbers) n y.0).1 (inl y.1)), y.2, y.3)
        | inr y ↦ (n, subst (λ l. Contains l n) (sym is) ((contains_more (take k numbers) n n).1 (inr refl)), y.0, y.1)
      ],
    )

pub picked_more : (ps numbers : List ℕ) (k : ℕ) (found : List ℕ) → k < length numbers → get_or numbers k 0 < length ps → ((w : ℕ) → Contains found w ↔ IsPicked ps (take k numbers) w)
    → (w : ℕ) → Contains (found ++ get_or ps (get_or numbers k 0) 0 ∷ []) w ↔ IsPicked ps (take (k + 1) numbers) w
picked_more ps numbers k found lt within h w =
    let p = get_or ps (get_or numbers k 0) 0 in
    let step = picked_step ps numbers k w lt in (
      λ c. elim ((contains_more found p w).0 c) [ inl at ↦ step.1 (inl ((h w).0 at)) | inr e ↦ step.1 (inr (within, e)) ],
      λ y. elim (step.0 y) [ inl z ↦ (contains_more found p w).1 (inl ((h w).1 z)) | inr z ↦ (contains_more found p w).1 (inr z.1) ],
    )

pub picked_same : (ps numbers : List ℕ) (k : ℕ) (found : List ℕ) → k < length numbers → length ps ≤ get_or numbers k 0 → ((w : ℕ) → Contains found w ↔ IsPicked ps (take k numbers) w)
    → (w : ℕ) → Contains found w ↔ IsPicked ps (take (k + 1) numbers) w
picked_same ps numbers k found lt past h w =
    let step = picked_step ps numbers k w lt in (
      λ c. step.1 (inl ((h w).0 c)),
      λ y. elim (step.0 y) [ inl z ↦ (h w).1 z | inr z ↦ let within = z.0 in absurd (omega arith) ],
    )

pub picked_all : (ps numbers : List ℕ) (k : ℕ) (found out : List ℕ) → length numbers ≤ k → ((w : ℕ) → Contains found w ↔ IsPicked ps (take k numbers) w) → ((w : ℕ) → Contains out w ↔ Contains found w)
    → (w : ℕ) → Contains out w ↔ IsPicked ps numbers w
picked_all ps numbers k found out le h kept w =
    let iff = subst (λ l. Contains found w ↔ IsPicked ps l w) (take_all k numbers le) (h w) in
    (λ c. iff.0 ((kept w).0 c), λ y. (kept w).1 (iff.1 y))

-- ---- certificates by names

some_none : {X : Type 0} {x : X} → Some x ≡ None → ⊥
some_none e = cc

one_held : {X : Type 0} {x y : X} → Some x ≡ Some y → x ≡ y
one_held e = cc

-- what is in a map under a name are the certificates of the name
abbrev AreHeld : List ReadItem → BTreeMap (Bor (List ℕ)) Issuers → Type 0
AreHeld items m = (q : Bor (List ℕ)) (issuers : Issuers) → mapped.get R m q ≡ Some issuers → AreIssuers items q.now issuers

pub held_none : (items : List ReadItem) (m : BTreeMap (Bor (List ℕ)) Issuers) → m.entries ≡ [] → AreHeld items m
held_none items m none q issuers is =
    let nothing_there : mapped.get R m q ≡ None = ap (λ es. lookup (is_at (R q)) es) none in
    absurd (some_none (sym is ∙ nothing_there))

pub held_more : (items : List ReadItem) (m n : BTreeMap (Bor (List ℕ)) Issuers) (t : Bor (List ℕ)) (l : Issuers) → AreHeld items m → AreIssuers items t.now l
    → ((q : Bor (List ℕ)) → mapped.get R n q ≡ cond (E t.now q.now) (Some l) (mapped.get R m q)) → AreHeld items n
held_more items m n t l h own update q issuers is = elim (cases_Bool (E t.now q.now)) [
  | inl eq ↦
      let this : issuers ≡ l = one_held (sym is ∙ update q ∙ cond-true _ _ _ eq) in
      subst (λ (z : List ℕ). AreIssuers items z issuers) ((same t.now q.now).0 eq) (subst (AreIssuers items t.now) (sym this) own)
  | inr un ↦ h q issuers (sym (update q ∙ cond-false _ _ _ un) ∙ is)
]

pub held_found : (items : List ReadItem) (m : BTreeMap (Bor (List ℕ)) Issuers) (q : Bor (List ℕ)) (o : Option (Bor Issuers)) → option_copied o ≡ mapped.get R m q → AreHeld items m → IfSome o (λ issuers. AreIssuers items q.now issuers.now)
held_found items m q None e h = tt
held_found items m q (Some l) e h = h q l.now (sym e)
