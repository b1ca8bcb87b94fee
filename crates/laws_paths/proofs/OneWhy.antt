-- Two texts of what prevents a path are equal: lines of links, certificates and lists, and all.
use Rattle.std.specs.Prelude.{◌↔◌, ◌⊎◌}
use Rattle.std.proofs.Common.{◌≡◌, ◌∙◌, refl, ap, sym, subst, ℕ, ◌+◌, ◌<◌, ◌≤◌, Bool, if◌then◌else◌, nat_eq, List, [], ◌∷◌, ◌++◌, length, flat_map, arith, get_or, le_refl, inl, inr, Contains, Option, Some, None}
use Rattle.cert_graph.specs.Adequate.{at_row, row_of, rows_of}
use Rattle.cert_graph.specs.Graph.{Graph}
use Rattle.cert_graph.specs.LawsOfNodes.{SayTheSame}
use Rattle.cert_graph.specs.Reach.{Takes}
use Rattle.cert_graph.specs.declared.answer.Answer.{Answer}
use Rattle.cert_graph.specs.declared.answer.Answer.TheVariants.{Path, NoPath, NoTarget}
use Rattle.cert_graph.specs.declared.answer.Table.{Table}
use Rattle.cert_graph.specs.declared.reach.Reach.{Reach}
use Rattle.cert_graph.specs.declared.reach.Reach.TheVariants.{No, UpTo, Any}
use Rattle.cert_judge.specs.Revoking.{Item, JudgingContext}
use Rattle.cert_judge.proofs.Grouping.{one_certificate}
use Rattle.cert_model.specs.Class.{Class}
use Rattle.cert_model.specs.Class as classes
use Rattle.cert_model.specs.Fields.{Certificate, RevocationList}
use Rattle.cert_model.specs.Octets.{name_octets}
use Rattle.cert_reasons.specs.Certificates.{HasReason, order_of}
use Rattle.cert_reasons.specs.Issuers.{HasIssuerReason, issuer_order}
use Rattle.cert_reasons.specs.Lists.{HasReasonAmong, list_order}
use Rattle.cert_reasons.specs.declared.issuers.NoIssuer.{NoIssuer}
use Rattle.cert_reasons.specs.declared.links.Unlinked.{Unlinked}
use Rattle.cert_reasons.specs.declared.links.Unlinked.TheVariants as links
use Rattle.cert_reasons.specs.declared.lists.Unused.{Unused}
use Rattle.cert_reasons.specs.declared.lists.Unused.TheVariants as lists
use Rattle.cert_reasons.proofs.Ordered.{all_as, one_list}
use Rattle.certpath_run.specs.Answered.{IsFound}
use Rattle.certpath_inputs.specs.declared.demand.Demand.{Demand}
use Rattle.certpath_why.specs.Bounds.{IsBound, reach_by}
use Rattle.certpath_why.specs.Demanded.{AreDemandLines}
use Rattle.certpath_why.specs.Lines.{issuer_line, link_lines, list_lines, reach_lines, subject_line, to_anchors, to_items, unusable_line}
use Rattle.certpath_why.specs.Reached.{ArePositions, HasSubject, IsCertificateAt, IsFurther}
use Rattle.certpath_why.specs.Why.{AreNoIssuerLines, AreTexts, AreUnusableLines, FailsTo, FailsToAnchor, IsLinkedTo, IsLinkedToAnchor, IsWhyFor, RevokesFirst, TellsAt, TellsCertificate, TellsGroup, TellsGroups, TellsItem, TellsItemAt, TellsLinks, TellsList, TellsReached, missing_lines, octets_at, positions}
use Rattle.laws_paths.proofs.Ascending.{all_among, empty_list, member, one_ascent, one_covering, one_merged, one_text_of_each}

-- ---- links

one_group : (front : List ℕ) (what : Option Unlinked) (P : ℕ → Type 0) (text other : List ℕ) → TellsGroup front what P text → TellsGroup front what P other → text ≡ other
one_group front what P text other h g =
    let same : h.0 ≡ g.0 =
    one_covering h.0 g.0 (λ r. r.first) (λ r. r.last) (λ r s a b. λ i. record { first = a i; last = b i }) P (record { exact = h.1.exact; apart = h.1.apart; none_empty = h.1.none_empty })
    (record { exact = g.1.exact; apart = g.1.apart; none_empty = g.1.none_empty }) in
    h.2 ∙ ap (link_lines front what) same ∙ sym g.2

-- of no position there is no line
no_line : (front : List ℕ) (what : Option Unlinked) (P : ℕ → Type 0) (text : List ℕ) → ((p : ℕ) → P p → ⊥) → TellsGroup front what P text → text ≡ []
no_line front what P text none h =
    let ranges : h.0 ≡ [] = empty_list h.0 (λ r at. none r.first ((h.1.exact r.first).0 (r, at, le_refl r.first, h.1.none_empty r at))) in
    h.2 ∙ ap (link_lines front what) ranges

same_five : (a b c d e a' b' c' d' e' : List ℕ) → a ≡ a' → b ≡ b' → c ≡ c' → d ≡ d' → e ≡ e' → a ++ (b ++ (c ++ (d ++ e))) ≡ a' ++ (b' ++ (c' ++ (d' ++ e')))
same_five a b c d e a' b' c' d' e' p q r s t = λ i. p i ++ (q i ++ (r i ++ (s i ++ t i)))

same_three : (a b c a' b' c' : List ℕ) → a ≡ a' → b ≡ b' → c ≡ c' → a ++ (b ++ c) ≡ a' ++ (b' ++ c')
same_three a b c a' b' c' p q r = λ i. p i ++ (q i ++ r i)

one_text_of_groups : (front : List ℕ) (Linked : ℕ → Type 0) (Fails : Unlinked → ℕ → Type 0) (text other : List ℕ) → TellsGroups front Linked Fails text → TellsGroups front Linked Fails other → text ≡ other
one_text_of_groups front Linked Fails text other h g =
    let linked = one_group front None Linked h.linked g.linked h.linked_is g.linked_is in
    let unvouched = one_group front (Some links.NotVouched) (Fails links.NotVouched) h.unvouched g.unvouched h.unvouched_is g.unvouched_is in
    let differing = one_group front (Some links.KeyIdsDiffer) (Fails links.KeyIdsDiffer) h.differing g.differing h.differing_is g.differing_is in
    let revoked =
    one_merged (λ (p : ℕ). TellsGroup front (Some (links.RevokedBy p)) (RevokesFirst Fails p)) (λ p. one_group front (Some (links.RevokedBy p)) (RevokesFirst Fails p)) h.lists g.lists h.lists_ascend g.lists_ascend
    (λ p t at none. no_line front (Some (links.RevokedBy p)) (RevokesFirst Fails p) t (λ w fails. none (g.lists_are_all p w fails)))
    (λ p t at none. no_line front (Some (links.RevokedBy p)) (RevokesFirst Fails p) t (λ w fails. none (h.lists_are_all p w fails))) h.revoked g.revoked h.revoked_is g.revoked_is in
    let lacking = one_group front (Some links.NoUsedList) (Fails links.NoUsedList) h.lacking g.lacking h.lacking_is g.lacking_is in
    h.text_is
    ∙ same_five h.linked h.unvouched h.differing h.revoked h.lacking g.linked g.unvouched g.differing g.revoked g.lacking linked unvouched differing revoked lacking
    ∙ sym g.text_is

one_text_of_links : (r : JudgingContext) (items anchors : List Item) (v : ℕ) (x : Item) (c : Certificate) (text other : List ℕ) → TellsLinks r items anchors v x c text → TellsLinks r items anchors v x c other → text ≡ other
one_text_of_links r items anchors v x c text other h g =
    let name = name_octets c.issuer in
    let issuers = one_ascent (HasSubject items name) h.issuers g.issuers h.issuers_are g.issuers_are in
    let roots = one_ascent (HasSubject anchors name) h.roots g.roots h.roots_are g.roots_are in
    let to_issuers = one_text_of_groups (to_items v) (IsLinkedTo r items x) (FailsTo r items x c) h.to_issuers g.to_issuers h.to_issuers_is g.to_issuers_is in
    let to_roots = one_text_of_groups (to_anchors v) (IsLinkedToAnchor r items anchors x) (FailsToAnchor r items anchors x c) h.to_roots g.to_roots h.to_roots_is g.to_roots_is in
    let missing : missing_lines v name h.issuers h.roots ≡ missing_lines v name g.issuers g.roots = λ i. missing_lines v name (issuers i) (roots i) in
    h.text_is
    ∙ same_three h.to_issuers h.to_roots (missing_lines v name h.issuers h.roots) g.to_issuers g.to_roots (missing_lines v name g.issuers g.roots) to_issuers to_roots missing
    ∙ sym g.text_is

-- ---- a certificate

one_text_of_unusable : (r : JudgingContext) (v : ℕ) (x : Item) (c : Certificate) (text other : List ℕ) → AreUnusableLines r v x c text → AreUnusableLines r v x c other → text ≡ other
one_text_of_unusable r v x c text other h g = h.2 ∙ ap (flat_map (unusable_line v c)) (one_list order_of (HasReason (r.Processes x.octets) r.moment c) h.0 g.0 h.1 g.1) ∙ sym g.2

one_text_of_no_issuer : (is_target : Bool) (v : ℕ) (c : Certificate) (text other : List ℕ) → AreNoIssuerLines is_target v c text → AreNoIssuerLines is_target v c other → text ≡ other
one_text_of_no_issuer is_target v c text other h g =
    h.2 ∙ ap (λ (reasons : List NoIssuer). if is_target then [] else flat_map (issuer_line v) reasons) (one_list issuer_order (HasIssuerReason c) h.0 g.0 h.1 g.1) ∙ sym g.2

one_text_of_certificate : (demand : Demand) (r : JudgingContext) (items anchors : List Item) (target v : ℕ) (x : Item) (c : Certificate)
    → ((text other : List ℕ) → AreDemandLines demand (octets_at items target) v x c text → AreDemandLines demand (octets_at items target) v x c other → text ≡ other)
    → (text other : List ℕ) → TellsCertificate demand r items anchors target v x c text → TellsCertificate demand r items anchors target v x c other → text ≡ other
one_text_of_certificate demand r items anchors target v x c one text other h g =
    let subject = subject_line v (name_octets c.subject) in
    let unusable = one_text_of_unusable r v x c h.unusable g.unusable h.unusable_is g.unusable_is in
    let unmet = one h.unmet g.unmet h.unmet_is g.unmet_is in
    let no_issuer = one_text_of_no_issuer (nat_eq v target) v c h.no_issuer g.no_issuer h.no_issuer_is g.no_issuer_is in
    let linked = one_text_of_links r items anchors v x c h.links g.links h.links_are g.links_are in
    h.text_is ∙ same_five subject h.unusable h.unmet h.no_issuer h.links subject g.unusable g.unmet g.no_issuer g.links refl unusable unmet no_issuer linked ∙ sym g.text_is

-- the items that are certificates have one text of what is demanded
abbrev pub OneUnmet : Demand → List Item → ℕ → Type 0
OneUnmet demand items target = (v : ℕ) (x : Item) (c : Certificate) → Contains items x → x.class ≡ classes.certificate c
    → (text other : List ℕ) → AreDemandLines demand (octets_at items target) v x c text → AreDemandLines demand (octets_at items target) v x c other → text ≡ other

-- an item as a default
some_item : Item
some_item = record { octets = []; class = classes.other }

one_text_at : (demand : Demand) (r : JudgingContext) (items anchors : List Item) (target : ℕ) → OneUnmet demand items target → (v : ℕ) (text other : List ℕ)
    → TellsAt demand r items anchors target v text → TellsAt demand r items anchors target v other → text ≡ other
one_text_at demand r items anchors target one v text other h g =
    let a = h.1 some_item in
    let b = g.1 some_item in
    let x = get_or items v some_item in
    let same : a.0 ≡ b.0 = one_certificate x.class a.0 b.0 a.1 b.1 in
    one_text_of_certificate demand r items anchors target v x b.0 (one v x b.0 (member items v some_item g.0) b.1) text other (subst (λ (c : Certificate). TellsCertificate demand r items anchors target v x c text) same a.2) b.2

-- ---- a list

-- reasons against a list depend on which keys there are, not on their order
among : (r : JudgingContext) (keys others : List (List ℕ)) (x : Item) (l : RevocationList) → ((key : List ℕ) → Contains keys key ↔ Contains others key) → (reason : Unused)
    → HasReasonAmong r keys x l reason ↔ HasReasonAmong r others x l reason
among r keys others x l same lists.NotVouched =
    let Unvouched : List ℕ → Type 0 = λ key. r.Vouches key x.octets → ⊥ in
    (all_among Unvouched keys others (λ key. (same key).1), all_among Unvouched others keys (λ key. (same key).0))
among r keys others x l same reason = (λ h. h, λ h. h)

one_text_of_list : (r : JudgingContext) (items anchors : List Item) (p : ℕ) (x : Item) (l : RevocationList) (text other : List ℕ) → TellsList r items anchors p x l text → TellsList r items anchors p x l other → text ≡ other
one_text_of_list r items anchors p x l text other h g =
    let same : (key : List ℕ) → Contains h.0 key ↔ Contains g.0 key = λ key. (λ at. (g.2 key).1 ((h.2 key).0 at), λ at. (h.2 key).1 ((g.2 key).0 at)) in
    let there = all_as list_order (HasReasonAmong r h.0 x l) (HasReasonAmong r g.0 x l) h.1 h.3 (among r h.0 g.0 x l same) in
    h.4 ∙ ap (λ (reasons : List Unused). list_lines p (name_octets l.issuer) l reasons) (one_list list_order (HasReasonAmong r g.0 x l) h.1 g.1 there g.3) ∙ sym g.4

one_text_of_item : (r : JudgingContext) (items anchors : List Item) (p : ℕ) (x : Item) (class : Class) (text other : List ℕ) → TellsItem r items anchors p x class text → TellsItem r items anchors p x class other → text ≡ other
one_text_of_item r items anchors p x (classes.certificate c) text other h g = h ∙ sym g
one_text_of_item r items anchors p x (classes.list l) text other h g = one_text_of_list r items anchors p x l text other h g
one_text_of_item r items anchors p x classes.other text other h g = h ∙ sym g

one_text_of_item_at : (r : JudgingContext) (items anchors : List Item) (p : ℕ) (text other : List ℕ) → TellsItemAt r items anchors p text → TellsItemAt r items anchors p other → text ≡ other
one_text_of_item_at r items anchors p text other h g = let x = get_or items p some_item in one_text_of_item r items anchors p x x.class text other (h.1 some_item) (g.1 some_item)

-- ---- how far each certificate leads

-- reaches that take the same counts are one
same_reach : (s t : Reach) → ((c : ℕ) → Takes s c ↔ Takes t c) → s ≡ t
same_reach No No same = refl
same_reach No (UpTo n) same = let least : 0 ≤ n = omega arith in absurd ((same 0).1 least)
same_reach No Any same = absurd ((same 0).1 tt)
same_reach (UpTo m) No same = let least : 0 ≤ m = omega arith in absurd ((same 0).0 least)
same_reach (UpTo m) (UpTo n) same =
    let low : m ≤ n = (same m).0 (le_refl m) in
    let high : n ≤ m = (same n).1 (le_refl n) in
    let even : m ≡ n = omega (arith, low, high) in
    ap UpTo even
same_reach (UpTo m) Any same = let more : m + 1 ≤ m = (same (m + 1)).1 tt in absurd (omega (arith, more))
same_reach Any No same = absurd ((same 0).0 tt)
same_reach Any (UpTo n) same = let more : n + 1 ≤ n = (same (n + 1)).0 tt in absurd (omega (arith, more))
same_reach Any Any same = refl

some_row : (g : Graph) (target : ℕ) (table : Table) → IsFound g target (NoPath table) → 0 < length (rows_of table)
some_row g target table h = let one = h.adequate in let count : length (rows_of table) ≡ 1 = ap (λ (rows : List (List Reach)). length rows) one.one in omega arith

same_rows : (g : Graph) (target : ℕ) (table second : Table) → IsFound g target (NoPath table) → IsFound g target (NoPath second) → (v : ℕ) → at_row (row_of (rows_of table) 0) v ≡ at_row (row_of (rows_of second) 0) v
same_rows g target table second h k v =
    let a = h.exact 0 (some_row g target table h) in
    let b = k.exact 0 (some_row g target second k) in
    same_reach (at_row (row_of (rows_of table) 0) v) (at_row (row_of (rows_of second) 0) v) (λ c. (λ t. (b.0 v c).1 ((a.0 v c).0 t), λ t. (a.0 v c).1 ((b.0 v c).0 t)))

-- answers that are found in one graph and say the same have one row
pub same_reaches : (g : Graph) (target : ℕ) (answer another : Answer) → IsFound g target answer → IsFound g target another → SayTheSame answer another → (v : ℕ) → reach_by answer v ≡ reach_by another v
same_reaches g target (Path ps a table) (Path qs b second) h k s v = refl
same_reaches g target (Path ps a table) (NoPath second) h k s v = absurd s
same_reaches g target (Path ps a table) NoTarget h k s v = absurd s
same_reaches g target (NoPath table) (Path qs b second) h k s v = absurd s
same_reaches g target (NoPath table) (NoPath second) h k s v = same_rows g target table second h k v
same_reaches g target (NoPath table) NoTarget h k s v = absurd s
same_reaches g target NoTarget (Path qs b second) h k s v = absurd s
same_reaches g target NoTarget (NoPath second) h k s v = absurd s
same_reaches g target NoTarget NoTarget h k s v = refl

-- ---- the whole

module _ (demand : Demand) (r search : JudgingContext) (items anchors : List Item) (target : ℕ) (one : OneUnmet demand items target) where
  certificate_there : (text : List ℕ) → TellsAt demand r items anchors target target text → IsCertificateAt items target
  certificate_there text h = (h.0, λ d. let c = h.1 d in (c.0, c.1, tt))

  abbrev IsOwn : List ℕ → Type 0
  IsOwn text = TellsAt demand r items anchors target target text ⊎ ((IsCertificateAt items target → ⊥) × (text ≡ []))

  one_own : (text other : List ℕ) → IsOwn text → IsOwn other → text ≡ other
  one_own text other (inl h) (inl g) = one_text_at demand r items anchors target one target text other h g
  one_own text other (inl h) (inr g) = absurd (g.0 (certificate_there text h))
  one_own text other (inr h) (inl g) = absurd (h.0 (certificate_there other g))
  one_own text other (inr h) (inr g) = h.1 ∙ sym g.1

  one_text_of_reached : (answer another : Answer) (text other : List ℕ) → reach_by answer ≡ reach_by another → TellsReached demand r search items anchors target answer text → TellsReached demand r search items anchors target another other → text ≡ other
  one_text_of_reached answer another text other same h g =
      let further : h.further ≡ g.further = one_ascent (IsFurther items target) h.further g.further h.further_are g.further_are in
      let own = one_own h.own g.own h.own_is g.own_is in
      let rest =
      one_text_of_each (TellsAt demand r items anchors target) (one_text_at demand r items anchors target one) g.further h.rest g.rest
      (subst (λ (ps : List ℕ). AreTexts (TellsAt demand r items anchors target) ps h.rest) further h.rest_is) g.rest_is in
      let bound : h.bound ≡ g.bound =
      one_ascent (IsBound search items target (reach_by another)) h.bound g.bound (subst (λ (reach : ℕ → Reach). ArePositions (IsBound search items target reach) h.bound) same h.bound_are) g.bound_are in
      let lengths : flat_map (λ v. reach_lines v (reach_by answer v)) h.bound ≡ flat_map (λ v. reach_lines v (reach_by another v)) g.bound = λ i. flat_map (λ v. reach_lines v (same i v)) (bound i) in
      h.text_is
      ∙ same_three h.own h.rest (flat_map (λ v. reach_lines v (reach_by answer v)) h.bound) g.own g.rest (flat_map (λ v. reach_lines v (reach_by another v)) g.bound) own rest lengths
      ∙ sym g.text_is

  pub one_why : (answer another : Answer) (text other : List ℕ) → reach_by answer ≡ reach_by another → IsWhyFor demand r search items anchors target answer text → IsWhyFor demand r search items anchors target another other → text ≡ other
  one_why answer another text other same h g =
      let reached : h.reached ≡ g.reached = one_text_of_reached answer another h.reached g.reached same h.reached_is g.reached_is in
      let unused : h.lists ≡ g.lists = one_text_of_each (TellsItemAt r items anchors) (one_text_of_item_at r items anchors) (positions (length items)) h.lists g.lists h.lists_are g.lists_are in
      let both : h.reached ++ h.lists ≡ g.reached ++ g.lists = λ i. reached i ++ unused i in
      h.text_is ∙ both ∙ sym g.text_is
