use Rattle.std.proofs.Common.{◌≡◌, ◌∙◌, ap, sym, subst, ℕ, ◌<◌, List, length, map, Bor, Vec, Global}
use Rattle.std.specs.Prelude.{All}
use Rattle.std.specs.List.Sorted.{IsStrictlyIncreasing}
use Rattle.std.proofs.lemmas.List.{length-map}
use Rattle.cert_graph.specs.declared.buckets.Bucket.{Bucket}
use Rattle.cert_graph.specs.Links.{Adds}
use Rattle.cert_graph.proofs.Adding.{adds_as}
use Rattle.cert_judge.specs.Copies.{AreCopies, AreIssuedRows, IsSided, IsLinkBy, IsAnchorBy, AreLinkable}
use Rattle.cert_judge.proofs.Listed.{lists_of}
use Rattle.cert_judge.proofs.Mapped.{map_twice}
use Rattle.cert_judge.proofs.Siding.{all_from}
use Rattle.cert_judge.proofs.Copying.{firsts_within}
use Rattle.cert_judge.proofs.NamedFacts.{under_from, linkable, all_named, all_named_anchors}
use Rattle.cert_judge.proofs.name_groups.link_name.Goals as goal

pub copies_of-requires-clause-ascends : goal.copies_of-requires-clause-ascends
copies_of-requires-clause-ascends g c = subst IsStrictlyIncreasing (sym c.deref.ensures.value) c.in_ok-issued.ensures.ascends

pub copies_of-requires-clause-within : goal.copies_of-requires-clause-within
copies_of-requires-clause-within g c =
    let js = c.args.items.now in
    let issued = c.in_ok-issued.issued.items in
    let under = under_from js c.args.all.now c.args.name.now c.args.places.now issued c.requires.named c.in_ok-issued.ensures.exact in
    subst (All (λ v. v < length js)) (sym c.deref.ensures.value) (all_from (λ v. v < length js) issued (λ v h. ((under v).0 h).0))

pub issued_by_each-requires : goal.issued_by_each-requires
issued_by_each-requires g c =
    let js = c.args.items.now in
    let issued = c.in_ok-issued.issued.items in
    let firsts = c.in_ok-copies.copies.firsts.items in
    let lists = lists_of c.in_ok-copies.copies.lists.items in
    let under = under_from js c.args.all.now c.args.name.now c.args.places.now issued c.requires.named c.in_ok-issued.ensures.exact in
    let copies = subst (λ l. AreCopies js l firsts lists) c.deref.ensures.value c.in_ok-copies.ensures in
    subst (All (λ v. v < length js)) (sym c.deref-3.ensures.value) (firsts_within js issued firsts lists copies (λ v h. ((under v).0 h).0))

pub link_sides-requires-clause-linkable : goal.link_sides-requires-clause-linkable
link_sides-requires-clause-linkable g c =
    let V = (g.V.Vouch.vouches_for c.args.vouch.now).Vouches in
    let demand = c.args.demand_lists in
    let js = c.args.items.now in
    let all = c.args.all.now in
    let m = c.args.anchors in
    let name = c.args.name.now in
    let places = c.args.places.now in
    let issued = c.in_ok-issued.issued.items in
    let firsts = c.in_ok-copies.copies.firsts.items in
    let lists = c.in_ok-copies.copies.lists.items in
    let bs = c.in_ok-buckets.buckets.items in
    let keys = c.in_ok-keys.keys.items in
    let holders = c.in_ok-holders.holders.items in
    let rows = c.in_ok-rows.rows.items in
    let under = under_from js all name places issued c.requires.named c.in_ok-issued.ensures.exact in
    let copies = subst (λ l. AreCopies js l firsts (lists_of lists)) c.deref.ensures.value c.in_ok-copies.ensures in
    let keys_are : keys ≡ map (λ (b : Bucket). b.text) bs = c.in_ok-keys.ensures ∙ ap (map (λ (b : Bucket). b.text)) c.deref-2.ensures.value in
    let holders_are : lists_of holders ≡ map (λ (b : Bucket). b.places.items) bs = ap lists_of c.in_ok-holders.ensures ∙ map_twice (λ (b : Bucket). b.places) (λ (l : Vec ℕ Global). l.items) bs in
    let issues = subst (λ (l : List (Bor (List ℕ))). AreIssuedRows V demand js firsts l (lists_of rows)) c.deref-4.ensures.value (subst (λ l. AreIssuedRows V demand js l c.deref-4.result.now (lists_of rows)) c.deref-3.ensures.value c.in_ok-rows.ensures) in
    let are = linkable V demand js all m name places issued c.requires.named under bs c.in_ok-buckets.ensures keys keys_are (lists_of holders) holders_are firsts (lists_of lists) (lists_of rows) copies issues c.requires.keyless in
    subst (λ (l : List (Vec ℕ Global)). AreLinkable (length js) (lists_of l) (lists_of c.deref-6.result.now)) (sym c.deref-5.ensures.value)
    (subst (λ (l : List (Vec ℕ Global)). AreLinkable (length js) (lists_of lists) (lists_of l)) (sym c.deref-6.ensures.value) are)

pub link_sides-requires-clause-count : goal.link_sides-requires-clause-count
link_sides-requires-clause-count g c =
    let V = (g.V.Vouch.vouches_for c.args.vouch.now).Vouches in
    let bs = c.in_ok-buckets.buckets.items in
    let keys = c.in_ok-keys.keys.items in
    let holders = c.in_ok-holders.holders.items in
    let rows = c.in_ok-rows.rows.items in
    let issues = subst (λ (l : List (Bor (List ℕ))). AreIssuedRows V c.args.demand_lists c.args.items.now c.deref-3.result.now l (lists_of rows)) c.deref-4.ensures.value c.in_ok-rows.ensures in
    let keys_are : keys ≡ map (λ (b : Bucket). b.text) bs = c.in_ok-keys.ensures ∙ ap (map (λ (b : Bucket). b.text)) c.deref-2.ensures.value in
    let one : length holders ≡ length bs = ap length c.in_ok-holders.ensures ∙ length-map bs (λ (b : Bucket). b.places) in
    let two : length keys ≡ length bs = ap length keys_are ∙ length-map bs (λ (b : Bucket). b.text) in
    let three : length rows ≡ length keys = sym (length-map rows (λ (l : Vec ℕ Global). l.items)) ∙ issues.count in
    ap length c.deref-6.ensures.value ∙ one ∙ sym two ∙ sym three ∙ sym (ap length c.deref-7.ensures.value)

pub returns : goal.returns
returns g c =
    let V = (g.V.Vouch.vouches_for c.args.vouch.now).Vouches in
    let demand = c.args.demand_lists in
    let js = c.args.items.now in
    let n = length js in
    let all = c.args.all.now in
    let m = c.args.anchors in
    let name = c.args.name.now in
    let places = c.args.places.now in
    let issued = c.in_ok-issued.issued.items in
    let firsts = c.in_ok-copies.copies.firsts.items in
    let lists = c.in_ok-copies.copies.lists.items in
    let bs = c.in_ok-buckets.buckets.items in
    let keys = c.in_ok-keys.keys.items in
    let holders = c.in_ok-holders.holders.items in
    let rows = c.in_ok-rows.rows.items in
    let under = under_from js all name places issued c.requires.named c.in_ok-issued.ensures.exact in
    let copies = subst (λ l. AreCopies js l firsts (lists_of lists)) c.deref.ensures.value c.in_ok-copies.ensures in
    let keys_are : keys ≡ map (λ (b : Bucket). b.text) bs = c.in_ok-keys.ensures ∙ ap (map (λ (b : Bucket). b.text)) c.deref-2.ensures.value in
    let holders_are : lists_of holders ≡ map (λ (b : Bucket). b.places.items) bs = ap lists_of c.in_ok-holders.ensures ∙ map_twice (λ (b : Bucket). b.places) (λ (l : Vec ℕ Global). l.items) bs in
    let issues = subst (λ (l : List (Bor (List ℕ))). AreIssuedRows V demand js firsts l (lists_of rows)) c.deref-4.ensures.value (subst (λ l. AreIssuedRows V demand js l c.deref-4.result.now (lists_of rows)) c.deref-3.ensures.value c.in_ok-rows.ensures) in
    let old = c.args.groups.now.items in
    let new = c.link_sides.new.groups.items in
    let S = λ (a b d : List (Vec ℕ Global)). IsSided (lists_of a) (lists_of b) (lists_of d) in
    let added = subst (λ (d : List (Vec ℕ Global)). Adds n old new (IsLinkBy (S rows lists d) all n) (IsAnchorBy (S rows lists d) n m)) c.deref-6.ensures.value
    (subst (λ (b : List (Vec ℕ Global)). Adds n old new (IsLinkBy (S rows b c.deref-6.result.now) all n) (IsAnchorBy (S rows b c.deref-6.result.now) n m)) c.deref-5.ensures.value
    (subst (λ (a : List (Vec ℕ Global)). Adds n old new (IsLinkBy (S a c.deref-5.result.now c.deref-6.result.now) all n) (IsAnchorBy (S a c.deref-5.result.now c.deref-6.result.now) n m)) c.deref-7.ensures.value c.in_ok-link_sides.ensures)) in
    adds_as n old new _ _ _ _ added
    (all_named V demand js all m name places issued c.requires.named under bs c.in_ok-buckets.ensures keys keys_are (lists_of holders) holders_are firsts (lists_of lists) (lists_of rows) copies issues)
    (all_named_anchors V demand js all m name places issued c.requires.named under bs c.in_ok-buckets.ensures keys keys_are (lists_of holders) holders_are firsts (lists_of lists) (lists_of rows) copies issues)
