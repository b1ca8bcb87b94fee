-- Three ways out: no such list, the position is there, or it is put at the end.
use Rattle.std.proofs.Common.{◌≡◌, ℕ, ◌<◌, List, length, map, set, Vec, Global, true, rules, sym, ap, ◌∙◌, subst}
use Rattle.std.proofs.lemmas.List.{set-get_or}
use Rattle.cert_graph.specs.Lists.{HasLast, IsPut}
use Rattle.cert_graph.proofs.Filled.{put_past, put_there, put_end}
use Rattle.cert_graph.proofs.lists.put.Goals as goal

pub returns-then-place-len : goal.returns-then-place-len
returns-then-place-len c = put_past c.args.lists.now.items c.args.place c.args.position (search rules)

pub returns-then-ends_in : goal.returns-then-ends_in
returns-then-ends_in c =
    let vectors = c.args.lists.now.items in
    let list = c.index_mut-list.result.now in
    let within : c.args.place < length vectors = search rules in
    let kept : set vectors c.args.place list ≡ vectors = ap (λ (l : Vec ℕ Global). set vectors c.args.place l) c.index_mut-list.ensures.value ∙ set-get_or vectors c.args.place list in
    subst (λ (ys : List (Vec ℕ Global)). IsPut (map (λ l. l.items) vectors) (map (λ l. l.items) ys) c.args.place c.args.position) (sym kept)
    (put_there vectors c.args.place c.args.position list within c.index_mut-list.ensures.value
    (subst (λ (xs : List ℕ). HasLast xs c.args.position) c.deref.ensures.value (c.ends_in.ensures.0 c.if-ends_in.true)))

pub returns : goal.returns
returns c =
    let vectors = c.args.lists.now.items in
    let list = c.index_mut-list.result.now in
    let within : c.args.place < length vectors = search rules in
    put_end vectors c.args.place c.args.position list c.push.new.self within c.index_mut-list.ensures.value
    (λ h. let yes : c.ends_in.result ≡ true = c.ends_in.ensures.1 (subst (λ (xs : List ℕ). HasLast xs c.args.position) (sym c.deref.ensures.value) h) in cc)
    c.in_ok-push.ensures.items
