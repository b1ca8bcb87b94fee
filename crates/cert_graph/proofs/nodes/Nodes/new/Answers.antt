-- The lists that were filled are those of the groups.
use Rattle.std.proofs.Common.{◌≡◌, ℕ, length, map, Vec, Global, ap, sym, ◌∙◌}
use Rattle.std.proofs.lemmas.List.{length-map}
use Rattle.cert_graph.specs.declared.nodes.Group.{Group}
use Rattle.cert_graph.specs.declared.entries.Entry.{Entry}
use Rattle.cert_graph.specs.Entries.{BelongsTo, LinkedTo, AnchorIn}
use Rattle.cert_graph.proofs.Joined.{vectors_ascend}
use Rattle.cert_graph.proofs.BuiltFacts.{all_within, built_links, built_agrees}
use Rattle.cert_graph.proofs.nodes.Nodes.new.Goals as goal

pub joined-requires-clause-members_ascend : goal.joined-requires-clause-members_ascend
joined-requires-clause-members_ascend c =
    vectors_ascend (BelongsTo c.args.entries.now) c.args.groups (length c.args.entries.now) c.in_ok-members.members.items c.in_ok-members.ensures

pub joined-requires-clause-anchors_ascend : goal.joined-requires-clause-anchors_ascend
joined-requires-clause-anchors_ascend c =
    vectors_ascend (AnchorIn c.args.anchors.now) c.args.groups (length c.args.anchors.now) c.in_ok-anchors.anchors.items c.in_ok-anchors.ensures

pub joined-requires-clause-issued_ascend : goal.joined-requires-clause-issued_ascend
joined-requires-clause-issued_ascend c =
    vectors_ascend (LinkedTo c.args.entries.now) c.args.groups (length c.args.entries.now) c.in_ok-issued.issued.items c.in_ok-issued.ensures

pub invariant_of-result : goal.invariant_of-result
invariant_of-result c =
    let entries = c.args.entries.now in
    let same : length entries ≡ length c.in_ok-items.items.items = sym (ap length c.in_ok-items.ensures ∙ length-map entries (λ (e : Entry). e.node)) in
    record {
      members_within = all_within (BelongsTo entries) c.args.groups (length entries) (length c.in_ok-items.items.items) (λ (g : Group). g.members.items) c.in_ok-groups.groups.items
          (map (λ (l : Vec ℕ Global). l.items) c.in_ok-members.members.items) c.in_ok-members.ensures c.in_ok-groups.ensures.members same;
      issued_within = all_within (LinkedTo entries) c.args.groups (length entries) (length c.in_ok-items.items.items) (λ (g : Group). g.issued.items) c.in_ok-groups.groups.items
          (map (λ (l : Vec ℕ Global). l.items) c.in_ok-issued.issued.items) c.in_ok-issued.ensures c.in_ok-groups.ensures.issued same;
    }

pub returns-clause-agrees : goal.returns-clause-agrees
returns-clause-agrees c =
    built_agrees _ c.args.entries.now c.args.anchors.now c.args.groups (map (λ (l : Vec ℕ Global). l.items) c.in_ok-members.members.items) (map (λ (l : Vec ℕ Global). l.items) c.in_ok-anchors.anchors.items)
    (map (λ (l : Vec ℕ Global). l.items) c.in_ok-issued.issued.items) c.in_ok-items.ensures c.in_ok-members.ensures c.in_ok-anchors.ensures c.in_ok-issued.ensures
    c.in_ok-groups.ensures.members c.in_ok-groups.ensures.anchors c.in_ok-groups.ensures.issued

pub returns-clause-links : goal.returns-clause-links
returns-clause-links c =
    built_links _ c.args.entries.now c.args.anchors.now c.args.groups (map (λ (l : Vec ℕ Global). l.items) c.in_ok-members.members.items) (map (λ (l : Vec ℕ Global). l.items) c.in_ok-issued.issued.items)
    c.in_ok-members.ensures c.in_ok-issued.ensures c.in_ok-groups.ensures.members c.in_ok-groups.ensures.issued
