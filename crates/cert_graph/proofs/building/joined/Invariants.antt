use Rattle.std.proofs.Common.{◌≡◌, ℕ, ◌≤◌, length, map, take, get_or, Vec, Global}
use Rattle.cert_graph.proofs.building.joined.Given as goal

abbrev pub invariant-loop-place : goal.invariant-loop-place
invariant-loop-place l = record {
  members_count : length l.members.items ≡ length l.fn.members.items;
  anchors_count : length l.anchors.items ≡ length l.fn.anchors.items;
  issued_count : length l.issued.items ≡ length l.fn.issued.items;
  members_left : (j : ℕ) (d : Vec ℕ Global) → l.place ≤ j → get_or l.members.items j d ≡ get_or l.fn.members.items j d;
  anchors_left : (j : ℕ) (d : Vec ℕ Global) → l.place ≤ j → get_or l.anchors.items j d ≡ get_or l.fn.anchors.items j d;
  issued_left : (j : ℕ) (d : Vec ℕ Global) → l.place ≤ j → get_or l.issued.items j d ≡ get_or l.fn.issued.items j d;
  members_made : map (λ g. g.members.items) l.groups.items ≡ take l.place (map (λ x. x.items) l.fn.members.items);
  anchors_made : map (λ g. g.anchors.items) l.groups.items ≡ take l.place (map (λ x. x.items) l.fn.anchors.items);
  issued_made : map (λ g. g.issued.items) l.groups.items ≡ take l.place (map (λ x. x.items) l.fn.issued.items);
}
