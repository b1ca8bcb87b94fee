use Rattle.std.proofs.Common.{◌≡◌, ◌-◌, ◌<◌, ◌≤◌, List, ℕ, length, get_or, take, drop, Some, slice_get, arith, rules}
use Rattle.std.proofs.lemmas.List.{get_or_read}
use Rattle.cert_framing.specs.Pieces.{pieces, RunsTo, start_at}
use Rattle.cert_framing.proofs.PieceLemmas.{length-pieces, part_within, part_is}
use Rattle.cert_framing.proofs.items.Items.get.Goals as goal

-- what the code reads is where the part begins and where it ends
within : (ends : List ℕ) (at k start place : ℕ) → RunsTo 0 ends at → k < length ends → start ≡ start_at 0 ends k → place ≡ get_or ends k place
    → (start ≤ place) × (place ≤ at)
within ends at k start place runs low first last =
    let there : place ≡ get_or ends k 0 = get_or_read ends k place low last 0 in
    rw (first, there) (part_within 0 ends at k runs low)

part : (ends octets : List ℕ) (k start place : ℕ) → k < length ends → start ≡ start_at 0 ends k → place ≡ get_or ends k place
    → slice_get (pieces 0 ends octets) k ≡ Some (take (place - start) (drop start octets))
part ends octets k start place low first last =
    let there : place ≡ get_or ends k 0 = get_or_read ends k place low last 0 in
    rw (first, there) (part_is 0 ends octets k low)

pub start_of-start-requires : goal.start_of-start-requires
start_of-start-requires c =
    let f = c.self.inside in
    let size : length c.args.self.now.items ≡ length f.ends.items = rw (← c.self.view_is) (length-pieces 0 f.ends.items f.octets.items) in
    rw c.deref.ensures.value (omega arith)

pub index-requires : goal.index-requires
index-requires c =
    let f = c.self.inside in
    let size : length c.args.self.now.items ≡ length f.ends.items = rw (← c.self.view_is) (length-pieces 0 f.ends.items f.octets.items) in
    omega (arith, f.ends.ok.0)

pub slice_bounds-result-count : goal.slice_bounds-result-count
slice_bounds-result-count c =
    let f = c.self.inside in
    let size : length c.args.self.now.items ≡ length f.ends.items = rw (← c.self.view_is) (length-pieces 0 f.ends.items f.octets.items) in
    let first : c.start_of-start.result ≡ start_at 0 f.ends.items c.args.k = rw c.deref.ensures.value at c.start_of-start.ensures in
    (within f.ends.items (length f.octets.items) c.args.k c.start_of-start.result c.index.result.now c.self.invariant (omega arith) first c.index.ensures).0

pub slice_bounds-result-start : goal.slice_bounds-result-start
slice_bounds-result-start c =
    let rise : c.start_of-start.result ≤ c.index.result.now = slice_bounds-result-count c in
    search (rules, rise)

pub slice_bounds-result-end : goal.slice_bounds-result-end
slice_bounds-result-end c =
    let f = c.self.inside in
    let size : length c.args.self.now.items ≡ length f.ends.items = rw (← c.self.view_is) (length-pieces 0 f.ends.items f.octets.items) in
    let first : c.start_of-start.result ≡ start_at 0 f.ends.items c.args.k = rw c.deref.ensures.value at c.start_of-start.ensures in
    let both = within f.ends.items (length f.octets.items) c.args.k c.start_of-start.result c.index.result.now c.self.invariant (omega arith) first c.index.ensures in
    let all : c.index.result.now ≤ length c.deref-2.result.now = rw c.deref-2.ensures.value both.1 in
    search (rules, all)

pub returns : goal.returns
returns c =
    let f = c.self.inside in
    let size : length c.args.self.now.items ≡ length f.ends.items = rw (← c.self.view_is) (length-pieces 0 f.ends.items f.octets.items) in
    let first : c.start_of-start.result ≡ start_at 0 f.ends.items c.args.k = rw c.deref.ensures.value at c.start_of-start.ensures in
    rw (← c.self.view_is, c.deref-2.ensures.value) (part f.ends.items f.octets.items c.args.k c.start_of-start.result c.index.result.now (omega arith) first c.index.ensures)
