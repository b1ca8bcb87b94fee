use Rattle.std.proofs.Common.{sym}
use Rattle.certpath_why.proofs.Numbers.{found_positions, no_positions}
use Rattle.certpath_why.proofs.directory.Directory.positions.Goals as goal

pub places_in-requires : goal.places_in-requires
places_in-requires c = rw c.deref.ensures.value (c.args.self.now.numbered.known c.args.name c.in-Some.number (sym c.in-Some.ensures)).0

pub returns-in-Some : goal.returns-in-Some
returns-in-Some c = λ all h.
    let d = c.args.self.now in
    found_positions all d.buckets.items d.numbers c.args.name c.in-Some.number c.places_in.result.now d.numbered h (sym c.in-Some.ensures) (rw c.deref.ensures.value at c.places_in.ensures)

pub returns-in-None : goal.returns-in-None
returns-in-None c = λ all h. no_positions all c.args.self.now.buckets.items c.args.self.now.numbers c.args.name c.args.self.now.numbered h (sym c.in-None.ensures)
