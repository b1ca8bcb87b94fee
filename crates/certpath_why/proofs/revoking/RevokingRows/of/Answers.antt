use Rattle.std.proofs.Common.{◌∙◌, ◌<◌, sym, length, arith}
use Rattle.std.proofs.lemmas.List.{get_or_default}
use Rattle.certpath_why.proofs.Rowed.{revokers_there}
use Rattle.certpath_why.proofs.revoking.RevokingRows.of.Goals as goal

pub returns-clause-found : goal.returns-clause-found
returns-clause-found c = λ xs moment x numbered at.
    let n = c.in-Some.number.now in
    let rows = c.args.self.now in
    let there = numbered c.args.place n (sym c.in-Some.ensures.value) in
    let less = there.0 in
    let count = c.requires.firsts.count in
    let lt : n < length rows.firsts.items = omega arith in
    revokers_there xs moment rows n x _ c.requires.firsts (there.1 x at) (c.index-first.ensures ∙ get_or_default rows.firsts.items n c.index-first.result.now 0 lt) (rw c.deref.ensures.value at c.row_at.ensures)
