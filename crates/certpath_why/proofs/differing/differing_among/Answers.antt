use Rattle.certpath_why.proofs.Naming.{differing_cut, none_differing}
use Rattle.certpath_why.proofs.differing.differing_among.Goals as goal

pub returns-in_default : goal.returns-in_default
returns-in_default c = λ items are. none_differing items c.args.certificate.now c.new.result c.in_default.is c.new.ensures

pub ranges_but-requires-clause-all : goal.ranges_but-requires-clause-all
ranges_but-requires-clause-all c = rw c.deref.ensures.value c.requires

pub ranges_but-requires-clause-left_out : goal.ranges_but-requires-clause-left_out
ranges_but-requires-clause-left_out c = rw c.deref-2.ensures.value c.in_ok-agreeing.ensures.ascends

pub returns : goal.returns
returns c = λ items are.
    let found = c.in_ok-agreeing.agreeing.items in
    differing_cut items c.args.certificate.now c.in-Some.id c.args.issuers.now found c.in_ok-differing.differing c.in-Some.is are (c.in_ok-agreeing.ensures.exact items are.by_id) (rw (c.deref.ensures.value, c.deref-2.ensures.value) at c.in_ok-differing.ensures)
