use Rattle.certpath_why.proofs.Issues.{all_agree, bare_agree, both_agree}
use Rattle.certpath_why.proofs.issuing.linked_among.Goals as goal

pub returns-in_default : goal.returns-in_default
returns-in_default c = λ items are certs. all_agree items c.args.certificate.now c.args.under.now are certs c.in_ok-all.all c.in_default.is (rw c.deref.ensures.value at c.in_ok-all.ensures)

pub returns-then-is_none : goal.returns-then-is_none
returns-then-is_none c = λ items are certs.
    bare_agree items c.args.certificate.now c.args.under.now are certs c.in-Some.id c.in_ok-agreeing.agreeing.items c.in_ok-bare.bare c.in-Some.is (c.in_ok-agreeing.ensures.exact items are.by_id) (rw c.deref-2.ensures.value at (c.is_none.ensures.0 c.if-is_none.true)) (rw c.deref-then-is_none.ensures.value at c.in_ok-bare.ensures)

pub cut_of-requires : goal.cut_of-requires
cut_of-requires c = rw c.deref-4.ensures.value c.in_ok-put_in_order.ensures.ascend

pub returns : goal.returns
returns c = λ items are certs.
    both_agree items c.args.certificate.now c.args.under.now are certs c.in-Some.id c.in_ok-agreeing.agreeing.items c.extend_from_slice.new.self.items c.put_in_order.new.positions.items c.in_ok-linked.linked c.in-Some.is (c.in_ok-agreeing.ensures.exact items are.by_id)
    (rw c.deref-3.ensures.value at c.in_ok-extend_from_slice.ensures.items) c.in_ok-put_in_order.ensures.kept (rw c.deref-4.ensures.value at c.in_ok-linked.ensures)
