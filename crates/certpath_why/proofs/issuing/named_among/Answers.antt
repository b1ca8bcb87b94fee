use Rattle.certpath_why.proofs.Issues.{all_named, some_named}
use Rattle.certpath_why.proofs.issuing.named_among.Goals as goal

pub returns-in_default : goal.returns-in_default
returns-in_default c = λ items are certs. all_named items c.args.certificate.now c.args.under.now are certs c.extend_from_slice.new.self.items c.in_default.is (rw (c.new-all.ensures.items, c.deref.ensures.value) at c.in_ok-extend_from_slice.ensures.items)

pub returns : goal.returns
returns c = λ items are certs. some_named items c.args.certificate.now c.args.under.now are certs c.in-Some.id c.in_ok-named.named.items c.in-Some.is (c.in_ok-named.ensures.exact items are.by_id)
