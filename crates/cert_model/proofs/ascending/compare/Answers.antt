use Rattle.std.proofs.Common.{◌≡◌, refl}
use Rattle.std.specs.Ordering.{nat_cmp}
use Rattle.std.proofs.lemmas.Iterator.{YieldsList-from_slice}
use Rattle.std.proofs.lemmas.Iterator.Consumers.{YieldsList-at, YieldsList-from_chain}
use Rattle.std.proofs.lemmas.Iterator.Search.{cmp_from_yields_List}
use Rattle.cert_model.proofs.ascending.compare.Goals as goal

pub returns : goal.returns
returns c =
    cmp_from_yields_List (λ x y. y ≡ x) _ nat_cmp _ c.cmp.ensures.ran
    (YieldsList-from_chain (YieldsList-from_slice c.args.a.now.sequence.now cc)
    (YieldsList-at c.chain-a_octets.ensures.second (YieldsList-from_chain
    (YieldsList-at c.chain-a_content.ensures.first (YieldsList-from_chain (YieldsList-from_slice c.args.a.now.name.now cc) (YieldsList-from_slice c.args.a.now.identifier.now cc) (cc) (cc)))
    (YieldsList-at c.chain-a_content.ensures.second (YieldsList-from_chain (YieldsList-from_slice c.args.a.now.value.now cc) (YieldsList-from_slice c.args.a.now.content.now cc) (cc) (cc)))
    (cc) (cc))) (cc) (cc))
    (λ it e. YieldsList-at e (YieldsList-from_chain (YieldsList-from_slice c.args.b.now.sequence.now cc)
    (YieldsList-at c.chain-b_octets.ensures.second (YieldsList-from_chain
    (YieldsList-at c.chain-b_content.ensures.first (YieldsList-from_chain (YieldsList-from_slice c.args.b.now.name.now cc) (YieldsList-from_slice c.args.b.now.identifier.now cc) (cc) (cc)))
    (YieldsList-at c.chain-b_content.ensures.second (YieldsList-from_chain (YieldsList-from_slice c.args.b.now.value.now cc) (YieldsList-from_slice c.args.b.now.content.now cc) (cc) (cc)))
    (cc) (cc))) (cc) (cc)))
    (λ x y. refl)
