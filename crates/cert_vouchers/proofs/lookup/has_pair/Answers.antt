use Rattle.std.proofs.Common.{◌∙◌, ap, sym, subst}
use Rattle.std.specs.Prelude.{◌↔◌, IsTrue}
use Rattle.std.specs.BTreeMap as mapped
use Rattle.sha2.specs.Sha256.{sha256}
use Rattle.cert_vouchers.specs.Vouching.{HoldsKey}
use Rattle.cert_vouchers.proofs.Digests.{R, nothing_vouched, vouched_some, vouched_none}
use Rattle.cert_vouchers.proofs.lookup.has_pair.Goals as goal

pub returns-then-has_none : goal.returns-then-has_none
returns-then-has_none g c = nothing_vouched c.args.pairs.now (c.has_none.ensures c.if-has_none.true) (sha256 c.args.key.now) (sha256 c.args.item.now)

pub returns-in-Some : goal.returns-in-Some
returns-in-Some g c =
    let pairs = c.args.pairs.now in
    let is = ap (mapped.get R pairs) (sym c.item_digest.ensures) ∙ sym c.in-Some.ensures.value in
    let at = subst (λ d. IsTrue c.contains.result ↔ HoldsKey c.in-Some.keys.now d) c.key_digest.ensures c.contains.ensures in
    vouched_some pairs (sha256 c.args.key.now) (sha256 c.args.item.now) c.in-Some.keys.now c.contains.result is at

pub returns-in-None : goal.returns-in-None
returns-in-None g c =
    let pairs = c.args.pairs.now in
    vouched_none pairs (sha256 c.args.key.now) (sha256 c.args.item.now) (ap (mapped.get R pairs) (sym c.item_digest.ensures) ∙ sym c.in-None.ensures.value)
