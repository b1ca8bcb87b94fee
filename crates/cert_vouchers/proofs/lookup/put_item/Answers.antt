use Rattle.std.proofs.Common.{◌≡◌, ◌∙◌, ap, sym, Some, None}
use Rattle.std.specs.BTreeMap as mapped
use Rattle.std.proofs.lemmas.Result.{on_ok_weaker}
use Rattle.sha2.specs.Sha256.{sha256}
use Rattle.cert_vouchers.specs.Vouching.{IsPlaced, IsFound}
use Rattle.cert_vouchers.proofs.Digests.{R, puts_none, puts_as, placed_here, placed_none}
use Rattle.cert_vouchers.proofs.lookup.put_item.Goals as goal

pub returns-in_default-get : goal.returns-in_default-get
returns-in_default-get g c =
    let pairs = c.args.pairs.now in
    let o = c.in-Some.item in
    let none : mapped.get R pairs (sha256 o.now) ≡ None = ap (mapped.get R pairs) (sym c.item_digest.ensures) ∙ sym c.in_default-get.ensures.value in
    puts_none c.args.rows.now.items (IsPlaced pairs c.args.places.now c.args.items.now c.args.place) c.args.place (placed_none pairs c.args.places.now c.args.items.now c.args.place o c.in-Some.ensures.found none)

pub returns : goal.returns
returns g c =
    let pairs = c.args.pairs.now in
    let m = c.args.places.now in
    let o = c.in-Some.item in
    let s = c.in-Some-get.keys.now in
    let is : mapped.get R pairs (sha256 o.now) ≡ Some s = ap (mapped.get R pairs) (sym c.item_digest.ensures) ∙ sym c.in-Some-get.ensures.value in
    on_ok_weaker c.put_keys.result
    (λ p. puts_as c.args.rows.now.items c.put_keys.new.rows.items (IsFound m s) (IsPlaced pairs m c.args.items.now c.args.place) c.args.place (placed_here pairs m c.args.items.now c.args.place o s c.in-Some.ensures.found is) p) c.put_keys.ensures
