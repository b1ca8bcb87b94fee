use Rattle.std.proofs.Common.{sym, subst, OnOk}
use Rattle.std.proofs.lemmas.Result.{on_ok_weaker}
use Rattle.cert_vouchers.specs.declared.keys.Keys.{Keys}
use Rattle.cert_vouchers.specs.declared.keys.Keys.TheVariants.{One, Many}
use Rattle.cert_vouchers.specs.Vouching.{Puts, IsOf, IsAmong, IsFound}
use Rattle.cert_vouchers.proofs.Digests.{puts_as, found_one, found_many}
use Rattle.cert_vouchers.proofs.lookup.put_keys.Goals as goal

pub returns-in-One : goal.returns-in-One
returns-in-One c =
    let m = c.args.places.now in
    let d = c.in-One.digest in
    let old = c.args.rows.now.items in
    let new = c.put_one.new.rows.items in
    subst (λ (keys : Keys). OnOk c.put_one.result (Puts old new (IsFound m keys) c.args.place)) (sym c.in-One.is)
    (on_ok_weaker c.put_one.result (λ p. puts_as old new (IsOf m d) (IsFound m (One d)) c.args.place (found_one m d) p) c.put_one.ensures)

pub returns-in-Many : goal.returns-in-Many
returns-in-Many c =
    let m = c.args.places.now in
    let ds = c.in-Many.digests in
    let old = c.args.rows.now.items in
    let new = c.put_each.new.rows.items in
    subst (λ (keys : Keys). OnOk c.put_each.result (Puts old new (IsFound m keys) c.args.place)) (sym c.in-Many.is)
    (on_ok_weaker c.put_each.result (λ p. puts_as old new (IsAmong m ds) (IsFound m (Many ds)) c.args.place (found_many m ds) p) c.put_each.ensures)
