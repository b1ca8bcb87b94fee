use Rattle.std.proofs.Common.{◌≡◌, ◌∙◌, sym, None}
use Rattle.std.specs.BTreeMap as mapped
use Rattle.std.proofs.lemmas.Result.{on_ok_weaker}
use Rattle.cert_vouchers.specs.Vouching.{IsOf}
use Rattle.cert_vouchers.proofs.Digests.{R, none_some, puts_none, puts_one, puts_as, found_at}
use Rattle.cert_vouchers.proofs.lookup.put_one.Goals as goal

pub returns-in-Some : goal.returns-in-Some
returns-in-Some c =
    let m = c.args.places.now in
    let d = c.args.digest.now in
    let j = c.in-Some.number.now in
    let old = c.args.rows.now.items in
    let new = c.put.new.lists.items in
    on_ok_weaker c.put.result (λ p. puts_as old new (λ k. k ≡ j) (IsOf m d) c.args.place (found_at m d j (sym c.in-Some.ensures.value)) (puts_one old new j c.args.place p)) c.put.ensures

pub returns-in-None : goal.returns-in-None
returns-in-None c =
    let m = c.args.places.now in
    let d = c.args.digest.now in
    let none : mapped.get R m d ≡ None = sym c.in-None.ensures.value in
    puts_none c.args.rows.now.items (IsOf m d) c.args.place (λ k e. none_some (sym none ∙ e))
