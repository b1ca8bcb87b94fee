use Rattle.std.proofs.Common.{◌≡◌, ◌∙◌, ◌<◌, length, arith, subst}
use Rattle.certpath_why.specs.Holders.{KeysAdded}
use Rattle.certpath_why.proofs.Holding.{keys_none, keys_more}
use Rattle.certpath_why.proofs.holders.add_keys.Goals as goal

pub loop-number-init : goal.loop-number-init
loop-number-init c = keys_none c.args.name.now c.args.keys.now c.args.found.now c.args.holders.now

pub loop-number-preserved : goal.loop-number-preserved
loop-number-preserved c =
    let same = c.requires in
    let lt = c.loop-number-test.true in
    let less : c.loop-number.number < length c.args.keys.now = omega arith in
    keys_more c.args.name.now c.args.keys.now c.args.found.now c.loop-number.number c.args.holders.now c.loop-number.holders (record { all = c.push.new.self; rows = c.add_row.new.lists }) c.in_ok-holder.holder c.index-keys-number.result c.index-found-number.result
    lt less c.index-found-number.is c.index-keys-number.is c.in_ok-holder.ensures c.loop-number.invariant c.in_ok-push.ensures.items (rw (c.deref.ensures.value, c.len.ensures ∙ c.loop-number.holders.all.ok.0) at c.in_ok-add_row.ensures)

pub returns : goal.returns
returns c =
    let end : c.loop-number.number ≡ length c.args.keys.now = let same = c.requires in omega arith in
    subst (λ j. KeysAdded c.args.name.now c.args.keys.now c.args.found.now j c.args.holders.now c.loop-number.holders) end c.loop-number.invariant
