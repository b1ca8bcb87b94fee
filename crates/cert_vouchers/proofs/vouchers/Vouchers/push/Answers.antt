use Rattle.std.proofs.Common.{rules, ◌≡◌, ◌∙◌, sym, ap, ℕ, List, Option, Some, None, Result, Ok, Err, OnErr}
use Rattle.std.specs.Map.{lookup}
use Rattle.std.specs.BTreeMap as mapped
use Rattle.std.specs.BTreeMap.Entry.{entry_value}
use Rattle.cert_vouchers.specs.declared.keys.Keys.{Keys}
use Rattle.cert_vouchers.specs.declared.keys.Keys.TheVariants.{One}
use Rattle.cert_vouchers.proofs.Digests.{R, pair_pushed, pair_refused, keys_more, keys_kept, keys_first}
use Rattle.cert_vouchers.proofs.vouchers.Vouchers.push.Goals as goal

on_err : {X Y : Type 0} (r : Result X Y) (P : Type 0) → P → OnErr r P
on_err (Ok x) P p = tt
on_err (Err y) P p = p

-- what a map with these entries has at a key
abbrev at : List ℕ → List (List ℕ × Keys) → Option Keys
at q entries = lookup (mapped.is_at (R q)) entries

pub returns-in_err-add-in-Occupied-clause-refused : goal.returns-in_err-add-in-Occupied-clause-refused
returns-in_err-add-in-Occupied-clause-refused c =
    let old = c.args.self.now.pairs in
    let id = c.args.item_digest in
    let s = c.into_mut.result.now in
    let w = c.add.new.self in
    let is : mapped.get R old id ≡ Some s = sym c.in_ok-keys.ensures.value ∙ ap entry_value c.in-Occupied.is ∙ c.into_mut.ensures.value in
    let up = c.in_ok-keys.ensures.update.0 w in
    on_err c.from_residual-in_err-add-in-Occupied.result _ (pair_refused old _ id w (λ q. ap (at q) (search rules) ∙ up.0 q) (keys_kept old id s w is c.in_err-add-in-Occupied.ensures.refused))

pub returns-in_ok-add-in-Occupied-clause-pushed : goal.returns-in_ok-add-in-Occupied-clause-pushed
returns-in_ok-add-in-Occupied-clause-pushed c =
    let old = c.args.self.now.pairs in
    let id = c.args.item_digest in
    let kd = c.args.key_digest in
    let s = c.into_mut.result.now in
    let w = c.add.new.self in
    let is : mapped.get R old id ≡ Some s = sym c.in_ok-keys.ensures.value ∙ ap entry_value c.in-Occupied.is ∙ c.into_mut.ensures.value in
    let up = c.in_ok-keys.ensures.update.0 w in
    pair_pushed old _ id w (λ q. ap (at q) (search rules) ∙ up.0 q) kd (keys_more old id kd s w is c.in_ok-add-in-Occupied.ensures.added)

pub returns-in-Vacant-clause-pushed : goal.returns-in-Vacant-clause-pushed
returns-in-Vacant-clause-pushed c =
    let old = c.args.self.now.pairs in
    let id = c.args.item_digest in
    let kd = c.args.key_digest in
    let is : mapped.get R old id ≡ None = search rules in
    let up = c.in_ok-keys.ensures.update.0 (One kd) in
    pair_pushed old _ id (One kd) (λ q. ap (at q) (search rules) ∙ up.0 q) kd (keys_first old id kd is)
