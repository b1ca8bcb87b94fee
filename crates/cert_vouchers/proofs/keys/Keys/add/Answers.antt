use Rattle.std.specs.Prelude.{◌↔◌, ◌⊎◌, IsTrue}
use Rattle.std.proofs.Common.{◌≡◌, sym, subst}
use Rattle.std.specs.BTreeSet.{contains}
use Rattle.cert_vouchers.specs.declared.keys.Keys.{Keys}
use Rattle.cert_vouchers.specs.Vouching.{HoldsKey}
use Rattle.cert_vouchers.proofs.Digests.{R, set_more}
use Rattle.cert_vouchers.proofs.keys.Keys.add.Goals as goal

pub returns-in_ok-insert-in-Many-clause-added : goal.returns-in_ok-insert-in-Many-clause-added
returns-in_ok-insert-in-Many-clause-added c = λ k.
    subst (λ (keys : Keys). IsTrue (contains R c.insert.new.self k) ↔ (HoldsKey keys k ⊎ (k ≡ c.args.key))) (sym c.in-Many.is)
    (set_more c.in-Many.keys c.insert.new.self c.args.key (λ q. c.in_ok-insert-in-Many.ensures.updates.0 q) k)
