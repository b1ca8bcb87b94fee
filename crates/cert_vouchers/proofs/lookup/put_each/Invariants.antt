use Rattle.std.proofs.Common.{◌≡◌, ◌++◌, map}
use Rattle.cert_vouchers.specs.Vouching.{Puts}
use Rattle.cert_vouchers.proofs.Digests.{FoundIn}
use Rattle.cert_vouchers.proofs.lookup.put_each.Given as goal

abbrev pub invariant-loop-digest : goal.invariant-loop-digest
invariant-loop-digest l = (map (λ d. d.now) l.yielded ++ l.digest-iterator ≡ l.digests.keys) × Puts l.initial.rows.items l.rows.items (FoundIn l.places (map (λ d. d.now) l.yielded)) l.place
