use Rattle.std.proofs.Common.{◌≡◌, map, take, Bor, List, ℕ}
use Rattle.cert_judge.specs.declared.items.ReadItem.{ReadItem}
use Rattle.cert_judge.specs.Items.{item_of}
use Rattle.certpath_why.proofs.signers.octets_of_all.Given as goal

abbrev pub invariant-loop-item : goal.invariant-loop-item
invariant-loop-item l = map (λ (o : Bor (List ℕ)). o.now) l.octets.items ≡ map (λ (x : ReadItem). (item_of x).octets) (take l.item-index l.items)
