use Rattle.certpath_why.specs.Holders.{KeysAdded}
use Rattle.certpath_why.proofs.holders.add_keys.Given as goal

abbrev pub invariant-loop-number : goal.invariant-loop-number
invariant-loop-number l = KeysAdded l.name l.keys l.found l.number l.initial.holders l.holders
