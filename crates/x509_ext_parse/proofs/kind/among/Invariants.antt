use Rattle.std.proofs.Common.{◌≡◌, drop}
use Rattle.x509_ext_parse.specs.Reading.{among}
use Rattle.x509_ext_parse.proofs.kind.among.Given as goal

-- what was passed is another kind's
abbrev pub invariant-loop-kind : goal.invariant-loop-kind
invariant-loop-kind l = among l.fn.identifier (drop l.kind-index l.fn.kinds) ≡ among l.fn.identifier l.fn.kinds
