use Rattle.std.proofs.Common.{refl}
use Rattle.asn1_core.specs.Reading.{header_at, strict_at, identity_at, length_at, size_at}
use Rattle.certpath_c.proofs.ShapesTaken.{taken}
use Rattle.certpath_c.proofs.laws.shapes_are_taken.Goals as goal

pub returns-clause-taken : goal.returns-clause-taken
returns-clause-taken c = taken

pub returns-clause-example : goal.returns-clause-example
unfolding header_at strict_at identity_at length_at size_at
returns-clause-example c = refl

pub returns-clause-kind : goal.returns-clause-kind
unfolding header_at strict_at identity_at length_at size_at
returns-clause-kind c = refl

pub returns-clause-longer : goal.returns-clause-longer
unfolding header_at strict_at identity_at length_at size_at
returns-clause-longer c = refl
