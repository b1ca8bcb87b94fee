-- An attribute's octets in the pieces that lie in one place each.
use Rattle.std.specs.Prelude.{ℕ, List, ◌++◌}
use Rattle.cert_model.specs.declared.ascending.Pieces.{Pieces}

-- an attribute's octets, piece by piece
abbrev pub octets_of : Pieces → List ℕ
octets_of p = p.sequence.now ++ ((p.name.now ++ p.identifier.now) ++ (p.value.now ++ p.content.now))
