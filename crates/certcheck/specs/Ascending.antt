-- Whether parts ascend, seen from one of them on.
use Rattle.std.specs.Prelude.{ℕ, List, Bool, true, ◌&&◌}
use Rattle.der_tree.specs.Tree.{Trees, none, more, octets}
use Rattle.cert_model.specs.Range.{is_at_most}
use Rattle.cert_model.specs.Reads.{ascend}

-- after a part of these octets
abbrev pub ascend_after : List ℕ → Trees → Bool
ascend_after last none = true
ascend_after last (more t ts) = is_at_most last (octets t) && ascend (more t ts)
