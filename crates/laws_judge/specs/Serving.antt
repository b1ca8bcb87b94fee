-- Demands, and what permits by them: they try the laws' definitions, not the code.
use Rattle.std.specs.Prelude.{true, Some, None, []}
use Rattle.std.specs.Borrow.{Bor}
use Rattle.cert_purpose.specs.Examples.{server_auth}
use Rattle.cert_serving.specs.declared.permits.Permits.{Permits}
use Rattle.cert_serving.specs.Demanding.{Demanded}
use Rattle.laws_items.specs.Classes.{null_octets}

-- a purpose is demanded, of a target that is a NULL
abbrev pub servers : Demanded
servers = record { purpose = Some server_auth; host = None; target = null_octets }

-- no item is refused
abbrev pub allowing : Bor Permits
allowing = record { ref_ptr = (0, 0); now = record { refused = record { keys = [] }; has_purpose = true; host_target = None } }
