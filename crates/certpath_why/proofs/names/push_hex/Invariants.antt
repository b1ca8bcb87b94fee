use Rattle.std.proofs.Common.{◌≡◌, ◌++◌, take, string_bytes}
use Rattle.std.specs.List.{flat_map}
use Rattle.x509_names.specs.NameTexts.{upper_pair}
use Rattle.certpath_why.proofs.names.push_hex.Given as goal

abbrev pub invariant-loop-octet : goal.invariant-loop-octet
invariant-loop-octet l = string_bytes l.text ≡ string_bytes l.initial.text ++ flat_map upper_pair (take l.octet-index l.octets)
