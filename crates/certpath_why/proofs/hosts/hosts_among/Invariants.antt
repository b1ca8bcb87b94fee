use Rattle.std.proofs.Common.{◌≡◌, map, take}
use Rattle.cert_serving.specs.View.{general_name_view}
use Rattle.certpath_why.specs.Hosts.{hosts_among}
use Rattle.certpath_why.proofs.hosts.hosts_among.Given as goal

abbrev pub invariant-loop-name : goal.invariant-loop-name
invariant-loop-name l = map general_name_view l.hosts.items ≡ hosts_among (map general_name_view (take l.name-index l.names))
