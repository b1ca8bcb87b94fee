use Rattle.std.proofs.Common.{sym, rules}
use Rattle.host_names.specs.Addresses.{IsNoAddress}
use Rattle.host_names.proofs.NoReason.{name_from}
use Rattle.host_names.proofs.host.Host.parse.Goals as goal

pub returns-in-None : goal.returns-in-None
returns-in-None c = let none : IsNoAddress c.args.text.now = search rules in (none, c.without_dot-name.ensures, name_from c.without_dot-name.result.now (sym c.in-None.ensures))
