use Rattle.host_names.proofs.EndFacts.{ends_at}
use Rattle.host_names.proofs.octets.ends_in.Goals as goal

pub returns-in-len1-up : goal.returns-in-len1-up
returns-in-len1-up c = ends_at c.args.octet c.args.text.now c.in-len1-up.len_at_least
