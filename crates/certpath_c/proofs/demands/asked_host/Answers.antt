use Rattle.certpath_c.proofs.HostTexts.{host_utf8}
use Rattle.certpath_c.proofs.demands.asked_host.Goals as goal

pub returns-in-None : goal.returns-in-None
returns-in-None c =
    let asks = rw c.in-Ok-Some.field-0-is at c.in-Ok-Some.ensures in
    absurd (c.in-None.ensures.none (host_utf8 c.args.text.now c.in-Ok-Some.host asks.1))
