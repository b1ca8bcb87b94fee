use Rattle.std.proofs.lemmas.List.{take_rest}
use Rattle.cert_framing.proofs.Bundles.{walks_on}
use Rattle.cert_framing.proofs.bundle.advance.Goals as goal

pub loop-size-preserved : goal.loop-size-preserved
loop-size-preserved c =
    let octets = c.args.octets.now in
    let front = rw (take_rest octets c.loop-size.at) at c.in-Whole.ensures in
    walks_on c.args.limit octets c.args.from c.args.ends.now.items c.loop-size.ends.items c.push.new.self.items c.loop-size.at c.in-Whole.size
    c.loop-size.invariant c.in_ok-push-in-Whole.ensures.items front.1 front.2

pub returns-in-Nothing : goal.returns-in-Nothing
returns-in-Nothing c =
    record { walks = c.loop-size.invariant; stops = rw (take_rest c.args.octets.now c.loop-size.at) at c.in-Nothing.ensures }
