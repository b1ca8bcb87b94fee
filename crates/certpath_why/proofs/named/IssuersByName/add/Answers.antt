use Rattle.std.specs.List.{Contains}
use Rattle.std.proofs.Common.{map}
use Rattle.cert_judge.specs.Items.{item_of}
use Rattle.certpath_why.specs.Reached.{HasSubject}
use Rattle.certpath_why.proofs.Naming.{gathered_as, held_more}
use Rattle.certpath_why.proofs.named.IssuersByName.add.Goals as goal

pub new-requires : goal.new-requires
new-requires c = c.requires.places.ascends

pub returns : goal.returns
returns c =
    let items = c.args.items.now in
    let made = gathered_as items (Contains c.args.places.now) (HasSubject (map item_of items) c.args.name.now) c.in_ok-issuers.issuers c.requires.places.exact c.in_ok-issuers.ensures in
    held_more items c.args.self.now.by_name c.insert.new.self c.args.name c.in_ok-issuers.issuers c.requires.before made (λ q. c.in_ok-insert.ensures.updates.0 q)
