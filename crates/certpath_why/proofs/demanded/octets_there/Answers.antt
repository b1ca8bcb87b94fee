use Rattle.std.proofs.Common.{◌∙◌}
use Rattle.certpath_why.proofs.Items.{octets_read}
use Rattle.certpath_why.proofs.demanded.octets_there.Goals as goal

pub returns : goal.returns
returns c = c.octets_of.ensures ∙ octets_read c.args.items.now c.args.place c.index-items-place.result c.requires c.index-items-place.is
