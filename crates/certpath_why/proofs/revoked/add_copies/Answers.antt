use Rattle.std.proofs.Common.{◌∙◌, ap, string_bytes}
use Rattle.certpath_why.proofs.Tailing.{copied_none, copied_more, copied_all}
use Rattle.certpath_why.proofs.revoked.add_copies.Goals as goal

pub loop-text-init : goal.loop-text-init
loop-text-init c = copied_none c.args.texts.now.items c.args.more.now

pub loop-text-preserved : goal.loop-text-preserved
loop-text-preserved c = copied_more c.args.texts.now.items c.args.more.now c.loop-text.texts.items c.push.new.self.items c.loop-text.text-index c.text-item.result c.in_ok-copy.copy c.loop-text-test.true c.loop-text.invariant c.in_ok-push.ensures.items (c.in_ok-copy.ensures.ok ∙ c.deref.ensures ∙ ap string_bytes c.text-item.is)

pub returns : goal.returns
returns c = copied_all c.args.texts.now.items c.args.more.now c.loop-text.texts.items c.loop-text.text-index c.loop-text-test.false c.loop-text.invariant
