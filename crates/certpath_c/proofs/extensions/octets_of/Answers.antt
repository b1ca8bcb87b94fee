use Rattle.cert_model.specs.View.{ext_view}
use Rattle.certpath_c.specs.Extensions.{extension_octets}
use Rattle.certpath_c.proofs.Gathered.{gathered_more, gathered_all}
use Rattle.certpath_c.proofs.extensions.octets_of.Goals as goal

pub loop-extension-preserved : goal.loop-extension-preserved
loop-extension-preserved c =
    gathered_more (λ e. extension_octets (ext_view e)) c.args.extensions.now c.loop-extension.extension-index _ _ _ c.loop-extension-test.true c.loop-extension.invariant c.in_ok-push_extension.ensures

pub returns : goal.returns
returns c = gathered_all (λ e. extension_octets (ext_view e)) c.args.extensions.now c.loop-extension.extension-index _ c.loop-extension-test.false c.loop-extension.invariant
