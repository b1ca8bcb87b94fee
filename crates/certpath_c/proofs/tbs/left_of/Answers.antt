use Rattle.std.proofs.Common.{◌∙◌}
use Rattle.cert_model.specs.View.{ext_view}
use Rattle.certpath_c.specs.Tbs.{kept}
use Rattle.certpath_c.proofs.Gathered.{gathered_more, gathered_all, gathered_view}
use Rattle.certpath_c.proofs.tbs.left_of.Goals as goal

pub loop-extension-preserved : goal.loop-extension-preserved
loop-extension-preserved c =
    gathered_more (λ e. kept c.args.identifier.now (ext_view e)) c.args.extensions.now c.loop-extension.extension-index _ _ _ c.loop-extension-test.true c.loop-extension.invariant c.in_ok-push_kept.ensures

pub returns : goal.returns
returns c =
    let identifier = c.args.identifier.now in
    gathered_all (λ e. kept identifier (ext_view e)) c.args.extensions.now c.loop-extension.extension-index _ c.loop-extension-test.false c.loop-extension.invariant ∙ gathered_view (kept identifier) ext_view c.args.extensions.now
