use Rattle.std.proofs.Common.{◌∙◌, ap}
use Rattle.cert_model.specs.View.{time_view}
use Rattle.certpath_engine.specs.MomentReading.{moment_in}
use Rattle.certpath_engine.proofs.MomentLaws.{found_in, only_in}
use Rattle.certpath_engine.proofs.moment.read_moment.Goals as goal

pub returns-clause-found : goal.returns-clause-found
returns-clause-found c = found_in time_view c.args.text.now c.moment_among.result (c.moment_among.ensures ∙ ap moment_in c.as_bytes.ensures.value)

pub returns-clause-only : goal.returns-clause-only
returns-clause-only c = only_in time_view c.args.text.now c.moment_among.result (c.moment_among.ensures ∙ ap moment_in c.as_bytes.ensures.value)
