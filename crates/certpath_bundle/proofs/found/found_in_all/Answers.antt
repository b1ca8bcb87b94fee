use Rattle.certpath_bundle.specs.Bundles.{found_in}
use Rattle.certpath_bundle.specs.Views.{file_view, found_view}
use Rattle.certpath_bundle.proofs.Loops.{made_all}
use Rattle.certpath_bundle.proofs.found.found_in_all.Goals as goal

pub returns : goal.returns
returns c = made_all found_view found_in file_view c.args.files.now c.loop-file.file-index c.loop-file.found.items c.loop-file-test.false c.loop-file.invariant
