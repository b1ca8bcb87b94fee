use Rattle.x509_ext.proofs.Pairs.{firsts, seconds}
use Rattle.x509_ext.specs.View.{extension_view, extension_error}
use Rattle.x509_ext.proofs.copies.copy_extensions.Goals as goal

pub returns-clause-value : goal.returns-clause-value
returns-clause-value c = firsts extension_view extension_error c.args.extensions.now c.copy_all.result c.copy_all.ensures

pub returns-clause-errors : goal.returns-clause-errors
returns-clause-errors c = seconds extension_view extension_error c.args.extensions.now c.copy_all.result c.copy_all.ensures
