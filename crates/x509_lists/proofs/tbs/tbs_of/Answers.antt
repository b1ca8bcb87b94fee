use Rattle.std.proofs.Common.{rules}
use Rattle.asn1_any.specs.CutViews.{piece_of}
use Rattle.asn1_any.specs.Views.{any_of}
use Rattle.x509_core.specs.Answers.{Fails, ◌>>=◌}
use Rattle.x509_core.specs.Reading.{content_in}
use Rattle.x509_ext.specs.Fields.{reading_of}
use Rattle.x509_lists.specs.Steps.{signed_at}
use Rattle.x509_lists.proofs.StepLaws.{tbs_by_steps}
use Rattle.x509_lists.proofs.tbs.tbs_of.Goals as goal

pub returns-in-Ok-clause-read : goal.returns-in-Ok-clause-read
returns-in-Ok-clause-read c =
    rw (tbs_by_steps (reading_of c.args.deep) (piece_of c.args.element), c.in-Ok.ensures.read) c.signed_of.ensures.read

pub returns-in-Err-clause-read : goal.returns-in-Err-clause-read
returns-in-Err-clause-read c =
    let refused : Fails c.in-Err.refusal (content_in 16 (any_of c.args.element.any) >>= signed_at (reading_of c.args.deep) c.args.element.octets.now) = search rules in
    rw (tbs_by_steps (reading_of c.args.deep) (piece_of c.args.element)) refused
