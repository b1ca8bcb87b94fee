use Rattle.cert_model.specs.KeyIds.{IsSubjectKeyId}
use Rattle.cert_model.specs.View.{certificate_view}
use Rattle.certpath_c.proofs.KeyIds.{the_one}
use Rattle.certpath_c.proofs.contents.subject_id.Goals as goal

pub returns : goal.returns
returns c = the_one (IsSubjectKeyId (certificate_view c.args.fields.now)) c.subject_key_id.result c.subject_key_id.ensures.found c.subject_key_id.ensures.only
