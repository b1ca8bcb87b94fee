use Rattle.cert_model.specs.KeyIds.{IsAuthorityKeyId}
use Rattle.cert_model.specs.View.{certificate_view}
use Rattle.certpath_c.proofs.KeyIds.{the_one}
use Rattle.certpath_c.proofs.contents.authority_id.Goals as goal

pub returns : goal.returns
returns c = the_one (IsAuthorityKeyId (certificate_view c.args.fields.now)) c.authority_key_id.result c.authority_key_id.ensures.found c.authority_key_id.ensures.only
