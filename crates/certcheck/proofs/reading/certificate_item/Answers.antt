use Rattle.cert_model.specs.View.{certificate_view}
use Rattle.cert_judge.proofs.Linking.{names_from, owns_from}
use Rattle.certcheck.proofs.reading.certificate_item.Goals as goal

pub of_certificate-requires-clause-named : goal.of_certificate-requires-clause-named
of_certificate-requires-clause-named c =
    let e = c.authority_key_id-authority_key_id.ensures in
    names_from (certificate_view c.args.fields) c.authority_key_id-authority_key_id.result e.found e.only

pub of_certificate-requires-clause-own : goal.of_certificate-requires-clause-own
of_certificate-requires-clause-own c =
    let e = c.subject_key_id-subject_key_id.ensures in
    owns_from (certificate_view c.args.fields) c.subject_key_id-subject_key_id.result e.found e.only
