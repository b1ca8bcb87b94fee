use Rattle.cert_model.specs.View.{certificate_view}
use Rattle.cert_judge.proofs.Linking.{names_from, owns_from}
use Rattle.certpath_find.proofs.ValueFacts.{values_small}
use Rattle.certpath_find.proofs.reading.certificate_item.Goals as goal

pub own_key_id-own-requires : goal.own_key_id-own-requires
own_key_id-own-requires c = record { small = values_small c.args.octets.now (certificate_view c.args.fields) c.requires }

pub of_certificate-requires-clause-named : goal.of_certificate-requires-clause-named
of_certificate-requires-clause-named c =
    let e = c.named_key_id-named.ensures in
    names_from (certificate_view c.args.fields) c.named_key_id-named.result e.found e.only

pub of_certificate-requires-clause-own : goal.of_certificate-requires-clause-own
of_certificate-requires-clause-own c =
    let e = c.own_key_id-own.ensures in
    owns_from (certificate_view c.args.fields) c.own_key_id-own.result e.found e.only
