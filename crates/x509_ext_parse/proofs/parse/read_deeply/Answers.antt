use Rattle.std.proofs.Common.{◌≡◌, ◌∙◌, ap, sym, Some}
use Rattle.std.proofs.lemmas.Result.{IfOk-weaker}
use Rattle.x509_ext_parse.specs.Reading.{kind_of}
use Rattle.x509_ext_parse.proofs.FaultLaws.{kept_fault}
use Rattle.x509_ext_parse.proofs.parse.read_deeply.Goals as goal

pub returns-in-Some-clause-fault : goal.returns-in-Some-clause-fault
returns-in-Some-clause-fault c =
    let known : kind_of c.args.oid.now ≡ Some c.in-Some.kind = sym (c.in-Some.ensures ∙ ap kind_of c.as_bytes.ensures) in
    IfOk-weaker c.parse_kind.result _ _ (λ p h. kept_fault c.args.oid.now c.args.value.now c.in-Some.kind p known h) c.parse_kind.ensures.fault
