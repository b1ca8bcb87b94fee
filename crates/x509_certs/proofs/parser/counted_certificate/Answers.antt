use Rattle.std.proofs.Common.{◌≡◌, length, arith}
use Rattle.std.proofs.lemmas.Grind.{common_steps}
use Rattle.std.proofs.lemmas.List.{nil_from_length}
use Rattle.x509_ext.specs.Fields.{reading_of}
use Rattle.x509_certs.proofs.CertificateLaws.{none_there, one_missing}
use Rattle.x509_certs.proofs.parser.counted_certificate.Goals as goal

pub returns-then-is_empty-clause-exact : goal.returns-then-is_empty-clause-exact
returns-then-is_empty-clause-exact c =
    let short : length c.args.i.now ≡ 0 = grind (arith, common_steps) in
    none_there (reading_of c.args.deep) c.args.i.now (nil_from_length c.args.i.now short)

pub returns-then-is_empty-clause-missing : goal.returns-then-is_empty-clause-missing
returns-then-is_empty-clause-missing c =
    let short : length c.args.i.now ≡ 0 = grind (arith, common_steps) in
    one_missing c.args.i.now (nil_from_length c.args.i.now short)
