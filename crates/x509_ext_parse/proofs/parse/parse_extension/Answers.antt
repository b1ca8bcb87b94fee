use Rattle.std.proofs.Common.{◌∙◌, sym, subst, arith}
use Rattle.std.proofs.lemmas.Result.{IfOk-weaker}
use Rattle.asn1_core.proofs.Numbers.{octets_below}
use Rattle.x509_ext_parse.specs.Parsed.{IsParsed}
use Rattle.x509_ext_parse.proofs.Laws.{deep_found, deep_only}
use Rattle.x509_ext_parse.proofs.parse.parse_extension.Goals as goal

pub returns-clause-found : goal.returns-clause-found
returns-clause-found c =
    IfOk-weaker c.read_deeply.result _ _
    (λ p h. subst (IsParsed c.args.oid.now c.args.value.now) (sym h) (deep_found c.args.oid.now c.args.value.now (octets_below c.args.value.now (λ k. omega (arith, c.type_inv.value k)))))
    c.read_deeply.ensures.exact

pub returns-clause-only : goal.returns-clause-only
returns-clause-only c = λ x is.
    IfOk-weaker c.read_deeply.result _ _
    (λ p h. h ∙ deep_only c.args.oid.now c.args.value.now x (octets_below c.args.value.now (λ k. omega (arith, c.type_inv.value k))) is)
    c.read_deeply.ensures.exact
