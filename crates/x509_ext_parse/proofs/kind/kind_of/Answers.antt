use Rattle.std.proofs.Common.{◌≡◌, ◌∙◌, ap, sym, arith}
use Rattle.std.proofs.lemmas.Grind.{common_steps}
use Rattle.x509_ext_parse.specs.Kinds.{identifier_of}
use Rattle.x509_ext_parse.specs.Reading.{among}
use Rattle.x509_ext_parse.proofs.Laws.{kind_found}
use Rattle.x509_ext_parse.proofs.kind.kind_of.Goals as goal

pub returns : goal.returns
returns c = c.among.ensures ∙ ap (among c.args.identifier.now) c.as_slice.ensures

pub returns-then-eq : goal.returns-then-eq
returns-then-eq c =
    let same : c.args.identifier.now ≡ identifier_of c.in-Some.kind = grind (arith, common_steps) in
    sym (kind_found c.args.identifier.now c.in-Some.kind same)
