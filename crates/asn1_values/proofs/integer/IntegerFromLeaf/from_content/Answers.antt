use Rattle.std.proofs.Common.{◌≡◌, ◌≢◌, sym, [], rules}
use Rattle.std.proofs.lemmas.Bool.{eqb-true}
use Rattle.asn1_values.specs.ReaderLaws.{some_is, some_none}
use Rattle.asn1_values.proofs.integer.IntegerFromLeaf.from_content.Goals as goal

pub returns-then-is_empty-clause-exact : goal.returns-then-is_empty-clause-exact
returns-then-is_empty-clause-exact c = some_none c.args.octets.now (eqb-true _ 0 (sym c.if-is_empty.ensures))

pub returns-else-is_empty-clause-exact : goal.returns-else-is_empty-clause-exact
returns-else-is_empty-clause-exact c =
    let some : c.args.octets.now ≢ [] = search rules in
    let held : c.new.result.content.now ≡ c.args.octets.now = cc in
    (some_is c.args.octets.now c.new.result.content.now).1 (some, held)
