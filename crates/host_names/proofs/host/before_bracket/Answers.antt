use Rattle.std.proofs.Common.{◌∙◌, ap, sym}
use Rattle.std.proofs.lemmas.Bool.{false≢true}
use Rattle.host_names.specs.Refusals.{ends_in}
use Rattle.host_names.proofs.EndFacts.{closed, ends_so}
use Rattle.host_names.proofs.host.before_bracket.Goals as goal

pub returns-then-ends_in-clause-found : goal.returns-then-ends_in-clause-found
returns-then-ends_in-clause-found c = closed 93 c.args.text.now (sym c.ends_in.ensures ∙ c.if-ends_in.true)

pub returns-else-ends_in-clause-only : goal.returns-else-ends_in-clause-only
returns-else-ends_in-clause-only c = λ front e. false≢true (sym c.if-ends_in.false ∙ c.ends_in.ensures ∙ ap (ends_in 93) e ∙ ends_so 93 front)
