use Rattle.std.proofs.Common.{ap, ◌∙◌}
use Rattle.certpath_why.specs.Kinds.{kind_numbers, named_by}
use Rattle.certpath_why.proofs.kinds.item_kind.Goals as goal

pub returns : goal.returns
returns g c = record {
  first = c.args.first;
  first_is = c.requires.first;
  row = c.args.row;
  row_is = c.requires.row;
  kind_is = c.in_ok-kind.ensures ∙ ap (λ n. kind_numbers c.args.first n c.args.row (named_by c.args.certificate.now)) c.issuers_number-signed.ensures;
}
