use Rattle.std.proofs.Common.{arith, ◌<◌, length, []}
use Rattle.std.proofs.lemmas.Grind.{common_steps}
use Rattle.x509_links.specs.Lenient.{lenient_list}
use Rattle.certpath_typed.proofs.Taken.{list_taken, refused, some_left}
use Rattle.certpath_typed.proofs.read.list_read.Goals as goal

pub returns-then-is_empty-clause-read : goal.returns-then-is_empty-clause-read
returns-then-is_empty-clause-read c = λ d is. (c.in-Ok.ensures.only (lenient_list d) [] (list_taken c.args.item.now d (omega arith) is)).0

pub returns-in-Ok-clause-read : goal.returns-in-Ok-clause-read
returns-in-Ok-clause-read c = λ d is.
    let long : 0 < length c.in-Ok.rest.now = grind (arith, common_steps) in
    some_left c.in-Ok.rest.now long (c.in-Ok.ensures.only (lenient_list d) [] (list_taken c.args.item.now d (omega arith) is)).1

pub returns : goal.returns
returns c = record {
  read = λ d is. refused c.in-Err.refusal c.in_default.not-Failure (c.in-Err.ensures.only (lenient_list d) [] (list_taken c.args.item.now d (omega arith) is));
  least = tt;
  grows = c.in-Err.ensures.grows;
  most = c.in-Err.ensures.most;
}
