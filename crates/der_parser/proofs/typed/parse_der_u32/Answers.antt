use Rattle.std.proofs.Common.{◌^◌, Ok, Err, sym}
use Rattle.der_tree.specs.Access.{content_in}
use Rattle.der_tree.specs.View.{view}
use Rattle.der_parser.proofs.Numbers.{number_in_refused, no_number, number_once}
use Rattle.der_parser.proofs.typed.parse_der_u32.Goals as goal

pub returns-clause-read : goal.returns-clause-read
returns-clause-read c =
    let t = view c.in_ok-rest.object in
    let why = sym c.in-Err.ensures in (
      λ p. no_number (2 ^ 32) c.args.i.now c.in_ok-rest.rest.now t c.in-Err.e c.in_ok-rest.ensures.read why p.0 p.1 p.2,
      tt,
      number_in_refused (2 ^ 32) (content_in t) c.in-Err.e why,
    )

pub returns-clause-refused : goal.returns-clause-refused
returns-clause-refused c = λ t rest e other refused. let is = number_once (2 ^ 32) c.args.i.now c.in_ok-rest.rest.now rest t (view c.in_ok-rest.object) (Err c.in-Err.e) e c.in_ok-rest.ensures.read c.in-Err.ensures other refused in cc

pub returns-in-Ok-clause-refused : goal.returns-in-Ok-clause-refused
returns-in-Ok-clause-refused c = λ t rest e other refused. let is = number_once (2 ^ 32) c.args.i.now c.in_ok-rest.rest.now rest t (view c.in_ok-rest.object) (Ok c.in-Ok.number) e c.in_ok-rest.ensures.read c.in-Ok.ensures other refused in cc
