use Rattle.std.proofs.Common.{◌∙◌, sym, ap, ◌++◌, arith}
use Rattle.asn1_core.specs.Elements.{head_of_element}
use Rattle.asn1_core.specs.Views.{head_of, size_of}
use Rattle.der_tree.proofs.Cuts.{cut_front, cut_size, cut_missing, cut_read, cut_once, cut_within, cut_header}
use Rattle.der_tree.proofs.Exits.{passed_on, missing_weaker}
use Rattle.der_tree.specs.Object.{HasCut}
use Rattle.asn1_core.specs.Missing.{HasStrictHeader}
use Rattle.der_tree.proofs.cut.cut_of.Goals as goal

-- no strict header begins the octets, so no element does
pub returns-in_err-rest-clause-only : goal.returns-in_err-rest-clause-only
returns-in_err-rest-clause-only c = λ e s r p f.
    absurd (c.in_err-rest.ensures.only (head_of_element e) (e.content ++ r) p.in_range (cut_front c.args.i.now s r e p f))

pub returns-then-size-gt-MAX_OBJECT_SIZE-clause-only : goal.returns-then-size-gt-MAX_OBJECT_SIZE-clause-only
returns-then-size-gt-MAX_OBJECT_SIZE-clause-only c = λ e s r p f.
    let size = cut_size (head_of c.in_ok-rest.header) c.args.i.now c.in_ok-rest.rest.now s r e c.in-Definite.size c.in_ok-rest.ensures.found (ap size_of c.in-Definite.ensures) p f in
    omega (arith, size.0)

pub returns-then-rest-size-clause-only : goal.returns-then-rest-size-clause-only
returns-then-rest-size-clause-only c = λ e s r p f.
    let size = cut_size (head_of c.in_ok-rest.header) c.args.i.now c.in_ok-rest.rest.now s r e c.in-Definite.size c.in_ok-rest.ensures.found (ap size_of c.in-Definite.ensures) p f in
    omega (arith, size.1)

pub returns-then-rest-size-clause-missing : goal.returns-then-rest-size-clause-missing
returns-then-rest-size-clause-missing c = (
  omega arith,
  cut_missing (head_of c.in_ok-rest.header) c.args.i.now c.in_ok-rest.rest.now c.in-Definite.size c.in_ok-rest.ensures.found (ap size_of c.in-Definite.ensures),
)

pub returns-clause-found : goal.returns-clause-found
returns-clause-found c =
    cut_read (head_of c.in_ok-rest.header) c.args.i.now c.in_ok-rest.rest.now c.split_at.result.0.now c.split_at.result.1.now c.in-Definite.size c.in_ok-rest.ensures.found (ap size_of c.in-Definite.ensures) (omega arith) (omega arith) c.split_at.ensures.front c.split_at.ensures.back

pub returns-clause-only : goal.returns-clause-only
returns-clause-only c = λ e s r p f.
    let read = returns-clause-found c in
    cut_once _ s _ e c.split_at.result.1.now r read.0 p (sym read.2 ∙ f)

pub returns-in_err-rest-clause-missing : goal.returns-in_err-rest-clause-missing
returns-in_err-rest-clause-missing c =
    passed_on c.from_residual.result c.in_err-rest.field-0.0 _ c.from_residual.ensures.1
    (missing_weaker c.in_err-rest.field-0.0 c.args.i.now HasStrictHeader HasCut cut_header c.in_err-rest.ensures.missing)

pub returns-clause-within : goal.returns-clause-within
returns-clause-within c = let read = returns-clause-found c in cut_within c.args.i.now _ c.split_at.result.1.now _ read.0 read.2
