use Rattle.std.proofs.Common.{◌≡◌, refl, ap, sym, ◌∙◌, ◌++◌, arith}
use Rattle.asn1_core.specs.Elements.{head_of_element}
use Rattle.asn1_core.specs.Views.{head_of, tag_of, size_of}
use Rattle.der_parser.proofs.Elements.{element_front, element_size, element_tag, element_missing, element_read, tagged_once}
use Rattle.der_parser.proofs.element.element_of_tag.Goals as goal

pub returns-in_err-after-clause-only : goal.returns-in_err-after-clause-only
returns-in_err-after-clause-only c = λ e s r p f.
    absurd (c.in_err-after.ensures.only p.spells.header (e.content ++ r) (head_of_element e) p.spells.in_range p.spells.spells (element_front c.args.tag.0 c.args.i.now s r e p f))

pub returns-in-Err-clause-only : goal.returns-in-Err-clause-only
returns-in-Err-clause-only c = λ e s r p f.
    let found = c.in_ok-after.ensures.found in
    let number = element_tag c.args.tag.0 (head_of c.in_ok-after.header) c.args.i.now c.in_ok-after.after.now s r e found p f in
    let same : tag_of c.in_ok-after.header ≡ c.args.tag = ap (λ n. record { 0 = n }) number in
    let bad = c.in-Err.ensures.ok.1 same in
    cc

pub returns-then-after-size-clause-only : goal.returns-then-after-size-clause-only
returns-then-after-size-clause-only c = λ e s r p f.
    let fits = element_size c.args.tag.0 (head_of c.in_ok-after.header) c.args.i.now c.in_ok-after.after.now s r e c.in-Definite.size c.in_ok-after.ensures.found (ap size_of c.in-Definite.ensures) p f in
    omega (arith, fits)

pub returns-then-after-size-clause-missing : goal.returns-then-after-size-clause-missing
returns-then-after-size-clause-missing c = (
  omega arith,
  element_missing c.args.tag.0 (head_of c.in_ok-after.header) c.args.i.now c.in_ok-after.after.now c.in-Definite.size c.in_ok-after.ensures.found (ap size_of c.in-Definite.ensures),
)

pub returns-clause-found : goal.returns-clause-found
returns-clause-found c =
    let number : (head_of c.in_ok-after.header).tag ≡ c.args.tag.0 = ap (λ t. t.0) (c.in_default.ensures.ok.0 refl) in
    element_read c.args.tag.0 (head_of c.in_ok-after.header) c.args.i.now c.in_ok-after.after.now c.split_at.result.0.now c.split_at.result.1.now c.in-Definite.size c.in_ok-after.ensures.found number (ap size_of c.in-Definite.ensures) (omega arith) c.split_at.ensures.front c.split_at.ensures.back

pub returns-clause-only : goal.returns-clause-only
returns-clause-only c = λ e s r p f.
    let read = returns-clause-found c in
    tagged_once c.args.tag.0 c.args.tag.0 _ s c.split_at.result.1.now r _ e read.0 p (sym read.2 ∙ f)
