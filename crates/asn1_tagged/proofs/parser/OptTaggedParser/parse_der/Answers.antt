use Rattle.std.proofs.Common.{rules, ◌≡◌, ◌≢◌, inr, ap, ◌∙◌, Err}
use Rattle.asn1_core.specs.Views.{class_number}
use Rattle.asn1_core.specs.declared.tag.Tag.{Tag}
use Rattle.asn1_core.specs.declared.outcome.Err.TheVariants as refusals
use Rattle.asn1_core.specs.declared.error.Error.TheVariants.{OutOfMemory}
use Rattle.asn1_any.specs.DerElements.{BeginsWithElement, HasElement}
use Rattle.asn1_any.specs.Reading.{der_element_at}
use Rattle.asn1_any.specs.Views.{any_of}
use Rattle.asn1_traits.proofs.Absent.{not_empty}
use Rattle.asn1_traits.proofs.Blankets.{not_refused, one_refusal}
use Rattle.asn1_tagged.specs.Parsing.{LacksElement}
use Rattle.asn1_tagged.proofs.Refusing.{same_class, refused_from, refused_by, told_missing, der_unfit, none_unfit}
use Rattle.asn1_tagged.proofs.parser.OptTaggedParser.parse_der.Goals as goal

pub returns-in-Err-assert_eq : goal.returns-in-Err-assert_eq
returns-in-Err-assert_eq g c =
    let some = not_empty c.args.bytes.now (search rules) in
    let tag_is : c.in-Ok.any.header.tag ≡ c.args.self.now.tag = search rules in
    let class_is : class_number c.in-Ok.any.header.class ≢ class_number c.args.self.now.class = λ e. cc (c.in-Err-assert_eq.ensures.ok.1 (c.class.ensures ∙ same_class c.in-Ok.any.header.class c.args.self.now.class e)) in
    let memory : c.in-Err-assert_eq.e ≢ OutOfMemory = λ e. cc (c.in-Err-assert_eq.ensures.err, e) in
    inr (inr (record {
      unfit = der_unfit c.args.bytes.now c.in-Ok.rest.now _ _ (any_of c.in-Ok.any) some c.in-Ok.ensures.found (ap (λ (t : Tag). t.0) tag_is) class_is;
      answer = refused_from g.E.From.from_gives (LacksElement c.args.bytes.now) c.in-Err-assert_eq.e c.from.result memory c.from.ensures (λ n lacks. not_refused (der_element_at c.args.bytes.now) _ _ c.in-Ok.ensures.exact lacks.ends);
    }))

pub returns-in-Err : goal.returns-in-Err
returns-in-Err g c =
    let some = not_empty c.args.bytes.now (search rules) in
    inr (inr (record {
      unfit = none_unfit (BeginsWithElement c.args.bytes.now) c.args.bytes.now _ _ some (λ f s b. c.in-Err.ensures.only f s b);
      answer = refused_by g.E.From.from_gives (LacksElement c.args.bytes.now) c.in-Err.refusal c.convert.result c.convert.ensures c.in-Err.ensures.memory
          (λ n is. record { ends = c.in-Err.ensures.exact ∙ ap (λ r. Err r) is; missing = told_missing (HasElement) c.args.bytes.now c.in-Err.refusal n is c.in-Err.ensures.missing })
          (λ n lacks. one_refusal (der_element_at c.args.bytes.now) c.in-Err.refusal (refusals.Incomplete n) c.in-Err.ensures.exact lacks.ends);
    }))
