use Rattle.std.proofs.Common.{◌≡◌, ◌∙◌, ◌-◌, ap, Err}
use Rattle.asn1_core.specs.declared.outcome.Err.TheVariants as refusals
use Rattle.asn1_any.specs.Reading.{der_element_at}
use Rattle.asn1_any.specs.Views.{ber_any_of}
use Rattle.asn1_traits.specs.Reads.{NoValue}
use Rattle.asn1_traits.specs.Elements.{ReadsElement, EndsWithinElement}
use Rattle.asn1_traits.proofs.Outcomes.{refused_at, refused_whole}
use Rattle.asn1_traits.proofs.Blankets.{element_read, none_in_element, lacks_element, not_refused, one_refusal}
use Rattle.asn1_traits.proofs.read.AnyFromDer.from_der.Goals as goal

pub returns-in-Ok-try_from_der_any : goal.returns-in-Ok-try_from_der_any
returns-in-Ok-try_from_der_any g c =
    element_read g.T.DerAnyMeaning.der_means c.args.bytes.now c.in-Ok.rest.now c.in-Ok.any c.in-Ok-try_from_der_any.value c.in-Ok.ensures.found c.in-Ok.ensures.length c.in-Ok-try_from_der_any.ensures

pub returns-in-Err-try_from_der_any : goal.returns-in-Err-try_from_der_any
returns-in-Err-try_from_der_any g c =
    refused_whole g.E.From.from_gives g.T.DerAnyMeaning.der_reading_grows EndsWithinElement (ReadsElement g.T.DerAnyMeaning.der_means) c.args.bytes.now c.in-Err-try_from_der_any.e (NoValue g.T.DerAnyMeaning.der_means (ber_any_of c.in-Ok.any)) c.in-Err-try_from_der_any.ensures
    (none_in_element g.T.DerAnyMeaning.der_means c.args.bytes.now c.in-Ok.rest.now c.in-Ok.any c.in-Ok.ensures.found c.in-Ok.ensures.length)
    (λ n ends. not_refused (der_element_at c.args.bytes.now) _ _ c.in-Ok.ensures.exact ends)

pub returns-in-Err : goal.returns-in-Err
returns-in-Err g c =
    refused_at g.E.From.from_gives g.T.DerAnyMeaning.der_reading_grows EndsWithinElement (ReadsElement g.T.DerAnyMeaning.der_means) c.args.bytes.now c.in-Err.refusal c.convert.result c.convert.ensures c.in-Err.ensures.memory
    (λ v rest r. c.in-Err.ensures.only r.element rest r.begins)
    (λ n is. (c.in-Err.ensures.exact ∙ ap (λ r. Err r) is, lacks_element g.T.DerAnyMeaning.der_means c.args.bytes.now c.in-Err.refusal n c.in-Err.ensures.missing is))
    (λ n ends. one_refusal (der_element_at c.args.bytes.now) c.in-Err.refusal (refusals.Incomplete n) c.in-Err.ensures.exact ends)
