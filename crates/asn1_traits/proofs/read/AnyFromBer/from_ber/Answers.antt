use Rattle.std.proofs.Common.{◌≡◌, ◌∙◌, ◌-◌, ap, Err}
use Rattle.asn1_core.specs.declared.outcome.Err.TheVariants as refusals
use Rattle.asn1_any.specs.Reading.{ber_element_at}
use Rattle.asn1_any.specs.declared.read.TheConstants.{MAX_RECURSION}
use Rattle.asn1_any.specs.Views.{ber_any_of}
use Rattle.asn1_traits.specs.Reads.{NoValue}
use Rattle.asn1_traits.specs.Elements.{ReadsBerElement, EndsWithinBerElement}
use Rattle.asn1_traits.proofs.Outcomes.{refused_at, refused_whole}
use Rattle.asn1_traits.proofs.Blankets.{none_in_ber_element, lacks_ber_element, not_refused, one_refusal}
use Rattle.asn1_traits.proofs.read.AnyFromBer.from_ber.Goals as goal

pub returns-in-Err-try_from_any : goal.returns-in-Err-try_from_any
returns-in-Err-try_from_any g c =
    refused_whole g.E.From.from_gives g.T.AnyMeaning.reading_grows EndsWithinBerElement (ReadsBerElement g.T.AnyMeaning.means) c.args.bytes.now c.in-Err-try_from_any.e (NoValue g.T.AnyMeaning.means (ber_any_of c.in-Ok.any)) c.in-Err-try_from_any.ensures
    (none_in_ber_element g.T.AnyMeaning.means c.args.bytes.now (ber_any_of c.in-Ok.any) c.in-Ok.rest.now c.in-Ok.ensures.found)
    (λ n ends. not_refused (ber_element_at (MAX_RECURSION - 1) c.args.bytes.now) _ _ c.in-Ok.ensures.exact ends)

pub returns-in-Err : goal.returns-in-Err
returns-in-Err g c =
    refused_at g.E.From.from_gives g.T.AnyMeaning.reading_grows EndsWithinBerElement (ReadsBerElement g.T.AnyMeaning.means) c.args.bytes.now c.in-Err.refusal c.convert.result c.convert.ensures c.in-Err.ensures.memory
    (λ v rest r. c.in-Err.ensures.only r.element rest r.begins)
    (λ n is. (c.in-Err.ensures.exact ∙ ap (λ r. Err r) is, lacks_ber_element g.T.AnyMeaning.means c.args.bytes.now c.in-Err.refusal n c.in-Err.ensures.missing is))
    (λ n ends. one_refusal (ber_element_at (MAX_RECURSION - 1) c.args.bytes.now) c.in-Err.refusal (refusals.Incomplete n) c.in-Err.ensures.exact ends)
