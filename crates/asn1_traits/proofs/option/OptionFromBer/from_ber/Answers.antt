use Rattle.std.proofs.Common.{◌≡◌, ◌∙◌, inl, inr, refl, sym, ap, Err}
use Rattle.asn1_core.specs.Views.{ber_head_of}
use Rattle.asn1_core.specs.declared.tag.Tag.{Tag}
use Rattle.asn1_core.specs.Missing.{HasBerHeader}
use Rattle.asn1_core.specs.Reading.{ber_header_at}
use Rattle.asn1_core.specs.declared.outcome.Err.TheVariants as refusals
use Rattle.asn1_traits.specs.Options.{BeginsWithBerTag, EndsWithinBerHeader, OptionReads, OptionCut}
use Rattle.asn1_traits.specs.OptionLaws.{ber_headers}
use Rattle.asn1_traits.proofs.Outcomes.{refused_at}
use Rattle.asn1_traits.proofs.Blankets.{not_refused, one_refusal}
use Rattle.asn1_traits.proofs.Absent.{not_empty, none_headed, present_refused, lacks_header}
use Rattle.asn1_traits.proofs.option.OptionFromBer.from_ber.Goals as goal

pub returns-then-tag-own_tag : goal.returns-then-tag-own_tag
returns-then-tag-own_tag g c =
    let found = c.in-Ok.ensures.found in
    let begins : BeginsWithBerTag c.args.bytes.now c.in-Ok.header.tag.0 = record {
      head = ber_head_of c.in-Ok.header;
      front = found.1.0;
      rest = c.in-Ok.field-0-0.now;
      in_range = found.0;
      spells = found.1.1;
      whole = found.1.2;
      tells = refl;
    } in
    (inr (c.in-Ok.header.tag.0, (λ e. c.if-tag-own_tag.true (ap (λ (t : Tag). t.0) c.tag.ensures ∙ e ∙ sym c.own_tag.ensures)), begins), refl)

pub returns-in-Err-from_ber : goal.returns-in-Err-from_ber
returns-in-Err-from_ber g c =
    let found = c.in-Ok.ensures.found in
    let reads = g.T.BerMeaning.ber_reads in
    let begins : BeginsWithBerTag c.args.bytes.now g.T.Tagged.tag_number = record {
      head = ber_head_of c.in-Ok.header;
      front = found.1.0;
      rest = c.in-Ok.field-0-0.now;
      in_range = found.0;
      spells = found.1.1;
      whole = found.1.2;
      tells = sym (ap (λ (t : Tag). t.0) c.tag.ensures) ∙ c.if-tag-own_tag.false ∙ c.own_tag.ensures;
    } in
    present_refused g.E.From.from_gives g.T.BerMeaning.ber_grows EndsWithinBerHeader BeginsWithBerTag g.T.Tagged.tag_number g.T.BerMeaning.ber_cut reads c.args.bytes.now c.in-Err-from_ber.refused ber_headers
    (not_empty c.args.bytes.now (sym c.is_empty.ensures ∙ c.if-is_empty.false)) begins (λ n ends. not_refused (ber_header_at c.args.bytes.now) _ _ c.in-Ok.ensures.exact ends) c.in-Err-from_ber.ensures

pub returns-in-Err : goal.returns-in-Err
returns-in-Err g c =
    let reads = g.T.BerMeaning.ber_reads in
    let tag = g.T.Tagged.tag_number in
    let some = not_empty c.args.bytes.now (sym c.is_empty.ensures ∙ c.if-is_empty.false) in
    refused_at g.E.From.from_gives g.T.BerMeaning.ber_grows (OptionCut EndsWithinBerHeader BeginsWithBerTag tag g.T.BerMeaning.ber_cut) (OptionReads BeginsWithBerTag tag reads) c.args.bytes.now c.in-Err.refusal c.convert.result c.convert.ensures c.in-Err.ensures.memory
    (none_headed BeginsWithBerTag tag reads c.args.bytes.now some (λ n b. c.in-Err.ensures.only b.front b.rest b.head b.in_range b.spells b.whole))
    (λ n is. (
      (some, inl (c.in-Err.ensures.exact ∙ ap (λ r. Err r) is)),
      lacks_header HasBerHeader BeginsWithBerTag tag reads c.args.bytes.now c.in-Err.refusal n some (λ more m b. (b.head, b.front, b.rest, b.in_range, b.spells, b.whole)) c.in-Err.ensures.missing is,
    ))
    (λ n cut. elim cut.1 [
      | inl ends ↦ one_refusal (ber_header_at c.args.bytes.now) c.in-Err.refusal (refusals.Incomplete n) c.in-Err.ensures.exact ends
      | inr within ↦ absurd (c.in-Err.ensures.only within.0.front within.0.rest within.0.head within.0.in_range within.0.spells within.0.whole)
    ])
