use Rattle.std.proofs.Common.{◌∙◌, sym, ap, refl, length}
use Rattle.std.proofs.lemmas.Bool.{eqb-true, eq-eqb}
use Rattle.std.proofs.lemmas.List.{nil_from_length}
use Rattle.asn1_core.specs.declared.tag.Tag.{Tag}
use Rattle.der_tree.specs.Table.{IsPrimitive, integer, octet_string, object_descriptor, utf8_string, relative_oid, numeric_string, printable_string, t61_string, videotex_string, ia5_string, utc_time, generalized_time, graphic_string, visible_string, general_string, universal_string, bmp_string}
use Rattle.der_tree.specs.View.{element_under}
use Rattle.der_tree.proofs.Leaves.{plain_found, plain_only, boolean_found, boolean_only, bits_found, bits_only, null_found, null_only, oid_found, oid_only, enumerated_found, enumerated_only}
use Rattle.der_tree.proofs.leaf.is_listed_content.Goals as goal

pub returns-in-2-clause-found : goal.returns-in-2-clause-found
returns-in-2-clause-found c =
    let e = element_under c.args.header c.args.content.now in
    let is : IsPrimitive e 2 = record { class = c.requires.class; constructed = c.requires.primitive; tag = ap (λ (t : Tag). t.0) (sym c.tag.ensures) ∙ c.in-2.is } in
    λ yes. plain_found integer e is (sym c.is_shortest_integer.ensures ∙ yes)

pub returns-in-2-clause-only : goal.returns-in-2-clause-only
returns-in-2-clause-only c =
    let e = element_under c.args.header c.args.content.now in
    let is : IsPrimitive e 2 = record { class = c.requires.class; constructed = c.requires.primitive; tag = ap (λ (t : Tag). t.0) (sym c.tag.ensures) ∙ c.in-2.is } in
    λ d p. c.is_shortest_integer.ensures ∙ plain_only integer e is d p

pub returns-in-4-clause-found : goal.returns-in-4-clause-found
returns-in-4-clause-found c =
    let e = element_under c.args.header c.args.content.now in
    let is : IsPrimitive e 4 = record { class = c.requires.class; constructed = c.requires.primitive; tag = ap (λ (t : Tag). t.0) (sym c.tag.ensures) ∙ c.in-4.is } in
    λ yes. plain_found octet_string e is tt

pub returns-in-4-clause-only : goal.returns-in-4-clause-only
returns-in-4-clause-only c = λ d p. refl

pub returns-in-7-clause-found : goal.returns-in-7-clause-found
returns-in-7-clause-found c =
    let e = element_under c.args.header c.args.content.now in
    let is : IsPrimitive e 7 = record { class = c.requires.class; constructed = c.requires.primitive; tag = ap (λ (t : Tag). t.0) (sym c.tag.ensures) ∙ c.in-7.is } in
    λ yes. plain_found object_descriptor e is tt

pub returns-in-7-clause-only : goal.returns-in-7-clause-only
returns-in-7-clause-only c = λ d p. refl

pub returns-in-12-clause-found : goal.returns-in-12-clause-found
returns-in-12-clause-found c =
    let e = element_under c.args.header c.args.content.now in
    let is : IsPrimitive e 12 = record { class = c.requires.class; constructed = c.requires.primitive; tag = ap (λ (t : Tag). t.0) (sym c.tag.ensures) ∙ c.in-12.is } in
    λ yes. plain_found utf8_string e is (c.is_text.ensures.0 yes)

pub returns-in-12-clause-only : goal.returns-in-12-clause-only
returns-in-12-clause-only c =
    let e = element_under c.args.header c.args.content.now in
    let is : IsPrimitive e 12 = record { class = c.requires.class; constructed = c.requires.primitive; tag = ap (λ (t : Tag). t.0) (sym c.tag.ensures) ∙ c.in-12.is } in
    λ d p. c.is_text.ensures.1 (plain_only utf8_string e is d p)

pub returns-in-13-clause-found : goal.returns-in-13-clause-found
returns-in-13-clause-found c =
    let e = element_under c.args.header c.args.content.now in
    let is : IsPrimitive e 13 = record { class = c.requires.class; constructed = c.requires.primitive; tag = ap (λ (t : Tag). t.0) (sym c.tag.ensures) ∙ c.in-13.is } in
    λ yes. plain_found relative_oid e is (c.is_oid_content-in-13.ensures.0 yes)

pub returns-in-13-clause-only : goal.returns-in-13-clause-only
returns-in-13-clause-only c =
    let e = element_under c.args.header c.args.content.now in
    let is : IsPrimitive e 13 = record { class = c.requires.class; constructed = c.requires.primitive; tag = ap (λ (t : Tag). t.0) (sym c.tag.ensures) ∙ c.in-13.is } in
    λ d p. c.is_oid_content-in-13.ensures.1 (plain_only relative_oid e is d p)

pub returns-in-18-clause-found : goal.returns-in-18-clause-found
returns-in-18-clause-found c =
    let e = element_under c.args.header c.args.content.now in
    let is : IsPrimitive e 18 = record { class = c.requires.class; constructed = c.requires.primitive; tag = ap (λ (t : Tag). t.0) (sym c.tag.ensures) ∙ c.in-18.is } in
    λ yes. plain_found numeric_string e is (sym c.has_all.ensures ∙ yes)

pub returns-in-18-clause-only : goal.returns-in-18-clause-only
returns-in-18-clause-only c =
    let e = element_under c.args.header c.args.content.now in
    let is : IsPrimitive e 18 = record { class = c.requires.class; constructed = c.requires.primitive; tag = ap (λ (t : Tag). t.0) (sym c.tag.ensures) ∙ c.in-18.is } in
    λ d p. c.has_all.ensures ∙ plain_only numeric_string e is d p

pub returns-in-19-clause-found : goal.returns-in-19-clause-found
returns-in-19-clause-found c =
    let e = element_under c.args.header c.args.content.now in
    let is : IsPrimitive e 19 = record { class = c.requires.class; constructed = c.requires.primitive; tag = ap (λ (t : Tag). t.0) (sym c.tag.ensures) ∙ c.in-19.is } in
    λ yes. plain_found printable_string e is (sym c.has_all-in-19.ensures ∙ yes)

pub returns-in-19-clause-only : goal.returns-in-19-clause-only
returns-in-19-clause-only c =
    let e = element_under c.args.header c.args.content.now in
    let is : IsPrimitive e 19 = record { class = c.requires.class; constructed = c.requires.primitive; tag = ap (λ (t : Tag). t.0) (sym c.tag.ensures) ∙ c.in-19.is } in
    λ d p. c.has_all-in-19.ensures ∙ plain_only printable_string e is d p

pub returns-in-20-clause-found : goal.returns-in-20-clause-found
returns-in-20-clause-found c =
    let e = element_under c.args.header c.args.content.now in
    let is : IsPrimitive e 20 = record { class = c.requires.class; constructed = c.requires.primitive; tag = ap (λ (t : Tag). t.0) (sym c.tag.ensures) ∙ c.in-20.is } in
    λ yes. plain_found t61_string e is tt

pub returns-in-20-clause-only : goal.returns-in-20-clause-only
returns-in-20-clause-only c = λ d p. refl

pub returns-in-21-clause-found : goal.returns-in-21-clause-found
returns-in-21-clause-found c =
    let e = element_under c.args.header c.args.content.now in
    let is : IsPrimitive e 21 = record { class = c.requires.class; constructed = c.requires.primitive; tag = ap (λ (t : Tag). t.0) (sym c.tag.ensures) ∙ c.in-21.is } in
    λ yes. plain_found videotex_string e is tt

pub returns-in-21-clause-only : goal.returns-in-21-clause-only
returns-in-21-clause-only c = λ d p. refl

pub returns-in-22-clause-found : goal.returns-in-22-clause-found
returns-in-22-clause-found c =
    let e = element_under c.args.header c.args.content.now in
    let is : IsPrimitive e 22 = record { class = c.requires.class; constructed = c.requires.primitive; tag = ap (λ (t : Tag). t.0) (sym c.tag.ensures) ∙ c.in-22.is } in
    λ yes. plain_found ia5_string e is (sym c.has_all-in-22.ensures ∙ yes)

pub returns-in-22-clause-only : goal.returns-in-22-clause-only
returns-in-22-clause-only c =
    let e = element_under c.args.header c.args.content.now in
    let is : IsPrimitive e 22 = record { class = c.requires.class; constructed = c.requires.primitive; tag = ap (λ (t : Tag). t.0) (sym c.tag.ensures) ∙ c.in-22.is } in
    λ d p. c.has_all-in-22.ensures ∙ plain_only ia5_string e is d p

pub returns-in-23-clause-found : goal.returns-in-23-clause-found
returns-in-23-clause-found c =
    let e = element_under c.args.header c.args.content.now in
    let is : IsPrimitive e 23 = record { class = c.requires.class; constructed = c.requires.primitive; tag = ap (λ (t : Tag). t.0) (sym c.tag.ensures) ∙ c.in-23.is } in
    λ yes. plain_found utc_time e is (c.is_utc_time.ensures.0 yes)

pub returns-in-23-clause-only : goal.returns-in-23-clause-only
returns-in-23-clause-only c =
    let e = element_under c.args.header c.args.content.now in
    let is : IsPrimitive e 23 = record { class = c.requires.class; constructed = c.requires.primitive; tag = ap (λ (t : Tag). t.0) (sym c.tag.ensures) ∙ c.in-23.is } in
    λ d p. c.is_utc_time.ensures.1 (plain_only utc_time e is d p)

pub returns-in-24-clause-found : goal.returns-in-24-clause-found
returns-in-24-clause-found c =
    let e = element_under c.args.header c.args.content.now in
    let is : IsPrimitive e 24 = record { class = c.requires.class; constructed = c.requires.primitive; tag = ap (λ (t : Tag). t.0) (sym c.tag.ensures) ∙ c.in-24.is } in
    λ yes. plain_found generalized_time e is (c.is_generalized_time.ensures.0 yes)

pub returns-in-24-clause-only : goal.returns-in-24-clause-only
returns-in-24-clause-only c =
    let e = element_under c.args.header c.args.content.now in
    let is : IsPrimitive e 24 = record { class = c.requires.class; constructed = c.requires.primitive; tag = ap (λ (t : Tag). t.0) (sym c.tag.ensures) ∙ c.in-24.is } in
    λ d p. c.is_generalized_time.ensures.1 (plain_only generalized_time e is d p)

pub returns-in-25-clause-found : goal.returns-in-25-clause-found
returns-in-25-clause-found c =
    let e = element_under c.args.header c.args.content.now in
    let is : IsPrimitive e 25 = record { class = c.requires.class; constructed = c.requires.primitive; tag = ap (λ (t : Tag). t.0) (sym c.tag.ensures) ∙ c.in-25.is } in
    λ yes. plain_found graphic_string e is tt

pub returns-in-25-clause-only : goal.returns-in-25-clause-only
returns-in-25-clause-only c = λ d p. refl

pub returns-in-26-clause-found : goal.returns-in-26-clause-found
returns-in-26-clause-found c =
    let e = element_under c.args.header c.args.content.now in
    let is : IsPrimitive e 26 = record { class = c.requires.class; constructed = c.requires.primitive; tag = ap (λ (t : Tag). t.0) (sym c.tag.ensures) ∙ c.in-26.is } in
    λ yes. plain_found visible_string e is (sym c.has_all-in-26.ensures ∙ yes)

pub returns-in-26-clause-only : goal.returns-in-26-clause-only
returns-in-26-clause-only c =
    let e = element_under c.args.header c.args.content.now in
    let is : IsPrimitive e 26 = record { class = c.requires.class; constructed = c.requires.primitive; tag = ap (λ (t : Tag). t.0) (sym c.tag.ensures) ∙ c.in-26.is } in
    λ d p. c.has_all-in-26.ensures ∙ plain_only visible_string e is d p

pub returns-in-27-clause-found : goal.returns-in-27-clause-found
returns-in-27-clause-found c =
    let e = element_under c.args.header c.args.content.now in
    let is : IsPrimitive e 27 = record { class = c.requires.class; constructed = c.requires.primitive; tag = ap (λ (t : Tag). t.0) (sym c.tag.ensures) ∙ c.in-27.is } in
    λ yes. plain_found general_string e is tt

pub returns-in-27-clause-only : goal.returns-in-27-clause-only
returns-in-27-clause-only c = λ d p. refl

pub returns-in-28-clause-found : goal.returns-in-28-clause-found
returns-in-28-clause-found c =
    let e = element_under c.args.header c.args.content.now in
    let is : IsPrimitive e 28 = record { class = c.requires.class; constructed = c.requires.primitive; tag = ap (λ (t : Tag). t.0) (sym c.tag.ensures) ∙ c.in-28.is } in
    λ yes. plain_found universal_string e is tt

pub returns-in-28-clause-only : goal.returns-in-28-clause-only
returns-in-28-clause-only c = λ d p. refl

pub returns-in-30-clause-found : goal.returns-in-30-clause-found
returns-in-30-clause-found c =
    let e = element_under c.args.header c.args.content.now in
    let is : IsPrimitive e 30 = record { class = c.requires.class; constructed = c.requires.primitive; tag = ap (λ (t : Tag). t.0) (sym c.tag.ensures) ∙ c.in-30.is } in
    λ yes. plain_found bmp_string e is tt

pub returns-in-30-clause-only : goal.returns-in-30-clause-only
returns-in-30-clause-only c = λ d p. refl

pub returns-in-1-clause-found : goal.returns-in-1-clause-found
returns-in-1-clause-found c =
    let e = element_under c.args.header c.args.content.now in
    let is : IsPrimitive e 1 = record { class = c.requires.class; constructed = c.requires.primitive; tag = ap (λ (t : Tag). t.0) (sym c.tag.ensures) ∙ c.in-1.is } in
    λ yes. boolean_found e is (sym c.is_boolean.ensures ∙ yes)

pub returns-in-1-clause-only : goal.returns-in-1-clause-only
returns-in-1-clause-only c =
    let e = element_under c.args.header c.args.content.now in
    let is : IsPrimitive e 1 = record { class = c.requires.class; constructed = c.requires.primitive; tag = ap (λ (t : Tag). t.0) (sym c.tag.ensures) ∙ c.in-1.is } in
    λ d p. c.is_boolean.ensures ∙ boolean_only e is d p

pub returns-in-3-clause-found : goal.returns-in-3-clause-found
returns-in-3-clause-found c =
    let e = element_under c.args.header c.args.content.now in
    let is : IsPrimitive e 3 = record { class = c.requires.class; constructed = c.requires.primitive; tag = ap (λ (t : Tag). t.0) (sym c.tag.ensures) ∙ c.in-3.is } in
    λ yes. bits_found e is (sym c.is_bits.ensures ∙ yes)

pub returns-in-3-clause-only : goal.returns-in-3-clause-only
returns-in-3-clause-only c =
    let e = element_under c.args.header c.args.content.now in
    let is : IsPrimitive e 3 = record { class = c.requires.class; constructed = c.requires.primitive; tag = ap (λ (t : Tag). t.0) (sym c.tag.ensures) ∙ c.in-3.is } in
    λ d p. c.is_bits.ensures ∙ bits_only e is d p

pub returns-in-5-clause-found : goal.returns-in-5-clause-found
returns-in-5-clause-found c =
    let e = element_under c.args.header c.args.content.now in
    let is : IsPrimitive e 5 = record { class = c.requires.class; constructed = c.requires.primitive; tag = ap (λ (t : Tag). t.0) (sym c.tag.ensures) ∙ c.in-5.is } in
    λ yes. null_found e is (nil_from_length e.content (eqb-true (length e.content) 0 (sym c.is_empty.ensures ∙ yes)))

pub returns-in-5-clause-only : goal.returns-in-5-clause-only
returns-in-5-clause-only c =
    let e = element_under c.args.header c.args.content.now in
    let is : IsPrimitive e 5 = record { class = c.requires.class; constructed = c.requires.primitive; tag = ap (λ (t : Tag). t.0) (sym c.tag.ensures) ∙ c.in-5.is } in
    λ d p. c.is_empty.ensures ∙ eq-eqb (length e.content) 0 (ap length (null_only e is d p))

pub returns-in-6-clause-found : goal.returns-in-6-clause-found
returns-in-6-clause-found c =
    let e = element_under c.args.header c.args.content.now in
    let is : IsPrimitive e 6 = record { class = c.requires.class; constructed = c.requires.primitive; tag = ap (λ (t : Tag). t.0) (sym c.tag.ensures) ∙ c.in-6.is } in
    λ yes. oid_found e is (c.is_oid_content.ensures.0 yes)

pub returns-in-6-clause-only : goal.returns-in-6-clause-only
returns-in-6-clause-only c =
    let e = element_under c.args.header c.args.content.now in
    let is : IsPrimitive e 6 = record { class = c.requires.class; constructed = c.requires.primitive; tag = ap (λ (t : Tag). t.0) (sym c.tag.ensures) ∙ c.in-6.is } in
    λ d p. c.is_oid_content.ensures.1 (oid_only e is d p)

pub returns-in-10-clause-found : goal.returns-in-10-clause-found
returns-in-10-clause-found c =
    let e = element_under c.args.header c.args.content.now in
    let is : IsPrimitive e 10 = record { class = c.requires.class; constructed = c.requires.primitive; tag = ap (λ (t : Tag). t.0) (sym c.tag.ensures) ∙ c.in-10.is } in
    λ yes. enumerated_found e is (c.is_enumerated.ensures.0 yes)

pub returns-in-10-clause-only : goal.returns-in-10-clause-only
returns-in-10-clause-only c =
    let e = element_under c.args.header c.args.content.now in
    let is : IsPrimitive e 10 = record { class = c.requires.class; constructed = c.requires.primitive; tag = ap (λ (t : Tag). t.0) (sym c.tag.ensures) ∙ c.in-10.is } in
    λ d p. c.is_enumerated.ensures.1 (enumerated_only e is d p)
