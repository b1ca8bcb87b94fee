use Rattle.std.specs.List.{flat_map}
use Rattle.cert_serving.specs.GeneralNames.{general_name_octets}
use Rattle.cert_reasons.proofs.Reading.{told_less, some_left, none_left}
use Rattle.cert_reasons.proofs.Contents.{names_value, value_names, no_names}
use Rattle.cert_reasons.proofs.values.names_of.Goals as goal

pub returns-in_default : goal.returns-in_default
returns-in_default c = λ ps a. c.in_default.ensures.only (flat_map general_name_octets ps) a.spelled

pub returns-then-is_empty : goal.returns-then-is_empty
returns-then-is_empty c = λ ps a. no_names c.args.value.now c.in-Some.content.now ps (none_left _ _ c.is_empty.ensures c.if-is_empty.true) (λ other e. c.in-Some.ensures.only other e) a

pub returns : goal.returns
returns c =
    let some = some_left c.in-Some.content.now c.is_empty.result c.is_empty.ensures c.if-is_empty.false in
    told_less _ _ _ _ (λ none ps a. none ps (value_names c.args.value.now c.in-Some.content.now ps (λ other e. c.in-Some.ensures.only other e) a))
    (λ found a. names_value c.args.value.now c.in-Some.content.now _ some c.in-Some.ensures.found a) c.names_in.result c.names_in.ensures
