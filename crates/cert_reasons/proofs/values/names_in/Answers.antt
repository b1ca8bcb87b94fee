use Rattle.std.proofs.Common.{◌≡◌, ◌∙◌, ◌<◌, ap, sym, subst, ℕ, List, [], ◌∷◌, ◌++◌, length, map}
use Rattle.std.proofs.lemmas.List.{map-append}
use Rattle.cert_serving.specs.GeneralNames.{IsGeneralName, general_name_octets}
use Rattle.cert_serving.specs.View.{general_name_view}
use Rattle.cert_reasons.proofs.Reading.{IsRead, read_more, read_stuck, some_left}
use Rattle.cert_reasons.proofs.Contents.{names_long}
use Rattle.cert_reasons.proofs.values.names_in.Goals as goal

pub returns-in_default : goal.returns-in_default
returns-in_default c = λ gs a.
    read_stuck general_name_octets IsGeneralName c.args.content.now c.loop-rest.rest.now _ (some_left c.loop-rest.rest.now c.is_empty.result c.is_empty.ensures c.loop-rest-test.true) c.loop-rest.invariant
    (λ g r o e. c.in_default.ensures.only g r o e) gs a.0 a.1

pub loop-rest-preserved : goal.loop-rest-preserved
loop-rest-preserved c =
    let read = map general_name_view c.loop-rest.names.items in
    let one = general_name_view c.in-Some.name in
    let pushed : map general_name_view c.push.new.self.items ≡ read ++ one ∷ [] = ap (map general_name_view) c.in_ok-push.ensures.items ∙ map-append general_name_view c.loop-rest.names.items _ in
    subst (λ xs. IsRead general_name_octets IsGeneralName c.args.content.now c.in-Some.after.now xs) (sym pushed)
    (read_more general_name_octets IsGeneralName c.args.content.now c.loop-rest.rest.now one c.in-Some.after.now read names_long c.loop-rest.invariant c.in-Some.ensures.found.0 c.in-Some.ensures.found.1
    (λ g r o e. c.in-Some.ensures.only g r o e))

pub loop-rest-smaller : goal.loop-rest-smaller
loop-rest-smaller c = subst (λ (z : List ℕ). length c.in-Some.after.now < length z) (sym c.in-Some.ensures.found.1) (names_long (general_name_view c.in-Some.name) c.in-Some.after.now)
