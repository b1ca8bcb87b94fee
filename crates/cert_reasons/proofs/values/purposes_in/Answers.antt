use Rattle.std.proofs.Common.{◌≡◌, ◌∙◌, ◌<◌, ap, sym, subst, ℕ, List, [], ◌∷◌, ◌++◌, length, map}
use Rattle.std.proofs.lemmas.List.{map-append}
use Rattle.asn1_oid.specs.Identifier.{IsOidContent}
use Rattle.cert_model.specs.Octets.{identifier_octets}
use Rattle.cert_reasons.specs.declared.values.Purpose.{Purpose}
use Rattle.cert_reasons.proofs.Reading.{IsRead, read_more, read_stuck, some_left}
use Rattle.cert_reasons.proofs.Contents.{purposes_long}
use Rattle.cert_reasons.proofs.values.purposes_in.Goals as goal

identifier_of : Purpose → List ℕ
identifier_of p = p.identifier.now

pub returns-in_default : goal.returns-in_default
returns-in_default c = λ ps a.
    read_stuck identifier_octets IsOidContent c.args.content.now c.loop-rest.rest.now _ (some_left c.loop-rest.rest.now c.is_empty.result c.is_empty.ensures c.loop-rest-test.true) c.loop-rest.invariant
    (λ p r o e. c.in_default.ensures.only p r o e) ps a.0 a.1

pub loop-rest-preserved : goal.loop-rest-preserved
unfolding identifier_of
loop-rest-preserved c =
    let read = map identifier_of c.loop-rest.purposes.items in
    let pushed : map identifier_of c.push.new.self.items ≡ read ++ c.in-Some.identifier.now ∷ [] = ap (map identifier_of) c.in_ok-push.ensures.items ∙ map-append identifier_of c.loop-rest.purposes.items _ in
    subst (λ xs. IsRead identifier_octets IsOidContent c.args.content.now c.in-Some.after.now xs) (sym pushed)
    (read_more identifier_octets IsOidContent c.args.content.now c.loop-rest.rest.now c.in-Some.identifier.now c.in-Some.after.now read purposes_long c.loop-rest.invariant c.in-Some.ensures.found.0 c.in-Some.ensures.found.1
    (λ p r o e. c.in-Some.ensures.only p r o e))

pub loop-rest-smaller : goal.loop-rest-smaller
loop-rest-smaller c = subst (λ (z : List ℕ). length c.in-Some.after.now < length z) (sym c.in-Some.ensures.found.1) (purposes_long c.in-Some.identifier.now c.in-Some.after.now)
