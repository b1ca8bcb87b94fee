use Rattle.std.proofs.Common.{rules, arith, ◌≡◌, ◌≢◌, ◌++◌, ◌∷◌, []}
use Rattle.asn1_core.specs.declared.error.Error.TheVariants.{NomError}
use Rattle.asn1_core.specs.declared.error.ErrorKind.TheVariants.{Many0}
use Rattle.asn1_traits.proofs.Outcomes.{refused_for, part_refused}
use Rattle.asn1_traits.proofs.Absent.{not_empty, empty_is}
use Rattle.asn1_traits.proofs.Sequences.{read_more, read_all, none_left, none_short}
use Rattle.asn1_traits.proofs.ber_items.read_ber_items.Goals as goal

pub returns-then-after-rest : goal.returns-then-after-rest
returns-then-after-rest g c =
    let some = not_empty c.loop-rest.rest.now (search rules) in
    refused_for g.E.From.from_gives (Unit {0}) (NomError Many0) c.from.result _ c.from.ensures (λ e. tt)
    (λ ne. none_short g.T.BerMeaning.ber_reads g.T.BerMeaning.one_ber_rest c.args.octets.now c.loop-rest.rest.now c.in-Ok.after.now c.loop-rest.items.items c.in-Ok.item c.loop-rest.invariant c.in-Ok.ensures some (omega arith))

pub loop-rest-preserved : goal.loop-rest-preserved
loop-rest-preserved g c =
    let some = not_empty c.loop-rest.rest.now (search rules) in
    let more : c.push.new.self.items ≡ c.loop-rest.items.items ++ c.in-Ok.item ∷ [] = search rules in
    read_more g.T.BerMeaning.ber_reads g.T.BerMeaning.one_ber_rest c.args.octets.now c.loop-rest.rest.now c.in-Ok.after.now c.loop-rest.items.items c.push.new.self.items c.in-Ok.item c.loop-rest.invariant c.in-Ok.ensures some (omega arith) more

pub returns-in-Err : goal.returns-in-Err
returns-in-Err g c =
    let some = not_empty c.loop-rest.rest.now (search rules) in
    let reads = g.T.BerMeaning.ber_reads in
    part_refused g.E.From.from_gives g.T.BerMeaning.ber_grows (Unit {0}) g.T.BerMeaning.ber_cut reads c.loop-rest.rest.now c.in-Err.e c.within.result _ (λ h. tt) c.in-Err.ensures c.within.ensures
    (λ none. none_left reads c.args.octets.now c.loop-rest.rest.now c.loop-rest.items.items c.loop-rest.invariant some none)

pub returns : goal.returns
returns g c = read_all g.T.BerMeaning.ber_reads c.args.octets.now c.loop-rest.rest.now c.loop-rest.items.items c.loop-rest.invariant (empty_is c.loop-rest.rest.now (search rules))
