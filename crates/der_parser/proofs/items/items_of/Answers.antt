use Rattle.std.proofs.Common.{◌≡◌, refl, ◌<◌, ◌++◌, ◌∷◌, [], length, rules, arith}
use Rattle.std.proofs.lemmas.Grind.{common_steps}
use Rattle.asn1_core.proofs.Numbers.{empty_of}
use Rattle.der_parser.specs.Items.{refused, no_octet_taken, no_memory}
use Rattle.der_parser.proofs.Sequences.{takes_more, takes_all}
use Rattle.der_parser.proofs.items.items_of.Given as given
use Rattle.der_parser.proofs.items.items_of.Goals as goal

pub returns-then-after-rest : goal.returns-then-after-rest
returns-then-after-rest g c =
    let some : 0 < length c.loop-rest.rest.now = grind (arith, common_steps) in
    record {
      items = c.loop-rest.items.items;
      rest = c.loop-rest.rest.now;
      some = some;
      read = c.loop-rest.invariant.read;
      stops = no_octet_taken c.loop-rest.rest c.in-Ok.after c.in-Ok.item refl c.in-Ok.ensures (omega arith) c.from.ensures;
    }

pub loop-rest-preserved : goal.loop-rest-preserved
loop-rest-preserved g c =
    let more : c.push.new.self.items ≡ c.loop-rest.items.items ++ c.in-Ok.item ∷ [] = search rules in
    record {
      callable = search rules;
      read = rw more (takes_more (λ i r. given.F-post g c.args.f i r) c.args.content.now c.loop-rest.rest.now c.loop-rest.items.items c.in-Ok.item c.loop-rest.rest c.in-Ok.after c.loop-rest.invariant.read refl c.in-Ok.ensures (omega arith));
    }

pub returns-in-Err-push : goal.returns-in-Err-push
returns-in-Err-push g c =
    let some : 0 < length c.loop-rest.rest.now = grind (arith, common_steps) in
    record { items = c.loop-rest.items.items; rest = c.loop-rest.rest.now; some = some; read = c.loop-rest.invariant.read; stops = no_memory c.from-in-Err-push.ensures }

pub returns-in-Err : goal.returns-in-Err
returns-in-Err g c =
    let some : 0 < length c.loop-rest.rest.now = grind (arith, common_steps) in
    record {
      items = c.loop-rest.items.items;
      rest = c.loop-rest.rest.now;
      some = some;
      read = c.loop-rest.invariant.read;
      stops = refused c.loop-rest.rest c.in-Err.refusal refl c.in-Err.ensures c.within.ensures;
    }

pub returns : goal.returns
returns g c =
    let empty : length c.loop-rest.rest.now ≡ 0 = grind (arith, common_steps) in
    takes_all (λ i r. given.F-post g c.args.f i r) c.args.content.now c.loop-rest.rest.now c.loop-rest.items.items c.loop-rest.invariant.read (empty_of c.loop-rest.rest.now empty)
