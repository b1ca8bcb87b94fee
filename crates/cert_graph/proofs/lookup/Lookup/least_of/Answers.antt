-- A group's own flights.
use Rattle.std.proofs.Common.{◌≡◌, ◌∙◌, ◌<◌, List, length, map, get_or, Vec, Global, ap, sym, subst}
use Rattle.std.proofs.lemmas.List.{get_or-map}
use Rattle.cert_graph.specs.declared.stairs.Flight.{Flight}
use Rattle.cert_graph.specs.Nodes.{graph_of}
use Rattle.cert_graph.specs.Stairs.{AreFlights}
use Rattle.cert_graph.proofs.lookup.Lookup.least_of.Goals as goal

pub returns-in-Some : goal.returns-in-Some
returns-in-Some c = λ nodes rows own h group row.
    let l = c.in-Some.ensures.lookup in
    let k = c.args.group in
    let x = c.in-Some.flights.now in
    let vectors = c.args.self.now.flights.items in
    let members = (get_or nodes.groups.items k own).members.items in
    let there : k < length vectors = subst (λ (vs : List (Vec Flight Global)). k < length vs) c.deref.ensures.value l.3.0 in
    let is : x ≡ get_or vectors k x = subst (λ (vs : List (Vec Flight Global)). x ≡ get_or vs k x) c.deref.ensures.value l.1 in
    let same : get_or (map (λ (f : Vec Flight Global). f.items) vectors) k x.items ≡ c.deref-in-Some.result.now =
    get_or-map (λ (f : Vec Flight Global). f.items) vectors k x x.items there ∙ ap (λ (f : Vec Flight Global). f.items) (sym is) ∙ sym c.deref-in-Some.ensures.value in
    c.least_in.ensures nodes rows members (subst (λ (flights : List Flight). AreFlights (graph_of nodes) rows members flights) same (h.flights.1 k own x.items group)) row
