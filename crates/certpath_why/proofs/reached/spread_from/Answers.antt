use Rattle.std.proofs.Common.{[], refl, map, arith}
use Rattle.std.proofs.lemmas.List.{length-map}
use Rattle.cert_judge.specs.Items.{item_of}
use Rattle.certpath_why.proofs.Items.{none_read, issuer_iff, no_issuer_of}
use Rattle.certpath_why.proofs.Spreading.{spent_more, spreads_marked, spreads_none}
use Rattle.certpath_why.proofs.Tailing.{no_first, some_first}
use Rattle.certpath_why.proofs.reached.spread_from.Goals as goal

pub returns-in_default-clause-spread : goal.returns-in_default-clause-spread
returns-in_default-clause-spread c = record {
  places = [];
  exact = no_issuer_of (map item_of c.args.found.now.items.now) c.args.place (none_read c.args.found.now.items.now c.args.place (c.in_default.ensures.only refl));
  spreads = spreads_none _ _;
}

pub returns-in_default-first-clause-spread : goal.returns-in_default-first-clause-spread
returns-in_default-first-clause-spread c =
    let places = c.issuers-places.result.now in record {
      places = places;
      exact = issuer_iff c.args.found.now.items.now c.args.place c.in-Some.certificate.now places c.in-Some.ensures.found c.issuers-places.ensures;
      spreads = spreads_marked places _ _ (λ u at. absurd (no_first places c.in_default-first.ensures.value u at));
    }

pub returns-then-is_marked-clause-spread : goal.returns-then-is_marked-clause-spread
returns-then-is_marked-clause-spread c =
    let places = c.issuers-places.result.now in
    let first = c.in-Some-first.first.now in
    let are = c.issuers-places.ensures in record {
      places = places;
      exact = issuer_iff c.args.found.now.items.now c.args.place c.in-Some.certificate.now places c.in-Some.ensures.found are;
      spreads = spreads_marked places _ _ (λ u at. c.requires.spent.whole first u c.in-Some.certificate.now.issuer.now (rw c.deref.ensures.value at (c.is_marked.ensures.0 c.if-is_marked.true))
          ((are.exact first).0 (some_first places first c.in-Some-first.ensures.value)) ((are.exact u).0 at));
    }

pub spread-requires : goal.spread-requires
spread-requires c = λ u has.
    let at = ((c.issuers-places.ensures.exact u).0 has).0 in
    let long = length-map c.args.found.now.items.now item_of in
    let count = c.requires.count in
    omega arith

pub put_mark-requires : goal.put_mark-requires
put_mark-requires c =
    let first = c.in-Some-first.first.now in
    let at = ((c.issuers-places.ensures.exact first).0 (some_first c.issuers-places.result.now first c.in-Some-first.ensures.value)).0 in
    let long = length-map c.args.found.now.items.now item_of in
    let count = c.requires.spent.count in
    omega arith

pub returns-clause-spread : goal.returns-clause-spread
returns-clause-spread c = record {
  places = c.issuers-places.result.now;
  exact = issuer_iff c.args.found.now.items.now c.args.place c.in-Some.certificate.now c.issuers-places.result.now c.in-Some.ensures.found c.issuers-places.ensures;
  spreads = c.in_ok-spread.ensures;
}

pub returns-clause-spent : goal.returns-clause-spent
returns-clause-spent c =
    let places = c.issuers-places.result.now in
    let first = c.in-Some-first.first.now in
    spent_more (map item_of c.args.found.now.items.now) c.args.spent.now.items c.put_mark.new.marks.items c.args.marks.now.items _ c.args.queue.now.items _ places c.in-Some.certificate.now.issuer.now first c.requires.spent c.in_ok-spread.ensures c.issuers-places.ensures
    (some_first places first c.in-Some-first.ensures.value) c.put_mark.ensures.count c.put_mark.ensures.exact
