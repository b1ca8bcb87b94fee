use Rattle.std.proofs.Common.{sym, Some}
use Rattle.cert_judge.specs.Items.{certificate_of}
use Rattle.cert_reasons.specs.declared.links.Unlinked.TheVariants.{KeyIdsDiffer}
use Rattle.std.specs.List.{Contains}
use Rattle.certpath_why.specs.Cuts.{IsCutOf}
use Rattle.certpath_why.specs.Groups.{IsDiffering, IsIdKind}
use Rattle.certpath_why.specs.Named.{HasId}
use Rattle.certpath_why.specs.Sides.{others_of}
use Rattle.certpath_why.specs.declared.cuts.Cut.{Cut}
use Rattle.certpath_why.proofs.Spacing.{ranges_spaced}
use Rattle.certpath_why.proofs.Tailing.{cut_tails, written_more}
use Rattle.certpath_why.proofs.Unlike.{differing_alike}
use Rattle.certpath_why.proofs.differing.add_differing.Goals as goal

pub returns-in-Some-clause-tails : goal.returns-in-Some-clause-tails
returns-in-Some-clause-tails c =
    let side = c.args.side.now in
    let x = c.args.certificate.now in
    let differing = c.requires.kept c.in_ok-kind.kind c.in-Some.differing.now (sym c.in-Some.ensures.value) c.args._place x c.requires.at (side.first, rw c.requires.name at c.requires.first, c.in_ok-kind.ensures) in
    cut_tails (Some KeyIdsDiffer) (IsDiffering (others_of side) (certificate_of x)) c.in-Some.differing.now _ _ differing c.in_ok-add_cut.ensures

pub differing_among-requires : goal.differing_among-requires
differing_among-requires c =
    let side = c.args.side.now in
    ranges_spaced (λ w. Contains side.named.now.places.items w × HasId side.others.now w) side.named.now.keyed.items c.requires.named.keyed

pub returns-clause-kept : goal.returns-clause-kept
returns-clause-kept c =
    let side = c.args.side.now in
    let x = c.args.certificate.now in
    let others = others_of side in
    let cut = c.in_ok-differing.ensures side.others.now (rw c.requires.name at c.requires.named) in
    written_more c.args._items.now (IsIdKind others) (λ y (k : Cut). IsCutOf (IsDiffering others (certificate_of y)) k) c.args.kept.now c.insert.new.self c.in_ok-kind.kind c.in_ok-differing.differing c.requires.kept
    (λ q y at k. differing_alike others c.args._place q x y c.in_ok-kind.kind.items c.in_ok-differing.differing (side.first, rw c.requires.name at c.requires.first, c.in_ok-kind.ensures) k cut) (λ z. c.in_ok-insert.ensures.updates.0 z)

pub returns-clause-tails : goal.returns-clause-tails
returns-clause-tails c =
    let side = c.args.side.now in
    let x = c.args.certificate.now in
    let cut = c.in_ok-differing.ensures side.others.now (rw c.requires.name at c.requires.named) in
    cut_tails (Some KeyIdsDiffer) (IsDiffering (others_of side) (certificate_of x)) c.in_ok-differing.differing _ _ cut c.in_ok-add_cut-2.ensures
