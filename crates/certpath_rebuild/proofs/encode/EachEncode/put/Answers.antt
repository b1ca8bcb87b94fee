use Rattle.std.proofs.Common.{rules, ◌≡◌, ◌∷◌, ◌++◌, ◌∙◌, ap, sym, append_assoc, flat_map}
use Rattle.certpath_rebuild.proofs.Writing.{part_stopped, one_more}
use Rattle.certpath_rebuild.proofs.encode.EachEncode.put.Goals as goal

pub returns-in_err-put-clause-octets : goal.returns-in_err-put-clause-octets
returns-in_err-put-clause-octets g c =
    let e : c.loop-part.rest.now ≡ c.in-Some.part.now ∷ c.in-Some.after.now = search rules in
    let i = c.loop-part.invariant in
    part_stopped g.A.Encode.octets _ _ _ _ _ _ i.0 c.args.self.now.0.now c.loop-part.rest.now c.in-Some.after.now c.in-Some.part.now _ _ i.1 i.3 e c.from_residual.ensures.1 c.in_err-put.ensures.octets

pub loop-part-preserved : goal.loop-part-preserved
loop-part-preserved g c =
    let f = g.A.Encode.octets in
    let e : c.loop-part.rest.now ≡ c.in-Some.part.now ∷ c.in-Some.after.now = search rules in
    let i = c.loop-part.invariant in (
      i.0 ++ f c.in-Some.part.now,
      one_more _ _ _ _ _ _ i.0 (f c.in-Some.part.now) _ i.1 c.in_ok-put.ensures.octets,
      c.in_ok-put.ensures.flushes ∙ i.2,
      append_assoc i.0 (f c.in-Some.part.now) (flat_map f c.in-Some.after.now) ∙ ap (λ z. i.0 ++ flat_map f z) (sym e) ∙ i.3,
    )
