use Rattle.std.proofs.Common.{arith, inl, inr, ◌⊎◌, ◌++◌}
use Rattle.asn1_traits.specs.Writes.{IsLong, written}
use Rattle.asn1_traits.proofs.Writing.{front_first, front_second, front_all, stops_too, stops_from, long_first, long_second, both_written}
use Rattle.asn1_lists.proofs.pair.PairToDer.write_der_content.Goals as goal

pub returns-in-Err : goal.returns-in-Err
returns-in-Err g c =
    let v = c.args.self.now in
    let xs = written (g.A.ToDer.element v.first) in
    let ys = written (g.B.ToDer.element v.second) in
    record {
      ok = tt;
      err = (
        front_first _ _ xs ys c.in-Err.ensures.octets.err.0,
        stops_too _ _ (IsLong xs) (g.A.ToDer.grows v.first) (g.A.ToDer.is_der v.first → ⊥) (IsLong (xs ++ ys)) (g.A.ToDer.grows v.first ⊎ g.B.ToDer.grows v.second)
            (g.A.ToDer.is_der v.first × g.B.ToDer.is_der v.second → ⊥) c.in-Err.e (long_first xs ys) inl (λ h f. h f.0) c.in-Err.ensures.octets.err.1,
      );
    }

pub returns-in-Err-write_der : goal.returns-in-Err-write_der
returns-in-Err-write_der g c =
    let v = c.args.self.now in
    let xs = written (g.A.ToDer.element v.first) in
    let ys = written (g.B.ToDer.element v.second) in
    let first = c.in-Ok.ensures.octets.ok in
    record {
      ok = tt;
      err = (
        front_second _ _ _ xs ys first.0 c.in-Err-write_der.ensures.octets.err.0,
        stops_from _ _ _ (IsLong (xs ++ ys)) (g.A.ToDer.grows v.first ⊎ g.B.ToDer.grows v.second) (g.A.ToDer.is_der v.first × g.B.ToDer.is_der v.second → ⊥) c.in-Err-write_der.e first.2
            (stops_too _ _ (IsLong ys) (g.B.ToDer.grows v.second) (g.B.ToDer.is_der v.second → ⊥) (IsLong (xs ++ ys)) (g.A.ToDer.grows v.first ⊎ g.B.ToDer.grows v.second)
            (g.A.ToDer.is_der v.first × g.B.ToDer.is_der v.second → ⊥) c.in-Err-write_der.e (long_second xs ys) inr (λ h f. h f.1) c.in-Err-write_der.ensures.octets.err.1),
      );
    }

pub returns-in-None : goal.returns-in-None
returns-in-None g c =
    let v = c.args.self.now in
    let xs = written (g.A.ToDer.element v.first) in
    let ys = written (g.B.ToDer.element v.second) in
    let both = both_written _ _ _ _ _ _ c.in-Ok.n c.in-Ok-write_der.n xs ys c.in-Ok.ensures.octets.ok c.in-Ok-write_der.ensures.octets.ok in
    record { ok = tt; err = (front_all _ _ (xs ++ ys) both.0, (omega (arith, both.1), both.2)) }
