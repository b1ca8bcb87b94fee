use Rattle.std.proofs.Common.{◌⊎◌, inr, subst, List, ℕ, []}
use Rattle.asn1_traits.proofs.Outcomes.{part_refused}
use Rattle.asn1_lists.proofs.pair.PairFromDerAny.try_from_der_any.Goals as goal

pub returns-in-Err-from_der-2 : goal.returns-in-Err-from_der-2
returns-in-Err-from_der-2 g c =
    part_refused g.E.From.from_gives g.B.DerMeaning.der_grows (g.A.DerMeaning.der_grows ⊎ g.B.DerMeaning.der_grows) g.B.DerMeaning.der_cut g.B.DerMeaning.der_reads
    c.in-Ok-from_der.read.0.now c.in-Err-from_der-2.e c.within-in-Err-from_der-2.result _ inr c.in-Err-from_der-2.ensures c.within-in-Err-from_der-2.ensures
    (λ none v m.
    let Second : List ℕ → Type 0 = λ z. g.B.DerMeaning.der_reads z v.second [] in
    none v.second [] (subst Second (g.A.DerMeaning.one_rest _ v.first c.in-Ok-from_der.read.1 m.middle c.in-Ok-from_der.read.0.now m.begins c.in-Ok-from_der.ensures) m.ends))
