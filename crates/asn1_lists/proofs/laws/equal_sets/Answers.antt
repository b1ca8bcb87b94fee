use Rattle.std.proofs.lemmas.List.Sorted.{sum_by-IsPermutation}
use Rattle.asn1_lists.specs.Ordered.{encodings}
use Rattle.asn1_lists.specs.OrderLaws.{totals_of}
use Rattle.asn1_lists.specs.SetLaws.{same_set, set_by_encodings}
use Rattle.asn1_traits.specs.Writes.{written}
use Rattle.asn1_lists.proofs.laws.equal_sets.Goals as goal

pub returns-clause-encodings : goal.returns-clause-encodings
returns-clause-encodings g c = λ vs ws h.
    let element = g.T.ToDer.element in
    set_by_encodings element vs ws (same_set element vs ws (λ count. sum_by-IsPermutation count (encodings element vs) (encodings element ws) h))

pub returns-clause-values : goal.returns-clause-values
returns-clause-values g c = λ vs ws h.
    let element = g.T.ToDer.element in
    set_by_encodings element vs ws (same_set element vs ws (totals_of (λ v. written (element v)) vs ws h))
