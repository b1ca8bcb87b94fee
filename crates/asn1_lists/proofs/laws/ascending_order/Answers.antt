use Rattle.std.proofs.lemmas.List.Sorted.{sum_by-IsPermutation}
use Rattle.asn1_lists.specs.OrderLaws.{permuted_in_order, ascending_in_order, one_order}
use Rattle.asn1_traits.specs.Writes.{written}
use Rattle.asn1_lists.proofs.laws.ascending_order.Goals as goal

pub returns-clause-ordered : goal.returns-clause-ordered
returns-clause-ordered g c = λ vs. (permuted_in_order (λ v. written (g.T.ToDer.element v)) vs, ascending_in_order (λ v. written (g.T.ToDer.element v)) vs)

pub returns-clause-one : goal.returns-clause-one
returns-clause-one g c = λ left right a b h. one_order left right a b (λ count. sum_by-IsPermutation count left right h)
