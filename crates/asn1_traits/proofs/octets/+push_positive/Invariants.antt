use Rattle.asn1_traits.proofs.octets.+push_positive.Given as goal

abbrev pub decreases-push_positive : goal.decreases-push_positive
decreases-push_positive l = l.number
