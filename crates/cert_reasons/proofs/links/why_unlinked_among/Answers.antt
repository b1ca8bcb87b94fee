use Rattle.cert_reasons.proofs.links.why_unlinked_among.Goals as goal

pub listed_among-requires-clause-complete : goal.listed_among-requires-clause-complete
listed_among-requires-clause-complete g c = λ p h. rw c.deref.ensures.value ((c.in_ok-places.ensures.exact p).1 h.0)
