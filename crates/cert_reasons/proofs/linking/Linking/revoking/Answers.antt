use Rattle.cert_reasons.proofs.linking.Linking.revoking.Goals as goal

pub returns : goal.returns
returns c = rw c.as_slice.ensures.value c.requires.revoking
