use Rattle.cert_reasons.proofs.certificates.has_reason.Goals as goal

pub returns-in-Repeats : goal.returns-in-Repeats
returns-in-Repeats g c = rw c.in-Repeats.is (rw c.deref.ensures.value at c.is_repeat.ensures)

pub returns-in-BadUsage : goal.returns-in-BadUsage
returns-in-BadUsage g c = rw c.in-BadUsage.is (rw c.deref-in-BadUsage.ensures.value at c.has_bad_usage.ensures)
