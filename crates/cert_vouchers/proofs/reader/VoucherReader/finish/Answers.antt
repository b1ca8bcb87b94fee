use Rattle.std.proofs.Common.{subst}
use Rattle.cert_vouchers.specs.Reader.{HoldsText}
use Rattle.cert_vouchers.proofs.Progress.{refused_answers}
use Rattle.cert_vouchers.proofs.reader.VoucherReader.finish.Goals as goal

pub returns-in-Err-clause-answers : goal.returns-in-Err-clause-answers
returns-in-Err-clause-answers c = λ text s. refused_answers text c.in-Err.error (subst (λ r. HoldsText r text) c.in-Err.is s.held)
