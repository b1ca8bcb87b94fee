use Rattle.std.proofs.Common.{refl}
use Rattle.cert_vouchers.proofs.DigitFacts.{there, none, table}
use Rattle.cert_vouchers.proofs.digits.value_of.Goals as goal

pub returns-clause-there : goal.returns-clause-there
returns-clause-there c = there table c.args.digit refl c.ranges.digit.fits

pub returns-clause-none : goal.returns-clause-none
returns-clause-none c = none table c.args.digit refl c.ranges.digit.fits
