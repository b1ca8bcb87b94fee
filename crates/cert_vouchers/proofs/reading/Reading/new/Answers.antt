use Rattle.std.proofs.Common.{refl}
use Rattle.cert_vouchers.proofs.Progress.{reads_nothing}
use Rattle.cert_vouchers.proofs.reading.Reading.new.Goals as goal

pub returns : goal.returns
returns c = reads_nothing (record { vouchers = c.new.result; line = c.new-2.result; number = 1 }) c.new.ensures c.new-2.ensures.items refl
