use Rattle.std.proofs.Common.{refl}
use Rattle.laws_items.proofs.OfVoucherFiles.{finishes, in_one, in_two, nothing_taken}
use Rattle.laws_items.proofs.voucher_files.example_of_cuttings.Goals as goal

pub returns : goal.returns
returns c = (nothing_taken c.args.alloc, in_one c.args.alloc, in_two c.args.alloc, refl, finishes c.args.alloc)
