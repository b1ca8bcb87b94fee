use Rattle.std.proofs.Common.{ap, ◌∷◌, length, arith}
use Rattle.certpath_pem.specs.Blocks.{bad_boundary}
use Rattle.certpath_pem.proofs.blocks.entry_of.Goals as goal

pub returns-in-Text-clause-found : goal.returns-in-Text-clause-found
returns-in-Text-clause-found c = rw c.in-Text.is c.at-text_after.ensures.left

pub returns-in-Text-clause-shorter : goal.returns-in-Text-clause-shorter
returns-in-Text-clause-shorter c = omega (arith, ap length c.at-text_after.ensures.rest)

pub returns-in-Bad-clause-found : goal.returns-in-Bad-clause-found
returns-in-Bad-clause-found c = rw c.in-Bad.is (ap (λ z. bad_boundary c.args.number ∷ z) c.at-bad_after.ensures.left)

pub returns-in-Bad-clause-shorter : goal.returns-in-Bad-clause-shorter
returns-in-Bad-clause-shorter c = omega (arith, ap length c.at-bad_after.ensures.rest)

pub returns-in-Begin-clause-found : goal.returns-in-Begin-clause-found
returns-in-Begin-clause-found c = rw c.in-Begin.is c.begin_entry.ensures.found

pub returns-in-End-clause-found : goal.returns-in-End-clause-found
returns-in-End-clause-found c = rw c.in-End.is c.end_entry.ensures.found
