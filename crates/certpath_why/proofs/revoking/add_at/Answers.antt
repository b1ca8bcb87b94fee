use Rattle.std.proofs.Common.{refl}
use Rattle.certpath_why.proofs.Items.{none_read}
use Rattle.certpath_why.proofs.Rowed.{has_more, has_own, numbered_more}
use Rattle.certpath_why.proofs.revoking.add_at.Goals as goal

pub returns-in_default-clause-kept : goal.returns-in_default-clause-kept
returns-in_default-clause-kept c = λ p h. h

pub returns-in_default-clause-own : goal.returns-in_default-clause-own
returns-in_default-clause-own c = λ at. absurd (none_read c.args.found.now.items.now c.args.place (c.in_default.ensures.only refl) at)

pub number_of-requires-clause-at : goal.number_of-requires-clause-at
number_of-requires-clause-at c = c.in-Some.ensures.found

pub returns-clause-numbered : goal.returns-clause-numbered
returns-clause-numbered c =
    numbered_more c.args.found.now.items.now c.args.policy.now.moment c.args.serials.now.rows.items c.number_of.new.self.rows.items c.args.numbers.now c.insert.new.self c.args.place c.in_ok-number.number c.in-Some.certificate.now
    c.in_ok-number.ensures.kept c.requires.numbered c.in-Some.ensures.found c.in_ok-number.ensures.number (λ q. c.in_ok-insert.ensures.updates.0 q)

pub returns-clause-kept : goal.returns-clause-kept
returns-clause-kept c = has_more c.args.numbers.now c.insert.new.self c.args.place c.in_ok-number.number (λ q. c.in_ok-insert.ensures.updates.0 q)

pub returns-clause-own : goal.returns-clause-own
returns-clause-own c = λ at. has_own c.args.numbers.now c.insert.new.self c.args.place c.in_ok-number.number (λ q. c.in_ok-insert.ensures.updates.0 q)
