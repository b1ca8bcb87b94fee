use Rattle.std.proofs.Common.{string_bytes}
use Rattle.certpath_why.specs.Question.{anchors_in, items_in, rules_in}
use Rattle.certpath_why.specs.Why.{AreTexts, TellsItemAt, positions}
use Rattle.certpath_why.specs.Appended.{Appends}
use Rattle.certpath_why.proofs.lists.tell_lists.Given as goal

abbrev pub invariant-loop-place : goal.invariant-loop-place
invariant-loop-place g l = Appends (AreTexts (TellsItemAt (rules_in g.V.Vouch l.question) (items_in l.question) (anchors_in l.question)) (positions l.place)) (string_bytes l.initial.text) (string_bytes l.text)
