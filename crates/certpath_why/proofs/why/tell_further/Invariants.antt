use Rattle.std.proofs.Common.{take, string_bytes}
use Rattle.certpath_why.specs.Question.{anchors_in, items_in, rules_in}
use Rattle.certpath_why.specs.Why.{AreTexts, TellsAt}
use Rattle.certpath_why.specs.Appended.{Appends}
use Rattle.certpath_why.specs.Written.{AreWritten}
use Rattle.certpath_why.proofs.why.tell_further.Given as goal

abbrev pub invariant-loop-place : goal.invariant-loop-place
invariant-loop-place g l = AreWritten g.V.Vouch l.question l.written × Appends (AreTexts (TellsAt l.question.sought.demand.now (rules_in g.V.Vouch l.question) (items_in l.question) (anchors_in l.question) l.question.target) (take l.place-index l.further)) (string_bytes l.initial.text) (string_bytes l.text)
