use Rattle.std.proofs.Common.{◌≡◌, ◌++◌, map, take}
use Rattle.cert_questions.specs.Places.{asked_of}
use Rattle.cert_questions.proofs.asking.push_questions.Given as goal

abbrev pub invariant-loop-place : goal.invariant-loop-place
invariant-loop-place l = l.questions.items ≡ l.initial.questions.items ++ map (asked_of l.fn.items l.fn.item) (take l.place-index l.holders)
