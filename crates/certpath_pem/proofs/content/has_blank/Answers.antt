use Rattle.std.proofs.Common.{◌≡◌, ◌∙◌, sym, ap, true, false}
use Rattle.std.specs.List.{list_any}
use Rattle.certpath_pem.specs.Lines.{lines_of}
use Rattle.certpath_pem.specs.Blocks.{is_blank}
use Rattle.certpath_pem.proofs.ContentFacts.{blank_more, blank_here}
use Rattle.certpath_pem.proofs.content.has_blank.Goals as goal

pub loop-line-preserved : goal.loop-line-preserved
loop-line-preserved c =
    let other : is_blank c.in-Some.line.now ≡ false = sym c.is_blank.ensures ∙ c.if-is_blank.false in
    sym (blank_more c.loop-line.rest.now c.in-Some.line.now c.in-Some.after.now c.in-Some.ensures.found other) ∙ c.loop-line.invariant

pub returns-then-is_blank : goal.returns-then-is_blank
returns-then-is_blank c =
    let blank : is_blank c.in-Some.line.now ≡ true = sym c.is_blank.ensures ∙ c.if-is_blank.true in
    sym (blank_here c.loop-line.rest.now c.in-Some.line.now c.in-Some.after.now c.in-Some.ensures.found blank) ∙ c.loop-line.invariant

pub returns : goal.returns
returns c = sym (ap (λ s. list_any is_blank (lines_of s)) c.in_default.ensures.none) ∙ c.loop-line.invariant
