use Rattle.std.proofs.Common.{◌≡◌, ◌∙◌, sym, ap, true, false}
use Rattle.certpath_pem.specs.Lines.{lines_of}
use Rattle.std.specs.Prelude.{◌&&◌}
use Rattle.std.specs.List.{list_any}
use Rattle.certpath_pem.specs.Blocks.{is_blank, has_colon, has_headers}
use Rattle.certpath_pem.proofs.ContentFacts.{headers_more, headers_here}
use Rattle.certpath_pem.proofs.content.has_headers.Goals as goal

pub loop-line-preserved : goal.loop-line-preserved
loop-line-preserved c =
    let blank : is_blank c.in-Some.line.now ≡ true = sym c.is_blank.ensures ∙ c.if-not-is_blank.false in
    sym (headers_more c.loop-line.rest.now c.in-Some.line.now c.in-Some.after.now c.in-Some.ensures.found blank) ∙ c.loop-line.invariant

pub returns-then-has_colon : goal.returns-then-has_colon
returns-then-has_colon c =
    let other : is_blank c.in-Some.line.now ≡ false = sym c.is_blank.ensures ∙ c.if-not-is_blank.true in
    let colon : has_colon c.in-Some.line.now ≡ true = sym c.has_colon.ensures ∙ c.if-has_colon.true in
    c.has_blank.ensures ∙ sym (headers_here c.loop-line.rest.now c.in-Some.line.now c.in-Some.after.now c.in-Some.ensures.found other ∙ ap (λ b. b && list_any is_blank (lines_of c.in-Some.after.now)) colon) ∙ c.loop-line.invariant

pub returns-else-has_colon : goal.returns-else-has_colon
returns-else-has_colon c =
    let other : is_blank c.in-Some.line.now ≡ false = sym c.is_blank.ensures ∙ c.if-not-is_blank.true in
    let none : has_colon c.in-Some.line.now ≡ false = sym c.has_colon.ensures ∙ c.if-has_colon.false in
    c.if-has_colon.false ∙ sym (headers_here c.loop-line.rest.now c.in-Some.line.now c.in-Some.after.now c.in-Some.ensures.found other ∙ ap (λ b. b && list_any is_blank (lines_of c.in-Some.after.now)) none) ∙ c.loop-line.invariant

pub returns : goal.returns
returns c = sym (ap (λ s. has_headers (lines_of s)) c.in_default.ensures.none) ∙ c.loop-line.invariant
