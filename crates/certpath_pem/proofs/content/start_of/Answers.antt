use Rattle.std.proofs.Common.{◌≡◌, ◌∙◌, sym, ap, true, false}
use Rattle.certpath_pem.specs.Lines.{lines_of}
use Rattle.certpath_pem.specs.Blocks.{content_of, has_headers}
use Rattle.certpath_pem.specs.Starts.{start_of}
use Rattle.certpath_pem.proofs.ContentFacts.{shown_headers, shown_symbols}
use Rattle.certpath_pem.proofs.content.start_of.Goals as goal

pub returns-then-not-is_ended : goal.returns-then-not-is_ended
returns-then-not-is_ended c = c.uncounted.ensures ∙ sym (ap (λ z. start_of c.args.limit (content_of (lines_of c.args.body.now) z)) c.if-not-is_ended.true)

pub returns-then-has_headers : goal.returns-then-has_headers
returns-then-has_headers c =
    let there : has_headers (lines_of c.args.body.now) ≡ true = sym c.has_headers.ensures ∙ c.if-has_headers.true in
    c.uncounted-then-has_headers.ensures ∙ sym (ap (start_of c.args.limit) (ap (content_of (lines_of c.args.body.now)) c.if-not-is_ended.false ∙ shown_headers c.args.body.now there))

pub returns : goal.returns
returns c =
    let none : has_headers (lines_of c.args.body.now) ≡ false = sym c.has_headers.ensures ∙ c.if-has_headers.false in
    c.in_ok-start.ensures ∙ sym (ap (start_of c.args.limit) (ap (content_of (lines_of c.args.body.now)) c.if-not-is_ended.false ∙ shown_symbols c.args.body.now none))
