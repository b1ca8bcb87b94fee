use Rattle.certpath_evidence.proofs.Pieces.{if_none}
use Rattle.certpath_evidence.proofs.WordFacts.{change_unsplit, change_split}
use Rattle.certpath_evidence.proofs.words.change_of.Goals as goal

pub returns-in_err-word-clause-only : goal.returns-in_err-word-clause-only
returns-in_err-word-clause-only c = if_none c.from_residual.result _ (λ change fits e. change_unsplit c.args.line.now c.in_err-word.ensures.none change e)

pub returns-in_err-position-clause-only : goal.returns-in_err-position-clause-only
returns-in_err-position-clause-only c = if_none c.from_residual-in_err-position.result _ (λ change fits e.
    let s = change_split c.args.line.now c.in_ok-word.word.now c.in_ok-word.words.now change fits c.in_ok-word.ensures.found c.in_ok-word.ensures.first e in
    let x = c.in_err-position.ensures.only change.position fits.0 s.0 in cc)

pub returns-in_err-reach-clause-only : goal.returns-in_err-reach-clause-only
returns-in_err-reach-clause-only c = if_none c.from_residual-in_err-reach.result _ (λ change fits e.
    let s = change_split c.args.line.now c.in_ok-word.word.now c.in_ok-word.words.now change fits c.in_ok-word.ensures.found c.in_ok-word.ensures.first e in
    c.in_err-reach.ensures.only change.reach fits.1 s.1)
