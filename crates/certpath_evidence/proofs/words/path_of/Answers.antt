use Rattle.std.proofs.Common.{◌≡◌, ◌≢◌, ◌∙◌, ℕ, List, sym, subst, codes}
use Rattle.std.specs.Cmp.Lexicographic.{same_text, other_text}
use Rattle.certpath_evidence.proofs.PathFacts.{PathSoFar, path_more, no_anchor, no_position, no_word}
use Rattle.certpath_evidence.proofs.words.path_of.Goals as goal

pub returns-in_default-number_of-clause-only : goal.returns-in_default-number_of-clause-only
returns-in_default-number_of-clause-only c =
    let word = c.in-Some.word.now in
    let is : word ≡ codes "anchor" = same_text word (codes "anchor") (sym c.if-eq.true ∙ c.eq.ensures) in
    no_anchor c.args.words.now c.loop-word.positions.items c.loop-word.rest.now word c.in-Some.after.now c.loop-word.invariant c.in-Some.ensures.found c.in-Some.ensures.first is
    (λ n small e. let x = c.number_of.ensures.only n small e in let y = rw c.in_default-number_of.is at x in cc)

pub returns-in_default-number_of-2-clause-only : goal.returns-in_default-number_of-2-clause-only
returns-in_default-number_of-2-clause-only c =
    let word = c.in-Some.word.now in
    let other : word ≢ codes "anchor" = other_text word (codes "anchor") (sym c.if-eq.false ∙ c.eq.ensures) in
    no_position c.args.words.now c.loop-word.positions.items c.loop-word.rest.now word c.in-Some.after.now c.loop-word.invariant c.in-Some.ensures.found c.in-Some.ensures.first other
    (λ n small e. let x = c.number_of-in-Some.ensures.only n small e in let y = rw c.in_default-number_of-2.is at x in cc)

pub loop-word-preserved : goal.loop-word-preserved
loop-word-preserved c =
    let word = c.in-Some.word.now in
    let p = c.in-Some-number_of-2.position in
    let found = c.in-Some-number_of-2.ensures.found in
    let other : word ≢ codes "anchor" = other_text word (codes "anchor") (sym c.if-eq.false ∙ c.eq.ensures) in
    subst (λ (z : List ℕ). PathSoFar c.args.words.now z c.in-Some.after.now) (sym c.in_ok-push.ensures.items)
    (path_more c.args.words.now c.loop-word.positions.items c.loop-word.rest.now word c.in-Some.after.now p c.loop-word.invariant c.in-Some.ensures.found c.in-Some.ensures.first other found.0 found.1)

pub returns-clause-only : goal.returns-clause-only
returns-clause-only c = no_word c.args.words.now c.loop-word.positions.items c.loop-word.rest.now c.loop-word.invariant c.in_default.ensures.none
