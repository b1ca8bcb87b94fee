use Rattle.std.proofs.Common.{codes}
use Rattle.certpath_engine.proofs.BundleLemmas.{bundle_answers}
use Rattle.certpath_engine.proofs.WordLemmas.{answers_texts, refused_texts}
use Rattle.certpath_engine.proofs.texts.read_texts.Goals as goal

pub returns-in-Err : goal.returns-in-Err
returns-in-Err c = refused_texts _ _ _ _ c.in-Ok.ensures c.in-Err.ensures.passes c.refusal.ensures

pub returns-in-Some-frame-default : goal.returns-in-Some-frame-default
returns-in-Some-frame-default c =
    let entered = c.in-Some-frame-default in
    answers_texts _ _ _ _ _ (codes "frame") _ _ c.in-Ok.ensures c.in-Ok-try_get_matches_from.ensures.matches entered.ensures.name entered.ensures.rows entered.is-frame
    c.frame_texts.ensures

pub returns-in-Some-path-default : goal.returns-in-Some-path-default
returns-in-Some-path-default c =
    let entered = c.in-Some-path-default in
    answers_texts _ _ _ _ _ (codes "path") _ _ c.in-Ok.ensures c.in-Ok-try_get_matches_from.ensures.matches entered.ensures.name entered.ensures.rows entered.is-path
    c.path_texts.ensures

pub returns-in-Some-why-default : goal.returns-in-Some-why-default
returns-in-Some-why-default c =
    let entered = c.in-Some-why-default in
    answers_texts _ _ _ _ _ (codes "why") _ _ c.in-Ok.ensures c.in-Ok-try_get_matches_from.ensures.matches entered.ensures.name entered.ensures.rows entered.is-why
    c.why_texts.ensures

pub returns-in-Some-questions-default : goal.returns-in-Some-questions-default
returns-in-Some-questions-default c =
    let entered = c.in-Some-questions-default in
    answers_texts _ _ _ _ _ (codes "questions") _ _ c.in-Ok.ensures c.in-Ok-try_get_matches_from.ensures.matches entered.ensures.name entered.ensures.rows entered.is-questions
    c.questions_texts.ensures

pub returns-in-Some-paths-default : goal.returns-in-Some-paths-default
returns-in-Some-paths-default c =
    let entered = c.in-Some-paths-default in
    answers_texts _ _ _ _ _ (codes "paths") _ _ c.in-Ok.ensures c.in-Ok-try_get_matches_from.ensures.matches entered.ensures.name entered.ensures.rows entered.is-paths
    c.paths_texts.ensures

pub returns-in-Some-recheck-default : goal.returns-in-Some-recheck-default
returns-in-Some-recheck-default c =
    let entered = c.in-Some-recheck-default in
    answers_texts _ _ _ _ _ (codes "recheck") _ _ c.in-Ok.ensures c.in-Ok-try_get_matches_from.ensures.matches entered.ensures.name entered.ensures.rows entered.is-recheck
    c.recheck_texts.ensures

pub returns-in-Some-bundle-default : goal.returns-in-Some-bundle-default
returns-in-Some-bundle-default c =
    let entered = c.in-Some-bundle-default in
    bundle_answers _ _ _ _ _ _ c.in-Ok.ensures c.in-Ok-try_get_matches_from.ensures.matches entered.ensures.name entered.ensures.rows entered.is-bundle c.bundle_texts.ensures
