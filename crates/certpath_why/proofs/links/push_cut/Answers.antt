use Rattle.std.proofs.Common.{◌∙◌, ap, sym, append-nil, ◌++◌, codes, string_bytes, arith}
use Rattle.std.specs.List.{flat_map}
use Rattle.certpath_why.specs.Listed.{listed, more_words, shown_part}
use Rattle.certpath_why.specs.Ranges.{range_text}
use Rattle.certpath_why.specs.declared.ranges.Range.{Range}
use Rattle.certpath_why.proofs.Cutting.{empty_list, listed_cut, none_shown}
use Rattle.certpath_why.proofs.Joined.{then_appended}
use Rattle.certpath_why.proofs.links.push_cut.Goals as goal

pub returns-in_default : goal.returns-in_default
returns-in_default c = λ rs h.
    let text = string_bytes c.args.text.now in
    let none = none_shown rs c.args.cut.now h (empty_list _ (rw c.as_slice.ensures.value at c.in_default.ensures.cases)) in
    sym (append-nil text) ∙ ap (λ l. text ++ listed range_text l) (sym none)

pub returns : goal.returns
returns c = λ rs h.
    let x = c.in-Some.first.now in
    let rest = c.in-Some.rest.now in
    let others = flat_map (λ (y : Range). codes ", " ++ shown_part (range_text y)) rest in
    let more = more_words c.saturating_sub.result in
    then_appended _ (shown_part (range_text x)) (others ++ more) _ _ (then_appended _ others more _ _ c.in_ok-push_more.ensures c.in_ok-push_others.ensures) c.in_ok-push_shown.ensures
    ∙ ap (λ l. string_bytes c.args.text.now ++ l) (sym (listed_cut rs x rest c.saturating_sub.result (sym c.in-Some.ensures.cases.0 ∙ c.as_slice.ensures.value ∙ h.shown_is) (omega (arith, h.count_is))))
