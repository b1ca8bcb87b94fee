use Rattle.std.proofs.Common.{◌≡◌, ◌∙◌, ap, ap₂, sym, ℕ, Bool, List, ◌++◌, Some, None, Option, lit<}
use Rattle.asn1_core.specs.Elements.{Element, element_octets}
use Rattle.cert_serving.specs.declared.names.Choice.{Choice}
use Rattle.cert_serving.specs.GeneralNames.{tag_of, has_parts, element_of_name}
use Rattle.cert_serving.specs.View.{choice_at}
use Rattle.cert_serving.proofs.Choices.{tag_below, there_and_back, some_once, never_none}
use Rattle.cert_serving.proofs.names.next_name.Goals as goal

pub returns-in_err-tag-clause-only : goal.returns-in_err-tag-clause-only
returns-in_err-tag-clause-only c = λ g rest is e. absurd (c.in_err-tag.ensures (element_of_name g) rest (lit< tt) (tag_below g.choice) e)

pub returns-in_err-choice-clause-only : goal.returns-in_err-choice-clause-only
returns-in_err-choice-clause-only c = λ g rest is e.
    let t : c.in_ok-tag.tag ≡ tag_of g.choice = c.in_ok-tag.ensures (element_of_name g) rest (lit< tt) (tag_below g.choice) e in
    absurd (never_none g.choice (sym (there_and_back g.choice) ∙ ap choice_at (sym t) ∙ sym c.in_err-choice.ensures.exact))

abbrev element_so : List ℕ → List ℕ → Bool → ℕ → List ℕ
element_so content rest constructed tag = element_octets (record { class = 2; constructed = constructed; tag = tag; content = content }) ++ rest

pub returns-in_err-content-clause-only : goal.returns-in_err-content-clause-only
returns-in_err-content-clause-only c = λ g rest is e.
    let t : c.in_ok-tag.tag ≡ tag_of g.choice = c.in_ok-tag.ensures (element_of_name g) rest (lit< tt) (tag_below g.choice) e in
    let same : c.in_ok-choice.choice ≡ g.choice = some_once c.in_ok-choice.choice g.choice (c.in_ok-choice.ensures.exact ∙ ap choice_at t ∙ there_and_back g.choice) in
    let parts : c.has_parts.result ≡ has_parts g.choice = c.has_parts.ensures ∙ ap has_parts same in
    absurd (c.in_err-content.ensures.only g.content rest (e ∙ ap₂ (element_so g.content rest) (sym parts) (sym t)))
