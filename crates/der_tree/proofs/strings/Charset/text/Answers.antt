use Rattle.std.proofs.Common.{◌≡◌, ◌∙◌, sym, true}
use Rattle.std.specs.List.{list_all}
use Rattle.der_tree.specs.Charset.{has}
use Rattle.der_tree.proofs.Texts.{text_utf8}
use Rattle.der_tree.proofs.strings.Charset.text.Goals as goal

pub returns-in-Err : goal.returns-in-Err
returns-in-Err c =
    let pass : list_all (has c.args.self) c.args.content.now ≡ true = sym c.has_all.ensures ∙ c.if-not-has_all.false in
    absurd (c.in-Err.ensures.cases.0 (text_utf8 c.args.self c.args.content.now pass))
