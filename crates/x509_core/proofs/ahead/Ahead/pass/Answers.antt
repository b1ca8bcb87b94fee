use Rattle.std.proofs.Common.{◌≡◌, ◌∙◌, ◌+◌, sym, arith, drop, get_or}
use Rattle.std.proofs.lemmas.List.{drop_more}
use Rattle.x509_core.specs.Parts.{ahead_of}
use Rattle.x509_core.proofs.InOrder.{none_there, others_only, same_rest}
use Rattle.x509_core.proofs.ahead.Ahead.pass.Goals as goal

pub returns-then-self-len : goal.returns-then-self-len
returns-then-self-len c e rest here =
    let ahead = c.args.self.now in
    let items = ahead.others.items in
    let none = none_there ahead.front (sym c.is_some.ensures ∙ c.if-is_some.false) in
    let there = others_only ahead none ∙ drop_more items ahead.at e (omega (arith, c.if-self-len.true, c.len.ensures)) in
    others_only _ none ∙ same_rest (ahead_of ahead) rest e (get_or items ahead.at e) (drop (ahead.at + 1) items) here there
