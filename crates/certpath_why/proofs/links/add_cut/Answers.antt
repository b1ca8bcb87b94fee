use Rattle.std.proofs.Common.{◌≡◌, ap, sym, List, ℕ}
use Rattle.cert_judge.proofs.Mapped.{not_both}
use Rattle.certpath_why.specs.Lines.{link_lines}
use Rattle.certpath_why.proofs.Cutting.{none_shown, shown_none}
use Rattle.certpath_why.proofs.Tailing.{no_tail, one_tail, line_tail}
use Rattle.certpath_why.proofs.links.add_cut.Goals as goal

pub returns-then-has_none : goal.returns-then-has_none
returns-then-has_none c = λ rs h.
    let P : List ℕ → List ℕ → Type 0 = λ front text. text ≡ link_lines front c.args.what rs in
    let none = none_shown rs c.args.cut.now h (rw c.deref.ensures.value at (c.has_none.ensures.0 c.if-has_none.true)) in
    no_tail P c.args.tails.now.items (λ front. ap (link_lines front c.args.what) (sym none))

pub returns : goal.returns
returns c = λ rs h.
    let P : List ℕ → List ℕ → Type 0 = λ front text. text ≡ link_lines front c.args.what rs in
    one_tail P c.args.tails.now.items c.push.new.self.items c.in_ok-tail.tail c.in_ok-push.ensures.items
    (λ front. line_tail front c.args.what rs c.in_ok-tail.tail (c.in_ok-tail.ensures rs h) (λ e. not_both _ (c.has_none.ensures.1 (rw c.deref.ensures.value (shown_none rs c.args.cut.now h e))) c.if-has_none.false))
