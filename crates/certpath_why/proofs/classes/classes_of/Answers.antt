use Rattle.std.proofs.Common.{◌≡◌, length, arith, subst, List, ℕ, Bor}
use Rattle.std.proofs.lemmas.List.{get_or_default}
use Rattle.certpath_why.specs.Classes.{AreNumbersOf, IsNumberOf}
use Rattle.certpath_why.proofs.Classing.{known_none, numbers_none, numbers_more}
use Rattle.certpath_why.proofs.classes.classes_of.Goals as goal

pub loop-text-init : goal.loop-text-init
loop-text-init c = (known_none _ c.new-known.result c.new-known.ensures, numbers_none _ _ _ c.in_ok-numbers.ensures.items)

pub loop-text-preserved : goal.loop-text-preserved
loop-text-preserved c = (
  c.in_ok-number.ensures.known,
  rw c.in_ok-push.ensures.items (numbers_more c.args.all.now c.loop-text.texts.items c.number_of.new.texts.items c.loop-text.text-index c.loop-text.numbers.items c.in_ok-number.number c.loop-text.invariant.1 c.in_ok-number.ensures.kept
      (λ o. subst (λ (b : Bor (List ℕ)). IsNumberOf c.number_of.new.texts.items c.in_ok-number.number b.now) (get_or_default c.args.all.now c.loop-text.text-index _ o c.loop-text-test.true) c.in_ok-number.ensures.number)),
)

pub returns : goal.returns
returns c =
    let end : c.loop-text.text-index ≡ length c.args.all.now = omega arith in
    subst (λ k. AreNumbersOf c.args.all.now c.loop-text.texts.items k c.loop-text.numbers.items) end c.loop-text.invariant.1
