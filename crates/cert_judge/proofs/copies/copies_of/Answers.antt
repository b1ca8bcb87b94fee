use Rattle.std.proofs.Common.{◌≡◌, ◌+◌, ◌<◌, ◌∷◌, ◌++◌, [], length, get_or, subst, arith, rules}
use Rattle.cert_judge.specs.Copies.{AreAlikeAt}
use Rattle.cert_judge.proofs.Listed.{lists_of, mapped_push}
use Rattle.cert_judge.proofs.Copying.{CopiesUpTo, copies_known, copies_new, copies_all}
use Rattle.cert_judge.proofs.copies.copies_of.Goals as goal
use Rattle.cert_judge.proofs.copies.copies_of.Goals.{then-is_copy+in_ok-put, else-is_copy+in_ok-insert+in_ok-push+in_ok-vec+in_ok-push-2}

pub loop-place-preserved : goal.loop-place-preserved
loop-place-preserved c =
    let js = c.args.items.now in
    let ps = c.args.places.now in
    let k = c.loop-place.place-index in
    let p = get_or ps k 0 in
    let firsts = c.loop-place.firsts.items in
    let lists = c.loop-place.lists.items in
    let n = c.match-get.number in
    let lt = c.loop-place-test.true in
    let before = c.loop-place.invariant in
    elim c.if-is_copy.branch [
      | then-is_copy+in_ok-put w ↦
          let yes = w.if-is_copy.true in
          let below = subst (λ fs. n < length fs) c.deref.ensures.value (c.is_copy.ensures.known yes) in
          let alike = subst (λ fs. AreAlikeAt js (get_or fs n 0) p) c.deref.ensures.value (c.is_copy.ensures.alike yes) in
          rw (w.firsts-is, w.lists-is) (copies_known js ps k firsts (lists_of lists) (lists_of w.put.new.lists.items) n c.requires.ascends lt below alike w.in_ok-put.ensures before)
      | else-is_copy+in_ok-insert+in_ok-push+in_ok-vec+in_ok-push-2 w ↦
          let x = w.in_ok-vec.field-0 in
          let one : x.items ≡ p ∷ [] = search rules in
          let more : CopiesUpTo js ps (k + 1) (firsts ++ p ∷ []) (lists_of (lists ++ x ∷ [])) = rw (mapped_push lists x, one) (copies_new js ps k firsts (lists_of lists) lt (c.requires.within k 0 lt) before) in
          rw (w.firsts-is, w.lists-is, w.in_ok-push.ensures.items, w.in_ok-push-2.ensures.items) more
    ]

pub returns : goal.returns
returns c =
    let end : c.loop-place.place-index ≡ length c.args.places.now = omega arith in
    copies_all c.args.items.now c.args.places.now c.loop-place.place-index c.loop-place.firsts.items (lists_of c.loop-place.lists.items) end c.loop-place.invariant
