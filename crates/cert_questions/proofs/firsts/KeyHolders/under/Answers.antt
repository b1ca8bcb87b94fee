use Rattle.std.proofs.Common.{◌≡◌, sym, subst, ℕ, ◌≤◌, List, length, get_or, arith, Vec}
use Rattle.std.specs.declared.alloc.Global.{Global}
use Rattle.cert_questions.specs.Firsts.{AreFirstsUnder}
use Rattle.cert_questions.proofs.firsts.KeyHolders.under.Goals as goal

pub returns-in-Some-get : goal.returns-in-Some-get
returns-in-Some-get c = λ all k.
    let q = c.args.name in
    let n = c.in-Some.number.now in
    let row = c.in-Some-get.places.now in
    let at : row ≡ get_or c.args.self.now.firsts.items n row = subst (λ (l : List (Vec ℕ Global)). row ≡ get_or l n row) c.deref.ensures.value c.in-Some-get.ensures.lookup.1 in
    subst (AreFirstsUnder all q.now) (sym c.deref-in-Some-get.ensures.value)
    (subst (λ (z : Vec ℕ Global). AreFirstsUnder all q.now z.items) (sym at) (k.firsts q n row (sym c.in-Some.ensures.value)))

pub returns-in-None : goal.returns-in-None
returns-in-None c = λ all k.
    let n = c.in-Some.number.now in
    let past : length c.args.self.now.firsts.items ≤ n = subst (λ (l : List (Vec ℕ Global)). length l ≤ n) c.deref.ensures.value c.in-None.ensures.lookup.3 in
    let within = k.found c.args.name n (sym c.in-Some.ensures.value) in
    absurd (omega arith)
