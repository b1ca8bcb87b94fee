use Rattle.std.proofs.Common.{refl, inl, inr}
use Rattle.certpath_c.proofs.checking.certpath_check.Goals as goal

pub returns : goal.returns
returns c =
    let h = rw c.in-Some-found.is at c.in-Ok.ensures.found in
    inl (refl, record { policy = c.in-Some.policy; is_policy = c.in-Some.ensures.found; said = c.in-Some-found.said; is_checked = h; says = c.number_of.ensures })

pub returns-in_default-found : goal.returns-in_default-found
returns-in_default-found c =
    let none = rw c.in_default-found.is at c.in-Ok.ensures.none in
    inr (inl (refl, (c.in-Some.policy, c.in-Some.ensures.found), (c.in-Some-wanted_of.wanted, c.in-Some-wanted_of.ensures.found), none, refl))

pub returns-in_default-wanted_of : goal.returns-in_default-wanted_of
returns-in_default-wanted_of c = inr (inr (inr (inl (refl, (c.in-Some.policy, c.in-Some.ensures.found), c.in_default-wanted_of.ensures.none, refl))))
