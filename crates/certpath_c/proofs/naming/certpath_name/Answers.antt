use Rattle.std.proofs.Common.{refl, subst, ap, inl, inr, true, false, ℕ, List, length, string_bytes}
use Rattle.certpath_c.specs.Writing.{Puts}
use Rattle.certpath_c.proofs.naming.certpath_name.Goals as goal

pub returns-then-put : goal.returns-then-put
returns-then-put c =
    let octets = c.as_bytes-octets.ensures.value in
    let h = rw c.in-Some.is at c.in-Ok.ensures.found in
    inl (refl, record { text = string_bytes c.in-Some.shown; is_text = h; length_is = ap length octets; written = subst (λ (v : List ℕ). Puts c.args.text.now c.put.new.buffer v true) octets c.if-put.ensures })

pub returns : goal.returns
returns c =
    let octets = c.as_bytes-octets.ensures.value in
    let h = rw c.in-Some.is at c.in-Ok.ensures.found in
    inr (inl (refl, record { text = string_bytes c.in-Some.shown; is_text = h; length_is = ap length octets; written = subst (λ (v : List ℕ). Puts c.args.text.now c.put.new.buffer v false) octets c.if-put.ensures }))
