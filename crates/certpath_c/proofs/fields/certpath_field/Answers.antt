use Rattle.std.proofs.Common.{refl, sym, ap, ◌∙◌, ℕ, List, Bor, option_map, inl, inr}
use Rattle.certpath_c.proofs.fields.certpath_field.Goals as goal

pub returns-in_default-found : goal.returns-in_default-found
returns-in_default-found c =
    let h = c.in-Ok.ensures in
    inr (inr (inl (refl, record { class = h.0; is_class = h.1; none = sym h.2 ∙ ap (option_map (λ (t : Bor (List ℕ)). t.now)) c.in_default-found.is }, refl, refl)))

pub returns-then-put : goal.returns-then-put
returns-then-put c =
    let h = c.in-Ok.ensures in
    inl (refl, record { class = h.0; is_class = h.1; octets = c.in-Some.field.now; is_field = sym h.2 ∙ ap (option_map (λ (t : Bor (List ℕ)). t.now)) c.in-Some.is; length_is = refl; written = c.if-put.ensures })

pub returns-else-put : goal.returns-else-put
returns-else-put c =
    let h = c.in-Ok.ensures in
    inr (inl (refl, record { class = h.0; is_class = h.1; octets = c.in-Some.field.now; is_field = sym h.2 ∙ ap (option_map (λ (t : Bor (List ℕ)). t.now)) c.in-Some.is; length_is = refl; written = c.if-put.ensures }))
