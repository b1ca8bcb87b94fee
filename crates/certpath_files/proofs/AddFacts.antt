-- Rows added to a report, one after another.
use Rattle.std.proofs.Common.{◌≡◌, ◌∙◌, sym, ap, refl, ℕ, List, [], ◌∷◌, ◌++◌, map, append_assoc}
use Rattle.certpath_files.specs.Rows.{Row, item, left_out, Held, Shown, shown, items_in, added}

pub append_none : {X : Type 0} (s : List X) → s ++ [] ≡ s
append_none [] = refl
append_none (a ∷ s) = ap (λ z. a ∷ z) (append_none s)

pub items_in-append : (a b : List Row) → items_in (a ++ b) ≡ items_in a ++ items_in b
items_in-append [] b = refl
items_in-append (item place kind o ∷ a) b = ap (λ z. o ++ z) (items_in-append a b) ∙ sym (append_assoc o (items_in a) (items_in b))
items_in-append (left_out place reason ∷ a) b = items_in-append a b

pub shown-append : (a b : List Row) → map shown (a ++ b) ≡ map shown a ++ map shown b
shown-append [] b = refl
shown-append (row ∷ a) b = ap (λ z. shown row ∷ z) (shown-append a b)

pub both : (o p : List ℕ) (r s : List Shown) → o ≡ p → r ≡ s → ◌≡◌ {A = Held} (record { octets = o; rows = r }) (record { octets = p; rows = s })
both o p r s e f = cc

pub added-added : (held : Held) (a b : List Row) → added (added held a) b ≡ added held (a ++ b)
added-added held a b =
    both _ _ _ _
    (append_assoc held.octets (items_in a) (items_in b) ∙ ap (λ z. held.octets ++ z) (sym (items_in-append a b)))
    (append_assoc held.rows (map shown a) (map shown b) ∙ ap (λ z. held.rows ++ z) (sym (shown-append a b)))

pub added-none : (held : Held) → added held [] ≡ held
added-none held = both _ _ _ _ (append_none held.octets) (append_none held.rows)

-- two steps in one
pub in_two : (first second third : Held) (a b : List Row) → second ≡ added first a → third ≡ added second b → third ≡ added first (a ++ b)
in_two first second third a b e f = f ∙ ap (λ z. added z b) e ∙ added-added first a b
