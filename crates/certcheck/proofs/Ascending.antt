-- Parts ascend if they do from the first of them on.
use Rattle.std.proofs.Common.{◌≡◌, ◌∙◌, refl, sym, ap, true, false, ◌&&◌, List, ℕ}
use Rattle.der_tree.specs.Tree.{Tree, Trees, none, more, octets}
use Rattle.cert_model.specs.Range.{is_at_most}
use Rattle.cert_model.specs.Reads.{ascend}
use Rattle.certcheck.specs.Ascending.{ascend_after}

after_first : (t : Tree) (us : Trees) → ascend_after (octets t) us ≡ ascend (more t us)
after_first t none = refl
after_first t (more u us) = refl

pub ascend_first : (ts us : Trees) (t : Tree) (s : List ℕ) → ts ≡ more t us → s ≡ octets t → ascend_after s us ≡ ascend ts
ascend_first ts us t s e f = ap (λ z. ascend_after z us) f ∙ after_first t us ∙ ap ascend (sym e)

pub ascend_next : (last s : List ℕ) (ts us : Trees) (t : Tree) → ts ≡ more t us → s ≡ octets t → is_at_most last s ≡ true → ascend_after s us ≡ ascend_after last ts
ascend_next last s ts us t e f le =
    let test : is_at_most last (octets t) ≡ true = ap (is_at_most last) (sym f) ∙ le in
    ap (λ z. ascend_after z us) f ∙ after_first t us ∙ ap (λ b. b && ascend (more t us)) (sym test) ∙ ap (ascend_after last) (sym e)

pub ascend_stops : (last s : List ℕ) (ts us : Trees) (t : Tree) → ts ≡ more t us → s ≡ octets t → is_at_most last s ≡ false → false ≡ ascend_after last ts
ascend_stops last s ts us t e f greater =
    let test : is_at_most last (octets t) ≡ false = ap (is_at_most last) (sym f) ∙ greater in
    ap (λ b. b && ascend (more t us)) (sym test) ∙ ap (ascend_after last) (sym e)
