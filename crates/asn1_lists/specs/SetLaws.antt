-- A set of values has the laws if each value has: equal sets are written as equal octets, and what
-- is written of one is read back as one that is written as these octets.
use Rattle.std.proofs.Common.{arith, ◌≡◌, ◌∙◌, refl, sym, ap, subst, ℕ, ◌+◌, true, false, cond, List, [], ◌∷◌, ◌++◌, length, map, Option, Some, length-append, lit<}
use Rattle.asn1_core.specs.Strict.{strict_header}
use Rattle.asn1_core.specs.Elements.{Element, head_of_element, IsElement, element_octets}
use Rattle.asn1_traits.specs.Elements.{ReadsElement}
use Rattle.asn1_traits.specs.Writes.{written, IsLong}
use Rattle.asn1_traits.specs.Lists.{AllRead, ContainerMeans, all_written, EachIs}
use Rattle.asn1_traits.specs.ListLaws.{OneEach, BackEach, SameEach, OneRest, list_back, some_octets}
use Rattle.asn1_traits.specs.LeafLaws.{short_element, same_element}
use Rattle.asn1_lists.specs.Ordered.{comes_after, Ascending, put_in_order, in_order, encodings, set_order, set_of}
use Rattle.asn1_lists.specs.OrderLaws.{ascending_in_order, permuted_in_order, in_order_already, one_order, totals_of, SameTotals}

-- the octets of values one after the other, by their encodings
abbrev pub joined : List (List ℕ) → List ℕ
joined [] = []
joined (xs ∷ rest) = xs ++ joined rest

pub written_joined : {V : Type 0} (element : V → Option Element) (vs : List V) → all_written element vs ≡ joined (encodings element vs)
written_joined element [] = refl
written_joined element (v ∷ vs) = ap (λ z. written (element v) ++ z) (written_joined element vs)

-- ---- equal sets

pub same_set : {V : Type 0} (element : V → Option Element) (vs ws : List V) → SameTotals (encodings element vs) (encodings element ws) →
    encodings element (set_order element vs) ≡ encodings element (set_order element ws)
same_set {V} element vs ws same =
    let key : V → List ℕ = λ v. written (element v) in
    one_order (map key (in_order key vs)) (map key (in_order key ws)) (ascending_in_order key vs) (ascending_in_order key ws)
    (λ count. totals_of key ws (in_order key ws) (permuted_in_order key ws) count ∙ same count ∙ sym (totals_of key vs (in_order key vs) (permuted_in_order key vs) count))

pub set_by_encodings : {V : Type 0} (element : V → Option Element) (vs ws : List V) → encodings element (set_order element vs) ≡ encodings element (set_order element ws) → set_of element vs ≡ set_of element ws
set_by_encodings element vs ws e =
    ap (λ (z : List ℕ). record { class = 0; constructed = true; tag = 17; content = z }) (written_joined element (set_order element vs) ∙ ap joined e ∙ sym (written_joined element (set_order element ws)))

-- ---- what each has, each has in order

each_put : {V : Type 0} (P : V → Type 0) (key : V → List ℕ) (v : V) (ws : List V) → P v → EachIs P ws → EachIs P (put_in_order key v ws)
each_put P key v [] p h = (p, tt)
each_put P key v (w ∷ ws) p h =
    elim (comes_after (key v) (key w)) as (λ b. EachIs P (cond b (w ∷ put_in_order key v ws) (v ∷ w ∷ ws))) [
      | true ↦ (h.0, each_put P key v ws p h.1)
      | false ↦ (p, h)
    ]

pub each_in_order : {V : Type 0} (P : V → Type 0) (key : V → List ℕ) (vs : List V) → EachIs P vs → EachIs P (in_order key vs)
each_in_order P key [] h = tt
each_in_order P key (v ∷ vs) h = each_put P key v (in_order key vs) h.0 (each_in_order P key vs h.1)

put_length : {V : Type 0} (element : V → Option Element) (v : V) (ws : List V) →
    length (all_written element (put_in_order (λ x. written (element x)) v ws)) ≡ length (written (element v)) + length (all_written element ws)
put_length element v [] = length-append (written (element v)) []
put_length element v (w ∷ ws) =
    let put = put_in_order (λ x. written (element x)) v ws in
    let one = written (element v) in
    let two = written (element w) in
    elim (comes_after one two) as (λ b. length (all_written element (cond b (w ∷ put) (v ∷ w ∷ ws))) ≡ length one + length (two ++ all_written element ws)) [
      | true ↦ omega (arith, put_length element v ws, length-append two (all_written element put), length-append two (all_written element ws))
      | false ↦ length-append one (two ++ all_written element ws)
    ]

-- the set's content is as long as the values are, one after the other
pub set_length : {V : Type 0} (element : V → Option Element) (vs : List V) → length (all_written element (set_order element vs)) ≡ length (all_written element vs)
set_length element [] = refl
set_length element (v ∷ vs) =
    omega (arith, put_length element v (set_order element vs), set_length element vs, length-append (written (element v)) (all_written element vs))

-- ---- read back

short_first : (xs ys : List ℕ) → (IsLong (xs ++ ys) → ⊥) → IsLong xs → ⊥
short_first xs ys short long = short (omega (arith, long, length-append xs ys))

short_second : (xs ys : List ℕ) → (IsLong (xs ++ ys) → ⊥) → IsLong ys → ⊥
short_second xs ys short long = short (omega (arith, long, length-append xs ys))

content_short : (e : Element) → (IsLong (element_octets e) → ⊥) → IsLong e.content → ⊥
content_short e short = short_second (strict_header (head_of_element e)) e.content short

-- values that are read back of what was written are written as equal octets, one by one
same_encodings : {V : Type 0} (formed : V → Type 0) (element : V → Option Element) (reads : List ℕ → V → List ℕ → Type 0) → OneEach formed element → BackEach formed element reads →
    SameEach formed element reads → OneRest reads → (vs ws : List V) → EachIs formed vs → (IsLong (all_written element vs) → ⊥) → AllRead reads (all_written element vs) ws → encodings element ws ≡ encodings element vs
same_encodings formed element reads one back same once [] [] each short all = refl
same_encodings formed element reads one back same once [] (w ∷ ws) each short all = absurd (omega (arith, all.2))
same_encodings formed element reads one back same once (v ∷ vs) [] each short all =
    let octets = written (element v) in
    let rest = all_written element vs in
    absurd (omega (arith, ap length all, length-append octets rest, some_octets (element v) (one v each.0) (short_first octets rest short)))
same_encodings {V} formed element reads one back same once (v ∷ vs) (w ∷ ws) each short all =
    let octets = written (element v) in
    let rest = all_written element vs in
    let brief = short_first octets rest short in
    let first = back v rest each.0 brief in
    let after : all.0 ≡ rest = once (octets ++ rest) w first.0 all.0 rest all.1 first.1 in
    let P : List ℕ → Type 0 = λ z. AllRead reads z ws in
    let tail = same_encodings formed element reads one back same once vs ws each.1 (short_second octets rest short) (subst P after all.3) in
    ap (λ o. written o ∷ encodings element ws) (same v w rest all.0 each.0 brief all.1) ∙ ap (λ z. octets ∷ z) tail

pub set_back : {V : Type 0} (formed : V → Type 0) (element : V → Option Element) (reads : List ℕ → V → List ℕ → Type 0) → OneEach formed element → BackEach formed element reads →
    (vs : List V) (rest : List ℕ) → EachIs formed vs → (IsLong (written (Some (set_of element vs))) → ⊥) →
    (ws : List V) × ReadsElement (ContainerMeans 17 reads) (written (Some (set_of element vs)) ++ rest) ws rest
set_back formed element reads one back vs rest each short =
    list_back 17 (lit< tt) formed element reads (λ x. x) (λ _ ws. ws) (λ _ _ _. refl) one back (set_order element vs) rest (each_in_order formed (λ v. written (element v)) vs each) short

pub set_same : {V : Type 0} (formed : V → Type 0) (element : V → Option Element) (reads : List ℕ → V → List ℕ → Type 0) → OneEach formed element → BackEach formed element reads →
    SameEach formed element reads → OneRest reads → (vs ws : List V) (rest r : List ℕ) → EachIs formed vs → (IsLong (written (Some (set_of element vs))) → ⊥) →
    ReadsElement (ContainerMeans 17 reads) (written (Some (set_of element vs)) ++ rest) ws r → Some (set_of element ws) ≡ Some (set_of element vs)
set_same {V} formed element reads one back same once vs ws rest r each short read =
    let key : V → List ℕ = λ v. written (element v) in
    let e = set_of element vs in
    let range : IsElement e = short_element e (lit< tt) (lit< tt) short in
    let is : read.element ≡ e = same_element e read.element rest r range read.begins in
    let all : AllRead reads (all_written element (set_order element vs)) ws = subst (λ (f : Element). AllRead reads f.content ws) is read.meant.items in
    let brief : IsLong (all_written element (set_order element vs)) → ⊥ = content_short e short in
    let alike : encodings element ws ≡ encodings element (set_order element vs) =
    same_encodings formed element reads one back same once (set_order element vs) ws (each_in_order formed key vs each) brief all in
    let sorted : Ascending (encodings element ws) = subst Ascending (sym alike) (ascending_in_order key vs) in
    let stays : set_order element ws ≡ ws = in_order_already key ws sorted in
    ap (λ (x : Element). Some x) (set_by_encodings element ws vs (ap (encodings element) stays ∙ alike))
