-- How far a set's values are encoded, and what their encodings are once sorted.
use Rattle.std.proofs.Common.{arith, ◌≡◌, ◌∙◌, refl, sym, ap, subst, ℕ, suc, ◌+◌, ◌<◌, ◌≤◌, Bool, false, cond, List, [], ◌∷◌, ◌++◌, length, map, Option, Result, Ok, Err, append_assoc, length-append}
use Rattle.std.specs.Prelude.{slice_index_or}
use Rattle.std.specs.List.{flat_map, sum_by}
use Rattle.std.specs.List.Sorted.{IsPermutation, IsSortedBy}
use Rattle.std.specs.Cmp.Lexicographic.{slice_cmp}
use Rattle.std.specs.Ordering.{nat_cmp, is_lt, is_gt, ordering_reverse}
use Rattle.std.specs.declared.cmp.Ordering.{Ordering}
use Rattle.std.specs.declared.cmp.Ordering.TheVariants.{Less, Equal, Greater}
use Rattle.std.proofs.lemmas.Cmp.{nat_list_cmp_total}
use Rattle.std.proofs.lemmas.List.{append-nil}
use Rattle.asn1_core.specs.Elements.{Element}
use Rattle.asn1_core.specs.declared.serialize.SerializeError.{SerializeError}
use Rattle.asn1_core.specs.declared.serialize.SerializeError.TheVariants as writes
use Rattle.asn1_device.specs.Counts.{AppendsFront}
use Rattle.asn1_traits.specs.Writes.{written, IsLong, Measures, NotEncoded, Stops}
use Rattle.asn1_traits.proofs.Writing.{front_none}
use Rattle.asn1_traits.specs.Lists.{all_written, EachIs}
use Rattle.asn1_lists.specs.Encoding.{Unmade}
use Rattle.asn1_lists.specs.Ordered.{comes_after, Ascending, encodings, in_order, set_order}
use Rattle.asn1_lists.specs.OrderLaws.{after_none_onward, ascending_in_order, permuted_in_order, one_order, totals_of, SameTotals}
use Rattle.asn1_lists.specs.SetLaws.{joined, written_joined, set_length}

pub measures_alike : (xs ys : List ℕ) (r : Result ℕ SerializeError) → length xs ≡ length ys → Measures xs r → Measures ys r
measures_alike xs ys (Ok n) e m = m ∙ e
measures_alike xs ys (Err x) e m = (m.0, omega (arith, e, m.1))

-- how far values are encoded: those in `rest` are left
pub record Encoded {V : Type 0} (element : V → Option Element) (formed : V → Type 0) (all rest : List V) (parts : List (List ℕ)) : Type 0 where
  pub keys : parts ++ encodings element rest ≡ encodings element all
  pub each : EachIs formed all → EachIs formed rest
  pub shorter : length (all_written element rest) ≤ length (all_written element all)
  pub fewer : length rest ≤ length all

pub encoded_more : {V : Type 0} (element : V → Option Element) (formed : V → Type 0) (all rest more : List V) (v : V) (parts next : List (List ℕ)) →
    Encoded element formed all rest parts → rest ≡ v ∷ more → next ≡ parts ++ written (element v) ∷ [] → Encoded element formed all more next
encoded_more {V} element formed all rest more v parts next h e is =
    let each : EachIs formed all → EachIs formed (v ∷ more) = let P : List V → Type 0 = λ z. EachIs formed z in λ f. subst P e (h.each f) in
    record {
      keys =
          ap (λ z. z ++ encodings element more) is ∙ append_assoc parts (written (element v) ∷ []) (encodings element more)
          ∙ sym (ap (λ z. parts ++ encodings element z) e) ∙ h.keys;
      each = λ f. (each f).1;
      shorter = omega (arith, h.shorter, ap (λ z. length (all_written element z)) e, length-append (written (element v)) (all_written element more));
      fewer = omega (arith, h.fewer, ap length e);
    }

pub encoded_all : {V : Type 0} (element : V → Option Element) (formed : V → Type 0) (all rest : List V) (parts : List (List ℕ)) →
    Encoded element formed all rest parts → rest ≡ [] → parts ≡ encodings element all
encoded_all element formed all rest parts h e = sym (append-nil parts) ∙ sym (ap (λ z. parts ++ encodings element z) e) ∙ h.keys

-- the next value isn't encoded
pub encoded_stops : {V : Type 0} (element : V → Option Element) (formed : V → Type 0) (all rest more : List V) (v : V) (parts : List (List ℕ)) (x : SerializeError) →
    Encoded element formed all rest parts → rest ≡ v ∷ more → NotEncoded (formed v → ⊥) (written (element v)) x →
    Unmade (IsLong (all_written element all)) (0 < length all) (EachIs formed all → ⊥) x
encoded_stops {V} element formed all rest more v parts (writes.ASN1Error y) h e n = let P : List V → Type 0 = λ z. EachIs formed z in λ f. n (subst P e (h.each f)).0
encoded_stops {V} element formed all rest more v parts (writes.InvalidClass y) h e n = let P : List V → Type 0 = λ z. EachIs formed z in λ f. n (subst P e (h.each f)).0
encoded_stops element formed all rest more v parts writes.InvalidLength h e n =
    omega (arith, n, h.shorter, ap (λ z. length (all_written element z)) e, length-append (written (element v)) (all_written element more))
encoded_stops element formed all rest more v parts writes.IOError h e n = n
encoded_stops element formed all rest more v parts writes.OutOfMemory h e n = omega (arith, h.fewer, ap length e)

-- ---- sorted

not_before : (r s : Ordering) → r ≡ ordering_reverse s → is_lt s ≡ false → is_gt r ≡ false
not_before r Less e h = absurd (subst (λ b. cond b (Unit {0}) ⊥) h tt)
not_before r Equal e h = ap is_gt e
not_before r Greater e h = ap is_gt e

-- the tail of what is sorted is sorted
sorted_tail : {X : Type 0} (lt : X → X → Bool) (x : X) (xs : List X) → IsSortedBy lt (x ∷ xs) → IsSortedBy lt xs
sorted_tail lt x xs h = λ k d low high.
    let e : suc k + 1 ≡ suc (k + 1) = omega arith in
    let next = h (suc k) d (omega arith) (omega (arith, high)) in
    subst (λ (n : ℕ). lt (slice_index_or (x ∷ xs) n d) (slice_index_or xs k d) ≡ false) e next

sorted_first : {X : Type 0} (lt : X → X → Bool) (x y : X) (xs : List X) → IsSortedBy lt (x ∷ y ∷ xs) → lt y x ≡ false
sorted_first lt x y xs h = h 0 x (omega arith) (omega arith)

-- sorted by std's order of octets, they ascend
pub sorted_ascend : {X : Type 0} (key : X → List ℕ) (xs : List X) → IsSortedBy (λ x y. is_lt (slice_cmp nat_cmp (key x) (key y))) xs → Ascending (map key xs)
sorted_ascend key [] h = tt
sorted_ascend key (x ∷ []) h = (tt, tt)
sorted_ascend key (x ∷ y ∷ xs) h =
    let rest = sorted_ascend key (y ∷ xs) (sorted_tail (λ a b. is_lt (slice_cmp nat_cmp (key a) (key b))) x (y ∷ xs) h) in
    let first : comes_after (key x) (key y) ≡ false =
    not_before (slice_cmp nat_cmp (key x) (key y)) (slice_cmp nat_cmp (key y) (key x)) (nat_list_cmp_total.antisymm (key x) (key y))
    (sorted_first (λ a b. is_lt (slice_cmp nat_cmp (key a) (key b))) x y xs h) in
    ((first, after_none_onward (key x) (key y) (map key xs) first rest.0), rest)

pub flat_joined : {X : Type 0} (key : X → List ℕ) (xs : List X) → flat_map key xs ≡ joined (map key xs)
flat_joined key [] = refl
flat_joined key (x ∷ xs) = ap (λ z. key x ++ z) (flat_joined key xs)

-- the encodings in std's order are those in the set's
pub sorted_set : {V X : Type 0} (element : V → Option Element) (key : X → List ℕ) (vs : List V) (given sorted : List X) → map key given ≡ encodings element vs → IsPermutation given sorted →
    IsSortedBy (λ x y. is_lt (slice_cmp nat_cmp (key x) (key y))) sorted → flat_map key sorted ≡ all_written element (set_order element vs)
sorted_set {V} element key vs given sorted e h ordered =
    let own : V → List ℕ = λ v. written (element v) in
    let totals : SameTotals (map key sorted) (map own (in_order own vs)) = λ count.
    totals_of own vs (in_order own vs) (permuted_in_order own vs) count ∙ ap (sum_by count) (sym e) ∙ sym (totals_of key given sorted h count) in
    let same : map key sorted ≡ map own (in_order own vs) = one_order (map key sorted) (map own (in_order own vs)) (sorted_ascend key sorted ordered) (ascending_in_order own vs) totals in
    flat_joined key sorted ∙ ap joined same ∙ sym (written_joined element (set_order element vs))

-- ---- not written

-- what isn't made stops the writer before it writes
unmade_stops : (n : ℕ) (long grows wrong long' : Type 0) (e : SerializeError) → (long → long') → Unmade long grows wrong e → Stops n n long' grows wrong e
unmade_stops n long grows wrong long' (writes.ASN1Error x) f u = (u, refl)
unmade_stops n long grows wrong long' (writes.InvalidClass x) f u = (u, refl)
unmade_stops n long grows wrong long' writes.InvalidLength f u = (f u, refl)
unmade_stops n long grows wrong long' writes.IOError f u = absurd u
unmade_stops n long grows wrong long' writes.OutOfMemory f u = (u, refl)

pub set_stops : {V : Type 0} (element : V → Option Element) (formed : V → Type 0) (device : Option (List ℕ)) (n : ℕ) (vs held : List V) (e : SerializeError) → held ≡ vs →
    Unmade (IsLong (all_written element held)) (0 < length held) (EachIs formed held → ⊥) e →
    AppendsFront device device (all_written element (set_order element vs)) × Stops n n (IsLong (all_written element (set_order element vs))) (0 < length vs) (EachIs formed vs → ⊥) e
set_stops {V} element formed device n vs held e is u =
    let P : List V → Type 0 = λ z. Unmade (IsLong (all_written element z)) (0 < length z) (EachIs formed z → ⊥) e in (
      front_none device (all_written element (set_order element vs)),
      unmade_stops n (IsLong (all_written element vs)) (0 < length vs) (EachIs formed vs → ⊥) (IsLong (all_written element (set_order element vs))) e
          (λ long. omega (arith, long, set_length element vs)) (subst P is u),
    )
