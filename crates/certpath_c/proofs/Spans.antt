-- The spans of the items so far.
use Rattle.std.proofs.Common.{◌≡◌, ℕ, ◌+◌, ◌<◌, ◌≤◌, suc, true, false, Result, Ok, Err, OnOk, List, [], ◌∷◌, ◌++◌, length, drop, Some, sym, ap, ◌∙◌, subst, arith, append_assoc, add_assoc, add-one, get_or, slice_get, length-append}
use Rattle.std.proofs.Math.Seq.{drop-cons}
use Rattle.std.proofs.lemmas.Option.{slice_get_within, get_or_from_slice_get}
use Rattle.std.specs.List.{concat}
use Rattle.std.specs.Result.{is_err}
use Rattle.cert_framing.specs.Held.{Held, StandsFor}
use Rattle.certpath_c.specs.declared.framing.Span.{Span}
use Rattle.certpath_c.specs.Framing.{spans_of}

-- the spans so far and those that are left are all spans
pub record Spans (spans : List Span) (items : List (List ℕ)) (k offset : ℕ) : Type 0 where
  pub all : spans ++ spans_of offset (drop k items) ≡ spans_of 0 items
  pub sizes : offset + length (concat (drop k items)) ≡ length (concat items)

pub drop_from : (items : List (List ℕ)) (k : ℕ) (item : List ℕ) → slice_get items k ≡ Some item → drop k items ≡ item ∷ drop (k + 1) items
drop_from items k item e =
    let within : k < length items = slice_get_within items k item e in
    let at : get_or items k [] ≡ item = get_or_from_slice_get items k item [] e in
    drop-cons items k [] within ∙ ap (λ x. x ∷ drop (suc k) items) at ∙ ap (λ n. item ∷ drop n items) (sym (add-one k))

-- an item lies within the octets
pub item_fits : (spans : List Span) (items : List (List ℕ)) (k offset : ℕ) (item : List ℕ) → Spans spans items k offset → slice_get items k ≡ Some item
    → offset + length item ≤ length (concat items)
item_fits spans items k offset item w e =
    let P : List (List ℕ) → Type 0 = λ d. offset + length (concat d) ≡ length (concat items) in
    let whole = subst P (drop_from items k item e) w.sizes in
    let parts = length-append item (concat (drop (k + 1) items)) in
    omega (arith, whole, parts)

pub one_more : (spans : List Span) (items : List (List ℕ)) (k offset : ℕ) (item : List ℕ) → Spans spans items k offset → slice_get items k ≡ Some item
    → Spans (spans ++ record { offset = offset; length = length item } ∷ []) items (k + 1) (offset + length item)
one_more spans items k offset item w e =
    let rest = drop (k + 1) items in
    let split = drop_from items k item e in
    let left = spans_of (offset + length item) rest in
    let one : Span = record { offset = offset; length = length item } in
    record {
      all = append_assoc spans (one ∷ []) left ∙ ap (λ d. spans ++ spans_of offset d) (sym split) ∙ w.all;
      sizes = add_assoc offset (length item) (length (concat rest)) ∙ ap (λ n. offset + n) (sym (length-append item (concat rest)))
          ∙ ap (λ d. offset + length (concat d)) (sym split) ∙ w.sizes;
    }

-- what was fed to a bundle is at the end of its stream
pub fed : {A E : Type 0} (r : Result A E) (held held' : Held) (front octets : List ℕ) → OnOk r ((stream : List ℕ) → StandsFor held stream → StandsFor held' (stream ++ octets)) → is_err r ≡ false → StandsFor held front
    → StandsFor held' (front ++ octets)
fed (Ok x) held held' front octets ok no_err s = ok front s
fed (Err x) held held' front octets ok no_err s = let bad : true ≡ false = no_err in cc
