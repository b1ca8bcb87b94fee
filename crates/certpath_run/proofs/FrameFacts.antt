-- The lines of framed items from one on, as the loop that writes them goes over them.
use Rattle.std.proofs.Common.{◌≡◌, refl, ℕ, ◌+◌, ◌<◌, ◌≤◌, suc, List, [], ◌∷◌, ◌++◌, length, drop, Some, sym, ap, ◌∙◌, subst, arith, append_assoc, add_assoc, add-one, get_or, slice_get, length-append}
use Rattle.std.proofs.Math.Seq.{drop-cons}
use Rattle.std.proofs.lemmas.Option.{slice_get_within, get_or_from_slice_get}
use Rattle.std.specs.List.{concat}
use Rattle.std.proofs.lemmas.List.{append-nil, drop_all}
use Rattle.cert_framing.specs.declared.ending.End.{End}
use Rattle.certpath_run.specs.FrameText.{item_line, item_lines, AreItemLines, IsFrameWhy}
use Rattle.certpath_run.specs.Report.{end_line}
use Rattle.fault_texts.specs.FaultLines.{AppendsFault}
use Rattle.fault_texts.specs.declared.lines.Whose.TheVariants.{Items}

-- the text so far and the lines that are left are all lines
pub record Writes (text : List ℕ) (items : List (List ℕ)) (k offset : ℕ) : Type 0 where
  pub lines : text ++ item_lines k offset (drop k items) ≡ item_lines 0 0 items
  pub sizes : offset + length (concat (drop k items)) ≡ length (concat items)

pub drop_from : (items : List (List ℕ)) (k : ℕ) (item : List ℕ) → slice_get items k ≡ Some item → drop k items ≡ item ∷ drop (k + 1) items
drop_from items k item e =
    let within : k < length items = slice_get_within items k item e in
    let at : get_or items k [] ≡ item = get_or_from_slice_get items k item [] e in
    drop-cons items k [] within ∙ ap (λ x. x ∷ drop (suc k) items) at ∙ ap (λ n. item ∷ drop n items) (sym (add-one k))

-- an item lies within the octets
pub item_fits : (text : List ℕ) (items : List (List ℕ)) (k offset : ℕ) (item : List ℕ) → Writes text items k offset → slice_get items k ≡ Some item
    → offset + length item ≤ length (concat items)
item_fits text items k offset item w e =
    let P : List (List ℕ) → Type 0 = λ d. offset + length (concat d) ≡ length (concat items) in
    let whole = subst P (drop_from items k item e) w.sizes in
    let parts = length-append item (concat (drop (k + 1) items)) in
    omega (arith, whole, parts)

pub writes_item : (text text' : List ℕ) (items : List (List ℕ)) (k offset : ℕ) (item : List ℕ) → Writes text items k offset → slice_get items k ≡ Some item
    → text' ≡ text ++ item_line k offset (length item) → Writes text' items (k + 1) (offset + length item)
writes_item text text' items k offset item w e more =
    let rest = drop (k + 1) items in
    let split = drop_from items k item e in
    let left = item_lines (k + 1) (offset + length item) rest in
    let line = item_line k offset (length item) in
    record {
      lines = ap (λ t. t ++ left) more ∙ append_assoc text line left ∙ ap (λ d. text ++ item_lines k offset d) (sym split) ∙ w.lines;
      sizes = add_assoc offset (length item) (length (concat rest)) ∙ ap (λ n. offset + n) (sym (length-append item (concat rest)))
          ∙ ap (λ d. offset + length (concat d)) (sym split) ∙ w.sizes;
    }

-- the lines of the items so far, with the faults of items: whatever lines follow, all begin with
-- the text
pub record WritesWhy (text : List ℕ) (items : List (List ℕ)) (k offset : ℕ) : Type 0 where
  pub lines : (rest : List ℕ) → AreItemLines k offset (drop k items) rest → AreItemLines 0 0 items (text ++ rest)
  pub sizes : offset + length (concat (drop k items)) ≡ length (concat items)

pub why_begins : (items : List (List ℕ)) → WritesWhy [] items 0 0
why_begins items = record { lines = λ rest h. h; sizes = omega arith }

pub why_item_fits : (text : List ℕ) (items : List (List ℕ)) (k offset : ℕ) (item : List ℕ) → WritesWhy text items k offset → slice_get items k ≡ Some item
    → offset + length item ≤ length (concat items)
why_item_fits text items k offset item w e =
    let P : List (List ℕ) → Type 0 = λ d. offset + length (concat d) ≡ length (concat items) in
    let whole = subst P (drop_from items k item e) w.sizes in
    let parts = length-append item (concat (drop (k + 1) items)) in
    omega (arith, whole, parts)

pub writes_fault : (text middle text' : List ℕ) (items : List (List ℕ)) (k offset : ℕ) (item : List ℕ) → WritesWhy text items k offset → slice_get items k ≡ Some item
    → middle ≡ text ++ item_line k offset (length item) → AppendsFault Items k item middle text' → WritesWhy text' items (k + 1) (offset + length item)
writes_fault text middle text' items k offset item w e more a =
    let left = drop (k + 1) items in
    let split = drop_from items k item e in
    let line = item_line k offset (length item) in
    let begun : text' ≡ (text ++ line) ++ a.0 = a.1 ∙ ap (λ t. t ++ a.0) more in
    record {
      lines = λ rest h. subst (λ t. AreItemLines 0 0 items t) (sym (ap (λ t. t ++ rest) begun ∙ append_assoc (text ++ line) a.0 rest ∙ append_assoc text line (a.0 ++ rest)))
          (w.lines (line ++ (a.0 ++ rest)) (subst (λ (d : List (List ℕ)). AreItemLines k offset d (line ++ (a.0 ++ rest))) (sym split) (a.0, rest, a.2, h, refl)));
      sizes = add_assoc offset (length item) (length (concat left)) ∙ ap (λ n. offset + n) (sym (length-append item (concat left)))
          ∙ ap (λ d. offset + length (concat d)) (sym split) ∙ w.sizes;
    }

pub why_ends : (text last : List ℕ) (items : List (List ℕ)) (k offset : ℕ) (end : End) → length items ≤ k → WritesWhy text items k offset → last ≡ text ++ end_line end → IsFrameWhy items end last
why_ends text last items k offset end le w is =
    let all = w.lines [] (subst (λ (d : List (List ℕ)). AreItemLines k offset d []) (sym (drop_all k items le)) refl) in
    record { lines = text; lines_are = subst (λ t. AreItemLines 0 0 items t) (append-nil text) all; text_is = is }
