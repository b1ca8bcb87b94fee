-- The lines of items that are other, as the loops that write them go over the items.
use Rattle.std.proofs.Common.{◌≡◌, ◌∙◌, refl, sym, ap, subst, ℕ, zero, suc, ◌+◌, ◌-◌, ◌<◌, ◌≤◌, List, [], ◌∷◌, ◌++◌, length, drop, map, arith, append_assoc, get_or, add-one, Option, None, Some, option_map, Result, Ok, Err}
use Rattle.std.specs.Prelude.{OnOk, MatchOption, IfSome}
use Rattle.std.specs.Borrow.{Bor}
use Rattle.std.specs.List.{slice_get}
use Rattle.std.proofs.lemmas.Option.{slice_get-map, slice_get_past, slice_get_read}
use Rattle.std.proofs.Math.Seq.{drop-cons}
use Rattle.std.proofs.lemmas.List.{append-nil, drop_all}
use Rattle.cert_judge.specs.Items.{item_of}
use Rattle.cert_judge.specs.Revoking.{Item}
use Rattle.cert_judge.specs.declared.items.ReadItem.{ReadItem}
use Rattle.cert_judge.specs.declared.items.ReadItem.TheVariants.{Certificate as certificate_read, List as list_read, Other as other_read}
use Rattle.fault_texts.specs.declared.lines.Whose.TheVariants.{Items, Anchors}
use Rattle.fault_texts.specs.declared.lines.Whose.{Whose}
use Rattle.cert_faults.specs.Fault.{IsFirstFault}
use Rattle.cert_faults.specs.declared.fault.Fault.{Fault}
use Rattle.cert_model.specs.Class.{IsClassOf, other}
use Rattle.fault_texts.specs.FaultLines.{AppendsFault, AppendsFaults, IsFaultLine, of_other, of_none, IsTargetLine, AreAnchorLines, AreFaultLines, fault_line, more_line, most_lines, one_other, others_among}
use Rattle.fault_texts.specs.FaultSteps.{AppendsOwn, AppendsTarget, AppendsAnchor, AppendsAnchors}

drop_next : {X : Type 0} (xs : List X) (k : ℕ) (d : X) → k < length xs → drop k xs ≡ get_or xs k d ∷ drop (k + 1) xs
drop_next xs k d lt = drop-cons xs k d lt ∙ ap (λ n. get_or xs k d ∷ drop n xs) (sym (add-one k))

-- one anchor

none_left : (k : ℕ) (xs : List Item) (rest : List ℕ) → AreAnchorLines k 0 xs rest → rest ≡ []
none_left k [] rest h = h
none_left k (x ∷ xs) rest h = h

-- no more lines may come
pub anchor_past : (k : ℕ) (x : Item) (text : List ℕ) → AppendsAnchor k 0 0 x text text
anchor_past k x text = ([], sym (append-nil text), λ xs rest h. none_left (k + 1) xs rest h)

pub anchor_over : (k left : ℕ) (x : Item) (text : List ℕ) → left ≡ 0 → AppendsAnchor k left 0 x text text
anchor_over k left x text is = subst (λ n. AppendsAnchor k n 0 x text text) (sym is) (anchor_past k x text)

-- it is other
pub anchor_added : (k left : ℕ) (octets : Bor (List ℕ)) (item : ReadItem) (old new : List ℕ) → 0 < left → item ≡ other_read octets → AppendsFault Anchors k octets.now old new → AppendsAnchor k left (left - 1) (item_of item) old new
anchor_added k zero octets item old new lt is a = absurd (omega (arith, lt))
anchor_added k (suc left) octets item old new lt is a =
    let less : suc left - 1 ≡ left = omega arith in
    let step : AppendsAnchor k (suc left) left (item_of (other_read octets)) old new = (a.0, a.1, λ xs rest h. (a.0, rest, a.2, h, refl)) in
    subst (λ (x : ReadItem). AppendsAnchor k (suc left) (suc left - 1) (item_of x) old new) (sym is) (subst (λ n. AppendsAnchor k (suc left) n (item_of (other_read octets)) old new) (sym less) step)

-- it isn't
pub anchor_passed : (k left : ℕ) (item : ReadItem) (text : List ℕ) → 0 < left → ((octets : Bor (List ℕ)) → item ≡ other_read octets → ⊥) → AppendsAnchor k left left (item_of item) text text
anchor_passed k zero item text lt differs = absurd (omega (arith, lt))
anchor_passed k (suc left) (certificate_read x) text lt differs = ([], sym (append-nil text), λ xs rest h. h)
anchor_passed k (suc left) (list_read x) text lt differs = ([], sym (append-nil text), λ xs rest h. h)
anchor_passed k (suc left) (other_read octets) text lt differs = absurd (differs octets refl)

-- the anchors so far

abbrev pub AnchorsSoFar : (items : List ReadItem) (k left : ℕ) (before text : List ℕ) → Type 0
AnchorsSoFar items k left before text =
    (lines : List ℕ) × (text ≡ before ++ lines) × ((rest : List ℕ) → AreAnchorLines k left (map item_of (drop k items)) rest → AreAnchorLines 0 most_lines (map item_of items) (lines ++ rest))

pub anchors_begin : (items : List ReadItem) (text : List ℕ) → AnchorsSoFar items 0 most_lines text text
anchors_begin items text = ([], sym (append-nil text), λ rest h. h)

pub anchor_next : (items : List ReadItem) (k left less : ℕ) (item d : ReadItem) (before text more : List ℕ) → k < length items → item ≡ get_or items k d → AnchorsSoFar items k left before text
    → AppendsAnchor k left less (item_of item) text more → AnchorsSoFar items (k + 1) less before more
anchor_next items k left less item d before text more lt is so a =
    let split : drop k items ≡ item ∷ drop (k + 1) items = drop_next items k d lt ∙ ap (λ x. x ∷ drop (k + 1) items) (sym is) in (
      so.0 ++ a.0,
      a.1 ∙ ap (λ t. t ++ a.0) so.1 ∙ append_assoc before so.0 a.0,
      λ rest h. subst (λ t. AreAnchorLines 0 most_lines (map item_of items) t) (sym (append_assoc so.0 a.0 rest))
          (so.2 (a.0 ++ rest) (subst (λ (l : List ReadItem). AreAnchorLines k left (map item_of l) (a.0 ++ rest)) (sym split) (a.2 (map item_of (drop (k + 1) items)) rest h))),
    )

pub anchors_end : (items : List ReadItem) (k left : ℕ) (before text : List ℕ) → length items ≤ k → AnchorsSoFar items k left before text → AppendsAnchors items before text
anchors_end items k left before text le so =
    let over : drop k items ≡ [] = drop_all k items le in
    let last = so.2 [] (subst (λ (l : List ReadItem). AreAnchorLines k left (map item_of l) []) (sym over) refl) in
    (so.0, so.1, subst (λ t. AreAnchorLines 0 most_lines (map item_of items) t) (append-nil so.0) last)

-- the target

pub on_ok : {E : Type 0} (r : Result (Unit {0}) E) (P Q : Type 0) → (P → Q) → OnOk r P → OnOk r Q
on_ok (Ok u) P Q f h = f h
on_ok (Err e) P Q f h = h

pub own_added : (item : ReadItem) (octets : Bor (List ℕ)) (target : ℕ) (old new : List ℕ) → item ≡ other_read octets → AppendsFault Items target octets.now old new → AppendsOwn (item_of item) target old new
own_added item octets target old new is a = subst (λ (x : ReadItem). AppendsOwn (item_of x) target old new) (sym is) a

pub own_passed : (item : ReadItem) (target : ℕ) (text : List ℕ) → ((octets : Bor (List ℕ)) → item ≡ other_read octets → ⊥) → AppendsOwn (item_of item) target text text
own_passed (certificate_read x) target text differs = ([], sym (append-nil text), refl)
own_passed (list_read x) target text differs = ([], sym (append-nil text), refl)
own_passed (other_read octets) target text differs = absurd (differs octets refl)

pub target_read : (items : List ReadItem) (target : ℕ) (item : ReadItem) (old new : List ℕ) → target < length items → item ≡ get_or items target item → AppendsOwn (item_of item) target old new → AppendsTarget items target old new
target_read items target item old new lt is a =
    let there : slice_get (map item_of items) target ≡ Some (item_of item) = slice_get-map item_of items target ∙ ap (option_map item_of) (slice_get_read items (length items) target item refl lt is) in
    (a.0, a.1, subst (λ o. IsTargetLine o target a.0) (sym there) a.2)

pub target_missing : (items : List ReadItem) (target : ℕ) (text : List ℕ) → length items ≤ target → AppendsTarget items target text text
target_missing items target text le =
    let there : slice_get (map item_of items) target ≡ None = slice_get-map item_of items target ∙ ap (option_map item_of) (slice_get_past items target le) in
    ([], sym (append-nil text), subst (λ o. IsTargetLine o target []) (sym there) refl)

-- the line of octets

pub line_there : (whose : Whose) (k : ℕ) (s : List ℕ) (found : Option Fault) (f : Fault) (old new : List ℕ) → found ≡ Some f → MatchOption found (IsClassOf s other → ⊥) (λ g. IsClassOf s other) → IfSome found (IsFirstFault s)
    → new ≡ old ++ fault_line whose k f → AppendsFault whose k s old new
line_there whose k s None f old new e p q is = absurd cc
line_there whose k s (Some g) f old new e p q is = let same : g ≡ f = cc in (fault_line whose k f, is, of_other f p (subst (IsFirstFault s) same q) refl)

pub line_absent : (whose : Whose) (k : ℕ) (s : List ℕ) (found : Option Fault) (text : List ℕ) → ((f : Fault) → found ≡ Some f → ⊥) → MatchOption found (IsClassOf s other → ⊥) (λ g. IsClassOf s other) → AppendsFault whose k s text text
line_absent whose k s None text none p = ([], sym (append-nil text), of_none p refl)
line_absent whose k s (Some g) text none p = absurd (none g refl)

-- all lines

pub all_pushed : (items anchors : List ReadItem) (target n : ℕ) (old first second new : List ℕ) → AppendsTarget items target old first → AppendsAnchors anchors first second → new ≡ second ++ more_line n
    → n ≡ others_among (map item_of anchors) - most_lines → AppendsFaults (map item_of items) target (map item_of anchors) old new
all_pushed items anchors target n old first second new a b m is =
    let more = more_line n in (
      a.0 ++ (b.0 ++ more),
      m ∙ ap (λ t. t ++ more) b.1 ∙ append_assoc first b.0 more ∙ ap (λ t. t ++ (b.0 ++ more)) a.1 ∙ append_assoc old a.0 (b.0 ++ more),
      record { own = a.0; own_is = a.2; lines = b.0; lines_are = b.2; text_is = ap (λ z. a.0 ++ (b.0 ++ more_line z)) is },
    )

-- how many are other, so far and of those that are left
pub record Counted (items : List ReadItem) (k count : ℕ) : Type 0 where
  pub total : count + others_among (map item_of (drop k items)) ≡ others_among (map item_of items)
  pub small : count ≤ k

pub one_counted : (items : List ReadItem) (k count more : ℕ) (d : ReadItem) → k < length items → Counted items k count → more ≡ one_other (item_of (get_or items k d)).class → more ≤ 1 → Counted items (k + 1) (count + more)
one_counted items k count more d lt c is small =
    let split : others_among (map item_of (drop k items)) ≡ one_other (item_of (get_or items k d)).class + others_among (map item_of (drop (k + 1) items)) = ap (λ (l : List ReadItem). others_among (map item_of l)) (drop_next items k d lt) in
    record { total = omega (arith, c.total, split, is); small = omega (arith, c.small, small) }

pub all_counted : (items : List ReadItem) (k count : ℕ) → length items ≤ k → Counted items k count → count ≡ others_among (map item_of items)
all_counted items k count le c =
    let none : others_among (map item_of (drop k items)) ≡ 0 = ap (λ (l : List ReadItem). others_among (map item_of l)) (drop_all k items le) in
    omega (arith, c.total, none)
