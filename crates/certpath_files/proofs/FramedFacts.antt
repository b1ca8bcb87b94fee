-- Items of reports are items of bundles.
use Rattle.std.proofs.Common.{◌≡◌, ◌∙◌, sym, ap, subst, refl, ℕ, ◌+◌, ◌-◌, ◌≤◌, ◌==◌, Bool, true, false, List, [], ◌∷◌, ◌++◌, length, take, drop, Ok, Err, arith, length-append, length-take}
use Rattle.std.specs.Prelude.{nat_lt, ◌&&◌, if◌then◌else◌}
use Rattle.std.specs.Int.Digits.{AllBelowBase}
use Rattle.std.proofs.Math.Seq.{take-append-add}
use Rattle.std.proofs.lemmas.List.{take-append-le, take_all, drop-append-le}
use Rattle.std.proofs.lemmas.Bool.Decides.{nat_tests}
use Rattle.std.proofs.Math.Logic.{∥∥₁_map}
use Rattle.asn1_core.specs.Strict.{Head, strict_header}
use Rattle.asn1_core.specs.Answers.{Answer}
use Rattle.asn1_core.specs.Reading.{header_at, strict_at}
use Rattle.asn1_core.proofs.StrictLaws.{strict_found}
use Rattle.cert_framing.specs.Framing.{IsItem}
use Rattle.certpath_files.specs.Fronts.{Front, whole, passed, stops, Fault, no_sequence, no_length, too_long, missing, long_form, most, is_sequence, sized, without_header, by_lenient, by_strict, front_of}
use Rattle.certpath_files.specs.Rows.{Shown, shown_item, shown_left_out, Place, Reason}
use Rattle.certpath_files.specs.Shapes.{Kind}
use Rattle.certpath_files.specs.Framed.{AreItems, IsItemIfWhole}

-- ---- a whole front

no_stop : (f : Fault) (n : ℕ) → stops f ≡ whole n → ⊥
no_stop f n e = cc

no_pass : (f : Fault) (m n : ℕ) → passed f m ≡ whole n → ⊥
no_pass f m n e = cc

one_whole : (m n : ℕ) → whole m ≡ whole n → m ≡ n
one_whole m n e = cc

-- what the tests of a size say if it is whole
chosen : (a b c : Bool) (f g h : Fault) (m n : ℕ) → (if a then stops f else (if b then passed g m else (if c then whole m else passed h m))) ≡ whole n → (a ≡ false) × (b ≡ false) × (m ≡ n)
chosen true b c f g h m n e = absurd (no_stop f n e)
chosen false true c f g h m n e = absurd (no_pass g m n e)
chosen false false true f g h m n e = (refl, refl, one_whole m n e)
chosen false false false f g h m n e = absurd (no_pass h m n e)

within : (m n : ℕ) → nat_lt n m ≡ false → m ≤ n
within m n e = grind (arith, nat_tests)

three : (x y z : Bool) → (x && y && z) ≡ true → (x ≡ true) × (y ≡ true) × (z ≡ true)
three true true true e = (refl, refl, refl)
three true true false e = absurd (let f : true ≡ false = sym e in cc)
three true false z e = absurd (let f : true ≡ false = sym e in cc)
three false y z e = absurd (let f : true ≡ false = sym e in cc)

equal : (m n : ℕ) → (m == n) ≡ true → m ≡ n
equal m n e = grind (arith, nat_tests)

same_head : (class : ℕ) (constructed : Bool) (tag size n : ℕ) → class ≡ 0 → constructed ≡ true → tag ≡ 16 → size ≡ n
    → ◌≡◌ {A = Head} (record { class = class; constructed = constructed; tag = tag; size = size }) (record { class = 0; constructed = true; tag = 16; size = n })
same_head class constructed tag size n a b c d = cc

-- a SEQUENCE by its header, and its content
item_by : (s : List ℕ) (h : Head) (after : List ℕ) → s ≡ strict_header h ++ after → is_sequence h ≡ true → h.size ≤ length after → h.size ≤ most → IsItem most (take (length s - length after + h.size) s)
item_by s h after e sequence room few =
    let parts = three (h.class == 0) h.constructed (h.tag == 16) sequence in
    let content = take h.size after in
    let long : length content ≡ h.size = omega (arith, length-take h.size after) in
    let start : length s - length after + h.size ≡ length (strict_header h) + h.size = omega (arith, ap length e, length-append (strict_header h) after) in
    let head : h ≡ record { class = 0; constructed = true; tag = 16; size = length content } = same_head h.class h.constructed h.tag h.size (length content) (equal h.class 0 parts.0) parts.1 (equal h.tag 16 parts.2) (sym long) in
    record {
      content = content;
      small = omega (arith, long, few);
      spelled =
          ap (λ n. take n s) start ∙ ap (take (length (strict_header h) + h.size)) e ∙ take-append-add (strict_header h) after h.size
          ∙ ap (λ g. strict_header g ++ content) head;
    }

header_whole : (s : List ℕ) (h : Head) (after : List ℕ) (n : ℕ) (is : Bool) → is_sequence h ≡ is → s ≡ strict_header h ++ after → (if is then sized true (length s - length after) h.size (length after) else stops no_sequence) ≡ whole n → IsItem most (take n s)
header_whole s h after n true is e w =
    let c = chosen (nat_lt (length after) h.size) (nat_lt most h.size) true (if nat_lt most h.size then too_long else missing (h.size - length after)) too_long long_form (length s - length after + h.size) n w in
    subst (λ k. IsItem most (take k s)) c.2 (item_by s h after e is (within h.size (length after) c.0) (within h.size most c.1))
header_whole s h after n false is e w = absurd (no_stop no_sequence n w)

-- no front is whole whose header isn't in its strict spelling
not_strict : (header size room n : ℕ) → sized false header size room ≡ whole n → ⊥
not_strict header size room n w = by (nat_lt room size) (nat_lt most size) (if nat_lt most size then too_long else missing (size - room)) w
  where
    by : (a b : Bool) (f : Fault) → (if a then stops f else (if b then passed too_long (header + size) else passed long_form (header + size))) ≡ whole n → ⊥
    by true b f e = no_stop f n e
    by false true f e = no_pass too_long (header + size) n e
    by false false f e = no_pass long_form (header + size) n e

if_not : (b : Bool) (header size room n : ℕ) → (if b then sized false header size room else stops no_sequence) ≡ whole n → ⊥
if_not true header size room n w = not_strict header size room n w
if_not false header size room n w = no_stop no_sequence n w

none_without : (s : List ℕ) (n : ℕ) → without_header s ≡ whole n → ⊥
none_without [] n w = no_stop no_sequence n w
none_without (o ∷ s) n w = by (o == 48) w
  where
    by : (b : Bool) → (if b then stops no_length else stops no_sequence) ≡ whole n → ⊥
    by true e = no_stop no_length n e
    by false e = no_stop no_sequence n e

none_lenient : (s : List ℕ) (read : Answer Head) (n : ℕ) → by_lenient s read ≡ whole n → ⊥
none_lenient s (Ok p) n w = if_not (is_sequence p.0) (length s - length p.1) p.0.size (length p.1) n w
none_lenient s (Err e) n w = none_without s n w

strict_whole : (s : List ℕ) (read : Answer Head) (n : ℕ) → AllBelowBase 256 s → strict_at s ≡ read → by_strict s read ≡ whole n → IsItem most (take n s)
strict_whole s (Ok p) n below e w = header_whole s p.0 p.1 n (is_sequence p.0) refl (strict_found s p.0 p.1 below e).whole w
strict_whole s (Err x) n below e w = absurd (none_lenient s (header_at s) n w)

by_front : (s : List ℕ) (front : Front) → AllBelowBase 256 s → front_of s ≡ front → IsItemIfWhole front s
by_front s (whole n) below e = strict_whole s (strict_at s) n below refl e
by_front s (passed fault n) below e = tt
by_front s (stops fault) below e = tt

pub front_framed : (s : List ℕ) (front : Front) → AllBelowBase 256 s → front ≡ front_of s → IsItemIfWhole front s
front_framed s front below e = by_front s front below (sym e)

-- ---- rows that are added

shorter_room : (n : ℕ) (o s : List ℕ) → n ≤ length o → n ≤ length (o ++ s)
shorter_room n o s h = omega (arith, length-append o s)

pub item_added : (rows : List Shown) (o s : List ℕ) (place : Place) (kind : Kind) → AreItems rows o → IsItem most s → AreItems (rows ++ shown_item place kind (length s) ∷ []) (o ++ s)
item_added [] o s place kind are it =
    let whole : o ++ s ≡ s = ap (λ z. z ++ s) are in (
      omega (arith, ap length whole),
      subst (IsItem most) (sym (ap (take (length s)) whole ∙ take_all (length s) s (omega arith))) it,
      ap (drop (length s)) whole ∙ none_left s,
    )
  where
    none_left : (t : List ℕ) → drop (length t) t ≡ []
    none_left [] = refl
    none_left (a ∷ t) = none_left t
item_added (shown_item p k n ∷ rows) o s place kind are it = (
  shorter_room n o s are.0,
  subst (IsItem most) (sym (take-append-le n o s are.0)) are.1,
  subst (AreItems (rows ++ shown_item place kind (length s) ∷ [])) (sym (drop-append-le n o s are.0)) (item_added rows (drop n o) s place kind are.2 it),
)
item_added (shown_left_out p r ∷ rows) o s place kind are it = item_added rows o s place kind are it

pub left_out_added : (rows : List Shown) (o : List ℕ) (place : Place) (reason : Reason) → AreItems rows o → AreItems (rows ++ shown_left_out place reason ∷ []) o
left_out_added [] o place reason are = are
left_out_added (shown_item p k n ∷ rows) o place reason are = (are.0, are.1, left_out_added rows (drop n o) place reason are.2)
left_out_added (shown_left_out p r ∷ rows) o place reason are = left_out_added rows o place reason are

-- what is said of a report after a row is added
pub with_item : (shown more : List Shown) (o p s : List ℕ) (place : Place) (kind : Kind) → ∥ AreItems shown o ∥₁ → IsItem most s → more ≡ shown ++ shown_item place kind (length s) ∷ [] → p ≡ o ++ s → ∥ AreItems more p ∥₁
with_item shown more o p s place kind are it e f = ∥∥₁_map are (λ h. subst (λ z. AreItems z p) (sym e) (subst (AreItems (shown ++ shown_item place kind (length s) ∷ [])) (sym f) (item_added shown o s place kind h it)))

pub with_left_out : (shown more : List Shown) (o : List ℕ) (place : Place) (reason : Reason) → ∥ AreItems shown o ∥₁ → more ≡ shown ++ shown_left_out place reason ∷ [] → ∥ AreItems more o ∥₁
with_left_out shown more o place reason are e = ∥∥₁_map are (λ h. subst (λ z. AreItems z o) (sym e) (left_out_added shown o place reason h))
