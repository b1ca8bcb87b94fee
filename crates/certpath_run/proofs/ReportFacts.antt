-- The lines of the report, as the loops go over them.
use Rattle.std.proofs.Common.{◌≡◌, ◌∙◌, sym, ap, refl, ℕ, suc, ◌+◌, ◌<◌, ◌≤◌, List, [], ◌∷◌, ◌++◌, length, drop, arith, append_assoc, get_or, add-one, Bool, if◌then◌else◌}
use Rattle.std.proofs.Math.Seq.{drop-cons}
use Rattle.std.proofs.lemmas.List.{append-nil, drop_all}
use Rattle.cert_judge.specs.declared.judged.JudgedItem.{JudgedItem}
use Rattle.std.specs.Fmt.{decimal}
use Rattle.cert_framing.specs.declared.ending.End.{End}
use Rattle.cert_graph.specs.declared.answer.Answer.{Answer}
use Rattle.cert_model.specs.Fields.{CivilTime}
use Rattle.cert_model.specs.Class.{Class}
use Rattle.cert_judge.specs.declared.judged.JudgedItem.TheVariants.{Certificate as certificate_judged, List as list_judged, Other as other_judged}
use Rattle.cert_judge.specs.JudgedItems.{IsJudged, AreJudged}
use Rattle.cert_judge.specs.Revoking.{Item}
use Rattle.certpath_run.specs.Report.{class_word, item_lines, is_certificate, certificates_among, end_line, position_words, answer_line, report_with}
use Rattle.certpath_inputs.specs.Check.{check_line}
use Rattle.certpath_run.specs.JudgedReport.{judged_word, judged_line, judged_lines, one_certificate, certificates_of, counts_line, judged_report}

pub drop_next : {X : Type 0} (xs : List X) (k : ℕ) (d : X) → k < length xs → drop k xs ≡ get_or xs k d ∷ drop (k + 1) xs
drop_next xs k d lt = drop-cons xs k d lt ∙ ap (λ n. get_or xs k d ∷ drop n xs) (sym (add-one k))

pub item_pushed : (items : List JudgedItem) (k : ℕ) (d : JudgedItem) (first text more : List ℕ) → k < length items → text ++ judged_lines k (drop k items) ≡ first → more ≡ text ++ judged_line k (get_or items k d)
    → more ++ judged_lines (k + 1) (drop (k + 1) items) ≡ first
item_pushed items k d first text more lt before is =
    ap (λ t. t ++ judged_lines (k + 1) (drop (k + 1) items)) is ∙ append_assoc text (judged_line k (get_or items k d)) (judged_lines (k + 1) (drop (k + 1) items))
    ∙ sym (ap (λ l. text ++ judged_lines k l) (drop_next items k d lt)) ∙ before

pub items_pushed : (items : List JudgedItem) (k : ℕ) (first text : List ℕ) → length items ≤ k → text ++ judged_lines k (drop k items) ≡ first → text ≡ first
items_pushed items k first text le before = sym (append-nil text) ∙ sym (ap (λ l. text ++ judged_lines k l) (drop_all k items le)) ∙ before

pub position_pushed : (positions : List ℕ) (k d : ℕ) (first text more : List ℕ) → k < length positions → text ++ position_words (drop k positions) ≡ first → more ≡ text ++ (32 ∷ decimal (get_or positions k d))
    → more ++ position_words (drop (k + 1) positions) ≡ first
position_pushed positions k d first text more lt before is =
    ap (λ t. t ++ position_words (drop (k + 1) positions)) is ∙ append_assoc text (32 ∷ decimal (get_or positions k d)) (position_words (drop (k + 1) positions))
    ∙ sym (ap (λ l. text ++ position_words l) (drop_next positions k d lt)) ∙ before

pub positions_pushed : (positions : List ℕ) (k : ℕ) (first text : List ℕ) → length positions ≤ k → text ++ position_words (drop k positions) ≡ first → text ≡ first
positions_pushed positions k first text le before = sym (append-nil text) ∙ sym (ap (λ l. text ++ position_words l) (drop_all k positions le)) ∙ before

-- the certificates so far, and those that are left
pub record Counted (items : List JudgedItem) (k count : ℕ) : Type 0 where
  pub total : count + certificates_of (drop k items) ≡ certificates_of items
  pub small : count ≤ k

pub one_counted : (items : List JudgedItem) (k count more : ℕ) (d : JudgedItem) → k < length items → Counted items k count → more ≡ one_certificate (get_or items k d) → more ≤ 1 → Counted items (k + 1) (count + more)
one_counted items k count more d lt c is small =
    let split : certificates_of (drop k items) ≡ one_certificate (get_or items k d) + certificates_of (drop (k + 1) items) = ap certificates_of (drop_next items k d lt) in
    record { total = omega (arith, c.total, split, is); small = omega (arith, c.small, small) }

pub all_counted : (items : List JudgedItem) (k count : ℕ) → length items ≤ k → Counted items k count → count ≡ certificates_of items
all_counted items k count le c =
    let none : certificates_of (drop k items) ≡ 0 = ap certificates_of (drop_all k items le) in
    omega (arith, c.total, none)

-- judged items show what their classes are

pub judged_first : (moment : CivilTime) (x : Item) (xs : List Item) (j : JudgedItem) (js : List JudgedItem) → AreJudged moment (x ∷ xs) (j ∷ js) → IsJudged moment x j × AreJudged moment xs js
judged_first moment x xs j js a = (
  a.each 0 x j (omega arith),
  record { count = omega (arith, a.count); each = λ v y k lt. a.each (suc v) y k (omega (arith, lt)) },
)

pub same_word : (moment : CivilTime) (x : Item) (j : JudgedItem) → IsJudged moment x j → judged_word j ≡ class_word x.class
same_word moment x (certificate_judged j) p = sym (ap class_word p.class)
same_word moment x (list_judged j) p = sym (ap class_word p.class)
same_word moment x other_judged p = sym (ap class_word p)

abbrev certificate_number : Class → ℕ
certificate_number c = if is_certificate c then 1 else 0

same_count : (moment : CivilTime) (x : Item) (j : JudgedItem) → IsJudged moment x j → one_certificate j ≡ certificate_number x.class
same_count moment x (certificate_judged j) p = sym (ap certificate_number p.class)
same_count moment x (list_judged j) p = sym (ap certificate_number p.class)
same_count moment x other_judged p = sym (ap certificate_number p)

pub same_lines : (moment : CivilTime) (xs : List Item) (js : List JudgedItem) (k : ℕ) → AreJudged moment xs js → judged_lines k js ≡ item_lines k xs
same_lines moment [] [] k a = refl
same_lines moment [] (j ∷ js) k a = absurd (omega (arith, a.count))
same_lines moment (x ∷ xs) [] k a = absurd (omega (arith, a.count))
same_lines moment (x ∷ xs) (j ∷ js) k a =
    let both = judged_first moment x xs j js a in
    ap (λ w. (decimal k ++ (32 ∷ (w ++ 10 ∷ []))) ++ judged_lines (k + 1) js) (same_word moment x j both.0)
    ∙ ap (λ l. (decimal k ++ (32 ∷ (class_word x.class ++ 10 ∷ []))) ++ l) (same_lines moment xs js (k + 1) both.1)

pub same_certificates : (moment : CivilTime) (xs : List Item) (js : List JudgedItem) → AreJudged moment xs js → certificates_of js ≡ certificates_among xs
same_certificates moment [] [] a = refl
same_certificates moment [] (j ∷ js) a = absurd (omega (arith, a.count))
same_certificates moment (x ∷ xs) [] a = absurd (omega (arith, a.count))
same_certificates moment (x ∷ xs) (j ∷ js) a =
    let both = judged_first moment x xs j js a in
    ap (λ n. n + certificates_of js) (same_count moment x j both.0) ∙ ap (λ n. certificate_number x.class + n) (same_certificates moment xs js both.1)

pub same_report : (lines : List ℕ) (moment : CivilTime) (xs ys : List Item) (js hs : List JudgedItem) (end anchors_end : End) (answer : Answer) (said : Bool) → AreJudged moment xs js → AreJudged moment ys hs
    → judged_report lines js end hs anchors_end answer said ≡ report_with lines xs end ys anchors_end answer said
same_report lines moment xs ys js hs end anchors_end answer said a b =
    let behind = lines ++ (answer_line answer ++ check_line said) in
    ap (λ l. l ++ (end_line end ++ (counts_line (certificates_of hs) (length hs) anchors_end ++ behind))) (same_lines moment xs js 0 a)
    ∙ ap (λ n. item_lines 0 xs ++ (end_line end ++ (counts_line n (length hs) anchors_end ++ behind))) (same_certificates moment ys hs b)
    ∙ ap (λ n. item_lines 0 xs ++ (end_line end ++ (counts_line (certificates_among ys) n anchors_end ++ behind))) b.count
