-- What is found is what the check says yes to.
use Rattle.std.specs.Prelude.{◌↔◌}
use Rattle.std.proofs.Common.{◌≡◌, ◌∙◌, refl, sym, ap, subst, ℕ, ◌+◌, ◌<◌, ◌≤◌, Bool, true, cond, IsTrue, List, [], ◌∷◌, ◌++◌, length, length-append, map, take, drop, Vec, pos, ℤ, ◌⊎◌, get_or, inl, inr, arith}
use Rattle.std.specs.List.{All, AllByRecursion}
use Rattle.std.proofs.lemmas.List.{length-map, take_at}
use Rattle.std.proofs.lemmas.List.Elements.{All-head, All-tail}
use Rattle.std.specs.declared.alloc.Global.{Global}
use Rattle.cert_framing.specs.Held.{Framed}
use Rattle.cert_framing.specs.Framing.{IsFraming}
use Rattle.cert_framing.specs.declared.ending.End.{End}
use Rattle.cert_graph.specs.declared.reach.Reach.{Reach}
use Rattle.cert_graph.specs.declared.reach.Reach.TheVariants.{No, UpTo, Any}
use Rattle.cert_graph.specs.declared.answer.Table.{Table}
use Rattle.cert_graph.specs.declared.answer.Answer.{Answer}
use Rattle.cert_graph.specs.declared.answer.Answer.TheVariants.{Path, NoPath, NoTarget}
use Rattle.cert_graph.specs.Graph.{Graph}
use Rattle.cert_graph.specs.Adequate.{IsAdequate, IsAdequatePath, IsAdequateNone, rows_of}
use Rattle.cert_graph.proofs.Agreeing.{agreed_adequate}
use Rattle.cert_model.specs.Fields.{CivilTime}
use Rattle.cert_judge.specs.declared.policy.Policy.{Policy}
use Rattle.cert_judge.specs.Classed.{AreClassed}
use Rattle.cert_judge.specs.Revoking.{Item, JudgingContext}
use Rattle.cert_judge.specs.ItemGraph.{graph_of_items}
use Rattle.cert_judge.proofs.Linking.{fit_is_usable}
use Rattle.cert_model.specs.View.{time_view}
use Rattle.cert_purpose.specs.Restricting.{VouchAlike}
use Rattle.cert_purpose.proofs.Alike.{alike_agrees}
use Rattle.cert_serving.specs.declared.permits.Permits.{Permits}
use Rattle.cert_serving.specs.Demanding.{Demanded, PermitsOf, ProcessesFor}
use Rattle.cert_serving.specs.Refusing.{are_permitted, are_processed}
use Rattle.cert_vouchers.specs.declared.vouchers.Vouchers.{Vouchers}
use Rattle.cert_vouchers.specs.Vouching.{HasPair}
use Rattle.certpath_run.specs.Answered.{HoldsOfItems}
use Rattle.certpath_run.proofs.Searched.{check_says_yes, one_classing}
use Rattle.certpath_c.specs.declared.answers.AnswerRow.{AnswerRow}
use Rattle.certpath_c.specs.declared.asked.Settings.{Settings}
use Rattle.certpath_c.specs.declared.asked.Voucher.{Voucher}
use Rattle.certpath_c.specs.declared.times.Moment.{Moment}
use Rattle.certpath_c.specs.Times.{IsRow}
use Rattle.certpath_c.specs.Answers.{reach_number, rows_entries, FitsReach, FitsRow, FitsAnswer, IsWide, HasWholeRows, IsRowOf, IsAnswerOf, positions_of, answer_entries}
use Rattle.certpath_c.specs.Asked.{ArePairs, VouchesBy, IsPolicyOf}
use Rattle.certpath_c.specs.Wanted.{ArePermits, demanded, rules_in}
use Rattle.certpath_c.specs.Finding.{IsFoundBy}
use Rattle.certpath_c.specs.Checking.{IsCheckedBy}
use Rattle.sha2.specs.Sha256.{sha256}
use Rattle.std.specs.Prelude.{slice_index_or}
use Rattle.certpath_c.proofs.Hosts.{one_host}
use Rattle.certpath_c.proofs.TableRows.{same_fronts, same_backs}

-- numbers that are those of one reach
one_reach : (r s : Reach) → FitsReach r → FitsReach s → reach_number r ≡ reach_number s → r ≡ s
one_reach No No f g e = refl
one_reach No (UpTo m) f g e = let h : 0 ≡ m + 1 = e in absurd (omega (arith, h))
one_reach No Any f g e = let h : 0 ≡ 18446744073709551615 = e in absurd (omega (arith, h))
one_reach (UpTo n) No f g e = let h : n + 1 ≡ 0 = e in absurd (omega (arith, h))
one_reach (UpTo n) (UpTo m) f g e = let h : n + 1 ≡ m + 1 = e in let same : n ≡ m = omega (arith, h) in ap UpTo same
one_reach (UpTo n) Any f g e = let h : n + 1 ≡ 18446744073709551615 = e in let below : n < 4294967296 = f in absurd (omega (arith, h, below))
one_reach Any No f g e = let h : 18446744073709551615 ≡ 0 = e in absurd (omega (arith, h))
one_reach Any (UpTo m) f g e = let h : 18446744073709551615 ≡ m + 1 = e in let below : m < 4294967296 = g in absurd (omega (arith, h, below))
one_reach Any Any f g e = refl

one_row : (r s : List Reach) → AllByRecursion FitsReach r → AllByRecursion FitsReach s → map reach_number r ≡ map reach_number s → r ≡ s
one_row [] [] f g e = refl
one_row [] (y ∷ ys) f g e = let h : [] ≡ reach_number y ∷ map reach_number ys = e in cc
one_row (x ∷ xs) [] f g e = let h : reach_number x ∷ map reach_number xs ≡ [] = e in cc
one_row (x ∷ xs) (y ∷ ys) f g e =
    let h : reach_number x ∷ map reach_number xs ≡ reach_number y ∷ map reach_number ys = e in
    let head : x ≡ y = one_reach x y f.0 g.0 (cc) in
    let tail : xs ≡ ys = one_row xs ys f.1 g.1 (cc) in
    cc

one_table : (width : ℕ) (rows others : List (List Reach)) → 0 < width → AllByRecursion (IsWide width) rows → AllByRecursion (IsWide width) others → AllByRecursion FitsRow rows → AllByRecursion FitsRow others
    → rows_entries rows ≡ rows_entries others → rows ≡ others
one_table width [] [] some v w f g e = refl
one_table width [] (y ∷ ys) some v w f g e =
    let h : [] ≡ map reach_number y ++ rows_entries ys = e in
    let long : length y ≡ width = w.0 in
    absurd (omega (arith, ap length h, length-append (map reach_number y) (rows_entries ys), length-map y reach_number, long))
one_table width (x ∷ xs) [] some v w f g e =
    let h : map reach_number x ++ rows_entries xs ≡ [] = e in
    let long : length x ≡ width = v.0 in
    absurd (omega (arith, ap length h, length-append (map reach_number x) (rows_entries xs), length-map x reach_number, long))
one_table width (x ∷ xs) (y ∷ ys) some v w f g e =
    let h : map reach_number x ++ rows_entries xs ≡ map reach_number y ++ rows_entries ys = e in
    let one : length x ≡ width = v.0 in
    let two : length y ≡ width = w.0 in
    let long : length (map reach_number x) ≡ length (map reach_number y) = omega (arith, length-map x reach_number, length-map y reach_number, one, two) in
    let head : x ≡ y = one_row x y f.0 g.0 (same_fronts _ _ _ _ h long) in
    let tail : xs ≡ ys = one_table width xs ys some v.1 w.1 f.1 g.1 (same_backs _ _ _ _ h long) in
    ap (λ r. r ∷ xs) head ∙ ap (λ rs. y ∷ rs) tail

-- two answers of equal numbers are adequate alike
same_adequate : (g : Graph) (target width : ℕ) (row : AnswerRow) (positions entries : List ℕ) (answer other : Answer) → (IsAdequate g target answer → answer ≡ NoTarget ⊎ (0 < width)) → IsAnswerOf width row positions entries answer
    → IsAnswerOf width row positions entries other → IsAdequate g target answer → IsAdequate g target other
same_adequate g target width row positions entries (Path ps a t) (Path qs b u) some is is' h =
    elim (some h) [
      | inl e ↦ cc
      | inr lt ↦
          let rows : rows_of t ≡ rows_of u = one_table width (rows_of t) (rows_of u) lt is.whole is'.whole is.fits is'.fits (is.entries_are ∙ sym is'.entries_are) in
          let path : ps.items ≡ qs.items = is.positions_are ∙ sym is'.positions_are in
          let anchor : a ≡ b = sym is.is_row.anchor ∙ is'.is_row.anchor in
          subst (λ zs. IsAdequatePath g target zs b (rows_of u)) path (subst (λ c. IsAdequatePath g target ps.items c (rows_of u)) anchor (subst (IsAdequatePath g target ps.items a) rows h))
    ]
same_adequate g target width row positions entries (Path ps a t) (NoPath u) some is is' h = let e : 0 ≡ 1 = sym is.is_row.outcome ∙ is'.is_row.outcome in absurd (omega (arith, e))
same_adequate g target width row positions entries (Path ps a t) NoTarget some is is' h = let e : 0 ≡ 2 = sym is.is_row.outcome ∙ is'.is_row.outcome in absurd (omega (arith, e))
same_adequate g target width row positions entries (NoPath t) (Path qs b u) some is is' h = let e : 1 ≡ 0 = sym is.is_row.outcome ∙ is'.is_row.outcome in absurd (omega (arith, e))
same_adequate g target width row positions entries (NoPath t) (NoPath u) some is is' h =
    elim (some h) [
      | inl e ↦ cc
      | inr lt ↦ subst (IsAdequateNone g target) (one_table width (rows_of t) (rows_of u) lt is.whole is'.whole is.fits is'.fits (is.entries_are ∙ sym is'.entries_are)) h
    ]
same_adequate g target width row positions entries (NoPath t) NoTarget some is is' h = let e : 1 ≡ 2 = sym is.is_row.outcome ∙ is'.is_row.outcome in absurd (omega (arith, e))
same_adequate g target width row positions entries NoTarget (Path qs b u) some is is' h = let e : 2 ≡ 0 = sym is.is_row.outcome ∙ is'.is_row.outcome in absurd (omega (arith, e))
same_adequate g target width row positions entries NoTarget (NoPath u) some is is' h = let e : 2 ≡ 1 = sym is.is_row.outcome ∙ is'.is_row.outcome in absurd (omega (arith, e))
same_adequate g target width row positions entries NoTarget NoTarget some is is' h = h

-- the moment of a structure
one_time : (m : Moment) (t u : CivilTime) → IsRow t m → IsRow u m → t.nanosecond ≡ u.nanosecond → t ≡ u
one_time m t u h k nano =
    let year : t.year ≡ u.year = sym h.year ∙ k.year in
    let months : pos t.month ≡ pos u.month = sym h.month ∙ k.month in
    let days : pos t.day ≡ pos u.day = sym h.day ∙ k.day in
    let hours : pos t.hour ≡ pos u.hour = sym h.hour ∙ k.hour in
    let minutes : pos t.minute ≡ pos u.minute = sym h.minute ∙ k.minute in
    let seconds : pos t.second ≡ pos u.second = sym h.second ∙ k.second in
    let month : t.month ≡ u.month = cc in
    let day : t.day ≡ u.day = cc in
    let hour : t.hour ≡ u.hour = cc in
    let minute : t.minute ≡ u.minute = cc in
    let second : t.second ≡ u.second = cc in
    λ i. record { year = year i; month = month i; day = day i; hour = hour i; minute = minute i; second = second i; nanosecond = nano i }

-- what settings demand
same_demand : (settings : Settings) (items : List (List ℕ)) (a b : Permits) (pa : ArePermits settings items a) (pb : ArePermits settings items b)
    → ◌≡◌ {A = Demanded} (demanded pa.wanted (slice_index_or items settings.target [])) (demanded pb.wanted (slice_index_or items settings.target []))
same_demand settings items a b pa pb =
    let target = slice_index_or items settings.target [] in
    let host = one_host settings.host.now pa.wanted.host pb.wanted.host pa.is_wanted.host pb.is_wanted.host in
    let purpose = pa.is_wanted.purpose ∙ sym pb.is_wanted.purpose in
    λ i. record { purpose = purpose i; host = host i; target = target }

one_demand : (settings : Settings) (items : List (List ℕ)) (a b : Permits) → ArePermits settings items a → ArePermits settings items b → (octets : List ℕ) → are_permitted a octets → are_permitted b octets
one_demand settings items a b pa pb octets h =
    let permitted : PermitsOf (demanded pb.wanted (slice_index_or items settings.target [])) items (are_permitted a) =
    subst (λ d. PermitsOf d items (are_permitted a)) (same_demand settings items a b pa pb) pa.permitted in
    (pb.permitted octets).1 ((permitted octets).0 h)

-- beside the pairs, which process nothing
one_processed : (settings : Settings) (items : List (List ℕ)) (a b : Permits) → ArePermits settings items a → ArePermits settings items b → (octets identifier : List ℕ) → ⊥ ⊎ are_processed a octets identifier
    → ⊥ ⊎ are_processed b octets identifier
one_processed settings items a b pa pb octets identifier (inl n) = absurd n
one_processed settings items a b pa pb octets identifier (inr h) =
    let processed : ProcessesFor (demanded pb.wanted (slice_index_or items settings.target [])) (are_processed a) =
    subst (λ d. ProcessesFor d (are_processed a)) (same_demand settings items a b pa pb) pa.processed in
    inr ((pb.processed octets identifier).1 ((processed octets identifier).0 h))

one_pair : (vouchers : List Voucher) (pairs others : Vouchers) → ArePairs vouchers pairs → ArePairs vouchers others → (key item : List ℕ) → (VouchesBy pairs).Vouches key item → (VouchesBy others).Vouches key item
one_pair vouchers pairs others p q key item h = (q (sha256 key) (sha256 item)).1 ((p (sha256 key) (sha256 item)).0 h)

rules_alike : (settings : Settings) (vouchers : List Voucher) (octets : List (List ℕ)) (p q : Policy) (pairs others : Vouchers) (a b : Permits) (items : List Item) → IsPolicyOf settings p → IsPolicyOf settings q
    → ArePairs vouchers pairs → ArePairs vouchers others → ArePermits settings octets a → ArePermits settings octets b → VouchAlike (rules_in p pairs a) (rules_in q others b) items
rules_alike settings vouchers octets p q pairs others a b items hp hq vp vq pa pb =
    let there : (key item : List ℕ) → (VouchesBy pairs).Vouches key item × are_permitted a item → (VouchesBy others).Vouches key item × are_permitted b item =
    λ key item h. (one_pair vouchers pairs others vp vq key item h.0, one_demand settings octets a b pa pb item h.1) in
    let back : (key item : List ℕ) → (VouchesBy others).Vouches key item × are_permitted b item → (VouchesBy pairs).Vouches key item × are_permitted a item =
    λ key item h. (one_pair vouchers others pairs vq vp key item h.0, one_demand settings octets b a pb pa item h.1) in record {
      moment = one_time settings.moment (time_view p.moment) (time_view q.moment) hp.moment.civil.row hq.moment.civil.row (hp.moment.civil.whole_second ∙ sym hq.moment.civil.whole_second);
      demand = hp.demand ∙ sym hq.demand;
      certificates = λ x c key at is. (there key x.octets, back key x.octets);
      lists = λ x l key at is. (there key x.octets, back key x.octets);
      processed = λ x c identifier at is. (one_processed settings octets a b pa pb x.octets identifier, one_processed settings octets b a pb pa x.octets identifier);
    }

-- the rows of an adequate answer are whole
whole_rows : (n : ℕ) (rows : List (List Reach)) → All (λ (row : List Reach). length row ≡ n) rows → AllByRecursion (IsWide n) rows
whole_rows n [] all = tt
whole_rows n (r ∷ rs) all =
    let P : List Reach → Type 0 = λ row. length row ≡ n in
    (All-head P r rs all, whole_rows n rs (All-tail P r rs all))

one_whole : (n : ℕ) (rows : List (List Reach)) (row : List Reach) → rows ≡ row ∷ [] → length row ≡ n → AllByRecursion (IsWide n) rows
one_whole n rows row one long = subst (AllByRecursion (IsWide n)) (sym one) (long, tt)

abbrev octets_of : Item → List ℕ
octets_of x = x.octets

as_many : (octets : List (List ℕ)) (items : List Item) → AreClassed octets items → length items ≡ length octets
as_many octets items classed = sym (length-map items octets_of) ∙ ap length classed.octets_are

adequate_whole : (r : JudgingContext) (octets : List (List ℕ)) (items anchors : List Item) (target : ℕ) (answer : Answer) → AreClassed octets items → IsAdequate (graph_of_items r items anchors) target answer → HasWholeRows (length octets) answer
adequate_whole r octets items anchors target (Path ps a table) classed h =
    whole_rows (length octets) (rows_of table) (subst (λ n. All (λ (row : List Reach). length row ≡ n) (rows_of table)) (as_many octets items classed) h.whole)
adequate_whole r octets items anchors target (NoPath table) classed h = one_whole (length octets) (rows_of table) h.row h.one (h.whole ∙ as_many octets items classed)
adequate_whole r octets items anchors target NoTarget classed h = tt

-- an answer with a table has an item at least
some_item : (r : JudgingContext) (octets : List (List ℕ)) (items anchors : List Item) (target : ℕ) (answer : Answer) → AreClassed octets items → IsAdequate (graph_of_items r items anchors) target answer → answer ≡ NoTarget ⊎ (0 < length octets)
some_item r octets items anchors target (Path ps a table) classed h =
    let first : 0 < length ps.items = omega (arith, h.count) in
    let at = h.valid.usable 0 0 first in
    inr (omega (arith, at.0, as_many octets items classed))
some_item r octets items anchors target (NoPath table) classed h = inr (omega (arith, h.certificate.0, as_many octets items classed))
some_item r octets items anchors target NoTarget classed h = inl refl

-- a found answer, as its numbers are given
pub found_given : (r : JudgingContext) (octets anchors : List (List ℕ)) (target : ℕ) (answer : Answer) (row : AnswerRow) → HoldsOfItems r octets anchors (λ g. IsAdequate g target answer) → IsRowOf answer row → FitsAnswer answer
    → IsAnswerOf (length octets) row (positions_of answer) (answer_entries answer) answer
found_given r octets anchors target answer row h is_row fits =
    record { is_row = is_row; positions_are = refl; entries_are = refl; whole = adequate_whole r octets h.0 h.1 target answer h.2 h.4; fits = fits }

-- what was found of some items is adequate by other rules that vouch alike, and as another answer
-- of equal numbers
carried : (r s : JudgingContext) (octets anchors : List (List ℕ)) (target : ℕ) (row : AnswerRow) (answer other : Answer) → ((items : List Item) → VouchAlike r s items) → IsRowOf answer row → FitsAnswer answer
    → IsAnswerOf (length octets) row (positions_of answer) (answer_entries answer) other → HoldsOfItems r octets anchors (λ g. IsAdequate g target answer) → HoldsOfItems s octets anchors (λ g. IsAdequate g target other)
carried r s octets anchors target row answer other alike is_row fits is h =
    let g = graph_of_items r h.0 h.1 in
    let k = graph_of_items s h.0 h.1 in
    let by_other = (agreed_adequate g k (alike_agrees r s h.0 h.1 (alike h.0)) (fit_is_usable r h.0 h.1) target answer).0 h.4 in
    let given = found_given r octets anchors target answer row h is_row fits in
    (h.0, h.1, h.2, h.3, same_adequate k target (length octets) row (positions_of answer) (answer_entries answer) answer other (some_item s octets h.0 h.1 target answer h.2) given is by_other)

-- a stream has one framing
abbrev pub OneFraming : Type 0
OneFraming =
    (limit : ℕ) (stream : List ℕ) (items others : List (List ℕ)) (end last : End) → IsFraming limit stream items end → IsFraming limit stream others last → (items ≡ others) × (end ≡ last)

-- the check says yes to what was found
pub says_yes : (once : OneFraming) (bundle anchors : List ℕ) (vouchers : List Voucher) (settings : Settings) (policy other_policy : Policy) (row : AnswerRow) (answer : Answer) (said : Bool) → IsPolicyOf settings policy → IsPolicyOf settings other_policy
    → (found : IsFoundBy bundle anchors vouchers settings policy answer) → IsRowOf answer row → FitsAnswer answer
    → IsCheckedBy bundle anchors vouchers settings other_policy row (positions_of answer) (answer_entries answer) said → IsTrue said
says_yes once bundle anchors vouchers settings policy other_policy row answer said hp hq found is_row fits checked =
    let same = (once settings.limit bundle _ _ _ _ found.inputs.framing checked.inputs.framing).0 in
    let same_anchors = (once settings.limit anchors _ _ _ _ found.inputs.anchors_framing checked.inputs.anchors_framing).0 in
    let r = rules_in policy found.pairs found.permits in
    let s = rules_in other_policy checked.pairs checked.permits in
    let octets = checked.items.items in
    let others = checked.anchor_items.items in
    let permits : ArePermits settings octets found.permits = subst (λ xs. ArePermits settings xs found.permits) same found.are_permits in
    let alike : (items : List Item) → VouchAlike r s items =
    λ items. rules_alike settings vouchers octets policy other_policy found.pairs checked.pairs found.permits checked.permits items hp hq found.inputs.pairs_are checked.inputs.pairs_are permits checked.are_permits in
    let here : HoldsOfItems r octets others (λ g. IsAdequate g settings.target answer) =
    subst (λ xs. HoldsOfItems r xs others (λ g. IsAdequate g settings.target answer)) same
    (subst (λ ys. HoldsOfItems r found.items.items ys (λ g. IsAdequate g settings.target answer)) same_anchors found.adequate) in
    check_says_yes s octets others settings.target checked.answer said checked.exact
    (carried r s octets others settings.target row answer checked.answer alike is_row fits checked.is_answer here)
