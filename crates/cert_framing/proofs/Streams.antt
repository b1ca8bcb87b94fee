-- The longest list of items that begins a stream.
use Rattle.std.proofs.Common.{◌≡◌, ℕ, ◌≤◌, Bool, true, false, List, [], ◌∷◌, ◌++◌, length, refl, sym, ◌∙◌, ap, subst, append_assoc, inl, inr, length-append, arith}
use Rattle.cert_framing.specs.Held.{Held, IsKept, StandsFor, TakesPieces}
use Rattle.std.proofs.lemmas.List.{append-nil}
use Rattle.std.proofs.lemmas.List.Folds.{concat-append}
use Rattle.std.specs.List.{concat, AllByRecursion}
use Rattle.cert_framing.specs.declared.ending.End.{End}
use Rattle.cert_framing.specs.declared.ending.End.TheVariants.{Clean, Cut, Fault}
use Rattle.cert_framing.specs.Framing.{IsItem, Splits, IsLongest, IsCutShort, EndsAs, IsFraming}
use Rattle.cert_framing.specs.Fronts.{MeetsNoItem}
use Rattle.cert_framing.proofs.Lists.{front_cases, nil_from_append}
use Rattle.cert_framing.proofs.Sequences.{one_item}

-- no item begins the octets
abbrev pub HasNoItem : ℕ → List ℕ → Type 0
HasNoItem limit octets = (item after : List ℕ) → IsItem limit item → octets ≡ item ++ after → ⊥

-- a proper prefix of an item does not begin with one
pub cut_has_none : (limit : ℕ) (rest : List ℕ) → IsCutShort limit rest → HasNoItem limit rest
cut_has_none limit rest cut item after is e =
    let more : List ℕ = cut.0 in
    let f : (rest ++ more) ++ [] ≡ item ++ (after ++ more) =
    append-nil (rest ++ more) ∙ ap (λ (x : List ℕ). x ++ more) e ∙ append_assoc item after more in
    cut.1 (nil_from_append after more (one_item limit (rest ++ more) item [] (after ++ more) cut.2 is f).1)

pub meets_has_none : (limit : ℕ) (rest : List ℕ) → MeetsNoItem limit rest → HasNoItem limit rest
meets_has_none limit rest none item after is e = none item [] after is (append-nil rest ∙ e)

pub meets_is_no_cut : (limit : ℕ) (rest : List ℕ) → MeetsNoItem limit rest → ¬ (IsCutShort limit rest)
meets_is_no_cut limit rest none cut = none (rest ++ cut.0) cut.0 [] cut.2 (sym (append-nil (rest ++ cut.0)))

-- octets that no item begins and that begin none meet none
pub meets_none : (limit : ℕ) (rest : List ℕ) → HasNoItem limit rest → ¬ (IsCutShort limit rest) → MeetsNoItem limit rest
meets_none limit rest none whole item more after is e =
    elim (front_cases rest more item after e) [
      | inl w ↦ none item w.0 is w.1
      | inr w ↦ whole (w.0, w.1, rw w.2 at is)
    ]

-- nothing that follows makes an item of them
pub meets_more : (limit : ℕ) (rest piece : List ℕ) → MeetsNoItem limit rest → MeetsNoItem limit (rest ++ piece)
meets_more limit rest piece none item more after is e = none item (piece ++ more) after is (sym (append_assoc rest piece more) ∙ e)

-- no split is longer than one whose rest begins with no item
none_longer : (limit : ℕ) (items others : List (List ℕ)) (rest after : List ℕ) → AllByRecursion (IsItem limit) items
    → AllByRecursion (IsItem limit) others → concat items ++ rest ≡ concat others ++ after → HasNoItem limit rest
    → length others ≤ length items
none_longer limit [] [] rest after all all' e none = omega arith
none_longer limit [] (other ∷ others) rest after all all' e none =
    absurd (none other (concat others ++ after) all'.0 (e ∙ append_assoc other (concat others) after))
none_longer limit (item ∷ items) [] rest after all all' e none = omega arith
none_longer limit (item ∷ items) (other ∷ others) rest after all all' e none =
    let f : item ++ (concat items ++ rest) ≡ other ++ (concat others ++ after) =
    sym (append_assoc item (concat items) rest) ∙ e ∙ append_assoc other (concat others) after in
    let tails = (one_item limit item other (concat items ++ rest) (concat others ++ after) all.0 all'.0 f).1 in
    let below : length others ≤ length items = none_longer limit items others rest after all.1 all'.1 tails none in
    omega arith

pub longest_from : (limit : ℕ) (stream : List ℕ) (items : List (List ℕ)) (rest : List ℕ) → Splits limit stream items rest → HasNoItem limit rest
    → IsLongest limit stream items rest
longest_from limit stream items rest splits none =
    record {
      splits = splits;
      longest = λ others after there.
          none_longer limit items others rest after splits.each there.each (sym splits.whole ∙ there.whole) none;
    }

-- items of two lists, joined
pub all_append : (limit : ℕ) (items more : List (List ℕ)) → AllByRecursion (IsItem limit) items → AllByRecursion (IsItem limit) more
    → AllByRecursion (IsItem limit) (items ++ more)
all_append limit [] more all all' = all'
all_append limit (item ∷ items) more all all' = (all.0, all_append limit items more all.1 all')

-- no item begins what comes after the longest list
pub longest_has_none : (limit : ℕ) (stream : List ℕ) (items : List (List ℕ)) (rest : List ℕ) → IsLongest limit stream items rest
    → HasNoItem limit rest
longest_has_none limit stream items rest longest item after is e =
    let one_more : concat (items ++ item ∷ []) ≡ concat items ++ item =
    concat-append items (item ∷ []) ∙ ap (λ (x : List ℕ). concat items ++ x) (append-nil item) in
    let whole : stream ≡ concat (items ++ item ∷ []) ++ after =
    longest.splits.whole ∙ ap (λ (x : List ℕ). concat items ++ x) e
    ∙ sym (append_assoc (concat items) item after) ∙ ap (λ (x : List ℕ). x ++ after) (sym one_more) in
    let there : Splits limit stream (items ++ item ∷ []) after =
    record { whole = whole; each = all_append limit items (item ∷ []) longest.splits.each (is, tt) } in
    let above : length (items ++ item ∷ []) ≤ length items = longest.longest (items ++ item ∷ []) after there in
    absurd (omega (arith, length-append items (item ∷ [])))

-- two splits of one number of items are one
same_splits : (limit : ℕ) (items others : List (List ℕ)) (rest after : List ℕ) → AllByRecursion (IsItem limit) items
    → AllByRecursion (IsItem limit) others → length items ≡ length others → concat items ++ rest ≡ concat others ++ after
    → (items ≡ others) × (rest ≡ after)
same_splits limit [] [] rest after all all' size e = (refl, e)
same_splits limit [] (other ∷ others) rest after all all' size e = absurd (omega arith)
same_splits limit (item ∷ items) [] rest after all all' size e = absurd (omega arith)
same_splits limit (item ∷ items) (other ∷ others) rest after all all' size e =
    let f : item ++ (concat items ++ rest) ≡ other ++ (concat others ++ after) =
    sym (append_assoc item (concat items) rest) ∙ e ∙ append_assoc other (concat others) after in
    let first = one_item limit item other (concat items ++ rest) (concat others ++ after) all.0 all'.0 f in
    let same : item ≡ other = first.0 in
    let tails = same_splits limit items others rest after all.1 all'.1 (omega arith) first.1 in
    let same' : items ≡ others = tails.0 in
    (cc, tails.1)

-- a stream has one longest list of items
pub one_longest : (limit : ℕ) (stream : List ℕ) (items others : List (List ℕ)) (rest after : List ℕ) → IsLongest limit stream items rest
    → IsLongest limit stream others after → (items ≡ others) × (rest ≡ after)
one_longest limit stream items others rest after one two =
    let below : length others ≤ length items = one.longest others after two.splits in
    let above : length items ≤ length others = two.longest items rest one.splits in
    same_splits limit items others rest after one.splits.each two.splits.each (omega arith) (sym one.splits.whole ∙ two.splits.whole)

-- one rest ends in one way
pub one_end : (limit : ℕ) (rest : List ℕ) (offset : ℕ) (end last : End) → EndsAs limit rest offset end → EndsAs limit rest offset last
    → end ≡ last
one_end limit rest offset Clean Clean ends ends' = refl
one_end limit rest offset Clean (Cut at) ends ends' = absurd (ends'.0 ends)
one_end limit rest offset Clean (Fault at) ends ends' = absurd (ends'.0 ends)
one_end limit rest offset (Cut at) Clean ends ends' = absurd (ends.0 ends')
one_end limit rest offset (Cut at) (Cut at') ends ends' = ap Cut (ends.2 ∙ sym ends'.2)
one_end limit rest offset (Cut at) (Fault at') ends ends' = absurd (ends'.1 ends.1)
one_end limit rest offset (Fault at) Clean ends ends' = absurd (ends.0 ends')
one_end limit rest offset (Fault at) (Cut at') ends ends' = absurd (ends.1 ends'.1)
one_end limit rest offset (Fault at) (Fault at') ends ends' = ap Fault (ends.2 ∙ sym ends'.2)

pub framing_is_one : (limit : ℕ) (stream : List ℕ) (items others : List (List ℕ)) (end last : End) → IsFraming limit stream items end
    → IsFraming limit stream others last → (items ≡ others) × (end ≡ last)
framing_is_one limit stream items others end last one two =
    let same = one_longest limit stream items others one.rest two.rest one.longest two.longest in
    let ends : EndsAs limit one.rest (length (concat items)) last = rw (same.0, same.1) two.ends in
    (same.0, one_end limit one.rest (length (concat items)) end last one.ends ends)

-- two bundles that stand for one stream
kept_is_one : (limit : ℕ) (rest : List ℕ) (fault fault' : Bool) (kept kept' : List ℕ) → IsKept limit rest fault kept → IsKept limit rest fault' kept'
    → (fault ≡ fault') × (kept ≡ kept')
kept_is_one limit rest false false kept kept' is is' = (refl, is.0 ∙ sym is'.0)
kept_is_one limit rest false true kept kept' is is' = absurd (is'.1 is.1)
kept_is_one limit rest true false kept kept' is is' = absurd (is.1 is'.1)
kept_is_one limit rest true true kept kept' is is' = (refl, is.0 ∙ sym is'.0)

same_held : (limit limit' : ℕ) (items items' : List (List ℕ)) (kept kept' : List ℕ) (fault fault' failed failed' : Bool) → limit ≡ limit'
    → items ≡ items' → kept ≡ kept' → fault ≡ fault' → failed ≡ failed'
    → ◌≡◌ {A = Held} (record { limit = limit; items = items; kept = kept; has_fault = fault; has_failed = failed })
    (record { limit = limit'; items = items'; kept = kept'; has_fault = fault'; has_failed = failed' })
same_held limit limit' items items' kept kept' fault fault' failed failed' p q r s t = cc

pub held_is_one : (stream : List ℕ) (held other : Held) → held.limit ≡ other.limit → StandsFor held stream → StandsFor other stream
    → held ≡ other
held_is_one stream held other same stands stands' =
    let longest : IsLongest held.limit stream other.items stands'.rest = rw same stands'.longest in
    let items = one_longest held.limit stream held.items other.items stands.rest stands'.rest stands.longest longest in
    let is : IsKept held.limit stands.rest other.has_fault other.kept = rw (same, items.1) stands'.is_kept in
    let kept = kept_is_one held.limit stands.rest held.has_fault other.has_fault held.kept other.kept stands.is_kept is in
    same_held held.limit other.limit held.items other.items held.kept other.kept held.has_fault other.has_fault held.has_failed other.has_failed
    same items.0 kept.1 kept.0 (stands.sound ∙ sym stands'.sound)

-- pieces taken one after the other make up what follows the stream
pieces_taken : (pieces : List (List ℕ)) (start last : Held) (stream : List ℕ) → StandsFor start stream → TakesPieces start pieces last
    → (last.limit ≡ start.limit) × StandsFor last (stream ++ concat pieces)
pieces_taken [] start last stream stands takes =
    let here : StandsFor last stream = subst (λ (h : Held). StandsFor h stream) takes stands in
    (ap (λ (h : Held). h.limit) (sym takes), rw append-nil here)
pieces_taken (piece ∷ pieces) start last stream stands takes =
    let next : Held = takes.0 in
    let rest = pieces_taken pieces next last (stream ++ piece) (takes.1.1 stream stands) takes.2 in
    (rest.0 ∙ takes.1.0, rw append_assoc at rest.1)

pub same_pieces : (pieces others : List (List ℕ)) (start other_start last other_last : Held) → start.limit ≡ other_start.limit
    → StandsFor start [] → StandsFor other_start [] → TakesPieces start pieces last → TakesPieces other_start others other_last
    → concat pieces ≡ concat others → last ≡ other_last
same_pieces pieces others start other_start last other_last same stands stands' takes takes' joined =
    let one = pieces_taken pieces start last [] stands takes in
    let two = pieces_taken others other_start other_last [] stands' takes' in
    let there : StandsFor other_last (concat pieces) = rw joined two.1 in
    held_is_one (concat pieces) last other_last (one.0 ∙ same ∙ sym two.0) one.1 there
