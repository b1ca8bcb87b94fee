-- Labels of names.
use Rattle.std.specs.Prelude.{◌↔◌, ◌⊎◌, IsTrue, if◌then◌else◌, ◌==◌}
use Rattle.std.proofs.Common.{◌≡◌, ◌∙◌, ◌≢◌, ap, sym, subst, refl, ℕ, ◌≤◌, Bool, true, false, List, [], ◌∷◌, ◌++◌, map, length, arith, inl, inr, Some, None}
use Rattle.std.proofs.lemmas.Bool.{false≢true}
use Rattle.std.specs.List.{AllByRecursion}
use Rattle.std.specs.Char.{to_ascii_lowercase}
use Rattle.host_names.specs.Hosts.{lengthened, labels_of, is_name_octet, AreNameOctets, IsLabel, AreSame, IsStarred, MatchLabels, Matches}
use Rattle.host_names.specs.Names.{is_spelled, after_label, MatchBehind}

-- the first label is written further, the others are whole
abbrev pub IsOpen : List (List ℕ) → Type 0
IsOpen [] = ⊥
IsOpen (l ∷ ls) = AreNameOctets l × AllByRecursion IsLabel ls

pub lower_dot : (x : ℕ) → (to_ascii_lowercase x == 46) ≡ (x == 46)
lower_dot x = grind arith

lengthened_lower : (x : ℕ) (ls : List (List ℕ)) → lengthened (to_ascii_lowercase x) (map (map to_ascii_lowercase) ls) ≡ map (map to_ascii_lowercase) (lengthened x ls)
lengthened_lower x [] = refl
lengthened_lower x (l ∷ ls) = refl

lower_step : (b c : Bool) (x : ℕ) (xs : List ℕ) → c ≡ b → labels_of (map to_ascii_lowercase xs) ≡ map (map to_ascii_lowercase) (labels_of xs)
    → (if c then [] ∷ labels_of (map to_ascii_lowercase xs) else lengthened (to_ascii_lowercase x) (labels_of (map to_ascii_lowercase xs)))
    ≡ map (map to_ascii_lowercase) (if b then [] ∷ labels_of xs else lengthened x (labels_of xs))
lower_step true true x xs e ih = ap (λ ls. [] ∷ ls) ih
lower_step false false x xs e ih = ap (lengthened (to_ascii_lowercase x)) ih ∙ lengthened_lower x (labels_of xs)
lower_step true false x xs e ih = cc
lower_step false true x xs e ih = cc

pub labels_lower : (xs : List ℕ) → labels_of (map to_ascii_lowercase xs) ≡ map (map to_ascii_lowercase) (labels_of xs)
labels_lower [] = refl
labels_lower (x ∷ xs) = lower_step (x == 46) (to_ascii_lowercase x == 46) x xs (lower_dot x) (labels_lower xs)

-- labels with a dot between them
abbrev pub joined : List (List ℕ) → List ℕ
joined [] = []
joined (l ∷ []) = l
joined (l ∷ m ∷ ls) = l ++ 46 ∷ joined (m ∷ ls)

lengthened_some : (x : ℕ) (ls : List (List ℕ)) → lengthened x ls ≢ []
lengthened_some x [] = λ e. cc
lengthened_some x (l ∷ ls) = λ e. cc

some_step : (b : Bool) (x : ℕ) (ls : List (List ℕ)) → (if b then [] ∷ ls else lengthened x ls) ≢ []
some_step true x ls = λ e. cc
some_step false x ls = lengthened_some x ls

pub labels_some : (xs : List ℕ) → labels_of xs ≢ []
labels_some [] = λ e. cc
labels_some (x ∷ xs) = some_step (x == 46) x (labels_of xs)

joined_more : (x : ℕ) (ls : List (List ℕ)) → ls ≢ [] → joined (lengthened x ls) ≡ x ∷ joined ls
joined_more x [] n = absurd (n refl)
joined_more x (l ∷ []) n = refl
joined_more x (l ∷ m ∷ ls) n = refl

joined_empty : (ls : List (List ℕ)) → ls ≢ [] → joined ([] ∷ ls) ≡ 46 ∷ joined ls
joined_empty [] n = absurd (n refl)
joined_empty (l ∷ ls) n = refl

joined_step : (b : Bool) (x : ℕ) (ls : List (List ℕ)) (xs : List ℕ) → (x == 46) ≡ b → ls ≢ [] → joined ls ≡ xs
    → joined (if b then [] ∷ ls else lengthened x ls) ≡ x ∷ xs
joined_step true x ls xs e n ih = let d : 46 ≡ x = grind arith in joined_empty ls n ∙ ap (λ zs. 46 ∷ zs) ih ∙ ap (λ z. z ∷ xs) d
joined_step false x ls xs e n ih = joined_more x ls n ∙ ap (λ zs. x ∷ zs) ih

pub joined_labels : (xs : List ℕ) → joined (labels_of xs) ≡ xs
joined_labels [] = refl
joined_labels (x ∷ xs) = joined_step (x == 46) x (labels_of xs) xs refl (labels_some xs) (joined_labels xs)

-- equal labels are equal octets, letters without case
pub same_octets : (xs ys : List ℕ) → AreSame (labels_of xs) (labels_of ys) → map to_ascii_lowercase xs ≡ map to_ascii_lowercase ys
same_octets xs ys h =
    sym (joined_labels (map to_ascii_lowercase xs)) ∙ ap joined (labels_lower xs ∙ h ∙ sym (labels_lower ys)) ∙ joined_labels (map to_ascii_lowercase ys)

pub same_labels : (xs ys : List ℕ) → map to_ascii_lowercase xs ≡ map to_ascii_lowercase ys → AreSame (labels_of xs) (labels_of ys)
same_labels xs ys h = sym (labels_lower xs) ∙ ap labels_of h ∙ labels_lower ys

-- what `is_spelled` tells
open_more : (x : ℕ) (ls : List (List ℕ)) → IsTrue (is_name_octet x) → IsOpen ls → AllByRecursion IsLabel (lengthened x ls)
open_more x [] t h = absurd h
open_more x (l ∷ ls) t h = (record { some = λ e. cc; octets = (t, h.0) }, h.1)

open_less : (x : ℕ) (ls : List (List ℕ)) → ls ≢ [] → AllByRecursion IsLabel (lengthened x ls) → IsTrue (is_name_octet x) × IsOpen ls
open_less x [] n h = absurd (n refl)
open_less x (l ∷ ls) n h = (h.0.octets.0, (h.0.octets.1, h.1))

open_on : (x : ℕ) (ls : List (List ℕ)) → IsTrue (is_name_octet x) → IsOpen ls → IsOpen (lengthened x ls)
open_on x [] t h = absurd h
open_on x (l ∷ ls) t h = ((t, h.0), h.1)

open_back : (x : ℕ) (ls : List (List ℕ)) → ls ≢ [] → IsOpen (lengthened x ls) → IsTrue (is_name_octet x) × IsOpen ls
open_back x [] n h = absurd (n refl)
open_back x (l ∷ ls) n h = (h.0.0, (h.0.1, h.1))

abbrev pub TellsNames : List ℕ → Type 0
TellsNames xs = (IsTrue (is_spelled false xs) ↔ AllByRecursion IsLabel (labels_of xs)) × (IsTrue (is_spelled true xs) ↔ IsOpen (labels_of xs))

tells_octet : (b : Bool) (x : ℕ) (xs : List ℕ) → is_name_octet x ≡ b → TellsNames xs
    → (IsTrue (if b then is_spelled true xs else false) ↔ AllByRecursion IsLabel (lengthened x (labels_of xs))) × (IsTrue (if b then is_spelled true xs else false) ↔ IsOpen (lengthened x (labels_of xs)))
tells_octet true x xs e ih =
    let t : IsTrue (is_name_octet x) = e in (
      (λ h. open_more x (labels_of xs) t (ih.1.0 h), λ h. ih.1.1 (open_less x (labels_of xs) (labels_some xs) h).1),
      (λ h. open_on x (labels_of xs) t (ih.1.0 h), λ h. ih.1.1 (open_back x (labels_of xs) (labels_some xs) h).1),
    )
tells_octet false x xs e ih = (
  (λ h. absurd (false≢true h), λ h. let t : is_name_octet x ≡ true = (open_less x (labels_of xs) (labels_some xs) h).0 in absurd (false≢true (sym e ∙ t))),
  (λ h. absurd (false≢true h), λ h. let t : is_name_octet x ≡ true = (open_back x (labels_of xs) (labels_some xs) h).0 in absurd (false≢true (sym e ∙ t))),
)

tells_step : (b : Bool) (x : ℕ) (xs : List ℕ) → TellsNames xs
    → (IsTrue (if b then false else (if is_name_octet x then is_spelled true xs else false)) ↔ AllByRecursion IsLabel (if b then [] ∷ labels_of xs else lengthened x (labels_of xs)))
    × (IsTrue (if b then is_spelled false xs else (if is_name_octet x then is_spelled true xs else false)) ↔ IsOpen (if b then [] ∷ labels_of xs else lengthened x (labels_of xs)))
tells_step true x xs ih = (
  (λ h. absurd (false≢true h), λ h. absurd (h.0.some refl)),
  (λ h. (tt, ih.0.0 h), λ h. ih.0.1 h.1),
)
tells_step false x xs ih = tells_octet (is_name_octet x) x xs refl ih

pub tells_names : (xs : List ℕ) → TellsNames xs
tells_names [] = (
  (λ h. absurd (false≢true h), λ h. absurd (h.0.some refl)),
  (λ h. (tt, tt), λ h. refl),
)
tells_names (x ∷ xs) = tells_step (x == 46) x xs (tells_names xs)

-- labels of which the first is made of name's octets, and the others are those of the rest
pub record Begins (ls : List (List ℕ)) (rest : List ℕ) : Type 0 where
  pub label : List ℕ
  pub octets : AreNameOctets label
  pub labels : ls ≡ label ∷ labels_of rest

abbrev pub Finds : List ℕ → Type 0
Finds xs = ((rest : List ℕ) → after_label true xs ≡ Some rest → Begins (labels_of xs) rest) × ((rest : List ℕ) → after_label false xs ≡ Some rest → (b : Begins (labels_of xs) rest) × (b.label ≢ []))

begins_on : (x : ℕ) (ls : List (List ℕ)) (rest : List ℕ) → is_name_octet x ≡ true → Begins ls rest → (b : Begins (lengthened x ls) rest) × (b.label ≢ [])
begins_on x ls rest t b = (record { label = x ∷ b.label; octets = (t, b.octets); labels = ap (lengthened x) b.labels }, λ e. cc)

finds_octet : (b : Bool) (x : ℕ) (xs rest : List ℕ) → is_name_octet x ≡ b → Finds xs → (if b then after_label true xs else None) ≡ Some rest → (b : Begins (lengthened x (labels_of xs)) rest) × (b.label ≢ [])
finds_octet true x xs rest t ih e = begins_on x (labels_of xs) rest t (ih.0 rest e)
finds_octet false x xs rest t ih e = cc

finds_step : (b : Bool) (x : ℕ) (xs : List ℕ) → Finds xs
    → ((rest : List ℕ) → (if b then Some xs else (if is_name_octet x then after_label true xs else None)) ≡ Some rest → Begins (if b then [] ∷ labels_of xs else lengthened x (labels_of xs)) rest)
    × ((rest : List ℕ) → (if b then None else (if is_name_octet x then after_label true xs else None)) ≡ Some rest → (b' : Begins (if b then [] ∷ labels_of xs else lengthened x (labels_of xs)) rest) × (b'.label ≢ []))
finds_step true x xs ih = (
  λ rest e. let s : xs ≡ rest = cc in record { label = []; octets = tt; labels = ap (λ z. [] ∷ labels_of z) s },
  λ rest e. cc,
)
finds_step false x xs ih = (
  λ rest e. (finds_octet (is_name_octet x) x xs rest refl ih e).0,
  λ rest e. finds_octet (is_name_octet x) x xs rest refl ih e,
)

pub finds : (xs : List ℕ) → Finds xs
finds [] = (λ rest e. cc, λ rest e. cc)
finds (x ∷ xs) = finds_step (x == 46) x xs (finds xs)

-- and where it finds something
abbrev pub FindsAfter : Bool → List ℕ → List (List ℕ) → Type 0
FindsAfter begun xs hs = (rest : List ℕ) × (after_label begun xs ≡ Some rest) × (labels_of rest ≡ hs)

abbrev pub Found : List ℕ → Type 0
Found xs = (h : List ℕ) (hs : List (List ℕ)) → labels_of xs ≡ h ∷ hs → AreNameOctets h → hs ≢ [] → FindsAfter true xs hs × (h ≢ [] → FindsAfter false xs hs)

found_on : (x : ℕ) (xs : List ℕ) (ls : List (List ℕ)) (h : List ℕ) (hs : List (List ℕ)) → Found xs → labels_of xs ≡ ls → ls ≢ [] → lengthened x ls ≡ h ∷ hs → AreNameOctets h → hs ≢ []
    → (rest : List ℕ) × ((if is_name_octet x then after_label true xs else None) ≡ Some rest) × (labels_of rest ≡ hs)
found_on x xs [] h hs ih is n e t m = absurd (n refl)
found_on x xs (l ∷ ls) h hs ih is n e t m =
    let a : h ≡ x ∷ l = cc in
    let b : hs ≡ ls = cc in
    let o : AreNameOctets (x ∷ l) = subst AreNameOctets a t in
    let r = (ih l ls is o.1 (λ z. m (b ∙ z))).0 in
    (r.0, subst (λ b. (if b then after_label true xs else None) ≡ Some r.0) (sym o.0) r.1, r.2 ∙ sym b)

found_step : (b : Bool) (x : ℕ) (xs : List ℕ) → Found xs → (h : List ℕ) (hs : List (List ℕ)) → (if b then [] ∷ labels_of xs else lengthened x (labels_of xs)) ≡ h ∷ hs → AreNameOctets h → hs ≢ []
    → ((rest : List ℕ) × ((if b then Some xs else (if is_name_octet x then after_label true xs else None)) ≡ Some rest) × (labels_of rest ≡ hs))
    × (h ≢ [] → (rest : List ℕ) × ((if b then None else (if is_name_octet x then after_label true xs else None)) ≡ Some rest) × (labels_of rest ≡ hs))
found_step true x xs ih h hs e t m =
    let a : h ≡ [] = cc in
    let b : labels_of xs ≡ hs = cc in
    ((xs, refl, b), λ n. absurd (n a))
found_step false x xs ih h hs e t m =
    let r = found_on x xs (labels_of xs) h hs ih refl (labels_some xs) e t m in (r, λ n. r)

pub found : (xs : List ℕ) → Found xs
found [] = λ h hs e t m. let z : hs ≡ [] = cc in absurd (m z)
found (x ∷ xs) = λ h hs e t m. found_step (x == 46) x xs (found xs) h hs e t m

none_same : (ls : List (List ℕ)) → AreSame ls [] → ls ≡ []
none_same [] e = refl
none_same (l ∷ ls) e = cc

several : (ls : List (List ℕ)) → 2 ≤ length ls → (l m : List ℕ) × (ms : List (List ℕ)) × (ls ≡ l ∷ m ∷ ms)
several [] le = absurd (omega (arith, le))
several (l ∷ []) le = absurd (omega (arith, le))
several (l ∷ m ∷ ms) le = (l, m, ms, refl)

-- what is found when a star and a rest match a host
pub record IsBehind (rest host behind : List ℕ) : Type 0 where
  pub follows : after_label false host ≡ Some behind
  pub same : AreSame (labels_of rest) (labels_of behind)
  pub labels : AllByRecursion IsLabel (labels_of rest)
  pub second : (further : List ℕ) × (after_label false rest ≡ Some further)

behind_in : (rest host : List ℕ) (hs : List (List ℕ)) → labels_of host ≡ hs → MatchBehind (labels_of rest) hs → (behind : List ℕ) × IsBehind rest host behind
behind_in rest host [] is m = absurd m
behind_in rest host (h ∷ hs) is m =
    let n : hs ≢ [] = λ e. labels_some rest (none_same (labels_of rest) (subst (AreSame (labels_of rest)) e m.2.same)) in
    let f = (found host h hs is m.0.octets n).1 m.0.some in
    let s = several (labels_of rest) m.1 in
    let a : AllByRecursion IsLabel (s.0 ∷ s.1 ∷ s.2) = subst (AllByRecursion IsLabel) s.3 m.2.labels in
    let k : (s.1 ∷ s.2) ≢ [] = λ e. cc in
    let g = (found rest s.0 (s.1 ∷ s.2) s.3 a.0.octets k).1 a.0.some in
    (f.0, record { follows = f.1; same = subst (AreSame (labels_of rest)) (sym f.2) m.2.same; labels = m.2.labels; second = (g.0, g.1) })

pub behind_to : (rest host : List ℕ) → MatchBehind (labels_of rest) (labels_of host) → (behind : List ℕ) × IsBehind rest host behind
behind_to rest host m = behind_in rest host (labels_of host) refl m

long : (l : List ℕ) (ls : List (List ℕ)) → ls ≢ [] → 2 ≤ length (l ∷ ls)
long l [] n = absurd (n refl)
long l (m ∷ ms) n = omega arith

pub behind_from : (rest host behind : List ℕ) → IsBehind rest host behind → MatchBehind (labels_of rest) (labels_of host)
behind_from rest host behind b =
    let f = (finds host).1 behind b.follows in
    let g = (finds rest).1 b.second.0 b.second.1 in
    let size : 2 ≤ length (labels_of rest) = subst (λ ls. 2 ≤ length ls) (sym g.0.labels) (long g.0.label (labels_of b.second.0) (labels_some b.second.0)) in
    subst (MatchBehind (labels_of rest)) (sym f.0.labels) (record { some = f.1; octets = f.0.octets }, size, record { labels = b.labels; same = b.same })

-- a name that is written out
spelled_list : (ls hs : List (List ℕ)) → ls ≢ [] → AreSame ls hs → AllByRecursion IsLabel ls → MatchLabels ls hs
spelled_list [] hs n s a = absurd (n refl)
spelled_list (l ∷ ls) [] n s a = cc
spelled_list (l ∷ ls) (h ∷ hs) n s a = inl (record { labels = a; same = s })

pub matches_spelled : (presented host : List ℕ) → AreSame (labels_of presented) (labels_of host) → AllByRecursion IsLabel (labels_of presented) → Matches presented host
matches_spelled presented host s a = spelled_list (labels_of presented) (labels_of host) (labels_some presented) s a

star_list : (ls hs : List (List ℕ)) → MatchBehind ls hs → MatchLabels ((42 ∷ []) ∷ ls) hs
star_list ls [] m = absurd m
star_list ls (h ∷ hs) m = inr (record { star = refl; stands_for = m.0; behind = m.1; spelled_out = m.2 })

pub matches_star : (presented host rest : List ℕ) → presented ≡ 42 ∷ 46 ∷ rest → MatchBehind (labels_of rest) (labels_of host) → Matches presented host
matches_star presented host rest e m = subst (λ p. Matches p host) (sym e) (star_list (labels_of rest) (labels_of host) m)

abbrev pub IsMatched : List ℕ → List (List ℕ) → Type 0
IsMatched presented hs = (AreSame (labels_of presented) hs × AllByRecursion IsLabel (labels_of presented)) ⊎ ((rest : List ℕ) × (presented ≡ 42 ∷ 46 ∷ rest) × MatchBehind (labels_of rest) hs)

tail : List (List ℕ) → List (List ℕ)
tail [] = []
tail (l ∷ ls) = ls

starred : (presented l : List ℕ) (ls : List (List ℕ)) (h : List ℕ) (hs : List (List ℕ)) → labels_of presented ≡ l ∷ ls → IsStarred l ls h hs → IsMatched presented (h ∷ hs)
unfolding tail
starred presented l ls h hs is s =
    let v = several ls s.behind in
    let whole : labels_of presented ≡ (42 ∷ []) ∷ v.0 ∷ v.1 ∷ v.2 = is ∙ ap (λ z. z ∷ ls) s.star ∙ ap (λ z. (42 ∷ []) ∷ z) v.3 in
    let text : presented ≡ 42 ∷ 46 ∷ joined (v.0 ∷ v.1 ∷ v.2) = sym (joined_labels presented) ∙ ap joined whole in
    let again : (42 ∷ []) ∷ labels_of (joined (v.0 ∷ v.1 ∷ v.2)) ≡ (42 ∷ []) ∷ v.0 ∷ v.1 ∷ v.2 = sym (ap labels_of text) ∙ whole in
    let same : labels_of (joined (v.0 ∷ v.1 ∷ v.2)) ≡ ls = ap tail again ∙ sym v.3 in
    inr (joined (v.0 ∷ v.1 ∷ v.2), text, subst (λ z. MatchBehind z (h ∷ hs)) (sym same) (s.stands_for, s.behind, s.spelled_out))

matched_in : (presented : List ℕ) (ls hs : List (List ℕ)) → labels_of presented ≡ ls → MatchLabels ls hs → IsMatched presented hs
matched_in presented [] hs is m = absurd m
matched_in presented (l ∷ ls) [] is m = absurd m
matched_in presented (l ∷ ls) (h ∷ hs) is m = elim m [
  | inl s ↦ inl (subst (λ z. AreSame z (h ∷ hs)) (sym is) s.same, subst (AllByRecursion IsLabel) (sym is) s.labels)
  | inr s ↦ starred presented l ls h hs is s
]

pub matched : (presented host : List ℕ) → Matches presented host → IsMatched presented (labels_of host)
matched presented host m = matched_in presented (labels_of presented) (labels_of host) refl m
