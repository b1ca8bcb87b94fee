-- No reason applies to exactly the names of hosts.
use Rattle.std.specs.Prelude.{◌↔◌, IsTrue, if◌then◌else◌, ◌==◌, ◌||◌, ◌&&◌, not, nat_lt}
use Rattle.std.proofs.Common.{◌≡◌, ◌≢◌, ◌∙◌, ap, sym, refl, ℕ, Bool, true, false, List, [], ◌∷◌, ◌++◌, length, arith, Option, Some, None}
use Rattle.std.specs.List.{AllByRecursion, list_any}
use Rattle.std.proofs.lemmas.Bool.{false≢true, eqb-true, ltb-false, le-ltb}
use Rattle.host_names.specs.declared.refusal.Refusal.{Refusal}
use Rattle.host_names.specs.declared.refusal.Refusal.TheVariants.{Empty, Url, EmailAddress, Wildcard, Zone, Port, NoAddress, NotAscii, Character, LongName, EmptyLabel, LongLabel, Hyphen, Number}
use Rattle.host_names.specs.declared.labels.Fault.{Fault}
use Rattle.host_names.specs.declared.labels.Fault.TheVariants.{NoOctet, TooLong, HyphenAtEnd}
use Rattle.host_names.specs.Hosts.{lengthened, labels_of, is_name_octet, AreNameOctets}
use Rattle.host_names.specs.HostNames.{has, last_part, is_number, IsHostLabel, IsHostName}
use Rattle.host_names.specs.Refusals.{has_port, is_far, is_strange, ends_in, begins_with, has_fault, some_label, refusal_of}
use Rattle.host_names.proofs.EndFacts.{ends_so, closed}
use Rattle.host_names.proofs.LabelFacts.{labels_some}

-- the first of some reasons does not apply, and what is left
if_none : (b : Bool) (reason : Refusal) (o : Option Refusal) → (if b then Some reason else o) ≡ None → (b ≡ false) × (o ≡ None)
if_none true reason o e = absurd (let k : Some reason ≡ None = e in cc)
if_none false reason o e = (refl, e)

none_if : (b : Bool) (reason : Refusal) (o : Option Refusal) → b ≡ false → o ≡ None → (if b then Some reason else o) ≡ None
none_if true reason o e f = absurd (false≢true (sym e))
none_if false reason o e f = f

neither : (a b : Bool) → (a || b) ≡ false → (a ≡ false) × (b ≡ false)
neither true b e = absurd (false≢true (sym e))
neither false b e = (refl, e)

both_false : (a b : Bool) → a ≡ false → b ≡ false → (a || b) ≡ false
both_false true b e f = e
both_false false b e f = f

first_false : (a b : Bool) → a ≡ false → (a && b) ≡ false
first_false true b e = absurd (false≢true (sym e))
first_false false b e = refl

-- ---- what the octets tell

ordinary : (n b : Bool) → not (n || b) ≡ false → b ≡ false → n ≡ true
ordinary true b e f = refl
ordinary false true e f = absurd (false≢true (sym f))
ordinary false false e f = absurd (false≢true (sym e))

lengthened_octets : (x : ℕ) (ls : List (List ℕ)) → IsTrue (is_name_octet x) → AllByRecursion AreNameOctets ls → AllByRecursion AreNameOctets (lengthened x ls)
lengthened_octets x [] t h = ((t, tt), tt)
lengthened_octets x (l ∷ ls) t h = ((t, h.0), h.1)

octets_step : (b : Bool) (x : ℕ) (ls : List (List ℕ)) → not (is_name_octet x || b) ≡ false → AllByRecursion AreNameOctets ls → AllByRecursion AreNameOctets (if b then [] ∷ ls else lengthened x ls)
octets_step true x ls e h = (tt, h)
octets_step false x ls e h = lengthened_octets x ls (ordinary (is_name_octet x) false e refl) h

octets_of_labels : (xs : List ℕ) → list_any is_strange xs ≡ false → AllByRecursion AreNameOctets (labels_of xs)
octets_of_labels [] e = (tt, tt)
octets_of_labels (x ∷ xs) e =
    let n = neither (is_strange x) (list_any is_strange xs) e in
    octets_step (x == 46) x (labels_of xs) n.0 (octets_of_labels xs n.1)

lengthened_back : (x : ℕ) (ls : List (List ℕ)) → ls ≢ [] → AllByRecursion AreNameOctets (lengthened x ls) → IsTrue (is_name_octet x) × AllByRecursion AreNameOctets ls
lengthened_back x [] n h = absurd (n refl)
lengthened_back x (l ∷ ls) n h = (h.0.0, (h.0.1, h.1))

not_strange : (n b : Bool) → n ≡ true → not (n || b) ≡ false
not_strange true b e = refl
not_strange false b e = absurd (false≢true e)

dot_not_strange : (n : Bool) → not (n || true) ≡ false
dot_not_strange true = refl
dot_not_strange false = refl

strange_step : (b : Bool) (x : ℕ) (xs : List ℕ) → AllByRecursion AreNameOctets (if b then [] ∷ labels_of xs else lengthened x (labels_of xs)) → (not (is_name_octet x || b) ≡ false) × AllByRecursion AreNameOctets (labels_of xs)
strange_step true x xs h = (dot_not_strange (is_name_octet x), h.1)
strange_step false x xs h =
    let k = lengthened_back x (labels_of xs) (labels_some xs) h in
    (not_strange (is_name_octet x) false k.0, k.1)

none_strange : (xs : List ℕ) → AllByRecursion AreNameOctets (labels_of xs) → list_any is_strange xs ≡ false
none_strange [] h = refl
none_strange (x ∷ xs) h =
    let k = strange_step (x == 46) x xs h in
    both_false (is_strange x) (list_any is_strange xs) k.0 (none_strange xs k.1)

-- a test that only strange octets pass
fewer : (p : ℕ → Bool) → ((x : ℕ) → p x ≡ true → is_strange x ≡ true) → (xs : List ℕ) → list_any is_strange xs ≡ false → list_any p xs ≡ false
fewer p f [] e = refl
fewer p f (x ∷ xs) e =
    let n = neither (is_strange x) (list_any is_strange xs) e in
    both_false (p x) (list_any p xs) (passed (p x) (is_strange x) (f x) n.0) (fewer p f xs n.1)
  where
    passed : (a b : Bool) → (a ≡ true → b ≡ true) → b ≡ false → a ≡ false
    passed true b g e = sym (g refl) ∙ e
    passed false b g e = refl

has_none : (octet : ℕ) → is_strange octet ≡ true → (xs : List ℕ) → list_any is_strange xs ≡ false → has octet xs ≡ false
has_none octet s = fewer (λ x. x == octet) (λ x e. ap is_strange (eqb-true x octet e) ∙ s)

far_is_strange : (x : ℕ) → is_far x ≡ true → is_strange x ≡ true
far_is_strange x e = grind arith

-- ---- what the labels tell

is_nothing : (l : List ℕ) → (length l == 0) ≡ false → l ≢ []
is_nothing l e n = false≢true (sym e ∙ ap (λ z. length z == 0) n)

label_from : (l : List ℕ) → has_fault NoOctet l ≡ false → has_fault TooLong l ≡ false → has_fault HyphenAtEnd l ≡ false → AreNameOctets l → IsHostLabel l
label_from l some short hyphen octets =
    let h = neither (begins_with 45 l) (ends_in 45 l) hyphen in record {
      some = is_nothing l some;
      short = ltb-false 63 (length l) short;
      octets = octets;
      first = λ rest e. false≢true (sym h.0 ∙ ap (begins_with 45) e);
      last = λ front e. false≢true (sym h.1 ∙ ap (ends_in 45) e ∙ ends_so 45 front);
    }

labels_from : (ls : List (List ℕ)) → list_any (has_fault NoOctet) ls ≡ false → list_any (has_fault TooLong) ls ≡ false → list_any (has_fault HyphenAtEnd) ls ≡ false → AllByRecursion AreNameOctets ls → AllByRecursion IsHostLabel ls
labels_from [] a b c h = tt
labels_from (l ∷ ls) a b c h =
    let d = neither (has_fault NoOctet l) (list_any (has_fault NoOctet) ls) a in
    let e = neither (has_fault TooLong l) (list_any (has_fault TooLong) ls) b in
    let f = neither (has_fault HyphenAtEnd l) (list_any (has_fault HyphenAtEnd) ls) c in
    (label_from l d.0 e.0 f.0 h.0, labels_from ls d.1 e.1 f.1 h.1)

octets_from : (ls : List (List ℕ)) → AllByRecursion IsHostLabel ls → AllByRecursion AreNameOctets ls
octets_from [] h = tt
octets_from (l ∷ ls) h = (h.0.octets, octets_from ls h.1)

refuted : (b : Bool) → (b ≡ true → ⊥) → b ≡ false
refuted true f = absurd (f refl)
refuted false f = refl

is_some : (l : List ℕ) → l ≢ [] → (length l == 0) ≡ false
is_some [] n = absurd (n refl)
is_some (x ∷ xs) n = refuted (length (x ∷ xs) == 0) (λ e. let z : length (x ∷ xs) ≡ 0 = eqb-true (length (x ∷ xs)) 0 e in omega arith)

no_first : (l : List ℕ) → ((rest : List ℕ) → l ≢ 45 ∷ rest) → begins_with 45 l ≡ false
no_first [] n = refl
no_first (x ∷ xs) n = refuted (x == 45) (λ e. n xs (ap (λ z. z ∷ xs) (eqb-true x 45 e)))

no_last : (l : List ℕ) (b : Bool) → ends_in 45 l ≡ b → ((front : List ℕ) → l ≢ front ++ 45 ∷ []) → b ≡ false
no_last l true e n = absurd (n _ (closed 45 l e))
no_last l false e n = refl

faultless : (fault : Fault) (l : List ℕ) → IsHostLabel l → has_fault fault l ≡ false
faultless NoOctet l h = is_some l h.some
faultless TooLong l h = le-ltb 63 (length l) h.short
faultless HyphenAtEnd l h = both_false (begins_with 45 l) (ends_in 45 l) (no_first l h.first) (no_last l (ends_in 45 l) refl h.last)

all_faultless : (fault : Fault) (ls : List (List ℕ)) → AllByRecursion IsHostLabel ls → list_any (has_fault fault) ls ≡ false
all_faultless fault [] h = refl
all_faultless fault (l ∷ ls) h = both_false (has_fault fault l) (list_any (has_fault fault) ls) (faultless fault l h.0) (all_faultless fault ls h.1)

-- ---- together

pub name_from : (host : List ℕ) → refusal_of host ≡ None → IsHostName host
name_from host e =
    let a = if_none (length host == 0) Empty _ e in
    let b = if_none (has 47 host) Url _ a.1 in
    let c = if_none (has 64 host) EmailAddress _ b.1 in
    let d = if_none (has 42 host) Wildcard _ c.1 in
    let f = if_none (has 58 host && has 37 host) Zone _ d.1 in
    let g = if_none (has_port host) Port _ f.1 in
    let h = if_none (has 58 host || (has 91 host || has 93 host)) NoAddress _ g.1 in
    let i = if_none (list_any is_far host) NotAscii _ h.1 in
    let j = if_none (list_any is_strange host) Character _ i.1 in
    let k = if_none (nat_lt 253 (length host)) LongName _ j.1 in
    let l = if_none (some_label NoOctet host) EmptyLabel _ k.1 in
    let m = if_none (some_label TooLong host) LongLabel _ l.1 in
    let n = if_none (some_label HyphenAtEnd host) Hyphen _ m.1 in
    let o = if_none (is_number (last_part 46 host)) Number _ n.1 in
    record {
      short = ltb-false 253 (length host) k.0;
      labels = labels_from (labels_of host) l.0 m.0 n.0 (octets_of_labels host j.0);
      no_number = o.0;
    }

some_name : (host : List ℕ) → AllByRecursion IsHostLabel (labels_of host) → host ≢ []
some_name [] h n = h.0.some refl
some_name (x ∷ xs) h n = cc

none_from : (host : List ℕ) → IsHostName host → refusal_of host ≡ None
none_from host h =
    let s = none_strange host (octets_from (labels_of host) h.labels) in
    let colon = has_none 58 refl host s in
    none_if (length host == 0) Empty _ (is_some host (some_name host h.labels))
    (none_if (has 47 host) Url _ (has_none 47 refl host s)
    (none_if (has 64 host) EmailAddress _ (has_none 64 refl host s)
    (none_if (has 42 host) Wildcard _ (has_none 42 refl host s)
    (none_if (has 58 host && has 37 host) Zone _ (first_false (has 58 host) (has 37 host) colon)
    (none_if (has_port host) Port _ (first_false (has 58 host) _ colon)
    (none_if (has 58 host || (has 91 host || has 93 host)) NoAddress _ (both_false (has 58 host) (has 91 host || has 93 host) colon (both_false (has 91 host) (has 93 host) (has_none 91 refl host s) (has_none 93 refl host s)))
    (none_if (list_any is_far host) NotAscii _ (fewer is_far far_is_strange host s)
    (none_if (list_any is_strange host) Character _ s
    (none_if (nat_lt 253 (length host)) LongName _ (le-ltb 253 (length host) h.short)
    (none_if (some_label NoOctet host) EmptyLabel _ (all_faultless NoOctet (labels_of host) h.labels)
    (none_if (some_label TooLong host) LongLabel _ (all_faultless TooLong (labels_of host) h.labels)
    (none_if (some_label HyphenAtEnd host) Hyphen _ (all_faultless HyphenAtEnd (labels_of host) h.labels)
    (none_if (is_number (last_part 46 host)) Number _ h.no_number refl)))))))))))))

pub no_reason : (host : List ℕ) → (refusal_of host ≡ None) ↔ IsHostName host
no_reason host = (name_from host, none_from host)
