-- The steps of a list that a certificate hasn't: its version, entries.
use Rattle.std.proofs.Common.{◌≡◌, ◌∙◌, refl, sym, ap, ℕ, ◌==◌, ◌&&◌, nat_lt, Bool, true, false, if◌then◌else◌, List, [], ◌∷◌, length, Option, Some, None, Ok, Err, option_and_then, subst, arith}
use Rattle.std.proofs.lemmas.Bool.{lt-ltb}
use Rattle.std.proofs.lemmas.Option.{option_and_then_some}
use Rattle.der_tree.specs.Table.{integer}
use Rattle.der_tree.specs.Tree.{Tree, Trees, none, more}
use Rattle.der_tree.specs.Access.{sequence_at, first_at, plain_at}
use Rattle.cert_model.specs.Fields.{CivilTime, Extension, Entry}
use Rattle.cert_model.specs.Reads.{next_at, number_at, list_at, extension_at, extensions_at}
use Rattle.cert_model.specs.Times.{time_at}
use Rattle.cert_model.specs.Pieces.{last_extensions_at, entry_at, list_version_at, some_entries_at, behind_entries}
use Rattle.cert_model.specs.Pieces as pieces
use Rattle.cert_model.specs.Assembly.{is_there, is_some, implies, is_version_two, entries_fit}
use Rattle.cert_model.proofs.Cases.{chosen}
use Rattle.cert_faults.specs.declared.places.Field.TheVariants as fields
use Rattle.cert_faults.specs.declared.places.Expected.{Expected}
use Rattle.cert_faults.specs.declared.places.Expected.TheVariants as wants
use Rattle.cert_faults.specs.declared.steps.Place.{Place}
use Rattle.cert_faults.specs.declared.steps.Blame.{Blame}
use Rattle.cert_faults.specs.Steps.{Outcome, ◌>>=◌, unlike, whole, inside, left_after, Rest, test, parts_or, first_or, next_or, each_in}
use Rattle.cert_faults.specs.Walks.{number_fault, time_fault, extensions_fault, entry_extensions_in, entry_fault}
use Rattle.cert_faults.specs.Items.{list_version_of, list_version_in, entries_of, entries_in}
use Rattle.cert_faults.proofs.Agreeing.{Agrees, no_fault, is_read, next_agrees, each_agrees}
use Rattle.cert_faults.proofs.PartLaws.{number_agrees, time_agrees, extensions_agree}
use Rattle.cert_faults.proofs.Opening.{the_ok, outcome_then, first_read}

-- an entry that fits the version

abbrev pub fit : Bool → Entry → Option Entry
fit later e = if implies (is_some e.extensions) later then Some e else None

abbrev pub fitting : Option ℕ → Tree → Option Entry
fitting version t = option_and_then (fit (is_version_two version)) (entry_at t)

implied : (b : Bool) → implies b true ≡ true
implied true = refl
implied false = refl

long_is_some : (es : List Extension) → nat_lt 0 (length es) ≡ true → is_some es ≡ true
long_is_some [] e = absurd cc
long_is_some (x ∷ xs) e = refl

extensions_are_some : (t : Tree) (es : List Extension) → extensions_at t ≡ Some es → is_some es ≡ true
unfolding extensions_at
extensions_are_some t es e =
    option_and_then_some _ (sequence_at t) es e (λ ts e0 r0.
    option_and_then_some _ (list_at extension_at ts) es r0 (λ fs e1 r1.
    let c = chosen (nat_lt 0 (length fs)) fs es r1 in
    long_is_some es (subst (λ (z : List Extension). nat_lt 0 (length z) ≡ true) c.1 c.0)))

last_by : (serial : List ℕ) (date : CivilTime) (b : Blame) (later : Bool) (x : Outcome (Unit {0})) (o : Option (List Extension)) → Agrees x o → ((es : List Extension) → o ≡ Some es → is_some es ≡ true) →
    Agrees {A = Unit {0}} {C = Entry} (test b later >>= (λ ok. x >>= (λ over. Ok tt))) (option_and_then (fit later) (option_and_then (λ es. Some (record { serial = serial; date = date; extensions = es })) o))
last_by serial date b true (Ok u) (Some es) p q = rw (implied (is_some es)) (let u : Unit {0} = tt in u)
last_by serial date b false (Ok u) (Some es) p q = rw (q es refl) (let u : Unit {0} = tt in u)
last_by serial date b later (Ok u) None p q = absurd p
last_by serial date b later (Err c) (Some es) p q = absurd p
last_by serial date b true (Err c) None p q = tt
last_by serial date b false (Err c) None p q = tt

ends_in_fault : (b c : Blame) (later : Bool) (x : Outcome (Unit {0})) → Agrees {A = Unit {0}} {C = Entry} (test b later >>= (λ ok. x >>= (λ over. Err c))) None
ends_in_fault b c true (Ok u) = tt
ends_in_fault b c true (Err d) = tt
ends_in_fault b c false x = tt

entry_last : (version : Option ℕ) (serial : List ℕ) (date : CivilTime) (n : ℕ) (ts : Trees) →
    Agrees (entry_extensions_in version n ts) (option_and_then (fit (is_version_two version)) (option_and_then (λ es. Some (record { serial = serial; date = date; extensions = es })) (last_extensions_at ts)))
entry_last version serial date n none = tt
entry_last version serial date n (more t none) =
    last_by serial date (unlike (whole fields.EntryExtensions) wants.LaterVersion n) (is_version_two version) (extensions_fault fields.EntryExtensions n t) (extensions_at t) (extensions_agree fields.EntryExtensions n t) (extensions_are_some t)
entry_last version serial date n (more t (more u us)) =
    ends_in_fault (unlike (whole fields.EntryExtensions) wants.LaterVersion n) (unlike (whole fields.Entry) wants.NothingMore (left_after n t)) (is_version_two version) (extensions_fault fields.EntryExtensions n t)

-- steps, and a test of what is read at the end

then_parts : {B C D : Type 0} (b : Blame) (n : ℕ) (o : Option Trees) (f : Rest → Outcome B) (g : Trees → Option C) (k : C → Option D) → ((ts : Trees) → Agrees (f (ts, n)) (option_and_then k (g ts))) →
    Agrees (parts_or b n o >>= f) (option_and_then k (option_and_then g o))
then_parts b n (Some ts) f g k h = h ts
then_parts b n None f g k h = tt

twice : {A C D : Type 0} (o : Option A) (g : A → Option C) (k : C → Option D) → option_and_then (λ a. option_and_then k (g a)) o ≡ option_and_then k (option_and_then g o)
twice None g k = refl
twice (Some a) g k = refl

then_next : {A B C D : Type 0} (fault : ℕ → Tree → Outcome (Unit {0})) (read : Tree → Option A) → ((n : ℕ) (t : Tree) → Agrees (fault n t) (read t)) → (place : Place) (expected : Expected) (n : ℕ) (ts : Trees)
    (f : Rest → Outcome B) (g : A × Trees → Option C) (k : C → Option D) → ((s : Rest) (a : A) → Agrees (f s) (option_and_then k (g (a, s.0)))) →
    Agrees (next_or fault place expected (ts, n) >>= f) (option_and_then k (option_and_then g (next_at read ts)))
then_next fault read laws place expected n ts f g k h =
    subst (λ o. Agrees (next_or fault place expected (ts, n) >>= f) o) (twice (next_at read ts) g k) (next_agrees fault read laws place expected n ts f (λ m. option_and_then k (g m)) h)

pub entry_agrees : (version : Option ℕ) (n : ℕ) (t : Tree) → Agrees (entry_fault version n t) (fitting version t)
unfolding entry_fault entry_at
entry_agrees version n t =
    then_parts _ (inside n t) (sequence_at t) _ _ (fit (is_version_two version)) (λ ts.
    then_next (number_fault (whole fields.UserCertificate)) number_at (number_agrees (whole fields.UserCertificate)) (whole fields.UserCertificate) wants.NumberFromZero (inside n t) ts _ _ (fit (is_version_two version)) (λ s a.
    then_next (time_fault (whole fields.RevocationDate)) time_at (time_agrees (whole fields.RevocationDate)) (whole fields.RevocationDate) wants.Time s.1 s.0 _ _ (fit (is_version_two version)) (λ r d.
    entry_last version a d r.1 r.0)))

-- entries that all fit

abbrev fit_all : Option ℕ → Option (List Entry) → Option (List Entry)
fit_all version o = option_and_then (λ (es : List Entry). if entries_fit version es then Some es else None) o

both_fit : (c d : Bool) (e : Entry) (es : List Entry) →
    option_and_then (λ (a : Entry). option_and_then (λ (rest : List Entry). Some (a ∷ rest)) (if d then Some es else None)) (if c then Some e else None) ≡ (if c && d then Some (e ∷ es) else None)
both_fit true true e es = refl
both_fit true false e es = refl
both_fit false d e es = refl

one_fits : (c : Bool) (e : Entry) → option_and_then (λ (a : Entry). option_and_then (λ (rest : List Entry). Some (a ∷ rest)) None) (if c then Some e else None) ≡ None
one_fits true e = refl
one_fits false e = refl

fit_step : (version : Option ℕ) (o : Option Entry) (x : Option (List Entry)) →
    option_and_then (λ (a : Entry). option_and_then (λ (rest : List Entry). Some (a ∷ rest)) (fit_all version x)) (option_and_then (fit (is_version_two version)) o)
    ≡ fit_all version (option_and_then (λ (a : Entry). option_and_then (λ (rest : List Entry). Some (a ∷ rest)) x) o)
fit_step version None x = refl
fit_step version (Some e) None = one_fits (implies (is_some e.extensions) (is_version_two version)) e
fit_step version (Some e) (Some es) = both_fit (implies (is_some e.extensions) (is_version_two version)) (entries_fit version es) e es

fitting_all : (version : Option ℕ) (ts : Trees) → list_at (fitting version) ts ≡ fit_all version (list_at entry_at ts)
fitting_all version none = refl
fitting_all version (more t ts) =
    ap (λ z. option_and_then (λ (a : Entry). option_and_then (λ (rest : List Entry). Some (a ∷ rest)) z) (fitting version t)) (fitting_all version ts)
    ∙ fit_step version (entry_at t) (list_at entry_at ts)

fit_read : (version : Option ℕ) (o : Option (List Entry)) (es : List Entry) → fit_all version o ≡ Some es → (o ≡ Some es) × (entries_fit version es ≡ true)
fit_read version None es e = absurd cc
fit_read version (Some fs) es e =
    let c = chosen (entries_fit version fs) fs es e in
    (ap Some c.1, subst (λ z. entries_fit version z ≡ true) c.1 c.0)

list_long : (t : Tree) (ts : Trees) (es : List Entry) → list_at entry_at (more t ts) ≡ Some es → nat_lt 0 (length es) ≡ true
list_long t ts es e =
    option_and_then_some _ (entry_at t) es e (λ a e0 r0.
    option_and_then_some _ (list_at entry_at ts) es r0 (λ bs e1 r1.
    let same : ◌≡◌ {A = List Entry} (a ∷ bs) es = cc in
    subst (λ (z : List Entry). nat_lt 0 (length z) ≡ true) same (lt-ltb 0 (length (a ∷ bs)) (omega arith))))

entries_by : (version : Option ℕ) (n : ℕ) (t : Tree) (ts : Trees) (o : Option Trees) (s : Rest) → entries_of o version n t ts ≡ Ok s →
    (es : List Entry) × (pieces.entries_in_of o ≡ Some es) × (s.0 ≡ pieces.behind_of o t ts) × (entries_fit version es ≡ true)
unfolding some_entries_at
entries_by version n t ts None s e = ([], refl, ap (λ (z : Rest). z.0) (sym (the_ok (more t ts, n) s e)), refl)
entries_by version n t ts (Some parts) s e =
    outcome_then (first_or (whole fields.RevokedCertificates) wants.OneEntry (parts, inside n t)) _ s e (λ first e0 r0.
    outcome_then (each_in (entry_fault version) (inside n t) parts) _ s r0 (λ ok e1 r1.
    let m = first_read (whole fields.RevokedCertificates) wants.OneEntry (inside n t) parts first e0 in
    let listed = is_read (each_in (entry_fault version) (inside n t) parts) (list_at (fitting version) parts) ok (each_agrees (entry_fault version) (fitting version) (entry_agrees version) (inside n t) parts) e1 in
    let all = fit_read version (list_at entry_at parts) listed.0 (sym (fitting_all version parts) ∙ listed.1) in
    let long = list_long first.0 first.1.0 listed.0 (subst (λ z. list_at entry_at z ≡ Some listed.0) m.1 all.0) in
    (listed.0, rw (all.0, long) refl, ap (λ (z : Rest). z.0) (sym (the_ok (ts, left_after n t) s r1)), all.1)))

pub entries_read : (version : Option ℕ) (n : ℕ) (ts : Trees) (s : Rest) → entries_in version n ts ≡ Ok s →
    (es : List Entry) × (pieces.entries_in ts ≡ Some es) × (s.0 ≡ behind_entries ts) × (entries_fit version es ≡ true)
unfolding pieces.entries_in behind_entries
entries_read version n none s e = ([], refl, ap (λ (z : Rest). z.0) (sym (the_ok (none, n) s e)), refl)
entries_read version n (more t ts) s e = entries_by version n t ts (sequence_at t) s e

some_first : (version : Option ℕ) (n : ℕ) (parts : Trees) (es : List Entry) (z : Rest) → list_at entry_at parts ≡ Some es → nat_lt 0 (length es) ≡ true → entries_fit version es ≡ true →
    (first_or (whole fields.RevokedCertificates) wants.OneEntry (parts, n) >>= (λ first. each_in (entry_fault version) n parts >>= (λ ok. Ok z))) ≡ Ok z
some_first version n none es z e long fits =
    let same : ◌≡◌ {A = List Entry} [] es = cc in
    let short = subst (λ (y : List Entry). nat_lt 0 (length y) ≡ true) (sym same) long in
    absurd cc
some_first version n (more t ts) es z e long fits =
    let listed : list_at (fitting version) (more t ts) ≡ Some es = fitting_all version (more t ts) ∙ rw (e, fits) refl in
    let ok = no_fault (each_in (entry_fault version) n (more t ts)) (list_at (fitting version) (more t ts)) es (each_agrees (entry_fault version) (fitting version) (entry_agrees version) n (more t ts)) listed in
    rw ok.1 refl

entries_ok_by : (version : Option ℕ) (n : ℕ) (t : Tree) (ts : Trees) (o : Option Trees) (es : List Entry) → pieces.entries_in_of o ≡ Some es → entries_fit version es ≡ true →
    (s : Rest) × (entries_of o version n t ts ≡ Ok s) × (s.0 ≡ pieces.behind_of o t ts)
unfolding some_entries_at
entries_ok_by version n t ts None es e fits = ((more t ts, n), refl, refl)
entries_ok_by version n t ts (Some parts) es e fits =
    option_and_then_some _ (list_at entry_at parts) es e (λ fs e0 r0.
    let c = chosen (nat_lt 0 (length fs)) fs es r0 in
    let z : Rest = (ts, left_after n t) in
    (z, some_first version (inside n t) parts fs z e0 c.0 (subst (λ y. entries_fit version y ≡ true) (sym c.1) fits), refl))

pub entries_ok : (version : Option ℕ) (n : ℕ) (ts : Trees) (es : List Entry) → pieces.entries_in ts ≡ Some es → entries_fit version es ≡ true →
    (s : Rest) × (entries_in version n ts ≡ Ok s) × (s.0 ≡ behind_entries ts)
unfolding pieces.entries_in behind_entries
entries_ok version n none es e fits = ((none, n), refl, refl)
entries_ok version n (more t ts) es e fits = entries_ok_by version n t ts (sequence_at t) es e fits

-- the version

version_by : (b : Bool) (version n : ℕ) (e : Blame) (rest : Rest) (p : Option ℕ × Rest) → ◌≡◌ {A = Outcome (Option ℕ × Rest)} (if b then Ok (Some version, rest) else Err e) (Ok p) →
    (let found : Option (Option ℕ × Trees) = Some (Some version, rest.0) in if b then found else None) ≡ Some (p.0, p.1.0)
version_by true version n e rest p q = ap (λ (z : Option ℕ × Rest). Some (z.0, z.1.0)) (the_ok (Some version, rest) p q)
version_by false version n e rest p q = absurd cc

version_of_read : (o : Option (List ℕ)) (n : ℕ) (t : Tree) (ts : Trees) (p : Option ℕ × Rest) → list_version_of o n t ts ≡ Ok p → pieces.list_version_of o t ts ≡ Some (p.0, p.1.0)
version_of_read None n t ts p e = ap (λ (z : Option ℕ × Rest). Some (z.0, z.1.0)) (the_ok (None, (more t ts, n)) p e)
version_of_read (Some []) n t ts p e = absurd cc
version_of_read (Some (version ∷ [])) n t ts p e = version_by (version == 1) version n (unlike (whole fields.ListVersion) wants.VersionTwo n) (ts, left_after n t) p e
version_of_read (Some (a ∷ b ∷ s)) n t ts p e = absurd cc

pub version_read : (n : ℕ) (ts : Trees) (p : Option ℕ × Rest) → list_version_in n ts ≡ Ok p → list_version_at ts ≡ Some (p.0, p.1.0)
unfolding list_version_at
version_read n none p e = ap (λ (z : Option ℕ × Rest). Some (z.0, z.1.0)) (the_ok (None, (none, n)) p e)
version_read n (more t ts) p e = version_of_read (plain_at integer t) n t ts p e

version_ok_by : (b : Bool) (version : ℕ) (e : Blame) (rest : Rest) (m : Option ℕ × Trees) → (let found : Option (Option ℕ × Trees) = Some (Some version, rest.0) in if b then found else None) ≡ Some m →
    (p : Option ℕ × Rest) × (◌≡◌ {A = Outcome (Option ℕ × Rest)} (if b then Ok (Some version, rest) else Err e) (Ok p)) × (p.0 ≡ m.0) × (p.1.0 ≡ m.1)
version_ok_by true version e rest m q =
    let same : ◌≡◌ {A = Option ℕ × Trees} (Some version, rest.0) m = cc in
    ((Some version, rest), refl, ap (λ (z : Option ℕ × Trees). z.0) same, ap (λ (z : Option ℕ × Trees). z.1) same)
version_ok_by false version e rest m q = absurd cc

version_of_ok : (o : Option (List ℕ)) (n : ℕ) (t : Tree) (ts : Trees) (m : Option ℕ × Trees) → pieces.list_version_of o t ts ≡ Some m →
    (p : Option ℕ × Rest) × (list_version_of o n t ts ≡ Ok p) × (p.0 ≡ m.0) × (p.1.0 ≡ m.1)
version_of_ok None n t ts m e =
    let same : ◌≡◌ {A = Option ℕ × Trees} (None, more t ts) m = cc in
    ((None, (more t ts, n)), refl, ap (λ (z : Option ℕ × Trees). z.0) same, ap (λ (z : Option ℕ × Trees). z.1) same)
version_of_ok (Some []) n t ts m e = absurd cc
version_of_ok (Some (version ∷ [])) n t ts m e = version_ok_by (version == 1) version (unlike (whole fields.ListVersion) wants.VersionTwo n) (ts, left_after n t) m e
version_of_ok (Some (a ∷ b ∷ s)) n t ts m e = absurd cc

pub version_ok : (n : ℕ) (ts : Trees) (m : Option ℕ × Trees) → list_version_at ts ≡ Some m → (p : Option ℕ × Rest) × (list_version_in n ts ≡ Ok p) × (p.0 ≡ m.0) × (p.1.0 ≡ m.1)
unfolding list_version_at
version_ok n none m e =
    let same : ◌≡◌ {A = Option ℕ × Trees} (None, none) m = cc in
    ((None, (none, n)), refl, ap (λ (z : Option ℕ × Trees). z.0) same, ap (λ (z : Option ℕ × Trees). z.1) same)
version_ok n (more t ts) m e = version_of_ok (plain_at integer t) n t ts m e

-- a fault of an entry

failed_at : (version : Option ℕ) (n : ℕ) (b : Blame) (t : Tree) (us parts : Trees) (m : Tree × Rest) → sequence_at t ≡ Some parts →
    first_or (whole fields.RevokedCertificates) wants.OneEntry (parts, inside n t) ≡ Ok m → each_in (entry_fault version) (inside n t) parts ≡ Err b → entries_of (sequence_at t) version n t us ≡ Err b
failed_at version n b t us parts m e f g = rw (e, f, g) refl

failed_in : (version : Option ℕ) (n : ℕ) (b : Blame) (ts us : Trees) (t : Tree) (parts : Trees) (m : Tree × Rest) → first_at ts ≡ Some (t, us) → sequence_at t ≡ Some parts →
    first_or (whole fields.RevokedCertificates) wants.OneEntry (parts, inside n t) ≡ Ok m → each_in (entry_fault version) (inside n t) parts ≡ Err b → entries_in version n ts ≡ Err b
failed_in version n b none us t parts m first e f g = absurd cc
failed_in version n b (more x xs) us t parts m first e f g =
    let same : ◌≡◌ {A = Tree × Trees} (x, xs) (t, us) = cc in
    subst (λ (z : Tree × Trees). entries_of (sequence_at z.0) version n z.0 z.1 ≡ Err b) (sym same) (failed_at version n b t us parts m e f g)

pub entry_failed : (version : Option ℕ) (n l : ℕ) (b : Blame) (ts us : Trees) (t : Tree) (parts ps : Trees) (place : Place) (m : Tree × Rest) → first_at ts ≡ Some (t, us) → sequence_at t ≡ Some parts →
    place ≡ whole fields.RevokedCertificates → l ≡ inside n t → ps ≡ parts → first_or place wants.OneEntry (ps, l) ≡ Ok m → each_in (entry_fault version) l ps ≡ Err b → entries_in version n ts ≡ Err b
entry_failed version n l b ts us t parts ps place m first e p q r f g =
    let f1 = subst (λ z. first_or z wants.OneEntry (ps, l) ≡ Ok m) p f in
    let f2 = subst (λ z. first_or (whole fields.RevokedCertificates) wants.OneEntry (ps, z) ≡ Ok m) q f1 in
    let f3 = subst (λ z. first_or (whole fields.RevokedCertificates) wants.OneEntry (z, inside n t) ≡ Ok m) r f2 in
    let g1 = subst (λ z. each_in (entry_fault version) z ps ≡ Err b) q g in
    let g2 = subst (λ z. each_in (entry_fault version) (inside n t) z ≡ Err b) r g1 in
    failed_in version n b ts us t parts m first e f3 g2
