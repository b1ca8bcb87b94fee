-- The number in an object: why there is none.
use Rattle.std.proofs.Common.{◌≡◌, ◌≢◌, ◌∙◌, sym, ap, refl, ℕ, ◌<◌, Bool, true, false, List, Result, Ok, Err, nat_lt, lt-ltb, subst, if◌then◌else◌}
use Rattle.std.proofs.lemmas.Bool.{ltb-true}
use Rattle.std.specs.Int.Digits.{number_from_digits}
use Rattle.asn1_core.specs.declared.error.Error.{Error}
use Rattle.asn1_core.specs.declared.error.Error.TheVariants.{OutOfMemory, IntegerNegative, IntegerTooLarge}
use Rattle.der_tree.specs.Access.{number_of, below, content_in}
use Rattle.der_tree.specs.Table.{integer, octet_string, object_descriptor, utf8_string, relative_oid, numeric_string, printable_string, t61_string, videotex_string, ia5_string, utc_time, generalized_time, graphic_string, visible_string, general_string, universal_string, bmp_string, is_negative}
use Rattle.der_tree.specs.Tree.{end_of_content, boolean, bit_string, null, oid, enumerated, plain, raw, Tree, Content, leaf, sequence, set}
use Rattle.der_parser.specs.Typed.{ReadsDer, ReadsNumber}
use Rattle.der_parser.proofs.Trees.{reads_once}

by_sign : (b : Bool) (n : ℕ) (e : Error) → (if b then Err IntegerNegative else Ok n) ≡ Err e → e ≢ OutOfMemory
by_sign true n e p = λ q. cc
by_sign false n e p = λ q. cc

pub number_refused : (c : Content) (e : Error) → number_of c ≡ Err e → e ≢ OutOfMemory
number_refused (leaf (plain integer s)) e p = by_sign (is_negative s) (number_from_digits 256 s) e p
number_refused (leaf (plain octet_string s)) e p = λ q. cc
number_refused (leaf (plain object_descriptor s)) e p = λ q. cc
number_refused (leaf (plain utf8_string s)) e p = λ q. cc
number_refused (leaf (plain relative_oid s)) e p = λ q. cc
number_refused (leaf (plain numeric_string s)) e p = λ q. cc
number_refused (leaf (plain printable_string s)) e p = λ q. cc
number_refused (leaf (plain t61_string s)) e p = λ q. cc
number_refused (leaf (plain videotex_string s)) e p = λ q. cc
number_refused (leaf (plain ia5_string s)) e p = λ q. cc
number_refused (leaf (plain utc_time s)) e p = λ q. cc
number_refused (leaf (plain generalized_time s)) e p = λ q. cc
number_refused (leaf (plain graphic_string s)) e p = λ q. cc
number_refused (leaf (plain visible_string s)) e p = λ q. cc
number_refused (leaf (plain general_string s)) e p = λ q. cc
number_refused (leaf (plain universal_string s)) e p = λ q. cc
number_refused (leaf (plain bmp_string s)) e p = λ q. cc
number_refused (leaf end_of_content) e p = λ q. cc
number_refused (leaf (boolean b)) e p = λ q. cc
number_refused (leaf (bit_string unused s)) e p = λ q. cc
number_refused (leaf null) e p = λ q. cc
number_refused (leaf (oid s)) e p = λ q. cc
number_refused (leaf (enumerated n)) e p = λ q. cc
number_refused (leaf (raw f)) e p = λ q. cc
number_refused (sequence ts) e p = λ q. cc
number_refused (set ts) e p = λ q. cc

by_size : (b : Bool) (n : ℕ) (e : Error) → (if b then Ok n else Err IntegerTooLarge) ≡ Err e → e ≢ OutOfMemory
by_size true n e p = λ q. cc
by_size false n e p = λ q. cc

below_refused : (limit : ℕ) (r : Result ℕ Error) → ((e : Error) → r ≡ Err e → e ≢ OutOfMemory) → (e : Error) → below limit r ≡ Err e → e ≢ OutOfMemory
below_refused limit (Ok n) each e p = by_size (nat_lt n limit) n e p
below_refused limit (Err x) each e p = let same : x ≡ e = cc in each e (ap Err same)

pub number_in_refused : (limit : ℕ) (c : Content) (e : Error) → below limit (number_of c) ≡ Err e → e ≢ OutOfMemory
number_in_refused limit c e p = below_refused limit (number_of c) (number_refused c) e p

pub below_small : (limit : ℕ) (r : Result ℕ Error) (v : ℕ) → r ≡ Ok v → v < limit → below limit r ≡ Ok v
below_small limit r v p lt = let test : nat_lt v limit ≡ true = lt-ltb v limit lt in ap (below limit) p ∙ ap (λ b. if b then Ok v else Err IntegerTooLarge) test

by_test : (b : Bool) (n v limit : ℕ) → nat_lt n limit ≡ b → (if b then Ok n else Err IntegerTooLarge) ≡ Ok v → (n ≡ v) × (n < limit)
by_test true n v limit t p = (cc, ltb-true n limit t)
by_test false n v limit t p = cc

pub below_is : (limit : ℕ) (r : Result ℕ Error) (v : ℕ) → below limit r ≡ Ok v → (r ≡ Ok v) × (v < limit)
below_is limit (Ok n) v p = let both = by_test (nat_lt n limit) n v limit refl p in (ap Ok both.0, subst (λ z. z < limit) both.0 both.1)
below_is limit (Err x) v p = cc

-- no number is read if the object that begins the octets holds none
pub no_number : (limit : ℕ) (i rest : List ℕ) (t : Tree) (e : Error) → ReadsDer 2 i t rest → below limit (number_of (content_in t)) ≡ Err e → (v : ℕ) (after : List ℕ) → ReadsNumber limit i v after → ⊥
no_number limit i rest t e read refused v after p =
    let same : p.0 ≡ t = (reads_once 2 i after rest p.0 t p.1 read).0 in
    let number : number_of (content_in t) ≡ Ok v = ap (λ u. number_of (content_in u)) (sym same) ∙ p.2 in
    let there = below_small limit (number_of (content_in t)) v number p.3 in
    cc

-- one object begins the octets: whether and why it holds no number below the limit is known for any
-- octets that one begins
pub number_once : (limit : ℕ) (i after rest : List ℕ) (t u : Tree) (r : Result ℕ Error) (e : Error) → ReadsDer 2 i u after → r ≡ below limit (number_of (content_in u)) → ReadsDer 2 i t rest → below limit (number_of (content_in t)) ≡ Err e → r ≡ Err e
number_once limit i after rest t u r e read is other refused = let same : u ≡ t = (reads_once 2 i after rest u t read other).0 in is ∙ ap (λ z. below limit (number_of (content_in z))) same ∙ refused
