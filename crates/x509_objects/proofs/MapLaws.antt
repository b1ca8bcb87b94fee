-- What a map of octets returns, and what it returns with one more entry.
use Rattle.std.proofs.Common.{◌≡◌, ◌≢◌, ◌∙◌, sym, ap, refl, ℕ, Bool, true, false, if◌then◌else◌, List, [], ◌∷◌, Option, Some, None, option_map, bytes_eq, Ordering, Less, Equal, Greater, Bor}
use Rattle.std.specs.BTreeMap.{insert_entry, is_at}
use Rattle.std.specs.Option.{option_copied}
use Rattle.std.specs.Cmp.Lexicographic.{slice_cmp}
use Rattle.std.specs.Map.{lookup}
use Rattle.std.specs.Ordering.{is_eq, nat_cmp}
use Rattle.std.proofs.lemmas.Map.Text.{is_eq-slice_cmp}
use Rattle.std.proofs.lemmas.Slice.Eq.{bytes_eq-Decides}
use Rattle.x509_objects.specs.Registry.{entry_in}
use Rattle.x509_objects.specs.Table.{Entry}

pub looked_up : {K V : Type 0} (key : K → List ℕ) (see : V → Entry) (es : List (K × V)) (id : List ℕ) → option_map see (lookup (is_at (λ k. slice_cmp nat_cmp id (key k))) es) ≡ entry_in key see es id
looked_up key see [] id = refl
looked_up {K} {V} key see (e ∷ es) id = by (bytes_eq id (key e.0)) refl (looked_up key see es id)
  where
    by : (b : Bool) → bytes_eq id (key e.0) ≡ b → option_map see (lookup (is_at (λ (k : K). slice_cmp nat_cmp id (key k))) es) ≡ entry_in key see es id → option_map see (lookup (is_at (λ k. slice_cmp nat_cmp id (key k))) (e ∷ es)) ≡ entry_in key see (e ∷ es) id
    by true same rest = let test = is_eq-slice_cmp id (key e.0) ∙ same in rw (test, same) refl
    by false other rest = let test = is_eq-slice_cmp id (key e.0) ∙ other in rw (test, other) rest

same_key : (a b : List ℕ) → slice_cmp nat_cmp a b ≡ Equal → a ≡ b
same_key a b e = (bytes_eq-Decides a b).0 (sym (is_eq-slice_cmp a b) ∙ ap is_eq e)

other_key : (a b : List ℕ) → slice_cmp nat_cmp a b ≡ Greater → a ≢ b
other_key a b e same = let yes = is_eq-slice_cmp a b ∙ (bytes_eq-Decides a b).1 same in let no = ap is_eq e in cc

pub inserted : {K V : Type 0} (key : K → List ℕ) (see : V → Entry) (es : List (K × V)) (k : K) (v : V) (id : List ℕ)
    → entry_in key see (insert_entry (λ a b. slice_cmp nat_cmp (key a) (key b)) es k v) id ≡ (if bytes_eq id (key k) then Some (see v) else entry_in key see es id)
inserted key see [] k v id = refl
inserted {K} {V} key see (e ∷ es) k v id = by (slice_cmp nat_cmp (key k) (key e.0)) refl (inserted key see es k v id)
  where
    equal : (b : Bool) → bytes_eq id (key e.0) ≡ b → (if bytes_eq id (key e.0) then Some (see v) else entry_in key see es id)
        ≡ (if bytes_eq id (key e.0) then Some (see v) else (if bytes_eq id (key e.0) then Some (see e.1) else entry_in key see es id))
    equal true test = rw test refl
    equal false test = rw test refl

    greater : (a b : Bool) → key k ≢ key e.0 → bytes_eq id (key e.0) ≡ a → bytes_eq id (key k) ≡ b
        → (if bytes_eq id (key e.0) then Some (see e.1) else (if bytes_eq id (key k) then Some (see v) else entry_in key see es id))
        ≡ (if bytes_eq id (key k) then Some (see v) else (if bytes_eq id (key e.0) then Some (see e.1) else entry_in key see es id))
    greater true true other here there =
        absurd (other (sym ((bytes_eq-Decides id (key k)).0 there) ∙ (bytes_eq-Decides id (key e.0)).0 here))
    greater true false other here there = rw (here, there) refl
    greater false b other here there = rw here refl

    by : (o : Ordering) → slice_cmp nat_cmp (key k) (key e.0) ≡ o
        → entry_in key see (insert_entry (λ a b. slice_cmp nat_cmp (key a) (key b)) es k v) id ≡ (if bytes_eq id (key k) then Some (see v) else entry_in key see es id)
        → entry_in key see (insert_entry (λ a b. slice_cmp nat_cmp (key a) (key b)) (e ∷ es) k v) id
        ≡ (if bytes_eq id (key k) then Some (see v) else entry_in key see (e ∷ es) id)
    by Less order rest = rw order refl
    by Equal order rest = let same = same_key (key k) (key e.0) order in rw order (rw same (equal (bytes_eq id (key e.0)) refl))
    by Greater order rest =
        rw order (ap (λ z. if bytes_eq id (key e.0) then Some (see e.1) else z) rest
        ∙ greater (bytes_eq id (key e.0)) (bytes_eq id (key k)) (other_key (key k) (key e.0) order) refl refl)

-- a value that is lent, seen
pub seen_copied : {V A : Type 0} (see : V → A) (o : Option (Bor V)) (found : Option V) {read : Option A} → option_copied o ≡ found → option_map see found ≡ read → option_map (λ (x : Bor V). see x.now) o ≡ read
seen_copied see None found copied read = ap (option_map see) copied ∙ read
seen_copied see (Some x) found copied read = ap (option_map see) copied ∙ read
