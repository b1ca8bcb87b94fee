-- Values that are added one by one, if no two have one identifier.
use Rattle.std.proofs.Common.{◌≡◌, ◌∙◌, refl, sym, ap, ℕ, Bool, true, false, cond, List, [], ◌∷◌, Option, Some, None, is_some, if◌then◌else◌, bytes_eq}
use Rattle.std.specs.BTreeMap.{BTreeMap, get, is_at}
use Rattle.std.specs.Cmp.Lexicographic.{slice_cmp}
use Rattle.std.specs.Ordering.{nat_cmp}
use Rattle.std.proofs.lemmas.Map.Text.{is_eq-slice_cmp}
use Rattle.std.proofs.lemmas.Slice.Eq.{bytes_eq-Decides}
use Rattle.x509_ext.specs.Maps.{held_at, first_or}

put_by : {V : Type 0} (b : Bool) (o : Option V) (v : V) → (b ≡ true → is_some o ≡ false) → cond b (Some v) o ≡ (if b then Some (first_or o v) else o)
put_by true None v free = refl
put_by true (Some w) v free = cc (free refl)
put_by false o v free = refl

-- a value is put where there was none
pub put_once : {V : Type 0} (m n : BTreeMap (List ℕ) V) (oid id : List ℕ) (v : V)
    → is_some (held_at m oid) ≡ false
    → get (slice_cmp nat_cmp) n id ≡ cond (is_at (slice_cmp nat_cmp oid) id) (Some v) (get (slice_cmp nat_cmp) m id)
    → held_at n id ≡ (if bytes_eq oid id then Some (first_or (held_at m id) v) else held_at m id)
put_once m n oid id v free put =
    put
    ∙ ap (λ b. cond b (Some v) (get (slice_cmp nat_cmp) m id)) (is_eq-slice_cmp oid id)
    ∙ put_by (bytes_eq oid id) (held_at m id) v (λ same. ap (λ k. is_some (held_at m k)) (sym ((bytes_eq-Decides oid id).0 same)) ∙ free)

-- none, or the one
abbrev pub none_or_one : {A : Type 0} → Option A → List A
none_or_one None = []
none_or_one (Some x) = x ∷ []
