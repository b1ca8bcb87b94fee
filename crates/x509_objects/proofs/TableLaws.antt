-- A table returns what is in its rows.
use Rattle.std.proofs.Common.{◌≡◌, sym, refl, subst, ℕ, Bool, true, false, List, [], ◌∷◌, Some, None, bytes_eq}
use Rattle.std.proofs.lemmas.Slice.Eq.{bytes_eq-Decides}
use Rattle.x509_objects.specs.Table.{Row, told_of, IsRow, here, behind, known, abbreviations}

-- each row is the first of its identifier
unfoldable pub IsDistinct : {A : Type 0} → List (Row A) → Type 0
IsDistinct [] = Unit {0}
IsDistinct (row ∷ rows) = (told_of rows row.identifier ≡ None) × IsDistinct rows

pub row_found : {A : Type 0} (rows : List (Row A)) (id : List ℕ) (told : A) → told_of rows id ≡ Some told → IsRow id told rows
row_found [] id told given = cc
row_found (row ∷ rows) id told given = by (bytes_eq id row.identifier) refl (row_found rows id told)
  where
    by : (b : Bool) → bytes_eq id row.identifier ≡ b → (told_of rows id ≡ Some told → IsRow id told rows) → IsRow id told (row ∷ rows)
    by true same go = let value = rw same at given in let told_is : row.told ≡ told = cc value in here row rows (sym ((bytes_eq-Decides id row.identifier).0 same)) told_is
    by false other go = let value = rw other at given in behind row rows (go value)

none_told : {A : Type 0} (rows : List (Row A)) (id : List ℕ) (told : A) → told_of rows id ≡ None → IsRow id told rows → ⊥
none_told [] id told none is = elim is [ ]
none_told (row ∷ rows) id told none (here _ _ same is) =
    let test = (bytes_eq-Decides id row.identifier).1 (sym same) in let wrong = rw test at none in cc wrong
none_told (row ∷ rows) id told none (behind _ _ is) = by (bytes_eq id row.identifier) refl (λ e. none_told rows id told e is)
  where
    by : (b : Bool) → bytes_eq id row.identifier ≡ b → (told_of rows id ≡ None → ⊥) → ⊥
    by true same go = let wrong = rw same at none in cc wrong
    by false other go = let value = rw other at none in go value

pub row_only : {A : Type 0} (rows : List (Row A)) (id : List ℕ) (told : A) → IsDistinct rows → IsRow id told rows → told_of rows id ≡ Some told
unfolding IsDistinct
row_only [] id told distinct is = elim is [ ]
row_only (row ∷ rows) id told distinct (here _ _ same is) =
    let test = (bytes_eq-Decides id row.identifier).1 (sym same) in rw (test, is) refl
row_only (row ∷ rows) id told distinct (behind _ _ is) = by (bytes_eq id row.identifier) refl (row_only rows id told distinct.1 is)
  where
    by : (b : Bool) → bytes_eq id row.identifier ≡ b → told_of rows id ≡ Some told → told_of (row ∷ rows) id ≡ Some told
    by true same rest =
        let none = subst (λ z. told_of rows z ≡ None) (sym ((bytes_eq-Decides id row.identifier).0 same)) distinct.0 in
        absurd (none_told rows id told none is)
    by false other rest = rw other rest

pub known_distinct : IsDistinct known
unfolding IsDistinct
known_distinct = (refl, (refl, (refl, (refl, (refl, (refl, (refl, (refl, (refl, (refl, (refl, (refl, tt))))))))))))

pub abbreviations_distinct : IsDistinct abbreviations
unfolding IsDistinct
abbreviations_distinct = (refl, (refl, (refl, (refl, (refl, (refl, (refl, (refl, tt))))))))
