-- What is said of a report whose rows were pushed to.
use Rattle.std.proofs.Common.{◌≡◌, ◌∙◌, sym, ap, ℕ, Bool, true, false, List, [], ◌∷◌, ◌++◌, length, map, Result, Ok, Err}
use Rattle.std.specs.Prelude.{is_ok, is_err, if◌then◌else◌}
use Rattle.cert_framing.specs.Framing.{IsItem}
use Rattle.certpath_files.specs.Fronts.{most}
use Rattle.certpath_files.specs.Rows.{Shown, shown_item, shown_left_out, Place, Reason}
use Rattle.certpath_files.specs.Shapes.{Kind}
use Rattle.certpath_files.specs.RowViews.{row_view}
use Rattle.certpath_files.specs.Framed.{AreItems}
use Rattle.certpath_files.specs.declared.rows.Row.{Row}
use Rattle.certpath_files.proofs.FramedFacts.{with_item, with_left_out}

views_append : (s : List Row) (row : Row) (shown : Shown) → row_view row ≡ shown → map row_view (s ++ row ∷ []) ≡ map row_view s ++ shown ∷ []
views_append [] row shown e = ap (λ z. z ∷ []) e
views_append (one ∷ s) row shown e = ap (λ z. row_view one ∷ z) (views_append s row shown e)

pub left_out_pushed : {T E : Type 0} (r : Result T E) (s new : List Row) (row : Row) (o : List ℕ) (place : Place) (reason : Reason) → new ≡ (if is_ok r then s ++ row ∷ [] else s) → row_view row ≡ shown_left_out place reason → ∥ AreItems (map row_view s) o ∥₁
    → ∥ AreItems (map row_view new) o ∥₁
left_out_pushed (Ok x) s new row o place reason e f are = with_left_out (map row_view s) (map row_view new) o place reason are (ap (map row_view) e ∙ views_append s row (shown_left_out place reason) f)
left_out_pushed (Err x) s new row o place reason e f are = rw e are

pub item_pushed : {T E : Type 0} (r : Result T E) (b : Bool) (s new : List Row) (row : Row) (o p t : List ℕ) (place : Place) (kind : Kind) → b ≡ false → b ≡ is_err r → new ≡ (if is_ok r then s ++ row ∷ [] else s) → row_view row ≡ shown_item place kind (length t)
    → p ≡ o ++ t → IsItem most t → ∥ AreItems (map row_view s) o ∥₁ → ∥ AreItems (map row_view new) p ∥₁
item_pushed (Ok x) b s new row o p t place kind n m e f g it are = with_item (map row_view s) (map row_view new) o p t place kind are it (ap (map row_view) e ∙ views_append s row (shown_item place kind (length t)) f) g
item_pushed (Err x) b s new row o p t place kind n m e f g it are = absurd (let h : true ≡ false = sym m ∙ n in cc)
