-- Used lists among the items.
use Rattle.std.specs.Prelude.{◌↔◌}
use Rattle.std.proofs.Common.{◌≡◌, ◌∙◌, ap, sym, subst, refl, ℕ, ◌<◌, Bool, List, [], ◌∷◌, map, length, arith, get_or}
use Rattle.std.specs.List.{Any, Contains}
use Rattle.std.proofs.lemmas.List.{get_or-map, length-map, get_or_default}
use Rattle.cert_model.specs.Fields.{RevocationList}
use Rattle.cert_model.specs.Octets.{name_octets}
use Rattle.cert_model.specs.Class.{Class, certificate, list, other}
use Rattle.jiff_core.specs.declared.civil.datetime.DateTime.{DateTime}
use Rattle.cert_judge.specs.declared.items.ListItem.{ListItem}
use Rattle.cert_judge.specs.declared.items.ReadItem.{ReadItem}
use Rattle.cert_judge.specs.declared.items.ReadItem.TheVariants.{Certificate as certificate_read, List as list_read, Other as other_read}
use Rattle.cert_judge.specs.Vouching.{Vouching}
use Rattle.cert_judge.specs.Revoking.{Item, IsCurrent, IsPlain, IsUsedList, HasUsedList}
use Rattle.cert_judge.specs.Items.{list_of, list_item, item_of, rules_by, IsUsed, IsListWith}

abbrev list_in : (l : RevocationList) → Class → RevocationList
list_in l (certificate c) = l
list_in l (list m) = m
list_in l other = l

-- an item of the code's is one of theirs
item_from : (xs : List ReadItem) (item : Item) → Contains (map item_of xs) item → (k : ℕ) × (x : ReadItem) × (k < length xs) × (get_or xs k x ≡ x) × (item ≡ item_of x)
item_from [] item at = absurd (omega (arith, at.1))
item_from (z ∷ zs) item at =
    let lt : at.0 < length (z ∷ zs) = subst (λ n. at.0 < n) (length-map (z ∷ zs) item_of) at.1 in
    let x = get_or (z ∷ zs) at.0 z in
    (at.0, x, lt, get_or_default (z ∷ zs) at.0 x z lt, sym at.2 ∙ get_or-map item_of (z ∷ zs) at.0 z item lt)

item_at : (xs : List ReadItem) (k : ℕ) (x : ReadItem) → k < length xs → get_or xs k x ≡ x → Contains (map item_of xs) (item_of x)
item_at xs k x lt e = (k, subst (λ n. k < n) (sym (length-map xs item_of)) lt, get_or-map item_of xs k x (item_of x) lt ∙ ap item_of e)

-- what is so of a list among the items
listed : (P : ListItem → Type 0) (x : ReadItem) → IsListWith P x → (l : ListItem) × (x ≡ list_read l) × P l
listed P (certificate_read y) h = absurd h
listed P (list_read y) h = (y, refl, h)
listed P (other_read y) h = absurd h

pub used_to : (V : Vouching) (moment : DateTime) (demand : Bool) (name key : List ℕ) (x : ListItem) → IsUsed V moment name key x → IsUsedList (rules_by moment demand V) name key (list_item x) (list_of x)
used_to V moment demand name key x u = record { is_list = refl; issuer = sym x.issuer_is ∙ u.issuer; vouched = u.vouched; current = u.current; plain = u.plain }

pub used_from : (V : Vouching) (moment : DateTime) (demand : Bool) (name key : List ℕ) (x : ReadItem) (item : Item) (l : RevocationList) → item ≡ item_of x → IsUsedList (rules_by moment demand V) name key item l
    → IsListWith (λ y. IsUsed V moment name key y × (l ≡ list_of y)) x
used_from V moment demand name key (certificate_read y) item l e u = let k = sym u.is_list ∙ ap (λ (i : Item). i.class) e in cc
used_from V moment demand name key (other_read y) item l e u = let k = sym u.is_list ∙ ap (λ (i : Item). i.class) e in cc
used_from V moment demand name key (list_read x) item l e u =
    let same : l ≡ list_of x = ap (list_in l) (sym u.is_list ∙ ap (λ (i : Item). i.class) e) in (
      record {
        issuer = x.issuer_is ∙ ap (λ (m : RevocationList). name_octets m.issuer) (sym same) ∙ u.issuer;
        vouched = subst (λ (i : Item). V.Vouches key i.octets) e u.vouched;
        current = subst (IsCurrent _) same u.current;
        plain = subst IsPlain same u.plain;
      },
      same,
    )

-- of a list that has two properties, one
one_of : (P Q : ListItem → Type 0) (x : ReadItem) → ((y : ListItem) → P y → Q y) → IsListWith P x → IsListWith Q x
one_of P Q (certificate_read y) f h = h
one_of P Q (list_read y) f h = f y h
one_of P Q (other_read y) f h = h

pub has_iff : (V : Vouching) (moment : DateTime) (demand : Bool) (name key : List ℕ) (xs : List ReadItem)
    → Any (IsListWith (IsUsed V moment name key)) xs ↔ HasUsedList (rules_by moment demand V) (map item_of xs) name key
has_iff V moment demand name key xs = (
  λ h.
      let y = listed (IsUsed V moment name key) h.1 h.4 in
      (item_of h.1, list_of y.0, item_at xs h.0 h.1 h.2 h.3, subst (λ (x : ReadItem). IsUsedList (rules_by moment demand V) name key (item_of x) (list_of y.0)) (sym y.1) (used_to V moment demand name key y.0 y.2)),
  λ h.
      let f = item_from xs h.0 h.2 in
      (f.0, f.1, f.2, f.3, one_of (λ y. IsUsed V moment name key y × (h.1 ≡ list_of y)) (IsUsed V moment name key) f.1 (λ y u. u.0) (used_from V moment demand name key f.1 h.0 h.1 f.4 h.3)),
)
