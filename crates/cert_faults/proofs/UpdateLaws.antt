-- The next update of a list: a time in another form than RFC 5280, 4.1.2.5 gives it makes it no list.
use Rattle.std.proofs.Common.{◌≡◌, ◌∙◌, refl, sym, ap, ℕ, ◌==◌, ◌||◌, Bool, true, false, List, [], ◌∷◌, ◌++◌, Option, Some, None, Ok, subst}
use Rattle.asn1_core.specs.Elements.{Element}
use Rattle.asn1_core.proofs.StrictLaws.{one_element_lem}
use Rattle.der_tree.specs.Table.{Kind, integer, utc_time, generalized_time, tag_of}
use Rattle.der_tree.specs.Tree.{Tree, Content, leaf, sequence, set, Trees, none, more}
use Rattle.der_tree.specs.Shape.{IsObject, AreObjects}
use Rattle.der_tree.specs.Access.{content_in, sequence_of, plain_of, sequence_at, plain_at, element_at, end_at, universal}
use Rattle.der_tree.proofs.Shapes.{plain_found, element_found, first_found}
use Rattle.cert_model.specs.Fields.{CivilTime}
use Rattle.cert_model.specs.Reads.{is_tagged, tagged_at}
use Rattle.cert_model.specs.Times.{time_at}
use Rattle.cert_model.specs.Pieces.{list_version_at, maybe_time_of, maybe_time_at, behind_entries}
use Rattle.cert_model.specs.Pieces as pieces
use Rattle.cert_model.specs.Assembly.{is_there}
use Rattle.cert_model.proofs.Cases.{chosen}
use Rattle.cert_faults.specs.Steps.{left_after, Rest}
use Rattle.cert_faults.specs.Items.{is_time, next_update_of, next_update_in}
use Rattle.cert_faults.proofs.Opening.{the_ok}

-- what is left is as it is read

update_by : (o : Option CivilTime) (form : Bool) (n : ℕ) (t : Tree) (ts : Trees) (s : Rest) → next_update_of (is_there o) form n t ts ≡ Ok s → s.0 ≡ (maybe_time_of o t ts).1
update_by None true n t ts s e = absurd cc
update_by None false n t ts s e = ap (λ (z : Rest). z.0) (sym (the_ok (more t ts, n) s e))
update_by (Some c) form n t ts s e = ap (λ (z : Rest). z.0) (sym (the_ok (ts, left_after n t) s e))

pub update_read : (n : ℕ) (ts : Trees) (s : Rest) → next_update_in n ts ≡ Ok s → s.0 ≡ (maybe_time_at ts).1
unfolding maybe_time_at
update_read n none s e = ap (λ (z : Rest). z.0) (sym (the_ok (none, n) s e))
update_read n (more t ts) s e = update_by (time_at t) (is_time t) n t ts s e

-- a time has no parts and no context-specific tag, so it is neither the entries nor the extensions

timeless : (j : Kind) (c : Content) (s : List ℕ) → plain_of j c ≡ Some s → sequence_of c ≡ None
timeless j (leaf v) s e = refl
timeless j (sequence ts) s e = absurd cc
timeless j (set ts) s e = absurd cc

untagged : (k : ℕ) (t : Tree) (j : Kind) (s : List ℕ) → IsObject k t → plain_at j t ≡ Some s → is_tagged 0 (element_at t) ≡ false
untagged k t j s o e =
    let held = (plain_found k t j s o e).0 in
    let whole = element_found k t o in
    let same = one_element_lem (universal false (tag_of j) s) (element_at t) [] [] held.in_range whole.in_range (ap (λ z. z ++ []) (sym held.octets ∙ whole.octets)) in
    subst (λ x. is_tagged 0 x ≡ false) same.0 refl

more_left : (t : Tree) (ts : Trees) → sequence_at t ≡ None → is_tagged 0 (element_at t) ≡ false → end_at (tagged_at 0 (behind_entries (more t ts))).1 ≡ None
unfolding behind_entries tagged_at
more_left t ts parts tag =
    let first : behind_entries (more t ts) ≡ more t ts = ap (λ o. pieces.behind_of o t ts) parts in
    let rest : (tagged_at 0 (more t ts)).1 ≡ more t ts = rw tag refl in
    ap (λ z. end_at (tagged_at 0 z).1) first ∙ ap end_at rest

-- so a time there ends no first part
no_end : (k : ℕ) (t : Tree) (ts : Trees) (j : Kind) (s : List ℕ) → IsObject k t → plain_at j t ≡ Some s → end_at (tagged_at 0 (behind_entries (more t ts))).1 ≡ Some tt → ⊥
no_end k t ts j s o e end =
    let left = more_left t ts (timeless j (content_in t) s e) (untagged k t j s o e) in
    let wrong = sym left ∙ end in
    cc

time_form : (k : ℕ) (t : Tree) (ts : Trees) (u g : Option (List ℕ)) → IsObject k t → plain_at utc_time t ≡ u → plain_at generalized_time t ≡ g →
    end_at (tagged_at 0 (behind_entries (more t ts))).1 ≡ Some tt → (is_there u || is_there g) ≡ false
time_form k t ts None None o p q end = refl
time_form k t ts (Some s) g o p q end = absurd (no_end k t ts utc_time s o p end)
time_form k t ts None (Some s) o p q end = absurd (no_end k t ts generalized_time s o q end)

update_ok_by : (k n : ℕ) (t : Tree) (ts : Trees) (o : Option CivilTime) → IsObject k t → end_at (tagged_at 0 (behind_entries (maybe_time_of o t ts).1)).1 ≡ Some tt →
    (s : Rest) × (next_update_of (is_there o) (is_time t) n t ts ≡ Ok s) × (s.0 ≡ (maybe_time_of o t ts).1)
update_ok_by k n t ts None p end =
    let form = time_form k t ts (plain_at utc_time t) (plain_at generalized_time t) p refl refl end in
    ((more t ts, n), ap (λ b. next_update_of false b n t ts) form, refl)
update_ok_by k n t ts (Some c) p end = ((ts, left_after n t), refl, refl)

pub update_ok : (k n : ℕ) (ts : Trees) → AreObjects k ts → end_at (tagged_at 0 (behind_entries (maybe_time_at ts).1)).1 ≡ Some tt →
    (s : Rest) × (next_update_in n ts ≡ Ok s) × (s.0 ≡ (maybe_time_at ts).1)
unfolding maybe_time_at AreObjects
update_ok k n none p end = ((none, n), refl, refl)
update_ok k n (more t ts) p end = update_ok_by k n t ts (time_at t) p.0 end

-- the parts after the version are objects

version_left_by : (k : ℕ) (t : Tree) (ts : Trees) (o : Option (List ℕ)) (m : Option ℕ × Trees) → AreObjects k (more t ts) → AreObjects k ts → pieces.list_version_of o t ts ≡ Some m → AreObjects k m.1
version_left_by k t ts None m p q e =
    let both : ◌≡◌ {A = Option ℕ × Trees} (None, more t ts) m = cc in
    subst (λ (z : Option ℕ × Trees). AreObjects k z.1) both p
version_left_by k t ts (Some []) m p q e = absurd cc
version_left_by k t ts (Some (version ∷ [])) m p q e = subst (λ (z : Option ℕ × Trees). AreObjects k z.1) (chosen (version == 1) (Some version, ts) m e).1 q
version_left_by k t ts (Some (a ∷ b ∷ s)) m p q e = absurd cc

pub version_left : (k : ℕ) (ts : Trees) (m : Option ℕ × Trees) → AreObjects k ts → list_version_at ts ≡ Some m → AreObjects k m.1
unfolding list_version_at
version_left k none m p e =
    let both : ◌≡◌ {A = Option ℕ × Trees} (None, none) m = cc in
    subst (λ (z : Option ℕ × Trees). AreObjects k z.1) both p
version_left k (more t ts) m p e = version_left_by k t ts (plain_at integer t) m p (first_found k (more t ts) t ts p refl).1 e
