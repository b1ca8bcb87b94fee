-- Readers of single elements take what the relations say, and no more.
use Rattle.std.proofs.Common.{◌≡◌, ◌≢◌, ◌∙◌, refl, sym, ap, subst, ℕ, ◌==◌, ◌||◌, not, List, Bool, true, false, arith, Option, Some, None, Result, Ok, Err, if◌then◌else◌, inl, inr}
use Rattle.std.specs.Result.{result_ok}
use Rattle.std.proofs.lemmas.Bool.Decides.{nat_tests}
use Rattle.asn1_core.proofs.Cases.{chosen}
use Rattle.asn1_core.specs.Elements.{Element}
use Rattle.asn1_core.specs.declared.error.Error.{Error}
use Rattle.asn1_traits.specs.Leaves.{IsLeaf, MeansOctets}
use Rattle.x509_core.specs.Answers.{Answer, unnamed, plain, ◌>>=◌}
use Rattle.x509_core.specs.Reading.{content_in, leaf_in, oid_in}
use Rattle.x509_core.specs.Leaves.{Leaf, IsOid, IsAny}
use Rattle.x509_core.proofs.Grammars.{IsMeaning, two}

pub equal_tags : (a b : ℕ) → (a == b) ≡ true → a ≡ b
equal_tags a b e = grind (arith, nat_tests)

pub tags_equal : (a b : ℕ) → a ≡ b → (a == b) ≡ true
tags_equal a b e = grind (arith, nat_tests)

pub tags_differ : (a b : ℕ) → (a == b) ≡ false → a ≢ b
tags_differ a b e = λ same. let wrong = tags_equal a b same in cc

pub differ_tags : (a b : ℕ) → a ≢ b → (a == b) ≡ false
differ_tags a b other = grind (arith, nat_tests)

-- ---- errors that are returned as they are

pub was_plain : {A : Type 0} (r : Result A Error) (x : A) → plain (result_ok r) ≡ Ok x → r ≡ Ok x
was_plain (Ok y) x given = let same : y ≡ x = cc in ap (λ z. Ok z) same
was_plain (Err e) x given = cc

pub was_some : {A : Type 0} (o : Option A) (x : A) → plain o ≡ Ok x → o ≡ Some x
was_some (Some y) x given = let same : y ≡ x = cc in ap (λ z. Some z) same
was_some None x given = cc

-- ---- containers

pub content_found : (n : ℕ) (e : Element) (c : List ℕ) → content_in n e ≡ Ok c → (e.tag ≡ n) × (e.content ≡ c)
content_found n e c given =
    elim (chosen (e.tag == n) _ _ _ given) [
      | inl same ↦ let content : e.content ≡ c = cc in (equal_tags e.tag n same.0, content)
      | inr other ↦ let impossible = other.1 in cc
    ]

pub content_only : (n : ℕ) (e : Element) → e.tag ≡ n → content_in n e ≡ Ok e.content
content_only n e tag = rw (tags_equal e.tag n tag) refl

-- ---- leaves

leaf_case : (t c : Bool) (content v : List ℕ) → (let x : Answer (List ℕ) = if not t || c then Err unnamed else Ok content in x ≡ Ok v) → (t ≡ true) × (c ≡ false) × (v ≡ content)
leaf_case true true content v given = cc
leaf_case true false content v given = (refl, refl, cc)
leaf_case false c content v given = cc

leaf_found : (n : ℕ) (e : Element) (c : List ℕ) → leaf_in n e ≡ Ok c → IsLeaf n e × (c ≡ e.content)
leaf_found n e c given =
    let case = leaf_case (e.tag == n) e.constructed e.content c given in
    (record { tag_is = equal_tags e.tag n case.0; primitive = case.1 }, case.2)

leaf_only : (n : ℕ) (e : Element) → IsLeaf n e → leaf_in n e ≡ Ok e.content
leaf_only n e is = rw (tags_equal e.tag n is.tag_is, is.primitive) refl

-- a leaf of any content
pub octets_meaning_of : (n : ℕ) → IsMeaning (Leaf n (MeansOctets (λ v. v))) (λ q. leaf_in n q.element)
octets_meaning_of n = record {
  found = λ q v spells below given. let is = leaf_found n q.element v given in record { leaf = is.0; meant = is.1 };
  only = λ q v spells below is. leaf_only n q.element is.leaf ∙ ap (λ z. Ok z) (sym is.meant);
}

pub oid_meaning : IsMeaning IsOid (λ q. oid_in q.element)
oid_meaning = octets_meaning_of 6

-- a leaf whose content is read by a further reader
pub leaf_meaning : {A : Type 0} (n : ℕ) (means : List ℕ → A → Type 0) (f : List ℕ → Answer A) → ((c : List ℕ) (v : A) → f c ≡ Ok v → means c v) → ((c : List ℕ) (v : A) → means c v → f c ≡ Ok v)
    → IsMeaning (Leaf n means) (λ q. leaf_in n q.element >>= f)
leaf_meaning n means f found only = record {
  found = λ q v spells below given.
      let both = two (leaf_in n q.element) f v given in
      let is = leaf_found n q.element both.0 both.1 in
      record { leaf = is.0; meant = subst (λ z. means z v) is.1 (found both.0 v both.2) };
  only = λ q v spells below is. rw (leaf_only n q.element is.leaf) (only q.element.content v is.meant);
}

-- errors that are returned as they are, if the leaf's reader says whether there is a value
option_case : {A : Type 0} (t c : Bool) (r : Option A) (v : A) → (if not t || c then None else r) ≡ Some v → (t ≡ true) × (c ≡ false) × (r ≡ Some v)
option_case true true r v given = cc
option_case true false r v given = (refl, refl, given)
option_case false c r v given = cc

pub option_meaning : {A : Type 0} (n : ℕ) (means : List ℕ → A → Type 0) (f : List ℕ → Option A) → ((c : List ℕ) (v : A) → f c ≡ Some v → means c v) → ((c : List ℕ) (v : A) → means c v → f c ≡ Some v)
    → IsMeaning (Leaf n means) (λ q. plain (if not (q.element.tag == n) || q.element.constructed then None else f q.element.content))
option_meaning n means f found only = record {
  found = λ q v spells below given.
      let case = option_case (q.element.tag == n) q.element.constructed (f q.element.content) v (was_some _ v given) in
      record { leaf = record { tag_is = equal_tags q.element.tag n case.0; primitive = case.1 }; meant = found q.element.content v case.2 };
  only = λ q v spells below is. rw (tags_equal q.element.tag n is.leaf.tag_is, is.leaf.primitive, only q.element.content v is.meant) refl;
}

pub any_meaning : IsMeaning IsAny (λ q. Ok q.element)
any_meaning = record {
  found = λ q v spells below given. cc;
  only = λ q v spells below is. ap (λ z. Ok z) (sym is);
}
