-- The lengths that headers tell.
use Rattle.std.proofs.Common.{◌≡◌, ◌∙◌, sym, ap, ℕ, List, [], ◌∷◌, ◌++◌, append_assoc}
use Rattle.std.proofs.lemmas.List.{append-nil}
use Rattle.std.specs.declared.alloc.Global.{Global}
use Rattle.std.specs.declared.vec.Vec.{Vec}
use Rattle.asn1_core.specs.Elements.{Element}
use Rattle.asn1_core.specs.Strict.{Head}
use Rattle.asn1_core.specs.Views.{head_of, length_of, size_of}
use Rattle.asn1_core.specs.declared.header.Header.{Header}
use Rattle.asn1_core.specs.declared.length.Length.{Length}
use Rattle.asn1_core.specs.declared.length.Length.TheVariants.{Definite}
use Rattle.der_tree.specs.declared.object.BerObject.{BerObject, fold-roll-BerObject}
use Rattle.der_tree.specs.declared.object.BerObjectContent.{BerObjectContent, fold-roll-BerObjectContent}
use Rattle.der_tree.specs.declared.object.BerObjectContent.TheOpen.{BerObjectContent-F}
use Rattle.der_tree.specs.declared.object.BerObjectContent.TheVariants.{Sequence, Set, rolls-Sequence, rolls-Set}
use Rattle.der_tree.specs.Lengths.{content_step, object_step, lengths_told, lengths_within, lengths_of_all, lengths_read, lengths_held, all_lengths, definite_length, HoldsOne}
use Rattle.der_tree.specs.Shape.{HoldsLeaf}
use Rattle.der_tree.specs.Tree.{node, Content, leaf, sequence, set}
use Rattle.der_tree.specs.View.{view, content_view, views}
use Rattle.der_tree.proofs.Views.{at_sequence, at_set}

in_sequence : (v : Vec BerObject Global) → lengths_within (Sequence v) ≡ lengths_of_all v.items
in_sequence v = ap lengths_within (sym (rolls-Sequence v)) ∙ fold-roll-BerObjectContent (List Length) (List Length) content_step object_step (BerObjectContent-F.Sequence v)

in_set : (v : Vec BerObject Global) → lengths_within (Set v) ≡ lengths_of_all v.items
in_set v = ap lengths_within (sym (rolls-Set v)) ∙ fold-roll-BerObjectContent (List Length) (List Length) content_step object_step (BerObjectContent-F.Set v)

pub in_object : (o : BerObject) → lengths_told o ≡ o.header.length ∷ lengths_within o.content
in_object o = fold-roll-BerObject (List Length) (List Length) content_step object_step (record { header = o.header; content = o.content; raw = o.raw })

-- the parts of a content
pub held_sequence : (own : Head → List ℕ → Length) (l : Length) (v : Vec BerObject Global) → lengths_of_all v.items ≡ all_lengths own (views v.items) →
    lengths_within (Sequence v) ≡ lengths_held own l (content_view (Sequence v))
held_sequence own l v all = in_sequence v ∙ all ∙ sym (ap (lengths_held own l) (at_sequence v))

pub held_set : (own : Head → List ℕ → Length) (l : Length) (v : Vec BerObject Global) → lengths_of_all v.items ≡ all_lengths own (views v.items) →
    lengths_within (Set v) ≡ lengths_held own l (content_view (Set v))
held_set own l v all = in_set v ∙ all ∙ sym (ap (lengths_held own l) (at_set v))

-- a content without parts
pub held_leaf : (own : Head → List ℕ → Length) (l : Length) (e : Element) (c : BerObjectContent) (d : Content) → HoldsLeaf e d → HoldsOne l c d → lengths_within c ≡ lengths_held own l d
held_leaf own l e c (leaf v) p q = q
held_leaf own l e c (sequence ts) p q = absurd p
held_leaf own l e c (set ts) p q = absurd p

-- a header of a definite length
pub definite_told : (h : Header) (s : List ℕ) (n : ℕ) → length_of h ≡ Definite n → length_of h ≡ definite_length (head_of h) s
definite_told h s n is = is ∙ sym (ap (λ l. Definite (size_of l)) is)

-- the object that a header and a content make
pub told_made : (own : Head → List ℕ → Length) (o : BerObject) (h : Header) (s : List ℕ) (d : Content) (c : BerObjectContent) → lengths_told o ≡ length_of h ∷ lengths_within c → view o ≡ node (head_of h) s d →
    length_of h ≡ own (head_of h) s → lengths_within c ≡ lengths_held own (length_of h) d → lengths_told o ≡ lengths_read own (view o)
told_made own o h s d c told is same held =
    let l = own (head_of h) s in
    told ∙ ap (λ z. length_of h ∷ z) held ∙ ap (λ z. z ∷ lengths_held own z d) same ∙ sym (ap (lengths_read own) is)

-- one object more

told_push : (os : List BerObject) (o : BerObject) → lengths_of_all (os ++ o ∷ []) ≡ lengths_of_all os ++ lengths_told o
told_push [] o = append-nil (lengths_told o)
told_push (x ∷ os) o = ap (λ s. lengths_told x ++ s) (told_push os o) ∙ sym (append_assoc (lengths_told x) (lengths_of_all os) (lengths_told o))

read_push : (own : Head → List ℕ → Length) (os : List BerObject) (o : BerObject) → all_lengths own (views (os ++ o ∷ [])) ≡ all_lengths own (views os) ++ lengths_read own (view o)
read_push own [] o = append-nil (lengths_read own (view o))
read_push own (x ∷ os) o = ap (λ s. lengths_read own (view x) ++ s) (read_push own os o) ∙ sym (append_assoc (lengths_read own (view x)) (all_lengths own (views os)) (lengths_read own (view o)))

pub all_push : (own : Head → List ℕ → Length) (os : List BerObject) (o : BerObject) → lengths_of_all os ≡ all_lengths own (views os) → lengths_told o ≡ lengths_read own (view o) →
    lengths_of_all (os ++ o ∷ []) ≡ all_lengths own (views (os ++ o ∷ []))
all_push own os o p q = told_push os o ∙ ap (λ z. z ++ lengths_told o) p ∙ ap (λ z. all_lengths own (views os) ++ z) q ∙ sym (read_push own os o)
