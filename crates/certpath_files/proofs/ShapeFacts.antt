-- The parts of what is signed.
use Rattle.std.proofs.Common.{◌≡◌, ◌≢◌, ◌∙◌, sym, ap, refl, ℕ, suc, ◌<◌, ◌==◌, Bool, true, false, List, [], ◌∷◌, length, drop, get_or, drop-cons, Option, Some, None, arith}
use Rattle.std.specs.Prelude.{◌&&◌, if◌then◌else◌, option_and_then}
use Rattle.std.proofs.lemmas.Bool.Decides.{nat_tests}
use Rattle.certpath_files.specs.Parts.{Part, part_at}
use Rattle.certpath_files.specs.Shapes.{is_none, is_next, begins_with_parts, of_three, signed_content}

-- a part is wanted if there is none
pub none_left : (firsts rest : List ℕ) (i : ℕ) → i < length firsts → part_at rest ≡ None → begins_with_parts (drop i firsts) rest ≡ false
none_left firsts rest i h e =
    ap (λ z. begins_with_parts z rest) (drop-cons firsts i 0 h)
    ∙ ap (is_next (get_or firsts i 0) (begins_with_parts (drop (suc i) firsts))) e

-- the four elements, one after another
pub signed_is : (octets : List ℕ) (w s a g : Part) → Some w ≡ part_at octets → Some s ≡ part_at w.content → Some a ≡ part_at s.rest → Some g ≡ part_at a.rest → signed_content octets ≡ of_three s a g
signed_is octets w s a g e f h k =
    ap
    (
    λ z. option_and_then (λ (whole : Part). option_and_then (λ (signed : Part). option_and_then (λ (algorithm : Part). option_and_then (λ (signature : Part). of_three signed algorithm signature)
    (part_at algorithm.rest)) (part_at signed.rest)) (part_at whole.content)) z
    )
    (sym e)
    ∙ ap
    (
    λ z. option_and_then (λ (signed : Part). option_and_then (λ (algorithm : Part). option_and_then (λ (signature : Part). of_three signed algorithm signature) (part_at algorithm.rest)) (part_at signed.rest)) z
    )
    (sym f)
    ∙ ap (λ z. option_and_then (λ (algorithm : Part). option_and_then (λ (signature : Part). of_three s algorithm signature) (part_at algorithm.rest)) z) (sym h)
    ∙ ap (λ z. option_and_then (λ (signature : Part). of_three s a signature) z) (sym k)

second_no : (x z w : Bool) (p : Option (List ℕ)) → (if x && false && z && w then p else None) ≡ None
second_no true z w p = refl
second_no false z w p = refl

third_no : (x y w : Bool) (p : Option (List ℕ)) → (if x && y && false && w then p else None) ≡ None
third_no true true w p = refl
third_no true false w p = refl
third_no false y w p = refl

fourth_no : (x y z : Bool) (p : Option (List ℕ)) → (if x && y && z && false then p else None) ≡ None
fourth_no true true true p = refl
fourth_no true true false p = refl
fourth_no true false z p = refl
fourth_no false y z p = refl

differs : (m n : ℕ) → m ≢ n → (m == n) ≡ false
differs m n h = grind (arith, nat_tests)

pub other_signed : (s a g : Part) → s.first ≢ 48 → of_three s a g ≡ None
other_signed s a g h = ap (λ (x : Bool). if x && (a.first == 48) && (g.first == 3) && is_none g.rest then Some s.content else None) (differs s.first 48 h)

pub other_algorithm : (s a g : Part) → a.first ≢ 48 → of_three s a g ≡ None
other_algorithm s a g h =
    ap (λ (y : Bool). if (s.first == 48) && y && (g.first == 3) && is_none g.rest then Some s.content else None) (differs a.first 48 h)
    ∙ second_no (s.first == 48) (g.first == 3) (is_none g.rest) (Some s.content)

pub other_signature : (s a g : Part) → g.first ≢ 3 → of_three s a g ≡ None
other_signature s a g h =
    ap (λ (z : Bool). if (s.first == 48) && (a.first == 48) && z && is_none g.rest then Some s.content else None) (differs g.first 3 h)
    ∙ third_no (s.first == 48) (a.first == 48) (is_none g.rest) (Some s.content)

some_left : (s : List ℕ) → (length s == 0) ≡ false → is_none s ≡ false
some_left [] e = absurd (let f : true ≡ false = e in cc)
some_left (o ∷ s) e = refl

pub more_behind : (s a g : Part) → (length g.rest == 0) ≡ false → of_three s a g ≡ None
more_behind s a g h =
    ap (λ (w : Bool). if (s.first == 48) && (a.first == 48) && (g.first == 3) && w then Some s.content else None) (some_left g.rest h)
    ∙ fourth_no (s.first == 48) (a.first == 48) (g.first == 3) (Some s.content)
