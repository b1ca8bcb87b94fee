-- Pieces that are written one by one are the text of the name.
use Rattle.std.proofs.Common.{◌≡◌, ◌∙◌, refl, sym, ap, ℕ, Bool, true, false, ◌&&◌, ◌||◌, ◌==◌, if◌then◌else◌, List, [], ◌∷◌, ◌++◌, map, append_assoc, Option, Some, None, option_map, is_some}
use Rattle.std.specs.Prelude.{codes}
use Rattle.std.specs.List.{flat_map, list_all}
use Rattle.std.specs.Str.{IsUtf8, is_utf8}
use Rattle.std.proofs.lemmas.Str.{IsUtf8-from_is_utf8, is_utf8-from_IsUtf8}
use Rattle.asn1_core.specs.Elements.{Element}
use Rattle.x509_names.specs.Fields.{Attribute, Name}
use Rattle.x509_names.specs.NameTexts.{is_shown_as_text, utf8_text, wide_text, upper_hex, value_text, type_text, attribute_text, also, each_of, joined, set_text, name_text}
use Rattle.x509_names.specs.Writing.{or_nothing, value_piece, attribute_piece, set_piece, sets_piece, can_be_shown, set_can_be_shown, sets_can_be_shown, is_nonempty, separator_if, left_texts}

-- a text, and those after it
pub next_text : (begun : Bool) (separator text : List ℕ) (texts : List (List ℕ))
    → left_texts begun separator (text ∷ texts) ≡ separator_if begun separator ++ (text ++ left_texts (begun || is_nonempty text) separator texts)
next_text true separator text texts = append_assoc separator text (flat_map (λ t. separator ++ t) texts)
next_text false separator [] texts = refl
next_text false separator (x ∷ text) texts = refl

pub nothing_left : (begun : Bool) (separator : List ℕ) → left_texts begun separator [] ≡ []
nothing_left true separator = refl
nothing_left false separator = refl

some_behind : (before text : List ℕ) (x : ℕ) → is_nonempty (before ++ (x ∷ text)) ≡ true
some_behind [] text x = refl
some_behind (y ∷ before) text x = refl

pub attribute_is_some : (label : List ℕ → Option (List ℕ)) (a : Attribute) → is_nonempty (attribute_piece label a) ≡ true
attribute_is_some label a = some_behind (type_text label a.identifier) (value_piece a.value) 61

joined_is_some : (separator text : List ℕ) (texts : List (List ℕ)) → is_nonempty text ≡ true → is_nonempty (joined separator (text ∷ texts)) ≡ true
joined_is_some separator [] texts is = cc
joined_is_some separator (x ∷ text) texts is = refl

pub set_is_some : (label : List ℕ → Option (List ℕ)) (attributes : List Attribute) → is_nonempty (set_piece label attributes) ≡ is_nonempty attributes
set_is_some label [] = refl
set_is_some label (a ∷ attributes) = joined_is_some (codes " + ") (attribute_piece label a) (map (attribute_piece label) attributes) (attribute_is_some label a)

-- each text is there, or one of them isn't
also_by : {A : Type 0} (is all : Bool) (x : A) (xs : List A)
    → also (if is then Some x else None) (if all then Some xs else None) ≡ (if is && all then Some (x ∷ xs) else None)
also_by true true x xs = refl
also_by true false x xs = refl
also_by false all x xs = refl

pub each_by : {A B : Type 0} (told : A → Option B) (test : A → Bool) (piece : A → B) → ((x : A) → told x ≡ (if test x then Some (piece x) else None))
    → (xs : List A) → each_of (map told xs) ≡ (if list_all test xs then Some (map piece xs) else None)
each_by told test piece one [] = refl
each_by told test piece one (x ∷ xs) =
    ap (λ o. also o (each_of (map told xs))) (one x) ∙ ap (λ o. also (if test x then Some (piece x) else None) o) (each_by told test piece one xs)
    ∙ also_by (test x) (list_all test xs) (piece x) (map piece xs)

mapped_by : {A B : Type 0} (f : A → B) (is : Bool) (x : A) → option_map f (if is then Some x else None) ≡ (if is then Some (f x) else None)
mapped_by f true x = refl
mapped_by f false x = refl

shown_by : (o : Option (List ℕ)) → o ≡ (if is_some o then Some (or_nothing o) else None)
shown_by None = refl
shown_by (Some x) = refl

piece_by : (text wide : Bool) (u w : Option (List ℕ)) (h : List ℕ)
    → or_nothing (if text then u else (if wide then w else Some h)) ≡ (if text then or_nothing u else (if wide then or_nothing w else h))
piece_by true wide u w h = refl
piece_by false true u w h = refl
piece_by false false u w h = refl

pub value_by : (e : Element) → value_text e ≡ (if is_some (value_text e) then Some (value_piece e) else None)
value_by e =
    shown_by (value_text e)
    ∙ ap (λ v. if is_some (value_text e) then Some v else None)
    (piece_by (is_shown_as_text e.tag) (e.tag == 30) (utf8_text e.content) (wide_text e.content) (upper_hex e.content))

attribute_by : (label : List ℕ → Option (List ℕ)) (a : Attribute) → attribute_text label a ≡ (if can_be_shown a then Some (attribute_piece label a) else None)
attribute_by label a =
    ap (option_map (λ value. type_text label a.identifier ++ 0x3D ∷ value)) (value_by a.value)
    ∙ mapped_by (λ value. type_text label a.identifier ++ 0x3D ∷ value) (can_be_shown a) (value_piece a.value)

set_by : (label : List ℕ → Option (List ℕ)) (attributes : List Attribute)
    → set_text label attributes ≡ (if set_can_be_shown attributes then Some (set_piece label attributes) else None)
set_by label attributes =
    ap (option_map (joined (codes " + "))) (each_by (attribute_text label) can_be_shown (attribute_piece label) (attribute_by label) attributes)
    ∙ mapped_by (joined (codes " + ")) (set_can_be_shown attributes) (map (attribute_piece label) attributes)

-- the text of a name is what is written, if each value can be shown
pub sets_by : (label : List ℕ → Option (List ℕ)) (sets : List (List Attribute))
    → option_map (joined (codes ", ")) (each_of (map (set_text label) sets)) ≡ (if sets_can_be_shown sets then Some (sets_piece label sets) else None)
sets_by label sets =
    ap (option_map (joined (codes ", "))) (each_by (set_text label) set_can_be_shown (set_piece label) (set_by label) sets)
    ∙ mapped_by (joined (codes ", ")) (sets_can_be_shown sets) (map (set_piece label) sets)

-- a content that is UTF-8, and one that isn't
pub utf8_told : (content : List ℕ) → IsUtf8 content → utf8_text content ≡ Some content
utf8_told content is = rw (is_utf8-from_IsUtf8 content is) refl

utf8_by : (b : Bool) (content : List ℕ) → (b ≡ true → ⊥) → (let o : Option (List ℕ) = if b then Some content else None in o ≡ None)
utf8_by true content other = absurd (other refl)
utf8_by false content other = refl

pub utf8_missing : (content : List ℕ) → (IsUtf8 content → ⊥) → utf8_text content ≡ None
utf8_missing content other = utf8_by (is_utf8 content) content (λ is. other (IsUtf8-from_is_utf8 content is))

-- what is returned for a name whose values can be shown, and of another
pub name_told : (label : List ℕ → Option (List ℕ)) (name : Name) → sets_can_be_shown name.sets ≡ true → name_text label name ≡ Some (sets_piece label name.sets)
name_told label name is = sets_by label name.sets ∙ ap (λ b. if b then Some (sets_piece label name.sets) else None) is

pub name_missing : (label : List ℕ → Option (List ℕ)) (name : Name) → sets_can_be_shown name.sets ≡ false → name_text label name ≡ None
name_missing label name other = sets_by label name.sets ∙ ap (λ b. if b then Some (sets_piece label name.sets) else None) other

or_so : (begun some : Bool) → some ≡ true → (begun || some) ≡ true
or_so true some is = refl
or_so false some is = is

-- a text that isn't empty, and those after it
pub next_some : (begun : Bool) (separator text : List ℕ) (texts : List (List ℕ)) → is_nonempty text ≡ true
    → left_texts begun separator (text ∷ texts) ≡ separator_if begun separator ++ (text ++ left_texts true separator texts)
next_some begun separator text texts is =
    next_text begun separator text texts
    ∙ ap (λ b. separator_if begun separator ++ (text ++ left_texts b separator texts)) (or_so begun (is_nonempty text) is)

nonempty_map : {A B : Type 0} (f : A → B) (xs : List A) → is_nonempty (map f xs) ≡ is_nonempty xs
nonempty_map f [] = refl
nonempty_map f (x ∷ xs) = refl

-- the text of a set is there if an attribute is
pub set_begins : {A : Type 0} (label : List ℕ → Option (List ℕ)) (view : A → Attribute) (attributes : List A)
    → is_nonempty attributes ≡ is_nonempty (set_piece label (map view attributes))
set_begins label view attributes = sym (set_is_some label (map view attributes) ∙ nonempty_map view attributes)

pub regroup : (a b c d : List ℕ) → ((a ++ b) ++ c) ++ d ≡ a ++ (b ++ (c ++ d))
regroup a b c d = simp append_assoc
