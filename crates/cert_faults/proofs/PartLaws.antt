-- Each part of the grammar has no fault exactly if it is read.
use Rattle.std.proofs.Common.{◌≡◌, refl, ap, ℕ, ◌&&◌, nat_lt, List, ◌∷◌, length, Bool, true, false, if◌then◌else◌, Option, Some, None, Ok, Err, option_and_then, arith, subst}
use Rattle.std.proofs.lemmas.Bool.{lt-ltb}
use Rattle.der_tree.specs.Table.{octet_string}
use Rattle.der_tree.specs.Tree.{Tree, Trees, none, more, octets}
use Rattle.der_tree.specs.Access.{sequence_at, set_at, boolean_at, plain_at, first_at, end_at}
use Rattle.cert_model.specs.Fields.{Attribute}
use Rattle.cert_model.specs.Range.{is_at_most}
use Rattle.cert_model.specs.Reads.{identifier_at, number_at, bits_at, last_element_at, algorithm_at, attribute_at, list_at, ascend, relative_name_at, name_at, key_at, critical_of, critical_at, extension_at, extensions_at}
use Rattle.cert_model.specs.Times.{time_at}
use Rattle.cert_model.specs.Pieces.{validity_at}
use Rattle.cert_faults.specs.declared.places.Field.{Field}
use Rattle.cert_faults.specs.declared.places.Field.TheVariants as fields
use Rattle.cert_faults.specs.declared.places.Part.TheVariants as parts
use Rattle.cert_faults.specs.declared.places.Expected.TheVariants as wants
use Rattle.cert_faults.specs.declared.steps.Place.{Place}
use Rattle.cert_faults.specs.declared.steps.Blame.{Blame}
use Rattle.cert_faults.specs.declared.places.Expected.{Expected}
use Rattle.cert_faults.specs.Steps.{Outcome, ◌>>=◌, unlike, whole, within, inside, left_after, Rest, test, first_or, end_or, next_or, each_in}
use Rattle.cert_faults.specs.Walks as walks
use Rattle.cert_faults.specs.Walks.{identifier_fault, number_fault, bits_fault, octets_fault, time_fault, any_fault, last_in, algorithm_fault, attribute_fault, ascending_fault, attributes_in, relative_name_fault, name_fault, validity_fault, key_fault, critical_in, extension_fault, extensions_fault}
use Rattle.cert_faults.proofs.Agreeing.{Agrees, check_agrees, end_agrees, made_agrees, parts_agree, part_agrees, next_agrees, each_agrees}

pub identifier_agrees : (place : Place) (n : ℕ) (t : Tree) → Agrees (identifier_fault place n t) (identifier_at t)
identifier_agrees place n t = check_agrees (unlike place wants.Identifier n) (identifier_at t)

pub number_agrees : (place : Place) (n : ℕ) (t : Tree) → Agrees (number_fault place n t) (number_at t)
number_agrees place n t = check_agrees (unlike place wants.NumberFromZero n) (number_at t)

pub bits_agrees : (place : Place) (n : ℕ) (t : Tree) → Agrees (bits_fault place n t) (bits_at t)
bits_agrees place n t = check_agrees (unlike place wants.BitString n) (bits_at t)

pub octets_agrees : (place : Place) (n : ℕ) (t : Tree) → Agrees (octets_fault place n t) (plain_at octet_string t)
octets_agrees place n t = check_agrees (unlike place wants.OctetString n) (plain_at octet_string t)

pub time_agrees : (place : Place) (n : ℕ) (t : Tree) → Agrees (time_fault place n t) (time_at t)
time_agrees place n t = check_agrees (unlike place wants.Time n) (time_at t)

last_agrees : (place : Place) (n : ℕ) (ts : Trees) → Agrees (last_in place n ts) (last_element_at ts)
last_agrees place n none = tt
last_agrees place n (more t none) = tt
last_agrees place n (more t (more u us)) = tt

pub algorithm_agrees : (field : Field) (n : ℕ) (t : Tree) → Agrees (algorithm_fault field n t) (algorithm_at t)
unfolding algorithm_fault algorithm_at
algorithm_agrees field n t =
    parts_agree _ (inside n t) (sequence_at t) _ _ (λ ts.
    part_agrees (identifier_fault (within field parts.Algorithm)) identifier_at (identifier_agrees (within field parts.Algorithm)) (within field parts.Algorithm) wants.Identifier (inside n t) ts _ _ (λ u us a.
    made_agrees (last_in (within field parts.Parameters) (left_after (inside n t) u) us) (last_element_at us) _ (last_agrees (within field parts.Parameters) (left_after (inside n t) u) us)))

any_last : {A : Type 0} (place last : Place) (n : ℕ) (ts : Trees) (h : Tree × Trees → A) → Agrees (next_or any_fault place wants.AnyElement (ts, n) >>= end_or last) (option_and_then (λ second. option_and_then (λ end. Some (h second)) (end_at second.1)) (first_at ts))
any_last place last n none h = tt
any_last place last n (more t none) h = tt
any_last place last n (more t (more u us)) h = tt

pub attribute_agrees : (field : Field) (n : ℕ) (t : Tree) → Agrees (attribute_fault field n t) (attribute_at t)
unfolding attribute_fault attribute_at
attribute_agrees field n t =
    parts_agree _ (inside n t) (sequence_at t) _ _ (λ ts.
    part_agrees (identifier_fault (within field parts.Type)) identifier_at (identifier_agrees (within field parts.Type)) (within field parts.Type) wants.Identifier (inside n t) ts _ _ (λ u us a.
    any_last (within field parts.Value) (within field parts.Attribute) (left_after (inside n t) u) us _))

-- attributes after one whose octets are known

abbrev at_most : Option (List ℕ) → Tree → Bool
at_most None t = true
at_most (Some s) t = is_at_most s (octets t)

abbrev ordered : Trees → Option (List ℕ) → Bool
ordered none before = true
ordered (more t ts) before = at_most before t && ordered ts (Some (octets t))

ordered_ascends : (t : Tree) (ts : Trees) → ordered ts (Some (octets t)) ≡ ascend (more t ts)
ordered_ascends t none = refl
ordered_ascends t (more u us) = ap (λ z. is_at_most (octets t) (octets u) && z) (ordered_ascends u us)

one_more : (f g : Outcome (Unit {0})) (o : Option Attribute) (b : Bool) (rest : Option (List Attribute)) → Agrees f o → Agrees g (if b then rest else None) →
    Agrees (f >>= (λ ok. g)) (if b then option_and_then (λ a. option_and_then (λ bs. Some (a ∷ bs)) rest) o else None)
one_more (Ok x) g (Some a) true rest p q = made_agrees g rest (λ bs. a ∷ bs) q
one_more (Ok x) g (Some a) false rest p q = q
one_more (Ok x) g None b rest p q = absurd p
one_more (Err e) g (Some a) b rest p q = absurd p
one_more (Err e) g None true rest p q = tt
one_more (Err e) g None false rest p q = tt

tested : {A : Type 0} (e : Blame) (b c : Bool) (f : Outcome (Unit {0})) (l : Option A) → Agrees f (if c then l else None) → Agrees (test e b >>= (λ ok. f)) (if b && c then l else None)
tested e true c f l p = p
tested e false c f l p = tt

attributes_agree : (field : Field) (n : ℕ) (ts : Trees) (before : Option (List ℕ)) → Agrees (attributes_in field before n ts) (if ordered ts before then list_at attribute_at ts else None)
attributes_agree field n none before = tt
attributes_agree field n (more t ts) None =
    one_more (attribute_fault field n t) (attributes_in field (Some (octets t)) (left_after n t) ts) (attribute_at t) (ordered ts (Some (octets t))) (list_at attribute_at ts) (attribute_agrees field n t) (attributes_agree field (left_after n t) ts (Some (octets t)))
attributes_agree field n (more t ts) (Some s) =
    tested (unlike (within field parts.Attribute) wants.Ascending n) (is_at_most s (octets t)) (ordered ts (Some (octets t)))
    (attribute_fault field n t >>= (λ ok. attributes_in field (Some (octets t)) (left_after n t) ts)) (list_at attribute_at (more t ts))
    (one_more (attribute_fault field n t) (attributes_in field (Some (octets t)) (left_after n t) ts) (attribute_at t) (ordered ts (Some (octets t))) (list_at attribute_at ts) (attribute_agrees field n t) (attributes_agree field (left_after n t) ts (Some (octets t))))

is_long : {A : Type 0} (a : A) (bs : List A) → nat_lt 0 (length (a ∷ bs)) ≡ true
is_long a bs = lt-ltb 0 (length (a ∷ bs)) (omega arith)

-- one or more of what is read

long_agrees : {A C : Type 0} (r : Outcome C) (o : Option A) (rest : Option (List A)) → Agrees r (option_and_then (λ a. option_and_then (λ bs. Some (a ∷ bs)) rest) o) →
    Agrees r (option_and_then (λ (es : List A). if nat_lt 0 (length es) then Some es else None) (option_and_then (λ a. option_and_then (λ bs. Some (a ∷ bs)) rest) o))
long_agrees r (Some a) (Some bs) p = rw (is_long a bs) p
long_agrees r (Some a) None p = p
long_agrees r None rest p = p

long_ordered : {C : Type 0} (r : Outcome C) (o : Option Attribute) (rest : Option (List Attribute)) (b : Bool) →
    Agrees r (if b then option_and_then (λ a. option_and_then (λ bs. Some (a ∷ bs)) rest) o else None) →
    Agrees r (option_and_then (λ (es : List Attribute). if nat_lt 0 (length es) && b then Some es else None) (option_and_then (λ a. option_and_then (λ bs. Some (a ∷ bs)) rest) o))
long_ordered r (Some a) (Some bs) true p = rw (is_long a bs) p
long_ordered r (Some a) (Some bs) false p = rw (is_long a bs) p
long_ordered r (Some a) None true p = p
long_ordered r (Some a) None false p = p
long_ordered r None rest true p = p
long_ordered r None rest false p = p

pub some_agree : {A : Type 0} (fault : ℕ → Tree → Outcome (Unit {0})) (read : Tree → Option A) → ((n : ℕ) (t : Tree) → Agrees (fault n t) (read t)) → (place : Place) (expected : Expected) (n : ℕ) (ts : Trees) →
    Agrees (first_or place expected (ts, n) >>= (λ first. each_in fault n ts)) (option_and_then (λ (es : List A). if nat_lt 0 (length es) then Some es else None) (list_at read ts))
some_agree fault read laws place expected n none = tt
some_agree fault read laws place expected n (more t ts) = long_agrees (each_in fault n (more t ts)) (read t) (list_at read ts) (each_agrees fault read laws n (more t ts))

some_attributes : (field : Field) (n : ℕ) (ts : Trees) →
    Agrees (first_or (within field parts.RelativeName) wants.OneAttribute (ts, n) >>= (λ first. attributes_in field None n ts))
    (option_and_then (λ (es : List Attribute). if nat_lt 0 (length es) && ascend ts then Some es else None) (list_at attribute_at ts))
some_attributes field n none = tt
some_attributes field n (more t ts) =
    long_ordered (attributes_in field None n (more t ts)) (attribute_at t) (list_at attribute_at ts) (ascend (more t ts))
    (subst (λ b. Agrees (attributes_in field None n (more t ts)) (if b then list_at attribute_at (more t ts) else None)) (ordered_ascends t ts) (attributes_agree field n (more t ts) None))

pub relative_name_agrees : (field : Field) (n : ℕ) (t : Tree) → Agrees (relative_name_fault field n t) (relative_name_at t)
unfolding relative_name_fault relative_name_at
relative_name_agrees field n t = parts_agree _ (inside n t) (set_at t) _ _ (λ ts. some_attributes field (inside n t) ts)

pub name_agrees : (field : Field) (n : ℕ) (t : Tree) → Agrees (name_fault field n t) (name_at t)
unfolding name_fault name_at
name_agrees field n t =
    parts_agree _ (inside n t) (sequence_at t) _ _ (λ ts. each_agrees (relative_name_fault field) relative_name_at (relative_name_agrees field) (inside n t) ts)

pub validity_agrees : (n : ℕ) (t : Tree) → Agrees (validity_fault n t) (validity_at t)
unfolding validity_fault validity_at
validity_agrees n t =
    parts_agree _ (inside n t) (sequence_at t) _ _ (λ ts.
    next_agrees (time_fault (whole fields.NotBefore)) time_at (time_agrees (whole fields.NotBefore)) (whole fields.NotBefore) wants.Time (inside n t) ts _ _ (λ s a.
    next_agrees (time_fault (whole fields.NotAfter)) time_at (time_agrees (whole fields.NotAfter)) (whole fields.NotAfter) wants.Time s.1 s.0 _ _ (λ r b.
    made_agrees (end_or (whole fields.Validity) r) (end_at r.0) _ (end_agrees (whole fields.Validity) r.1 r.0))))

pub key_agrees : (n : ℕ) (t : Tree) → Agrees (key_fault n t) (key_at t)
unfolding key_fault key_at
key_agrees n t =
    parts_agree _ (inside n t) (sequence_at t) _ _ (λ ts.
    part_agrees (algorithm_fault fields.KeyAlgorithm) algorithm_at (algorithm_agrees fields.KeyAlgorithm) (whole fields.KeyAlgorithm) wants.Sequence (inside n t) ts _ _ (λ u us a.
    part_agrees (bits_fault (whole fields.SubjectPublicKey)) bits_at (bits_agrees (whole fields.SubjectPublicKey)) (whole fields.SubjectPublicKey) wants.BitString (left_after (inside n t) u) us _ _ (λ v vs b.
    made_agrees (end_or (whole fields.SubjectPublicKeyInfo) (vs, left_after (left_after (inside n t) u) v)) (end_at vs) _ (end_agrees (whole fields.SubjectPublicKeyInfo) (left_after (left_after (inside n t) u) v) vs))))

-- extensions

critical_by : {B D : Type 0} (field : Field) (n : ℕ) (t : Tree) (ts : Trees) (o : Option Bool) (f : Rest → Outcome B) (g : Bool × Trees → Option D) → ((s : Rest) (c : Bool) → Agrees (f s) (g (c, s.0))) →
    Agrees (walks.critical_of o field n t ts >>= f) (option_and_then g (critical_of o t ts))
critical_by field n t ts None f g h = h (more t ts, n) false
critical_by field n t ts (Some true) f g h = h (ts, left_after n t) true
critical_by field n t ts (Some false) f g h = tt

critical_agrees : {B D : Type 0} (field : Field) (n : ℕ) (ts : Trees) (f : Rest → Outcome B) (g : Bool × Trees → Option D) → ((s : Rest) (c : Bool) → Agrees (f s) (g (c, s.0))) →
    Agrees (critical_in field n ts >>= f) (option_and_then g (critical_at ts))
unfolding critical_at
critical_agrees field n none f g h = h (none, n) false
critical_agrees field n (more t ts) f g h = critical_by field n t ts (boolean_at t) f g h

pub extension_agrees : (field : Field) (n : ℕ) (t : Tree) → Agrees (extension_fault field n t) (extension_at t)
unfolding extension_fault extension_at
extension_agrees field n t =
    parts_agree _ (inside n t) (sequence_at t) _ _ (λ ts.
    part_agrees (identifier_fault (within field parts.ExtnId)) identifier_at (identifier_agrees (within field parts.ExtnId)) (within field parts.ExtnId) wants.Identifier (inside n t) ts _ _ (λ u us a.
    critical_agrees field (left_after (inside n t) u) us _ _ (λ s c.
    part_agrees (octets_fault (within field parts.ExtnValue)) (plain_at octet_string) (octets_agrees (within field parts.ExtnValue)) (within field parts.ExtnValue) wants.OctetString s.1 s.0 _ _ (λ v vs b.
    made_agrees (end_or (within field parts.Extension) (vs, left_after s.1 v)) (end_at vs) _ (end_agrees (within field parts.Extension) (left_after s.1 v) vs)))))

pub extensions_agree : (field : Field) (n : ℕ) (t : Tree) → Agrees (extensions_fault field n t) (extensions_at t)
unfolding extensions_fault extensions_at
extensions_agree field n t =
    parts_agree _ (inside n t) (sequence_at t) _ _ (λ ts. some_agree (extension_fault field) extension_at (extension_agrees field) (whole field) wants.OneExtension (inside n t) ts)
