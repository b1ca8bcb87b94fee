-- What is read back of what was written.
use Rattle.std.proofs.Common.{◌≡◌, ◌∙◌, ◌++◌, refl, sym, ap, subst, ℕ, ◌^◌, ◌<◌, List, Option, Some, None, Result, Ok, Err, append_assoc}
use Rattle.asn1_core.specs.Strict.{strict_header}
use Rattle.asn1_core.specs.Elements.{Element, head_of_element, IsElement, element_octets}
use Rattle.asn1_core.specs.declared.error.Error.{Error}
use Rattle.asn1_core.specs.declared.error.Needed.{Needed}
use Rattle.asn1_core.specs.declared.outcome.Err.{Err as Refusal}
use Rattle.asn1_core.specs.declared.outcome.Err.TheVariants as refusals
use Rattle.asn1_core.proofs.StrictLaws.{header_is_lenient}
use Rattle.asn1_traits.specs.Reads.{Reads, NoneReads}
use Rattle.asn1_traits.proofs.Outcomes.{lacks_none}
use Rattle.asn1_traits.specs.Writes.{written, IsLong, IsOneElement, HasTag}
use Rattle.asn1_traits.specs.Options.{BeginsWithTag, IsAbsent, OptionReads, option_element, WhereSome}
use Rattle.asn1_traits.specs.OptionLaws.{der_headers, not_both}
use Rattle.asn1_traits.specs.LeafLaws.{short_element}
use Rattle.asn1_traits.specs.ListLaws.{OneEach, BackEach, SameEach, OneRest}
use Rattle.asn1_traits.specs.Rounds.{BackOr, SameOption, RestFits}

-- if there is a value, the reader returns one, or memory ran out
pub answered : {V E I : Type 0} (gives : Error → E → Type 0) (grows : Type 0) (Cut : List ℕ → Needed → Type 0) (at : I → List ℕ) (reads : List ℕ → V → List ℕ → Type 0) (octets : List ℕ) (r : Result (I × V) (Refusal E)) (P : V → List ℕ → Type 0) (w : V) (rest : List ℕ) →
    reads octets w rest → ((v : V) (s : List ℕ) → reads octets v s → P v s) → Reads gives grows Cut at reads octets r → BackOr gives at P r
answered gives grows Cut at reads octets (Ok x) P w rest read f h = f x.1 (at x.0) h
answered gives grows Cut at reads octets (Err (refusals.Incomplete n)) P w rest read f h = lacks_none reads octets n h.1 w rest read
answered gives grows Cut at reads octets (Err (refusals.Error e)) P w rest read f h = h.0 w rest read
answered gives grows Cut at reads octets (Err (refusals.Failure e)) P w rest read f h = h.0

pub element_back : {V E I : Type 0} (gives : Error → E → Type 0) (grows : Type 0) (Cut : List ℕ → Needed → Type 0) (at : I → List ℕ) (formed : V → Type 0) (element : V → Option Element) (reads : List ℕ → V → List ℕ → Type 0) →
    BackEach formed element reads → SameEach formed element reads → OneRest reads → (octets : List ℕ) (r : Result (I × V) (Refusal E)) → Reads gives grows Cut at reads octets r →
    (v : V) (rest : List ℕ) → formed v → (IsLong (written (element v)) → ⊥) → octets ≡ written (element v) ++ rest → BackOr gives at (λ w s. (element w ≡ element v) × (s ≡ rest)) r
element_back gives grows Cut at formed element reads back same once octets r h v rest form short e =
    let found = back v rest form short in
    let Read = λ (z : List ℕ). reads z found.0 rest in
    answered gives grows Cut at reads octets r (λ w s. (element w ≡ element v) × (s ≡ rest)) found.0 rest (subst Read (sym e) found.1)
    (λ w s read.
    let Again = λ (z : List ℕ). reads z w s in
    let read_it = subst Again e read in
    (same v w rest s form short read_it, once (written (element v) ++ rest) w found.0 s rest read_it found.1)) h

-- an element's header gives its tag number
tagged : (o : Option Element) (tag : ℕ) (rest : List ℕ) → IsOneElement o → HasTag tag o → (IsLong (written o) → ⊥) → BeginsWithTag (written o ++ rest) tag
tagged None tag rest one has short = absurd one
tagged (Some e) tag rest one has short =
    let in_range : IsElement e = short_element e one.0 one.1 short in
    record {
      head = head_of_element e;
      front = strict_header (head_of_element e);
      rest = e.content ++ rest;
      in_range = in_range;
      spells = header_is_lenient (head_of_element e) in_range;
      whole = append_assoc (strict_header (head_of_element e)) e.content rest;
      tells = has;
    }

some_back : {V : Type 0} (tag : ℕ) (formed : V → Type 0) (element : V → Option Element) (reads : List ℕ → V → List ℕ → Type 0) → SameEach formed element reads → OneRest reads →
    (octets : List ℕ) (v : V) (rest : List ℕ) → formed v → (IsLong (written (element v)) → ⊥) → BeginsWithTag octets tag → octets ≡ written (element v) ++ rest →
    (x : V) → reads (written (element v) ++ rest) x rest →
    (w : Option V) (s : List ℕ) → OptionReads BeginsWithTag tag reads octets w s → SameOption element (Some v) w × (s ≡ rest)
some_back tag formed element reads same once octets v rest form short begins e x read (Some w) s other =
    let Again = λ (z : List ℕ). reads z w s in
    let read_it = subst Again e other.1 in
    (same v w rest s form short read_it, once (written (element v) ++ rest) w x s rest read_it read)
some_back tag formed element reads same once octets v rest form short begins e x read None s other = absurd (not_both BeginsWithTag tag octets der_headers begins other.0)

none_back : {V : Type 0} (tag : ℕ) (element : V → Option Element) (reads : List ℕ → V → List ℕ → Type 0) (octets rest : List ℕ) → IsAbsent BeginsWithTag tag octets → octets ≡ rest →
    (w : Option V) (s : List ℕ) → OptionReads BeginsWithTag tag reads octets w s → SameOption element None w × (s ≡ rest)
none_back tag element reads octets rest absent e (Some w) s other = absurd (not_both BeginsWithTag tag octets der_headers other.0 absent)
none_back tag element reads octets rest absent e None s other = (tt, other.1 ∙ e)

-- a present value is read back as one, an absent one before a rest that is read as absent
pub option_back : {V E I : Type 0} (gives : Error → E → Type 0) (grows : Type 0) (Cut : List ℕ → Needed → Type 0) (at : I → List ℕ) (tag : ℕ) (formed : V → Type 0) (element : V → Option Element) (reads : List ℕ → V → List ℕ → Type 0) →
    OneEach formed element → ((v : V) → formed v → HasTag tag (element v)) → BackEach formed element reads → SameEach formed element reads → OneRest reads →
    (octets : List ℕ) (r : Result (I × Option V) (Refusal E)) → Reads gives grows Cut at (OptionReads BeginsWithTag tag reads) octets r →
    (v : Option V) (rest : List ℕ) → WhereSome formed v → (IsLong (written (option_element element v)) → ⊥) → RestFits (IsAbsent BeginsWithTag tag) v rest → octets ≡ written (option_element element v) ++ rest →
    BackOr gives at (λ w s. SameOption element v w × (s ≡ rest)) r
option_back gives grows Cut at tag formed element reads one has back same once octets r h (Some v) rest form short fits e =
    let found = back v rest form short in
    let begins : BeginsWithTag octets tag = let Begins = λ (z : List ℕ). BeginsWithTag z tag in subst Begins (sym e) (tagged (element v) tag rest (one v form) (has v form) short) in
    let Read = λ (z : List ℕ). reads z found.0 rest in
    answered gives grows Cut at (OptionReads BeginsWithTag tag reads) octets r (λ w s. SameOption element (Some v) w × (s ≡ rest)) (Some found.0) rest (begins, subst Read (sym e) found.1)
    (some_back tag formed element reads same once octets v rest form short begins e found.0 found.1) h
option_back {V} gives grows Cut at tag formed element reads one has back same once octets r h None rest form short fits e =
    let absent : IsAbsent BeginsWithTag tag octets = let Absent = λ (z : List ℕ). IsAbsent BeginsWithTag tag z in subst Absent (sym e) fits in
    answered gives grows Cut at (OptionReads BeginsWithTag tag reads) octets r (λ w s. SameOption element None w × (s ≡ rest)) None octets (absent, refl)
    (none_back tag element reads octets rest absent e) h
