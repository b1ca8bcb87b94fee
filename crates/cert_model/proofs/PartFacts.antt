-- An element at the front of octets, by its strict header.
use Rattle.std.proofs.Common.{◌≡◌, ◌∙◌, ap, ℕ, ◌+◌, ◌-◌, ◌^◌, ◌<◌, ◌≤◌, List, ◌++◌, Bool, length, arith, append_assoc, length-append, lit<, take, drop}
use Rattle.std.proofs.Math.Seq.{take-append_seam, drop-append_seam, take-length}
use Rattle.asn1_core.specs.Strict.{IsHead, strict_header}
use Rattle.asn1_core.specs.Elements.{Element, head_of_element, element_octets}
use Rattle.asn1_core.specs.Views.{class_number}
use Rattle.asn1_core.specs.declared.class.Class.{Class}
use Rattle.asn1_core.specs.declared.class.Class.TheVariants.{Universal, Application, ContextSpecific, Private}
use Rattle.cert_model.specs.Parts.{element_of}

class_below : (class : Class) → class_number class < 4
class_below Universal = lit< tt
class_below Application = lit< tt
class_below ContextSpecific = lit< tt
class_below Private = lit< tt

pub element_head : (class : Class) (constructed : Bool) (tag : ℕ) (content rest s : List ℕ) → tag < 2 ^ 32 → length s < 2 ^ 64
    → s ≡ element_octets (element_of class constructed tag content) ++ rest
    → IsHead (head_of_element (element_of class constructed tag content)) × (s ≡ strict_header (head_of_element (element_of class constructed tag content)) ++ (content ++ rest))
element_head class constructed tag content rest s small fits e =
    let h = strict_header (head_of_element (element_of class constructed tag content)) in
    let spelled : s ≡ h ++ (content ++ rest) = e ∙ append_assoc h content rest in
    let long : length s ≡ length h + (length content + length rest) = ap length spelled ∙ length-append h (content ++ rest) ∙ ap (λ n. length h + n) (length-append content rest) in
    let below = class_below class in
    (record { class = below; tag = small; size = omega arith }, spelled)

-- what comes after a header of a size holds the content
pub content_at : (n : ℕ) (after content rest : List ℕ) → n ≡ length content → after ≡ content ++ rest
    → (n ≤ length after) × (take n after ≡ content) × (take (length after - n) (drop n after) ≡ rest)
content_at n after content rest size e =
    let long : length after ≡ length content + length rest = ap length e ∙ length-append content rest in
    let d : drop n after ≡ rest = rw (e, size) (drop-append_seam content rest) in
    let m : length after - n ≡ length rest = omega arith in
    (omega arith, rw (e, size) (take-append_seam content rest), rw (m, d) (take-length rest))

-- the header and the content of an element of any identifier
pub part_head : (e : Element) (rest s : List ℕ) → e.class < 4 → e.tag < 2 ^ 32 → length s < 2 ^ 64 → s ≡ element_octets e ++ rest
    → IsHead (head_of_element e) × (s ≡ strict_header (head_of_element e) ++ (e.content ++ rest))
part_head e rest s class tag fits is =
    let h = strict_header (head_of_element e) in
    let spelled : s ≡ h ++ (e.content ++ rest) = is ∙ append_assoc h e.content rest in
    let long : length s ≡ length h + (length e.content + length rest) = ap length spelled ∙ length-append h (e.content ++ rest) ∙ ap (λ n. length h + n) (length-append e.content rest) in
    (record { class = class; tag = tag; size = omega arith }, spelled)

-- what is left when the rest is taken off the end
pub front_at : (s part rest : List ℕ) (n : ℕ) → s ≡ part ++ rest → n ≡ length s - length rest → take n s ≡ part
front_at s part rest n e m =
    let long : length s ≡ length part + length rest = ap length e ∙ length-append part rest in
    let size : n ≡ length part = omega arith in
    rw (size, e) (take-append_seam part rest)
