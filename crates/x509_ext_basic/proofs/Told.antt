-- Which errors are returned for octets that begin with a part, but with no value.
use Rattle.std.proofs.Common.{◌≡◌, ◌∙◌, refl, sym, ap, subst, ℕ, List, [], ◌∷◌, Result, Ok, Err, IfErr, Bor}
use Rattle.std.specs.Int.Digits.{AllBelowBase}
use Rattle.asn1_core.specs.declared.error.Error.{Error}
use Rattle.asn1_core.specs.declared.error.Error.TheVariants as der
use Rattle.asn1_core.specs.declared.outcome.Err.{Err as Refusal}
use Rattle.asn1_core.specs.declared.outcome.Err.TheVariants as refusals
use Rattle.asn1_any.specs.Cutting.{Piece}
use Rattle.asn1_core.specs.Elements.{Element}
use Rattle.x509_core.specs.Answers.{Answer, Gives, plain, ◌>>=◌}
use Rattle.x509_core.specs.Grammar.{NoneBegins, One}
use Rattle.x509_core.specs.Leaves.{IsAny}
use Rattle.x509_core.specs.Reading.{piece_at, next, leaf_in}
use Rattle.x509_core.proofs.Grammars.{next_reading, two, content_below, front_below}
use Rattle.x509_core.proofs.LeafLaws.{any_meaning, was_some}
use Rattle.x509_core.specs.declared.error.X509Error.{X509Error}
use Rattle.x509_core.specs.declared.error.X509Error.TheVariants as errors
use Rattle.x509_ext_basic.specs.Leaves.{IsReason, IsSequence, BasicParts}
use Rattle.x509_ext_basic.specs.Reading.{reason_in, reason_at, sequence_in, parts_in, constraints_at, any_at}
use Rattle.x509_ext_basic.specs.Refusals.{ToldAs, fault_by, fault_in}
use Rattle.x509_ext_basic.specs.Values as values
use Rattle.x509_ext_basic.proofs.BasicLaws.{parts_found}
use Rattle.x509_ext_basic.proofs.Laws.{reason_found}

pub told_by : {X A : Type 0} (result : Result X (Refusal X509Error)) (error : A → Error) (part : Answer A) (a : A) → part ≡ Ok a → ((x : X) → result ≡ Ok x → ⊥) → IfErr result (ToldAs error part)
    → result ≡ Err (refusals.Error (errors.Der (error a)))
told_by (Ok x) error part a there none told = absurd (none x refl)
told_by (Err e) error (Ok b) a there none told = let same : b ≡ a = cc in ap (λ z. Err z) told ∙ ap (λ z. Err (refusals.Error (errors.Der (error z)))) same
told_by (Err e) error (Err why) a there none told = cc

-- a value before these octets
abbrev before : {A : Type 0} → List ℕ → A → Answer (A × List ℕ)
before t x = Ok (x, t)

-- what is made of a part, of the part at the front
made_by : {A B : Type 0} (m : Answer A) (f : A → Answer B) (t : List ℕ) (a : A) (s : List ℕ) (v : B) (r : List ℕ) → m >>= before t ≡ Ok (a, s) → (m >>= f) >>= before t ≡ Ok (v, r) → f a ≡ Ok v
made_by (Err e) f t a s v r part whole = cc
made_by {A = A} {B = B} (Ok b) f t a s v r part whole =
    let both : ◌≡◌ {A = A × List ℕ} (b, t) (a, s) = cc in
    let same : b ≡ a = ap (λ (z : A × List ℕ). z.0) both in
    let made = two (f b) _ (v, r) whole in
    let pair : ◌≡◌ {A = B × List ℕ} (made.0, t) (v, r) = cc in
    ap f (sym same) ∙ made.1 ∙ ap (λ (z : B × List ℕ). Ok z.0) pair

made_at : {A B : Type 0} (o : Answer (Piece × List ℕ)) (g : Piece → Answer A) (f : A → Answer B) (a : A) (s : List ℕ) (v : B) (r : List ℕ)
    → o >>= (λ e. g e.0 >>= before e.1) ≡ Ok (a, s) → o >>= (λ e. (g e.0 >>= f) >>= before e.1) ≡ Ok (v, r) → f a ≡ Ok v
made_at (Err e) g f a s v r part whole = cc
made_at (Ok p) g f a s v r part whole = made_by (g p.0) f p.1 a s v r part whole

pub reason_read : (i content rest : List ℕ) (n : ℕ) (r : List ℕ) → next (λ p. leaf_in 10 p.element) i ≡ Ok (content, rest) → reason_at i ≡ Ok (n, r) → IsReason content n
reason_read i content rest n r part whole =
    reason_found content n (was_some (reason_in content) n (made_at (piece_at i) (λ p. leaf_in 10 p.element) (λ c. plain (reason_in c)) content rest n r part whole))

pub constraints_read : (i content rest : List ℕ) (c : values.BasicConstraints) (r : List ℕ) → next (λ p. sequence_in p.element) i ≡ Ok (content, rest) → constraints_at i ≡ Ok (c, r) → BasicParts content c
constraints_read i content rest c r part whole =
    parts_found content c (was_some (parts_in content) c (made_at (piece_at i) (λ p. sequence_in p.element) (λ z. plain (parts_in z)) content rest c r part whole))

content_octets : (i content rest : List ℕ) → AllBelowBase 256 i → One IsSequence i content rest → AllBelowBase 256 content
content_octets i content rest below is =
    subst (AllBelowBase 256) (sym is.means.same) (content_below is.piece is.spells (front_below i is.piece.octets rest is.whole below))

-- the element that begins a sequence
pub inner_read : (i content rest : List ℕ) (e : Element) (left : List ℕ) → AllBelowBase 256 i → One IsSequence i content rest → One IsAny content e left → any_at content ≡ Ok (e, left)
inner_read i content rest e left below is there =
    (next_reading IsAny (λ p. Ok p.element) any_meaning).only content e left (content_octets i content rest below is) there

-- none does
none_fault : (o : Answer (Element × List ℕ)) → ((e : Element) (r : List ℕ) → o ≡ Ok (e, r) → ⊥) → fault_by o ≡ der.InvalidLength
none_fault (Ok (e, [])) none = absurd (none e [] refl)
none_fault (Ok (e, x ∷ s)) none = refl
none_fault (Err why) none = refl

pub none_inner : (i content rest : List ℕ) → AllBelowBase 256 i → One IsSequence i content rest → NoneBegins (One IsAny) content → fault_in content ≡ der.InvalidLength
none_inner i content rest below is none =
    none_fault (any_at content) (λ e r read. none e r ((next_reading IsAny (λ p. Ok p.element) any_meaning).found content e r (content_octets i content rest below is) read).0)
