-- What a fault rules out, and what no fault shows.
use Rattle.std.proofs.Common.{◌≡◌, ◌≢◌, ◌∙◌, refl, sym, ap, ℕ, ◌<◌, ◌≤◌, Bool, true, false, List, [], ◌∷◌, ◌++◌, length, Option, Some, None, Result, Ok, Err, subst, arith}
use Rattle.std.proofs.lemmas.List.{append-nil}
use Rattle.asn1_core.specs.Elements.{Element}
use Rattle.asn1_core.specs.declared.error.Error.{Error}
use Rattle.asn1_core.specs.declared.outcome.Err.{Err as Refusal}
use Rattle.asn1_core.specs.declared.outcome.Err.TheVariants as refusals
use Rattle.der_tree.specs.Outcome.{Refuses}
use Rattle.der_tree.proofs.Leveled.{object_to}
use Rattle.der_tree.proofs.Objects.{object_once}
use Rattle.der_tree.specs.Tree.{Tree, octets}
use Rattle.der_tree.specs.Shape.{IsObject, BeginsWithObject}
use Rattle.cert_model.specs.Fields.{Extension}
use Rattle.cert_model.specs.Range.{IfThere}
use Rattle.cert_model.specs.PieceOctets.{HasSmallContent}
use Rattle.cert_model.specs.Class.{IsObjectItem, NoCertificate, NoList, IsClassOf, other}
use Rattle.cert_model.specs.Reads.{extensions_at}
use Rattle.cert_model.specs.Assembly.{AreExtensionsOf, AreExtensionsIn, is_some, implies}
use Rattle.cert_model.proofs.Extensions.{extensions_found, extensions_only}
use Rattle.cert_model.proofs.Assemblies.{certificate_only, list_only}
use Rattle.cert_faults.specs.declared.places.Field.{Field}
use Rattle.cert_faults.specs.declared.places.Field.TheVariants as fields
use Rattle.cert_faults.specs.declared.steps.Blame.{Blame}
use Rattle.cert_faults.specs.declared.steps.Stop.{Stop}
use Rattle.cert_faults.specs.declared.steps.Stop.TheVariants as stops
use Rattle.asn1_core.specs.declared.memory.OutOfMemory.{OutOfMemory as WantOfMemory}
use Rattle.std.specs.Prelude.{IfOk, MatchOption}
use Rattle.std.specs.Result.{IsErrAnd}
use Rattle.cert_faults.specs.Fault.{OnStop, Walks, stopped, IsFieldFault, IsItemFault}
use Rattle.cert_faults.specs.Steps.{Rest, whole}
use Rattle.cert_faults.specs.Walks.{extensions_fault}
use Rattle.cert_faults.specs.Elements.{IsObjectFault, elements, rest, inner}
use Rattle.cert_model.proofs.ExtensionTrees.{no_object, object_with_rest}
use Rattle.cert_faults.specs.Items.{before, within, after, early, primitive, content, IsCertificateFault, IsListFault, tagged, Front, certificate_front, list_front, signed_front, signed_end, HasTagged, IsTaggedFault}
use Rattle.cert_faults.proofs.Agreeing.{no_fault, is_read}
use Rattle.cert_faults.proofs.PartLaws.{extensions_agree}
use Rattle.cert_faults.proofs.Opening.{the_ok, no_ok}
use Rattle.cert_faults.proofs.CertificateLaws.{certificate_complete}
use Rattle.cert_faults.proofs.ListLaws.{list_complete}

-- nothing follows an object
pub all_read : (s others : List ℕ) (t : Tree) → s ≡ octets t ++ others → length others ≡ 0 → octets t ≡ s
all_read s [] t is short = sym (is ∙ append-nil (octets t))
all_read s (x ∷ others) t is short = absurd (omega (arith, short))

-- extensions

pub extensions_sound : (field : Field) (n : ℕ) (t : Tree) (s : List ℕ) → IsObject 50 t → octets t ≡ s → extensions_fault field n t ≡ Ok tt → (es : List Extension) × AreExtensionsOf s es
extensions_sound field n t s o is e =
    let es = is_read (extensions_fault field n t) (extensions_at t) tt (extensions_agree field n t) e in
    (es.0, subst (λ z. AreExtensionsOf z es.0) is (extensions_found 50 t es.0 o es.1))

pub extensions_refused : (field : Field) (n : ℕ) (t : Tree) (s : List ℕ) (b : Blame) → IsObject 50 t → octets t ≡ s → extensions_fault field n t ≡ Err b → (es : List Extension) → AreExtensionsOf s es → ⊥
extensions_refused field n t s b o is e es p =
    let found = extensions_only 50 t es o (subst (λ z. AreExtensionsOf z es) (sym is) p) in
    let ok = no_fault (extensions_fault field n t) (extensions_at t) es (extensions_agree field n t) found in
    no_ok (extensions_fault field n t) ok.0 b ok.1 e

-- certificates

pub certificate_before : (n : ℕ) (t : Tree) (b : Blame) → IsObject 50 t → signed_front fields.TbsCertificate certificate_front n t ≡ Err b → NoCertificate (octets t)
certificate_before n t b o e c p is =
    let w = certificate_complete n t c o (certificate_only 50 t c o p is) in
    no_ok (signed_front fields.TbsCertificate certificate_front n t) w.0 b w.1 e

pub certificate_within : (n : ℕ) (t : Tree) (f : Front × Rest) → IsObject 50 t → signed_front fields.TbsCertificate certificate_front n t ≡ Ok f →
    (IfThere HasSmallContent (tagged 3 f.0.1).0 → HasTagged 3 f.0.0 f.0.1 → ⊥) → NoCertificate (octets t)
certificate_within n t f o e refuses c p is =
    let w = certificate_complete n t c o (certificate_only 50 t c o p is) in
    let same = the_ok f w.0 (sym e ∙ w.1) in
    refuses (subst (λ (z : Front × Rest). IfThere HasSmallContent (tagged 3 z.0.1).0) (sym same) w.4) (subst (λ (z : Front × Rest). HasTagged 3 z.0.0 z.0.1) (sym same) w.2)

pub certificate_after : (n : ℕ) (t : Tree) (f : Front × Rest) (b : Blame) → IsObject 50 t → signed_front fields.TbsCertificate certificate_front n t ≡ Ok f →
    signed_end fields.TbsCertificate (tagged 3 f.0.1).2 f.1 ≡ Err b → NoCertificate (octets t)
certificate_after n t f b o e end c p is =
    let w = certificate_complete n t c o (certificate_only 50 t c o p is) in
    let same = the_ok f w.0 (sym e ∙ w.1) in
    no_ok (signed_end fields.TbsCertificate (tagged 3 f.0.1).2 f.1) tt b (subst (λ (z : Front × Rest). signed_end fields.TbsCertificate (tagged 3 z.0.1).2 z.1 ≡ Ok tt) (sym same) w.3) end

-- lists

pub list_before : (n : ℕ) (t : Tree) (b : Blame) → IsObject 50 t → signed_front fields.TbsCertList list_front n t ≡ Err b → NoList (octets t)
list_before n t b o e l p is =
    let w = list_complete n t l o (list_only 50 t l o p is) in
    no_ok (signed_front fields.TbsCertList list_front n t) w.0 b w.1 e

pub list_within : (n : ℕ) (t : Tree) (f : Front × Rest) → IsObject 50 t → signed_front fields.TbsCertList list_front n t ≡ Ok f →
    (IfThere HasSmallContent (tagged 0 f.0.1).0 → HasTagged 0 f.0.0 f.0.1 → ⊥) → NoList (octets t)
list_within n t f o e refuses l p is =
    let w = list_complete n t l o (list_only 50 t l o p is) in
    let same = the_ok f w.0 (sym e ∙ w.1) in
    refuses (subst (λ (z : Front × Rest). IfThere HasSmallContent (tagged 0 z.0.1).0) (sym same) w.4) (subst (λ (z : Front × Rest). HasTagged 0 z.0.0 z.0.1) (sym same) w.2)

pub list_after : (n : ℕ) (t : Tree) (f : Front × Rest) (b : Blame) → IsObject 50 t → signed_front fields.TbsCertList list_front n t ≡ Ok f →
    signed_end fields.TbsCertList (tagged 0 f.0.1).2 f.1 ≡ Err b → NoList (octets t)
list_after n t f b o e end l p is =
    let w = list_complete n t l o (list_only 50 t l o p is) in
    let same = the_ok f w.0 (sym e ∙ w.1) in
    no_ok (signed_end fields.TbsCertList (tagged 0 f.0.1).2 f.1) tt b (subst (λ (z : Front × Rest). signed_end fields.TbsCertList (tagged 0 z.0.1).2 z.1 ≡ Ok tt) (sym same) w.3) end

-- neither one nor the other
pub neither : (s : List ℕ) → NoCertificate s → NoList s → IsClassOf s other
neither s c l = (λ d p. c d p.in_range p.spelled, λ m p. l m p.in_range p.spelled)

-- a walk that stops says less
pub stops_weaker : (e : Stop) (F G : Blame → Type 0) → ((b : Blame) → F b → G b) → OnStop e F → OnStop e G
stops_weaker (stops.Fault b) F G h p = h b p
stops_weaker stops.OutOfMemory F G h p = p

-- a refusal that is not for lack of memory
pub refused_plainly : (e : Refusal Error) (P : Type 0) → ((x : Error) → e ≡ refusals.Failure x → ⊥) → Refuses e P → P
refused_plainly (refusals.Incomplete n) P plain p = p
refused_plainly (refusals.Error x) P plain p = p.0
refused_plainly (refusals.Failure x) P plain p = absurd (plain x refl)

-- octets that begin with no object are other
pub not_an_object : (s : List ℕ) → (BeginsWithObject 50 s → ⊥) → IsClassOf s other
not_an_object s refused =
    let none_there : IsObjectItem s → ⊥ = λ p. let t = object_to 50 s p.object in refused (t.0, [], t.1, sym t.2 ∙ sym (append-nil (octets t.0))) in
    (λ c p. none_there p.object, λ l p. none_there p.object)

-- octets after an object make them other
pub more_behind : (s others : List ℕ) (t : Tree) → IsObject 50 t → s ≡ octets t ++ others → 0 < length others → IsClassOf s other
more_behind s others t o is long =
    let none_there : IsObjectItem s → ⊥ = λ p.
    let u = object_to 50 s p.object in
    let same = object_once 50 50 u.0 t [] others u.1 o (append-nil (octets u.0) ∙ u.2 ∙ is) in
    omega (arith, ap length same.1, long) in
    (λ c p. none_there p.object, λ l p. none_there p.object)

pub not_empty : (s : List ℕ) → 0 < length s → s ≢ []
not_empty [] lt = absurd (omega (arith, lt))
not_empty (x ∷ s) lt = λ e. cc

long_some : (s : List ℕ) → s ≢ [] → 0 < length s
long_some [] p = absurd (p refl)
long_some (x ∷ s) p = omega arith

-- a fault of tagged extensions

no_some : (es : List Extension) → es ≢ [] → implies (is_some es) false ≡ true → ⊥
no_some [] p e = p refl
no_some (x ∷ es) p e = cc

object_refused : (field : Field) (n : ℕ) (s : List ℕ) (b : Blame) → length s ≤ 4_294_967_295 → IsObjectFault (λ t c. extensions_fault field n t ≡ Err c) (whole field) s n b → (es : List Extension) → AreExtensionsOf s es → ⊥
object_refused field n s b small (elements none_there broken) es p = no_object s small none_there es p
object_refused field n s b small (rest t others o is some same) es p = object_with_rest s others t small o is (long_some others some) es p
object_refused field n s b small (inner t o is e) es p = extensions_refused field n t s b o is e es p

tagged_by : (field : Field) (n : ℕ) (e : Element) (later : Bool) (b : Blame) (es : List Extension) → length e.content ≤ 4_294_967_295 → later ≡ true → e.constructed ≡ true →
    IsObjectFault (λ t c. extensions_fault field n t ≡ Err c) (whole field) e.content n b → AreExtensionsIn (Some e) es → ⊥
tagged_by field n e later b es small late form fault p = object_refused field n e.content b small fault es p.1

pub tagged_refused : (field : Field) (tag : ℕ) (later : Bool) (r : Rest) (b : Blame) → IsTaggedFault field tag later r b → IfThere HasSmallContent (tagged tag r).0 → HasTagged tag later r → ⊥
tagged_refused field tag later r b (early e there late same) small has =
    let in_it : AreExtensionsIn (Some e) has.0 = subst (λ o. AreExtensionsIn o has.0) there has.1 in
    no_some has.0 in_it.1.some (subst (λ z. implies (is_some has.0) z ≡ true) late has.2)
tagged_refused field tag later r b (primitive e there late form same) small has =
    let in_it : AreExtensionsIn (Some e) has.0 = subst (λ o. AreExtensionsIn o has.0) there has.1 in
    let both = in_it.0 in
    absurd cc
tagged_refused field tag later r b (content e there late form fault) small has =
    let in_it : AreExtensionsIn (Some e) has.0 = subst (λ o. AreExtensionsIn o has.0) there has.1 in
    let is_small : HasSmallContent e = subst (IfThere HasSmallContent) there small in
    tagged_by field (tagged tag r).1 e later b has.0 is_small late form fault in_it

pub certificate_refused : (n : ℕ) (t : Tree) (b : Blame) → IsObject 50 t → IsCertificateFault n t b → NoCertificate (octets t)
certificate_refused n t b o (before e) = certificate_before n t b o e
certificate_refused n t b o (within f e fault) = certificate_within n t f o e (tagged_refused fields.Extensions 3 f.0.0 f.0.1 b fault)
certificate_refused n t b o (after f e has end) = certificate_after n t f b o e end

pub list_refused : (n : ℕ) (t : Tree) (b : Blame) → IsObject 50 t → IsListFault n t b → NoList (octets t)
list_refused n t b o (before e) = list_before n t b o e
list_refused n t b o (within f e fault) = list_within n t f o e (tagged_refused fields.ListExtensions 0 f.0.0 f.0.1 b fault)
list_refused n t b o (after f e has end) = list_after n t f b o e end

-- an error that is passed on
pub walk_passed : {T : Type 0} (r : Result T Stop) (e : Stop) → IsErrAnd r (λ y. y ≡ e) → (P : T → Type 0) (F : Blame → Type 0) → OnStop e F → Walks r P F
walk_passed (Ok x) e is P F p = absurd is
walk_passed (Err y) e is P F p = subst (λ z. OnStop z F) (sym is) p

-- a walk that stopped at a fault
pub walked_fault : (r : Result (Unit {0}) Stop) (b : Blame) (P : Unit {0} → Type 0) (F : Blame → Type 0) → Walks r P F → stopped r ≡ Ok (Some b) → F b
walked_fault (Ok u) b P F p e = absurd cc
walked_fault (Err (stops.Fault d)) b P F p e = let same : d ≡ b = cc in subst F same p
walked_fault (Err stops.OutOfMemory) b P F p e = absurd cc

-- what is said of an object is said of the octets that it is
pub item_is : (s : List ℕ) (t : Tree) (n : ℕ) (r : Result (Option Blame) WantOfMemory) → IsObject 50 t → octets t ≡ s → n ≡ length s →
    IfOk r (λ found. MatchOption found (IsClassOf (octets t) other → ⊥) (λ b. IsFieldFault n t b × IsClassOf (octets t) other)) →
    IfOk r (λ found. MatchOption found (IsClassOf s other → ⊥) (λ b. IsItemFault s b × IsClassOf s other))
item_is s t n (Ok None) o is size p = λ q. p (subst (λ z. IsClassOf z other) (sym is) q)
item_is s t n (Ok (Some b)) o is size p = (inner t o is (subst (λ z. IsFieldFault z t b) size p.0), subst (λ z. IsClassOf z other) is p.1)
item_is s t n (Err e) o is size p = p
