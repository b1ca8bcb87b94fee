-- The signed part is read in three runs of parts, each of which is put into what comes of the whole.
use Rattle.std.proofs.Common.{◌≡◌, ◌∙◌, refl, sym, ap, subst, ℕ, List, Option, Ok, Err}
use Rattle.asn1_core.specs.declared.outcome.Err.{Err as Refusal}
use Rattle.asn1_core.specs.declared.outcome.Err.TheVariants as refusals
use Rattle.asn1_any.specs.Cutting.{Piece}
use Rattle.x509_core.specs.Answers.{Answer, naming, Fails, ◌>>=◌}
use Rattle.x509_core.specs.Reading.{content_in}
use Rattle.x509_core.specs.declared.error.X509Error.{X509Error}
use Rattle.x509_core.specs.declared.error.X509Error.TheVariants as errors
use Rattle.x509_names.specs.Fields.{Algorithm, Name, Bits, Key}
use Rattle.x509_names.specs.Reading.{algorithm_at, name_at, key_at}
use Rattle.x509_time.specs.Reading.{validity_at}
use Rattle.x509_time.specs.Times.{Period}
use Rattle.x509_ext.specs.Fields.{Extension, ValueReading}
use Rattle.x509_ext.specs.Reading.{any_version_at, serial_at, id_at, extensions_at}
use Rattle.x509_certs.specs.Fields.{Tbs}
use Rattle.x509_certs.specs.Reading.{start_at, binding_at, end_at, tbs_in}

-- ---- parts that are put together, and what is made of them

after_one : {A B C : Type 0} (m : Answer A) (put : A → B) (f : B → Answer C) → (m >>= λ a. Ok (put a)) >>= f ≡ (m >>= λ a. f (put a))
after_one (Ok a) put f = refl
after_one (Err e) put f = refl

after_two : {A B C D : Type 0} (m : Answer A) (n : A → Answer B) (put : A → B → C) (f : C → Answer D) → (m >>= λ a. n a >>= λ b. Ok (put a b)) >>= f ≡ (m >>= λ a. n a >>= λ b. f (put a b))
after_two (Ok a) n put f = after_one (n a) (put a) f
after_two (Err e) n put f = refl

after_three : {A B C D E : Type 0} (m : Answer A) (n : A → Answer B) (o : A → B → Answer C) (put : A → B → C → D) (f : D → Answer E)
    → (m >>= λ a. n a >>= λ b. o a b >>= λ c. Ok (put a b c)) >>= f ≡ (m >>= λ a. n a >>= λ b. o a b >>= λ c. f (put a b c))
after_three (Ok a) n o put f = after_two (n a) (o a) (put a) f
after_three (Err e) n o put f = refl

after_four : {A B C D E F : Type 0} (m : Answer A) (n : A → Answer B) (o : A → B → Answer C) (p : A → B → C → Answer D) (put : A → B → C → D → E) (f : E → Answer F)
    → (m >>= λ a. n a >>= λ b. o a b >>= λ c. p a b c >>= λ d. Ok (put a b c d)) >>= f ≡ (m >>= λ a. n a >>= λ b. o a b >>= λ c. p a b c >>= λ d. f (put a b c d))
after_four (Ok a) n o p put f = after_three (n a) (o a) (p a) (put a) f
after_four (Err e) n o p put f = refl

-- what refuses a part refuses the whole
fails_on : {A B : Type 0} (e : Refusal X509Error) (m : Answer A) (f : A → Answer B) → Fails e m → Fails e (m >>= f)
fails_on (refusals.Incomplete n) m f fails = ap (λ z. z >>= f) fails
fails_on (refusals.Failure e) m f fails = fails
fails_on (refusals.Error errors.OutOfMemory) m f fails = fails
fails_on (refusals.Error (errors.Der e)) m f fails = (fails.0, ap (λ z. z >>= f) fails.1)
fails_on (refusals.Error (errors.NomError k)) m f fails = ap (λ z. z >>= f) fails
fails_on (refusals.Error e) m f fails = ap (λ z. z >>= f) fails

-- ---- each run, and all after it

abbrev pub Ended : Type 0
Ended = Option Bits → Option Bits → List Extension → Tbs

abbrev pub Named : Type 0
Named = Name → Period → Name → Key → Ended

abbrev pub Begun : Type 0
Begun = ℕ → List ℕ → Algorithm → Named

unfoldable pub end_by : ValueReading → Ended → List ℕ → Answer Tbs
end_by parse put i = do
  issuer_id ← naming errors.InvalidIssuerUID (id_at 1 i)
  subject_id ← naming errors.InvalidSubjectUID (id_at 2 issuer_id.1)
  extensions ← extensions_at parse 3 subject_id.1
  Ok (put issuer_id.0 subject_id.0 extensions)

unfoldable pub names_by : ValueReading → Named → List ℕ → Answer Tbs
names_by parse put i = do
  issuer ← name_at i
  validity ← validity_at issuer.1
  subject ← name_at validity.1
  key ← key_at subject.1
  end_by parse (put issuer.0 validity.0 subject.0 key.0) key.1

unfoldable pub begin_by : ValueReading → Begun → List ℕ → Answer Tbs
begin_by parse put i = do
  version ← naming errors.InvalidVersion (any_version_at i)
  serial ← naming errors.InvalidSerial (serial_at version.1)
  signature ← algorithm_at serial.1
  names_by parse (put version.0 serial.0 signature.0) signature.1

abbrev pub made : List ℕ → Begun
made raw version serial signature issuer validity subject key issuer_id subject_id extensions =
    record { version = version; serial = serial; signature = signature; issuer = issuer; validity = validity; subject = subject; key = key; issuer_id = issuer_id; subject_id = subject_id; extensions = extensions; raw = raw }

pub tbs_is : (parse : ValueReading) (q : Piece) → tbs_in parse q ≡ content_in 16 q.element >>= begin_by parse (made q.octets)
unfolding tbs_in begin_by names_by end_by
tbs_is parse q = refl

-- what a run read is put in
abbrev with_start : Begun → ℕ × List ℕ × Algorithm → Named
with_start put s = put s.0 s.1 s.2

abbrev with_binding : Named → Name × Period × Name × Key → Ended
with_binding put b = put b.0 b.1 b.2 b.3

abbrev with_end : Ended → Option Bits × Option Bits × List Extension → Tbs
with_end put e = put e.0 e.1 e.2

end_is : (parse : ValueReading) (put : Ended) (i : List ℕ) → end_at parse i >>= (λ e. Ok (with_end put e)) ≡ end_by parse put i
unfolding end_at end_by
end_is parse put i =
    after_three (naming errors.InvalidIssuerUID (id_at 1 i)) (λ first. naming errors.InvalidSubjectUID (id_at 2 first.1)) (λ first second. extensions_at parse 3 second.1)
    (λ first second last. (first.0, second.0, last)) (λ e. Ok (with_end put e))

names_is : (parse : ValueReading) (put : Named) (i : List ℕ) → binding_at i >>= (λ b. end_by parse (with_binding put b.0) b.1) ≡ names_by parse put i
unfolding binding_at names_by
names_is parse put i =
    after_four (name_at i) (λ issuer. validity_at issuer.1) (λ issuer validity. name_at validity.1) (λ issuer validity subject. key_at subject.1)
    (λ issuer validity subject key. ((issuer.0, validity.0, subject.0, key.0), key.1)) (λ b. end_by parse (with_binding put b.0) b.1)

begin_is : (parse : ValueReading) (put : Begun) (i : List ℕ) → start_at i >>= (λ s. names_by parse (with_start put s.0) s.1) ≡ begin_by parse put i
unfolding start_at begin_by
begin_is parse put i =
    after_three (naming errors.InvalidVersion (any_version_at i)) (λ version. naming errors.InvalidSerial (serial_at version.1)) (λ version serial. algorithm_at serial.1)
    (λ version serial signature. ((version.0, serial.0, signature.0), signature.1)) (λ s. names_by parse (with_start put s.0) s.1)

-- ---- a run that was read leaves the others

content_read : (parse : ValueReading) (q : Piece) (content : List ℕ) → content_in 16 q.element ≡ Ok content → begin_by parse (made q.octets) content ≡ tbs_in parse q
content_read parse q content read = ap (λ (z : Answer (List ℕ)). z >>= begin_by parse (made q.octets)) (sym read) ∙ sym (tbs_is parse q)

start_read : (parse : ValueReading) (put : Begun) (i : List ℕ) (s : ℕ × List ℕ × Algorithm) (left : List ℕ) → start_at i ≡ Ok (s, left) → names_by parse (with_start put s) left ≡ begin_by parse put i
start_read parse put i s left read = ap (λ (z : Answer ((ℕ × List ℕ × Algorithm) × List ℕ)). z >>= λ x. names_by parse (with_start put x.0) x.1) (sym read) ∙ begin_is parse put i

binding_read : (parse : ValueReading) (put : Named) (i : List ℕ) (b : Name × Period × Name × Key) (left : List ℕ) → binding_at i ≡ Ok (b, left) → end_by parse (with_binding put b) left ≡ names_by parse put i
binding_read parse put i b left read = ap (λ (z : Answer ((Name × Period × Name × Key) × List ℕ)). z >>= λ x. end_by parse (with_binding put x.0) x.1) (sym read) ∙ names_is parse put i

end_read : (parse : ValueReading) (put : Ended) (i : List ℕ) (e : Option Bits × Option Bits × List Extension) → end_at parse i ≡ Ok e → Ok (with_end put e) ≡ end_by parse put i
end_read parse put i e read = ap (λ (z : Answer (Option Bits × Option Bits × List Extension)). z >>= λ x. Ok (with_end put x)) (sym read) ∙ end_is parse put i

-- ---- where the signed part is refused, and where it is read

pub content_refused : (parse : ValueReading) (q : Piece) (e : Refusal X509Error) → Fails e (content_in 16 q.element) → Fails e (tbs_in parse q)
content_refused parse q e fails = subst (Fails e) (sym (tbs_is parse q)) (fails_on e (content_in 16 q.element) (begin_by parse (made q.octets)) fails)

pub start_refused : (parse : ValueReading) (q : Piece) (content : List ℕ) (e : Refusal X509Error) → content_in 16 q.element ≡ Ok content → Fails e (start_at content) → Fails e (tbs_in parse q)
start_refused parse q content e read fails =
    subst (Fails e) (begin_is parse (made q.octets) content ∙ content_read parse q content read)
    (fails_on e (start_at content) (λ s. names_by parse (with_start (made q.octets) s.0) s.1) fails)

pub binding_refused : (parse : ValueReading) (q : Piece) (content : List ℕ) (s : ℕ × List ℕ × Algorithm) (left : List ℕ) (e : Refusal X509Error)
    → content_in 16 q.element ≡ Ok content → start_at content ≡ Ok (s, left) → Fails e (binding_at left) → Fails e (tbs_in parse q)
binding_refused parse q content s left e read started fails =
    let put = with_start (made q.octets) s in
    subst (Fails e) (names_is parse put left ∙ start_read parse (made q.octets) content s left started ∙ content_read parse q content read)
    (fails_on e (binding_at left) (λ b. end_by parse (with_binding put b.0) b.1) fails)

pub end_refused : (parse : ValueReading) (q : Piece) (content : List ℕ) (s : ℕ × List ℕ × Algorithm) (left : List ℕ) (b : Name × Period × Name × Key) (last : List ℕ) (e : Refusal X509Error)
    → content_in 16 q.element ≡ Ok content → start_at content ≡ Ok (s, left) → binding_at left ≡ Ok (b, last) → Fails e (end_at parse last) → Fails e (tbs_in parse q)
end_refused parse q content s left b last e read started bound fails =
    let put = with_start (made q.octets) s in
    let ended = with_binding put b in
    subst (Fails e) (end_is parse ended last ∙ binding_read parse put left b last bound ∙ start_read parse (made q.octets) content s left started ∙ content_read parse q content read)
    (fails_on e (end_at parse last) (λ x. Ok (with_end ended x)) fails)

pub all_read : (parse : ValueReading) (q : Piece) (content : List ℕ) (s : ℕ × List ℕ × Algorithm) (left : List ℕ) (b : Name × Period × Name × Key) (last : List ℕ) (x : Option Bits × Option Bits × List Extension)
    → content_in 16 q.element ≡ Ok content → start_at content ≡ Ok (s, left) → binding_at left ≡ Ok (b, last) → end_at parse last ≡ Ok x
    → tbs_in parse q ≡ Ok (with_end (with_binding (with_start (made q.octets) s) b) x)
all_read parse q content s left b last x read started bound ended =
    let put = with_start (made q.octets) s in
    sym (end_read parse (with_binding put b) last x ended ∙ binding_read parse put left b last bound ∙ start_read parse (made q.octets) content s left started ∙ content_read parse q content read)
