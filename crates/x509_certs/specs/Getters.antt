-- What the calls on certificates return of the only extension of an identifier (RFC 5280, 4.2.1).
use Rattle.std.specs.Prelude.{ℕ, Bool, false, List, Option, Some, None, Result, Ok, Err}
use Rattle.std.specs.Borrow.{Bor}
use Rattle.x509_core.specs.declared.error.X509Error.{X509Error}
use Rattle.x509_core.specs.declared.error.X509Error.TheVariants as errors
use Rattle.x509_ext.specs.Values.{KeyUsage, InhibitAnyPolicy, PolicyConstraints, SubjectAlternativeName, NameConstraints, BasicConstraints, PolicyMappings, ExtendedKeyUsage, id_ce, ParsedExtension}
use Rattle.x509_ext.specs.Kinds as cases
use Rattle.x509_ext.specs.Lookup.{all_of, only_of}
use Rattle.x509_ext.specs.declared.basic.BasicExtension.{BasicExtension}
use Rattle.x509_ext.specs.declared.extension.X509Extension.{X509Extension}

-- what an extension was parsed as, if it is of this case
abbrev pub constraints_in : ParsedExtension → Option BasicConstraints
constraints_in (cases.BasicConstraints c) = Some c
constraints_in p = None

abbrev pub usage_in : ParsedExtension → Option KeyUsage
usage_in (cases.KeyUsage u) = Some u
usage_in p = None

abbrev pub purposes_in : ParsedExtension → Option ExtendedKeyUsage
purposes_in (cases.ExtendedKeyUsage u) = Some u
purposes_in p = None

abbrev pub policy_constraints_in : ParsedExtension → Option PolicyConstraints
policy_constraints_in (cases.PolicyConstraints c) = Some c
policy_constraints_in p = None

abbrev pub inhibit_in : ParsedExtension → Option InhibitAnyPolicy
inhibit_in (cases.InhibitAnyPolicy i) = Some i
inhibit_in p = None

abbrev pub mappings_in : ParsedExtension → Option PolicyMappings
mappings_in (cases.PolicyMappings m) = Some m
mappings_in p = None

abbrev pub alternative_in : ParsedExtension → Option SubjectAlternativeName
alternative_in (cases.SubjectAlternativeName n) = Some n
alternative_in p = None

abbrev pub name_constraints_in : ParsedExtension → Option NameConstraints
name_constraints_in (cases.NameConstraints c) = Some c
name_constraints_in p = None

-- whether the extension is critical, and its value
abbrev pub Told : Type 0 → Type 0
Told T = Result (Option (Bool × T)) X509Error

-- one that is parsed otherwise is passed over
abbrev pub or_none : {T : Type 0} → Bool → Option T → Told T
or_none critical (Some value) = Ok (Some (critical, value))
or_none critical None = Ok None

-- or is refused
abbrev pub or_refused : {T : Type 0} → Bool → Option T → Told T
or_refused critical (Some value) = Ok (Some (critical, value))
or_refused critical None = Err errors.InvalidExtensions

-- of the only extension, if there is one
abbrev pub of_only : {T : Type 0} → (X509Extension → Told T) → Result (Option X509Extension) X509Error → Told T
of_only f (Ok (Some e)) = f e
of_only f (Ok None) = Ok None
of_only f (Err e) = Err e

-- the value of the only extension of this identifier: none if there is none, `DuplicateExtensions`
-- if there are several, `InvalidExtensions` if it is parsed otherwise
abbrev pub value_of : {T : Type 0} → List ℕ → (ParsedExtension → Option T) → List X509Extension → Told T
value_of identifier pick extensions = of_only (λ e. or_refused e.critical (pick e.parsed_extension)) (only_of (all_of identifier extensions))

-- basic constraints, 2.5.29.19: none too if they are parsed otherwise
abbrev pub constraints_of : List X509Extension → Told BasicConstraints
constraints_of extensions = of_only (λ e. or_none e.critical (constraints_in e.parsed_extension)) (only_of (all_of (id_ce 19) extensions))

-- whether they say so
abbrev pub says_authority : Told BasicConstraints → Bool
says_authority (Ok (Some c)) = c.1.ca
says_authority (Ok None) = false
says_authority (Err e) = false

-- what was returned, without where it lies
abbrev pub told_view : {T : Type 0} → Result (Option (BasicExtension (Bor T))) X509Error → Told T
told_view (Ok (Some e)) = Ok (Some (e.critical, e.value.now))
told_view (Ok None) = Ok None
told_view (Err e) = Err e
