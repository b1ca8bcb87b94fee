-- What holds of each named purpose holds of all.
use Rattle.std.proofs.Common.{◌≡◌, ◌≢◌, ℕ, List}
use Rattle.purpose_names.specs.declared.naming.NamedPurpose.{NamedPurpose}
use Rattle.purpose_names.specs.declared.naming.NamedPurpose.TheVariants.{ServerAuth, ClientAuth, CodeSigning, EmailProtection, TimeStamping, OcspSigning}
use Rattle.purpose_names.specs.Names.{identifier_of, IsWordOf}

pub no_word : (text : List ℕ) → ¬ IsWordOf text ServerAuth → ¬ IsWordOf text ClientAuth → ¬ IsWordOf text CodeSigning → ¬ IsWordOf text EmailProtection → ¬ IsWordOf text TimeStamping
    → ¬ IsWordOf text OcspSigning → (p : NamedPurpose) → ¬ IsWordOf text p
no_word text a b c d e f ServerAuth = a
no_word text a b c d e f ClientAuth = b
no_word text a b c d e f CodeSigning = c
no_word text a b c d e f EmailProtection = d
no_word text a b c d e f TimeStamping = e
no_word text a b c d e f OcspSigning = f

pub no_identifier : (o : List ℕ) → o ≢ identifier_of ServerAuth → o ≢ identifier_of ClientAuth → o ≢ identifier_of CodeSigning → o ≢ identifier_of EmailProtection
    → o ≢ identifier_of TimeStamping → o ≢ identifier_of OcspSigning → (p : NamedPurpose) → o ≢ identifier_of p
no_identifier o a b c d e f ServerAuth = a
no_identifier o a b c d e f ClientAuth = b
no_identifier o a b c d e f CodeSigning = c
no_identifier o a b c d e f EmailProtection = d
no_identifier o a b c d e f TimeStamping = e
no_identifier o a b c d e f OcspSigning = f
