-- What `certpath_name` returns.
use Rattle.std.specs.Prelude.{◌≡◌, ◌⊎◌, ℕ, ℤ, Bool, true, false, List, [], length}
use Rattle.x509_names.specs.Fields.{Name}
use Rattle.x509_names.specs.Names as grammar
use Rattle.x509_names.specs.NameTexts.{shown_name}
use Rattle.certpath_c.specs.Status.{done, out_of_memory, too_small, bad_name}
use Rattle.certpath_c.specs.Writing.{Puts}

-- the octets are a name, and this is its text
pub record IsNameText (octets text : List ℕ) : Type 0 where
  pub name : Name
  pub spelled : grammar.X509Name octets name []
  pub text_is : text ≡ shown_name name

-- the text was put into the buffer, or not, if it doesn't fit
pub record IsNamed (octets buffer buffer' : List ℕ) (length' : ℕ) (fits : Bool) : Type 0 where
  pub text : List ℕ
  pub is_text : IsNameText octets text
  pub length_is : length' ≡ length text
  pub written : Puts buffer buffer' text fits

-- the octets are no name, or a name and further octets
abbrev pub IsNoName : List ℕ → Type 0
IsNoName octets = (name : Name) → ¬ grammar.X509Name octets name []

abbrev pub NameAnswer : List ℕ → List ℕ → List ℕ → ℕ → ℕ → ℤ → Type 0
NameAnswer octets buffer buffer' size size' status =
    ((status ≡ done) × IsNamed octets buffer buffer' size' true)
    ⊎ ((status ≡ too_small) × IsNamed octets buffer buffer' size' false)
    ⊎ ((status ≡ bad_name) × IsNoName octets × (buffer' ≡ buffer) × (size' ≡ size))
    ⊎ ((status ≡ out_of_memory) × (buffer' ≡ buffer) × (size' ≡ size))
