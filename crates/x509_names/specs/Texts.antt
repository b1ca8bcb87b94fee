-- The text of an attribute's value.
use Rattle.std.specs.Prelude.{◌≡◌, ℕ, ◌==◌, ◌||◌, Bool, true, false, List, None}
use Rattle.std.specs.Str.{IsUtf8}
use Rattle.asn1_core.specs.Elements.{Element}
use Rattle.asn1_core.specs.declared.error.Error.TheVariants as der
use Rattle.x509_core.specs.declared.error.X509Error.{X509Error}
use Rattle.x509_core.specs.declared.error.X509Error.TheVariants as errors

-- UTF8String, NumericString, PrintableString and IA5String (X.680, table 1); the class isn't looked at
abbrev pub is_text_tag : ℕ → Bool
is_text_tag tag = (tag == 12) || (tag == 18) || (tag == 19) || (tag == 22)

-- the text is the content, which is UTF-8 whatever the type
pub record IsText (e : Element) (text : List ℕ) : Type 0 where
  pub tag : is_text_tag e.tag ≡ true
  pub same : text ≡ e.content
  pub utf8 : IsUtf8 e.content

-- why an element is no text: by its tag number first
pub data RefusesText (e : Element) (x : X509Error) : Type 0 where
  no_text_tag : is_text_tag e.tag ≡ false → x ≡ errors.Der (der.UnexpectedTag None (record { 0 = e.tag })) → RefusesText e x
  no_utf8 : is_text_tag e.tag ≡ true → ¬ IsUtf8 e.content → x ≡ errors.InvalidAttributes → RefusesText e x
