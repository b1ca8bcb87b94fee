-- Versions and extensions written out by hand are refused as the tables say.
use Rattle.std.proofs.Common.{◌≡◌, ap, ℕ, ◌<◌, List, [], ◌∷◌, ◌++◌, true, arith, lit<}
use Rattle.asn1_core.specs.Strict.{Head}
use Rattle.x509_core.specs.Grammar.{Header, Holds}
use Rattle.x509_core.specs.declared.error.X509Error.TheVariants as errors
use Rattle.x509_core.proofs.Grammars.{none_at_end}
use Rattle.x509_core.proofs.Items.{piece, spelled, none_here, header_is}
use Rattle.x509_names.specs.Leaves.{IsOid}
use Rattle.x509_time.proofs.HeaderLaws.{one_head}
use Rattle.x509_ext.specs.Extensions.{ExtensionParts}
use Rattle.x509_ext.specs.Fields.{IsUnparsed}
use Rattle.x509_ext.specs.Parts.{IsVersion}
use Rattle.laws_x509.specs.Refused.{NoWrapper}
use Rattle.laws_x509.specs.PartRefusals.{VersionRefused, ExtensionRefused, ExtensionsRefused}
use Rattle.laws_x509.specs.RefusedOctets as refused

pub no_version_there : VersionRefused errors.InvalidVersion refused.empty
no_version_there = none_here IsVersion (piece 0 true 16 []) [] (spelled 0 true 16 [] (lit< tt) (lit< tt) (lit< tt)) (λ v is. cc is.leaf.tag_is)

pub no_extension : ExtensionRefused IsUnparsed errors.InvalidExtensions refused.empty
no_extension = none_here (Holds 16 (ExtensionParts IsUnparsed)) (piece 0 true 16 []) [] (spelled 0 true 16 [] (lit< tt) (lit< tt) (lit< tt)) (λ v holds. none_at_end IsOid v.identifier holds.1.inner.after_id holds.1.inner.extn_id)

-- ---- a wrapper of another tag number

abbrev pub head : Head
head = record { class = 2; constructed = true; tag = 4; size = 0 }

pub wrapper_tag : (other : Head) (after : List ℕ) → Header refused.other_wrapper other after → other.tag ≡ 4
wrapper_tag other after header = ap (λ (h : Head). h.tag) (one_head refused.other_wrapper other head after [] header (header_is 2 true 4 0 [] (lit< tt) (lit< tt) (lit< tt)))

pub no_wrapper_there : (n : ℕ) → n < 4 → NoWrapper n refused.other_wrapper
no_wrapper_there n small = record {
  some = λ e. cc e;
  none = λ other after header same. let tag = wrapper_tag other after header in absurd (omega (arith, tag, same, small));
}

pub no_extensions : ExtensionsRefused 3 errors.InvalidExtensions refused.other_wrapper
no_extensions = no_wrapper_there 3 (lit< tt)
