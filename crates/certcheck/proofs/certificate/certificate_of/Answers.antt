use Rattle.std.proofs.Common.{rules, ◌≡◌, sym, Some, None, option_map, map, true, false}
use Rattle.der_tree.specs.Tree.{octets}
use Rattle.cert_model.specs.Class.{NoCertificate}
use Rattle.cert_model.specs.View.{any_view, bit_view, ext_view}
use Rattle.cert_model.specs.Pieces.{tbs_at, signed_at}
use Rattle.cert_model.specs.Assembly.{version_in, id_in, AreExtensionsIn, fits_version}
use Rattle.cert_model.proofs.Certificates.{extensions_small}
use Rattle.cert_model.proofs.Assemblies.{certificate_found}
use Rattle.cert_model.proofs.Refusals.{no_pieces, no_version, no_issuer_id, no_subject_id, no_extensions, no_fit}
use Rattle.certcheck.specs.PieceView.{signed_certificate_view}
use Rattle.certcheck.specs.Windows.{tree_of}
use Rattle.certcheck.proofs.certificate.certificate_of.Goals as goal

pub returns-in_err-signed : goal.returns-in_err-signed
returns-in_err-signed c =
    let t = tree_of (any_view c.args.object.now) in
    let stopped : None ≡ signed_at tbs_at t → NoCertificate (octets t) = λ n. no_pieces t c.requires (sym n) in
    search (rules, stopped)

pub returns-in_err-version : goal.returns-in_err-version
returns-in_err-version c =
    let s = signed_certificate_view c.in_ok-signed.signed in
    let read : signed_at tbs_at (tree_of (any_view c.args.object.now)) ≡ Some s = search rules in
    let stopped = no_version (tree_of (any_view c.args.object.now)) s c.requires read in
    search (rules, stopped)

pub returns-in_err-issuer_id : goal.returns-in_err-issuer_id
returns-in_err-issuer_id c =
    let s = signed_certificate_view c.in_ok-signed.signed in
    let read : signed_at tbs_at (tree_of (any_view c.args.object.now)) ≡ Some s = search rules in
    let stopped = no_issuer_id (tree_of (any_view c.args.object.now)) s c.requires read in
    search (rules, stopped)

pub returns-in_err-subject_id : goal.returns-in_err-subject_id
returns-in_err-subject_id c =
    let s = signed_certificate_view c.in_ok-signed.signed in
    let read : signed_at tbs_at (tree_of (any_view c.args.object.now)) ≡ Some s = search rules in
    let stopped = no_subject_id (tree_of (any_view c.args.object.now)) s c.requires read in
    search (rules, stopped)

pub extensions_in-requires : goal.extensions_in-requires
extensions_in-requires c =
    let s = signed_certificate_view c.in_ok-signed.signed in
    let read : signed_at tbs_at (tree_of (any_view c.args.object.now)) ≡ Some s = search rules in
    extensions_small 50 (tree_of (any_view c.args.object.now)) s c.requires read

pub returns-in_err-extensions : goal.returns-in_err-extensions
returns-in_err-extensions c =
    let s = signed_certificate_view c.in_ok-signed.signed in
    let read : signed_at tbs_at (tree_of (any_view c.args.object.now)) ≡ Some s = search rules in
    let stopped = no_extensions (tree_of (any_view c.args.object.now)) s c.requires read in
    search (rules, stopped)

pub returns-then-not-fits_version : goal.returns-then-not-fits_version
returns-then-not-fits_version c =
    let s = signed_certificate_view c.in_ok-signed.signed in
    let read : signed_at tbs_at (tree_of (any_view c.args.object.now)) ≡ Some s = search rules in
    let version : version_in s.signed.version ≡ Some c.in_ok-version.version = search rules in
    let issuer : id_in s.signed.issuer_id ≡ Some (option_map bit_view c.in_ok-issuer_id.issuer_id) = search rules in
    let subject : id_in s.signed.subject_id ≡ Some (option_map bit_view c.in_ok-subject_id.subject_id) = search rules in
    let extensions : AreExtensionsIn s.signed.extensions (map ext_view c.in_ok-extensions.extensions.items) = search rules in
    let fits : fits_version c.in_ok-version.version (option_map bit_view c.in_ok-issuer_id.issuer_id) (option_map bit_view c.in_ok-subject_id.subject_id) (map ext_view c.in_ok-extensions.extensions.items) ≡ false = search rules in
    no_fit (tree_of (any_view c.args.object.now)) s c.in_ok-version.version (option_map bit_view c.in_ok-issuer_id.issuer_id) (option_map bit_view c.in_ok-subject_id.subject_id)
    (map ext_view c.in_ok-extensions.extensions.items) c.requires read version issuer subject extensions fits

pub returns : goal.returns
returns c =
    let s = signed_certificate_view c.in_ok-signed.signed in
    let read : signed_at tbs_at (tree_of (any_view c.args.object.now)) ≡ Some s = search rules in
    let version : version_in s.signed.version ≡ Some c.in_ok-version.version = search rules in
    let issuer : id_in s.signed.issuer_id ≡ Some (option_map bit_view c.in_ok-issuer_id.issuer_id) = search rules in
    let subject : id_in s.signed.subject_id ≡ Some (option_map bit_view c.in_ok-subject_id.subject_id) = search rules in
    let extensions : AreExtensionsIn s.signed.extensions (map ext_view c.in_ok-extensions.extensions.items) = search rules in
    let fits : fits_version c.in_ok-version.version (option_map bit_view c.in_ok-issuer_id.issuer_id) (option_map bit_view c.in_ok-subject_id.subject_id) (map ext_view c.in_ok-extensions.extensions.items) ≡ true = search rules in
    certificate_found 50 (tree_of (any_view c.args.object.now)) s c.in_ok-version.version (option_map bit_view c.in_ok-issuer_id.issuer_id) (option_map bit_view c.in_ok-subject_id.subject_id)
    (map ext_view c.in_ok-extensions.extensions.items) c.requires read version issuer subject extensions fits
