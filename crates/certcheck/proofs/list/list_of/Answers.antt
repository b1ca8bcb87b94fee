use Rattle.std.proofs.Common.{rules, ◌≡◌, sym, Some, None, ◌&&◌, map, true, false}
use Rattle.der_tree.specs.Tree.{octets}
use Rattle.cert_model.specs.Class.{NoList}
use Rattle.cert_model.specs.View.{any_view, ext_view}
use Rattle.cert_model.specs.Pieces.{tbs_list_at, signed_at}
use Rattle.cert_model.specs.Assembly.{AreExtensionsIn, is_some, implies, is_version_two, entries_fit}
use Rattle.cert_model.proofs.RevocationLists.{list_extensions_small}
use Rattle.cert_model.proofs.Assemblies.{list_found}
use Rattle.cert_model.proofs.Refusals.{no_list_pieces, no_list_extensions, no_list_fit}
use Rattle.certcheck.specs.PieceView.{signed_list_view}
use Rattle.certcheck.specs.Windows.{tree_of}
use Rattle.certcheck.proofs.list.list_of.Goals as goal

pub returns-in_err-signed : goal.returns-in_err-signed
returns-in_err-signed c =
    let t = tree_of (any_view c.args.object.now) in
    let stopped : None ≡ signed_at tbs_list_at t → NoList (octets t) = λ n. no_list_pieces t c.requires (sym n) in
    search (rules, stopped)

pub extensions_in-requires : goal.extensions_in-requires
extensions_in-requires c =
    let s = signed_list_view c.in_ok-signed.signed in
    let read : signed_at tbs_list_at (tree_of (any_view c.args.object.now)) ≡ Some s = search rules in
    list_extensions_small 50 (tree_of (any_view c.args.object.now)) s c.requires read

pub returns-in_err-extensions : goal.returns-in_err-extensions
returns-in_err-extensions c =
    let s = signed_list_view c.in_ok-signed.signed in
    let read : signed_at tbs_list_at (tree_of (any_view c.args.object.now)) ≡ Some s = search rules in
    let stopped = no_list_extensions (tree_of (any_view c.args.object.now)) s c.requires read in
    search (rules, stopped)

pub returns-then-not-fits_list : goal.returns-then-not-fits_list
returns-then-not-fits_list c =
    let s = signed_list_view c.in_ok-signed.signed in
    let read : signed_at tbs_list_at (tree_of (any_view c.args.object.now)) ≡ Some s = search rules in
    let extensions : AreExtensionsIn s.signed.extensions (map ext_view c.in_ok-extensions.extensions.items) = search rules in
    let fits : (entries_fit s.signed.version s.signed.entries && implies (is_some (map ext_view c.in_ok-extensions.extensions.items)) (is_version_two s.signed.version)) ≡ false = search rules in
    no_list_fit (tree_of (any_view c.args.object.now)) s (map ext_view c.in_ok-extensions.extensions.items) c.requires read extensions fits

pub returns : goal.returns
returns c =
    let s = signed_list_view c.in_ok-signed.signed in
    let read : signed_at tbs_list_at (tree_of (any_view c.args.object.now)) ≡ Some s = search rules in
    let extensions : AreExtensionsIn s.signed.extensions (map ext_view c.in_ok-extensions.extensions.items) = search rules in
    let fits : (entries_fit s.signed.version s.signed.entries && implies (is_some (map ext_view c.in_ok-extensions.extensions.items)) (is_version_two s.signed.version)) ≡ true = search rules in
    list_found 50 (tree_of (any_view c.args.object.now)) s (map ext_view c.in_ok-extensions.extensions.items) c.requires read extensions fits
