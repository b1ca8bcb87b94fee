-- What a `BerObject` is a value of.
use Rattle.std.specs.Prelude.{ℕ, List, [], ◌∷◌, map}
use Rattle.asn1_core.specs.Elements.{Element}
use Rattle.asn1_core.specs.Views.{class_number, head_of}
use Rattle.asn1_core.specs.declared.header.Header.{Header}
use Rattle.asn1_any.specs.Views.{any_of}
use Rattle.der_tree.specs.declared.object.BerObject.{BerObject, BerObject-F, fold-BerObject}
use Rattle.der_tree.specs.declared.object.BerObjectContent.{BerObjectContent, fold-BerObjectContent}
use Rattle.der_tree.specs.declared.object.BerObjectContent.TheOpen.{BerObjectContent-F}
use Rattle.der_tree.specs.Table as table
use Rattle.der_tree.specs.Tree.{end_of_content, boolean, bit_string, null, oid, enumerated, plain, raw, Tree, node, Content, leaf, sequence, set, Trees, none, more}

-- the element of a header and a content
abbrev pub element_under : Header → List ℕ → Element
element_under h s = record { class = class_number h.class; constructed = h.constructed; tag = h.tag.0; content = s }

-- the element, with the universal class instead of its own
abbrev pub as_universal : Element → Element
as_universal e = record { class = 0; constructed = e.constructed; tag = e.tag; content = e.content }

abbrev pub trees : List Tree → Trees
trees [] = none
trees (t ∷ ts) = more t (trees ts)

abbrev pub content_step : BerObjectContent-F Content Tree → Content
content_step BerObjectContent-F.EndOfContent = leaf end_of_content
content_step (BerObjectContent-F.Boolean b) = leaf (boolean b)
content_step (BerObjectContent-F.Integer s) = leaf (plain table.integer s.now)
content_step (BerObjectContent-F.BitString unused s) = leaf (bit_string unused s.now)
content_step (BerObjectContent-F.OctetString s) = leaf (plain table.octet_string s.now)
content_step BerObjectContent-F.Null = leaf null
content_step (BerObjectContent-F.OID s) = leaf (oid s)
content_step (BerObjectContent-F.ObjectDescriptor s) = leaf (plain table.object_descriptor s.now)
content_step (BerObjectContent-F.Enum n) = leaf (enumerated n)
content_step (BerObjectContent-F.UTF8String s) = leaf (plain table.utf8_string s.now)
content_step (BerObjectContent-F.RelativeOID s) = leaf (plain table.relative_oid s.now)
content_step (BerObjectContent-F.Sequence v) = sequence (trees v.items)
content_step (BerObjectContent-F.Set v) = set (trees v.items)
content_step (BerObjectContent-F.NumericString s) = leaf (plain table.numeric_string s.now)
content_step (BerObjectContent-F.PrintableString s) = leaf (plain table.printable_string s.now)
content_step (BerObjectContent-F.T61String s) = leaf (plain table.t61_string s.now)
content_step (BerObjectContent-F.VideotexString s) = leaf (plain table.videotex_string s.now)
content_step (BerObjectContent-F.IA5String s) = leaf (plain table.ia5_string s.now)
content_step (BerObjectContent-F.UTCTime s) = leaf (plain table.utc_time s.now)
content_step (BerObjectContent-F.GeneralizedTime s) = leaf (plain table.generalized_time s.now)
content_step (BerObjectContent-F.GraphicString s) = leaf (plain table.graphic_string s.now)
content_step (BerObjectContent-F.VisibleString s) = leaf (plain table.visible_string s.now)
content_step (BerObjectContent-F.GeneralString s) = leaf (plain table.general_string s.now)
content_step (BerObjectContent-F.UniversalString s) = leaf (plain table.universal_string s.now)
content_step (BerObjectContent-F.BmpString s) = leaf (plain table.bmp_string s.now)
content_step (BerObjectContent-F.Unknown any) = leaf (raw (any_of any))

abbrev pub object_step : BerObject-F Content Tree → Tree
object_step x = node (head_of x.header) x.raw.now x.content

abbrev pub view : BerObject → Tree
view = fold-BerObject Content Tree content_step object_step

abbrev pub content_view : BerObjectContent → Content
content_view = fold-BerObjectContent Content Tree content_step object_step

abbrev pub views : List BerObject → Trees
views os = trees (map view os)
