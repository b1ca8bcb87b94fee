-- The view of each kind of content.
use Rattle.std.proofs.Common.{◌≡◌, ◌∙◌, sym, ap}
use Rattle.std.specs.declared.alloc.Global.{Global}
use Rattle.std.specs.declared.vec.Vec.{Vec}
use Rattle.asn1_core.specs.Views.{head_of}
use Rattle.der_tree.specs.declared.object.BerObject.{BerObject, fold-roll-BerObject}
use Rattle.der_tree.specs.declared.object.BerObjectContent.{fold-roll-BerObjectContent}
use Rattle.der_tree.specs.declared.object.BerObjectContent.TheOpen.{BerObjectContent-F}
use Rattle.der_tree.specs.declared.object.BerObjectContent.TheVariants.{Sequence, Set, rolls-Sequence, rolls-Set}
use Rattle.der_tree.specs.Tree.{Tree, node, Content, sequence, set}
use Rattle.der_tree.specs.View.{content_step, object_step, view, content_view, views}

pub at_sequence : (v : Vec BerObject Global) → content_view (Sequence v) ≡ sequence (views v.items)
at_sequence v = ap content_view (sym (rolls-Sequence v)) ∙ fold-roll-BerObjectContent Content Tree content_step object_step (BerObjectContent-F.Sequence v)

pub at_set : (v : Vec BerObject Global) → content_view (Set v) ≡ set (views v.items)
at_set v = ap content_view (sym (rolls-Set v)) ∙ fold-roll-BerObjectContent Content Tree content_step object_step (BerObjectContent-F.Set v)

pub at_object : (o : BerObject) → view o ≡ node (head_of o.header) o.raw.now (content_view o.content)
at_object o = fold-roll-BerObject Content Tree content_step object_step (record { header = o.header; content = o.content; raw = o.raw })
