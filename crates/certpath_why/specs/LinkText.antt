-- What comes before the positions of a line of links. Contracts of private functions cite it.
use Rattle.std.specs.Prelude.{ℕ, List}
use Rattle.certpath_why.specs.declared.links.Front.{Front}
use Rattle.certpath_why.specs.declared.links.Front.TheVariants.{Items, Anchors}
use Rattle.certpath_why.specs.Lines.{to_items, to_anchors}

abbrev pub front_text : Front → List ℕ
front_text (Items v) = to_items v
front_text (Anchors v) = to_anchors v
