use Rattle.std.proofs.Common.{◌∙◌, ap, ◌++◌, string_bytes}
use Rattle.std.specs.List.{flat_map}
use Rattle.std.proofs.lemmas.Iterator.{YieldsList-from_chars}
use Rattle.std.proofs.lemmas.Iterator.Consumers.{YieldsList-end}
use Rattle.certpath_bundle.specs.Names.{shown_char}
use Rattle.certpath_bundle.proofs.Loops.{map_itself}
use Rattle.certpath_bundle.proofs.names.push_name.Goals as goal

pub returns : goal.returns
returns c =
    let all = YieldsList-end (YieldsList-from_chars c.args.name.now c.utf8.name cc) c.loop-character.yielded _ c.loop-character.yielded_by _ _ c.in-None.is c.next.ensures.steps in
    c.loop-character.invariant ∙ ap (λ l. string_bytes c.args.text.now ++ flat_map shown_char l) (map_itself c.loop-character.yielded all.0)
