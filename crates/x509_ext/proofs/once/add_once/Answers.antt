use Rattle.std.proofs.Common.{◌≡◌, ◌∙◌, sym, false, is_some}
use Rattle.x509_ext.specs.Maps.{held_at}
use Rattle.x509_ext.proofs.OnceLaws.{put_once}
use Rattle.x509_ext.proofs.once.add_once.Goals as goal

pub returns-clause-held : goal.returns-clause-held
returns-clause-held g c =
    λ id.
    let free : is_some (held_at c.args.values.now c.args.oid) ≡ false = sym c.contains_key.ensures ∙ c.if-contains_key.false in
    put_once c.args.values.now c.insert.new.self c.args.oid id c.args.value free (c.in_ok-insert.ensures.updates.0 id)
