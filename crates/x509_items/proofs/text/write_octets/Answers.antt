use Rattle.std.proofs.Common.{◌≡◌, ℕ, true, List, ◌∷◌, ◌++◌, map, refl, sym, ap, ◌∙◌, append-nil, rules}
use Rattle.std.proofs.Output.{has_written_append, has_written_of_eq}
use Rattle.std.proofs.lemmas.List.{nil_from_length}
use Rattle.x509_core.specs.asn1_oid.specs.Joining.{joined_after, separator_text}
use Rattle.x509_core.specs.asn1_oid.specs.Text.{hex_pair}
use Rattle.x509_core.specs.asn1_oid.proofs.Joined.{joined, regroup}
use Rattle.x509_items.proofs.text.write_octets.Goals as goal

pub loop-octet-preserved : goal.loop-octet-preserved
loop-octet-preserved g c =
    λ plain.
    let e : c.loop-octet.rest.now ≡ c.in-Some.octet.now ∷ c.in-Some.after.now = search rules in
    let now = c.loop-octet.invariant plain in
    let took = g.W.Write.write_str_gives in
    let start = c.args.f.now in
    let between = separator_text c.loop-octet.begun 0x3A in
    let piece = hex_pair c.in-Some.octet.now in
    let first = c.in_ok-separate.ensures now.1.plain (refl {a = true}) in
    let second = c.in_ok-write_pair.ensures first.plain (refl {a = true}) in (
      (now.0 ++ between) ++ piece,
      has_written_append took start (now.0 ++ between) _ piece _ (has_written_append took start now.0 _ between _ now.1 first) second,
      regroup now.0 between piece (joined_after true 0x3A (map hex_pair c.in-Some.after.now))
          ∙ ap (λ (l : List ℕ). now.0 ++ joined_after c.loop-octet.begun 0x3A (map hex_pair l)) (sym e) ∙ now.2,
    )

pub returns : goal.returns
returns g c =
    λ plain ok.
    let now = c.loop-octet.invariant plain in
    let none = nil_from_length c.loop-octet.rest.now c.in_default.ensures.cases in
    let end = ap (λ (l : List ℕ). now.0 ++ joined_after c.loop-octet.begun 0x3A (map hex_pair l)) (sym none) in
    let text = sym (append-nil now.0) ∙ end ∙ now.2 ∙ joined 0x3A (map hex_pair c.args.octets.now) in
    has_written_of_eq _ _ _ _ _ text now.1
