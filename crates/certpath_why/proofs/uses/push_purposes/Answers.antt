use Rattle.std.specs.Prelude.{codes}
use Rattle.std.proofs.Common.{◌≡◌, ◌∙◌, ◌++◌, ap, map, ℕ, List, append_assoc, string_bytes, inl}
use Rattle.cert_reasons.specs.declared.values.Purpose.{Purpose}
use Rattle.certpath_why.specs.Listed.{listed}
use Rattle.certpath_why.specs.Uses.{purpose_text}
use Rattle.certpath_why.proofs.Listing.{listed_map}
use Rattle.certpath_why.proofs.uses.push_purposes.Goals as goal

identifier_of : Purpose → List ℕ
identifier_of p = p.identifier.now

pub returns-in_ok-push_list-in-Some : goal.returns-in_ok-push_list-in-Some
unfolding identifier_of
returns-in_ok-push_list-in-Some c =
    let found = c.in-Some.purposes.items in
    let words = codes "it is for " in
    let all = listed (λ p. purpose_text (identifier_of p)) found in
    let listed_is : c.deref.result.now ≡ found = c.deref.ensures.value in (
      words ++ all,
      c.in_ok-push_list-in-Some.ensures ∙ ap (λ ps. string_bytes c.push_str.new.self ++ listed (λ p. purpose_text (identifier_of p)) ps) listed_is
          ∙ ap (λ t. t ++ all) c.in_ok-push_str-in-Some.ensures.bytes ∙ append_assoc (string_bytes c.args.text.now) words all,
      inl (map identifier_of found, rw c.in-Some.is at c.in_ok-purposes.ensures, ap (λ l. words ++ l) (listed_map purpose_text identifier_of found)),
    )
