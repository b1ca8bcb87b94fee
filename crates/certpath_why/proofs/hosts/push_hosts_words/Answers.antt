use Rattle.std.specs.Prelude.{◌==◌, codes}
use Rattle.std.proofs.Common.{◌≡◌, ◌∙◌, ◌++◌, ap, sym, Bool, false, List, [], length, append_assoc, string_bytes}
use Rattle.std.proofs.lemmas.Bool.{false≢true}
use Rattle.cert_serving.specs.View.{general_name_view}
use Rattle.certpath_why.specs.Hosts.{host_text}
use Rattle.certpath_why.specs.Listed.{listed}
use Rattle.certpath_why.proofs.Hosting.{some_words}
use Rattle.certpath_why.proofs.hosts.push_hosts_words.Goals as goal

some_of : {X : Type 0} (xs : List X) (b : Bool) → b ≡ (length xs == 0) → b ≡ false → xs ≡ [] → ⊥
some_of {X} xs b is f e = false≢true (sym f ∙ is ∙ ap (λ (z : List X). length z == 0) e)

pub returns : goal.returns
returns c =
    let hosts = c.args.hosts.now in
    let old = string_bytes c.args.text.now in
    let all = listed (λ g. host_text (general_name_view g)) hosts in
    c.in_ok-push_list.ensures ∙ ap (λ t. t ++ all) c.in_ok-push_str-2.ensures.bytes ∙ append_assoc old (codes "it names ") all
    ∙ ap (λ l. old ++ l) (some_words hosts (some_of hosts c.is_empty.result c.is_empty.ensures c.if-is_empty.false))
