use Rattle.std.proofs.Common.{ap, sym, ◌∙◌}
use Rattle.x509_names.specs.NameTexts.{name_text}
use Rattle.x509_names.specs.View.{name_view}
use Rattle.x509_objects.specs.Registry.{name_or}
use Rattle.x509_objects.specs.Table.{abbreviation_of}
use Rattle.certpath_why.proofs.names.text_of.Goals as goal

pub returns-in-Ok : goal.returns-in-Ok
returns-in-Ok c = sym c.in-Ok.ensures ∙ ap (λ label. name_text label (name_view c.args.name.now)) (λ i id. name_or (abbreviation_of id) (c.args.labels.now.known id i))

pub returns-in-Err-InvalidAttributes : goal.returns-in-Err-InvalidAttributes
returns-in-Err-InvalidAttributes c =
    sym (rw c.in-Err-InvalidAttributes.field-0-is at c.in-Err-InvalidAttributes.ensures)
    ∙ ap (λ label. name_text label (name_view c.args.name.now)) (λ i id. name_or (abbreviation_of id) (c.args.labels.now.known id i))
