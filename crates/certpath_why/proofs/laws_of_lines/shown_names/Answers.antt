use Rattle.certpath_why.proofs.NameLines.{shown_other, shown_whole}
use Rattle.certpath_why.proofs.laws_of_lines.shown_names.Goals as goal

pub returns-clause-name : goal.returns-clause-name
returns-clause-name c = λ octets name below is. shown_whole octets name below is

pub returns-clause-other : goal.returns-clause-other
returns-clause-other c = λ octets below none. shown_other octets below none
