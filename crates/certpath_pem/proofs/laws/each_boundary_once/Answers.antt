use Rattle.certpath_pem.specs.Lines.{lines_of}
use Rattle.certpath_pem.proofs.LawFacts.{each_told}
use Rattle.certpath_pem.proofs.laws.each_boundary_once.Goals as goal

pub returns : goal.returns
returns c = λ octets. each_told (lines_of octets)
