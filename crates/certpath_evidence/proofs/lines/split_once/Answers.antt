use Rattle.certpath_evidence.proofs.Pieces.{split_there}
use Rattle.certpath_evidence.proofs.lines.split_once.Goals as goal

pub returns-clause-found : goal.returns-clause-found
returns-clause-found c = split_there c.args.text.now c.args.octet c.in_ok-place.place c.in_ok-place.ensures.found c.in_ok-place.ensures.there
