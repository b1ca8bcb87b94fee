use Rattle.certpath_evidence.proofs.LawFacts as facts
use Rattle.certpath_evidence.proofs.laws.one_inventory.Goals as goal

pub returns : goal.returns
returns c = facts.one_inventory
