use Rattle.std.proofs.Common.{◌≡◌, drop}
use Rattle.x509_requests.specs.Lookup.{attributes_of}
use Rattle.x509_requests.proofs.info.find_attribute.Given as goal

-- what was passed has another identifier
abbrev pub invariant-loop-attribute : goal.invariant-loop-attribute
invariant-loop-attribute l = attributes_of l.fn.oid (drop l.attribute-index l.fn.attributes) ≡ attributes_of l.fn.oid l.fn.attributes
