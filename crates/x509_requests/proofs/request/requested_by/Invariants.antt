use Rattle.std.proofs.Common.{◌≡◌, drop}
use Rattle.x509_requests.specs.Lookup.{requested_of}
use Rattle.x509_requests.proofs.request.requested_by.Given as goal

-- what was passed asks for no extensions
abbrev pub invariant-loop-attribute : goal.invariant-loop-attribute
invariant-loop-attribute l = requested_of (drop l.attribute-index l.fn.attributes) ≡ requested_of l.fn.attributes
