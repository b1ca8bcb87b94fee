-- The signed part by its runs of parts.
use Rattle.std.proofs.Common.{rules}
use Rattle.asn1_any.specs.CutViews.{piece_of}
use Rattle.x509_ext.specs.Fields.{reading_of}
use Rattle.x509_certs.proofs.Runs.{content_refused, start_refused, binding_refused, end_refused, all_read}
use Rattle.x509_certs.proofs.tbs.tbs_of.Goals as goal

pub returns-in_err-parts-clause-read : goal.returns-in_err-parts-clause-read
returns-in_err-parts-clause-read c = search (rules, content_refused (reading_of c.args.deep) (piece_of c.args.element) _ c.in_err-parts.ensures.read)

pub returns-in_err-start-clause-read : goal.returns-in_err-start-clause-read
returns-in_err-start-clause-read c = search (rules, start_refused (reading_of c.args.deep) (piece_of c.args.element) _ _ c.in_ok-parts.ensures.read c.in_err-start.ensures.read)

pub returns-in_err-binding-clause-read : goal.returns-in_err-binding-clause-read
returns-in_err-binding-clause-read c = search (rules, binding_refused (reading_of c.args.deep) (piece_of c.args.element) _ _ _ _ c.in_ok-parts.ensures.read c.in_ok-start.ensures.read c.in_err-binding.ensures.read)

pub returns-in_err-end-clause-read : goal.returns-in_err-end-clause-read
returns-in_err-end-clause-read c = search (rules, end_refused (reading_of c.args.deep) (piece_of c.args.element) _ _ _ _ _ _ c.in_ok-parts.ensures.read c.in_ok-start.ensures.read c.in_ok-binding.ensures.read c.in_err-end.ensures.read)

pub returns-clause-read : goal.returns-clause-read
returns-clause-read c = all_read (reading_of c.args.deep) (piece_of c.args.element) _ _ _ _ _ _ c.in_ok-parts.ensures.read c.in_ok-start.ensures.read c.in_ok-binding.ensures.read c.in_ok-end.ensures.read
