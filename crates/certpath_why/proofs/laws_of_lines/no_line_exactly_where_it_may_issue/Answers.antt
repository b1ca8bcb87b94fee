use Rattle.certpath_why.proofs.Untold.{issue_exactly}
use Rattle.certpath_why.proofs.laws_of_lines.no_line_exactly_where_it_may_issue.Goals as goal

pub returns : goal.returns
returns c = λ target v cert text. issue_exactly target v cert text
