use Rattle.certpath_why.proofs.Joined.{then_appended}
use Rattle.certpath_why.proofs.words.push_list_words.Goals as goal

pub returns-in_ok-push_next_update-in-PastNextUpdate : goal.returns-in_ok-push_next_update-in-PastNextUpdate
returns-in_ok-push_next_update-in-PastNextUpdate c = rw c.in-PastNextUpdate.is (then_appended _ _ _ _ _ c.in_ok-push_next_update-in-PastNextUpdate.ensures c.in_ok-push_str-in-PastNextUpdate.ensures.bytes)
