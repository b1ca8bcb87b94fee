use Rattle.certpath_pem.proofs.HoldFacts.{text_says, text_there, holds_says, within_holds}
use Rattle.certpath_pem.proofs.laws.text_holds_no_words.Goals as goal

pub returns-clause-text : goal.returns-clause-text
returns-clause-text c = λ line. (text_says line, λ none. text_there line none.0 none.1)

pub returns-clause-within : goal.returns-clause-within
returns-clause-within c = λ words octets. (holds_says words octets, within_holds words octets)
