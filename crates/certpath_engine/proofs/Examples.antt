-- Words written out, of which clap's definitions are computed.
use Rattle.std.proofs.Common.{◌≡◌, List, [], ◌∷◌, Option, Some, true, codes, refl}
use Rattle.std.specs.Option.{option_map}
use Rattle.clap.specs.Walk.{Row, Text, first_of}
use Rattle.clap.specs.Simple.{subcommand_of}
use Rattle.clap.specs.Takes.{takes}
use Rattle.clap.proofs.OnLiterals.{clap_on_literals}
use Rattle.certpath_engine.specs.Words.{certpath_app}

abbrev default_words : List Text
default_words = codes "certpath" ∷ codes "frame" ∷ codes "a.der" ∷ []

abbrev limited_words : List Text
limited_words = codes "certpath" ∷ codes "frame" ∷ codes "--limit=007" ∷ codes "a.der" ∷ []

-- a subcommand's name, and the texts of FILE and N
abbrev given : Option (Text × List Row) → Option (Text × Option Text × Option Text)
given = option_map (λ p. (p.0, first_of (codes "FILE") p.1, first_of (codes "limit") p.1))

taken_by_default : takes certpath_app default_words ≡ true
unfolding clap_on_literals
taken_by_default = refl

taken_with_limit : takes certpath_app limited_words ≡ true
unfolding clap_on_literals
taken_with_limit = refl

given_by_default : given (subcommand_of certpath_app default_words) ≡ Some (codes "frame", Some (codes "a.der"), Some (codes "16777216"))
unfolding clap_on_literals
given_by_default = refl

given_with_limit : given (subcommand_of certpath_app limited_words) ≡ Some (codes "frame", Some (codes "a.der"), Some (codes "007"))
unfolding clap_on_literals
given_with_limit = refl
