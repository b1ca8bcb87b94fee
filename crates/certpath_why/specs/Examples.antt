-- Worked examples of what is demanded.
use Rattle.std.specs.Borrow.{Bor}
use Rattle.std.specs.Prelude.{ℕ, List, [], ◌∷◌, ◌++◌, Some, None, codes}
use Rattle.cert_model.specs.Fields.{Identifier, Certificate}
use Rattle.cert_judge.specs.Examples.{extended_by}
use Rattle.cert_purpose.specs.Examples.{server_auth, usage}
use Rattle.cert_serving.specs.Examples.{dns, naming}
use Rattle.certpath_inputs.specs.Demands.{of_purpose}
use Rattle.certpath_inputs.specs.declared.demand.Demand.{Demand}
use Rattle.host_names.specs.Examples.{a_b, w_a_b}
use Rattle.host_names.specs.declared.host.Host.TheVariants.{Name}
use Rattle.purpose_names.specs.Names.{identifier_of}
use Rattle.purpose_names.specs.declared.naming.NamedPurpose.TheVariants.{ClientAuth, EmailProtection}

-- two purposes, and SEQUENCE { clientAuth, emailProtection }
abbrev pub others : List Identifier
others = identifier_of ClientAuth ∷ identifier_of EmailProtection ∷ []

abbrev pub for_others : List ℕ
for_others = 0x30 ∷ 0x14 ∷ 0x06 ∷ 0x08 ∷ (identifier_of ClientAuth ++ 0x06 ∷ 0x08 ∷ identifier_of EmailProtection)

-- a certificate for these, and one that names a.b
abbrev pub of_others : Certificate
of_others = extended_by (usage for_others ∷ [])

abbrev pub of_a_b : Certificate
of_a_b = extended_by (naming (dns a_b))

abbrev pub word : List ℕ → Bor (List ℕ)
word text = record { ref_ptr = (0, 0); now = text }

-- demands of serverAuth alone, and of w.A.b alone
abbrev pub for_server : Demand
for_server = of_purpose (Some (record { identifier = word server_auth; shown = word (codes "serverAuth") }))

abbrev pub for_w_a_b : Demand
for_w_a_b = record { purpose = None; host = Some (record { host = Name (word w_a_b); shown = word (codes "w.A.b") }) }
