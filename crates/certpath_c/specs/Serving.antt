-- What `certpath_allows` and `certpath_serves` answer.
use Rattle.std.specs.Prelude.{◌≡◌, ◌⊎◌, ℕ, ℤ, Bool, true, false, List}
use Rattle.cert_model.specs.Fields.{Extension}
use Rattle.cert_purpose.specs.Purposes.{Allows}
use Rattle.host_names.specs.declared.host.Host.{Host}
use Rattle.host_names.specs.declared.refusal.Refusal.{Refusal}
use Rattle.host_names.specs.declared.refusal.Refusal.TheVariants.{Empty, Url, EmailAddress, Wildcard, Zone, Port, NoAddress, NotAscii, Character, LongName, EmptyLabel, LongLabel, Hyphen, Number}
use Rattle.host_names.specs.Asked.{host_view, AsksFor}
use Rattle.host_names.specs.Refusals.{IsRefusedFor}
use Rattle.cert_serving.specs.declared.item.Answer.{Answer}
use Rattle.cert_serving.specs.declared.item.Answer.TheVariants.{NotCertificate, No, Yes}
use Rattle.cert_serving.specs.Demanding.{IsAnswer}
use Rattle.cert_serving.specs.Serving.{Serves}
use Rattle.certpath_c.specs.Status.{done, out_of_memory, not_certificate, bad_host}

-- the number of a reason why a text is no host
abbrev pub reason_number : Refusal → ℕ
reason_number Empty = 0
reason_number Url = 1
reason_number EmailAddress = 2
reason_number Wildcard = 3
reason_number Zone = 4
reason_number Port = 5
reason_number NoAddress = 6
reason_number NotAscii = 7
reason_number Character = 8
reason_number LongName = 9
reason_number EmptyLabel = 10
reason_number LongLabel = 11
reason_number Hyphen = 12
reason_number Number = 13

-- whether an answer is on a certificate, and what is written
abbrev pub Marks : Answer → ℕ → ℕ → Bool → Type 0
Marks NotCertificate says says' is = (is ≡ false) × (says' ≡ says)
Marks No says says' is = (is ≡ true) × (says' ≡ 0)
Marks Yes says says' is = (is ≡ true) × (says' ≡ 1)

-- the status of an answer, and what is written
abbrev pub Tells : Answer → ℕ → ℕ → ℤ → Type 0
Tells NotCertificate says says' status = (status ≡ not_certificate) × (says' ≡ says)
Tells No says says' status = (status ≡ done) × (says' ≡ 0)
Tells Yes says says' status = (status ≡ done) × (says' ≡ 1)

-- the answer on an item of whose certificate's extensions something is asked
abbrev pub ItemAnswer : List ℕ → (List Extension → Type 0) → ℕ → ℕ → ℤ → Type 0
ItemAnswer item P says says' status =
    ((answer : Answer) × IsAnswer item P answer × Tells answer says says' status)
    ⊎ ((status ≡ out_of_memory) × (says' ≡ says))

abbrev pub AllowsAnswer : List ℕ → List ℕ → ℕ → ℕ → ℤ → Type 0
AllowsAnswer item purpose says says' status = ItemAnswer item (Allows purpose) says says' status

-- the text is no host, and the number of the reason is written; or the answer on the host
abbrev pub ServesAnswer : List ℕ → List ℕ → ℕ → ℕ → ℤ → Type 0
ServesAnswer item text says says' status =
    ((reason : Refusal) × IsRefusedFor text reason × (status ≡ bad_host) × (says' ≡ reason_number reason))
    ⊎ ((host : Host) × AsksFor text host × ItemAnswer item (Serves (host_view host)) says says' status)
