-- The reader of general names takes what the relation says, and no more.
use Rattle.std.proofs.Common.{◌≡◌, ◌∙◌, refl, sym, ap, subst, ℕ, ◌==◌, List, [], Bool, true, false, Ok, Err, inl, inr, ◌⊎◌, if◌then◌else◌}
use Rattle.std.specs.Str.{IsUtf8}
use Rattle.std.specs.Int.Digits.{AllBelowBase}
use Rattle.asn1_core.proofs.Cases.{chosen}
use Rattle.asn1_core.specs.Elements.{Element}
use Rattle.x509_core.specs.Answers.{Answer, unnamed}
use Rattle.x509_core.specs.Grammar.{One, HoldsWindow}
use Rattle.x509_core.specs.Leaves.{IsOid}
use Rattle.x509_core.proofs.Grammars.{IsMeaning, IsReading, next_reading, two, content_below}
use Rattle.x509_core.proofs.LeafLaws.{equal_tags, tags_equal}
use Rattle.x509_ext_flags.specs.x509_names.specs.Fields.{Name}
use Rattle.x509_ext_flags.specs.x509_names.specs.Names.{X509Name, NameParts}
use Rattle.x509_ext_flags.specs.x509_names.specs.Reading.{name_in, name_at}
use Rattle.x509_ext_flags.specs.x509_names.proofs.NameLaws.{name_meaning}
use Rattle.x509_items.specs.Reading.{oid_at, to_end, text_in}
use Rattle.x509_items.proofs.TextLaws.{text_found, text_only}
use Rattle.x509_items.proofs.Readings.{oid_reading, end_case}
use Rattle.x509_ext_names.specs.Names.{IsEntry, IsNoEntry, IsGeneralName}
use Rattle.x509_ext_names.specs.Names as entries
use Rattle.x509_ext_names.specs.Reading.{other_name_in, text_name_in, directory_name_in, entry_in, or_invalid, general_name_in}
use Rattle.x509_ext_names.specs.Values as values

name_reading : IsReading X509Name name_at
name_reading = next_reading (HoldsWindow 16 NameParts (λ n. n.raw)) name_in name_meaning

other_found : (e : Element) (n : values.GeneralName) → AllBelowBase 256 e.content → e.tag ≡ 0 → other_name_in e.content ≡ Ok n → IsEntry e n
unfolding other_name_in
other_found e n below tag given =
    let id = two (oid_at e.content) _ n given in
    let same : values.other_name id.0.0 id.0.1 ≡ n = cc in
    entries.other_name id.0.0 id.0.1 tag (oid_reading.found e.content id.0.0 id.0.1 below id.1).0 (sym same)

other_only : (e : Element) (id left : List ℕ) → AllBelowBase 256 e.content → One IsOid e.content id left → other_name_in e.content ≡ Ok (values.other_name id left)
unfolding other_name_in
other_only e id left below is = rw (oid_reading.only e.content id left below is) refl

rfc822_found : (e : Element) (n : values.GeneralName) → text_name_in 1 e.content ≡ Ok n → IsUtf8 e.content × (n ≡ values.rfc822_name e.content)
unfolding text_name_in
rfc822_found e n given =
    let text = two (text_in e.content) _ n given in
    let is = text_found e.content text.0 text.1 in
    let same : values.rfc822_name text.0 ≡ n = cc in
    (is.0, sym same ∙ ap values.rfc822_name (sym is.1))

dns_found : (e : Element) (n : values.GeneralName) → text_name_in 2 e.content ≡ Ok n → IsUtf8 e.content × (n ≡ values.dns_name e.content)
unfolding text_name_in
dns_found e n given =
    let text = two (text_in e.content) _ n given in
    let is = text_found e.content text.0 text.1 in
    let same : values.dns_name text.0 ≡ n = cc in
    (is.0, sym same ∙ ap values.dns_name (sym is.1))

uri_found : (e : Element) (n : values.GeneralName) → text_name_in 6 e.content ≡ Ok n → IsUtf8 e.content × (n ≡ values.uri e.content)
unfolding text_name_in
uri_found e n given =
    let text = two (text_in e.content) _ n given in
    let is = text_found e.content text.0 text.1 in
    let same : values.uri text.0 ≡ n = cc in
    (is.0, sym same ∙ ap values.uri (sym is.1))

text_name_only : (tag : ℕ) (c : List ℕ) → IsUtf8 c → text_name_in tag c ≡ Ok (if tag == 1 then values.rfc822_name c else if tag == 2 then values.dns_name c else values.uri c)
unfolding text_name_in
text_name_only tag c is = rw (text_only c is) refl

directory_found : (e : Element) (n : values.GeneralName) → AllBelowBase 256 e.content → e.tag ≡ 4 → directory_name_in e.content ≡ Ok n → IsEntry e n
unfolding directory_name_in
directory_found e n below tag given =
    let name = two (name_at e.content) _ n given in
    let end = two (to_end name.0) _ n name.2 in
    let same : values.directory_name end.0 ≡ n = cc in
    let all : name_at e.content ≡ Ok (end.0, []) = name.1 ∙ ap (λ z. Ok z) (end_case name.0 end.0 end.1) in
    entries.directory_name end.0 tag (name_reading.found e.content end.0 [] below all).0 (sym same)

directory_only : (e : Element) (name : Name) → AllBelowBase 256 e.content → X509Name e.content name [] → directory_name_in e.content ≡ Ok (values.directory_name name)
unfolding directory_name_in
directory_only e name below is = rw (name_reading.only e.content name [] below is) refl

pub entry_found : (e : Element) (n : values.GeneralName) → AllBelowBase 256 e.content → entry_in e ≡ Ok n → IsEntry e n
unfolding entry_in
entry_found e n below given =
    elim (chosen (e.tag == 0) _ _ _ given) [
      | inl is ↦ other_found e n below (equal_tags e.tag 0 is.0) is.1
      | inr a ↦ elim (chosen (e.tag == 1) _ _ _ a.1) [
        | inl is ↦ let text = rfc822_found e n is.1 in entries.rfc822_name (equal_tags e.tag 1 is.0) text.0 text.1
        | inr b ↦ elim (chosen (e.tag == 2) _ _ _ b.1) [
          | inl is ↦ let text = dns_found e n is.1 in entries.dns_name (equal_tags e.tag 2 is.0) text.0 text.1
          | inr c ↦ elim (chosen (e.tag == 3) _ _ _ c.1) [
            | inl is ↦ let same : values.x400_address e ≡ n = cc in entries.x400_address (equal_tags e.tag 3 is.0) (sym same)
            | inr d ↦ elim (chosen (e.tag == 4) _ _ _ d.1) [
              | inl is ↦ directory_found e n below (equal_tags e.tag 4 is.0) is.1
              | inr f ↦ elim (chosen (e.tag == 5) _ _ _ f.1) [
                | inl is ↦ let same : values.edi_party_name e ≡ n = cc in entries.edi_party_name (equal_tags e.tag 5 is.0) (sym same)
                | inr g ↦ elim (chosen (e.tag == 6) _ _ _ g.1) [
                  | inl is ↦ let text = uri_found e n is.1 in entries.uri (equal_tags e.tag 6 is.0) text.0 text.1
                  | inr h ↦ elim (chosen (e.tag == 7) _ _ _ h.1) [
                    | inl is ↦ let same : values.ip_address e.content ≡ n = cc in entries.ip_address (equal_tags e.tag 7 is.0) (sym same)
                    | inr i ↦ elim (chosen (e.tag == 8) _ _ _ i.1) [
                      | inl is ↦ let same : values.registered_id e.content ≡ n = cc in entries.registered_id (equal_tags e.tag 8 is.0) (sym same)
                      | inr other ↦ let impossible = other.1 in cc
                    ]
                  ]
                ]
              ]
            ]
          ]
        ]
      ]
    ]

pub entry_only : (e : Element) (n : values.GeneralName) → AllBelowBase 256 e.content → IsEntry e n → entry_in e ≡ Ok n
unfolding entry_in
entry_only e n below (entries.other_name id left tag is same) = rw (tag, same) (other_only e id left below is)
entry_only e n below (entries.rfc822_name tag is same) = rw (tag, same) (text_name_only 1 e.content is)
entry_only e n below (entries.dns_name tag is same) = rw (tag, same) (text_name_only 2 e.content is)
entry_only e n below (entries.x400_address tag same) =
    rw (ap (λ t. t == 0) tag, ap (λ t. t == 1) tag, ap (λ t. t == 2) tag, ap (λ t. t == 3) tag, same) refl
entry_only e n below (entries.directory_name name tag is same) = rw (tag, same) (directory_only e name below is)
entry_only e n below (entries.edi_party_name tag same) =
    rw (ap (λ t. t == 0) tag, ap (λ t. t == 1) tag, ap (λ t. t == 2) tag, ap (λ t. t == 3) tag, ap (λ t. t == 4) tag, ap (λ t. t == 5) tag, same) refl
entry_only e n below (entries.uri tag is same) = rw (tag, same) (text_name_only 6 e.content is)
entry_only e n below (entries.ip_address tag same) = rw (tag, same) refl
entry_only e n below (entries.registered_id tag same) = rw (tag, same) refl

invalid_found : (e : Element) (o : Answer values.GeneralName) (n : values.GeneralName) → AllBelowBase 256 e.content → entry_in e ≡ o → or_invalid e o ≡ n → IsEntry e n ⊎ (IsNoEntry e × (n ≡ values.invalid e.tag e.content))
invalid_found e (Ok m) n below read same = inl (subst (IsEntry e) same (entry_found e m below read))
invalid_found e (Err y) n below read same = inr (λ m is. let there = entry_only e m below is in cc, sym same)

invalid_none : (e : Element) (o : Answer values.GeneralName) → AllBelowBase 256 e.content → entry_in e ≡ o → IsNoEntry e → or_invalid e o ≡ values.invalid e.tag e.content
invalid_none e (Ok m) below read none = absurd (none m (entry_found e m below read))
invalid_none e (Err y) below read none = refl

invalid_only : (e : Element) (n : values.GeneralName) → AllBelowBase 256 e.content → IsEntry e n ⊎ (IsNoEntry e × (n ≡ values.invalid e.tag e.content)) → or_invalid e (entry_in e) ≡ n
invalid_only e n below (inl is) = ap (or_invalid e) (entry_only e n below is)
invalid_only e n below (inr none) = invalid_none e (entry_in e) below refl none.0 ∙ sym none.1

pub general_name_meaning : IsMeaning IsGeneralName general_name_in
general_name_meaning = record {
  found = λ q v spells below given.
      let inner = content_below q spells below in
      elim (chosen (q.element.class == 2) _ _ _ given) [
        | inl is ↦
            let same : or_invalid q.element (entry_in q.element) ≡ v = cc in
            record { class = equal_tags q.element.class 2 is.0; entry = invalid_found q.element (entry_in q.element) v inner refl same }
        | inr other ↦ let impossible = other.1 in cc
      ];
  only = λ q v spells below is. rw (tags_equal q.element.class 2 is.class) (ap (λ z. Ok z) (invalid_only q.element v (content_below q spells below) is.entry));
}
