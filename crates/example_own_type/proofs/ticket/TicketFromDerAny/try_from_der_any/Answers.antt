use Rattle.asn1_traits.proofs.Outcomes.{refused_too}
use Rattle.example_own_type.proofs.ticket.TicketFromDerAny.try_from_der_any.Goals as goal

pub returns-in-Err : goal.returns-in-Err
returns-in-Err g c =
    refused_too g.E.From.from_gives _ c.in-Err.e _ _ c.in-Err.ensures (λ none ticket means. none (record { first = ticket.serial; second = ticket.valid }) means)
