mod EvidenceFacts
mod RecheckFacts
