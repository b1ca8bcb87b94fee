mod FaultFacts
