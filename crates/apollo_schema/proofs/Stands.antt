pub mod FaultLemmas
pub mod RoleLemmas
pub mod SchemaStandsLemmas
pub mod StandsLemmas
pub mod TurnLemmas
pub mod WaitingLemmas
