pub mod StreamLemmas
pub mod VisitLemmas
pub mod TurnLemmas
pub mod SessionLemmas
pub mod RunLemmas
pub mod RiseLemmas
pub mod DoneVisits
