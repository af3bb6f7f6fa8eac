pub mod CheckLemmas
pub mod CrossLemmas
pub mod LeavingLemmas
pub mod RaisedLemmas
pub mod SideLemmas
pub mod WrittenLemmas
pub mod ThereLemmas
