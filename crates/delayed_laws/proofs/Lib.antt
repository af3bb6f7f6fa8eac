pub mod FollowLemmas
pub mod CrossLemmas
pub mod RangeLemmas
pub mod AnnouncedLemmas
pub mod GreatestLemmas
pub mod ListedLemmas
