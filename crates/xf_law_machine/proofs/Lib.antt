pub mod BehavioursLemmas
pub mod BesideLemmas
pub mod RestLemmas
pub mod FirstLemmas
