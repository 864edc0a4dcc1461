pub mod Events
pub mod Growing
pub mod Changing
pub mod Ends
pub mod PairwiseKeys
pub mod Pairs
