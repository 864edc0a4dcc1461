pub mod EndsKeys
pub mod Grown
pub mod HolderIds
pub mod PairWords
