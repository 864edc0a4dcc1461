pub mod RepliedActs
pub mod Returning
pub mod Templating
