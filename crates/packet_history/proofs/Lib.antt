mod Lists
mod Kept
mod Own
mod OneNode
