pub mod SuiteWords
pub mod SentReads
pub mod OneReading
pub mod Exchange
pub mod HandshakeActs
pub mod FirstRounds
pub mod KeyRounds
pub mod LastRounds
pub mod RenewalActs
pub mod RenewalRounds
pub mod ResumedRounds
pub mod RenewedReads
pub mod RenewedActs
pub mod RenewedRounds
pub mod RenewedGroup
pub mod RenewedLast
pub mod Example
pub mod Parts
pub mod Starts
pub mod GroupKinds
pub mod Unprotected
pub mod Derivations
pub mod Sending
pub mod Effects
pub mod Refused
pub mod Peers
pub mod KeyOctets
pub mod CarriedKey
pub mod Verdicts
pub mod Deciding
pub mod TransitionOutcome
pub mod Outcomes
pub mod OneOutcome
pub mod Pulled
pub mod OneGroup
pub mod SomeGroup
pub mod AnswerTold
pub mod GroupsBy
mod Searching
mod SomePlain
mod SomeRsne
mod SomeFte
mod SomeElements
mod SomeReading
pub mod IntegrityKeys
mod SomeFacts
pub mod SomeGroupBy
pub mod Unchanged
pub mod PresentNetwork
pub mod ChangedNetwork
pub mod KeysPresent
pub mod OldKeys
pub mod ChangedPresent
pub mod Journals
mod Dues
pub mod FteSeals
pub mod Covered
pub mod ActionSeals
mod QuietActs
pub mod Noted
pub mod NotedActions
pub mod Switching
mod Ended
mod Looks
pub mod DataOctets
pub mod DataReads
pub mod DataExchange
pub mod DataActs
pub mod DataRounds
pub mod Unmoved
pub mod GroupActs
