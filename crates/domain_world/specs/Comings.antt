-- What an event is at its node.
-- For the code alone: no public contract speaks of it.
use Rattle.std.specs.Prelude.{ℕ, List}
use Rattle.run_journal.specs.declared.domain.Event.{Event}
use Rattle.run_journal.specs.declared.domain.Event.TheVariants.{Connect, Roam, Deliver, Alter, Cut, Inject, Retry, Rekey, Send, Expire, Revoke, Leave, Secret, Renew, Announce}
use Rattle.domain_rules.specs.Rows.{NodeEvent, Take, Begin}
use Rattle.domain_rules.specs.Rows as again

-- where these octets come by it
abbrev pub event_at : Event → List ℕ → NodeEvent
event_at (Connect s a) comes = Begin a
event_at (Roam s a) comes = again.Roam a
event_at (Deliver number to) comes = Take comes
event_at (Alter number place mask to) comes = Take comes
event_at (Cut number size to) comes = Take comes
event_at (Inject to octets) comes = Take comes
event_at (Retry a s) comes = again.Retry s
event_at (Rekey a) comes = again.Rekey
event_at (Send from to tid octets) comes = again.Send to tid octets
event_at (Expire a s) comes = again.Expire s
event_at (Revoke a s) comes = again.Revoke s
event_at (Leave s) comes = again.Leave
event_at (Secret named psk) comes = again.Secret named psk
event_at (Renew a s) comes = again.Renew s
event_at (Announce a octets) comes = again.Announce octets
