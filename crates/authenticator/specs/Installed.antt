-- What is said and sent as an attempt becomes a session (IEEE Std 802.11-2020, 12.7.6.5 and 12.7.7.2).
-- For the code alone: no public contract speaks of it.
use Rattle.std.specs.Prelude.{◌≡◌, ◌<◌, ◌^◌, suc, Bool, true, false, Some, None}
use Rattle.run_journal.specs.declared.reply.Reply.{Reply}
use Rattle.group_key.specs.declared.news.News.{News}
use Rattle.node_base.specs.declared.ends.Ends.{Ends}
use Rattle.authenticator.specs.Groups.{Asks}
use Rattle.authenticator.specs.declared.attempt.Finish.{Finish}
use Rattle.authenticator.specs.declared.session.Session.{Session}

-- G1 is sent, where M3 carried an older group key
abbrev pub AsksWhere : Bool → Ends → News → Session → Session → Reply → Type 0
AsksWhere false l g s t r = (t ≡ s) × (r.len ≡ 0)
AsksWhere true l g s t r = suc s.last < 2 ^ 64 → Asks l g s t r

-- the key of the session is installed, under which M4 verified; the session is t then, which keeps key and association
pub record IsInstalled (l : Ends) (g : News) (x : Finish) (t : Session) (r : Reply) : Type 0 where
  pub verified : r.verified ≡ Some x.key.ptk.kck
  pub derived : r.derived ≡ None
  pub installed : r.installed ≡ Some x.key
  pub gtk : r.gtk ≡ None
  pub igtk : r.igtk ≡ None
  pub asks : AsksWhere x.is_older l g x.session t r
  pub ptk : t.ptk ≡ x.session.ptk
  pub associated : t.association ≡ x.session.association
