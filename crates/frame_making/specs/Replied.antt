-- What stays of a reply as a frame is written into it, or is said by one that only sends (profile).
use Rattle.std.specs.Prelude.{◌≡◌, None}
use Rattle.run_journal.specs.declared.reply.Reply.{Reply}

-- the keys that the reply had, and what it said of what came, are there still
pub record Keeps (old new : Reply) : Type 0 where
  pub verified : new.verified ≡ old.verified
  pub derived : new.derived ≡ old.derived
  pub installed : new.installed ≡ old.installed
  pub gtk : new.gtk ≡ old.gtk
  pub igtk : new.igtk ≡ old.igtk

-- nothing but a frame, if any: no key under which one verified, no key derived or installed, and no
-- group key
pub record TellsNothing (r : Reply) : Type 0 where
  pub verified : r.verified ≡ None
  pub derived : r.derived ≡ None
  pub installed : r.installed ≡ None
  pub gtk : r.gtk ≡ None
  pub igtk : r.igtk ≡ None
