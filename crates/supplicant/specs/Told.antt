-- What a reply tells (this project's choice).
-- For the code alone: no public contract speaks of it.
use Rattle.std.specs.Prelude.{◌≡◌, ℕ, List, [], Option, Some, None}
use Rattle.domain_base.specs.declared.names.Node.{Node}
use Rattle.run_journal.specs.declared.acts.Act.{Act}
use Rattle.key_hierarchy.specs.declared.inputs.Ptk.{Ptk}
use Rattle.run_journal.specs.declared.reply.Reply.{Reply}
use Rattle.run_journal.specs.declared.reply.Keyed.{Keyed}
use Rattle.run_journal.specs.declared.reply.GtkNews.{GtkNews}
use Rattle.supplicant.specs.declared.answers.Came.{Came}
use Rattle.domain_rules.specs.Replies.{sent_acts}

-- under which KCK a frame verified, which keys were derived, installed or came, and what is sent
pub record Told : Type 0 where
  pub verified : Option (List ℕ)
  pub derived : Option Keyed
  pub installed : Option Keyed
  pub gtk : Option GtkNews
  pub igtk : Option GtkNews
  pub sends : List Act

-- a frame that verified under that KCK, or under none, is not answered
abbrev pub verifies : Option (List ℕ) → Told
verifies v = record { verified = v; derived = None; installed = None; gtk = None; igtk = None; sends = [] }

-- M1 gave that key, and is answered
abbrev pub derives : Keyed → List Act → Told
derives y sends = record {
  verified = None;
  derived = Some y;
  installed = None;
  gtk = None;
  igtk = None;
  sends = sends;
}

-- M3 verified under that key, and is answered
abbrev pub repeats : Keyed → List Act → Told
repeats y sends = record {
  verified = Some y.ptk.kck;
  derived = None;
  installed = None;
  gtk = None;
  igtk = None;
  sends = sends;
}

-- and the keys are installed
abbrev pub installs : Keyed → Came → List Act → Told
installs y keys sends = record {
  verified = Some y.ptk.kck;
  derived = None;
  installed = Some y;
  gtk = Some keys.gtk;
  igtk = keys.igtk;
  sends = sends;
}

-- G1 verified under that key, and is answered; each group key is installed, or goes on
abbrev pub renews : Ptk → Came → List Act → Told
renews q keys sends =
    record { verified = Some q.kck; derived = None; installed = None; gtk = Some keys.gtk; igtk = keys.igtk; sends = sends }

-- the reply to p tells that
pub record Tells (p : Node) (r : Reply) (t : Told) : Type 0 where
  pub verified_is : r.verified ≡ t.verified
  pub derived_is : r.derived ≡ t.derived
  pub installed_is : r.installed ≡ t.installed
  pub gtk_is : r.gtk ≡ t.gtk
  pub igtk_is : r.igtk ≡ t.igtk
  pub sends_are : sent_acts p r ≡ t.sends

-- the reply tells at most that a frame verified
pub record IsSilent (r : Reply) : Type 0 where
  pub len : r.len ≡ 0
  pub sealed : r.sealed ≡ None
  pub derived : r.derived ≡ None
  pub installed : r.installed ≡ None
  pub gtk : r.gtk ≡ None
  pub igtk : r.igtk ≡ None
