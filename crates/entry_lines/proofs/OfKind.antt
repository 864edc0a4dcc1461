-- An act of one kind is of the form that acts of that kind have.
use Rattle.std.proofs.Common.{◌≡◌, ℕ, List, Option}
use Rattle.domain_base.specs.declared.names.Node.{Node}
use Rattle.domain_base.specs.declared.names.Peer.{Peer}
use Rattle.eapol_key.specs.declared.messages.Message.{Message}
use Rattle.key_hierarchy.specs.declared.inputs.Inputs.{Inputs}
use Rattle.key_hierarchy.specs.declared.inputs.Ptk.{Ptk}
use Rattle.key_hierarchy.specs.declared.answers.PutAnswer.{PutAnswer}
use Rattle.key_hierarchy.specs.declared.answers.PullAnswer.{PullAnswer}
use Rattle.key_hierarchy.specs.declared.answers.RevokeAnswer.{RevokeAnswer}
use Rattle.run_journal.specs.declared.acts.Start.{Start}
use Rattle.run_journal.specs.declared.acts.Part.{Part}
use Rattle.run_journal.specs.declared.acts.Drawn.{Drawn}
use Rattle.run_journal.specs.declared.acts.Kind.{Kind}
use Rattle.run_journal.specs.declared.acts.Why.{Why}
use Rattle.run_journal.specs.declared.acts.Outcome.{Outcome}
use Rattle.run_journal.specs.declared.acts.Seal.{Seal}
use Rattle.run_journal.specs.declared.acts.Key.{Key}
use Rattle.run_journal.specs.declared.acts.Act.{Act}
use Rattle.run_journal.specs.declared.acts.Act.TheVariants.{Opened, Closed, Drew, Derived, Sent, Took, Installed, Resumed, Used, HandedUp, Finished, Put, Looked, Revoked, Secret, GaveUp, Idle, Link}
use Rattle.entry_lines.specs.declared.names.ActKind.TheVariants as acts
use Rattle.entry_lines.specs.Acts.{kind_of}
use Rattle.entry_lines.specs.Entries.{HasLine}

pub is_opened : (P : Act → Type 0) → ((p : Node) (s : Start) → P (Opened p s)) → (a : Act) → kind_of a ≡ acts.Opened → P a
is_opened P f (Opened p s) e = f p s
is_opened P f _ e = absurd cc

pub is_closed : (P : Act → Type 0) → ((p : Node) (part : Part) → P (Closed p part)) → (a : Act) → kind_of a ≡ acts.Closed → P a
is_closed P f (Closed p part) e = f p part
is_closed P f _ e = absurd cc

pub is_drew : (P : Act → Type 0) → ((v : Drawn) → P (Drew v)) → (a : Act) → kind_of a ≡ acts.Drew → P a
is_drew P f (Drew v) e = f v
is_drew P f _ e = absurd cc

pub is_derived : (P : Act → Type 0) → ((p : Node) (i : Inputs) (k : Ptk) → P (Derived p i k)) → (a : Act) → kind_of a ≡ acts.Derived → P a
is_derived P f (Derived p i k) e = f p i k
is_derived P f _ e = absurd cc

pub is_sent : (P : Act → Type 0) → ((p : Peer) (k : Kind) (octets : List ℕ) (s : Option Seal) → P (Sent p k octets s)) → (a : Act) → kind_of a ≡ acts.Sent → P a
is_sent P f (Sent p k octets s) e = f p k octets s
is_sent P f _ e = absurd cc

pub is_took : (P : Act → Type 0) → ((from : Option Node) (octets : List ℕ) (k : Kind) (o : Outcome) (s : Option Seal) → P (Took from octets k o s)) → (a : Act) → kind_of a ≡ acts.Took → P a
is_took P f (Took from octets k o s) e = f from octets k o s
is_took P f _ e = absurd cc

pub is_installed : (P : Act → Type 0) → ((p : Peer) (key : Key) → P (Installed p key)) → (a : Act) → kind_of a ≡ acts.Installed → P a
is_installed P f (Installed p key) e = f p key
is_installed P f _ e = absurd cc

pub is_resumed : (P : Act → Type 0) → ((p : Node) (key : Key) → P (Resumed p key)) → (a : Act) → kind_of a ≡ acts.Resumed → P a
is_resumed P f (Resumed p key) e = f p key
is_resumed P f _ e = absurd cc

pub is_used : (P : Act → Type 0) → ((p : Peer) (key : List ℕ) (id n : ℕ) (octets : List ℕ) → P (Used p key id n octets)) → (a : Act) → kind_of a ≡ acts.Used → P a
is_used P f (Used p key id n octets) e = f p key id n octets
is_used P f _ e = absurd cc

pub is_handed_up : (P : Act → Type 0) → ((p : Node) (key : List ℕ) (id tid n : ℕ) (octets : List ℕ) → P (HandedUp p key id tid n octets)) → (a : Act) → kind_of a ≡ acts.HandedUp → P a
is_handed_up P f (HandedUp p key id tid n octets) e = f p key id tid n octets
is_handed_up P f _ e = absurd cc

pub is_finished : (P : Act → Type 0) → ((p : Node) (i : Inputs) → P (Finished p i)) → (a : Act) → kind_of a ≡ acts.Finished → P a
is_finished P f (Finished p i) e = f p i
is_finished P f _ e = absurd cc

pub is_put : (P : Act → Type 0) → ((x m : List ℕ) (p : Node) (answer : PutAnswer) → P (Put x m p answer)) → (a : Act) → kind_of a ≡ acts.Put → P a
is_put P f (Put x m p answer) e = f x m p answer
is_put P f _ e = absurd cc

pub is_looked : (P : Act → Type 0) → ((x m : List ℕ) (p : Node) (answer : PullAnswer) → P (Looked x m p answer)) → (a : Act) → kind_of a ≡ acts.Looked → P a
is_looked P f (Looked x m p answer) e = f x m p answer
is_looked P f _ e = absurd cc

pub is_revoked : (P : Act → Type 0) → ((x m : List ℕ) (p : Node) (answer : RevokeAnswer) → P (Revoked x m p answer)) → (a : Act) → kind_of a ≡ acts.Revoked → P a
is_revoked P f (Revoked x m p answer) e = f x m p answer
is_revoked P f _ e = absurd cc

pub is_secret : (P : Act → Type 0) → ((p : Node) (psk : List ℕ) → P (Secret p psk)) → (a : Act) → kind_of a ≡ acts.Secret → P a
is_secret P f (Secret p psk) e = f p psk
is_secret P f _ e = absurd cc

pub is_gave_up : (P : Act → Type 0) → ((p : Node) (m : Message) → P (GaveUp p m)) → (a : Act) → kind_of a ≡ acts.GaveUp → P a
is_gave_up P f (GaveUp p m) e = f p m
is_gave_up P f _ e = absurd cc

-- a step of a link has no line
pub is_idle : (P : Act → Type 0) → ((y : Why) → P (Idle y)) → (a : Act) → kind_of a ≡ acts.Idle → HasLine a → P a
is_idle P f (Idle y) e has = f y
is_idle P f (Link sta s) e has = absurd has
is_idle P f _ e has = absurd cc
