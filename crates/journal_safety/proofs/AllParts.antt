-- The parts of safety of a run.
use Rattle.std.proofs.Common.{◌≡◌, List}
use Rattle.domain_base.specs.declared.names.Akm.TheVariants.{FtPsk}
use Rattle.run_journal.specs.declared.domain.Domain.{Domain}
use Rattle.run_journal.specs.declared.domain.Event.{Event}
use Rattle.run_journal.specs.declared.acts.Entry.{Entry}
use Rattle.run_journal.specs.Premises.{Fresh, NoCollision, Unforged}
use Rattle.run_journal.specs.Safe.{use_of, up_of, InstalledOnce, Once, Joined, Sourced}
use Rattle.domain_rules.specs.Network.{IsNamed}
use Rattle.domain_rules.specs.Explained.{Explained}
use Rattle.domain_rules.specs.HeldRight.{HeldRight}
use Rattle.domain_rules.specs.InOctets.{InOctets}
use Rattle.journal_safety.specs.SentFrames.{FromFrames}
use Rattle.journal_safety.proofs.Runs.{run_sound}
use Rattle.journal_safety.proofs.Places.{Good}
use Rattle.journal_safety.proofs.Joining.{joined}
use Rattle.journal_safety.proofs.Once.{installed_once}
use Rattle.journal_safety.proofs.Numbers.{used_once}
use Rattle.journal_safety.proofs.Ups.{from_frames, sourced, up_once}

-- ---- the parts of a run

pub good_run : (d : Domain) (rounds : List (List Event)) (j : List Entry) → (d.akm ≡ FtPsk → InOctets d) → (d.akm ≡ FtPsk → HeldRight d j) → IsNamed d → Explained d rounds j → Fresh j → NoCollision j → Unforged j → Good d j
good_run d rounds j octets held names run fresh apart unforged =
    record { names = names; legal = (run_sound d rounds j (record { names = names; octets = octets }) held run).legal; fresh = fresh; apart = apart; unforged = unforged }

pub joined_run : (d : Domain) (rounds : List (List Event)) (j : List Entry) → (d.akm ≡ FtPsk → InOctets d) → (d.akm ≡ FtPsk → HeldRight d j) → IsNamed d → Explained d rounds j → Fresh j → NoCollision j → Unforged j → Joined j
joined_run d rounds j octets held names run fresh apart unforged = joined d j (good_run d rounds j octets held names run fresh apart unforged)

pub installed_once_run : (d : Domain) (rounds : List (List Event)) (j : List Entry) → (d.akm ≡ FtPsk → InOctets d) → (d.akm ≡ FtPsk → HeldRight d j) → IsNamed d → Explained d rounds j → Fresh j → NoCollision j → Unforged j → InstalledOnce j
installed_once_run d rounds j octets held names run fresh apart unforged = installed_once d j (good_run d rounds j octets held names run fresh apart unforged)

pub used_once_run : (d : Domain) (rounds : List (List Event)) (j : List Entry) → (d.akm ≡ FtPsk → InOctets d) → (d.akm ≡ FtPsk → HeldRight d j) → IsNamed d → Explained d rounds j → Fresh j → NoCollision j → Unforged j → Once use_of j
used_once_run d rounds j octets held names run fresh apart unforged = used_once d j (good_run d rounds j octets held names run fresh apart unforged)

pub sourced_run : (d : Domain) (rounds : List (List Event)) (j : List Entry) → (d.akm ≡ FtPsk → InOctets d) → (d.akm ≡ FtPsk → HeldRight d j) → IsNamed d → Explained d rounds j → Fresh j → NoCollision j → Unforged j → Sourced j
sourced_run d rounds j octets held names run fresh apart unforged = sourced d j (good_run d rounds j octets held names run fresh apart unforged)

pub from_frames_run : (d : Domain) (rounds : List (List Event)) (j : List Entry) → (d.akm ≡ FtPsk → InOctets d) → (d.akm ≡ FtPsk → HeldRight d j) → IsNamed d → Explained d rounds j → Fresh j → NoCollision j → Unforged j → FromFrames j
from_frames_run d rounds j octets held names run fresh apart unforged = from_frames d j (good_run d rounds j octets held names run fresh apart unforged)

pub up_once_run : (d : Domain) (rounds : List (List Event)) (j : List Entry) → (d.akm ≡ FtPsk → InOctets d) → (d.akm ≡ FtPsk → HeldRight d j) → IsNamed d → Explained d rounds j → Fresh j → NoCollision j → Unforged j → Once up_of j
up_once_run d rounds j octets held names run fresh apart unforged = up_once d j (good_run d rounds j octets held names run fresh apart unforged)
