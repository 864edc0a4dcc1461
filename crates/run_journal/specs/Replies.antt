-- What a reply says (profile).
use Rattle.std.specs.Prelude.{◌≡◌, ◌≤◌, ℕ, List, None, Some}
use Rattle.run_journal.specs.declared.reply.Reply.{Reply}

-- no frame (its length is 0, whatever the octets of its room), no key and no look (this project's choice, as the next)
pub record IsEmpty (r : Reply) : Type 0 where
  pub len : r.len ≡ 0
  pub sealed : r.sealed ≡ None
  pub verified : r.verified ≡ None
  pub derived : r.derived ≡ None
  pub installed : r.installed ≡ None
  pub gtk : r.gtk ≡ None
  pub igtk : r.igtk ≡ None
  pub looked : r.looked ≡ None

-- the octets that it tells of are in its room of 512, and where it is sealed they reach to the end of the MIC of an EAPOL-Key frame without key data
-- in a data frame: at least 131
pub record IsWhole (r : Reply) : Type 0 where
  pub few : r.len ≤ 512
  pub sealed : (kck : List ℕ) → r.sealed ≡ Some kck → 131 ≤ r.len
