-- The network as it is at a moment of a run: that of the header, with the keys as they were changed last (profile).
use Rattle.std.specs.Prelude.{ℕ, zero, suc, cond, List, [], ◌∷◌, unwrap_or, nat_lt}
use Rattle.domain_base.specs.declared.names.Node.{Node}
use Rattle.domain_base.specs.declared.names.Node.TheVariants.{Sta}
use Rattle.run_journal.specs.declared.acts.Act.{Act}
use Rattle.run_journal.specs.declared.acts.Entry.{Entry}
use Rattle.run_journal.specs.declared.domain.Domain.{Domain}
use Rattle.run_journal.specs.declared.domain.ListedSta.{ListedSta}
use Rattle.run_journal.specs.Secrets.{last_secret, last_secret_in}
use Rattle.domain_rules.specs.Network.{psk_of}

-- the pre-shared key of a station by the history of a node: that to which it was changed last, else that of the header
abbrev pub secret : Domain → Node → List Act → List ℕ
secret d p h = unwrap_or (last_secret p h) (psk_of d p)

-- the stations from the k-th on, after that journal: each with the key to which it was changed last, else its own
abbrev pub keyed : List Entry → ℕ → List ListedSta → List ListedSta
keyed j k [] = []
keyed j k (s ∷ stas) = record { address = s.address; psk = unwrap_or (last_secret_in (Sta k) j) s.psk } ∷ keyed j (suc k) stas

-- the network after that journal
abbrev pub present : Domain → List Entry → Domain
present d j = record d { stas = keyed j zero d.stas }

-- the entries of rounds before that one
abbrev pub earlier : ℕ → List Entry → List Entry
earlier round [] = []
earlier round (e ∷ j) = cond (nat_lt e.round round) (e ∷ earlier round j) (earlier round j)
