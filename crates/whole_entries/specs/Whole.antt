-- What the network tells of an entry beside its line: the nodes that it names by their addresses, and the name of a key
-- by the station's pre-shared key (profile).
use Rattle.std.specs.Prelude.{ℕ, List, Option, None, unwrap_or}
use Rattle.domain_base.specs.Places.{part}
use Rattle.domain_base.specs.declared.names.Node.{Node}
use Rattle.domain_base.specs.declared.names.Node.TheVariants.{Ap, Sta}
use Rattle.key_hierarchy.specs.declared.inputs.Inputs.{Inputs}
use Rattle.key_hierarchy.specs.declared.answers.PullAnswer.{PullAnswer}
use Rattle.key_hierarchy.specs.declared.answers.PullAnswer.TheVariants.{Found}
use Rattle.key_hierarchy.specs.FastTransition.{pmk_r0, pmk_r1}
use Rattle.run_journal.specs.declared.domain.Domain.{Domain}
use Rattle.run_journal.specs.declared.acts.Kind.{Kind}
use Rattle.run_journal.specs.declared.acts.Kind.TheVariants as kind
use Rattle.run_journal.specs.declared.acts.Act.{Act}
use Rattle.run_journal.specs.declared.acts.Act.TheVariants.{Derived, Took, Looked}
use Rattle.run_journal.specs.declared.acts.Entry.{Entry}
use Rattle.domain_rules.specs.Network.{mac, peer_of, psk_of}

-- the listed node that a frame's transmitter address names, at a node to which octets of that kind came; none where they are no
-- frame, or one that is passed over (IEEE Std 802.11-2020, 9.2.4.3, profile)
abbrev pub transmitter : Domain → Node → Kind → List ℕ → Option Node
transmitter d n kind.Ignored octets = None
transmitter d n kind.Unread octets = None
transmitter d n k octets = peer_of d n (part 10 6 octets)

-- the other end of a pairwise key, by its address in what the key is derived from (IEEE Std 802.11-2020, 12.7.1.3)
abbrev pub other_end : Domain → Node → Inputs → Node
other_end d (Ap a) i = unwrap_or (peer_of d (Ap a) i.spa.0) (Ap a)
other_end d (Sta s) i = unwrap_or (peer_of d (Sta s) i.aa.0) (Sta s)

-- PMKR1Name of the station's key in that network, under the R0KH-ID that was asked for, at the access point that asked (IEEE Std
-- 802.11-2020, 12.7.1.6.4)
abbrev pub found_name : Domain → Node → List ℕ → Node → List ℕ
found_name d n id p = (pmk_r1 (pmk_r0 (psk_of d p) d.ssid d.mdid id (mac d p)) (mac d n) (mac d p)).name

-- an answer with the name of the PMK-R1 that was found (profile)
abbrev pub whole_answer : Domain → Node → List ℕ → Node → PullAnswer → PullAnswer
whole_answer d n id p (Found k) = Found (record k { name = found_name d n id p })
whole_answer d n id p answer = answer

-- an act of that node, with what its line leaves out (profile)
abbrev pub whole_act : Domain → Node → Act → Act
whole_act d n (Derived p i k) = Derived (other_end d n i) i k
whole_act d n (Took from octets k o s) = Took (transmitter d n k octets) octets k o s
whole_act d n (Looked id m p answer) = Looked id m p (whole_answer d n id p answer)
whole_act d n a = a

-- the entry that a line tells, with what the line leaves out, in the network as it is in the round of the entry (profile)
abbrev pub complete : Domain → Entry → Entry
complete d e = record { round = e.round; node = e.node; number = e.number; act = whole_act d e.node e.act }
