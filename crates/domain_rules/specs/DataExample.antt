-- Data both ways and to all, after a whole four-way handshake, and a frame that comes twice. It asks that addresses and
-- payloads consist of octets (profile).
use Rattle.std.specs.Prelude.{◌≡◌, ℕ, ◌<◌, ◌^◌, List, [], ◌∷◌, length, Some, None}
use Rattle.std.specs.List.{AllByRecursion}
use Rattle.domain_base.specs.Octets.{AreOctets}
use Rattle.domain_base.specs.declared.names.Node.TheVariants.{Ap, Sta}
use Rattle.domain_base.specs.declared.names.Peer.TheVariants.{One, All}
use Rattle.key_hierarchy.specs.declared.inputs.Inputs.{Inputs}
use Rattle.key_hierarchy.specs.Keys.{ptk}
use Rattle.run_journal.specs.declared.domain.ListedAp.{ListedAp}
use Rattle.run_journal.specs.declared.domain.ListedSta.{ListedSta}
use Rattle.run_journal.specs.declared.domain.Domain.{Domain}
use Rattle.run_journal.specs.declared.domain.Event.{Event}
use Rattle.run_journal.specs.declared.domain.Event.TheVariants.{Connect, Deliver, Retry, Send}
use Rattle.run_journal.specs.declared.acts.Act.TheVariants.{Took, Used, HandedUp}
use Rattle.run_journal.specs.declared.acts.Entry.{Entry}
use Rattle.run_journal.specs.declared.acts.Kind.TheVariants.{Data}
use Rattle.run_journal.specs.declared.acts.Reason.TheVariants.{Replayed}
use Rattle.run_journal.specs.declared.acts.Outcome.TheVariants.{Refused}
use Rattle.run_journal.specs.Questions.{history}
use Rattle.run_journal.specs.Premises.{In}
use Rattle.domain_rules.specs.Network.{nonce, gtk, root, inputs}
use Rattle.domain_rules.specs.Explained.{Explained}

-- the addresses are lists of octets
pub record HaveOctets (d : Domain) : Type 0 where
  pub aps : AllByRecursion (λ (a : ListedAp). AreOctets a.address.0) d.aps
  pub stas : AllByRecursion (λ (s : ListedSta). AreOctets s.address.0) d.stas

-- a payload that CCM can seal
pub record IsPayload (octets : List ℕ) : Type 0 where
  pub are : AreOctets octets
  pub short : length octets < 2 ^ 16

-- the payloads of a station, of an access point for the station, and of the access point for all
pub record Payloads : Type 0 where
  pub up : List ℕ
  pub down : List ℕ
  pub all : List ℕ

-- the payloads consist of octets that CCM can seal
pub record ArePayloads (p : Payloads) : Type 0 where
  pub up : IsPayload p.up
  pub down : IsPayload p.down
  pub all : IsPayload p.all

-- the last round first: a handshake with M3 repeated, up to M4; then the station sends a payload with TID 5, the access
-- point one to the station and one to all, each is delivered, and the last frame again
abbrev pub exchange : ℕ → ℕ → Payloads → List (List Event)
exchange a s p =
    (Deliver 11 (Sta s) ∷ []) ∷ (Deliver 11 (Sta s) ∷ []) ∷ (Send (Ap a) All None p.all ∷ [])
    ∷ (Deliver 10 (Sta s) ∷ []) ∷ (Send (Ap a) (One (Sta s)) None p.down ∷ []) ∷ (Deliver 9 (Ap a) ∷ []) ∷ (Send (Sta s) (One (Ap a)) (Some 5) p.up ∷ [])
    ∷ (Deliver 8 (Ap a) ∷ []) ∷ (Deliver 7 (Sta s) ∷ []) ∷ (Retry a s ∷ [])
    ∷ (Deliver 5 (Sta s) ∷ []) ∷ (Deliver 4 (Ap a) ∷ []) ∷ (Deliver 3 (Sta s) ∷ []) ∷ (Deliver 2 (Sta s) ∷ []) ∷ (Deliver 1 (Ap a) ∷ []) ∷ (Connect s a ∷ []) ∷ []

-- a journal that these rounds explain, in which each payload is sent under the first packet number of its key and handed up with it,
-- and the frame that comes twice is refused as replayed
pub record HasExchange (d : Domain) (a s : ℕ) (p : Payloads) : Type 0 where
  pub journal : List Entry
  pub explained : Explained d (exchange a s p) journal
  -- the pairwise key
  pub i : Inputs
  pub of_first : i ≡ inputs d (root d (Sta s)) (Sta s) (Ap a) (nonce d (Sta s) 0) (nonce d (Ap a) 1)
  pub sent_up : In (Used (One (Ap a)) (ptk i).tk 0 1 p.up) (history (Sta s) journal)
  pub taken_up : In (HandedUp (Sta s) (ptk i).tk 0 5 1 p.up) (history (Ap a) journal)
  pub sent_down : In (Used (One (Sta s)) (ptk i).tk 0 1 p.down) (history (Ap a) journal)
  pub taken_down : In (HandedUp (Ap a) (ptk i).tk 0 0 1 p.down) (history (Sta s) journal)
  -- the group key, with key id 1
  pub sent_to_all : In (Used All (gtk d (Ap a) 0) 1 1 p.all) (history (Ap a) journal)
  pub taken_of_all : In (HandedUp (Ap a) (gtk d (Ap a) 0) 1 0 1 p.all) (history (Sta s) journal)
  -- the frame that comes twice
  pub octets : List ℕ
  pub replayed : In (Took (Some (Ap a)) octets Data (Refused (Replayed 1)) None) (history (Sta s) journal)
