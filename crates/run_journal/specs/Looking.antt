-- What a journal asks of its earlier entries, and where it looks for them.
-- For the code alone: no public contract speaks of it.
use Rattle.std.specs.Prelude.{ℕ, ◌≡◌, ◌<◌, ◌≤◌, ◌%◌, List, [], ◌∷◌, length, map, take, reverse, vec_len, All, Option, Some, None, MatchOption}
use Rattle.std.specs.List.{HoldsAt}
use Rattle.key_hierarchy.specs.declared.inputs.Inputs.{Inputs}
use Rattle.key_hierarchy.specs.Keys.{lesser, greater}
use Rattle.run_journal.specs.declared.acts.Drawn.TheVariants as draw
use Rattle.run_journal.specs.declared.acts.Seal.{Seal}
use Rattle.run_journal.specs.declared.acts.Act.{Act}
use Rattle.run_journal.specs.declared.acts.Act.TheVariants.{Drew, Derived, Sent}
use Rattle.run_journal.specs.declared.acts.Entry.{Entry}
use Rattle.run_journal.specs.declared.premises.Premises.{Premises}
use Rattle.run_journal.specs.declared.breadth.Breadth.{Breadth}
use Rattle.run_journal.specs.declared.mixing.TheConstants.{START, SEAL_FRONT, VALUE_FRONT}
use Rattle.run_journal.specs.declared.index.Index.{Index}
use Rattle.run_journal.specs.declared.index.Question.{Question}
use Rattle.run_journal.specs.declared.index.Question.TheVariants as ask
use Rattle.run_journal.specs.Chained.{mix, count_of, Chained, HasRoom}
use Rattle.run_journal.specs.Premises.{In, IsBefore, Name, name, value, drawn, seal_sent, seal_taken, SentBefore}
use Rattle.run_journal.specs.Report.{Decides}

-- a TK that was derived, or a group key that was drawn
abbrev pub temporal_key : Act → Option (List ℕ)
temporal_key (Derived p i k) = Some k.tk
temporal_key (Drew (draw.Group kind v)) = Some v
temporal_key _ = None

-- a KCK that was derived
abbrev pub confirmation_key : Act → Option (List ℕ)
confirmation_key (Derived p i k) = Some k.kck
confirmation_key _ = None

-- what a key was derived from, or None where it was drawn
abbrev pub maker : Act → Option Name
maker (Derived p i k) = Some (name i)
maker _ = None

-- the entry is as the question says
abbrev pub Fits : Question → Entry → Type 0
Fits (ask.Drawn octets) e = drawn e.act ≡ Some octets.now
Fits (ask.TemporalKey octets) e = temporal_key e.act ≡ Some octets.now
Fits (ask.ConfirmationKey octets) e = confirmation_key e.act ≡ Some octets.now
Fits (ask.SealBefore seal later) e = (seal_sent e.act ≡ Some seal.now) × IsBefore e later.now

-- what a search answers: none where no entry fits, else the place of one that does
abbrev pub Finds : (Entry → Type 0) → List Entry → Option ℕ → Type 0
Finds fits entries place = MatchOption place (All (λ e. fits e → ⊥) entries) (λ i. (i < length entries) × HoldsAt fits entries i)

-- the chain of what has these octets, by the first of them
abbrev pub chain_of : Breadth → List ℕ → ℕ
chain_of b octets = mix START (take VALUE_FRONT octets) % count_of b

-- the chain of what has this seal, by the first octets of its key and of what is sealed
abbrev pub chain_of_seal : Breadth → Seal → ℕ
chain_of_seal b s = mix (mix START (take VALUE_FRONT s.key)) (take SEAL_FRONT s.octets) % count_of b

abbrev pub chain_asked : Breadth → Question → ℕ
chain_asked b (ask.Drawn octets) = chain_of b octets.now
chain_asked b (ask.TemporalKey octets) = chain_of b octets.now
chain_asked b (ask.ConfirmationKey octets) = chain_of b octets.now
chain_asked b (ask.SealBefore seal later) = chain_of_seal b seal.now

-- values drawn, TKs and seals
abbrev pub value_chain : Breadth → Act → Option ℕ
value_chain b (Drew v) = Some (chain_of b (value v))
value_chain b (Derived p i k) = Some (chain_of b k.tk)
value_chain b (Sent p k octets (Some s)) = Some (chain_of_seal b s)
value_chain b _ = None

-- KCKs
abbrev pub kck_chain : Breadth → Act → Option ℕ
kck_chain b (Derived p i k) = Some (chain_of b k.kck)
kck_chain b _ = None

-- the chain of an act among those where the question is answered
abbrev pub kept_chain : Breadth → Question → Act → Option ℕ
kept_chain b (ask.ConfirmationKey octets) act = kck_chain b act
kept_chain b _ act = value_chain b act

abbrev pub chains_of : Breadth → Question → List Entry → List (Option ℕ)
chains_of b q entries = map (λ e. kept_chain b q e.act) entries

-- the index is that of these entries, in the order of pushing
pub record Indexed (entries : List Entry) (index : Index) : Type 0 where
  pub values : Chained (map (λ e. value_chain index.breadth e.act) entries) index.values
  pub kcks : Chained (map (λ e. kck_chain index.breadth e.act) entries) index.kcks

-- the index has room for so many more
pub record IndexHasRoom (more : ℕ) (index : Index) : Type 0 where
  pub values : HasRoom more index.values
  pub kcks : HasRoom more index.kcks
  pub values_made : 0 < more → count_of index.breadth ≤ vec_len index.values.lasts
  pub kcks_made : 0 < more → count_of index.breadth ≤ vec_len index.kcks.lasts

-- what a key of suite 4 is derived from, but suite and PSK
pub record SameInRoles (i m : Inputs) : Type 0 where
  pub ssid : i.ssid ≡ m.ssid
  pub mdid : i.mdid ≡ m.mdid
  pub r0kh_id : i.r0kh_id ≡ m.r0kh_id
  pub aa : i.aa.0 ≡ m.aa.0
  pub spa : i.spa.0 ≡ m.spa.0
  pub anonce : i.anonce ≡ m.anonce
  pub snonce : i.snonce ≡ m.snonce

-- what a key of suites 2 and 6 is derived from, but suite and PSK
pub record SameInOrder (i m : Inputs) : Type 0 where
  pub lesser_address : lesser i.aa.0 i.spa.0 ≡ lesser m.aa.0 m.spa.0
  pub greater_address : greater i.aa.0 i.spa.0 ≡ greater m.aa.0 m.spa.0
  pub lesser_nonce : lesser i.anonce i.snonce ≡ lesser m.anonce m.snonce
  pub greater_nonce : greater i.anonce i.snonce ≡ greater m.anonce m.snonce

-- each earlier entry with the key of this one has it from the same maker
abbrev pub Agrees : (Act → Option (List ℕ)) → Entry → List Entry → Type 0
Agrees key e past = (v : List ℕ) (m : Entry) → key e.act ≡ Some v → In m past → key m.act ≡ Some v → maker m.act ≡ maker e.act

abbrev pub AllAgree : (Act → Option (List ℕ)) → List Entry → Type 0
AllAgree key [] = Unit {0}
AllAgree key (e ∷ past) = Agrees key e past × AllAgree key past

-- what verified in this entry was sent before
abbrev pub IsSourced : Entry → List Entry → Type 0
IsSourced e past = (s : Seal) → seal_taken e.act ≡ Some s → SentBefore s e past

-- what a journal keeps beside its entries, in the order of pushing, is right
pub record IsRight (entries : List Entry) (index : Index) (spare : ℕ) (premises : Premises) : Type 0 where
  pub indexed : Indexed entries index
  pub room : IndexHasRoom spare index
  pub decides : Decides (reverse entries) premises
