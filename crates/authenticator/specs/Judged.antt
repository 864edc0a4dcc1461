-- How the messages of an attempt are judged, and how it goes on. The order of the checks, and how often a message is
-- sent, are this project's choice (IEEE Std 802.11-2020, 12.7.6.3, 12.7.6.5, 12.7.6.6, profile).
use Rattle.std.specs.Prelude.{◌≡◌, ◌<◌, ◌≤◌, ◌^◌, ◌==◌, ◌&&◌, ℕ, suc, Bool, true, false, cond, not, List, Option, Some, None, is_some, unwrap_or, nat_lt, bytes_eq, ◌⊎◌}
use Rattle.std.specs.List.{list_any}
use Rattle.domain_base.specs.declared.names.Akm.{Akm}
use Rattle.air_frame.specs.Sent.{IsAddress}
use Rattle.mac_prf.specs.Mic.{mic}
use Rattle.eapol_key.specs.KeyFrame.{KeyFields}
use Rattle.eapol_key.specs.Messages.{has_bit}
use Rattle.eapol_key.specs.Fields.{fields_of}
use Rattle.eapol_key.specs.declared.frame.KeyFrame.{KeyFrame}
use Rattle.eapol_key.specs.declared.messages.Message.{Message}
use Rattle.eapol_key.specs.declared.messages.Message.TheVariants.{M1, M3}
use Rattle.eapol_key.specs.declared.messages.Message.TheVariants as messages
use Rattle.run_journal.specs.Events.{is_second}
use Rattle.run_journal.specs.declared.domain.Version.{Version}
use Rattle.run_journal.specs.declared.acts.KeyDataFault.{KeyDataFault}
use Rattle.run_journal.specs.declared.acts.Reason.{Reason}
use Rattle.run_journal.specs.declared.acts.Reason.TheVariants as reason
use Rattle.run_journal.specs.declared.reply.Keyed.{Keyed}
use Rattle.run_journal.specs.declared.reply.Reply.{Reply}
use Rattle.domain_rules.specs.Asking.{greatest}
use Rattle.frame_making.specs.KeyData.{m3_data}
use Rattle.group_key.specs.declared.keys.GroupKey.{GroupKey}
use Rattle.group_key.specs.declared.news.News.{News}
use Rattle.group_key.specs.News.{carried_news}
use Rattle.node_base.specs.declared.ends.Ends.{Ends}
use Rattle.node_base.specs.PairwiseKeys.{key_with}
use Rattle.authenticator.specs.Agreed.{Agreed}
use Rattle.authenticator.specs.Associated.{Associated}
use Rattle.authenticator.specs.Counters.{listed, added, count}
use Rattle.authenticator.specs.KeyData.{IsKeyDataOf}
use Rattle.authenticator.specs.Sends.{SendsM1, SendsM3}
use Rattle.authenticator.specs.declared.attempt.Attempt.{Attempt}
use Rattle.authenticator.specs.declared.attempt.Finish.{Finish}
use Rattle.authenticator.specs.declared.attempt.FinalKey.{FinalKey}
use Rattle.authenticator.specs.declared.attempt.M4.{M4}
use Rattle.authenticator.specs.declared.attempt.M4.TheVariants as m4
use Rattle.authenticator.specs.declared.counters.Offers.TheVariants.{Zero, One}
use Rattle.authenticator.specs.declared.session.Session.{Session}
use Rattle.authenticator.specs.declared.m2.M2.{M2}
use Rattle.authenticator.specs.declared.m2.M2.TheVariants as m2

-- a frame: its fields, and its octets (profile)
pub record Frame : Type 0 where
  pub fields : KeyFields
  pub octets : List ℕ

-- a frame of the code, without where it lies in memory (profile)
abbrev pub frame_of : KeyFrame → Frame
frame_of f = record { fields = fields_of f; octets = f.octets.now }

-- ---- how an attempt begins and goes on

-- an attempt of which the first M1 was sent, with that counter: of that association, to renew the key of a session or not
abbrev pub begun : Associated → Bool → ℕ → List ℕ → Attempt
begun association renews counter anonce = record {
  association = association;
  renews = renews;
  anonce = anonce;
  m1s = One counter;
  m3s = Zero;
  agreed = None;
}

-- M2 was accepted, and the first M3 was sent with that counter
abbrev pub answered : ℕ → Agreed → Attempt → Attempt
answered counter y a = record a { m3s = One counter; agreed = Some y }

-- M1 was sent again with that counter, and M3
abbrev pub sent_m1_again : ℕ → Attempt → Attempt
sent_m1_again counter a = record a { m1s = added counter a.m1s }

abbrev pub sent_m3_again : ℕ → Attempt → Attempt
sent_m3_again counter a = record a { m3s = added counter a.m3s }

-- the ends have addresses
pub record AreWhole (l : Ends) : Type 0 where
  pub own : IsAddress l.own.0
  pub peer : IsAddress l.peer.0

-- an attempt that renews the key of session s begins with M1, and the session is t then
pub record IsRenewal (l : Ends) (s t : Session) (anonce : List ℕ) (a : Attempt) (r : Reply) : Type 0 where
  pub association : Associated
  pub has : s.association ≡ Some association
  pub counter : ℕ
  pub next : suc s.last < 2 ^ 64 → counter ≡ suc s.last
  pub value : a ≡ begun association true counter anonce
  pub now : t ≡ record s { last = counter }
  pub sends : SendsM1 l counter anonce r
  pub whole : AreWhole l

-- ---- M2

-- where the rules of renewed pairwise keys hold, Secure is set in the M2 of an attempt that renews a key, and clear in
-- that of another (12.7.6.3, profile)
abbrev pub is_secured_by : Version → Bool → ℕ → Bool
is_secured_by v renews information = cond (is_second v) (cond renews (has_bit information 9) (not (has_bit information 9))) true

-- no M2 was accepted, and this one is secured so
abbrev pub awaits_m2 : Ends → Attempt → KeyFields → Bool
awaits_m2 l a f = not (is_some a.agreed) && is_secured_by l.version a.renews f.information

-- it is awaited, and its counter is one of those of the M1
pub record IsAwaited (l : Ends) (a : Attempt) (f : KeyFields) : Type 0 where
  pub awaited : awaits_m2 l a f ≡ true
  pub offer : list_any (λ c. c == f.counter) (listed a.m1s) ≡ true

-- it is awaited, but its counter is none of those of the M1
pub record IsCounted (l : Ends) (a : Attempt) (f : KeyFields) (last : ℕ) : Type 0 where
  pub awaited : awaits_m2 l a f ≡ true
  pub offer : list_any (λ c. c == f.counter) (listed a.m1s) ≡ false
  pub is : last ≡ unwrap_or (greatest (listed a.m1s)) 0

-- the MIC of an M2 verifies under the key of both nonces
abbrev pub Verifies : Ends → Attempt → Frame → Type 0
Verifies l a f = f.fields.mic ≡ mic l.akm (key_with l a.association.base.pmk a.anonce f.fields.nonce).ptk.kck f.octets

-- the MIC of an M2 does not verify
pub record IsForged (l : Ends) (a : Attempt) (f : Frame) : Type 0 where
  pub awaited : IsAwaited l a f.fields
  pub other : Verifies l a f → ⊥

-- an M2 is awaited and its MIC verifies: its key, and what is wrong with its key data, if anything is
pub record IsVerified (l : Ends) (a : Attempt) (f : Frame) (y : Keyed) (fault : Option KeyDataFault) : Type 0 where
  pub awaited : IsAwaited l a f.fields
  pub mic_is : Verifies l a f
  pub key : y ≡ key_with l a.association.base.pmk a.anonce f.fields.nonce
  pub key_data : IsKeyDataOf a.association.base.mobility a.association.rsne f.fields.key_data fault

-- why an M2 is refused
abbrev pub IsRefusedM2 : Ends → Attempt → Frame → Reason → Type 0
IsRefusedM2 l a f reason.Unawaited = awaits_m2 l a f.fields ≡ false
IsRefusedM2 l a f (reason.Counter last) = IsCounted l a f.fields last
IsRefusedM2 l a f reason.Mic = IsForged l a f
IsRefusedM2 l a f _ = ⊥

-- what an M2 is judged as
abbrev pub IsM2 : Ends → Attempt → Frame → M2 → Type 0
IsM2 l a f (m2.Refused why) = IsRefusedM2 l a f why
IsM2 l a f (m2.Other fault y) = IsVerified l a f y (Some fault)
IsM2 l a f (m2.Agreed y) = IsVerified l a f y None

-- the reply says that the key was derived, under which the frame verified, and nothing else of keys
pub record TellsDerived (y : Keyed) (r : Reply) : Type 0 where
  pub verified : r.verified ≡ Some y.ptk.kck
  pub derived : r.derived ≡ Some y
  pub installed : r.installed ≡ None
  pub gtk : r.gtk ≡ None
  pub igtk : r.igtk ≡ None

-- it sends the first M3 of the attempt, with that counter
pub record Answers (l : Ends) (counter : ℕ) (y : Agreed) (r : Reply) : Type 0 where
  pub sends : SendsM3 l y counter r
  pub whole : AreWhole l

-- ---- M4

-- what was agreed on, and its counter is one of those of the M3
pub record IsAnswered (a : Attempt) (f : KeyFields) (y : Agreed) : Type 0 where
  pub some : a.agreed ≡ Some y
  pub offer : list_any (λ c. c == f.counter) (listed a.m3s) ≡ true

-- an M2 was accepted, but the counter of the M4 is none of those of the M3
pub record IsUncounted (a : Attempt) (f : KeyFields) (last : ℕ) : Type 0 where
  pub y : Agreed
  pub some : a.agreed ≡ Some y
  pub offer : list_any (λ c. c == f.counter) (listed a.m3s) ≡ false
  pub is : last ≡ unwrap_or (greatest (listed a.m3s)) 0

-- the MIC of an M4 does not verify
pub record IsForgedM4 (akm : Akm) (a : Attempt) (f : Frame) : Type 0 where
  pub y : Agreed
  pub answered : IsAnswered a f.fields y
  pub other : f.fields.mic ≡ mic akm y.key.ptk.kck f.octets → ⊥

-- where this is the newest group key: the key of an M4 that is accepted, and whether M3 carried an older one
pub record IsFinalKey (akm : Akm) (newest : GroupKey) (a : Attempt) (f : Frame) (x : FinalKey) : Type 0 where
  pub y : Agreed
  pub answered : IsAnswered a f.fields y
  pub mic_is : f.fields.mic ≡ mic akm y.key.ptk.kck f.octets
  pub key_is : x.key ≡ y.key
  pub older : x.is_older ≡ nat_lt y.news.gtk.place newest.place

-- nothing was sent in the session for the group key of that place
pub record IsFresh (place : ℕ) (s : Session) : Type 0 where
  pub place_is : s.place ≡ place
  pub no_g1 : s.g1s ≡ Zero
  pub unanswered : s.is_answered ≡ false

-- where this is the newest group key, and that the last replay counter: the session, and whether M3 carried an older one
pub record IsFinish (akm : Akm) (newest : GroupKey) (last : ℕ) (a : Attempt) (f : Frame) (x : Finish) : Type 0 where
  pub y : Agreed
  pub answered : IsAnswered a f.fields y
  pub mic_is : f.fields.mic ≡ mic akm y.key.ptk.kck f.octets
  pub key_is : x.key ≡ y.key
  pub ptk_is : x.session.ptk ≡ y.key.ptk
  pub associated : x.session.association ≡ Some a.association
  pub last_is : x.session.last ≡ last
  pub fresh : IsFresh newest.place x.session
  pub older : x.is_older ≡ nat_lt y.news.gtk.place newest.place

-- why an M4 is refused
abbrev pub IsRefusedM4 : Akm → Attempt → Frame → Reason → Type 0
IsRefusedM4 akm a f reason.Unawaited = a.agreed ≡ None
IsRefusedM4 akm a f (reason.Counter last) = IsUncounted a f.fields last
IsRefusedM4 akm a f reason.Mic = IsForgedM4 akm a f
IsRefusedM4 akm a f _ = ⊥

-- a refusal gives the attempt back as it was
abbrev pub IsM4 : Akm → GroupKey → ℕ → Attempt → Frame → M4 → Type 0
IsM4 akm newest last a f (m4.Refused why back) = (back ≡ a) × IsRefusedM4 akm a f why
IsM4 akm newest last a f (m4.Finished x) = IsFinish akm newest last a f x

-- an M4 becomes the last message of the attempt: its counter is one of those of the M3, and its MIC verifies (12.7.6.5)
abbrev pub is_final_by : Akm → Attempt → Frame → Option Agreed → Bool
is_final_by akm a f None = false
is_final_by akm a f (Some y) =
    list_any (λ c. c == f.fields.counter) (listed a.m3s) && bytes_eq f.fields.mic (mic akm y.key.ptk.kck f.octets)

-- an M4 makes the attempt a session (12.7.6.5)
abbrev pub is_final_m4 : Akm → Option Attempt → Frame → Bool
is_final_m4 akm None f = false
is_final_m4 akm (Some a) f = is_final_by akm a f a.agreed

-- the message is such an M4 (12.7.6.5)
abbrev pub is_final : Akm → Option Attempt → Message → Frame → Bool
is_final akm o messages.M4 f = is_final_m4 akm o f
is_final akm o _ f = false

-- ---- again

-- M1 is sent again with that counter: no M2 was accepted, and M1 was sent less than four times
pub record IsM1Again (l : Ends) (counter : ℕ) (a b : Attempt) (r : Reply) : Type 0 where
  pub none : a.agreed ≡ None
  pub few : count a.m1s < 4
  pub sends : SendsM1 l counter a.anonce r
  pub whole : AreWhole l
  pub now : b ≡ sent_m1_again counter a

-- what M3 carries with those group keys
abbrev pub remade : Ends → Attempt → Agreed → News → Agreed
remade l a y g = record { key = y.key; news = g; plain = m3_data l.mfp l.akm a.association.base.mobility (carried_news g) }

-- M3 again carries what the first did, and in an attempt that renews a key the group keys as they are now
abbrev pub carried_by : Bool → Agreed → Agreed → Agreed
carried_by false first now = first
carried_by true first now = now

-- M3 is sent again with that counter: an M2 was accepted, and M3 was sent less than four times
pub record IsM3Again (l : Ends) (g : News) (counter : ℕ) (a b : Attempt) (r : Reply) : Type 0 where
  pub y : Agreed
  pub some : a.agreed ≡ Some y
  pub few : count a.m3s < 4
  pub sends : SendsM3 l (carried_by a.renews y (remade l a y g)) counter r
  pub whole : AreWhole l
  pub now : b ≡ sent_m3_again counter a

-- the reply sends the message of the attempt a again with that counter, and the group keys as they are now where M3 carries them;
-- the attempt is b then
abbrev pub IsAgain : Ends → News → ℕ → Attempt → Attempt → Reply → Type 0
IsAgain l g counter a b r = IsM1Again l counter a b r ⊎ IsM3Again l g counter a b r

-- that message was sent as often as it may be
abbrev pub IsInVain : Attempt → Message → Type 0
IsInVain a M1 = (a.agreed ≡ None) × (4 ≤ count a.m1s)
IsInVain a M3 = (is_some a.agreed ≡ true) × (4 ≤ count a.m3s)
IsInVain a _ = ⊥
