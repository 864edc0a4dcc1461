-- What the tests of the code say.
use Rattle.std.proofs.Common.{◌≡◌, ℕ, Bool, true, false, List, Option, Some, None, refl, sym, ap, subst, ◌∙◌}
use Rattle.std.specs.Prelude.{◌↔◌, IsTrue, is_some, ◌==◌}
use Rattle.std.specs.List.{list_any}
use Rattle.domain_base.specs.declared.names.Akm.{Akm}
use Rattle.mac_prf.specs.Mic.{mic}
use Rattle.eapol_key.specs.KeyFrame.{KeyFields}
use Rattle.run_journal.specs.declared.acts.KeyDataFault.{KeyDataFault}
use Rattle.run_journal.specs.declared.reply.Keyed.{Keyed}
use Rattle.node_base.specs.declared.ends.Ends.{Ends}
use Rattle.authenticator.specs.Agreed.{Agreed}
use Rattle.authenticator.specs.Counters.{listed}
use Rattle.frame_making.specs.Mobile.{Mobility}
use Rattle.authenticator.specs.KeyData.{IsKeyDataOf}
use Rattle.authenticator.specs.declared.attempt.Attempt.{Attempt}
use Rattle.node_base.specs.PairwiseKeys.{key_with}
use Rattle.authenticator.specs.Groups.{offers_for, owes, IsOffered, IsForgedG2, IsG2}
use Rattle.authenticator.specs.Judged.{Frame, awaits_m2, IsAwaited, IsForged, IsVerified, IsAnswered, IsForgedM4}
use Rattle.authenticator.specs.declared.counters.Offers.{Offers}
use Rattle.authenticator.specs.declared.session.Session.{Session}

-- as the code verified a MIC
is_same : (akm : Akm) (kck other m octets : List ℕ) (b : Bool) → kck ≡ other → (IsTrue b ↔ (m ≡ mic akm kck octets)) → b ≡ true → m ≡ mic akm other octets
is_same akm kck other m octets b key by is = by.0 is ∙ ap (λ (x : List ℕ). mic akm x octets) key

not_same : (akm : Akm) (kck other m octets : List ℕ) (b : Bool) → kck ≡ other → (IsTrue b ↔ (m ≡ mic akm kck octets)) → b ≡ false → m ≡ mic akm other octets → ⊥
not_same akm kck other m octets b key by is same = absurd (cc (is, by.1 (same ∙ ap (λ (x : List ℕ). mic akm x octets) (sym key))))

pub none_by : (o : Option Agreed) → is_some o ≡ false → o ≡ None
none_by None is = refl
none_by (Some y) is = absurd (cc is)

key_data_as : (m : Option Mobility) (rsne octets : List ℕ) (o fault : Option KeyDataFault) → o ≡ fault → IsKeyDataOf m rsne octets o → IsKeyDataOf m rsne octets fault
key_data_as m rsne octets o fault is by = subst (λ (x : Option KeyDataFault). IsKeyDataOf m rsne octets x) is by

-- an M2
pub awaits : (l : Ends) (a : Attempt) (f : KeyFields) (awaited offer : Bool) → awaited ≡ awaits_m2 l a f → awaited ≡ true → offer ≡ list_any (λ c. c == f.counter) (listed a.m1s) → offer ≡ true → IsAwaited l a f
awaits l a f awaited offer awaited_is yes_ offer_is one = record { awaited = sym awaited_is ∙ yes_; offer = sym offer_is ∙ one }

pub forged : (l : Ends) (a : Attempt) (f : Frame) (y : Keyed) (b : Bool) → IsAwaited l a f.fields → y ≡ key_with l a.association.base.pmk a.anonce f.fields.nonce → (IsTrue b ↔ (f.fields.mic ≡ mic l.akm y.ptk.kck f.octets)) → b ≡ false → IsForged l a f
forged l a f y b awaited key by is = record {
  awaited = awaited;
  other = not_same l.akm y.ptk.kck (key_with l a.association.base.pmk a.anonce f.fields.nonce).ptk.kck f.fields.mic f.octets b (ap (λ (x : Keyed). x.ptk.kck) key) by is;
}

pub verifies : (l : Ends) (a : Attempt) (f : Frame) (y : Keyed) (b : Bool) (rsne : List ℕ) (o fault : Option KeyDataFault) → IsAwaited l a f.fields → y ≡ key_with l a.association.base.pmk a.anonce f.fields.nonce
    → (IsTrue b ↔ (f.fields.mic ≡ mic l.akm y.ptk.kck f.octets)) → b ≡ true → rsne ≡ a.association.rsne → o ≡ fault → IsKeyDataOf a.association.base.mobility rsne f.fields.key_data o → IsVerified l a f y fault
verifies l a f y b rsne o fault awaited key by is raw fault_is key_data = record {
  awaited = awaited;
  mic_is = is_same l.akm y.ptk.kck (key_with l a.association.base.pmk a.anonce f.fields.nonce).ptk.kck f.fields.mic f.octets b (ap (λ (x : Keyed). x.ptk.kck) key) by is;
  key = key;
  key_data = subst (λ (x : List ℕ). IsKeyDataOf a.association.base.mobility x f.fields.key_data fault) raw (key_data_as a.association.base.mobility rsne f.fields.key_data o fault fault_is key_data);
}

-- an M4
pub answers : (a : Attempt) (f : KeyFields) (y : Agreed) (offer : Bool) → a.agreed ≡ Some y → offer ≡ list_any (λ c. c == f.counter) (listed a.m3s) → offer ≡ true → IsAnswered a f y
answers a f y offer some offer_is one = record { some = some; offer = sym offer_is ∙ one }

pub forged_m4 : (akm : Akm) (a : Attempt) (f : Frame) (y : Agreed) (key : Keyed) (b : Bool) → IsAnswered a f.fields y → key ≡ y.key → (IsTrue b ↔ (f.fields.mic ≡ mic akm key.ptk.kck f.octets)) → b ≡ false → IsForgedM4 akm a f
forged_m4 akm a f y key b answered is by other = record {
  y = y;
  answered = answered;
  other = not_same akm key.ptk.kck y.key.ptk.kck f.fields.mic f.octets b (ap (λ (x : Keyed). x.ptk.kck) is) by other;
}

pub verified_m4 : (akm : Akm) (y : Agreed) (key : Keyed) (m octets : List ℕ) (b : Bool) → key ≡ y.key → (IsTrue b ↔ (m ≡ mic akm key.ptk.kck octets)) → b ≡ true → m ≡ mic akm y.key.ptk.kck octets
verified_m4 akm y key m octets b is by same = is_same akm key.ptk.kck y.key.ptk.kck m octets b (ap (λ (x : Keyed). x.ptk.kck) is) by same

-- a G2
pub offered_as : (place : ℕ) (s : Session) (f : KeyFields) (o : Offers) (one b : Bool) → o ≡ offers_for place s → one ≡ list_any (λ c. c == f.counter) (listed o) → one ≡ b → list_any (λ c. c == f.counter) (listed (offers_for place s)) ≡ b
offered_as place s f o one b o_is is value = sym (is ∙ ap (λ (x : Offers). list_any (λ c. c == f.counter) (listed x)) o_is) ∙ value

pub offers_g2 : (place : ℕ) (s : Session) (f : KeyFields) (o : Offers) (owed one : Bool) → owed ≡ owes place s → owed ≡ true → o ≡ offers_for place s → one ≡ list_any (λ c. c == f.counter) (listed o) → one ≡ true → IsOffered place s f
offers_g2 place s f o owed one owed_is held o_is is value = record { owed = sym owed_is ∙ held; offer = offered_as place s f o one true o_is is value }

pub forged_g2 : (akm : Akm) (place : ℕ) (s : Session) (f : Frame) (b : Bool) → IsOffered place s f.fields → (IsTrue b ↔ (f.fields.mic ≡ mic akm s.ptk.kck f.octets)) → b ≡ false → IsForgedG2 akm place s f
forged_g2 akm place s f b offered by other = record { offered = offered; other = not_same akm s.ptk.kck s.ptk.kck f.fields.mic f.octets b refl by other }

pub verified_g2 : (akm : Akm) (place : ℕ) (s : Session) (f : Frame) (b : Bool) → IsOffered place s f.fields → (IsTrue b ↔ (f.fields.mic ≡ mic akm s.ptk.kck f.octets)) → b ≡ true → IsG2 akm place s f
verified_g2 akm place s f b offered by same = record { offered = offered; mic_is = by.0 same }
