-- Whether a message is the last of an attempt.
use Rattle.std.proofs.Common.{◌≡◌, ℕ, Bool, true, false, true≢false, Option, Some, None, refl, sym, ap, subst, ◌∙◌, inl, inr}
use Rattle.std.specs.Prelude.{◌==◌, ◌&&◌, ◌↔◌, IsTrue, bytes_eq}
use Rattle.std.specs.List.{list_any}
use Rattle.std.proofs.lemmas.Bool.{cases_Bool}
use Rattle.std.proofs.lemmas.Slice.Eq.{bytes_eq-Decides}
use Rattle.domain_base.specs.declared.names.Akm.{Akm}
use Rattle.mac_prf.specs.Mic.{mic}
use Rattle.eapol_key.specs.declared.messages.Message.{Message}
use Rattle.eapol_key.specs.declared.messages.Message.TheVariants as messages
use Rattle.run_journal.specs.declared.acts.Reason.{Reason}
use Rattle.run_journal.specs.declared.acts.Reason.TheVariants as reason
use Rattle.run_journal.specs.declared.reply.Keyed.{Keyed}
use Rattle.group_key.specs.declared.keys.GroupKey.{GroupKey}
use Rattle.domain_rules.proofs.Peers.{not_same}
use Rattle.authenticator.specs.Agreed.{Agreed}
use Rattle.authenticator.specs.Counters.{listed}
use Rattle.authenticator.specs.Judged.{Frame, IsAnswered, IsForgedM4, IsFinish, IsRefusedM4, is_final_by, is_final_m4, is_final}
use Rattle.node_base.specs.declared.ends.Ends.{Ends}
use Rattle.authenticator.specs.State.{State}
use Rattle.authenticator.specs.declared.attempt.Attempt.{Attempt}
use Rattle.authenticator.specs.declared.session.Session.{Session}
use Rattle.authenticator.specs.declared.attempt.Finish.{Finish}
use Rattle.authenticator.proofs.Deciding.{forged_m4, verified_m4}

both : (a b : Bool) → a ≡ true → b ≡ true → (a && b) ≡ true
both true b e f = f
both false b e f = absurd (true≢false (sym e))

not_first : (a b : Bool) → a ≡ false → (a && b) ≡ false
not_first true b e = absurd (true≢false e)
not_first false b e = refl

not_second : (a b : Bool) → b ≡ false → (a && b) ≡ false
not_second true b e = e
not_second false b e = refl

second : (a b : Bool) → a ≡ true → (a && b) ≡ b
second true b e = refl
second false b e = absurd (true≢false (sym e))

module _ (akm : Akm) (a : Attempt) (f : Frame) where
  answered : (y : Agreed) → IsAnswered a f.fields y → f.fields.mic ≡ mic akm y.key.ptk.kck f.octets → is_final_by akm a f a.agreed ≡ true
  answered y w same =
      ap (is_final_by akm a f) w.some
      ∙ both (list_any (λ c. c == f.fields.counter) (listed a.m3s)) (bytes_eq f.fields.mic (mic akm y.key.ptk.kck f.octets)) w.offer ((bytes_eq-Decides f.fields.mic (mic akm y.key.ptk.kck f.octets)).1 same)

  pub final_finished : (g : GroupKey) (last : ℕ) (x : Finish) → IsFinish akm g last a f x → is_final_by akm a f a.agreed ≡ true
  final_finished g last x w = answered w.y w.answered w.mic_is

  uncounted : (y : Agreed) → a.agreed ≡ Some y → list_any (λ c. c == f.fields.counter) (listed a.m3s) ≡ false → is_final_by akm a f a.agreed ≡ false
  uncounted y some other =
      ap (is_final_by akm a f) some ∙ not_first (list_any (λ c. c == f.fields.counter) (listed a.m3s)) (bytes_eq f.fields.mic (mic akm y.key.ptk.kck f.octets)) other

  forged : IsForgedM4 akm a f → is_final_by akm a f a.agreed ≡ false
  forged w =
      ap (is_final_by akm a f) w.answered.some
      ∙ not_second (list_any (λ c. c == f.fields.counter) (listed a.m3s)) (bytes_eq f.fields.mic (mic akm w.y.key.ptk.kck f.octets)) (not_same f.fields.mic (mic akm w.y.key.ptk.kck f.octets) w.other)

  pub final_refused : (why : Reason) → IsRefusedM4 akm a f why → is_final_by akm a f a.agreed ≡ false
  final_refused reason.Unawaited w = ap (is_final_by akm a f) w
  final_refused (reason.Counter last) w = uncounted w.y w.some w.offer
  final_refused reason.Mic w = forged w
  final_refused _ w = absurd w

  -- whether it is decides whether the MIC verifies, where it answers an M3
  pub decides_mic : (y : Agreed) (b : Bool) → IsAnswered a f.fields y → b ≡ is_final_by akm a f a.agreed → IsTrue b ↔ (f.fields.mic ≡ mic akm y.key.ptk.kck f.octets)
  decides_mic y b w judged =
      let m = f.fields.mic in
      let made = mic akm y.key.ptk.kck f.octets in
      let is : b ≡ bytes_eq m made = judged ∙ ap (is_final_by akm a f) w.some ∙ second (list_any (λ c. c == f.fields.counter) (listed a.m3s)) (bytes_eq m made) w.offer in
      subst (λ (z : Bool). IsTrue z ↔ (m ≡ made)) (sym is) (bytes_eq-Decides m made)

  -- as the code finds it
  pub none_final : a.agreed ≡ None → false ≡ is_final_by akm a f a.agreed
  none_final none = sym (ap (is_final_by akm a f) none)

  pub uncounted_final : (y : Agreed) (b : Bool) → a.agreed ≡ Some y → b ≡ list_any (λ c. c == f.fields.counter) (listed a.m3s) → b ≡ false → false ≡ is_final_by akm a f a.agreed
  uncounted_final y b some is none = sym (uncounted y some (sym is ∙ none))

  pub verified_final : (y : Agreed) (key : Keyed) (b : Bool) → IsAnswered a f.fields y → key ≡ y.key → (IsTrue b ↔ (f.fields.mic ≡ mic akm key.ptk.kck f.octets)) → b ≡ is_final_by akm a f a.agreed
  verified_final y key b w is by = elim (cases_Bool b) [
    | inl passed ↦ passed ∙ sym (answered y w (verified_m4 akm y key f.fields.mic f.octets b is by passed))
    | inr failed ↦ failed ∙ sym (forged (forged_m4 akm a f y key b w is by failed))
  ]

pub other_final : (akm : Akm) (o : Option Attempt) (m : Message) (f : Frame) → (m ≡ messages.M4 → ⊥) → is_final akm o m f ≡ false
other_final akm o messages.M4 f other = absurd (other refl)
other_final akm o m f other = refl

-- as it was found of the state
pub judged_as : (b : Bool) (ends : Ends) (o : Option Attempt) (u : Option Session) (t : State) (a : Attempt) (f : Frame) → record { ends = ends; attempt = o; session = u } ≡ t → o ≡ Some a → b ≡ is_final_m4 t.ends.akm t.attempt f → b ≡ is_final_by ends.akm a f a.agreed
judged_as b ends o u t a f is some judged = judged ∙ ap (λ (z : State). is_final_m4 z.ends.akm z.attempt f) (sym is) ∙ ap (λ (x : Option Attempt). is_final_m4 ends.akm x f) some
