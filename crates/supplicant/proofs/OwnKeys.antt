-- The keys of a supplicant are its own.
use Rattle.std.proofs.Common.{◌≡◌, ℕ, Bool, Option, Some, refl, sym, ap, subst, ◌∙◌}
use Rattle.eapol_key.specs.declared.frame.KeyFrame.{KeyFrame}
use Rattle.run_journal.specs.declared.reply.Keyed.{Keyed}
use Rattle.run_journal.specs.declared.reply.Reply.{Reply}
use Rattle.group_key.specs.Keys.{Memories}
use Rattle.node_base.specs.declared.ends.Ends.{Ends}
use Rattle.node_base.specs.PairwiseKeys.{IsKeyOf}
use Rattle.node_base.proofs.EndsKeys.{is_key_of}
use Rattle.supplicant.specs.declared.base.Base.{Base}
use Rattle.supplicant.specs.declared.attempt.Attempt.{Attempt}
use Rattle.supplicant.specs.declared.session.Session.{Session}
use Rattle.supplicant.specs.declared.session.Session.TheVariants as session
use Rattle.supplicant.specs.declared.supplicant.StaStart.{StaStart}
use Rattle.supplicant.specs.declared.supplicant.StaStart.TheVariants.{Connect, Ft}
use Rattle.supplicant.specs.Starts.{begun, held_at_first}
use Rattle.supplicant.specs.Held.{key_in, counted}
use Rattle.supplicant.specs.Exchange.{Answers, Repeats, Renews}
use Rattle.supplicant.specs.Keys.{IsKeyIn, IsKeyInAttempt, IsKeyInSession}

pub begun_keys : (l : Ends) (b : Base) (s : StaStart) → IsKeyInAttempt l b (begun s)
begun_keys l b (Connect snonce fte) = tt
begun_keys l b (Ft ptk) = tt

pub held_keys : (l : Ends) (b : Base) (s : StaStart) → IsKeyInSession l b (held_at_first s)
held_keys l b (Connect snonce fte) = tt
held_keys l b (Ft ptk) = tt

-- the key of an attempt, where there is one
pub tried_key : (l : Ends) (b : Base) (o : Option Attempt) (a : Attempt) (y : Keyed) → o ≡ Some a → a.key ≡ Some y → IsKeyInAttempt l b o → IsKeyOf l b.pmk y
tried_key l b o a y is has own = subst (λ (k : Option Keyed). IsKeyIn l b k) has (subst (λ (x : Option Attempt). IsKeyInAttempt l b x) is own)

-- and of a session
held_key : (l : Ends) (b : Base) (o : Option Session) (x : Session) → o ≡ Some x → IsKeyInSession l b o → IsKeyIn l b (key_in x)
held_key l b o x is own = subst (λ (z : Option Session). IsKeyInSession l b z) is own

-- that of a session that M3 made is that of the attempt
pub finished_key : (l : Ends) (b : Base) (o : Option Attempt) (a : Attempt) (x : Session) → o ≡ Some a → a.key ≡ key_in x → IsKeyInAttempt l b o → IsKeyInSession l b (Some x)
finished_key l b o a x is same own = subst (λ (k : Option Keyed). IsKeyIn l b k) same (subst (λ (z : Option Attempt). IsKeyInAttempt l b z) is own)

-- that of M1 is of its nonces
pub answered_key : (l : Ends) (b : Base) (f : KeyFrame) (secure : Bool) (old new : Attempt) (r : Reply) → Answers l b f secure old new r → IsKeyInAttempt l b (Some new)
answered_key l b f secure old new r a = subst (λ (x : Attempt). IsKeyIn l b x.key) (sym a.is) (is_key_of l b.pmk f.nonce old.snonce a.key a.key_is)

-- and that of a session stays
pub repeated_key : (l : Ends) (b : Base) (f : KeyFrame) (o : Option Session) (old new : Session) (r : Reply) → o ≡ Some old → IsKeyInSession l b o → Repeats l b f old new r → IsKeyInSession l b (Some new)
repeated_key l b f o old new r is own again =
    let was : IsKeyIn l b (key_in (session.Connect again.key again.was)) = subst (λ (x : Session). IsKeyIn l b (key_in x)) again.is_old (held_key l b o old is own) in
    subst (λ (x : Session). IsKeyIn l b (key_in x)) (sym again.is) was

same_key : (counter : ℕ) (x : Session) → key_in (counted counter x) ≡ key_in x
same_key counter (session.Connect key was) = refl
same_key counter (session.Ft ptk was) = refl

pub renewed_key : (l : Ends) (b : Base) (f : KeyFrame) (had has : Memories) (o : Option Session) (old new : Session) (r : Reply) → o ≡ Some old → IsKeyInSession l b o → Renews l f had has old new r → IsKeyInSession l b (Some new)
renewed_key l b f had has o old new r is own again = subst (λ (k : Option Keyed). IsKeyIn l b k) (sym (ap key_in again.is ∙ same_key f.counter old)) (held_key l b o old is own)
