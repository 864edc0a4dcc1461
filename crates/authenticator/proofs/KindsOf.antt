-- Which kinds of attempt and session there are, by what became of them.
use Rattle.std.proofs.Common.{◌≡◌, ℕ, Bool, true, false, List, Option, Some, None, refl, sym, ap, ◌∙◌}
use Rattle.std.specs.Prelude.{is_some, option_map, not, ◌&&◌}
use Rattle.eapol_key.specs.declared.messages.Message.{Message}
use Rattle.eapol_key.specs.declared.messages.Message.TheVariants.{M1, M3}
use Rattle.run_journal.specs.declared.reply.Keyed.{Keyed}
use Rattle.run_journal.specs.declared.reply.Reply.{Reply}
use Rattle.authenticator.specs.Associated.{Associated}
use Rattle.authenticator.specs.Counters.{moved}
use Rattle.authenticator.specs.Groups.{owes_in}
use Rattle.authenticator.specs.Judged.{IsInVain, IsRenewal}
use Rattle.authenticator.specs.Kinds.{Kinds, kinds, renewing, kinds_after, kinds_without, has_association, can_renew}
use Rattle.authenticator.specs.State.{State}
use Rattle.authenticator.specs.declared.attempt.Attempt.{Attempt}
use Rattle.authenticator.specs.declared.session.Session.{Session}

abbrev pub kind_of : Option Attempt → Option Bool
kind_of o = option_map (λ (a : Attempt). a.renews) o

abbrev pub kept_of : Option Session → Option Bool
kept_of o = option_map (λ (t : Session). is_some t.association) o

abbrev the_kinds : Option Bool → Option Bool → Kinds
the_kinds attempt session = record { attempt = attempt; session = session }

same_kinds : {a b c d : Option Bool} → a ≡ b → c ≡ d → the_kinds a c ≡ the_kinds b d
same_kinds e f = λ i. the_kinds (e i) (f i)

moved_kept : (b : Bool) (counter : ℕ) (o : Option Session) → kept_of (moved b counter o) ≡ kept_of o
moved_kept false counter o = refl
moved_kept true counter None = refl
moved_kept true counter (Some s) = refl

-- an attempt goes on, and the session
pub kinds_on : (s : State) (t b : Attempt) (counter : ℕ) (u : Option Session) → s.attempt ≡ Some t → b.renews ≡ t.renews → u ≡ moved t.renews counter s.session → kinds (record s { attempt = Some b; session = u }) ≡ kinds s
kinds_on s t b counter u is same u_is = same_kinds (ap (λ (c : Bool). Some c) same ∙ ap kind_of (sym is)) (ap kept_of u_is ∙ moved_kept t.renews counter s.session)

-- a session goes on
pub kinds_in : (s : State) (t u : Session) → s.session ≡ Some t → u.association ≡ t.association → kinds (record s { session = Some u }) ≡ kinds s
kinds_in s t u is same = same_kinds refl (ap (λ (a : Option Associated). Some (is_some a)) same ∙ ap kept_of (sym is))

-- the attempt became the session
pub kinds_finished : (s : State) (o : Option Keyed) (y : Keyed) (u : Session) (a : Associated) (k : Kinds) → o ≡ Some y → u.association ≡ Some a → kinds (record s { attempt = None; session = Some u }) ≡ kinds_after o k
kinds_finished s None y u a k some is = absurd (cc some)
kinds_finished s (Some x) y u a k some is = same_kinds refl (ap (λ (z : Option Associated). Some (is_some z)) is)

pub kinds_none : (o : Option Keyed) (k l : Kinds) → o ≡ None → k ≡ l → k ≡ kinds_after o l
kinds_none None k l none same = same
kinds_none (Some y) k l none same = absurd (cc none)

-- the attempt was given up
pub kinds_given_up : (s : State) (t : Attempt) (m : Message) → IsInVain t m → kinds (record s { attempt = None }) ≡ kinds_without m (kinds s)
kinds_given_up s t M1 w = refl
kinds_given_up s t M3 w = refl
kinds_given_up s t m w = absurd w

-- ---- a renewal begins

-- the attempt renews the key, and the session goes back to an association
pub kinds_renewed : (s : State) (t u : Session) (anonce : List ℕ) (a : Attempt) (r : Reply) → IsRenewal s.ends t u anonce a r → kinds (record s { attempt = Some a; session = Some u }) ≡ renewing
kinds_renewed s t u anonce a r w =
    same_kinds (ap (λ (z : Attempt). Some z.renews) w.value) (ap (λ (z : Session). Some (is_some z.association)) w.now ∙ ap (λ (o : Option Associated). Some (is_some o)) w.has)

-- what the session owes stays
pub owes_renewed : (s : State) (t u : Session) (anonce : List ℕ) (a : Attempt) (r : Reply) (place : ℕ) → s.session ≡ Some t → IsRenewal s.ends t u anonce a r → owes_in place (Some u) ≡ owes_in place s.session
owes_renewed s t u anonce a r place is w = ap (λ (z : Session). owes_in place (Some z)) w.now ∙ sym (ap (owes_in place) is)

second : (a b : Bool) → (a && b) ≡ true → b ≡ true
second true b is = is
second false b is = absurd (cc is)

-- its session is there, and goes back to one
pub can_session : (s : State) → can_renew s ≡ true → s.session ≡ None → ⊥
can_session s can none = cc (second (not (is_some s.attempt)) (has_association s.session) can, ap has_association none)

pub can_association : (s : State) (t : Session) → can_renew s ≡ true → s.session ≡ Some t → is_some t.association ≡ true
can_association s t can is = sym (ap has_association is) ∙ second (not (is_some s.attempt)) (has_association s.session) can
