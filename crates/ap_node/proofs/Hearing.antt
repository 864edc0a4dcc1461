-- What a message does to the part that it is for, beside the rest of what there is with its station.
use Rattle.std.proofs.Common.{◌≡◌, ℕ, Bool, true, false, List, Option, Some, None, is_some, refl, sym, ap, subst, ◌∙◌, inl, inr}
use Rattle.std.specs.Prelude.{◌⊎◌}
use Rattle.domain_base.specs.declared.names.Akm.{Akm}
use Rattle.domain_base.specs.declared.names.Node.{Node}
use Rattle.domain_base.specs.declared.names.Node.TheVariants.{Sta}
use Rattle.eapol_key.specs.declared.messages.Message.{Message}
use Rattle.eapol_key.specs.declared.messages.Message.TheVariants.{M4, G2}
use Rattle.run_journal.specs.declared.domain.Domain.{Domain}
use Rattle.run_journal.specs.declared.acts.Outcome.{Outcome}
use Rattle.run_journal.specs.declared.acts.Act.{Act}
use Rattle.run_journal.specs.declared.reply.Keyed.{Keyed}
use Rattle.run_journal.specs.declared.reply.Reply.{Reply}
use Rattle.run_journal.specs.Questions.{session}
use Rattle.node_base.specs.Ends.{AreEnds}
use Rattle.domain_rules.specs.Replies.{Pair, Taken, Between, replied_acts}
use Rattle.targets.specs.declared.moves.Moves.{Moves}
use Rattle.ft_exchange.specs.State.{TargetState}
use Rattle.authenticator.specs.Beside.{session_after}
use Rattle.authenticator.specs.Kinds.{Kinds, kinds, kinds_after}
use Rattle.authenticator.specs.Judged.{Frame, is_final}
use Rattle.authenticator.specs.State.{State as Part, with_session, with_attempt}
use Rattle.authenticator.specs.Stands.{HasAttempt, HasSession, AuthenticatorStands}
use Rattle.authenticator.specs.Taken.{Given, StepsFrom, Installs}
use Rattle.authenticator.specs.declared.attempt.Attempt.{Attempt}
use Rattle.authenticator.proofs.Beside.{some_after}
use Rattle.ap_node.specs.declared.station.Station.{Station}
use Rattle.ap_node.specs.declared.station.Attempt.{Attempt as Trying}
use Rattle.ap_node.specs.declared.station.Attempt.TheVariants.{Association, Transition}
use Rattle.ap_node.specs.declared.station.Session.{Session as Kept}
use Rattle.ap_node.specs.State.{renewal_by, attempt_by, attempt_in, pending_by, session_by, session_in, key_by, key_in, held_by, moves_in}
use Rattle.ap_node.specs.Keys.{key_after, HasKey}
use Rattle.ap_node.specs.Moving.{finished_moves}
use Rattle.ap_node.specs.Parts.{IsNotByAssociation, IsForSession, after_step, kept_after, InAttempt, HearsInSession, InSession, is_final_in, is_final_by, is_final_at}
use Rattle.ap_node.specs.Stands.{IsTried, IsRenewing, IsOfSession, IsKept, HasPart}
use Rattle.ap_node.proofs.Attempts.{kind_renews, kind_none}
use Rattle.ap_node.proofs.Standing.{session_there}

-- the part that took a message, before and after, and what there is with its station then
pub record IsHeard (d : Domain) (n : Node) (sta : ℕ) (w : Pair) (x : Given) (t : Taken) (b : Between) (old new : Station) (acts h : List Act) : Type 0 where
  pub reply : Reply
  pub was : Part
  pub now : Part
  pub stands : AuthenticatorStands d n (Sta sta) was h
  pub steps : StepsFrom was now x t.outcome reply
  pub says : acts ≡ replied_acts w (is_some was.session) t reply b
  pub installs : Installs t.outcome reply now
  pub derived : is_some reply.derived ≡ true → (moves_in old).pending ≡ None
  pub installed : is_some reply.installed ≡ true → (moves_in old).pending ≡ None
  pub final : is_some reply.installed ≡ is_final_at old x.message x.frame
  pub key : key_in new ≡ key_after reply.installed (key_in old)
  pub moves : moves_in new ≡ finished_moves (is_some reply.installed) (moves_in old)
  pub after : (l : List Act) → AuthenticatorStands d n (Sta sta) now l → HasKey (Sta sta) (session (Sta sta) l) (key_in new) l → HasPart d n sta new l

none_by : {A : Type 0} (o : Option A) → is_some o ≡ false → o ≡ None
none_by None is = refl
none_by (Some x) is = absurd (cc is)

-- ---- in the attempt

stepped_key : (part : Part) (i : Option Keyed) (x : Station) → key_in (after_step part i x) ≡ key_after i (key_in x)
stepped_key part None x = refl
stepped_key part (Some y) x = refl

abbrev the_moves : Option TargetState → Option TargetState → Moves
the_moves pending held = record { pending = pending; held = held }

stepped_moves : (part : Part) (i : Option Keyed) (x : Station) → pending_by x.attempt ≡ None → moves_in (after_step part i x) ≡ finished_moves (is_some i) (moves_in x)
stepped_moves part None x none = sym (ap (λ (o : Option TargetState). the_moves o (held_by x.session)) none)
stepped_moves part (Some y) x none = sym (ap (λ (o : Option TargetState). the_moves o None) none)

-- beside an attempt no other renews the key of the session, whatever attempt there is then
of_session_beside : (d : Domain) (t : Trying) (o : Option Trying) (k : Kinds) → IsOfSession d (Some t) k → IsOfSession d o k
of_session_beside d t o k of = record { attempt = by of.attempt; session = of.session }
  where
    by : (k.attempt ≡ None) ⊎ IsRenewing d (Some t) k → (k.attempt ≡ None) ⊎ IsRenewing d o k
    by (inl none) = inl none
    by (inr renewed) = absurd (cc renewed.alone)

pub kept_beside : (d : Domain) (n p : Node) (t : Trying) (o : Option Trying) (s : Option Kept) → IsKept d n p (Some t) s → IsKept d n p o s
kept_beside d n p t o None kept = tt
kept_beside d n p t o (Some s) kept = (kept.0, of_session_beside d t o (kinds s.part) kept.1)

-- none renews it
pub unrenewed_beside : (d : Domain) (n p : Node) (t : Trying) (s : Option Kept) → IsKept d n p (Some t) s → renewal_by s ≡ None
unrenewed_beside d n p t None kept = refl
unrenewed_beside d n p t (Some s) kept = by kept.1.attempt
  where
    by : ((kinds s.part).attempt ≡ None) ⊎ IsRenewing d (Some t) (kinds s.part) → s.part.attempt ≡ None
    by (inl none) = kind_none s.part none
    by (inr renewing) = absurd (cc renewing.alone)

attempt_kind : (x y : Kinds) → x ≡ y → x.attempt ≡ y.attempt
attempt_kind x y is = ap (λ (k : Kinds). k.attempt) is

session_kind : (x y : Kinds) → x ≡ y → x.session ≡ y.session
session_kind x y is = ap (λ (k : Kinds). k.session) is

-- after a key was installed the attempt is that session
pub installed_kinds : (d : Domain) (o : Option Trying) (part was : Part) (y : Keyed) → kinds part ≡ kinds_after (Some y) (kinds was) → IsOfSession d o (kinds part)
installed_kinds d o part was y kinds_are = record { attempt = inl (attempt_kind _ _ kinds_are); session = λ renewed. session_kind _ _ kinds_are }

stepped_part : (d : Domain) (n : Node) (sta : ℕ) (was part : Part) (i : Option Keyed) (x : Station) (l : List Act) → (kinds was).attempt ≡ Some false → IsKept d n (Sta sta) (Some (Association was)) x.session → kinds part ≡ kinds_after i (kinds was)
    → AuthenticatorStands d n (Sta sta) (with_session (session_after i part.session (session_in x)) part) l → HasKey (Sta sta) (session (Sta sta) l) (key_in (after_step part i x)) l → HasPart d n sta (after_step part i x) l
stepped_part d n sta was part None x l begun kept kinds_are stands key = record {
  tried = (stands.ends, attempt_kind _ _ kinds_are ∙ begun);
  kept = kept_beside d n (Sta sta) (Association was) (Some (Association part)) x.session kept;
  attempt_is = stands.attempt_is;
  session_is = stands.session_is;
  key = key;
}
stepped_part d n sta was part (Some y) x l begun kept kinds_are stands key = record {
  tried = tt;
  kept = (stands.ends, installed_kinds d None part was y kinds_are);
  attempt_is = stands.attempt_is;
  session_is = stands.session_is;
  key = key;
}

pub heard_attempt : (d : Domain) (n : Node) (sta : ℕ) (w : Pair) (x : Given) (t : Taken) (b : Between) (old new : Station) (acts h : List Act) → HasPart d n sta old h → InAttempt w x t b old new acts → IsHeard d n sta w x t b old new acts h
heard_attempt d n sta w x t b old new acts h at by =
    let p = Sta sta in
    let r = by.reply in
    let tried : IsTried d n p (Some (Association by.was)) = subst (λ (o : Option Trying). IsTried d n p o) by.there at.tried in
    let kept : IsKept d n p (Some (Association by.was)) old.session = subst (λ (o : Option Trying). IsKept d n p o old.session) by.there at.kept in
    let none : pending_by old.attempt ≡ None = ap pending_by by.there in
    record {
      reply = r;
      was = with_session (session_in old) by.was;
      now = with_session (session_after r.installed by.part.session (session_in old)) by.part;
      stands = record { ends = tried.0; attempt_is = subst (λ (o : Option Trying). HasAttempt d n p (attempt_by o old.session) h) by.there at.attempt_is; session_is = at.session_is };
      steps = by.steps (session_in old) (kind_renews by.was false tried.1) by.other;
      says = by.says ∙ ap (λ (c : Bool). replied_acts w c t r b) (session_there d n sta old h at);
      installs = λ y some. (let i = by.installs y some in (i.0, i.1, sym (some_after r.installed y by.part.session (session_in old) some) ∙ i.2, i.3));
      derived = λ some. none;
      installed = λ some. none;
      final = by.final ∙ sym (ap (λ (o : Option Trying). is_final_by o old.session x.message x.frame) by.there);
      key = ap key_in by.is ∙ stepped_key by.part r.installed old;
      moves = ap moves_in by.is ∙ stepped_moves by.part r.installed old none;
      after = λ l stands key. subst (λ (z : Station). HasPart d n sta z l) (sym by.is)
          (stepped_part d n sta by.was by.part r.installed old l tried.1 kept by.kinds_are stands (subst (λ (z : Station). HasKey p (session p l) (key_in z) l) by.is key));
    }

-- ---- in the session

final_none : (akm : Akm) (o : Option Attempt) (m : Message) (f : Frame) → o ≡ None → is_final akm o m f ≡ false
final_none akm (Some a) m f none = absurd (cc none)
final_none akm None M4 f none = refl
final_none akm None m f none = refl

-- G2 is the last message of no attempt
g2_last : (o : Option Kept) (f : Frame) → is_final_in o G2 f ≡ false
g2_last None f = refl
g2_last (Some s) f = refl

final_in : (o : Option Trying) (s : Option Kept) (m : Message) (f : Frame) → IsNotByAssociation o → is_final_by o s m f ≡ is_final_in s m f
final_in None s m f alone = refl
final_in (Some (Association a)) s m f alone = absurd alone
final_in (Some (Transition t)) s m f alone = refl

not_last : (o : Option Trying) (s : Option Kept) (f : Frame) → is_final_by o s G2 f ≡ false
not_last None s f = g2_last s f
not_last (Some (Association a)) s f = refl
not_last (Some (Transition t)) s f = g2_last s f

-- for the session it is the last of the attempt that renews its key, or of none
pub for_session_final : (m : Message) (f : Frame) (x : Station) → IsForSession m x → is_final_at x m f ≡ is_final_in x.session m f
for_session_final m f x (inl is) = ap (λ (z : Message). is_final_at x z f) is ∙ not_last x.attempt x.session f ∙ sym (ap (λ (z : Message). is_final_in x.session z f) is ∙ g2_last x.session f)
for_session_final m f x (inr alone) = final_in x.attempt x.session m f alone

-- without a session of none
pub no_session_final : (m : Message) (f : Frame) (x : Station) → x.session ≡ None → IsForSession m x → is_final_at x m f ≡ false
no_session_final m f x none which = for_session_final m f x which ∙ ap (λ (o : Option Kept). is_final_in o m f) none

pub no_attempt_by : (o : Option Trying) (s : Option Kept) → IsNotByAssociation o → renewal_by s ≡ None → attempt_by o s ≡ None
no_attempt_by None s alone none = none
no_attempt_by (Some (Association a)) s alone none = absurd alone
no_attempt_by (Some (Transition t)) s alone none = refl

-- the attempt is the same, where the part of the session has the same
pub attempt_kept : (o : Option Trying) (s t : Option Kept) → renewal_by t ≡ renewal_by s → attempt_by o t ≡ attempt_by o s
attempt_kept None s t same = same
attempt_kept (Some (Association a)) s t same = refl
attempt_kept (Some (Transition u)) s t same = refl

-- without an attempt it is the part of the session alone
steps_alone : (s part : Part) (a : Option Attempt) (x : Given) (o : Outcome) (r : Reply) → a ≡ None → s.attempt ≡ None → part.attempt ≡ None → StepsFrom s part x o r → StepsFrom (with_attempt a s) (with_attempt a part) x o r
steps_alone s part a x o r none was now steps =
    subst (λ (y : Part). StepsFrom y (with_attempt a part) x o r) (back s was)
    (subst (λ (y : Part). StepsFrom s y x o r) (back part now) steps)
  where
    back : (y : Part) → y.attempt ≡ None → y ≡ with_attempt a y
    back y is = ap (λ (b : Option Attempt). with_attempt b y) (is ∙ sym none)

steps_for : (w : Pair) (x : Given) (t : Taken) (b : Between) (s now : Kept) (old : Station) (acts : List Act) (by : HearsInSession w x t b s now acts) → old.session ≡ Some s → s.part.attempt ≡ None → by.part.attempt ≡ None → IsForSession x.message old
    → StepsFrom (with_attempt (attempt_in old) s.part) (with_attempt (attempt_in old) by.part) x t.outcome by.reply
steps_for w x t b s now old acts by there was none (inl is) = by.beside (attempt_in old) is
steps_for w x t b s now old acts by there was none (inr alone) =
    steps_alone s.part by.part (attempt_in old) x t.outcome by.reply (no_attempt_by old.attempt old.session alone (ap renewal_by there ∙ was)) was none by.steps

-- nothing was installed, and the kinds are as they were
left_so : (i : Option Keyed) (was part : Part) → i ≡ None → kinds part ≡ kinds_after i (kinds was) → kinds part ≡ kinds was
left_so None was part none kinds_are = kinds_are
left_so (Some y) was part none kinds_are = absurd (cc none)

abbrev with_kept : Station → Option Kept → Station
with_kept x o = record { attempt = x.attempt; session = o }

none_some : {A : Type 0} (o : Option A) (y : A) → o ≡ None → o ≡ Some y → ⊥
none_some o y none some = cc (none, some)

module _ (d : Domain) (n : Node) (sta : ℕ) (w : Pair) (x : Given) (t : Taken) (b : Between) (old new : Station) (acts h : List Act) (at : HasPart d n sta old h) (in_it : InSession w x t b old new acts) where
  abbrev p : Node
  p = Sta sta

  abbrev s : Kept
  s = in_it.s

  abbrev by : HearsInSession w x t b in_it.s in_it.now acts
  by = in_it.hears

  abbrev r : Reply
  r = in_it.hears.reply

  kept_is : IsKept d n p old.attempt (Some s)
  kept_is = subst (λ (o : Option Kept). IsKept d n p old.attempt o) in_it.there at.kept

  session_held : HasSession d n p s.part.session h
  session_held = subst (λ (o : Option Kept). HasSession d n p (session_by o) h) in_it.there at.session_is

  says_there : acts ≡ replied_acts w (is_some s.part.session) t r b
  says_there = by.says ∙ ap (λ (c : Bool). replied_acts w c t r b)
      (sym (ap (λ (o : Option Kept). is_some o) in_it.there) ∙ session_there d n sta old h at ∙ ap (λ (o : Option Kept). is_some (session_by o)) in_it.there)

  final_is : is_some r.installed ≡ is_final_at old x.message x.frame
  final_is = by.final ∙ sym (for_session_final x.message x.frame old in_it.which ∙ ap (λ (o : Option Kept). is_final_in o x.message x.frame) in_it.there)

  -- the session that there is then
  abbrev its : Kept
  its = kept_after by.part r.installed s

  new_is : new ≡ with_kept old (Some its)
  new_is = in_it.is ∙ ap (λ (k : Kept). with_kept old (Some k)) by.is

  part_is : (i : Option Keyed) → (kept_after by.part i s).part ≡ by.part
  part_is None = refl
  part_is (Some y) = refl

  key_then : (i : Option Keyed) → key_by (Some (kept_after by.part i s)) ≡ key_after i (key_by (Some s))
  key_then None = refl
  key_then (Some y) = refl

  moves_then : (i : Option Keyed) → the_moves (pending_by old.attempt) (held_by (Some (kept_after by.part i s))) ≡ finished_moves (is_some i) (the_moves (pending_by old.attempt) (held_by (Some s)))
  moves_then None = refl
  moves_then (Some y) = refl

  key_is : key_in new ≡ key_after r.installed (key_in old)
  key_is = ap key_in new_is ∙ key_then r.installed ∙ sym (ap (λ (o : Option Kept). key_after r.installed (key_by o)) in_it.there)

  moves_are : moves_in new ≡ finished_moves (is_some r.installed) (moves_in old)
  moves_are = ap moves_in new_is ∙ moves_then r.installed ∙ sym (ap (λ (o : Option Kept). finished_moves (is_some r.installed) (the_moves (pending_by old.attempt) (held_by o))) in_it.there)

  -- what there is with the station then, as the part goes on with that attempt
  after_then : (l : List Act) → AreEnds d n p by.part.ends → IsOfSession d old.attempt (kinds by.part) → HasAttempt d n p (attempt_by old.attempt (Some its)) l → HasSession d n p by.part.session l
      → HasKey p (session p l) (key_in new) l → HasPart d n sta new l
  after_then l ends of attempt_is session_is key = subst (λ (z : Station). HasPart d n sta z l) (sym new_is) (record {
    tried = at.tried;
    kept = kept_then r.installed;
    attempt_is = attempt_is;
    session_is = session_then r.installed;
    key = subst (λ (z : Station). HasKey p (session p l) (key_in z) l) new_is key;
  })
    where
      kept_then : (i : Option Keyed) → IsKept d n p old.attempt (Some (kept_after by.part i s))
      kept_then None = (ends, of)
      kept_then (Some y) = (ends, of)

      session_then : (i : Option Keyed) → HasSession d n p (session_by (Some (kept_after by.part i s))) l
      session_then None = session_is
      session_then (Some y) = session_is

  -- in a session whose key is not being renewed
  heard_plainly : (kinds s.part).attempt ≡ None → IsHeard d n sta w x t b old new acts h
  heard_plainly no_kind =
      let alone : s.part.attempt ≡ None = kind_none s.part no_kind in
      let unfinal : is_some r.installed ≡ false = by.final ∙ final_none s.part.ends.akm s.part.attempt x.message x.frame alone in
      let uninstalled : r.installed ≡ None = none_by r.installed unfinal in
      let same : kinds by.part ≡ kinds s.part = left_so r.installed s.part by.part uninstalled by.kinds_are in
      let none : by.part.attempt ≡ None = kind_none by.part (attempt_kind _ _ same ∙ no_kind) in
      let same_attempt : attempt_by old.attempt (Some its) ≡ attempt_in old =
      attempt_kept old.attempt old.session (Some its) (ap (λ (q : Part). q.attempt) (part_is r.installed) ∙ none ∙ sym (ap renewal_by in_it.there ∙ alone)) in
      record {
        reply = r;
        was = with_attempt (attempt_in old) s.part;
        now = with_attempt (attempt_in old) by.part;
        stands = record { ends = kept_is.0; attempt_is = at.attempt_is; session_is = session_held };
        steps = steps_for w x t b s in_it.now old acts by in_it.there alone none in_it.which;
        says = says_there;
        installs = λ y some. absurd (none_some r.installed y uninstalled some);
        derived = λ some. absurd (not_derived r.derived (λ y is. by.derives y is) alone some);
        installed = λ some. absurd (cc (sym some ∙ unfinal));
        final = final_is;
        key = key_is;
        moves = moves_are;
        after = λ l stands key. after_then l stands.ends (subst (IsOfSession d old.attempt) (sym same) kept_is.1) (subst (λ (o : Option Attempt). HasAttempt d n p o l) (sym same_attempt) stands.attempt_is) stands.session_is key;
      }
    where
      not_derived : (o : Option Keyed) → ((y : Keyed) → o ≡ Some y → is_some s.part.attempt ≡ true) → s.part.attempt ≡ None → is_some o ≡ true → ⊥
      not_derived None derives none some = cc some
      not_derived (Some y) derives none some = cc (sym (derives y refl) ∙ ap (λ (a : Option Attempt). is_some a) none)

  -- then the attempt goes on, or its key is that of the session
  of_then : (i : Option Keyed) → kinds by.part ≡ kinds_after i (kinds s.part) → IsOfSession d old.attempt (kinds s.part) → IsOfSession d old.attempt (kinds by.part)
  of_then None kinds_are of = subst (IsOfSession d old.attempt) (sym kinds_are) of
  of_then (Some y) kinds_are of = installed_kinds d old.attempt by.part s.part y kinds_are

  -- and in one whose key an attempt renews, beside which there is none
  heard_alone : old.attempt ≡ None → IsHeard d n sta w x t b old new acts h
  heard_alone alone =
      let old_attempt : attempt_in old ≡ s.part.attempt = ap (λ (o : Option Trying). attempt_by o old.session) alone ∙ ap renewal_by in_it.there in
      let new_attempt : attempt_by old.attempt (Some its) ≡ by.part.attempt = ap (λ (o : Option Trying). attempt_by o (Some its)) alone ∙ ap (λ (q : Part). q.attempt) (part_is r.installed) in
      record {
        reply = r;
        was = s.part;
        now = by.part;
        stands = record { ends = kept_is.0; attempt_is = subst (λ (o : Option Attempt). HasAttempt d n p o h) old_attempt at.attempt_is; session_is = session_held };
        steps = by.steps;
        says = says_there;
        installs = by.installs;
        derived = λ some. ap pending_by alone;
        installed = λ some. ap pending_by alone;
        final = final_is;
        key = key_is;
        moves = moves_are;
        after = λ l stands key. after_then l stands.ends (of_then r.installed by.kinds_are kept_is.1) (subst (λ (o : Option Attempt). HasAttempt d n p o l) (sym new_attempt) stands.attempt_is) stands.session_is key;
      }

  pub heard_session : IsHeard d n sta w x t b old new acts h
  heard_session = either kept_is.1.attempt
    where
      either : ((kinds s.part).attempt ≡ None) ⊎ IsRenewing d old.attempt (kinds s.part) → IsHeard d n sta w x t b old new acts h
      either (inl none) = heard_plainly none
      either (inr renewed) = heard_alone renewed.alone
