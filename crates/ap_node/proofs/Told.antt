-- The acts of taking an EAPOL-Key message, with what is put with the key holder among them.
use Rattle.std.proofs.Common.{◌≡◌, ◌∙◌, ℕ, Bool, true, false, List, [], ◌∷◌, ◌++◌, length, Option, Some, None, refl, sym, ap, subst}
use Rattle.std.proofs.lemmas.List.{append-nil}
use Rattle.std.specs.Prelude.{◌<◌, is_some, option_map}
use Rattle.std.specs.List.{AllByRecursion}
use Rattle.domain_base.specs.declared.names.Akm.{Akm}
use Rattle.domain_base.specs.declared.names.Akm.TheVariants.{Psk, PskSha256, FtPsk}
use Rattle.domain_base.specs.declared.names.Node.{Node}
use Rattle.domain_base.specs.declared.names.Node.TheVariants.{Ap, Sta}
use Rattle.ccmp_guard.specs.Held.{Held}
use Rattle.key_hierarchy.specs.declared.answers.PutAnswer.{PutAnswer}
use Rattle.key_hierarchy.specs.declared.inputs.Ptk.{Ptk}
use Rattle.key_holders.specs.declared.rows.HeldRow.{HeldRow}
use Rattle.run_journal.specs.declared.domain.Domain.{Domain}
use Rattle.run_journal.specs.declared.acts.Kind.TheVariants as kind
use Rattle.run_journal.specs.declared.acts.Outcome.{Outcome}
use Rattle.run_journal.specs.declared.acts.Act.{Act}
use Rattle.run_journal.specs.declared.acts.Act.TheVariants.{Took, Put}
use Rattle.run_journal.specs.declared.reply.Keyed.{Keyed}
use Rattle.run_journal.specs.declared.reply.Reply.{Reply}
use Rattle.run_journal.specs.Acts.{Derivation, same}
use Rattle.run_journal.specs.Holders.{row, rows}
use Rattle.run_journal.specs.Questions.{session, add}
use Rattle.domain_rules.specs.Network.{IsNamed, root_by, r0kh_id}
use Rattle.domain_rules.specs.Frames.{frame_seal}
use Rattle.domain_rules.specs.KeyHolders.{put_answer, put_acts_by}
use Rattle.domain_rules.specs.Reading.{KeyMessage}
use Rattle.domain_rules.specs.Replies.{Between, key_by, taken_as, replied_acts, reply_acts, sent_acts}
use Rattle.domain_rules.proofs.Parts.{add_append}
use Rattle.node_base.specs.Pairs.{pair_of}
use Rattle.act_memory.proofs.RepliedActs.{IsAbout, all_joined, replied_about}
use Rattle.data_frames.specs.Holding.{HoldsPairwise, LeavesPairwise}
use Rattle.data_frames.proofs.RepliedKeys.{replied_leaves_others, replied_holds, sent_leaves}
use Rattle.data_frames.proofs.Standing.{others}
use Rattle.held_rows.specs.Knows.{KnowsRows}
use Rattle.held_rows.proofs.Putting.{put_told, behind_put}
use Rattle.held_rows.proofs.Leaving.{left, one_left}
use Rattle.authenticator.specs.Bases.{home}
use Rattle.authenticator.specs.State.{State as Part}
use Rattle.authenticator.specs.Stands.{HasSession}
use Rattle.authenticator.specs.Taken.{put_for, told_acts, Installs}
use Rattle.authenticator.proofs.Standing.{held}
use Rattle.ap_node.specs.Keys.{fresh, key_after, HasKey}
use Rattle.ap_node.specs.Putting.{row_at, puts, PutsWhere}
use Rattle.held_rows.specs.Looks.{IsNoLook, NoLooks}
use Rattle.ap_node.proofs.InUse.{key_replied}
use Rattle.ap_node.proofs.Plain.{middle, plain_middle, plain_sent, plain_looks, plain_leaves}

abbrev pub put_only : List Act → Between
put_only g = record { opened = []; put = g }

split : {X : Type 0} (P : X → Type 0) (xs ys : List X) → AllByRecursion P (xs ++ ys) → AllByRecursion P xs × AllByRecursion P ys
split P [] ys all = (tt, all)
split P (x ∷ xs) ys all = let w = split P xs ys all.1 in ((all.0, w.0), w.1)

insert : {X : Type 0} (P : X → Type 0) (e : X) (m g s : List X) → AllByRecursion P (e ∷ (m ++ s)) → AllByRecursion P g → AllByRecursion P (e ∷ (m ++ (g ++ s)))
insert P e m g s all more =
    let w = split P m s all.1 in
    (all.0, all_joined P m (g ++ s) w.0 (all_joined P g s more w.1))

-- ---- what is put is about the station, and about nothing that is asked of the history otherwise

put_about_by : (akm : Akm) (d : Domain) (n : Node) (h : List Act) (p : Node) (x : Derivation) → AllByRecursion (IsAbout p) (put_acts_by akm d n h p x)
put_about_by Psk d n h p x = tt
put_about_by PskSha256 d n h p x = tt
put_about_by FtPsk d n h p x = (
  record {
    draws_none = refl;
    draws_no_key = λ kind. refl;
    switches_none = λ kind. refl;
    uses_none = λ kind. refl;
    opens_none = λ q. refl;
    ends_none = λ q other. refl;
    others = λ q other. (record {
      accepts_none = λ m. refl;
      replies_none = λ m. refl;
      sends_none = λ m. refl;
      derives_none = refl;
      finishes_none = refl;
      closes_none = refl;
      gives_none = λ kind. refl;
      gets_none = λ kind key id heard before. refl;
    });
  },
  tt,
)

put_about : (d : Domain) (n : Node) (h : List Act) (p : Node) (o : Option Keyed) → AllByRecursion (IsAbout p) (put_for d n h p o)
put_about d n h p None = tt
put_about d n h p (Some y) = put_about_by d.akm d n h p (key_by d (home d n p) n p y)

put_leaves_by : (akm : Akm) (d : Domain) (n : Node) (h : List Act) (p q : Node) (tk : List ℕ) (x : Derivation) → AllByRecursion (LeavesPairwise q tk) (put_acts_by akm d n h p x)
put_leaves_by Psk d n h p q tk x = tt
put_leaves_by PskSha256 d n h p q tk x = tt
put_leaves_by FtPsk d n h p q tk x = (record { used = λ l. refl; got = λ tid l. refl }, tt)

put_leaves : (d : Domain) (n : Node) (h : List Act) (p q : Node) (tk : List ℕ) (o : Option Keyed) → AllByRecursion (LeavesPairwise q tk) (put_for d n h p o)
put_leaves d n h p q tk None = tt
put_leaves d n h p q tk (Some y) = put_leaves_by d.akm d n h p q tk (key_by d (home d n p) n p y)

put_looks_by : (akm : Akm) (d : Domain) (n : Node) (h : List Act) (p : Node) (x : Derivation) → NoLooks (put_acts_by akm d n h p x)
put_looks_by Psk d n h p x = tt
put_looks_by PskSha256 d n h p x = tt
put_looks_by FtPsk d n h p x = (tt, tt)

put_looks : (d : Domain) (n : Node) (h : List Act) (p : Node) (o : Option Keyed) → NoLooks (put_for d n h p o)
put_looks d n h p None = tt
put_looks d n h p (Some y) = put_looks_by d.akm d n h p (key_by d (home d n p) n p y)

-- ---- what was put is what the history says

name_at : (d : Domain) (a sta : ℕ) (h : List Act) (y : Keyed) (answer : PutAnswer) → answer ≡ put_answer (row (row_at d a sta).name h) (rows h)
    → Put (r0kh_id d (Ap a)) (row_at d a sta).name (Sta sta) answer ∷ [] ≡ put_acts_by FtPsk d (Ap a) h (Sta sta) (key_by d (root_by FtPsk d (Sta sta) (r0kh_id d (Ap a))) (Ap a) (Sta sta) y)
name_at d a sta h y answer is = ap (λ (x : PutAnswer). Put (r0kh_id d (Ap a)) (row_at d a sta).name (Sta sta) x ∷ []) is

abbrev put_for_by : Akm → Domain → ℕ → ℕ → List Act → Option Keyed → List Act
put_for_by akm d a sta h None = []
put_for_by akm d a sta h (Some y) = put_acts_by akm d (Ap a) h (Sta sta) (key_by d (root_by akm d (Sta sta) (r0kh_id d (Ap a))) (Ap a) (Sta sta) y)

put_is_by : (akm : Akm) (d : Domain) (a sta : ℕ) (xs ys : List HeldRow) (g h : List Act) (final : Bool) (o : Option Keyed) → is_some o ≡ final → PutsWhere (puts akm final) d a sta xs ys g → KnowsRows d (Ap a) xs h
    → g ≡ put_for_by akm d a sta h o
put_is_by akm d a sta xs ys g h true None some w known = absurd (cc some)
put_is_by akm d a sta xs ys g h false (Some y) some w known = absurd (cc some)
put_is_by FtPsk d a sta xs ys g h true (Some y) some w known =
    let at = w.2 in
    w.1 ∙ ap (λ (e : Act). e ∷ []) at.is ∙ name_at d a sta h y at.answer (at.by_rows ∙ put_told d (Ap a) xs h (row_at d a sta).name known)
put_is_by FtPsk d a sta xs ys g h false None some w known = w.0
put_is_by Psk d a sta xs ys g h true (Some y) some w known = w.0
put_is_by Psk d a sta xs ys g h false None some w known = w.0
put_is_by PskSha256 d a sta xs ys g h true (Some y) some w known = w.0
put_is_by PskSha256 d a sta xs ys g h false None some w known = w.0

as_put_for : (d : Domain) (a sta : ℕ) (h : List Act) (o : Option Keyed) → put_for_by d.akm d a sta h o ≡ put_for d (Ap a) h (Sta sta) o
as_put_for d a sta h None = refl
as_put_for d a sta h (Some y) = refl

pub put_is : (d : Domain) (a sta : ℕ) (xs ys : List HeldRow) (g h : List Act) (final : Bool) (o : Option Keyed) → is_some o ≡ final → PutsWhere (puts d.akm final) d a sta xs ys g → KnowsRows d (Ap a) xs h → g ≡ put_for d (Ap a) h (Sta sta) o
put_is d a sta xs ys g h final o some w known = put_is_by d.akm d a sta xs ys g h final o some w known ∙ as_put_for d a sta h o

-- a row is put with suite 4 alone
pub puts_suite : (akm : Akm) (final : Bool) → puts akm final ≡ true → akm ≡ FtPsk
puts_suite FtPsk final is = refl
puts_suite Psk final is = absurd (cc is)
puts_suite PskSha256 final is = absurd (cc is)

-- and the rows behind it are those of the history still
pub rows_put : (d : Domain) (a sta : ℕ) (xs ys : List HeldRow) (b : Bool) (g h : List Act) → IsNamed d → (b ≡ true → d.akm ≡ FtPsk) → sta < length d.stas → PutsWhere b d a sta xs ys g → KnowsRows d (Ap a) xs h → KnowsRows d (Ap a) ys (add g h)
rows_put d a sta xs ys true g h names suite low w known =
    let at = w.2 in
    let told : g ≡ Put (r0kh_id d (Ap a)) (row_at d a sta).name (Sta sta) at.answer ∷ [] = w.1 ∙ ap (λ (e : Act). e ∷ []) at.is in
    subst (λ (l : List Act). KnowsRows d (Ap a) ys (add l h)) (sym told)
    (subst (λ (zs : List HeldRow). KnowsRows d (Ap a) zs (Put (r0kh_id d (Ap a)) (row_at d a sta).name (Sta sta) at.answer ∷ h)) (sym at.behind)
    (behind_put d (Ap a) xs h (r0kh_id d (Ap a)) (row_at d a sta).name sta at.answer names (suite refl) low known refl at.by_rows))
rows_put d a sta xs ys false g h names suite low w known =
    subst (λ (l : List Act). KnowsRows d (Ap a) ys (add l h)) (sym w.0) (subst (λ (zs : List HeldRow). KnowsRows d (Ap a) zs h) (sym w.1) known)

-- ---- the acts of the reply with it

module _ (d : Domain) (n p : Node) (had : Bool) (octets : List ℕ) (k : KeyMessage) (o : Outcome) (r : Reply) (h : List Act) where
  abbrev put : List Act
  put = put_for d n h p r.installed

  abbrev took : Act
  took = Took (Some p) octets (kind.Key k.message) o (option_map (λ kck. frame_seal kck k.octets) r.verified)

  abbrev between_them : List Act
  between_them = middle d (home d n p) n p had r

  pub told_about : AllByRecursion (IsAbout p) (told_acts d n p had octets k o r h)
  told_about = insert (IsAbout p) took between_them put (sent_acts p r) (replied_about d (home d n p) n p had octets k o r) (put_about d n h p r.installed)

  pub told_leaves_others : (q : Node) (tk : List ℕ) → same q p ≡ false → AllByRecursion (LeavesPairwise q tk) (told_acts d n p had octets k o r h)
  told_leaves_others q tk other =
      insert (LeavesPairwise q tk) took between_them put (sent_acts p r) (replied_leaves_others d (home d n p) n p q tk had octets k o r other) (put_leaves d n h p q tk r.installed)

  pub told_looks : NoLooks (told_acts d n p had octets k o r h)
  told_looks = (
    tt,
    all_joined IsNoLook between_them (put ++ sent_acts p r) (plain_looks between_them (plain_middle d (home d n p) n p had r))
        (all_joined IsNoLook put (sent_acts p r) (put_looks d n h p r.installed) (plain_looks (sent_acts p r) (plain_sent p r))),
  )

  -- the history up to what is put
  abbrev up_to_put : List Act
  up_to_put = add between_them (took ∷ h)

  pub told_then : add (told_acts d n p had octets k o r h) h ≡ add (sent_acts p r) (add put up_to_put)
  told_then = add_append between_them (put ++ sent_acts p r) (took ∷ h) ∙ add_append put (sent_acts p r) up_to_put

  pub told_rows : (xs ys : List HeldRow) → ((l : List Act) → KnowsRows d n xs l → KnowsRows d n ys (add put l)) → KnowsRows d n xs h → KnowsRows d n ys (add (told_acts d n p had octets k o r h) h)
  told_rows xs ys puts_row known =
      subst (λ (l : List Act). KnowsRows d n ys l) (sym told_then)
      (left d n ys (sent_acts p r) (add put up_to_put) (plain_leaves (sent_acts p r) (plain_sent p r))
      (puts_row up_to_put (left d n xs between_them (took ∷ h) (plain_leaves between_them (plain_middle d (home d n p) n p had r)) (one_left d n xs took h refl known))))

  none_put : r.installed ≡ None → told_acts d n p had octets k o r h ≡ reply_acts (pair_of d (home d n p) n p) had (taken_as octets k o) r
  none_put none = ap (λ (i : Option Keyed). replied_acts (pair_of d (home d n p) n p) had (taken_as octets k o) r (put_only (put_for d n h p i))) none

  -- without the frame that it sends
  abbrev unsent : Reply
  unsent = record r { len = 0 }

  holds_then : (y : Keyed) → r.installed ≡ Some y → HoldsPairwise p y.ptk.tk (fresh y.ptk.tk) (add (told_acts d n p had octets k o r h) h)
  holds_then y some =
      let at = replied_holds d (home d n p) n p had octets k o unsent y h some in
      let mid = subst (λ (l : List Act). HoldsPairwise p y.ptk.tk (fresh y.ptk.tk) (add l (took ∷ h))) (append-nil between_them) at in
      subst (λ (l : List Act). HoldsPairwise p y.ptk.tk (fresh y.ptk.tk) l) (sym (add_append between_them (put ++ sent_acts p r) (took ∷ h)))
      (others p y.ptk.tk (fresh y.ptk.tk) (put ++ sent_acts p r) up_to_put mid
      (all_joined (LeavesPairwise p y.ptk.tk) put (sent_acts p r) (put_leaves d n h p p y.ptk.tk r.installed) (sent_leaves p p y.ptk.tk r)))

  -- the key in use with the station
  pub key_told : (new : Part) (old now : Option Held) → now ≡ key_after r.installed old → Installs o r new → HasSession d n p new.session (add (told_acts d n p had octets k o r h) h) → HasKey p (session p h) old h
      → HasKey p (session p (add (told_acts d n p had octets k o r h) h)) now (add (told_acts d n p had octets k o r h) h)
  key_told new old now now_is installs there at = by r.installed refl
    where
      by : (i : Option Keyed) → r.installed ≡ i → HasKey p (session p (add (told_acts d n p had octets k o r h) h)) now (add (told_acts d n p had octets k o r h) h)
      by None none =
          subst (λ (l : List Act). HasKey p (session p (add l h)) now (add l h)) (sym (none_put none))
          (key_replied d (home d n p) n p had octets k o r new old now h now_is installs (subst (λ (l : List Act). HasSession d n p new.session (add l h)) (none_put none) there) at)
      by (Some y) some =
          let said = told_acts d n p had octets k o r h in
          let i = installs y some in
          let there_is = held d n p new.session i.1 (add said h) i.2 there in
          let holds : HoldsPairwise p there_is.x.ptk.tk (fresh y.ptk.tk) (add said h) =
          subst (λ (z : Ptk). HoldsPairwise p z.tk (fresh y.ptk.tk) (add said h)) (sym (there_is.key ∙ i.3)) (holds_then y some) in
          subst (λ (m : Option Held). HasKey p (session p (add said h)) m (add said h)) (sym (now_is ∙ ap (λ (z : Option Keyed). key_after z old) some))
          (subst (λ (x : Option Derivation). HasKey p x (Some (fresh y.ptk.tk)) (add said h)) (sym there_is.is) holds)
