-- The acts of a reply by what it tells.
use Rattle.std.proofs.Common.{◌≡◌, ℕ, Bool, true, false, cond, List, [], ◌∷◌, ◌++◌, Option, Some, None, refl, sym, ap, subst, ◌∙◌, arith}
use Rattle.std.specs.Prelude.{◌==◌, option_map, take}
use Rattle.domain_base.specs.declared.names.Node.{Node}
use Rattle.run_journal.specs.declared.acts.GroupKind.TheVariants as groups
use Rattle.run_journal.specs.declared.domain.Domain.{Domain}
use Rattle.run_journal.specs.declared.acts.Kind.TheVariants as kind
use Rattle.run_journal.specs.declared.acts.Outcome.{Outcome}
use Rattle.run_journal.specs.declared.acts.Act.{Act}
use Rattle.run_journal.specs.declared.acts.Act.TheVariants.{Took}
use Rattle.run_journal.specs.declared.reply.Reply.{Reply}
use Rattle.run_journal.specs.declared.reply.Keyed.{Keyed}
use Rattle.run_journal.specs.declared.reply.GtkNews.{GtkNews}
use Rattle.run_journal.specs.Replies.{IsEmpty, IsWhole}
use Rattle.run_journal.specs.Questions.{add}
use Rattle.domain_rules.specs.Frames.{frame_seal}
use Rattle.domain_rules.specs.Reading.{KeyMessage}
use Rattle.domain_rules.specs.Replies.{derived_acts, replaced_acts, installed_acts, group_acts, finished_acts, frame_acts, sent_acts, replied_acts, reply_acts, taken_as}
use Rattle.domain_rules.specs.StationRows.{replaced}
use Rattle.domain_rules.specs.Rows.{TakeRow}
use Rattle.domain_rules.specs.Network.{Root, root_at, station_of}
use Rattle.node_base.specs.Pairs.{pair_of, pair_at}
use Rattle.domain_rules.specs.Here.{here}
use Rattle.group_key.specs.Holds.{RemembersAll}
use Rattle.supplicant.specs.State.{Both}
use Rattle.supplicant.specs.Stands.{SupplicantStands}
use Rattle.supplicant.specs.Steps.{SupplicantSteps, IsUnder}
use Rattle.supplicant.specs.Told.{Told, Tells, IsSilent, verifies}

-- a session that was there is closed, where a key was installed
abbrev pub replaced_by : Node → Bool → Option Keyed → List Act
replaced_by p had None = []
replaced_by p had (Some y) = replaced p had

replaced_is : (p : Node) (had : Bool) (x : Option Keyed) → replaced_acts p had x ≡ replaced_by p had x
replaced_is p true None = refl
replaced_is p true (Some y) = refl
replaced_is p false None = refl
replaced_is p false (Some y) = refl

-- the acts of a message, with others after it was taken
abbrev pub told_after : List Act → Domain → Root → Node → Node → List ℕ → KeyMessage → Outcome → Bool → Told → List Act
told_after opened d q n p octets k outcome had t =
    Took (Some p) octets (kind.Key k.message) outcome (option_map (λ kck. frame_seal kck k.octets) t.verified)
    ∷ opened
    ++ (derived_acts d q n p t.derived ++ replaced_by p had t.installed ++ installed_acts d q n p t.installed
    ++ group_acts groups.Gtk d p t.gtk ++ group_acts groups.Igtk d p t.igtk ++ finished_acts d q n p t.installed ++ t.sends)

-- or with none
abbrev pub told_acts : Domain → Root → Node → Node → List ℕ → KeyMessage → Outcome → Bool → Told → List Act
told_acts d q n p octets k outcome had t = told_after [] d q n p octets k outcome had t

-- those of a reply, with others in the place of the end of the session
abbrev told_around : List Act → Domain → Root → Node → Node → List ℕ → KeyMessage → Outcome → Reply → List Act → List Act
told_around opened d q n p octets k outcome r replacing =
    Took (Some p) octets (kind.Key k.message) outcome (option_map (λ kck. frame_seal kck k.octets) r.verified)
    ∷ opened
    ++ (derived_acts d q n p r.derived ++ replacing ++ installed_acts d q n p r.installed
    ++ group_acts groups.Gtk d p r.gtk ++ group_acts groups.Igtk d p r.igtk ++ finished_acts d q n p r.installed ++ sent_acts p r)

-- what it tells of, field by field
abbrev told_with : Option (List ℕ) → Option Keyed → Option Keyed → Option GtkNews → Option GtkNews → List Act → Told
told_with v y x g k sends = record { verified = v; derived = y; installed = x; gtk = g; igtk = k; sends = sends }

pub acts_told : (opened : List Act) (d : Domain) (q : Root) (n p : Node) (octets : List ℕ) (k : KeyMessage) (o : Outcome) (had : Bool) (r : Reply) (t : Told) → Tells p r t
    → replied_acts (pair_of d q n p) had (taken_as octets k o) r (record { opened = opened; put = [] }) ≡ told_after opened d q n p octets k o had t
acts_told opened d q n p octets k o had r t tells =
    ap (told_around opened d q n p octets k o r) (replaced_is p had r.installed)
    ∙ ap (λ (w : Option (List ℕ)). told_after opened d q n p octets k o had (told_with w r.derived r.installed r.gtk r.igtk (sent_acts p r))) tells.verified_is
    ∙ ap (λ (w : Option Keyed). told_after opened d q n p octets k o had (told_with t.verified w r.installed r.gtk r.igtk (sent_acts p r))) tells.derived_is
    ∙ ap (λ (w : Option Keyed). told_after opened d q n p octets k o had (told_with t.verified t.derived w r.gtk r.igtk (sent_acts p r))) tells.installed_is
    ∙ ap (λ (w : Option GtkNews). told_after opened d q n p octets k o had (told_with t.verified t.derived t.installed w r.igtk (sent_acts p r))) tells.gtk_is
    ∙ ap (λ (w : Option GtkNews). told_after opened d q n p octets k o had (told_with t.verified t.derived t.installed t.gtk w (sent_acts p r))) tells.igtk_is
    ∙ ap (λ (w : List Act). told_after opened d q n p octets k o had (told_with t.verified t.derived t.installed t.gtk t.igtk w)) tells.sends_are

pub steps_by : (d : Domain) (first : ℕ) (n p : Node) (octets : List ℕ) (k : KeyMessage) (had : Bool) (new : Both) (o : Outcome) (r : Reply) (h acts : List Act) (t : Told) → Tells p r t → IsUnder p h t.installed new.part → told_acts d (root_at d (station_of n p) new.part.base.r0kh_id) n p octets k o had t ≡ acts
    → TakeRow (here d first n) h octets acts → SupplicantStands d n p new.part (add acts h) → RemembersAll p new.keys (add acts h) → SupplicantSteps (here d first n) p had (taken_as octets k o) new r h
steps_by d first n p octets k had new o r h acts t tells under are adds stands remembers =
    let is : reply_acts (pair_at d new.part.base.r0kh_id n p) had (taken_as octets k o) r ≡ acts = acts_told [] d (root_at d (station_of n p) new.part.base.r0kh_id) n p octets k o had r t tells ∙ are in
    record {
      adds = subst (λ (l : List Act). TakeRow (here d first n) h octets l) (sym is) adds;
      stands = subst (λ (l : List Act). SupplicantStands d n p new.part (add l h)) (sym is) stands;
      remembers = subst (λ (l : List Act). RemembersAll p new.keys (add l h)) (sym is) remembers;
      under = subst (λ (x : Option Keyed). IsUnder p h x new.part) (sym tells.installed_is) under;
    }

-- ---- nothing is sent

silent : (p : Node) (r : Reply) → r.len ≡ 0 → sent_acts p r ≡ []
silent p r none = ap (λ (n : ℕ). cond (n == 0) [] (frame_acts p r (take n r.octets))) none

pub tells_silent : (p : Node) (r : Reply) (v : Option (List ℕ)) → IsSilent r → r.verified ≡ v → Tells p r (verifies v)
tells_silent p r v e is = record { verified_is = is; derived_is = e.derived; installed_is = e.installed; gtk_is = e.gtk; igtk_is = e.igtk; sends_are = silent p r e.len }

pub empty_silent : (r : Reply) → IsEmpty r → IsSilent r
empty_silent r e = record { len = e.len; sealed = e.sealed; derived = e.derived; installed = e.installed; gtk = e.gtk; igtk = e.igtk }

pub empty_by : (r : Reply) → r.len ≡ 0 → r.sealed ≡ None → r.verified ≡ None → r.derived ≡ None → r.installed ≡ None → r.gtk ≡ None → r.igtk ≡ None → r.looked ≡ None → IsEmpty r
empty_by r len sealed verified derived installed gtk igtk looked = record { len = len; sealed = sealed; verified = verified; derived = derived; installed = installed; gtk = gtk; igtk = igtk; looked = looked }

none_some : (o : Option (List ℕ)) (x : List ℕ) → o ≡ None → o ≡ Some x → ⊥
none_some o x none some = cc

-- a reply of no octets is whole
whole_by : (r : Reply) → r.len ≡ 0 → r.sealed ≡ None → IsWhole r
whole_by r none plain = record { few = omega (arith, none); sealed = λ kck is. absurd (none_some r.sealed kck plain is) }

pub whole_silent : (r : Reply) → IsSilent r → IsWhole r
whole_silent r e = whole_by r e.len e.sealed

pub whole_empty : (r : Reply) → IsEmpty r → IsWhole r
whole_empty r e = whole_by r e.len e.sealed
