-- Acts that tell of no key holder that was asked, and change no row of the own one.
use Rattle.std.proofs.Common.{ℕ, zero, suc, Bool, true, false, cond, List, [], ◌∷◌, ◌++◌, Option, Some, None, refl, sym, subst}
use Rattle.std.specs.Prelude.{if◌then◌else◌, nat_lt, ◌==◌, take}
use Rattle.domain_base.specs.declared.names.Mac.{Mac}
use Rattle.domain_base.specs.declared.names.Node.{Node}
use Rattle.domain_base.specs.declared.names.Node.TheVariants.{Ap, Sta}
use Rattle.domain_base.specs.declared.names.Peer.{Peer}
use Rattle.domain_base.specs.declared.names.Peer.TheVariants.{One}
use Rattle.key_holders.specs.declared.rows.HeldRow.{HeldRow}
use Rattle.run_journal.specs.declared.acts.GroupKind.{GroupKind}
use Rattle.run_journal.specs.declared.acts.GroupKind.TheVariants as groups
use Rattle.run_journal.specs.declared.domain.Domain.{Domain}
use Rattle.run_journal.specs.declared.acts.Kind.{Kind}
use Rattle.run_journal.specs.declared.acts.Kind.TheVariants as kind
use Rattle.run_journal.specs.declared.acts.Reason.{Reason}
use Rattle.run_journal.specs.declared.acts.Key.TheVariants.{Group}
use Rattle.run_journal.specs.declared.acts.Act.{Act}
use Rattle.run_journal.specs.declared.acts.Act.TheVariants.{Installed, Resumed}
use Rattle.run_journal.specs.declared.reply.Keyed.{Keyed}
use Rattle.run_journal.specs.declared.reply.GtkNews.{GtkNews}
use Rattle.run_journal.specs.declared.reply.Reply.{Reply}
use Rattle.run_journal.specs.Acts.{Derivation}
use Rattle.run_journal.specs.Questions.{session, add}
use Rattle.domain_rules.specs.Network.{Root, mac}
use Rattle.replay_window.specs.Numbers.{last_number}
use Rattle.domain_rules.specs.PacketNumbers.{SendKey}
use Rattle.domain_rules.specs.DataRows.{send_acts_by}
use Rattle.domain_rules.specs.Replies.{derived_acts, replaced_acts, installed_acts, group_acts, finished_acts, frame_acts, sent_acts}
use Rattle.domain_rules.specs.Rows.{response_by, refused_status, response}
use Rattle.domain_rules.specs.AccessPointRows.{to_session, to_sessions}
use Rattle.domain_rules.proofs.Parts.{add_append}
use Rattle.held_rows.specs.Knows.{LeaveRows, KnowsRows}
use Rattle.held_rows.proofs.Leaving.{left}
use Rattle.group_key.specs.declared.keys.GroupKey.{GroupKey}
use Rattle.authenticator.specs.Steps.{again_acts}
use Rattle.authenticator.specs.declared.authenticator.Again.{Again}
use Rattle.authenticator.specs.declared.authenticator.Again.TheVariants as again
use Rattle.ap_node.specs.State.{State}
use Rattle.held_rows.specs.Looks.{IsNoLook, NoLooks}
use Rattle.ap_node.specs.Stands.{IsPlain, AllPlain}
use Rattle.ap_node.specs.InUse.{made_acts}
use Rattle.ap_node.specs.Switching.{is_due, newest_beside, due_acts}
use Rattle.ap_node.specs.Takes.{RowsOn, closed, expired_acts}
use Rattle.act_memory.proofs.RepliedActs.{all_joined}

-- ---- lists of acts

pub plain_append : (f g : List Act) → AllPlain f → AllPlain g → AllPlain (f ++ g)
plain_append [] g all more = more
plain_append (e ∷ f) g all more = (all.0, plain_append f g all.1 more)

pub plain_looks : (g : List Act) → AllPlain g → NoLooks g
plain_looks [] all = tt
plain_looks (e ∷ g) all = (all.0.0, plain_looks g all.1)

pub plain_leaves : (g : List Act) → AllPlain g → LeaveRows g
plain_leaves [] all = tt
plain_leaves (e ∷ g) all = (all.0.1, plain_leaves g all.1)

pub plain_of : (g : List Act) → NoLooks g → LeaveRows g → AllPlain g
plain_of [] looks rows = tt
plain_of (e ∷ g) looks rows = ((looks.0, rows.0), plain_of g looks.1 rows.1)

pub plain_rows : (d : Domain) (a : ℕ) (xs : List HeldRow) (h g : List Act) → AllPlain g → KnowsRows d (Ap a) xs h → RowsOn NoLooks d a xs h g
plain_rows d a xs h g all at = (plain_looks g all, left d (Ap a) xs g h (plain_leaves g all) at)

-- ---- marks that plain acts behind them leave

abbrev pub IsGrowing : (List Act → Type 0) → Type 0
IsGrowing Marks = (g k : List Act) → Marks g → AllPlain k → Marks (g ++ k)

pub growing_plain : IsGrowing AllPlain
growing_plain g k all more = plain_append g k all more

pub growing_rows : (d : Domain) (a : ℕ) (ys : List HeldRow) (h : List Act) → IsGrowing (RowsOn NoLooks d a ys h)
growing_rows d a ys h g k m more = (
  all_joined IsNoLook g k m.0 (plain_looks k more),
  subst (λ (l : List Act). KnowsRows d (Ap a) ys l) (sym (add_append g k h)) (left d (Ap a) ys k (add g h) (plain_leaves k more) m.1),
)

-- ---- the acts of events

by_either : (b : Bool) (f g : List Act) → AllPlain f → AllPlain g → AllPlain (if b then f else g)
by_either true f g all more = all
by_either false f g all more = more

plain_made : (g : GroupKey) (o : Option GroupKey) (b : Mac) → AllPlain (made_acts g o b)
plain_made g None b = ((tt, refl), tt)
plain_made g (Some t) b = ((tt, refl), ((tt, refl), tt))

pub plain_due : (d : Domain) (s : State) → AllPlain (due_acts d s)
plain_due d s = by (is_due s)
  where
    by : (b : Bool) → AllPlain (cond b (made_acts s.group.gtk.newest (newest_beside s.group.igtk) (mac d (Ap s.number))) [])
    by true = plain_made s.group.gtk.newest (newest_beside s.group.igtk) (mac d (Ap s.number))
    by false = tt

pub plain_closed : (p : Node) (had : Bool) → AllPlain (closed p had)
plain_closed p false = tt
plain_closed p true = ((tt, refl), tt)

pub plain_expired : (p : Node) (a s : Bool) → AllPlain (expired_acts p a s)
plain_expired p false false = ((tt, refl), tt)
plain_expired p false true = ((tt, refl), tt)
plain_expired p true false = ((tt, refl), tt)
plain_expired p true true = ((tt, refl), ((tt, refl), tt))

plain_answer : (d : Domain) (n p : Node) (k : Kind) (o : Option ℕ) → AllPlain (response_by d n p k o)
plain_answer d n p kind.AssocReq (Some code) = ((tt, refl), tt)
plain_answer d n p kind.FtReq (Some code) = ((tt, refl), tt)
plain_answer d n p kind.ReReq (Some code) = ((tt, refl), tt)
plain_answer d n p k _ = tt

pub plain_response : (d : Domain) (n : Node) (from : Option Node) (k : Kind) (why : Reason) → AllPlain (response d n from k why)
plain_response d (Ap a) (Some p) k why = plain_answer d (Ap a) p k (refused_status why)
plain_response d (Ap a) None k why = tt
plain_response d (Sta s) from k why = tt

plain_frame : (b : Bool) (p : Node) (r : Reply) (octets : List ℕ) → AllPlain (cond b [] (frame_acts p r octets))
plain_frame true p r octets = tt
plain_frame false p r octets = ((tt, refl), tt)

pub plain_sent : (p : Node) (r : Reply) → AllPlain (sent_acts p r)
plain_sent p r = plain_frame (r.len == 0) p r (take r.len r.octets)

pub plain_again : (p : Node) (came : Again) (r : Reply) → AllPlain (again_acts p came r)
plain_again p again.Sent r = plain_sent p r
plain_again p (again.GaveUp m) r = ((tt, refl), ((tt, refl), tt))
plain_again p again.Nothing r = ((tt, refl), tt)

plain_one : (d : Domain) (n p : Node) (h : List Act) (o : Option Derivation) → AllPlain (to_session d n p h o)
plain_one d n p h None = tt
plain_one d n p h (Some x) = ((tt, refl), tt)

pub plain_sessions : (d : Domain) (n : Node) (k : ℕ) (h : List Act) → AllPlain (to_sessions d n k h)
plain_sessions d n zero h = tt
plain_sessions d n (suc k) h =
    plain_append (to_sessions d n k h) _ (plain_sessions d n k h) (plain_one d n (Sta k) (add (to_sessions d n k h) h) (session (Sta k) (add (to_sessions d n k h) h)))

pub plain_data : (d : Domain) (n : Node) (q : Peer) (tid : Option ℕ) (plain : List ℕ) (o : Option SendKey) → AllPlain (send_acts_by d n q tid plain o)
plain_data d n q tid plain None = ((tt, refl), tt)
plain_data d n q tid plain (Some k) = by_either (nat_lt k.used last_number) _ _ ((tt, refl), ((tt, refl), tt)) ((tt, refl), tt)

-- ---- the acts of a reply, but for those between

plain_derived : (d : Domain) (t : Root) (n p : Node) (y : Option Keyed) → AllPlain (derived_acts d t n p y)
plain_derived d t n p None = tt
plain_derived d t n p (Some y) = ((tt, refl), tt)

plain_replaced : (p : Node) (had : Bool) (x : Option Keyed) → AllPlain (replaced_acts p had x)
plain_replaced p true None = tt
plain_replaced p true (Some y) = ((tt, refl), tt)
plain_replaced p false x = tt

plain_installed : (d : Domain) (t : Root) (n p : Node) (x : Option Keyed) → AllPlain (installed_acts d t n p x)
plain_installed d t n p None = tt
plain_installed d t n p (Some y) = ((tt, refl), tt)

plain_group_by : (which : GroupKind) (b : Bool) (p : Node) (key : List ℕ) (id : ℕ) (m : Mac) → IsPlain (cond b (Resumed p (Group which key id m)) (Installed (One p) (Group which key id m)))
plain_group_by which true p key id m = (tt, refl)
plain_group_by which false p key id m = (tt, refl)

plain_group : (which : GroupKind) (d : Domain) (p : Node) (g : Option GtkNews) → AllPlain (group_acts which d p g)
plain_group which d p None = tt
plain_group which d p (Some g) = (plain_group_by which g.resumed p g.key g.id (mac d p), tt)

plain_finished : (d : Domain) (t : Root) (n p : Node) (x : Option Keyed) → AllPlain (finished_acts d t n p x)
plain_finished d t n p None = tt
plain_finished d t n p (Some y) = ((tt, refl), tt)

-- from the taking of the frame to the end of the attempt
abbrev pub middle : Domain → Root → Node → Node → Bool → Reply → List Act
middle d t n p had r =
    derived_acts d t n p r.derived ++ replaced_acts p had r.installed ++ installed_acts d t n p r.installed ++ group_acts groups.Gtk d p r.gtk ++ group_acts groups.Igtk d p r.igtk
    ++ finished_acts d t n p r.installed

pub plain_middle : (d : Domain) (t : Root) (n p : Node) (had : Bool) (r : Reply) → AllPlain (middle d t n p had r)
plain_middle d t n p had r =
    plain_append _ (finished_acts d t n p r.installed)
    (plain_append _ (group_acts groups.Igtk d p r.igtk)
    (plain_append _ (group_acts groups.Gtk d p r.gtk)
    (plain_append _ (installed_acts d t n p r.installed)
    (plain_append (derived_acts d t n p r.derived) (replaced_acts p had r.installed) (plain_derived d t n p r.derived) (plain_replaced p had r.installed))
    (plain_installed d t n p r.installed))
    (plain_group groups.Gtk d p r.gtk))
    (plain_group groups.Igtk d p r.igtk))
    (plain_finished d t n p r.installed)
