-- What the acts of a reply do to the questions to a history: each of them is about the peer.
use Rattle.std.proofs.Common.{◌≡◌, ℕ, Bool, true, false, cond, List, [], ◌∷◌, ◌++◌, Option, Some, None, refl, sym, ap, subst, ◌∙◌, append_assoc}
use Rattle.std.specs.Prelude.{take, option_map, ◌==◌}
use Rattle.std.specs.List.{AllByRecursion}
use Rattle.domain_base.specs.declared.names.Node.{Node}
use Rattle.domain_base.specs.declared.names.Node.TheVariants.{Sta}
use Rattle.domain_base.specs.declared.names.Mac.{Mac}
use Rattle.domain_base.specs.declared.names.Peer.TheVariants.{One}
use Rattle.eapol_key.specs.declared.messages.Message.{Message}
use Rattle.key_hierarchy.specs.declared.inputs.Inputs.{Inputs}
use Rattle.key_hierarchy.specs.declared.inputs.Ptk.{Ptk}
use Rattle.run_journal.specs.declared.domain.Domain.{Domain}
use Rattle.run_journal.specs.declared.acts.Part.TheVariants.{Session}
use Rattle.run_journal.specs.declared.acts.Key.TheVariants.{Pairwise, Group}
use Rattle.run_journal.specs.declared.acts.Kind.{Kind}
use Rattle.run_journal.specs.declared.acts.Kind.TheVariants as kind
use Rattle.run_journal.specs.declared.acts.Outcome.{Outcome}
use Rattle.run_journal.specs.declared.acts.Seal.{Seal}
use Rattle.run_journal.specs.declared.acts.Act.{Act}
use Rattle.run_journal.specs.declared.acts.Act.TheVariants.{Closed, Derived, Sent, Took, Installed, Resumed, Finished}
use Rattle.run_journal.specs.declared.reply.Reply.{Reply}
use Rattle.run_journal.specs.declared.reply.Keyed.{Keyed}
use Rattle.run_journal.specs.declared.reply.GtkNews.{GtkNews}
use Rattle.run_journal.specs.Acts.{same, opens, ends, closes, finishes, is_same_attempt, derived, accepted, replied, sent, key_drawn, switched, given_from, uses_all, GroupKey}
use Rattle.run_journal.specs.Questions.{attempt, session, pending, associated, group_keys, switches, group_uses, is_draw, draws, add}
use Rattle.domain_rules.specs.Frames.{frame_seal}
use Rattle.domain_rules.specs.GroupKeys.{got_by}
use Rattle.domain_rules.specs.Reading.{KeyMessage}
use Rattle.act_memory.specs.declared.room.Between.{Between}
use Rattle.act_memory.specs.Rooms.{between_of}
use Rattle.domain_rules.specs.Replies.{replied_acts, derived_acts, replaced_acts, installed_acts, group_acts, finished_acts, frame_acts, sent_acts, reply_acts, inputs_by, taken_as}
use Rattle.domain_rules.proofs.Parts.{IsApart, apart-took, attempt_none, session_more, draws_more, pending_more, associated_more, leaves_pending, leaves_associated, add_append, GoesOn, goes_on}
use Rattle.run_journal.specs.declared.acts.GroupKind.{GroupKind}
use Rattle.run_journal.specs.declared.acts.GroupKind.TheVariants as groups
use Rattle.run_journal.specs.GroupKinds.{same_group_kind}
use Rattle.domain_rules.specs.Network.{Root}
use Rattle.group_key.specs.Keys.{Kept, Memories}
use Rattle.group_key.specs.Holds.{Remembers, RemembersAll}
use Rattle.group_key.proofs.Counting.{stands, got_stays}
use Rattle.node_base.specs.Pairs.{pair_of}

-- ---- acts that are about one node

-- no test on the act finds that node in it
pub record IsSilent (q : Node) (e : Act) : Type 0 where
  pub accepts_none : (k : Kind) → accepted q k e ≡ None
  pub replies_none : (k : Kind) → replied q k e ≡ None
  pub sends_none : (m : Message) → sent q (kind.Key m) e ≡ None
  pub derives_none : derived q e ≡ None
  pub finishes_none : finishes q e ≡ false
  pub closes_none : closes q e ≡ false
  pub gives_none : (kind : GroupKind) → given_from kind q e ≡ None
  pub gets_none : (kind : GroupKind) (key : List ℕ) (id heard before : ℕ) → got_by kind q key id e heard before ≡ before

-- the act is about p: it draws nothing, makes no group key current, uses no packet number and begins no attempt
pub record IsAbout (p : Node) (e : Act) : Type 0 where
  pub draws_none : is_draw e ≡ false
  pub draws_no_key : (kind : GroupKind) → key_drawn kind e ≡ None
  pub switches_none : (kind : GroupKind) → switched kind e ≡ None
  pub uses_none : (kind : GroupKind) → uses_all kind e ≡ false
  pub opens_none : (q : Node) → opens q e ≡ false
  pub ends_none : (q : Node) → is_same_attempt q p ≡ false → ends q e ≡ false
  pub others : (q : Node) → same q p ≡ false → IsSilent q e

about_took : (p : Node) (octets : List ℕ) (k : Kind) (o : Outcome) (s : Option Seal) → IsAbout p (Took (Some p) octets k o s)
about_took p octets k o s = record {
  draws_none = refl;
  draws_no_key = λ kind. refl;
  switches_none = λ kind. refl;
  uses_none = λ kind. refl;
  opens_none = λ q. refl;
  ends_none = λ q other. refl;
  others = λ q other. (let a : IsApart q (Took (Some p) octets k o s) = apart-took q (Some p) octets k o s other in record {
    accepts_none = a.accepts_none;
    replies_none = a.replies_none;
    sends_none = λ m. refl;
    derives_none = refl;
    finishes_none = refl;
    closes_none = refl;
    gives_none = λ kind. refl;
    gets_none = λ kind key id heard before. refl;
  });
}

about_derived : (p : Node) (i : Inputs) (k : Ptk) → IsAbout p (Derived p i k)
about_derived p i k = record {
  draws_none = refl;
  draws_no_key = λ kind. refl;
  switches_none = λ kind. refl;
  uses_none = λ kind. refl;
  opens_none = λ q. refl;
  ends_none = λ q other. refl;
  others = λ q other. (record {
    accepts_none = λ m. refl;
    replies_none = λ m. refl;
    sends_none = λ m. refl;
    derives_none = rw other refl;
    finishes_none = refl;
    closes_none = refl;
    gives_none = λ kind. refl;
    gets_none = λ kind key id heard before. refl;
  });
}

about_closed : (p : Node) → IsAbout p (Closed p Session)
about_closed p = record {
  draws_none = refl;
  draws_no_key = λ kind. refl;
  switches_none = λ kind. refl;
  uses_none = λ kind. refl;
  opens_none = λ q. refl;
  ends_none = λ q other. refl;
  others = λ q other. (record {
    accepts_none = λ m. refl;
    replies_none = λ m. refl;
    sends_none = λ m. refl;
    derives_none = refl;
    finishes_none = refl;
    closes_none = other;
    gives_none = λ kind. refl;
    gets_none = λ kind key id heard before. refl;
  });
}

about_pairwise : (p : Node) (tk : List ℕ) (i : Inputs) → IsAbout p (Installed (One p) (Pairwise tk i))
about_pairwise p tk i = record {
  draws_none = refl;
  draws_no_key = λ kind. refl;
  switches_none = λ kind. refl;
  uses_none = λ kind. refl;
  opens_none = λ q. refl;
  ends_none = λ q other. refl;
  others = λ q other. (record {
    accepts_none = λ m. refl;
    replies_none = λ m. refl;
    sends_none = λ m. refl;
    derives_none = refl;
    finishes_none = refl;
    closes_none = refl;
    gives_none = λ kind. refl;
    gets_none = λ kind key id heard before. refl;
  });
}

-- a choice between two that are one
pub none_either : (c : Bool) → cond {A = Option GroupKey} c None None ≡ None
none_either true = refl
none_either false = refl

pub same_either : (c : Bool) (n : ℕ) → cond c n n ≡ n
same_either true n = refl
same_either false n = refl

about_group : (which : GroupKind) (p : Node) (k : List ℕ) (i : ℕ) (b : Mac) → IsAbout p (Installed (One p) (Group which k i b))
about_group which p k i b = record {
  draws_none = refl;
  draws_no_key = λ kind. refl;
  switches_none = λ kind. refl;
  uses_none = λ kind. refl;
  opens_none = λ q. refl;
  ends_none = λ q other. refl;
  others = λ q other. (record {
    accepts_none = λ m. refl;
    replies_none = λ m. refl;
    sends_none = λ m. refl;
    derives_none = refl;
    finishes_none = refl;
    closes_none = refl;
    gives_none = λ kind. rw other (none_either (same_group_kind kind which));
    gets_none = λ kind key id heard before. rw other (same_either (same_group_kind kind which) before);
  });
}

about_resumed : (which : GroupKind) (p : Node) (k : List ℕ) (i : ℕ) (b : Mac) → IsAbout p (Resumed p (Group which k i b))
about_resumed which p k i b = record {
  draws_none = refl;
  draws_no_key = λ kind. refl;
  switches_none = λ kind. refl;
  uses_none = λ kind. refl;
  opens_none = λ q. refl;
  ends_none = λ q other. refl;
  others = λ q other. (record {
    accepts_none = λ m. refl;
    replies_none = λ m. refl;
    sends_none = λ m. refl;
    derives_none = refl;
    finishes_none = refl;
    closes_none = refl;
    gives_none = λ kind. refl;
    gets_none = λ kind key id heard before. rw other (same_either (same_group_kind kind which) before);
  });
}

about_finished : (p : Node) (i : Inputs) → IsAbout p (Finished p i)
about_finished p i = record {
  draws_none = refl;
  draws_no_key = λ kind. refl;
  switches_none = λ kind. refl;
  uses_none = λ kind. refl;
  opens_none = λ q. refl;
  ends_none = λ q other. other;
  others = λ q other. (record {
    accepts_none = λ m. refl;
    replies_none = λ m. refl;
    sends_none = λ m. refl;
    derives_none = refl;
    finishes_none = other;
    closes_none = refl;
    gives_none = λ kind. refl;
    gets_none = λ kind key id heard before. refl;
  });
}

about_sent : (p : Node) (k : Kind) (octets : List ℕ) (s : Option Seal) → IsAbout p (Sent (One p) k octets s)
about_sent p k octets s = record {
  draws_none = refl;
  draws_no_key = λ kind. refl;
  switches_none = λ kind. refl;
  uses_none = λ kind. refl;
  opens_none = λ q. refl;
  ends_none = λ q other. refl;
  others = λ q other. (record {
    accepts_none = λ m. refl;
    replies_none = λ m. refl;
    sends_none = λ m. rw other refl;
    derives_none = refl;
    finishes_none = refl;
    closes_none = refl;
    gives_none = λ kind. refl;
    gets_none = λ kind key id heard before. refl;
  });
}

-- ---- the acts of a reply are about the peer

pub all_joined : {X : Type 0} (P : X → Type 0) (xs ys : List X) → AllByRecursion P xs → AllByRecursion P ys → AllByRecursion P (xs ++ ys)
all_joined P [] ys all more = more
all_joined P (x ∷ xs) ys all more = (all.0, all_joined P xs ys all.1 more)

derived_about : (d : Domain) (t : Root) (n p : Node) (y : Option Keyed) → AllByRecursion (IsAbout p) (derived_acts d t n p y)
derived_about d t n p None = tt
derived_about d t n p (Some y) = (about_derived p (inputs_by d t n p y) y.ptk, tt)

replaced_about : (p : Node) (had : Bool) (x : Option Keyed) → AllByRecursion (IsAbout p) (replaced_acts p had x)
replaced_about p true None = tt
replaced_about p true (Some y) = (about_closed p, tt)
replaced_about p false x = tt

installed_about : (d : Domain) (t : Root) (n p : Node) (x : Option Keyed) → AllByRecursion (IsAbout p) (installed_acts d t n p x)
installed_about d t n p None = tt
installed_about d t n p (Some y) = (about_pairwise p y.ptk.tk (inputs_by d t n p y), tt)

group_by : (which : GroupKind) (b : Bool) (p : Node) (key : List ℕ) (id : ℕ) (m : Mac) → IsAbout p (cond b (Resumed p (Group which key id m)) (Installed (One p) (Group which key id m)))
group_by which true p key id m = about_resumed which p key id m
group_by which false p key id m = about_group which p key id m

group_about : (which : GroupKind) (d : Domain) (p : Node) (g : Option GtkNews) → AllByRecursion (IsAbout p) (group_acts which d p g)
group_about which d p None = tt
group_about which d p (Some g) = (group_by which g.resumed p g.key g.id _, tt)

finished_about : (d : Domain) (t : Root) (n p : Node) (x : Option Keyed) → AllByRecursion (IsAbout p) (finished_acts d t n p x)
finished_about d t n p None = tt
finished_about d t n p (Some y) = (about_finished p (inputs_by d t n p y), tt)

frame_by : (b : Bool) (p : Node) (r : Reply) (octets : List ℕ) → AllByRecursion (IsAbout p) (cond b [] (frame_acts p r octets))
frame_by true p r octets = tt
frame_by false p r octets = (about_sent p r.kind octets _, tt)

pub sent_about : (p : Node) (r : Reply) → AllByRecursion (IsAbout p) (sent_acts p r)
sent_about p r = frame_by (r.len == 0) p r (take r.len r.octets)

pub replied_about : (d : Domain) (t : Root) (n p : Node) (had : Bool) (octets : List ℕ) (k : KeyMessage) (o : Outcome) (r : Reply) → AllByRecursion (IsAbout p) (reply_acts (pair_of d t n p) had (taken_as octets k o) r)
replied_about d t n p had octets k o r = (
  about_took p octets (kind.Key k.message) o _,
  all_joined (IsAbout p) _ (sent_acts p r)
      (all_joined (IsAbout p) _ (finished_acts d t n p r.installed)
      (all_joined (IsAbout p) _ (group_acts groups.Igtk d p r.igtk)
      (all_joined (IsAbout p) _ (group_acts groups.Gtk d p r.gtk)
      (all_joined (IsAbout p) _ (installed_acts d t n p r.installed)
      (all_joined (IsAbout p) (derived_acts d t n p r.derived) (replaced_acts p had r.installed) (derived_about d t n p r.derived) (replaced_about p had r.installed))
      (installed_about d t n p r.installed))
      (group_about groups.Gtk d p r.gtk))
      (group_about groups.Igtk d p r.igtk))
      (finished_about d t n p r.installed))
      (sent_about p r),
)

-- ---- what acts about p leave

pub about_draws : (p : Node) (g h : List Act) → AllByRecursion (IsAbout p) g → draws (add g h) ≡ draws h
about_draws p [] h all = refl
about_draws p (e ∷ g) h all = about_draws p g (e ∷ h) all.1 ∙ draws_more e h all.0.draws_none

keys_more : (kind : GroupKind) (e : Act) (h : List Act) → key_drawn kind e ≡ None → group_keys kind (e ∷ h) ≡ group_keys kind h
keys_more kind e h none = rw none refl

pub about_keys : (kind : GroupKind) (p : Node) (g h : List Act) → AllByRecursion (IsAbout p) g → group_keys kind (add g h) ≡ group_keys kind h
about_keys kind p [] h all = refl
about_keys kind p (e ∷ g) h all = about_keys kind p g (e ∷ h) all.1 ∙ keys_more kind e h (all.0.draws_no_key kind)

switches_more : (kind : GroupKind) (e : Act) (h : List Act) → switched kind e ≡ None → switches kind (e ∷ h) ≡ switches kind h
switches_more kind e h none = rw none refl

pub about_switches : (kind : GroupKind) (p : Node) (g h : List Act) → AllByRecursion (IsAbout p) g → switches kind (add g h) ≡ switches kind h
about_switches kind p [] h all = refl
about_switches kind p (e ∷ g) h all = about_switches kind p g (e ∷ h) all.1 ∙ switches_more kind e h (all.0.switches_none kind)

uses_more : (kind : GroupKind) (e : Act) (h : List Act) → switched kind e ≡ None → uses_all kind e ≡ false → group_uses kind (e ∷ h) ≡ group_uses kind h
uses_more kind e h none unused = rw (none, unused) refl

pub about_uses : (kind : GroupKind) (p : Node) (g h : List Act) → AllByRecursion (IsAbout p) g → group_uses kind (add g h) ≡ group_uses kind h
about_uses kind p [] h all = refl
about_uses kind p (e ∷ g) h all = about_uses kind p g (e ∷ h) all.1 ∙ uses_more kind e h (all.0.switches_none kind) (all.0.uses_none kind)

-- no attempt is begun
pub about_no_attempt : (p q : Node) (g h : List Act) → AllByRecursion (IsAbout p) g → attempt q h ≡ None → attempt q (add g h) ≡ None
about_no_attempt p q [] h all none = none
about_no_attempt p q (e ∷ g) h all none = about_no_attempt p q g (e ∷ h) all.1 (attempt_none q e h (all.0.opens_none q) none)

-- of another node the session stays
pub about_session : (p q : Node) (g h : List Act) → same q p ≡ false → AllByRecursion (IsAbout p) g → session q (add g h) ≡ session q h
about_session p q [] h other all = refl
about_session p q (e ∷ g) h other all =
    about_session p q g (e ∷ h) other all.1 ∙ session_more q e h (all.0.others q other).finishes_none (all.0.others q other).closes_none

-- ---- the group keys that a station keeps

-- an act that gives no group key of p, and moves the counter of none
pub record LeavesKept (p : Node) (e : Act) : Type 0 where
  pub gives_none : (kind : GroupKind) → given_from kind p e ≡ None
  pub gets_none : (kind : GroupKind) (key : List ℕ) (id heard before : ℕ) → got_by kind p key id e heard before ≡ before

kept_by : (kind : GroupKind) (p : Node) (ks : List Kept) (e : Act) (h : List Act) → LeavesKept p e → Remembers kind p ks h → Remembers kind p ks (e ∷ h)
kept_by kind p ks e h leaves r =
    stands kind p e ks h r (leaves.gives_none kind) (λ key id n of is. got_stays kind p key id e h n (λ heard. leaves.gets_none kind key id heard n) is)

-- the same keys came, with the same counters
pub remembers_more : (p : Node) (m : Memories) (e : Act) (h : List Act) → LeavesKept p e → RemembersAll p m h → RemembersAll p m (e ∷ h)
remembers_more p m e h leaves r = record { gtks = kept_by groups.Gtk p m.gtks e h leaves r.gtks; igtks = kept_by groups.Igtk p m.igtks e h leaves r.igtks }

pub remembers_on : (p : Node) (m : Memories) (g h : List Act) → AllByRecursion (LeavesKept p) g → RemembersAll p m h → RemembersAll p m (add g h)
remembers_on p m [] h all r = r
remembers_on p m (e ∷ g) h all r = remembers_on p m g (e ∷ h) all.1 (remembers_more p m e h all.0 r)

about_keeps : (p q : Node) (g : List Act) → same q p ≡ false → AllByRecursion (IsAbout p) g → AllByRecursion (LeavesKept q) g
about_keeps p q [] other all = tt
about_keeps p q (e ∷ g) other all = let s : IsSilent q e = all.0.others q other in (record { gives_none = s.gives_none; gets_none = s.gets_none }, about_keeps p q g other all.1)

pub about_remembers : (p q : Node) (m : Memories) (g h : List Act) → same q p ≡ false → AllByRecursion (IsAbout p) g → RemembersAll q m h → RemembersAll q m (add g h)
about_remembers p q m g h other all r = remembers_on q m g h (about_keeps p q g other all) r

-- of another node that ends by itself nothing at all is changed
about_apart : (p q : Node) (g : List Act) → same q p ≡ false → is_same_attempt q p ≡ false → AllByRecursion (IsAbout p) g → AllByRecursion (IsApart q) g
about_apart p q [] other another all = tt
about_apart p q (e ∷ g) other another all =
    let s : IsSilent q e = all.0.others q other in (
      record {
        opens_none = all.0.opens_none q;
        ends_none = all.0.ends_none q another;
        accepts_none = s.accepts_none;
        replies_none = s.replies_none;
        sends_none = s.sends_none;
        derives_none = s.derives_none;
        finishes_none = s.finishes_none;
        closes_none = s.closes_none;
      },
      about_apart p q g other another all.1,
    )

-- of acts about a station, for another station
pub about_others : (p : Node) (q : ℕ) (g : List Act) → same (Sta q) p ≡ false → AllByRecursion (IsAbout p) g → AllByRecursion (IsApart (Sta q)) g
about_others p q g other all = about_apart p (Sta q) g other other all

pub about_goes_on : (p : Node) (q : ℕ) (g h : List Act) → same (Sta q) p ≡ false → AllByRecursion (IsAbout p) g → GoesOn (Sta q) h (add g h)
about_goes_on p q g h other all = goes_on (Sta q) g h (about_others p q g other all)

-- ---- whom a station has an attempt and a session with, and what of the peer is there still

-- the act ends nothing
pub record EndsNone (e : Act) : Type 0 where
  pub leaves_attempt : leaves_pending e ≡ true
  pub leaves_session : leaves_associated e ≡ true
  pub ends_none : (q : Node) → ends q e ≡ false
  pub finishes_none : (q : Node) → finishes q e ≡ false
  pub closes_none : (q : Node) → closes q e ≡ false

took_ends : (p : Node) (octets : List ℕ) (k : Kind) (o : Outcome) (s : Option Seal) → EndsNone (Took (Some p) octets k o s)
took_ends p octets k o s = record { leaves_attempt = refl; leaves_session = refl; ends_none = λ q. refl; finishes_none = λ q. refl; closes_none = λ q. refl }

derived_ends : (d : Domain) (t : Root) (n p : Node) (y : Option Keyed) → AllByRecursion EndsNone (derived_acts d t n p y)
derived_ends d t n p None = tt
derived_ends d t n p (Some y) = (record { leaves_attempt = refl; leaves_session = refl; ends_none = λ q. refl; finishes_none = λ q. refl; closes_none = λ q. refl }, tt)

group_ends_by : (kind : GroupKind) (b : Bool) (p : Node) (key : List ℕ) (id : ℕ) (m : Mac) → EndsNone (cond b (Resumed p (Group kind key id m)) (Installed (One p) (Group kind key id m)))
group_ends_by kind true p key id m = record { leaves_attempt = refl; leaves_session = refl; ends_none = λ q. refl; finishes_none = λ q. refl; closes_none = λ q. refl }
group_ends_by kind false p key id m = record { leaves_attempt = refl; leaves_session = refl; ends_none = λ q. refl; finishes_none = λ q. refl; closes_none = λ q. refl }

group_ends : (kind : GroupKind) (d : Domain) (p : Node) (g : Option GtkNews) → AllByRecursion EndsNone (group_acts kind d p g)
group_ends kind d p None = tt
group_ends kind d p (Some g) = (group_ends_by kind g.resumed p g.key g.id _, tt)

frame_ends : (b : Bool) (p : Node) (r : Reply) (octets : List ℕ) → AllByRecursion EndsNone (cond b [] (frame_acts p r octets))
frame_ends true p r octets = tt
frame_ends false p r octets = (record { leaves_attempt = refl; leaves_session = refl; ends_none = λ q. refl; finishes_none = λ q. refl; closes_none = λ q. refl }, tt)

pub sent_ends : (p : Node) (r : Reply) → AllByRecursion EndsNone (sent_acts p r)
sent_ends p r = frame_ends (r.len == 0) p r (take r.len r.octets)

-- the acts by each of the fields of a reply
abbrev acts_by : Domain → Root → Node → Node → Bool → List ℕ → KeyMessage → Outcome → Option (List ℕ) → Option Keyed → Option Keyed → Option GtkNews → Option GtkNews → List Act → List Act
acts_by d t n p had octets k o v y x g i sends =
    Took (Some p) octets (kind.Key k.message) o (option_map (λ kck. frame_seal kck k.octets) v)
    ∷ derived_acts d t n p y ++ replaced_acts p had x ++ installed_acts d t n p x ++ group_acts groups.Gtk d p g ++ group_acts groups.Igtk d p i ++ finished_acts d t n p x ++ sends

replaced_none : (p : Node) (had : Bool) → AllByRecursion EndsNone (replaced_acts p had None)
replaced_none p true = tt
replaced_none p false = tt

ends_by : (d : Domain) (t : Root) (n p : Node) (had : Bool) (octets : List ℕ) (k : KeyMessage) (o : Outcome) (v : Option (List ℕ)) (y : Option Keyed) (g i : Option GtkNews) (sends : List Act) → AllByRecursion EndsNone sends
    → AllByRecursion EndsNone (acts_by d t n p had octets k o v y None g i sends)
ends_by d t n p had octets k o v y g i sends rest = (
  took_ends p octets _ o _,
  all_joined EndsNone _ sends
      (all_joined EndsNone _ []
      (all_joined EndsNone _ (group_acts groups.Igtk d p i)
      (all_joined EndsNone _ (group_acts groups.Gtk d p g)
      (all_joined EndsNone _ []
      (all_joined EndsNone (derived_acts d t n p y) (replaced_acts p had None) (derived_ends d t n p y) (replaced_none p had))
      tt)
      (group_ends groups.Gtk d p g))
      (group_ends groups.Igtk d p i))
      tt)
      rest,
)

-- where no key was installed nothing ends
pub replied_ends : (d : Domain) (t : Root) (n p : Node) (had : Bool) (octets : List ℕ) (k : KeyMessage) (o : Outcome) (r : Reply) → r.installed ≡ None → AllByRecursion EndsNone (reply_acts (pair_of d t n p) had (taken_as octets k o) r)
replied_ends d t n p had octets k o r none =
    subst (λ (x : Option Keyed). AllByRecursion EndsNone (acts_by d t n p had octets k o r.verified r.derived x r.gtk r.igtk (sent_acts p r))) (sym none)
    (ends_by d t n p had octets k o r.verified r.derived r.gtk r.igtk (sent_acts p r) (sent_ends p r))

pub ends_pending : (g h : List Act) → AllByRecursion EndsNone g → pending (add g h) ≡ pending h
ends_pending [] h all = refl
ends_pending (e ∷ g) h all = ends_pending g (e ∷ h) all.1 ∙ pending_more e h all.0.leaves_attempt

pub ends_associated : (g h : List Act) → AllByRecursion EndsNone g → associated (add g h) ≡ associated h
ends_associated [] h all = refl
ends_associated (e ∷ g) h all = ends_associated g (e ∷ h) all.1 ∙ associated_more e h all.0.leaves_session

pub ends_session : (q : Node) (g h : List Act) → AllByRecursion EndsNone g → session q (add g h) ≡ session q h
ends_session q [] h all = refl
ends_session q (e ∷ g) h all = ends_session q g (e ∷ h) all.1 ∙ session_more q e h (all.0.finishes_none q) (all.0.closes_none q)

-- where one was, the acts before the end of the attempt, and the end
abbrev before_end : Domain → Root → Node → Node → Bool → List ℕ → KeyMessage → Outcome → Reply → Keyed → List Act
before_end d t n p had octets k o r y =
    Took (Some p) octets (kind.Key k.message) o (option_map (λ kck. frame_seal kck k.octets) r.verified)
    ∷ derived_acts d t n p r.derived ++ replaced_acts p had (Some y) ++ installed_acts d t n p (Some y) ++ group_acts groups.Gtk d p r.gtk ++ group_acts groups.Igtk d p r.igtk

split_end : (d : Domain) (t : Root) (n p : Node) (had : Bool) (octets : List ℕ) (k : KeyMessage) (o : Outcome) (r : Reply) (y : Keyed)
    → acts_by d t n p had octets k o r.verified r.derived (Some y) r.gtk r.igtk (sent_acts p r) ≡ before_end d t n p had octets k o r y ++ (Finished p (inputs_by d t n p y) ∷ sent_acts p r)
split_end d t n p had octets k o r y =
    append_assoc (before_end d t n p had octets k o r y) (Finished p (inputs_by d t n p y) ∷ []) (sent_acts p r)

-- the attempt became a session, behind some acts
pub record IsEnd (p : Node) (h new : List Act) : Type 0 where
  pub past : List Act
  pub i : Inputs
  pub more : List Act
  pub ends_more : AllByRecursion EndsNone more
  pub is : new ≡ add more (Finished p i ∷ past)

pub replied_end : (d : Domain) (t : Root) (n p : Node) (had : Bool) (octets : List ℕ) (k : KeyMessage) (o : Outcome) (r : Reply) (y : Keyed) (h : List Act) → r.installed ≡ Some y → IsEnd p h (add (reply_acts (pair_of d t n p) had (taken_as octets k o) r) h)
replied_end d t n p had octets k o r y h some = record {
  past = add (before_end d t n p had octets k o r y) h;
  i = inputs_by d t n p y;
  more = sent_acts p r;
  ends_more = sent_ends p r;
  is = ap (λ (x : Option Keyed). add (acts_by d t n p had octets k o r.verified r.derived x r.gtk r.igtk (sent_acts p r)) h) some
      ∙ ap (λ (l : List Act). add l h) (split_end d t n p had octets k o r y)
      ∙ add_append (before_end d t n p had octets k o r y) (Finished p (inputs_by d t n p y) ∷ sent_acts p r) h;
}

-- the attempt has become a session
pub end_pending : (p : Node) (h new : List Act) → IsEnd p h new → pending new ≡ None
end_pending p h new e = ap pending e.is ∙ ends_pending e.more (Finished p e.i ∷ e.past) e.ends_more

pub end_associated : (p : Node) (h new : List Act) → IsEnd p h new → associated new ≡ Some p
end_associated p h new e = ap associated e.is ∙ ends_associated e.more (Finished p e.i ∷ e.past) e.ends_more

-- ---- where nothing stands between

pub nothing_between : (d : Domain) (t : Root) (n p : Node) (had : Bool) (octets : List ℕ) (k : KeyMessage) (o : Outcome) (r : Reply) (b : Between) → b.opened.items ≡ [] → b.put.items ≡ []
    → replied_acts (pair_of d t n p) had (taken_as octets k o) r (between_of b) ≡ reply_acts (pair_of d t n p) had (taken_as octets k o) r
nothing_between d t n p had octets k o r b opened put = rw (opened, put) refl
