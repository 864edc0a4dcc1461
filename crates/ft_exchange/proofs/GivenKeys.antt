-- The group keys of a reassociation response are given to a station's memory.
use Rattle.std.proofs.Common.{◌≡◌, ◌∙◌, ℕ, Bool, true, false, List, [], ◌∷◌, ◌++◌, Option, Some, None, refl, sym, ap, subst}
use Rattle.std.specs.Prelude.{if◌then◌else◌}
use Rattle.domain_base.specs.declared.names.Mac.{Mac}
use Rattle.domain_base.specs.declared.names.Node.{Node}
use Rattle.domain_base.specs.declared.names.Peer.TheVariants.{One}
use Rattle.run_journal.specs.declared.domain.Domain.{Domain}
use Rattle.run_journal.specs.declared.acts.GroupKind.{GroupKind}
use Rattle.run_journal.specs.declared.acts.GroupKind.TheVariants as groups
use Rattle.run_journal.specs.declared.acts.Kind.TheVariants as kind
use Rattle.run_journal.specs.declared.acts.Key.TheVariants.{Pairwise}
use Rattle.run_journal.specs.declared.acts.Outcome.TheVariants.{Accepted}
use Rattle.run_journal.specs.declared.acts.Part.TheVariants.{Session}
use Rattle.run_journal.specs.declared.acts.Seal.{Seal}
use Rattle.run_journal.specs.declared.acts.Act.{Act}
use Rattle.run_journal.specs.declared.acts.Act.TheVariants.{Closed, Took, Installed, Finished}
use Rattle.run_journal.specs.Acts.{GroupKey, Derivation}
use Rattle.run_journal.specs.Events.{protects}
use Rattle.run_journal.specs.Questions.{add}
use Rattle.domain_rules.specs.Network.{mac}
use Rattle.domain_rules.specs.Closing.{close_associated}
use Rattle.domain_rules.specs.GroupKeys.{memory, find_key, give_by, give, GivenKeys, give_igtk, give_all, told, rsc_in_response}
use Rattle.domain_rules.specs.IntegrityKeys.{ipn_in_response, IsIpnTold}
use Rattle.domain_rules.specs.Replies.{group_acts}
use Rattle.group_key.specs.Keys.{Kept, Memories, kept_id, given, kept_in, is_integrity_id}
use Rattle.group_key.specs.Holds.{Remembers, RemembersAll}
use Rattle.group_key.proofs.Keeping.{found_in, found_as}
use Rattle.group_key.proofs.Counting.{told_by_response}
use Rattle.group_key.proofs.BothKinds.{all_keep, gtk_given, igtk_given}
use Rattle.group_key.proofs.IpnTold.{told_stays, told_by_response as ipn_told}
use Rattle.ft_exchange.specs.Group.{group_key, news_of, news_in, given_to, igtk_news_in, igtk_given as given_igtk, became, all_given}
use Rattle.ft_exchange.specs.declared.group.CarriedKey.{CarriedKey}
use Rattle.ft_exchange.specs.declared.group.CarriedKeys.{CarriedKeys}

-- ---- the group keys of a response are those that were carried

-- an IGTK where management frames are protected, and none is looked at where they are not
abbrev pub IsKey : Bool → GroupKey → Option CarriedKey → Type 0
IsKey false g o = o ≡ None
IsKey true g None = ⊥
IsKey true g (Some c) = (g ≡ group_key c) × (is_integrity_id c.id ≡ true)

pub record AreKeys (protected : Bool) (keys : GivenKeys) (c : CarriedKeys) : Type 0 where
  pub gtk : keys.gtk ≡ group_key c.gtk
  pub gtk_id : is_integrity_id c.gtk.id ≡ false
  pub igtk : IsKey protected keys.igtk c.igtk

-- ---- their acts

give_is : (k : GroupKind) (d : Domain) (p : Node) (c : CarriedKey) (o : Option ℕ) → group_acts k d p (Some (news_of c o)) ≡ give_by k p (mac d p) (group_key c) (found_as c.key o) ∷ []
give_is k d p c None = refl
give_is k d p c (Some id) = refl

given_is : (k : GroupKind) (d : Domain) (p : Node) (c : CarriedKey) (ks : List Kept) (h : List Act) → Remembers k p ks h → group_acts k d p (Some (news_of c (kept_id c.key ks))) ≡ give k p (mac d p) (group_key c) h ∷ []
given_is k d p c ks h r =
    give_is k d p c (kept_id c.key ks) ∙ ap (λ (o : Option GroupKey). give_by k p (mac d p) (group_key c) o ∷ []) (sym (found_in k p c.key ks h r.keys))

-- those of a kind by the key id
abbrev kept_by : Bool → Memories → List Kept
kept_by b m = if b then m.igtks else m.gtks

gtk_acts : (d : Domain) (p : Node) (c : CarriedKey) (m : Memories) (h : List Act) → RemembersAll p m h → is_integrity_id c.id ≡ false → group_acts groups.Gtk d p (Some (news_in c m)) ≡ give groups.Gtk p (mac d p) (group_key c) h ∷ []
gtk_acts d p c m h r is = ap (λ (b : Bool). group_acts groups.Gtk d p (Some (news_of c (kept_id c.key (kept_by b m))))) is ∙ given_is groups.Gtk d p c m.gtks h r.gtks

-- the memory after a GTK was given
abbrev after_by : Bool → List Kept → Memories → Memories
after_by b ks m = if b then record m { igtks = ks } else record m { gtks = ks }

protected_acts : (d : Domain) (p : Node) (g c : CarriedKey) (m : Memories) (h : List Act) → RemembersAll p m h → is_integrity_id g.id ≡ false → is_integrity_id c.id ≡ true
    → group_acts groups.Igtk d p (Some (news_in c (given_to g m))) ≡ give groups.Igtk p (mac d p) (group_key c) h ∷ []
protected_acts d p g c m h r other is =
    let ks : List Kept = given g.key g.id g.rsc (kept_in g.id m) in
    ap (λ (b : Bool). group_acts groups.Igtk d p (Some (news_of c (kept_id c.key (kept_by (is_integrity_id c.id) (after_by b ks m)))))) other
    ∙ ap (λ (b : Bool). group_acts groups.Igtk d p (Some (news_of c (kept_id c.key (kept_by b (after_by false ks m)))))) is
    ∙ given_is groups.Igtk d p c m.igtks h r.igtks

igtk_acts : (b : Bool) (d : Domain) (p : Node) (g : CarriedKey) (o : Option CarriedKey) (key : GroupKey) (m : Memories) (h : List Act) → RemembersAll p m h → is_integrity_id g.id ≡ false → IsKey b key o
    → group_acts groups.Igtk d p (igtk_news_in o (given_to g m)) ≡ give_igtk b p (mac d p) key h
igtk_acts false d p g None key m h r other is = refl
igtk_acts false d p g (Some c) key m h r other is = absurd (cc is)
igtk_acts true d p g None key m h r other is = absurd is
igtk_acts true d p g (Some c) key m h r other is = protected_acts d p g c m h r other is.1 ∙ ap (λ (x : GroupKey). give groups.Igtk p (mac d p) x h ∷ []) (sym is.0)

pub keys_acts : (d : Domain) (p : Node) (c : CarriedKeys) (m : Memories) (keys : GivenKeys) (h : List Act) → RemembersAll p m h → AreKeys (protects d) keys c
    → group_acts groups.Gtk d p (Some (became c m).gtk) ++ group_acts groups.Igtk d p (became c m).igtk ≡ give_all d p (mac d p) keys h
keys_acts d p c m keys h r are =
    ap (λ (l : List Act). l ++ group_acts groups.Igtk d p (became c m).igtk) (gtk_acts d p c.gtk m h r are.gtk_id ∙ ap (λ (x : GroupKey). give groups.Gtk p (mac d p) x h ∷ []) (sym are.gtk))
    ∙ ap (λ (l : List Act). give groups.Gtk p (mac d p) keys.gtk h ∷ l) (igtk_acts (protects d) d p c.gtk c.igtk keys.igtk m h r are.gtk_id are.igtk)

-- ---- what is remembered

-- an act that gives no group key
quiet_took : (p q : Node) (octets : List ℕ) (s : Option Seal) (m : Memories) (h : List Act) → RemembersAll p m h → RemembersAll p m (Took (Some q) octets kind.ReResp Accepted s ∷ h)
quiet_took p q octets s m h r = all_keep p (Took (Some q) octets kind.ReResp Accepted s) m h r (λ k. refl) (λ k key id heard n. refl)

quiet_closed : (p : Node) (q : Option Node) (m : Memories) (h : List Act) → RemembersAll p m h → RemembersAll p m (add (close_associated q) h)
quiet_closed p None m h r = r
quiet_closed p (Some q) m h r = all_keep p (Closed q Session) m h r (λ k. refl) (λ k key id heard n. refl)

-- what a response tells still stands after the session in use was closed and the pairwise key installed
abbrev pub before_keys : Node → Option Node → List ℕ → Option Seal → Derivation → List Act → List Act
before_keys p q octets s x h = Installed (One p) (Pairwise x.ptk.tk x.inputs) ∷ add (close_associated q) (Took (Some p) octets kind.ReResp Accepted s ∷ h)

told_closed : (p : Node) (q : Option Node) (h : List Act) → told p (add (close_associated q) h) ≡ told p h
told_closed p None h = refl
told_closed p (Some q) h = refl

ipn_closed : (p : Node) (q : Option Node) (n : ℕ) (h : List Act) → IsIpnTold p h n → IsIpnTold p (add (close_associated q) h) n
ipn_closed p None n h told = told
ipn_closed p (Some q) n h told = told_stays p (Closed q Session) h n refl refl refl told

memory_same : (k : GroupKind) (p : Node) (q : Option Node) (octets : List ℕ) (s : Option Seal) (x : Derivation) (h : List Act) → memory k p (before_keys p q octets s x h) ≡ memory k p h
memory_same k p None octets s x h = refl
memory_same k p (Some q) octets s x h = refl

-- nor does a GTK that is given change what is told or remembered of IGTKs
memory_beside : (p : Node) (b : Mac) (g : GroupKey) (o : Option GroupKey) (h : List Act) → memory groups.Igtk p (give_by groups.Gtk p b g o ∷ h) ≡ memory groups.Igtk p h
memory_beside p b g None h = refl
memory_beside p b g (Some k) h = refl

ipn_beside : (p : Node) (b : Mac) (g : GroupKey) (o : Option GroupKey) (n : ℕ) (h : List Act) → IsIpnTold p h n → IsIpnTold p (give_by groups.Gtk p b g o ∷ h) n
ipn_beside p b g None n h told = told_stays p (give_by groups.Gtk p b g None) h n refl refl refl told
ipn_beside p b g (Some k) n h told = told_stays p (give_by groups.Gtk p b g (Some k)) h n refl refl refl told

-- the IPN of the response is that of its IGTK, where there is one
abbrev pub TellsIpn : Option CarriedKey → List ℕ → Type 0
TellsIpn None octets = Unit {0}
TellsIpn (Some c) octets = ipn_in_response octets ≡ c.rsc

abbrev IsTold : Option CarriedKey → Node → List Act → Type 0
IsTold None p h = Unit {0}
IsTold (Some c) p h = IsIpnTold p h c.rsc

gives_igtk : (b : Bool) (p : Node) (ap' : Mac) (o : Option CarriedKey) (key : GroupKey) (m : Memories) (k h : List Act) → RemembersAll p m k → IsKey b key o → IsTold o p k → memory groups.Igtk p k ≡ memory groups.Igtk p h
    → RemembersAll p (given_igtk o m) (add (give_igtk b p ap' key h) k)
gives_igtk false p ap' None key m k h r is told same = r
gives_igtk false p ap' (Some c) key m k h r is told same = absurd (cc is)
gives_igtk true p ap' None key m k h r is told same = absurd is
gives_igtk true p ap' (Some c) key m k h r is told same =
    let after : RemembersAll p (given_to c m) (give groups.Igtk p ap' (group_key c) k ∷ k) = igtk_given p ap' (group_key c) c.rsc m k r told is.1 in
    let act : give groups.Igtk p ap' (group_key c) k ≡ give groups.Igtk p ap' key h =
    ap (λ (l : List GroupKey). give_by groups.Igtk p ap' (group_key c) (find_key c.key l)) same ∙ ap (λ (x : GroupKey). give groups.Igtk p ap' x h) (sym is.0)
    in
    subst (λ (e : Act). RemembersAll p (given_to c m) (e ∷ k)) act after

told_there : (p : Node) (q : Option Node) (octets : List ℕ) (s : Option Seal) (x : Derivation) (ap' : Mac) (g : GroupKey) (o : Option GroupKey) (igtk : Option CarriedKey) (h : List Act) → TellsIpn igtk octets
    → IsTold igtk p (give_by groups.Gtk p ap' g o ∷ before_keys p q octets s x h)
told_there p q octets s x ap' g o None h tells = tt
told_there p q octets s x ap' g o (Some c) h tells =
    let took : List Act = Took (Some p) octets kind.ReResp Accepted s ∷ h in
    let closed : List Act = add (close_associated q) took in
    let first : IsIpnTold p took c.rsc = subst (λ (n : ℕ). IsIpnTold p took n) tells (ipn_told p octets s h) in
    ipn_beside p ap' g o c.rsc (before_keys p q octets s x h) (told_stays p (Installed (One p) (Pairwise x.ptk.tk x.inputs)) closed c.rsc refl refl refl (ipn_closed p q c.rsc took first))

pub remembers_finished : (d : Domain) (p : Node) (q : Option Node) (octets : List ℕ) (s : Option Seal) (x : Derivation) (c : CarriedKeys) (keys : GivenKeys) (m : Memories) (h : List Act) → RemembersAll p m h → AreKeys (protects d) keys c
    → rsc_in_response octets ≡ c.gtk.rsc → TellsIpn c.igtk octets → RemembersAll p (all_given c m) (Finished p x.inputs ∷ add (give_all d p (mac d p) keys h) (before_keys p q octets s x h))
remembers_finished d p q octets s x c keys m h r are numbered tells =
    let took : List Act = Took (Some p) octets kind.ReResp Accepted s ∷ h in
    let there : List Act = before_keys p q octets s x h in
    let one : RemembersAll p m there = all_keep p (Installed (One p) (Pairwise x.ptk.tk x.inputs)) m (add (close_associated q) took) (quiet_closed p q m took (quiet_took p p octets s m h r)) (λ k. refl) (λ k key id heard n. refl) in
    let rsc : c.gtk.rsc ≡ told p there = sym (told_closed p q took ∙ told_by_response p octets s h ∙ numbered) in
    let g : GroupKey = group_key c.gtk in
    let act : Act = give groups.Gtk p (mac d p) g there in
    let two : RemembersAll p (given_to c.gtk m) (act ∷ there) = gtk_given p (mac d p) g c.gtk.rsc m there one rsc are.gtk_id in
    let kept : Option GroupKey = find_key g.key (memory groups.Gtk p there) in
    let three : RemembersAll p (all_given c m) (add (give_igtk (protects d) p (mac d p) keys.igtk h) (act ∷ there)) =
    gives_igtk (protects d) p (mac d p) c.igtk keys.igtk (given_to c.gtk m) (act ∷ there) h two are.igtk (told_there p q octets s x (mac d p) g kept c.igtk h tells)
    (memory_beside p (mac d p) g kept there ∙ memory_same groups.Igtk p q octets s x h)
    in
    let act_is : act ≡ give groups.Gtk p (mac d p) keys.gtk h =
    ap (λ (l : List GroupKey). give_by groups.Gtk p (mac d p) g (find_key g.key l)) (memory_same groups.Gtk p q octets s x h) ∙ ap (λ (k : GroupKey). give groups.Gtk p (mac d p) k h) (sym are.gtk)
    in
    let four : RemembersAll p (all_given c m) (add (give_all d p (mac d p) keys h) there) = subst (λ (e : Act). RemembersAll p (all_given c m) (add (give_igtk (protects d) p (mac d p) keys.igtk h) (e ∷ there))) act_is three in
    all_keep p (Finished p x.inputs) (all_given c m) (add (give_all d p (mac d p) keys h) there) four (λ k. refl) (λ k key id heard n. refl)

-- ---- the GTKs that are kept: an IGTK leaves them as they are

abbrev gtk_given_by : Bool → CarriedKey → Memories → Memories
gtk_given_by b g m =
    let ks : List Kept = given g.key g.id g.rsc (kept_by b m) in
    after_by b ks m

first_given : (g : CarriedKey) (m : Memories) → is_integrity_id g.id ≡ false → (given_to g m).gtks ≡ given g.key g.id g.rsc m.gtks
first_given g m is = ap (λ (b : Bool). (gtk_given_by b g m).gtks) is

second_given : (b : Bool) (key : GroupKey) (o : Option CarriedKey) (m : Memories) → IsKey b key o → (given_igtk o m).gtks ≡ m.gtks
second_given false key None m is = refl
second_given false key (Some c) m is = absurd (cc is)
second_given true key None m is = absurd is
second_given true key (Some c) m is = ap (λ (b : Bool). (gtk_given_by b c m).gtks) is.1

pub gtks_given : (b : Bool) (keys : GivenKeys) (c : CarriedKeys) (m : Memories) → AreKeys b keys c → (all_given c m).gtks ≡ given c.gtk.key c.gtk.id c.gtk.rsc m.gtks
gtks_given b keys c m are = second_given b keys.igtk c.igtk (given_to c.gtk m) are.igtk ∙ first_given c.gtk m are.gtk_id
