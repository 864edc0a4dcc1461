-- What a memory of group keys stands for behind each message.
use Rattle.std.proofs.Common.{◌≡◌, ℕ, Bool, true, false, List, [], ◌∷◌, Option, Some, None, refl, sym, ap, subst, ◌∙◌, inr}
use Rattle.domain_base.specs.declared.names.Mac.{Mac}
use Rattle.domain_base.specs.declared.names.Node.{Node}
use Rattle.domain_base.specs.declared.names.Peer.TheVariants.{One}
use Rattle.eapol_key.specs.declared.messages.Message.TheVariants.{M1, M3, G1}
use Rattle.run_journal.specs.declared.domain.Domain.{Domain}
use Rattle.run_journal.specs.declared.acts.Start.TheVariants.{Renew}
use Rattle.run_journal.specs.declared.acts.Part.TheVariants.{Session as OfSession}
use Rattle.run_journal.specs.declared.acts.Drawn.TheVariants.{Nonce}
use Rattle.run_journal.specs.declared.acts.Kind.{Kind}
use Rattle.run_journal.specs.declared.acts.Kind.TheVariants as kind
use Rattle.run_journal.specs.declared.acts.Key.TheVariants.{Pairwise}
use Rattle.run_journal.specs.declared.acts.Outcome.{Outcome}
use Rattle.run_journal.specs.declared.acts.Outcome.TheVariants.{Accepted, Answered}
use Rattle.run_journal.specs.declared.acts.Seal.{Seal}
use Rattle.run_journal.specs.declared.acts.Act.{Act}
use Rattle.run_journal.specs.declared.acts.Act.TheVariants.{Opened, Closed, Drew, Took, Installed, Derived, Finished}
use Rattle.run_journal.specs.Acts.{GroupKey, Derivation, accepted, given_from}
use Rattle.run_journal.specs.Events.{protects}
use Rattle.run_journal.specs.Questions.{derivation, session, add}
use Rattle.domain_rules.specs.Network.{mac}
use Rattle.domain_rules.specs.Frames.{sent_m2_by, sent_m4, sent_g2}
use Rattle.domain_rules.specs.GroupKeys.{GivenKeys, memory, find_key, give_by, give, give_igtk, give_all, got_by, told, rsc_in}
use Rattle.domain_rules.specs.IntegrityKeys.{IsIpnTold}
use Rattle.domain_rules.specs.StationRows.{replaced}
use Rattle.domain_rules.proofs.Parts.{same-refl}
use Rattle.run_journal.specs.declared.acts.GroupKind.TheVariants as groups
use Rattle.run_journal.specs.declared.acts.GroupKind.{GroupKind}
use Rattle.group_key.specs.Keys.{Memories}
use Rattle.group_key.specs.Holds.{RemembersAll}
use Rattle.group_key.proofs.BothKinds.{all_keep, gtk_given, igtk_given as remembers_igtk}
use Rattle.group_key.proofs.Counting.{told_by_message}
use Rattle.group_key.proofs.IpnTold.{told_stays, told_by_m3, told_by_g1}
use Rattle.supplicant.specs.declared.key_data.CarriedIgtk.{CarriedIgtk}
use Rattle.supplicant.specs.declared.key_data.CarriedKeys.{CarriedKeys}
use Rattle.supplicant.specs.KeyData.{group_key, given_to, igtk_given, all_given}
use Rattle.supplicant.proofs.KeysGiven.{GivesIgtk, AreGiven, TellsOf}
use Rattle.supplicant.proofs.Replying.{replying_acts, opening_acts}
use Rattle.supplicant.proofs.Sessions.{finishing_acts, keyed_there, finished_add, apart_give, answering_acts}
use Rattle.supplicant.proofs.GroupSessions.{renewing_acts, renewed_add}

-- ---- nothing is given

-- an act that gives no group key and changes no counter
quiet : (p : Node) (e : Act) (m : Memories) (h : List Act) → ((group : GroupKind) → given_from group p e ≡ None) → ((group : GroupKind) (key : List ℕ) (id heard n : ℕ) → got_by group p key id e heard n ≡ n) → RemembersAll p m h → RemembersAll p m (e ∷ h)
quiet p e m h none same r = all_keep p e m h r none same

-- a frame came
pub remembers_took : (p q : Node) (octets : List ℕ) (k : Kind) (o : Outcome) (s : Option Seal) (m : Memories) (h : List Act) → RemembersAll p m h → RemembersAll p m (Took (Some q) octets k o s ∷ h)
remembers_took p q octets k o s m h r = quiet p (Took (Some q) octets k o s) m h (λ group. refl) (λ group key id heard n. refl) r

-- M1 was accepted
pub remembers_replied : (secure : Bool) (d : Domain) (n p : Node) (octets : List ℕ) (x : Derivation) (counter : ℕ) (fte : List ℕ) (m : Memories) (h : List Act) → RemembersAll p m h → RemembersAll p m (add (replying_acts secure d n p octets x counter fte) h)
remembers_replied secure d n p octets x counter fte m h r =
    let took : Act = Took (Some p) octets (kind.Key M1) Accepted None in
    let derived : RemembersAll p m (Derived p x.inputs x.ptk ∷ took ∷ h) = quiet p (Derived p x.inputs x.ptk) m (took ∷ h) (λ group. refl) (λ group key id heard n. refl) (remembers_took p p octets (kind.Key M1) Accepted None m h r) in
    quiet p (sent_m2_by secure d n p x counter fte) m (Derived p x.inputs x.ptk ∷ took ∷ h) (λ group. refl) (λ group key id heard n. refl) derived

-- M1 began to renew a key
pub remembers_opened : (d : Domain) (n p q : Node) (octets v : List ℕ) (x : Derivation) (counter : ℕ) (m : Memories) (h : List Act) → RemembersAll q m h → RemembersAll q m (add (opening_acts d n p octets v x counter) h)
remembers_opened d n p q octets v x counter m h r =
    let took : Act = Took (Some p) octets (kind.Key M1) Accepted None in
    let opened : List Act = Opened p Renew ∷ took ∷ h in
    let drew : List Act = Drew (Nonce v) ∷ opened in
    let first : RemembersAll q m opened = quiet q (Opened p Renew) m (took ∷ h) (λ group. refl) (λ group key id heard n. refl) (remembers_took q p octets (kind.Key M1) Accepted None m h r) in
    let second : RemembersAll q m drew = quiet q (Drew (Nonce v)) m opened (λ group. refl) (λ group key id heard n. refl) first in
    let third : RemembersAll q m (Derived p x.inputs x.ptk ∷ drew) = quiet q (Derived p x.inputs x.ptk) m drew (λ group. refl) (λ group key id heard n. refl) second in
    quiet q (sent_m2_by true d n p x counter []) m (Derived p x.inputs x.ptk ∷ drew) (λ group. refl) (λ group key id heard n. refl) third

-- M3 was answered once more
pub remembers_answered : (d : Domain) (n p : Node) (octets : List ℕ) (s : Seal) (x : Derivation) (counter : ℕ) (m : Memories) (h : List Act) → RemembersAll p m h → RemembersAll p m (add (answering_acts d n p octets s x counter) h)
remembers_answered d n p octets s x counter m h r =
    quiet p (sent_m4 d n p x counter) m (Took (Some p) octets (kind.Key M3) Answered (Some s) ∷ h) (λ group. refl) (λ group key id heard n. refl) (remembers_took p p octets (kind.Key M3) Answered (Some s) m h r)

-- ---- the group keys are given

-- this was told of the IPN of an IGTK, where there is one
abbrev pub IsToldOf : Node → List Act → Option CarriedIgtk → Type 0
IsToldOf p h None = Unit {0}
IsToldOf p h (Some z) = IsIpnTold p h z.ipn

told_of_m3 : (p : Node) (octets : List ℕ) (s : Seal) (x : Derivation) (h : List Act) (k : Option CarriedIgtk) → derivation p h ≡ Some x → TellsOf x.ptk.kek octets k → IsToldOf p (Took (Some p) octets (kind.Key M3) Accepted (Some s) ∷ h) k
told_of_m3 p octets s x h None derived tells = tt
told_of_m3 p octets s x h (Some z) derived tells = told_by_m3 p octets (Some s) x h z.ipn derived tells

told_of_g1 : (p : Node) (octets : List ℕ) (s : Seal) (x : Derivation) (h : List Act) (k : Option CarriedIgtk) → session p h ≡ Some x → TellsOf x.ptk.kek octets k → IsToldOf p (Took (Some p) octets (kind.Key G1) Accepted (Some s) ∷ h) k
told_of_g1 p octets s x h None held tells = tt
told_of_g1 p octets s x h (Some z) held tells = told_by_g1 p octets (Some s) x h z.ipn held tells

-- an act by which nothing is accepted
told_of_more : (p : Node) (e : Act) (h : List Act) (k : Option CarriedIgtk) → ((m : Kind) → accepted p m e ≡ None) → IsToldOf p h k → IsToldOf p (e ∷ h) k
told_of_more p e h None none told = tt
told_of_more p e h (Some z) none told = told_stays p e h z.ipn (none (kind.Key M3)) (none (kind.Key G1)) (none kind.ReResp) told

-- a key is given as to a history with the same keys
give_as : (which : GroupKind) (p : Node) (b : Mac) (f g : GroupKey) (h old : List Act) → f ≡ g → memory which p h ≡ memory which p old → give which p b f h ≡ give which p b g old
give_as which p b f g h old is same = ap (λ (gs : List GroupKey). give_by which p b f (find_key f.key gs)) same ∙ ap (λ (x : GroupKey). give which p b x old) is

-- a GTK is none of the IGTKs
beside_gtk : (p : Node) (b : Mac) (g : GroupKey) (o : Option GroupKey) (h : List Act) → memory groups.Igtk p (give_by groups.Gtk p b g o ∷ h) ≡ memory groups.Igtk p h
beside_gtk p b g None h = refl
beside_gtk p b g (Some kept) h = refl

igtk_after : (protected : Bool) (p : Node) (b : Mac) (k : Option CarriedIgtk) (g : GroupKey) (m : Memories) (h old : List Act) → GivesIgtk protected g k → memory groups.Igtk p h ≡ memory groups.Igtk p old → RemembersAll p m h → IsToldOf p h k
    → RemembersAll p (igtk_given k m) (add (give_igtk protected p b g old) h)
igtk_after false p b k g m h old none same r tells = subst (λ (o : Option CarriedIgtk). RemembersAll p (igtk_given o m) h) (sym none) r
igtk_after true p b None g m h old is same r tells = absurd is
igtk_after true p b (Some z) g m h old is same r tells =
    subst (λ (e : Act). RemembersAll p (given_to z.igtk z.ipn m) (e ∷ h)) (give_as groups.Igtk p b (group_key z.igtk) g h old (sym is.0) same) (remembers_igtk p b (group_key z.igtk) z.ipn m h r tells is.1)

-- both kinds, as to an older history with the same keys
both_given : (d : Domain) (p : Node) (c : CarriedKeys) (keys : GivenKeys) (rsc : ℕ) (m : Memories) (h old : List Act) → AreGiven (protects d) c keys → ((which : GroupKind) → memory which p h ≡ memory which p old) → RemembersAll p m h → rsc ≡ told p h → IsToldOf p h c.igtk
    → RemembersAll p (all_given c rsc m) (add (give_all d p (mac d p) keys old) h)
both_given d p c keys rsc m h old w same r numbered tells =
    let b : Mac = mac d p in
    let o : Option GroupKey = find_key keys.gtk.key (memory groups.Gtk p old) in
    let act : Act = give groups.Gtk p b keys.gtk old in
    let first : RemembersAll p (given_to c.gtk rsc m) (act ∷ h) =
    subst (λ (e : Act). RemembersAll p (given_to c.gtk rsc m) (e ∷ h)) (give_as groups.Gtk p b (group_key c.gtk) keys.gtk h old (sym w.gtk_is) (same groups.Gtk)) (gtk_given p b (group_key c.gtk) rsc m h r numbered w.plain) in
    igtk_after (protects d) p b c.igtk keys.igtk (given_to c.gtk rsc m) (act ∷ h) old w.igtk (beside_gtk p b keys.gtk o h ∙ same groups.Igtk) first
    (told_of_more p act h c.igtk (apart_give p groups.Gtk p b keys.gtk o).accepts_none tells)

-- ---- by M3

-- what M3 told is told there
told_there : (p : Node) (octets : List ℕ) (s : Seal) (x : Derivation) (had : Bool) (h : List Act) → told p (keyed_there p octets s x had h) ≡ rsc_in octets
told_there p octets s x true h = rw (same-refl p) refl
told_there p octets s x false h = rw (same-refl p) refl

igtk_told_there : (p : Node) (octets : List ℕ) (s : Seal) (x : Derivation) (had : Bool) (h : List Act) (k : Option CarriedIgtk) → derivation p h ≡ Some x → TellsOf x.ptk.kek octets k → IsToldOf p (keyed_there p octets s x had h) k
igtk_told_there p octets s x true h k derived tells =
    let took : Act = Took (Some p) octets (kind.Key M3) Accepted (Some s) in
    told_of_more p (Installed (One p) (Pairwise x.ptk.tk x.inputs)) (Closed p OfSession ∷ took ∷ h) k (λ m. refl) (told_of_more p (Closed p OfSession) (took ∷ h) k (λ m. refl) (told_of_m3 p octets s x h k derived tells))
igtk_told_there p octets s x false h k derived tells =
    told_of_more p (Installed (One p) (Pairwise x.ptk.tk x.inputs)) (Took (Some p) octets (kind.Key M3) Accepted (Some s) ∷ h) k (λ m. refl) (told_of_m3 p octets s x h k derived tells)

memory_there : (p : Node) (octets : List ℕ) (s : Seal) (x : Derivation) (had : Bool) (h : List Act) (which : GroupKind) → memory which p (keyed_there p octets s x had h) ≡ memory which p h
memory_there p octets s x true h which = refl
memory_there p octets s x false h which = refl

remembers_replaced : (p : Node) (had : Bool) (m : Memories) (h : List Act) → RemembersAll p m h → RemembersAll p m (add (replaced p had) h)
remembers_replaced p true m h r = quiet p (Closed p OfSession) m h (λ group. refl) (λ group key id heard n. refl) r
remembers_replaced p false m h r = r

-- M3 was accepted, and its RSC is that number
pub remembers_finished : (d : Domain) (n p : Node) (octets : List ℕ) (s : Seal) (x : Derivation) (had : Bool) (c : CarriedKeys) (keys : GivenKeys) (counter rsc : ℕ) (m : Memories) (h : List Act) → AreGiven (protects d) c keys → RemembersAll p m h → rsc_in octets ≡ rsc
    → derivation p h ≡ Some x → TellsOf x.ptk.kek octets c.igtk → RemembersAll p (all_given c rsc m) (add (finishing_acts d n p octets s x had (give_all d p (mac d p) keys h) counter) h)
remembers_finished d n p octets s x had c keys counter rsc m h w r numbered derived tells =
    let took : Act = Took (Some p) octets (kind.Key M3) Accepted (Some s) in
    let closed : List Act = add (replaced p had) (took ∷ h) in
    let there : List Act = keyed_there p octets s x had h in
    let gives : List Act = give_all d p (mac d p) keys h in
    let after : Memories = all_given c rsc m in
    let before : RemembersAll p m there = quiet p (Installed (One p) (Pairwise x.ptk.tk x.inputs)) m closed (λ group. refl) (λ group key id heard n. refl) (remembers_replaced p had m (took ∷ h) (remembers_took p p octets (kind.Key M3) Accepted (Some s) m h r)) in
    let has : RemembersAll p after (add gives there) =
    both_given d p c keys rsc m there h w (memory_there p octets s x had h) before (sym (told_there p octets s x had h ∙ numbered)) (igtk_told_there p octets s x had h c.igtk derived tells) in
    let done : RemembersAll p after (Finished p x.inputs ∷ add gives there) = quiet p (Finished p x.inputs) after (add gives there) (λ group. refl) (λ group key id heard n. refl) has in
    subst (λ (l : List Act). RemembersAll p after l) (sym (finished_add d n p octets s x had gives counter h))
    (quiet p (sent_m4 d n p x counter) after (Finished p x.inputs ∷ add gives there) (λ group. refl) (λ group key id heard n. refl) done)

-- ---- by G1

-- G1 was accepted, and its RSC is that number
pub remembers_renewed : (d : Domain) (n p : Node) (octets : List ℕ) (s : Seal) (x : Derivation) (c : CarriedKeys) (keys : GivenKeys) (counter rsc : ℕ) (m : Memories) (h : List Act) → AreGiven (protects d) c keys → RemembersAll p m h → rsc_in octets ≡ rsc
    → session p h ≡ Some x → TellsOf x.ptk.kek octets c.igtk → RemembersAll p (all_given c rsc m) (add (renewing_acts d n p octets s (give_all d p (mac d p) keys h) x counter) h)
remembers_renewed d n p octets s x c keys counter rsc m h w r numbered held tells =
    let took : Act = Took (Some p) octets (kind.Key G1) Accepted (Some s) in
    let gives : List Act = give_all d p (mac d p) keys h in
    let after : Memories = all_given c rsc m in
    let has : RemembersAll p after (add gives (took ∷ h)) =
    both_given d p c keys rsc m (took ∷ h) h w (λ which. refl) (remembers_took p p octets (kind.Key G1) Accepted (Some s) m h r) (sym (told_by_message p G1 octets (Some s) h (inr refl) ∙ numbered)) (told_of_g1 p octets s x h c.igtk held tells) in
    subst (λ (l : List Act). RemembersAll p after l) (sym (renewed_add d n p octets s gives x counter h)) (quiet p (sent_g2 d n p x counter) after (add gives (took ∷ h)) (λ group. refl) (λ group key id heard n. refl) has)
