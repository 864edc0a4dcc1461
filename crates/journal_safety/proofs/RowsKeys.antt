-- The rows that end an attempt, and those of the group key handshake, add chains of legal acts.
use Rattle.std.proofs.Common.{ℕ, ◌≡◌, inl, inr, Bool, true, false, not, List, [], ◌∷◌, ◌++◌, Option, Some, None, refl, sym, ap, ◌∙◌, subst, ◌<◌, arith, cond}
use Rattle.std.specs.List.{AllByRecursion}
use Rattle.domain_base.specs.declared.names.Akm.{Akm}
use Rattle.domain_base.specs.declared.names.Akm.TheVariants.{Psk, PskSha256, FtPsk}
use Rattle.domain_base.specs.declared.names.Mac.{Mac}
use Rattle.domain_base.specs.declared.names.Node.{Node}
use Rattle.domain_base.specs.declared.names.Node.TheVariants.{Ap, Sta}
use Rattle.domain_base.specs.declared.names.Peer.TheVariants.{One}
use Rattle.rsn_elements.specs.declared.framing.Within.TheVariants.{KeyData}
use Rattle.rsn_elements.specs.Elements.{ElementFields, SpellsElements}
use Rattle.mac_prf.specs.Mic.{without_mic}
use Rattle.eapol_key.specs.declared.messages.Message.{Message}
use Rattle.eapol_key.specs.declared.messages.Message.TheVariants.{M3, M4, G1, G2}
use Rattle.key_wrap.specs.KeyWrap.{Wraps}
use Rattle.key_hierarchy.specs.Keys.{ptk}
use Rattle.key_hierarchy.specs.declared.answers.PutAnswer.{PutAnswer}
use Rattle.key_hierarchy.specs.declared.inputs.Inputs.{Inputs}
use Rattle.key_hierarchy.specs.declared.inputs.Ptk.{Ptk}
use Rattle.run_journal.specs.declared.domain.Domain.{Domain}
use Rattle.run_journal.specs.declared.acts.Part.TheVariants.{Session}
use Rattle.run_journal.specs.declared.acts.Kind.{Kind}
use Rattle.run_journal.specs.declared.acts.Kind.TheVariants as kind
use Rattle.run_journal.specs.declared.acts.Outcome.{Outcome}
use Rattle.run_journal.specs.declared.acts.Outcome.TheVariants.{Accepted, Answered}
use Rattle.run_journal.specs.declared.acts.Key.TheVariants.{Pairwise, Group}
use Rattle.run_journal.specs.declared.acts.Act.{Act}
use Rattle.run_journal.specs.declared.acts.Act.TheVariants.{Closed, Derived, Took, Installed, Finished, Put, Resumed}
use Rattle.run_journal.specs.Acts.{Derivation, GroupKey, opens, ends, same, derived, key_drawn, switched}
use Rattle.run_journal.specs.Questions.{attempt, own_nonce, derivation, session, associated, add, chain, since, before_sent, handshake, given, or_else}
use Rattle.run_journal.specs.Premises.{In}
use Rattle.domain_rules.specs.Network.{mac, is_ap}
use Rattle.domain_rules.specs.KeyHolders.{put_acts_by, put_acts}
use Rattle.domain_rules.specs.Reading.{KeyMessage, Reading, Reads}
use Rattle.domain_rules.specs.Frames.{sent_m4, frame_seal, keyed_by, sent_g2}
use Rattle.domain_rules.specs.Facts.{Facts}
use Rattle.domain_rules.specs.Verdict.{Knows, verdict}
use Rattle.domain_rules.specs.Asking.{start_of, is_four_way, is_by_renewal, in_renewal}
use Rattle.domain_rules.specs.Counters.{sent_count}
use Rattle.domain_rules.specs.GroupKeys.{memory, find_key, give_by, give, GivenKeys, give_igtk, give_all}
use Rattle.run_journal.specs.Events.{protects}
use Rattle.run_journal.specs.GroupKinds.{same_group_kind}
use Rattle.domain_rules.specs.Closing.{close_session}
use Rattle.domain_rules.specs.StationRows.{carried_keys, replaced, M3Row, RepeatedM3Row, G1Row}
use Rattle.domain_rules.specs.AccessPointRows.{M4Row, G2Row, m4_acts, newer_acts, carried_older, g1_to, most_sends}
use Rattle.domain_rules.specs.Here.{here}
use Rattle.domain_rules.proofs.Derivations.{derivation_in, m4_derivation}
use Rattle.domain_rules.proofs.GroupKinds.{same_group_kind-refl}
use Rattle.domain_rules.proofs.Parts.{attempt_more, in_part, own_nonce_more, same-refl, since_part}
use Rattle.domain_rules.proofs.Starts.{connects_by_four_way}
use Rattle.run_journal.specs.declared.acts.GroupKind.TheVariants as groups
use Rattle.run_journal.specs.declared.acts.GroupKind.{GroupKind}
use Rattle.journal_safety.proofs.Given.{front_in, kept_by}
use Rattle.journal_safety.proofs.Covers.{covered_message}
use Rattle.journal_safety.proofs.Legal.{covered_kind, ack, Of_key, IsUsed, carried_as, Of_key_data, nonce_of, derives, Alive, LegalDerived, Verified, LegalPairwise, LegalGroup, Legal, LegalHistory, verified_more, Uninstalled, GivesKey, In_m3, In_g1, seal_under, Given, Above, is_other, By_m3, By_g1, By_renewal, is_opened, Chain}
use Rattle.journal_safety.proofs.Histories.{derived_key, keyed_as, own_of_part, Newests, newests_are, legal_in}
use Rattle.journal_safety.proofs.Accepted.{keying_in, unwrapped_m3, awaited_m3, held_m3, m3_above, unwrapped_g1, g1_above}
use Rattle.journal_safety.proofs.Settled.{IsFree, Settled, SettledBut, settled_quiet, but_of, but_more, settled_finished, Fine, fine_none, fine_cons, fine_quiet, fine_append, settled_given}
use Rattle.journal_safety.proofs.SentLegal.{legal_m4, legal_g1, legal_g2}
use Rattle.domain_rules.proofs.SentReads.{reads-counter}
use Rattle.journal_safety.proofs.Sessions.{session_finished, session_key, alone_in, beside, single}
use Rattle.journal_safety.proofs.Rows.{Arrived, arrived, arrived_again, access_peer, station_of, access_of, installs, takes, final_station, final_access, verified_now, alive_took, alive_more, one_more, two_more, not_station}

-- ---- a pairwise key is installed

-- a key that was derived last in an attempt
pub record Ready (d : Domain) (n p : Node) (h part : List Act) (i : Inputs) : Type 0 where
  pub awaited : attempt p h ≡ Some part
  pub there : In (derives p i) h
  pub own : own_nonce part ≡ Some (nonce_of n i)

pub ready_of : (d : Domain) (n p : Node) (h part : List Act) (x : Derivation) → LegalHistory d n h → attempt p h ≡ Some part → derivation p part ≡ Some x → (x.ptk ≡ ptk x.inputs) × Ready d n p h part x.inputs
ready_of d n p h part x legal a e =
    let there : In (Derived p x.inputs x.ptk) h = in_part p h part (Derived p x.inputs x.ptk) a (derivation_in p part x e) in
    let key : x.ptk ≡ ptk x.inputs = derived_key d n p x.inputs x.ptk h legal there in
    (key, record { awaited = a; there = subst (λ (k : Ptk). In (Derived p x.inputs k) h) key there; own = own_of_part d n p x h part legal a e })

pub pairwise_now : (d : Domain) (n p : Node) (h : List Act) (i : Inputs) → Settled d n h → Verified n h p i → Alive n h p i → session p h ≡ None → LegalPairwise n h p (ptk i).tk i
pairwise_now d n p h i s v a none = record { verified = v; alive = a; renewal = is_by_renewal a.part; first = s.bare p a.part a.awaited; is = refl; none = none }

-- in it no pairwise key was installed yet
pub no_pairwise : (p : Node) (renewal : Bool) (part : List Act) (key : List ℕ) (j : Inputs) → Uninstalled p renewal part → In (Installed (One p) (Pairwise key j)) part → ⊥
no_pairwise p renewal part key j free there = let none : same p p ≡ false = free (Installed (One p) (Pairwise key j)) there in let self : same p p ≡ true = same-refl p in cc (none, self)

-- a message that ends an attempt, of the kind that it has to be
pub record Final (d : Domain) (n : Node) (h : List Act) (p : Node) (i : Inputs) : Type 0 where
  pub verified : Verified n h p i
  pub is : (d.akm ≡ FtPsk → ⊥) → covered_kind verified.covered ≡ cond (is_ap n) (kind.Key M4) (kind.Key M3)

pub final_more : (d : Domain) (n p : Node) (h : List Act) (e : Act) (i : Inputs) → Final d n h p i → Final d n (e ∷ h) p i
unfolding verified_more
final_more d n p h e i f = record { verified = verified_more n p h e i f.verified; is = f.is }

kind_final : (n : Node) (m : Message) → m ≡ cond (is_ap n) M4 M3 → kind.Key m ≡ cond (is_ap n) (kind.Key M4) (kind.Key M3)
kind_final (Ap k) m is = ap (λ (x : Message). kind.Key x) is
kind_final (Sta k) m is = ap (λ (x : Message). kind.Key x) is

final_now : (d : Domain) (n p : Node) (h : List Act) (octets : List ℕ) (kd : Kind) (o : Outcome) (i : Inputs) (k : KeyMessage) → In (derives p i) h → Arrived d n p h octets k o → k.message ≡ cond (is_ap n) M4 M3 → Final d n (Took (Some p) octets kd o (Some (frame_seal (ptk i).kck k.octets)) ∷ h) p i
unfolding verified_now
final_now d n p h octets kd o i k there a is = record { verified = verified_now d n p h octets kd o i k there a; is = λ other. kind_final n (covered_message (1 ∷ without_mic k.octets)) (a.covers.message ∙ is) }

-- a station has no session with whom it has an attempt that does not renew the key of one
pub no_session : (d : Domain) (n p : Node) (h part : List Act) → is_ap n ≡ false → LegalHistory d n h → attempt p h ≡ Some part → is_by_renewal part ≡ false → session p h ≡ None
no_session d n p h part station legal a begun = go (session p h) refl
  where
    go : (o : Option Derivation) → session p h ≡ o → session p h ≡ None
    go None is = is
    go (Some x) is = let renews_ : is_by_renewal part ≡ true = single d n p h part x station legal is a in absurd (cc (begun, renews_))

-- a message of this kind, with the group key in the key data of this plain text
pub record Gift (n : Node) (k : KeyMessage) (m : Message) (i : Inputs) (plain : List ℕ) (e : ElementFields) : Type 0 where
  pub role : is_ap n ≡ false
  pub message : k.message ≡ m
  pub wraps : Wraps (ptk i).kek plain k.fields.key_data
  pub spelled : SpellsElements KeyData plain e

-- what a station is given by a message that it has just accepted
gift_given : (which : GroupKind) (d : Domain) (n p : Node) (h more : List Act) (octets : List ℕ) (k : KeyMessage) (m : Message) (i : Inputs) (plain : List ℕ) (e : ElementFields) → IsUsed d which → Gift n k m i plain e → GivesKey (kind.Key m) → ack m ≡ true → Arrived d n p h octets k Accepted → In (derives p i) more
    → In (takes p octets m Accepted i k) (since p more) → Given d which n more p i (carried_as which (Some e)).key
gift_given which d n p h more octets k m i plain e used w gives_key down a there took = record {
  used = used;
  frame = kind.Key m;
  octets = octets;
  covered = 1 ∷ without_mic k.octets;
  took = took;
  gives_key = gives_key;
  form = Of_key refl;
  down = ap ack (a.covers.message ∙ w.message) ∙ down;
  frame_is = ap (λ (x : Message). kind.Key x) (a.covers.message ∙ w.message);
  counter = λ is. reads-counter d.akm octets k a.has ∙ sym a.covers.counter;
  derived = there;
  opens = Of_key_data refl plain (subst (λ (x : List ℕ). Wraps (ptk i).kek plain x) (sym a.covers.key_data) w.wraps) e w.spelled refl;
}

-- what is given is installed, or resumed; it is about p alone
pub record IsGift (p : Node) (gift : Act) : Type 0 where
  pub apart : (q : Node) → same q p ≡ false → IsFree q gift
  pub begins_none : is_opened gift ≡ false
  pub opens_none : (q : Node) → opens q gift ≡ false
  pub ends_none : (q : Node) → ends q gift ≡ false
  pub keys : (which : GroupKind) → (key_drawn which gift ≡ None) × (switched which gift ≡ None)
  pub derives_none : derived p gift ≡ None
  pub leaves : (h : List Act) → associated (gift ∷ h) ≡ associated h
  pub no_key : (key : List ℕ) (j : Inputs) → Installed (One p) (Pairwise key j) ≡ gift → ⊥

given_free : (renewal c : Bool) → c ≡ false → cond renewal false c ≡ false
given_free true c none = refl
given_free false c none = none

pub is_gift : (which : GroupKind) (p : Node) (b : Mac) (g : GroupKey) (o : Option GroupKey) → IsGift p (give_by which p b g o)
is_gift which p b g None = record {
  apart = λ q other renewal. given_free renewal (same q p) other;
  begins_none = refl;
  opens_none = λ q. refl;
  ends_none = λ q. refl;
  keys = λ other. (refl, refl);
  derives_none = refl;
  leaves = λ h. refl;
  no_key = λ key j is. cc is;
}
is_gift which p b g (Some kept) = record {
  apart = λ q other renewal. refl;
  begins_none = refl;
  opens_none = λ q. refl;
  ends_none = λ q. refl;
  keys = λ other. (refl, refl);
  derives_none = refl;
  leaves = λ h. refl;
  no_key = λ key j is. cc is;
}

-- in an attempt in which nothing was installed yet no group key was
pub no_group : (which : GroupKind) (p : Node) (part : List Act) (key : List ℕ) (id : ℕ) (b : Mac) → Uninstalled p false part → In (Installed (One p) (Group which key id b)) part → ⊥
no_group which p part key id b free there = let none : same p p ≡ false = free (Installed (One p) (Group which key id b)) there in let self : same p p ≡ true = same-refl p in cc (none, self)

no_group_later : (which : GroupKind) (p : Node) (part : List Act) (x y : Act) (key : List ℕ) (id : ℕ) (b : Mac) → Uninstalled p false part → (Installed (One p) (Group which key id b) ≡ x → ⊥) → (Installed (One p) (Group which key id b) ≡ y → ⊥) → In (Installed (One p) (Group which key id b)) (x ∷ y ∷ part) → ⊥
no_group_later which p part x y key id b free one two (inl here) = one here
no_group_later which p part x y key id b free one two (inr (inl here)) = two here
no_group_later which p part x y key id b free one two (inr (inr later)) = no_group which p part key id b free later

-- the key of an attempt is the last that was derived with p
derivation_by : (p : Node) (x : Derivation) (e : Act) (h : List Act) → (derivation p (since p h) ≡ Some x → derivation p h ≡ Some x) → (b : Bool) → opens p e ≡ b → (o : Option Derivation) → derived p e ≡ o → derivation p (cond b (e ∷ []) (e ∷ since p h)) ≡ Some x → or_else o (derivation p h) ≡ Some x
derivation_by p x e h more true is None s w = let none : None ≡ Some x = subst (λ (y : Option Derivation). or_else y None ≡ Some x) s w in cc none
derivation_by p x e h more true is (Some y) s w = subst (λ (z : Option Derivation). or_else z None ≡ Some x) s w
derivation_by p x e h more false is None s w = more (subst (λ (z : Option Derivation). or_else z (derivation p (since p h)) ≡ Some x) s w)
derivation_by p x e h more false is (Some y) s w = subst (λ (z : Option Derivation). or_else z (derivation p (since p h)) ≡ Some x) s w

derivation_since : (p : Node) (h : List Act) (x : Derivation) → derivation p (since p h) ≡ Some x → derivation p h ≡ Some x
derivation_since p [] x s = s
derivation_since p (e ∷ h) x s = derivation_by p x e h (derivation_since p h x) (opens p e) refl (derived p e) refl s

pub derivation_of : (p : Node) (h part : List Act) (x : Derivation) → attempt p h ≡ Some part → derivation p part ≡ Some x → derivation p h ≡ Some x
derivation_of p h part x a s = derivation_since p h x (subst (λ (y : List Act). derivation p y ≡ Some x) (sym (since_part p h part a)) s)

-- a group key that came in M3 is installed for the first time in an attempt that begins a session
m3_gift : (which : GroupKind) (d : Domain) (n p : Node) (h part : List Act) (octets : List ℕ) (k : KeyMessage) (i : Inputs) (plain : List ℕ) (e : ElementFields) → IsUsed d which → Gift n k M3 i plain e → Arrived d n p h octets k Accepted → Ready d n p h part i → is_by_renewal part ≡ false → Settled d n h
    → LegalGroup d which n (installs p i ∷ takes p octets M3 Accepted i k ∷ h) p (carried_as which (Some e)).key
unfolding gift_given
m3_gift which d n p h part octets k i plain e used w a r begun s =
    let took : Act = takes p octets M3 Accepted i k in
    let free : Uninstalled p false part = subst (λ (b : Bool). Uninstalled p b part) begun (s.bare p part r.awaited) in
    By_m3 (record {
      station = w.role;
      i = i;
      given = gift_given which d n p h (installs p i ∷ took ∷ h) octets k M3 i plain e used w (In_m3 refl) refl a (inr (inr r.there)) (inr (inl refl));
      no_g1 = λ is. cc is;
      alive = record {
        part = installs p i ∷ took ∷ part;
        awaited = attempt_more p (installs p i) (took ∷ h) (took ∷ part) refl refl (attempt_more p took h part refl refl r.awaited);
        own = own_nonce_more (installs p i) (took ∷ part) (nonce_of n i) (own_nonce_more took part (nonce_of n i) r.own);
      };
      begins = two_more p took (installs p i) h part r.awaited refl refl refl refl ∙ begun;
      pairwise = inl refl;
      first = λ key id b there. no_group_later which p part (installs p i) took key id b free (λ is. cc is) (λ is. cc is) there;
    })

-- in one that renews a key it comes in place of the session, with a counter above all before it
renewal_gift : (which : GroupKind) (d : Domain) (n p : Node) (h part : List Act) (octets : List ℕ) (k : KeyMessage) (i : Inputs) (plain : List ℕ) (e : ElementFields) → IsUsed d which → Gift n k M3 i plain e → Arrived d n p h octets k Accepted → Ready d n p h part i → is_by_renewal part ≡ true → Settled d n h → Above p k.fields.counter (chain p h)
    → LegalGroup d which n (installs p i ∷ Closed p Session ∷ takes p octets M3 Accepted i k ∷ h) p (carried_as which (Some e)).key
unfolding gift_given
renewal_gift which d n p h part octets k i plain e used w a r begun s above =
    let took : Act = takes p octets M3 Accepted i k in
    let given : Given d which n (installs p i ∷ Closed p Session ∷ took ∷ h) p i (carried_as which (Some e)).key =
    gift_given which d n p h (installs p i ∷ Closed p Session ∷ took ∷ h) octets k M3 i plain e used w (In_m3 refl) refl a (inr (inr (inr r.there))) (inr (inr (inl refl))) in
    By_renewal (record {
      station = w.role;
      i = i;
      given = given;
      kind_is = refl;
      before = h;
      from = Some p;
      octets = octets;
      kind = kind.Key M3;
      outcome = Accepted;
      seal = Some (frame_seal (ptk i).kck k.octets);
      between = [];
      others = tt;
      is = refl;
      awaited = record { part = part; awaited = r.awaited; own = r.own };
      renewal = ap in_renewal r.awaited ∙ begun;
      clean = λ key j there. no_pairwise p (is_by_renewal part) part key j (s.bare p part r.awaited) (subst (λ (x : List Act). In (Installed (One p) (Pairwise key j)) x) (since_part p h part r.awaited) there);
      above = subst (λ (c : ℕ). Above p c (chain p h)) (sym a.covers.counter) above;
    })

-- ---- after a group key another one is given that came with it

-- it is none of that kind
other_gift : (which : GroupKind) (p : Node) (key : List ℕ) (id : ℕ) (b : Mac) (e : Act) → is_other which e ≡ true → Installed (One p) (Group which key id b) ≡ e → ⊥
other_gift which p key id b e other is =
    let one : not (same_group_kind which which) ≡ true = subst (λ (x : Act). is_other which x ≡ true) (sym is) other in
    let itself : same_group_kind which which ≡ true = same_group_kind-refl which in
    let none : not true ≡ true = subst (λ (c : Bool). not c ≡ true) itself one in absurd (cc none)

in_since : (p : Node) (x e : Act) (h : List Act) → opens p e ≡ false → In x (since p h) → In x (since p (e ∷ h))
in_since p x e h none there = rw none (inr there)

given_more : (d : Domain) (which : GroupKind) (n p : Node) (m : List Act) (i : Inputs) (g : List ℕ) (e : Act) → opens p e ≡ false → Given d which n m p i g → Given d which n (e ∷ m) p i g
given_more d which n p m i g e none v = record {
  used = v.used;
  frame = v.frame;
  octets = v.octets;
  covered = v.covered;
  took = in_since p (Took (Some p) v.octets v.frame Accepted (Some (seal_under i v.covered))) e m none v.took;
  gives_key = v.gives_key;
  form = v.form;
  down = v.down;
  frame_is = v.frame_is;
  counter = v.counter;
  derived = inr v.derived;
  opens = v.opens;
}

first_more : (which : GroupKind) (p : Node) (part : List Act) (e : Act) (key : List ℕ) (id : ℕ) (b : Mac) → is_other which e ≡ true → (In (Installed (One p) (Group which key id b)) part → ⊥) → In (Installed (One p) (Group which key id b)) (e ∷ part) → ⊥
first_more which p part e key id b other first (inl here) = other_gift which p key id b e other here
first_more which p part e key id b other first (inr later) = first later

group_more : (d : Domain) (which : GroupKind) (n p : Node) (m : List Act) (g : List ℕ) (e : Act) → IsGift p e → is_other which e ≡ true → LegalGroup d which n m p g → LegalGroup d which n (e ∷ m) p g
unfolding given_more
group_more d which n p m g e it other (By_m3 v) = By_m3 (record {
  station = v.station;
  i = v.i;
  given = given_more d which n p m v.i g e (it.opens_none p) v.given;
  no_g1 = v.no_g1;
  alive = record {
    part = e ∷ v.alive.part;
    awaited = attempt_more p e m v.alive.part (it.opens_none p) (it.ends_none p) v.alive.awaited;
    own = own_nonce_more e v.alive.part (nonce_of n v.i) v.alive.own;
  };
  begins = one_more p e m v.alive.part v.alive.awaited (it.opens_none p) (it.ends_none p) ∙ sym (ap in_renewal v.alive.awaited) ∙ v.begins;
  pairwise = in_since p (installs p v.i) e m (it.opens_none p) v.pairwise;
  first = λ key id b there. first_more which p v.alive.part e key id b other (v.first key id b) there;
})
group_more d which n p m g e it other (By_g1 v) = By_g1 (record {
  station = v.station;
  i = v.i;
  given = given_more d which n p m v.i g e (it.opens_none p) v.given;
  kind_is = v.kind_is;
  before = v.before;
  from = v.from;
  octets = v.octets;
  kind = v.kind;
  outcome = v.outcome;
  seal = v.seal;
  between = e ∷ v.between;
  others = (other, v.others);
  is = ap (λ (x : List Act). e ∷ x) v.is;
  awaited = v.awaited;
  above = v.above;
})
group_more d which n p m g e it other (By_renewal v) = By_renewal (record {
  station = v.station;
  i = v.i;
  given = given_more d which n p m v.i g e (it.opens_none p) v.given;
  kind_is = v.kind_is;
  before = v.before;
  from = v.from;
  octets = v.octets;
  kind = v.kind;
  outcome = v.outcome;
  seal = v.seal;
  between = e ∷ v.between;
  others = (other, v.others);
  is = ap (λ (x : List Act). e ∷ x) v.is;
  awaited = v.awaited;
  renewal = v.renewal;
  clean = v.clean;
  above = v.above;
})

-- ---- each group key is given

-- it is installed where it is not remembered, else resumed
legal_gift : (which : GroupKind) (d : Domain) (n p : Node) (h m : List Act) (b : Mac) (key : GroupKey) → LegalGroup d which n m p key.key → memory which p m ≡ memory which p h → (o : Option GroupKey) → find_key key.key (memory which p h) ≡ o → Legal d n m (give_by which p b key o)
legal_gift which d n p h m b key group kept_is None is = record { group = group; new = ap (find_key key.key) kept_is ∙ is }
legal_gift which d n p h m b key group kept_is (Some kept) is =
    let w = kept_by key.key (memory which p h) kept is in
    record {
      group = subst (λ (x : List ℕ). LegalGroup d which n m p x) w.1 group;
      had = front_in 2 (given which p m) kept (subst (λ (x : List GroupKey). In kept x) (sym kept_is) w.0);
    }

-- a GTK that was given is no IGTK
gtk_other : (p : Node) (b : Mac) (g : GroupKey) (o : Option GroupKey) → is_other groups.Igtk (give_by groups.Gtk p b g o) ≡ true
gtk_other p b g None = refl
gtk_other p b g (Some kept) = refl

gtk_kept : (p : Node) (b : Mac) (g : GroupKey) (o : Option GroupKey) (m : List Act) → memory groups.Igtk p (give_by groups.Gtk p b g o ∷ m) ≡ memory groups.Igtk p m
gtk_kept p b g None m = refl
gtk_kept p b g (Some kept) m = refl

-- what came of p may be given: a GTK, and after it an IGTK
pub give_chain : (d : Domain) (n p : Node) (h m : List Act) (b : Mac) (keys : GivenKeys) → LegalGroup d groups.Gtk n m p keys.gtk.key → (protects d ≡ true → LegalGroup d groups.Igtk n m p keys.igtk.key) → ((which : GroupKind) → memory which p m ≡ memory which p h) → Chain d n m (give_all d p b keys h)
give_chain d n p h m b keys gtk_ igtk_ kept = (legal_gift groups.Gtk d n p h m b keys.gtk gtk_ (kept groups.Gtk) (find_key keys.gtk.key (memory groups.Gtk p h)) refl, by (protects d) refl)
  where
    gift : Act
    gift = give groups.Gtk p b keys.gtk h

    by : (on : Bool) → protects d ≡ on → Chain d n (gift ∷ m) (give_igtk on p b keys.igtk h)
    by false off = tt
    by true on = (
      legal_gift groups.Igtk d n p h (gift ∷ m) b keys.igtk
          (group_more d groups.Igtk n p m keys.igtk.key gift (is_gift groups.Gtk p b keys.gtk (find_key keys.gtk.key (memory groups.Gtk p h))) (gtk_other p b keys.gtk (find_key keys.gtk.key (memory groups.Gtk p h))) (igtk_ on))
          (gtk_kept p b keys.gtk (find_key keys.gtk.key (memory groups.Gtk p h)) m ∙ kept groups.Igtk) (find_key keys.igtk.key (memory groups.Igtk p h)) refl,
      tt,
    )

abbrev AreGifts : Node → List Act → Type 0
AreGifts p gifts = AllByRecursion (λ e. IsGift p e) gifts

are_gifts : (d : Domain) (p : Node) (h : List Act) (b : Mac) (keys : GivenKeys) → AreGifts p (give_all d p b keys h)
are_gifts d p h b keys = (is_gift groups.Gtk p b keys.gtk (find_key keys.gtk.key (memory groups.Gtk p h)), by (protects d))
  where
    by : (on : Bool) → AreGifts p (give_igtk on p b keys.igtk h)
    by false = tt
    by true = (is_gift groups.Igtk p b keys.igtk (find_key keys.igtk.key (memory groups.Igtk p h)), tt)

-- ---- the end of an attempt at a station

-- from the pairwise key on
pub record Ending (d : Domain) (n p : Node) (m part : List Act) (i : Inputs) : Type 0 where
  pub awaited : attempt p m ≡ Some part
  pub own : own_nonce part ≡ Some (nonce_of n i)
  pub but : SettledBut d n p m
  pub final : Final d n m p i
  pub there : In (derives p i) m
  pub current : derivation p part ≡ Some (keyed_by i)
  pub last : derivation p m ≡ Some (keyed_by i)
  pub installed : In (installs p i) m
  pub only : (key : List ℕ) (j : Inputs) → In (Installed (One p) (Pairwise key j)) part → j ≡ i
  pub alone : associated m ≡ None

only_more : (p : Node) (i : Inputs) (gift : Act) (part : List Act) (key : List ℕ) (j : Inputs) → IsGift p gift → (In (Installed (One p) (Pairwise key j)) part → j ≡ i) → In (Installed (One p) (Pairwise key j)) (gift ∷ part) → j ≡ i
only_more p i gift part key j it only (inl here) = absurd (it.no_key key j here)
only_more p i gift part key j it only (inr later) = only later

ending_more : (d : Domain) (n p : Node) (m part : List Act) (i : Inputs) (gift : Act) → IsGift p gift → Ending d n p m part i → Ending d n p (gift ∷ m) (gift ∷ part) i
ending_more d n p m part i gift it w = record {
  awaited = attempt_more p gift m part (it.opens_none p) (it.ends_none p) w.awaited;
  own = own_nonce_more gift part (nonce_of n i) w.own;
  but = but_more d n p gift m it.apart it.opens_none it.begins_none it.keys w.but;
  final = final_more d n p m gift i w.final;
  there = inr w.there;
  current = rw it.derives_none w.current;
  last = rw it.derives_none w.last;
  installed = inr w.installed;
  only = λ key j there. only_more p i gift part key j it (w.only key j) there;
  alone = it.leaves m ∙ w.alone;
}

ending_finished : (d : Domain) (n p : Node) (m part : List Act) (i : Inputs) → Ending d n p m part i → Legal d n m (Finished p i)
ending_finished d n p m part i w = record {
  verified = w.final.verified;
  final = w.final.is;
  alive = record { part = part; awaited = w.awaited; own = w.own };
  current = subst (λ (l : List Act). derivation p l ≡ Some (keyed_by i)) (sym (since_part p m part w.awaited)) w.current;
  last = w.last;
  installed = w.installed;
  only = λ key j there. w.only key j (subst (λ (l : List Act). In (Installed (One p) (Pairwise key j)) l) (since_part p m part w.awaited) there);
  alone = λ role. w.alone;
}

-- group keys are given, and it is finished
pub ending_fine : (d : Domain) (n p : Node) (m part : List Act) (i : Inputs) (gifts rest : List Act) → AreGifts p gifts → Chain d n m gifts → Ending d n p m part i → ((x : List Act) → In (derives p i) x → Settled d n (Finished p i ∷ x) → Fine d n (Finished p i ∷ x) rest) → Fine d n m (gifts ++ Finished p i ∷ rest)
ending_fine d n p m part i [] rest its chain w more = fine_cons d n m (Finished p i) rest (ending_finished d n p m part i w) (more m w.there (settled_finished d n p i m w.but))
ending_fine d n p m part i (gift ∷ gifts) rest its chain w more =
    fine_cons d n m gift (gifts ++ Finished p i ∷ rest) chain.0 (ending_fine d n p (gift ∷ m) (gift ∷ part) i gifts rest its.1 chain.1 (ending_more d n p m part i gift its.0 w) more)

-- the moment before has the part of the attempt, no key installed in it, and no session
pub record Ended (d : Domain) (n p : Node) (m part : List Act) (i : Inputs) : Type 0 where
  pub awaited : attempt p m ≡ Some part
  pub own : own_nonce part ≡ Some (nonce_of n i)
  pub settled : Settled d n m
  pub final : Final d n m p i
  pub there : In (derives p i) m
  pub current : derivation p part ≡ Some (keyed_by i)
  pub last : derivation p m ≡ Some (keyed_by i)
  pub none : session p m ≡ None
  pub alone : associated m ≡ None

-- what is installed in it is this key alone
only_by : (p : Node) (i : Inputs) (part : List Act) (renewal : Bool) (key : List ℕ) (j : Inputs) → Uninstalled p renewal part → In (Installed (One p) (Pairwise key j)) (installs p i ∷ part) → j ≡ i
only_by p i part renewal key j free (inl here) = cc here
only_by p i part renewal key j free (inr later) = absurd (no_pairwise p renewal part key j free later)

ended_installs : (d : Domain) (n p : Node) (m part : List Act) (i : Inputs) → Ended d n p m part i → Ending d n p (installs p i ∷ m) (installs p i ∷ part) i
ended_installs d n p m part i w = record {
  awaited = attempt_more p (installs p i) m part refl refl w.awaited;
  own = own_nonce_more (installs p i) part (nonce_of n i) w.own;
  but = but_more d n p (installs p i) m (λ q apart renewal. apart) (λ q. refl) refl (λ which. (refl, refl)) (but_of d n p m w.settled);
  final = final_more d n p m (installs p i) i w.final;
  there = inr w.there;
  current = w.current;
  last = w.last;
  installed = inl refl;
  only = λ key j there. only_by p i part (is_by_renewal part) key j (w.settled.bare p part w.awaited) there;
  alone = w.alone;
}

pub station_end : (d : Domain) (n p : Node) (h m part : List Act) (i : Inputs) (b : Mac) (keys : GivenKeys) (rest : List Act) → Ended d n p m part i → Chain d n (installs p i ∷ m) (give_all d p b keys h) → ((x : List Act) → In (derives p i) x → Settled d n (Finished p i ∷ x) → Fine d n (Finished p i ∷ x) rest)
    → Fine d n m (installs p i ∷ (give_all d p b keys h ++ Finished p i ∷ rest))
station_end d n p h m part i b keys rest w chain more =
    fine_cons d n m (installs p i) _ (pairwise_now d n p m i w.settled w.final.verified (record { part = part; awaited = w.awaited; own = w.own }) w.none)
    (ending_fine d n p (installs p i ∷ m) (installs p i ∷ part) i (give_all d p b keys h) rest (are_gifts d p h b keys) chain (ended_installs d n p m part i w) more)

-- M4 is sent after it
m4_last : (d : Domain) (n p : Node) (i : Inputs) (counter : ℕ) → is_ap n ≡ false → (x : List Act) → In (derives p i) x → Settled d n (Finished p i ∷ x) → Fine d n (Finished p i ∷ x) (sent_m4 d n p (keyed_by i) counter ∷ [])
m4_last d n p i counter station x there s = fine_quiet d n (Finished p i ∷ x) (sent_m4 d n p (keyed_by i) counter) [] (legal_m4 d n p (Finished p i ∷ x) i counter station (inr there) (inl refl)) refl s (fine_none d n _)

-- after M3 that begins a session
m3_core : (d : Domain) (n p : Node) (h part : List Act) (octets : List ℕ) (k : KeyMessage) (i : Inputs) (plain : List ℕ) (e : ElementFields) → Gift n k M3 i plain e → Arrived d n p h octets k Accepted → LegalHistory d n h → Settled d n h → Ready d n p h part i → is_four_way part ≡ true → is_by_renewal part ≡ false → derivation p part ≡ Some (keyed_by i)
    → Fine d n h (takes p octets M3 Accepted i k ∷ installs p i ∷ (give_all d p (mac d p) (carried_keys (Some e)) h ++ Finished p i ∷ sent_m4 d n p (keyed_by i) k.fields.counter ∷ []))
m3_core d n p h part octets k i plain e w a legal settled r begun begins last =
    let took : Act = takes p octets M3 Accepted i k in
    let role_p : is_ap p ≡ true = access_peer (is_ap p) (is_ap n) a.taken.roles w.role in
    fine_cons d n h took _ tt
    (station_end d n p h (took ∷ h) (took ∷ part) i (mac d p) (carried_keys (Some e)) (sent_m4 d n p (keyed_by i) k.fields.counter ∷ []) (record {
      awaited = attempt_more p took h part refl refl r.awaited;
      own = own_nonce_more took part (nonce_of n i) r.own;
      settled = settled_quiet d n took h refl settled;
      final = final_now d n p h octets (kind.Key M3) Accepted i k r.there a (w.message ∙ final_station n w.role);
      there = inr r.there;
      current = last;
      last = derivation_of p h part (keyed_by i) r.awaited last;
      none = no_session d n p h part w.role legal r.awaited begins;
      alone = alone_in d n p h part w.role role_p legal r.awaited (connects_by_four_way (start_of part) begun begins);
    })
    (give_chain d n p h (installs p i ∷ took ∷ h) (mac d p) (carried_keys (Some e)) (m3_gift groups.Gtk d n p h part octets k i plain e tt w a r begins settled) (λ on. m3_gift groups.Igtk d n p h part octets k i plain e on w a r begins settled) (λ which. refl))
    (m4_last d n p i k.fields.counter w.role))

-- after M3 that renews the key of a session
renewal_core : (d : Domain) (n p : Node) (h part : List Act) (octets : List ℕ) (k : KeyMessage) (i : Inputs) (plain : List ℕ) (e : ElementFields) → Gift n k M3 i plain e → Arrived d n p h octets k Accepted → LegalHistory d n h → Settled d n h → Ready d n p h part i → is_by_renewal part ≡ true → derivation p part ≡ Some (keyed_by i) → Above p k.fields.counter (chain p h)
    → Fine d n h (takes p octets M3 Accepted i k ∷ Closed p Session ∷ installs p i ∷ (give_all d p (mac d p) (carried_keys (Some e)) h ++ Finished p i ∷ sent_m4 d n p (keyed_by i) k.fields.counter ∷ []))
renewal_core d n p h part octets k i plain e w a legal settled r begun last above =
    let took : Act = takes p octets M3 Accepted i k in
    let role_p : is_ap p ≡ true = access_peer (is_ap p) (is_ap n) a.taken.roles w.role in
    fine_cons d n h took _ tt (
    fine_cons d n (took ∷ h) (Closed p Session) _ (λ station. beside d n p h part station role_p legal r.awaited begun)
    (station_end d n p h (Closed p Session ∷ took ∷ h) (Closed p Session ∷ took ∷ part) i (mac d p) (carried_keys (Some e)) (sent_m4 d n p (keyed_by i) k.fields.counter ∷ []) (record {
      awaited = attempt_more p (Closed p Session) (took ∷ h) (took ∷ part) refl refl (attempt_more p took h part refl refl r.awaited);
      own = own_nonce_more (Closed p Session) (took ∷ part) (nonce_of n i) (own_nonce_more took part (nonce_of n i) r.own);
      settled = settled_quiet d n (Closed p Session) (took ∷ h) refl (settled_quiet d n took h refl settled);
      final = final_more d n p (took ∷ h) (Closed p Session) i (final_now d n p h octets (kind.Key M3) Accepted i k r.there a (w.message ∙ final_station n w.role));
      there = inr (inr r.there);
      current = last;
      last = derivation_of p h part (keyed_by i) r.awaited last;
      none = rw (same-refl p) refl;
      alone = refl;
    })
    (give_chain d n p h (installs p i ∷ Closed p Session ∷ took ∷ h) (mac d p) (carried_keys (Some e)) (renewal_gift groups.Gtk d n p h part octets k i plain e tt w a r begun settled above) (λ on. renewal_gift groups.Igtk d n p h part octets k i plain e on w a r begun settled above) (λ which. refl))
    (m4_last d n p i k.fields.counter w.role)))

abbrev m3_acts : Bool → Domain → Node → Node → List Act → List ℕ → KeyMessage → Inputs → Ptk → Option ElementFields → List Act
m3_acts renewal d n p h octets k i x c =
    Took (Some p) octets (kind.Key M3) Accepted (Some (frame_seal x.kck k.octets)) ∷ (replaced p renewal ++ Installed (One p) (Pairwise x.tk i)
    ∷ (give_all d p (mac d p) (carried_keys c) h ++ Finished p i ∷ sent_m4 d n p (record { inputs = i; ptk = x }) k.fields.counter ∷ []))

m3_either : (d : Domain) (n p : Node) (h part : List Act) (octets : List ℕ) (k : KeyMessage) (i : Inputs) (plain : List ℕ) (e : ElementFields) → Gift n k M3 i plain e → Arrived d n p h octets k Accepted → LegalHistory d n h → Settled d n h → Ready d n p h part i → is_four_way part ≡ true → derivation p part ≡ Some (keyed_by i) → Above p k.fields.counter (chain p h)
    → (renewal : Bool) → is_by_renewal part ≡ renewal → Fine d n h (m3_acts renewal d n p h octets k i (ptk i) (Some e))
m3_either d n p h part octets k i plain e w a legal s r begun last above true is = renewal_core d n p h part octets k i plain e w a legal s r is last above
m3_either d n p h part octets k i plain e w a legal s r begun last above false is = m3_core d n p h part octets k i plain e w a legal s r begun is last

pub m3_fine : (d : Domain) (first : ℕ) (n : Node) (h : List Act) (octets : List ℕ) (r : Reading) (facts : Facts) (g : List Act) → Reads d.akm octets r → Knows d first n h r facts → LegalHistory d n h → Settled d n h → M3Row (here d first n) h octets r facts g → Fine d n h g
m3_fine d first n h octets r facts g reads knows legal s row =
    let a = arrived d first n row.p h octets r row.k facts row.is reads row.from row.accepted in
    let i : Inputs = row.y.key.inputs in
    let w = (keying_in row.p h row.k row.y row.awaited).awaited (awaited_m3 d n row.p h row.k row.y row.message_is a.taken row.awaited) in
    let ready = ready_of d n row.p h w.0 row.y.key legal w.1.0 w.1.1.0 in
    let u = unwrapped_m3 d first n row.p h row.k facts row.y row.message_is a.from (subst (λ (x : Reading). verdict d first n h x facts ≡ Accepted) row.is row.accepted) (subst (λ (x : Reading). Knows d first n h x facts) row.is knows) row.awaited in
    let gift : Gift n row.k M3 i u.plain u.e = record {
      role = station_of d n row.p h row.k Accepted a.taken (ap ack row.message_is);
      message = row.message_is;
      wraps = subst (λ (x : Ptk). Wraps x.kek u.plain row.k.fields.key_data) ready.0 u.wraps;
      spelled = u.spelled;
    } in
    let core = m3_either d n row.p h w.0 octets row.k i u.plain u.e gift a legal s ready.1 w.1.1.1 (w.1.1.0 ∙ ap Some (keyed_as row.y.key ready.0)) (m3_above d n row.p h row.k row.y row.message_is a.taken row.awaited) (is_by_renewal w.0) refl in
    subst (λ (x : List Act). Fine d n h x) (sym row.says)
    (subst (λ (x : Ptk). Fine d n h (m3_acts (in_renewal (attempt row.p h)) d n row.p h octets row.k i x facts.data_)) (sym ready.0)
    (subst (λ (c : Option ElementFields). Fine d n h (m3_acts (in_renewal (attempt row.p h)) d n row.p h octets row.k i (ptk i) c)) (sym u.is)
    (subst (λ (b : Bool). Fine d n h (m3_acts b d n row.p h octets row.k i (ptk i) (Some u.e))) (sym (ap in_renewal w.1.0)) core)))

abbrev again_acts : Domain → Node → Node → List ℕ → KeyMessage → Inputs → Ptk → List Act
again_acts d n p octets k i x = Took (Some p) octets (kind.Key M3) Answered (Some (frame_seal x.kck k.octets)) ∷ sent_m4 d n p (record { inputs = i; ptk = x }) k.fields.counter ∷ []

pub repeated_m3_fine : (d : Domain) (first : ℕ) (n : Node) (h : List Act) (octets : List ℕ) (r : Reading) (facts : Facts) (g : List Act) → Reads d.akm octets r → LegalHistory d n h → Settled d n h → RepeatedM3Row (here d first n) h octets r facts g → Fine d n h g
repeated_m3_fine d first n h octets r facts g reads legal s row =
    let a = arrived_again d first n row.p h octets r row.k facts row.is reads row.from row.answered in
    let role : is_ap n ≡ false = station_of d n row.p h row.k Answered a.taken (ap ack row.message_is) in
    let keying = keying_in row.p h row.k row.y row.awaited in
    let there = keying.there in
    let key : row.y.key.ptk ≡ ptk row.y.key.inputs = derived_key d n row.p row.y.key.inputs row.y.key.ptk h legal there in
    let derived : In (derives row.p row.y.key.inputs) h = subst (λ (k : Ptk). In (Derived row.p row.y.key.inputs k) h) key there in
    let over : In (Finished row.p row.y.key.inputs) h = session_finished d n row.p h row.y.key legal (keying.held (held_m3 d n row.p h row.k row.y row.message_is a.taken row.awaited)) in
    subst (λ (x : List Act). Fine d n h x) (sym row.says)
    (subst (λ (x : Ptk). Fine d n h (again_acts d n row.p octets row.k row.y.key.inputs x)) (sym key)
    (fine_quiet d n h (takes row.p octets M3 Answered row.y.key.inputs row.k) _ tt refl s (λ t.
    fine_quiet d n _ (sent_m4 d n row.p (keyed_by row.y.key.inputs) row.k.fields.counter) [] (legal_m4 d n row.p _ row.y.key.inputs row.k.fields.counter role (inr derived) (inr over)) refl t (fine_none d n _))))

-- from the Installed on, at an access point
pub install_end : (d : Domain) (n p : Node) (h : List Act) (i : Inputs) → is_ap n ≡ true → Settled d n h → Final d n h p i → Alive n h p i → session p h ≡ None → derivation p (since p h) ≡ Some (keyed_by i) → derivation p h ≡ Some (keyed_by i) → Fine d n h (installs p i ∷ Finished p i ∷ [])
install_end d n p h i role s v a none current last =
    let f = final_more d n p h (installs p i) i v in
    fine_cons d n h (installs p i) (Finished p i ∷ []) (pairwise_now d n p h i s v.verified a none)
    (fine_cons d n (installs p i ∷ h) (Finished p i) []
    (record {
      verified = f.verified;
      final = f.is;
      alive = alive_more n p h i (installs p i) refl refl a;
      current = current;
      last = last;
      installed = inl refl;
      only = λ key j there. only_key key j there;
      alone = not_station n role;
    })
    (fine_none d n (Finished p i ∷ installs p i ∷ h) (settled_finished d n p i (installs p i ∷ h) (but_more d n p (installs p i) h (λ q apart renewal. apart) (λ q. refl) refl (λ which. (refl, refl)) (but_of d n p h s)))))
  where
    only_key : (key : List ℕ) (j : Inputs) → In (Installed (One p) (Pairwise key j)) (installs p i ∷ since p h) → j ≡ i
    only_key key j (inl here) = cc here
    only_key key j (inr later) = absurd (no_pairwise p (is_by_renewal a.part) a.part key j (s.bare p a.part a.awaited) (subst (λ (x : List Act). In (Installed (One p) (Pairwise key j)) x) (since_part p h a.part a.awaited) later))

pub m4_core : (d : Domain) (n p : Node) (h : List Act) (i : Inputs) → is_ap n ≡ true → Settled d n h → Final d n h p i → Alive n h p i → derivation p (since p h) ≡ Some (keyed_by i) → derivation p h ≡ Some (keyed_by i) → (o : Option Derivation) → session p h ≡ o → Fine d n h (close_session p o ++ installs p i ∷ Finished p i ∷ [])
m4_core d n p h i role s v a current last None is = install_end d n p h i role s v a is current last
m4_core d n p h i role s v a current last (Some x) is =
    fine_quiet d n h (Closed p Session) (installs p i ∷ Finished p i ∷ []) (not_station n role) refl s (λ t.
    install_end d n p (Closed p Session ∷ h) i role t (final_more d n p h (Closed p Session) i v) (alive_more n p h i (Closed p Session) refl refl a) (rw (same-refl p) refl) current last)

-- a chain of legal acts leads to a history of such
pub legal_add : (d : Domain) (n : Node) (h g : List Act) → LegalHistory d n h → Chain d n h g → LegalHistory d n (add g h)
legal_add d n h [] legal chain = legal
legal_add d n h (e ∷ g) legal chain = legal_add d n (e ∷ h) g (chain.0, legal) chain.1

-- G1 in a session
pub g1_legal : (d : Domain) (n p : Node) (h : List Act) (x : Derivation) → is_ap n ≡ true → LegalHistory d n h → Settled d n h → session p h ≡ Some x → sent_count p G1 (handshake groups.Gtk p h) < most_sends → Legal d n h (g1_to d n p h x)
g1_legal d n p h x role legal s awaited few =
    let key = session_key d n p h x legal awaited in
    let at = legal_in d n (derives p x.inputs) h legal key.1 in
    let l : LegalDerived d n at.before p x.inputs (ptk x.inputs) = at.legal in
    let new : Newests d h = newests_are d n h legal (s.started role l.listed) in
    let same : x ≡ keyed_by x.inputs = keyed_as x key.0 in
    subst (λ (y : Derivation). Legal d n h (g1_to d n p h y)) (sym same)
    (legal_g1 d n p h x.inputs role legal (awaited ∙ ap Some same) new few)

newer_fine : (d : Domain) (n p : Node) (h : List Act) (x : Derivation) (b : Bool) → is_ap n ≡ true → LegalHistory d n h → Settled d n h → session p h ≡ Some x → sent_count p G1 (handshake groups.Gtk p h) < most_sends → Fine d n h (newer_acts d n p h x b)
newer_fine d n p h x false role legal s awaited few = fine_none d n h s
newer_fine d n p h x true role legal s awaited few = fine_quiet d n h (g1_to d n p h x) [] (g1_legal d n p h x role legal s awaited few) refl s (fine_none d n _)

-- with suite 4 a row is put with the key holder
data IsPut (put : List Act) : Type 0 where
  No_put : put ≡ [] → IsPut put
  One_put : (id name : List ℕ) (q : Node) (answer : PutAnswer) → put ≡ Put id name q answer ∷ [] → IsPut put

put_is : (akm : Akm) (d : Domain) (n : Node) (h : List Act) (p : Node) (x : Derivation) → IsPut (put_acts_by akm d n h p x)
put_is Psk d n h p x = No_put refl
put_is PskSha256 d n h p x = No_put refl
put_is FtPsk d n h p x = One_put _ _ _ _ refl

put_fine : (d : Domain) (n : Node) (h put : List Act) → IsPut put → Settled d n h → Fine d n h put
put_fine d n h put (No_put is) s = subst (λ (x : List Act). Fine d n h x) (sym is) (fine_none d n h s)
put_fine d n h put (One_put id name q answer is) s = subst (λ (x : List Act). Fine d n h x) (sym is) (fine_quiet d n h (Put id name q answer) [] tt refl s (fine_none d n _))

m4_append : (octets : List ℕ) (k : KeyMessage) (p : Node) (x : Derivation) (o : Option Derivation) (put : List Act) → m4_acts octets k p x o put ≡ m4_acts octets k p x o [] ++ put
m4_append octets k p x None put = refl
m4_append octets k p x (Some y) put = refl

-- the session that M4 begins, in which no G1 was sent yet
abbrev IsBegun : Node → List Act → Derivation → Type 0
IsBegun p h x = (session p h ≡ Some x) × (sent_count p G1 (handshake groups.Gtk p h) ≡ 0)

begun_none : (p : Node) (h : List Act) (octets : List ℕ) (k : KeyMessage) (x : Derivation) (o : Option Derivation) → derivation p h ≡ Some x → IsBegun p (add (m4_acts octets k p x o []) h) x
begun_none p h octets k x None last = (rw (same-refl p) last, rw (same-refl p) refl)
begun_none p h octets k x (Some y) last = (rw (same-refl p) last, rw (same-refl p) refl)

begun_put : (p : Node) (h : List Act) (octets : List ℕ) (k : KeyMessage) (x : Derivation) (o : Option Derivation) (id name : List ℕ) (q : Node) (answer : PutAnswer) → derivation p h ≡ Some x → IsBegun p (add (m4_acts octets k p x o (Put id name q answer ∷ [])) h) x
begun_put p h octets k x None id name q answer last = (rw (same-refl p) last, rw (same-refl p) refl)
begun_put p h octets k x (Some y) id name q answer last = (rw (same-refl p) last, rw (same-refl p) refl)

begun_session : (p : Node) (h : List Act) (octets : List ℕ) (k : KeyMessage) (x : Derivation) (o : Option Derivation) (put : List Act) → IsPut put → derivation p h ≡ Some x → IsBegun p (add (m4_acts octets k p x o put) h) x
begun_session p h octets k x o put (No_put is) last = subst (λ (y : List Act). IsBegun p (add (m4_acts octets k p x o y) h) x) (sym is) (begun_none p h octets k x o last)
begun_session p h octets k x o put (One_put id name q answer is) last = subst (λ (y : List Act). IsBegun p (add (m4_acts octets k p x o y) h) x) (sym is) (begun_put p h octets k x o id name q answer last)

pub m4_fine : (d : Domain) (first : ℕ) (n : Node) (h : List Act) (octets : List ℕ) (r : Reading) (facts : Facts) (g : List Act) → Reads d.akm octets r → LegalHistory d n h → Settled d n h → M4Row (here d first n) h octets r facts g → Fine d n h g
m4_fine d first n h octets r facts g reads legal s row =
    let a = arrived d first n row.p h octets r row.k facts row.is reads row.from row.accepted in
    let role : is_ap n ≡ true = access_of d n row.p h row.k Accepted a.taken (ap ack row.message_is) in
    let i : Inputs = row.x.inputs in
    let keyed = m4_derivation row.p row.part row.x row.keyed in
    let ready = ready_of d n row.p h row.part row.x legal row.awaited keyed in
    let same : row.x ≡ keyed_by i = keyed_as row.x ready.0 in
    let last : derivation row.p h ≡ Some row.x = derivation_of row.p h row.part row.x row.awaited keyed in
    let took : Act = takes row.p octets M4 Accepted i row.k in
    let v = final_now d n row.p h octets (kind.Key M4) Accepted i row.k ready.1.there a (row.message_is ∙ final_access n role) in
    let current : derivation row.p (since row.p h) ≡ Some (keyed_by i) = subst (λ (l : List Act). derivation row.p l ≡ Some (keyed_by i)) (sym (since_part row.p h row.part row.awaited)) (keyed ∙ ap Some same) in
    let alive = alive_took n row.p h row.part i (Some row.p) octets (kind.Key M4) Accepted (Some (frame_seal (ptk i).kck row.k.octets)) row.awaited ready.1.own in
    let core : Fine d n h (m4_acts octets row.k row.p (keyed_by i) (session row.p h) []) = fine_quiet d n h took _ tt refl s (λ t. m4_core d n row.p (took ∷ h) i role t v alive current (last ∙ ap Some same) (session row.p h) refl) in
    let bare : Fine d n h (m4_acts octets row.k row.p row.x (session row.p h) []) = subst (λ (x : Derivation). Fine d n h (m4_acts octets row.k row.p x (session row.p h) [])) (sym same) core in
    let put : List Act = put_acts d n h row.p row.x in
    let is_put : IsPut put = put_is d.akm d n h row.p row.x in
    let mine : Fine d n h (m4_acts octets row.k row.p row.x (session row.p h) put) = subst (λ (x : List Act). Fine d n h x) (sym (m4_append octets row.k row.p row.x (session row.p h) put))
    (fine_append d n h (m4_acts octets row.k row.p row.x (session row.p h) []) put bare (put_fine d n (add (m4_acts octets row.k row.p row.x (session row.p h) []) h) put is_put bare.settled)) in
    let begun = begun_session row.p h octets row.k row.x (session row.p h) put is_put last in
    let few : sent_count row.p G1 (handshake groups.Gtk row.p (add (m4_acts octets row.k row.p row.x (session row.p h) put) h)) < most_sends = (let none = begun.1 in omega (arith, none)) in
    subst (λ (x : List Act). Fine d n h x) (sym row.says)
    (fine_append d n h (m4_acts octets row.k row.p row.x (session row.p h) put) _ mine
    (newer_fine d n row.p (add (m4_acts octets row.k row.p row.x (session row.p h) put) h) row.x (carried_older row.p h (before_sent row.p (kind.Key M3) h)) role (legal_add d n h (m4_acts octets row.k row.p row.x (session row.p h) put) legal mine.chain) mine.settled begun.0 few))

-- ---- G1 and G2

g1_gift : (which : GroupKind) (d : Domain) (n p : Node) (h : List Act) (octets : List ℕ) (k : KeyMessage) (i : Inputs) (plain : List ℕ) (e : ElementFields) → IsUsed d which → Gift n k G1 i plain e → Arrived d n p h octets k Accepted → In (derives p i) h → session p h ≡ Some (keyed_by i) → Above p k.fields.counter (chain p h)
    → LegalGroup d which n (takes p octets G1 Accepted i k ∷ h) p (carried_as which (Some e)).key
unfolding gift_given
g1_gift which d n p h octets k i plain e used w a there awaited above =
    let took : Act = takes p octets G1 Accepted i k in
    let given : Given d which n (took ∷ h) p i (carried_as which (Some e)).key = gift_given which d n p h (took ∷ h) octets k G1 i plain e used w (In_g1 refl) refl a (inr there) (inl refl) in
    By_g1 (record {
      station = w.role;
      i = i;
      given = given;
      kind_is = refl;
      before = h;
      from = Some p;
      octets = octets;
      kind = kind.Key G1;
      outcome = Accepted;
      seal = Some (frame_seal (ptk i).kck k.octets);
      between = [];
      others = tt;
      is = refl;
      awaited = awaited;
      above = subst (λ (c : ℕ). Above p c (chain p h)) (sym a.covers.counter) above;
    })

-- in a session a group key is given, and the session goes on
give_settled : (which : GroupKind) (d : Domain) (n p : Node) (m : List Act) (i : Inputs) (b : Mac) (g : GroupKey) (o : Option GroupKey) → is_ap n ≡ false → LegalHistory d n m → session p m ≡ Some (keyed_by i) → Settled d n m → Settled d n (give_by which p b g o ∷ m)
give_settled which d n p m i b g None station legal awaited s = settled_given which d n p g.key g.id b m (λ old was. single d n p m old (keyed_by i) station legal awaited was) s
give_settled which d n p m i b g (Some kept) station legal awaited s = settled_quiet d n (Resumed p (Group which kept.key kept.id b)) m refl s

give_session : (which : GroupKind) (p : Node) (m : List Act) (b : Mac) (g : GroupKey) (o : Option GroupKey) → session p (give_by which p b g o ∷ m) ≡ session p m
give_session which p m b g None = refl
give_session which p m b g (Some kept) = refl

-- after what is given G2 is sent
give_fine : (d : Domain) (n p : Node) (h m : List Act) (i : Inputs) (counter : ℕ) (b : Mac) (keys : GivenKeys) → is_ap n ≡ false → LegalHistory d n m → session p m ≡ Some (keyed_by i) → In (derives p i) m → Settled d n m → Chain d n m (give_all d p b keys h)
    → Fine d n m (give_all d p b keys h ++ sent_g2 d n p (keyed_by i) counter ∷ [])
give_fine d n p h m i counter b keys station legal awaited there s chain =
    let o : Option GroupKey = find_key keys.gtk.key (memory groups.Gtk p h) in
    let gift : Act = give groups.Gtk p b keys.gtk h in
    fine_cons d n m gift _ chain.0
    (by (protects d) chain.1 (chain.0, legal) (give_session groups.Gtk p m b keys.gtk o ∙ awaited) (give_settled groups.Gtk d n p m i b keys.gtk o station legal awaited s))
  where
    by : (on : Bool) → Chain d n (give groups.Gtk p b keys.gtk h ∷ m) (give_igtk on p b keys.igtk h) → LegalHistory d n (give groups.Gtk p b keys.gtk h ∷ m) → session p (give groups.Gtk p b keys.gtk h ∷ m) ≡ Some (keyed_by i) → Settled d n (give groups.Gtk p b keys.gtk h ∷ m)
        → Fine d n (give groups.Gtk p b keys.gtk h ∷ m) (give_igtk on p b keys.igtk h ++ sent_g2 d n p (keyed_by i) counter ∷ [])
    by false more after_legal held after =
        fine_quiet d n (give groups.Gtk p b keys.gtk h ∷ m) (sent_g2 d n p (keyed_by i) counter) [] (legal_g2 d n p (give groups.Gtk p b keys.gtk h ∷ m) i counter station (inr there)) refl after (fine_none d n _)
    by true more after_legal held after =
        fine_cons d n (give groups.Gtk p b keys.gtk h ∷ m) (give groups.Igtk p b keys.igtk h) _ more.0
        (fine_quiet d n (give groups.Igtk p b keys.igtk h ∷ give groups.Gtk p b keys.gtk h ∷ m) (sent_g2 d n p (keyed_by i) counter) []
        (legal_g2 d n p (give groups.Igtk p b keys.igtk h ∷ give groups.Gtk p b keys.gtk h ∷ m) i counter station (inr (inr there))) refl
        (give_settled groups.Igtk d n p (give groups.Gtk p b keys.gtk h ∷ m) i b keys.igtk (find_key keys.igtk.key (memory groups.Igtk p h)) station after_legal held after) (fine_none d n _))

-- each group key is installed or resumed, and G2 is sent
g1_core : (d : Domain) (n p : Node) (h : List Act) (octets : List ℕ) (k : KeyMessage) (i : Inputs) (plain : List ℕ) (e : ElementFields) → Gift n k G1 i plain e → Arrived d n p h octets k Accepted → LegalHistory d n h → Settled d n h → session p h ≡ Some (keyed_by i) → In (derives p i) h → Above p k.fields.counter (chain p h)
    → Fine d n h (takes p octets G1 Accepted i k ∷ (give_all d p (mac d p) (carried_keys (Some e)) h ++ sent_g2 d n p (keyed_by i) k.fields.counter ∷ []))
g1_core d n p h octets k i plain e w a legal s awaited there above =
    let took : Act = takes p octets G1 Accepted i k in
    fine_quiet d n h took _ tt refl s (λ t.
    give_fine d n p h (took ∷ h) i k.fields.counter (mac d p) (carried_keys (Some e)) w.role (tt, legal) awaited (inr there) t
    (give_chain d n p h (took ∷ h) (mac d p) (carried_keys (Some e)) (g1_gift groups.Gtk d n p h octets k i plain e tt w a there awaited above) (λ on. g1_gift groups.Igtk d n p h octets k i plain e on w a there awaited above) (λ which. refl)))

abbrev g1_acts : Domain → Node → Node → List Act → List ℕ → KeyMessage → Derivation → Option ElementFields → List Act
g1_acts d n p h octets k x c = Took (Some p) octets (kind.Key G1) Accepted (Some (frame_seal x.ptk.kck k.octets)) ∷ (give_all d p (mac d p) (carried_keys c) h ++ sent_g2 d n p x k.fields.counter ∷ [])

pub g1_fine : (d : Domain) (first : ℕ) (n : Node) (h : List Act) (octets : List ℕ) (r : Reading) (facts : Facts) (g : List Act) → Reads d.akm octets r → Knows d first n h r facts → LegalHistory d n h → Settled d n h → G1Row (here d first n) h octets r facts g → Fine d n h g
g1_fine d first n h octets r facts g reads knows legal s row =
    let a = arrived d first n row.p h octets r row.k facts row.is reads row.from row.accepted in
    let i : Inputs = row.x.inputs in
    let key = session_key d n row.p h row.x legal row.awaited in
    let same : row.x ≡ keyed_by i = keyed_as row.x key.0 in
    let u = unwrapped_g1 d first n row.p h row.k facts row.x row.message_is a.from (subst (λ (x : Reading). verdict d first n h x facts ≡ Accepted) row.is row.accepted) (subst (λ (x : Reading). Knows d first n h x facts) row.is knows) row.awaited in
    let gift : Gift n row.k G1 i u.plain u.e = record {
      role = station_of d n row.p h row.k Accepted a.taken (ap ack row.message_is);
      message = row.message_is;
      wraps = subst (λ (x : Ptk). Wraps x.kek u.plain row.k.fields.key_data) key.0 u.wraps;
      spelled = u.spelled;
    } in
    let core = g1_core d n row.p h octets row.k i u.plain u.e gift a legal s (row.awaited ∙ ap Some same) key.1 (g1_above d n row.p h row.k row.x row.message_is a.taken row.awaited) in
    subst (λ (x : List Act). Fine d n h x) (sym row.says)
    (subst (λ (x : Derivation). Fine d n h (g1_acts d n row.p h octets row.k x facts.data_)) (sym same)
    (subst (λ (c : Option ElementFields). Fine d n h (g1_acts d n row.p h octets row.k (keyed_by i) c)) (sym u.is) core))

pub g2_fine : (d : Domain) (first : ℕ) (n : Node) (h : List Act) (octets : List ℕ) (r : Reading) (facts : Facts) (g : List Act) → Settled d n h → G2Row (here d first n) h octets r facts g → Fine d n h g
g2_fine d first n h octets r facts g s row =
    subst (λ (x : List Act). Fine d n h x) (sym row.says)
    (fine_quiet d n h (Took (Some row.p) octets (kind.Key G2) Accepted (Some (frame_seal row.x.ptk.kck row.k.octets))) [] tt refl s (fine_none d n _))
