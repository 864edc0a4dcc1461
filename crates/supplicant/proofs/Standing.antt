-- What acts that change nothing do to the histories that a supplicant stands for; and the parts of a history.
use Rattle.std.proofs.Common.{◌≡◌, ℕ, ◌<◌, Bool, true, false, List, [], ◌∷◌, Option, Some, None, refl, sym, ap, subst, ◌∙◌, arith}
use Rattle.std.specs.Prelude.{is_some, ◌&&◌}
use Rattle.std.specs.List.{AllByRecursion}
use Rattle.domain_base.specs.declared.names.Akm.{Akm}
use Rattle.domain_base.specs.declared.names.Akm.TheVariants.{Psk, PskSha256, FtPsk}
use Rattle.domain_base.specs.declared.names.Node.{Node}
use Rattle.eapol_key.specs.declared.messages.Message.TheVariants.{M1, M3, G1}
use Rattle.run_journal.specs.declared.domain.Domain.{Domain}
use Rattle.run_journal.specs.declared.acts.Kind.{Kind}
use Rattle.run_journal.specs.declared.acts.Kind.TheVariants as kind
use Rattle.run_journal.specs.declared.acts.Reason.{Reason}
use Rattle.run_journal.specs.declared.acts.Outcome.TheVariants.{Refused}
use Rattle.run_journal.specs.declared.acts.Seal.{Seal}
use Rattle.run_journal.specs.declared.acts.Act.{Act}
use Rattle.run_journal.specs.declared.acts.Act.TheVariants.{Took}
use Rattle.run_journal.specs.declared.reply.Keyed.{Keyed}
use Rattle.rsn_elements.specs.Elements.{ElementFields}
use Rattle.run_journal.specs.Acts.{Derivation, opens, ends, derived, accepted, replied}
use Rattle.run_journal.specs.Events.{can_renew}
use Rattle.run_journal.specs.Questions.{attempt, since, chain, heard, derivation, or_else, add}
use Rattle.domain_rules.specs.Network.{has_renewals, renews}
use Rattle.domain_rules.specs.Frames.{sent_m2_key_data}
use Rattle.frame_making.specs.Second.{carried_fte}
use Rattle.supplicant.specs.Bases.{RenewsWhere}
use Rattle.domain_rules.specs.Asking.{is_connect, has_four_way, is_roam, is_renewal, is_by_roam, kept_counter, at_least}
use Rattle.domain_rules.proofs.Parts.{Grows, Begins, Goes_on, grows, begins_none, chain_more, IsApart, apart-refused, IsCarried, GoesOn, goes_on, start_more, attempt_more, attempt_some, own_nonce_more, heard_more, derivation_more}
use Rattle.supplicant.specs.declared.attempt.Attempt.{Attempt}
use Rattle.supplicant.specs.declared.session.Session.{Session}
use Rattle.supplicant.specs.State.{State}
use Rattle.supplicant.specs.declared.session.Session.TheVariants.{Connect, Ft}
use Rattle.supplicant.specs.declared.base.Base.{Base}
use Rattle.supplicant.specs.Stands.{SupplicantStands, IsTrying, HasAttempt, HasSession, Holds, IsUnderWay, IsRenewing, IsHeld, IsTransferred, IsBased, Responds}
use Rattle.key_hierarchy.specs.declared.inputs.Ptk.{Ptk}

-- ---- what attempts go back to

-- the base stands where the same association response was accepted
pub based_on : (d : Domain) (n p : Node) (b : Base) (part more : List Act) → heard p kind.AssocResp more ≡ heard p kind.AssocResp part → IsBased d n p b part → IsBased d n p b more
based_on d n p b part more same s = record { of = s.of; says = s.says; responds = subst (λ (o : Option (List ℕ)). Responds d.akm o s.says b) (sym same) s.responds }

-- and anyway where keys are renewed: with suites 2 and 6 the response says nothing of keys
and_right : (a b : Bool) → (a && b) ≡ true → b ≡ true
and_right true b is = is
and_right false b is = absurd (cc is)

pub can_renew_in : (d : Domain) → renews d ≡ true → can_renew d.akm ≡ true
can_renew_in d is = and_right (has_renewals d) (can_renew d.akm) is

responds_plain : (akm : Akm) (octets more : Option (List ℕ)) (says : Option ElementFields) (b : Base) → can_renew akm ≡ true → Responds akm octets says b → Responds akm more says b
responds_plain Psk octets more says b can responds = responds
responds_plain PskSha256 octets more says b can responds = responds
responds_plain FtPsk octets more says b can responds = absurd (cc can)

pub based_anyway : (d : Domain) (n p : Node) (b : Base) (part more : List Act) → renews d ≡ true → IsBased d n p b part → IsBased d n p b more
based_anyway d n p b part more plain s = record {
  of = s.of;
  says = s.says;
  responds = responds_plain d.akm (heard p kind.AssocResp part) (heard p kind.AssocResp more) s.says b (can_renew_in d plain) s.responds;
}

-- nor has the key data of M2 anything of it
data_plain : (akm : Akm) (d : Domain) (x : Derivation) (fte other : List ℕ) → can_renew akm ≡ true → sent_m2_key_data akm d x fte ≡ sent_m2_key_data akm d x other
data_plain Psk d x fte other can = refl
data_plain PskSha256 d x fte other can = refl
data_plain FtPsk d x fte other can = absurd (cc can)

pub carried_data : (secure : Bool) (d : Domain) (x : Derivation) (fte : List ℕ) → RenewsWhere secure d → sent_m2_key_data d.akm d x fte ≡ sent_m2_key_data d.akm d x (carried_fte secure fte)
carried_data false d x fte renewed = refl
carried_data true d x fte renewed = data_plain d.akm d x fte [] (can_renew_in d renewed)

-- ---- the counter that is kept, and an attempt that renews the key of a session

-- an act that begins nothing and replies to neither M3 nor G1 leaves the counter
pub kept_more : (p : Node) (e : Act) (h : List Act) → opens p e ≡ false → replied p (kind.Key M3) e ≡ None → replied p (kind.Key G1) e ≡ None → kept_counter p (chain p (e ∷ h)) ≡ kept_counter p (chain p h)
kept_more p e h begins third group = ap (kept_counter p) (chain_more p e h (begins_none p e begins)) ∙ rw (third, group) refl

-- nor do acts that are not about the peer change it
pub kept_on : (p : Node) (g h : List Act) → AllByRecursion (IsApart p) g → kept_counter p (chain p (add g h)) ≡ kept_counter p (chain p h)
kept_on p [] h all = refl
kept_on p (e ∷ g) h all = kept_on p g (e ∷ h) all.1 ∙ kept_more p e h all.0.opens_none (all.0.replies_none (kind.Key M3)) (all.0.replies_none (kind.Key G1))

-- an act that neither begins nor ends an attempt with p, and derives no key with it
pub record LeavesAttempt (p : Node) (e : Act) : Type 0 where
  pub opens_none : opens p e ≡ false
  pub ends_none : ends p e ≡ false
  pub derives_none : derived p e ≡ None

pub renewing_more : (d : Domain) (n p : Node) (b : Base) (v : List ℕ) (key : Option Keyed) (h : List Act) (e : Act) → LeavesAttempt p e → IsRenewing d n p b v key h → IsRenewing d n p b v key (e ∷ h)
renewing_more d n p b v key h e leaves u = record {
  part = e ∷ u.part;
  is = attempt_more p e h u.part leaves.opens_none leaves.ends_none u.is;
  begun = ap is_renewal (start_more e u.part (attempt_some p h u.part u.is)) ∙ u.begun;
  nonce = own_nonce_more e u.part v u.nonce;
  has = u.has;
  keyed = derivation_more p e u.part leaves.derives_none ∙ u.keyed;
  renewed = u.renewed;
}

pub renewing_on : (d : Domain) (n p : Node) (b : Base) (v : List ℕ) (key : Option Keyed) (g h : List Act) → AllByRecursion (LeavesAttempt p) g → IsRenewing d n p b v key h → IsRenewing d n p b v key (add g h)
renewing_on d n p b v key [] h all u = u
renewing_on d n p b v key (e ∷ g) h all u = renewing_on d n p b v key g (e ∷ h) all.1 (renewing_more d n p b v key h e all.0 u)

-- acts that are not about the peer are such
pub leaves_all : (p : Node) (g : List Act) → AllByRecursion (IsApart p) g → AllByRecursion (LeavesAttempt p) g
leaves_all p [] all = tt
leaves_all p (e ∷ g) all = (record { opens_none = all.0.opens_none; ends_none = all.0.ends_none; derives_none = all.0.derives_none }, leaves_all p g all.1)

-- ---- what was heard since an attempt with the peer was opened last, and how that began

since_more : (p : Node) (e : Act) (h : List Act) → opens p e ≡ false → since p (e ∷ h) ≡ e ∷ since p h
since_more p e h begins = rw begins refl

pub heard_since : (p : Node) (k : Kind) (e : Act) (h : List Act) → opens p e ≡ false → accepted p k e ≡ None → heard p k (since p (e ∷ h)) ≡ heard p k (since p h)
heard_since p k e h begins none = ap (heard p k) (since_more p e h begins) ∙ heard_more p k e (since p h) none

pub heard_on : (p : Node) (k : Kind) (g h : List Act) → AllByRecursion (IsApart p) g → heard p k (since p (add g h)) ≡ heard p k (since p h)
heard_on p k [] h all = refl
heard_on p k (e ∷ g) h all = heard_on p k g (e ∷ h) all.1 ∙ heard_since p k e h all.0.opens_none (all.0.accepts_none k)

-- a history that began by fast transition is not empty
pub some_part : (part : List Act) → is_by_roam part ≡ true → part ≡ [] → ⊥
some_part part begun none = cc (begun, ap is_by_roam none)

pub roams_more : (p : Node) (e : Act) (h : List Act) → opens p e ≡ false → is_by_roam (since p h) ≡ true → is_by_roam (since p (e ∷ h)) ≡ true
roams_more p e h begins last = ap is_by_roam (since_more p e h begins) ∙ ap is_roam (start_more e (since p h) (some_part (since p h) last)) ∙ last

pub roams_on : (p : Node) (g h : List Act) → AllByRecursion (IsApart p) g → is_by_roam (since p h) ≡ true → is_by_roam (since p (add g h)) ≡ true
roams_on p [] h all last = last
roams_on p (e ∷ g) h all last = roams_on p g (e ∷ h) all.1 (roams_more p e h all.0.opens_none last)

-- ---- an act that is not about the peer

plainly : (p : Node) (e : Act) (h : List Act) → IsApart p e → GoesOn p h (e ∷ h)
plainly p e h apart = goes_on p (e ∷ []) h (apart, tt)

under_way_more : (d : Domain) (n p : Node) (b : Base) (v : List ℕ) (key : Option Keyed) (h : List Act) (e : Act) → IsApart p e → IsUnderWay d n p b v key h → IsUnderWay d n p b v key (e ∷ h)
under_way_more d n p b v key h e apart u =
    let g : GoesOn p h (e ∷ h) = plainly p e h apart in
    let c : IsCarried p u.part (e ∷ h) = g.carries u.part u.is in
    record {
      part = c.more;
      is = c.is;
      begun = ap is_connect c.begun ∙ u.begun;
      nonce = c.nonce v u.nonce;
      hears = ap is_some (c.hears kind.AssocResp) ∙ u.hears;
      based = based_on d n p b u.part c.more (c.hears kind.AssocResp) u.based;
      keeps = rw (c.replies (kind.Key M3), c.replies (kind.Key G1)) u.keeps;
      asked = ap is_some (c.hears (kind.Key M1)) ∙ u.asked;
      keyed = c.derives ∙ u.keyed;
    }

held_more : (d : Domain) (n p : Node) (b : Base) (y : Keyed) (counter : ℕ) (h : List Act) (e : Act) → IsApart p e → IsHeld d n p b y counter h → IsHeld d n p b y counter (e ∷ h)
held_more d n p b y counter h e apart l =
    let g : GoesOn p h (e ∷ h) = plainly p e h apart in
    record {
      is = g.has ∙ l.is;
      begun = ap has_four_way g.started ∙ l.begun;
      based = rw (apart.opens_none) (based_on d n p b (since p h) (e ∷ since p h) (rw (apart.accepts_none kind.AssocResp) refl) l.based);
      keeps = kept_more p e h apart.opens_none (apart.replies_none (kind.Key M3)) (apart.replies_none (kind.Key G1)) ∙ l.keeps;
    }

-- what began by fast transition goes on so
transferred_more : (p : Node) (q : Ptk) (counter : Option ℕ) (h : List Act) (e : Act) → IsApart p e → IsTransferred p q counter h → IsTransferred p q counter (e ∷ h)
transferred_more p q counter h e apart l =
    let g : GoesOn p h (e ∷ h) = goes_on p (e ∷ []) h (apart, tt) in
    record {
      x = l.x;
      is = g.has ∙ l.is;
      key = l.key;
      begun = ap is_roam g.started ∙ l.begun;
      last = rw (apart.opens_none) (ap is_roam (start_more e (since p h) (some_part (since p h) l.last)) ∙ l.last);
      keeps = rw (apart.opens_none, apart.replies_none (kind.Key M3), apart.replies_none (kind.Key G1)) l.keeps;
    }

trying_stays : (d : Domain) (n p : Node) (b : Base) (x : Option Session) (a : Attempt) (h : List Act) (e : Act) → IsApart p e → IsTrying d n p b x a h → IsTrying d n p b x a (e ∷ h)
trying_stays d n p b None a h e apart u = under_way_more d n p b a.snonce a.key h e apart u
trying_stays d n p b (Some x) a h e apart u =
    renewing_more d n p b a.snonce a.key h e (record { opens_none = apart.opens_none; ends_none = apart.ends_none; derives_none = apart.derives_none }) u

attempt_stays : (d : Domain) (n p : Node) (b : Base) (x : Option Session) (a : Option Attempt) (h : List Act) (e : Act) → IsApart p e → HasAttempt d n p b x a h → HasAttempt d n p b x a (e ∷ h)
attempt_stays d n p b x None h e apart none = (plainly p e h apart).none none
attempt_stays d n p b x (Some a) h e apart u = trying_stays d n p b x a h e apart u

holds_more : (d : Domain) (n p : Node) (b : Base) (x : Session) (h : List Act) (e : Act) → IsApart p e → Holds d n p b x h → Holds d n p b x (e ∷ h)
holds_more d n p b (Connect key counter) h e apart l = held_more d n p b key counter h e apart l
holds_more d n p b (Ft ptk counter) h e apart l = transferred_more p ptk counter h e apart l

session_stays : (d : Domain) (n p : Node) (b : Base) (x : Option Session) (h : List Act) (e : Act) → IsApart p e → HasSession d n p b x h → HasSession d n p b x (e ∷ h)
session_stays d n p b None h e apart none = (plainly p e h apart).has ∙ none
session_stays d n p b (Some x) h e apart l = holds_more d n p b x h e apart l

pub stands_more : (d : Domain) (n p : Node) (s : State) (h : List Act) (e : Act) → IsApart p e → SupplicantStands d n p s h → SupplicantStands d n p s (e ∷ h)
stands_more d n p s h e apart st = record {
  ends = st.ends;
  attempt_is = attempt_stays d n p s.base s.session s.attempt h e apart st.attempt_is;
  session_is = session_stays d n p s.base s.session h e apart st.session_is;
}

-- a message of the peer was refused
pub stands_refused : (d : Domain) (n p : Node) (s : State) (octets : List ℕ) (k : Kind) (why : Reason) (seal : Option Seal) (h : List Act) → SupplicantStands d n p s h
    → SupplicantStands d n p s (Took (Some p) octets k (Refused why) seal ∷ h)
stands_refused d n p s octets k why seal h st = stands_more d n p s h (Took (Some p) octets k (Refused why) seal) (apart-refused p (Some p) octets k why seal) st

-- ---- the last derivation

derived_later : (o a b : Option Derivation) (x : Derivation) → (a ≡ Some x → b ≡ Some x) → or_else o a ≡ Some x → or_else o b ≡ Some x
derived_later None a b x more s = more s
derived_later (Some y) a b x more s = s

first_of : (o : Option Derivation) (b : Option Derivation) (x : Derivation) → or_else o None ≡ Some x → or_else o b ≡ Some x
first_of None b x s = cc
first_of (Some y) b x s = s

derivation_grows : (p : Node) (e : Act) (h part : List Act) (x : Derivation) → ((old : List Act) → attempt p h ≡ Some old → derivation p old ≡ Some x → derivation p h ≡ Some x) → Grows p e h part → derivation p part ≡ Some x → derivation p (e ∷ h) ≡ Some x
derivation_grows p e h part x more (Begins o is) s = first_of _ (derivation p h) x (subst (λ (l : List Act). derivation p l ≡ Some x) is s)
derivation_grows p e h part x more (Goes_on old o n was is) s = derived_later _ (derivation p old) (derivation p h) x (more old was) (subst (λ (l : List Act). derivation p l ≡ Some x) is s)

-- the key derived last in the attempt was derived last
pub derivation_part : (p : Node) (h part : List Act) (x : Derivation) → attempt p h ≡ Some part → derivation p part ≡ Some x → derivation p h ≡ Some x
derivation_part p [] part x s is = cc
derivation_part p (e ∷ h) part x s is = derivation_grows p e h part x (λ old was there. derivation_part p h old x was there) (grows p e h part s) is

-- ---- counters

pub at_least-greater : (kept counter : ℕ) → kept < counter → at_least counter (Some kept) ≡ Some counter
at_least-greater kept counter high = ap (λ (x : ℕ). Some x) (omega (arith, high))
