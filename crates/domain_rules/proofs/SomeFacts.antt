-- Of all readings there are facts that are right, whatever a key holder gave.
use Rattle.std.proofs.Common.{◌≡◌, ℕ, List, Option, Some, None, refl, subst}
use Rattle.domain_base.specs.declared.names.Akm.{Akm}
use Rattle.domain_base.specs.declared.names.Akm.TheVariants.{Psk, PskSha256, FtPsk}
use Rattle.domain_base.specs.declared.names.Node.{Node}
use Rattle.domain_base.specs.declared.names.Node.TheVariants.{Ap, Sta}
use Rattle.air_frame.specs.Fields.{HeaderFields}
use Rattle.rsn_elements.specs.Elements.{ElementFields}
use Rattle.eapol_key.specs.declared.messages.Message.{Message}
use Rattle.eapol_key.specs.declared.messages.Message.TheVariants.{M1, M2, M3, M4, G1, G2}
use Rattle.key_hierarchy.specs.declared.fast_transition.PmkR1.{PmkR1}
use Rattle.run_journal.specs.declared.domain.Domain.{Domain}
use Rattle.run_journal.specs.Events.{protects}
use Rattle.run_journal.specs.declared.acts.Act.{Act}
use Rattle.run_journal.specs.declared.acts.Kind.{Kind}
use Rattle.run_journal.specs.declared.acts.Kind.TheVariants as kind
use Rattle.run_journal.specs.Acts.{Derivation, GroupKey}
use Rattle.run_journal.specs.Questions.{session}
use Rattle.domain_rules.specs.Network.{peer_of}
use Rattle.domain_rules.specs.Facts.{Facts, ReadsKeyData, IsUnwrapped}
use Rattle.domain_rules.specs.Reading.{KeyMessage, Reading, NoFrame, PassedOver, NoElements, Managed, NoKeyFrame, NoMessage, Keyed, Sealed, Acting}
use Rattle.domain_rules.specs.AccessPointKeys.{request, IsRequested}
use Rattle.domain_rules.specs.StationKeys.{Keying, m3_keying, KnowsM3}
use Rattle.domain_rules.specs.FastTransition.{to_unwrap, igtk_to_unwrap}
use Rattle.domain_rules.specs.TransitionKeyData.{response}
use Rattle.domain_rules.specs.TransitionKeys.{re_resp_keying, KnowsGtk}
use Rattle.domain_rules.specs.PacketNumbers.{OpenKey}
use Rattle.domain_rules.specs.DataVerdict.{opened_by, IsOpened}
use Rattle.domain_rules.specs.ManagementFrames.{integrity_key}
use Rattle.domain_rules.specs.IntegrityKeys.{IsIpnGot}
use Rattle.domain_rules.specs.Verdict.{management_sender, KnowsOf, KnowsResponse, KnowsManaged, Knows}
use Rattle.domain_rules.proofs.SomePlain.{some_unwrapped, some_opened}
use Rattle.domain_rules.proofs.SomeReading.{some_requested, some_key_data}
use Rattle.domain_rules.proofs.IntegrityKeys.{some_ipn_got}

-- ---- of an EAPOL-Key message

knows_response : (akm : Akm) (h : List Act) (p : Node) (m : Message) (f : Facts) → IsRequested FtPsk (response p h) f.responded → KnowsResponse akm h p m f
knows_response FtPsk h p M1 f is = is
knows_response FtPsk h p M3 f is = is
knows_response FtPsk h p M2 f is = tt
knows_response FtPsk h p M4 f is = tt
knows_response FtPsk h p G1 f is = tt
knows_response FtPsk h p G2 f is = tt
knows_response Psk h p m f is = tt
knows_response PskSha256 h p m f is = tt

-- key data without its wrap, and what it says
abbrev Unwrapping : List ℕ → List ℕ → Type 0
Unwrapping kek octets = (u : Option (List ℕ)) × ((e : Option ElementFields) × (IsUnwrapped kek octets u × ((plain : List ℕ) → u ≡ Some plain → ReadsKeyData plain e)))

unwrapping : (kek octets : List ℕ) → Unwrapping kek octets
unwrapping kek octets = by (some_unwrapped kek octets).0 (some_unwrapped kek octets).1
  where
    by : (u : Option (List ℕ)) → IsUnwrapped kek octets u → Unwrapping kek octets
    by None is = (None, (None, (is, λ plain at. cc at)))
    by (Some plain) is = let says = some_key_data plain in (Some plain, (says.0, (is, λ text at. subst (λ (x : List ℕ). ReadsKeyData x says.0) (cc at) says.1)))

module _ (akm : Akm) (h : List Act) (p : Node) (k : KeyMessage) (x : Option PmkR1) where
  abbrev KeyFacts : Message → Type 0
  KeyFacts m = (f : Facts) × ((f.pulled ≡ x) × (KnowsOf akm h p m k f × KnowsResponse akm h p m f))

  abbrev facts_of : Option ElementFields → Option (List ℕ) → Option ElementFields → Facts
  facts_of requested unwrapped says = record { requested = requested; responded = (some_requested FtPsk (response p h)).0; unwrapped = unwrapped; data_ = says; pulled = x; opened = None; unwrapped_igtk = None; kept = 0 }

  responded : (m : Message) (requested : Option ElementFields) (unwrapped : Option (List ℕ)) (says : Option ElementFields) → KnowsResponse akm h p m (facts_of requested unwrapped says)
  responded m requested unwrapped says = knows_response akm h p m (facts_of requested unwrapped says) (some_requested FtPsk (response p h)).1

  m3_facts : (o : Option Keying) → m3_keying p h k ≡ o → KeyFacts M3
  m3_facts None none = (facts_of None None None, (refl, ((λ y is. cc (none, is)), responded M3 None None None)))
  m3_facts (Some y) at =
      let w = unwrapping y.key.ptk.kek k.fields.key_data in (
        facts_of None w.0 w.1.0,
        (
          refl,
          ((λ z is. (let same : y ≡ z = cc (at, is) in subst (λ (a : Keying). KnowsM3 a.key.ptk.kek k (facts_of None w.0 w.1.0)) same (record { unwrapped = w.1.1.0; data_ = w.1.1.1 }))), responded M3 None w.0 w.1.0),
        ),
      )

  g1_facts : (o : Option Derivation) → session p h ≡ o → KeyFacts G1
  g1_facts None none = (facts_of None None None, (refl, ((λ z is. cc (none, is)), responded G1 None None None)))
  g1_facts (Some y) at =
      let w = unwrapping y.ptk.kek k.fields.key_data in (
        facts_of None w.0 w.1.0,
        (
          refl,
          ((λ z is. (let same : y ≡ z = cc (at, is) in subst (λ (a : Derivation). KnowsM3 a.ptk.kek k (facts_of None w.0 w.1.0)) same (record { unwrapped = w.1.1.0; data_ = w.1.1.1 }))), responded G1 None w.0 w.1.0),
        ),
      )

  key_facts : (m : Message) → KeyFacts m
  key_facts M1 = (facts_of None None None, (refl, (tt, responded M1 None None None)))
  key_facts M2 =
      let q = some_requested akm (request p h) in
      let says = some_key_data k.fields.key_data in
      (facts_of q.0 None says.0, (refl, (record { requested = q.1; data_ = says.1 }, responded M2 q.0 None says.0)))
  key_facts M3 = m3_facts (m3_keying p h k) refl
  key_facts M4 = (facts_of None None None, (refl, (tt, responded M4 None None None)))
  key_facts G1 = g1_facts (session p h) refl
  key_facts G2 = (facts_of None None None, (refl, (tt, responded G2 None None None)))

-- ---- of a management frame

some_gtk : (o : Option Derivation) (w : Option (List ℕ)) → (u : Option (List ℕ)) × KnowsGtk o w u
some_gtk (Some y) (Some octets) = some_unwrapped y.ptk.kek octets
some_gtk (Some y) None = (None, tt)
some_gtk None (Some octets) = (None, tt)
some_gtk None None = (None, tt)

-- both group keys of a reassociation response without their wraps
abbrev AreUnwrapped : Domain → List Act → Node → ElementFields → Facts → Type 0
AreUnwrapped d h p e f = KnowsGtk (re_resp_keying p h) (to_unwrap e.fte) f.unwrapped × KnowsGtk (re_resp_keying p h) (igtk_to_unwrap (protects d) e.fte) f.unwrapped_igtk

knows_managed : (d : Domain) (n : Node) (h : List Act) (p : Node) (e : ElementFields) (f : Facts) (k : Kind) → AreUnwrapped d h p e f → KnowsManaged d n h p e f k
knows_managed d (Ap a) h p e f k is = tt
knows_managed d (Sta s) h p e f kind.ReResp is = is
knows_managed d (Sta s) h p e f kind.AssocReq is = tt
knows_managed d (Sta s) h p e f kind.AssocResp is = tt
knows_managed d (Sta s) h p e f kind.FtReq is = tt
knows_managed d (Sta s) h p e f kind.FtResp is = tt
knows_managed d (Sta s) h p e f kind.ReReq is = tt
knows_managed d (Sta s) h p e f (kind.Key m) is = tt
knows_managed d (Sta s) h p e f kind.Data is = tt
knows_managed d (Sta s) h p e f kind.Action is = tt
knows_managed d (Sta s) h p e f kind.Ignored is = tt
knows_managed d (Sta s) h p e f kind.Unread is = tt
knows_managed d (Sta s) h p e f kind.Eapol is = tt

-- ---- of protected data

abbrev IsOpenedFrom : Node → List Act → Node → HeaderFields → Option ℕ → List ℕ → Facts → Type 0
IsOpenedFrom n h p header tid body f = (k : OpenKey) → opened_by n h p header tid body ≡ Some k → IsOpened k.key k.id header.octets body f.opened

-- ---- of an Action frame

abbrev IsKeptFrom : List Act → Node → List ℕ → Facts → Type 0
IsKeptFrom h p body f = (g : GroupKey) → integrity_key p h body ≡ Some g → IsIpnGot p g.key g.id h f.kept

-- ---- of all

abbrev pub SomeFacts : Domain → ℕ → Node → List Act → Reading → Option PmkR1 → Type 0
SomeFacts d first n h r x = (f : Facts) × ((f.pulled ≡ x) × Knows d first n h r f)

-- nothing but what a holder gave
abbrev only : Option PmkR1 → Facts
only x = record { requested = None; responded = None; unwrapped = None; data_ = None; pulled = x; opened = None; unwrapped_igtk = None; kept = 0 }

pub some_facts : (d : Domain) (first : ℕ) (n : Node) (h : List Act) (r : Reading) (x : Option PmkR1) → SomeFacts d first n h r x
some_facts d first n h (NoFrame fault) x = (only x, (refl, λ far. tt))
some_facts d first n h PassedOver x = (only x, (refl, λ far. tt))
some_facts d first n h (NoElements b fault) x = (only x, (refl, λ far. tt))
some_facts d first n h (NoKeyFrame header fault) x = (only x, (refl, λ far. tt))
some_facts d first n h (NoMessage header) x = (only x, (refl, λ far. tt))
some_facts d first n h (Keyed k) x = by (peer_of d n k.header.a2) refl
  where
    by : (o : Option Node) → peer_of d n k.header.a2 ≡ o → SomeFacts d first n h (Keyed k) x
    by None none = (only x, (refl, λ far p is. cc (none, is)))
    by (Some p) from =
        let w = key_facts d.akm h p k x k.message in
        (w.0, (w.1.0, λ far q is. (let same : p ≡ q = cc (from, is) in subst (λ (a : Node). KnowsOf d.akm h a k.message k w.0 × KnowsResponse d.akm h a k.message w.0) same w.1.1)))
some_facts d first n h (Managed b e) x = by (management_sender d n b.header) refl
  where
    by : (o : Option Node) → management_sender d n b.header ≡ o → SomeFacts d first n h (Managed b e) x
    by None none = (only x, (refl, λ far p is. cc (none, is)))
    by (Some p) from =
        let w = some_gtk (re_resp_keying p h) (to_unwrap e.fte) in
        let v = some_gtk (re_resp_keying p h) (igtk_to_unwrap (protects d) e.fte) in
        let f : Facts = record { requested = None; responded = None; unwrapped = w.0; data_ = None; pulled = x; opened = None; unwrapped_igtk = v.0; kept = 0 } in
        (f, (refl, λ far q is. (let same : p ≡ q = cc (from, is) in subst (λ (a : Node). KnowsManaged d n h a e f b.kind) same (knows_managed d n h p e f b.kind (w.1, v.1)))))
some_facts d first n h (Sealed header way tid body) x = by (peer_of d n header.a2) refl
  where
    under : (p : Node) (o : Option OpenKey) → opened_by n h p header tid body ≡ o → (f : Facts) × ((f.pulled ≡ x) × IsOpenedFrom n h p header tid body f)
    under p None none = (only x, (refl, λ k is. cc (none, is)))
    under p (Some k) at =
        let w = some_opened k.key k.id header.octets body in
        let f : Facts = record { requested = None; responded = None; unwrapped = None; data_ = None; pulled = x; opened = w.0; unwrapped_igtk = None; kept = 0 } in
        (f, (refl, λ j is. (let same : k ≡ j = cc (at, is) in subst (λ (a : OpenKey). IsOpened a.key a.id header.octets body w.0) same w.1)))

    by : (o : Option Node) → peer_of d n header.a2 ≡ o → SomeFacts d first n h (Sealed header way tid body) x
    by None none = (only x, (refl, λ far p is. cc (none, is)))
    by (Some p) from =
        let w = under p (opened_by n h p header tid body) refl in
        (w.0, (w.1.0, λ far q is. (let same : p ≡ q = cc (from, is) in subst (λ (a : Node). IsOpenedFrom n h a header tid body w.0) same w.1.1)))
some_facts d first n h (Acting header body) x = by (management_sender d n header) refl
  where
    under : (p : Node) (o : Option GroupKey) → integrity_key p h body ≡ o → (f : Facts) × ((f.pulled ≡ x) × IsKeptFrom h p body f)
    under p None none = (only x, (refl, λ g is. cc (none, is)))
    under p (Some g) at =
        let w = some_ipn_got p g.key g.id h in
        let f : Facts = record { requested = None; responded = None; unwrapped = None; data_ = None; pulled = x; opened = None; unwrapped_igtk = None; kept = w.0 } in
        (f, (refl, λ j is. (let same : g ≡ j = cc (at, is) in subst (λ (a : GroupKey). IsIpnGot p a.key a.id h w.0) same w.1)))

    by : (o : Option Node) → management_sender d n header ≡ o → SomeFacts d first n h (Acting header body) x
    by None none = (only x, (refl, λ far p is. cc (none, is)))
    by (Some p) from =
        let w = under p (integrity_key p h body) refl in
        (w.0, (w.1.0, λ far q is. (let same : p ≡ q = cc (from, is) in subst (λ (a : Node). IsKeptFrom h a body w.0) same w.1.1)))
