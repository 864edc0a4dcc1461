-- Who sealed what a node took.
use Rattle.domain_base.specs.declared.names.Akm.{Akm}
use Rattle.domain_base.specs.declared.names.Akm.TheVariants.{Psk, PskSha256, FtPsk}
use Rattle.domain_rules.specs.Network.{root_by, root_at}
use Rattle.std.proofs.Common.{ℕ, ◌≡◌, ◌⊎◌, ⊎_elim, ◌<◌, inl, inr, true, false, not, List, [], ◌∷◌, Option, Some, refl, sym, ap, ◌∙◌, subst}
use Rattle.domain_base.specs.declared.names.Mac.{Mac}
use Rattle.domain_base.specs.declared.names.Node.{Node}
use Rattle.domain_base.specs.declared.names.Node.TheVariants.{Ap, Sta}
use Rattle.domain_base.specs.declared.names.Peer.{Peer}
use Rattle.domain_base.specs.declared.names.Peer.TheVariants.{One}
use Rattle.key_hierarchy.specs.Keys.{ptk}
use Rattle.key_hierarchy.specs.declared.inputs.Inputs.{Inputs}
use Rattle.run_journal.specs.declared.acts.GroupKind.{GroupKind}
use Rattle.run_journal.specs.declared.domain.Domain.{Domain}
use Rattle.run_journal.specs.declared.acts.Kind.{Kind}
use Rattle.run_journal.specs.declared.acts.Outcome.{Outcome}
use Rattle.run_journal.specs.declared.acts.Seal.{Seal}
use Rattle.run_journal.specs.declared.acts.Act.{Act}
use Rattle.run_journal.specs.declared.acts.Act.TheVariants.{Sent, Took}
use Rattle.run_journal.specs.declared.acts.Entry.{Entry}
use Rattle.run_journal.specs.Questions.{history}
use Rattle.run_journal.specs.Premises.{In, IsBefore, Fresh, name, seal_taken, seal_sent, SentBefore}
use Rattle.domain_rules.specs.Network.{is_ap, IsNamed}
use Rattle.journal_safety.proofs.CoversFrame.{IsFrame, Of_data, Of_action}
use Rattle.journal_safety.proofs.Ends.{Tail, tail_rest, tail_trans, place}
use Rattle.journal_safety.proofs.Names.{one_address, Crossed, IsSameName, same_name}
use Rattle.journal_safety.proofs.Legal.{IsMic, Of_key, Of_fte, covered_kind, goes_down, derives, IsUsed, Carries, AreCommon, LegalSeal, LegalSealing, With_mic, With_frame, LegalSealed, seal_under, Verified, Legal}
use Rattle.journal_safety.proofs.Runs.{Until, LegalJournal}
use Rattle.journal_safety.proofs.Places.{Good, good_tail, At, at_of, not_itself, apart_draws, Draws, DerivedAt, derived_at, derived_wider, has_derived}

-- ---- the same inputs

-- the R0KH-ID is that of the name with suite 4, and else empty
no_holder : (akm : Akm) (d : Domain) (s : Node) (id : List ℕ) → (akm ≡ FtPsk → ⊥) → (root_by akm d s id).r0kh_id ≡ []
no_holder Psk d s id other = refl
no_holder PskSha256 d s id other = refl
no_holder FtPsk d s id other = absurd (other refl)

is_mobile : (akm : Akm) → (akm ≡ FtPsk) ⊎ (akm ≡ FtPsk → ⊥)
is_mobile FtPsk = inl refl
is_mobile Psk = inr (λ e. cc e)
is_mobile PskSha256 = inr (λ e. cc e)

same_holder : (d : Domain) (i k : Inputs) → AreCommon d i → AreCommon d k → (k.akm ≡ FtPsk → i.r0kh_id ≡ k.r0kh_id) → i.r0kh_id ≡ k.r0kh_id
same_holder d i k c e holder =
    ⊎_elim
    (λ mobile. holder (e.akm ∙ mobile))
    (λ other. c.r0kh_id (Sta 0) ∙ no_holder d.akm d (Sta 0) i.r0kh_id other ∙ sym (e.r0kh_id (Sta 0) ∙ no_holder d.akm d (Sta 0) k.r0kh_id other))
    (is_mobile d.akm)

common_by : (d : Domain) (i k : Inputs) → AreCommon d i → AreCommon d k → i.psk ≡ k.psk → i.r0kh_id ≡ k.r0kh_id → i.aa.0 ≡ k.aa.0 → i.spa.0 ≡ k.spa.0 → i.anonce ≡ k.anonce → i.snonce ≡ k.snonce → i ≡ k
common_by d i k c e psk holder aa spa anonce snonce = λ j. record {
  akm = (c.akm ∙ sym e.akm) j;
  psk = psk j;
  ssid = (c.ssid ∙ sym e.ssid) j;
  mdid = (c.mdid (Sta 0) ∙ ap (λ (id : List ℕ). (root_at d (Sta 0) id).mdid) holder ∙ sym (e.mdid (Sta 0))) j;
  r0kh_id = holder j;
  aa = record { 0 = aa j };
  spa = record { 0 = spa j };
  anonce = anonce j;
  snonce = snonce j;
}

pub common_path : (d : Domain) (i k : Inputs) → AreCommon d i → AreCommon d k → IsSameName i k → i.aa.0 ≡ k.aa.0 → i.spa.0 ≡ k.spa.0 → i.anonce ≡ k.anonce → i.snonce ≡ k.snonce → i ≡ k
common_path d i k c e s aa spa anonce snonce = common_by d i k c e s.psk (same_holder d i k c e s.holder) aa spa anonce snonce

pub named : (d : Domain) (i k : Inputs) → AreCommon d i → AreCommon d k → name i ≡ name k → IsSameName i k
named d i k c e is = same_name i k (c.akm ∙ sym e.akm) is

octets_of : (a b : Mac) → a ≡ b → a.0 ≡ b.0
octets_of a b e = ap (λ (x : Mac). x.0) e

-- ---- two derivations of one name at nodes of different kinds: each is the other's peer, and the inputs are the same

pub record Match (n p m q : Node) (i k : Inputs) : Type 0 where
  pub peer : p ≡ m
  pub back : q ≡ n
  pub inputs : i ≡ k

match_ap : (d : Domain) (x y : ℕ) (p q : Node) (i k : Inputs) (past : List Entry) → IsNamed d → Fresh past → DerivedAt d (Ap x) p i past → DerivedAt d (Sta y) q k past → IsSameName i k → Match (Ap x) p (Sta y) q i k
match_ap d x y p q i k past names f a b s = go s.addresses s.nonces
  where
    go : Crossed i.aa.0 i.spa.0 k.aa.0 k.spa.0 → Crossed i.anonce i.snonce k.anonce k.snonce → Match (Ap x) p (Sta y) q i k
    go (inr crossed) ns = let e : Ap x ≡ Sta y = one_address d (Ap x) (Sta y) names a.listed b.listed (sym (octets_of _ _ a.address) ∙ crossed.0 ∙ octets_of _ _ b.address) in cc e
    go (inl addresses) (inr crossed) = absurd (apart_draws (Ap x) (Sta y) i.anonce k.snonce past f refl a.draw b.draw crossed.0)
    go (inl addresses) (inl nonces) = record {
      peer = one_address d p (Sta y) names a.peer_listed b.listed (sym (octets_of _ _ a.peer) ∙ addresses.1 ∙ octets_of _ _ b.address);
      back = one_address d q (Ap x) names b.peer_listed a.listed (sym (octets_of _ _ b.peer) ∙ sym addresses.0 ∙ octets_of _ _ a.address);
      inputs = common_path d i k a.common b.common s addresses.0 addresses.1 nonces.0 nonces.1;
    }

match_sta : (d : Domain) (x y : ℕ) (p q : Node) (i k : Inputs) (past : List Entry) → IsNamed d → Fresh past → DerivedAt d (Sta x) p i past → DerivedAt d (Ap y) q k past → IsSameName i k → Match (Sta x) p (Ap y) q i k
match_sta d x y p q i k past names f a b s = go s.addresses s.nonces
  where
    go : Crossed i.aa.0 i.spa.0 k.aa.0 k.spa.0 → Crossed i.anonce i.snonce k.anonce k.snonce → Match (Sta x) p (Ap y) q i k
    go (inr crossed) ns = let e : Sta x ≡ Ap y = one_address d (Sta x) (Ap y) names a.listed b.listed (sym (octets_of _ _ a.address) ∙ crossed.1 ∙ octets_of _ _ b.address) in cc e
    go (inl addresses) (inr crossed) = absurd (apart_draws (Sta x) (Ap y) i.snonce k.anonce past f refl a.draw b.draw crossed.1)
    go (inl addresses) (inl nonces) = record {
      peer = one_address d p (Ap y) names a.peer_listed b.listed (sym (octets_of _ _ a.peer) ∙ addresses.0 ∙ octets_of _ _ b.address);
      back = one_address d q (Sta x) names b.peer_listed a.listed (sym (octets_of _ _ b.peer) ∙ sym addresses.1 ∙ octets_of _ _ a.address);
      inputs = common_path d i k a.common b.common s addresses.0 addresses.1 nonces.0 nonces.1;
    }

pub match_names : (d : Domain) (n m p q : Node) (i k : Inputs) (past : List Entry) → IsNamed d → Fresh past → is_ap m ≡ not (is_ap n) → DerivedAt d n p i past → DerivedAt d m q k past → IsSameName i k → Match n p m q i k
match_names d (Ap x) (Sta y) p q i k past names f roles a b s = match_ap d x y p q i k past names f a b s
match_names d (Sta x) (Ap y) p q i k past names f roles a b s = match_sta d x y p q i k past names f a b s
match_names d (Ap x) (Ap y) p q i k past names f roles a b s = cc
match_names d (Sta x) (Sta y) p q i k past names f roles a b s = cc

-- ---- at one node, with both sides of the second derivation known: one peer and the same inputs

pub record SameInputs (p q : Node) (i k : Inputs) : Type 0 where
  pub peer : p ≡ q
  pub inputs : i ≡ k

same_ap : (d : Domain) (x : ℕ) (p q r : Node) (i k : Inputs) (past : List Entry) → IsNamed d → Fresh past → DerivedAt d (Ap x) p i past → DerivedAt d (Ap x) q k past → DerivedAt d q r k past → IsSameName i k → SameInputs p q i k
same_ap d x p q r i k past names f a b c s = go s.addresses s.nonces
  where
    theirs : (q : Node) → is_ap q ≡ false → DerivedAt d q r k past → Draws q k.snonce past
    theirs (Ap y) is w = cc
    theirs (Sta y) is w = w.draw

    go : Crossed i.aa.0 i.spa.0 k.aa.0 k.spa.0 → Crossed i.anonce i.snonce k.anonce k.snonce → SameInputs p q i k
    go (inr crossed) ns =
        let e : Ap x ≡ q = one_address d (Ap x) q names a.listed b.peer_listed (sym (octets_of _ _ a.address) ∙ crossed.0 ∙ octets_of _ _ b.peer) in
        absurd (not_itself (is_ap q) (b.roles ∙ ap (λ (z : Node). not (is_ap z)) e))
    go (inl addresses) (inr crossed) = absurd (apart_draws (Ap x) q i.anonce k.snonce past f b.roles a.draw (theirs q b.roles c) crossed.0)
    go (inl addresses) (inl nonces) = record {
      peer = one_address d p q names a.peer_listed b.peer_listed (sym (octets_of _ _ a.peer) ∙ addresses.1 ∙ octets_of _ _ b.peer);
      inputs = common_path d i k a.common b.common s addresses.0 addresses.1 nonces.0 nonces.1;
    }

same_sta : (d : Domain) (x : ℕ) (p q r : Node) (i k : Inputs) (past : List Entry) → IsNamed d → Fresh past → DerivedAt d (Sta x) p i past → DerivedAt d (Sta x) q k past → DerivedAt d q r k past → IsSameName i k → SameInputs p q i k
same_sta d x p q r i k past names f a b c s = go s.addresses s.nonces
  where
    theirs : (q : Node) → is_ap q ≡ true → DerivedAt d q r k past → Draws q k.anonce past
    theirs (Ap y) is w = w.draw
    theirs (Sta y) is w = cc

    go : Crossed i.aa.0 i.spa.0 k.aa.0 k.spa.0 → Crossed i.anonce i.snonce k.anonce k.snonce → SameInputs p q i k
    go (inr crossed) ns =
        let e : Sta x ≡ q = one_address d (Sta x) q names a.listed b.peer_listed (sym (octets_of _ _ a.address) ∙ crossed.1 ∙ octets_of _ _ b.peer) in
        absurd (not_itself (is_ap q) (b.roles ∙ ap (λ (z : Node). not (is_ap z)) e))
    go (inl addresses) (inr crossed) = absurd (apart_draws (Sta x) q i.snonce k.anonce past f b.roles a.draw (theirs q b.roles c) crossed.1)
    go (inl addresses) (inl nonces) = record {
      peer = one_address d p q names a.peer_listed b.peer_listed (sym (octets_of _ _ a.peer) ∙ addresses.0 ∙ octets_of _ _ b.peer);
      inputs = common_path d i k a.common b.common s addresses.0 addresses.1 nonces.0 nonces.1;
    }

pub same_inputs : (d : Domain) (n p q r : Node) (i k : Inputs) (past : List Entry) → IsNamed d → Fresh past → DerivedAt d n p i past → DerivedAt d n q k past → DerivedAt d q r k past → IsSameName i k → SameInputs p q i k
same_inputs d (Ap x) p q r i k past names f a b c s = same_ap d x p q r i k past names f a b c s
same_inputs d (Sta x) p q r i k past names f a b c s = same_sta d x p q r i k past names f a b c s

-- ---- a Sent with its seal

pub other_round : (n : Node) (m l : Entry) → IsBefore m l → l.node ≡ n → is_ap m.node ≡ not (is_ap n) → m.round < l.round
other_round n m l (inl lower) at roles = lower
other_round n m l (inr one) at roles = absurd (not_itself (is_ap n) (ap is_ap (sym at ∙ sym one) ∙ roles))

pub record KeySeal (d : Domain) (n : Node) (h : List Act) (e : Act) (s : Seal) : Type 0 where
  pub peer : Node
  pub kind : Kind
  pub octets : List ℕ
  pub is : e ≡ Sent (One peer) kind octets (Some s)
  pub seal : LegalSeal d n h peer kind s

-- a seal that is sent
pub record SealSent (d : Domain) (n : Node) (h : List Act) (e : Act) (s : Seal) : Type 0 where
  pub peer : Peer
  pub kind : Kind
  pub octets : List ℕ
  pub is : e ≡ Sent peer kind octets (Some s)
  pub sealing : LegalSealing d n h peer kind s

pub seal_there : (d : Domain) (n : Node) (h : List Act) (e : Act) (s : Seal) → Legal d n h e → seal_sent e ≡ Some s → SealSent d n h e s
seal_there d n h (Sent q k octets o) s l w = record { peer = q; kind = k; octets = octets; is = ap (λ (x : Option Seal). Sent q k octets x) w; sealing = subst (λ (x : Option Seal). LegalSealed d n h q k x) w l.0 }
seal_there d n h _ s l w = cc

-- what a MIC covers is of no frame under another key
pub not_mic : (octets : List ℕ) → IsMic octets → IsFrame octets → ⊥
not_mic octets (Of_key form) (Of_data other) = cc (form, other)
not_mic octets (Of_key form) (Of_action other) = cc (form, other)
not_mic octets (Of_fte form) (Of_data other) = cc (form, other)
not_mic octets (Of_fte form) (Of_action other) = cc (form, other)

-- with the form of a MIC
seal_by : (d : Domain) (n : Node) (h : List Act) (e : Act) (s : Seal) (q : Peer) (k : Kind) (octets : List ℕ) → e ≡ Sent q k octets (Some s) → IsMic s.octets → LegalSealing d n h q k s → KeySeal d n h e s
seal_by d n h e s q k octets is form (With_mic p one own seal) = record { peer = p; kind = k; octets = octets; is = is ∙ ap (λ (x : Peer). Sent x k octets (Some s)) one; seal = seal }
seal_by d n h e s q k octets is form (With_frame framed l) = absurd (not_mic s.octets form l.form)

seal_facts : (d : Domain) (n : Node) (h : List Act) (e : Act) (s : Seal) → IsMic s.octets → Legal d n h e → seal_sent e ≡ Some s → KeySeal d n h e s
seal_facts d n h e s form l w = let x = seal_there d n h e s l w in seal_by d n h e s x.peer x.kind x.octets x.is form x.sealing

-- Of octets of the other side that verified under inputs of the node's own: the peer sealed them, in a lower round, and had
-- derived from the same inputs.
pub record SealedBy (d : Domain) (n p : Node) (i : Inputs) (covered : List ℕ) (past : List Entry) : Type 0 where
  pub taken : Entry
  pub before : List Entry
  pub taken_tail : Tail (taken ∷ before) past
  pub taken_at : taken.node ≡ n
  pub sent : Entry
  pub earlier : List Entry
  pub sent_tail : Tail (sent ∷ earlier) before
  pub sent_at : sent.node ≡ p
  pub kind : Kind
  pub octets : List ℕ
  pub sent_is : sent.act ≡ Sent (One n) kind octets (Some (seal_under i covered))
  pub rounds : sent.round < taken.round
  pub until : Until sent.round earlier
  pub facts : DerivedAt d p n i earlier
  pub kind_is : kind ≡ covered_kind covered
  pub carries : (which : GroupKind) → IsUsed d which → Carries d which p (history p earlier) n i covered (covered_kind covered)

pub sealed_by : (d : Domain) (n p : Node) (i : Inputs) (from : Option Node) (octets : List ℕ) (kd : Kind) (o : Outcome) (covered : List ℕ) (past : List Entry) → Good d past → In (derives p i) (history n past)
    → In (Took from octets kd o (Some (seal_under i covered))) (history n past) → IsMic covered → goes_down covered ≡ not (is_ap n) → SealedBy d n p i covered past
sealed_by d n p i from octets kd o covered past g derived took form direction =
    record {
      taken = w.entry;
      before = w.earlier;
      taken_tail = w.tail;
      taken_at = w.at;
      sent = sent.entry;
      earlier = z.0;
      sent_tail = z.1;
      sent_at = sym one.peer;
      kind = ks.kind;
      octets = ks.octets;
      sent_is = ks.is ∙ ap (λ (x : Node). Sent (One x) ks.kind ks.octets (Some (seal_under i covered))) one.back;
      rounds = other_round n sent.entry w.entry sent.before w.at roles;
      until = legal_z.1;
      facts = subst (λ (x : Node). DerivedAt d x n i z.0) (sym one.peer) (subst (λ (x : Node). DerivedAt d sent.entry.node x i z.0) one.back (subst (λ (x : Inputs). DerivedAt d sent.entry.node ks.peer x z.0) (sym one.inputs) theirs));
      kind_is = ks.seal.kind_is;
      carries = λ which used. subst (λ (x : Node). Carries d which x (history x z.0) n i covered (covered_kind covered)) (sym one.peer)
          (subst (λ (x : Node). Carries d which sent.entry.node (history sent.entry.node z.0) x i covered (covered_kind covered)) one.back
          (subst (λ (x : Inputs). Carries d which sent.entry.node (history sent.entry.node z.0) ks.peer x covered (covered_kind covered)) (sym one.inputs) (ks.seal.carries which used)));
    }
  where
    own : DerivedAt d n p i past
    own = derived_at d n p i past g.legal derived

    w : At n (Took from octets kd o (Some (seal_under i covered))) past
    w = at_of n (Took from octets kd o (Some (seal_under i covered))) past took

    whole : Good d (w.entry ∷ w.earlier)
    whole = good_tail d (w.entry ∷ w.earlier) past w.tail g

    sent : SentBefore (seal_under i covered) w.entry w.earlier
    sent = whole.unforged.0 (seal_under i covered) (ap seal_taken w.is)

    z : (a : List Entry) × Tail (sent.entry ∷ a) w.earlier
    z = place sent.entry w.earlier sent.there

    z_tail : Tail (sent.entry ∷ z.0) past
    z_tail = tail_trans (sent.entry ∷ z.0) w.earlier past z.1 (tail_rest w.entry w.earlier past w.tail)

    legal_z : Legal d sent.entry.node (history sent.entry.node z.0) sent.entry.act × Until sent.entry.round z.0 × LegalJournal d z.0
    legal_z = (good_tail d (sent.entry ∷ z.0) past z_tail g).legal

    ks : KeySeal d sent.entry.node (history sent.entry.node z.0) sent.entry.act (seal_under i covered)
    ks = seal_facts d sent.entry.node (history sent.entry.node z.0) sent.entry.act (seal_under i covered) form legal_z.0 sent.is

    theirs : DerivedAt d sent.entry.node ks.peer ks.seal.i z.0
    theirs = derived_at d sent.entry.node ks.peer ks.seal.i z.0 legal_z.2 ks.seal.there

    theirs_wide : DerivedAt d sent.entry.node ks.peer ks.seal.i past
    theirs_wide = derived_wider d sent.entry.node ks.peer ks.seal.i z.0 past (tail_rest sent.entry z.0 past z_tail) theirs

    roles : is_ap sent.entry.node ≡ not (is_ap n)
    roles = sym ks.seal.direction ∙ direction

    same : IsSameName i ks.seal.i
    same = named d i ks.seal.i own.common theirs.common
        (g.apart.by_kck i ks.seal.i (ptk i) (ptk ks.seal.i) (has_derived d n p i past own) (has_derived d sent.entry.node ks.peer ks.seal.i past theirs_wide) (sym ks.seal.is))

    one : Match n p sent.entry.node ks.peer i ks.seal.i
    one = match_names d n sent.entry.node p ks.peer i ks.seal.i past g.names g.fresh roles own theirs_wide same

pub verified_by : (d : Domain) (n p : Node) (i : Inputs) (past : List Entry) → Good d past → (v : Verified n (history n past) p i) → SealedBy d n p i v.covered past
verified_by d n p i past g v = sealed_by d n p i v.from v.octets v.kind v.outcome v.covered past g v.derived v.took v.form v.direction

pub sealed_tail : (d : Domain) (n p : Node) (i : Inputs) (covered : List ℕ) (past : List Entry) → (s : SealedBy d n p i covered past) → Tail s.earlier past
sealed_tail d n p i covered past s = tail_trans s.earlier s.before past (tail_rest s.sent s.earlier s.before s.sent_tail) (tail_rest s.taken s.before past s.taken_tail)

-- the peer's derivation, seen from now
pub peer_facts : (d : Domain) (n p : Node) (i : Inputs) (covered : List ℕ) (past : List Entry) → SealedBy d n p i covered past → DerivedAt d p n i past
peer_facts d n p i covered past s = derived_wider d p n i s.earlier past (sealed_tail d n p i covered past s) s.facts
