-- What a node hands up its peer used and sent, and it hands it up once.
use Rattle.std.proofs.Common.{ℕ, ◌≡◌, ◌<◌, ◌≤◌, ◌⊎◌, inl, inr, Bool, true, false, cond, List, [], ◌∷◌, Some, None, refl, sym, ap, ◌∙◌, subst, arith}
use Rattle.std.specs.Prelude.{not, ◌&&◌, ◌==◌, max, bytes_eq}
use Rattle.std.proofs.lemmas.Bool.{eq-eqb, and_parts}
use Rattle.std.proofs.lemmas.Slice.Eq.{bytes_eq-Decides}
use Rattle.domain_base.specs.declared.names.Mac.{Mac}
use Rattle.domain_base.specs.declared.names.Node.{Node}
use Rattle.domain_base.specs.declared.names.Node.TheVariants.{Ap, Sta}
use Rattle.domain_base.specs.declared.names.Peer.{Peer}
use Rattle.domain_base.specs.declared.names.Peer.TheVariants.{One, All}
use Rattle.air_frame.specs.Sent.{IsAddress}
use Rattle.key_hierarchy.specs.Keys.{ptk}
use Rattle.key_hierarchy.specs.declared.inputs.Inputs.{Inputs}
use Rattle.run_journal.specs.declared.acts.GroupKind.{GroupKind}
use Rattle.run_journal.specs.declared.acts.GroupKind.TheVariants as groups
use Rattle.run_journal.specs.declared.domain.Domain.{Domain}
use Rattle.run_journal.specs.declared.acts.Kind.{Kind}
use Rattle.run_journal.specs.declared.acts.Outcome.TheVariants.{Accepted}
use Rattle.run_journal.specs.declared.acts.Seal.{Seal}
use Rattle.run_journal.specs.declared.acts.Drawn.TheVariants as draw
use Rattle.run_journal.specs.declared.acts.Key.TheVariants.{Pairwise, Group}
use Rattle.run_journal.specs.declared.acts.Act.{Act}
use Rattle.run_journal.specs.declared.acts.Act.TheVariants.{Drew, Sent, Took, Installed, Resumed, Used, HandedUp, Finished}
use Rattle.run_journal.specs.declared.acts.Entry.{Entry}
use Rattle.run_journal.specs.GroupKinds.{same_group_kind}
use Rattle.run_journal.specs.Acts.{same}
use Rattle.run_journal.specs.Questions.{history, session, group_keys}
use Rattle.run_journal.specs.Premises.{In, seal_taken, SentBefore}
use Rattle.run_journal.specs.Safe.{Use, use_of, up_of, up_from, Once, UsedBefore, Sourced}
use Rattle.domain_rules.specs.Network.{mac, address, is_ap}
use Rattle.domain_rules.specs.Frames.{keyed_by}
use Rattle.domain_rules.specs.GroupKeys.{is_key, told, got, got_by}
use Rattle.domain_rules.specs.IntegrityKeys.{IsGot}
use Rattle.domain_rules.specs.PacketNumbers.{pairwise_got, pairwise_got_by}
use Rattle.domain_rules.proofs.Parts.{same-true, same-refl}
use Rattle.journal_safety.specs.SentFrames.{SentWith, SentAt, FromFrames}
use Rattle.journal_safety.proofs.CoversData.{covered_tid}
use Rattle.journal_safety.proofs.CoversFrame.{IsFrame, CoversFrame}
use Rattle.journal_safety.proofs.Ends.{Tail, front_of, tail_refl, tail_rest, tail_trans, tail_in, tail_head, place, Order, Same, First, Second, order, history_tail, end_of}
use Rattle.journal_safety.proofs.Names.{Crossed}
use Rattle.journal_safety.proofs.Legal.{own_address, peer_address, IsReceiver, LegalData, LegalSealing, With_mic, With_frame, LegalFinished, LegalUsedWith, LegalUsedAll, LegalUsed, OpensUnder, With_session, With_group, IsAbove, LegalUp, Legal}
use Rattle.journal_safety.proofs.Histories.{group_key_drew, group_keys_tail}
use Rattle.journal_safety.proofs.Sessions.{session_key, session_finished}
use Rattle.journal_safety.proofs.Runs.{legal_history}
use Rattle.journal_safety.proofs.Places.{Good, good_tail, At, at_of, in_history, legal_at, earlier_tail, one_drawer, draws_of, DerivedAt, derived_at, derived_wider, has_derived}
use Rattle.journal_safety.proofs.Seals.{named, match_names, other_round, SealSent, seal_there, not_mic}
use Rattle.journal_safety.proofs.Pairwise.{verified_wider, one_tk}
use Rattle.journal_safety.proofs.Once.{Installs, WithPeer, FromPeer, once_by, clash, same_kinds, group_earlier, current_earlier}
use Rattle.journal_safety.proofs.Numbers.{session_verified, current_in, use_clash}

-- ---- the head of a history is the act of an entry

record Head (n : Node) (e : Act) (rest : List Act) (past : List Entry) : Type 0 where
  at : At n e past
  before : history n at.earlier ≡ rest

head_by : (n : Node) (e : Act) (rest : List Act) (l : Entry) (past : List Entry) → (history n past ≡ e ∷ rest → Head n e rest past) → (b : Bool) → same n l.node ≡ b → cond b (l.act ∷ history n past) (history n past) ≡ e ∷ rest → Head n e rest (l ∷ past)
head_by n e rest l past more true is w = record { at = record { entry = l; earlier = past; tail = inl refl; at = sym (same-true n l.node is); is = cc w }; before = cc w }
head_by n e rest l past more false is w = let r = more w in record { at = record { entry = r.at.entry; earlier = r.at.earlier; tail = inr r.at.tail; at = r.at.at; is = r.at.is }; before = r.before }

head : (n : Node) (e : Act) (rest : List Act) (past : List Entry) → history n past ≡ e ∷ rest → Head n e rest past
head n e rest [] w = absurd (cc w)
head n e rest (l ∷ past) w = head_by n e rest l past (head n e rest past) (same n l.node) refl w

-- ---- addresses of six octets

inputs_whole : (d : Domain) (n p : Node) (i : Inputs) → own_address n i ≡ mac d n → peer_address n i ≡ mac d p → IsAddress (address d n) → IsAddress (address d p) → IsAddress i.aa.0 × IsAddress i.spa.0
inputs_whole d (Ap k) p i own peer a b = (subst (λ (x : Mac). IsAddress x.0) (sym own) a, subst (λ (x : Mac). IsAddress x.0) (sym peer) b)
inputs_whole d (Sta k) p i own peer a b = (subst (λ (x : Mac). IsAddress x.0) (sym peer) b, subst (λ (x : Mac). IsAddress x.0) (sym own) a)

whole_inputs : (d : Domain) (n p : Node) (i : Inputs) → own_address n i ≡ mac d n → peer_address n i ≡ mac d p → IsAddress i.aa.0 → IsAddress i.spa.0 → IsAddress (address d n) × IsAddress (address d p)
whole_inputs d (Ap k) p i own peer a b = (subst (λ (x : Mac). IsAddress x.0) own a, subst (λ (x : Mac). IsAddress x.0) peer b)
whole_inputs d (Sta k) p i own peer a b = (subst (λ (x : Mac). IsAddress x.0) own b, subst (λ (x : Mac). IsAddress x.0) peer a)

crossed_whole : (a b c e : List ℕ) → Crossed a b c e → IsAddress a → IsAddress b → IsAddress c × IsAddress e
crossed_whole a b c e (inl straight) x y = (subst IsAddress straight.0 x, subst IsAddress straight.1 y)
crossed_whole a b c e (inr crossed) x y = (subst IsAddress crossed.1 y, subst IsAddress crossed.0 x)

-- ---- the frame behind what was handed up

-- whose key it is: of inputs that the node derived from with p, or a group key that p drew
data KeyOf (d : Domain) (n p : Node) (key : List ℕ) (past : List Entry) : Type 0 where
  Pair_key : (i : Inputs) → DerivedAt d n p i past → key ≡ (ptk i).tk → IsAddress (address d n) → KeyOf d n p key past
  Group_key : (which : GroupKind) → In key (group_keys which (history p past)) → KeyOf d n p key past

abbrev seal_of : List ℕ → List ℕ → Seal
seal_of covered key = record { octets = covered; key = key }

record DataFrom (d : Domain) (n p : Node) (covered key : List ℕ) (number : ℕ) (plain : List ℕ) (past : List Entry) : Type 0 where
  taken : Entry
  taken_in : In taken past
  peer : Peer
  kind : Kind
  octets : List ℕ
  sent : At p (Sent peer kind octets (Some (seal_of covered key))) past
  rounds : sent.entry.round < taken.round
  q : Peer
  id : ℕ
  rest : List Act
  is : history p sent.earlier ≡ Used q key id number plain ∷ rest

abbrev use_as : List ℕ → ℕ → List ℕ → Use
use_as key number plain = record { key = key; number = number; octets = plain }

-- the sender is p, and what it sealed it used with that number and those octets
record Sender (d : Domain) (n p m : Node) (covered key : List ℕ) (number : ℕ) (plain : List ℕ) (z : List Entry) : Type 0 where
  same_node : m ≡ p
  q : Peer
  id : ℕ
  rest : List Act
  is : history m z ≡ Used q key id number plain ∷ rest

sender_is : (d : Domain) (n p m : Node) (covered key : List ℕ) (number : ℕ) (plain : List ℕ) (past z : List Entry) → Good d past → Tail z past → CoversFrame covered (not (is_ap n)) (covered_tid covered) number plain → IsAddress (address d p) → KeyOf d n p key past → (l : LegalData d m (history m z) (seal_of covered key))
    → Sender d n p m covered key number plain z
sender_is d n p m covered key number plain past z g t c whole of l = go l.peer refl of
  where
    top : Head m (Used l.peer key l.id l.number l.plain) l.before z
    top = head m (Used l.peer key l.id l.number l.plain) l.before z l.is

    good_z : Good d z
    good_z = good_tail d z past t g

    legal : LegalUsed (history m top.at.earlier) l.peer key l.id l.number
    legal = legal_at d m (Used l.peer key l.id l.number l.plain) z good_z.legal top.at

    t_top : Tail top.at.earlier z
    t_top = earlier_tail m (Used l.peer key l.id l.number l.plain) z top.at

    good_top : Good d top.at.earlier
    good_top = good_tail d top.at.earlier z t_top good_z

    wide : Tail top.at.earlier past
    wide = tail_trans top.at.earlier z past t_top t

    made : m ≡ p → IsAddress (address d m) → IsReceiver d l.peer → Sender d n p m covered key number plain z
    made same_node own theirs =
        let k = l.covers own theirs in
        let number_is : l.number ≡ number = sym k.number_is ∙ c.number_is in
        let plain_is : l.plain ≡ plain = sym k.plain_is ∙ c.plain_is in
        record { same_node = same_node; q = l.peer; id = l.id; rest = l.before; is = l.is ∙ ap (λ (x : ℕ). Used l.peer key l.id x l.plain ∷ l.before) number_is ∙ ap (λ (x : List ℕ). Used l.peer key l.id number x ∷ l.before) plain_is }

    -- under a pairwise key
    theirs_at : (q : Node) → (u : LegalUsedWith (history m top.at.earlier) q key l.number) → DerivedAt d m q u.i past
    theirs_at q u =
        let there = (session_key d m q (history m top.at.earlier) (keyed_by u.i) (legal_history d m top.at.earlier good_top.legal) u.awaited).1 in
        derived_wider d m q u.i top.at.earlier past wide (derived_at d m q u.i top.at.earlier good_top.legal there)

    of_pair : (q : Node) → l.peer ≡ One q → (u : LegalUsedWith (history m top.at.earlier) q key l.number) → (i : Inputs) → DerivedAt d n p i past → key ≡ (ptk i).tk → IsAddress (address d n) → Sender d n p m covered key number plain z
    of_pair q one u i ours is mine =
        let theirs = theirs_at q u in
        let names = named d i u.i ours.common theirs.common (g.apart.by_tk i u.i (ptk i) (ptk u.i) (has_derived d n p i past ours) (has_derived d m q u.i past theirs) (sym is ∙ u.is)) in
        let inputs = inputs_whole d n p i ours.address ours.peer mine whole in
        let crossed = crossed_whole i.aa.0 i.spa.0 u.i.aa.0 u.i.spa.0 names.addresses inputs.0 inputs.1 in
        let and_parts = whole_inputs d m q u.i theirs.address theirs.peer crossed.0 crossed.1 in
        let receives : IsReceiver d l.peer = subst (IsReceiver d) (sym one) and_parts.1 in
        let k = l.covers and_parts.0 receives in
        let roles : is_ap m ≡ not (is_ap n) = sym k.way ∙ c.way in
        let one_pair = match_names d n m p q i u.i past g.names g.fresh roles ours theirs names in
        made (sym one_pair.peer) and_parts.0 receives

    -- under a group key
    drawn : (u : LegalUsedAll (history m top.at.earlier) key l.id l.number) → In key (group_keys u.which (history m past))
    drawn u =
        let w = current_in u.which key u.older (history m top.at.earlier) u.current in
        group_keys_tail u.which key (history m top.at.earlier) (history m past) (history_tail m top.at.earlier past wide) (current_earlier u.which d m key w.0 w.1.0 top.at.earlier good_top w.1.1).0

    go : (q : Peer) → l.peer ≡ q → KeyOf d n p key past → Sender d n p m covered key number plain z
    go (One q) one (Pair_key i ours is mine) = of_pair q one (subst (λ (x : Peer). LegalUsed (history m top.at.earlier) x key l.id l.number) one legal) i ours is mine
    go (One q) one (Group_key which there) =
        let u : LegalUsedWith (history m top.at.earlier) q key l.number = subst (λ (x : Peer). LegalUsed (history m top.at.earlier) x key l.id l.number) one legal in
        absurd (clash which d m q p u.i key past g (theirs_at q u) u.is there)
    go All one (Pair_key i ours is mine) =
        let u : LegalUsedAll (history m top.at.earlier) key l.id l.number = subst (λ (x : Peer). LegalUsed (history m top.at.earlier) x key l.id l.number) one legal in
        absurd (clash u.which d n p m i key past g ours is (drawn u))
    go All one (Group_key which there) =
        let u : LegalUsedAll (history m top.at.earlier) key l.id l.number = subst (λ (x : Peer). LegalUsed (history m top.at.earlier) x key l.id l.number) one legal in
        let same_node : m ≡ p = one_drawer m p key past g.fresh (draws_of m (Drew (draw.Group u.which key)) key past refl (group_key_drew u.which key (history m past) (drawn u))) (draws_of p (Drew (draw.Group which key)) key past refl (group_key_drew which key (history p past) there)) in
        made same_node (subst (λ (x : Node). IsAddress (address d x)) (sym same_node) whole) (subst (IsReceiver d) (sym one) tt)

-- what was sealed with a temporal key or an IGTK was sealed as data or as an announcement
frame_of : (d : Domain) (n : Node) (h : List Act) (q : Peer) (k : Kind) (s : Seal) → IsFrame s.octets → LegalSealing d n h q k s → LegalData d n h s
frame_of d n h q k s form (With_frame is l) = l
frame_of d n h q k s form (With_mic p one mic l) = absurd (not_mic s.octets mic form)

data_from : (d : Domain) (n p : Node) (kind : Kind) (octets covered key : List ℕ) (number : ℕ) (plain : List ℕ) (past : List Entry) → Good d past → In (Took (Some p) octets kind Accepted (Some (seal_of covered key))) (history n past) → CoversFrame covered (not (is_ap n)) (covered_tid covered) number plain
    → IsAddress (address d p) → is_ap p ≡ not (is_ap n) → KeyOf d n p key past → DataFrom d n p covered key number plain past
data_from d n p kind octets covered key number plain past g took c whole roles of =
    record {
      taken = w.entry;
      taken_in = tail_head w.entry w.earlier past w.tail;
      peer = sent_seal.peer;
      kind = sent_seal.kind;
      octets = sent_seal.octets;
      sent = record { entry = b.entry; earlier = z.0; tail = z_tail; at = s.same_node; is = sent_seal.is };
      rounds = other_round n b.entry w.entry b.before w.at (ap is_ap s.same_node ∙ roles);
      q = s.q;
      id = s.id;
      rest = s.rest;
      is = subst (λ (x : Node). history x z.0 ≡ Used s.q key s.id number plain ∷ s.rest) s.same_node s.is;
    }
  where
    w : At n (Took (Some p) octets kind Accepted (Some (seal_of covered key))) past
    w = at_of n (Took (Some p) octets kind Accepted (Some (seal_of covered key))) past took

    b : SentBefore (seal_of covered key) w.entry w.earlier
    b = (good_tail d (w.entry ∷ w.earlier) past w.tail g).unforged.0 (seal_of covered key) (ap seal_taken w.is)

    z : (a : List Entry) × Tail (b.entry ∷ a) w.earlier
    z = place b.entry w.earlier b.there

    z_tail : Tail (b.entry ∷ z.0) past
    z_tail = tail_trans (b.entry ∷ z.0) w.earlier past z.1 (tail_rest w.entry w.earlier past w.tail)

    sent_seal : SealSent d b.entry.node (history b.entry.node z.0) b.entry.act (seal_of covered key)
    sent_seal = seal_there d b.entry.node (history b.entry.node z.0) b.entry.act (seal_of covered key) (good_tail d (b.entry ∷ z.0) past z_tail g).legal.0 b.is

    s : Sender d n p b.entry.node covered key number plain z.0
    s = sender_is d n p b.entry.node covered key number plain past z.0 g (tail_rest b.entry z.0 past z_tail) c whole of
        (frame_of d b.entry.node (history b.entry.node z.0) sent_seal.peer sent_seal.kind (seal_of covered key) c.form sent_seal.sealing)

-- whose key it is under which a payload is handed up
key_of : (d : Domain) (n p : Node) (key : List ℕ) (id tid number : ℕ) (covered : List ℕ) (past : List Entry) → Good d past → OpensUnder d n (history n past) p key id tid number covered → KeyOf d n p key past
key_of d n p key id tid number covered past g (With_session i s is none tid_is mine above) = Pair_key i (derived_at d n p i past g.legal (session_verified d n p i past g s).derived) is mine
key_of d n p key id tid number covered past g (With_group station which b there tid_is above) = Group_key which (group_earlier which d n p key id b past g there).0

up_from_data : (d : Domain) (n p : Node) (key : List ℕ) (id tid number : ℕ) (plain : List ℕ) (past : List Entry) → Good d past → (l : LegalUp d n (history n past) p key id tid number plain) → DataFrom d n p l.covered key number plain past
up_from_data d n p key id tid number plain past g l = data_from d n p l.kind l.octets l.covered key number plain past g l.took l.covers l.whole l.roles (key_of d n p key id tid number l.covered past g l.under)

-- ---- two frames of one node under one key with one number are one

act_sent : (d : Domain) (n p : Node) (covered key : List ℕ) (number : ℕ) (plain : List ℕ) (past : List Entry) → DataFrom d n p covered key number plain past → Act
act_sent d n p covered key number plain past a = Sent a.peer a.kind a.octets (Some (seal_of covered key))

apart_by : (s u e : Act) (rest later : List Act) → use_of s ≡ None → (v : Use) → use_of e ≡ Some v → Tail (s ∷ u ∷ rest) (e ∷ later) → In u later
apart_by s u e rest later none v some (inl is) = let same_act : s ≡ e = cc is in let w : None ≡ Some v = sym none ∙ ap use_of same_act ∙ some in absurd (cc w)
apart_by s u e rest later none v some (inr t) = tail_in (s ∷ u ∷ rest) later u t (inr (inl refl))

-- the second use stands behind the first frame
sent_apart : (d : Domain) (n p : Node) (c1 c2 key : List ℕ) (number : ℕ) (o1 o2 : List ℕ) (past : List Entry) → Good d past → (a : DataFrom d n p c1 key number o1 past) → (b : DataFrom d n p c2 key number o2 past) → Tail (a.sent.entry ∷ a.sent.earlier) b.sent.earlier → ⊥
sent_apart d n p c1 c2 key number o1 o2 past g a b t =
    use_clash d p (Used b.q key b.id number o2) (Used a.q key a.id number o1) (use_as key number o2) (use_as key number o1) top.at.earlier (good_tail d top.at.earlier b.sent.earlier (earlier_tail p (Used b.q key b.id number o2) b.sent.earlier top.at) good_b)
    (legal_at d p (Used b.q key b.id number o2) b.sent.earlier good_b.legal top.at)
    (subst (λ (x : List Act). In (Used a.q key a.id number o1) x) (sym top.before) deep) refl refl refl refl
  where
    good_b : Good d b.sent.earlier
    good_b = good_tail d b.sent.earlier past (earlier_tail p (Sent b.peer b.kind b.octets (Some (seal_of c2 key))) past b.sent) g

    top : Head p (Used b.q key b.id number o2) b.rest b.sent.earlier
    top = head p (Used b.q key b.id number o2) b.rest b.sent.earlier b.is

    sent1 : Act
    sent1 = Sent a.peer a.kind a.octets (Some (seal_of c1 key))

    own : history p (a.sent.entry ∷ a.sent.earlier) ≡ sent1 ∷ Used a.q key a.id number o1 ∷ a.rest
    own = rw (a.sent.at, same-refl p, a.sent.is, a.is) refl

    tail : Tail (sent1 ∷ Used a.q key a.id number o1 ∷ a.rest) (Used b.q key b.id number o2 ∷ b.rest)
    tail = subst (λ (x : List Act). Tail x (Used b.q key b.id number o2 ∷ b.rest)) own (subst (λ (x : List Act). Tail (history p (a.sent.entry ∷ a.sent.earlier)) x) b.is (history_tail p (a.sent.entry ∷ a.sent.earlier) b.sent.earlier t))

    deep : In (Used a.q key a.id number o1) b.rest
    deep = apart_by sent1 (Used a.q key a.id number o1) (Used b.q key b.id number o2) a.rest b.rest refl (use_as key number o2) refl tail

abbrev covered_in : Act → List ℕ
covered_in (Sent q k octets (Some s)) = s.octets
covered_in _ = []

one_frame : (d : Domain) (n p : Node) (c1 c2 key : List ℕ) (number : ℕ) (o1 o2 : List ℕ) (past : List Entry) → Good d past → DataFrom d n p c1 key number o1 past → DataFrom d n p c2 key number o2 past → c1 ≡ c2
one_frame d n p c1 c2 key number o1 o2 past g a b = go (order a.sent.entry a.sent.earlier b.sent.entry b.sent.earlier past a.sent.tail b.sent.tail)
  where
    go : Order a.sent.entry a.sent.earlier b.sent.entry b.sent.earlier → c1 ≡ c2
    go (Same is are) = let e : Sent a.peer a.kind a.octets (Some (seal_of c1 key)) ≡ Sent b.peer b.kind b.octets (Some (seal_of c2 key)) = sym a.sent.is ∙ ap (λ (x : Entry). x.act) is ∙ b.sent.is in ap covered_in e
    go (First t) = absurd (sent_apart d n p c1 c2 key number o1 o2 past g a b t)
    go (Second t) = absurd (sent_apart d n p c2 c1 key number o2 o1 past g b a t)

-- ---- a counter is not below what was handed up: its key is installed once

session_installed : (d : Domain) (n p : Node) (i : Inputs) (past : List Entry) → Good d past → session p (history n past) ≡ Some (keyed_by i) → In (Installed (One p) (Pairwise (ptk i).tk i)) (history n past)
session_installed d n p i past g s =
    let w = at_of n (Finished p i) past (session_finished d n p (history n past) (keyed_by i) (legal_history d n past g.legal) s) in
    let f : LegalFinished d n (history n w.earlier) p i = legal_at d n (Finished p i) past g.legal w in
    tail_in (history n w.earlier) (history n past) (Installed (One p) (Pairwise (ptk i).tk i)) (history_tail n w.earlier past (earlier_tail n (Finished p i) past w)) f.installed

-- the key of what was handed up had been installed
up_installed : (d : Domain) (n p : Node) (key : List ℕ) (id tid number : ℕ) (covered : List ℕ) (past : List Entry) → Good d past → OpensUnder d n (history n past) p key id tid number covered → (y : Act) × (In y (history n past) × Installs y key)
up_installed d n p key id tid number covered past g (With_session i s is none tid_is mine above) =
    (Installed (One p) (Pairwise (ptk i).tk i), (session_installed d n p i past g s, WithPeer p i (ap (λ (x : List ℕ). Installed (One p) (Pairwise x i)) (sym is))))
up_installed d n p key id tid number covered past g (With_group station which b there tid_is above) = (Installed (One p) (Group which key id b), (there, FromPeer which p id b refl))

had_up : (d : Domain) (n p : Node) (key : List ℕ) (id tid number : ℕ) (plain : List ℕ) (past : List Entry) → Good d past → In (HandedUp p key id tid number plain) (history n past) → (y : Act) × (In y (history n past) × Installs y key)
had_up d n p key id tid number plain past g there =
    let act : Act = HandedUp p key id tid number plain in
    let w = at_of n act past there in
    let t = earlier_tail n act past w in
    let l : LegalUp d n (history n w.earlier) p key id tid number plain = legal_at d n act past g.legal w in
    let y = up_installed d n p key id tid number l.covered w.earlier (good_tail d w.earlier past t g) l.under in
    (y.0, (tail_in (history n w.earlier) (history n past) y.0 (history_tail n w.earlier past t) y.1.0, y.1.1))

-- pairwise keys
pairwise_keeps : (p : Node) (key : List ℕ) (tid : ℕ) (e : Act) (before : ℕ) → (Installs e key → ⊥) → before ≤ pairwise_got_by p key tid e before
pairwise_keeps p key tid (Installed (One q) (Pairwise k i)) before none = go (same p q && bytes_eq key k) refl
  where
    go : (b : Bool) → (same p q && bytes_eq key k) ≡ b → before ≤ cond b 0 before
    go false is = omega arith
    go true is =
        let w = and_parts (same p q) (bytes_eq key k) is in
        let one : key ≡ k = (bytes_eq-Decides key k).0 w.1 in
        absurd (none (WithPeer q i (ap (λ (x : List ℕ). Installed (One q) (Pairwise x i)) (sym one))))
pairwise_keeps p key tid (HandedUp q k i t number plain) before none = go (is_key p key 0 q k i && (tid == t))
  where
    go : (b : Bool) → before ≤ cond b (max number before) before
    go true = omega arith
    go false = omega arith
pairwise_keeps p key tid _ before none = omega arith

pairwise_own : (p : Node) (key : List ℕ) (tid number : ℕ) (plain : List ℕ) (before : ℕ) → number ≤ pairwise_got_by p key tid (HandedUp p key 0 tid number plain) before
pairwise_own p key tid number plain before = rw (same-refl p, (bytes_eq-Decides key key).1 refl, eq-eqb tid tid refl) (omega arith)

pairwise_at : (d : Domain) (n p : Node) (key : List ℕ) (tid number : ℕ) (plain : List ℕ) (l : Entry) (past : List Entry) → Good d (l ∷ past) → l.node ≡ n → (In (HandedUp p key 0 tid number plain) (history n past) → number ≤ pairwise_got p key tid (history n past))
    → (HandedUp p key 0 tid number plain ≡ l.act) ⊎ In (HandedUp p key 0 tid number plain) (history n past) → number ≤ pairwise_got p key tid (l.act ∷ history n past)
pairwise_at d n p key tid number plain l past g at more (inl here) = subst (λ (x : Act). number ≤ pairwise_got_by p key tid x (pairwise_got p key tid (history n past))) here (pairwise_own p key tid number plain (pairwise_got p key tid (history n past)))
pairwise_at d n p key tid number plain l past g at more (inr later) =
    let good = good_tail d past (l ∷ past) (inr (tail_refl past)) g in
    let had = had_up d n p key 0 tid number plain past good later in
    let legal : Legal d n (history n past) l.act = subst (λ (x : Node). Legal d x (history x past) l.act) at g.legal.0 in
    let keeps = pairwise_keeps p key tid l.act (pairwise_got p key tid (history n past)) (λ again. once_by d n l.act had.0 key past good legal had.1.0 again had.1.1) in
    omega (arith, keeps, more later)

pairwise_by : (d : Domain) (n p : Node) (key : List ℕ) (tid number : ℕ) (plain : List ℕ) (l : Entry) (past : List Entry) → Good d (l ∷ past) → (In (HandedUp p key 0 tid number plain) (history n past) → number ≤ pairwise_got p key tid (history n past)) → (b : Bool) → same n l.node ≡ b
    → In (HandedUp p key 0 tid number plain) (cond b (l.act ∷ history n past) (history n past)) → number ≤ pairwise_got p key tid (cond b (l.act ∷ history n past) (history n past))
pairwise_by d n p key tid number plain l past g more true is there = pairwise_at d n p key tid number plain l past g (sym (same-true n l.node is)) more there
pairwise_by d n p key tid number plain l past g more false is there = more there

pairwise_kept : (d : Domain) (n p : Node) (key : List ℕ) (tid number : ℕ) (plain : List ℕ) (past : List Entry) → Good d past → In (HandedUp p key 0 tid number plain) (history n past) → number ≤ pairwise_got p key tid (history n past)
pairwise_kept d n p key tid number plain [] g there = absurd there
pairwise_kept d n p key tid number plain (l ∷ past) g there =
    pairwise_by d n p key tid number plain l past g (pairwise_kept d n p key tid number plain past (good_tail d past (l ∷ past) (inr (tail_refl past)) g)) (same n l.node) refl there

-- group keys
group_keeps : (which : GroupKind) (p : Node) (key : List ℕ) (id : ℕ) (e : Act) (heard before : ℕ) → (Installs e key → ⊥) → before ≤ got_by which p key id e heard before
group_keeps which p key id (Installed (One q) (Group other k i b)) heard before none = go (same_group_kind which other) (is_key p key id q k i) refl
  where
    go : (t c : Bool) → is_key p key id q k i ≡ c → before ≤ cond t (cond c heard before) before
    go false c is = omega arith
    go true false is = omega arith
    go true true is =
        let w = and_parts (same p q && bytes_eq key k) (id == i) is in
        let one : key ≡ k = (bytes_eq-Decides key k).0 (and_parts (same p q) (bytes_eq key k) w.0).1 in
        absurd (none (FromPeer other q i b (ap (λ (x : List ℕ). Installed (One q) (Group other x i b)) (sym one))))
group_keeps which p key id (Resumed q (Group other k i b)) heard before none = go (same_group_kind which other) (is_key p key id q k i)
  where
    go : (t c : Bool) → before ≤ cond t (cond c (max heard before) before) before
    go false c = omega arith
    go true true = omega arith
    go true false = omega arith
group_keeps which p key id (HandedUp q k i tid number plain) heard before none = go (is_key p key id q k i)
  where
    go : (c : Bool) → before ≤ cond c (max number before) before
    go true = omega arith
    go false = omega arith
group_keeps which p key id _ heard before none = omega arith

group_own : (which : GroupKind) (p : Node) (key : List ℕ) (id tid number : ℕ) (plain : List ℕ) (heard before : ℕ) → number ≤ got_by which p key id (HandedUp p key id tid number plain) heard before
group_own which p key id tid number plain heard before = rw (same-refl p, (bytes_eq-Decides key key).1 refl, eq-eqb id id refl) (omega arith)

-- a kept number, by the last act and by the number before it
got_before : (which : GroupKind) (p : Node) (key : List ℕ) (id : ℕ) (e : Act) (h : List Act) (kept : ℕ) → IsGot which p key id (e ∷ h) kept → (heard : ℕ) × ((before : ℕ) × (IsGot which p key id h before × (kept ≡ got_by which p key id e heard before)))
got_before groups.Gtk p key id e h kept is = (told p h, (got p key id h, (refl, is)))
got_before groups.Igtk p key id e h kept is = (is.0, (is.1.1.0, (is.1.1.1.0, is.1.1.1.1)))

-- no number that is kept is below this
abbrev KeepsAll : GroupKind → Node → List ℕ → ℕ → ℕ → List Act → Type 0
KeepsAll which p key id number h = (kept : ℕ) → IsGot which p key id h kept → number ≤ kept

group_at : (which : GroupKind) (d : Domain) (n p : Node) (key : List ℕ) (id tid number : ℕ) (plain : List ℕ) (l : Entry) (past : List Entry) → Good d (l ∷ past) → l.node ≡ n → (In (HandedUp p key id tid number plain) (history n past) → KeepsAll which p key id number (history n past))
    → (HandedUp p key id tid number plain ≡ l.act) ⊎ In (HandedUp p key id tid number plain) (history n past) → KeepsAll which p key id number (l.act ∷ history n past)
group_at which d n p key id tid number plain l past g at more (inl here) kept is =
    let w = got_before which p key id l.act (history n past) kept is in
    let own : number ≤ got_by which p key id l.act w.0 w.1.0 = subst (λ (x : Act). number ≤ got_by which p key id x w.0 w.1.0) here (group_own which p key id tid number plain w.0 w.1.0) in
    omega (arith, own, w.1.1.1)
group_at which d n p key id tid number plain l past g at more (inr later) kept is =
    let w = got_before which p key id l.act (history n past) kept is in
    let good = good_tail d past (l ∷ past) (inr (tail_refl past)) g in
    let had = had_up d n p key id tid number plain past good later in
    let legal : Legal d n (history n past) l.act = subst (λ (x : Node). Legal d x (history x past) l.act) at g.legal.0 in
    let keeps = group_keeps which p key id l.act w.0 w.1.0 (λ again. once_by d n l.act had.0 key past good legal had.1.0 again had.1.1) in
    let low = more later w.1.0 w.1.1.0 in
    omega (arith, keeps, low, w.1.1.1)

group_by : (which : GroupKind) (d : Domain) (n p : Node) (key : List ℕ) (id tid number : ℕ) (plain : List ℕ) (l : Entry) (past : List Entry) → Good d (l ∷ past) → (In (HandedUp p key id tid number plain) (history n past) → KeepsAll which p key id number (history n past)) → (b : Bool) → same n l.node ≡ b
    → In (HandedUp p key id tid number plain) (cond b (l.act ∷ history n past) (history n past)) → KeepsAll which p key id number (cond b (l.act ∷ history n past) (history n past))
group_by which d n p key id tid number plain l past g more true is there = group_at which d n p key id tid number plain l past g (sym (same-true n l.node is)) more there
group_by which d n p key id tid number plain l past g more false is there = more there

group_kept : (which : GroupKind) (d : Domain) (n p : Node) (key : List ℕ) (id tid number : ℕ) (plain : List ℕ) (past : List Entry) → Good d past → In (HandedUp p key id tid number plain) (history n past) → KeepsAll which p key id number (history n past)
group_kept which d n p key id tid number plain [] g there = absurd there
group_kept which d n p key id tid number plain (l ∷ past) g there =
    group_by which d n p key id tid number plain l past g (group_kept which d n p key id tid number plain past (good_tail d past (l ∷ past) (inr (tail_refl past)) g)) (same n l.node) refl there

-- what was handed up was so before an act that hands nothing up
up_before : (up e : Act) (u : Use) (h : List Act) → up_of e ≡ None → up_of up ≡ Some u → (up ≡ e) ⊎ In up h → In up h
up_before up e u h none some (inl here) = let w : None ≡ Some u = sym none ∙ sym (ap up_of here) ∙ some in absurd (cc w)
up_before up e u h none some (inr later) = later

-- so the number that was kept before the last act is not below it
kept_now : (which : GroupKind) (d : Domain) (n p : Node) (key : List ℕ) (id tid number other : ℕ) (plain : List ℕ) (past : List Entry) → Good d past → (a : IsAbove which p key id other (history n past)) → In (HandedUp p key id tid number plain) (history n past) → number ≤ a.kept
kept_now which d n p key id tid number other plain past g a there =
    let up : Act = HandedUp p key id tid number plain in
    let e = end_of n a.before past (subst (λ (y : List Act). Tail a.before y) (sym a.is) (inr (tail_refl a.before))) in
    let was : In up a.before = up_before up a.act (use_as key number plain) a.before a.no_up refl (subst (λ (y : List Act). In up y) a.is there) in
    group_kept which d n p key id tid number plain e.journal (good_tail d e.journal past e.tail g) (subst (λ (y : List Act). In up y) (sym e.is) was) a.kept
    (subst (λ (y : List Act). IsGot which p key id y a.kept) (sym e.is) a.got)

-- ---- a group key that a station has from one access point has one key id

one_id_by : (which : GroupKind) (d : Domain) (n p : Node) (key : List ℕ) (id other : ℕ) (b c : Mac) (l : Entry) (past : List Entry) → Good d (l ∷ past)
    → (In (Installed (One p) (Group which key id b)) (history n past) → In (Installed (One p) (Group which key other c)) (history n past) → id ≡ other) → (t : Bool) → same n l.node ≡ t
    → In (Installed (One p) (Group which key id b)) (cond t (l.act ∷ history n past) (history n past)) → In (Installed (One p) (Group which key other c)) (cond t (l.act ∷ history n past) (history n past)) → id ≡ other
one_id_by which d n p key id other b c l past g more false is x y = more x y
one_id_by which d n p key id other b c l past g more true is x y = go x y
  where
    good : Good d past
    good = good_tail d past (l ∷ past) (inr (tail_refl past)) g

    legal : Legal d n (history n past) l.act
    legal = subst (λ (z : Node). Legal d z (history z past) l.act) (sym (same-true n l.node is)) g.legal.0

    go : (Installed (One p) (Group which key id b) ≡ l.act) ⊎ In (Installed (One p) (Group which key id b)) (history n past) → (Installed (One p) (Group which key other c) ≡ l.act) ⊎ In (Installed (One p) (Group which key other c)) (history n past) → id ≡ other
    go (inl u) (inl v) = let one : Installed (One p) (Group which key id b) ≡ Installed (One p) (Group which key other c) = u ∙ sym v in cc one
    go (inl u) (inr v) = absurd (once_by d n l.act (Installed (One p) (Group which key other c)) key past good legal v (FromPeer which p id b (sym u)) (FromPeer which p other c refl))
    go (inr u) (inl v) = absurd (once_by d n l.act (Installed (One p) (Group which key id b)) key past good legal u (FromPeer which p other c (sym v)) (FromPeer which p id b refl))
    go (inr u) (inr v) = more u v

one_id : (which : GroupKind) (d : Domain) (n p : Node) (key : List ℕ) (id other : ℕ) (b c : Mac) (past : List Entry) → Good d past → In (Installed (One p) (Group which key id b)) (history n past) → In (Installed (One p) (Group which key other c)) (history n past) → id ≡ other
one_id which d n p key id other b c [] g x y = absurd x
one_id which d n p key id other b c (l ∷ past) g x y = one_id_by which d n p key id other b c l past g (one_id which d n p key id other b c past (good_tail d past (l ∷ past) (inr (tail_refl past)) g)) (same n l.node) refl x y

-- ---- a payload is handed up once

data Ups (e : Act) (key : List ℕ) (number : ℕ) (plain : List ℕ) : Type 0 where
  From : (p : Node) (id tid : ℕ) → e ≡ HandedUp p key id tid number plain → Ups e key number plain

ups_view : (e : Act) (u : Use) → up_of e ≡ Some u → Ups e u.key u.number u.octets
ups_view (HandedUp p key id tid number plain) u is = let w : record { key = key; number = number; octets = plain } ≡ u = cc is in From p id tid (ap (λ (x : Use). HandedUp p x.key id tid x.number x.octets) w)
ups_view _ u is = cc

-- by the kinds of the keys of and_parts
clash_by : (d : Domain) (n p q : Node) (key : List ℕ) (id id2 tid tid2 number : ℕ) (plain other : List ℕ) (past past2 : List Entry) → Good d past → Tail past2 past → (l : LegalUp d n (history n past) p key id tid number plain) → (m : LegalUp d n (history n past2) q key id2 tid2 number other) → In (HandedUp q key id2 tid2 number other) (history n past)
    → OpensUnder d n (history n past) p key id tid number l.covered → OpensUnder d n (history n past2) q key id2 tid2 number m.covered → ⊥
clash_by d n p q key id id2 tid tid2 number plain other past past2 g t l m there (With_session i s is zero_id tid_is mine above) (With_session k s2 is2 zero_id2 tid_is2 mine2 above2) =
    let good2 = good_tail d past2 past t g in
    let ours = derived_at d n p i past g.legal (session_verified d n p i past g s).derived in
    let one = one_tk d n p q i k past g ours (verified_wider n q k past2 past t (session_verified d n q k past2 good2 s2)) (sym is ∙ is2) in
    let a = up_from_data d n p key id tid number plain past g l in
    let m_took = tail_in (history n past2) (history n past) (Took (Some q) m.octets m.kind Accepted (Some (seal_of m.covered key))) (history_tail n past2 past t) m.took in
    let b = data_from d n p m.kind m.octets m.covered key number other past g (subst (λ (x : Node). In (Took (Some x) m.octets m.kind Accepted (Some (seal_of m.covered key))) (history n past)) (sym one.peer) m_took) m.covers l.whole l.roles (Pair_key i ours is mine) in
    let frames : l.covered ≡ m.covered = one_frame d n p l.covered m.covered key number plain other past g a b in
    let tids : tid2 ≡ tid = tid_is2 ∙ ap covered_tid (sym frames) ∙ sym tid_is in
    let here : In (HandedUp p key 0 tid number other) (history n past) =
    subst (λ (x : Node). In (HandedUp x key 0 tid number other) (history n past)) (sym one.peer)
    (subst (λ (x : ℕ). In (HandedUp q key x tid number other) (history n past)) zero_id2 (subst (λ (x : ℕ). In (HandedUp q key id2 x number other) (history n past)) tids there)) in
    let low : number ≤ pairwise_got p key tid (history n past) = pairwise_kept d n p key tid number other past g here in
    omega (arith, low, above)
clash_by d n p q key id id2 tid tid2 number plain other past past2 g t l m there (With_session i s is zero_id tid_is mine above) (With_group station which b given tid_is2 above2) =
    let ours = derived_at d n p i past g.legal (session_verified d n p i past g s).derived in
    let was = tail_in (history n past2) (history n past) (Installed (One q) (Group which key id2 b)) (history_tail n past2 past t) given in
    clash which d n p q i key past g ours is (group_earlier which d n q key id2 b past g was).0
clash_by d n p q key id id2 tid tid2 number plain other past past2 g t l m there (With_group station which b given tid_is above) (With_session k s2 is2 zero_id2 tid_is2 mine2 above2) =
    let good2 = good_tail d past2 past t g in
    let theirs = derived_wider d n q k past2 past t (derived_at d n q k past2 good2.legal (session_verified d n q k past2 good2 s2).derived) in
    clash which d n q p k key past g theirs is2 (group_earlier which d n p key id b past g given).0
clash_by d n p q key id id2 tid tid2 number plain other past past2 g t l m there (With_group station which b given tid_is above) (With_group station2 which2 b2 given2 tid_is2 above2) =
    let was = tail_in (history n past2) (history n past) (Installed (One q) (Group which2 key id2 b2)) (history_tail n past2 past t) given2 in
    let mine = (group_earlier which d n p key id b past g given).0 in
    let theirs = (group_earlier which2 d n q key id2 b2 past g was).0 in
    let one : q ≡ p = one_drawer q p key past g.fresh (draws_of q (Drew (draw.Group which2 key)) key past refl (group_key_drew which2 key (history q past) theirs)) (draws_of p (Drew (draw.Group which key)) key past refl (group_key_drew which key (history p past) mine)) in
    let kinds_are : which2 ≡ which = same_kinds which2 which d q p key past g theirs mine in
    let here_too : In (Installed (One p) (Group which key id2 b2)) (history n past) =
    subst (λ (k : GroupKind). In (Installed (One p) (Group k key id2 b2)) (history n past)) kinds_are (subst (λ (x : Node). In (Installed (One x) (Group which2 key id2 b2)) (history n past)) one was) in
    let ids : id2 ≡ id = one_id which d n p key id2 id b2 b past g here_too given in
    let here : In (HandedUp p key id tid2 number other) (history n past) =
    subst (λ (x : Node). In (HandedUp x key id tid2 number other) (history n past)) one (subst (λ (x : ℕ). In (HandedUp q key x tid2 number other) (history n past)) ids there) in
    let low : number ≤ above.kept = kept_now which d n p key id tid2 number number other past g above here in
    omega (arith, low, above.above)

up_clash_by : (d : Domain) (n : Node) (e x : Act) (key : List ℕ) (number : ℕ) (plain other : List ℕ) (past : List Entry) → Good d past → Legal d n (history n past) e → In x (history n past) → Ups e key number plain → Ups x key number other → ⊥
up_clash_by d n e x key number plain other past g legal there (From p id tid is) (From q id2 tid2 was) =
    let l : LegalUp d n (history n past) p key id tid number plain = subst (λ (y : Act). Legal d n (history n past) y) is legal in
    let there2 : In (HandedUp q key id2 tid2 number other) (history n past) = subst (λ (y : Act). In y (history n past)) was there in
    let w = at_of n (HandedUp q key id2 tid2 number other) past there2 in
    let m : LegalUp d n (history n w.earlier) q key id2 tid2 number other = legal_at d n (HandedUp q key id2 tid2 number other) past g.legal w in
    clash_by d n p q key id id2 tid tid2 number plain other past w.earlier g (earlier_tail n (HandedUp q key id2 tid2 number other) past w) l m there2 l.under m.under

up_clash : (d : Domain) (n : Node) (e x : Act) (u v : Use) (past : List Entry) → Good d past → Legal d n (history n past) e → In x (history n past) → up_of e ≡ Some u → up_of x ≡ Some v → u.key ≡ v.key → u.number ≡ v.number → ⊥
up_clash d n e x u v past g legal there is was keys numbers =
    up_clash_by d n e x u.key u.number u.octets v.octets past g legal there (ups_view e u is)
    (subst (λ (y : ℕ). Ups x u.key y v.octets) (sym numbers) (subst (λ (y : List ℕ). Ups x y v.number v.octets) (sym keys) (ups_view x v was)))

pub up_once : (d : Domain) (past : List Entry) → Good d past → Once up_of past
up_once d [] g = tt
up_once d (l ∷ past) g = (
  (λ m u v there at is was keys numbers. up_clash d l.node l.act m.act u v past (good_tail d past (l ∷ past) (inr (tail_refl past)) g) g.legal.0
      (subst (λ (x : Node). In m.act (history x past)) at (in_history m past there)) is was keys numbers),
  up_once d past (good_tail d past (l ∷ past) (inr (tail_refl past)) g),
)

-- ---- and its peer had used it

source_of : (d : Domain) (l : Entry) (past : List Entry) → Good d (l ∷ past) → (p : Node) (covered key : List ℕ) (number : ℕ) (plain : List ℕ) → DataFrom d l.node p covered key number plain past → UsedBefore p (use_as key number plain) l past
source_of d l past g p covered key number plain w =
    let used_act : Act = Used w.q key w.id number plain in
    let top = head p used_act w.rest w.sent.earlier w.is in
    let frame : Act = Sent w.peer w.kind w.octets (Some (seal_of covered key)) in
    let e_tail = earlier_tail p frame past w.sent in
    let good = good_tail d past (l ∷ past) (inr (tail_refl past)) g in
    let there = tail_head top.at.entry top.at.earlier w.sent.earlier top.at.tail in
    let a : top.at.entry.round ≤ w.sent.entry.round = (good_tail d (w.sent.entry ∷ w.sent.earlier) past w.sent.tail good).legal.1 top.at.entry there in
    let b : w.taken.round ≤ l.round = g.legal.1 w.taken w.taken_in in
    let c : w.sent.entry.round < w.taken.round = w.rounds in
    record { entry = top.at.entry; there = tail_in w.sent.earlier past top.at.entry e_tail there; before = inl (omega (arith, a, b, c)); at = top.at.at; is = ap use_of top.at.is }

sourced_by : (d : Domain) (l : Entry) (past : List Entry) → Good d (l ∷ past) → (p : Node) (u : Use) → (e : Act) → Legal d l.node (history l.node past) e → up_of e ≡ Some u → up_from e ≡ Some p → UsedBefore p u l past
sourced_by d l past g p u (HandedUp q key id tid number plain) legal is from =
    let good = good_tail d past (l ∷ past) (inr (tail_refl past)) g in
    let w = source_of d l past g q legal.covered key number plain (up_from_data d l.node q key id tid number plain past good legal) in
    let one : q ≡ p = cc from in
    let same_use : use_as key number plain ≡ u = cc is in
    subst (λ (x : Use). UsedBefore p x l past) same_use (subst (λ (x : Node). UsedBefore x (use_as key number plain) l past) one w)
sourced_by d l past g p u _ legal is from = cc

pub sourced : (d : Domain) (past : List Entry) → Good d past → Sourced past
sourced d [] g = tt
sourced d (l ∷ past) g = ((λ p u is from. sourced_by d l past g p u l.act g.legal.0 is from), sourced d past (good_tail d past (l ∷ past) (inr (tail_refl past)) g))

-- ---- and sent it in a frame

sent_with : (d : Domain) (l : Entry) (past : List Entry) → Good d (l ∷ past) → (p : Node) (covered : List ℕ) (u : Use) → DataFrom d l.node p covered u.key u.number u.octets past → SentWith p u l past
sent_with d l past g p covered u w =
    let front = front_of (w.sent.entry ∷ w.sent.earlier) past w.sent.tail in
    let taken : w.taken.round ≤ l.round = g.legal.1 w.taken w.taken_in in
    let sent : w.sent.entry.round < w.taken.round = w.rounds in
    record {
      later = front.0;
      entry = w.sent.entry;
      earlier = w.sent.earlier;
      there = front.1;
      before = inl (omega (arith, taken, sent));
      at = w.sent.at;
      to = w.peer;
      kind = w.kind;
      octets = w.octets;
      covered = covered;
      sent = w.sent.is;
      receiver = w.q;
      id = w.id;
      acts = w.rest;
      used = w.is;
    }

-- a group key is an access point's
of_group : (d : Domain) (n p : Node) (h : List Act) (key : List ℕ) (id tid number : ℕ) (covered : List ℕ) → OpensUnder d n h p key id tid number covered → is_ap p ≡ not (is_ap n) → (id ≡ 0 → ⊥) → is_ap p ≡ true
of_group d n p h key id tid number covered (With_session i s is zero_id tid_is mine above) roles other = absurd (other zero_id)
of_group d n p h key id tid number covered (With_group station which b given tid_is above) roles other = roles ∙ ap not station

sent_at : (d : Domain) (l : Entry) (past : List Entry) → Good d (l ∷ past) → SentAt l past
sent_at d l past g p u id tid is =
    let legal : LegalUp d l.node (history l.node past) p u.key id tid u.number u.octets = subst (λ (y : Act). Legal d l.node (history l.node past) y) is g.legal.0 in
    let good = good_tail d past (l ∷ past) (inr (tail_refl past)) g in
    record {
      frame = sent_with d l past g p legal.covered u (up_from_data d l.node p u.key id tid u.number u.octets past good legal);
      access_point = of_group d l.node p (history l.node past) u.key id tid u.number legal.covered legal.under legal.roles;
    }

pub from_frames : (d : Domain) (past : List Entry) → Good d past → FromFrames past
from_frames d [] g = tt
from_frames d (l ∷ past) g = (sent_at d l past g, from_frames d past (good_tail d past (l ∷ past) (inr (tail_refl past)) g))
