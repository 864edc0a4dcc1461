-- Journals that are a world's own, and stay so.
use Rattle.std.proofs.Common.{◌≡◌, ℕ, suc, ◌<◌, ◌≤◌, ◌-◌, true, false, List, [], ◌∷◌, length, reverse, Some, Option, refl, sym, ap, subst, ◌∙◌, arith, length-append}
use Rattle.std.specs.Prelude.{slice_get, slice_index_or}
use Rattle.std.specs.List.{AllByRecursion}
use Rattle.std.proofs.lemmas.List.{length-reverse}
use Rattle.std.proofs.lemmas.Option.{slice_get_within, slice_get_read}
use Rattle.domain_base.specs.Octets.{AreOctets}
use Rattle.domain_base.specs.declared.names.Mac.{Mac}
use Rattle.domain_base.specs.declared.names.Node.{Node}
use Rattle.domain_base.specs.declared.names.Node.TheVariants.{Ap, Sta}
use Rattle.domain_base.specs.declared.names.Peer.{Peer}
use Rattle.run_journal.specs.declared.domain.Domain.{Domain}
use Rattle.run_journal.specs.declared.domain.Event.{Event}
use Rattle.run_journal.specs.declared.acts.Kind.{Kind}
use Rattle.run_journal.specs.declared.acts.Seal.{Seal}
use Rattle.run_journal.specs.declared.acts.Act.{Act}
use Rattle.run_journal.specs.declared.acts.Act.TheVariants.{Sent}
use Rattle.run_journal.specs.declared.acts.Entry.{Entry}
use Rattle.run_journal.specs.Acts.{is_sent}
use Rattle.run_journal.specs.Questions.{history}
use Rattle.run_journal.specs.Secrets.{is_secret, last_secret_in}
use Rattle.air_frame.specs.Sent.{IsAddress}
use Rattle.rsn_elements.proofs.Cuts.{All-push}
use Rattle.run_journal.specs.declared.domain.ListedAp.{ListedAp}
use Rattle.run_journal.specs.declared.domain.ListedSta.{ListedSta}
use Rattle.domain_rules.specs.Network.{InForm}
use Rattle.run_journal.specs.Events.{IsListed}
use Rattle.domain_rules.specs.InOctets.{InOctets}
use Rattle.domain_rules.specs.AccessPointRows.{start_acts}
use Rattle.domain_rules.specs.HeldRight.{AnsweredInTime}
use Rattle.held_rows.specs.Looks.{NoLooks}
use Rattle.domain_world.proofs.Moments.{held_unasked, unasked_push}
use Rattle.held_rows.proofs.NoLooks.{start_no_looks}
use Rattle.domain_rules.specs.Rows.{NodeEvent}
use Rattle.domain_rules.specs.Explained.{push, HappensAt, Step, WasSent}
use Rattle.domain_rules.proofs.GroupActs.{all_started}
use Rattle.domain_rules.proofs.Journals.{step_at}
use Rattle.domain_rules.specs.Present.{present}
use Rattle.domain_rules.proofs.Unchanged.{NoSecrets, changes, adds_no_secret, last_push, unchanged_push, present_none, present_same}
use Rattle.run_journal.specs.declared.domain.Extra.{Extra}
use Rattle.run_journal.specs.Listing.{with_ap, with_sta, with_extra}
use Rattle.domain_world.specs.State.{State, Nodes}
use Rattle.domain_world.specs.Owning.{AreListed, Stand, IsPast, IsNumbered, places, nodes_of, Places, HoldNone, AskNone, ChangesNone, Owns, IsSince}
use Rattle.domain_world.specs.Acting.{Acted}
use Rattle.domain_world.proofs.Placed.{places_count, numbered_push, Placed, placed, all_in}
use Rattle.domain_world.proofs.Standing.{past_push, past_more, nothing_yet}

-- ---- what a larger network has is of octets

octets_ap : (d : Domain) (address : Mac) (r0kh_id : List ℕ) → InOctets d → IsAddress address.0 → AreOctets address.0 → AreOctets r0kh_id → InOctets (with_ap d address r0kh_id)
octets_ap d address r0kh_id in_d size in_address in_id =
    let x : ListedAp = record { address = address; r0kh_id = r0kh_id } in
    record {
      mdid = in_d.mdid;
      ap_sizes = All-push (λ (a : ListedAp). IsAddress a.address.0) d.aps x in_d.ap_sizes size;
      sta_sizes = in_d.sta_sizes;
      mdid_octets = in_d.mdid_octets;
      ap_octets = All-push (λ (a : ListedAp). AreOctets a.address.0) d.aps x in_d.ap_octets in_address;
      sta_octets = in_d.sta_octets;
      id_octets = All-push (λ (a : ListedAp). AreOctets a.r0kh_id) d.aps x in_d.id_octets in_id;
    }

abbrev listed_sta : Mac → List ℕ → ListedSta
listed_sta address psk = record { address = address; psk = psk }

octets_sta : (d : Domain) (address : Mac) (psk : List ℕ) → InOctets d → IsAddress address.0 → AreOctets address.0 → InOctets (with_sta d address psk)
octets_sta d address psk in_d size in_address = record {
  mdid = in_d.mdid;
  ap_sizes = in_d.ap_sizes;
  sta_sizes = All-push (λ (s : ListedSta). IsAddress s.address.0) d.stas (listed_sta address psk) in_d.sta_sizes size;
  mdid_octets = in_d.mdid_octets;
  ap_octets = in_d.ap_octets;
  sta_octets = All-push (λ (s : ListedSta). AreOctets s.address.0) d.stas (listed_sta address psk) in_d.sta_octets in_address;
  id_octets = in_d.id_octets;
}

pub octets_none : (d : Domain) → d.aps ≡ [] → d.stas ≡ [] → length d.mdid ≡ 2 → AreOctets d.mdid → InOctets d
octets_none d no_aps no_stas size in_mdid = record {
  mdid = size;
  ap_sizes = subst (AllByRecursion (λ (a : ListedAp). IsAddress a.address.0)) (sym no_aps) tt;
  sta_sizes = subst (AllByRecursion (λ (s : ListedSta). IsAddress s.address.0)) (sym no_stas) tt;
  mdid_octets = in_mdid;
  ap_octets = subst (AllByRecursion (λ (a : ListedAp). AreOctets a.address.0)) (sym no_aps) tt;
  sta_octets = subst (AllByRecursion (λ (s : ListedSta). AreOctets s.address.0)) (sym no_stas) tt;
  id_octets = subst (AllByRecursion (λ (a : ListedAp). AreOctets a.r0kh_id)) (sym no_aps) tt;
}

pub right_none : (d : Domain) → AnsweredInTime d []
right_none d = held_unasked d [] tt

-- of all rounds up to one, and before the next
pub all_below : (d : Domain) (rounds : ℕ) (j : List Entry) → AllByRecursion (IsPast d rounds) j → AllByRecursion (λ (e : Entry). e.round < suc rounds) j
all_below d rounds [] all = tt
all_below d rounds (e ∷ past) all = (omega (arith, all.0.round), all_below d rounds past all.1)

-- of all rounds up to one, and up to a later one
pub all_low : (rounds later : ℕ) (j : List Entry) → rounds ≤ later → AllByRecursion (λ (e : Entry). e.round ≤ rounds) j → AllByRecursion (λ (e : Entry). e.round ≤ later) j
all_low rounds later [] low all = tt
all_low rounds later (e ∷ past) low all = (omega (arith, all.0, low), all_low rounds later past low all.1)

-- ---- acts are put on the journal

pub up_to : (d : Domain) (rounds : ℕ) (j : List Entry) → AllByRecursion (IsPast d rounds) j → AllByRecursion (λ (e : Entry). e.round ≤ rounds) j
up_to d rounds [] all = tt
up_to d rounds (e ∷ past) all = (all.0.round, up_to d rounds past all.1)

pub placed_push : (old new : State) (round : ℕ) (node : Node) (acts : List Act) (j k : List Entry) → Places old j → k ≡ push round node acts j
    → ((n : Node) → IsListed old.domain n → IsListed new.domain n) → IsListed new.domain node → old.rounds ≤ new.rounds → round ≤ new.rounds → new.frames ≡ places k → Places new k
placed_push old new round node acts j k held is more listed later low noted = record {
  count = ap length noted ∙ places_count k;
  numbered = subst IsNumbered (sym is) (numbered_push round node acts j held.numbered);
  places = noted;
  past = subst (AllByRecursion (IsPast new.domain new.rounds)) (sym is)
      (past_push new.domain new.rounds round node acts j low listed (past_more old.domain new.domain old.rounds new.rounds j later more held.past));
}

-- ---- one event

-- where it changes no key the network is that of the header still, and key holders answered rightly
pub since_event : (c : Domain) (old new : State) (node : Node) (at : NodeEvent) (acts : List Act) (j k : List Entry) → IsSince c old j → AllByRecursion (IsPast old.domain old.rounds) j → changes at ≡ false
    → Acted node at j (nodes_of old) (nodes_of new) acts → new.domain ≡ old.domain → k ≡ push (suc old.rounds) node acts j → IsSince c new k
since_event c old new node at acts j k since past still acted domain is = record {
  is_present = present_same c k j (λ p. ap (last_secret_in p) is ∙ last_push p (suc old.rounds) node acts j (adds_no_secret old.domain 0 node (history node j) at acts still acted.adds)) ∙ since.is_present ∙ sym domain;
  right = subst (AnsweredInTime c) (sym is) (acted.right (suc old.rounds) (all_below old.domain old.rounds j past) c since.is_present since.right);
}

pub own_event : (old new : State) (node : Node) (at : NodeEvent) (acts : List Act) (j k : List Entry) → Owns old j → IsListed old.domain node → changes at ≡ false
    → Acted node at j (nodes_of old) (nodes_of new) acts → AreListed (nodes_of new) → new.domain ≡ old.domain → new.rounds ≡ suc old.rounds → new.usable ≡ old.usable → new.frames ≡ places k → k ≡ push (suc old.rounds) node acts j → Owns new k
own_event old new node at acts j k own listed still acted all domain rounds usable noted is = record {
  usable = usable ∙ own.usable;
  form = subst InForm (sym domain) own.form;
  octets = subst InOctets (sym domain) own.octets;
  listed = all;
  stand = subst (Stand (nodes_of new)) (sym is) (acted.stand (suc old.rounds));
  placed = placed_push old new (suc old.rounds) node acts j k own.placed is (λ n l. subst (λ (d : Domain). IsListed d n) (sym domain) l) (subst (λ (d : Domain). IsListed d node) (sym domain) listed)
      (omega (arith, rounds)) (omega (arith, rounds)) noted;
  unchanged = λ none. absurd (omega (arith, none, rounds));
  quiet = λ none. absurd (omega (arith, none, rounds));
  asked = λ none. absurd (omega (arith, none, rounds));
  header = (own.header.0, since_event own.header.0 old new node at acts j k own.header.1 own.placed.past still acted domain is);
}

pub step_event : (c : Domain) (old : State) (new : Nodes) (event : Event) (node : Node) (at : NodeEvent) (acts : List Act) (j k : List Entry) → present c j ≡ old.domain → HappensAt event j (suc old.rounds) node at
    → Acted node at j (nodes_of old) new acts → k ≡ push (suc old.rounds) node acts j → Step c (suc old.rounds) event j k
step_event c old new event node at acts j k network happens acted is =
    step_at c old.domain (suc old.rounds) event j k network (record { node = node; at_node = at; happens = happens; acts = acts; group = acted.adds; is = is })

-- ---- a node is listed

pub more_aps : (d : Domain) (address : Mac) (r0kh_id : List ℕ) (n : Node) → IsListed d n → IsListed (with_ap d address r0kh_id) n
more_aps d address r0kh_id (Ap k) l = omega (arith, length-append d.aps (record { address = address; r0kh_id = r0kh_id } ∷ []))
more_aps d address r0kh_id (Sta k) l = l

pub more_stas : (d : Domain) (address : Mac) (psk : List ℕ) (n : Node) → IsListed d n → IsListed (with_sta d address psk) n
more_stas d address psk (Ap k) l = l
more_stas d address psk (Sta k) l = omega (arith, length-append d.stas (listed_sta address psk ∷ []))

unlisted : (n : ℕ) → (n < n → ⊥)
unlisted n low = omega arith

-- an access point, which starts
pub own_ap : (old new : State) (address : Mac) (r0kh_id : List ℕ) (node : Node) (acts : List Act) (j k : List Entry) → Owns old j → old.rounds ≡ 0 → InForm (with_ap old.domain address r0kh_id) → IsAddress address.0 → AreOctets address.0 → AreOctets r0kh_id → node ≡ Ap (length old.domain.aps)
    → new.domain ≡ with_ap old.domain address r0kh_id → acts ≡ start_acts new.domain 0 node → new.rounds ≡ old.rounds → new.usable ≡ old.usable → new.frames ≡ places k → k ≡ push 0 node acts j → AreListed (nodes_of new) → HoldNone new.rows
    → ((i : List Entry) → Stand (nodes_of old) i → HoldNone old.rows → history node i ≡ [] → Stand (nodes_of new) (push 0 node acts i)) → Owns new k
own_ap old new address r0kh_id node acts j k own first form size in_address in_id at domain starts rounds usable noted is all none_held stand =
    let none : history node j ≡ [] = subst (λ (n : Node). history n j ≡ []) (sym at) (nothing_yet old.domain old.rounds (Ap (length old.domain.aps)) j own.placed.past (unlisted (length old.domain.aps))) in
    let last : IsListed (with_ap old.domain address r0kh_id) (Ap (length old.domain.aps)) = omega (arith, length-append old.domain.aps (record { address = address; r0kh_id = r0kh_id } ∷ [])) in
    let quiet : NoLooks acts = subst NoLooks (sym starts) (subst (λ (n : Node). NoLooks (start_acts new.domain 0 n)) (sym at) (start_no_looks new.domain 0 (length old.domain.aps)).0) in
    let asked : AskNone k = subst AskNone (sym is) (unasked_push 0 node acts j quiet (own.asked first)) in
    let unchanging : NoSecrets acts = subst NoSecrets (sym starts) (subst (λ (n : Node). NoSecrets (start_acts new.domain 0 n)) (sym at)
    (all_started (λ (e : Act). is_secret e ≡ false) (λ which key. refl) (λ which key id b. refl) new.domain 0 (Ap (length old.domain.aps)))) in
    let none_changed : ChangesNone k = subst ChangesNone (sym is) (unchanged_push 0 node acts j unchanging (own.unchanged first)) in
    record {
      usable = usable ∙ own.usable;
      form = subst InForm (sym domain) form;
      octets = subst InOctets (sym domain) (octets_ap old.domain address r0kh_id own.octets size in_address in_id);
      listed = all;
      stand = subst (Stand (nodes_of new)) (sym is) (stand j own.stand (own.quiet first) none);
      placed = placed_push old new 0 node acts j k own.placed is (λ n l. subst (λ (d : Domain). IsListed d n) (sym domain) (more_aps old.domain address r0kh_id n l))
          (subst (λ (n : Node). IsListed new.domain n) (sym at) (subst (λ (d : Domain). IsListed d (Ap (length old.domain.aps))) (sym domain) last)) (omega (arith, rounds)) (omega arith) noted;
      unchanged = λ still. none_changed;
      quiet = λ still. none_held;
      asked = λ still. asked;
      header = (new.domain, record { is_present = present_none new.domain k none_changed; right = held_unasked new.domain k asked });
    }

-- a station, which does nothing
pub own_sta : (old new : State) (address : Mac) (psk : List ℕ) (j : List Entry) → Owns old j → old.rounds ≡ 0 → InForm (with_sta old.domain address psk) → IsAddress address.0 → AreOctets address.0 → new.domain ≡ with_sta old.domain address psk → new.rounds ≡ old.rounds → new.usable ≡ old.usable → new.frames ≡ old.frames
    → new.rows ≡ old.rows → AreListed (nodes_of new) → ((i : List Entry) → Stand (nodes_of old) i → history (Sta (length old.domain.stas)) i ≡ [] → Stand (nodes_of new) i) → Owns new j
own_sta old new address psk j own first form size in_address domain rounds usable frames held all stand =
    let n = length old.domain.stas in
    let none = nothing_yet old.domain old.rounds (Sta n) j own.placed.past (unlisted n) in
    let last : IsListed (with_sta old.domain address psk) (Sta n) = omega (arith, length-append old.domain.stas (listed_sta address psk ∷ [])) in
    record {
      usable = usable ∙ own.usable;
      form = subst InForm (sym domain) form;
      octets = subst InOctets (sym domain) (octets_sta old.domain address psk own.octets size in_address);
      listed = all;
      stand = stand j own.stand none;
      placed = placed_push old new 0 (Sta n) [] j j own.placed refl (λ m l. subst (λ (d : Domain). IsListed d m) (sym domain) (more_stas old.domain address psk m l))
          (subst (λ (d : Domain). IsListed d (Sta n)) (sym domain) last) (omega (arith, rounds)) (omega arith) (frames ∙ own.placed.places);
      unchanged = λ still. own.unchanged first;
      quiet = λ still. subst HoldNone (sym held) (own.quiet first);
      asked = λ still. own.asked first;
      header = (new.domain, record { is_present = present_none new.domain j (own.unchanged first); right = held_unasked new.domain j (own.asked first) });
    }

-- the header has one line more
form_extra : (d : Domain) (extra : Extra) → InForm d → InForm (with_extra d extra)
form_extra d extra form = record { some = form.some; few = form.few; aps = form.aps; stas = form.stas; few_aps = form.few_aps; few_stas = form.few_stas }

octets_extra : (d : Domain) (extra : Extra) → InOctets d → InOctets (with_extra d extra)
octets_extra d extra in_d = record {
  mdid = in_d.mdid;
  ap_sizes = in_d.ap_sizes;
  sta_sizes = in_d.sta_sizes;
  mdid_octets = in_d.mdid_octets;
  ap_octets = in_d.ap_octets;
  sta_octets = in_d.sta_octets;
  id_octets = in_d.id_octets;
}

listed_extra : (d : Domain) (extra : Extra) (n : Node) → IsListed d n → IsListed (with_extra d extra) n
listed_extra d extra (Ap k) l = l
listed_extra d extra (Sta k) l = l

pub own_extra : (old new : State) (extra : Extra) (j : List Entry) → Owns old j → old.rounds ≡ 0 → new.domain ≡ with_extra old.domain extra → new.rounds ≡ old.rounds → new.usable ≡ old.usable → new.frames ≡ old.frames → new.rows ≡ old.rows → AreListed (nodes_of new) → Stand (nodes_of new) j → Owns new j
own_extra old new extra j own first domain rounds usable frames held all stand = record {
  usable = usable ∙ own.usable;
  form = subst InForm (sym domain) (form_extra old.domain extra own.form);
  octets = subst InOctets (sym domain) (octets_extra old.domain extra own.octets);
  listed = all;
  stand = stand;
  placed = record {
    count = ap length frames ∙ own.placed.count;
    numbered = own.placed.numbered;
    places = frames ∙ own.placed.places;
    past = past_more old.domain new.domain old.rounds new.rounds j (omega (arith, rounds)) (λ n l. subst (λ (d : Domain). IsListed d n) (sym domain) (listed_extra old.domain extra n l)) own.placed.past;
  };
  unchanged = λ still. own.unchanged first;
  quiet = λ still. subst HoldNone (sym held) (own.quiet first);
  asked = λ still. own.asked first;
  header = (new.domain, record { is_present = present_none new.domain j (own.unchanged first); right = held_unasked new.domain j (own.asked first) });
}

-- the same world and journal
pub still_since : (c : Domain) (old new : State) (j k : List Entry) → new ≡ old → k ≡ j → IsSince c old j → IsSince c new k
still_since c old new j k same entries since = subst (λ (i : List Entry). IsSince c new i) (sym entries) (subst (λ (w : State). IsSince c w j) (sym same) since)

-- Before the first round the network is that of the header, and so is that of more nodes with the header of more.
pub since_first : (c : Domain) (w : State) (j : List Entry) → Owns w j → w.rounds ≡ 0 → IsSince c w j → c ≡ w.domain
since_first c w j own first since = sym (present_none c j (own.unchanged first)) ∙ since.is_present

pub since_more : (e : Domain) (w : State) (j : List Entry) → Owns w j → w.rounds ≡ 0 → e ≡ w.domain → IsSince e w j
since_more e w j own first is = record {
  is_present = present_none e j (own.unchanged first) ∙ is;
  right = held_unasked e j (own.asked first);
}

-- ---- a frame by its number

pub frame_at : (w : State) (j : List Entry) (number place : ℕ) → Places w j → 1 ≤ number → number ≤ length w.frames → place ≡ slice_index_or w.frames (number - 1) place → Placed j number place
frame_at w j number place own some sent at =
    let read : slice_get w.frames (number - 1) ≡ Some place = slice_get_read w.frames (length w.frames) (number - 1) place refl (omega arith) at in
    let there = placed j (number - 1) place own.numbered (subst (λ (l : List ℕ). slice_get l (number - 1) ≡ Some place) own.places read) in
    let e : suc (number - 1) ≡ number = omega arith in
    subst (λ (n : ℕ). Placed j n place) e there

pub place_low : (j : List Entry) (number place : ℕ) → Placed j number place → place < length j
place_low j number place p = omega (arith, slice_get_within (reverse j) place p.entry p.at, length-reverse j)

same_entry : (j : List Entry) (number place : ℕ) (e : Entry) → (p : Placed j number place) → slice_get (reverse j) place ≡ Some e → p.entry ≡ e
same_entry j number place e p at = let both : Some p.entry ≡ Some e = sym p.at ∙ at in cc

-- what stands there is a frame
pub is_frame : (j : List Entry) (number place : ℕ) (e : Entry) → Placed j number place → slice_get (reverse j) place ≡ Some e → is_sent e.act ≡ true
is_frame j number place e p at = ap (λ (x : Entry). is_sent x.act) (sym (same_entry j number place e p at)) ∙ p.sent

pub not_other : (a : Act) → is_sent a ≡ true → ((p : Peer) (k : Kind) (o : List ℕ) (s : Option Seal) → a ≡ Sent p k o s → ⊥) → ⊥
not_other (Sent p k o s) is other = other p k o s refl
not_other _ is other = cc

pub was_sent : (w : State) (j : List Entry) (number place : ℕ) (e : Entry) (peer : Peer) (kind : Kind) (octets : List ℕ) (seal : Option Seal) → Places w j → Placed j number place → slice_get (reverse j) place ≡ Some e
    → e.act ≡ Sent peer kind octets seal → WasSent j (suc w.rounds) number octets
was_sent w j number place e peer kind octets seal own p at act =
    let same = same_entry j number place e p at in
    let past = all_in (IsPast w.domain w.rounds) j p.entry p.there own.past in
    record { entry = p.entry; there = p.there; earlier = omega (arith, past.round); is = p.number_is; act = (peer, (kind, (seal, ap (λ (x : Entry). x.act) same ∙ act))) }
