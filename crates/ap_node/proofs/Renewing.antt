-- New group keys are given to each session: the acts are those of the row.
use Rattle.std.proofs.Common.{◌≡◌, ℕ, zero, suc, ◌+◌, ◌<◌, ◌≤◌, Bool, true, false, List, [], ◌∷◌, ◌++◌, length, map, Option, Some, None, is_some, Result, Ok, Err, refl, sym, ap, ap₂, subst, ◌∙◌, arith, inl, inr}
use Rattle.std.specs.Prelude.{MatchResult, cond, ◌^◌}
use Rattle.std.specs.Option.{ForSome}
use Rattle.std.specs.List.{AllByRecursion}
use Rattle.std.proofs.lemmas.List.{append_assoc}
use Rattle.std.proofs.lemmas.Bool.{cases_lt, eq-eqb}
use Rattle.domain_base.specs.declared.names.Node.{Node}
use Rattle.domain_base.specs.declared.names.Node.TheVariants.{Ap, Sta}
use Rattle.eapol_key.specs.declared.messages.Message.TheVariants.{G1}
use Rattle.run_journal.specs.declared.domain.Domain.{Domain}
use Rattle.run_journal.specs.Events.{protects}
use Rattle.run_journal.specs.declared.acts.Kind.TheVariants as kind
use Rattle.run_journal.specs.declared.acts.Outcome.TheVariants.{Done}
use Rattle.run_journal.specs.declared.acts.Act.{Act}
use Rattle.run_journal.specs.declared.acts.GroupKind.{GroupKind}
use Rattle.run_journal.specs.declared.acts.GroupKind.TheVariants as groups
use Rattle.run_journal.specs.Acts.{same, finishes, key_drawn, sent, Derivation, GroupKey as Carried}
use Rattle.run_journal.specs.Questions.{session, group_uses, handshake, draws, add}
use Rattle.domain_rules.specs.GroupKeys.{newest_of, newest_uses, igtk_news, IgtkNews as CarriedIgtk}
use Rattle.domain_rules.specs.Network.{draw_end, gtk}
use Rattle.domain_rules.specs.Here.{here}
use Rattle.domain_rules.specs.Rows.{Rekey}
use Rattle.domain_rules.specs.Asking.{offered, replay_counter}
use Rattle.domain_rules.specs.Counters.{sent_count}
use Rattle.domain_rules.specs.AccessPointRows.{to_session, to_sessions, draw_acts, rekey_acts, Renews}
use Rattle.domain_rules.proofs.Parts.{is_same, sent_more, add_append}
use Rattle.group_key.specs.declared.keys.GroupKey.{GroupKey}
use Rattle.group_key.specs.declared.keys.Pair.{Pair}
use Rattle.group_key.specs.declared.news.IgtkNews.{IgtkNews}
use Rattle.group_key.specs.declared.news.News.{News}
use Rattle.group_key.specs.Keys.{Pairs, placed, drawn, drawn_beside, drawn_all, igtk_drawn}
use Rattle.group_key.specs.Holds.{HoldsAll}
use Rattle.group_key.specs.News.{FitsNews, IsNewest, newest_igtk, newest_news}
use Rattle.group_key.proofs.Drawing.{in_use, uses}
use Rattle.group_key.proofs.Newest.{held_newest, newest_as}
use Rattle.group_key.proofs.Together.{all_drawn}
use Rattle.data_frames.proofs.RepliedKeys.{sent_leaves}
use Rattle.node_base.specs.Events.{seen}
use Rattle.act_memory.proofs.RepliedActs.{IsAbout, all_joined, sent_about, about_draws, about_others, sent_ends, ends_session}
use Rattle.domain_rules.specs.Replies.{sent_acts}
use Rattle.ap_node.specs.Drawing.{last_of, drawn_after, drew}
use Rattle.ap_node.specs.Keys.{HasKey}
use Rattle.ap_node.specs.Newest.{unused_igtk, unused_news}
use Rattle.ap_node.specs.Switching.{newest_beside}
use Rattle.ap_node.specs.declared.sending.Sending.{Sending}
use Rattle.ap_node.specs.declared.station.Station.{Station}
use Rattle.ap_node.specs.declared.station.Session.{Session as Kept}
use Rattle.authenticator.specs.State.{State as Part, with_attempt}
use Rattle.authenticator.specs.Stands.{HasAttempt, HasSession, AuthenticatorStands}
use Rattle.authenticator.specs.Taken.{Newest}
use Rattle.authenticator.specs.declared.attempt.Attempt.{Attempt}
use Rattle.authenticator.specs.declared.session.Session.{Session}
use Rattle.authenticator.proofs.Counting.{count_is}
use Rattle.authenticator.proofs.Handshaking.{counters_low}
use Rattle.authenticator.proofs.Standing.{no_session}
use Rattle.ap_node.specs.State.{State, station_at, renewal_by, attempt_in, session_by, session_in, key_by, moves_in}
use Rattle.ap_node.specs.Counts.{owing_below}
use Rattle.ap_node.specs.Giving.{IsGivenIn, IsGivenAt, AreGiven}
use Rattle.ap_node.specs.Stands.{AllPlain, IsOfSession, IsKept, HasPart, HoldsInUse, StandsSoFar, Stands}
use Rattle.ap_node.proofs.BothDrawn.{low_by, next_apart, drew_is, drew-apart, drew-leaves, drew-passes, drew-plain, drew-draws, drew-none, drew-in_use, id_small}
use Rattle.ap_node.specs.Takes.{Does, IsDone}
use Rattle.ap_node.proofs.Others.{IsSameGroup, same_group, about_group, holds_on, in_use_on, AllLeave, keeps, key_as, far_on}
use Rattle.ft_exchange.proofs.TargetStanding.{Passes}
use Rattle.targets.specs.declared.moves.Moves.{Moves}
use Rattle.targets.specs.Stands.{HasMoves}
use Rattle.targets.proofs.Passing.{moves_add, sent_any_passes}
use Rattle.ap_node.proofs.Standing.{part_on, igtk_current, has_igtk}
use Rattle.ap_node.proofs.Plain.{plain_append, plain_sessions}
use Rattle.ap_node.proofs.Hearing.{attempt_kept}

-- ---- the G1 that were sent for the newest group key

handshake_more : (p : Node) (e : Act) (h : List Act) → finishes p e ≡ false → key_drawn groups.Gtk e ≡ None → handshake groups.Gtk p (e ∷ h) ≡ e ∷ handshake groups.Gtk p h
handshake_more p e h ends drawn = rw (ends, drawn) refl

offers_more : (p : Node) (e : Act) (h : List Act) → finishes p e ≡ false → key_drawn groups.Gtk e ≡ None → sent p (kind.Key G1) e ≡ None
    → offered p G1 (handshake groups.Gtk p (e ∷ h)) ≡ offered p G1 (handshake groups.Gtk p h)
offers_more p e h ends drawn sends =
    ap (offered p G1) (handshake_more p e h ends drawn) ∙ ap (map replay_counter) (sent_more p (kind.Key G1) e (handshake groups.Gtk p h) sends)

-- acts about one node leave those to another
offers_on : (p q : Node) (g h : List Act) → same q p ≡ false → AllByRecursion (IsAbout p) g → offered q G1 (handshake groups.Gtk q (add g h)) ≡ offered q G1 (handshake groups.Gtk q h)
offers_on p q [] h other all = refl
offers_on p q (e ∷ g) h other all =
    offers_on p q g (e ∷ h) other all.1
    ∙ offers_more q e h (all.0.others q other).finishes_none (all.0.draws_no_key groups.Gtk) ((all.0.others q other).sends_none G1)

-- ---- one station

-- the part with station k is as it was given the keys, behind that history, and these acts are those of the row
record IsOne (d : Domain) (a k : ℕ) (q : Station) (one mid : List Act) : Type 0 where
  pub says : one ≡ to_session d (Ap a) (Sta k) mid (session (Sta k) mid)
  pub about : AllByRecursion (IsAbout (Sta k)) one
  pub leaves : (q : Node) → AllLeave q one
  pub here : HasPart d (Ap a) k q (add one mid)

-- behind that history they are the newest keys, and none was sent for them to the station
record IsNew (d : Domain) (g : News) (k : ℕ) (mid : List Act) : Type 0 where
  pub newest : IsNewest d g mid
  pub low : draws mid ≤ draw_end
  pub none : offered (Sta k) G1 (handshake groups.Gtk (Sta k) mid) ≡ []

the_newest : (d : Domain) (a k : ℕ) (g : News) (x : Part) (mid : List Act) → IsNew d g k mid → AuthenticatorStands d (Ap a) (Sta k) x mid → Newest d (Sta k) g mid
the_newest d a k g x mid new at = record {
  newest = new.newest;
  low = counters_low d (Ap a) (Sta k) x.session mid at.session_is new.low;
}

-- no session, no act
not_one : (d : Domain) (a k : ℕ) (q : Station) (one mid : List Act) → one ≡ [] → session (Sta k) mid ≡ None → HasPart d (Ap a) k q mid → IsOne d a k q one mid
not_one d a k q one mid is none at = record {
  says = is ∙ sym (ap (to_session d (Ap a) (Sta k) mid) none);
  about = subst (λ (l : List Act). AllByRecursion (IsAbout (Sta k)) l) (sym is) tt;
  leaves = λ q. subst (λ (l : List Act). AllLeave q l) (sym is) (λ tk. tt);
  here = subst (λ (l : List Act). HasPart d (Ap a) k q (add l mid)) (sym is) at;
}

-- none was sent
few_of : (p : Node) (part : List Act) → offered p G1 part ≡ [] → sent_count p G1 part < 4
few_of p part none = omega (arith, count_is p G1 part [] none)

one_in : (d : Domain) (a k : ℕ) (g : News) (x y : Station) (o : Option Session) (one mid : List Act) → session_in x ≡ o → IsNew d g k mid → HasPart d (Ap a) k x mid → IsGivenIn k g o x y one → IsOne d a k y one mid
one_in d a k g x y None one mid is new at given =
    not_one d a k y one mid given.1 (no_session d (Ap a) (Sta k) (session_in x) mid is at.session_is)
    (subst (λ (z : Station). HasPart d (Ap a) k z mid) (sym given.0) at)
one_in d a k g x y (Some o) one mid is new at given =
    let n = Ap a in
    let p = Sta k in
    let s = given.s in
    let kept : IsKept d n p x.attempt (Some s) = subst (λ (o : Option Kept). IsKept d n p x.attempt o) given.was at.kept in
    let its : Kept = record { part = given.part; key = s.key; came_of = s.came_of } in
    let was = with_attempt (attempt_in x) s.part in
    let stands : AuthenticatorStands d n p was mid = record { ends = kept.0; attempt_is = at.attempt_is; session_is = subst (λ (o : Option Kept). HasSession d n p (session_by o) mid) given.was at.session_is } in
    let gives = given.gives (attempt_in x) d a k mid stands (the_newest d a k g was mid new stands) in
    let said = sent_acts p given.reply in
    let now = gives.stands (few_of p (handshake groups.Gtk p mid) new.none) in
    let key = key_as p (session p mid) (session p (add said mid)) (Some s.key) mid (add said mid) (ends_session p said mid (sent_ends p given.reply))
    (keeps p said mid (λ tk. sent_leaves p p tk given.reply)) (subst (λ (o : Option Kept). HasKey p (session p mid) (key_by o) mid) given.was at.key) in
    record {
      says = given.says ∙ sym gives.adds ∙ sym (ap (to_session d n p mid) gives.has);
      about = subst (λ (l : List Act). AllByRecursion (IsAbout p) l) (sym given.says) (sent_about p given.reply);
      leaves = λ q. subst (λ (l : List Act). AllLeave q l) (sym given.says) (λ tk. sent_leaves p q tk given.reply);
      here = subst (λ (l : List Act). HasPart d n k y (add l mid)) (sym given.says)
          (subst (λ (z : Station). HasPart d n k z (add said mid)) (sym given.is)
          (record {
            tried = at.tried;
            kept = (now.ends, subst (IsOfSession d x.attempt) (sym given.kinds_are) kept.1);
            attempt_is = subst (λ (o : Option Attempt). HasAttempt d n p o (add said mid)) (sym (attempt_kept x.attempt x.session (Some its) (given.attempt ∙ sym (ap renewal_by given.was)))) now.attempt_is;
            session_is = now.session_is;
            key = key;
          }));
    }

one_at : (d : Domain) (a k : ℕ) (g : News) (x y : Station) (one mid : List Act) → IsNew d g k mid → HasPart d (Ap a) k x mid → IsGivenAt k g x y one → IsOne d a k y one mid
one_at d a k g x y one mid new at given = one_in d a k g x y (session_in x) one mid refl new at given

-- the fast transitions are as they were
one_moves : (k : ℕ) (g : News) (x y : Station) (o : Option Session) (one : List Act) → IsGivenIn k g o x y one → moves_in y ≡ moves_in x
one_moves k g x y None one given = ap moves_in given.0
one_moves k g x y (Some o) one given = ap moves_in given.is ∙ sym (ap (λ (q : Option Kept). moves_in (record { attempt = x.attempt; session = q })) given.was)

given_moves : (g : News) (old new : List (ℕ × Station)) (k : ℕ) (acts : List Act) → AreGiven g old new k acts → (j : ℕ) → j < k → moves_in (station_at new j) ≡ moves_in (station_at old j)
given_moves g old new zero acts are j low = absurd (omega (arith, low))
given_moves g old new (suc k) acts are j low = elim (cases_lt j k) [
  | inl less ↦ given_moves g old new k are.0 are.3 j less
  | inr most ↦ subst (λ (i : ℕ). moves_in (station_at new i) ≡ moves_in (station_at old i)) (last j k low most) (one_moves k g (station_at old k) (station_at new k) (session_in (station_at old k)) are.1 are.4)
]
  where
    last : (j k : ℕ) → j < suc k → k ≤ j → k ≡ j
    last j k low most = omega (arith, low, most)

-- ---- the first so many stations

-- behind the base, at which the keys were drawn
pub record IsBase (d : Domain) (a : ℕ) (g : News) (old : List (ℕ × Station)) (base : List Act) : Type 0 where
  pub newest : IsNewest d g base
  pub low : draws base ≤ draw_end
  pub parts : (j : ℕ) → HasPart d (Ap a) j (station_at old j) base
  pub none : (j : ℕ) → offered (Sta j) G1 (handshake groups.Gtk (Sta j) base) ≡ []

-- these acts gave them to the first k stations
pub record IsGivenTo (d : Domain) (a : ℕ) (old new : List (ℕ × Station)) (k : ℕ) (acts base : List Act) : Type 0 where
  pub says : acts ≡ to_sessions d (Ap a) k base
  pub same_group : IsSameGroup base (add acts base)
  pub draws_are : draws (add acts base) ≡ draws base
  pub given : (j : ℕ) → j < k → HasPart d (Ap a) j (station_at new j) (add acts base)
  pub yet : (j : ℕ) → k ≤ j → HasPart d (Ap a) j (station_at old j) (add acts base)
  pub none : (j : ℕ) → k ≤ j → offered (Sta j) G1 (handshake groups.Gtk (Sta j) (add acts base)) ≡ []

apart : (j k : ℕ) → (j ≡ k → ⊥) → same (Sta j) (Sta k) ≡ false
apart j k other = elim (is_same (Sta j) (Sta k)) [ inl is ↦ absurd (other (cc is)) | inr none ↦ none ]

newest_same : (k : GroupKind) (old new : List Act) → IsSameGroup old new → newest_uses k new ≡ newest_uses k old
newest_same k old new same = rw (same.keys_are k, same.switches_are k, same.uses_are k) refl

abbrev igtk_with : Carried → ℕ → Option CarriedIgtk
igtk_with g ipn = Some (record { igtk = g; ipn = ipn })

igtk_same : (b : Bool) (old new : List Act) → IsSameGroup old new → igtk_news b new ≡ igtk_news b old
igtk_same false old new same = refl
igtk_same true old new same = ap₂ igtk_with (ap (newest_of groups.Igtk) (same.keys_are groups.Igtk)) (newest_same groups.Igtk old new same)

new_at : (d : Domain) (a k : ℕ) (g : News) (old new : List (ℕ × Station)) (before base : List Act) → IsBase d a g old base → IsGivenTo d a old new k before base → IsNew d g k (add before base)
new_at d a k g old new before base at so = record {
  newest = newest_as d g base (add before base) (so.same_group.keys_are groups.Gtk) (newest_same groups.Gtk base (add before base) so.same_group) (λ b. igtk_same b base (add before base) so.same_group) at.newest;
  low = subst (λ (n : ℕ). n ≤ draw_end) (sym so.draws_are) at.low;
  none = so.none k (omega arith);
}

group_then : (h l m : List Act) → IsSameGroup h l → IsSameGroup l m → IsSameGroup h m
group_then h l m one two = record { keys_are = λ k. two.keys_are k ∙ one.keys_are k; switches_are = λ k. two.switches_are k ∙ one.switches_are k; uses_are = λ k. two.uses_are k ∙ one.uses_are k }

-- one more
one_more : (d : Domain) (a k : ℕ) (old new : List (ℕ × Station)) (before one base : List Act) → IsGivenTo d a old new k before base → IsOne d a k (station_at new k) one (add before base) → IsGivenTo d a old new (suc k) (before ++ one) base
one_more d a k old new before one base so x =
    let mid = add before base in
    let joined : add (before ++ one) base ≡ add one mid = add_append before one base in
    let goes = λ (j : ℕ) (other : j ≡ k → ⊥) (o : Station) (at : HasPart d (Ap a) j o mid).
    part_on d (Ap a) j o mid (add one mid) (far_on (Sta j) one mid (about_others (Sta k) j one (apart j k other) x.about) (x.leaves (Sta j))) at in
    record {
      says = says_by (to_sessions d (Ap a) k base) so.says x.says;
      same_group = subst (λ (h : List Act). IsSameGroup base h) (sym joined) (group_then base mid (add one mid) so.same_group (about_group (Sta k) one mid x.about));
      draws_are = ap draws joined ∙ about_draws (Sta k) one mid x.about ∙ so.draws_are;
      given = λ j low. subst (λ (h : List Act). HasPart d (Ap a) j (station_at new j) h) (sym joined) (elim (cases_lt j k) [
        | inl less ↦ goes j (λ is. omega (arith, is, less)) (station_at new j) (so.given j less)
        | inr most ↦ subst (λ (i : ℕ). HasPart d (Ap a) i (station_at new i) (add one mid)) (last j k low most) x.here
      ]);
      yet = λ j past. subst (λ (h : List Act). HasPart d (Ap a) j (station_at old j) h) (sym joined) (goes j (λ is. omega (arith, is, past)) (station_at old j) (so.yet j (omega (arith, past))));
      none = λ j past. ap (λ (h : List Act). offered (Sta j) G1 (handshake groups.Gtk (Sta j) h)) joined
          ∙ offers_on (Sta k) (Sta j) one mid (apart j k (λ is. omega (arith, is, past))) x.about ∙ so.none j (omega (arith, past));
    }
  where
    last : (j k : ℕ) → j < suc k → k ≤ j → k ≡ j
    last j k low most = omega (arith, low, most)

    says_by : (sends : List Act) → before ≡ sends → one ≡ to_session d (Ap a) (Sta k) (add before base) (session (Sta k) (add before base))
        → before ++ one ≡ sends ++ to_session d (Ap a) (Sta k) (add sends base) (session (Sta k) (add sends base))
    says_by sends is are = ap (λ (l : List Act). before ++ l) are ∙ ap (λ (l : List Act). l ++ to_session d (Ap a) (Sta k) (add l base) (session (Sta k) (add l base))) is

pub given_to : (d : Domain) (a : ℕ) (g : News) (old new : List (ℕ × Station)) (base : List Act) → IsBase d a g old base → (k : ℕ) (acts : List Act) → AreGiven g old new k acts → IsGivenTo d a old new k acts base
given_to d a g old new base at zero acts are =
    subst (λ (l : List Act). IsGivenTo d a old new zero l base) (sym are) (record {
      says = refl;
      same_group = same_group base;
      draws_are = refl;
      given = λ j low. absurd (omega (arith, low));
      yet = λ j past. at.parts j;
      none = λ j past. at.none j;
    })
given_to d a g old new base at (suc k) acts are =
    let before = are.0 in
    let one = are.1 in
    let so = given_to d a g old new base at k before are.3 in
    subst (λ (l : List Act). IsGivenTo d a old new (suc k) l base) (sym are.2)
    (one_more d a k old new before one base so
    (one_at d a k g (station_at old k) (station_at new k) one (add before base) (new_at d a k g old new before base at so) (so.yet k (omega arith)) are.4))

-- ---- each part after all of them

parts_after : (d : Domain) (a : ℕ) (old new : List (ℕ × Station)) (k : ℕ) (acts base : List Act) → ((j : ℕ) → k ≤ j → station_at new j ≡ station_at old j) → IsGivenTo d a old new k acts base → (j : ℕ) → HasPart d (Ap a) j (station_at new j) (add acts base)
parts_after d a old new k acts base behind so j = elim (cases_lt j k) [
  | inl less ↦ so.given j less
  | inr most ↦ subst (λ (x : Station). HasPart d (Ap a) j x (add acts base)) (sym (behind j most)) (so.yet j most)
]

moves_after : (g : News) (old new : List (ℕ × Station)) (k : ℕ) (acts : List Act) → ((j : ℕ) → k ≤ j → station_at new j ≡ station_at old j) → AreGiven g old new k acts → (j : ℕ) → moves_in (station_at new j) ≡ moves_in (station_at old j)
moves_after g old new k acts behind are j = elim (cases_lt j k) [
  | inl less ↦ given_moves g old new k acts are j less
  | inr most ↦ ap moves_in (behind j most)
]

-- ---- the row

-- the access point before and after: it drew new group keys, with an IGTK or without one, and gave them to each session
pub record IsRenewed (d : Domain) (old new : State) (protected : Bool) (waited waits : List Act) : Type 0 where
  pub number : new.number ≡ old.number
  pub igtk : protected ≡ is_some old.group.igtk
  pub drawn : new.drawn ≡ drawn_after protected old.drawn
  pub low : last_of protected old.drawn < draw_end
  pub was_in_use : old.group.gtk.newest.place ≡ old.group.gtk.current.place
  pub group : new.group ≡ drawn_all (gtk d (Ap old.number) old.drawn) (igtk_drawn protected d (Ap old.number) (suc old.drawn)) old.group
  pub sending : new.sending ≡ old.sending
  pub behind : (k : ℕ) → length d.stas ≤ k → station_at new.stations k ≡ station_at old.stations k
  pub counted : new.owing ≡ owing_below new.group.gtk.newest.place new.stations (length d.stas)
  pub given : (acts : List Act) × (waits ≡ (waited ++ drew (gtk d (Ap old.number) old.drawn) (igtk_drawn protected d (Ap old.number) (suc old.drawn))) ++ acts)
      × AreGiven (newest_news new.group 0 0) old.stations new.stations (length d.stas) acts

-- the place of the newest: it is the next
next_place : (d : Domain) (old new : State) (protected : Bool) (waited waits : List Act) → IsRenewed d old new protected waited waits → new.group.gtk.newest.place ≡ suc new.group.gtk.current.place
next_place d old new protected waited waits w = ap (λ (g : Pairs). g.gtk.newest.place) w.group ∙ ap suc w.was_in_use ∙ sym (ap (λ (g : Pairs). suc g.gtk.current.place) w.group)

-- so no number was used under them
unused_yet : (b : Bool) (g : Pairs) (h : List Act) → HoldsAll b g h → g.gtk.newest.place ≡ suc g.gtk.current.place → newest_uses groups.Gtk h ≡ 0
unused_yet b g h holds next = uses groups.Gtk g.gtk h holds.gtk ∙ ap (λ (c : Bool). cond c (group_uses groups.Gtk h) 0) (next_apart g.gtk.newest.place g.gtk.current.place next)

unannounced_yet : (b : Bool) (g : Pairs) (h : List Act) → HoldsAll b g h → g.gtk.newest.place ≡ suc g.gtk.current.place → b ≡ true → newest_uses groups.Igtk h ≡ 0
unannounced_yet b g h holds next is = ap (λ (c : Bool). cond c (group_uses groups.Igtk h) 0) (igtk_current b g h holds is ∙ next_apart g.gtk.newest.place g.gtk.current.place next)

-- the history in which they were drawn
abbrev drawn_at : Domain → State → List Act → List Act
drawn_at d old h = add (draw_acts d (Ap old.number) old.drawn) h

held_then : (d : Domain) (first : ℕ) (old new : State) (waited waits h : List Act) → IsRenewed d old new (protects d) waited waits → StandsSoFar d first old h → HoldsAll (protects d) new.group (drawn_at d old h)
held_then d first old new waited waits h w at = subst (λ (g : Pairs). HoldsAll (protects d) g (drawn_at d old h)) (sym w.group) (all_drawn d (Ap old.number) old.drawn old.group h at.group_is)

draws_then : (d : Domain) (first : ℕ) (old : State) (h : List Act) → StandsSoFar d first old h → drawn_after (protects d) old.drawn ≡ first + draws (drawn_at d old h)
draws_then d first old h at = drew-draws (protects d) d (Ap old.number) old.drawn first old.drawn h at.draws_are

-- the keys are drawn
based : (d : Domain) (first : ℕ) (old new : State) (waited waits h : List Act) → IsRenewed d old new (protects d) waited waits → StandsSoFar d first old h → IsBase d old.number (newest_news new.group 0 0) old.stations (drawn_at d old h)
based d first old new waited waits h w at =
    let n = Ap old.number in
    let base = drawn_at d old h in
    let acts = draw_acts d n old.drawn in
    let holds = held_then d first old new waited waits h w at in
    let next = next_place d old new (protects d) waited waits w in
    record {
      newest = held_newest d new.group 0 0 base holds (unused_yet (protects d) new.group base holds next) (λ is. unannounced_yet (protects d) new.group base holds next is);
      low = omega (arith, draws_then d first old h at, low_by (protects d) old.drawn w.low);
      parts = λ j. part_on d n j (station_at old.stations j) h base (far_on (Sta j) acts h (drew-apart (Sta j) (protects d) d n old.drawn) (drew-leaves (Sta j) (protects d) d n old.drawn)) (at.parts j);
      none = λ j. drew-none (Sta j) (protects d) d n old.drawn h;
    }

-- G1 begins and ends nothing
session_pass : (p : Node) (d : Domain) (n q : Node) (h : List Act) (o : Option Derivation) → AllByRecursion (Passes p) (to_session d n q h o)
session_pass p d n q h None = tt
session_pass p d n q h (Some x) = (sent_any_passes p _ _ _ _, tt)

sessions_pass : (p : Node) (d : Domain) (n : Node) (k : ℕ) (h : List Act) → AllByRecursion (Passes p) (to_sessions d n k h)
sessions_pass p d n zero h = tt
sessions_pass p d n (suc k) h =
    all_joined (Passes p) (to_sessions d n k h) _ (sessions_pass p d n k h) (session_pass p d n (Sta k) (add (to_sessions d n k h) h) (session (Sta k) (add (to_sessions d n k h) h)))

-- the access point behind all of it
renewed_stands : (d : Domain) (first : ℕ) (old new : State) (waited waits acts h : List Act) → IsRenewed d old new (protects d) waited waits → StandsSoFar d first old h → AreGiven (newest_news new.group 0 0) old.stations new.stations (length d.stas) acts
    → IsGivenTo d old.number old.stations new.stations (length d.stas) acts (drawn_at d old h) → StandsSoFar d first new (add acts (drawn_at d old h))
renewed_stands d first old new waited waits acts h w at are so =
    let n = Ap old.number in
    let base = drawn_at d old h in
    record {
      draws_are = w.drawn ∙ draws_then d first old h at ∙ ap (λ (m : ℕ). first + m) (sym so.draws_are);
      draws_low = subst (λ (m : ℕ). m ≤ draw_end) (sym w.drawn) (low_by (protects d) old.drawn w.low);
      group_is = holds_on (protects d) new.group base (add acts base) so.same_group (held_then d first old new waited waits h w at);
      pending = inr (next_place d old new (protects d) waited waits w);
      sending_is = subst (λ (k : Sending). HoldsInUse (protects d) k (add acts base)) (sym w.sending)
          (in_use_on (protects d) old.sending base (add acts base) so.same_group (drew-in_use (protects d) old.sending (protects d) d n old.drawn h at.sending_is));
      listed = λ k past. w.behind k past ∙ at.listed k past;
      counted = w.counted;
      parts = λ j. subst (λ (a : ℕ). HasPart d (Ap a) j (station_at new.stations j) (add acts base)) (sym w.number)
          (parts_after d old.number old.stations new.stations (length d.stas) acts base w.behind so j);
      moves = λ j. subst (λ (a : ℕ). HasMoves d (Ap a) (Sta j) (moves_in (station_at new.stations j)) (add acts base)) (sym w.number)
          (subst (λ (m : Moves). HasMoves d n (Sta j) m (add acts base)) (sym (moves_after (newest_news new.group 0 0) old.stations new.stations (length d.stas) acts w.behind are j))
          (moves_add d n (Sta j) (moves_in (station_at old.stations j)) acts base
          (subst (λ (g : List Act). AllByRecursion (Passes (Sta j)) g) (sym so.says) (sessions_pass (Sta j) d n (length d.stas) base))
          (moves_add d n (Sta j) (moves_in (station_at old.stations j)) (draw_acts d n old.drawn) h (drew-passes (Sta j) (protects d) d n old.drawn) (at.moves j))));
    }

-- the acts are those of the row
row_acts : (d : Domain) (first a number : ℕ) (acts h : List Act) → number ≡ first + draws h → acts ≡ to_sessions d (Ap a) (length d.stas) (add (draw_acts d (Ap a) number) h) → draw_acts d (Ap a) number ++ acts ≡ rekey_acts (here d first (Ap a)) h
row_acts d first a number acts h number_is acts_are =
    ap (λ (l : List Act). draw_acts d (Ap a) number ++ l) acts_are
    ∙ ap (λ (m : ℕ). draw_acts d (Ap a) m ++ to_sessions d (Ap a) (length d.stas) (add (draw_acts d (Ap a) m) h)) number_is

renews_does : (d : Domain) (old new : State) (waited waits : List Act) → IsRenewed d old new (protects d) waited waits → (first : ℕ) (h : List Act) → Stands d first old h
    → Does (here d first (Ap old.number)) Rekey (StandsSoFar d first new) AllPlain h (seen waited waits Done)
renews_does d old new waited waits w first h stands =
    let n = Ap old.number in
    let at = stands.so_far in
    let base = drawn_at d old h in
    let keys = draw_acts d n old.drawn in
    let gave = w.given in
    let is_base = based d first old new waited waits h w at in
    let so = given_to d old.number (newest_news new.group 0 0) old.stations new.stations base is_base (length d.stas) gave.0 gave.2 in
    record {
      acts = keys ++ gave.0;
      row = Renews refl (in_use groups.Gtk old.group.gtk h at.group_is.gtk ∙ eq-eqb old.group.gtk.newest.place old.group.gtk.current.place w.was_in_use)
          (subst (λ (m : ℕ). m < draw_end) (ap (last_of (protects d)) at.draws_are) w.low)
          (row_acts d first old.number old.drawn gave.0 h at.draws_are so.says);
      waiting = gave.1 ∙ ap (λ (l : List Act). (waited ++ l) ++ gave.0) (drew_is (protects d) d n old.drawn) ∙ append_assoc waited keys gave.0;
      came = refl;
      stands = subst (λ (l : List Act). StandsSoFar d first new l) (sym (add_append keys gave.0 h)) (renewed_stands d first old new waited waits gave.0 h w at gave.2 so);
      marks = plain_append keys gave.0 (drew-plain (protects d) d n old.drawn) (subst (λ (g : List Act). AllPlain g) (sym so.says) (plain_sessions d n (length d.stas) base));
    }

pub renews : (d : Domain) (old new : State) (protected : Bool) (waited waits : List Act) → IsRenewed d old new protected waited waits → IsDone d Rekey old new (seen waited waits Done)
renews d old new protected waited waits w = record {
  number = w.number;
  does = λ first h stands.
      renews_does d old new waited waits (subst (λ (b : Bool). IsRenewed d old new b waited waits) (w.igtk ∙ has_igtk d first old h stands.so_far) w) first h stands;
  refused = λ why is. absurd (cc is);
}

-- ---- as the code comes by it

-- it is not refused where the last one is in use
if_in_use : {A E C : Type 0} (r : Result A E) (P Q : Type 0) → C → MatchResult r (λ _. P) (λ _. Q) → MatchResult r (λ _. C) (λ _. C → ⊥) → P
if_in_use (Ok x) P Q is p pending = p
if_in_use (Err e) P Q is p pending = absurd (pending is)

pub gtk_drawn : {A E : Type 0} (r : Result A E) (g h : Pair) (key : List ℕ) → h.newest.place ≡ h.current.place → MatchResult r (λ _. g ≡ drawn groups.Gtk key h) (λ _. g ≡ h)
    → MatchResult r (λ _. h.newest.place ≡ h.current.place) (λ _. h.newest.place ≡ h.current.place → ⊥) → g ≡ drawn groups.Gtk key h
gtk_drawn r g h key in_use came pending = if_in_use r (g ≡ drawn groups.Gtk key h) (g ≡ h) in_use came pending

pub beside_drawn : {A E : Type 0} (r : Result A E) (o q : Option Pair) (h : Pair) (igtk : Option (List ℕ)) → h.newest.place ≡ h.current.place → MatchResult r (λ _. o ≡ drawn_beside igtk q) (λ _. o ≡ q)
    → MatchResult r (λ _. h.newest.place ≡ h.current.place) (λ _. h.newest.place ≡ h.current.place → ⊥) → o ≡ drawn_beside igtk q
beside_drawn r o q h igtk in_use came pending = if_in_use r (o ≡ drawn_beside igtk q) (o ≡ q) in_use came pending

abbrev pairs_of : Pair → Option Pair → Pairs
pairs_of p o = record { gtk = p; igtk = o }

pub drawn_as : (g h was : Pairs) (key k : List ℕ) (igtk i : Option (List ℕ)) → g.gtk ≡ drawn groups.Gtk key h.gtk → g.igtk ≡ drawn_beside igtk h.igtk → key ≡ k → igtk ≡ i → h ≡ was → g ≡ drawn_all k i was
drawn_as g h was key k igtk i gtk beside key_is igtk_is same = ap₂ pairs_of gtk beside ∙ ap₂ (λ (x : List ℕ) (y : Option (List ℕ)). drawn_all x y h) key_is igtk_is ∙ ap (drawn_all k i) same

-- the newest of each kind, of which no number was used
unused_beside : (o : Option Pair) → unused_igtk (newest_beside o) ≡ newest_igtk o 0
unused_beside None = refl
unused_beside (Some t) = refl

abbrev news_with : GroupKey → Option IgtkNews → News
news_with g igtk = record { gtk = g; rsc = 0; igtk = igtk }

pub unused_is : (g : Pairs) (n : News) (k : GroupKey) (o : Option GroupKey) → n ≡ unused_news k o → k ≡ g.gtk.newest → o ≡ newest_beside g.igtk → n ≡ newest_news g 0 0
unused_is g n k o is newest beside = is ∙ ap₂ news_with newest (ap unused_igtk beside ∙ unused_beside g.igtk)

pub given_as : (g k : News) (o was new : List (ℕ × Station)) (n m : ℕ) (mid before waits : List Act) → g ≡ k → o ≡ was → n ≡ m → mid ≡ before
    → (acts : List Act) × (waits ≡ mid ++ acts) × AreGiven g o new n acts → (acts : List Act) × (waits ≡ before ++ acts) × AreGiven k was new m acts
given_as g k o was new n m mid before waits key parts count acts x =
    subst (λ (z : News). (acts : List Act) × (waits ≡ before ++ acts) × AreGiven z was new m acts) key
    (subst (λ (z : List (ℕ × Station)). (acts : List Act) × (waits ≡ before ++ acts) × AreGiven g z new m acts) parts
    (subst (λ (z : ℕ). (acts : List Act) × (waits ≡ before ++ acts) × AreGiven g o new z acts) count
    (subst (λ (z : List Act). (acts : List Act) × (waits ≡ z ++ acts) × AreGiven g o new n acts) acts x)))

abbrev igtk_zero : GroupKey → IgtkNews
igtk_zero g = record { igtk = g; ipn = 0 }

-- the keys fit into a message
pub drawn_fits : (n : News) (g : Pairs) (place : ℕ) (key : List ℕ) → n ≡ newest_news g 0 0 → g.gtk.newest ≡ placed groups.Gtk place key → FitsNews n
drawn_fits n g place key is newest = subst FitsNews (sym is) (subst (λ (k : GroupKey). k.id < 4) (sym newest) (id_small place), omega arith, small g.igtk)
  where
    small : (o : Option Pair) → ForSome (newest_igtk o 0) (λ (k : IgtkNews). k.ipn < 2 ^ 48)
    small None = λ x e. absurd (cc e)
    small (Some t) = λ x e. (let is : igtk_zero t.newest ≡ x = cc e in subst (λ (k : IgtkNews). k.ipn < 2 ^ 48) is (omega arith))
