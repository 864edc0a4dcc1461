-- What is sent once more may be sent.
use Rattle.std.proofs.Common.{ℕ, ◌≡◌, Bool, true, false, not, cond, List, [], ◌∷◌, length, Option, Some, None, refl, sym, ap, ◌∙◌, subst, ◌<◌}
use Rattle.std.specs.Prelude.{nat_lt}
use Rattle.domain_base.specs.declared.names.Node.{Node}
use Rattle.domain_base.specs.declared.names.Node.TheVariants.{Sta}
use Rattle.eapol_key.specs.declared.messages.Message.{Message}
use Rattle.eapol_key.specs.declared.messages.Message.TheVariants.{M1, M2, M3, G1}
use Rattle.key_hierarchy.specs.Keys.{ptk}
use Rattle.run_journal.specs.declared.domain.Domain.{Domain}
use Rattle.run_journal.specs.declared.acts.Part.TheVariants.{Attempt, Session}
use Rattle.run_journal.specs.declared.acts.Kind.TheVariants as kind
use Rattle.run_journal.specs.declared.acts.Why.TheVariants as why
use Rattle.run_journal.specs.declared.acts.Act.{Act}
use Rattle.run_journal.specs.declared.acts.Act.TheVariants.{Closed, GaveUp, Idle}
use Rattle.run_journal.specs.Acts.{Derivation}
use Rattle.run_journal.specs.Questions.{attempt, derivation, session, before_sent, handshake}
use Rattle.domain_rules.specs.Network.{is_ap}
use Rattle.domain_rules.specs.Frames.{sent_m3, sent_m1, keyed_by}
use Rattle.domain_rules.specs.Asking.{own, is_four_way, is_by_renewal, in_renewal, has_heard}
use Rattle.domain_rules.specs.Counters.{sent_count, next_counter}
use Rattle.domain_rules.specs.GroupKeys.{newest, news}
use Rattle.domain_rules.specs.AccessPointRows.{g1_to, most_sends, again_or_give_up, m3_again, retry_attempt, again_or_close, retry_session, retry_acts}
use Rattle.domain_rules.specs.Owing.{is_open, owing}
use Rattle.domain_rules.proofs.Parts.{since_part}
use Rattle.key_hierarchy.specs.declared.inputs.Inputs.{Inputs}
use Rattle.std.proofs.lemmas.Bool.{ltb-true}
use Rattle.run_journal.specs.declared.acts.GroupKind.{GroupKind}
use Rattle.run_journal.specs.declared.acts.GroupKind.TheVariants as groups
use Rattle.run_journal.specs.Events.{IsListed}
use Rattle.run_journal.specs.Premises.{In}
use Rattle.journal_safety.proofs.Ends.{tail_refl}
use Rattle.journal_safety.proofs.Legal.{nonce_of, derives, Alive, Current, Seen, IsUsed, Built, SendsM3, LegalDerived, Legal, LegalHistory}
use Rattle.journal_safety.proofs.Histories.{keyed_as, legal_in, nonce_size, alive_drew, group_keys_tail, Newests, newests_are}
use Rattle.journal_safety.proofs.Settled.{Ground, Settled, is_quiet, Fine, fine_none, fine_quiet}
use Rattle.journal_safety.proofs.Sessions.{session_role}
use Rattle.journal_safety.proofs.FirstM3.{first_m3, built_then, same_first, seen_end}
use Rattle.journal_safety.proofs.SentLegal.{legal_m1, legal_m3, ap_nonce}
use Rattle.journal_safety.proofs.Rows.{not_station, counter_in}
use Rattle.journal_safety.proofs.RowsKeys.{ready_of, g1_legal}

-- ---- once more, or no more

few_true : (a b : ℕ) → nat_lt a b ≡ true → a < b
few_true a b is = ltb-true a b is

fine_again : (d : Domain) (n : Node) (h : List Act) (p : Node) (m : Message) (sends : ℕ) (act : Act) → Settled d n h → (sends < most_sends → Legal d n h act) → is_quiet act ≡ true → Fine d n h (again_or_give_up p m sends act)
fine_again d n h p m sends act s legal quiet = go (nat_lt sends most_sends) refl
  where
    go : (b : Bool) → nat_lt sends most_sends ≡ b → Fine d n h (cond b (act ∷ []) (GaveUp p m ∷ Closed p Attempt ∷ []))
    go true few = fine_quiet d n h act [] (legal (few_true sends most_sends few)) quiet s (fine_none d n (act ∷ h))
    go false few = fine_quiet d n h (GaveUp p m) (Closed p Attempt ∷ []) tt refl s (λ t. fine_quiet d n (GaveUp p m ∷ h) (Closed p Attempt) [] tt refl t (fine_none d n _))

opposite : (a b : Bool) → a ≡ not b → a ≡ false → b ≡ true
opposite a true e f = refl
opposite a false e f = cc

-- an access point has the attempt or the session with a station
ap_session : (d : Domain) (n : Node) (s : ℕ) (h : List Act) (x : Derivation) → LegalHistory d n h → session (Sta s) h ≡ Some x → is_ap n ≡ true
ap_session d n s h x legal awaited = opposite false (is_ap n) (session_role d n (Sta s) h x legal awaited) refl

-- the group keys of an earlier moment were put into key data then
abbrev BuiltAll : Domain → Node → List Act → Node → Inputs → List Act → Type 0
BuiltAll d n h p i past = (which : GroupKind) → IsUsed d which → Built which n h p i (newest which past).key

legal_again : (d : Domain) (n : Node) (s : ℕ) (h part : List Act) (o : Option Derivation) (b : Option (List Act)) → Ground d → LegalHistory d n h → attempt (Sta s) h ≡ Some part → derivation (Sta s) part ≡ o → before_sent (Sta s) (kind.Key M3) h ≡ b → sent_count (Sta s) M3 part < most_sends
    → Legal d n h (m3_again d n h (Sta s) part o b)
legal_again d n s h part None b ground legal a e f few = tt
legal_again d n s h part (Some x) None ground legal a e f few = tt
legal_again d n s h part (Some x) (Some past) ground legal a e f few =
    let ready = ready_of d n (Sta s) h part x legal a e in
    let r = ready.1 in
    let same : x ≡ keyed_by x.inputs = keyed_as x ready.0 in
    let last : derivation (Sta s) part ≡ Some (keyed_by x.inputs) = e ∙ ap Some same in
    let at = legal_in d n (derives (Sta s) x.inputs) h legal r.there in
    let l : LegalDerived d n at.before (Sta s) x.inputs (ptk x.inputs) = at.legal in
    let role : is_ap n ≡ true = opposite false (is_ap n) l.roles refl in
    let size : length x.inputs.anonce ≡ 32 = ap length (ap_nonce n x.inputs role) ∙ nonce_size d n (nonce_of n x.inputs) h legal (alive_drew n (Sta s) x.inputs h (record { part = part; awaited = a; own = r.own })) in
    let w = first_m3 d n (Sta s) h part past role legal a f in
    let new : Newests d past = newests_are d n past w.legal w.sends.drawn in
    let built : BuiltAll d n h (Sta s) x.inputs past = λ which used. built_then which d n (Sta s) h part past x.inputs (newest which past).key w last (new which used).last in
    let begun : in_renewal (attempt (Sta s) past) ≡ in_renewal (attempt (Sta s) h) = ap in_renewal w.sends.awaited ∙ w.begun ∙ sym (ap in_renewal a) in
    let seen : Seen d n h (Sta s) x.inputs = seen_end d n (Sta s) x.inputs past h w.tail begun (subst (λ (i : Inputs). Seen d n past (Sta s) i) (same_first d n (Sta s) h part past w x.inputs last) w.sends.seen) in
    let alive : Alive n h (Sta s) x.inputs = record { part = part; awaited = a; own = r.own } in
    let current : Current n h (Sta s) x.inputs = record { alive = alive; last = subst (λ (y : List Act). derivation (Sta s) y ≡ Some (keyed_by x.inputs)) (sym (since_part (Sta s) h part a)) last } in
    let sends : SendsM3 d n h (Sta s) = record {
      part = part;
      awaited = a;
      heard = w.heard_m2;
      few = subst (λ (y : List Act). sent_count (Sta s) M3 y < most_sends) (sym (since_part (Sta s) h part a)) few;
      i = x.inputs;
      last = last;
      seen = seen;
      drawn = λ which used. (let g = w.sends.drawn which used in (g.0, group_keys_tail which g.0 past h w.tail g.1));
    } in
    subst (λ (y : Derivation). Legal d n h (sent_m3 d n (Sta s) y (next_counter (Sta s) h part) (news d (cond (is_by_renewal part) h past)))) (sym same) (go (is_by_renewal part) refl role r.there size built alive current seen sends new (newests_are d n h legal sends.drawn) l.listed)
  where
    go : (b : Bool) → is_by_renewal part ≡ b → is_ap n ≡ true → In (derives (Sta s) x.inputs) h → length x.inputs.anonce ≡ 32 → BuiltAll d n h (Sta s) x.inputs past → Alive n h (Sta s) x.inputs → Current n h (Sta s) x.inputs → Seen d n h (Sta s) x.inputs → SendsM3 d n h (Sta s) → Newests d past → Newests d h → IsListed d n
        → Legal d n h (sent_m3 d n (Sta s) (keyed_by x.inputs) (next_counter (Sta s) h part) (news d (cond b h past)))
    go false is role there size built alive current seen sends new now listed =
        legal_m3 d n (Sta s) h x.inputs (next_counter (Sta s) h part) past role legal there size new built current seen sends
        (λ sure. (let opposed : in_renewal (attempt (Sta s) h) ≡ false = ap in_renewal a ∙ is in absurd (cc (sure, opposed)))) ground listed
    go true is role there size built alive current seen sends new now listed =
        legal_m3 d n (Sta s) h x.inputs (next_counter (Sta s) h part) h role legal there size now
        (λ which used. record { past = h; tail = tail_refl h; newest = (now which used).last; verified = seen.verified; alive = alive }) current seen sends
        (λ sure. (counter_in (Sta s) h part is, (λ which used. (now which used).last))) ground listed

quiet_m3 : (d : Domain) (n : Node) (h part : List Act) (p : Node) (o : Option Derivation) (b : Option (List Act)) → is_quiet (m3_again d n h p part o b) ≡ true
quiet_m3 d n h part p (Some x) (Some past) = refl
quiet_m3 d n h part p o b = refl

retry_by : (d : Domain) (n : Node) (s : ℕ) (h part : List Act) → LegalHistory d n h → Settled d n h → attempt (Sta s) h ≡ Some part → Fine d n h (retry_attempt d n h (Sta s) part)
retry_by d n s h part legal settled a = go (has_heard (Sta s) (kind.Key M2) part)
  where
    go : (b : Bool) → Fine d n h (cond b (again_or_give_up (Sta s) M3 (sent_count (Sta s) M3 part) (m3_again d n h (Sta s) part (derivation (Sta s) part) (before_sent (Sta s) (kind.Key M3) h)))
        (again_or_give_up (Sta s) M1 (sent_count (Sta s) M1 part) (sent_m1 d n (Sta s) (next_counter (Sta s) h part) (own part))))
    go true = fine_again d n h (Sta s) M3 (sent_count (Sta s) M3 part) (m3_again d n h (Sta s) part (derivation (Sta s) part) (before_sent (Sta s) (kind.Key M3) h)) settled
        (λ few. legal_again d n s h part (derivation (Sta s) part) (before_sent (Sta s) (kind.Key M3) h) settled.ground legal a refl refl few) (quiet_m3 d n h part (Sta s) (derivation (Sta s) part) (before_sent (Sta s) (kind.Key M3) h))
    go false = fine_again d n h (Sta s) M1 (sent_count (Sta s) M1 part) (sent_m1 d n (Sta s) (next_counter (Sta s) h part) (own part)) settled
        (λ few. legal_m1 d n (Sta s) h (next_counter (Sta s) h part) (own part) (subst (λ (y : List Act). sent_count (Sta s) M1 y < most_sends) (sym (since_part (Sta s) h part a)) few)) refl

-- G1 once more, or the session is given up
fine_close : (d : Domain) (n : Node) (h : List Act) (p : Node) (sends : ℕ) (act : Act) → is_ap n ≡ true → Settled d n h → (sends < most_sends → Legal d n h act) → is_quiet act ≡ true → Fine d n h (again_or_close p sends act)
fine_close d n h p sends act role s legal quiet = go (nat_lt sends most_sends) refl
  where
    go : (b : Bool) → nat_lt sends most_sends ≡ b → Fine d n h (cond b (act ∷ []) (GaveUp p G1 ∷ Closed p Session ∷ []))
    go true few = fine_quiet d n h act [] (legal (few_true sends most_sends few)) quiet s (fine_none d n (act ∷ h))
    go false few = fine_quiet d n h (GaveUp p G1) (Closed p Session ∷ []) tt refl s (λ t. fine_quiet d n (GaveUp p G1 ∷ h) (Closed p Session) [] (not_station n role) refl t (fine_none d n _))

owing_by : (b : Bool) (o : Option Derivation) (x : Derivation) → cond b o None ≡ Some x → o ≡ Some x
owing_by true o x e = e
owing_by false o x e = cc

retry_session_fine : (d : Domain) (n : Node) (s : ℕ) (h : List Act) → LegalHistory d n h → Settled d n h → (o : Option Derivation) → owing groups.Gtk (Sta s) h ≡ o → Fine d n h (retry_session d n h (Sta s) o)
retry_session_fine d n s h legal settled None is = fine_quiet d n h (Idle why.Nothing) [] tt refl settled (fine_none d n _)
retry_session_fine d n s h legal settled (Some x) is =
    let awaited : session (Sta s) h ≡ Some x = owing_by (is_open (Sta s) (handshake groups.Gtk (Sta s) h)) (session (Sta s) h) x is in
    let role : is_ap n ≡ true = ap_session d n s h x legal awaited in
    fine_close d n h (Sta s) (sent_count (Sta s) G1 (handshake groups.Gtk (Sta s) h)) (g1_to d n (Sta s) h x) role settled (λ few. g1_legal d n (Sta s) h x role legal settled awaited few) refl

retry_if : (d : Domain) (n : Node) (s : ℕ) (h part : List Act) → LegalHistory d n h → Settled d n h → attempt (Sta s) h ≡ Some part → (b : Bool) → Fine d n h (cond b (retry_attempt d n h (Sta s) part) (retry_session d n h (Sta s) (owing groups.Gtk (Sta s) h)))
retry_if d n s h part legal settled a true = retry_by d n s h part legal settled a
retry_if d n s h part legal settled a false = retry_session_fine d n s h legal settled (owing groups.Gtk (Sta s) h) refl

pub retry_fine : (d : Domain) (n : Node) (s : ℕ) (h : List Act) (o : Option (List Act)) → LegalHistory d n h → Settled d n h → attempt (Sta s) h ≡ o → Fine d n h (retry_acts d n h (Sta s) o)
retry_fine d n s h None legal settled a = retry_session_fine d n s h legal settled (owing groups.Gtk (Sta s) h) refl
retry_fine d n s h (Some part) legal settled a = retry_if d n s h part legal settled a (is_four_way part)
