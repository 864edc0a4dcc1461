-- What a supplicant stands for behind an M3 that was accepted, or answered once more.
use Rattle.std.proofs.Common.{◌≡◌, ℕ, ◌<◌, Bool, true, false, List, [], ◌∷◌, ◌++◌, Option, Some, None, refl, ap, ◌∙◌}
use Rattle.std.specs.Prelude.{option_and_then}
use Rattle.std.specs.List.{AllByRecursion}
use Rattle.domain_base.specs.declared.names.Node.{Node}
use Rattle.domain_base.specs.declared.names.Node.TheVariants.{Ap, Sta}
use Rattle.domain_base.specs.declared.names.Mac.{Mac}
use Rattle.domain_base.specs.declared.names.Peer.TheVariants.{One}
use Rattle.eapol_key.specs.declared.messages.Message.TheVariants.{M3}
use Rattle.run_journal.specs.declared.domain.Domain.{Domain}
use Rattle.run_journal.specs.declared.acts.Kind.TheVariants as kind
use Rattle.run_journal.specs.declared.acts.Part.TheVariants.{Session as OfSession}
use Rattle.run_journal.specs.declared.acts.Key.TheVariants.{Pairwise}
use Rattle.run_journal.specs.declared.acts.Outcome.TheVariants.{Accepted, Answered}
use Rattle.run_journal.specs.declared.acts.Seal.{Seal}
use Rattle.run_journal.specs.declared.acts.Act.{Act}
use Rattle.run_journal.specs.declared.acts.Act.TheVariants.{Closed, Took, Installed, Finished}
use Rattle.run_journal.specs.declared.reply.Keyed.{Keyed}
use Rattle.run_journal.specs.Acts.{Derivation, GroupKey, accepted}
use Rattle.run_journal.specs.Questions.{attempt, since, chain, heard, derivation, session, add}
use Rattle.domain_rules.specs.Frames.{sent_m4}
use Rattle.domain_rules.specs.Replies.{key_by}
use Rattle.domain_rules.specs.Asking.{start_of, has_four_way, session_start, kept_counter, replay_counter, at_least}
use Rattle.domain_rules.specs.StationRows.{replaced}
use Rattle.domain_rules.specs.GroupKeys.{GivenKeys, give_by, give_all}
use Rattle.domain_rules.proofs.GroupActs.{all_given}
use Rattle.domain_rules.proofs.Parts.{since_part, chain_part, IsApart, IsCarried, goes_on, same-refl, attempt_more, attempt_none, attempt_some, start_more, add_append}
use Rattle.domain_rules.proofs.Starts.{four_way_by_connect, renewal_is, connect_no_renewal}
use Rattle.run_journal.specs.declared.acts.GroupKind.{GroupKind}
use Rattle.domain_rules.specs.Network.{root_at}
use Rattle.supplicant.specs.declared.base.Base.{Base}
use Rattle.supplicant.specs.Stands.{IsUnderWay, IsRenewing, IsHeld, IsBased}
use Rattle.supplicant.proofs.Standing.{based_on, based_anyway, kept_more, kept_on, heard_since, heard_on, renewing_on, derivation_part, at_least-greater}

-- ---- M3 accepted

-- where a session was there whose key is renewed, or none; between the keys stand the acts of the group keys
abbrev pub finishing_acts : Domain → Node → Node → List ℕ → Seal → Derivation → Bool → List Act → ℕ → List Act
finishing_acts d n p octets s x had gives counter =
    Took (Some p) octets (kind.Key M3) Accepted (Some s)
    ∷ (replaced p had ++ Installed (One p) (Pairwise x.ptk.tk x.inputs) ∷ (gives ++ Finished p x.inputs ∷ sent_m4 d n p x counter ∷ []))

-- what the station has as it takes the group keys
abbrev pub keyed_there : Node → List ℕ → Seal → Derivation → Bool → List Act → List Act
keyed_there p octets s x had h = Installed (One p) (Pairwise x.ptk.tk x.inputs) ∷ add (replaced p had) (Took (Some p) octets (kind.Key M3) Accepted (Some s) ∷ h)

pub finished_add : (d : Domain) (n p : Node) (octets : List ℕ) (s : Seal) (x : Derivation) (had : Bool) (gives : List Act) (counter : ℕ) (h : List Act)
    → add (finishing_acts d n p octets s x had gives counter) h ≡ sent_m4 d n p x counter ∷ Finished p x.inputs ∷ add gives (keyed_there p octets s x had h)
finished_add d n p octets s x true gives counter h = add_append gives (Finished p x.inputs ∷ sent_m4 d n p x counter ∷ []) (keyed_there p octets s x true h)
finished_add d n p octets s x false gives counter h = add_append gives (Finished p x.inputs ∷ sent_m4 d n p x counter ∷ []) (keyed_there p octets s x false h)

-- that of a group key is not about a pairwise one
pub apart_give : (q : Node) (which : GroupKind) (p : Node) (b : Mac) (g : GroupKey) (o : Option GroupKey) → IsApart q (give_by which p b g o)
apart_give q which p b g None = record { opens_none = refl; ends_none = refl; accepts_none = λ k. refl; replies_none = λ k. refl; sends_none = λ m. refl; derives_none = refl; finishes_none = refl; closes_none = refl }
apart_give q which p b g (Some kept) = record { opens_none = refl; ends_none = refl; accepts_none = λ k. refl; replies_none = λ k. refl; sends_none = λ m. refl; derives_none = refl; finishes_none = refl; closes_none = refl }

pub apart_gives : (d : Domain) (q p : Node) (b : Mac) (keys : GivenKeys) (h : List Act) → AllByRecursion (IsApart q) (give_all d p b keys h)
apart_gives d q p b keys h = all_given (IsApart q) (apart_give q) d p b keys h

-- the session is that of the key derived last
session_finished : (d : Domain) (n p : Node) (x : Derivation) (counter : ℕ) (l : List Act) → session p (sent_m4 d n p x counter ∷ Finished p x.inputs ∷ l) ≡ derivation p l
session_finished d n p x counter l = rw (same-refl p) refl

derives_there : (p : Node) (octets : List ℕ) (s : Seal) (x : Derivation) (had : Bool) (h : List Act) → derivation p (keyed_there p octets s x had h) ≡ derivation p h
derives_there p octets s x true h = refl
derives_there p octets s x false h = refl

session_there : (d : Domain) (n p : Node) (octets : List ℕ) (s : Seal) (x : Derivation) (had : Bool) (gives : List Act) (counter : ℕ) (h : List Act) → AllByRecursion (IsApart p) gives
    → session p (add (finishing_acts d n p octets s x had gives counter) h) ≡ derivation p h
session_there d n p octets s x had gives counter h apart =
    let there : List Act = keyed_there p octets s x had h in
    ap (session p) (finished_add d n p octets s x had gives counter h) ∙ session_finished d n p x counter (add gives there) ∙ (goes_on p gives there apart).derives ∙ derives_there p octets s x had h

-- and it began as the attempt did
start_finished : (d : Domain) (n p : Node) (x : Derivation) (counter : ℕ) (l : List Act) → session_start p (sent_m4 d n p x counter ∷ Finished p x.inputs ∷ l) ≡ option_and_then start_of (attempt p l)
start_finished d n p x counter l = rw (same-refl p) refl

attempt_there : (p : Node) (octets : List ℕ) (s : Seal) (x : Derivation) (had : Bool) (h part : List Act) → attempt p h ≡ Some part → attempt p (keyed_there p octets s x had h) ≡ Some (keyed_there p octets s x had part)
attempt_there p octets s x true h part at =
    let took : Act = Took (Some p) octets (kind.Key M3) Accepted (Some s) in
    let closed = attempt_more p (Closed p OfSession) (took ∷ h) (took ∷ part) refl refl (attempt_more p took h part refl refl at) in
    attempt_more p (Installed (One p) (Pairwise x.ptk.tk x.inputs)) (Closed p OfSession ∷ took ∷ h) (Closed p OfSession ∷ took ∷ part) refl refl closed
attempt_there p octets s x false h part at =
    let took : Act = Took (Some p) octets (kind.Key M3) Accepted (Some s) in
    attempt_more p (Installed (One p) (Pairwise x.ptk.tk x.inputs)) (took ∷ h) (took ∷ part) refl refl (attempt_more p took h part refl refl at)

start_there : (p : Node) (octets : List ℕ) (s : Seal) (x : Derivation) (had : Bool) (part : List Act) → (part ≡ [] → ⊥) → start_of (keyed_there p octets s x had part) ≡ start_of part
start_there p octets s x true part some = start_more (Took (Some p) octets (kind.Key M3) Accepted (Some s)) part some
start_there p octets s x false part some = start_more (Took (Some p) octets (kind.Key M3) Accepted (Some s)) part some

begun_there : (d : Domain) (n p : Node) (octets : List ℕ) (s : Seal) (x : Derivation) (had : Bool) (gives : List Act) (counter : ℕ) (h part : List Act) → AllByRecursion (IsApart p) gives → attempt p h ≡ Some part
    → session_start p (add (finishing_acts d n p octets s x had gives counter) h) ≡ start_of part
begun_there d n p octets s x had gives counter h part apart at =
    let there : List Act = keyed_there p octets s x had h in
    let c : IsCarried p (keyed_there p octets s x had part) (add gives there) = (goes_on p gives there apart).carries (keyed_there p octets s x had part) (attempt_there p octets s x had h part at) in
    ap (session_start p) (finished_add d n p octets s x had gives counter h) ∙ start_finished d n p x counter (add gives there)
    ∙ ap (λ (o : Option (List Act)). option_and_then start_of o) c.is ∙ c.begun ∙ start_there p octets s x had part (attempt_some p h part at)

-- the association response that was accepted stays
not_response : (p : Node) (octets : List ℕ) (s : Seal) → accepted p kind.AssocResp (Took (Some p) octets (kind.Key M3) Accepted (Some s)) ≡ None
not_response p octets s = rw (same-refl p) refl

heard_keyed : (p : Node) (octets : List ℕ) (s : Seal) (x : Derivation) (had : Bool) (h : List Act) → heard p kind.AssocResp (since p (keyed_there p octets s x had h)) ≡ heard p kind.AssocResp (since p h)
heard_keyed p octets s x true h =
    let took : Act = Took (Some p) octets (kind.Key M3) Accepted (Some s) in
    heard_since p kind.AssocResp (Installed (One p) (Pairwise x.ptk.tk x.inputs)) (Closed p OfSession ∷ took ∷ h) refl refl ∙ heard_since p kind.AssocResp (Closed p OfSession) (took ∷ h) refl refl
    ∙ heard_since p kind.AssocResp took h refl (not_response p octets s)
heard_keyed p octets s x false h =
    let took : Act = Took (Some p) octets (kind.Key M3) Accepted (Some s) in
    heard_since p kind.AssocResp (Installed (One p) (Pairwise x.ptk.tk x.inputs)) (took ∷ h) refl refl ∙ heard_since p kind.AssocResp took h refl (not_response p octets s)

heard_there : (d : Domain) (n p : Node) (octets : List ℕ) (s : Seal) (x : Derivation) (had : Bool) (gives : List Act) (counter : ℕ) (h : List Act) → AllByRecursion (IsApart p) gives
    → heard p kind.AssocResp (since p (add (finishing_acts d n p octets s x had gives counter) h)) ≡ heard p kind.AssocResp (since p h)
heard_there d n p octets s x had gives counter h apart =
    let there : List Act = keyed_there p octets s x had h in
    ap (λ (l : List Act). heard p kind.AssocResp (since p l)) (finished_add d n p octets s x had gives counter h)
    ∙ heard_since p kind.AssocResp (sent_m4 d n p x counter) (Finished p x.inputs ∷ add gives there) refl refl ∙ heard_since p kind.AssocResp (Finished p x.inputs) (add gives there) refl refl
    ∙ heard_on p kind.AssocResp gives there apart ∙ heard_keyed p octets s x had h

-- the counter is the greater of that of M3 and the one before
kept_m3 : (p : Node) (octets : List ℕ) (s : Seal) (h : List Act) → kept_counter p (chain p (Took (Some p) octets (kind.Key M3) Accepted (Some s) ∷ h)) ≡ at_least (replay_counter octets) (kept_counter p (chain p h))
kept_m3 p octets s h = rw (same-refl p) refl

kept_there : (p : Node) (octets : List ℕ) (s : Seal) (x : Derivation) (had : Bool) (h : List Act) → kept_counter p (chain p (keyed_there p octets s x had h)) ≡ at_least (replay_counter octets) (kept_counter p (chain p h))
kept_there p octets s x true h =
    let took : Act = Took (Some p) octets (kind.Key M3) Accepted (Some s) in
    kept_more p (Installed (One p) (Pairwise x.ptk.tk x.inputs)) (Closed p OfSession ∷ took ∷ h) refl refl refl ∙ kept_more p (Closed p OfSession) (took ∷ h) refl refl refl ∙ kept_m3 p octets s h
kept_there p octets s x false h =
    kept_more p (Installed (One p) (Pairwise x.ptk.tk x.inputs)) (Took (Some p) octets (kind.Key M3) Accepted (Some s) ∷ h) refl refl refl ∙ kept_m3 p octets s h

counter_there : (d : Domain) (n p : Node) (octets : List ℕ) (s : Seal) (x : Derivation) (had : Bool) (gives : List Act) (counter : ℕ) (h : List Act) → AllByRecursion (IsApart p) gives
    → kept_counter p (chain p (add (finishing_acts d n p octets s x had gives counter) h)) ≡ at_least (replay_counter octets) (kept_counter p (chain p h))
counter_there d n p octets s x had gives counter h apart =
    let there : List Act = keyed_there p octets s x had h in
    ap (λ (l : List Act). kept_counter p (chain p l)) (finished_add d n p octets s x had gives counter h)
    ∙ kept_more p (sent_m4 d n p x counter) (Finished p x.inputs ∷ add gives there) refl refl refl ∙ kept_more p (Finished p x.inputs) (add gives there) refl refl refl
    ∙ kept_on p gives there apart ∙ kept_there p octets s x had h

pub held_finished : (d : Domain) (sta a : ℕ) (b : Base) (v octets : List ℕ) (s : Seal) (y : Keyed) (gives : List Act) (counter : ℕ) (h : List Act) → IsUnderWay d (Sta sta) (Ap a) b v (Some y) h → AllByRecursion (IsApart (Ap a)) gives → replay_counter octets ≡ counter
    → IsHeld d (Sta sta) (Ap a) b y counter (add (finishing_acts d (Sta sta) (Ap a) octets s (key_by d (root_at d (Sta sta) b.r0kh_id) (Sta sta) (Ap a) y) false gives counter) h)
held_finished d sta a b v octets s y gives counter h u apart is =
    let x : Derivation = key_by d (root_at d (Sta sta) b.r0kh_id) (Sta sta) (Ap a) y in
    let kept : kept_counter (Ap a) (chain (Ap a) h) ≡ None = ap (kept_counter (Ap a)) (chain_part (Ap a) h u.part u.is (connect_no_renewal (start_of u.part) u.begun)) ∙ u.keeps in
    record {
      is = session_there d (Sta sta) (Ap a) octets s x false gives counter h apart ∙ derivation_part (Ap a) h u.part x u.is u.keyed;
      begun = ap has_four_way (begun_there d (Sta sta) (Ap a) octets s x false gives counter h u.part apart u.is) ∙ four_way_by_connect (start_of u.part) u.begun;
      based = based_on d (Sta sta) (Ap a) b u.part (since (Ap a) (add (finishing_acts d (Sta sta) (Ap a) octets s x false gives counter) h))
          (heard_there d (Sta sta) (Ap a) octets s x false gives counter h apart ∙ ap (heard (Ap a) kind.AssocResp) (since_part (Ap a) h u.part u.is)) u.based;
      keeps = counter_there d (Sta sta) (Ap a) octets s x false gives counter h apart ∙ rw (kept, is) refl;
    }

-- in the place of the session whose key is renewed
pub held_renewed : (d : Domain) (sta a : ℕ) (b : Base) (v octets : List ℕ) (s : Seal) (y : Keyed) (gives : List Act) (kept counter : ℕ) (h : List Act) → IsRenewing d (Sta sta) (Ap a) b v (Some y) h → IsBased d (Sta sta) (Ap a) b (since (Ap a) h) → kept_counter (Ap a) (chain (Ap a) h) ≡ Some kept
    → AllByRecursion (IsApart (Ap a)) gives → replay_counter octets ≡ counter → kept < counter
    → IsHeld d (Sta sta) (Ap a) b y counter (add (finishing_acts d (Sta sta) (Ap a) octets s (key_by d (root_at d (Sta sta) b.r0kh_id) (Sta sta) (Ap a) y) true gives counter) h)
held_renewed d sta a b v octets s y gives kept counter h u based keeps apart is high =
    let x : Derivation = key_by d (root_at d (Sta sta) b.r0kh_id) (Sta sta) (Ap a) y in
    record {
      is = session_there d (Sta sta) (Ap a) octets s x true gives counter h apart ∙ derivation_part (Ap a) h u.part x u.is u.keyed;
      begun = ap has_four_way (begun_there d (Sta sta) (Ap a) octets s x true gives counter h u.part apart u.is ∙ renewal_is (start_of u.part) u.begun);
      based = based_anyway d (Sta sta) (Ap a) b (since (Ap a) h) (since (Ap a) (add (finishing_acts d (Sta sta) (Ap a) octets s x true gives counter) h)) u.renewed based;
      keeps = counter_there d (Sta sta) (Ap a) octets s x true gives counter h apart ∙ rw (keeps, is) (at_least-greater kept counter high);
    }

-- and no attempt
pub none_finished : (d : Domain) (sta a : ℕ) (octets : List ℕ) (s : Seal) (x : Derivation) (had : Bool) (gives : List Act) (counter : ℕ) (h : List Act) → attempt (Ap a) (add (finishing_acts d (Sta sta) (Ap a) octets s x had gives counter) h) ≡ None
none_finished d sta a octets s x had gives counter h = ap (attempt (Ap a)) (finished_add d (Sta sta) (Ap a) octets s x had gives counter h)

-- ---- M3 once more

abbrev pub answering_acts : Domain → Node → Node → List ℕ → Seal → Derivation → ℕ → List Act
answering_acts d n p octets s x counter = Took (Some p) octets (kind.Key M3) Answered (Some s) ∷ sent_m4 d n p x counter ∷ []

counter_again : (d : Domain) (n p : Node) (octets : List ℕ) (s : Seal) (x : Derivation) (counter : ℕ) (h : List Act)
    → kept_counter p (chain p (add (answering_acts d n p octets s x counter) h)) ≡ at_least (replay_counter octets) (kept_counter p (chain p h))
counter_again d n p octets s x counter h = rw (same-refl p) refl

heard_again : (d : Domain) (n p : Node) (octets : List ℕ) (s : Seal) (x : Derivation) (counter : ℕ) (h : List Act)
    → heard p kind.AssocResp (since p (add (answering_acts d n p octets s x counter) h)) ≡ heard p kind.AssocResp (since p h)
heard_again d n p octets s x counter h = refl

pub held_again : (d : Domain) (n p : Node) (b : Base) (octets : List ℕ) (s : Seal) (x : Derivation) (y : Keyed) (kept counter : ℕ) (h : List Act) → IsHeld d n p b y kept h → replay_counter octets ≡ counter → kept < counter
    → IsHeld d n p b y counter (add (answering_acts d n p octets s x counter) h)
held_again d n p b octets s x y kept counter h l is high =
    record {
      is = l.is;
      begun = l.begun;
      based = based_on d n p b (since p h) (since p (add (answering_acts d n p octets s x counter) h)) (heard_again d n p octets s x counter h) l.based;
      keeps = counter_again d n p octets s x counter h ∙ rw (l.keeps, is) (at_least-greater kept counter high);
    }

pub none_again : (d : Domain) (n p : Node) (octets : List ℕ) (s : Seal) (x : Derivation) (counter : ℕ) (h : List Act) → attempt p h ≡ None → attempt p (add (answering_acts d n p octets s x counter) h) ≡ None
none_again d n p octets s x counter h none =
    let took : Act = Took (Some p) octets (kind.Key M3) Answered (Some s) in
    attempt_none p (sent_m4 d n p x counter) (took ∷ h) refl (attempt_none p took h refl none)

-- and one that renews the key goes on
pub renewing_again : (d : Domain) (n p : Node) (b : Base) (v : List ℕ) (key : Option Keyed) (octets : List ℕ) (s : Seal) (x : Derivation) (counter : ℕ) (h : List Act) → IsRenewing d n p b v key h → IsRenewing d n p b v key (add (answering_acts d n p octets s x counter) h)
renewing_again d n p b v key octets s x counter h u =
    renewing_on d n p b v key (answering_acts d n p octets s x counter) h (record { opens_none = refl; ends_none = refl; derives_none = refl }, (record { opens_none = refl; ends_none = refl; derives_none = refl }, tt)) u
