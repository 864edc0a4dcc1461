-- What a supplicant stands for behind a G1 that was accepted.
use Rattle.std.proofs.Common.{◌≡◌, ℕ, true, List, [], ◌∷◌, ◌++◌, Option, Some, None, refl, sym, ap, ◌∙◌, arith}
use Rattle.std.specs.Prelude.{map}
use Rattle.std.specs.List.{AllByRecursion}
use Rattle.domain_base.specs.declared.names.Node.{Node}
use Rattle.eapol_key.specs.declared.messages.Message.TheVariants.{M3, G1}
use Rattle.run_journal.specs.declared.domain.Domain.{Domain}
use Rattle.run_journal.specs.declared.acts.Kind.TheVariants as kind
use Rattle.run_journal.specs.declared.acts.Outcome.TheVariants.{Accepted}
use Rattle.run_journal.specs.declared.acts.Seal.{Seal}
use Rattle.run_journal.specs.declared.acts.Act.{Act}
use Rattle.run_journal.specs.declared.acts.Act.TheVariants.{Took}
use Rattle.run_journal.specs.Acts.{Derivation, accepted}
use Rattle.run_journal.specs.Questions.{attempt, since, chain, heard, session, all_replied, add}
use Rattle.domain_rules.specs.Frames.{sent_g2}
use Rattle.domain_rules.specs.Asking.{start_of, has_four_way, is_roam, is_by_roam, session_start, kept_counter, replay_counter, at_least, greatest}
use Rattle.domain_rules.proofs.GroupActs.{all_both}
use Rattle.domain_rules.proofs.Parts.{IsApart, chain_since, goes_on, same-refl, attempt_none, add_append}
use Rattle.domain_rules.proofs.Starts.{roam_no_renewal}
use Rattle.supplicant.specs.declared.attempt.Attempt.{Attempt}
use Rattle.supplicant.specs.declared.base.Base.{Base}
use Rattle.supplicant.specs.declared.session.Session.{Session}
use Rattle.supplicant.specs.declared.session.Session.TheVariants.{Connect, Ft}
use Rattle.supplicant.specs.Held.{kept_of, counted}
use Rattle.supplicant.specs.Stands.{HasAttempt, Holds}
use Rattle.supplicant.proofs.Standing.{based_on, kept_more, kept_on, LeavesAttempt, leaves_all, heard_since, heard_on, roams_more, roams_on, renewing_on}

-- the acts of the group keys stand before the answer
abbrev pub renewing_acts : Domain → Node → Node → List ℕ → Seal → List Act → Derivation → ℕ → List Act
renewing_acts d n p octets s gives x counter = Took (Some p) octets (kind.Key G1) Accepted (Some s) ∷ (gives ++ sent_g2 d n p x counter ∷ [])

pub renewed_add : (d : Domain) (n p : Node) (octets : List ℕ) (s : Seal) (gives : List Act) (x : Derivation) (counter : ℕ) (h : List Act)
    → add (renewing_acts d n p octets s gives x counter) h ≡ sent_g2 d n p x counter ∷ add gives (Took (Some p) octets (kind.Key G1) Accepted (Some s) ∷ h)
renewed_add d n p octets s gives x counter h = add_append gives (sent_g2 d n p x counter ∷ []) (Took (Some p) octets (kind.Key G1) Accepted (Some s) ∷ h)

-- ---- the counter of a G1 is the greatest of both messages

turned : (x c : ℕ) (o : Option ℕ) → at_least x (at_least c o) ≡ at_least c (at_least x o)
turned x c None = ap (λ (n : ℕ). Some n) (omega arith)
turned x c (Some y) = ap (λ (n : ℕ). Some n) (omega arith)

map_with : (xs ys : List (List ℕ)) (c : List ℕ) → greatest (map replay_counter (xs ++ c ∷ ys)) ≡ at_least (replay_counter c) (greatest (map replay_counter (xs ++ ys)))
map_with [] ys c = refl
map_with (x ∷ xs) ys c = ap (at_least (replay_counter x)) (map_with xs ys c) ∙ turned (replay_counter x) (replay_counter c) (greatest (map replay_counter (xs ++ ys)))

kept_g1 : (p : Node) (octets : List ℕ) (s : Seal) (h : List Act)
    → kept_counter p (chain p (Took (Some p) octets (kind.Key G1) Accepted (Some s) ∷ h)) ≡ greatest (map replay_counter (all_replied p (kind.Key M3) (chain p h) ++ octets ∷ all_replied p (kind.Key G1) (chain p h)))
kept_g1 p octets s h = rw (same-refl p) refl

counter_renewed : (d : Domain) (n p : Node) (octets : List ℕ) (s : Seal) (gives : List Act) (x : Derivation) (kept : Option ℕ) (counter : ℕ) (h : List Act) → AllByRecursion (IsApart p) gives
    → kept_counter p (chain p h) ≡ kept → replay_counter octets ≡ counter → at_least counter kept ≡ Some counter → kept_counter p (chain p (add (renewing_acts d n p octets s gives x counter) h)) ≡ Some counter
counter_renewed d n p octets s gives x kept counter h apart keeps is high =
    let took : Act = Took (Some p) octets (kind.Key G1) Accepted (Some s) in
    ap (λ (l : List Act). kept_counter p (chain p l)) (renewed_add d n p octets s gives x counter h) ∙ kept_more p (sent_g2 d n p x counter) (add gives (took ∷ h)) refl refl refl ∙ kept_on p gives (took ∷ h) apart
    ∙ kept_g1 p octets s h ∙ map_with (all_replied p (kind.Key M3) (chain p h)) (all_replied p (kind.Key G1) (chain p h)) octets
    ∙ ap (at_least (replay_counter octets)) keeps ∙ ap (λ (c : ℕ). at_least c kept) is ∙ high

-- ---- the session goes on

session_renewed : (d : Domain) (n p : Node) (octets : List ℕ) (s : Seal) (gives : List Act) (x : Derivation) (counter : ℕ) (h : List Act) → AllByRecursion (IsApart p) gives → session p (add (renewing_acts d n p octets s gives x counter) h) ≡ session p h
session_renewed d n p octets s gives x counter h apart =
    ap (session p) (renewed_add d n p octets s gives x counter h) ∙ (goes_on p gives (Took (Some p) octets (kind.Key G1) Accepted (Some s) ∷ h) apart).has

begun_renewed : (d : Domain) (n p : Node) (octets : List ℕ) (s : Seal) (gives : List Act) (x : Derivation) (counter : ℕ) (h : List Act) → AllByRecursion (IsApart p) gives → session_start p (add (renewing_acts d n p octets s gives x counter) h) ≡ session_start p h
begun_renewed d n p octets s gives x counter h apart =
    ap (session_start p) (renewed_add d n p octets s gives x counter h) ∙ (goes_on p gives (Took (Some p) octets (kind.Key G1) Accepted (Some s) ∷ h) apart).started

not_response : (p : Node) (octets : List ℕ) (s : Seal) → accepted p kind.AssocResp (Took (Some p) octets (kind.Key G1) Accepted (Some s)) ≡ None
not_response p octets s = rw (same-refl p) refl

heard_renewed : (d : Domain) (n p : Node) (octets : List ℕ) (s : Seal) (gives : List Act) (x : Derivation) (counter : ℕ) (h : List Act) → AllByRecursion (IsApart p) gives
    → heard p kind.AssocResp (since p (add (renewing_acts d n p octets s gives x counter) h)) ≡ heard p kind.AssocResp (since p h)
heard_renewed d n p octets s gives x counter h apart =
    let took : Act = Took (Some p) octets (kind.Key G1) Accepted (Some s) in
    ap (λ (l : List Act). heard p kind.AssocResp (since p l)) (renewed_add d n p octets s gives x counter h)
    ∙ heard_since p kind.AssocResp (sent_g2 d n p x counter) (add gives (took ∷ h)) refl refl ∙ heard_on p kind.AssocResp gives (took ∷ h) apart ∙ heard_since p kind.AssocResp took h refl (not_response p octets s)

-- one that came of a fast transition still did
roams_renewed : (d : Domain) (n p : Node) (octets : List ℕ) (s : Seal) (gives : List Act) (x : Derivation) (counter : ℕ) (h : List Act) → AllByRecursion (IsApart p) gives → is_by_roam (since p h) ≡ true
    → is_by_roam (since p (add (renewing_acts d n p octets s gives x counter) h)) ≡ true
roams_renewed d n p octets s gives x counter h apart last =
    let took : Act = Took (Some p) octets (kind.Key G1) Accepted (Some s) in
    ap (λ (l : List Act). is_by_roam (since p l)) (renewed_add d n p octets s gives x counter h)
    ∙ roams_more p (sent_g2 d n p x counter) (add gives (took ∷ h)) refl (roams_on p gives (took ∷ h) apart (roams_more p took h refl last))

pub holds_renewed : (d : Domain) (n p : Node) (b : Base) (octets : List ℕ) (s : Seal) (gives : List Act) (x : Derivation) (old : Session) (counter : ℕ) (h : List Act) → Holds d n p b old h → AllByRecursion (IsApart p) gives → replay_counter octets ≡ counter → at_least counter (kept_of old) ≡ Some counter
    → Holds d n p b (counted counter old) (add (renewing_acts d n p octets s gives x counter) h)
holds_renewed d n p b octets s gives x (Connect y was) counter h l apart is high = record {
  is = session_renewed d n p octets s gives x counter h apart ∙ l.is;
  begun = ap has_four_way (begun_renewed d n p octets s gives x counter h apart) ∙ l.begun;
  based = based_on d n p b (since p h) (since p (add (renewing_acts d n p octets s gives x counter) h)) (heard_renewed d n p octets s gives x counter h apart) l.based;
  keeps = counter_renewed d n p octets s gives x (Some was) counter h apart l.keeps is high;
}
holds_renewed d n p b octets s gives x (Ft q was) counter h l apart is high =
    let new : List Act = add (renewing_acts d n p octets s gives x counter) h in
    let last : is_by_roam (since p new) ≡ true = roams_renewed d n p octets s gives x counter h apart l.last in
    record {
      x = l.x;
      is = session_renewed d n p octets s gives x counter h apart ∙ l.is;
      key = l.key;
      begun = ap is_roam (begun_renewed d n p octets s gives x counter h apart) ∙ l.begun;
      last = last;
      keeps = ap (kept_counter p) (sym (chain_since p new (roam_no_renewal (start_of (since p new)) last)))
          ∙ counter_renewed d n p octets s gives x was counter h apart (ap (kept_counter p) (chain_since p h (roam_no_renewal (start_of (since p h)) l.last)) ∙ l.keeps) is high;
    }

-- ---- and an attempt beside it

none_renewed : (d : Domain) (n p : Node) (octets : List ℕ) (s : Seal) (gives : List Act) (x : Derivation) (counter : ℕ) (h : List Act) → AllByRecursion (IsApart p) gives → attempt p h ≡ None → attempt p (add (renewing_acts d n p octets s gives x counter) h) ≡ None
none_renewed d n p octets s gives x counter h apart none =
    let took : Act = Took (Some p) octets (kind.Key G1) Accepted (Some s) in
    ap (attempt p) (renewed_add d n p octets s gives x counter h)
    ∙ attempt_none p (sent_g2 d n p x counter) (add gives (took ∷ h)) refl ((goes_on p gives (took ∷ h) apart).none (attempt_none p took h refl none))

pub attempt_renewed : (d : Domain) (n p : Node) (b : Base) (z w : Session) (o : Option Attempt) (octets : List ℕ) (s : Seal) (gives : List Act) (x : Derivation) (counter : ℕ) (h : List Act) → AllByRecursion (IsApart p) gives → HasAttempt d n p b (Some z) o h
    → HasAttempt d n p b (Some w) o (add (renewing_acts d n p octets s gives x counter) h)
attempt_renewed d n p b z w None octets s gives x counter h apart none = none_renewed d n p octets s gives x counter h apart none
attempt_renewed d n p b z w (Some a) octets s gives x counter h apart u =
    let answer : List Act = sent_g2 d n p x counter ∷ [] in
    renewing_on d n p b a.snonce a.key (renewing_acts d n p octets s gives x counter) h
    (record { opens_none = refl; ends_none = refl; derives_none = refl }, all_both (LeavesAttempt p) gives answer (leaves_all p gives apart) (record { opens_none = refl; ends_none = refl; derives_none = refl }, tt)) u
