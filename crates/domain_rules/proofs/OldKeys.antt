-- Where the key of a station is changed nothing goes on under the old one: no attempt, no session and no row.
use Rattle.std.proofs.Common.{◌≡◌, ℕ, zero, suc, ◌<◌, Bool, true, false, true≢false, cond, List, [], ◌∷◌, ◌++◌, length, Option, Some, None, refl, sym, ap, subst, ◌∙◌, arith, inl, inr}
use Rattle.std.specs.Prelude.{◌||◌}
use Rattle.std.specs.List.{AllByRecursion}
use Rattle.std.proofs.lemmas.Bool.{cases_lt}
use Rattle.std.proofs.lemmas.Slice.Eq.{bytes_eq-Decides}
use Rattle.domain_base.specs.declared.names.Akm.{Akm}
use Rattle.domain_base.specs.declared.names.Akm.TheVariants.{Psk, PskSha256, FtPsk}
use Rattle.domain_base.specs.declared.names.Node.{Node}
use Rattle.domain_base.specs.declared.names.Node.TheVariants.{Ap, Sta}
use Rattle.run_journal.specs.declared.domain.Domain.{Domain}
use Rattle.run_journal.specs.Events.{protects}
use Rattle.run_journal.specs.declared.acts.Part.TheVariants.{Attempt}
use Rattle.run_journal.specs.declared.acts.Act.{Act}
use Rattle.run_journal.specs.declared.acts.Act.TheVariants.{Opened, Closed, Finished, Put, Revoked}
use Rattle.run_journal.specs.declared.acts.Act.TheVariants as act
use Rattle.run_journal.specs.Acts.{Derivation, opens, closes, finishes}
use Rattle.run_journal.specs.Questions.{attempt, derivation, session, pending, associated, or_else, add}
use Rattle.run_journal.specs.Holders.{held, is_ended, row}
use Rattle.run_journal.specs.declared.acts.GroupKind.TheVariants as groups
use Rattle.domain_rules.specs.Network.{r0kh_id}
use Rattle.domain_rules.specs.GroupKeys.{is_current}
use Rattle.domain_rules.specs.Owing.{any_owes, current_act, current_igtk, current_acts, switch_acts, and_switch}
use Rattle.domain_rules.specs.Closing.{close_attempt, close_session, close_pending, close_associated}
use Rattle.domain_rules.specs.KeyHolders.{revoke_answer, revoke_acts_by, revoke_acts}
use Rattle.domain_rules.specs.ChangedKeys.{r0_name_of, old_row_by, secret_of, secret_of_each, secret_acts, IsNamedSta}
use Rattle.domain_rules.specs.Rows.{Secret, Adds}
use Rattle.domain_rules.specs.Here.{here}
use Rattle.domain_rules.proofs.Parts.{same-refl, attempt_none, attempt_ends, add_append}

-- ---- acts that begin nothing

abbrev is_calm : Act → Bool
is_calm (Opened p s) = false
is_calm (Finished p i) = false
is_calm (Put x m p answer) = false
is_calm _ = true

abbrev AreCalm : List Act → Type 0
AreCalm g = AllByRecursion (λ (e : Act). is_calm e ≡ true) g

calm-opens : (p : Node) (e : Act) → is_calm e ≡ true → opens p e ≡ false
calm-opens p (Opened q s) is = absurd (true≢false (sym is))
calm-opens p (Finished q i) is = absurd (true≢false (sym is))
calm-opens p (Put x m q answer) is = absurd (true≢false (sym is))
calm-opens p _ is = refl

calm-finishes : (p : Node) (e : Act) → is_calm e ≡ true → finishes p e ≡ false
calm-finishes p (Opened q s) is = absurd (true≢false (sym is))
calm-finishes p (Finished q i) is = absurd (true≢false (sym is))
calm-finishes p (Put x m q answer) is = absurd (true≢false (sym is))
calm-finishes p _ is = refl

calm-held : (name : List ℕ) (e : Act) → is_calm e ≡ true → held name e ≡ None
calm-held name (Opened q s) is = absurd (true≢false (sym is))
calm-held name (Finished q i) is = absurd (true≢false (sym is))
calm-held name (Put x m q answer) is = absurd (true≢false (sym is))
calm-held name _ is = refl

session_none : (p : Node) (e : Act) (h : List Act) → is_calm e ≡ true → session p h ≡ None → session p (e ∷ h) ≡ None
session_none p e h calm none = ap (λ (b : Bool). cond b (derivation p h) (cond (closes p e) None (session p h))) (calm-finishes p e calm) ∙ by (closes p e)
  where
    by : (b : Bool) → cond b None (session p h) ≡ None
    by true = refl
    by false = none

row_none : (name : List ℕ) (e : Act) (h : List Act) → is_calm e ≡ true → row name h ≡ None → row name (e ∷ h) ≡ None
row_none name e h calm none = by (is_ended name e)
  where
    by : (b : Bool) → cond b None (or_else (held name e) (row name h)) ≡ None
    by true = refl
    by false = ap (λ (o : Option Node). or_else o (row name h)) (calm-held name e calm) ∙ none

calm_append : (f g : List Act) → AreCalm f → AreCalm g → AreCalm (f ++ g)
calm_append [] g one more = more
calm_append (e ∷ f) g one more = (one.0, calm_append f g one.1 more)

-- ---- nothing goes on

-- an access point has nothing of p
record IsOver (d : Domain) (n p : Node) (h : List Act) : Type 0 where
  no_attempt : attempt p h ≡ None
  no_session : session p h ≡ None
  no_row : d.akm ≡ FtPsk → row (r0_name_of d n p) h ≡ None

over_more : (d : Domain) (n p : Node) (g h : List Act) → AreCalm g → IsOver d n p h → IsOver d n p (add g h)
over_more d n p [] h calm over = over
over_more d n p (e ∷ g) h calm over = over_more d n p g (e ∷ h) calm.1 (record {
  no_attempt = attempt_none p e h (calm-opens p e calm.0) over.no_attempt;
  no_session = session_none p e h calm.0 over.no_session;
  no_row = λ suite. row_none (r0_name_of d n p) e h calm.0 (over.no_row suite);
})

calm_attempt : (p : Node) (o : Option (List Act)) → AreCalm (close_attempt p o)
calm_attempt p None = tt
calm_attempt p (Some part) = (refl, tt)

calm_session : (p : Node) (o : Option Derivation) → AreCalm (close_session p o)
calm_session p None = tt
calm_session p (Some x) = (refl, tt)

calm_revoked : (akm : Akm) (d : Domain) (n : Node) (h : List Act) (p : Node) → AreCalm (revoke_acts_by akm d n h p)
calm_revoked FtPsk d n h p = (refl, tt)
calm_revoked Psk d n h p = (refl, tt)
calm_revoked PskSha256 d n h p = (refl, tt)

calm_row : (akm : Akm) (d : Domain) (n : Node) (h : List Act) (p : Node) → AreCalm (old_row_by akm d n h p)
calm_row FtPsk d n h p = calm_revoked d.akm d n h p
calm_row Psk d n h p = tt
calm_row PskSha256 d n h p = tt

calm_secret : (d : Domain) (n : Node) (h : List Act) (psk : List ℕ) (p : Node) → AreCalm (secret_of d n h psk p)
calm_secret d n h psk p =
    calm_append (old_row_by d.akm d n h p) _ (calm_row d.akm d n h p)
    (calm_append (close_attempt p (attempt p h)) _ (calm_attempt p (attempt p h)) (calm_append (close_session p (session p h)) _ (calm_session p (session p h)) (refl, tt)))

calm_current : (mfp : Bool) (d : Domain) (n : Node) (h : List Act) → AreCalm (current_act groups.Gtk d n h ∷ current_igtk mfp d n h)
calm_current true d n h = (refl, (refl, tt))
calm_current false d n h = (refl, tt)

calm_switch : (d : Domain) (a : ℕ) (h : List Act) → AreCalm (switch_acts d a h)
calm_switch d a h = by (is_current groups.Gtk h || any_owes groups.Gtk (length d.stas) h) (current_acts d (Ap a) h) (calm_current (protects d) d (Ap a) h)
  where
    by : (b : Bool) (f : List Act) → AreCalm f → AreCalm (cond b [] f)
    by true f calm = tt
    by false f calm = calm

-- ---- each of the three

none_more : (p : Node) (g h : List Act) → AreCalm g → attempt p h ≡ None → attempt p (add g h) ≡ None
none_more p [] h calm none = none
none_more p (e ∷ g) h calm none = none_more p g (e ∷ h) calm.1 (attempt_none p e h (calm-opens p e calm.0) none)

none_session : (p : Node) (g h : List Act) → AreCalm g → session p h ≡ None → session p (add g h) ≡ None
none_session p [] h calm none = none
none_session p (e ∷ g) h calm none = none_session p g (e ∷ h) calm.1 (session_none p e h calm.0 none)

none_row : (name : List ℕ) (g h : List Act) → AreCalm g → row name h ≡ None → row name (add g h) ≡ None
none_row name [] h calm none = none
none_row name (e ∷ g) h calm none = none_row name g (e ∷ h) calm.1 (row_none name e h calm.0 none)

attempt_over : (s : ℕ) (g h : List Act) (o : Option (List Act)) → AreCalm g → attempt (Sta s) h ≡ o → attempt (Sta s) (add (close_attempt (Sta s) o) (add g h)) ≡ None
attempt_over s g h None calm is = none_more (Sta s) g h calm is
attempt_over s g h (Some part) calm is = attempt_ends (Sta s) (Closed (Sta s) Attempt) (add g h) refl (same-refl (Sta s))

session_over : (p : Node) (g h : List Act) (o : Option Derivation) → AreCalm g → session p h ≡ o → session p (add (close_session p o) (add g h)) ≡ None
session_over p g h None calm is = none_session p g h calm is
session_over p g h (Some x) calm is = rw (same-refl p) refl

-- a row that is revoked is not live
row_over : (akm : Akm) (d : Domain) (n : Node) (h : List Act) (p : Node) → akm ≡ FtPsk → row (r0_name_of d n p) (add (revoke_acts_by akm d n h p) h) ≡ None
row_over FtPsk d n h p is = by (row (r0_name_of d n p) h) refl
  where
    by : (o : Option Node) → row (r0_name_of d n p) h ≡ o → row (r0_name_of d n p) (Revoked (r0kh_id d n) (r0_name_of d n p) p (revoke_answer o) ∷ h) ≡ None
    by None none = none
    by (Some q) live = ap (λ (b : Bool). cond b None (or_else None (row (r0_name_of d n p) h))) ((bytes_eq-Decides (r0_name_of d n p) (r0_name_of d n p)).1 refl)
row_over Psk d n h p is = absurd (cc is)
row_over PskSha256 d n h p is = absurd (cc is)

old_row_is : (akm : Akm) (d : Domain) (n : Node) (h : List Act) (p : Node) → akm ≡ FtPsk → old_row_by akm d n h p ≡ revoke_acts d n h p
old_row_is FtPsk d n h p is = refl
old_row_is Psk d n h p is = absurd (cc is)
old_row_is PskSha256 d n h p is = absurd (cc is)

-- ---- at an access point

over_secret : (d : Domain) (n : Node) (h : List Act) (psk : List ℕ) (s : ℕ) → IsOver d n (Sta s) (add (secret_of d n h psk (Sta s)) h)
over_secret d n h psk s =
    let p : Node = Sta s in
    let old : List Act = old_row_by d.akm d n h p in
    let part : List Act = close_attempt p (attempt p h) in
    let rest : List Act = close_session p (session p h) in
    let last : List Act = act.Secret p psk ∷ [] in
    let calm_old = calm_row d.akm d n h p in
    let calm_part = calm_attempt p (attempt p h) in
    let calm_rest = calm_session p (session p h) in
    let one : add (old ++ (part ++ (rest ++ last))) h ≡ add (part ++ (rest ++ last)) (add old h) = add_append old (part ++ (rest ++ last)) h in
    let two : add (part ++ (rest ++ last)) (add old h) ≡ add (rest ++ last) (add part (add old h)) = add_append part (rest ++ last) (add old h) in
    let ended = attempt_over s old h (attempt p h) calm_old refl in
    let three : add (old ++ part) h ≡ add part (add old h) = add_append old part h in
    let closed : session p (add rest (add part (add old h))) ≡ None =
    subst (λ (x : List Act). session p (add rest x) ≡ None) three (session_over p (old ++ part) h (session p h) (calm_append old part calm_old calm_part) refl) in
    let four : add (rest ++ last) (add part (add old h)) ≡ add last (add rest (add part (add old h))) = add_append rest last (add part (add old h)) in
    let gone : d.akm ≡ FtPsk → row (r0_name_of d n p) (add old h) ≡ None = λ suite. (ap (λ (g : List Act). row (r0_name_of d n p) (add g h)) (old_row_is d.akm d n h p suite) ∙ row_over d.akm d n h p suite) in
    record {
      no_attempt = ap (attempt p) (one ∙ two) ∙ none_more p (rest ++ last) (add part (add old h)) (calm_append rest last calm_rest (refl, tt)) ended;
      no_session = ap (session p) (one ∙ two ∙ four) ∙ none_session p last (add rest (add part (add old h))) (refl, tt) closed;
      no_row = λ suite. (ap (row (r0_name_of d n p)) one ∙ none_row (r0_name_of d n p) (part ++ (rest ++ last)) (add old h) (calm_append part (rest ++ last) calm_part (calm_append rest last calm_rest (refl, tt))) (gone suite));
    }

over_each : (d : Domain) (n : Node) (h : List Act) (psk : List ℕ) (k s : ℕ) → s < k → IsOver d n (Sta s) (add (secret_of_each d n h psk k) h)
over_each d n h psk zero s low = absurd (omega (arith, low))
over_each d n h psk (suc k) s low =
    let before : List Act = secret_of_each d n h psk k in
    let mid : List Act = add before h in
    let here_ : List Act = secret_of d n mid psk (Sta k) in
    subst (λ (x : List Act). IsOver d n (Sta s) x) (sym (add_append before here_ h)) (elim (cases_lt s k) [
      | inl less ↦ over_more d n (Sta s) here_ mid (calm_secret d n mid psk (Sta k)) (over_each d n h psk k s less)
      | inr high ↦ (let one : s ≡ k = omega (arith, low, high) in
          subst (λ (x : ℕ). IsOver d n (Sta s) (add (secret_of d n mid psk (Sta x)) mid)) one (over_secret d n mid psk s))
    ])

over_acts : (d : Domain) (a : ℕ) (h : List Act) (named : Option ℕ) (psk : List ℕ) (s : ℕ) → IsNamedSta d named s → IsOver d (Ap a) (Sta s) (add (secret_acts d (Ap a) h named psk) h)
over_acts d a h (Some k) psk s is = subst (λ (x : ℕ). IsOver d (Ap a) (Sta s) (add (secret_of d (Ap a) h psk (Sta x)) h)) is (over_secret d (Ap a) h psk s)
over_acts d a h None psk s low = over_each d (Ap a) h psk (length d.stas) s low

pub ends_at_ap : (d : Domain) (first a : ℕ) (h : List Act) (named : Option ℕ) (psk : List ℕ) (s : ℕ) (g : List Act) → IsNamedSta d named s → Adds (here d first (Ap a)) h (Secret named psk) g
    → (attempt (Sta s) (add g h) ≡ None) × (session (Sta s) (add g h) ≡ None) × (d.akm ≡ FtPsk → row (r0_name_of d (Ap a) (Sta s)) (add g h) ≡ None)
ends_at_ap d first a h named psk s g is adds =
    let acts : List Act = secret_acts d (Ap a) h named psk in
    let all : g ≡ acts ++ switch_acts d a (add acts h) = adds.is ∙ ap (and_switch d (Ap a) h) adds.row in
    let after : add g h ≡ add (switch_acts d a (add acts h)) (add acts h) = ap (λ (x : List Act). add x h) all ∙ add_append acts (switch_acts d a (add acts h)) h in
    let over = subst (λ (x : List Act). IsOver d (Ap a) (Sta s) x) (sym after) (over_more d (Ap a) (Sta s) (switch_acts d a (add acts h)) (add acts h) (calm_switch d a (add acts h)) (over_acts d a h named psk s is)) in
    (over.no_attempt, over.no_session, over.no_row)

-- ---- at a station

dropped : (o q : Option Node) (last : Act) (h : List Act) → pending h ≡ o → associated h ≡ q → (pending (last ∷ add (close_associated q) (add (close_pending o) h)) ≡ pending (add (close_associated q) (add (close_pending o) h)))
    → (associated (last ∷ add (close_associated q) (add (close_pending o) h)) ≡ associated (add (close_associated q) (add (close_pending o) h)))
    → (pending (last ∷ add (close_associated q) (add (close_pending o) h)) ≡ None) × (associated (last ∷ add (close_associated q) (add (close_pending o) h)) ≡ None)
dropped None None last h p q same_p same_q = (same_p ∙ p, same_q ∙ q)
dropped None (Some b) last h p q same_p same_q = (same_p ∙ p, same_q)
dropped (Some a) None last h p q same_p same_q = (same_p, same_q ∙ q)
dropped (Some a) (Some b) last h p q same_p same_q = (same_p, same_q)

pub ends_at_sta : (d : Domain) (first s : ℕ) (h : List Act) (named : Option ℕ) (psk : List ℕ) (g : List Act) → Adds (here d first (Sta s)) h (Secret named psk) g → (pending (add g h) ≡ None) × (associated (add g h) ≡ None)
ends_at_sta d first s h named psk g adds =
    let front : List Act = close_pending (pending h) in
    let rest : List Act = close_associated (associated h) in
    let last : Act = act.Secret (Sta s) psk in
    let all : g ≡ front ++ (rest ++ last ∷ []) = adds.is ∙ adds.row in
    let after : add g h ≡ last ∷ add rest (add front h) = ap (λ (x : List Act). add x h) all ∙ add_append front (rest ++ last ∷ []) h ∙ add_append rest (last ∷ []) (add front h) in
    let w = dropped (pending h) (associated h) last h refl refl refl refl in
    (ap pending after ∙ w.0, ap associated after ∙ w.1)
