-- An authentication request by which a key is derived finds a nonce to draw.
use Rattle.std.proofs.Common.{◌≡◌, ◌∙◌, ℕ, ◌+◌, ◌<◌, Bool, true, false, cond, List, ◌∷◌, Option, Some, None, is_some, refl, sym, ap, subst, arith}
use Rattle.std.specs.Prelude.{nat_lt, if◌then◌else◌}
use Rattle.std.proofs.lemmas.Bool.{ltb-true}
use Rattle.domain_base.specs.declared.names.Akm.{Akm}
use Rattle.domain_base.specs.declared.names.Akm.TheVariants.{Psk, PskSha256, FtPsk}
use Rattle.domain_base.specs.declared.names.Node.{Node}
use Rattle.domain_base.specs.declared.names.Node.TheVariants.{Ap}
use Rattle.key_hierarchy.specs.declared.fast_transition.PmkR1.{PmkR1}
use Rattle.rsn_elements.specs.Elements.{ElementFields}
use Rattle.run_journal.specs.declared.domain.Domain.{Domain}
use Rattle.run_journal.specs.declared.acts.Kind.{Kind}
use Rattle.run_journal.specs.declared.acts.Kind.TheVariants as kind
use Rattle.run_journal.specs.declared.acts.Reason.TheVariants as reason
use Rattle.run_journal.specs.declared.acts.Outcome.{Outcome}
use Rattle.run_journal.specs.declared.acts.Outcome.TheVariants.{Accepted, Refused}
use Rattle.run_journal.specs.declared.acts.Act.{Act}
use Rattle.run_journal.specs.declared.acts.Act.TheVariants.{Took}
use Rattle.run_journal.specs.declared.reply.Keyed.{Keyed}
use Rattle.run_journal.specs.declared.reply.Reply.{Reply}
use Rattle.run_journal.specs.Holders.{Stored, first_stored}
use Rattle.run_journal.specs.Questions.{draws}
use Rattle.domain_rules.specs.Associating.{without_status, rsne_status, management_verdict}
use Rattle.domain_rules.specs.FastTransition.{mde_status}
use Rattle.domain_rules.specs.Facts.{Facts}
use Rattle.domain_rules.specs.Here.{here}
use Rattle.domain_rules.specs.Network.{Root, draw_end}
use Rattle.domain_rules.specs.Reading.{Reading}
use Rattle.domain_rules.specs.Rows.{TakeRow, TakeRows, By_assoc_req, By_assoc_resp, By_m1, By_opening_m1, By_m2, By_m3, By_repeated_m3, By_m4, By_g1, By_g2, By_ft_req, By_repeated_ft_req, By_ft_resp, By_re_req, By_repeated_re_req, By_re_resp, By_data, By_action, By_ignored, By_refusal, outcome_of}
use Rattle.domain_rules.specs.TransitionKeys.{Asked, asked, Transition, transition, repeats, asked_verdict, ft_req_asked, ft_req_verdict_by, pulled_verdict, ft_req_pulled}
use Rattle.domain_rules.specs.TransitionRows.{FtReqRow, sent_again}
use Rattle.domain_rules.specs.Verdict.{management_further, unless_refused, verdict}
use Rattle.domain_rules.proofs.OneOutcome.{frame_accepted}
use Rattle.ft_exchange.specs.Told.{Came, auth_request_acts}
use Rattle.targets.proofs.Others.{drawn_for, auth_draws}
use Rattle.ap_node.proofs.TransitingFrames.{refused_derives_none}

-- ---- a request that is accepted

no_status : (o : Option ℕ) (x : Outcome) → without_status o x ≡ Accepted → x ≡ Accepted
no_status None x is = is
no_status (Some code) x is = absurd (cc is)

not_again : (d : Domain) (a : Asked) (b : Bool) → asked_verdict d a b ≡ Accepted → b ≡ false
not_again d a true is = absurd (cc is)
not_again d a false is = refl

first_asked : (akm : Akm) (d : Domain) (y : Option Transition) (e : ElementFields) (a : Asked) → asked e ≡ Some a → ft_req_verdict_by akm d y e ≡ Accepted → repeats a y ≡ false
first_asked Psk d y e a asks is = absurd (cc is)
first_asked PskSha256 d y e a asks is = absurd (cc is)
first_asked FtPsk d y e a asks is =
    not_again d a (repeats a y) (ap (λ (o : Option Asked). ft_req_asked d o y) (sym asks) ∙ no_status (mde_status d e.mde) _ (no_status (rsne_status d e.rsne) _ is))

drawn_low : (drawn : ℕ) (a : Asked) (y : Option Transition) (k : PmkR1) → repeats a y ≡ false → unless_refused Accepted (ft_req_pulled drawn (Some a) y (Some k)) ≡ Accepted → drawn < draw_end
drawn_low drawn a y k first is =
    by (nat_lt drawn draw_end) refl (ap (λ (b : Bool). unless_refused Accepted (cond b Accepted (pulled_verdict drawn (Some k)))) (sym first) ∙ is)
  where
    by : (b : Bool) → nat_lt drawn draw_end ≡ b → unless_refused Accepted (if b then Accepted else Refused reason.Spent) ≡ Accepted → drawn < draw_end
    by true low is = ltb-true drawn draw_end low
    by false past is = absurd (cc is)

accepted_low : (d : Domain) (first a : ℕ) (h : List Act) (octets : List ℕ) (r : Reading) (facts : Facts) (g : List Act) → FtReqRow (here d first (Ap a)) h octets r facts g → first + draws h < draw_end
accepted_low d first a h octets r facts g x =
    let n = Ap a in
    let drawn = first + draws h in
    let f = frame_accepted d first n h x.b x.e facts (subst (λ (z : Reading). verdict d first n h z facts ≡ Accepted) x.is x.accepted) in
    let is : ft_req_verdict_by d.akm d (transition f.p h) x.e ≡ Accepted = subst (λ (k : Kind). management_verdict d drawn n h f.p k x.b x.e ≡ Accepted) x.kind_is f.verdict_is in
    let opened : unless_refused Accepted (ft_req_pulled drawn (asked x.e) (transition f.p h) facts.pulled) ≡ Accepted =
    subst (λ (k : Kind). unless_refused Accepted (management_further d drawn n h f.p x.b x.e facts k) ≡ Accepted) x.kind_is f.opened in
    drawn_low drawn x.a (transition f.p h) x.k (first_asked d.akm d (transition f.p h) x.e x.a x.asks is)
    (subst (λ (o : Option Asked). unless_refused Accepted (ft_req_pulled drawn o (transition f.p h) (Some x.k)) ≡ Accepted) x.asks
    (subst (λ (o : Option PmkR1). unless_refused Accepted (ft_req_pulled drawn (asked x.e) (transition f.p h) o) ≡ Accepted) x.pulled opened))

-- ---- by no other a key is derived

abbrev is_auth : List Act → Bool
is_auth (Took from octets kind.FtReq o s ∷ g) = true
is_auth _ = false

other_row : {C : Type 0} (g l : List Act) → g ≡ l → is_auth g ≡ true → is_auth l ≡ false → C
other_row g l says auth other = absurd (cc (sym auth ∙ ap is_auth says ∙ other))

again_draws : (p : Node) (k : Kind) (o : Option Stored) → draws (sent_again p k o) ≡ 0
again_draws p k None = refl
again_draws p k (Some s) = refl

none_drawn : (y : Option Keyed) → drawn_for y ≡ 0 → is_some y ≡ true → ⊥
none_drawn None none is = cc is
none_drawn (Some y) none is = omega (arith, none)

head_is : (g l : List Act) → g ≡ l → outcome_of g ≡ outcome_of l
head_is g l says = ap outcome_of says

pub derived_low : (d : Domain) (first a : ℕ) (h : List Act) (octets : List ℕ) (root : Root) (p : Node) (part : Option (List Act)) (t : Came) (r : Reply) → TakeRow (here d first (Ap a)) h octets (auth_request_acts d root (Ap a) p part t r)
    → is_some r.derived ≡ true → first + draws h < draw_end
derived_low d first a h octets root p part t r row some = by row.row
  where
    g : List Act
    g = auth_request_acts d root (Ap a) p part t r

    by : TakeRows (here d first (Ap a)) h octets row.r row.facts g → first + draws h < draw_end
    by (By_ft_req x) = accepted_low d first a h octets row.r row.facts g x
    by (By_repeated_ft_req x) =
        absurd (none_drawn r.derived (sym (auth_draws d root (Ap a) p part t r) ∙ ap draws x.says ∙ again_draws x.p kind.FtResp (first_stored x.p kind.FtResp x.part)) some)
    by (By_refusal x) =
        absurd (let none = refused_derives_none (here d first (Ap a)) h octets d root (Ap a) p part t r x.why row (head_is g _ x.says) in cc (sym (ap (λ (o : Option Keyed). is_some o) none) ∙ some))
    by (By_assoc_req x) = other_row g _ x.says refl refl
    by (By_assoc_resp x) = other_row g _ x.says refl refl
    by (By_m1 x) = other_row g _ x.says refl refl
    by (By_opening_m1 x) = other_row g _ x.says refl refl
    by (By_m2 x) = other_row g _ x.says refl refl
    by (By_m3 x) = other_row g _ x.says refl refl
    by (By_repeated_m3 x) = other_row g _ x.says refl refl
    by (By_m4 x) = other_row g _ x.says refl refl
    by (By_g1 x) = other_row g _ x.says refl refl
    by (By_g2 x) = other_row g _ x.says refl refl
    by (By_ft_resp x) = other_row g _ x.says refl refl
    by (By_re_req x) = other_row g _ x.says refl refl
    by (By_repeated_re_req x) = other_row g _ x.says refl refl
    by (By_re_resp x) = other_row g _ x.says refl refl
    by (By_data x) = other_row g _ x.says refl refl
    by (By_action x) = other_row g _ x.says refl refl
    by (By_ignored x) = other_row g _ x.says refl refl
