-- A frame that is refused moves no receive counter.
use Rattle.std.proofs.Common.{ℕ, ◌≡◌, Bool, true, false, cond, List, [], ◌∷◌, ◌++◌, length, Option, Some, None, refl, sym, ap, ◌∙◌, subst}
use Rattle.std.specs.Prelude.{◌||◌}
use Rattle.std.specs.List.{AllByRecursion}
use Rattle.domain_base.specs.declared.names.Node.{Node}
use Rattle.domain_base.specs.declared.names.Node.TheVariants.{Ap, Sta}
use Rattle.key_hierarchy.specs.declared.answers.PullAnswer.{PullAnswer}
use Rattle.key_hierarchy.specs.declared.fast_transition.PmkR1.{PmkR1}
use Rattle.rsn_elements.specs.Elements.{ElementFields}
use Rattle.run_journal.specs.declared.acts.GroupKind.{GroupKind}
use Rattle.run_journal.specs.declared.acts.GroupKind.TheVariants as groups
use Rattle.run_journal.specs.declared.domain.Domain.{Domain}
use Rattle.run_journal.specs.Events.{protects}
use Rattle.run_journal.specs.declared.acts.Kind.{Kind}
use Rattle.run_journal.specs.declared.acts.Kind.TheVariants as kind
use Rattle.run_journal.specs.declared.acts.Reason.{Reason}
use Rattle.run_journal.specs.declared.acts.Outcome.{Outcome}
use Rattle.run_journal.specs.declared.acts.Outcome.TheVariants.{Refused}
use Rattle.run_journal.specs.declared.acts.Seal.{Seal}
use Rattle.run_journal.specs.declared.acts.Act.{Act}
use Rattle.run_journal.specs.declared.acts.Act.TheVariants.{Took}
use Rattle.run_journal.specs.Questions.{add}
use Rattle.domain_rules.specs.Reading.{Reading, Managed, kind_of}
use Rattle.domain_rules.specs.Facts.{Facts}
use Rattle.domain_rules.specs.FastTransition.{single}
use Rattle.domain_rules.specs.TransitionKeys.{Asked, asked}
use Rattle.domain_rules.specs.TransitionRows.{look_answer, looked_by, looked_for, look_of_kind, refused_look}
use Rattle.domain_rules.specs.GroupKeys.{is_current, told, got_by, got}
use Rattle.domain_rules.specs.IntegrityKeys.{IsIpnGot, IsGot}
use Rattle.domain_rules.specs.PacketNumbers.{pairwise_got_by, pairwise_got}
use Rattle.domain_rules.specs.Closing.{sender}
use Rattle.domain_rules.specs.Owing.{any_owes, current_act, current_igtk, current_acts, switch_acts, and_switch}
use Rattle.domain_rules.specs.Rows.{Take, refused_seal, refused_status, response_by, response, RefusedRow, TakeRows, By_assoc_req, By_assoc_resp, By_m1, By_opening_m1, By_m2, By_m3, By_repeated_m3, By_m4, By_g1, By_g2, By_ft_req, By_repeated_ft_req, By_ft_resp, By_re_req, By_repeated_re_req, By_re_resp, By_data, By_action, By_ignored, By_refusal, Adds, outcome_of}
use Rattle.domain_rules.specs.Here.{here}
use Rattle.domain_rules.proofs.IntegrityKeys.{some_ipn_told}

-- an act that leaves each receive counter as it is
record Leaves (e : Act) : Type 0 where
  pub pairwise : (p : Node) (key : List ℕ) (tid before : ℕ) → pairwise_got_by p key tid e before ≡ before
  pub group : (k : GroupKind) (p : Node) (key : List ℕ) (id heard before : ℕ) → got_by k p key id e heard before ≡ before

abbrev AllLeave : List Act → Type 0
AllLeave g = AllByRecursion Leaves g

leave_append : (f g : List Act) → AllLeave f → AllLeave g → AllLeave (f ++ g)
leave_append [] g one more = more
leave_append (e ∷ f) g one more = (one.0, leave_append f g one.1 more)

-- each receive counter is the same after the acts
record Unmoved (h after : List Act) : Type 0 where
  pub pairwise : (p : Node) (key : List ℕ) (tid : ℕ) → pairwise_got p key tid after ≡ pairwise_got p key tid h
  pub group : (p : Node) (key : List ℕ) (id : ℕ) → got p key id after ≡ got p key id h
  pub integrity : (p : Node) (key : List ℕ) (id n : ℕ) → IsIpnGot p key id h n → IsIpnGot p key id after n

kept_ipn : (e : Act) (h : List Act) → Leaves e → (p : Node) (key : List ℕ) (id n : ℕ) → IsIpnGot p key id h n → IsIpnGot p key id (e ∷ h) n
kept_ipn e h leaves p key id n is = let heard = some_ipn_told p h in (heard.0, (heard.1, (n, (is, sym (leaves.group groups.Igtk p key id heard.0 n)))))

unmoved_add : (g h : List Act) → AllLeave g → Unmoved h (add g h)
unmoved_add [] h all = record { pairwise = λ p key tid. refl; group = λ p key id. refl; integrity = λ p key id n is. is }
unmoved_add (e ∷ g) h all =
    let rest = unmoved_add g (e ∷ h) all.1 in
    record {
      pairwise = λ p key tid. (rest.pairwise p key tid ∙ all.0.pairwise p key tid (pairwise_got p key tid h));
      group = λ p key id. (rest.group p key id ∙ all.0.group groups.Gtk p key id (told p h) (got p key id h));
      integrity = λ p key id n is. rest.integrity p key id n (kept_ipn e h all.0 p key id n is);
    }

leaves_took : (from : Option Node) (octets : List ℕ) (k : Kind) (why : Reason) (s : Option Seal) → Leaves (Took from octets k (Refused why) s)
leaves_took from octets k why s = record { pairwise = λ p key tid before. refl; group = λ kind_ p key id heard before. refl }

-- the look, the response, and the switch
leave_response_by : (d : Domain) (n p : Node) (k : Kind) (code : Option ℕ) → AllLeave (response_by d n p k code)
leave_response_by d n p kind.AssocReq (Some code) = (record { pairwise = λ q key tid before. refl; group = λ kind_ q key id heard before. refl }, tt)
leave_response_by d n p kind.FtReq (Some code) = (record { pairwise = λ q key tid before. refl; group = λ kind_ q key id heard before. refl }, tt)
leave_response_by d n p kind.ReReq (Some code) = (record { pairwise = λ q key tid before. refl; group = λ kind_ q key id heard before. refl }, tt)
leave_response_by d n p k code = tt

leave_response : (d : Domain) (n : Node) (from : Option Node) (k : Kind) (why : Reason) → AllLeave (response d n from k why)
leave_response d (Ap a) (Some p) k why = leave_response_by d (Ap a) p k (refused_status why)
leave_response d n from k why = tt

leave_asked : (p : Node) (a : Asked) (name : Option (List ℕ)) (o : Option PullAnswer) → AllLeave (looked_by p a name o)
leave_asked p a (Some name) (Some answer) = (record { pairwise = λ q key tid before. refl; group = λ kind_ q key id heard before. refl }, tt)
leave_asked p a name o = tt

leave_looked : (p : Node) (a : Option Asked) (o : Option PullAnswer) → AllLeave (looked_for p a o)
leave_looked p None o = tt
leave_looked p (Some a) o = leave_asked p a (single a.names) o

leave_of_kind : (k : Kind) (p : Node) (e : ElementFields) (o : Option PullAnswer) → AllLeave (look_of_kind k p e o)
leave_of_kind kind.FtReq p e o = leave_looked p (asked e) o
leave_of_kind k p e o = tt

leave_look : (n : Node) (from : Option Node) (r : Reading) (pulled : Option PmkR1) (why : Reason) → AllLeave (refused_look n from r pulled why)
leave_look (Ap a) (Some p) (Managed b e) pulled why = leave_of_kind b.kind p e (look_answer why pulled)
leave_look n from r pulled why = tt

leaves_current : (k : GroupKind) (d : Domain) (n : Node) (h : List Act) → Leaves (current_act k d n h)
leaves_current k d n h = record { pairwise = λ p key tid before. refl; group = λ kind_ p key id heard before. refl }

leave_current : (mfp : Bool) (d : Domain) (n : Node) (h : List Act) → AllLeave (current_igtk mfp d n h)
leave_current true d n h = (leaves_current groups.Igtk d n h, tt)
leave_current false d n h = tt

leave_by : (b : Bool) (g : List Act) → AllLeave g → AllLeave (cond b [] g)
leave_by true g all = tt
leave_by false g all = all

leave_switch : (d : Domain) (a : ℕ) (h : List Act) → AllLeave (switch_acts d a h)
leave_switch d a h =
    leave_by (is_current groups.Gtk h || any_owes groups.Gtk (length d.stas) h) (current_acts d (Ap a) h) (leaves_current groups.Gtk d (Ap a) h, leave_current (protects d) d (Ap a) h)

leave_all : (d : Domain) (n : Node) (h acts : List Act) → AllLeave acts → AllLeave (and_switch d n h acts)
leave_all d (Sta s) h acts all = all
leave_all d (Ap a) h acts all = leave_append acts (switch_acts d a (add acts h)) all (leave_switch d a (add acts h))

leave_refusal : (d : Domain) (first : ℕ) (n : Node) (h : List Act) (octets : List ℕ) (r : Reading) (facts : Facts) (acts : List Act) → RefusedRow (here d first n) h octets r facts acts → AllLeave acts
leave_refusal d first n h octets r facts acts w =
    let from : Option Node = sender d n r in
    subst AllLeave (sym w.says)
    (leaves_took from octets (kind_of r) w.why (refused_seal d first n h r), leave_append (refused_look n from r facts.pulled w.why) (response d n from (kind_of r) w.why) (leave_look n from r facts.pulled w.why) (leave_response d n from (kind_of r) w.why))

-- a group begins with the frame, and where that is refused it is the row of a refusal
record Headed (acts : List Act) : Type 0 where
  pub from : Option Node
  pub octets : List ℕ
  pub k : Kind
  pub o : Outcome
  pub s : Option Seal
  pub rest : List Act
  pub is : acts ≡ Took from octets k o s ∷ rest
  pub refused : (why : Reason) → o ≡ Refused why → AllLeave acts

headed : (acts : List Act) (from : Option Node) (octets : List ℕ) (k : Kind) (o : Outcome) (s : Option Seal) (rest : List Act) → acts ≡ Took from octets k o s ∷ rest → ((why : Reason) → o ≡ Refused why → AllLeave acts) → Headed acts
headed acts from octets k o s rest is refused = record { from = from; octets = octets; k = k; o = o; s = s; rest = rest; is = is; refused = refused }

row_headed : (d : Domain) (first : ℕ) (n : Node) (h : List Act) (octets : List ℕ) (r : Reading) (facts : Facts) (acts : List Act) → TakeRows (here d first n) h octets r facts acts → Headed acts
row_headed d first n h octets r facts acts (By_assoc_req w) = headed acts _ _ _ _ _ _ w.says (λ why is. absurd (cc is))
row_headed d first n h octets r facts acts (By_assoc_resp w) = headed acts _ _ _ _ _ _ w.says (λ why is. absurd (cc is))
row_headed d first n h octets r facts acts (By_m1 w) = headed acts _ _ _ _ _ _ w.says (λ why is. absurd (cc is))
row_headed d first n h octets r facts acts (By_opening_m1 w) = headed acts _ _ _ _ _ _ w.says (λ why is. absurd (cc is))
row_headed d first n h octets r facts acts (By_m2 w) = headed acts _ _ _ _ _ _ w.says (λ why is. absurd (cc is))
row_headed d first n h octets r facts acts (By_m3 w) = headed acts _ _ _ _ _ _ w.says (λ why is. absurd (cc is))
row_headed d first n h octets r facts acts (By_repeated_m3 w) = headed acts _ _ _ _ _ _ w.says (λ why is. absurd (cc is))
row_headed d first n h octets r facts acts (By_m4 w) = headed acts _ _ _ _ _ _ w.says (λ why is. absurd (cc is))
row_headed d first n h octets r facts acts (By_g1 w) = headed acts _ _ _ _ _ _ w.says (λ why is. absurd (cc is))
row_headed d first n h octets r facts acts (By_g2 w) = headed acts _ _ _ _ _ _ w.says (λ why is. absurd (cc is))
row_headed d first n h octets r facts acts (By_ft_req w) = headed acts _ _ _ _ _ _ w.says (λ why is. absurd (cc is))
row_headed d first n h octets r facts acts (By_repeated_ft_req w) = headed acts _ _ _ _ _ _ w.says (λ why is. absurd (cc is))
row_headed d first n h octets r facts acts (By_ft_resp w) = headed acts _ _ _ _ _ _ w.says (λ why is. absurd (cc is))
row_headed d first n h octets r facts acts (By_re_req w) = headed acts _ _ _ _ _ _ w.says (λ why is. absurd (cc is))
row_headed d first n h octets r facts acts (By_repeated_re_req w) = headed acts _ _ _ _ _ _ w.says (λ why is. absurd (cc is))
row_headed d first n h octets r facts acts (By_re_resp w) = headed acts _ _ _ _ _ _ w.says (λ why is. absurd (cc is))
row_headed d first n h octets r facts acts (By_data w) = headed acts _ _ _ _ _ _ w.says (λ why is. absurd (cc is))
row_headed d first n h octets r facts acts (By_action w) = headed acts _ _ _ _ _ _ w.says (λ why is. absurd (cc is))
row_headed d first n h octets r facts acts (By_ignored w) = headed acts _ _ _ _ _ _ w.says (λ why is. absurd (cc is))
row_headed d first n h octets r facts acts (By_refusal w) = headed acts _ _ _ _ _ _ w.says (λ why is. leave_refusal d first n h octets r facts acts w)

after_switch : (d : Domain) (n : Node) (h : List Act) (from : Option Node) (octets : List ℕ) (k : Kind) (o : Outcome) (s : Option Seal) (rest : List Act) → outcome_of (and_switch d n h (Took from octets k o s ∷ rest)) ≡ o
after_switch d (Sta t) h from octets k o s rest = refl
after_switch d (Ap a) h from octets k o s rest = refl

refused_unmoved : (d : Domain) (first : ℕ) (n : Node) (h : List Act) (octets : List ℕ) (why : Reason) (g : List Act) → Adds (here d first n) h (Take octets) g → outcome_of g ≡ Refused why → Unmoved h (add g h)
refused_unmoved d first n h octets why g adds is =
    let w = row_headed d first n h octets adds.row.r adds.row.facts adds.acts adds.row.row in
    let o : w.o ≡ Refused why = sym (after_switch d n h w.from w.octets w.k w.o w.s w.rest) ∙ sym (ap (λ (x : List Act). outcome_of (and_switch d n h x)) w.is) ∙ sym (ap outcome_of adds.is) ∙ is in
    subst (λ (x : List Act). Unmoved h (add x h)) (sym adds.is) (unmoved_add (and_switch d n h adds.acts) h (leave_all d n h adds.acts (w.refused why o)))

pub pairwise_unmoved : (d : Domain) (first : ℕ) (n : Node) (h : List Act) (octets : List ℕ) (why : Reason) (g : List Act) → Adds (here d first n) h (Take octets) g → outcome_of g ≡ Refused why
    → (p : Node) (key : List ℕ) (tid : ℕ) → pairwise_got p key tid (add g h) ≡ pairwise_got p key tid h
pairwise_unmoved d first n h octets why g adds is = (refused_unmoved d first n h octets why g adds is).pairwise

pub group_unmoved : (d : Domain) (first : ℕ) (n : Node) (h : List Act) (octets : List ℕ) (why : Reason) (g : List Act) → Adds (here d first n) h (Take octets) g → outcome_of g ≡ Refused why
    → (p : Node) (key : List ℕ) (id : ℕ) → got p key id (add g h) ≡ got p key id h
group_unmoved d first n h octets why g adds is = (refused_unmoved d first n h octets why g adds is).group

pub integrity_unmoved : (d : Domain) (first : ℕ) (n : Node) (h : List Act) (octets : List ℕ) (why : Reason) (g : List Act) → Adds (here d first n) h (Take octets) g → outcome_of g ≡ Refused why
    → (p : Node) (key : List ℕ) (id m : ℕ) → IsGot groups.Igtk p key id h m → IsGot groups.Igtk p key id (add g h) m
integrity_unmoved d first n h octets why g adds is = (refused_unmoved d first n h octets why g adds is).integrity
