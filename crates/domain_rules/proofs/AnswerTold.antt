-- What a key holder gave is told by the acts of a group: the look is its second act.
use Rattle.std.proofs.Common.{◌≡◌, ℕ, Bool, true, false, List, [], ◌∷◌, ◌++◌, Option, Some, None, refl, sym, ap, ◌∙◌, inl, inr}
use Rattle.std.proofs.lemmas.List.{append-nil}
use Rattle.domain_base.specs.declared.names.Akm.{Akm}
use Rattle.domain_base.specs.declared.names.Akm.TheVariants.{Psk, PskSha256, FtPsk}
use Rattle.domain_base.specs.declared.names.Mac.{Mac}
use Rattle.domain_base.specs.declared.names.Node.{Node}
use Rattle.domain_base.specs.declared.names.Node.TheVariants.{Ap, Sta}
use Rattle.key_hierarchy.specs.declared.answers.PullAnswer.{PullAnswer}
use Rattle.key_hierarchy.specs.declared.answers.PullAnswer.TheVariants.{Found, NoHolder, Absent}
use Rattle.key_hierarchy.specs.declared.fast_transition.PmkR1.{PmkR1}
use Rattle.rsn_elements.specs.Elements.{ElementFields}
use Rattle.run_journal.specs.declared.domain.Domain.{Domain}
use Rattle.run_journal.specs.Events.{protects}
use Rattle.run_journal.specs.declared.acts.Kind.{Kind}
use Rattle.run_journal.specs.declared.acts.Kind.TheVariants as kind
use Rattle.run_journal.specs.declared.acts.Reason.{Reason}
use Rattle.run_journal.specs.declared.acts.Outcome.TheVariants.{Refused}
use Rattle.run_journal.specs.declared.acts.Act.{Act}
use Rattle.run_journal.specs.declared.acts.Act.TheVariants.{Looked, Took}
use Rattle.run_journal.specs.declared.acts.Entry.{Entry}
use Rattle.run_journal.specs.Acts.{Derivation, GroupKey}
use Rattle.run_journal.specs.declared.acts.GroupKind.{GroupKind}
use Rattle.run_journal.specs.declared.acts.GroupKind.TheVariants as groups
use Rattle.run_journal.specs.Questions.{attempt, associated, session, before_sent, add, listed}
use Rattle.run_journal.specs.Holders.{Stored, answer_of, answers, first_stored, since_finished}
use Rattle.eapol_key.specs.declared.messages.Message.TheVariants.{M3}
use Rattle.domain_rules.specs.Network.{mac}
use Rattle.domain_rules.specs.Reading.{KeyMessage, Reading, NoFrame, PassedOver, NoElements, Managed, NoKeyFrame, NoMessage, Keyed, Sealed, Acting, kind_of}
use Rattle.domain_rules.specs.Closing.{sender, close_session, close_associated}
use Rattle.domain_rules.specs.GroupKeys.{give, give_by, find_key, memory, GivenKeys, give_igtk, give_all}
use Rattle.domain_rules.specs.KeyHolders.{put_acts, put_acts_by}
use Rattle.domain_rules.specs.AccessPointRows.{carried_older, m4_acts, newer_acts}
use Rattle.domain_rules.specs.Asking.{in_renewal}
use Rattle.domain_rules.specs.StationRows.{carried_keys, replaced}
use Rattle.domain_rules.specs.FastTransition.{single}
use Rattle.domain_rules.specs.TransitionKeys.{Asked, asked}
use Rattle.domain_rules.specs.TransitionRows.{sent_again, keys_by, look_answer, looked_by, looked_for, look_of_kind, refused_look}
use Rattle.domain_rules.specs.Rows.{refused_seal, response, TakeRow, TakeRows, By_assoc_req, By_assoc_resp, By_m1, By_opening_m1, By_m2, By_m3, By_repeated_m3, By_m4, By_g1, By_g2, By_data, By_action, By_ft_req, By_repeated_ft_req, By_ft_resp, By_re_req, By_repeated_re_req, By_re_resp, By_ignored, By_refusal}
use Rattle.domain_rules.specs.Due.{given_by, given_in, answer_in, entries_of}
use Rattle.domain_rules.specs.Here.{here}
use Rattle.domain_rules.proofs.OneGroup.{answers_append}
use Rattle.domain_rules.proofs.Pulled.{with_pulled, given_first, LooksOnce, Tells, tells, knows_from, answers_close, answers_response}

-- what the second act tells
abbrev pub second : List Act → Option (Option PmkR1)
second [] = None
second (took ∷ []) = None
second (took ∷ e ∷ g) = Some (given_by e)

pub second_longer : (g more : List Act) (y : Option PmkR1) → second g ≡ Some y → second (g ++ more) ≡ Some y
second_longer [] more y is = absurd (cc is)
second_longer (e ∷ []) more y is = absurd (cc is)
second_longer (e ∷ f ∷ g) more y is = is

-- which is what the acts give, and what their entries do
pub given_second : (g : List Act) (y : Option PmkR1) → second g ≡ Some y → given_in g ≡ y
given_second [] y is = absurd (cc is)
given_second (took ∷ []) y is = absurd (cc is)
given_second (took ∷ e ∷ g) y is = (let same : given_by e ≡ y = cc is in same)

pub answer_second : (round : ℕ) (n : Node) (g : List Act) (past more : List Entry) (y : Option PmkR1) → second g ≡ Some y → answer_in (entries_of round n g past ++ more) ≡ y
answer_second round n [] past more y is = absurd (cc is)
answer_second round n (took ∷ []) past more y is = absurd (cc is)
answer_second round n (took ∷ e ∷ g) past more y is = (let same : given_by e ≡ y = cc is in same)

-- after the first act, a look or none
given_same : (a : PullAnswer) (id name : List ℕ) (p : Node) → given_by (Looked id name p a) ≡ given_first (a ∷ [])
given_same (Found k) id name p = refl
given_same NoHolder id name p = refl
given_same Absent id name p = refl

-- the looks of a refusal, before what answers it
look_by : (p : Node) (a : Asked) (name : Option (List ℕ)) (o : Option PullAnswer) (first : Act) (rest : List Act) (answer : PullAnswer) → answers rest ≡ [] → answers (looked_by p a name o ++ rest) ≡ answer ∷ []
    → second (first ∷ looked_by p a name o ++ rest) ≡ Some (given_first (answer ∷ []))
look_by p a (Some name) (Some x) first rest answer none is =
    ap (λ (y : Option PmkR1). Some y) (given_same x a.r0kh_id name p) ∙ (let same : x ≡ answer = cc is in ap (λ (y : PullAnswer). Some (given_first (y ∷ []))) same)
look_by p a (Some name) None first rest answer none is = absurd (let both = sym none ∙ is in cc both)
look_by p a None o first rest answer none is = absurd (let both = sym none ∙ is in cc both)

look_for : (p : Node) (x : Option Asked) (o : Option PullAnswer) (first : Act) (rest : List Act) (answer : PullAnswer) → answers rest ≡ [] → answers (looked_for p x o ++ rest) ≡ answer ∷ [] → second (first ∷ looked_for p x o ++ rest) ≡ Some (given_first (answer ∷ []))
look_for p None o first rest answer none is = absurd (let both = sym none ∙ is in cc both)
look_for p (Some a) o first rest answer none is = look_by p a (single a.names) o first rest answer none is

look_kind : (k : Kind) (p : Node) (e : ElementFields) (o : Option PullAnswer) (first : Act) (rest : List Act) (answer : PullAnswer) → answers rest ≡ [] → answers (look_of_kind k p e o ++ rest) ≡ answer ∷ [] → second (first ∷ look_of_kind k p e o ++ rest) ≡ Some (given_first (answer ∷ []))
look_kind kind.FtReq p e o first rest answer none is = look_for p (asked e) o first rest answer none is
look_kind _ p e o first rest answer none is = absurd (let both = sym none ∙ is in cc both)

look_refused : (n : Node) (from : Option Node) (r : Reading) (x : Option PmkR1) (why : Reason) (first : Act) (rest : List Act) (answer : PullAnswer) → answers rest ≡ [] → answers (refused_look n from r x why ++ rest) ≡ answer ∷ []
    → second (first ∷ refused_look n from r x why ++ rest) ≡ Some (given_first (answer ∷ []))
look_refused (Ap a) (Some p) (Managed b e) x why first rest answer none is = look_kind b.kind p e (look_answer why x) first rest answer none is
look_refused (Ap a) (Some p) (NoFrame fault) x why first rest answer none is = absurd (let both = sym none ∙ is in cc both)
look_refused (Ap a) (Some p) PassedOver x why first rest answer none is = absurd (let both = sym none ∙ is in cc both)
look_refused (Ap a) (Some p) (NoElements b fault) x why first rest answer none is = absurd (let both = sym none ∙ is in cc both)
look_refused (Ap a) (Some p) (NoKeyFrame header fault) x why first rest answer none is = absurd (let both = sym none ∙ is in cc both)
look_refused (Ap a) (Some p) (NoMessage header) x why first rest answer none is = absurd (let both = sym none ∙ is in cc both)
look_refused (Ap a) (Some p) (Keyed k) x why first rest answer none is = absurd (let both = sym none ∙ is in cc both)
look_refused (Ap a) (Some p) (Sealed header way tid body) x why first rest answer none is = absurd (let both = sym none ∙ is in cc both)
look_refused (Ap a) (Some p) (Acting header body) x why first rest answer none is = absurd (let both = sym none ∙ is in cc both)
look_refused (Ap a) None r x why first rest answer none is = absurd (let both = sym none ∙ is in cc both)
look_refused (Sta s) from r x why first rest answer none is = absurd (let both = sym none ∙ is in cc both)

-- ---- acts without a look

close_session-silent : (p : Node) (o : Option Derivation) (g : List Act) → answers (close_session p o ++ g) ≡ answers g
close_session-silent p None g = refl
close_session-silent p (Some x) g = refl

close_associated-silent : (o : Option Node) (g : List Act) → answers (close_associated o ++ g) ≡ answers g
close_associated-silent None g = refl
close_associated-silent (Some p) g = refl

give_by-silent : (kind : GroupKind) (p : Node) (b : Mac) (g : GroupKey) (o : Option GroupKey) → answer_of (give_by kind p b g o) ≡ None
give_by-silent kind p b g None = refl
give_by-silent kind p b g (Some kept) = refl

give-silent : (kind : GroupKind) (p : Node) (b : Mac) (g : GroupKey) (h rest : List Act) → answers (give kind p b g h ∷ rest) ≡ answers rest
give-silent kind p b g h rest = ap (λ (o : Option PullAnswer). listed o (answers rest)) (give_by-silent kind p b g (find_key g.key (memory kind p h)))

give_igtk-silent : (on : Bool) (p : Node) (b : Mac) (g : GroupKey) (h rest : List Act) → answers (give_igtk on p b g h ++ rest) ≡ answers rest
give_igtk-silent false p b g h rest = refl
give_igtk-silent true p b g h rest = give-silent groups.Igtk p b g h rest

give_all-silent : (d : Domain) (p : Node) (b : Mac) (keys : GivenKeys) (h rest : List Act) → answers (give_all d p b keys h ++ rest) ≡ answers rest
give_all-silent d p b keys h rest =
    give-silent groups.Gtk p b keys.gtk h (give_igtk (protects d) p b keys.igtk h ++ rest) ∙ give_igtk-silent (protects d) p b keys.igtk h rest

sent_again-silent : (p : Node) (k : Kind) (o : Option Stored) → answers (sent_again p k o) ≡ []
sent_again-silent p k None = refl
sent_again-silent p k (Some s) = refl

put-silent : (akm : Akm) (d : Domain) (n : Node) (h : List Act) (p : Node) (x : Derivation) → answers (put_acts_by akm d n h p x) ≡ []
put-silent FtPsk d n h p x = refl
put-silent Psk d n h p x = refl
put-silent PskSha256 d n h p x = refl

newer-silent : (d : Domain) (n p : Node) (h : List Act) (x : Derivation) (b : Bool) → answers (newer_acts d n p h x b) ≡ []
newer-silent d n p h x true = refl
newer-silent d n p h x false = refl

m4-silent : (d : Domain) (n p : Node) (octets : List ℕ) (k : KeyMessage) (x : Derivation) (old : Option Derivation) (h after : List Act) (b : Bool) → answers (m4_acts octets k p x old (put_acts d n h p x) ++ newer_acts d n p after x b) ≡ []
m4-silent d n p octets k x old h after b =
    answers_append (m4_acts octets k p x old (put_acts d n h p x)) (newer_acts d n p after x b)
    ∙ ap (λ (l : List PullAnswer). answers (m4_acts octets k p x old (put_acts d n h p x)) ++ l) (newer-silent d n p after x b)
    ∙ append-nil (answers (m4_acts octets k p x old (put_acts d n h p x)))
    ∙ close_session-silent p old _ ∙ put-silent d.akm d n h p x

-- the answer by which octets are taken may be any that does not differ from what the second act tells
replaced-silent : (p : Node) (b : Bool) (g : List Act) → answers (replaced p b ++ g) ≡ answers g
replaced-silent p true g = refl
replaced-silent p false g = refl

pub told : (d : Domain) (first : ℕ) (n : Node) (h : List Act) (octets : List ℕ) (g : List Act) (x : Option PmkR1) → TakeRow (here d first n) h octets g → ((y : Option PmkR1) → second g ≡ Some y → y ≡ x)
    → (t : TakeRow (here d first n) h octets g) × (t.facts.pulled ≡ x)
told d first n h octets g x t told_ = by (tells d first n h octets t.facts g t.r t.row) t.row
  where
    freely : ((y : Option PmkR1) → TakeRows (here d first n) h octets t.r (with_pulled t.facts y) g) → (u : TakeRow (here d first n) h octets g) × (u.facts.pulled ≡ x)
    freely free = (record { r = t.r; reads = t.reads; facts = with_pulled t.facts x; knows = λ far. knows_from d n h t.r t.facts x (t.knows far); row = free x }, refl)

    once : LooksOnce g t.facts.pulled → second g ≡ Some t.facts.pulled → (u : TakeRow (here d first n) h octets g) × (u.facts.pulled ≡ x)
    once looks is = (t, told_ t.facts.pulled is)

    silent : LooksOnce g t.facts.pulled → answers g ≡ [] → (u : TakeRow (here d first n) h octets g) × (u.facts.pulled ≡ x)
    silent looks none = absurd (let both = sym none ∙ looks.1.0 in cc both)

    by : Tells d first n h octets t.r t.facts g → TakeRows (here d first n) h octets t.r t.facts g → (u : TakeRow (here d first n) h octets g) × (u.facts.pulled ≡ x)
    by (inr free) row = freely free
    by (inl looks) (By_ft_req row) = once looks (ap second row.says ∙ ap (λ (y : Option PmkR1). Some y) (sym row.pulled))
    by (inl looks) (By_refusal row) =
        once looks
        (ap second row.says
        ∙ look_refused n (sender d n t.r) t.r t.facts.pulled row.why (Took (sender d n t.r) octets (kind_of t.r) (Refused row.why) (refused_seal d first n h t.r)) (response d n (sender d n t.r) (kind_of t.r) row.why) looks.0
        (answers_response d n (sender d n t.r) (kind_of t.r) row.why) (sym (ap answers row.says) ∙ looks.1.0)
        ∙ ap (λ (y : Option PmkR1). Some y) looks.1.1)
    by (inl looks) (By_assoc_req row) = silent looks (ap answers row.says ∙ answers_close row.p (attempt row.p h) _)
    by (inl looks) (By_assoc_resp row) = silent looks (ap answers row.says)
    by (inl looks) (By_m1 row) = silent looks (ap answers row.says)
    by (inl looks) (By_opening_m1 row) = silent looks (ap answers row.says)
    by (inl looks) (By_m2 row) = silent looks (ap answers row.says)
    by (inl looks) (By_m3 row) = silent looks (ap answers row.says ∙ replaced-silent row.p (in_renewal (attempt row.p h)) _ ∙ give_all-silent d row.p (mac d row.p) (carried_keys t.facts.data_) h _)
    by (inl looks) (By_repeated_m3 row) = silent looks (ap answers row.says)
    by (inl looks) (By_m4 row) = silent looks (ap answers row.says ∙ m4-silent d n row.p octets row.k row.x (session row.p h) h (add (m4_acts octets row.k row.p row.x (session row.p h) (put_acts d n h row.p row.x)) h) (carried_older row.p h (before_sent row.p (kind.Key M3) h)))
    by (inl looks) (By_g1 row) = silent looks (ap answers row.says ∙ give_all-silent d row.p (mac d row.p) (carried_keys t.facts.data_) h _)
    by (inl looks) (By_g2 row) = silent looks (ap answers row.says)
    by (inl looks) (By_data row) = silent looks (ap answers row.says)
    by (inl looks) (By_action row) = silent looks (ap answers row.says)
    by (inl looks) (By_repeated_ft_req row) = silent looks (ap answers row.says ∙ sent_again-silent row.p kind.FtResp (first_stored row.p kind.FtResp row.part))
    by (inl looks) (By_ft_resp row) = silent looks (ap answers row.says)
    by (inl looks) (By_re_req row) = silent looks (ap answers row.says ∙ close_session-silent row.p (session row.p h) _)
    by (inl looks) (By_repeated_re_req row) = silent looks (ap answers row.says ∙ sent_again-silent row.p kind.ReResp (first_stored row.p kind.ReResp (since_finished row.p h)))
    by (inl looks) (By_re_resp row) =
        silent looks (ap answers row.says ∙ close_associated-silent (associated h) _ ∙ give_all-silent d row.p (mac d row.p) (keys_by row.e.fte t.facts) h _)
    by (inl looks) (By_ignored row) = silent looks (ap answers row.says)
