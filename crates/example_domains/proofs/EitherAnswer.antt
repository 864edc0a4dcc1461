-- The last round of an example with suite 4 in which access point k revokes a key and access point l looks it up: in each order of the two, and
-- with either answer.
use Rattle.std.proofs.Common.{◌≡◌, ℕ, ◌≤◌, Bool, true, false, cond, List, [], ◌∷◌, Option, Some, None, refl, sym, ap, subst, ◌∙◌, arith, inl, inr}
use Rattle.std.specs.Prelude.{nat_le}
use Rattle.domain_base.specs.declared.names.Node.{Node}
use Rattle.domain_rules.proofs.Exchange.{length-nonce}
use Rattle.domain_rules.proofs.Journals.{history-push, history-other, explained_round}
use Rattle.domain_rules.proofs.Parts.{same-refl}
use Rattle.domain_rules.specs.Explained.{At_one, AddsAll, push, WasSent, Follows}
use Rattle.domain_rules.specs.Present.{present, earlier}
use Rattle.domain_rules.proofs.PresentNetwork.{earlier_push, earlier_below}
use Rattle.domain_rules.specs.Rounds.{Place}
use Rattle.domain_rules.specs.HeldRight.{Looking, SomeMoment, AllInTime, AnsweredInTime, GivesRightKey}
use Rattle.domain_rules.specs.Here.{here}
use Rattle.domain_rules.specs.Network.{psk_of}
use Rattle.domain_rules.specs.KeyHolders.{revoke_answer, revoke_acts}
use Rattle.domain_rules.specs.Owing.{and_switch}
use Rattle.domain_rules.specs.Rows as event
use Rattle.domain_rules.specs.Rows.{TakeRow, Adds}
use Rattle.domain_rules.specs.TransitionFrames.{sent_ft_resp, sent_ft_refusal}
use Rattle.key_hierarchy.specs.Keys.{ptk}
use Rattle.key_hierarchy.specs.declared.answers.PullAnswer.TheVariants.{Found, Absent}
use Rattle.key_hierarchy.specs.declared.answers.PullAnswer.{PullAnswer}
use Rattle.key_hierarchy.specs.declared.answers.RevokeAnswer.TheVariants as revoke
use Rattle.key_hierarchy.specs.declared.fast_transition.PmkR1.{PmkR1}
use Rattle.key_hierarchy.specs.declared.inputs.Inputs.{Inputs}
use Rattle.run_journal.specs.Holders.{row, answers}
use Rattle.run_journal.specs.Premises.{In}
use Rattle.run_journal.specs.Questions.{history, add}
use Rattle.run_journal.specs.declared.acts.Act.TheVariants.{Opened, Drew, Derived, Took, Looked, Revoked}
use Rattle.run_journal.specs.declared.acts.Act.{Act}
use Rattle.run_journal.specs.declared.acts.Drawn.TheVariants.{Nonce}
use Rattle.run_journal.specs.declared.acts.Entry.{Entry}
use Rattle.run_journal.specs.declared.acts.Kind.TheVariants as kind
use Rattle.run_journal.specs.declared.acts.Outcome.TheVariants.{Accepted, Refused}
use Rattle.run_journal.specs.declared.acts.Outcome.{Outcome}
use Rattle.run_journal.specs.declared.acts.Reason.TheVariants as reason
use Rattle.run_journal.specs.declared.acts.Start.TheVariants as start
use Rattle.run_journal.specs.declared.domain.Domain.{Domain}
use Rattle.run_journal.specs.declared.domain.Event.TheVariants.{Roam, Deliver, Revoke}
use Rattle.run_journal.specs.declared.domain.Event.{Event}
use Rattle.example_domains.proofs.Elements.{same_bytes}
use Rattle.example_domains.proofs.Moments.{stands_in, stands_by, IsLow, low_push}
use Rattle.example_domains.proofs.RefusedRequest.{refused_row}
use Rattle.example_domains.proofs.RoamingActs as w
use Rattle.example_domains.proofs.RoamingActs.{mobile}
use Rattle.example_domains.proofs.RoamingRounds.{stage8, row9}
use Rattle.example_domains.proofs.Stages.{Stage, TimelyIsRight}
use Rattle.example_domains.proofs.Trio.{IsTrio}
use Rattle.example_domains.proofs.WholeRounds.{moment_now, moment_push, push_whole, push_part, push_look}
use Rattle.example_domains.specs.EitherAnswer.{IsAnswered, HasEitherAnswer}
use Rattle.example_domains.specs.Roaming.{association}

in_add : (e : Act) (g h : List Act) → In e h → In e (add g h)
in_add e [] h there = there
in_add e (x ∷ g) h there = in_add e g (x ∷ h) (inr there)

module _ (c : Domain) (k l m : ℕ) (t : IsTrio (mobile c) k l m) where
  abbrev d : Domain
  d = w.d c k l m

  abbrev a : Node
  a = w.a c k l m

  abbrev b : Node
  b = w.b c k l m

  abbrev s : Node
  s = w.s c k l m

  abbrev id : List ℕ
  id = w.id c k l m

  abbrev name : List ℕ
  name = w.name c k l m

  abbrev r1 : PmkR1
  r1 = w.r1 c k l m

  abbrev i : Inputs
  i = w.i2 c k l m

  abbrev octets7 : List ℕ
  octets7 = w.octets7 c k l m

  abbrev ap7 : List Act
  ap7 = w.ap7 c k l m

  abbrev to0 : List Act
  to0 = w.to0 c k l m

  -- ---- before the round
  abbrev rounds8 : List (List Event)
  rounds8 = (Roam m l ∷ []) ∷ association k m

  abbrev st : Stage d d k l m rounds8 (w.sta8 c k l m) ap7 to0 (octets7 ∷ w.frames7 c k l m)
  st = stage8 c k l m t

  abbrev old : List Entry
  old = st.journal

  low_old : IsLow 9 old
  low_old e there = let is : e.round ≤ 8 = st.low e there in omega (arith, is)

  was : WasSent old 9 7 octets7
  was = st.were.0

  -- ---- access point k revokes the key
  abbrev gone : List Act
  gone = w.acts23 c k l m

  live : row name ap7 ≡ Some s
  live = rw (same_bytes name) refl

  revokes_row : gone ≡ revoke_acts d a ap7 s
  revokes_row = ap (λ (o : Option Node). Revoked id name s (revoke_answer o) ∷ []) (sym live)

  revokes : (x : List Entry) → history a x ≡ ap7 → Adds (here d 0 a) (history a x) (event.Revoke m) gone
  revokes x is = subst (λ (h : List Act). Adds (here d 0 a) h (event.Revoke m) gone) (sym is) (record { acts = gone; row = revokes_row; is = refl })

  stood : stands_in name s ap7 ≡ true
  stood = rw (same_bytes name, same-refl s) refl

  stands_no_more : stands_in name s (add gone ap7) ≡ false
  stands_no_more = rw (same_bytes name) refl

  -- what access point l asks
  abbrev asked : Looking
  asked = record { node = b; round = 9; name = name; sta = s }

  abbrev at_a : Place
  at_a = record { node = a; event = event.Revoke m }

  abbrev at_b : Place
  at_b = record { node = b; event = event.Take octets7 }

  -- ---- access point l takes the request, with that answer to its look
  module _ (answer : PullAnswer) (outcome : Outcome) (rest : List Act) where
    abbrev took : Act
    took = Took (Some s) octets7 kind.FtReq outcome None

    abbrev g : List Act
    g = took ∷ Looked id name s answer ∷ rest

    -- the journal, with the acts of k first or with those of l
    abbrev by_order : Bool → List Entry
    by_order true = push 9 b g (push 9 a gone old)
    by_order false = push 9 a gone (push 9 b g old)

    ap_is : (x : Bool) → history a (by_order x) ≡ add gone ap7
    ap_is true = history-other 9 b a g (push 9 a gone old) t.apart.one ∙ history-push 9 a gone old ∙ ap (add gone) st.ap_is
    ap_is false = history-push 9 a gone (push 9 b g old) ∙ ap (add gone) (history-other 9 b a g old t.apart.one ∙ st.ap_is)

    to_is : (x : Bool) → history b (by_order x) ≡ add g to0
    to_is true = history-push 9 b g (push 9 a gone old) ∙ ap (add g) (history-other 9 a b gone old t.apart.other ∙ st.to_is)
    to_is false = history-other 9 a b gone (push 9 b g old) t.apart.other ∙ history-push 9 b g old ∙ ap (add g) st.to_is

    low : (x : Bool) → IsLow 9 (by_order x)
    low true = low_push 9 b g (push 9 a gone old) (low_push 9 a gone old low_old)
    low false = low_push 9 a gone (push 9 b g old) (low_push 9 b g old low_old)

    module _ (row_is : TakeRow (here d 0 b) to0 octets7 g) (still : g ≡ and_switch d b to0 g) where
      takes : (x : List Entry) → history b x ≡ to0 → Adds (here d 0 b) (history b x) (event.Take octets7) g
      takes x is = subst (λ (h : List Act). Adds (here d 0 b) h (event.Take octets7) g) (sym is) (record { acts = g; row = row_is; is = still })

      adds : (x : Bool) → AddsAll d 9 (cond x (at_a ∷ at_b ∷ []) (at_b ∷ at_a ∷ [])) old (by_order x)
      adds true = (gone, (revokes old st.ap_is, (g, (takes (push 9 a gone old) (history-other 9 a b gone old t.apart.other ∙ st.to_is), refl))))
      adds false = (g, (takes old st.to_is, (gone, (revokes (push 9 b g old) (history-other 9 b a g old t.apart.one ∙ st.ap_is), refl))))

      follows : Follows d 9 (Revoke k m ∷ Deliver 7 b ∷ []) old (by_order (nat_le k l))
      follows = record {
        places = at_a ∷ at_b ∷ [];
        happen = (at_a ∷ [], (at_b ∷ [], (At_one at_a (refl, refl) refl, ((at_b ∷ [], ([], (At_one at_b (octets7, (was, (refl, refl))) refl, (refl, refl)))), refl))));
        adds = subst (λ (x : Domain). AddsAll x 9 (cond (nat_le k l) (at_a ∷ at_b ∷ []) (at_b ∷ at_a ∷ [])) old (by_order (nat_le k l))) (sym st.network) (adds (nat_le k l));
      }

    module _ (key : GivesRightKey d id asked answer) (none : answers rest ≡ []) where
      before : (x : Bool) → AllInTime d (by_order x) old
      before true = push_whole d old 9 b g (push 9 a gone old) low_old (push_whole d old 9 a gone old low_old st.right)
      before false = push_whole d old 9 a gone (push 9 b g old) low_old (push_whole d old 9 b g old low_old st.right)

      -- the network of the round
      earlier_order : (x : Bool) → earlier 9 (by_order x) ≡ old
      earlier_order true = earlier_push 9 9 b g (push 9 a gone old) (omega arith) ∙ earlier_push 9 9 a gone old (omega arith) ∙ earlier_below 9 8 old (omega arith) st.low
      earlier_order false = earlier_push 9 9 a gone (push 9 b g old) (omega arith) ∙ earlier_push 9 9 b g old (omega arith) ∙ earlier_below 9 8 old (omega arith) st.low

      key_in : (x : Bool) → GivesRightKey (present d (earlier 9 (by_order x))) id asked answer
      key_in x = subst (λ (n : Domain). GivesRightKey n id asked answer) (sym (ap (present d) (earlier_order x) ∙ st.network)) key

      right : (x : Bool) → SomeMoment a asked answer (by_order x) → AnsweredInTime d (by_order x)
      right true moment =
          push_look d (by_order true) 9 b took id name s answer rest a (push 9 a gone old) refl none t.holds t.apart.one moment (key_in true) (push_part d (by_order true) 9 a gone old refl (before true))
      right false moment =
          push_part d (by_order false) 9 a gone (push 9 b g old) refl (push_look d (by_order false) 9 b took id name s answer rest a old refl none t.holds t.apart.one moment (key_in false) (before false))

      pub answered : TimelyIsRight → TakeRow (here d 0 b) to0 octets7 g → g ≡ and_switch d b to0 g → ((x : Bool) → SomeMoment a asked answer (by_order x)) → IsAnswered d k l m answer outcome
      answered law row_is still moment = record {
        journal = by_order (nat_le k l);
        explained = explained_round d rounds8 (Revoke k m ∷ Deliver 7 b ∷ []) old (by_order (nat_le k l)) st.explained (follows row_is still);
        held = law d (by_order (nat_le k l)) (right (nat_le k l) (moment (nat_le k l)));
        revoked = subst (In (Revoked id name s revoke.Revoked)) (sym (ap_is (nat_le k l))) (inl refl);
        looked = subst (In (Looked id name s answer)) (sym (to_is (nat_le k l))) (in_add (Looked id name s answer) rest (Looked id name s answer ∷ took ∷ to0) (inl refl));
        request = octets7;
        took = subst (In took) (sym (to_is (nat_le k l))) (in_add took rest (Looked id name s answer ∷ took ∷ to0) (inr (inl refl)));
      }

  -- ---- the key of before the round is found
  abbrev opened : List Act
  opened = Opened s start.Roam ∷ Drew (Nonce (w.anonce2 c k l m)) ∷ Derived s i (ptk i) ∷ sent_ft_resp d b s name i ∷ []

  stood_before : (x : Bool) → SomeMoment a asked (Found r1) (by_order (Found r1) Accepted opened x)
  stood_before true = moment_push a asked (Found r1) b (g (Found r1) Accepted opened) (push 9 a gone old)
      (moment_push a asked (Found r1) a gone old (moment_now a asked (Found r1) old low_old (stands_by a name s old ∙ ap (stands_in name s) st.ap_is ∙ stood)))
  stood_before false = moment_push a asked (Found r1) a gone (push 9 b (g (Found r1) Accepted opened) old)
      (moment_push a asked (Found r1) b (g (Found r1) Accepted opened) old (moment_now a asked (Found r1) old low_old (stands_by a name s old ∙ ap (stands_in name s) st.ap_is ∙ stood)))

  -- ---- or none, as after the revocation
  abbrev answer : List Act
  answer = sent_ft_refusal d b s 53 ∷ []

  stands_after : (x : Bool) → SomeMoment a asked Absent (by_order Absent (Refused reason.Name) answer x)
  stands_after x =
      let j : List Entry = by_order Absent (Refused reason.Name) answer x in
      moment_now a asked Absent j (low Absent (Refused reason.Name) answer x) (stands_by a name s j ∙ ap (stands_in name s) (ap_is Absent (Refused reason.Name) answer x) ∙ stands_no_more)

  pub either_answer : TimelyIsRight → HasEitherAnswer d k l m
  either_answer law = record {
    found = answered (Found r1) Accepted opened refl refl law (row9 c k l m t) refl stood_before;
    absent = answered Absent (Refused reason.Name) answer tt refl law (refused_row c k l m t (psk_of d s) to0 (w.snonce2 c k l m) (length-nonce d s 1) refl) refl stands_after;
  }
