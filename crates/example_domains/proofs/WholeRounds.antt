-- Key holders answer rightly in a journal in whose last round two access points have events, where the look is answered by what the holder has at
-- some moment of the round.
use Rattle.std.proofs.Common.{◌≡◌, ℕ, Bool, false, cond, List, [], ◌∷◌, Option, Some, None, refl, sym, ap, subst, arith}
use Rattle.domain_base.specs.declared.names.Node.{Node}
use Rattle.domain_rules.specs.Explained.{push}
use Rattle.domain_rules.specs.HeldRight.{Looking, looking, AnswersAt, SomeMoment, AnsweredBySome, InTimeAt, AllInTime, GivesRightKey}
use Rattle.domain_rules.specs.Network.{holder_of}
use Rattle.domain_rules.specs.Present.{present, earlier}
use Rattle.key_hierarchy.specs.declared.answers.PullAnswer.{PullAnswer}
use Rattle.run_journal.specs.Acts.{same}
use Rattle.run_journal.specs.Holders.{answer_of, answers}
use Rattle.run_journal.specs.declared.acts.Act.TheVariants.{Looked}
use Rattle.run_journal.specs.declared.acts.Act.{Act}
use Rattle.run_journal.specs.declared.acts.Entry.{Entry}
use Rattle.run_journal.specs.declared.domain.Domain.{Domain}
use Rattle.example_domains.proofs.Moments.{IsLow, entry_of, moment_stays, all_stay, none_by}

-- ---- moments

-- the end of the journal
pub moment_now : (r : Node) (l : Looking) (answer : PullAnswer) (j : List Entry) → IsLow l.round j → AnswersAt r l answer j → SomeMoment r l answer j
moment_now r l answer j low answers_now = record {
  since = [];
  at = j;
  cut = refl;
  before = λ m there own. low m there;
  behind = λ m there own. absurd there;
  answers = answers_now;
}

-- and it stays one
pub moment_push : (r : Node) (l : Looking) (answer : PullAnswer) (n : Node) (g : List Act) (j : List Entry) → SomeMoment r l answer j → SomeMoment r l answer (push l.round n g j)
moment_push r l answer n [] j w = w
moment_push r l answer n (e ∷ g) j w = moment_push r l answer n g (entry_of l.round n e j ∷ j) (moment_stays r l answer j (entry_of l.round n e j) (omega arith) w)

-- ---- the looks of a part of a journal, the oldest (`AllInTime d j part`), as the whole journal tells them

-- the journal goes on
pub push_whole : (d : Domain) (part : List Entry) (round : ℕ) (n : Node) (g : List Act) (j : List Entry) → IsLow round part → AllInTime d j part → AllInTime d (push round n g j) part
push_whole d part round n [] j low right = right
push_whole d part round n (e ∷ g) j low right = push_whole d part round n g (entry_of round n e j ∷ j) low (all_stay d j part (entry_of round n e j) low right)

-- the part has one entry more
more_part : (d : Domain) (j past : List Entry) (e : Entry) → AllInTime d j past → InTimeAt d j e past → AllInTime d j (e ∷ past)
unfolding AllInTime
more_part d j past e right is = (is, right)

no_claim : (d : Domain) (j past : List Entry) (e : Entry) → answer_of e.act ≡ None → InTimeAt d j e past
no_claim d j past e none id name p answer looks = absurd (cc (none, ap answer_of looks))

-- acts without a look
pub push_part : (d : Domain) (j : List Entry) (round : ℕ) (n : Node) (g : List Act) (past : List Entry) → answers g ≡ [] → AllInTime d j past → AllInTime d j (push round n g past)
push_part d j round n [] past none right = right
push_part d j round n (e ∷ g) past none right =
    let w = none_by (answer_of e) (answers g) none in
    push_part d j round n g (entry_of round n e past ∷ past) w.1 (more_part d j past (entry_of round n e past) right (no_claim d j past (entry_of round n e past) w.0))

-- a look that another holder answers by what it has at some moment
abbrev by_act : (d : Domain) (j past : List Entry) (e : Entry) → Act → Type 0
by_act d j past e (Looked id name p answer) = AnsweredBySome (holder_of d id) (looking e name p) answer past j × GivesRightKey (present d (earlier e.round j)) id (looking e name p) answer
by_act d j past e _ = Unit {0}

module _ (d : Domain) (j : List Entry) (round : ℕ) (n : Node) (took : Act) (id name : List ℕ) (p : Node) (answer : PullAnswer) (rest : List Act) where
  abbrev look : List Entry → Entry
  look past = record { round = round; node = n; number = 0; act = Looked id name p answer }

  claims : (r : Node) (past : List Entry) → holder_of d id ≡ Some r → same r n ≡ false → SomeMoment r (looking (look past) name p) answer j → GivesRightKey (present d (earlier round j)) id (looking (look past) name p) answer → InTimeAt d j (look past) past
  claims r past holds other moment key x y q z looks =
      let by : AnsweredBySome (Some r) (looking (look past) name p) answer past j =
      subst (λ (b : Bool). cond b (AnswersAt r (looking (look past) name p) answer past) (SomeMoment r (looking (look past) name p) answer j)) (sym other) moment in
      let both : by_act d j past (look past) (Looked id name p answer) = (subst (λ (o : Option Node). AnsweredBySome o (looking (look past) name p) answer past j) (sym holds) by, key) in
      subst (by_act d j past (look past)) looks both

  pub push_look : (r : Node) (past : List Entry) → answer_of took ≡ None → answers rest ≡ [] → holder_of d id ≡ Some r → same r n ≡ false → SomeMoment r (looking (look past) name p) answer j → GivesRightKey (present d (earlier round j)) id (looking (look past) name p) answer
      → AllInTime d j past → AllInTime d j (push round n (took ∷ Looked id name p answer ∷ rest) past)
  push_look r past none quiet_rest holds other moment key right =
      let first : Entry = entry_of round n took past in
      push_part d j round n rest (look past ∷ first ∷ past) quiet_rest
      (more_part d j (first ∷ past) (look past) (more_part d j past first right (no_claim d j past first none)) (claims r (first ∷ past) holds other moment key))
