-- A group of acts with one look that is answered by what the holder has just then.
use Rattle.std.proofs.Common.{◌≡◌, ℕ, suc, ◌≤◌, true, false, cond, List, [], ◌∷◌, Some, None, refl, sym, ap, subst, ◌∙◌, arith, inl, inr}
use Rattle.domain_base.specs.declared.names.Node.{Node}
use Rattle.domain_rules.proofs.Parts.{same-refl}
use Rattle.domain_rules.specs.Explained.{number_of}
use Rattle.domain_rules.specs.HeldRight.{Looking, looking, AnswersAt, GivesRightKey}
use Rattle.domain_rules.specs.Network.{holder_of}
use Rattle.domain_rules.specs.Present.{present, earlier}
use Rattle.domain_rules.proofs.PresentNetwork.{earlier_entry, earlier_below}
use Rattle.key_hierarchy.specs.declared.answers.PullAnswer.TheVariants.{Found, NoHolder, Absent}
use Rattle.key_hierarchy.specs.declared.answers.PullAnswer.{PullAnswer}
use Rattle.run_journal.specs.Acts.{same}
use Rattle.run_journal.specs.Holders.{answer_of, answers}
use Rattle.run_journal.specs.Questions.{history}
use Rattle.run_journal.specs.declared.acts.Act.TheVariants.{Looked}
use Rattle.run_journal.specs.declared.acts.Act.{Act}
use Rattle.run_journal.specs.declared.acts.Entry.{Entry}
use Rattle.run_journal.specs.declared.domain.Domain.{Domain}
use Rattle.example_domains.proofs.Moments.{stands_in, stands_by, IsLow, LooksRight, quiet, no_look, elsewhere, at_home}

-- by the history of the holder's access point
abbrev pub AnswersBy : PullAnswer → List ℕ → Node → List Act → Type 0
AnswersBy (Found k) name p h = stands_in name p h ≡ true
AnswersBy Absent name p h = stands_in name p h ≡ false
AnswersBy NoHolder name p h = ⊥

answers_at : (r : Node) (l : Looking) (answer : PullAnswer) (past : List Entry) (h : List Act) → history r past ≡ h → AnswersBy answer l.name l.sta h → AnswersAt r l answer past
answers_at r l (Found k) past h is by = stands_by r l.name l.sta past ∙ ap (stands_in l.name l.sta) is ∙ by
answers_at r l Absent past h is by = stands_by r l.name l.sta past ∙ ap (stands_in l.name l.sta) is ∙ by
answers_at r l NoHolder past h is by = by

low_now : (round : ℕ) (j : List Entry) (e : Entry) → e.round ≡ suc round → IsLow round j → IsLow (suc round) (e ∷ j)
low_now round j e is low = λ m there. elim there [
  | inl here ↦ (let same : m.round ≡ suc round = ap (λ (x : Entry). x.round) here ∙ is in omega (arith, same))
  | inr later ↦ (let below : m.round ≤ round = low m later in omega (arith, below))
]

module _ (c d : Domain) (round : ℕ) (n : Node) (took : Act) (id name : List ℕ) (p : Node) (answer : PullAnswer) (rest : List Act) (j : List Entry) where
  abbrev first : Entry
  first = record { round = suc round; node = n; number = number_of took j; act = took }

  abbrev second : Entry
  second = record { round = suc round; node = n; number = 0; act = Looked id name p answer }

  abbrev IsRightKey : Type 0
  IsRightKey = GivesRightKey d id (looking second name p) answer

  -- the network in which it is answered is d
  key_now : IsLow round j → present c j ≡ d → IsRightKey → GivesRightKey (present c (earlier (suc round) (second ∷ first ∷ j))) id (looking second name p) answer
  key_now low network right =
      let before : earlier (suc round) (second ∷ first ∷ j) ≡ j =
      earlier_entry (suc round) second (first ∷ j) (omega arith) ∙ earlier_entry (suc round) first j (omega arith) ∙ earlier_below (suc round) round j (omega arith) low in
      subst (λ (x : Domain). GivesRightKey x id (looking second name p) answer) (sym (ap (present c) before ∙ network)) right

  pub looked_elsewhere : (r : Node) (h : List Act) → answer_of took ≡ None → answers rest ≡ [] → holder_of c id ≡ Some r → same r n ≡ false → IsLow round j → present c j ≡ d → history r j ≡ h → AnswersBy answer name p h → IsRightKey
      → LooksRight c (suc round) n (took ∷ Looked id name p answer ∷ rest) j
  looked_elsewhere r h none quiet_rest holds other low network is by right = (
    no_look c first j none,
    (
      elsewhere c second (first ∷ j) r id name p answer refl holds other (low_now round j first refl low)
          (answers_at r (looking second name p) answer (first ∷ j) h (ap (λ b. cond b (took ∷ history r j) (history r j)) other ∙ is) by) (key_now low network right),
      quiet c (suc round) n rest (second ∷ first ∷ j) quiet_rest,
    ),
  )

  pub looked_at_home : (h : List Act) → answer_of took ≡ None → answers rest ≡ [] → holder_of c id ≡ Some n → IsLow round j → present c j ≡ d → history n j ≡ h → AnswersBy answer name p (took ∷ h) → IsRightKey
      → LooksRight c (suc round) n (took ∷ Looked id name p answer ∷ rest) j
  looked_at_home h none quiet_rest holds low network is by right = (
    no_look c first j none,
    (
      at_home c second (first ∷ j) id name p answer refl holds
          (answers_at n (looking second name p) answer (first ∷ j) (took ∷ h) (ap (λ b. cond b (took ∷ history n j) (history n j)) (same-refl n) ∙ ap (λ (x : List Act). took ∷ x) is) by) (key_now low network right),
      quiet c (suc round) n rest (second ∷ first ∷ j) quiet_rest,
    ),
  )
