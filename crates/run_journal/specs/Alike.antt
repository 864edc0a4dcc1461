-- Entries that differ in keys, derived, drawn or pre-shared, and sealed octets alone (profile).
use Rattle.std.specs.Prelude.{ℕ, ◌≡◌, List, [], ◌∷◌, length, Option}
use Rattle.key_hierarchy.specs.declared.inputs.Inputs.{Inputs}
use Rattle.key_hierarchy.specs.declared.inputs.Ptk.{Ptk}
use Rattle.key_hierarchy.specs.declared.answers.PullAnswer.{PullAnswer}
use Rattle.key_hierarchy.specs.declared.answers.PullAnswer.TheVariants.{Found}
use Rattle.key_hierarchy.specs.declared.fast_transition.PmkR1.{PmkR1}
use Rattle.link_steps.specs.declared.steps.LinkAnswer.{LinkAnswer}
use Rattle.link_steps.specs.declared.steps.LinkAnswer.TheVariants.{Learnt, Told}
use Rattle.link_steps.specs.declared.steps.Step.{Step}
use Rattle.run_journal.specs.declared.acts.Drawn.{Drawn}
use Rattle.run_journal.specs.declared.acts.Seal.{Seal}
use Rattle.run_journal.specs.declared.acts.Key.{Key}
use Rattle.run_journal.specs.declared.acts.Key.TheVariants.{Pairwise, Group}
use Rattle.run_journal.specs.declared.acts.Act.{Act}
use Rattle.run_journal.specs.declared.acts.Act.TheVariants.{Drew, Derived, Sent, Took, Installed, Resumed, Used, HandedUp, Finished, Looked, Secret, Link}
use Rattle.run_journal.specs.declared.acts.Entry.{Entry}

-- two keys of one kind, and group keys of one kind and id
abbrev pub AlikeKeys : Key → Key → Type 0
AlikeKeys (Pairwise tk i) b = (tk' : List ℕ) × ((i' : Inputs) × (b ≡ Pairwise tk' i'))
AlikeKeys (Group kind key id bssid) b = (key' : List ℕ) × (b ≡ Group kind key' id bssid)

-- two PMK-R1 that were found, or one answer
abbrev pub AlikeAnswers : PullAnswer → PullAnswer → Type 0
AlikeAnswers (Found k) b = (k' : PmkR1) × (b ≡ Found k')
AlikeAnswers a b = b ≡ a

-- one answer at an end of a link, or two that differ in the PMK-R1 that was found alone
abbrev pub AlikeLinkAnswers : LinkAnswer → LinkAnswer → Type 0
AlikeLinkAnswers (Learnt n a) b = (a' : PullAnswer) × (AlikeAnswers a a' × (b ≡ Learnt n a'))
AlikeLinkAnswers (Told a) b = (a' : PullAnswer) × (AlikeAnswers a a' × (b ≡ Told a'))
AlikeLinkAnswers a b = b ≡ a

-- steps of a link with such answers and as many octets sent, whatever these are, and whatever happened
pub record AlikeSteps (s t : Step) : Type 0 where
  pub answer : AlikeLinkAnswers s.answer t.answer
  pub sent : length t.sent ≡ length s.sent

-- the second act is the first with any other keys, derived, drawn, found or pre-shared, and sealed octets
abbrev pub AlikeActs : Act → Act → Type 0
AlikeActs (Drew v) b = (v' : Drawn) × (b ≡ Drew v')
AlikeActs (Derived p i k) b = (i' : Inputs) × ((k' : Ptk) × (b ≡ Derived p i' k'))
AlikeActs (Sent p k octets s) b = (s' : Option Seal) × (b ≡ Sent p k octets s')
AlikeActs (Took from octets k o s) b = (s' : Option Seal) × (b ≡ Took from octets k o s')
AlikeActs (Installed p key) b = (key' : Key) × (AlikeKeys key key' × (b ≡ Installed p key'))
AlikeActs (Resumed p key) b = (key' : Key) × (AlikeKeys key key' × (b ≡ Resumed p key'))
AlikeActs (Used p key id n octets) b = (key' : List ℕ) × (b ≡ Used p key' id n octets)
AlikeActs (HandedUp p key id tid n octets) b = (key' : List ℕ) × (b ≡ HandedUp p key' id tid n octets)
AlikeActs (Finished p i) b = (i' : Inputs) × (b ≡ Finished p i')
AlikeActs (Looked x m p answer) b = (answer' : PullAnswer) × (AlikeAnswers answer answer' × (b ≡ Looked x m p answer'))
AlikeActs (Secret p psk) b = (psk' : List ℕ) × (b ≡ Secret p psk')
AlikeActs (Link sta s) b = (s' : Step) × (AlikeSteps s s' × (b ≡ Link sta s'))
AlikeActs a b = b ≡ a

pub record AlikeEntries (a b : Entry) : Type 0 where
  pub round : b.round ≡ a.round
  pub node : b.node ≡ a.node
  pub number : b.number ≡ a.number
  pub act : AlikeActs a.act b.act

-- journals that are alike entry by entry
abbrev pub AlikeJournals : List Entry → List Entry → Type 0
AlikeJournals [] k = k ≡ []
AlikeJournals (a ∷ j) k = (b : Entry) × ((l : List Entry) × ((k ≡ b ∷ l) × (AlikeEntries a b × AlikeJournals j l)))
