-- Act by act: no line reads what may differ.
use Rattle.std.proofs.Common.{◌≡◌, ℕ, List, [], ◌∷◌, ◌++◌, length, Option, sym, ap, ◌∙◌}
use Rattle.std.specs.Prelude.{codes}
use Rattle.std.specs.Fmt.{decimal}
use Rattle.domain_base.specs.declared.names.Mac.{Mac}
use Rattle.domain_base.specs.declared.names.Node.{Node}
use Rattle.domain_base.specs.Names.{node_text, peer_text}
use Rattle.key_hierarchy.specs.declared.answers.PullAnswer.{PullAnswer}
use Rattle.key_hierarchy.specs.declared.answers.PullAnswer.TheVariants.{Found}
use Rattle.link_steps.specs.declared.steps.LinkAnswer.{LinkAnswer}
use Rattle.link_steps.specs.declared.steps.LinkAnswer.TheVariants as answers
use Rattle.run_journal.specs.declared.acts.Key.{Key}
use Rattle.run_journal.specs.declared.acts.Key.TheVariants.{Pairwise, Group}
use Rattle.run_journal.specs.declared.acts.Act.{Act}
use Rattle.run_journal.specs.declared.acts.Act.TheVariants.{Drew, Derived, Sent, Took, Installed, Resumed, Used, HandedUp, Finished, Looked, Secret, Link}
use Rattle.run_journal.specs.declared.acts.Entry.{Entry}
use Rattle.run_journal.specs.Alike.{AlikeKeys, AlikeAnswers, AlikeLinkAnswers, AlikeActs, AlikeEntries, AlikeJournals}
use Rattle.run_journal.specs.Report.{key_text, pull_text, words, answer_line, act_line, line, lines}
use Rattle.run_journal.proofs.laws.lines_read_no_key.Goals as goal

key_text_alike : (a b : Key) → AlikeKeys a b → key_text a ≡ key_text b
key_text_alike (Pairwise tk i) b h = ap key_text (sym h.1.1)
key_text_alike (Group kind key id bssid) b h = ap key_text (sym h.1)

pull_text_alike : (a b : PullAnswer) → AlikeAnswers a b → pull_text a ≡ pull_text b
pull_text_alike (Found k) b h = ap pull_text (sym h.1)
pull_text_alike _ b h = ap pull_text (sym h)

answer_line_alike : (n : Node) (sta : Option Mac) (sent : ℕ) (a b : LinkAnswer) → AlikeLinkAnswers a b → answer_line n sta sent a ≡ answer_line n sta sent b
answer_line_alike n sta sent (answers.Learnt k a) b h =
    ap (λ (t : List ℕ). words (codes "learn" ∷ node_text n ∷ decimal k ∷ t ∷ [])) (pull_text_alike a h.0 h.1.0) ∙ ap (answer_line n sta sent) (sym h.1.1)
answer_line_alike n sta sent (answers.Told a) b h =
    ap (λ (t : List ℕ). words (codes "told" ∷ node_text n ∷ t ∷ decimal sent ∷ [])) (pull_text_alike a h.0 h.1.0) ∙ ap (answer_line n sta sent) (sym h.1.1)
answer_line_alike n sta sent _ b h = ap (answer_line n sta sent) (sym h)

act_line_alike : (number : ℕ) (n : Node) (a b : Act) → AlikeActs a b → act_line number n a ≡ act_line number n b
act_line_alike number n (Drew v) b h = ap (act_line number n) (sym h.1)
act_line_alike number n (Derived p i k) b h = ap (act_line number n) (sym h.1.1)
act_line_alike number n (Sent p k octets s) b h = ap (act_line number n) (sym h.1)
act_line_alike number n (Took from octets k o s) b h = ap (act_line number n) (sym h.1)
act_line_alike number n (Installed p key) b h =
    ap (λ (t : List ℕ). words (codes "install" ∷ node_text n ∷ peer_text p ∷ t ∷ [])) (key_text_alike key h.0 h.1.0) ∙ ap (act_line number n) (sym h.1.1)
act_line_alike number n (Resumed p key) b h =
    ap (λ (t : List ℕ). words (codes "resume" ∷ node_text n ∷ node_text p ∷ t ∷ [])) (key_text_alike key h.0 h.1.0) ∙ ap (act_line number n) (sym h.1.1)
act_line_alike number n (Used p key id pn octets) b h = ap (act_line number n) (sym h.1)
act_line_alike number n (HandedUp p key id tid pn octets) b h = ap (act_line number n) (sym h.1)
act_line_alike number n (Finished p i) b h = ap (act_line number n) (sym h.1)
act_line_alike number n (Looked x m p answer) b h =
    ap (λ (t : List ℕ). words (codes "look" ∷ node_text n ∷ node_text p ∷ t ∷ [])) (pull_text_alike answer h.0 h.1.0) ∙ ap (act_line number n) (sym h.1.1)
act_line_alike number n (Secret p psk) b h = ap (act_line number n) (sym h.1)
act_line_alike number n (Link sta s) b h =
    answer_line_alike n sta (length s.sent) s.answer h.0.answer h.1.0.answer ∙ ap (λ (k : ℕ). answer_line n sta k h.0.answer) (sym h.1.0.sent) ∙ ap (act_line number n) (sym h.1.1)
act_line_alike number n _ b h = ap (act_line number n) (sym h)

line_alike : (a b : Entry) → AlikeEntries a b → line a ≡ line b
line_alike a b h = act_line_alike a.number a.node a.act b.act h.act ∙ ap (λ (n : ℕ). act_line n a.node b.act) (sym h.number) ∙ ap (λ (n : Node). act_line b.number n b.act) (sym h.node)

lines_alike : (j k : List Entry) → AlikeJournals j k → lines j ≡ lines k
unfolding lines
lines_alike [] k h = ap lines (sym h)
lines_alike (a ∷ j) k h = ap (λ (l : List ℕ). l ++ line a) (lines_alike j h.1.0 h.1.1.1.1) ∙ ap (λ (l : List ℕ). lines h.1.0 ++ l) (line_alike a h.0 h.1.1.1.0) ∙ ap lines (sym h.1.1.0)

pub returns : goal.returns
returns c = lines_alike
