-- What is sent in an attempt (IEEE Std 802.11-2020, 12.7.6.2 and 12.7.6.4).
-- For the code alone: no public contract speaks of it.
use Rattle.std.specs.Prelude.{◌≡◌, ℕ, List, [], ◌∷◌}
use Rattle.domain_base.specs.declared.names.Node.{Node}
use Rattle.run_journal.specs.declared.domain.Domain.{Domain}
use Rattle.run_journal.specs.declared.reply.Reply.{Reply}
use Rattle.run_journal.specs.Acts.{Derivation}
use Rattle.domain_rules.specs.Frames.{m3_key_data, sent_m1, sent_m3}
use Rattle.eapol_key.specs.KeyData.{padded}
use Rattle.domain_rules.specs.Replies.{sent_acts}
use Rattle.group_key.specs.News.{carried_news}
use Rattle.node_base.specs.declared.ends.Ends.{Ends}
use Rattle.node_base.specs.Ends.{AreEnds}
use Rattle.authenticator.specs.Agreed.{Agreed}

-- the reply sends M1 between the ends
abbrev pub SendsM1 : Ends → ℕ → List ℕ → Reply → Type 0
SendsM1 l counter anonce r =
    (d : Domain) (n p : Node) → AreEnds d n p l → sent_acts p r ≡ sent_m1 d n p counter anonce ∷ []

-- it sends M3 between them, under the key that was agreed on
abbrev pub SendsM3 : Ends → Agreed → ℕ → Reply → Type 0
SendsM3 l y counter r =
    (d : Domain) (n p : Node) (x : Derivation)
    → AreEnds d n p l → y.key.ptk ≡ x.ptk → x.inputs.anonce ≡ y.key.anonce
    → padded y.plain ≡ m3_key_data d n x (carried_news y.news)
    → sent_acts p r ≡ sent_m3 d n p x counter (carried_news y.news) ∷ []
