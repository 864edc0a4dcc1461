-- With suites 2 and 6 nothing is put with a key holder, and no R0KH-ID is looked at.
use Rattle.std.proofs.Common.{◌≡◌, ◌≢◌, ℕ, Bool, List, [], Option, Some, None, refl, ap, ◌∙◌}
use Rattle.domain_base.specs.declared.names.Akm.TheVariants.{FtPsk}
use Rattle.domain_base.specs.declared.names.Node.{Node}
use Rattle.run_journal.specs.declared.domain.Domain.{Domain}
use Rattle.run_journal.specs.declared.acts.Act.{Act}
use Rattle.run_journal.specs.declared.acts.Outcome.{Outcome}
use Rattle.run_journal.specs.declared.reply.Reply.{Reply}
use Rattle.run_journal.specs.declared.reply.Keyed.{Keyed}
use Rattle.domain_rules.specs.Network.{r0kh_id}
use Rattle.domain_rules.specs.Reading.{KeyMessage}
use Rattle.domain_rules.specs.Replies.{Pair, Between, key_by, pair, replied_acts, reply_acts, taken_as}
use Rattle.domain_rules.proofs.SuiteWords.{put_suite}
use Rattle.node_base.proofs.PairWords.{pair_suite}
use Rattle.authenticator.specs.Bases.{home, own_pair}
use Rattle.authenticator.specs.Taken.{put_for, told_acts}

abbrev putting : List Act → Between
putting acts = record { opened = []; put = acts }

none_put : (d : Domain) (n : Node) (h : List Act) (p : Node) (o : Option Keyed) → d.akm ≢ FtPsk → put_for d n h p o ≡ []
none_put d n h p None other = refl
none_put d n h p (Some y) other = put_suite d.akm d n h p (key_by d (home d n p) n p y) other

pub own_suite : (d : Domain) (n p : Node) → d.akm ≢ FtPsk → own_pair d n p ≡ pair d n p
own_suite d n p other = pair_suite d (r0kh_id d n) n p other

pub told_suite : (d : Domain) (n p : Node) (had : Bool) (octets : List ℕ) (k : KeyMessage) (outcome : Outcome) (r : Reply) (h : List Act) → d.akm ≢ FtPsk
    → told_acts d n p had octets k outcome r h ≡ reply_acts (pair d n p) had (taken_as octets k outcome) r
told_suite d n p had octets k outcome r h other =
    ap (λ (acts : List Act). replied_acts (own_pair d n p) had (taken_as octets k outcome) r (putting acts)) (none_put d n h p r.installed other)
    ∙ ap (λ (w : Pair). reply_acts w had (taken_as octets k outcome) r) (own_suite d n p other)
