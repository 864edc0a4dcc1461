use Rattle.std.proofs.Common.{arith}
use Rattle.std.proofs.Common.{◌≡◌, ◌∙◌, ℕ, List, [], ◌∷◌, Some, ap}
use Rattle.domain_base.specs.declared.names.Akm.{Akm}
use Rattle.domain_base.specs.declared.names.Node.{Node}
use Rattle.domain_base.specs.declared.names.Peer.TheVariants.{One}
use Rattle.eapol_key.specs.declared.messages.Message.TheVariants.{G1}
use Rattle.eapol_key.specs.KeyData.{padded}
use Rattle.eapol_key.specs.Octets.{frame_octets}
use Rattle.eapol_key.specs.Sealed.{sealed}
use Rattle.eapol_key.specs.Sent.{sent_fields}
use Rattle.key_hierarchy.specs.declared.inputs.Ptk.{Ptk}
use Rattle.run_journal.specs.declared.domain.Domain.{Domain}
use Rattle.run_journal.specs.declared.acts.Kind.TheVariants.{Key}
use Rattle.run_journal.specs.declared.acts.Act.{Act}
use Rattle.run_journal.specs.declared.acts.Act.TheVariants.{Sent}
use Rattle.run_journal.specs.Acts.{Derivation}
use Rattle.domain_rules.specs.Frames.{in_data, frame_seal, wrapped, group_kdes, sent_sealed, sent_g1}
use Rattle.group_key.specs.declared.news.News.{News}
use Rattle.group_key.specs.News.{carried_news}
use Rattle.std.proofs.lemmas.Grind.{common_steps}
use Rattle.frame_making.proofs.writing.write_g1.Goals as goal

abbrev with_data : Domain → Node → Node → Derivation → ℕ → ℕ → List ℕ → Act
with_data d n p x counter rsc data_ = sent_sealed d n p G1 x.ptk.kck (sealed d.akm x.ptk.kck (frame_octets (sent_fields G1 d.akm counter [] rsc (wrapped x.ptk.kek (padded data_)))))

is_g1 : (d : Domain) (n p : Node) (x : Derivation) (keys : News) (counter : ℕ) (akm : Akm) (key : Ptk) (plain front frame : List ℕ) → akm ≡ d.akm → key ≡ x.ptk → plain ≡ group_kdes (carried_news keys) → front ≡ frame
    → frame ≡ sealed akm key.kck (frame_octets (sent_fields G1 akm counter [] keys.rsc (wrapped key.kek (padded plain))))
    → Sent (One p) (Key G1) (in_data d n p front) (Some (frame_seal key.kck front)) ≡ sent_g1 d n p x counter (carried_news keys)
is_g1 d n p x keys counter akm key plain front frame same derived says whole is = rw (whole, is, same, derived) (ap (with_data d n p x counter keys.rsc) says)

pub returns-clause-writes : goal.returns-clause-writes
returns-clause-writes c d n p x ends derived =
    c.write_frame.ensures.writes d n p ends
    ∙ ap (λ (a : Act). a ∷ []) (is_g1 d n p x c.args.news.now c.args.counter c.args.ends.now.akm c.args.key.now _ _ _ ends.akm derived (c.as_slice.ensures ∙ c.group_kdes-plain.ensures.octets) c.split_at.ensures.front c.put_g1-size.ensures.frame)

pub returns-clause-fits : goal.returns-clause-fits
returns-clause-fits c = grind (arith, common_steps)
