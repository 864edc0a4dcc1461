use Rattle.std.proofs.Common.{arith}
use Rattle.std.proofs.Common.{◌≡◌, ◌∙◌, ℕ, List, [], ◌∷◌, Some, sym, ap}
use Rattle.domain_base.specs.declared.names.Akm.{Akm}
use Rattle.domain_base.specs.declared.names.Node.{Node}
use Rattle.domain_base.specs.declared.names.Peer.TheVariants.{One}
use Rattle.eapol_key.specs.declared.messages.Message.TheVariants.{M3}
use Rattle.eapol_key.specs.KeyData.{padded}
use Rattle.eapol_key.specs.Octets.{frame_octets}
use Rattle.eapol_key.specs.Sealed.{sealed}
use Rattle.eapol_key.specs.Sent.{sent_fields}
use Rattle.key_hierarchy.specs.declared.inputs.Ptk.{Ptk}
use Rattle.run_journal.specs.declared.domain.Domain.{Domain}
use Rattle.run_journal.specs.declared.acts.Kind.TheVariants.{Key}
use Rattle.run_journal.specs.declared.acts.Act.{Act}
use Rattle.run_journal.specs.declared.acts.Act.TheVariants.{Sent}
use Rattle.run_journal.specs.Acts.{Derivation}
use Rattle.domain_rules.specs.Frames.{in_data, frame_seal, wrapped, sent_sealed, m3_key_data, sent_m3}
use Rattle.domain_rules.specs.GroupKeys.{News}
use Rattle.std.proofs.lemmas.Grind.{common_steps}
use Rattle.frame_making.proofs.writing.write_m3.Goals as goal

abbrev with_data : Domain → Node → Node → Derivation → ℕ → ℕ → List ℕ → Act
with_data d n p x counter rsc data_ = sent_sealed d n p M3 x.ptk.kck (sealed d.akm x.ptk.kck (frame_octets (sent_fields M3 d.akm counter x.inputs.anonce rsc (wrapped x.ptk.kek data_))))

is_m3 : (d : Domain) (n p : Node) (x : Derivation) (keys : News) (counter rsc : ℕ) (akm : Akm) (key : Ptk) (nonce data_ front frame : List ℕ) → akm ≡ d.akm → key ≡ x.ptk → x.inputs.anonce ≡ nonce → keys.rsc ≡ rsc
    → data_ ≡ m3_key_data d n x keys → front ≡ frame → frame ≡ sealed akm key.kck (frame_octets (sent_fields M3 akm counter nonce rsc (wrapped key.kek data_)))
    → Sent (One p) (Key M3) (in_data d n p front) (Some (frame_seal key.kck front)) ≡ sent_m3 d n p x counter keys
is_m3 d n p x keys counter rsc akm key nonce data_ front frame same derived drawn used says whole is =
    rw (whole, is, same, derived, ← drawn) (ap (with_data d n p x counter rsc) says ∙ ap (λ (y : ℕ). with_data d n p x counter y (m3_key_data d n x keys)) (sym used))

pub returns-clause-writes : goal.returns-clause-writes
returns-clause-writes c d n p x keys ends derived drawn used says =
    c.write_frame.ensures.writes d n p ends
    ∙ ap (λ (a : Act). a ∷ []) (is_m3 d n p x keys c.args.counter c.args.rsc c.args.ends.now.akm c.args.key.now.ptk c.args.key.now.anonce (padded c.args.plain.now) _ _ ends.akm derived drawn used says c.split_at.ensures.front c.put_m3-size.ensures.frame)

pub returns-clause-fits : goal.returns-clause-fits
returns-clause-fits c = grind (arith, common_steps)
