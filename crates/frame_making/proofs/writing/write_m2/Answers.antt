use Rattle.std.proofs.Common.{arith}
use Rattle.std.proofs.Common.{◌≡◌, ◌∙◌, ℕ, Bool, true, false, List, [], ◌∷◌, Some, refl, ap}
use Rattle.domain_base.specs.declared.names.Akm.{Akm}
use Rattle.domain_base.specs.declared.names.Node.{Node}
use Rattle.domain_base.specs.declared.names.Peer.TheVariants.{One}
use Rattle.eapol_key.specs.declared.messages.Message.TheVariants.{M2}
use Rattle.eapol_key.specs.Octets.{frame_octets}
use Rattle.eapol_key.specs.Sealed.{sealed}
use Rattle.eapol_key.specs.Sent.{sent_fields}
use Rattle.key_hierarchy.specs.declared.inputs.Ptk.{Ptk}
use Rattle.run_journal.specs.declared.domain.Domain.{Domain}
use Rattle.run_journal.specs.declared.acts.Kind.TheVariants.{Key}
use Rattle.run_journal.specs.declared.acts.Act.{Act}
use Rattle.run_journal.specs.declared.acts.Act.TheVariants.{Sent}
use Rattle.run_journal.specs.Acts.{Derivation}
use Rattle.domain_rules.specs.Frames.{in_data, frame_seal, sent_sealed, sent_m2_key_data, sent_m2_by}
use Rattle.frame_making.specs.Second.{marked, carried_fte}
use Rattle.frame_making.proofs.Secured.{m2_octets, marked_is}
use Rattle.std.proofs.lemmas.Grind.{common_steps}
use Rattle.frame_making.proofs.writing.write_m2.Goals as goal

abbrev with_data : Bool → Domain → Node → Node → Derivation → ℕ → List ℕ → Act
with_data secure d n p x counter data_ = sent_sealed d n p M2 x.ptk.kck (sealed d.akm x.ptk.kck (m2_octets secure d.akm counter x.inputs.snonce data_))

-- by whether Secure is set
sent_so : (secure : Bool) (d : Domain) (n p : Node) (x : Derivation) (counter : ℕ) (fte : List ℕ) → with_data secure d n p x counter (sent_m2_key_data d.akm d x (carried_fte secure fte)) ≡ sent_m2_by secure d n p x counter fte
sent_so false d n p x counter fte = refl
sent_so true d n p x counter fte = refl

is_m2 : (secure : Bool) (d : Domain) (n p : Node) (x : Derivation) (counter : ℕ) (fte : List ℕ) (akm : Akm) (key : Ptk) (nonce data_ front frame : List ℕ) → akm ≡ d.akm → key ≡ x.ptk → x.inputs.snonce ≡ nonce
    → data_ ≡ sent_m2_key_data d.akm d x (carried_fte secure fte) → front ≡ frame → frame ≡ sealed akm key.kck (marked secure (frame_octets (sent_fields M2 akm counter nonce 0 data_)))
    → Sent (One p) (Key M2) (in_data d n p front) (Some (frame_seal key.kck front)) ≡ sent_m2_by secure d n p x counter fte
is_m2 secure d n p x counter fte akm key nonce data_ front frame same derived drawn says whole is =
    rw (whole, is, marked_is secure akm counter nonce data_, same, derived, ← drawn) (ap (with_data secure d n p x counter) says ∙ sent_so secure d n p x counter fte)

pub returns-clause-writes : goal.returns-clause-writes
returns-clause-writes c d n p x fte ends derived drawn says =
    c.write_frame.ensures.writes d n p ends
    ∙ ap (λ (a : Act). a ∷ []) (is_m2 c.args.secure d n p x c.args.counter fte c.args.ends.now.akm c.args.key.now.ptk c.args.key.now.snonce c.args.key_data.now _ _ ends.akm derived drawn says c.split_at.ensures.front c.put_m2-size.ensures.frame)

pub returns-clause-fits : goal.returns-clause-fits
returns-clause-fits c = grind (arith, common_steps)
