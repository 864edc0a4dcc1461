use Rattle.std.proofs.Common.{arith, refl, ◌∙◌}
use Rattle.eapol_key.proofs.Joined.{message_joined, sent_fits, sent_at_front}
use Rattle.eapol_key.proofs.writing.write.Goals as goal

pub returns-clause-octets : goal.returns-clause-octets
returns-clause-octets c =
    message_joined c.args.message c.args.akm c.args.counter c.args.rsc _ _ _ _ c.args.nonce.now c.args.key_data.now _ _ _ _ (omega arith) c.sent_key_length-key_length.ensures c.sent_nonce-nonce.ensures c.sent_rsc.ensures c.put_front-at.ensures.end c.put_front-at.ensures.front c.put_back.ensures.front

pub returns-clause-reads_back : goal.returns-clause-reads_back
returns-clause-reads_back c later same =
    sent_at_front _ later _ (sent_fits c.args.message c.args.akm c.args.counter c.args.rsc c.args.nonce.now c.args.key_data.now (omega arith) c.told-nonce c.requires.fits) (omega arith) (same ∙ returns-clause-octets c)

pub returns-clause-spelled : goal.returns-clause-spelled
returns-clause-spelled c = returns-clause-reads_back c _ refl
