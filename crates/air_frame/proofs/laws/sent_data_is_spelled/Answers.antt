use Rattle.air_frame.proofs.SentFrames.{eapol_data_sent, protected_data_sent}
use Rattle.air_frame.proofs.laws.sent_data_is_spelled.Goals as goal

pub returns-clause-eapol : goal.returns-clause-eapol
returns-clause-eapol c direction a1 a2 a3 octets l1 l2 l3 = eapol_data_sent direction a1 a2 a3 octets l1 l2 l3

pub returns-clause-protected : goal.returns-clause-protected
returns-clause-protected c direction tid a1 a2 a3 body low l1 l2 l3 enough ext_iv = protected_data_sent direction tid a1 a2 a3 body low l1 l2 l3 enough ext_iv
