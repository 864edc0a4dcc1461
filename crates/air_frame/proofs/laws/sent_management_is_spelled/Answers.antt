use Rattle.air_frame.proofs.SentFrames.{assoc_req_sent, assoc_resp_sent, re_req_sent, re_resp_sent, ft_req_sent, ft_resp_sent, action_sent}
use Rattle.air_frame.proofs.laws.sent_management_is_spelled.Goals as goal

pub returns-clause-assoc_req : goal.returns-clause-assoc_req
returns-clause-assoc_req c a1 a2 a3 elements l1 l2 l3 = assoc_req_sent a1 a2 a3 l1 l2 l3 elements

pub returns-clause-assoc_resp : goal.returns-clause-assoc_resp
returns-clause-assoc_resp c a1 a2 a3 elements status aid l1 l2 l3 hs ha = assoc_resp_sent a1 a2 a3 l1 l2 l3 status aid elements hs ha

pub returns-clause-re_req : goal.returns-clause-re_req
returns-clause-re_req c a1 a2 a3 current_ap elements l1 l2 l3 l = re_req_sent a1 a2 a3 l1 l2 l3 current_ap elements l

pub returns-clause-re_resp : goal.returns-clause-re_resp
returns-clause-re_resp c a1 a2 a3 elements status aid l1 l2 l3 hs ha = re_resp_sent a1 a2 a3 l1 l2 l3 status aid elements hs ha

pub returns-clause-ft_req : goal.returns-clause-ft_req
returns-clause-ft_req c a1 a2 a3 elements l1 l2 l3 = ft_req_sent a1 a2 a3 l1 l2 l3 elements

pub returns-clause-ft_resp : goal.returns-clause-ft_resp
returns-clause-ft_resp c a1 a2 a3 elements status l1 l2 l3 hs = ft_resp_sent a1 a2 a3 l1 l2 l3 status elements hs

pub returns-clause-action : goal.returns-clause-action
returns-clause-action c a1 a2 a3 body l1 l2 l3 odd enough mme = action_sent a1 a2 a3 l1 l2 l3 body odd enough mme
