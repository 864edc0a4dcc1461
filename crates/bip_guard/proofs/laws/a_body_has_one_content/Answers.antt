use Rattle.std.proofs.Common.{◌∙◌, sym}
use Rattle.bip_guard.proofs.Bodies.{content-of, key_id-of, ipn-of}
use Rattle.bip_guard.proofs.laws.a_body_has_one_content.Goals as goal

pub returns-clause-content : goal.returns-clause-content
returns-clause-content c igtk header key other_header id ipn other_id other_ipn content other body h k = sym (content-of h) ∙ content-of k

pub returns-clause-key_id : goal.returns-clause-key_id
returns-clause-key_id c igtk header key other_header id ipn other_id other_ipn content other body h k = sym (key_id-of h) ∙ key_id-of k

pub returns-clause-number : goal.returns-clause-number
returns-clause-number c igtk header key other_header id ipn other_id other_ipn content other body h k = sym (ipn-of h) ∙ ipn-of k
