-- An authentication request of a fast transition that is refused, since the look finds no key of that name.
use Rattle.std.proofs.Common.{◌≡◌, ℕ, ◌+◌, List, [], ◌∷◌, length, Option, Some, None, refl, sym, ap, ◌∙◌}
use Rattle.std.specs.Prelude.{◌++◌}
use Rattle.air_frame.specs.Sent.{ft_req_octets}
use Rattle.domain_base.specs.declared.names.Akm.TheVariants.{FtPsk}
use Rattle.domain_base.specs.declared.names.Node.{Node}
use Rattle.domain_rules.proofs.Exchange.{same_octets}
use Rattle.domain_rules.proofs.Refused.{no_facts, far_seal}
use Rattle.domain_rules.specs.FastTransition.{root_name, no_nonce, plain_fte, single}
use Rattle.domain_rules.specs.Here.{here}
use Rattle.domain_rules.specs.Network.{Root, address, peer_of}
use Rattle.domain_rules.specs.Reading.{Management, Managed, Reads}
use Rattle.domain_rules.specs.Rows.{TakeRow, By_refusal, refused_seal, response}
use Rattle.domain_rules.specs.TransitionFrames.{ft_req_elements, sent_ft_refusal}
use Rattle.domain_rules.specs.TransitionKeys.{transition}
use Rattle.domain_rules.specs.TransitionRows.{looked_by, refused_look}
use Rattle.domain_rules.specs.Verdict.{first_verdict, verdict}
use Rattle.key_hierarchy.proofs.Lengths.{length-pmk_r0_name}
use Rattle.key_hierarchy.specs.declared.answers.PullAnswer.TheVariants.{Absent}
use Rattle.rsn_elements.specs.Elements.{ElementFields}
use Rattle.run_journal.specs.Questions.{attempt, draws}
use Rattle.run_journal.specs.declared.acts.Act.TheVariants.{Took, Looked}
use Rattle.run_journal.specs.declared.acts.Act.{Act}
use Rattle.run_journal.specs.declared.acts.Kind.TheVariants as kind
use Rattle.run_journal.specs.declared.acts.Outcome.TheVariants.{Accepted, Refused}
use Rattle.run_journal.specs.declared.acts.Reason.TheVariants as reason
use Rattle.run_journal.specs.declared.acts.Seal.{Seal}
use Rattle.run_journal.specs.declared.domain.Domain.{Domain}
use Rattle.example_domains.proofs.Elements.{told}
use Rattle.example_domains.proofs.Judging.{managed-first, managed-is}
use Rattle.example_domains.proofs.RoamingActs as w
use Rattle.example_domains.proofs.RoamingActs.{mobile}
use Rattle.example_domains.proofs.TransitionReads.{ft_req_body, reads-ft_req}
use Rattle.example_domains.proofs.TransitionVerdicts.{ft_req-first, ft_req-absent}
use Rattle.example_domains.proofs.Transitions.{no_transition}
use Rattle.example_domains.proofs.Trio.{IsTrio}

-- at access point l with that history, without an attempt of the station there. The station made the request by that pre-shared key
module _ (c : Domain) (k l m : ℕ) (t : IsTrio (mobile c) k l m) (psk : List ℕ) (h : List Act) (snonce : List ℕ) (size : length snonce ≡ 32) (over : attempt (w.s c k l m) h ≡ None) where
  abbrev d : Domain
  d = w.d c k l m

  abbrev a : Node
  a = w.a c k l m

  abbrev b : Node
  b = w.b c k l m

  abbrev s : Node
  s = w.s c k l m

  abbrev id : List ℕ
  id = w.id c k l m

  abbrev root : Root
  root = record { psk = psk; mdid = c.mdid; r0kh_id = id }

  abbrev name : List ℕ
  name = root_name d root s

  abbrev octets : List ℕ
  octets = ft_req_octets (address d b) (address d s) (address d b) (ft_req_elements d s root snonce)

  abbrev body : Management
  body = ft_req_body c s b root snonce

  abbrev said : ElementFields
  said = told name c.mdid (plain_fte no_nonce snonce None id)

  reads : Reads FtPsk octets (Managed body said)
  reads = reads-ft_req c s b root snonce t.sta_whole t.to_whole t.mdid size t.holder

  none : transition s h ≡ None
  none = no_transition s h over

  first : first_verdict d 0 b h (Managed body said) ≡ Accepted
  first = managed-first d b s h body said (same_octets d b) t.to_finds refl Accepted (ft_req-first c h s name snonce id none a (length-pmk_r0_name _) t.holds)

  refused : verdict d 0 b h (Managed body said) no_facts ≡ Refused reason.Name
  refused = managed-is d b s h body said (same_octets d b) t.to_finds refl no_facts Accepted (Refused reason.Name) (Refused reason.Name)
      (ft_req-first c h s name snonce id none a (length-pmk_r0_name _) t.holds) (ft_req-absent c h s name snonce id none (0 + draws h)) refl

  named : single (Some name) ≡ Some name
  named = rw (length-pmk_r0_name _) refl

  unsealed : None ≡ refused_seal d 0 b h (Managed body said)
  unsealed = far_seal d 0 b h (Managed body said) Accepted first refl

  -- the look and the answer, by the sender
  abbrev answers : Option Node → List Act
  answers o = refused_look b o (Managed body said) None reason.Name ++ response d b o kind.FtReq reason.Name

  pub refused_row : TakeRow (here d 0 b) h octets (Took (Some s) octets kind.FtReq (Refused reason.Name) None ∷ Looked id name s Absent ∷ sent_ft_refusal d b s 53 ∷ [])
  refused_row = record {
    r = Managed body said;
    reads = reads;
    facts = no_facts;
    knows = λ came p from. tt;
    row = By_refusal (record {
      why = reason.Name;
      refused = refused;
      says = ap (λ (o : Option (List ℕ)). Took (Some s) octets kind.FtReq (Refused reason.Name) None ∷ looked_by s (record { snonce = snonce; r0kh_id = id; names = Some name }) o (Some Absent) ++ sent_ft_refusal d b s 53 ∷ []) (sym named)
          ∙ ap (λ (o : Option Node). Took o octets kind.FtReq (Refused reason.Name) None ∷ answers o) (sym t.to_finds)
          ∙ ap (λ (o : Option Seal). Took (peer_of d b (address d s)) octets kind.FtReq (Refused reason.Name) o ∷ answers (peer_of d b (address d s))) unsealed;
    });
  }
