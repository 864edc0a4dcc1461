-- A station takes a frame: the acts of each row, and what it stands for behind them.
use Rattle.std.proofs.Common.{◌≡◌, ℕ, ◌+◌, List, [], ◌∷◌, ◌++◌, Option, Some, None, refl, sym, ap, subst, ◌∙◌}
use Rattle.domain_base.specs.declared.names.Node.{Node}
use Rattle.domain_base.specs.declared.names.Node.TheVariants.{Ap, Sta}
use Rattle.rsn_elements.specs.Elements.{ElementFields}
use Rattle.run_journal.specs.declared.domain.Domain.{Domain}
use Rattle.run_journal.specs.declared.acts.Kind.{Kind}
use Rattle.run_journal.specs.declared.acts.Kind.TheVariants as kind
use Rattle.run_journal.specs.declared.acts.Reason.{Reason}
use Rattle.run_journal.specs.declared.acts.Outcome.{Outcome}
use Rattle.run_journal.specs.declared.acts.Outcome.TheVariants.{Accepted, Ignored, Refused}
use Rattle.run_journal.specs.declared.acts.Act.{Act}
use Rattle.run_journal.specs.declared.acts.Act.TheVariants.{Took}
use Rattle.run_journal.specs.Questions.{draws}
use Rattle.domain_rules.specs.Here.{here}
use Rattle.domain_rules.specs.Reading.{Management, Reading, PassedOver, Managed, Reads, ReadsAt, kind_of}
use Rattle.domain_rules.specs.Verdict.{ComesSoFar, KnowsManaged, management_sender, management_further, further_from, further, and_then, first_verdict, verdict}
use Rattle.domain_rules.specs.Associating.{assoc_resp_verdict}
use Rattle.domain_rules.specs.Rows.{Take, refused_seal, By_assoc_resp, By_ignored, By_refusal}
use Rattle.domain_rules.specs.Closing.{sender}
use Rattle.domain_rules.proofs.Effects.{associated_acts}
use Rattle.domain_rules.proofs.Refused.{no_facts}
use Rattle.domain_rules.proofs.Switching.{station_adds}
use Rattle.domain_rules.proofs.Unprotected.{reads_so}
use Rattle.group_key.specs.Keys.{Memories}
use Rattle.node_base.specs.Events.{Steps, seen}
use Rattle.supplicant.specs.State.{State as Supplicant}
use Rattle.station_node.specs.declared.attempt.Association.TheVariants.{Requested}
use Rattle.station_node.specs.State.{State, memory_at}
use Rattle.station_node.specs.Responses.{response_outcome}
use Rattle.station_node.specs.Stands.{Stands}
use Rattle.station_node.proofs.Acts.{plain-refused, plain-ignored}
use Rattle.station_node.proofs.Standing.{stands-plain}
use Rattle.station_node.proofs.Beginning.{HasBegun, associated_state, stands-associated}
use Rattle.station_node.proofs.Verdicts.{response-awaited}

-- nothing was sealed in a frame that the history refuses
unsealed : (d : Domain) (first sta : ℕ) (h : List Act) (r : Reading) (why : Reason) → first_verdict d first (Sta sta) h r ≡ Refused why → refused_seal d first (Sta sta) h r ≡ None
unsealed d first sta h r why is = rw is refl

pub steps-refused : (d : Domain) (first sta : ℕ) (s : State) (h : List Act) (octets : List ℕ) (r : Reading) (why : Reason) (waited : List Act)
    → Stands d first s h → ReadsAt d octets r → first_verdict d first (Sta sta) h r ≡ Refused why
    → Steps (here d first (Sta sta)) (Take octets) (Stands d first s) h (seen waited (waited ++ Took (sender d (Sta sta) r) octets (kind_of r) (Refused why) None ∷ []) (Refused why))
steps-refused d first sta s h octets r why waited st reads is = record {
  acts = Took (sender d (Sta sta) r) octets (kind_of r) (Refused why) None ∷ [];
  adds = station_adds d first sta h (Take octets) (Took (sender d (Sta sta) r) octets (kind_of r) (Refused why) None ∷ []) (record {
    r = r;
    reads = reads;
    facts = no_facts;
    knows = λ so. absurd (subst ComesSoFar is so);
    row = By_refusal (record { why = why; refused = rw is refl; says = rw (unsealed d first sta h r why is) refl });
  });
  waiting = refl;
  came = refl;
  stands = stands-plain d first s h (Took (sender d (Sta sta) r) octets (kind_of r) (Refused why) None) (plain-refused (sender d (Sta sta) r) octets (kind_of r) why None) st;
}

pub steps-ignored : (d : Domain) (first sta : ℕ) (s : State) (h : List Act) (octets : List ℕ) (waited : List Act) → Stands d first s h → ReadsAt d octets PassedOver
    → Steps (here d first (Sta sta)) (Take octets) (Stands d first s) h (seen waited (waited ++ Took None octets kind.Ignored Ignored None ∷ []) Ignored)
steps-ignored d first sta s h octets waited st reads = record {
  acts = Took None octets kind.Ignored Ignored None ∷ [];
  adds = station_adds d first sta h (Take octets) (Took None octets kind.Ignored Ignored None ∷ []) (record { r = PassedOver; reads = reads; facts = no_facts; knows = λ so. absurd so; row = By_ignored (record { ignored = refl; says = refl }) });
  waiting = refl;
  came = refl;
  stands = stands-plain d first s h (Took None octets kind.Ignored Ignored None) (plain-ignored None octets kind.Ignored None) st;
}

-- reading further refuses nothing of an association response
further_response : (d : Domain) (drawn sta : ℕ) (h : List Act) (b : Management) (e : ElementFields) (o : Option Node) → b.kind ≡ kind.AssocResp → further_from o (λ p. management_further d drawn (Sta sta) h p b e no_facts b.kind) ≡ Accepted
further_response d drawn sta h b e None is = refl
further_response d drawn sta h b e (Some p) is = ap (λ (k : Kind). management_further d drawn (Sta sta) h p b e no_facts k) is

response_accepted : (d : Domain) (first sta : ℕ) (h : List Act) (b : Management) (e : ElementFields) → b.kind ≡ kind.AssocResp → first_verdict d first (Sta sta) h (Managed b e) ≡ Accepted → verdict d first (Sta sta) h (Managed b e) no_facts ≡ Accepted
response_accepted d first sta h b e kind_is is =
    ap (λ (o : Outcome). and_then o (further d first (Sta sta) h (Managed b e) no_facts)) is
    ∙ ap (λ (o : Outcome). and_then Accepted o) (further_response d (first + draws h) sta h b e (management_sender d (Sta sta) b.header) kind_is)

pub steps-associated : (d : Domain) (first : ℕ) (s : State) (h : List Act) (octets : List ℕ) (b : Management) (e : ElementFields) (p : ℕ) (v : List ℕ) (x : Supplicant) (memories : List (ℕ × Memories)) (waited : List Act)
    → Stands d first s h → s.attempt ≡ Some (record { ap = p; association = Requested v })
    → HasBegun d (Sta s.number) (Ap p) v octets x → ((k : ℕ) → memory_at memories k ≡ memory_at s.memories k)
    → Reads d.akm octets (Managed b e) → sender d (Sta s.number) (Managed b e) ≡ Some (Ap p) → b.kind ≡ kind.AssocResp → response_outcome d p b.status e ≡ Accepted
    → first_verdict d first (Sta s.number) h (Managed b e) ≡ assoc_resp_verdict d h (Ap p) b e
    → Steps (here d first (Sta s.number)) (Take octets) (Stands d first (associated_state s p x memories)) h (seen waited (waited ++ associated_acts (Ap p) octets) Accepted)
steps-associated d first s h octets b e p v x memories waited st is begun same_memory reads from kind_is accepts verdict_is =
    let accepted : first_verdict d first (Sta s.number) h (Managed b e) ≡ Accepted = verdict_is ∙ response-awaited d first s h p v b e st is ∙ accepts in
    record {
      acts = associated_acts (Ap p) octets;
      adds = station_adds d first s.number h (Take octets) (associated_acts (Ap p) octets) (record {
        r = Managed b e;
        reads = reads_so d octets (Managed b e) refl reads;
        facts = no_facts;
        knows = λ so q sent. subst (λ (k : Kind). KnowsManaged d (Sta s.number) h q e no_facts k) (sym kind_is) tt;
        row = By_assoc_resp (record { b = b; e = e; is = refl; kind_is = kind_is; p = Ap p; from = from; accepted = response_accepted d first s.number h b e kind_is accepted; says = refl });
      });
      waiting = refl;
      came = refl;
      stands = stands-associated d first s h p v octets x memories st is begun same_memory;
    }
