-- Frames of an access point that a station refuses, and one row of acts for each.
use Rattle.std.proofs.Common.{◌≡◌, ◌∙◌, ◌+◌, ℕ, List, [], ◌∷◌, Option, Some, None, refl, sym, ap, subst, arith}
use Rattle.std.specs.Prelude.{is_some}
use Rattle.domain_base.specs.declared.names.Node.{Node}
use Rattle.domain_base.specs.declared.names.Node.TheVariants.{Ap, Sta}
use Rattle.rsn_elements.specs.Elements.{ElementFields}
use Rattle.run_journal.specs.declared.domain.Domain.{Domain}
use Rattle.run_journal.specs.declared.acts.Kind.{Kind}
use Rattle.run_journal.specs.declared.acts.Kind.TheVariants as kind
use Rattle.run_journal.specs.declared.acts.Reason.{Reason}
use Rattle.run_journal.specs.declared.acts.Outcome.{Outcome}
use Rattle.run_journal.specs.declared.acts.Outcome.TheVariants.{Refused}
use Rattle.run_journal.specs.declared.acts.Seal.{Seal}
use Rattle.run_journal.specs.declared.acts.Act.{Act}
use Rattle.run_journal.specs.declared.acts.Act.TheVariants.{Took}
use Rattle.run_journal.specs.declared.reply.Reply.{Reply}
use Rattle.run_journal.specs.Replies.{IsWhole}
use Rattle.run_journal.specs.Questions.{draws, add}
use Rattle.domain_rules.specs.Asking.{is_roam}
use Rattle.domain_rules.specs.Network.{Root, root_at}
use Rattle.domain_rules.specs.Reading.{Management, Managed}
use Rattle.domain_rules.specs.Facts.{Facts}
use Rattle.domain_rules.specs.Associating.{management_verdict}
use Rattle.domain_rules.specs.Closing.{sender}
use Rattle.domain_rules.specs.Verdict.{first_verdict, further, further_from, management_further, and_then, verdict}
use Rattle.domain_rules.specs.Rows.{TakeRow, By_refusal}
use Rattle.domain_rules.specs.Here.{here}
use Rattle.domain_rules.specs.TransitionKeys.{ft_resp_verdict}
use Rattle.domain_rules.proofs.Refused.{IsRefused, refused_first}
use Rattle.domain_rules.proofs.Parts.{apart-refused, IsCarried, goes_on}
use Rattle.domain_rules.proofs.Unprotected.{reads_so}
use Rattle.ft_exchange.specs.Comes.{IsManagementFrom}
use Rattle.ft_exchange.specs.State.{OriginatorState}
use Rattle.ft_exchange.specs.Stands.{IsKeyed, IsUnderWay, HasStage, OriginatorStands}
use Rattle.ft_exchange.specs.Exchange.{IsQuiet}
use Rattle.ft_exchange.specs.OriginatorSteps.{IsAuthTaken}
use Rattle.ft_exchange.specs.Told.{came, auth_response_acts}
use Rattle.ft_exchange.specs.declared.originator.Stage.{Stage}
use Rattle.ft_exchange.specs.declared.originator.Stage.TheVariants as stage
use Rattle.ft_exchange.specs.declared.originator.Transit.{Transit}
use Rattle.ft_exchange.proofs.FramesSent.{nothing_sent}

-- ---- what a frame of that kind is judged as

pub first_kind : (d : Domain) (first : ℕ) (n p : Node) (octets : List ℕ) (b : Management) (e : ElementFields) (h : List Act) (k : Kind) → IsManagementFrom d n p octets b e → b.kind ≡ k
    → first_verdict d first n h (Managed b e) ≡ management_verdict d (first + draws h) n h p k b e
first_kind d first n p octets b e h k from is = from.verdict_is first h ∙ ap (λ (m : Kind). management_verdict d (first + draws h) n h p m b e) is

-- and by what stands behind
pub verdict_kind : (d : Domain) (first : ℕ) (n p : Node) (octets : List ℕ) (b : Management) (e : ElementFields) (h : List Act) (k : Kind) (facts : Facts) (o w : Outcome) → IsManagementFrom d n p octets b e → b.kind ≡ k
    → first_verdict d first n h (Managed b e) ≡ o → management_further d (first + draws h) n h p b e facts k ≡ w
    → verdict d first n h (Managed b e) facts ≡ and_then o w
verdict_kind d first n p octets b e h k facts o w from is judged behind =
    let far : further d first n h (Managed b e) facts ≡ w =
    ap (λ (q : Option Node). further_from q (λ p. management_further d (first + draws h) n h p b e facts b.kind)) from.sender_is
    ∙ ap (λ (m : Kind). management_further d (first + draws h) n h p b e facts m) is ∙ behind
    in
    ap (λ (x : Outcome). and_then x (further d first n h (Managed b e) facts)) judged ∙ ap (λ (x : Outcome). and_then o x) far

-- ---- a refusal

pub adds_refusal : (d : Domain) (first sta : ℕ) (p : Node) (octets : List ℕ) (b : Management) (e : ElementFields) (h : List Act) (k : Kind) (why : Reason) (s : Option Seal) → IsManagementFrom d (Sta sta) p octets b e → b.kind ≡ k
    → IsRefused d first (Sta sta) h (Managed b e) why s → TakeRow (here d first (Sta sta)) h octets (Took (Some p) octets k (Refused why) s ∷ [])
adds_refusal d first sta p octets b e h k why s from is f = record {
  r = Managed b e;
  reads = reads_so d octets (Managed b e) refl from.reads;
  facts = f.facts;
  knows = f.knows;
  row = By_refusal (record {
    why = why;
    refused = f.refused;
    says = ap (λ (q : Option Node). Took q octets k (Refused why) s ∷ []) (sym from.from)
        ∙ ap (λ (m : Kind). Took (sender d (Sta sta) (Managed b e)) octets m (Refused why) s ∷ []) (sym is)
        ∙ ap (λ (x : Option Seal). Took (sender d (Sta sta) (Managed b e)) octets b.kind (Refused why) x ∷ []) f.seal_is;
  });
}

-- ---- the originator still stands for the history

keyed_more : (d : Domain) (n p : Node) (id : List ℕ) (t : Option Transit) (part : List Act) (h : List Act) (c : IsCarried p part h) → IsKeyed d n p id t part → IsKeyed d n p id t c.more
keyed_more d n p id None part h c k = tt
keyed_more d n p id (Some t) part h c k = (c.derives ∙ k.0, k.1)

under_way_refused : (d : Domain) (n p : Node) (s : OriginatorState) (t : Option Transit) (octets : List ℕ) (k : Kind) (why : Reason) (seal : Option Seal) (h : List Act) → IsUnderWay d n p s t h
    → IsUnderWay d n p s t (Took (Some p) octets k (Refused why) seal ∷ h)
under_way_refused d n p s t octets k why seal h u =
    let c : IsCarried p u.part (Took (Some p) octets k (Refused why) seal ∷ h) = (goes_on p (Took (Some p) octets k (Refused why) seal ∷ []) h (apart-refused p (Some p) octets k why seal, tt)).carries u.part u.is in
    record {
      q = u.q;
      from = u.from;
      current = u.current;
      part = c.more;
      is = c.is;
      begun = ap is_roam c.begun ∙ u.begun;
      nonce = c.nonce s.snonce u.nonce;
      hears = ap (λ (o : Option (List ℕ)). is_some o) (c.hears kind.FtResp) ∙ u.hears;
      keyed = keyed_more d n p s.r0kh_id t u.part (Took (Some p) octets k (Refused why) seal ∷ h) c u.keyed;
    }

stage_refused : (d : Domain) (n p : Node) (s : OriginatorState) (x : Stage) (octets : List ℕ) (k : Kind) (why : Reason) (seal : Option Seal) (h : List Act) → HasStage d n p s x h
    → HasStage d n p s x (Took (Some p) octets k (Refused why) seal ∷ h)
stage_refused d n p s stage.Asked octets k why seal h u = under_way_refused d n p s None octets k why seal h u
stage_refused d n p s (stage.Keyed t) octets k why seal h u = under_way_refused d n p s (Some t) octets k why seal h u
stage_refused d n p s stage.Done octets k why seal h none = (goes_on p (Took (Some p) octets k (Refused why) seal ∷ []) h (apart-refused p (Some p) octets k why seal, tt)).none none

pub stands_refused : (d : Domain) (n p : Node) (s : OriginatorState) (octets : List ℕ) (k : Kind) (why : Reason) (seal : Option Seal) (h : List Act) → OriginatorStands d n p s h
    → OriginatorStands d n p s (Took (Some p) octets k (Refused why) seal ∷ h)
stands_refused d n p s octets k why seal h st = record {
  suite = st.suite;
  mfp_is = st.mfp_is;
  own = st.own;
  peer = st.peer;
  ssid = st.ssid;
  mdid = st.mdid;
  r0kh_id = st.r0kh_id;
  r0 = st.r0;
  stage_is = stage_refused d n p s s.stage octets k why seal h st.stage_is;
}

-- ---- nothing is told

pub whole_quiet : (v : Option (List ℕ)) (r : Reply) → IsQuiet v r → IsWhole r
whole_quiet v r q = record {
  few = omega (arith, q.len);
  sealed = λ kck some. (let none : None ≡ Some kck = sym q.sealed ∙ some in cc);
}

auth_quiet : (d : Domain) (root : Root) (n p : Node) (octets : List ℕ) (e : ElementFields) (why : Reason) (r : Reply) → IsQuiet None r
    → auth_response_acts d root n p (came octets e (Refused why)) r ≡ Took (Some p) octets kind.FtResp (Refused why) None ∷ []
auth_quiet d root n p octets e why r q = rw (q.derived, nothing_sent d n p r q.len) refl

-- ---- an authentication response is refused

abbrev pub RefusesAuth : ℕ → ElementFields → OriginatorState → Reason → Type 0
RefusesAuth status e s why =
    (d : Domain) (sta a : ℕ) (h : List Act) (b : Management) → OriginatorStands d (Sta sta) (Ap a) s h → b.status ≡ status → ft_resp_verdict d (Sta sta) h (Ap a) b e ≡ Refused why

pub auth_refused : (status : ℕ) (e : ElementFields) (s : OriginatorState) (why : Reason) (r : Reply) → IsQuiet None r → RefusesAuth status e s why → IsAuthTaken status e s s (Refused why) r
auth_refused status e s why r q refuses = record {
  steps = λ d first sta a octets b h st from is has.
      (let acts = sym (auth_quiet d (root_at d (Sta sta) s.r0kh_id) (Sta sta) (Ap a) octets e why r q) in
      let first_is = first_kind d first (Sta sta) (Ap a) octets b e h kind.FtResp from is ∙ refuses d sta a h b st has in
      record {
        adds = subst (λ (l : List Act). TakeRow (here d first (Sta sta)) h octets l) acts (adds_refusal d first sta (Ap a) octets b e h kind.FtResp why None from is (refused_first d first (Sta sta) h (Managed b e) why first_is));
        stands = subst (λ (l : List Act). OriginatorStands d (Sta sta) (Ap a) s (add l h)) acts (stands_refused d (Sta sta) (Ap a) s octets kind.FtResp why None h st);
      });
  refused = λ w is. (refl, q);
  tells = record { frame = q.len; sealed = q.sealed; verified = q.verified; derived = q.derived; installed = q.installed; gtk = q.gtk; igtk = q.igtk; looked = q.looked };
  whole = whole_quiet None r q;
}
