-- What a fast transition that is under way stands for behind acts beside it.
use Rattle.std.proofs.Common.{◌≡◌, ◌∙◌, ℕ, true, false, List, [], ◌∷◌, Option, Some, None, refl, ap}
use Rattle.std.specs.Prelude.{is_some}
use Rattle.std.specs.List.{AllByRecursion}
use Rattle.domain_base.specs.declared.names.Node.{Node}
use Rattle.domain_base.specs.declared.names.Node.TheVariants.{Ap}
use Rattle.eapol_key.specs.declared.messages.Message.TheVariants.{M3, G1}
use Rattle.run_journal.specs.declared.domain.Domain.{Domain}
use Rattle.run_journal.specs.declared.acts.Kind.TheVariants as kind
use Rattle.run_journal.specs.declared.acts.Act.{Act}
use Rattle.run_journal.specs.declared.acts.Act.TheVariants.{Finished}
use Rattle.run_journal.specs.Acts.{same, finishes}
use Rattle.run_journal.specs.Questions.{add}
use Rattle.run_journal.specs.Holders.{last_r0kh_id}
use Rattle.domain_rules.specs.Asking.{is_roam}
use Rattle.domain_rules.proofs.Parts.{IsApart, IsCarried, goes_on, leaves_associated, associated_more, same-refl}
use Rattle.act_memory.proofs.RepliedActs.{IsAbout, EndsNone}
use Rattle.ft_exchange.specs.State.{OriginatorState}
use Rattle.ft_exchange.specs.declared.originator.Stage.{Stage}
use Rattle.ft_exchange.specs.declared.originator.Stage.TheVariants as stage
use Rattle.ft_exchange.specs.declared.originator.Transit.{Transit}
use Rattle.ft_exchange.specs.Stands.{IsKeyed, IsUnderWay, HasStage, OriginatorStands}
use Rattle.station_node.specs.Stands.{IsMoving}

-- ---- acts

-- an act beside the attempt with p: it is not about p, ends no session, and accepts no final message
pub record IsBesideMove (p : Node) (e : Act) : Type 0 where
  pub apart : IsApart p e
  pub associated : leaves_associated e ≡ true
  pub holder : (h : List Act) → last_r0kh_id (e ∷ h) ≡ last_r0kh_id h

-- ---- the originator

keyed_on : (d : Domain) (n p : Node) (id : List ℕ) (t : Option Transit) (part l : List Act) (c : IsCarried p part l) → IsKeyed d n p id t part → IsKeyed d n p id t c.more
keyed_on d n p id None part l c k = tt
keyed_on d n p id (Some t) part l c k = (c.derives ∙ k.0, k.1)

under_way_on : (d : Domain) (n p : Node) (s : OriginatorState) (t : Option Transit) (e : Act) (h : List Act) → IsBesideMove p e → IsUnderWay d n p s t h → IsUnderWay d n p s t (e ∷ h)
under_way_on d n p s t e h beside u =
    let c : IsCarried p u.part (e ∷ h) = (goes_on p (e ∷ []) h (beside.apart, tt)).carries u.part u.is in
    record {
      q = u.q;
      from = associated_more e h beside.associated ∙ u.from;
      current = u.current;
      part = c.more;
      is = c.is;
      begun = ap is_roam c.begun ∙ u.begun;
      nonce = c.nonce s.snonce u.nonce;
      hears = ap (λ (o : Option (List ℕ)). is_some o) (c.hears kind.FtResp) ∙ u.hears;
      keyed = keyed_on d n p s.r0kh_id t u.part (e ∷ h) c u.keyed;
    }

stage_on : (d : Domain) (n p : Node) (s : OriginatorState) (x : Stage) (e : Act) (h : List Act) → IsBesideMove p e → HasStage d n p s x h → HasStage d n p s x (e ∷ h)
stage_on d n p s stage.Asked e h beside u = under_way_on d n p s None e h beside u
stage_on d n p s (stage.Keyed t) e h beside u = under_way_on d n p s (Some t) e h beside u
stage_on d n p s stage.Done e h beside none = (goes_on p (e ∷ []) h (beside.apart, tt)).none none

originator_more : (d : Domain) (n p : Node) (s : OriginatorState) (e : Act) (h : List Act) → IsBesideMove p e → OriginatorStands d n p s h → OriginatorStands d n p s (e ∷ h)
originator_more d n p s e h beside st = record {
  suite = st.suite;
  mfp_is = st.mfp_is;
  own = st.own;
  peer = st.peer;
  ssid = st.ssid;
  mdid = st.mdid;
  r0kh_id = beside.holder h ∙ st.r0kh_id;
  r0 = st.r0;
  stage_is = stage_on d n p s s.stage e h beside st.stage_is;
}

pub moving_more : (d : Domain) (n : Node) (a : ℕ) (s : OriginatorState) (e : Act) (h : List Act) → IsBesideMove (Ap a) e → IsMoving d n a s h → IsMoving d n a s (e ∷ h)
moving_more d n a s e h beside st = record {
  stands = originator_more d n (Ap a) s e h beside st.stands;
  keeps = rw (beside.apart.opens_none, beside.apart.replies_none (kind.Key M3), beside.apart.replies_none (kind.Key G1)) st.keeps;
}

pub moving_on : (d : Domain) (n : Node) (a : ℕ) (s : OriginatorState) (g h : List Act) → AllByRecursion (IsBesideMove (Ap a)) g → IsMoving d n a s h → IsMoving d n a s (add g h)
moving_on d n a s [] h all st = st
moving_on d n a s (e ∷ g) h all st = moving_on d n a s g (e ∷ h) all.1 (moving_more d n a s e h all.0 st)

-- ---- acts that are about another node, and end nothing

-- no final message was accepted
same_holder : (e : Act) (h : List Act) → ((q : Node) → finishes q e ≡ false) → last_r0kh_id (e ∷ h) ≡ last_r0kh_id h
same_holder (Finished q i) h none = absurd (not_both (same q q) (none q) (same-refl q))
  where
    not_both : (b : _) → b ≡ false → b ≡ true → ⊥
    not_both b f t = cc (f, t)
same_holder _ h none = refl

pub ends_holder : (g h : List Act) → AllByRecursion EndsNone g → last_r0kh_id (add g h) ≡ last_r0kh_id h
ends_holder [] h all = refl
ends_holder (e ∷ g) h all = ends_holder g (e ∷ h) all.1 ∙ same_holder e h (λ q. all.0.finishes_none q)

beside_one : (p a : Node) (e : Act) → same p a ≡ false → IsAbout a e → EndsNone e → IsBesideMove p e
beside_one p a e other about ends =
    let silent = about.others p other in
    record {
      apart = record {
        opens_none = about.opens_none p;
        ends_none = ends.ends_none p;
        accepts_none = λ k. silent.accepts_none k;
        replies_none = λ k. silent.replies_none k;
        sends_none = λ m. silent.sends_none m;
        derives_none = silent.derives_none;
        finishes_none = ends.finishes_none p;
        closes_none = ends.closes_none p;
      };
      associated = ends.leaves_session;
      holder = λ h. same_holder e h (λ q. ends.finishes_none q);
    }

pub beside_all : (p a : Node) (g : List Act) → same p a ≡ false → AllByRecursion (IsAbout a) g → AllByRecursion EndsNone g → AllByRecursion (IsBesideMove p) g
beside_all p a [] other about ends = tt
beside_all p a (e ∷ g) other about ends = (beside_one p a e other about.0 ends.0, beside_all p a g other about.1 ends.1)
