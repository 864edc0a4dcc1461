-- Where the key data of a message with a group key was made that a station took, and where acts stand.
use Rattle.std.proofs.Common.{ℕ, ◌≡◌, inl, inr, Bool, true, false, not, cond, List, [], ◌∷◌, Some, refl, sym, ap, ◌∙◌, subst}
use Rattle.domain_base.specs.declared.names.Mac.{Mac}
use Rattle.domain_base.specs.declared.names.Node.{Node}
use Rattle.domain_base.specs.declared.names.Peer.TheVariants.{One}
use Rattle.eapol_key.specs.declared.messages.Message.TheVariants.{M3, G1}
use Rattle.key_hierarchy.specs.declared.inputs.Inputs.{Inputs}
use Rattle.run_journal.specs.declared.acts.GroupKind.{GroupKind}
use Rattle.run_journal.specs.declared.domain.Domain.{Domain}
use Rattle.run_journal.specs.declared.acts.Kind.{Kind}
use Rattle.run_journal.specs.declared.acts.Kind.TheVariants as kind
use Rattle.run_journal.specs.declared.acts.Outcome.TheVariants.{Accepted}
use Rattle.run_journal.specs.declared.acts.Key.TheVariants.{Group}
use Rattle.run_journal.specs.declared.acts.Act.{Act}
use Rattle.run_journal.specs.declared.acts.Act.TheVariants.{Took, Installed}
use Rattle.run_journal.specs.declared.acts.Entry.{Entry}
use Rattle.run_journal.specs.Acts.{opens}
use Rattle.run_journal.specs.Questions.{history, since}
use Rattle.run_journal.specs.Premises.{In, drawn, Fresh}
use Rattle.domain_rules.specs.Network.{is_ap}
use Rattle.domain_rules.specs.Frames.{keyed_by}
use Rattle.domain_rules.proofs.Parts.{same-refl}
use Rattle.journal_safety.proofs.Ends.{Tail, tail_refl, tail_trans, tail_in, tail_head, Order, Same, First, Second, order, history_tail, end_of}
use Rattle.journal_safety.proofs.Legal.{IsUsed, covered_kind, nonce_of, Alive, Verified, IsNewest, CarriesResponse, CarriesM3, CarriesG1, Carries, seal_under, GivesKey, In_m3, In_g1, In_response, Given, By_m3, By_g1, By_renewal, LegalGroup, Legal, LegalHistory}
use Rattle.journal_safety.proofs.Sessions.{session_finished, finished_verified}
use Rattle.journal_safety.proofs.Runs.{legal_history}
use Rattle.journal_safety.proofs.Places.{Good, good_tail, fresh_tail, At, Draws, draws_wider}
use Rattle.journal_safety.proofs.Seals.{SealedBy, sealed_by, sealed_tail, verified_by}
use Rattle.journal_safety.proofs.Spans.{DrawnIn}

since_by : (p : Node) (x e : Act) (h : List Act) → (In x (since p h) → In x h) → (b : Bool) → In x (cond b (e ∷ []) (e ∷ since p h)) → In x (e ∷ h)
since_by p x e h more true (inl here) = inl here
since_by p x e h more true (inr none) = absurd none
since_by p x e h more false (inl here) = inl here
since_by p x e h more false (inr later) = inr (more later)

since_in : (p : Node) (x : Act) (h : List Act) → In x (since p h) → In x h
since_in p x [] there = there
since_in p x (e ∷ h) there = since_by p x e h (since_in p x h) (opens p e) there

-- ---- where the key data of a message was made that a station took

-- in an attempt that went on, or it stands in a G1
pub data Origin (n s : Node) (i : Inputs) (covered : List ℕ) (lines : List Entry) : Type 0 where
  In_attempt : Alive n (history n lines) s i → Origin n s i covered lines
  In_session : covered_kind covered ≡ kind.Key G1 → Origin n s i covered lines

pub record BuiltAt (which : GroupKind) (d : Domain) (n s : Node) (i : Inputs) (covered g : List ℕ) (past : List Entry) : Type 0 where
  pub sealed : SealedBy d s n i covered past
  pub lines : List Entry
  pub tail : Tail lines sealed.earlier
  pub newest : IsNewest which g (history n lines)
  pub verified : Verified n (history n lines) s i
  pub origin : Origin n s i covered lines

pub built_tail : (which : GroupKind) (d : Domain) (n s : Node) (i : Inputs) (covered g : List ℕ) (past : List Entry) → (b : BuiltAt which d n s i covered g past) → Tail b.lines past
built_tail which d n s i covered g past b = tail_trans b.lines b.sealed.earlier past b.tail (sealed_tail d s n i covered past b.sealed)

built_load : (which : GroupKind) (d : Domain) (n s : Node) (i : Inputs) (covered g : List ℕ) (past : List Entry) → (w : SealedBy d s n i covered past) → (c : CarriesResponse which n (history n w.earlier) s i covered) → c.key ≡ g → BuiltAt which d n s i covered g past
built_load which d n s i covered g past w c key =
    let b = c.built in
    let e = end_of n b.past w.earlier b.tail in
    record {
      sealed = w;
      lines = e.journal;
      tail = e.tail;
      newest = subst (λ (x : List Act). IsNewest which g x) (sym e.is) (subst (λ (x : List ℕ). IsNewest which x b.past) key b.newest);
      verified = subst (λ (x : List Act). Verified n x s i) (sym e.is) b.verified;
      origin = In_attempt (subst (λ (x : List Act). Alive n x s i) (sym e.is) b.alive);
    }

built_g1 : (which : GroupKind) (d : Domain) (n s : Node) (i : Inputs) (covered g : List ℕ) (past : List Entry) → Good d past → covered_kind covered ≡ kind.Key G1 → (w : SealedBy d s n i covered past) → (c : CarriesG1 which n (history n w.earlier) s i covered) → c.key ≡ g → BuiltAt which d n s i covered g past
built_g1 which d n s i covered g past good is w c key =
    let legal : LegalHistory d n (history n w.earlier) = legal_history d n w.earlier (good_tail d w.earlier past (sealed_tail d s n i covered past w) good).legal in
    record {
      sealed = w;
      lines = w.earlier;
      tail = tail_refl w.earlier;
      newest = subst (λ (x : List ℕ). IsNewest which x (history n w.earlier)) key c.newest;
      verified = finished_verified d n s i (history n w.earlier) legal (session_finished d n s (history n w.earlier) (keyed_by i) legal c.awaited);
      origin = In_session is;
    }

pub given_sealed : (which : GroupKind) (d : Domain) (n s : Node) (i : Inputs) (g : List ℕ) (past : List Entry) → Good d past → is_ap s ≡ false → (v : Given d which s (history s past) n i g) → SealedBy d s n i v.covered past
given_sealed which d n s i g past good station v =
    sealed_by d s n i (Some n) v.octets v.frame Accepted v.covered past good v.derived
    (since_in n (Took (Some n) v.octets v.frame Accepted (Some (seal_under i v.covered))) (history s past) v.took)
    v.form (v.down ∙ ap not (sym station))

-- what M3 and G1 carry, as they were sealed
pub carried_m3 : (which : GroupKind) (d : Domain) (n s : Node) (i : Inputs) (covered : List ℕ) (past : List Entry) → (w : SealedBy d s n i covered past) → IsUsed d which → covered_kind covered ≡ kind.Key M3 → CarriesM3 d which n (history n w.earlier) s i covered
carried_m3 which d n s i covered past w used is = subst (λ (x : Kind). Carries d which n (history n w.earlier) s i covered x) is (w.carries which used)

pub carried_g1 : (which : GroupKind) (d : Domain) (n s : Node) (i : Inputs) (covered : List ℕ) (past : List Entry) → (w : SealedBy d s n i covered past) → IsUsed d which → covered_kind covered ≡ kind.Key G1 → CarriesG1 which n (history n w.earlier) s i covered
carried_g1 which d n s i covered past w used is = subst (λ (x : Kind). Carries d which n (history n w.earlier) s i covered x) is (w.carries which used)

carried_response : (which : GroupKind) (d : Domain) (n s : Node) (i : Inputs) (covered : List ℕ) (past : List Entry) → (w : SealedBy d s n i covered past) → IsUsed d which → covered_kind covered ≡ kind.ReResp → CarriesResponse which n (history n w.earlier) s i covered
carried_response which d n s i covered past w used is = subst (λ (x : Kind). Carries d which n (history n w.earlier) s i covered x) is (w.carries which used)

built_by : (which : GroupKind) (d : Domain) (n s : Node) (i : Inputs) (g : List ℕ) (past : List Entry) → Good d past → (v : Given d which s (history s past) n i g) → (w : SealedBy d s n i v.covered past) → GivesKey v.frame → BuiltAt which d n s i v.covered g past
built_by which d n s i g past good v w (In_m3 is) = let c = (carried_m3 which d n s i v.covered past w v.used (v.frame_is ∙ is)).load in built_load which d n s i v.covered g past w c (c.gives g v.opens)
built_by which d n s i g past good v w (In_response is) = let c = carried_response which d n s i v.covered past w v.used (v.frame_is ∙ is) in built_load which d n s i v.covered g past w c (c.gives g v.opens)
built_by which d n s i g past good v w (In_g1 is) = let c = carried_g1 which d n s i v.covered past w v.used (v.frame_is ∙ is) in built_g1 which d n s i v.covered g past good (v.frame_is ∙ is) w c (c.gives g v.opens)

pub built_at : (which : GroupKind) (d : Domain) (n s : Node) (i : Inputs) (g : List ℕ) (past : List Entry) → Good d past → is_ap s ≡ false → (v : Given d which s (history s past) n i g) → BuiltAt which d n s i v.covered g past
built_at which d n s i g past good station v = built_by which d n s i g past good v (given_sealed which d n s i g past good station v) v.gives_key

-- what every installation of a group key at a station has
pub record Common (d : Domain) (which : GroupKind) (s : Node) (h : List Act) (n : Node) (g : List ℕ) : Type 0 where
  pub station : is_ap s ≡ false
  pub i : Inputs
  pub taken : Given d which s h n i g

pub common : (d : Domain) (which : GroupKind) (s : Node) (h : List Act) (n : Node) (g : List ℕ) → LegalGroup d which s h n g → Common d which s h n g
common d which s h n g (By_m3 v) = record { station = v.station; i = v.i; taken = v.given }
common d which s h n g (By_g1 v) = record { station = v.station; i = v.i; taken = v.given }
common d which s h n g (By_renewal v) = record { station = v.station; i = v.i; taken = v.given }

pub installed_group : (which : GroupKind) (d : Domain) (s p : Node) (g : List ℕ) (id : ℕ) (b : Mac) (h : List Act) → Legal d s h (Installed (One p) (Group which g id b)) → LegalGroup d which s h p g
installed_group which d s p g id b h legal = legal.group

pub group_station : (d : Domain) (which : GroupKind) (s : Node) (h : List Act) (n : Node) (g : List ℕ) → LegalGroup d which s h n g → is_ap s ≡ false
group_station d which s h n g l = (common d which s h n g l).station

-- ---- places

pub own_history : (n : Node) (l : Entry) (past : List Entry) → l.node ≡ n → history n (l ∷ past) ≡ l.act ∷ history n past
own_history n l past at = subst (λ (x : Node). history x (l ∷ past) ≡ l.act ∷ history x past) at (rw (same-refl l.node) refl)

pub at_history : (n : Node) (e : Act) (past : List Entry) → (w : At n e past) → history n (w.entry ∷ w.earlier) ≡ e ∷ history n w.earlier
at_history n e past w = subst (λ (y : Act). history n (w.entry ∷ w.earlier) ≡ y ∷ history n w.earlier) w.is (own_history n w.entry w.earlier w.at)

pub at_tail : (n : Node) (e : Act) (past : List Entry) → (w : At n e past) → (x : List Entry) → Tail (w.entry ∷ w.earlier) x → Tail (e ∷ history n w.earlier) (history n x)
at_tail n e past w x t = subst (λ (y : List Act). Tail y (history n x)) (at_history n e past w) (history_tail n (w.entry ∷ w.earlier) x t)

pub at_in : (n : Node) (e : Act) (past x : List Entry) → (w : At n e past) → Tail (w.entry ∷ w.earlier) x → In e (history n x)
at_in n e past x w t = tail_in (e ∷ history n w.earlier) (history n x) e (at_tail n e past w x t) (inl refl)

pub drawn_history : (n : Node) (v : List ℕ) (past : List Entry) → Draws n v past → DrawnIn v (history n past)
drawn_history n v past w = (w.x, (w.is, at_in n w.x past past w.at w.at.tail))

-- a value is drawn at one place
pub one_place : (n : Node) (v : List ℕ) (past : List Entry) → Fresh past → (a b : Draws n v past) → a.at.earlier ≡ b.at.earlier
one_place n v past f a b = go (order a.at.entry a.at.earlier b.at.entry b.at.earlier past a.at.tail b.at.tail)
  where
    go : Order a.at.entry a.at.earlier b.at.entry b.at.earlier → a.at.earlier ≡ b.at.earlier
    go (Same is are) = are
    go (First t) = absurd ((fresh_tail (b.at.entry ∷ b.at.earlier) past b.at.tail f).0 v a.at.entry (ap drawn b.at.is ∙ b.is) (tail_head a.at.entry a.at.earlier b.at.earlier t) (ap drawn a.at.is ∙ a.is))
    go (Second t) = absurd ((fresh_tail (a.at.entry ∷ a.at.earlier) past a.at.tail f).0 v b.at.entry (ap drawn a.at.is ∙ a.is) (tail_head b.at.entry b.at.earlier a.at.earlier t) (ap drawn b.at.is ∙ b.is))

-- the own nonce of the second inputs at the station was drawn after the access point drew its nonce of the first
abbrev pub Known : Node → Node → Inputs → Inputs → List Entry → Type 0
Known n s i j past = (x : List Entry) → Tail x past → Draws s (nonce_of s j) x → Draws n (nonce_of n i) x

pub verified_draws : (d : Domain) (n s : Node) (i : Inputs) (past : List Entry) → Good d past → Verified n (history n past) s i → Draws s (nonce_of s i) past
verified_draws d n s i past g v = let w = verified_by d n s i past g v in draws_wider s (nonce_of s i) w.earlier past (sealed_tail d n s i v.covered past w) w.facts.draw
