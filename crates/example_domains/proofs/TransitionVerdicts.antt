-- What comes of the frames of a fast transition as they are sent, by the answers to what is asked of the history.
use Rattle.std.proofs.Common.{◌≡◌, ℕ, ◌%◌, Bool, true, false, List, length, Option, Some, None, refl, sym, ap, subst, ◌∙◌}
use Rattle.std.proofs.lemmas.Slice.Eq.{bytes_eq-Decides}
use Rattle.std.specs.Prelude.{bytes_eq, nat_lt, ◌==◌, ◌++◌, ◌∷◌}
use Rattle.domain_base.specs.Octets.{AreOctets}
use Rattle.domain_base.specs.declared.names.Akm.TheVariants.{FtPsk}
use Rattle.domain_base.specs.declared.names.Node.{Node}
use Rattle.domain_rules.proofs.CarriedKey.{IsGroupKey}
use Rattle.domain_rules.specs.Asking.{is_by_roam, has_heard}
use Rattle.domain_rules.specs.FastTransition.{r1_name, root_name, no_nonce, plain_fte, request_number, response_number, fte_seal, to_unwrap}
use Rattle.mac_prf.specs.FteMic.{fte_mic_input}
use Rattle.domain_rules.specs.Frames.{wrapped}
use Rattle.domain_rules.specs.Network.{address, root_at, holder_of, draw_end}
use Rattle.domain_rules.specs.Reading.{Management}
use Rattle.domain_rules.specs.TransitionFrames.{re_req_input, sent_gtk, re_resp_fte, re_resp_input}
use Rattle.domain_rules.specs.TransitionKeys.{Transition, transition, session_transition, ft_req_verdict, ft_req_further, ft_resp_verdict, Judged, judged, re_req_covered, re_req_mic, re_req_verdict, re_req_names, re_req_further, re_req_sealed, re_req_seal, re_resp_keying, re_resp_covered, re_resp_verdict, re_resp_verdict_by, re_resp_names, re_resp_further, re_resp_sealed, re_resp_seal, KnowsGtk}
use Rattle.domain_rules.specs.StationKeys.{taken_in}
use Rattle.domain_rules.specs.GroupKeys.{gtk_news}
use Rattle.key_hierarchy.specs.declared.fast_transition.PmkR1.{PmkR1}
use Rattle.mac_prf.specs.Cmac.{cmac}
use Rattle.rsn_elements.specs.Elements.{ElementFields}
use Rattle.rsn_elements.specs.Sent.{rsne_octets, mde_octets, fte_octets}
use Rattle.run_journal.specs.Acts.{GroupKey, Derivation}
use Rattle.run_journal.specs.Holders.{last_r0kh_id}
use Rattle.run_journal.specs.Questions.{attempt, own_nonce}
use Rattle.run_journal.specs.declared.acts.Act.{Act}
use Rattle.run_journal.specs.declared.acts.Kind.TheVariants as kind
use Rattle.run_journal.specs.declared.acts.Outcome.TheVariants.{Accepted, Answered, Refused}
use Rattle.run_journal.specs.declared.acts.Reason.TheVariants as reason
use Rattle.run_journal.specs.declared.domain.Domain.{Domain}
use Rattle.example_domains.proofs.Elements.{told, same_bytes, mic_free, length-cmac}
use Rattle.example_domains.proofs.RoamingActs.{mobile}
use Rattle.example_domains.proofs.TransitionReads as sent
use Rattle.example_domains.proofs.TransitionReads.{wraps_gtk, length-wrapped_gtk}

module _ (c : Domain) where
  abbrev d : Domain
  d = mobile c

  -- ---- authentication request, at an access point without an attempt by fast transition

  module _ (h : List Act) (p : Node) (name snonce id : List ℕ) (none : transition p h ≡ None) where
    abbrev asks : ElementFields
    asks = told name c.mdid (plain_fte no_nonce snonce None id)

    pub ft_req-first : (r : Node) → length name ≡ 16 → holder_of d id ≡ Some r → ft_req_verdict d h p asks ≡ Accepted
    ft_req-first r size holds = rw (same_bytes c.mdid, none, holds, size) refl

    pub ft_req-found : (drawn : ℕ) (k : PmkR1) → nat_lt drawn draw_end ≡ true → ft_req_further drawn h p asks (Some k) ≡ Accepted
    ft_req-found drawn k low = rw (none, low) refl

    pub ft_req-absent : (drawn : ℕ) → ft_req_further drawn h p asks None ≡ Refused reason.Name
    ft_req-absent drawn = rw none refl

  -- ---- authentication response, at a station in an attempt by fast transition

  pub ft_resp-first : (n p : Node) (h part : List Act) (b : Management) (anonce snonce id : List ℕ) → attempt p h ≡ Some part → is_by_roam part ≡ true → has_heard p kind.FtResp part ≡ false → b.status ≡ 0 → own_nonce part ≡ Some snonce → last_r0kh_id h ≡ id
      → ft_resp_verdict d n h p b (told (root_name d (root_at d n id) n) c.mdid (plain_fte anonce snonce (Some (address d p)) id)) ≡ Accepted
  ft_resp-first n p h part b anonce snonce id s begun heard status drawn last =
      rw (s, begun, heard, status, drawn, last, same_bytes snonce, same_bytes c.mdid, same_bytes (address d p), same_bytes id, same_bytes (root_name d (root_at d n id) n)) refl

  -- ---- reassociation request, at access point n from station p

  module _ (n p : Node) (h : List Act) (x : Derivation) (name : List ℕ) where
    abbrev requests : ElementFields
    requests = told (r1_name x.inputs) c.mdid (sent.re_req_sealed c p n x)

    abbrev by : Transition
    by = record { key = x; asked = name; r1_name = r1_name x.inputs }

    abbrev as_ : Bool → Judged
    as_ is_session = record { by_ = by; is_session = is_session }

    abbrev covered : List ℕ
    covered = fte_mic_input (address d p) (address d n) request_number (rsne_octets FtPsk (Some (r1_name x.inputs))) (mde_octets c.mdid) (fte_octets (sent.re_req_sealed c p n x))

    covered_is : covered ≡ re_req_input d p n x
    covered_is = ap (λ (v : List ℕ). address d p ++ (address d n ++ (request_number ∷ (rsne_octets FtPsk (Some (r1_name x.inputs)) ++ (mde_octets c.mdid ++ v)))))
        (mic_free (address d n) x.inputs None None (cmac x.ptk.kck (re_req_input d p n x)) (length-cmac x.ptk.kck (re_req_input d p n x)))

    verifies : bytes_eq (cmac x.ptk.kck (re_req_input d p n x)) (cmac x.ptk.kck covered) ≡ true
    verifies = (bytes_eq-Decides (cmac x.ptk.kck (re_req_input d p n x)) (cmac x.ptk.kck covered)).1 (ap (cmac x.ptk.kck) (sym covered_is))

    mic_is : (is_session : Bool) → re_req_mic d n p requests (Some (as_ is_session)) ≡ taken_in is_session
    mic_is is_session = rw verifies refl

    sealed_is : (is_session : Bool) → re_req_sealed (Some (as_ is_session)) requests.fte (re_req_covered d n p requests) ≡ Some (fte_seal x.ptk.kck (re_req_input d p n x))
    sealed_is is_session = ap (λ (v : List ℕ). Some (fte_seal x.ptk.kck v)) covered_is

    names_is : (is_session : Bool) → re_req_names d n requests (Some (as_ is_session)) ≡ Accepted
    names_is is_session = rw (same_bytes (address d n), same_bytes x.inputs.r0kh_id, same_bytes (r1_name x.inputs)) refl

    further_by : (is_session : Bool) → judged p h requests ≡ Some (as_ is_session) → re_req_further d n h p requests ≡ Accepted
    further_by is_session is = rw (same_bytes c.mdid) (ap (re_req_names d n requests) is ∙ names_is is_session)

    -- of the attempt
    module _ (s : transition p h ≡ Some by) where
      pub judged-attempt : judged p h requests ≡ Some (as_ false)
      judged-attempt = rw (s, same_bytes x.inputs.anonce, same_bytes x.inputs.snonce) refl

      awaited : re_req_verdict d n h p requests ≡ re_req_mic d n p requests (judged p h requests)
      awaited = rw s refl

      pub re_req-first : re_req_verdict d n h p requests ≡ Accepted
      re_req-first = awaited ∙ ap (re_req_mic d n p requests) judged-attempt ∙ mic_is false

      pub re_req-further : re_req_further d n h p requests ≡ Accepted
      re_req-further = further_by false judged-attempt

      pub re_req-seal : re_req_seal d n h p requests ≡ Some (fte_seal x.ptk.kck (re_req_input d p n x))
      re_req-seal = ap (λ (o : Option Judged). re_req_sealed o requests.fte (re_req_covered d n p requests)) judged-attempt ∙ sealed_is false

    -- of the session
    module _ (s : transition p h ≡ None) (t : session_transition p h ≡ Some by) where
      pub judged-session : judged p h requests ≡ Some (as_ true)
      judged-session = rw (s, t, same_bytes x.inputs.anonce, same_bytes x.inputs.snonce) refl

      awaited_again : re_req_verdict d n h p requests ≡ re_req_mic d n p requests (judged p h requests)
      awaited_again = rw (s, t) refl

      pub re_req-again : re_req_verdict d n h p requests ≡ Answered
      re_req-again = awaited_again ∙ ap (re_req_mic d n p requests) judged-session ∙ mic_is true

      pub re_req-further_again : re_req_further d n h p requests ≡ Accepted
      re_req-further_again = further_by true judged-session

      pub re_req-seal_again : re_req_seal d n h p requests ≡ Some (fte_seal x.ptk.kck (re_req_input d p n x))
      re_req-seal_again = ap (λ (o : Option Judged). re_req_sealed o requests.fte (re_req_covered d n p requests)) judged-session ∙ sealed_is true

  -- ---- reassociation response, at station n from access point p

  -- nothing is known of an IGTK that is not looked at
  pub knows_none : (x : Option Derivation) → KnowsGtk x None None
  knows_none None = tt
  knows_none (Some x) = tt

  module _ (n p : Node) (h : List Act) (x : Derivation) (g : GroupKey) (keyed : re_resp_keying p h ≡ Some x) where
    abbrev responds : ElementFields
    responds = told (r1_name x.inputs) c.mdid (sent.re_resp_sealed c p n x g)

    abbrev body : Management
    body = sent.re_resp_body c p n x g

    abbrev input : List ℕ
    input = re_resp_input d p n (r1_name x.inputs) x (re_resp_fte d p x (gtk_news g 0))

    abbrev covers : List ℕ
    covers = fte_mic_input (address d n) (address d p) response_number (rsne_octets FtPsk (Some (r1_name x.inputs))) (mde_octets c.mdid) (fte_octets (sent.re_resp_sealed c p n x g))

    covers_is : covers ≡ input
    covers_is = ap (λ (v : List ℕ). address d n ++ (address d p ++ (response_number ∷ (rsne_octets FtPsk (Some (r1_name x.inputs)) ++ (mde_octets c.mdid ++ v)))))
        (mic_free (address d p) x.inputs (Some (sent_gtk x.ptk.kek g 0)) None (cmac x.ptk.kck input) (length-cmac x.ptk.kck input))

    verified : bytes_eq (cmac x.ptk.kck input) (cmac x.ptk.kck covers) ≡ true
    verified = (bytes_eq-Decides (cmac x.ptk.kck input) (cmac x.ptk.kck covers)).1 (ap (cmac x.ptk.kck) (sym covers_is))

    pub re_resp-first : re_resp_verdict d n h p body responds ≡ Accepted
    re_resp-first = ap (re_resp_verdict_by d n p body responds) keyed ∙ rw (same_bytes x.inputs.anonce, same_bytes x.inputs.snonce, verified) refl

    pub re_resp-seal : re_resp_seal d n h p body responds ≡ Some (fte_seal x.ptk.kck input)
    re_resp-seal = ap (λ (o : Option Derivation). re_resp_sealed o responds.fte (re_resp_covered d n p responds)) keyed ∙ ap (λ (v : List ℕ). Some (fte_seal x.ptk.kck v)) covers_is

    module _ (octets : AreOctets x.ptk.kek) (is : IsGroupKey g) (other : (g.id % 4 == 0) ≡ false) where
      unwrapped_is : to_unwrap responds.fte ≡ Some (wrapped x.ptk.kek g.key)
      unwrapped_is = rw (length-wrapped_gtk x.ptk.kek g octets is) refl

      names_are : re_resp_names d n p responds (Some x) ≡ Accepted
      names_are = rw (same_bytes c.mdid, same_bytes (address d p), same_bytes x.inputs.r0kh_id, length-wrapped_gtk x.ptk.kek g octets is, other, same_bytes (r1_name x.inputs)) refl

      pub re_resp-further : re_resp_further d n h p body responds (Some g.key) None ≡ Accepted
      re_resp-further = rw unwrapped_is (ap (re_resp_names d n p responds) keyed ∙ names_are)

      pub re_resp-knows : KnowsGtk (re_resp_keying p h) (to_unwrap responds.fte) (Some g.key)
      re_resp-knows =
          subst (λ (o : Option Derivation). KnowsGtk o (to_unwrap responds.fte) (Some g.key)) (sym keyed)
          (subst (λ (o : Option (List ℕ)). KnowsGtk (Some x) o (Some g.key)) (sym unwrapped_is) (octets, wraps_gtk x.ptk.kek g is))
