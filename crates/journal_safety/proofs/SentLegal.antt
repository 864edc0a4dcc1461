-- The frames that nodes send may be sent.
use Rattle.std.proofs.Common.{ℕ, ◌≡◌, ◌<◌, ◌≤◌, ◌%◌, Bool, true, false, cond, List, [], ◌∷◌, ◌++◌, length, replicate, Option, Some, None, refl, sym, ap, ◌∙◌, subst, arith}
use Rattle.std.specs.Prelude.{◌==◌, option_map, IfSome, if◌then◌else◌}
use Rattle.std.proofs.lemmas.List.{length-append}
use Rattle.domain_base.specs.Octets.{AreOctets}
use Rattle.domain_base.specs.declared.names.Akm.{Akm}
use Rattle.domain_base.specs.declared.names.Akm.TheVariants.{Psk, PskSha256, FtPsk}
use Rattle.domain_base.specs.declared.names.Node.{Node}
use Rattle.domain_base.specs.declared.names.Node.TheVariants.{Ap, Sta}
use Rattle.domain_base.specs.declared.names.Peer.TheVariants.{One}
use Rattle.mac_prf.specs.Mic.{without_mic}
use Rattle.eapol_key.specs.declared.messages.Message.{Message}
use Rattle.eapol_key.specs.declared.messages.Message.TheVariants.{M1, M2, M3, M4, G1, G2}
use Rattle.key_hierarchy.specs.Keys.{ptk}
use Rattle.key_hierarchy.specs.declared.inputs.Inputs.{Inputs}
use Rattle.run_journal.specs.declared.domain.Domain.{Domain}
use Rattle.run_journal.specs.declared.acts.Act.{Act}
use Rattle.run_journal.specs.Acts.{Derivation}
use Rattle.run_journal.specs.declared.acts.Kind.TheVariants as kind
use Rattle.run_journal.specs.declared.acts.Act.TheVariants.{Finished}
use Rattle.run_journal.specs.Questions.{attempt, since, session, handshake}
use Rattle.domain_rules.specs.Counters.{sent_count, next_in_session}
use Rattle.domain_rules.specs.AccessPointRows.{most_sends}
use Rattle.run_journal.specs.Premises.{In}
use Rattle.key_wrap.specs.KeyWrap.{Wraps}
use Rattle.key_wrap.proofs.UniqueLemmas.{Wraps-unique}
use Rattle.air_frame.specs.Sent.{IsAddress}
use Rattle.eapol_key.specs.KeyData.{padded}
use Rattle.rsn_elements.specs.declared.framing.Within.TheVariants.{KeyData}
use Rattle.rsn_elements.specs.Transition.{WrappedGtkFields, WrappedIgtkFields, FteFields}
use Rattle.rsn_elements.specs.Elements.{ElementFields, SpellsElements}
use Rattle.rsn_elements.specs.Sent.{rsne_octets, rsne_mfp_octets, mde_octets, fte_octets}
use Rattle.rsn_elements.specs.Pieces.{Piece, AreApart, said, FitsWrappedIgtk, FitsFte}
use Rattle.run_journal.specs.declared.acts.Kind.{Kind}
use Rattle.domain_rules.specs.Network.{address, is_ap}
use Rattle.run_journal.specs.Events.{IsListed, protects}
use Rattle.domain_rules.specs.FastTransition.{r1_name, assoc_fte, fte_seal}
use Rattle.domain_rules.specs.TransitionFrames.{counted_fte, re_req_input, sent_re_req, sent_igtk, re_resp_fte, re_resp_input, sent_re_resp}
use Rattle.domain_rules.specs.Asking.{in_renewal}
use Rattle.domain_rules.specs.Frames.{frame_seal, m2_frame, renewal_m2_frame, m3_frame, m4_frame, g1_frame, g2_frame, sent_m1, sent_m2_by, sent_m3, sent_m4, sent_g1, sent_g2, wrapped, sent_m2_key_data, group_kdes, timeouts, m3_key_data_by, m3_key_data, g1_key_data, keyed_by}
use Rattle.domain_rules.specs.Suites.{network_rsne_by, network_rsne}
use Rattle.domain_rules.proofs.KeyOctets.{octets-kek}
use Rattle.domain_rules.specs.GroupKeys.{newest, IgtkNews, News, igtk_news, news}
use Rattle.run_journal.specs.declared.acts.GroupKind.{GroupKind}
use Rattle.run_journal.specs.declared.acts.GroupKind.TheVariants as groups
use Rattle.journal_safety.proofs.Covers.{covered_message, covered_key_data, sealed_covers, m2_covers, secured_covers, sent_counter, sent_counter_low}
use Rattle.journal_safety.proofs.CoversData.{covered_form}
use Rattle.journal_safety.proofs.CoversFte.{fte_number, CoversFte, form_fte, number_fte, one_gtk, one_igtk, sent_fte}
use Rattle.journal_safety.proofs.Histories.{is_gtk, Newest, Newests}
use Rattle.journal_safety.proofs.GroupKeyData.{IsIgtk, AreKeys, igtk_key, key_of, IsText, few_text, one_text, igtk_low, kde_pieces, g1_text, g1_apart, g1_says, m3_pieces, m3_text, m3_apart, m3_says}
use Rattle.journal_safety.proofs.MobileKeyData.{length-r1_name, sized, mobile_pieces, mobile_text, text_mobile, mobile_apart, mobile_says}
use Rattle.journal_safety.proofs.Settled.{Ground}
use Rattle.journal_safety.proofs.Legal.{ack, Of_key, Of_fte, covered_kind, nonce_of, derives, IsNewest, Alive, Current, Built, Seen, IsUsed, carried_as, wrapped_as, Opens, Of_key_data, Of_response, Gives, CarriesResponse, CarriesM3, CarriesG1, Carries, LegalSealing, With_mic, SendsM3, Legal, LegalHistory}
use Rattle.journal_safety.proofs.Sessions.{session_key}
use Rattle.journal_safety.proofs.Counts.{next_fits}

seal_of : (d : Domain) (n p : Node) (h : List Act) (i : Inputs) (m : Message) (frame : List ℕ) → In (derives p i) h → covered_message (1 ∷ without_mic frame) ≡ m → ack m ≡ is_ap n → ((which : GroupKind) → IsUsed d which → Carries d which n h p i (1 ∷ without_mic frame) (kind.Key m))
    → LegalSealing d n h (One p) (kind.Key m) (frame_seal (ptk i).kck frame)
seal_of d n p h i m frame there message direction carries = With_mic p refl (Of_key refl) (record {
  i = i;
  there = there;
  is = refl;
  direction = ap ack message ∙ direction;
  kind_is = ap (λ (x : Message). kind.Key x) (sym message);
  carries = λ which used. subst (λ (x : Message). Carries d which n h p i (1 ∷ without_mic frame) (kind.Key x)) (sym message) (carries which used);
})

pub legal_m1 : (d : Domain) (n p : Node) (h : List Act) (counter : ℕ) (nonce : List ℕ) → sent_count p M1 (since p h) < most_sends → Legal d n h (sent_m1 d n p counter nonce)
legal_m1 d n p h counter nonce few = (tt, few)

-- its key data is some
some_rsne : (b : Bool) (akm : Akm) (name : Option (List ℕ)) → 0 < length (if b then rsne_mfp_octets akm name else rsne_octets akm name)
some_rsne true akm None = omega arith
some_rsne true akm (Some name) = omega arith
some_rsne false akm None = omega arith
some_rsne false akm (Some name) = omega arith

some_request : (akm : Akm) (d : Domain) (x : Derivation) (fte : List ℕ) → 0 < length (sent_m2_key_data akm d x fte)
some_request Psk d x fte = some_rsne (protects d) d.akm None
some_request PskSha256 d x fte = some_rsne (protects d) d.akm None
some_request FtPsk d x fte =
    let rsne : List ℕ = network_rsne d (Some (r1_name x.inputs)) in
    omega (arith, some_rsne (protects d) d.akm (Some (r1_name x.inputs)), length-append (rsne ++ mde_octets d.mdid) fte, length-append rsne (mde_octets d.mdid))

-- M2 of an attempt that begins a session, and of one that renews a key
pub legal_m2 : (d : Domain) (n p : Node) (h : List Act) (i : Inputs) (counter : ℕ) (fte : List ℕ) (renewal : Bool) → is_ap n ≡ false → In (derives p i) h → length i.snonce ≡ 32 → Alive n h p i → in_renewal (attempt p h) ≡ renewal → Legal d n h (sent_m2_by renewal d n p (keyed_by i) counter fte)
legal_m2 d n p h i counter fte false role there size alive begun = (
  seal_of d n p h i M2 (m2_frame d (keyed_by i) counter fte) there
      (m2_covers d.akm (ptk i).kck counter i.snonce (sent_m2_key_data d.akm d (keyed_by i) fte) size (some_request d.akm d (keyed_by i) fte)) (sym role)
      (λ which used. record { alive = alive; secure = λ other. absurd (cc (other, begun)) }),
  tt,
)
legal_m2 d n p h i counter fte true role there size alive begun =
    let c = secured_covers d.akm (ptk i).kck counter i.snonce (sent_m2_key_data d.akm d (keyed_by i) []) size (some_request d.akm d (keyed_by i) []) in (
      seal_of d n p h i M2 (renewal_m2_frame d (keyed_by i) counter) there c.message (sym role) (λ which used. record { alive = alive; secure = λ sure. c.secure }),
      tt,
    )

pub legal_m4 : (d : Domain) (n p : Node) (h : List Act) (i : Inputs) (counter : ℕ) → is_ap n ≡ false → In (derives p i) h → In (Finished p i) h → Legal d n h (sent_m4 d n p (keyed_by i) counter)
legal_m4 d n p h i counter role there over =
    (seal_of d n p h i M4 (m4_frame d (keyed_by i) counter) there (sealed_covers M4 d.akm (ptk i).kck counter 0 (replicate 32 0) [] refl refl (omega arith)).message (sym role) (λ which used. over), tt)

pub legal_g2 : (d : Domain) (n p : Node) (h : List Act) (i : Inputs) (counter : ℕ) → is_ap n ≡ false → In (derives p i) h → Legal d n h (sent_g2 d n p (keyed_by i) counter)
legal_g2 d n p h i counter role there =
    (seal_of d n p h i G2 (g2_frame d (keyed_by i) counter) there (sealed_covers G2 d.akm (ptk i).kck counter 0 (replicate 32 0) [] refl refl (omega arith)).message (sym role) (λ which used. tt), tt)

-- ---- the group keys that M3, G1 and a reassociation response carry

igtk_news_are : (d : Domain) (past : List Act) → Newests d past → (b : Bool) → protects d ≡ b → IsIgtk (igtk_news b past)
igtk_news_are d past new true on = let w : Newest groups.Igtk past = new groups.Igtk on in w.is
igtk_news_are d past new false off = tt

-- the newest at some moment are such keys
news_are : (d : Domain) (past : List Act) → Newests d past → AreKeys (news d past)
news_are d past new = record { gtk = (let w : Newest groups.Gtk past = new groups.Gtk tt in w.is); igtk = igtk_news_are d past new (protects d) refl }

key_news : (which : GroupKind) (d : Domain) (past : List Act) → IsUsed d which → key_of which (news d past) ≡ (newest which past).key
key_news groups.Gtk d past used = refl
key_news groups.Igtk d past used = ap (λ (b : Bool). igtk_key (igtk_news b past)) used

-- ---- M3: its key data fits, and whoever opens it has the group keys

record Loaded (i : Inputs) (keys : News) (data_ : List ℕ) : Type 0 where
  few : length (wrapped (ptk i).kek data_) ≤ 65440
  carries : (which : GroupKind) (plain : List ℕ) (e : ElementFields) → Wraps (ptk i).kek plain (wrapped (ptk i).kek data_) → SpellsElements KeyData plain e → (carried_as which (Some e)).key ≡ key_of which keys

loaded_text : (i : Inputs) (keys : News) (ps : List Piece) (text : List ℕ) → IsText ps text → AreApart ps → ((which : GroupKind) → (carried_as which (Some (said KeyData ps))).key ≡ key_of which keys) → Loaded i keys (padded text)
loaded_text i keys ps text made apart says = record {
  few = few_text (ptk i).kek ps text (octets-kek i) made;
  carries = λ which plain e wraps spelled. (ap (λ (x : ElementFields). (carried_as which (Some x)).key) (one_text i ps text plain e made apart wraps spelled) ∙ says which);
}

loaded_plain : (d : Domain) (i : Inputs) (keys : News) → AreKeys keys → Loaded i keys (padded (network_rsne d None ++ group_kdes keys))
loaded_plain d i keys are = loaded_text i keys (m3_pieces (protects d) d.akm keys) (network_rsne d None ++ group_kdes keys) (m3_text d d.akm keys are) (m3_apart (protects d) d.akm keys) (λ which. m3_says which (protects d) d.akm keys)

loaded_by : (d : Domain) (n : Node) (i : Inputs) (keys : News) → Ground d → IsListed d n → is_ap n ≡ true → AreKeys keys → (akm : Akm) → d.akm ≡ akm → Loaded i keys (m3_key_data_by akm d n (keyed_by i) keys)
loaded_by d n i keys ground listed role are Psk suite = loaded_plain d i keys are
loaded_by d n i keys ground listed role are PskSha256 suite = loaded_plain d i keys are
loaded_by d (Ap a) i keys ground listed role are FtPsk suite =
    let s = sized d a ground.names (ground.octets suite) listed in
    let same : m3_key_data_by FtPsk d (Ap a) (keyed_by i) keys ≡ padded (mobile_text d a (r1_name i) keys) =
    ap (λ (x : Akm). padded (network_rsne_by x d (Some (r1_name i)) ++ mde_octets d.mdid ++ group_kdes keys ++ fte_octets (assoc_fte d (Ap a)) ++ timeouts)) suite in
    subst (λ (x : List ℕ). Loaded i keys x) (sym same)
    (loaded_text i keys (mobile_pieces d a (r1_name i) keys) (mobile_text d a (r1_name i) keys) (text_mobile d a i keys s are) (mobile_apart d a (r1_name i) keys) (λ which. mobile_says which d a (r1_name i) keys))
loaded_by d (Sta k) i keys ground listed role are FtPsk suite = absurd (cc role)

opened_frame : (which : GroupKind) (kek frame key : List ℕ) → ((plain : List ℕ) (e : ElementFields) → Wraps kek plain (covered_key_data (1 ∷ frame)) → SpellsElements KeyData plain e → (carried_as which (Some e)).key ≡ key) → (g : List ℕ) → Opens which kek (1 ∷ frame) g → key ≡ g
opened_frame which kek frame key s g (Of_key_data form plain wraps e spelled is) = sym (s plain e wraps spelled) ∙ is
opened_frame which kek frame key s g (Of_response f c octets has wraps) = let form : covered_form (1 ∷ frame) ≡ 2 = form_fte (1 ∷ frame) 6 f c in absurd (cc form)

-- in an attempt that renews a key M3 has the next counter of the session, which fits its field, and the newest group keys
abbrev pub IsNow : Domain → Node → List Act → ℕ → List Act → Type 0
IsNow d p h counter past = (counter ≡ next_in_session p h) × ((which : GroupKind) → IsUsed d which → IsNewest which (newest which past).key h)

pub legal_m3 : (d : Domain) (n p : Node) (h : List Act) (i : Inputs) (counter : ℕ) (past : List Act) → is_ap n ≡ true → LegalHistory d n h → In (derives p i) h → length i.anonce ≡ 32 → Newests d past → ((which : GroupKind) → IsUsed d which → Built which n h p i (newest which past).key) → Current n h p i → Seen d n h p i → SendsM3 d n h p
    → (in_renewal (attempt p h) ≡ true → IsNow d p h counter past) → Ground d → IsListed d n → Legal d n h (sent_m3 d n p (keyed_by i) counter (news d past))
legal_m3 d n p h i counter past role legal there size new built current seen sends now ground listed =
    let keys : News = news d past in
    let data_ : List ℕ = m3_key_data d n (keyed_by i) keys in
    let loaded : Loaded i keys data_ = loaded_by d n i keys ground listed role (news_are d past new) d.akm refl in
    let frame : List ℕ = without_mic (m3_frame d n (keyed_by i) counter keys) in
    let covers = sealed_covers M3 d.akm (ptk i).kck counter keys.rsc i.anonce (wrapped (ptk i).kek data_) tt size loaded.few in
    let gives : (which : GroupKind) → IsUsed d which → Gives which i (1 ∷ frame) (newest which past).key = λ which used. opened_frame which (ptk i).kek frame (newest which past).key
    (λ plain e wraps spelled. (loaded.carries which plain e (subst (λ (x : List ℕ). Wraps (ptk i).kek plain x) covers.key_data wraps) spelled ∙ key_news which d past used)) in
    let carries : (which : GroupKind) → IsUsed d which → CarriesM3 d which n h p i (1 ∷ frame) = λ which used. record {
      load = record { key = (newest which past).key; gives = gives which used; built = built which used };
      current = current;
      seen = seen;
      renewed = λ sure. (let w = now sure in record { counter = covers.counter ∙ ap sent_counter w.0 ∙ sent_counter_low (next_in_session p h) (next_fits d n p h legal); newest = w.1 which used });
    } in
    (seal_of d n p h i M3 (m3_frame d n (keyed_by i) counter keys) there covers.message (sym role) carries, sends)

-- of a G1 the counter is the next of the session, which fits its field
pub legal_g1 : (d : Domain) (n p : Node) (h : List Act) (i : Inputs) → is_ap n ≡ true → LegalHistory d n h → session p h ≡ Some (keyed_by i) → Newests d h → sent_count p G1 (handshake groups.Gtk p h) < most_sends
    → Legal d n h (sent_g1 d n p (keyed_by i) (next_in_session p h) (news d h))
legal_g1 d n p h i role legal awaited new few =
    let keys : News = news d h in
    let are : AreKeys keys = news_are d h new in
    let counter : ℕ = next_in_session p h in
    let loaded : Loaded i keys (g1_key_data keys) = loaded_text i keys (kde_pieces keys) (group_kdes keys) (g1_text keys are) (g1_apart keys) (λ which. g1_says which keys) in
    let frame : List ℕ = without_mic (g1_frame d (keyed_by i) counter keys) in
    let covers = sealed_covers G1 d.akm (ptk i).kck counter keys.rsc (replicate 32 0) (wrapped (ptk i).kek (g1_key_data keys)) tt refl loaded.few in
    let fits : sent_counter counter ≡ counter = sent_counter_low counter (next_fits d n p h legal) in
    let gives : (which : GroupKind) → IsUsed d which → Gives which i (1 ∷ frame) (newest which h).key = λ which used. opened_frame which (ptk i).kek frame (newest which h).key
    (λ plain e wraps spelled. (loaded.carries which plain e (subst (λ (x : List ℕ). Wraps (ptk i).kek plain x) covers.key_data wraps) spelled ∙ key_news which d h used)) in
    let last : (which : GroupKind) → IsUsed d which → IsNewest which (newest which h).key h = λ which used. (let w : Newest which h = new which used in w.last) in
    let carries : (which : GroupKind) → IsUsed d which → CarriesG1 which n h p i (1 ∷ frame) = λ which used. record { key = (newest which h).key; gives = gives which used; newest = last which used; awaited = awaited; counter = covers.counter ∙ fits } in
    (seal_of d n p h i G1 (g1_frame d (keyed_by i) counter keys) (session_key d n p h (keyed_by i) legal awaited).1 covers.message (sym role) carries, few)

-- ---- reassociation frames

-- what their sizes rest on
pub record Moved (d : Domain) (n p : Node) (i : Inputs) : Type 0 where
  pub own : IsAddress (address d n)
  pub theirs : IsAddress (address d p)
  pub mdid : length d.mdid ≡ 2
  pub anonce : length i.anonce ≡ 32
  pub snonce : length i.snonce ≡ 32
  pub some : 1 ≤ length i.r0kh_id
  pub few : length i.r0kh_id ≤ 48

fits_request : (d : Domain) (n p : Node) (i : Inputs) → Moved d n p i → FitsFte (counted_fte (address d p) i None)
fits_request d n p i m = record { mic_control = refl; mic = refl; anonce = m.anonce; snonce = m.snonce; r1kh_id = m.theirs; gtk = tt; r0kh_id = (m.some, m.few); igtk = tt }

fits_igtk : (kek : List ℕ) (o : Option IgtkNews) → IsIgtk o → IfSome (option_map (sent_igtk kek) o) FitsWrappedIgtk
fits_igtk kek None is = tt
fits_igtk kek (Some k) is = record { id = (let low = igtk_low k.igtk.id is.kind_is in omega (arith, low)); ipn = refl }

fits_response : (d : Domain) (n p : Node) (i : Inputs) (keys : News) → Moved d n p i → AreKeys keys → FitsFte (re_resp_fte d n (keyed_by i) keys)
fits_response d n p i keys m are = record {
  mic_control = refl;
  mic = refl;
  anonce = m.anonce;
  snonce = m.snonce;
  r1kh_id = m.own;
  gtk = record { information = (let low = (is_gtk keys.gtk are.gtk).low in omega (arith, low)); rsc = refl };
  r0kh_id = (m.some, m.few);
  igtk = fits_igtk (ptk i).kek keys.igtk are.igtk;
}

fte_sealing : (d : Domain) (n p : Node) (h : List Act) (i : Inputs) (k : Kind) (number : ℕ) (input : List ℕ) (f : FteFields) → In (derives p i) h → CoversFte (2 ∷ input) number f → (number == 6) ≡ is_ap n → k ≡ cond (number == 6) kind.ReResp kind.ReReq
    → ((which : GroupKind) → IsUsed d which → Carries d which n h p i (2 ∷ input) k) → LegalSealing d n h (One p) k (fte_seal (ptk i).kck input)
fte_sealing d n p h i k number input f there c way is carries =
    let at : fte_number (2 ∷ input) ≡ number = number_fte (2 ∷ input) number f c in
    let kind_is : k ≡ covered_kind (2 ∷ input) = is ∙ ap (λ (x : ℕ). cond (x == 6) kind.ReResp kind.ReReq) (sym at) in
    With_mic p refl (Of_fte refl) (record {
      i = i;
      there = there;
      is = refl;
      direction = ap (λ (x : ℕ). x == 6) at ∙ way;
      kind_is = kind_is;
      carries = λ which used. subst (λ (x : Kind). Carries d which n h p i (2 ∷ input) x) kind_is (carries which used);
    })

pub legal_re_req : (d : Domain) (n p current : Node) (h : List Act) (i : Inputs) → is_ap n ≡ false → In (derives p i) h → Moved d n p i → Legal d n h (sent_re_req d n p current (keyed_by i))
legal_re_req d n p current h i role there m = (
  fte_sealing d n p h i kind.ReReq 5 (re_req_input d n p (keyed_by i)) (counted_fte (address d p) i None) there
      (sent_fte d n p 5 (r1_name i) (counted_fte (address d p) i None) m.own m.theirs (length-r1_name i) m.mdid (fits_request d n p i m)) (sym role) refl (λ which used. tt),
  tt,
)

-- a group key under key wrap
wraps_key : (kek key : List ℕ) → AreOctets key → length key ≡ 16 → Wraps kek key (wrapped kek key)
wraps_key kek key octets size = record { whole_blocks = ap (λ (n : ℕ). n % 8) size; two_blocks = omega (arith, size); are_octets = octets; wrapped = refl }

wrapped_igtk : (kek octets : List ℕ) (o : Option IgtkNews) → IsIgtk o → option_map (λ (w : WrappedIgtkFields). w.wrapped) (option_map (sent_igtk kek) o) ≡ Some octets → Wraps kek (igtk_key o) octets
wrapped_igtk kek octets None is has = absurd (cc has)
wrapped_igtk kek octets (Some k) is has = let one : wrapped kek k.igtk.key ≡ octets = cc has in subst (λ (x : List ℕ). Wraps kek k.igtk.key x) one (wraps_key kek k.igtk.key is.octets is.size)

-- what stands in the FTE of a response
wrapped_sent : (which : GroupKind) (d : Domain) (n : Node) (i : Inputs) (keys : News) (octets : List ℕ) → AreKeys keys → wrapped_as which (re_resp_fte d n (keyed_by i) keys) ≡ Some octets → Wraps (ptk i).kek (key_of which keys) octets
wrapped_sent groups.Gtk d n i keys octets are has =
    let one : wrapped (ptk i).kek keys.gtk.key ≡ octets = cc has in subst (λ (x : List ℕ). Wraps (ptk i).kek keys.gtk.key x) one (wraps_key (ptk i).kek keys.gtk.key are.gtk.octets are.gtk.size)
wrapped_sent groups.Igtk d n i keys octets are has = wrapped_igtk (ptk i).kek octets keys.igtk are.igtk has

one_wrapped : (which : GroupKind) (c : List ℕ) (m k : ℕ) (f g : FteFields) → CoversFte c m f → CoversFte c k g → wrapped_as which f ≡ wrapped_as which g
one_wrapped groups.Gtk c m k f g a b = ap (λ (o : Option WrappedGtkFields). option_map (λ (w : WrappedGtkFields). w.wrapped) o) (one_gtk c m k f g a b)
one_wrapped groups.Igtk c m k f g a b = ap (λ (o : Option WrappedIgtkFields). option_map (λ (w : WrappedIgtkFields). w.wrapped) o) (one_igtk c m k f g a b)

opened_response : (which : GroupKind) (d : Domain) (n : Node) (i : Inputs) (covered : List ℕ) (keys : News) → CoversFte covered 6 (re_resp_fte d n (keyed_by i) keys) → AreKeys keys → (key : List ℕ) → Opens which (ptk i).kek covered key → key_of which keys ≡ key
opened_response which d n i covered keys c are key (Of_key_data form plain wraps e spelled at) = let two = form_fte covered 6 (re_resp_fte d n (keyed_by i) keys) c in absurd (cc (form, two))
opened_response which d n i covered keys c are key (Of_response x y octets has wraps) =
    Wraps-unique (ptk i).kek (key_of which keys) key octets (octets-kek i) (wrapped_sent which d n i keys octets are (one_wrapped which covered 6 6 (re_resp_fte d n (keyed_by i) keys) x c y ∙ has)) wraps

pub legal_re_resp : (d : Domain) (n p : Node) (h : List Act) (i : Inputs) (name : List ℕ) (past : List Act) → is_ap n ≡ true → In (derives p i) h → Moved d n p i → length name ≡ 16 → Newests d past → ((which : GroupKind) → IsUsed d which → Built which n h p i (newest which past).key)
    → Legal d n h (sent_re_resp d n p name (keyed_by i) (re_resp_fte d n (keyed_by i) (news d past)))
legal_re_resp d n p h i name past role there m size new built =
    let keys : News = news d past in
    let are : AreKeys keys = news_are d past new in
    let f : FteFields = re_resp_fte d n (keyed_by i) keys in
    let input : List ℕ = re_resp_input d n p name (keyed_by i) f in
    let c : CoversFte (2 ∷ input) 6 f = sent_fte d p n 6 name f m.theirs m.own size m.mdid (fits_response d n p i keys m are) in
    let gives : (which : GroupKind) → IsUsed d which → Gives which i (2 ∷ input) (newest which past).key = λ which used key opens. (sym (key_news which d past used) ∙ opened_response which d n i (2 ∷ input) keys c are key opens) in
    let carries : (which : GroupKind) → IsUsed d which → CarriesResponse which n h p i (2 ∷ input) = λ which used. record { key = (newest which past).key; gives = gives which used; built = built which used } in
    (fte_sealing d n p h i kind.ReResp 6 input f there c (sym role) refl carries, tt)

-- ---- the own nonce in inputs

pub sta_nonce : (n : Node) (i : Inputs) → is_ap n ≡ false → i.snonce ≡ nonce_of n i
sta_nonce (Ap k) i role = cc
sta_nonce (Sta k) i role = refl

pub ap_nonce : (n : Node) (i : Inputs) → is_ap n ≡ true → i.anonce ≡ nonce_of n i
ap_nonce (Ap k) i role = refl
ap_nonce (Sta k) i role = cc
