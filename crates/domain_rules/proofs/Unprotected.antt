-- Where management frames are not protected: one group key, one RSNE, and every action frame is passed over. And which
-- frames are read alike whether they are protected or not.
use Rattle.std.proofs.Common.{◌≡◌, ℕ, ◌<◌, suc, Bool, true, false, List, [], ◌∷◌, Option, None, refl, sym, ap, subst, ◌∙◌, arith}
use Rattle.std.specs.Prelude.{◌&&◌, not, if◌then◌else◌}
use Rattle.std.proofs.Math.Bool.{and-true}
use Rattle.std.proofs.lemmas.Bool.{and_parts, and_left, eqb-true, eq-eqb, false≢true}
use Rattle.std.proofs.lemmas.List.Elements.{All-head}
use Rattle.domain_base.specs.Octets.{AreOctets}
use Rattle.domain_base.specs.declared.names.Akm.{Akm}
use Rattle.domain_base.specs.declared.names.Mac.{Mac}
use Rattle.domain_base.specs.declared.names.Node.{Node}
use Rattle.air_frame.specs.Control.{frame_control, frame_type, is_action}
use Rattle.air_frame.specs.Fields.{AirFields, HeaderFields, assoc_req, assoc_resp, ft_req, ft_resp, re_req, re_resp, action, eapol, protected, ignored}
use Rattle.air_frame.specs.Spelled.{IsManagement, IsData, SpellsAir}
use Rattle.air_frame.proofs.Exact.{header_low}
use Rattle.air_frame.proofs.Shapes.{begins_action}
use Rattle.rsn_elements.specs.Rsne.{RsneFields}
use Rattle.rsn_elements.specs.Elements.{ElementFields}
use Rattle.rsn_elements.specs.Transition.{FteFields}
use Rattle.rsn_elements.specs.Fits as fits
use Rattle.rsn_elements.specs.Sent.{rsne_octets, rsne_mfp_octets, gtk_kde_octets}
use Rattle.run_journal.specs.declared.domain.Domain.{Domain}
use Rattle.run_journal.specs.Events.{protects}
use Rattle.run_journal.specs.declared.acts.GroupKind.TheVariants as groups
use Rattle.run_journal.specs.declared.acts.Drawn.TheVariants as draw
use Rattle.run_journal.specs.declared.acts.KeyDataFault.TheVariants as key_data
use Rattle.run_journal.specs.declared.acts.Reason.TheVariants as reason
use Rattle.run_journal.specs.declared.acts.Outcome.TheVariants.{Accepted, Refused}
use Rattle.run_journal.specs.declared.acts.Act.{Act}
use Rattle.run_journal.specs.declared.acts.Act.TheVariants.{Drew}
use Rattle.run_journal.specs.Acts.{GroupKey}
use Rattle.domain_rules.specs.Network.{gtk}
use Rattle.domain_rules.specs.Reading.{management_of, Reading, NoFrame, PassedOver, NoElements, Managed, NoKeyFrame, NoMessage, Keyed, Sealed, Acting, Reads, passes_over, ReadsBy, ReadsAt}
use Rattle.domain_rules.specs.Suites.{rsne_status, network_rsne_by, network_rsne}
use Rattle.domain_rules.specs.FastTransition.{igtk_to_unwrap, has_igtk}
use Rattle.domain_rules.specs.GroupKeys.{newest, newest_uses, gtk_news, igtk_news, news, give, GivenKeys, give_igtk, give_all}
use Rattle.domain_rules.specs.Frames.{group_kdes}
use Rattle.domain_rules.specs.Owing.{current_act, current_igtk, current_acts}
use Rattle.domain_rules.specs.StationKeys.{is_group_key, igtk_data, group_keys_data}
use Rattle.domain_rules.specs.AccessPointRows.{draw_igtk, draw_acts, last_draw}

-- ---- group keys

-- the newest group keys are the newest GTK alone
pub news_off : (d : Domain) (h : List Act) → protects d ≡ false → news d h ≡ gtk_news (newest groups.Gtk h) (newest_uses groups.Gtk h)
news_off d h off = ap (λ (b : Bool). record { gtk = newest groups.Gtk h; rsc = newest_uses groups.Gtk h; igtk = igtk_news b h }) off

-- that alone is carried
pub group_kdes_off : (g : GroupKey) (rsc : ℕ) → group_kdes (gtk_news g rsc) ≡ gtk_kde_octets g.id g.key
group_kdes_off g rsc = refl

-- that alone is given
pub give_off : (d : Domain) (p : Node) (b : Mac) (keys : GivenKeys) (h : List Act) → protects d ≡ false → give_all d p b keys h ≡ give groups.Gtk p b keys.gtk h ∷ []
give_off d p b keys h off = ap (λ (on : Bool). give groups.Gtk p b keys.gtk h ∷ give_igtk on p b keys.igtk h) off

-- that alone is drawn
pub draw_off : (d : Domain) (n : Node) (number : ℕ) → protects d ≡ false → draw_acts d n number ≡ Drew (draw.Group groups.Gtk (gtk d n number)) ∷ []
draw_off d n number off = ap (λ (on : Bool). Drew (draw.Group groups.Gtk (gtk d n number)) ∷ draw_igtk on d n (suc number)) off

pub last_draw_off : (d : Domain) (number : ℕ) → protects d ≡ false → last_draw d number ≡ number
last_draw_off d number off = ap (λ (on : Bool). if on then suc number else number) off

-- that alone becomes current
pub current_off : (d : Domain) (n : Node) (h : List Act) → protects d ≡ false → current_acts d n h ≡ current_act groups.Gtk d n h ∷ []
current_off d n h off = ap (λ (on : Bool). current_act groups.Gtk d n h ∷ current_igtk on d n h) off

-- that alone is looked at in key data, and in an FTE
pub keys_data_off : (d : Domain) (e : ElementFields) → protects d ≡ false → group_keys_data d e ≡ (if is_group_key e.gtk then Accepted else Refused (reason.KeyData key_data.Gtk))
keys_data_off d e off = ap (λ (on : Bool). if is_group_key e.gtk then igtk_data on e.igtk else Refused (reason.KeyData key_data.Gtk)) off

pub igtk_to_unwrap_off : (d : Domain) (f : Option FteFields) → protects d ≡ false → igtk_to_unwrap (protects d) f ≡ None
igtk_to_unwrap_off d f off = ap (λ (on : Bool). igtk_to_unwrap on f) off

pub has_igtk_off : (d : Domain) (f : Option FteFields) → protects d ≡ false → has_igtk (protects d) f ≡ true
has_igtk_off d f off = ap (λ (on : Bool). has_igtk on f) off

-- ---- the RSNE

pub rsne_off : (akm : Akm) (d : Domain) (name : Option (List ℕ)) → protects d ≡ false → network_rsne_by akm d name ≡ rsne_octets akm name
rsne_off akm d name off = ap (λ (on : Bool). if on then rsne_mfp_octets akm name else rsne_octets akm name) off

pub network_rsne_off : (d : Domain) (name : Option (List ℕ)) → protects d ≡ false → network_rsne d name ≡ rsne_octets d.akm name
network_rsne_off d name off = rsne_off d.akm d name off

pub status_off : (d : Domain) (r : Option RsneFields) → protects d ≡ false → rsne_status d r ≡ fits.rsne_status false d.akm r
status_off d r off = ap (λ (on : Bool). fits.rsne_status on d.akm r) off

-- ---- what octets are

-- where management frames are not protected, action frames are passed over
pub passes_off : (d : Domain) (octets : List ℕ) → protects d ≡ false → passes_over d octets ≡ is_action octets
passes_off d octets off = ap (λ (on : Bool). is_action octets && not on) off ∙ and-true (is_action octets)

pub reads_off : (d : Domain) (octets : List ℕ) (r : Reading) → protects d ≡ false → ReadsAt d octets r → ReadsBy (is_action octets) d.akm octets r
reads_off d octets r off reads = subst (λ (b : Bool). ReadsBy b d.akm octets r) (passes_off d octets off) reads

pub off_reads : (d : Domain) (octets : List ℕ) (r : Reading) → protects d ≡ false → ReadsBy (is_action octets) d.akm octets r → ReadsAt d octets r
off_reads d octets r off reads = subst (λ (b : Bool). ReadsBy b d.akm octets r) (sym (passes_off d octets off)) reads

-- other frames are not passed over so, whether management frames are protected or not
pub others_pass : (d : Domain) (octets : List ℕ) → is_action octets ≡ false → passes_over d octets ≡ false
others_pass d octets other = and_left (is_action octets) (not (protects d)) other

pub others_read : (d : Domain) (octets : List ℕ) (r : Reading) → is_action octets ≡ false → Reads d.akm octets r → ReadsAt d octets r
others_read d octets r other reads = subst (λ (b : Bool). ReadsBy b d.akm octets r) (sym (others_pass d octets other)) reads

-- what is not passed over reads so
read_by : (b : Bool) (akm : Akm) (octets : List ℕ) (r : Reading) → (r ≡ PassedOver → ⊥) → ReadsBy b akm octets r → Reads akm octets r
read_by true akm octets r other is = absurd (other is)
read_by false akm octets r other reads = reads

pub reads_here : (d : Domain) (octets : List ℕ) (r : Reading) → (r ≡ PassedOver → ⊥) → ReadsAt d octets r → Reads d.akm octets r
reads_here d octets r other reads = read_by (passes_over d octets) d.akm octets r other reads

-- ---- frames to a group

-- an action frame to a group begins as one
pub action_begins : (octets : List ℕ) (header : HeaderFields) (body : List ℕ) → AreOctets octets → SpellsAir octets (action header body) → is_action octets ≡ true
unfolding frame_control
action_begins [] header body are s = absurd (omega (arith, s.1.frame.long))
action_begins (a ∷ []) header body are s = absurd (omega (arith, s.1.frame.long))
action_begins (a ∷ b ∷ rest) header body are s =
    let low : a < 256 = All-head (λ x. x < 256) a (b ∷ rest) are in
    eq-eqb a 0xd0 (omega (arith, low, s.1.frame.version, s.1.frame.management, s.1.frame.kind))

-- ---- frames that are no action frames

-- octets that begin as those of an action frame are no other management frame, and no data
action_subtype : (octets : List ℕ) (subtype fixed : ℕ) → is_action octets ≡ true → IsManagement octets subtype fixed → subtype ≡ 13
action_subtype octets subtype fixed is s = sym s.kind ∙ (begins_action octets is (omega (arith, s.long))).1

action_no_data : (octets : List ℕ) (least : ℕ) → is_action octets ≡ true → IsData octets least → ⊥
action_no_data octets least is s =
    let data_type : frame_type octets ≡ 2 = eqb-true _ _ (and_parts _ _ s.kind).0 in
    let type : frame_type octets ≡ 0 = (begins_action octets is (omega (arith, s.long, header_low octets))).0 in
    omega (arith, data_type, type)

action_unmanaged : (octets : List ℕ) (f : AirFields) → is_action octets ≡ true → SpellsAir octets f → management_of f ≡ None
action_unmanaged octets (assoc_req h c i e) is s = let same = action_subtype octets 0 4 is s.1 in absurd (omega (arith, same))
action_unmanaged octets (assoc_resp h c t a e) is s = let same = action_subtype octets 1 6 is s.1 in absurd (omega (arith, same))
action_unmanaged octets (re_req h c i a e) is s = let same = action_subtype octets 2 10 is s.1 in absurd (omega (arith, same))
action_unmanaged octets (re_resp h c t a e) is s = let same = action_subtype octets 3 6 is s.1 in absurd (omega (arith, same))
action_unmanaged octets (ft_req h t e) is s = let same = action_subtype octets 11 6 is s.1.authentication in absurd (omega (arith, same))
action_unmanaged octets (ft_resp h t e) is s = let same = action_subtype octets 11 6 is s.1.authentication in absurd (omega (arith, same))
action_unmanaged octets (action h b) is s = refl
action_unmanaged octets (eapol h d t b) is s = refl
action_unmanaged octets (protected h d t b) is s = refl
action_unmanaged octets ignored is s = refl

-- of all that octets can read as, a management frame of association, or data
abbrev pub is_other : Reading → Bool
is_other (NoFrame fault) = false
is_other PassedOver = false
is_other (NoElements b fault) = true
is_other (Managed b e) = true
is_other (NoKeyFrame h fault) = true
is_other (NoMessage h) = true
is_other (Keyed k) = true
is_other (Sealed h way tid body) = true
is_other (Acting h body) = false

action_other : (akm : Akm) (octets : List ℕ) (r : Reading) → is_action octets ≡ true → is_other r ≡ true → Reads akm octets r → ⊥
action_other akm octets (NoFrame fault) is other reads = false≢true other
action_other akm octets PassedOver is other reads = false≢true other
action_other akm octets (NoElements b fault) is other reads = cc (action_unmanaged octets reads.0.frame is reads.0.spelled, reads.0.is)
action_other akm octets (Managed b e) is other reads = cc (action_unmanaged octets reads.0.frame is reads.0.spelled, reads.0.is)
action_other akm octets (NoKeyFrame h fault) is other reads = action_no_data octets 8 is reads.frame.spelled.1.frame
action_other akm octets (NoMessage h) is other reads = action_no_data octets 8 is reads.frame.spelled.1.frame
action_other akm octets (Keyed k) is other reads = action_no_data octets 8 is reads.frame.spelled.1.frame
action_other akm octets (Sealed h way tid body) is other reads = action_no_data octets 16 is reads.1.frame
action_other akm octets (Acting h body) is other reads = false≢true other

-- such a frame does not begin as an action frame
pub no_action : (akm : Akm) (octets : List ℕ) (r : Reading) → is_other r ≡ true → Reads akm octets r → is_action octets ≡ false
no_action akm octets r other reads = by (is_action octets) refl
  where
    by : (b : Bool) → is_action octets ≡ b → is_action octets ≡ false
    by true is = absurd (action_other akm octets r is other reads)
    by false is = is

-- it is that frame to each node
pub reads_so : (d : Domain) (octets : List ℕ) (r : Reading) → is_other r ≡ true → Reads d.akm octets r → ReadsAt d octets r
reads_so d octets r other reads = others_read d octets r (no_action d.akm octets r other reads) reads
