-- Octets read as one thing at most, and so a frame has one outcome.
use Rattle.std.proofs.Common.{◌≡◌, ℕ, Bool, true, false, List, length, take, Option, Some, None, refl, sym, ap, subst, ◌∙◌, inl, inr, ◌⊎◌}
use Rattle.std.specs.Prelude.{not, nat_lt}
use Rattle.domain_base.specs.declared.names.Akm.{Akm}
use Rattle.domain_base.specs.declared.names.Node.{Node}
use Rattle.air_frame.specs.declared.frame.AirFault.{AirFault}
use Rattle.air_frame.specs.declared.frame.Direction.{Direction}
use Rattle.air_frame.specs.Fields.{AirFields, HeaderFields, action, eapol, protected, ignored, air_at}
use Rattle.air_frame.specs.Faults.{air_fault}
use Rattle.air_frame.proofs.Exact.{spelled_none, spelled_is}
use Rattle.rsn_elements.specs.declared.framing.Within.TheVariants.{Body, KeyData}
use Rattle.rsn_elements.specs.declared.faults.ElementFault.{ElementFault}
use Rattle.rsn_elements.specs.declared.faults.FaultKind.{FaultKind}
use Rattle.rsn_elements.specs.Elements.{ElementFields, SpellsElements}
use Rattle.rsn_elements.specs.Faults.{HasElementFault}
use Rattle.rsn_elements.proofs.Apart.{one_value, value_or_fault, one_fault}
use Rattle.eapol_key.specs.declared.frame.FrameFault.{FrameFault}
use Rattle.eapol_key.specs.declared.messages.Message.{Message}
use Rattle.eapol_key.specs.declared.messages.Message.TheVariants.{M1, M2, M3, M4, G1, G2}
use Rattle.eapol_key.specs.KeyFrame.{KeyFields, SpellsKeyFrame, key_frame_fault}
use Rattle.eapol_key.specs.Messages.{IsMessage, has_bit}
use Rattle.eapol_key.proofs.Faults.{same_frame, sound_from_frame, none_from_sound}
use Rattle.run_journal.specs.declared.acts.Act.{Act}
use Rattle.key_wrap.proofs.UniqueLemmas.{Wraps-unique}
use Rattle.run_journal.specs.declared.acts.Outcome.TheVariants.{Accepted}
use Rattle.domain_rules.specs.Facts.{Facts, ReadsKeyData, IsUnwrapped}
use Rattle.domain_rules.specs.AccessPointKeys.{HasElements, IsRequested, KnowsM2, m2_key_data, request, requested_rsne}
use Rattle.domain_rules.specs.StationKeys.{Keying, KnowsM3, m3_key_data, m3_wrapped, g1_key_data, g1_wrapped}
use Rattle.domain_rules.specs.FastTransition.{r1_name}
use Rattle.domain_rules.specs.TransitionKeyData.{response, ft_m2_key_data, ft_m3_key_data, ft_m3_wrapped}
use Rattle.domain_rules.specs.TransitionKeys.{unwraps, KnowsGtk}
use Rattle.domain_rules.specs.Verdict.{KnowsResponse, m2_further, own_r1_name, m3_further}
use Rattle.domain_base.specs.declared.names.Akm.TheVariants.{Psk, PskSha256, FtPsk}
use Rattle.run_journal.specs.declared.domain.Domain.{Domain}
use Rattle.run_journal.specs.declared.acts.Outcome.{Outcome}
use Rattle.run_journal.specs.Acts.{Derivation}
use Rattle.domain_rules.specs.Reading.{Management, management_of, KeyMessage, Reading, NoFrame, PassedOver, NoElements, Managed, NoKeyFrame, NoMessage, Keyed, Sealed, Acting, Reads, passes_over, ReadsBy, ReadsAt}

-- ---- one message

-- which message a key information can be, where there is key data or none
by_bits : Bool → Bool → Bool → Bool → Message
by_bits true true ack some = M3
by_bits true false true some = M1
by_bits true false false true = M2
by_bits true false false false = M4
by_bits false install true some = G1
by_bits false install false some = G2

pub by_fields : KeyFields → Message
by_fields f = by_bits (has_bit f.information 3) (has_bit f.information 6) (has_bit f.information 7) (nat_lt 0 (length f.key_data))

is_off : (b : Bool) → not b ≡ true → b ≡ false
is_off true h = cc
is_off false h = refl

pub message_is : (akm : Akm) (m : Message) (f : KeyFields) → IsMessage akm m f → m ≡ by_fields f
unfolding by_fields by_bits
message_is akm M1 f is = rw (is.bits.pairwise, is_off _ is.bits.install, is.bits.ack) refl
message_is akm M2 f is = rw (is.bits.pairwise, is_off _ is.bits.install, is_off _ is.bits.ack, is.key_data) refl
message_is akm M3 f is = rw (is.bits.pairwise, is.bits.install) refl
message_is akm M4 f is = rw (is.bits.pairwise, is_off _ is.bits.install, is_off _ is.bits.ack, is_off _ is.key_data) refl
message_is akm G1 f is = rw (is_off _ is.bits.pairwise, is.bits.ack) refl
message_is akm G2 f is = rw (is_off _ is.bits.pairwise, is_off _ is.bits.ack) refl

pub one_message : (akm : Akm) (f : KeyFields) (m n : Message) → IsMessage akm m f → IsMessage akm n f → m ≡ n
one_message akm f m n s t = message_is akm m f s ∙ sym (message_is akm n f t)

-- ---- one reading of the elements of a management frame

data ElementsRead (b : Management) (r : Reading) : Type 0 where
  ASaying : (e : ElementFields) → r ≡ Managed b e → SpellsElements Body b.elements e → ElementsRead b r
  AFault : (fault : ElementFault) → r ≡ NoElements b fault → HasElementFault Body b.elements fault.place fault.kind → ElementsRead b r

same_element_fault : (f g : ElementFault) → f.place ≡ g.place → f.kind ≡ g.kind → f ≡ g
same_element_fault f g place kind = ap (λ (n : ℕ). record { place = n; kind = f.kind }) place ∙ ap (λ (k : FaultKind). record { place = g.place; kind = k }) kind

same_elements : (b : Management) (r s : Reading) → ElementsRead b r → ElementsRead b s → r ≡ s
same_elements b r s (ASaying e is spelled) (ASaying f also spelled_too) = is ∙ ap (λ (x : ElementFields). Managed b x) (one_value Body b.elements e f spelled spelled_too) ∙ sym also
same_elements b r s (ASaying e is spelled) (AFault fault also has) = absurd (value_or_fault Body b.elements e fault.place fault.kind spelled has)
same_elements b r s (AFault fault is has) (ASaying e also spelled) = absurd (value_or_fault Body b.elements e fault.place fault.kind spelled has)
same_elements b r s (AFault fault is has) (AFault other also has_too) =
    let one = one_fault Body b.elements fault.place other.place fault.kind other.kind has has_too in
    is ∙ ap (λ (x : ElementFault). NoElements b x) (same_element_fault fault other one.0 one.1) ∙ sym also

-- ---- one reading of an EAPOL body

data BodyRead (akm : Akm) (h : HeaderFields) (way : Direction) (body : List ℕ) (r : Reading) : Type 0 where
  ABodyFault : (fault : FrameFault) → r ≡ NoKeyFrame h fault → key_frame_fault body ≡ Some fault → BodyRead akm h way body r
  AnOther : (f : KeyFields) (used : ℕ) → r ≡ NoMessage h → SpellsKeyFrame body f used → ((m : Message) → IsMessage akm m f → ⊥) → BodyRead akm h way body r
  AMessage : (k : KeyMessage) (used : ℕ) → r ≡ Keyed k → k.header ≡ h → k.direction ≡ way → SpellsKeyFrame body k.fields used → IsMessage akm k.message k.fields → k.octets ≡ take used body → BodyRead akm h way body r

frame_no_fault : (body : List ℕ) (f : KeyFields) (used : ℕ) (fault : FrameFault) → SpellsKeyFrame body f used → key_frame_fault body ≡ Some fault → ⊥
frame_no_fault body f used fault spelled has = let none = none_from_sound body (sound_from_frame body f used spelled) in cc (none, has)

other_no_message : (akm : Akm) (body : List ℕ) (f g : KeyFields) (used taken : ℕ) (m : Message) → SpellsKeyFrame body f used → ((n : Message) → IsMessage akm n f → ⊥) → SpellsKeyFrame body g taken → IsMessage akm m g → ⊥
other_no_message akm body f g used taken m s none t is = none m (subst (λ (x : KeyFields). IsMessage akm m x) (same_frame body g f taken used t s).0 is)

same_message_parts : (k l : KeyMessage) → k.header ≡ l.header → k.direction ≡ l.direction → k.message ≡ l.message → k.fields ≡ l.fields → k.octets ≡ l.octets → k ≡ l
same_message_parts k l header way message fields octets =
    ap (λ (x : HeaderFields). record { header = x; direction = k.direction; message = k.message; fields = k.fields; octets = k.octets }) header
    ∙ ap (λ (x : Direction). record { header = l.header; direction = x; message = k.message; fields = k.fields; octets = k.octets }) way
    ∙ ap (λ (x : Message). record { header = l.header; direction = l.direction; message = x; fields = k.fields; octets = k.octets }) message
    ∙ ap (λ (x : KeyFields). record { header = l.header; direction = l.direction; message = l.message; fields = x; octets = k.octets }) fields
    ∙ ap (λ (x : List ℕ). record { header = l.header; direction = l.direction; message = l.message; fields = l.fields; octets = x }) octets

same_body : (akm : Akm) (h : HeaderFields) (way : Direction) (body : List ℕ) (r s : Reading) → BodyRead akm h way body r → BodyRead akm h way body s → r ≡ s
same_body akm h way body r s (ABodyFault fault is has) (ABodyFault other also has_too) = let same : fault ≡ other = cc (has, has_too) in is ∙ ap (λ (x : FrameFault). NoKeyFrame h x) same ∙ sym also
same_body akm h way body r s (ABodyFault fault is has) (AnOther f used also spelled none) = absurd (frame_no_fault body f used fault spelled has)
same_body akm h way body r s (ABodyFault fault is has) (AMessage k used also a b spelled m c) = absurd (frame_no_fault body k.fields used fault spelled has)
same_body akm h way body r s (AnOther f used is spelled none) (ABodyFault fault also has) = absurd (frame_no_fault body f used fault spelled has)
same_body akm h way body r s (AnOther f used is spelled none) (AnOther g taken also spelled_too none_too) = is ∙ sym also
same_body akm h way body r s (AnOther f used is spelled none) (AMessage k taken also a b spelled_too m c) = absurd (other_no_message akm body f k.fields used taken k.message spelled none spelled_too m)
same_body akm h way body r s (AMessage k used is a b spelled m c) (ABodyFault fault also has) = absurd (frame_no_fault body k.fields used fault spelled has)
same_body akm h way body r s (AMessage k used is a b spelled m c) (AnOther f taken also spelled_too none) = absurd (other_no_message akm body f k.fields taken used k.message spelled_too none spelled m)
same_body akm h way body r s (AMessage k used is a b spelled m c) (AMessage l taken also a_too b_too spelled_too m_too c_too) =
    let one = same_frame body k.fields l.fields used taken spelled spelled_too in
    let message : k.message ≡ l.message = one_message akm l.fields k.message l.message (subst (λ (x : KeyFields). IsMessage akm k.message x) one.0 m) m_too in
    let octets : k.octets ≡ l.octets = c ∙ ap (λ (n : ℕ). take n body) one.1 ∙ sym c_too in
    is ∙ ap (λ (x : KeyMessage). Keyed x) (same_message_parts k l (a ∙ sym a_too) (b ∙ sym b_too) message one.0 octets) ∙ sym also

-- ---- one reading of an air frame

data FrameRead (akm : Akm) (f : AirFields) (r : Reading) : Type 0 where
  OfNothing : f ≡ ignored → r ≡ PassedOver → FrameRead akm f r
  OfElements : (b : Management) → management_of f ≡ Some b → ElementsRead b r → FrameRead akm f r
  OfBody : (h : HeaderFields) (way : Direction) (tid : Option ℕ) (body : List ℕ) → f ≡ eapol h way tid body → BodyRead akm h way body r → FrameRead akm f r
  OfCipher : (h : HeaderFields) (way : Direction) (tid : Option ℕ) (body : List ℕ) → f ≡ protected h way tid body → r ≡ Sealed h way tid body → FrameRead akm f r
  OfGroup : (h : HeaderFields) (body : List ℕ) → f ≡ action h body → r ≡ Acting h body → FrameRead akm f r

same_frame_read : (akm : Akm) (f : AirFields) (r s : Reading) → FrameRead akm f r → FrameRead akm f s → r ≡ s
same_frame_read akm f r s (OfNothing e is) (OfNothing g also) = is ∙ sym also
same_frame_read akm f r s (OfNothing e is) (OfElements b g also) = absurd (cc (ap management_of e, g))
same_frame_read akm f r s (OfNothing e is) (OfBody h way tid body g also) = absurd (cc (e, g))
same_frame_read akm f r s (OfNothing e is) (OfCipher h way tid body g also) = absurd (cc (e, g))
same_frame_read akm f r s (OfNothing e is) (OfGroup h body g also) = absurd (cc (e, g))
same_frame_read akm f r s (OfElements b e is) (OfNothing g also) = absurd (cc (e, ap management_of g))
same_frame_read akm f r s (OfElements b e is) (OfElements c g also) =
    let same : b ≡ c = cc (e, g) in
    same_elements c r s (subst (λ (x : Management). ElementsRead x r) same is) also
same_frame_read akm f r s (OfElements b e is) (OfBody h way tid body g also) = absurd (cc (e, ap management_of g))
same_frame_read akm f r s (OfElements b e is) (OfCipher h way tid body g also) = absurd (cc (e, ap management_of g))
same_frame_read akm f r s (OfElements b e is) (OfGroup h body g also) = absurd (cc (e, ap management_of g))
same_frame_read akm f r s (OfBody h way tid body e is) (OfNothing g also) = absurd (cc (e, g))
same_frame_read akm f r s (OfBody h way tid body e is) (OfElements b g also) = absurd (cc (ap management_of e, g))
same_frame_read akm f r s (OfBody h way tid body e is) (OfBody i other tid_too text g also) =
    let header : h ≡ i = cc (e, g) in
    let direction : way ≡ other = cc (e, g) in
    let octets : body ≡ text = cc (e, g) in
    same_body akm i other text r s (subst (λ (x : HeaderFields). BodyRead akm x other text r) header (subst (λ (x : Direction). BodyRead akm h x text r) direction (subst (λ (x : List ℕ). BodyRead akm h way x r) octets is))) also
same_frame_read akm f r s (OfBody h way tid body e is) (OfCipher i other tid_too text g also) = absurd (cc (e, g))
same_frame_read akm f r s (OfBody h way tid body e is) (OfGroup i text g also) = absurd (cc (e, g))
same_frame_read akm f r s (OfCipher h way tid body e is) (OfNothing g also) = absurd (cc (e, g))
same_frame_read akm f r s (OfCipher h way tid body e is) (OfElements b g also) = absurd (cc (ap management_of e, g))
same_frame_read akm f r s (OfCipher h way tid body e is) (OfBody i other tid_too text g also) = absurd (cc (e, g))
same_frame_read akm f r s (OfCipher h way tid body e is) (OfCipher i other tid_too text g also) = cc (e, g, is, also)
same_frame_read akm f r s (OfCipher h way tid body e is) (OfGroup i text g also) = absurd (cc (e, g))
same_frame_read akm f r s (OfGroup h body e is) (OfNothing g also) = absurd (cc (e, g))
same_frame_read akm f r s (OfGroup h body e is) (OfElements b g also) = absurd (cc (ap management_of e, g))
same_frame_read akm f r s (OfGroup h body e is) (OfBody i other tid_too text g also) = absurd (cc (e, g))
same_frame_read akm f r s (OfGroup h body e is) (OfCipher i other tid_too text g also) = absurd (cc (e, g))
same_frame_read akm f r s (OfGroup h body e is) (OfGroup i text g also) = cc (e, g, is, also)

-- ---- one reading

abbrev IsRead : Akm → List ℕ → Reading → Type 0
IsRead akm octets r = ((fault : AirFault) × ((air_fault octets ≡ Some fault) × (r ≡ NoFrame fault))) ⊎ ((air_fault octets ≡ None) × FrameRead akm (air_at octets) r)

is_read : (akm : Akm) (octets : List ℕ) (r : Reading) → Reads akm octets r → IsRead akm octets r
is_read akm octets (NoFrame fault) reads = inl (fault, (reads, refl))
is_read akm octets PassedOver reads = inr (spelled_none octets ignored reads, OfNothing (sym (spelled_is octets ignored reads)) refl)
is_read akm octets (NoElements b fault) reads =
    inr (spelled_none octets reads.0.frame reads.0.spelled, OfElements b (ap management_of (sym (spelled_is octets reads.0.frame reads.0.spelled)) ∙ reads.0.is) (AFault fault refl reads.1))
is_read akm octets (Managed b e) reads =
    inr (spelled_none octets reads.0.frame reads.0.spelled, OfElements b (ap management_of (sym (spelled_is octets reads.0.frame reads.0.spelled)) ∙ reads.0.is) (ASaying e refl reads.1))
is_read akm octets (NoKeyFrame h fault) reads =
    inr (spelled_none octets (eapol h reads.way reads.frame.tid reads.body) reads.frame.spelled, OfBody h reads.way reads.frame.tid reads.body (sym (spelled_is octets (eapol h reads.way reads.frame.tid reads.body) reads.frame.spelled)) (ABodyFault fault refl reads.is))
is_read akm octets (NoMessage h) reads =
    inr (spelled_none octets (eapol h reads.way reads.frame.tid reads.body) reads.frame.spelled, OfBody h reads.way reads.frame.tid reads.body (sym (spelled_is octets (eapol h reads.way reads.frame.tid reads.body) reads.frame.spelled)) (AnOther reads.fields reads.used refl reads.spelled reads.none))
is_read akm octets (Keyed k) reads =
    inr (spelled_none octets (eapol k.header k.direction reads.frame.tid reads.body) reads.frame.spelled, OfBody k.header k.direction reads.frame.tid reads.body (sym (spelled_is octets (eapol k.header k.direction reads.frame.tid reads.body) reads.frame.spelled)) (AMessage k reads.used refl refl refl reads.spelled reads.is reads.octets_are))
is_read akm octets (Sealed h way tid body) reads =
    inr (spelled_none octets (protected h way tid body) reads, OfCipher h way tid body (sym (spelled_is octets (protected h way tid body) reads)) refl)
is_read akm octets (Acting h body) reads =
    inr (spelled_none octets (action h body) reads, OfGroup h body (sym (spelled_is octets (action h body) reads)) refl)

same_read : (akm : Akm) (octets : List ℕ) (r s : Reading) → IsRead akm octets r → IsRead akm octets s → r ≡ s
same_read akm octets r s (inl x) (inl y) = cc (x.1.0, x.1.1, y.1.0, y.1.1)
same_read akm octets r s (inl x) (inr y) = absurd (cc (x.1.0, y.0))
same_read akm octets r s (inr x) (inl y) = absurd (cc (x.0, y.1.0))
same_read akm octets r s (inr x) (inr y) = same_frame_read akm (air_at octets) r s x.1 y.1

pub one_reading : (akm : Akm) (octets : List ℕ) (r s : Reading) → Reads akm octets r → Reads akm octets s → r ≡ s
one_reading akm octets r s x y = same_read akm octets r s (is_read akm octets r x) (is_read akm octets s y)

one_reading_by : (b : Bool) (akm : Akm) (octets : List ℕ) (r s : Reading) → ReadsBy b akm octets r → ReadsBy b akm octets s → r ≡ s
one_reading_by true akm octets r s x y = x ∙ sym y
one_reading_by false akm octets r s x y = one_reading akm octets r s x y

-- so to each node of a network
pub one_reading_at : (d : Domain) (octets : List ℕ) (r s : Reading) → ReadsAt d octets r → ReadsAt d octets s → r ≡ s
one_reading_at d octets r s x y = one_reading_by (passes_over d octets) d.akm octets r s x y

-- ---- what reading further tells

-- the elements of a request
pub same_request : (akm : Akm) (octets : List ℕ) (e f : ElementFields) → HasElements akm octets e → HasElements akm octets f → e ≡ f
same_request akm octets e f (b, reads) (c, reads_too) =
    let same : Managed b e ≡ Managed c f = one_reading akm octets (Managed b e) (Managed c f) reads reads_too in cc same

pub same_requested : (akm : Akm) (o : Option (List ℕ)) (x y : Option ElementFields) → IsRequested akm o x → IsRequested akm o y → x ≡ y
same_requested akm None x y is also = is ∙ sym also
same_requested akm (Some octets) None None has has_too = refl
same_requested akm (Some octets) None (Some f) has has_too = absurd (has f has_too)
same_requested akm (Some octets) (Some e) None has has_too = absurd (has_too e has)
same_requested akm (Some octets) (Some e) (Some f) has has_too = ap (λ (v : ElementFields). Some v) (same_request akm octets e f has has_too)

pub same_key_data : (octets : List ℕ) (x y : Option ElementFields) → ReadsKeyData octets x → ReadsKeyData octets y → x ≡ y
same_key_data octets (Some e) (Some f) s t = ap (λ (v : ElementFields). Some v) (one_value KeyData octets e f s t)
same_key_data octets (Some e) None s t = absurd (value_or_fault KeyData octets e t.0.place t.0.kind s t.1)
same_key_data octets None (Some f) s t = absurd (value_or_fault KeyData octets f s.0.place s.0.kind t s.1)
same_key_data octets None None s t = refl

pub same_m2 : (akm : Akm) (d : Domain) (n : Node) (h : List Act) (p : Node) (k : KeyMessage) (f g : Facts) → KnowsM2 akm h p k f → KnowsM2 akm h p k g → m2_further akm d n p f ≡ m2_further akm d n p g
same_m2 FtPsk d n h p k f g s t =
    ap (λ (x : Option ElementFields). ft_m2_key_data d n (own_r1_name d n p) x f.data_) (same_requested FtPsk (request p h) f.requested g.requested s.requested t.requested)
    ∙ ap (ft_m2_key_data d n (own_r1_name d n p) g.requested) (same_key_data k.fields.key_data f.data_ g.data_ s.data_ t.data_)
same_m2 Psk d n h p k f g s t =
    ap (λ (x : Option ElementFields). m2_key_data (requested_rsne x) f.data_) (same_requested Psk (request p h) f.requested g.requested s.requested t.requested)
    ∙ ap (m2_key_data (requested_rsne g.requested)) (same_key_data k.fields.key_data f.data_ g.data_ s.data_ t.data_)
same_m2 PskSha256 d n h p k f g s t =
    ap (λ (x : Option ElementFields). m2_key_data (requested_rsne x) f.data_) (same_requested PskSha256 (request p h) f.requested g.requested s.requested t.requested)
    ∙ ap (m2_key_data (requested_rsne g.requested)) (same_key_data k.fields.key_data f.data_ g.data_ s.data_ t.data_)

-- key data has one plain text at most
pub same_plain : (kek octets : List ℕ) (x y : Option (List ℕ)) → IsUnwrapped kek octets x → IsUnwrapped kek octets y → x ≡ y
same_plain kek octets (Some a) (Some b) s t = ap (λ (v : List ℕ). Some v) (Wraps-unique kek a b octets s.0 s.1 t.1)
same_plain kek octets (Some a) None s t = absurd (t a s.0 s.1)
same_plain kek octets None (Some b) s t = absurd (s b t.0 t.1)
same_plain kek octets None None s t = refl

-- the group key of a reassociation response
pub same_gtk : (x : Derivation) (w u v : Option (List ℕ)) (rest : Outcome) → KnowsGtk (Some x) w u → KnowsGtk (Some x) w v → unwraps w u rest ≡ unwraps w v rest
same_gtk x (Some octets) u v rest s t = ap (λ (o : Option (List ℕ)). unwraps (Some octets) o rest) (same_plain x.ptk.kek octets u v s t)
same_gtk x None u v rest s t = refl

same_unwrapped : (akm : Akm) (d : Domain) (u v : Option (List ℕ)) (x y : Option ElementFields) → u ≡ v → ((plain : List ℕ) → u ≡ Some plain → ReadsKeyData plain x) → ((plain : List ℕ) → v ≡ Some plain → ReadsKeyData plain y)
    → m3_wrapped akm d u x ≡ m3_wrapped akm d v y
same_unwrapped akm d None None x y e s t = refl
same_unwrapped akm d None (Some b) x y e s t = cc
same_unwrapped akm d (Some a) None x y e s t = cc
same_unwrapped akm d (Some a) (Some b) x y e s t = ap (m3_key_data akm d) (same_key_data a x y (s a refl) (t a (sym e)))

same_unwrapped_ft : (d : Domain) (name : List ℕ) (q r : Option ElementFields) (u v : Option (List ℕ)) (x y : Option ElementFields) → q ≡ r → u ≡ v
    → ((plain : List ℕ) → u ≡ Some plain → ReadsKeyData plain x) → ((plain : List ℕ) → v ≡ Some plain → ReadsKeyData plain y)
    → ft_m3_wrapped d name q u x ≡ ft_m3_wrapped d name r v y
same_unwrapped_ft d name q r None None x y a e s t = refl
same_unwrapped_ft d name q r None (Some b) x y a e s t = cc
same_unwrapped_ft d name q r (Some c) None x y a e s t = cc
same_unwrapped_ft d name q r (Some c) (Some b) x y a e s t =
    ap (λ (o : Option ElementFields). ft_m3_key_data d name o x) a ∙ ap (ft_m3_key_data d name r) (same_key_data c x y (s c refl) (t c (sym e)))

pub same_m3 : (akm : Akm) (d : Domain) (h : List Act) (p : Node) (y : Keying) (k : KeyMessage) (f g : Facts) → KnowsM3 y.key.ptk.kek k f → KnowsM3 y.key.ptk.kek k g
    → KnowsResponse akm h p M3 f → KnowsResponse akm h p M3 g → m3_further akm d (Some y) f ≡ m3_further akm d (Some y) g
same_m3 FtPsk d h p y k f g s t v w =
    same_unwrapped_ft d (r1_name y.key.inputs) f.responded g.responded f.unwrapped g.unwrapped f.data_ g.data_ (same_requested FtPsk (response p h) f.responded g.responded v w)
    (same_plain y.key.ptk.kek k.fields.key_data f.unwrapped g.unwrapped s.unwrapped t.unwrapped) s.data_ t.data_
same_m3 Psk d h p y k f g s t v w =
    same_unwrapped Psk d f.unwrapped g.unwrapped f.data_ g.data_ (same_plain y.key.ptk.kek k.fields.key_data f.unwrapped g.unwrapped s.unwrapped t.unwrapped) s.data_ t.data_
same_m3 PskSha256 d h p y k f g s t v w =
    same_unwrapped PskSha256 d f.unwrapped g.unwrapped f.data_ g.data_ (same_plain y.key.ptk.kek k.fields.key_data f.unwrapped g.unwrapped s.unwrapped t.unwrapped) s.data_ t.data_

-- the same of G1
same_unwrapped_g1 : (d : Domain) (u v : Option (List ℕ)) (x y : Option ElementFields) → u ≡ v
    → ((plain : List ℕ) → u ≡ Some plain → ReadsKeyData plain x) → ((plain : List ℕ) → v ≡ Some plain → ReadsKeyData plain y)
    → g1_wrapped d u x ≡ g1_wrapped d v y
same_unwrapped_g1 d None None x y e s t = refl
same_unwrapped_g1 d (Some a) None x y e s t = cc
same_unwrapped_g1 d None (Some b) x y e s t = cc
same_unwrapped_g1 d (Some a) (Some b) x y e s t = ap (g1_key_data d) (same_key_data a x y (s a refl) (t a (sym e)))

pub same_g1 : (d : Domain) (kek : List ℕ) (k : KeyMessage) (f g : Facts) → KnowsM3 kek k f → KnowsM3 kek k g
    → g1_wrapped d f.unwrapped f.data_ ≡ g1_wrapped d g.unwrapped g.data_
same_g1 d kek k f g s t =
    same_unwrapped_g1 d f.unwrapped g.unwrapped f.data_ g.data_
    (same_plain kek k.fields.key_data f.unwrapped g.unwrapped s.unwrapped t.unwrapped) s.data_ t.data_

opened_g1 : (d : Domain) (u v : Option (List ℕ)) (x y : Option ElementFields) → u ≡ v
    → ((plain : List ℕ) → u ≡ Some plain → ReadsKeyData plain x) → ((plain : List ℕ) → v ≡ Some plain → ReadsKeyData plain y)
    → g1_wrapped d u x ≡ Accepted → x ≡ y
opened_g1 d None v x y e s t accepted = cc
opened_g1 d (Some a) v x y e s t accepted = same_key_data a x y (s a refl) (t a (sym e))

pub same_opened_g1 : (d : Domain) (kek : List ℕ) (k : KeyMessage) (f g : Facts) → KnowsM3 kek k f → KnowsM3 kek k g
    → g1_wrapped d f.unwrapped f.data_ ≡ Accepted → f.data_ ≡ g.data_
same_opened_g1 d kek k f g s t accepted =
    opened_g1 d f.unwrapped g.unwrapped f.data_ g.data_
    (same_plain kek k.fields.key_data f.unwrapped g.unwrapped s.unwrapped t.unwrapped) s.data_ t.data_ accepted

-- key data that was opened says one thing
opened_by : (u v : Option (List ℕ)) (x y : Option ElementFields) (plain : List ℕ) → u ≡ Some plain → u ≡ v
    → ((plain : List ℕ) → u ≡ Some plain → ReadsKeyData plain x) → ((plain : List ℕ) → v ≡ Some plain → ReadsKeyData plain y) → x ≡ y
opened_by u v x y plain is e s t = same_key_data plain x y (s plain is) (t plain (sym e ∙ is))

pub same_opened : (kek : List ℕ) (k : KeyMessage) (f g : Facts) (plain : List ℕ) → KnowsM3 kek k f → KnowsM3 kek k g → f.unwrapped ≡ Some plain → f.data_ ≡ g.data_
same_opened kek k f g plain s t is =
    opened_by f.unwrapped g.unwrapped f.data_ g.data_ plain is (same_plain kek k.fields.key_data f.unwrapped g.unwrapped s.unwrapped t.unwrapped) s.data_ t.data_
