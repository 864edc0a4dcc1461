-- The pairwise key between two ends is the one of its inputs.
use Rattle.std.proofs.Common.{◌≡◌, ◌≢◌, ℕ, List, refl, sym, ap, subst, ◌∙◌}
use Rattle.domain_base.specs.declared.names.Akm.{Akm}
use Rattle.domain_base.specs.declared.names.Akm.TheVariants.{Psk as TwoPsk, PskSha256 as SixPsk, FtPsk}
use Rattle.domain_base.specs.declared.names.Mac.{Mac}
use Rattle.domain_base.specs.declared.names.Node.{Node}
use Rattle.domain_base.specs.declared.names.Node.TheVariants.{Ap, Sta}
use Rattle.air_frame.specs.declared.frame.Direction.{Direction}
use Rattle.air_frame.specs.declared.frame.Direction.TheVariants.{ToDs, FromDs}
use Rattle.key_hierarchy.specs.declared.inputs.Inputs.{Inputs}
use Rattle.key_hierarchy.specs.declared.inputs.Ptk.{Ptk}
use Rattle.key_hierarchy.specs.FastTransition.{ft_ptk}
use Rattle.key_hierarchy.specs.Keys.{pairwise_ptk, ptk}
use Rattle.key_hierarchy.proofs.Suites.{ptk-pairwise, ptk-ft}
use Rattle.run_journal.specs.declared.domain.Domain.{Domain}
use Rattle.run_journal.specs.declared.reply.Keyed.{Keyed}
use Rattle.domain_rules.specs.Network.{Root, mac}
use Rattle.domain_rules.specs.Replies.{inputs_by}
use Rattle.node_base.specs.declared.ends.Ends.{Ends}
use Rattle.node_base.specs.declared.pairwise.Pmk.{Pmk}
use Rattle.node_base.specs.declared.pairwise.Pmk.TheVariants.{Psk, PskSha256, R1}
use Rattle.node_base.specs.Ends.{AreEnds}
use Rattle.node_base.specs.PairwiseKeys.{ap_by, sta_by, pmk_by, pmk_of, ptk_with, key_with, IsKeyOf}

-- what two nonces make of it, by direction and addresses
abbrev made : Direction → Mac → Mac → Pmk → List ℕ → List ℕ → Ptk
made way own peer (Psk psk) anonce snonce = pairwise_ptk TwoPsk psk (ap_by way own peer) (sta_by way own peer) anonce snonce
made way own peer (PskSha256 psk) anonce snonce = pairwise_ptk SixPsk psk (ap_by way own peer) (sta_by way own peer) anonce snonce
made way own peer (R1 r1) anonce snonce = ft_ptk r1 snonce anonce (ap_by way own peer) (sta_by way own peer)

made_with : (l : Ends) (m : Pmk) (anonce snonce : List ℕ) → ptk_with l m anonce snonce ≡ made l.direction l.own l.peer m anonce snonce
made_with l (Psk psk) anonce snonce = refl
made_with l (PskSha256 psk) anonce snonce = refl
made_with l (R1 r1) anonce snonce = refl

same_made : {e f : Direction} {a b m n : Mac} (k : Pmk) (u s : List ℕ) → e ≡ f → a ≡ b → m ≡ n → made e a m k u s ≡ made f b n k u s
same_made k u s way own peer = rw (way, own, peer) refl

-- of an access point and a station it is the key of the inputs
plain_made : (akm : Akm) (psk : List ℕ) (i : Inputs) → akm ≢ FtPsk → i.akm ≡ akm → i.psk ≡ psk → pairwise_ptk akm psk i.aa i.spa i.anonce i.snonce ≡ ptk i
plain_made akm psk i other suite is = rw (← is, ← suite) (sym (ptk-pairwise i (λ e. other (sym suite ∙ e))))

ft_made : (d : Domain) (r : Root) (i : Inputs) → i.akm ≡ FtPsk → i.psk ≡ r.psk → i.ssid ≡ d.ssid → i.mdid ≡ r.mdid → i.r0kh_id ≡ r.r0kh_id
    → made FromDs i.aa i.spa (pmk_by FtPsk d r i.aa i.spa) i.anonce i.snonce ≡ ptk i
ft_made d r i suite psk ssid mdid id = rw (← psk, ← ssid, ← mdid, ← id) (sym (ptk-ft i suite))

made_key : (akm : Akm) (d : Domain) (r : Root) (i : Inputs) → i.akm ≡ akm → i.psk ≡ r.psk → i.ssid ≡ d.ssid → i.mdid ≡ r.mdid → i.r0kh_id ≡ r.r0kh_id
    → made FromDs i.aa i.spa (pmk_by akm d r i.aa i.spa) i.anonce i.snonce ≡ ptk i
made_key TwoPsk d r i suite psk ssid mdid id = plain_made TwoPsk r.psk i (λ e. cc e) suite psk
made_key SixPsk d r i suite psk ssid mdid id = plain_made SixPsk r.psk i (λ e. cc e) suite psk
made_key FtPsk d r i suite psk ssid mdid id = ft_made d r i suite psk ssid mdid id

-- and from the station's side the same
turned : (m : Pmk) (aa spa : Mac) (u s : List ℕ) → made ToDs spa aa m u s ≡ made FromDs aa spa m u s
turned (Psk psk) aa spa u s = refl
turned (PskSha256 psk) aa spa u s = refl
turned (R1 r1) aa spa u s = refl

pub key_is : (d : Domain) (r : Root) (n p : Node) (l : Ends) (m : Pmk) (y : Keyed) → AreEnds d n p l → m ≡ pmk_of d r n p → IsKeyOf l m y → y.ptk ≡ ptk (inputs_by d r n p y)
key_is d r (Ap k) p l m y ends is of =
    let i : Inputs = inputs_by d r (Ap k) p y in
    of ∙ made_with l m y.anonce y.snonce
    ∙ same_made {f = FromDs} {b = mac d (Ap k)} {n = mac d p} m y.anonce y.snonce ends.direction_is ends.own ends.peer
    ∙ ap (λ (z : Pmk). made FromDs (mac d (Ap k)) (mac d p) z y.anonce y.snonce) is
    ∙ made_key d.akm d r i refl refl refl refl refl
key_is d r (Sta k) p l m y ends is of =
    let i : Inputs = inputs_by d r (Sta k) p y in
    of ∙ made_with l m y.anonce y.snonce
    ∙ same_made {f = ToDs} {b = mac d (Sta k)} {n = mac d p} m y.anonce y.snonce ends.direction_is ends.own ends.peer
    ∙ ap (λ (z : Pmk). made ToDs (mac d (Sta k)) (mac d p) z y.anonce y.snonce) is
    ∙ turned (pmk_of d r (Sta k) p) (mac d p) (mac d (Sta k)) y.anonce y.snonce
    ∙ made_key d.akm d r i refl refl refl refl refl

-- the key that was made of two nonces is that of its nonces
pub is_key_of : (l : Ends) (m : Pmk) (anonce snonce : List ℕ) (y : Keyed) → y ≡ key_with l m anonce snonce → IsKeyOf l m y
is_key_of l m anonce snonce y is = subst (λ (x : Keyed). IsKeyOf l m x) (sym is) refl
