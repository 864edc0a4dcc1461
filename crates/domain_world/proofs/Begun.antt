-- Round 0 with one more node.
use Rattle.std.proofs.Common.{◌≡◌, ℕ, suc, ◌<◌, List, [], ◌∷◌, length, refl, sym, ap, ◌∙◌, arith, length-append, Option}
use Rattle.std.specs.Prelude.{unwrap_or, option_map}
use Rattle.domain_base.specs.declared.names.Mac.{Mac}
use Rattle.domain_base.specs.declared.names.Node.{Node}
use Rattle.domain_base.specs.declared.names.Node.TheVariants.{Ap}
use Rattle.run_journal.specs.declared.acts.Act.{Act}
use Rattle.run_journal.specs.declared.domain.Domain.{Domain}
use Rattle.run_journal.specs.declared.domain.ListedAp.{ListedAp}
use Rattle.run_journal.specs.declared.acts.Entry.{Entry}
use Rattle.domain_rules.specs.Network.{mac}
use Rattle.domain_rules.specs.AccessPointRows.{start_acts}
use Rattle.domain_rules.specs.Explained.{push, started}
use Rattle.domain_rules.proofs.Journals.{started_none, started_more, same-started}
use Rattle.run_journal.specs.declared.domain.Extra.{Extra}
use Rattle.run_journal.specs.Listing.{with_ap, with_sta, with_extra}
use Rattle.domain_world.proofs.Lists.{get_before}

same_mac : (d : Domain) (address : Mac) (r0kh_id : List ℕ) (k : ℕ) → k < length d.aps → mac d (Ap k) ≡ mac (with_ap d address r0kh_id) (Ap k)
same_mac d address r0kh_id k low =
    ap (λ (o : Option ListedAp). unwrap_or (option_map (λ (a : ListedAp). a.address) o) (record { 0 = [] })) (sym (get_before d.aps (record { address = address; r0kh_id = r0kh_id } ∷ []) k low))

-- the access point starts
ap_starts : (d : Domain) (address : Mac) (r0kh_id : List ℕ) → push 0 (Ap (length d.aps)) (start_acts (with_ap d address r0kh_id) 0 (Ap (length d.aps))) (started d (length d.aps))
    ≡ started (with_ap d address r0kh_id) (length (with_ap d address r0kh_id).aps)
ap_starts d address r0kh_id =
    let e = with_ap d address r0kh_id in
    let k = length d.aps in
    let count : suc k ≡ length e.aps = omega (arith, length-append d.aps (record { address = address; r0kh_id = r0kh_id } ∷ [])) in
    ap (push 0 (Ap k) (start_acts e 0 (Ap k))) (same-started d e k refl refl (λ i low. same_mac d address r0kh_id i low)) ∙ sym (started_more e k) ∙ ap (started e) count

pub started_ap : (d e : Domain) (address : Mac) (r0kh_id : List ℕ) (node : Node) (acts : List Act) (j k : List Entry) → e ≡ with_ap d address r0kh_id → node ≡ Ap (length d.aps) → acts ≡ start_acts e 0 node
    → k ≡ push 0 node acts j → j ≡ started d (length d.aps) → k ≡ started e (length e.aps)
started_ap d e address r0kh_id node acts j k domain at starts is before =
    is ∙ ap (push 0 node acts) before ∙ ap (λ (g : List Act). push 0 node g (started d (length d.aps))) starts
    ∙ ap (λ (n : Node). push 0 n (start_acts e 0 n) (started d (length d.aps))) at ∙ ap (λ (x : Domain). push 0 (Ap (length d.aps)) (start_acts x 0 (Ap (length d.aps))) (started d (length d.aps))) domain
    ∙ ap_starts d address r0kh_id ∙ ap (λ (x : Domain). started x (length x.aps)) (sym domain)

-- a station does nothing
pub started_sta : (d e : Domain) (address : Mac) (psk : List ℕ) (j : List Entry) → e ≡ with_sta d address psk → j ≡ started d (length d.aps) → j ≡ started e (length e.aps)
started_sta d e address psk j domain before = before ∙ same-started d (with_sta d address psk) (length d.aps) refl refl (λ i low. refl) ∙ ap (λ (x : Domain). started x (length x.aps)) (sym domain)

-- and nothing is done where the header has one line more, since no node is listed
pub started_extra : (d e : Domain) (extra : Extra) (j : List Entry) → d.aps ≡ [] → e ≡ with_extra d extra → j ≡ started d (length d.aps) → j ≡ started e (length e.aps)
started_extra d e extra j none domain before =
    let same : e.aps ≡ [] = ap (λ (x : Domain). x.aps) domain ∙ none in
    before ∙ ap (λ (l : List ListedAp). started d (length l)) none ∙ started_none d ∙ sym (started_none e) ∙ ap (λ (l : List ListedAp). started e (length l)) (sym same)
