-- Whether an access point of the network has an R0KH-ID, by what key holders answer.
use Rattle.std.proofs.Common.{◌≡◌, ◌≢◌, ◌∙◌, ℕ, Bool, true, false, true≢false, List, Option, Some, None, refl, sym, ap}
use Rattle.std.specs.Prelude.{is_some, map, option_map, position, slice_get, bytes_eq}
use Rattle.std.proofs.lemmas.Slice.Eq.{bytes_eq-Decides}
use Rattle.std.proofs.lemmas.Option.{slice_get-map}
use Rattle.domain_base.specs.declared.names.Node.TheVariants.{Ap}
use Rattle.key_holders.proofs.Searches.{at_position, none_at}
use Rattle.run_journal.specs.declared.domain.Domain.{Domain}
use Rattle.run_journal.specs.declared.domain.ListedAp.{ListedAp}
use Rattle.domain_rules.specs.Network.{holder_of}
use Rattle.ft_exchange.specs.Asking.{ids_of}

abbrev pub has : List ℕ → ListedAp → Bool
has id a = bytes_eq a.r0kh_id id

id_at : (aps : List ListedAp) (r : ℕ) (a : ListedAp) → slice_get aps r ≡ Some a → slice_get (map (λ (x : ListedAp). x.r0kh_id) aps) r ≡ Some a.r0kh_id
id_at aps r a there = slice_get-map (λ (x : ListedAp). x.r0kh_id) aps r ∙ ap (λ (o : Option ListedAp). option_map (λ (x : ListedAp). x.r0kh_id) o) there

ap_at : (aps : List ListedAp) (r : ℕ) (id : List ℕ) → slice_get (map (λ (x : ListedAp). x.r0kh_id) aps) r ≡ Some id → (a : ListedAp) × (slice_get aps r ≡ Some a) × (a.r0kh_id ≡ id)
ap_at aps r id there = by (slice_get aps r) refl
  where
    by : (o : Option ListedAp) → slice_get aps r ≡ o → (a : ListedAp) × (slice_get aps r ≡ Some a) × (a.r0kh_id ≡ id)
    by (Some a) is = (a, is, (let both : Some a.r0kh_id ≡ Some id = sym (id_at aps r a is) ∙ there in cc))
    by None is = absurd (let both : None ≡ Some id = sym (slice_get-map (λ (x : ListedAp). x.r0kh_id) aps r ∙ ap (λ (o : Option ListedAp). option_map (λ (x : ListedAp). x.r0kh_id) o) is) ∙ there in cc)

pub no_holder : (d : Domain) (id : List ℕ) → ((r : ℕ) → slice_get (ids_of d) r ≢ Some id) → is_some (holder_of d id) ≡ false
no_holder d id none = by (position (has id) d.aps) refl
  where
    by : (o : Option ℕ) → position (has id) d.aps ≡ o → is_some (option_map (λ i. Ap i) (position (has id) d.aps)) ≡ false
    by None is = rw is refl
    by (Some r) is = absurd
        (let t = at_position (has id) d.aps r (sym is) in
        none r (id_at d.aps r t.0 t.1 ∙ ap (λ (x : List ℕ). Some x) ((bytes_eq-Decides t.0.r0kh_id id).0 t.2)))

pub some_holder : (d : Domain) (id : List ℕ) (r : ℕ) → slice_get (ids_of d) r ≡ Some id → is_some (holder_of d id) ≡ true
some_holder d id r there = by (position (has id) d.aps) refl
  where
    by : (o : Option ℕ) → position (has id) d.aps ≡ o → is_some (option_map (λ i. Ap i) (position (has id) d.aps)) ≡ true
    by (Some k) is = rw is refl
    by None is = absurd
        (let t = ap_at d.aps r id there in
        true≢false (sym ((bytes_eq-Decides t.0.r0kh_id id).1 t.2) ∙ none_at (has id) d.aps (sym is) r t.0 t.1))
