-- How an attempt began: one kind is no other.
use Rattle.std.proofs.Common.{◌≡◌, true, false, Option, Some, None, refl}
use Rattle.run_journal.specs.declared.acts.Start.{Start}
use Rattle.run_journal.specs.declared.acts.Start.TheVariants.{Connect, Roam, Renew}
use Rattle.domain_rules.specs.Asking.{is_connect, has_four_way, is_roam, is_renewal}

pub four_way_by_connect : (o : Option Start) → is_connect o ≡ true → has_four_way o ≡ true
four_way_by_connect (Some Connect) begun = refl
four_way_by_connect (Some Roam) begun = absurd (cc begun)
four_way_by_connect (Some Renew) begun = absurd (cc begun)
four_way_by_connect None begun = absurd (cc begun)

pub connect_is : (o : Option Start) → is_connect o ≡ true → o ≡ Some Connect
connect_is (Some Connect) begun = refl
connect_is (Some Roam) begun = absurd (cc begun)
connect_is (Some Renew) begun = absurd (cc begun)
connect_is None begun = absurd (cc begun)

pub renewal_is : (o : Option Start) → is_renewal o ≡ true → o ≡ Some Renew
renewal_is (Some Connect) begun = absurd (cc begun)
renewal_is (Some Roam) begun = absurd (cc begun)
renewal_is (Some Renew) begun = refl
renewal_is None begun = absurd (cc begun)

pub connects_by_four_way : (o : Option Start) → has_four_way o ≡ true → is_renewal o ≡ false → is_connect o ≡ true
connects_by_four_way (Some Connect) begun other = refl
connects_by_four_way (Some Roam) begun other = absurd (cc begun)
connects_by_four_way (Some Renew) begun other = absurd (cc other)
connects_by_four_way None begun other = absurd (cc begun)

pub four_way_no_roam : (o : Option Start) → has_four_way o ≡ true → is_roam o ≡ false
four_way_no_roam (Some Connect) begun = refl
four_way_no_roam (Some Roam) begun = absurd (cc begun)
four_way_no_roam (Some Renew) begun = refl
four_way_no_roam None begun = refl

pub connect_no_roam : (o : Option Start) → is_connect o ≡ true → is_roam o ≡ false
connect_no_roam (Some Connect) begun = refl
connect_no_roam (Some Roam) begun = absurd (cc begun)
connect_no_roam (Some Renew) begun = refl
connect_no_roam None begun = refl

pub connect_no_renewal : (o : Option Start) → is_connect o ≡ true → is_renewal o ≡ false
connect_no_renewal (Some Connect) begun = refl
connect_no_renewal (Some Roam) begun = refl
connect_no_renewal (Some Renew) begun = absurd (cc begun)
connect_no_renewal None begun = refl

pub roam_no_four_way : (o : Option Start) → is_roam o ≡ true → has_four_way o ≡ false
roam_no_four_way (Some Connect) begun = absurd (cc begun)
roam_no_four_way (Some Roam) begun = refl
roam_no_four_way (Some Renew) begun = absurd (cc begun)
roam_no_four_way None begun = refl

pub roam_no_connect : (o : Option Start) → is_roam o ≡ true → is_connect o ≡ false
roam_no_connect (Some Connect) begun = absurd (cc begun)
roam_no_connect (Some Roam) begun = refl
roam_no_connect (Some Renew) begun = absurd (cc begun)
roam_no_connect None begun = refl

pub roam_no_renewal : (o : Option Start) → is_roam o ≡ true → is_renewal o ≡ false
roam_no_renewal (Some Connect) begun = absurd (cc begun)
roam_no_renewal (Some Roam) begun = refl
roam_no_renewal (Some Renew) begun = absurd (cc begun)
roam_no_renewal None begun = refl

pub renewal_no_connect : (o : Option Start) → is_renewal o ≡ true → is_connect o ≡ false
renewal_no_connect (Some Connect) begun = absurd (cc begun)
renewal_no_connect (Some Roam) begun = absurd (cc begun)
renewal_no_connect (Some Renew) begun = refl
renewal_no_connect None begun = refl
