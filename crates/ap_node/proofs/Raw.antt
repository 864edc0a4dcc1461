-- The octets that were kept of a frame's elements are theirs.
use Rattle.std.proofs.Common.{◌≡◌, subst}
use Rattle.rsn_elements.specs.Elements.{ElementFields, HasRaw}
use Rattle.rsn_elements.specs.Fields.{element_fields}
use Rattle.rsn_elements.specs.declared.reading.Elements.{Elements}
use Rattle.domain_rules.specs.Reading.{Managed}
use Rattle.domain_rules.specs.Reading.{Management as ManagementFields}
use Rattle.frame_intake.specs.declared.delivered.Management.{Management}
use Rattle.frame_intake.specs.declared.delivered.Delivered.{Delivered}
use Rattle.frame_intake.specs.declared.delivered.Delivered.TheVariants as delivered
use Rattle.frame_intake.specs.Views.{management_fields, reading_of, IsWhole}

pub managed_raw : (x : Delivered) (b : ManagementFields) (e : ElementFields) → IsWhole x → reading_of x ≡ Managed b e → HasRaw e
managed_raw (delivered.Managed m f) b e whole is = subst HasRaw (same m f b e is) whole
  where
    same : (m : Management) (f : Elements) (b : ManagementFields) (e : ElementFields) → Managed (management_fields m) (element_fields f) ≡ Managed b e → element_fields f ≡ e
    same m f b e is = cc
managed_raw (delivered.NoFrame fault) b e whole is = absurd (cc is)
managed_raw delivered.PassedOver b e whole is = absurd (cc is)
managed_raw (delivered.NoElements m fault) b e whole is = absurd (cc is)
managed_raw (delivered.NoKeyFrame h fault) b e whole is = absurd (cc is)
managed_raw (delivered.NoMessage h) b e whole is = absurd (cc is)
managed_raw (delivered.Keyed k) b e whole is = absurd (cc is)
managed_raw (delivered.Sealed z) b e whole is = absurd (cc is)
managed_raw (delivered.Acting z) b e whole is = absurd (cc is)
