-- What is read, without where it lies in memory: of a slice the octets, of an absent field nothing (profile).
use Rattle.std.specs.Prelude.{option_map}
use Rattle.std.specs.Option.{option_copied}
use Rattle.rsn_elements.specs.declared.framing.Found.{Found}
use Rattle.rsn_elements.specs.declared.security.Rsne.{Rsne}
use Rattle.rsn_elements.specs.declared.transition.Mde.{Mde}
use Rattle.rsn_elements.specs.declared.transition.WrappedGtk.{WrappedGtk}
use Rattle.rsn_elements.specs.declared.transition.WrappedIgtk.{WrappedIgtk}
use Rattle.rsn_elements.specs.declared.transition.Fte.{Fte}
use Rattle.rsn_elements.specs.declared.keys.GtkKde.{GtkKde}
use Rattle.rsn_elements.specs.declared.keys.IgtkKde.{IgtkKde}
use Rattle.rsn_elements.specs.declared.reading.Elements.{Elements}
use Rattle.rsn_elements.specs.Framing.{Element}
use Rattle.rsn_elements.specs.Rsne.{RsneFields}
use Rattle.rsn_elements.specs.Transition.{MdeFields, WrappedGtkFields, WrappedIgtkFields, FteFields}
use Rattle.rsn_elements.specs.KeyData.{GtkKdeFields, IgtkKdeFields}
use Rattle.rsn_elements.specs.Elements.{ElementFields}

-- an element: its id, and its body
abbrev pub element_of : Found → Element
element_of e = record { id = e.id; body = e.body.now }

-- what an RSNE says
abbrev pub rsne_fields : Rsne → RsneFields
rsne_fields r = record {
  version = r.version;
  group = r.group;
  pairwise = option_map (λ s. s.0.now) r.pairwise;
  akms = option_map (λ s. s.0.now) r.akms;
  capabilities = r.capabilities;
  pmkids = option_map (λ s. s.0.now) r.pmkids;
  management = r.management;
}

-- what an MDE says
abbrev pub mde_fields : Mde → MdeFields
mde_fields m = record { mdid = m.mdid; capability = m.capability }

-- what a GTK subelement says
abbrev pub wrapped_gtk_fields : WrappedGtk → WrappedGtkFields
wrapped_gtk_fields g = record { information = g.information; key_length = g.key_length; rsc = g.rsc; wrapped = g.wrapped.now }

-- what an IGTK subelement says
abbrev pub wrapped_igtk_fields : WrappedIgtk → WrappedIgtkFields
wrapped_igtk_fields g = record { id = g.id; ipn = g.ipn; key_length = g.key_length; wrapped = g.wrapped.now }

-- what an FTE says
abbrev pub fte_fields : Fte → FteFields
fte_fields f = record {
  mic_control = f.mic_control;
  mic = f.mic;
  anonce = f.anonce;
  snonce = f.snonce;
  r1kh_id = f.r1kh_id;
  gtk = option_map wrapped_gtk_fields f.gtk;
  r0kh_id = option_copied f.r0kh_id;
  igtk = option_map wrapped_igtk_fields f.igtk;
}

-- what a GTK KDE says
abbrev pub gtk_kde_fields : GtkKde → GtkKdeFields
gtk_kde_fields g = record { id = g.id; transmit = g.transmit; key = g.key.now }

-- what an IGTK KDE says
abbrev pub igtk_kde_fields : IgtkKde → IgtkKdeFields
igtk_kde_fields g = record { id = g.id; ipn = g.ipn; key = g.key.now }

-- what elements say: what each kind says that is there, and the whole octets of RSNE, MDE and FTE
abbrev pub element_fields : Elements → ElementFields
element_fields e = record {
  rsne = option_map rsne_fields e.rsne;
  mde = option_map mde_fields e.mde;
  fte = option_map fte_fields e.fte;
  gtk = option_map gtk_kde_fields e.gtk;
  igtk = option_map igtk_kde_fields e.igtk;
  deadline = e.deadline;
  lifetime = e.lifetime;
  rsne_octets = option_copied e.rsne_octets;
  mde_octets = option_copied e.mde_octets;
  fte_octets = option_copied e.fte_octets;
}
