-- The IPN that was told of an IGTK is one number, as key data has one plain text under a KEK, and so is the receive counter
-- of an IGTK.
use Rattle.std.proofs.Common.{◌≡◌, ℕ, List, [], ◌∷◌, Option, Some, None, refl, sym, ap, subst, ◌∙◌}
use Rattle.domain_base.specs.declared.names.Node.{Node}
use Rattle.rsn_elements.specs.Elements.{ElementFields}
use Rattle.eapol_key.specs.declared.messages.Message.TheVariants.{M3, G1}
use Rattle.run_journal.specs.declared.acts.Kind.TheVariants as frame_kind
use Rattle.run_journal.specs.declared.acts.GroupKind.{GroupKind}
use Rattle.run_journal.specs.declared.acts.GroupKind.TheVariants as groups
use Rattle.run_journal.specs.declared.acts.Act.{Act}
use Rattle.run_journal.specs.Acts.{Derivation, accepted}
use Rattle.run_journal.specs.Questions.{derivation, session}
use Rattle.domain_rules.specs.GroupKeys.{told, got, got_by}
use Rattle.domain_rules.specs.IntegrityKeys.{key_data_in, data_ipn, ReadsPlain, TellsIpn, TellsUnder, ToldBy, ipn_in_response, ToldByResponse, IsIpnTold, IsTold, IsIpnGot, IsGot}
use Rattle.domain_rules.proofs.OneReading.{same_plain, same_key_data}
use Rattle.domain_rules.proofs.SomePlain.{some_unwrapped}
use Rattle.domain_rules.proofs.SomeReading.{some_key_data}

-- ---- what a message tells

one_plain : (u v : Option (List ℕ)) (x y : Option ElementFields) → u ≡ v → ReadsPlain u x → ReadsPlain v y → x ≡ y
one_plain None v x y e s t = let also : ReadsPlain None y = subst (λ (o : Option (List ℕ)). ReadsPlain o y) (sym e) t in s ∙ sym also
one_plain (Some plain) v x y e s t = same_key_data plain x y s (subst (λ (o : Option (List ℕ)). ReadsPlain o y) (sym e) t)

one_tells : (kek octets : List ℕ) (m n : ℕ) → TellsIpn kek octets m → TellsIpn kek octets n → m ≡ n
one_tells kek octets m n s t =
    s.is ∙ ap data_ipn (one_plain s.plain t.plain s.data_ t.data_ (same_plain kek (key_data_in octets) s.plain t.plain s.unwrapped t.unwrapped) s.reads t.reads) ∙ sym t.is

one_under : (x : Option Derivation) (octets : List ℕ) (m n : ℕ) → TellsUnder x octets m → TellsUnder x octets n → m ≡ n
one_under None octets m n s t = s ∙ sym t
one_under (Some x) octets m n s t = one_tells x.ptk.kek octets m n s t

one_told_by : (x : Option Derivation) (o : Option (List ℕ)) (m n : ℕ) (before after : Type 0) → (before → after → m ≡ n) → ToldBy x o m before → ToldBy x o n after → m ≡ n
one_told_by x None m n before after rest s t = rest s t
one_told_by x (Some octets) m n before after rest s t = one_under x octets m n s t

one_by_response : (o : Option (List ℕ)) (m n : ℕ) (before after : Type 0) → (before → after → m ≡ n) → ToldByResponse o m before → ToldByResponse o n after → m ≡ n
one_by_response None m n before after rest s t = rest s t
one_by_response (Some octets) m n before after rest s t = s ∙ sym t

-- what was told but for M3, and but for G1 too
abbrev ByResponse : Node → Act → List Act → ℕ → Type 0
ByResponse p e h n = ToldByResponse (accepted p frame_kind.ReResp e) n (IsIpnTold p h n)

abbrev ByG1 : Node → Act → List Act → ℕ → Type 0
ByG1 p e h n = ToldBy (session p h) (accepted p (frame_kind.Key G1) e) n (ByResponse p e h n)

pub one_ipn_told : (p : Node) (h : List Act) (m n : ℕ) → IsIpnTold p h m → IsIpnTold p h n → m ≡ n
one_ipn_told p [] m n s t = s ∙ sym t
one_ipn_told p (e ∷ h) m n s t =
    one_told_by (derivation p h) (accepted p (frame_kind.Key M3) e) m n (ByG1 p e h m) (ByG1 p e h n) (λ a b. (
    one_told_by (session p h) (accepted p (frame_kind.Key G1) e) m n (ByResponse p e h m) (ByResponse p e h n) (λ v w. (
    one_by_response (accepted p frame_kind.ReResp e) m n (IsIpnTold p h m) (IsIpnTold p h n) (λ x y. one_ipn_told p h m n x y) v w)) a b)) s t

pub one_told : (kind : GroupKind) (p : Node) (h : List Act) (m n : ℕ) → IsTold kind p h m → IsTold kind p h n → m ≡ n
one_told groups.Gtk p h m n s t = s ∙ sym t
one_told groups.Igtk p h m n s t = one_ipn_told p h m n s t

-- ---- some number is told

some_plain_read : (u : Option (List ℕ)) → (x : Option ElementFields) × ReadsPlain u x
some_plain_read None = (None, refl)
some_plain_read (Some plain) = some_key_data plain

some_tells : (kek octets : List ℕ) → (n : ℕ) × TellsIpn kek octets n
some_tells kek octets =
    let u = some_unwrapped kek (key_data_in octets) in
    let x = some_plain_read u.0 in
    (data_ipn x.0, record { plain = u.0; unwrapped = u.1; data_ = x.0; reads = x.1; is = refl })

some_under : (x : Option Derivation) (octets : List ℕ) → (n : ℕ) × TellsUnder x octets n
some_under None octets = (0, refl)
some_under (Some x) octets = some_tells x.ptk.kek octets

some_told_by : (x : Option Derivation) (o : Option (List ℕ)) (P : ℕ → Type 0) → (n : ℕ) × P n → (n : ℕ) × ToldBy x o n (P n)
some_told_by x None P before = before
some_told_by x (Some octets) P before = some_under x octets

some_by_response : (o : Option (List ℕ)) (P : ℕ → Type 0) → (n : ℕ) × P n → (n : ℕ) × ToldByResponse o n (P n)
some_by_response None P before = before
some_by_response (Some octets) P before = (ipn_in_response octets, refl)

pub some_ipn_told : (p : Node) (h : List Act) → (n : ℕ) × IsIpnTold p h n
some_ipn_told p [] = (0, refl)
some_ipn_told p (e ∷ h) =
    some_told_by (derivation p h) (accepted p (frame_kind.Key M3) e) (ByG1 p e h)
    (some_told_by (session p h) (accepted p (frame_kind.Key G1) e) (ByResponse p e h)
    (some_by_response (accepted p frame_kind.ReResp e) (IsIpnTold p h) (some_ipn_told p h)))

pub some_told : (kind : GroupKind) (p : Node) (h : List Act) → (n : ℕ) × IsTold kind p h n
some_told groups.Gtk p h = (told p h, refl)
some_told groups.Igtk p h = some_ipn_told p h

-- ---- the receive counter

pub one_ipn_got : (p : Node) (key : List ℕ) (id : ℕ) (h : List Act) (m n : ℕ) → IsIpnGot p key id h m → IsIpnGot p key id h n → m ≡ n
one_ipn_got p key id [] m n s t = s ∙ sym t
one_ipn_got p key id (e ∷ h) m n (heard, (told_is, (before, (was, is)))) (other, (told_too, (earlier, (was_too, also)))) =
    is ∙ ap (λ (x : ℕ). got_by groups.Igtk p key id e x before) (one_ipn_told p h heard other told_is told_too)
    ∙ ap (got_by groups.Igtk p key id e other) (one_ipn_got p key id h before earlier was was_too) ∙ sym also

pub one_got : (kind : GroupKind) (p : Node) (key : List ℕ) (id : ℕ) (h : List Act) (m n : ℕ) → IsGot kind p key id h m → IsGot kind p key id h n → m ≡ n
one_got groups.Gtk p key id h m n s t = s ∙ sym t
one_got groups.Igtk p key id h m n s t = one_ipn_got p key id h m n s t

pub some_ipn_got : (p : Node) (key : List ℕ) (id : ℕ) (h : List Act) → (n : ℕ) × IsIpnGot p key id h n
some_ipn_got p key id [] = (0, refl)
some_ipn_got p key id (e ∷ h) =
    let heard = some_ipn_told p h in
    let before = some_ipn_got p key id h in
    (got_by groups.Igtk p key id e heard.0 before.0, (heard.0, (heard.1, (before.0, (before.1, refl)))))

pub some_got : (kind : GroupKind) (p : Node) (key : List ℕ) (id : ℕ) (h : List Act) → (n : ℕ) × IsGot kind p key id h n
some_got groups.Gtk p key id h = (got p key id h, refl)
some_got groups.Igtk p key id h = some_ipn_got p key id h
