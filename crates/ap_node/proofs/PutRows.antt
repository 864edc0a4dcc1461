-- A row that was put or revoked is that of the station.
use Rattle.std.proofs.Common.{◌≡◌, ◌∙◌, ℕ, Bool, true, false, List, [], ◌∷◌, refl, sym, ap, subst}
use Rattle.domain_base.specs.declared.names.Mac.{Mac}
use Rattle.domain_base.specs.declared.names.Node.TheVariants.{Ap, Sta}
use Rattle.key_hierarchy.specs.FastTransition.{pmk_r0, pmk_r0_name}
use Rattle.key_hierarchy.specs.declared.fast_transition.PmkR0.{PmkR0}
use Rattle.key_hierarchy.specs.declared.answers.PutAnswer.{PutAnswer}
use Rattle.key_hierarchy.specs.declared.answers.RevokeAnswer.{RevokeAnswer}
use Rattle.key_holders.specs.declared.rows.HolderRow.{HolderRow}
use Rattle.key_holders.specs.declared.rows.HeldRow.{HeldRow}
use Rattle.key_holders.specs.Keys.{row_of}
use Rattle.key_holders.specs.Rows.{put_answer, after_put, revoke_answer, after_revoke}
use Rattle.run_journal.specs.declared.domain.Domain.{Domain}
use Rattle.run_journal.specs.declared.acts.Act.{Act}
use Rattle.run_journal.specs.declared.acts.Act.TheVariants.{Put, Revoked}
use Rattle.domain_rules.specs.Network.{mac, psk_of, r0kh_id}
use Rattle.ap_node.specs.Putting.{row_at, Puts, PutsWhere, Revokes}

pub row_is : (d : Domain) (a sta : ℕ) (row : HolderRow) (psk id : List ℕ) (m : Mac) → row ≡ row_of (pmk_r0 psk d.ssid d.mdid id m) m → psk ≡ psk_of d (Sta sta) → id ≡ r0kh_id d (Ap a) → m ≡ mac d (Sta sta) → row ≡ row_at d a sta
row_is d a sta row psk id m e p f g = e ∙ (λ i. row_of (pmk_r0 (p i) d.ssid d.mdid (f i) (g i)) (g i))

same_put : {id other name more : List ℕ} (sta : ℕ) (answer : PutAnswer) → id ≡ other → name ≡ more → Put id name (Sta sta) answer ≡ Put other more (Sta sta) answer
same_put sta answer e f = λ i. Put (e i) (f i) (Sta sta) answer

pub puts_by : (d : Domain) (a sta : ℕ) (row : HolderRow) (id : List ℕ) (answer : PutAnswer) (xs ys : List HeldRow) → row ≡ row_at d a sta → id ≡ r0kh_id d (Ap a) → answer ≡ put_answer row.name xs → ys ≡ after_put row answer xs
    → Puts d a sta xs ys (Put id row.name (Sta sta) answer)
puts_by d a sta row id answer xs ys is id_is by behind = record {
  answer = answer;
  is = same_put sta answer id_is (ap (λ (r : HolderRow). r.name) is);
  by_rows = by ∙ ap (λ (r : HolderRow). put_answer r.name xs) is;
  behind = behind ∙ ap (λ (r : HolderRow). after_put r answer xs) is;
}

pub puts_where : (d : Domain) (a sta : ℕ) (b : Bool) (xs ys : List HeldRow) (g : List Act) (act : Act) → b ≡ true → g ≡ act ∷ [] → Puts d a sta xs ys act → PutsWhere b d a sta xs ys g
puts_where d a sta b xs ys g act is told w = subst (λ (x : Bool). PutsWhere x d a sta xs ys g) (sym is) (act, told, w)

pub puts_none : (d : Domain) (a sta : ℕ) (b : Bool) (xs : List HeldRow) (g : List Act) → b ≡ false → g ≡ [] → PutsWhere b d a sta xs xs g
puts_none d a sta b xs g is none = subst (λ (x : Bool). PutsWhere x d a sta xs xs g) (sym is) (none, refl)

-- ---- revoked

pub name_is : (d : Domain) (a sta : ℕ) (name psk id : List ℕ) (m : Mac) (r0 : PmkR0) → name ≡ pmk_r0_name r0 → r0 ≡ pmk_r0 psk d.ssid d.mdid id m → psk ≡ psk_of d (Sta sta) → id ≡ r0kh_id d (Ap a) → m ≡ mac d (Sta sta) → name ≡ (row_at d a sta).name
name_is d a sta name psk id m r0 e f p g k = e ∙ ap pmk_r0_name (f ∙ (λ i. pmk_r0 (p i) d.ssid d.mdid (g i) (k i)))

same_revoked : {id other name more : List ℕ} (sta : ℕ) (answer : RevokeAnswer) → id ≡ other → name ≡ more → Revoked id name (Sta sta) answer ≡ Revoked other more (Sta sta) answer
same_revoked sta answer e f = λ i. Revoked (e i) (f i) (Sta sta) answer

pub revokes_by : (d : Domain) (a sta : ℕ) (name id : List ℕ) (answer : RevokeAnswer) (xs ys : List HeldRow) → name ≡ (row_at d a sta).name → id ≡ r0kh_id d (Ap a) → answer ≡ revoke_answer name xs → ys ≡ after_revoke name answer xs
    → Revokes d a sta xs ys (Revoked id name (Sta sta) answer)
revokes_by d a sta name id answer xs ys is id_is by behind = record {
  answer = answer;
  is = same_revoked sta answer id_is is;
  by_rows = by ∙ ap (λ (m : List ℕ). revoke_answer m xs) is;
  behind = behind ∙ ap (λ (m : List ℕ). after_revoke m answer xs) is;
}
