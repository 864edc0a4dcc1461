-- What is found by a name is what has that name.
use Rattle.std.proofs.Common.{◌≡◌, ℕ, suc, ◌+◌, ◌<◌, true, false, cond, List, [], ◌∷◌, drop, get_or, length, refl, sym, ap, ◌∙◌, add-one, drop-cons, Bor, bytes_eq}
use Rattle.std.specs.List.{AllByRecursion}
use Rattle.domain_base.specs.declared.names.Akm.{Akm}
use Rattle.domain_base.specs.declared.names.Akm.TheVariants.{Psk, PskSha256, FtPsk}
use Rattle.eapol_key.specs.declared.messages.Message.{Message}
use Rattle.eapol_key.specs.declared.messages.Message.TheVariants.{M1, M2, M3, M4, G1, G2}
use Rattle.key_hierarchy.specs.declared.answers.PutAnswer.{PutAnswer}
use Rattle.key_hierarchy.specs.declared.answers.PutAnswer.TheVariants as put
use Rattle.key_hierarchy.specs.declared.answers.RevokeAnswer.{RevokeAnswer}
use Rattle.key_hierarchy.specs.declared.answers.RevokeAnswer.TheVariants as revoke
use Rattle.run_journal.specs.declared.acts.GroupKind.{GroupKind}
use Rattle.run_journal.specs.declared.acts.GroupKind.TheVariants as groups
use Rattle.run_journal.specs.declared.acts.Start.{Start}
use Rattle.run_journal.specs.declared.acts.Start.TheVariants.{Connect, Roam, Renew}
use Rattle.run_journal.specs.declared.acts.Part.{Part}
use Rattle.run_journal.specs.declared.acts.Part.TheVariants.{Attempt, Session}
use Rattle.run_journal.specs.declared.acts.Kind.{Kind}
use Rattle.run_journal.specs.declared.acts.Kind.TheVariants as kind
use Rattle.run_journal.specs.declared.acts.Why.{Why}
use Rattle.run_journal.specs.declared.acts.Why.TheVariants as why
use Rattle.run_journal.specs.declared.acts.Act.{Act}
use Rattle.run_journal.specs.declared.acts.Act.TheVariants as act
use Rattle.run_journal.specs.Report.{group_text, kind_text, message_text, part_text, put_text, revoke_text, start_text, why_text}
use Rattle.entry_lines.specs.declared.names.ActKind.TheVariants as acts
use Rattle.entry_lines.specs.Acts.{kind_of}
use Rattle.entry_lines.specs.Entries.{HasAnswerLine}
use Rattle.entry_lines.specs.Lines.{act_words, akm_text}
use Rattle.entry_lines.specs.Names.{act_kinds, akms, group_kinds, kinds, listed, messages, named, parts, puts, revokes, starts, whys}

-- the names from a place on
pub named_step : {A : Type 0} (names : List (Bor (List ℕ) × A)) (i : ℕ) (item : Bor (List ℕ) × A) (word : List ℕ) (other : A) → i < length names → item ≡ get_or names i item
    → named (listed (drop i names)) word other ≡ cond (bytes_eq word item.0.now) item.1 (named (listed (drop (i + 1) names)) word other)
named_step {A} names i item word other inside is =
    ap (λ (l : List (Bor (List ℕ) × A)). named (listed l) word other) (drop-cons names i item inside ∙ ap (λ (n : Bor (List ℕ) × A). n ∷ drop (suc i) names) (sym is)) ∙ rw add-one refl

-- what is true of all values is true of the one that is found
pub named_all : {A : Type 0} (P : A → Type 0) (names : List (List ℕ × A)) (word : List ℕ) (other : A) → AllByRecursion (λ n. P n.1) names → P other → P (named names word other)
named_all P [] word other all last = last
named_all P (name ∷ names) word other all last =
    elim (bytes_eq word name.0) as (λ b. P (cond b name.1 (named names word other))) [ true ↦ all.0 | false ↦ named_all P names word other all.1 last ]

pub start_named : (s : Start) → named starts (start_text s) Connect ≡ s
start_named Connect = refl
start_named Roam = refl
start_named Renew = refl

pub part_named : (p : Part) → named parts (part_text p) Attempt ≡ p
part_named Attempt = refl
part_named Session = refl

pub message_named : (m : Message) → named messages (message_text m) M1 ≡ m
message_named M1 = refl
message_named M2 = refl
message_named M3 = refl
message_named M4 = refl
message_named G1 = refl
message_named G2 = refl

pub group_named : (k : GroupKind) → named group_kinds (group_text k) groups.Gtk ≡ k
group_named groups.Gtk = refl
group_named groups.Igtk = refl

pub kind_named : (k : Kind) → named kinds (kind_text k) kind.Unread ≡ k
kind_named kind.AssocReq = refl
kind_named kind.AssocResp = refl
kind_named kind.FtReq = refl
kind_named kind.FtResp = refl
kind_named kind.ReReq = refl
kind_named kind.ReResp = refl
kind_named (kind.Key M1) = refl
kind_named (kind.Key M2) = refl
kind_named (kind.Key M3) = refl
kind_named (kind.Key M4) = refl
kind_named (kind.Key G1) = refl
kind_named (kind.Key G2) = refl
kind_named kind.Data = refl
kind_named kind.Action = refl
kind_named kind.Ignored = refl
kind_named kind.Unread = refl
kind_named kind.Eapol = refl

pub akm_named : (a : Akm) → named akms (akm_text a) Psk ≡ a
akm_named Psk = refl
akm_named PskSha256 = refl
akm_named FtPsk = refl

pub why_named : (y : Why) → named whys (why_text y) why.Spent ≡ y
why_named why.NoSession = refl
why_named why.SamePeer = refl
why_named why.Nothing = refl
why_named why.RekeyPending = refl
why_named why.NoKey = refl
why_named why.Spent = refl

pub put_named : (a : PutAnswer) → HasAnswerLine a → named puts (put_text a) put.Held ≡ a
put_named put.Held has = refl
put_named put.HeldAlready has = refl
put_named put.Full has = refl
put_named put.NoMemory has = absurd has

pub put_has : (word : List ℕ) → HasAnswerLine (named puts word put.Held)
put_has word = named_all HasAnswerLine puts word put.Held (tt, (tt, (tt, tt))) tt

pub revoke_named : (a : RevokeAnswer) → named revokes (revoke_text a) revoke.Absent ≡ a
revoke_named revoke.Revoked = refl
revoke_named revoke.Absent = refl

pub act_named : (number : ℕ) (a : Act) → named act_kinds (get_or (act_words number a) 0 []) acts.Idle ≡ kind_of a
act_named number (act.Opened p s) = refl
act_named number (act.Closed p part) = refl
act_named number (act.Drew v) = refl
act_named number (act.Derived p i k) = refl
act_named number (act.Sent p k octets s) = refl
act_named number (act.Took from octets k o s) = refl
act_named number (act.Installed p key) = refl
act_named number (act.Resumed p key) = refl
act_named number (act.Used p key id n octets) = refl
act_named number (act.HandedUp p key id tid n octets) = refl
act_named number (act.Finished p i) = refl
act_named number (act.Put x m p answer) = refl
act_named number (act.Looked x m p answer) = refl
act_named number (act.Revoked x m p answer) = refl
act_named number (act.Secret p psk) = refl
act_named number (act.GaveUp p m) = refl
act_named number (act.Idle y) = refl
act_named number (act.Link sta s) = refl
