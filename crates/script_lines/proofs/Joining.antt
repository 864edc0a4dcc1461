-- An event that a line in a round asks for is one at an access point.
use Rattle.std.proofs.Common.{◌≡◌, ℕ, ◌<◌, Bool, true, false, if◌then◌else◌, List, Option, None, Some, Result, Ok, Err, subst}
use Rattle.std.specs.Prelude.{nat_le, nat_lt, option_map}
use Rattle.domain_base.specs.declared.names.Node.{Node}
use Rattle.domain_base.specs.declared.names.Node.TheVariants.{Ap, Sta}
use Rattle.run_journal.specs.declared.domain.Domain.{Domain}
use Rattle.run_journal.specs.declared.domain.Event.{Event}
use Rattle.run_journal.specs.Limits.{most_events}
use Rattle.script_words.specs.declared.forms.Form.{Form}
use Rattle.script_words.specs.declared.forms.Form.TheVariants as form
use Rattle.script_lines.specs.declared.events.Asked.{Asked}
use Rattle.script_lines.specs.declared.events.Asked.TheVariants as asked
use Rattle.script_words.specs.Tokens.{NodeWord, PeerWord, split_word, number_of_digits, node_word, peer_word, tid_word, hex_octets}
use Rattle.script_lines.specs.Script.{◌>>=◌, need, Fault, arguments, node_, frame_, listed_ap, listed_sta, listed, event_node, size_of, to_word, ap_and_sta, deliver_line, alter_line, cut_line, frame_octets, payload_octets, inject_line, rekey_line, receiver_by, send_payload, send_between, send_line, event_of}
use Rattle.script_lines.specs.Headers.{CanHappen, IsAtAp}
use Rattle.script_lines.specs.Sentences.{CanAsk, CanJoin}
use Rattle.script_lines.specs.Sentences as sentences

abbrev AtAp : Result Event Fault → Type 0
AtAp (Ok event) = IsAtAp event
AtAp (Err fault) = Unit {0}

either : (b : Bool) (x y : Result Event Fault) → AtAp x → AtAp y → AtAp (if b then x else y)
either true x y p q = p
either false x y p q = q

behind : {A : Type 0} (r : Result A Fault) (f : A → Result Event Fault) → ((a : A) → AtAp (f a)) → AtAp (r >>= f)
behind (Ok a) f p = p a
behind (Err fault) f p = tt

node_in : (b : Bool) (ap sta : Option ℕ) (f : Node → Result Event Fault) → ((k : ℕ) → AtAp (f (Ap k))) → AtAp (need node_ (if b then (if b then option_map Ap ap else option_map Sta sta) else None) >>= f)
node_in true None sta f p = tt
node_in true (Some k) sta f p = p k
node_in false ap sta f p = tt

-- of the nodes that may be named in a round
behind_ap : (d : Domain) (w : NodeWord) (f : Node → Result Event Fault) → ((k : ℕ) → AtAp (f (Ap k))) → AtAp (need node_ (event_node true d w) >>= f)
unfolding event_node listed
behind_ap d w f p = node_in w.is_ap (listed_ap d w) (listed_sta d w) f p

deliver_at : (d : Domain) (sizes text : List ℕ) → AtAp (deliver_line d true sizes text)
unfolding deliver_line
deliver_at d sizes text =
    behind (need arguments (split_word text)) _ (λ words. behind (need arguments (number_of_digits words.0)) _ (λ number. behind (need arguments (to_word words.1)) _ (λ w.
    behind_ap d w _ (λ k. behind (need frame_ (size_of sizes number)) _ (λ size. tt)))))

alter_at : (d : Domain) (sizes text : List ℕ) → AtAp (alter_line d true sizes text)
unfolding alter_line
alter_at d sizes text =
    behind (need arguments (split_word text)) _ (λ words. behind (need arguments (number_of_digits words.0)) _ (λ number. behind (need arguments (split_word words.1)) _ (λ more.
    behind (need arguments (number_of_digits more.0)) _ (λ place. behind (need arguments (split_word more.1)) _ (λ last. behind (need arguments (hex_octets 1 last.0)) _ (λ mask.
    behind (need arguments (to_word last.1)) _ (λ w. behind_ap d w _ (λ k. behind (need frame_ (size_of sizes number)) _ (λ size. either (nat_lt place size) _ _ tt tt)))))))))

cut_at : (d : Domain) (sizes text : List ℕ) → AtAp (cut_line d true sizes text)
unfolding cut_line
cut_at d sizes text =
    behind (need arguments (split_word text)) _ (λ words. behind (need arguments (number_of_digits words.0)) _ (λ number. behind (need arguments (split_word words.1)) _ (λ more.
    behind (need arguments (number_of_digits more.0)) _ (λ count. behind (need arguments (to_word more.1)) _ (λ w. behind_ap d w _ (λ k.
    behind (need frame_ (size_of sizes number)) _ (λ size. either (nat_le count size) _ _ tt tt)))))))

inject_at : (d : Domain) (text : List ℕ) → AtAp (inject_line d true text)
unfolding inject_line
inject_at d text =
    behind (need arguments (split_word text)) _ (λ words. behind (need arguments (node_word words.0)) _ (λ w. behind (frame_octets words.1) _ (λ octets. behind_ap d w _ (λ k. tt))))

send_payload_at : (d : Domain) (f : NodeWord) (t : PeerWord) (tid : Option ℕ) (text : List ℕ) → AtAp (send_payload d true f t tid text)
unfolding send_payload
send_payload_at d f t tid text =
    behind (payload_octets text) _ (λ octets. behind_ap d f _ (λ k. behind (need node_ (receiver_by d (Ap k) t)) _ (λ to. tt)))

send_between_at : (d : Domain) (f : NodeWord) (t : PeerWord) (text : List ℕ) → AtAp (send_between d true f t text)
unfolding send_between
send_between_at d f t text =
    behind (need arguments (split_word text)) _ (λ words. behind (need arguments (tid_word words.0)) _ (λ tid. send_payload_at d f t tid words.1))

send_at : (d : Domain) (text : List ℕ) → AtAp (send_line d true text)
unfolding send_line
send_at d text =
    behind (need arguments (split_word text)) _ (λ words. behind (need arguments (node_word words.0)) _ (λ f. behind (need arguments (split_word words.1)) _ (λ more.
    behind (need arguments (peer_word more.0)) _ (λ t. send_between_at d f t more.1))))

rekey_at : (d : Domain) (text : List ℕ) → AtAp (rekey_line d text)
unfolding rekey_line
rekey_at d text = behind (need arguments (node_word text)) _ (λ a. behind (need node_ (listed_ap d a)) _ (λ k. tt))

event_at : (d : Domain) (sizes : List ℕ) (line : Form) (text : List ℕ) → AtAp (event_of d true sizes line text)
unfolding event_of
event_at d sizes form.Deliver text = deliver_at d sizes text
event_at d sizes form.Alter text = alter_at d sizes text
event_at d sizes form.Cut text = cut_at d sizes text
event_at d sizes form.Inject text = inject_at d text
event_at d sizes form.Send text = send_at d text
event_at d sizes form.Rekey text = rekey_at d text
event_at d sizes form.Retry text = behind (ap_and_sta d text) _ (λ nodes. tt)
event_at d sizes form.Expire text = behind (ap_and_sta d text) _ (λ nodes. tt)
event_at d sizes form.Revoke text = behind (ap_and_sta d text) _ (λ nodes. tt)
event_at d sizes other text = tt

can_happen : (d : Domain) (sizes : List ℕ) (a : Asked) → CanAsk d sizes a → CanHappen d sizes (sentences.event_of a)
can_happen d sizes (asked.Event event) can = can
can_happen d sizes (asked.Inject to digits) can = can.0
can_happen d sizes (asked.Send from to tid digits) can = can.1
can_happen d sizes (asked.Announce ap digits) can = can.1

pub can_join : (d : Domain) (count : ℕ) (sizes : List ℕ) (line : Form) (text : List ℕ) (a : Asked) → CanAsk d sizes a → event_of d true sizes line text ≡ Ok (sentences.event_of a) → count < most_events → CanJoin d count sizes a
can_join d count sizes line text a can is room = (can_happen d sizes a can, (subst AtAp is (event_at d sizes line text), room))
