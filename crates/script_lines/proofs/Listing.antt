-- A line that lists a node, by its parts.
use Rattle.std.proofs.Common.{Bool, if◌then◌else◌, nat_le, nat_lt, slice_index, ◌≡◌, true, false, List, ℕ, Option, Some, None, Ok, Err, Result, refl, subst, sym, ap, ◌∙◌}
use Rattle.domain_base.specs.declared.names.Mac.{Mac}
use Rattle.domain_base.specs.declared.names.Node.{Node}
use Rattle.run_journal.specs.declared.domain.Domain.{Domain}
use Rattle.run_journal.specs.declared.domain.Event.TheVariants.{Deliver, Cut, Alter, Secret}
use Rattle.script_lines.specs.declared.header.Header.{Header}
use Rattle.script_lines.specs.Sentences.{TellsBy}
use Rattle.script_lines.specs.declared.refusal.Refusal.{Refusal}
use Rattle.script_words.specs.Tokens.{NodeWord, PeerWord, peer_word, number_of_digits, hex_octets, split_word, node_word, is_text}
use Rattle.script_lines.specs.Script.{◌>>=◌, Fault, send_line, send_between, to_word, event_node, size_of, frame_, place_, deliver_line, cut_line, alter_line, need, node_, arguments, ListsAp, ListsSta, address_of, new_ap, new_sta, ap_line, bare_sta, keyed_sta, own_psk, sta_line, is_second, named_sta, secret_line}

pub sta_said : (h : Header) (text : List ℕ) (address : Mac) → address_of text ≡ Ok address → new_sta h.network address h.psk ≡ Ok (ListsSta address h.psk) → bare_sta h text ≡ Ok (ListsSta address h.psk)
unfolding bare_sta
sta_said h text address is new = rw is new

-- a station's own key, in a network of that SSID
pub key_at : (given ssid text psk : List ℕ) → given ≡ ssid → own_psk given text ≡ Ok psk → own_psk ssid text ≡ Ok psk
key_at given ssid text psk is key = ap (λ (x : List ℕ). own_psk x text) (sym is) ∙ key

pub keyed_said : (h : Header) (word text psk : List ℕ) (address : Mac) → address_of word ≡ Ok address → own_psk h.network.ssid text ≡ Ok psk → new_sta h.network address psk ≡ Ok (ListsSta address psk) → keyed_sta h word text ≡ Ok (ListsSta address psk)
unfolding keyed_sta
keyed_said h word text psk address is key new = rw (is, key) new

-- by the version, and by whether a key stands behind the address
pub first_said : (h : Header) (text : List ℕ) → is_second h.network.extras.version ≡ false → sta_line h text ≡ bare_sta h text
unfolding sta_line
first_said h text first = rw first refl

pub bare_said : (h : Header) (text : List ℕ) → is_second h.network.extras.version ≡ true → split_word text ≡ None → sta_line h text ≡ bare_sta h text
unfolding sta_line
bare_said h text second none = rw (second, none) refl

pub own_said : (h : Header) (text word rest : List ℕ) → is_second h.network.extras.version ≡ true → split_word text ≡ Some (word, rest) → sta_line h text ≡ keyed_sta h word rest
unfolding sta_line
own_said h text word rest second split = rw (second, split) refl

pub ap_said : (d : Domain) (text word id : List ℕ) (address : Mac) → split_word text ≡ Some (word, id) → address_of word ≡ Ok address → is_text 48 33 id ≡ true → new_ap d address id ≡ Ok (ListsAp address id) → ap_line d text ≡ Ok (ListsAp address id)
unfolding ap_line
ap_said d text word id address split is fit new = rw (split, is, fit) new

pub ap_unfit : (d : Domain) (text word id : List ℕ) (address : Mac) → split_word text ≡ Some (word, id) → address_of word ≡ Ok address → is_text 48 33 id ≡ false → ap_line d text ≡ Err arguments
unfolding ap_line
ap_unfit d text word id address split is fit = rw (split, is, fit) refl

pub ap_no_id : (d : Domain) (text : List ℕ) → split_word text ≡ None → ap_line d text ≡ Err arguments
unfolding ap_line
ap_no_id d text none = rw none refl

-- the lines of a frame that was sent
pub deliver_said : (d : Domain) (within : Bool) (sizes text first last : List ℕ) (number : ℕ) (w : NodeWord) → split_word text ≡ Some (first, last) → number_of_digits first ≡ Some number → to_word last ≡ Some w
    → deliver_line d within sizes text ≡ (need node_ (event_node within d w) >>= (λ to. need frame_ (size_of sizes number) >>= (λ size. Ok (Deliver number to))))
unfolding deliver_line
deliver_said d within sizes text first last number w split is at = rw (split, is, at) refl

pub cut_said : (d : Domain) (within : Bool) (sizes line word text second last : List ℕ) (number count : ℕ) (w : NodeWord) → split_word line ≡ Some (word, text) → number_of_digits word ≡ Some number
    → split_word text ≡ Some (second, last) → number_of_digits second ≡ Some count → to_word last ≡ Some w
    → cut_line d within sizes line ≡ (need node_ (event_node within d w) >>= (λ to. need frame_ (size_of sizes number) >>= (λ size. if nat_le count size then Ok (Cut number count to) else Err place_)))
unfolding cut_line
cut_said d within sizes line word text second last number count w split is more so at = rw (split, is, more, so, at) refl

pub alter_said : (d : Domain) (within : Bool) (sizes line word rest second text third last mask : List ℕ) (number place : ℕ) (w : NodeWord) (to : Node) → split_word line ≡ Some (word, rest) → number_of_digits word ≡ Some number
    → split_word rest ≡ Some (second, text) → number_of_digits second ≡ Some place → split_word text ≡ Some (third, last) → hex_octets 1 third ≡ Some mask → to_word last ≡ Some w → event_node within d w ≡ Some to
    → alter_line d within sizes line ≡ (need frame_ (size_of sizes number) >>= (λ size. if nat_lt place size then Ok (Alter number place (slice_index mask 0) to) else Err place_))
unfolding alter_line
alter_said d within sizes line word rest second text third last mask number place w to split is more so most by at node = rw (split, is, more, so, most, by, at, node) refl

-- the line of a changed key
pub secret_said : (d : Domain) (text word rest psk : List ℕ) (w : PeerWord) (named : Option ℕ) → split_word text ≡ Some (word, rest) → peer_word word ≡ Some w → own_psk d.ssid rest ≡ Ok psk → named_sta d w ≡ Some named
    → secret_line d text ≡ Ok (Secret named psk)
unfolding secret_line
secret_said d text word rest psk w named split is key sta = rw (split, is, key, sta) refl

-- the line of a payload
pub send_said : (d : Domain) (within : Bool) (text first rest second more : List ℕ) (f : NodeWord) (t : PeerWord) → split_word text ≡ Some (first, rest) → node_word first ≡ Some f → split_word rest ≡ Some (second, more) → peer_word second ≡ Some t
    → send_line d within text ≡ send_between d within f t more
unfolding send_line
send_said d within text first rest second more f t split is so at = rw (split, is, so, at) refl

pub tells_by_as : {A B : Type 0} (view : A → B) (found : Result A Refusal) (m n : Result B Fault) → n ≡ m → TellsBy view found m → TellsBy view found n
tells_by_as {A} {B} view found m n e t = subst (λ (x : Result B Fault). TellsBy view found x) (sym e) t
