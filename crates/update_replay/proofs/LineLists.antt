-- The lines of packets and of clients, one by one.
use Rattle.std.proofs.Common.{◌≡◌, ℕ, zero, suc, ◌+◌, ◌≤◌, List, [], ◌∷◌, ◌++◌, length, drop, map, Some, append-nil, append_assoc, refl, sym, ap, ◌∙◌, arith}
use Rattle.std.specs.Prelude.{slice_get}
use Rattle.std.proofs.lemmas.Option.{none-some, same_Some}
use Rattle.box_client.specs.States.{ClientState}
use Rattle.report_lines.specs.Closing.{own_lines}
use Rattle.report_lines.specs.Texts.{packet_line}
use Rattle.update_replay.specs.StepLines.{packet_lines}
use Rattle.update_replay.specs.Told.{all_own_lines}
use Rattle.update_world.specs.declared.sent.SentPacket.{SentPacket}
use Rattle.update_replay.specs.WorldLines.{bytes_from}

-- what is left of a list from an element on
pub from : {A : Type 0} (xs : List A) (k : ℕ) (x : A) → slice_get xs k ≡ Some x → drop k xs ≡ x ∷ drop (k + 1) xs
from [] k x at = absurd (none-some x at)
from {A = A} (y ∷ xs) zero x at = ap (λ (z : A). z ∷ xs) (same_Some y x at)
from {A = A} (y ∷ xs) (suc k) x at = from xs k x at ∙ (let e : suc (k + 1) ≡ suc k + 1 = omega arith in ap (λ (n : ℕ). x ∷ drop n (y ∷ xs)) e)

pub past : {A : Type 0} (xs : List A) (k : ℕ) → length xs ≤ k → drop k xs ≡ []
past [] zero le = refl
past [] (suc k) le = refl
past (x ∷ xs) zero le = absurd (omega (arith, le))
past (x ∷ xs) (suc k) le = past xs k (omega (arith, le))

-- lines that stand, a line more, and the lines to come
pub one_more : (old line rest new whole all : List ℕ) → new ≡ old ++ line → whole ≡ line ++ rest → old ++ whole ≡ all → new ++ rest ≡ all
one_more old line rest new whole all is cut before =
    let joined : (old ++ line) ++ rest ≡ old ++ (line ++ rest) = simp append_assoc in
    ap (λ (l : List ℕ). l ++ rest) is ∙ joined ∙ ap (λ (l : List ℕ). old ++ l) (sym cut) ∙ before

pub no_more : (old rest all : List ℕ) → rest ≡ [] → old ++ rest ≡ all → old ≡ all
no_more old rest all none before = sym (append-nil old) ∙ ap (λ (l : List ℕ). old ++ l) (sym none) ∙ before

pub packet_more : (pool : List SentPacket) (m : ℕ) (s : SentPacket) (bytes old new all : List ℕ) → slice_get pool m ≡ Some s → bytes ≡ s.bytes → new ≡ old ++ packet_line m bytes → old ++ packet_lines m (bytes_from m pool) ≡ all
    → new ++ packet_lines (m + 1) (bytes_from (m + 1) pool) ≡ all
packet_more pool m s bytes old new all at same is before =
    one_more old (packet_line m s.bytes) (packet_lines (m + 1) (bytes_from (m + 1) pool)) new (packet_lines m (bytes_from m pool)) all
    (is ∙ ap (λ (b : List ℕ). old ++ packet_line m b) same)
    (ap (λ (ss : List SentPacket). packet_lines m (map (λ t. t.bytes) ss)) (from pool m s at)) before

pub packets_end : (pool : List SentPacket) (m : ℕ) (old all : List ℕ) → length pool ≤ m → old ++ packet_lines m (bytes_from m pool) ≡ all → old ≡ all
packets_end pool m old all le before = no_more old (packet_lines m (bytes_from m pool)) all (ap (λ (ss : List SentPacket). packet_lines m (map (λ t. t.bytes) ss)) (past pool m le)) before

pub client_more : (cs : List ClientState) (k : ℕ) (c : ClientState) (old new all : List ℕ) → slice_get cs k ≡ Some c → new ≡ old ++ own_lines k c → old ++ all_own_lines k (drop k cs) ≡ all
    → new ++ all_own_lines (k + 1) (drop (k + 1) cs) ≡ all
client_more cs k c old new all at is before =
    one_more old (own_lines k c) (all_own_lines (k + 1) (drop (k + 1) cs)) new (all_own_lines k (drop k cs)) all is (ap (all_own_lines k) (from cs k c at)) before

pub clients_end : (cs : List ClientState) (k : ℕ) (old all : List ℕ) → length cs ≤ k → old ++ all_own_lines k (drop k cs) ≡ all → old ≡ all
clients_end cs k old all le before = no_more old (all_own_lines k (drop k cs)) all (ap (all_own_lines k) (past cs k le)) before

-- a head, a text, the line's end, and more lines
pub step_puts : (a b c d e head text end more : List ℕ) → b ≡ a ++ head → c ≡ b ++ text → d ≡ c ++ end → e ≡ d ++ more → e ≡ a ++ ((head ++ text ++ end) ++ more)
step_puts a b c d e head text end more h t n m =
    let joined : (((a ++ head) ++ text) ++ end) ++ more ≡ a ++ ((head ++ text ++ end) ++ more) = simp append_assoc in
    m ∙ (λ i. n i ++ more) ∙ (λ i. (t i ++ end) ++ more) ∙ (λ i. ((h i ++ text) ++ end) ++ more) ∙ joined

-- two pieces
pub two_puts : (a b c s t : List ℕ) → b ≡ a ++ s → c ≡ b ++ t → c ≡ a ++ (s ++ t)
two_puts a b c s t p q =
    let joined : (a ++ s) ++ t ≡ a ++ (s ++ t) = simp append_assoc in
    q ∙ (λ i. p i ++ t) ∙ joined
