-- Laws of what is taken and put by pieces.
use Rattle.std.proofs.Common.{◌≡◌, ℕ, zero, suc, ◌+◌, ◌-◌, ◌<◌, ◌≤◌, List, [], ◌∷◌, ◌++◌, length, map, take, drop, true, false, Some, None, Result, refl, sym, ap, ◌∙◌, subst, arith, take-add, length-drop, length-take-le, inl, inr}
use Rattle.std.proofs.lemmas.List.{append-nil, append_assoc, map_push, take-append-drop, take-append-le, take_all}
use Rattle.std.proofs.lemmas.Bool.{cases_lt}
use Rattle.tl_numbers.specs.Bytes.{AreBytes}
use Rattle.tl_base.specs.declared.host.Slot.{Slot}
use Rattle.tl_base.specs.declared.host.Out.{Out}
use Rattle.outside.specs.Events.{Event, HostState, opened, took, ended, read_failed, put, write_failed, given_event, read_event, read_events, write_event, write_events}
use Rattle.outside.specs.Grown.{Grew}
use Rattle.outside.specs.Begun.{Did, WritesOnly}
use Rattle.outside.specs.Steps.{Begins, Grows}
use Rattle.outside.specs.Pieces.{joined, InPieces, full, short, broken, Takes, Writes, Tells, ReadsFile}
use Rattle.outside.proofs.Causing.{keeps_pieces}
use Rattle.outside.proofs.Growing.{grew_none, grows_call, did_grow, can_then, can_end}

joined_push : (pieces : List (List ℕ)) (piece : List ℕ) → joined (pieces ++ piece ∷ []) ≡ joined pieces ++ piece
joined_push [] piece = append-nil piece
joined_push (p ∷ pieces) piece = ap (λ (l : List ℕ). p ++ l) (joined_push pieces piece) ∙ sym (append_assoc p (joined pieces) piece)

pub no_pieces : (event : List ℕ → Event) (last : List Event) → InPieces event [] last last
no_pieces event last = record { pieces = []; events = refl; join = refl }

pub more_pieces : (event : List ℕ → Event) (bytes piece : List ℕ) (t : List Event) → InPieces event bytes [] t → InPieces event (bytes ++ piece) [] (t ++ event piece ∷ [])
more_pieces event bytes piece t q = record {
  pieces = q.pieces ++ piece ∷ [];
  events = ap (λ (l : List Event). l ++ event piece ∷ []) (q.events ∙ append-nil (map event q.pieces)) ∙ sym (map_push event q.pieces piece) ∙ sym (append-nil (map event (q.pieces ++ piece ∷ [])));
  join = joined_push q.pieces piece ∙ ap (λ (l : List ℕ). l ++ piece) q.join;
}

pub last_piece : (event : List ℕ → Event) (bytes : List ℕ) (e : Event) (t : List Event) → InPieces event bytes [] t → InPieces event bytes (e ∷ []) (t ++ e ∷ [])
last_piece event bytes e t q = record { pieces = q.pieces; events = ap (λ (l : List Event). l ++ e ∷ []) (q.events ∙ append-nil (map event q.pieces)); join = q.join }

pub started : (event : List ℕ → Event) (s : HostState) → Grows s s (InPieces event [] [])
started event s = record { trace = []; grew = grew_none s; holds = no_pieces event [] }

-- a call with something to read or to write is one event

pub read_grew : {E : Type 0} (slot : Slot) (into : List ℕ) (r : Result ℕ E) (b c : HostState) → 0 < length into → Grew b (read_events slot into r) c → Grew b (read_event slot into r ∷ []) c
read_grew slot [] r b c lt h = absurd (omega (arith, lt))
read_grew slot (x ∷ into) r b c lt h = h

pub write_grew : {E : Type 0} (out : Out) (piece : List ℕ) (r : Result ℕ E) (b c : HostState) → 0 < length piece → Grew b (write_events out piece r) c → Grew b (write_event out piece r ∷ []) c
write_grew out [] r b c lt h = absurd (omega (arith, lt))
write_grew out (x ∷ piece) r b c lt h = h

-- ---- bytes

pub are_both : (xs ys : List ℕ) → AreBytes xs → AreBytes ys → AreBytes (xs ++ ys)
are_both [] ys a b k = b k
are_both (x ∷ xs) ys a b zero = a zero
are_both (x ∷ xs) ys a b (suc k) = are_both xs ys (λ j. a (suc j)) b k

pub are_none : AreBytes []
are_none k = omega arith

-- ---- taking

given_some : (slot : Slot) (bytes : List ℕ) → 0 < length bytes → given_event slot bytes ≡ took slot bytes
given_some slot [] lt = absurd (omega (arith, lt))
given_some slot (b ∷ bytes) lt = refl

pub took_more : (slot : Slot) (a b c : HostState) (text into rest after : List ℕ) (n : ℕ) → Grows a b (InPieces (took slot) text []) → 0 < n → n ≤ length into → after ≡ text ++ take n (into ++ rest) → Grew b (given_event slot (take n into) ∷ []) c → Grows a c (InPieces (took slot) after [])
took_more slot a b c text into rest after n g lt le is h =
    subst (λ (l : List ℕ). Grows a c (InPieces (took slot) l [])) (ap (λ (l : List ℕ). text ++ l) (sym (take-append-le n into rest le)) ∙ sym is) (
    grows_call a b c _ _ (took slot (take n into)) (λ t q. more_pieces (took slot) text (take n into) t q) g
    (subst (λ (e : Event). Grew b (e ∷ []) c) (given_some slot (take n into) (omega (arith, lt, length-take-le n into le))) h))

pub took_all : (slot : Slot) (count : ℕ) (a b : HostState) (text : List ℕ) → Grows a b (InPieces (took slot) text []) → length text ≡ count → AreBytes text → Did (Takes slot count) a b (Some (full text))
took_all slot count a b text g is are = record { trace = g.trace; grew = g.grew; holds = (g.holds, is, are) }

pub took_short : (slot : Slot) (count : ℕ) (a b c : HostState) (text into : List ℕ) (n : ℕ) → Grows a b (InPieces (took slot) text []) → length text < count → AreBytes text → n ≡ 0 → Grew b (given_event slot (take n into) ∷ []) c → Did (Takes slot count) a c (Some (short text))
took_short slot count a b c text into n g lt are none h = did_grow (Takes slot count) a c (short text) (grows_call a b c _ _ (ended slot) (λ t q. (last_piece (took slot) text (ended slot) t q, lt, are)) g
    (subst (λ (k : ℕ). Grew b (given_event slot (take k into) ∷ []) c) none h))

pub took_broken : (slot : Slot) (count : ℕ) (a b c : HostState) (text : List ℕ) → Grows a b (InPieces (took slot) text []) → length text < count → Grew b (read_failed slot ∷ []) c → Did (Takes slot count) a c (Some broken)
took_broken slot count a b c text g lt h = did_grow (Takes slot count) a c (broken) (grows_call a b c _ _ (read_failed slot) (λ t q. (text, last_piece (took slot) text (read_failed slot) t q, lt)) g h)

begins_taking : (slot : Slot) (count : ℕ) (text : List ℕ) (t : List Event) → length text ≤ count → AreBytes text → InPieces (took slot) text [] t → Begins (Takes slot count) t
begins_taking slot count text t le are q =
    elim (cases_lt (length text) count) [
      | inl lt ↦ record { rest = read_failed slot ∷ []; answer = broken; whole = (text, last_piece (took slot) text (read_failed slot) t q, lt) }
      | inr ge ↦ record { rest = []; answer = full text; whole = (subst (InPieces (took slot) text []) (sym (append-nil t)) q, omega (arith, le, ge), are) }
    ]

pub took_part : (slot : Slot) (count : ℕ) (a b : HostState) (text : List ℕ) → Grows a b (InPieces (took slot) text []) → length text ≤ count → AreBytes text → Did (Takes slot count) a b None
took_part slot count a b text g le are =
    let m = begins_taking slot count text g.trace le are g.holds in
    record { trace = g.trace; grew = g.grew; holds = record { rest = m.rest; answer = m.answer; whole = m.whole; only = keeps_pieces (WritesOnly []) (took slot) (λ bytes. tt) text [] g.trace tt g.holds } }

pub can_take : (slot : Slot) (count : ℕ) → Begins (Takes slot count) []
can_take slot count = begins_taking slot count [] [] (omega arith) are_none (no_pieces (took slot) [])

-- a file may be missing
pub can_read_file : (slot : Slot) (name : List ℕ) (limit : ℕ) → Begins (ReadsFile slot name limit) []
can_read_file slot name limit = record { rest = opened slot name false ∷ []; answer = None; whole = record { first = opened slot name false ∷ []; rest = []; between = false; splits = refl; does = refl; goes = (refl, refl) } }

-- ---- writing

rest_of-is : (bytes : List ℕ) (at : ℕ) → take (length bytes - at) (drop at bytes) ≡ drop at bytes
rest_of-is bytes at = take_all (length bytes - at) (drop at bytes) (omega (arith, length-drop at bytes))

pub rest_long : (bytes : List ℕ) (at : ℕ) → length (take (length bytes - at) (drop at bytes)) ≡ length bytes - at
rest_long bytes at = ap length (rest_of-is bytes at) ∙ length-drop at bytes

pub put_more : (out : Out) (a b c : HostState) (bytes : List ℕ) (at n : ℕ) → Grows a b (InPieces (put out) (take at bytes) []) → Grew b (put out (take n (take (length bytes - at) (drop at bytes))) ∷ []) c → Grows a c (InPieces (put out) (take (at + n) bytes) [])
put_more out a b c bytes at n g h =
    let piece = take n (take (length bytes - at) (drop at bytes)) in
    let is : take at bytes ++ piece ≡ take (at + n) bytes = ap (λ (l : List ℕ). take at bytes ++ take n l) (rest_of-is bytes at) ∙ sym (take-add at n bytes) in
    grows_call a b c _ _ (put out piece) (λ t q. subst (λ (l : List ℕ). InPieces (put out) l [] (t ++ put out piece ∷ [])) is (more_pieces (put out) (take at bytes) piece t q)) g h

pub put_failed : (out : Out) (a b c : HostState) (bytes : List ℕ) (at : ℕ) → at < length bytes → Grows a b (InPieces (put out) (take at bytes) []) → Grew b (write_failed out ∷ []) c → Did (Writes out bytes) a c (Some false)
put_failed out a b c bytes at lt g h = did_grow (Writes out bytes) a c (false) (grows_call a b c _ _ (write_failed out) (λ t q. (take at bytes, drop at bytes, last_piece (put out) (take at bytes) (write_failed out) t q, take-append-drop at bytes, omega (arith, lt, length-drop at bytes))) g h)

pub can_write : (out : Out) (bytes : List ℕ) → Begins (Writes out bytes) []
can_write out bytes = record { rest = put out bytes ∷ []; answer = true; whole = record { pieces = bytes ∷ []; events = refl; join = append-nil bytes } }

pub can_tell : {A : Type 0} (line : List ℕ) (status : A) → Begins (Tells line status) []
can_tell line status = can_then _ _ (can_write _ line) (λ _. can_end status)
