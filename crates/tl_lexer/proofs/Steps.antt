-- One part of a row after the other.
use Rattle.std.proofs.Common.{◌≡◌, ℕ, ◌+◌, ◌<◌, List, ◌∷◌, length, drop, get_or, drop-cons, add-one, Result, Ok, Err, refl, sym, Option, Some, None, subst, inl, inr}
use Rattle.std.specs.Prelude.{IsErrAnd}
use Rattle.tl_lexer.specs.Rule.{Rule, gives, fails, here, one, Next, chain, choice, Parses, Given, Refusal}

refusal : {T F A B : Type 0} (r : Rule T F A) (s : Rule T F B) (ts us : List T) (o : Option F) → ((f : F) → r.refused ts f → s.refused us f) → Refusal r ts o → Refusal s us o
refusal r s ts us None f h = tt
refusal r s ts us (Some x) f h = f x h

given_res : {T F A B E X : Type 0} (k : E → Option F) (look : X → A) (view : X → B) (r : Rule T F A) (s : Rule T F B) (ts us rest : List T) (res : Result X E) → ((x : X) → r.reads ts (look x) rest → s.reads us (view x) rest) → ((f : F) → r.refused ts f → s.refused us f) → Given k look r ts rest res → Given k view s us rest res
given_res k look view r s ts us rest (Ok x) g f h = g x h
given_res k look view r s ts us rest (Err e) g f h = refusal r s ts us (k e) f h

pub then_ok : {T F A B E X Y : Type 0} {k : E → Option F} {look : Y → A} {view : X → B} {r : Rule T F A} (s : A → Rule T F B) {ts mid rest : List T} {y : Y} {res : Result X E}
    → Parses k look r ts mid (Ok y) → Parses k view (s (look y)) mid rest res → Parses k view (chain r s) ts rest res
unfolding chain
then_ok {k = k} {look = look} {view = view} {r = r} s {ts = ts} {mid = mid} {rest = rest} {y = y} {res = res} h g =
    record { given = given_res k view view (s (look y)) (chain r s) mid ts rest res (λ x p. (look y, mid, h.given, p)) (λ f p. inr (look y, mid, h.given, p)) g.given }

pub then_err : {T F A B E X Y : Type 0} {k : E → Option F} {look : Y → A} {view : X → B} {r : Rule T F A} (s : A → Rule T F B) {ts mid : List T} {e : E}
    → Parses k look r ts mid (Err e) → Parses {X = X} k view (chain r s) ts mid (Err e)
unfolding chain
then_err {k = k} {r = r} s {ts = ts} {e = e} h = record { given = refusal r (chain r s) ts ts (k e) (λ f p. inl p) h.given }

pub gives_ok : {T F A E X : Type 0} {k : E → Option F} {view : X → A} {x : X} {a : A} {ts : List T} → view x ≡ a → Parses {T = T} k view (gives a) ts ts (Ok x)
unfolding gives
gives_ok e = record { given = (e, refl) }

pub here_ok : {T F E : Type 0} {k : E → Option F} (place : List T → ℕ) (x : ℕ) (ts : List T) → x ≡ place ts → Parses k (λ (n : ℕ). n) (here place) ts ts (Ok x)
unfolding here
here_ok place x ts e = record { given = (e, refl) }

pub yes : {T F A E X : Type 0} {k : E → Option F} {view : X → A} (P : List T → Type 0) {r : Rule T F A} (s : Rule T F A) {ts rest : List T} {res : Result X E} → P ts → Parses k view r ts rest res → Parses k view (choice P r s) ts rest res
unfolding choice
yes {k = k} {view = view} P {r = r} s {ts = ts} {rest = rest} {res = res} e h = record { given = given_res k view view r (choice P r s) ts ts rest res (λ x p. inl (e, p)) (λ f p. inl (e, p)) h.given }

pub no : {T F A E X : Type 0} {k : E → Option F} {view : X → A} (P : List T → Type 0) (r : Rule T F A) {s : Rule T F A} {ts rest : List T} {res : Result X E} → (P ts → ⊥) → Parses k view s ts rest res → Parses k view (choice P r s) ts rest res
unfolding choice
no {k = k} {view = view} P r {s = s} {ts = ts} {rest = rest} {res = res} e h = record { given = given_res k view view s (choice P r s) ts ts rest res (λ x p. inr (e, p)) (λ f p. inr (e, p)) h.given }

fails_at : {T F : Type 0} (A : Type 0) (fault_at : List T → F) (ts : List T) (o : Option F) → o ≡ Some (fault_at ts) → Refusal {A = A} (fails fault_at) ts o
unfolding fails
fails_at A fault_at ts None e = tt
fails_at A fault_at ts (Some f) e = cc

pub fails_here : {T F A E X : Type 0} (k : E → Option F) {view : X → A} (fault_at : List T → F) {ts rest : List T} {e : E} → k e ≡ Some (fault_at ts) → Parses {X = X} k view (fails fault_at) ts rest (Err e)
fails_here {A = A} k fault_at {ts = ts} {e = e} h = record { given = fails_at A fault_at ts (k e) h }

-- ---- one token

pub front : {T : Type 0} (ts : List T) (i : ℕ) (d : T) → i < length ts → drop i ts ≡ get_or ts i d ∷ drop (i + 1) ts
front ts i d h = rw (add-one, drop-cons ts i d) refl

pub one_ok : {T F E : Type 0} {k : E → Option F} (fault_at : List T → F) (P : T → Type 0) (ts : List T) (i : ℕ) (d : T) → i < length ts → Next P (drop i ts) → Parses k (λ (t : T). t) (one fault_at P) (drop i ts) (drop (i + 1) ts) (Ok (get_or ts i d))
unfolding one
one_ok fault_at P ts i d h b = record { given = (front ts i d h, subst (Next P) (front ts i d h) b) }

pub next_of : {T : Type 0} (P : T → Type 0) (ts : List T) (i : ℕ) (d : T) → i < length ts → P (get_or ts i d) → Next P (drop i ts)
next_of P ts i d h p = subst (Next P) (sym (front ts i d h)) p

pub of_next : {T : Type 0} (P : T → Type 0) (ts : List T) (i : ℕ) (d : T) → i < length ts → Next P (drop i ts) → P (get_or ts i d)
of_next P ts i d h p = subst (Next P) (front ts i d h) p

-- ---- the exit of a `?`

pub as_err : {T F A E X : Type 0} {k : E → Option F} {view : X → A} {r : Rule T F A} {ts rest : List T} {res : Result X E} {e : E}
    → IsErrAnd res (λ f. f ≡ e) → Parses {X = X} k view r ts rest (Err e) → Parses k view r ts rest res
as_err {res = Ok x} h g = absurd h
as_err {X = X} {k = k} {view = view} {r = r} {ts = ts} {rest = rest} {res = Err f} h g = subst (λ z. Parses {X = X} k view r ts rest (Err z)) (sym h) g

-- where a call stands after a refusal, and what it would have read, is free
pub err_any : {T F A E X Y : Type 0} {k : E → Option F} {look : Y → A} {view : X → A} {r : Rule T F A} {ts rest other : List T} {e : E} → Parses k look r ts other (Err e) → Parses {X = X} k view r ts rest (Err e)
err_any h = record { given = h.given }
