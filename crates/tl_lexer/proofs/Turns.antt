-- Loops, turn by turn.
use Rattle.std.proofs.Common.{◌≡◌, List, [], ◌∷◌, ◌++◌, Option, Some, None, Ok, Err, refl, sym, subst}
use Rattle.tl_lexer.specs.Rule.{Rule, loop, Turns, Parses, Refusal}

-- from the state s at ts the turns have led to the state a at mid
pub record Came {T F S : Type 0} (P : List T → Type 0) (r : S → Rule T F S) (s : S) (ts : List T) (a : S) (mid : List T) : Type 0 where
  pub xs : List S
  pub turns : Turns P r s ts xs a mid

pub came_none : {T F S : Type 0} {P : List T → Type 0} {r : S → Rule T F S} {s a : S} {ts : List T} → a ≡ s → Came P r s ts a ts
came_none e = record { xs = []; turns = (e, refl) }

came_push : {T F S : Type 0} (P : List T → Type 0) (r : S → Rule T F S) (s : S) (ts : List T) (xs : List S) (a : S) (mid : List T) (b : S) (next : List T) → Turns P r s ts xs a mid → P mid → (r a).reads mid b next → Turns P r s ts (xs ++ (b ∷ [])) b next
came_push P r s ts [] a mid b next e p h = (subst P e.1 p, next, subst (λ w. (r w).reads ts b next) e.0 (subst (λ z. (r a).reads z b next) e.1 h), (refl, refl))
came_push P r s ts (x ∷ xs) a mid b next (q, after, g, more) p h = (q, after, g, came_push P r x after xs a mid b next more p h)

pub came_more : {T F S E Y : Type 0} {k : E → Option F} {look : Y → S} {P : List T → Type 0} {r : S → Rule T F S} {s a b : S} {ts mid next : List T} {y : Y} → Came P r s ts a mid → P mid → Parses k look (r a) mid next (Ok y) → b ≡ look y → Came P r s ts b next
came_more {look = look} {P = P} {r = r} {s = s} {a = a} {ts = ts} {mid = mid} {next = next} {y = y} c p h e = subst (λ z. Came P r s ts z next) (sym e) (record { xs = c.xs ++ (look y ∷ []); turns = came_push P r s ts c.xs a mid (look y) next c.turns p h.given })

pub loop_ok : {T F S E X : Type 0} {k : E → Option F} {view : X → S} {P : List T → Type 0} {r : S → Rule T F S} {s a : S} {ts mid : List T} {x : X} → Came P r s ts a mid → (P mid → ⊥) → view x ≡ a → Parses k view (loop P r s) ts mid (Ok x)
unfolding loop
loop_ok {P = P} {r = r} {s = s} {ts = ts} {mid = mid} c p e = record { given = (c.xs, subst (λ z. Turns P r s ts c.xs z mid) (sym e) c.turns, p) }

loop_refused : {T F S : Type 0} (P : List T → Type 0) (r : S → Rule T F S) (s a : S) (ts mid : List T) (o : Option F) → Came P r s ts a mid → P mid → Refusal (r a) mid o → Refusal (loop P r s) ts o
unfolding loop
loop_refused P r s a ts mid None c p h = tt
loop_refused P r s a ts mid (Some f) c p h = (c.xs, a, mid, c.turns, p, h)

pub loop_err : {T F S E X Y : Type 0} {k : E → Option F} {look : Y → S} {view : X → S} {P : List T → Type 0} {r : S → Rule T F S} {s a : S} {ts mid rest : List T} {e : E} → Came P r s ts a mid → P mid → Parses k look (r a) mid rest (Err e) → Parses {X = X} k view (loop P r s) ts rest (Err e)
loop_err {k = k} {P = P} {r = r} {s = s} {a = a} {ts = ts} {mid = mid} {e = e} c p h = record { given = loop_refused P r s a ts mid (k e) c p h.given }
