-- What stands after a row that was read.
use Rattle.std.proofs.Common.{ℕ, ◌<◌, ◌≤◌, List, [], ◌∷◌, length, sym, subst, inl, inr, arith}
use Rattle.tl_lexer.specs.Rule.{Rule, gives, fails, here, one, chain, choice, loop, Turns}

-- R ts rest, wherever the rule reads a row at the start of ts, after which rest stands
abbrev pub Leads : {T F A : Type 0} → (List T → List T → Type 0) → Rule T F A → Type 0
Leads {T = T} {A = A} R r = (ts rest : List T) (x : A) → r.reads ts x rest → R ts rest

pub leads_fails : {T F : Type 0} (A : Type 0) (R : List T → List T → Type 0) (fault_at : List T → F) → Leads {A = A} R (fails fault_at)
unfolding fails
leads_fails A R fault_at ts rest x p = absurd p

pub leads_choice : {T F A : Type 0} (R : List T → List T → Type 0) (P : List T → Type 0) (r s : Rule T F A) → Leads R r → Leads R s → Leads R (choice P r s)
unfolding choice
leads_choice R P r s p q ts rest x (inl h) = p ts rest x h.1
leads_choice R P r s p q ts rest x (inr h) = q ts rest x h.1

-- where R holds of no row, and of two rows if it holds of each
module _ {T : Type 0} (R : List T → List T → Type 0) (same : (ts : List T) → R ts ts) (both : (a b c : List T) → R a b → R b c → R a c) where
  pub leads_gives : (F : Type 0) {A : Type 0} (a : A) → Leads {F = F} R (gives a)
  unfolding gives
  leads_gives F a ts rest x p = subst (R ts) (sym p.1) (same ts)

  pub leads_here : (F : Type 0) (place : List T → ℕ) → Leads {F = F} R (here place)
  unfolding here
  leads_here F place ts rest x p = subst (R ts) (sym p.1) (same ts)

  pub leads_chain : {F A B : Type 0} (r : Rule T F A) (s : A → Rule T F B) → Leads R r → ((x : A) → Leads R (s x)) → Leads R (chain r s)
  unfolding chain
  leads_chain r s p q ts rest y (x, mid, h, g) = both ts mid rest (p ts mid x h) (q x mid rest y g)

  module _ {F S : Type 0} (P : List T → Type 0) (r : S → Rule T F S) (turn : (s : S) (ts rest : List T) (x : S) → P ts → (r s).reads ts x rest → R ts rest) where
    pub turns_lead : (s : S) (ts mid : List T) (xs : List S) (a : S) → Turns P r s ts xs a mid → R ts mid
    turns_lead s ts mid [] a e = subst (R ts) (sym e.1) (same ts)
    turns_lead s ts mid (x ∷ xs) a (p, next, h, d) = both ts next mid (turn s ts next x p h) (turns_lead x next mid xs a d)

    pub leads_loop : (s : S) → Leads R (loop P r s)
    unfolding loop
    leads_loop s ts rest a p = turns_lead s ts rest p.0 a p.1

-- ---- lengths

-- what is left is no longer than what there was; or it is shorter
abbrev pub Shrinks : {T F A : Type 0} → Rule T F A → Type 0
Shrinks r = Leads (λ ts rest. length rest ≤ length ts) r

abbrev pub Shortens : {T F A : Type 0} → Rule T F A → Type 0
Shortens r = Leads (λ ts rest. length rest < length ts) r

longer : {T : Type 0} (t : T) (ts : List T) → length ts < length (t ∷ ts)
longer t ts = omega arith

pub shortens_one : {T F : Type 0} (fault_at : List T → F) (P : T → Type 0) → Shortens (one fault_at P)
unfolding one
shortens_one fault_at P ts rest x p = subst (λ us. length rest < length us) (sym p.0) (longer x rest)

pub shrinks_shortens : {T F A : Type 0} (r : Rule T F A) → Shortens r → Shrinks r
shrinks_shortens r h ts rest x p = omega (arith, h ts rest x p)

pub shrinks_gives : (T F : Type 0) {A : Type 0} (a : A) → Shrinks {T = T} {F = F} (gives a)
shrinks_gives T F a = leads_gives (λ ts rest. length rest ≤ length ts) (λ ts. omega arith) (λ a b c p q. omega (arith, p, q)) F a

pub shrinks_here : {T : Type 0} (F : Type 0) (place : List T → ℕ) → Shrinks {F = F} (here place)
shrinks_here F place = leads_here (λ ts rest. length rest ≤ length ts) (λ ts. omega arith) (λ a b c p q. omega (arith, p, q)) F place

pub shrinks_chain : {T F A B : Type 0} (r : Rule T F A) (s : A → Rule T F B) → Shrinks r → ((x : A) → Shrinks (s x)) → Shrinks (chain r s)
shrinks_chain r s p q = leads_chain (λ ts rest. length rest ≤ length ts) (λ ts. omega arith) (λ a b c p q. omega (arith, p, q)) r s p q

pub shrinks_loop : {T F S : Type 0} (P : List T → Type 0) (r : S → Rule T F S) → ((s : S) → Shrinks (r s)) → (s : S) → Shrinks (loop P r s)
shrinks_loop P r h s = leads_loop (λ ts rest. length rest ≤ length ts) (λ ts. omega arith) (λ a b c p q. omega (arith, p, q)) P r (λ s ts rest x p g. h s ts rest x g) s

-- a row is shorter by its first part, or by what follows
pub shortens_first : {T F A B : Type 0} (r : Rule T F A) (s : A → Rule T F B) → Shortens r → ((x : A) → Shrinks (s x)) → Shortens (chain r s)
unfolding chain
shortens_first r s p q ts rest y (x, mid, h, g) = omega (arith, p ts mid x h, q x mid rest y g)

pub shortens_then : {T F A B : Type 0} (r : Rule T F A) (s : A → Rule T F B) → Shrinks r → ((x : A) → Shortens (s x)) → Shortens (chain r s)
unfolding chain
shortens_then r s p q ts rest y (x, mid, h, g) = omega (arith, p ts mid x h, q x mid rest y g)
