-- What a rule gives: a property of all that it reads, where each token has one.
use Rattle.std.proofs.Common.{◌≡◌, List, [], ◌∷◌, ◌++◌, append_assoc, sym, ◌∙◌, ap, subst, inl, inr}
use Rattle.tl_lexer.specs.Rule.{Rule, gives, fails, one, chain, choice, loop, Turns}
use Rattle.tl_combinators.specs.Taken.{taken}

abbrev pub EachIs : {T : Type 0} → (T → Type 0) → List T → Type 0
EachIs Is [] = Unit {0}
EachIs Is (t ∷ ts) = Is t × EachIs Is ts

pub all_behind : {T : Type 0} (Is : T → Type 0) (front rest : List T) → EachIs Is (front ++ rest) → EachIs Is rest
all_behind Is [] rest h = h
all_behind Is (t ∷ ts) rest h = all_behind Is ts rest h.1

pub all_push : {T : Type 0} (Is : T → Type 0) (ts : List T) (t : T) → EachIs Is ts → Is t → EachIs Is (ts ++ (t ∷ []))
all_push Is [] t h i = (i, tt)
all_push Is (u ∷ ts) t h i = (h.0, all_push Is ts t h.1 i)

-- this stands after a row
pub record Behind {T : Type 0} (ts rest : List T) : Type 0 where
  pub front : List T
  pub whole : ts ≡ front ++ rest

pub rest_of : {T : Type 0} (Is : T → Type 0) (ts rest : List T) → Behind ts rest → EachIs Is ts → EachIs Is rest
rest_of Is ts rest b h = all_behind Is b.front rest (subst (EachIs Is) b.whole h)

behind_none : {T : Type 0} (ts rest : List T) → rest ≡ ts → Behind ts rest
behind_none ts rest e = record { front = []; whole = sym e }

behind_both : {T : Type 0} (a b c : List T) → Behind a b → Behind b c → Behind a c
behind_both a b c p q = record { front = p.front ++ q.front; whole = p.whole ∙ ap (λ x. p.front ++ x) q.whole ∙ sym (append_assoc p.front q.front c) }

-- each token of a row having Is, what r reads has P
pub record Gives {T F A : Type 0} (Is : T → Type 0) (r : Rule T F A) (P : A → Type 0) : Type 0 where
  pub has : (ts rest : List T) (x : A) → EachIs Is ts → r.reads ts x rest → P x
  pub behind : (ts rest : List T) (x : A) → EachIs Is ts → r.reads ts x rest → Behind ts rest

module _ {T F : Type 0} (Is : T → Type 0) where
  pub gives_gives : {A : Type 0} (P : A → Type 0) (a : A) → P a → Gives {F = F} Is (gives a) P
  unfolding gives
  gives_gives P a h = record { has = λ ts rest x w p. subst P (sym p.0) h; behind = λ ts rest x w p. behind_none ts rest p.1 }

  pub gives_fails : {A : Type 0} (P : A → Type 0) (fault_at : List T → F) → Gives Is (fails fault_at) P
  unfolding fails
  gives_fails P fault_at = record { has = λ ts rest x w p. absurd p; behind = λ ts rest x w p. absurd p }

  pub gives_one : (fault_at : List T → F) (P : T → Type 0) → Gives Is (one fault_at P) (λ t. Is t × P t)
  unfolding one
  gives_one fault_at P = record {
    has = λ ts rest t w p. ((subst (EachIs Is) p.0 w).0, p.1);
    behind = λ ts rest t w p. record { front = t ∷ []; whole = p.0 };
  }

  pub gives_chain : {A B : Type 0} {P : A → Type 0} {Q : B → Type 0} {r : Rule T F A} (s : A → Rule T F B) → Gives Is r P → ((x : A) → P x → Gives Is (s x) Q) → Gives Is (chain r s) Q
  unfolding chain
  gives_chain s g h = record {
    has = λ ts rest y w p. (h p.0 (g.has ts p.1 p.0 w p.2)).has p.1 rest y (rest_of Is ts p.1 (g.behind ts p.1 p.0 w p.2) w) p.3;
    behind = λ ts rest y w p.
        let b = g.behind ts p.1 p.0 w p.2 in
        behind_both ts p.1 rest b ((h p.0 (g.has ts p.1 p.0 w p.2)).behind p.1 rest y (rest_of Is ts p.1 b w) p.3);
  }

  module _ {A : Type 0} (Q : A → Type 0) (P : List T → Type 0) (r s : Rule T F A) (g : Gives Is r Q) (h : Gives Is s Q) where
    choice_has : (ts rest : List T) (x : A) → EachIs Is ts → (choice P r s).reads ts x rest → Q x
    unfolding choice
    choice_has ts rest x w (inl p) = g.has ts rest x w p.1
    choice_has ts rest x w (inr p) = h.has ts rest x w p.1

    choice_behind : (ts rest : List T) (x : A) → EachIs Is ts → (choice P r s).reads ts x rest → Behind ts rest
    unfolding choice
    choice_behind ts rest x w (inl p) = g.behind ts rest x w p.1
    choice_behind ts rest x w (inr p) = h.behind ts rest x w p.1

  pub gives_choice : {A : Type 0} {Q : A → Type 0} (P : List T → Type 0) {r s : Rule T F A} → Gives Is r Q → Gives Is s Q → Gives Is (choice P r s) Q
  gives_choice {Q = Q} P {r = r} {s = s} g h = record { has = choice_has Q P r s g h; behind = choice_behind Q P r s g h }

  -- a choice that the tokens don't make
  module _ {A : Type 0} (Q : A → Type 0) (C : Type 0) (r s : Rule T F A) (g : C → Gives Is r Q) (h : (C → ⊥) → Gives Is s Q) where
    if_has : (ts rest : List T) (x : A) → EachIs Is ts → (choice (λ us. C) r s).reads ts x rest → Q x
    unfolding choice
    if_has ts rest x w (inl p) = (g p.0).has ts rest x w p.1
    if_has ts rest x w (inr p) = (h p.0).has ts rest x w p.1

    if_behind : (ts rest : List T) (x : A) → EachIs Is ts → (choice (λ us. C) r s).reads ts x rest → Behind ts rest
    unfolding choice
    if_behind ts rest x w (inl p) = (g p.0).behind ts rest x w p.1
    if_behind ts rest x w (inr p) = (h p.0).behind ts rest x w p.1

  pub gives_if : {A : Type 0} {Q : A → Type 0} (C : Type 0) {r s : Rule T F A} → (C → Gives Is r Q) → ((C → ⊥) → Gives Is s Q) → Gives Is (choice (λ us. C) r s) Q
  gives_if {Q = Q} C {r = r} {s = s} g h = record { has = if_has Q C r s g h; behind = if_behind Q C r s g h }

  pub gives_taken : {A : Type 0} {P : A → Type 0} {r : Rule T F A} → Gives Is r P → Gives Is (taken r) (λ x. P x.0)
  unfolding taken
  gives_taken g = record { has = λ ts rest x w p. g.has ts rest x.0 w p.0; behind = λ ts rest x w p. g.behind ts rest x.0 w p.0 }

  pub gives_so : {A : Type 0} {P Q : A → Type 0} {r : Rule T F A} → ((x : A) → P x → Q x) → Gives Is r P → Gives Is r Q
  gives_so f g = record { has = λ ts rest x w p. f x (g.has ts rest x w p); behind = g.behind }

  module _ {S : Type 0} (Inv : S → Type 0) (P : List T → Type 0) (r : S → Rule T F S) (turn : (s : S) → Inv s → Gives Is (r s) Inv) where
    turns_give : (s : S) (ts mid : List T) (xs : List S) (a : S) → Inv s → EachIs Is ts → Turns P r s ts xs a mid → Inv a × Behind ts mid
    turns_give s ts mid [] a h w e = (subst Inv (sym e.0) h, behind_none ts mid e.1)
    turns_give s ts mid (x ∷ xs) a h w (p, next, q, d) =
        let b = (turn s h).behind ts next x w q in
        let more = turns_give x next mid xs a ((turn s h).has ts next x w q) (rest_of Is ts next b w) d in
        (more.0, behind_both ts next mid b more.1)

    pub gives_loop : (s : S) → Inv s → Gives Is (loop P r s) Inv
    unfolding loop
    gives_loop s h = record {
      has = λ ts rest a w p. (turns_give s ts rest p.0 a h w p.1).0;
      behind = λ ts rest a w p. (turns_give s ts rest p.0 a h w p.1).1;
    }
