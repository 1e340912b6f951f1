-- Whether a declaration writes such a type, and whether a program has such a declaration.
use Rattle.std.proofs.Common.{◌≡◌, ◌≢◌, ◌⊎◌, inl, inr, ℕ, true, false, List, slice_get, Option, Some, None, ap}
use Rattle.std.proofs.lemmas.Bool.{cases_eq}
use Rattle.std.proofs.lemmas.Option.{none-some, same_Some}
use Rattle.tl_lexer.proofs.Whole.{Decided}
use Rattle.tl_combinators.proofs.Decided.{decided_as, decided_not, decided_and, decided_or, text_decided}
use Rattle.tl_program.specs.Trees.{Tree}
use Rattle.tl_program.specs.Program.{KindText, nat, flag, call, of, DeclText}
use Rattle.tl_names.specs.Writing.{At, is_constructor, result_head, IsConstructorOf, IsConstructorNamed}
use Rattle.tl_names.specs.Parts.{IsPart, HeldBy, InFields, Writes}
use Rattle.tl_names.specs.Constructors.{IsOnlyConstructor}
use Rattle.tl_schema.proofs.IndexesDecided.{bool_decided, option_decided, some_decided}
use Rattle.tl_schema.proofs.TypesDecided.{part_decided}

-- ---- what a declaration writes

module _ (P : Tree → Type 0) (test : (u : Tree) → Decided (P u)) where
  -- such a part of the type that the field holds
  pub held_decided : (kind : KindText) → Decided ((u : Tree) × HeldBy u kind × P u)
  held_decided nat = inr (λ h. h.1)
  held_decided flag = inr (λ h. h.1)
  held_decided (call var) = inr (λ h. h.1)
  held_decided (of t) = part_decided P test t

  -- of a field's type
  pub in_fields_decided : (d : DeclText) → Decided ((u : Tree) × InFields d u × P u)
  in_fields_decided d =
      decided_as (λ h. (h.3.0, (h.0, h.1, h.2, h.3.1), h.3.2)) (λ h. (h.1.0, h.1.1, h.1.2, (h.0, h.1.3, h.2)))
      (some_decided d.fields (λ i f. (u : Tree) × HeldBy u f.kind × P u) (λ i f. held_decided f.kind))

  -- of a field's type or of the result
  pub writes_decided : (d : DeclText) → Decided ((u : Tree) × Writes d u × P u)
  writes_decided d = decided_as there of_there (decided_and (bool_decided d.builtin false) (decided_or (in_fields_decided d) (part_decided P test d.result)))
    where
      there : (d.builtin ≡ false) × (((u : Tree) × InFields d u × P u) ⊎ ((u : Tree) × IsPart u d.result × P u)) → (u : Tree) × Writes d u × P u
      there (own, inl (u, part, p)) = (u, record { own = own; there = inl part }, p)
      there (own, inr (u, part, p)) = (u, record { own = own; there = inr part }, p)

      by : (u : Tree) → P u → InFields d u ⊎ IsPart u d.result → ((u : Tree) × InFields d u × P u) ⊎ ((u : Tree) × IsPart u d.result × P u)
      by u p (inl part) = inl (u, part, p)
      by u p (inr part) = inr (u, part, p)

      of_there : (u : Tree) × Writes d u × P u → (d.builtin ≡ false) × (((u : Tree) × InFields d u × P u) ⊎ ((u : Tree) × IsPart u d.result × P u))
      of_there h = (h.1.own, by h.0 h.2 h.1.there)

-- ---- what a program has

-- the name that a result begins with
head_decided : (o : Option (List ℕ)) (name : List ℕ) → Decided (o ≡ Some name)
head_decided None name = inr (λ e. none-some name e)
head_decided (Some other) name = decided_as (λ e. ap Some e) (λ e. same_Some other name e) (text_decided other name)

module _ (ds : List DeclText) where
  -- the declaration at the index is such
  pub at_decided : (k : ℕ) (P : DeclText → Type 0) → ((d : DeclText) → Decided (P d)) → Decided ((d : DeclText) × At ds k d × P d)
  at_decided k P test = option_decided (slice_get ds k) P test

  -- one of the declarations is such
  pub somewhere_decided : (P : ℕ → DeclText → Type 0) → ((j : ℕ) (d : DeclText) → Decided (P j d)) → Decided ((j : ℕ) × (d : DeclText) × At ds j d × P j d)
  somewhere_decided P test = some_decided ds P test

  module _ (name : List ℕ) where
    -- one of the constructors of the type is such
    pub constructor_that_decided : (P : ℕ → DeclText → Type 0) → ((j : ℕ) (c : DeclText) → Decided (P j c)) → Decided ((j : ℕ) × (c : DeclText) × IsConstructorOf ds name j c × P j c)
    constructor_that_decided P test =
        decided_as (λ h. (h.0, h.1, record { there = h.2; own = h.3.0; head = h.3.1.0 }, h.3.1.1)) (λ h. (h.0, h.1, h.2.there, (h.2.own, (h.2.head, h.3))))
        (somewhere_decided (λ j c. (is_constructor c ≡ true) × ((result_head c ≡ Some name) × P j c)) (λ j c. decided_and (bool_decided (is_constructor c) true) (decided_and (head_decided (result_head c) name) (test j c))))

    -- the type has a constructor: at the index, at some index
    pub constructor_at_decided : (j : ℕ) → Decided ((c : DeclText) × IsConstructorOf ds name j c)
    constructor_at_decided j =
        decided_as (λ h. (h.0, record { there = h.1; own = h.2.0; head = h.2.1 })) (λ h. (h.0, h.1.there, (h.1.own, h.1.head)))
        (at_decided j (λ c. (is_constructor c ≡ true) × (result_head c ≡ Some name)) (λ c. decided_and (bool_decided (is_constructor c) true) (head_decided (result_head c) name)))

    pub constructor_decided : Decided ((j : ℕ) × (c : DeclText) × IsConstructorOf ds name j c)
    constructor_decided = decided_as (λ h. (h.0, h.1, h.2)) (λ h. (h.0, h.1, h.2, tt)) (constructor_that_decided (λ j c. Unit {0}) (λ j c. inl tt))

    -- a constructor has the name: at the index, at some index
    pub named_at_decided : (j : ℕ) → Decided ((c : DeclText) × IsConstructorNamed ds name j c)
    named_at_decided j =
        decided_as (λ h. (h.0, record { there = h.1; own = h.2.0; named = h.2.1 })) (λ h. (h.0, h.1.there, (h.1.own, h.1.named)))
        (at_decided j (λ c. (is_constructor c ≡ true) × (c.name ≡ name)) (λ c. decided_and (bool_decided (is_constructor c) true) (text_decided c.name name)))

    pub named_constructor_decided : Decided ((j : ℕ) × (c : DeclText) × IsConstructorNamed ds name j c)
    named_constructor_decided =
        decided_as (λ h. (h.0, h.1, record { there = h.2; own = h.3.0; named = h.3.1 })) (λ h. (h.0, h.1, h.2.there, (h.2.own, h.2.named)))
        (somewhere_decided (λ j c. (is_constructor c ≡ true) × (c.name ≡ name)) (λ j c. decided_and (bool_decided (is_constructor c) true) (text_decided c.name name)))

    -- the type has a constructor elsewhere
    elsewhere_decided : (j : ℕ) → Decided ((i : ℕ) × (b : DeclText) × IsConstructorOf ds name i b × (i ≢ j))
    elsewhere_decided j = constructor_that_decided (λ i b. i ≢ j) (λ i b. decided_not (cases_eq i j))

    same_position : (i j : ℕ) (b : DeclText) → IsConstructorOf ds name i b → (((n : ℕ) × (c : DeclText) × IsConstructorOf ds name n c × (n ≢ j)) → ⊥) → i ≡ j
    same_position i j b there none = elim (cases_eq i j) [ inl e ↦ e | inr other ↦ absurd (none (i, b, there, other)) ]

    -- the type has exactly one constructor
    pub only_constructor_decided : Decided ((j : ℕ) × (c : DeclText) × IsOnlyConstructor ds name j c)
    only_constructor_decided =
        decided_as (λ h. (h.0, h.1, record { one = h.2; only = λ i b there. same_position i h.0 b there h.3 })) (λ h. (h.0, h.1, h.2.one, λ other. other.3 (h.2.only other.0 other.1 other.2)))
        (constructor_that_decided (λ j c. ((i : ℕ) × (b : DeclText) × IsConstructorOf ds name i b × (i ≢ j)) → ⊥) (λ j c. decided_not (elsewhere_decided j)))
