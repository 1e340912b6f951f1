-- Types whose constructors have different numbers of variables, as a list of declarations grows.
use Rattle.std.proofs.Common.{◌≡◌, ◌⊎◌, inl, inr, ◌↔◌, ℕ, List, [], ◌∷◌, ◌++◌, length, Bool, IsTrue, true, false, not, ◌||◌, Some, ap, sym, ◌∙◌, subst}
use Rattle.std.specs.Prelude.{◌==◌}
use Rattle.std.proofs.lemmas.Bool.{cases_Bool, cases_eq, both_ways, or_cases, or_left, or_right, not-true, not_from_false, eqb-false, ne_eqb}
use Rattle.tl_program.specs.Program.{DeclText}
use Rattle.tl_names.specs.Writing.{At, is_constructor, result_head, IsConstructorOf}
use Rattle.tl_names.specs.Constructors.{IsUneven}
use Rattle.tl_names.proofs.Indexes.{get_kept, get_last, get_cases}

module _ (ds : List DeclText) (d : DeclText) (type : List ℕ) where
  -- d is a constructor of the type
  abbrev Made : DeclText → Type 0
  Made x = (is_constructor x ≡ true) × (result_head x ≡ Some type)

  abbrev Of : ℕ → DeclText → Type 0
  Of = IsConstructorOf ds type

  abbrev OfMore : ℕ → DeclText → Type 0
  OfMore = IsConstructorOf (ds ++ d ∷ []) type

  kept : (j : ℕ) (c : DeclText) → Of j c → OfMore j c
  kept j c m = record { there = get_kept ds d j c m.there; own = m.own; head = m.head }

  last : Made d → OfMore (length ds) d
  last made = record { there = get_last ds d; own = made.0; head = made.1 }

  -- a constructor of the type stands before d, or is d
  before_or_last : (j : ℕ) (c : DeclText) → OfMore j c → Of j c ⊎ (d ≡ c)
  before_or_last j c m =
      elim (get_cases ds d j c m.there) [ inl at ↦ inl (record { there = at; own = m.own; head = m.head }) | inr last ↦ inr last.1 ]

  uneven_kept : IsUneven ds type → IsUneven (ds ++ d ∷ []) type
  uneven_kept u = record { i = u.i; b = u.b; j = u.j; c = u.c; one = kept u.i u.b u.one; other = kept u.j u.c u.other; apart = u.apart }

  -- d makes another type
  pub uneven_without : (Made d → ⊥) → IsUneven ds type ↔ IsUneven (ds ++ d ∷ []) type
  uneven_without lacks = (uneven_kept, λ u. record { i = u.i; b = u.b; j = u.j; c = u.c; one = before u.i u.b u.one; other = before u.j u.c u.other; apart = u.apart })
    where
      before : (j : ℕ) (c : DeclText) → OfMore j c → Of j c
      before j c m = elim (before_or_last j c m) [ inl there ↦ there | inr e ↦ absurd (lacks (subst Made (sym e) (m.own, m.head))) ]

  -- d is the first that makes it
  pub uneven_first : ((k : ℕ) (c : DeclText) → Of k c → ⊥) → IsUneven (ds ++ d ∷ []) type → ⊥
  uneven_first none u = u.apart (ap (λ (x : DeclText). length x.vars) (sym (is u.i u.b u.one) ∙ is u.j u.c u.other))
    where
      is : (j : ℕ) (c : DeclText) → OfMore j c → d ≡ c
      is j c m = elim (before_or_last j c m) [ inl there ↦ absurd (none j c there) | inr e ↦ e ]

  -- d makes it too; the first that does has n variables
  module _ (made : Made d) (k n m : ℕ) (b : Bool) (first : (x : DeclText) × Of k x) (vars : (x : DeclText) → At ds k x → length x.vars ≡ n) (number : length d.vars ≡ m) (told : IsTrue b ↔ IsUneven ds type) where
    first_vars : length first.0.vars ≡ n
    first_vars = vars first.0 first.1.there

    -- where all before have as many, and d too, all have as many
    even : b ≡ false → n ≡ m → (j : ℕ) (c : DeclText) → OfMore j c → length c.vars ≡ m
    even e same j c mem =
        elim (before_or_last j c mem) [
          | inl there ↦ elim (cases_eq (length c.vars) n) [
            | inl is ↦ is ∙ same
            | inr other ↦ absurd (both_ways b e (told.1 (record { i = k; b = first.0; j = j; c = c; one = first.1; other = there; apart = λ alike. other (sym alike ∙ first_vars) })))
          ]
          | inr is ↦ ap (λ (x : DeclText). length x.vars) (sym is) ∙ number
        ]

    apart : (n ≡ m → ⊥) → IsUneven (ds ++ d ∷ []) type
    apart differ = record {
      i = k;
      b = first.0;
      j = length ds;
      c = d;
      one = kept k first.0 first.1;
      other = last made;
      apart = λ alike. differ (sym first_vars ∙ alike ∙ number);
    }

    pub uneven_more : IsTrue (b || not (n == m)) ↔ IsUneven (ds ++ d ∷ []) type
    uneven_more = (
      λ h. elim (or_cases b (not (n == m)) h) [ inl is ↦ uneven_kept (told.0 is) | inr other ↦ apart (eqb-false n m (not-true (n == m) other)) ],
      λ u. elim (cases_Bool b) [
        | inl is ↦ or_left b (not (n == m)) is
        | inr e ↦ elim (cases_eq n m) [
          | inl same ↦ absurd (u.apart (even e same u.i u.b u.one ∙ sym (even e same u.j u.c u.other)))
          | inr differ ↦ or_right b (not (n == m)) (not_from_false (n == m) (ne_eqb n m differ))
        ]
      ],
    )
