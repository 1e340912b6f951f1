-- The fields of declarations as bare constructors, one after another.
use Rattle.std.proofs.Common.{◌≡◌, ◌↔◌, inl, inr, ℕ, ◌+◌, true, List, [], ◌∷◌, ◌++◌, length, slice_get, Option, Some, None, refl, ap, sym, subst, ◌∙◌, arith}
use Rattle.std.proofs.lemmas.List.{length_push}
use Rattle.std.proofs.lemmas.Option.{none-some, same_Some, slice_get_cases, slice_get_within}
use Rattle.tl_program.specs.Program.{FieldText, DeclText}
use Rattle.tl_names.specs.Writing.{At, is_constructor}
use Rattle.tl_names.specs.Parts.{FieldAt}
use Rattle.tl_names.specs.BareFields.{HoldsBare, HasBareFields}
use Rattle.tl_names.specs.inner.BareSteps.{BareFieldsAre, HeldIs, AreNeeds}
use Rattle.tl_names.proofs.Indexes.{get_cases}

-- ---- of one declaration

pub holds_no_bare : (j : ℕ) → ⊥ ↔ (None ≡ Some j)
holds_no_bare j = (λ h. absurd h, λ e. absurd (none-some j e))

-- its first fields are these bare constructors
pub record HoldsFirst (ds : List DeclText) (d : DeclText) (n : ℕ) (js : List ℕ) : Type 0 where
  pub own : is_constructor d ≡ true
  pub count : length js ≡ n
  pub each : (i j : ℕ) (f : FieldText) → FieldAt d i f → slice_get js i ≡ Some j → HoldsBare ds d f.kind j

module _ (ds : List DeclText) (d : DeclText) where
  pub holds_none : is_constructor d ≡ true → HoldsFirst ds d 0 []
  holds_none own = record { own = own; count = refl; each = λ i j f at there. absurd (none-some j there) }

  module _ (n : ℕ) (f : FieldText) (at : FieldAt d n f) where
    pub holds_more : (js : List ℕ) (j : ℕ) → HoldsFirst ds d n js → HoldsBare ds d f.kind j → HoldsFirst ds d (n + 1) (js ++ j ∷ [])
    holds_more js j before held = record {
      own = before.own;
      count = omega (arith, length_push js j, before.count);
      each =
          λ i k g here there. elim (get_cases js j i k there) [
            | inl old ↦ before.each i k g here old
            | inr last ↦
                let same : f ≡ g = same_Some f g (sym at ∙ ap (slice_get d.fields) (sym (last.0 ∙ before.count)) ∙ here) in
                subst (λ (x : FieldText). HoldsBare ds d x.kind k) same (subst (HoldsBare ds d f.kind) last.1 held)
          ];
    }

    -- a field that is no bare constructor
    pub no_fields : HeldIs ds d f.kind None → (js : List ℕ) → HasBareFields ds d js → ⊥
    no_fields none js has =
        let within = slice_get_within d.fields n f at in
        elim (slice_get_cases js n).1 [
          | inl (j, below, there, is) ↦ none-some j ((none j).0 (has.each n j f at there))
          | inr (past, empty) ↦ absurd (omega (arith, within, past, has.count))
        ]

  pub holds_all : (n : ℕ) (js : List ℕ) → HoldsFirst ds d n js → n ≡ length d.fields → HasBareFields ds d js
  holds_all n js has all = record { own = has.own; count = has.count ∙ all; each = has.each }

-- ---- of the declarations

-- the lists are those of the first declarations
pub record NeedsFirst (ds : List DeclText) (n : ℕ) (needs : List (Option (List ℕ))) : Type 0 where
  pub count : length needs ≡ n
  pub each : (k : ℕ) (d : DeclText) (o : Option (List ℕ)) → At ds k d → slice_get needs k ≡ Some o → BareFieldsAre ds d o

module _ (ds : List DeclText) where
  pub needs_none : NeedsFirst ds 0 []
  needs_none = record { count = refl; each = λ k d o at there. absurd (none-some o there) }

  pub needs_more : (n : ℕ) (d : DeclText) → At ds n d → (needs : List (Option (List ℕ))) (o : Option (List ℕ)) → NeedsFirst ds n needs → BareFieldsAre ds d o → NeedsFirst ds (n + 1) (needs ++ o ∷ [])
  needs_more n d at needs o before are = record {
    count = omega (arith, length_push needs o, before.count);
    each =
        λ k c p here there. elim (get_cases needs o k p there) [
          | inl old ↦ before.each k c p here old
          | inr last ↦
              let same : d ≡ c = same_Some d c (sym at ∙ ap (slice_get ds) (sym (last.0 ∙ before.count)) ∙ here) in
              subst (λ (x : DeclText). BareFieldsAre ds x p) same (subst (BareFieldsAre ds d) last.1 are)
        ];
  }

  pub needs_all : (n : ℕ) (needs : List (Option (List ℕ))) → NeedsFirst ds n needs → n ≡ length ds → AreNeeds ds needs
  needs_all n needs has all = record { count = has.count ∙ all; each = has.each }
