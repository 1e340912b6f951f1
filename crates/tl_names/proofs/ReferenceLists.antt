-- For each declaration the constructors that it refers to.
use Rattle.std.proofs.Common.{◌≡◌, inl, inr, ℕ, ◌+◌, ◌<◌, List, [], ◌∷◌, ◌++◌, length, slice_get, Some, sym, ◌∙◌, subst, arith}
use Rattle.std.proofs.lemmas.List.{length_push}
use Rattle.std.proofs.lemmas.Option.{same_Some, slice_get_cases, slice_get_within}
use Rattle.tl_program.specs.Program.{DeclText}
use Rattle.tl_graph.specs.Paths.{Edge}
use Rattle.tl_names.specs.Writing.{At}
use Rattle.tl_names.specs.BareReferences.{PointsTo}
use Rattle.tl_names.specs.inner.BareSteps.{Refers, AreReferences}
use Rattle.tl_names.proofs.Indexes.{get_cases}

-- the edges are those of the first declarations
pub record AreFirst (ds : List DeclText) (n : ℕ) (edges : List (List ℕ)) : Type 0 where
  pub count : length edges ≡ n
  pub each : (k : ℕ) (d : DeclText) (js : List ℕ) → At ds k d → slice_get edges k ≡ Some js → Refers ds d js

item_within : {X : Type 0} (xs : List X) (k : ℕ) → k < length xs → (x : X) × (slice_get xs k ≡ Some x)
item_within xs k within = elim (slice_get_cases xs k).1 [ inl has ↦ (has.0, has.2) | inr past ↦ absurd (omega (arith, past.0, within)) ]

module _ (ds : List DeclText) where
  pub first_more : (n : ℕ) (edges : List (List ℕ)) (d : DeclText) (js : List ℕ) → At ds n d → AreFirst ds n edges → Refers ds d js → AreFirst ds (n + 1) (edges ++ js ∷ [])
  first_more n edges d js at first refers = record {
    count = omega (arith, length_push edges js, first.count);
    each = λ k c is here there. elim (get_cases edges js k is there) [
      | inl before ↦ first.each k c is here before
      | inr last ↦
          let index : n ≡ k = sym first.count ∙ sym last.0 in
          let same : d ≡ c = same_Some d c (sym at ∙ subst (λ i. At ds i c) (sym index) here) in
          subst (λ (x : DeclText). Refers ds x is) same (subst (Refers ds d) last.1 refers)
    ];
  }

  pub first_all : (n : ℕ) (edges : List (List ℕ)) → length ds ≡ n → AreFirst ds n edges → AreReferences ds edges
  first_all n edges all first = record { count = first.count ∙ sym all; same = λ k j. (to k j, from k j) }
    where
      to : (k j : ℕ) → PointsTo ds k j → Edge edges k j
      to k j p =
          let within = slice_get_within ds k p.d p.here in
          let has = item_within edges k (omega (arith, within, all, first.count)) in
          (has.0, has.1, (first.each k p.d has.0 p.here has.1 j).1 (p.own, (p.t, p.there, p.bare)))

      from : (k j : ℕ) → Edge edges k j → PointsTo ds k j
      from k j edge =
          let within = slice_get_within edges k edge.0 edge.1 in
          let has = item_within ds k (omega (arith, within, all, first.count)) in
          let refers = (first.each k has.0 edge.0 has.1 edge.1 j).0 edge.2 in
          record { d = has.0; t = refers.1.0; here = has.1; own = refers.0; there = refers.1.1; bare = refers.1.2 }
